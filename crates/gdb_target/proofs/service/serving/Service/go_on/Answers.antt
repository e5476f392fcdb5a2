use Rattle.std.proofs.Common.{◌∙◌, Option, None, ap, arith, length, refl, suc, subst, sym}
use Rattle.gdb_target.specs.Forth.{GoesBy}
use Rattle.gdb_target.specs.declared.target.Pause.{Pause}
use Rattle.gdb_target.specs.declared.target.Target.{Target}
use Rattle.gdb_target.proofs.Shows.{shows-is, shows-more, spent-is}
use Rattle.gdb_target.proofs.service.serving.Service.go_on.Goals as goal

pub returns-then-not-shows-clause-goes : goal.returns-then-not-shows-clause-goes
returns-then-not-shows-clause-goes g c =
    let so_far = c.pauses.invariant in
    record {
      often = so_far.0;
      last = c.pauses.self.target;
      shown = so_far.1;
      goes = c.in_ok-pause.ensures.goes;
      spent = spent-is c.in_ok-pause.pause _ c.go.new.self (sym c.shows.ensures ∙ c.if-not-shows.true) (λ none. omega (arith, c.requires, c.in_ok-pause.ensures.over none));
      alone = so_far.2;
    }

pub pauses-preserved : goal.pauses-preserved
pauses-preserved g c =
    let so_far = c.pauses.invariant in
    let goes = subst (λ (p : Option Pause). GoesBy c.args.going.now.way c.pauses.self.target p c.go.new.self)
    (shows-is c.in_ok-pause.pause (sym c.shows.ensures ∙ c.if-not-shows.false)) c.in_ok-pause.ensures.goes in (
      suc so_far.0,
      (c.pauses.self.target, c.go.new.self, so_far.1, goes, c.in_ok-show.ensures.told),
      shows-more _ _ _ c.go.new.self.shown.items so_far.2 c.in_ok-show.ensures.sent,
      c.in_ok-show.ensures.acks ∙ so_far.3,
      omega (
        arith,
        so_far.4,
        c.in_ok-pause.ensures.shown (sym c.shows.ensures ∙ c.if-not-shows.false),
        ap (λ (t : Target). length t.run.session.events) c.in_ok-show.ensures.told,
      ),
    )

pub returns-clause-goes : goal.returns-clause-goes
returns-clause-goes g c =
    let so_far = c.pauses.invariant in
    let nothing : GoesBy c.args.going.now.way c.pauses.self.target None c.pauses.self.target = record { stretches = 0; last = c.pauses.self.target; passed = refl; ends = refl } in
    record {
      often = so_far.0;
      last = c.pauses.self.target;
      shown = so_far.1;
      goes = nothing;
      spent = omega (arith, so_far.4);
      alone = so_far.2;
    }
