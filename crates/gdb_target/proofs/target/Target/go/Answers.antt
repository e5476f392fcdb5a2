use Rattle.std.proofs.Common.{◌∙◌, Option, ap, arith, refl, subst, sym}
use Rattle.gdb_target.specs.Choices.{Choices}
use Rattle.gdb_target.specs.Forth.{GoesBy, goes_on}
use Rattle.gdb_target.specs.Touches.{watched_addresses}
use Rattle.gdb_target.specs.declared.target.Pause.{Pause}
use Rattle.gdb_target.proofs.Ways.{all-passed, goes-further, passed-join}
use Rattle.gdb_target.proofs.target.Target.go.Goals as goal

pub send_next-requires-clause-watched : goal.send_next-requires-clause-watched
send_next-requires-clause-watched c = c.as_slice.ensures.value ∙ c.in-Ok.ensures ∙ ap (λ (x : Choices). watched_addresses x.points) (sym c.events.invariant.choices)

pub events-preserved : goal.events-preserved
events-preserved c =
    let way = c.args.going.now.way in
    let (n, so_far) = c.events.invariant.passed in
    let (m, more) = all-passed way c.events.self c.send_next.new.self
    (subst (λ (p : Option Pause). GoesBy way c.events.self p c.send_next.new.self) c.in_default-pause.is c.in_ok-pause.ensures.goes) in
    record {
      within = omega (arith, c.in_ok-pause.ensures.within);
      passed = passed-join way n m c.args.self.now c.events.self c.send_next.new.self so_far more;
      far = omega (arith, c.events.invariant.far, c.in_ok-pause.ensures.more (ap goes_on c.in_default-pause.is));
      same = c.in_ok-pause.ensures.same ∙ c.events.invariant.same;
      choices = c.in_ok-pause.ensures.choices ∙ c.events.invariant.choices;
    }

pub returns-in-events-clause-goes : goal.returns-in-events-clause-goes
returns-in-events-clause-goes c =
    let way = c.args.going.now.way in
    let (n, so_far) = c.events.invariant.passed in
    subst (λ (p : Option Pause). GoesBy way c.args.self.now p c.send_next.new.self) c.in-Some.is
    (goes-further way n c.args.self.now c.events.self c.send_next.new.self c.in_ok-pause.pause so_far c.in_ok-pause.ensures.goes)

pub returns-clause-goes : goal.returns-clause-goes
returns-clause-goes c =
    let (n, so_far) = c.events.invariant.passed in
    record { stretches = n; last = c.events.self; passed = so_far; ends = refl }

pub returns-in-events-clause-shown : goal.returns-in-events-clause-shown
returns-in-events-clause-shown c = λ shown. omega (arith, c.events.invariant.far, c.in_ok-pause.ensures.more (ap goes_on c.in-Some.is ∙ shown))
