use Rattle.std.proofs.Common.{◌≡◌, ◌∙◌, ◌+◌, inl, ap, length, subst, sym, Option}
use Rattle.xv_machine.specs.Events.{outcome_of}
use Rattle.gdb_target.specs.Came.{Comes}
use Rattle.gdb_target.specs.Forth.{Goes, Stretch}
use Rattle.gdb_target.specs.declared.played.Played.{Played}
use Rattle.gdb_target.specs.declared.target.Pause.{Pause}
use Rattle.gdb_target.proofs.Rows.{untouched-by-other}
use Rattle.gdb_target.proofs.Ways.{shown-goes}
use Rattle.gdb_target.proofs.target.Target.send_other.Goals as goal

pub returns-clause-goes : goal.returns-clause-goes
returns-clause-goes c =
    let way = c.args.going.now.way in
    let from = c.args.self.now in
    let to = c.note_once.new.self in
    let o = outcome_of c.in_ok-outcome.outcome in
    let came : Comes from.run to.run o = subst (λ (r : Played). Comes from.run r o) (sym c.note_once.ensures.run) c.in_ok-outcome.ensures.comes in
    let one : length to.run.session.events ≡ length from.run.session.events + 1 = ap (λ (r : Played). length r.session.events) c.note_once.ensures.run ∙ c.in_ok-outcome.ensures.one in
    let stretch : Stretch way.until from to o = record { came = came; single = inl one } in
    let spared = untouched-by-other way.let_run from o c.requires in
    subst (λ (q : Option Pause). Goes way from q to) (sym c.or_shows.ensures)
    (shown-goes way from to o c.stands-pause.result c.in_ok-shows.shows stretch spared c.stands-pause.ensures)
