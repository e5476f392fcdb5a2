use Rattle.std.proofs.Common.{◌≡◌, ◌+◌, ◌<◌, ◌≤◌, List, length, subst, sym}
use Rattle.kernel_spec.specs.runs.Run.{Event}
use Rattle.xv_machine.specs.Events.{event_of}
use Rattle.recordings.specs.Recording.{event_among}
use Rattle.gdb_target.proofs.rounds.next_in.Goals as goal

pub next_among-requires : goal.next_among-requires
next_among-requires c = subst (λ (es : List Event). c.args.within < length es) (sym c.round_parts-parts.ensures) c.requires

pub returns-clause-equal : goal.returns-clause-equal
returns-clause-equal c = λ k h.
    subst (λ (es : List Event). event_among es (c.args.within + k) ≡ event_of c.next_among.result.event) c.round_parts-parts.ensures (c.next_among.ensures.equal k h)

pub returns-clause-inside : goal.returns-clause-inside
returns-clause-inside c = subst (λ (es : List Event). c.args.within + c.next_among.result.count ≤ length es) c.round_parts-parts.ensures c.next_among.ensures.inside
