use Rattle.std.proofs.Common.{◌≡◌, ◌∙◌, ap, arith, length}
use Rattle.std.specs.Option.{option_to_list}
use Rattle.kernel_spec.specs.runs.Rounds.{round}
use Rattle.xv_machine.specs.RoundParts.{events_of_parts}
use Rattle.gdb_target.proofs.Turning.{round-within}
use Rattle.gdb_target.proofs.rounds.round_len.Goals as goal

pub events_in-requires : goal.events_in-requires
events_in-requires c =
    let same : length (events_of_parts c.round_parts-parts.result) ≡ length (round c.args.quantum (option_to_list c.args.key)) = ap length c.round_parts-parts.ensures in
    let few = round-within c.args.quantum (option_to_list c.args.key) in
    omega (arith, same, few)

pub returns : goal.returns
returns c = c.events_in.ensures ∙ ap length c.round_parts-parts.ensures
