use Rattle.std.proofs.Common.{◌≡◌, ◌∙◌, ◌+◌, ◌≤◌, ℕ, List, IfOk, ap, arith, subst}
use Rattle.std.specs.Option.{option_to_list}
use Rattle.kernel_spec.specs.runs.Run.{Event}
use Rattle.xv_machine.specs.RoundParts.{events_of_parts}
use Rattle.grade_submissions.specs.Plays.{PlaysFirst, runs_among}
use Rattle.grade_submissions.proofs.Counting.{runs-round}
use Rattle.grade_submissions.proofs.playing.Played.play_round.Goals as goal

pub play_parts-requires : goal.play_parts-requires
play_parts-requires c =
    let few : runs_among (events_of_parts c.round_parts-parts.result) ≡ c.args.quantum = ap runs_among c.round_parts-parts.ensures ∙ runs-round c.args.quantum (option_to_list c.args.key) in
    omega (arith, few, c.requires)

pub returns-clause-plays : goal.returns-clause-plays
returns-clause-plays c =
    subst (λ (es : List Event). IfOk c.play_parts.result (λ _. PlaysFirst es c.args.self.now c.play_parts.new.self)) c.round_parts-parts.ensures c.play_parts.ensures.plays

pub returns-clause-runs : goal.returns-clause-runs
returns-clause-runs c =
    let few : runs_among (events_of_parts c.round_parts-parts.result) ≡ c.args.quantum = ap runs_among c.round_parts-parts.ensures ∙ runs-round c.args.quantum (option_to_list c.args.key) in
    subst (λ (n : ℕ). IfOk c.play_parts.result (λ _. c.play_parts.new.self.kept.runs ≤ c.args.self.now.kept.runs + n)) few c.play_parts.ensures.runs
