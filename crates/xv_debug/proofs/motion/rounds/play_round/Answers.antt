use Rattle.std.proofs.Common.{Bool, List, IfErr, IfOk, subst}
use Rattle.kernel_spec.specs.runs.Run.{Event}
use Rattle.xv_debug.specs.motion.Rounds.{PlaysPart, PlaysTelling}
use Rattle.xv_debug.proofs.motion.rounds.play_round.Goals as goal

pub returns-clause-played : goal.returns-clause-played
returns-clause-played c =
    let played = c.play_parts in
    subst (λ (es : List Event). IfOk played.result (λ (faulted : Bool). PlaysTelling es faulted c.args.session.now played.new.session c.args.output.now played.new.output))
    c.round_parts-parts.ensures played.ensures.played

pub returns-clause-part : goal.returns-clause-part
returns-clause-part c =
    let played = c.play_parts in
    subst (λ (es : List Event). IfErr played.result (λ _. PlaysPart es c.args.session.now played.new.session c.args.output.now played.new.output)) c.round_parts-parts.ensures played.ensures.part
