use Rattle.std.proofs.Common.{◌≡◌, ◌++◌, List, IfErr, OnOk, subst, sym}
use Rattle.kernel_spec.specs.runs.Run.{Event}
use Rattle.recordings.specs.Recording.{IsUnfit}
use Rattle.recorded_runs.proofs.recording.push.Goals as goal

pub returns-clause-more : goal.returns-clause-more
returns-clause-more c =
    subst (λ (es : List Event). OnOk c.push.result (c.push.new.self ≡ c.args.recording.now ++ es)) (sym c.parts_of-event.ensures) c.push.ensures.more

pub returns-clause-refused : goal.returns-clause-refused
returns-clause-refused c =
    subst (λ (es : List Event). IfErr c.push.result (λ e. IsUnfit e (c.args.recording.now ++ es))) (sym c.parts_of-event.ensures) c.push.ensures.refused
