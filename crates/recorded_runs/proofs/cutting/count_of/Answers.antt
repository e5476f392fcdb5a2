use Rattle.std.proofs.Common.{◌∙◌, ap, length, sym}
use Rattle.std.proofs.lemmas.List.{length-replicate}
use Rattle.xv_machine.specs.Events.{event_of}
use Rattle.recorded_runs.proofs.cutting.count_of.Goals as goal

pub returns : goal.returns
returns c = let p = c.parts_of.result in sym (ap length c.parts_of.ensures ∙ length-replicate p.1 (event_of p.0))
