use Rattle.exec_core.proofs.Steps.{Mapping}
use Rattle.exec_core.proofs.building.map_segments.Given as goal

abbrev pub invariant-loop-segment : goal.invariant-loop-segment
invariant-loop-segment l =
    (goal.iterator-loop-segment).can_next l.segment-iterator ×
    (goal.iterator-loop-segment).is_finite l.segment-iterator ×
    Mapping l.file l.fn.segments l.segment-iterator l.fn.pool l.fn.ram l.fn.space l.pool l.ram l.space
