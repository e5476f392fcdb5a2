use Rattle.std.proofs.Common.{◌≡◌, ◌++◌, map, take, drop}
use Rattle.std.specs.Prelude.{option_map}
use Rattle.proc_table.specs.Processes.{given}
use Rattle.proc_table.proofs.table.give_places.Given as goal

abbrev pub invariant-loop-slot : goal.invariant-loop-slot
invariant-loop-slot l = l.places ≡ map (option_map (given l.from l.to)) (take l.slot l.initial.places) ++ drop l.slot l.initial.places
