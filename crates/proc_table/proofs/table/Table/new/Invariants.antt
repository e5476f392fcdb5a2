use Rattle.std.proofs.Common.{◌≡◌, replicate, None}
use Rattle.file_table.specs.Named.{none_named}
use Rattle.proc_table.proofs.table.Table.new.Given as goal

abbrev pub invariant-loop-n : goal.invariant-loop-n
invariant-loop-n l = record {
  places : l.places.items ≡ replicate l.n None;
  descriptors : l.descriptors.items ≡ replicate l.n none_named;
}
