use Rattle.std.proofs.Common.{◌∙◌, [], ap, arith, flat_map}
use Rattle.std.proofs.lemmas.List.{take_all}
use Rattle.gdb_packets.proofs.Pieces.{one_piece_more}
use Rattle.gdb_target.specs.Touches.{addresses_of}
use Rattle.gdb_target.specs.declared.points.Watched.{Watched}
use Rattle.gdb_target.proofs.fast.rows.watched_bytes.Goals as goal

pub loop-watched-preserved : goal.loop-watched-preserved
loop-watched-preserved c =
    let none : Watched = record { address = 0; length = 0 } in
    one_piece_more addresses_of [] c.loop-watched.addresses.items c.push_addresses.new.addresses.items c.watched-all.result.now c.loop-watched.watched-index none
    (omega arith) c.loop-watched.invariant c.in_ok-push_addresses.ensures

pub returns : goal.returns
returns c =
    c.loop-watched.invariant ∙ ap (flat_map addresses_of) (take_all c.loop-watched.watched-index c.watched-all.result.now (omega arith) ∙ c.watched-all.ensures)
