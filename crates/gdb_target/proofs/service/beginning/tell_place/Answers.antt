use Rattle.std.proofs.Common.{List, ℕ, OnOk, subst}
use Rattle.std.specs.Io.KnownBytes.{Appends}
use Rattle.gdb_target.specs.Beginning.{note_of}
use Rattle.gdb_target.proofs.service.beginning.tell_place.Goals as goal

pub returns : goal.returns
returns g c =
    subst (λ (ends : List ℕ). OnOk c.writeln.result (Appends (g.E.Write.contents c.args.errors.now) (g.E.Write.contents c.writeln.new.self) (note_of c.args.path.now c.args.at c.args.count ends)))
    c.end_note-ends.ensures c.writeln.ensures.bytes
