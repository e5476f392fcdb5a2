use Rattle.std.proofs.Common.{arith, sym, ◌∙◌, ap, length, ◌<◌}
use Rattle.std.specs.Prelude.{position, is_none, is_some, count_by}
use Rattle.file_table.proofs.Places.{place_is_there}
use Rattle.file_table.proofs.table.Files.open.Goals as goal

pub unreachable-requires : goal.unreachable-requires
unreachable-requires c =
    let room : count_by is_some c.self.inside.places.items < length c.self.inside.places.items = omega (arith, c.self.invariant.places, ap (count_by is_some) c.self.view_is, c.requires) in
    place_is_there c.self.inside.places.items room (ap (position is_none) (sym c.as_slice.ensures.value) ∙ sym c.free_place.ensures.value ∙ c.in_default.is)
