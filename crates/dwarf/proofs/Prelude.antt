-- The words that this crate's proofs say: each is handed on from where it is defined.
pub use Rattle.std.proofs.Common.{[], ℕ, ◌*◌, ◌++◌, ◌+◌, ◌-◌, ◌/◌, ◌<◌, ◌^◌, ◌∙◌, ◌∷◌, ◌≡◌, ◌≤◌, add-one, ap, append_assoc, arith, Bool, drop, drop-cons, eqb, Err, false, get_or, leb, length, List}
pub use Rattle.std.proofs.Common.{ltb, None, Ok, Option, refl, Result, Some, suc, sym, take, true, zero}
pub use Rattle.std.proofs.lemmas.Bool.{le-leb, le-ltb, lt-leb}
pub use Rattle.std.proofs.lemmas.Result.{err_from_is_err_and}
pub use Rattle.std.specs.Prelude.{negsuc, option_to_list, pos, replicate}
pub use Rattle.dwarf.specs.Items.{in_front, through}
unfoldable pub use Rattle.dwarf.specs.Items.{items}
pub use Rattle.dwarf.specs.Lookup.{addresses, addresses_from, row_at, row_from}
pub use Rattle.dwarf.specs.Made.{with_front}
pub use Rattle.dwarf.specs.Numbers.{◌>>=◌, below_64, fixed, group, groups, past_number, skipped}
unfoldable pub use Rattle.dwarf.specs.Numbers.{leb_bytes, offset, signed, times, unsigned}
pub use Rattle.dwarf.specs.Registers.{advanced, done, first, makes_row, moved, settled}
unfoldable pub use Rattle.dwarf.specs.Registers.{step}
pub use Rattle.dwarf.specs.Rows.{program, rows}
unfoldable pub use Rattle.dwarf.specs.Rows.{rows_from}
pub use Rattle.dwarf.specs.Units.{units}
unfoldable pub use Rattle.dwarf.specs.Units.{unit_at, unit_length, units_from}
pub use Rattle.dwarf.specs.declared.fault.Fault.{Fault}
pub use Rattle.dwarf.specs.declared.line_header.LineHeader.{LineHeader}
pub use Rattle.dwarf.specs.declared.row.Row.{Row}
pub use Rattle.dwarf.specs.declared.unit.Unit.{Unit}
