-- The units of a section (DWARF 5, sections 7.4 and 7.5).
use Rattle.std.specs.Prelude.{ℕ, zero, suc, ◌+◌, ◌-◌, ◌==◌, ◌≡◌, Bool, true, false, nat_lt, nat_le, if◌then◌else◌, List, [], ◌∷◌, ◌++◌, length, take, Result, Ok, Err}
use Rattle.dwarf.specs.declared.fault.Fault.{Fault}
use Rattle.dwarf.specs.declared.fault.Fault.TheVariants.{Length}
use Rattle.dwarf.specs.declared.unit.Unit.{Unit}
use Rattle.dwarf.specs.declared.unit_list.UnitLength.{UnitLength}
use Rattle.dwarf.specs.Made.{with_front}
use Rattle.dwarf.specs.Numbers.{◌>>=◌, fixed}

-- the length FFFFFFFF says that 8 bytes with the length follow; from FFFFFFF0 on it isn't one
unfoldable pub unit_length : List ℕ → ℕ → Result UnitLength Fault
unit_length section at = fixed 4 section at >>= λ first.
    if first == 0xFFFFFFFF then (fixed 8 section (at + 4) >>= λ long. Ok (record { is_wide = true; length = long; from = at + 12 }))
    else (if nat_le 0xFFFFFFF0 first then Err (Length at) else Ok (record { is_wide = false; length = first; from = at + 4 }))

-- the unit at a place: its length, which counts the bytes after itself, and its version, within it
unfoldable pub unit_at : List ℕ → ℕ → Result Unit Fault
unit_at section at = unit_length section at >>= λ u.
    if nat_lt (length section - u.from) u.length then Err (Length at)
    else (fixed 2 (take (u.from + u.length) section) u.from >>= λ version.
    Ok (record { at = at; is_wide = u.is_wide; version = version; body = u.from + 2; end = u.from + u.length }))

-- at most n units, from a place on, up to the section's end
unfoldable pub units_from : ℕ → List ℕ → ℕ → Result (List Unit) Fault
units_from zero section at = Ok []
units_from (suc n) section at =
    if nat_le (length section) at then Ok []
    else (unit_at section at >>= λ u. with_front (u ∷ []) (units_from n section u.end))

-- all units of a section: there are no more of them than bytes
abbrev pub units : List ℕ → Result (List Unit) Fault
units section = units_from (length section) section 0
