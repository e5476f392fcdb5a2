-- The entries of .debug_frame (DWARF 5, section 6.4.1).
use Rattle.std.specs.Prelude.{ℕ, ◌+◌, ◌-◌, ◌==◌, Bool, not, ◌&&◌, ◌||◌, nat_lt, nat_le, if◌then◌else◌, List, length, take, Result, Ok, Err}
use Rattle.dwarf.specs.declared.fault.Fault.{Fault}
use Rattle.dwarf.specs.declared.fault.Fault.TheVariants.{Length, Version, Common, Large}
use Rattle.dwarf.specs.declared.frame_common.Common as entries
use Rattle.dwarf.specs.declared.frame_entries.FrameUnit.{FrameUnit}
use Rattle.dwarf.specs.Numbers.{◌>>=◌, fixed, offset, offset_bytes, unsigned, signed}
use Rattle.dwarf.specs.Items.{items}
use Rattle.dwarf.specs.Units.{unit_length}

-- What is common to several functions (CIE).

-- an entry of what is common has this number, all of whose bits are set
abbrev pub mark : Bool → ℕ
mark is_wide = if is_wide then 0xFFFFFFFFFFFFFFFF else 0xFFFFFFFF

-- the longest entry that is read
abbrev pub LONGEST : ℕ
LONGEST = 4096

-- version 4 has the sizes of an address, 8, and of a segment selector, 0
unfoldable pub past_sizes : List ℕ → ℕ → ℕ → ℕ → Result ℕ Fault
past_sizes bytes version entry at =
    if (version == 1) || (version == 3) then Ok at
    else (if not (version == 4) then Err (Version entry)
    else (fixed 1 bytes at >>= λ address. fixed 1 bytes (at + 1) >>= λ segment.
    if not (address == 8) || not (segment == 0) then Err (Common entry) else Ok (at + 2)))

unfoldable pub return_register : List ℕ → ℕ → ℕ → Result (ℕ × ℕ) Fault
return_register bytes version at = if version == 1 then (fixed 1 bytes at >>= λ r. Ok (r, at + 1)) else unsigned bytes at

-- version, augmentation (none is known), sizes, code_alignment_factor, data_alignment_factor, return_address_register (ra), and
-- instructions up to the end
unfoldable pub common_of : List ℕ → ℕ → ℕ → Result entries.Common Fault
common_of bytes entry at = fixed 1 bytes at >>= λ version. fixed 1 bytes (at + 1) >>= λ augmentation.
    if not (augmentation == 0) then Err (Common entry)
    else (past_sizes bytes version entry (at + 2) >>= λ sized. unsigned bytes sized >>= λ code. signed bytes code.1 >>= λ units.
    return_register bytes version units.1 >>= λ register.
    if not (register.0 == 1) then Err (Common entry)
    else Ok (record { code_factor = code.0; data_factor = units.0; from = register.1; end = length bytes }))

-- the entry of what is common at a place of a section
unfoldable pub common_at : List ℕ → ℕ → Result entries.Common Fault
common_at section entry = unit_length section entry >>= λ u.
    if nat_lt (length section - u.from) u.length then Err (Length entry)
    else (if nat_lt LONGEST u.length then Err (Large entry)
    else (let bytes = take (u.from + u.length) section in
    offset u.is_wide bytes u.from >>= λ id.
    if not (id == mark u.is_wide) then Err (Common entry) else common_of bytes entry (u.from + offset_bytes u.is_wide)))

-- All entries.

-- an entry: its length, and the mark of what is common, or else the place of what is common to this function and others
unfoldable pub frame_unit : List ℕ → ℕ → Result FrameUnit Fault
frame_unit section at = unit_length section at >>= λ u.
    if nat_lt (length section - u.from) u.length then Err (Length at)
    else (offset u.is_wide (take (u.from + u.length) section) u.from >>= λ id.
    Ok (record { at = at; is_common = id == mark u.is_wide; common = id; body = u.from + offset_bytes u.is_wide; end = u.from + u.length }))

abbrev pub unit_end : FrameUnit → ℕ
unit_end u = u.end

-- all entries of a section: there are no more of them than bytes
abbrev pub frame_units : List ℕ → Result (List FrameUnit) Fault
frame_units section = items (nat_le (length section)) (frame_unit section) unit_end (length section) 0 >>= λ found. Ok found.0
