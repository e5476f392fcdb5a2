-- Where members stand in a structure (DWARF 5, section 5.7.6; version 3, section 5.6.6).
use Rattle.std.specs.Prelude.{ℕ, ◌+◌, ◌-◌, ◌*◌, ◌^◌, ◌%◌, Option, Some, None}
use Rattle.debug_info.specs.declared.value.Value as attributes
use Rattle.debug_info.specs.declared.value.Value.TheVariants.{Absent, Number, Address, AddressNumber, Name, Entry, Block, Place, ListNumber, Other}

-- A member whose entry doesn't tell it stands at its structure's first byte. A number is told in bytes; nothing else is read
abbrev pub bytes_before : attributes.Value → Option ℕ
bytes_before Absent = Some 0
bytes_before (Number place) = Some place
bytes_before (Address a) = None
bytes_before (AddressNumber n) = None
bytes_before (Name name) = None
bytes_before (Entry place) = None
bytes_before (Block span) = None
bytes_before (Place place) = None
bytes_before (ListNumber n) = None
bytes_before Other = None

-- Version 3 counts from the highest bit of a number of so many bytes: the bits before the field are all bits up to the end of that number, without those that stand above the field and its own. The ones above may be negative: each sum wraps at 64 bits
abbrev pub wrapped : ℕ → ℕ
wrapped n = n % 2 ^ 64

abbrev pub bits_before : (bytes size below bits : ℕ) → ℕ
bits_before bytes size below bits = wrapped (wrapped (wrapped (bytes + size) * 8) + 2 ^ 64 - wrapped (below + bits))
