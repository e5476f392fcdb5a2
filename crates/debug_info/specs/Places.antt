-- Where a variable is, by what its entry tells (DWARF 5, sections 2.6 and 4.1).
use Rattle.std.specs.Prelude.{ℕ, ◌-◌, Bool, ◌&&◌, nat_le, if◌then◌else◌, List, length, take, drop, Option, Some, None, option_map}
use Rattle.debug_info.specs.Expressions.{value_or_unknown}
use Rattle.debug_info.specs.Numbers.{number_in}
use Rattle.debug_info.specs.declared.lists.Listed.{Listed}
use Rattle.debug_info.specs.declared.lists.Listed.TheVariants as lists
use Rattle.debug_info.specs.declared.places.Place.{Place}
use Rattle.debug_info.specs.declared.places.Place.TheVariants.{Memory, Register, Value, OptimizedOut, Unknown}
use Rattle.debug_info.specs.declared.places.Way.{Way}
use Rattle.debug_info.specs.declared.places.Way.TheVariants.{Nowhere, Expression, List as ByList, NotRead}
use Rattle.debug_info.specs.declared.spots.Spot.{Spot}
use Rattle.debug_info.specs.declared.spots.Spot.TheVariants as spots
use Rattle.debug_info.specs.declared.value.Value.TheVariants as values
use Rattle.debug_info.specs.declared.value.Value as attributes

-- In which way an attribute tells of a place. Bytes are an expression; a place in a section of lists, or a number of one, is a list. That the entry doesn't have the attribute says 'nowhere', if its attributes are read at all. Nothing else is read
abbrev pub way_of : (is_told : Bool) → attributes.Value → Way
way_of is_told values.Absent = if is_told then Nowhere else NotRead
way_of is_told (values.Number n) = NotRead
way_of is_told (values.Address a) = NotRead
way_of is_told (values.AddressNumber n) = NotRead
way_of is_told (values.Name name) = NotRead
way_of is_told (values.Entry place) = NotRead
way_of is_told (values.Block span) = Expression span
way_of is_told (values.Place place) = ByList
way_of is_told (values.ListNumber n) = ByList
way_of is_told values.Other = NotRead

-- the bytes of a section between two places, if they are there
abbrev pub between : List ℕ → (from to : ℕ) → Option (List ℕ)
between section from to = if nat_le from to && nat_le to (length section) then Some (take (to - from) (drop from section)) else None

-- a constant in these bytes, if they are there: a number of 8 bytes at most, or one that is not read
abbrev pub value_in : Option (List ℕ) → Place
value_in (Some bytes) = value_or_unknown (number_in bytes)
value_in None = Unknown

abbrev pub constant_in : List ℕ → (from to : ℕ) → Place
constant_in section from to = value_in (between section from to)

-- A constant is a number, or the bytes of one. Another one isn't read. An entry that doesn't have the attribute tells no constant
abbrev pub constant_of : List ℕ → attributes.Value → Option Place
constant_of section values.Absent = None
constant_of section (values.Number n) = Some (Value n)
constant_of section (values.Address a) = Some Unknown
constant_of section (values.AddressNumber n) = Some Unknown
constant_of section (values.Name name) = Some Unknown
constant_of section (values.Entry place) = Some Unknown
constant_of section (values.Block span) = Some (constant_in section span.from span.to)
constant_of section (values.Place place) = Some Unknown
constant_of section (values.ListNumber n) = Some Unknown
constant_of section values.Other = Some Unknown

-- A list that was read to its end without an item for the address says 'nowhere'
abbrev pub listed_place : Listed → Place
listed_place lists.Nowhere = OptimizedOut
listed_place (lists.By span) = Unknown
listed_place lists.NotRead = Unknown

-- where the bytes of a value begin: in memory, in what a register holds, or in the value itself
abbrev pub spot_of : (registers : ℕ → Option ℕ) → Place → Option Spot
spot_of registers (Memory address) = Some (spots.Memory address)
spot_of registers (Register number) = option_map (λ value. spots.Number value 0) (registers number)
spot_of registers (Value number) = Some (spots.Number number 0)
spot_of registers OptimizedOut = None
spot_of registers Unknown = None
