-- Which part of a value an expression selects (C17, sections 6.5.2.1, 6.5.2.3 and 6.5.3.2).
use Rattle.std.specs.Prelude.{ℕ, ◌*◌, ◌%◌, ◌^◌, ◌==◌, ◌&&◌, Bool, true, false, bytes_eq, if◌then◌else◌, List, [], ◌∷◌, Option, Some, None, Result, Ok, Err}
use Rattle.debug_info.specs.Spots.{after, number_at}
use Rattle.debug_info.specs.declared.layouts.MemberRow.{MemberRow}
use Rattle.debug_info.specs.declared.layouts.Shape.{Shape}
use Rattle.debug_info.specs.declared.layouts.Shape.TheVariants.{Pointer, Array, Record, Plain}
use Rattle.debug_info.specs.declared.layouts.TypeRow.{TypeRow}
use Rattle.debug_info.specs.declared.spots.Spot.{Spot}
use Rattle.debug_info.specs.declared.spots.Spot.TheVariants.{Memory, Number}
use Rattle.debug_info.specs.declared.types.Kind.{Kind}
use Rattle.c_expressions.specs.declared.expression.Step.{Step}
use Rattle.c_expressions.specs.declared.expression.Step.TheVariants.{Member, Index, Target, Address}
use Rattle.c_expressions.specs.declared.refusal.Refusal.{Refusal}
use Rattle.c_expressions.specs.declared.refusal.Refusal.TheVariants.{NoPointer, NoRecord, NoMember, NoBytes, NotThere, NoAddress, OfAddress}
use Rattle.c_expressions.specs.declared.selection.Subject.{Subject}

-- ---- what the tables tell of a type

abbrev pub is_same : Kind → Kind → Bool
is_same a b = (a.number == b.number) && (a.range == b.range)

-- what the values of a type are: as the first row of the type tells, and plain if none does
abbrev pub shape_in : Kind → List TypeRow → Shape
shape_in kind [] = Plain
shape_in kind (row ∷ rows) = if is_same row.kind kind then row.shape else shape_in kind rows

abbrev pub is_member : (owner : ℕ) → (name : List ℕ) → MemberRow → Bool
is_member owner name row = (row.owner == owner) && bytes_eq row.name.now name

-- the first member of an owner that has the name
abbrev pub member_in : (owner : ℕ) → (name : List ℕ) → List MemberRow → Option MemberRow
member_in owner name [] = None
member_in owner name (row ∷ rows) = if is_member owner name row then Some row else member_in owner name rows

-- ---- one step

-- the value of a type that begins at a place
abbrev pub value_at : Kind → Spot → Subject
value_at kind spot = record { kind = kind; spot = spot; is_address = false }

-- a pointer is a number of 8 bytes; it leads to the value of its type at this address, if its own bytes are there
abbrev pub pointer_at : (memory : ℕ → Option ℕ) → Spot → Option ℕ
pointer_at memory spot = number_at memory spot 8

abbrev pub led : Kind → Option ℕ → Result Subject Refusal
led to (Some address) = Ok (value_at to (Memory address))
led to None = Err NotThere

-- so many values of a size after a place; a number below zero is in two's complement, and addresses wrap at 64 bits
abbrev pub past : Spot → (size count : ℕ) → Spot
past spot size count = after ((size * count) % 2 ^ 64) spot

abbrev pub past_if : Kind → (size count : ℕ) → Result Subject Refusal → Result Subject Refusal
past_if to size count (Ok s) = Ok (value_at to (past s.spot size count))
past_if to size count (Err e) = Err e

-- `*v`: what a pointer leads to, or an array's first element
abbrev pub target : (memory : ℕ → Option ℕ) → Shape → Spot → Result Subject Refusal
target memory (Pointer to size) spot = led to (pointer_at memory spot)
target memory (Array of size) spot = Ok (value_at of spot)
target memory (Record owner) spot = Err NoPointer
target memory Plain spot = Err NoPointer

-- `v[n]`: the element of an array, or the value that stands so many after the one that a pointer leads to. No test of n is made, as in C
abbrev pub element : (memory : ℕ → Option ℕ) → Shape → Spot → (number : ℕ) → Result Subject Refusal
element memory (Pointer to size) spot number = past_if to size number (led to (pointer_at memory spot))
element memory (Array of size) spot number = Ok (value_at of (past spot size number))
element memory (Record owner) spot number = Err NoPointer
element memory Plain spot number = Err NoPointer

-- the member of a row, so many bytes after the first of its structure
abbrev pub member_by : Spot → Option MemberRow → Result Subject Refusal
member_by spot (Some row) = if row.is_placeless then Err NoBytes else Ok (value_at row.kind (after row.offset spot))
member_by spot None = Err NoMember

-- `v.name`
abbrev pub member : List MemberRow → Shape → Spot → (name : List ℕ) → Result Subject Refusal
member members (Record owner) spot name = member_by spot (member_in owner name members)
member members (Pointer to size) spot name = Err NoRecord
member members (Array of size) spot name = Err NoRecord
member members Plain spot name = Err NoRecord

-- `&v`: only what is in memory has an address
abbrev pub address_of : Subject → Spot → Result Subject Refusal
address_of s (Memory address) = Ok (record s { is_address = true })
address_of s (Number number from) = Err NoAddress

abbrev pub addressed : Subject → Result Subject Refusal
addressed s = address_of s s.spot

-- of an address only `*` is taken: the value that it is of
abbrev pub from_address : Subject → Step → Result Subject Refusal
from_address s Target = Ok (value_at s.kind s.spot)
from_address s (Member name) = Err OfAddress
from_address s (Index number) = Err OfAddress
from_address s Address = Err OfAddress

abbrev pub from_value : List TypeRow → List MemberRow → (memory : ℕ → Option ℕ) → Subject → Step → Result Subject Refusal
from_value types members memory s (Member name) = member members (shape_in s.kind types) s.spot name.now
from_value types members memory s (Index number) = element memory (shape_in s.kind types) s.spot number
from_value types members memory s Target = target memory (shape_in s.kind types) s.spot
from_value types members memory s Address = addressed s

abbrev pub stepped : List TypeRow → List MemberRow → (memory : ℕ → Option ℕ) → Subject → Step → Result Subject Refusal
stepped types members memory s step = if s.is_address then from_address s step else from_value types members memory s step

-- ---- steps one after another

abbrev pub and_on : Result Subject Refusal → (more : Subject → Result Subject Refusal) → Result Subject Refusal
and_on (Ok s) more = more s
and_on (Err e) more = Err e

-- what the steps lead to; the first that leads nowhere says why
abbrev pub selected : List TypeRow → List MemberRow → (memory : ℕ → Option ℕ) → List Step → Subject → Result Subject Refusal
selected types members memory [] s = Ok s
selected types members memory (step ∷ steps) s = and_on (stepped types members memory s step) (λ next. selected types members memory steps next)
