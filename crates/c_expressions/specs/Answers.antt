-- What is told of what a line asks in a call: of the file that has its tables, of where it stands, and of what is seen of it.
use Rattle.std.specs.Prelude.{◌≡◌, ◌⊎◌, ℕ, Bool, true, false, List, Option, None, Some, IsSome}
use Rattle.debug_info.specs.declared.spots.Spot.{Spot}
use Rattle.debug_info.specs.declared.types.Kind.{Kind}
use Rattle.c_expressions.specs.Telling.{IsLine, IsTextOf}
use Rattle.c_expressions.specs.declared.asked.Asked.{Asked}
use Rattle.c_expressions.specs.declared.asked.Asked.TheVariants.{Value, Hexadecimal, Locals, Arguments, «Type» as OfType, Layout}
use Rattle.c_expressions.specs.declared.rows.Rows.{Rows}

-- the rows are those that the tables of a file tell of a place in its program
pub record AreRowsOf (file : List ℕ) (address : ℕ) (rows : Rows) : Type 0 where
  pub file_is : rows.file.now ≡ file
  pub address_is : rows.address ≡ address

-- nothing is said of the text of a value, of that of a type, nor of which types are numbers of how many bytes
abbrev pub AnyValue : Kind → Spot → List ℕ → Type 0
AnyValue kind spot text = Unit {0}

abbrev pub AnyPointer : Kind → List ℕ → Type 0
AnyPointer kind text = Unit {0}

abbrev pub AnySize : Kind → Option ℕ → Type 0
AnySize kind size = Unit {0}

-- the line of a value: its expression is looked up by these rows, and its bytes and registers are those that are seen
abbrev pub IsValueLine : (file : List ℕ) → (address : ℕ) → (registers memory : ℕ → Option ℕ) → (is_hexadecimal : Bool) → (text : List ℕ) → (line : Option (List ℕ)) → Type 0
IsValueLine file address registers memory is_hexadecimal text line =
    IsLine (AreRowsOf file address) (IsTextOf AnyValue AnyPointer AnySize memory is_hexadecimal) registers memory text line

-- what tables that were read tell; of other things than values nothing is said
abbrev pub IsToldBy : (file : List ℕ) → (address : ℕ) → (registers memory : ℕ → Option ℕ) → Asked → (line : Option (List ℕ)) → Type 0
IsToldBy file address registers memory (Value text) line = IsValueLine file address registers memory false text.now line
IsToldBy file address registers memory (Hexadecimal text) line = IsValueLine file address registers memory true text.now line
IsToldBy file address registers memory Locals line = Unit {0}
IsToldBy file address registers memory Arguments line = Unit {0}
IsToldBy file address registers memory (OfType text) line = Unit {0}
IsToldBy file address registers memory (Layout text) line = Unit {0}

-- the same, or nothing, since no tables were read
abbrev pub MayBeTold : (file : List ℕ) → (address : ℕ) → (registers memory : ℕ → Option ℕ) → Asked → (line : Option (List ℕ)) → Type 0
MayBeTold file address registers memory asked line = (line ≡ None) ⊎ IsToldBy file address registers memory asked line

-- what is told if tables tell nothing: nothing of a value, and of all else that it isn't known
abbrev pub IsOfNothing : Asked → (line : Option (List ℕ)) → Type 0
IsOfNothing (Value text) line = line ≡ None
IsOfNothing (Hexadecimal text) line = line ≡ None
IsOfNothing Locals line = IsSome line
IsOfNothing Arguments line = IsSome line
IsOfNothing (OfType text) line = IsSome line
IsOfNothing (Layout text) line = IsSome line

-- what is answered: of a value its line, or nothing; of all else something
abbrev pub IsAnswer : (file : List ℕ) → (address : ℕ) → (registers memory : ℕ → Option ℕ) → Asked → (line : Option (List ℕ)) → Type 0
IsAnswer file address registers memory (Value text) line = MayBeTold file address registers memory (Value text) line
IsAnswer file address registers memory (Hexadecimal text) line = MayBeTold file address registers memory (Hexadecimal text) line
IsAnswer file address registers memory Locals line = IsSome line
IsAnswer file address registers memory Arguments line = IsSome line
IsAnswer file address registers memory (OfType text) line = IsSome line
IsAnswer file address registers memory (Layout text) line = IsSome line
