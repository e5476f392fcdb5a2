-- What is told of an expression, in the style of GDB (Debugging with GDB, "Examining Data").
use Rattle.std.specs.Prelude.{◌≡◌, ℕ, Bool, true, false, List, [], ◌∷◌, ◌++◌, Option, Some, None, codes}
use Rattle.std.specs.Fmt.{digits}
use Rattle.std.specs.List.{concat}
use Rattle.debug_info.specs.Spots.{number_at}
use Rattle.debug_info.specs.Texts.{hexadecimal, told_placeless}
use Rattle.debug_info.specs.declared.spots.Spot.{Spot}
use Rattle.debug_info.specs.declared.spots.Spot.TheVariants.{Memory, Number}
use Rattle.debug_info.specs.declared.types.Kind.{Kind}
use Rattle.c_expressions.specs.Finding.{IsFoundIn}
use Rattle.c_expressions.specs.declared.finding.Found.{Found}
use Rattle.c_expressions.specs.declared.finding.Found.TheVariants.{Subject as About, Placeless, Refused}
use Rattle.c_expressions.specs.declared.rows.Rows.{Rows}
use Rattle.c_expressions.specs.declared.selection.Subject.{Subject}

-- ---- values. `IsValue` says of a type and a place which text the value has, `IsPointer` of a type which one that of pointers to it has, and `IsNumberSize` how many bytes a number of the type has

-- an address: its type between brackets, and the number; of what is in no memory the type alone
abbrev pub address_text : (kind : List ℕ) → Spot → List ℕ
address_text kind (Memory address) = concat (codes "(" ∷ kind ∷ codes ") 0x" ∷ digits 16 false address ∷ [])
address_text kind (Number number from) = codes "(" ++ kind ++ codes ")"

pub record IsAddressText (IsPointer : Kind → List ℕ → Type 0) (s : Subject) (text : List ℕ) : Type 0 where
  pub kind : List ℕ
  pub kind_is : IsPointer s.kind kind
  pub text_is : text ≡ address_text kind s.spot

-- one of two statements, by a truth
pub data By (truth : Bool) (IfTrue IfFalse : Type 0) : Type 0 where
  yes : truth ≡ true → IfTrue → By truth IfTrue IfFalse
  not_so : truth ≡ false → IfFalse → By truth IfTrue IfFalse

-- the text of an address, or of the value that begins at this very place
abbrev pub IsSubjectText : (IsValue : Kind → Spot → List ℕ → Type 0) → (IsPointer : Kind → List ℕ → Type 0) → Subject → (text : List ℕ) → Type 0
IsSubjectText IsValue IsPointer s text = By s.is_address (IsAddressText IsPointer s text) (IsValue s.kind s.spot text)

-- ---- numbers in hexadecimal digits

abbrev pub number_by : (memory : ℕ → Option ℕ) → Spot → (size : Option ℕ) → Option ℕ
number_by memory spot (Some size) = number_at memory spot size
number_by memory spot None = None

-- the number in so many bytes as its type has
pub record IsNumberOf (IsNumberSize : Kind → Option ℕ → Type 0) (memory : ℕ → Option ℕ) (s : Subject) (number : Option ℕ) : Type 0 where
  pub size : Option ℕ
  pub size_is : IsNumberSize s.kind size
  pub number_is : number ≡ number_by memory s.spot size

-- an address is told as one
abbrev pub IsNumber : (IsNumberSize : Kind → Option ℕ → Type 0) → (memory : ℕ → Option ℕ) → Subject → Option ℕ → Type 0
IsNumber IsNumberSize memory s number = By s.is_address (number ≡ None) (IsNumberOf IsNumberSize memory s number)

-- what is no number, or isn't there, is told as its value
abbrev pub IsTextBy : (IsValueText : List ℕ → Type 0) → Option ℕ → (text : List ℕ) → Type 0
IsTextBy IsValueText (Some number) text = text ≡ hexadecimal number
IsTextBy IsValueText None text = IsValueText text

pub record IsDigitsText (IsValueText : List ℕ → Type 0) (IsNumberSize : Kind → Option ℕ → Type 0) (memory : ℕ → Option ℕ) (s : Subject) (text : List ℕ) : Type 0 where
  pub number : Option ℕ
  pub number_is : IsNumber IsNumberSize memory s number
  pub text_is : IsTextBy IsValueText number text

-- as hexadecimal digits, or as its type says
abbrev pub IsTextOf : (IsValue : Kind → Spot → List ℕ → Type 0) → (IsPointer : Kind → List ℕ → Type 0) → (IsNumberSize : Kind → Option ℕ → Type 0) → (memory : ℕ → Option ℕ) → (is_hexadecimal : Bool) → Subject → (text : List ℕ) → Type 0
IsTextOf IsValue IsPointer IsNumberSize memory is_hexadecimal s text =
    By is_hexadecimal (IsDigitsText (IsSubjectText IsValue IsPointer s) IsNumberSize memory s text) (IsSubjectText IsValue IsPointer s text)

-- ---- lines

-- the text of an expression, ` = `, and what it shows
pub record IsShown (text : List ℕ) (IsText : List ℕ → Type 0) (line : Option (List ℕ)) : Type 0 where
  pub shown : List ℕ
  pub is : IsText shown
  pub line_is : line ≡ Some (concat (text ∷ codes " = " ∷ shown ∷ codes "\n" ∷ []))

-- the text of an expression that leads nowhere, and why
pub record IsRefusal (text : List ℕ) (line : Option (List ℕ)) : Type 0 where
  pub why : List ℕ
  pub line_is : line ≡ Some (concat (text ∷ codes ": " ∷ why ∷ codes "\n" ∷ []))

-- what is told of what an expression is about: nothing of nothing
abbrev pub IsLineOf : (text : List ℕ) → (IsText : Subject → List ℕ → Type 0) → Option Found → (line : Option (List ℕ)) → Type 0
IsLineOf text IsText None line = line ≡ None
IsLineOf text IsText (Some (About subject)) line = IsShown text (IsText subject) line
IsLineOf text IsText (Some (Placeless place)) line = IsShown text (λ shown. shown ≡ told_placeless place) line
IsLineOf text IsText (Some (Refused refusal)) line = IsRefusal text line

-- what is told of a text, by the rows of a call: what its expression is about, and the line of that
pub record IsLine (AreRows : Rows → Type 0) (IsText : Subject → List ℕ → Type 0) (registers memory : ℕ → Option ℕ) (text : List ℕ) (line : Option (List ℕ)) : Type 0 where
  pub rows : Rows
  pub are : AreRows rows
  pub found : Option Found
  pub is : IsFoundIn rows registers memory text found
  pub told : IsLineOf text IsText found line
