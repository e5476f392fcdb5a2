-- What a source asks for: the bytes of text and data and the entry, or its first refusal.
use Rattle.std.specs.Prelude.{ℕ, ◌+◌, Bool, false, if◌then◌else◌, List, [], ◌∷◌, ◌++◌, codes, length, Option, Some, None, unwrap_or, Result, Ok, Err}
use Rattle.std.specs.Option.{option_map, is_some}
use Rattle.std.specs.Str.{bytes_eq}
use Rattle.std.specs.Str.Lines.{lines}
use Rattle.uasm_core.specs.declared.error.AsmErrorKind.{AsmErrorKind}
use Rattle.uasm_core.specs.declared.error.AsmErrorKind.TheVariants.{OutOfRange, DuplicateLabel}
use Rattle.uasm_core.specs.declared.words.Section.{Section}
use Rattle.uasm_core.specs.declared.words.Section.TheVariants.{Text, Data}
use Rattle.uasm_core.specs.declared.place.Place.{Place}
use Rattle.uasm_core.specs.Places.{start, grown, address, is_past_limit}
use Rattle.uasm_core.specs.Line.{parts_of}
use Rattle.uasm_core.specs.Statement.{Statement, Switch, statement, size_of, Labels, spelled}

-- the place behind a statement
abbrev pub behind : Statement → Place → Place
behind (Switch to) p = record p { section = to }
behind s p = grown p.section (size_of s) p

-- A line that was read: its number, its label, and its statement with its place.
pub record Placed : Type 0 where
  pub line : ℕ
  pub label : Option (List ℕ)
  pub place : Place
  pub statement : Statement

-- a line's number and what is wrong there
abbrev pub Fault : Type 0
Fault = ℕ × AsmErrorKind

infixl 10 ◌>>=◌
abbrev pub ◌>>=◌ : {A B : Type 0} → Result A Fault → (A → Result B Fault) → Result B Fault
(Ok x) >>= f = f x
(Err e) >>= f = Err e

-- one step after another, up to the first refusal
abbrev pub one_by_one : {A S : Type 0} → (S → A → Result S Fault) → S → List A → Result S Fault
one_by_one step s [] = Ok s
one_by_one step s (a ∷ others) = step s a >>= λ next. one_by_one step next others

-- a refusal, with its line's number
abbrev pub on_line : {A : Type 0} → ℕ → Result A AsmErrorKind → Result A Fault
on_line n (Ok x) = Ok x
on_line n (Err k) = Err (n, k)

-- The first pass, by lines: the statements, each behind those before it.

-- a line's label is this name
abbrev pub is_label_of : Option (List ℕ) → List ℕ → Bool
is_label_of (Some m) l = bytes_eq m l
is_label_of None l = false

-- where the line with a label stands
abbrev pub label_place : List Placed → List ℕ → Option Place
label_place [] l = None
label_place (p ∷ ps) l = if is_label_of p.label l then Some p.place else label_place ps l

-- the line's label stands already
abbrev pub is_taken : Option (List ℕ) → (List ℕ → Option Place) → Bool
is_taken (Some l) labels = is_some (labels l)
is_taken None labels = false

-- line n at a place, where the labels of the lines before it stand at theirs
abbrev pub placed : ℕ → (List ℕ → Option Place) → Place → List ℕ → Result Placed Fault
placed n labels at line =
    let parts = parts_of line in
    if is_taken parts.label labels then Err (n, DuplicateLabel)
    else (on_line n (statement at.section parts) >>= λ s. if is_past_limit (behind s at) then Err (n, OutOfRange) else Ok (record { line = n; label = parts.label; place = at; statement = s }))

-- where the last line ends
abbrev pub end_of : List Placed → Place → Place
end_of [] at = at
end_of (p ∷ ps) at = end_of ps (behind p.statement p.place)

-- these lines, and one behind them
abbrev pub with_line : List Placed → List ℕ → Result (List Placed) Fault
with_line ps line = placed (length ps + 1) (label_place ps) (end_of ps start) line >>= λ p. Ok (ps ++ p ∷ [])

-- all lines
abbrev pub all_placed : List (List ℕ) → Result (List Placed) Fault
all_placed ls = one_by_one with_line [] ls

-- The second pass, by lines: the bytes, by the addresses of the labels.

-- the addresses of labels that stand at these places
abbrev pub addresses : ℕ → (List ℕ → Option Place) → Labels
addresses text_len places l = option_map (address text_len) (places l)

-- what the lines of both sections spell, in order
pub record SectionBytes : Type 0 where
  pub in_text : List ℕ
  pub in_data : List ℕ

-- bytes at the end of a section
abbrev pub put_end : Section → List ℕ → SectionBytes → SectionBytes
put_end Text bs r = record r { in_text = r.in_text ++ bs }
put_end Data bs r = record r { in_data = r.in_data ++ bs }

-- what was spelled goes to the end of a section
abbrev pub put_in : Section → SectionBytes → Result (List ℕ) AsmErrorKind → Result SectionBytes AsmErrorKind
put_in section r (Ok bs) = Ok (put_end section bs r)
put_in section r (Err e) = Err e

-- what was spelled so far, and a line behind it
abbrev pub spelled_line : Labels → ℕ → SectionBytes → Placed → Result SectionBytes Fault
spelled_line labels text_len r p = on_line p.line (put_in p.place.section r (spelled labels (address text_len p.place) p.statement))

-- nothing spelled yet
abbrev pub no_bytes : SectionBytes
no_bytes = record { in_text = []; in_data = [] }

-- all lines
abbrev pub all_spelled : Labels → ℕ → List Placed → Result SectionBytes Fault
all_spelled labels text_len ps = one_by_one (spelled_line labels text_len) no_bytes ps

-- Both passes.

-- the bytes of text and of data, and the address of the first instruction
pub record Program : Type 0 where
  pub text : List ℕ
  pub data_bytes : List ℕ
  pub entry : ℕ

-- the address of the label _start, else 0
abbrev pub entry_of : Labels → ℕ
entry_of labels = unwrap_or (labels (codes "_start")) 0

-- the program of these bytes, where labels stand at these places
abbrev pub program_of : ℕ → (List ℕ → Option Place) → SectionBytes → Program
program_of text_len places r = record { text = r.in_text; data_bytes = r.in_data; entry = entry_of (addresses text_len places) }

-- what lines with their places spell
abbrev pub second_pass : List Placed → Result Program Fault
second_pass ps =
    let text_len = (end_of ps start).text_len in
    all_spelled (addresses text_len (label_place ps)) text_len ps >>= λ r. Ok (program_of text_len (label_place ps) r)

-- what the source asks for
abbrev pub written : List ℕ → Result Program Fault
written source = all_placed (lines source) >>= second_pass
