-- What an assembled file is, said without the two passes: the source means a program, and the file loads as it.
use Rattle.std.specs.Prelude.{◌≡◌, ℕ, ◌+◌, ◌/◌, ◌<◌, ◌≤◌, Bool, true, false, if◌then◌else◌, List, [], ◌∷◌, ◌++◌, length, take, drop, Option, Some, None, option_map, Ok, Err}
use Rattle.std.specs.Str.Lines.{lines}
use Rattle.std.specs.FinMap.{get}
use Rattle.xk_base.specs.declared.limits.TheConstants.{PROGRAM_BYTES}
use Rattle.xk_base.specs.declared.access.Rights.{Rights}
use Rattle.xk_base.specs.declared.program.Header.{Header}
use Rattle.xk_base.specs.declared.program.Segment.{Segment}
use Rattle.xk_base.specs.declared.errors.ExecError.TheVariants.{ArgsTooLong}
use Rattle.xk_base.specs.ProgramFile.{page_up, header_of, segments_of}
use Rattle.xk_base.specs.Image.{Page, Image}
use Rattle.xk_base.specs.Bytes.{image_bytes}
use Rattle.xk_base.specs.Loaded.{Loaded, aligned, stack_pointer, loaded}
use Rattle.uasm_core.specs.declared.words.Section.{Section}
use Rattle.uasm_core.specs.declared.words.Section.TheVariants.{Text, Data}
use Rattle.uasm_core.specs.Line.{parts_of}
use Rattle.uasm_core.specs.Statement.{Statement, Switch, Labels, statement, spelled}
use Rattle.uasm_core.specs.declared.place.Place.{Place}
use Rattle.uasm_core.specs.Places.{start, grown, address, base_of}
use Rattle.uasm_core.specs.Written.{Program, is_label_of, entry_of}
use Rattle.xk_base.specs.Access.{data_rights}

-- A line of a program: its label, where it stands, what it asks for, and the bytes that this spells.
pub record ProgramLine : Type 0 where
  pub label : Option (List ℕ)
  pub place : Place
  pub statement : Statement
  pub bytes : List ℕ

-- where the next line stands: in the section that was switched to, or behind the bytes
abbrev pub after_bytes : Statement → List ℕ → Place → Place
after_bytes (Switch to) bytes at = record at { section = to }
after_bytes s bytes at = grown at.section (length bytes) at

-- a line of the source, at a place in a program with that much text: its statement spells its bytes at its address
pub record Spells (labels : Labels) (text_len : ℕ) (at : Place) (line : List ℕ) (l : ProgramLine) : Type 0 where
  pub stands : l.place ≡ at
  pub labelled : l.label ≡ (parts_of line).label
  pub asks : statement at.section (parts_of line) ≡ Ok l.statement
  pub writes : spelled labels (address text_len at) l.statement ≡ Ok l.bytes

-- the lines of the source from a place on, one behind another
abbrev pub Follow : Labels → ℕ → Place → List (List ℕ) → List ProgramLine → Type 0
Follow labels text_len at [] [] = Unit {0}
Follow labels text_len at [] (l ∷ ls) = ⊥
Follow labels text_len at (line ∷ others) [] = ⊥
Follow labels text_len at (line ∷ others) (l ∷ ls) =
    Spells labels text_len at line l × Follow labels text_len (after_bytes l.statement l.bytes at) others ls

-- they are one section
abbrev pub is_same : Section → Section → Bool
is_same Text Text = true
is_same Text Data = false
is_same Data Text = false
is_same Data Data = true

-- the bytes of a section: those of its lines, in order
abbrev pub bytes_in : Section → List ProgramLine → List ℕ
bytes_in section [] = []
bytes_in section (l ∷ ls) = if is_same section l.place.section then l.bytes ++ bytes_in section ls else bytes_in section ls

-- the addresses of the lines that have a label of this name
abbrev pub addresses_of : ℕ → List ProgramLine → List ℕ → List ℕ
addresses_of text_len [] name = []
addresses_of text_len (l ∷ ls) name = if is_label_of l.label name then address text_len l.place ∷ addresses_of text_len ls name else addresses_of text_len ls name

-- none or one
abbrev pub as_list : Option ℕ → List ℕ
as_list (Some a) = a ∷ []
as_list None = []

-- A source means a program: there is one map from labels to addresses, each label of it standing on exactly one
-- line, at its address, and no other line having a label; under this map each line's statement, at its address,
-- spells its bytes; text and data are these bytes; the entry is the address of _start, else 0.
pub record Means (source : List ℕ) (p : Program) : Type 0 where
  pub labels : Labels
  pub program_lines : List ProgramLine
  pub spells : Follow labels (length p.text) start (lines source) program_lines
  pub in_text : p.text ≡ bytes_in Text program_lines
  pub in_data : p.data_bytes ≡ bytes_in Data program_lines
  pub one_line_each : (name : List ℕ) → addresses_of (length p.text) program_lines name ≡ as_list (labels name)
  pub begins : p.entry ≡ entry_of labels

-- A stretch of memory: its address, its rights and its bytes.
pub record Stretch : Type 0 where
  pub address : ℕ
  pub rights : Rights
  pub bytes : List ℕ

-- read and execute
abbrev pub text_rights : Rights
text_rights = record { read = true; write = false; execute = true; user = true }

-- nothing where there are no bytes
abbrev pub stretch_of : ℕ → Rights → List ℕ → List Stretch
stretch_of at rights [] = []
stretch_of at rights (b ∷ bs) = record { address = at; rights = rights; bytes = b ∷ bs } ∷ []

-- the memory of a program: text at 0, data at the text's length rounded up to a page
abbrev pub memory_of : Program → List Stretch
memory_of p = stretch_of (base_of Text (length p.text)) text_rights p.text ++ stretch_of (base_of Data (length p.text)) data_rights p.data_bytes

-- a segment of a file puts these bytes there, and nothing else
pub record Puts (file : List ℕ) (s : Segment) (m : Stretch) : Type 0 where
  pub at : s.vaddr ≡ m.address
  pub rights : s.perm ≡ m.rights
  pub size : s.memsz ≡ length m.bytes
  pub from_file : s.filesz ≡ length m.bytes
  pub bytes : take s.filesz (drop s.off file) ≡ m.bytes

-- the segments put these stretches, in order, and no other
abbrev pub AllPut : List ℕ → List Segment → List Stretch → Type 0
AllPut file [] [] = Unit {0}
AllPut file [] (m ∷ ms) = ⊥
AllPut file (s ∷ ss) [] = ⊥
AllPut file (s ∷ ss) (m ∷ ms) = Puts file s m × AllPut file ss ms

-- a file loads as a program: its header gives the entry, and its segments give the memory
pub record LoadsAs (file : List ℕ) (p : Program) : Type 0 where
  pub header : Header
  pub segments : List Segment
  pub has_header : header_of file ≡ Ok header
  pub has_segments : segments_of file header ≡ Ok segments
  pub begins : header.entry ≡ p.entry
  pub puts : AllPut file segments (memory_of p)

-- the file of a source: it loads as a program that the source means, and is no longer than a program file may be
pub record Assembles (source file : List ℕ) : Type 0 where
  pub program : Program
  pub means : Means source program
  pub loads : LoadsAs file program
  pub short : length file ≤ PROGRAM_BYTES

-- The file in memory, with argument texts.

-- where the guard page begins: at the page behind the data
abbrev pub guard_at : Program → ℕ
guard_at p = page_up (base_of Data (length p.text) + length p.data_bytes)

-- where the stack pointer of these texts begins: below the end of the stack page, which stands behind the guard page
abbrev pub stack_of : Program → List (List ℕ) → ℕ
stack_of p texts = stack_pointer (guard_at p + 8192) texts

-- the texts and their addresses fit into the stack page
abbrev pub TextsFit : Program → List (List ℕ) → Type 0
TextsFit p texts = guard_at p + 4096 ≤ stack_of p texts

-- an image has these bytes from an address on, all of them in pages with these rights
pub record Holds (image : Image) (at : ℕ) (rights : Rights) (bytes : List ℕ) : Type 0 where
  pub written : image_bytes image at (length bytes) ≡ bytes
  pub allowed : (k : ℕ) → k < length bytes → option_map (λ (page : Page). page.perm) (get image.pages ((at + k) / 4096)) ≡ Some rights

-- The file with these texts becomes the program in memory: its text at 0, its data at the page behind the text, and
-- behind them the guard page and the stack page; the pc is the entry with its two lowest bits cleared.
pub record Becomes (file : List ℕ) (texts : List (List ℕ)) (p : Program) : Type 0 where
  pub memory : Loaded
  pub is_loaded : loaded file texts ≡ Ok memory
  pub in_text : Holds memory.image (base_of Text (length p.text)) text_rights p.text
  pub in_data : Holds memory.image (base_of Data (length p.text)) data_rights p.data_bytes
  pub size : memory.image.size ≡ guard_at p + 8192
  pub begins : memory.pc ≡ aligned p.entry

-- The file of a source: with all texts that fit it becomes a program that the source means, and it is refused for
-- texts that don't fit, and for nothing else.
pub record Starts (source file : List ℕ) : Type 0 where
  pub program : Program
  pub means : Means source program
  pub becomes : (texts : List (List ℕ)) → TextsFit program texts → Becomes file texts program
  pub refused : (texts : List (List ℕ)) → stack_of program texts < guard_at program + 4096 → loaded file texts ≡ Err ArgsTooLong
