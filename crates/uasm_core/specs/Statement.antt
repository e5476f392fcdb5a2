-- What a line asks for: instructions, or bytes of data, some of them known only by the labels' addresses.
use Rattle.std.specs.Prelude.{ℕ, ◌+◌, ◌-◌, ◌*◌, ◌/◌, ◌%◌, ◌^◌, Bool, true, false, ◌&&◌, ◌==◌, nat_eq, nat_le, if◌then◌else◌, List, [], ◌∷◌, ◌++◌, length, replicate, Option, Some, None, Result, Ok, Err, sum_by}
use Rattle.std.specs.List.{flat_map}
use Rattle.xk_base.specs.Words.{le_bytes}
use Rattle.rv64i_core.specs.Table.{word}
use Rattle.rv64i_core.specs.declared.instruction.Instr.{Instr}
use Rattle.rv64i_core.specs.declared.instruction.Instr.TheVariants.{Lui, Auipc, Jal, Jalr, Branch, Load, Store, OpImm, ShiftImm, Op, AddImmW, ShiftImmW, OpW, Fence, Ecall, Ebreak}
use Rattle.rv64i_core.specs.declared.instruction.BranchOp.{BranchOp}
use Rattle.rv64i_core.specs.declared.instruction.ImmOp.TheVariants.{Addi}
use Rattle.uasm_core.specs.declared.error.AsmErrorKind.{AsmErrorKind}
use Rattle.uasm_core.specs.declared.error.AsmErrorKind.TheVariants.{UnknownWord, BadOperand, OutOfRange, UnknownLabel}
use Rattle.uasm_core.specs.declared.words.Section.{Section}
use Rattle.uasm_core.specs.declared.words.Section.TheVariants.{Text, Data}
use Rattle.uasm_core.specs.declared.words.Width.{Width}
use Rattle.uasm_core.specs.declared.words.Width.TheVariants as width
use Rattle.uasm_core.specs.declared.words.Form.{Form}
use Rattle.uasm_core.specs.declared.words.Form.TheVariants as form
use Rattle.uasm_core.specs.Line.{Parts, form_of, register_of, number_of, place_of, text_of, is_label, signed}
use Rattle.uasm_core.specs.declared.numeral.Number.{Number}

-- the first refusal ends a reading
infixl 10 ◌>>=◌
abbrev pub ◌>>=◌ : {A B : Type 0} → Result A AsmErrorKind → (A → Result B AsmErrorKind) → Result B AsmErrorKind
(Ok x) >>= f = f x
(Err e) >>= f = Err e

-- bytes that are known, or the address of a label in eight bytes
pub data Datum : Type 0 where
  Known : (bytes : List ℕ) → Datum
  Address : (label : List ℕ) → Datum

-- what a line asks for: nothing, another section, instructions, a branch or jump to a label, a label's address in a register, or bytes
pub data Statement : Type 0 where
  Empty : Statement
  Switch : (to : Section) → Statement
  Code : (instructions : List Instr) → Statement
  BranchTo : (op : BranchOp) (rs1 rs2 : ℕ) (label : List ℕ) → Statement
  JumpTo : (rd : ℕ) (label : List ℕ) → Statement
  LoadAddress : (rd : ℕ) (label : List ℕ) → Statement
  Bytes : (values : List Datum) → Statement

-- Numbers in bits.

-- the low k bits of a number, negative ones as two's complement
abbrev pub low_bits : ℕ → Number → ℕ
low_bits k n = if n.negative then (2 ^ k - n.magnitude % 2 ^ k) % 2 ^ k else n.magnitude % 2 ^ k

-- it is at least -low and at most high
abbrev pub is_within : ℕ → ℕ → Number → Bool
is_within low high n = nat_le n.magnitude (if n.negative then low else high)

-- how far it is from one address to another
abbrev pub from_to : ℕ → ℕ → Number
from_to a b = if nat_le a b then signed false (b - a) else signed true (a - b)

-- A 32-bit number in two parts: upper 20 bits for lui or auipc, and the low 12 bits, signed, to add.
abbrev pub upper : ℕ → ℕ
upper m = (m + 2048) / 4096 % 2 ^ 20

-- the low 12 bits
abbrev pub lower : ℕ → ℕ
lower m = m % 4096

-- Operands.

-- what was found; else the operand is bad
abbrev pub or_bad : {A : Type 0} → Option A → Result A AsmErrorKind
or_bad (Some x) = Ok x
or_bad None = Err BadOperand

-- the register of that name
abbrev pub register : List ℕ → Result ℕ AsmErrorKind
register bs = or_bad (register_of bs)

-- the number that the operand writes
abbrev pub number : List ℕ → Result Number AsmErrorKind
number bs = or_bad (number_of bs)

-- the label that the operand is, by its form
abbrev pub label : List ℕ → Result (List ℕ) AsmErrorKind
label bs = if is_label bs then Ok bs else Err BadOperand

-- value, where the number is at least -low and at most high
abbrev pub ranged : {A : Type 0} → ℕ → ℕ → Number → A → Result A AsmErrorKind
ranged low high n value = if is_within low high n then Ok value else Err OutOfRange

-- one operand
abbrev pub one : List (List ℕ) → Result (List ℕ) AsmErrorKind
one (a ∷ []) = Ok a
one _ = Err BadOperand

-- two operands
abbrev pub two : List (List ℕ) → Result (List ℕ × List ℕ) AsmErrorKind
two (a ∷ b ∷ []) = Ok (a, b)
two _ = Err BadOperand

-- three operands
abbrev pub three : List (List ℕ) → Result (List ℕ × List ℕ × List ℕ) AsmErrorKind
three (a ∷ b ∷ c ∷ []) = Ok (a, b, c)
three _ = Err BadOperand

-- an instruction with no operands
abbrev pub alone : List (List ℕ) → Instr → Result Statement AsmErrorKind
alone [] i = Ok (Code (i ∷ []))
alone _ i = Err BadOperand

-- Forms.

-- three registers
abbrev pub registers : List (List ℕ) → Result (ℕ × ℕ × ℕ) AsmErrorKind
registers os = do
  o ← three os
  d ← register o.0
  s ← register o.1
  t ← register o.2
  Ok (d, s, t)

-- two registers and a number
abbrev pub immediate : List (List ℕ) → Result (ℕ × ℕ × Number) AsmErrorKind
immediate os = do
  o ← three os
  d ← register o.0
  s ← register o.1
  n ← number o.2
  Ok (d, s, n)

-- a register, and number(register)
abbrev pub indirect : List (List ℕ) → Result (ℕ × ℕ × Number) AsmErrorKind
indirect os = do
  o ← two os
  d ← register o.0
  p ← or_bad (place_of o.1)
  n ← number p.0
  s ← register p.1
  Ok (d, s, n)

-- two registers and a number of twelve bits with its sign
abbrev pub immediate_bits : List (List ℕ) → Result (ℕ × ℕ × ℕ) AsmErrorKind
immediate_bits os = immediate os >>= λ r. ranged 2048 2047 r.2 (r.0, r.1, low_bits 12 r.2)

-- a register, and number(register) with a number of twelve bits with its sign
abbrev pub indirect_bits : List (List ℕ) → Result (ℕ × ℕ × ℕ) AsmErrorKind
indirect_bits os = indirect os >>= λ r. ranged 2048 2047 r.2 (r.0, r.1, low_bits 12 r.2)

-- a register and a number
abbrev pub register_number : List (List ℕ) → Result (ℕ × Number) AsmErrorKind
register_number os = do
  o ← two os
  d ← register o.0
  n ← number o.1
  Ok (d, n)

-- a register and a label
abbrev pub register_label : List (List ℕ) → Result (ℕ × List ℕ) AsmErrorKind
register_label os = do
  o ← two os
  d ← register o.0
  l ← label o.1
  Ok (d, l)

-- addi from x0 where the number fits twelve bits; else lui, and addiw where the low part isn't 0
abbrev pub li_code : ℕ → Number → List Instr
li_code d n =
    let m = low_bits 32 n in
    if is_within 2048 2047 n then OpImm Addi d 0 (low_bits 12 n) ∷ []
    else if lower m == 0 then Lui d (upper m) ∷ []
    else Lui d (upper m) ∷ AddImmW d d (lower m) ∷ []

-- how many bits a value has
abbrev pub bit_count : Width → ℕ
bit_count width.Byte = 8
bit_count width.Word = 32
bit_count width.Dword = 64

-- a number of this width, or a label at the widest
abbrev pub datum_form : Width → List ℕ → Bool
datum_form width.Dword bs = is_label bs
datum_form _ bs = false

-- a value as it is written: a number, or a label
pub data Given : Type 0 where
  GivenNumber : (n : Number) → Given
  GivenLabel : (label : List ℕ) → Given

-- a label where the width allows one, else a number
abbrev pub given : Width → List ℕ → Result Given AsmErrorKind
given w bs = if datum_form w bs then Ok (GivenLabel bs) else (number bs >>= λ n. Ok (GivenNumber n))

-- each of a list, or the first refusal
abbrev pub each : {A B : Type 0} → (A → Result B AsmErrorKind) → List A → Result (List B) AsmErrorKind
each f [] = Ok []
each f (a ∷ others) = do
  b ← f a
  bs ← each f others
  Ok (b ∷ bs)

-- a value in its range
abbrev pub datum : Width → Given → Result Datum AsmErrorKind
datum w (GivenLabel l) = Ok (Address l)
datum w (GivenNumber n) = let k = bit_count w in ranged (2 ^ (k - 1)) (2 ^ k - 1) n (Known (le_bytes (k / 8) (low_bits k n)))

-- one value or more; all forms are tested before the ranges
abbrev pub values : Width → List (List ℕ) → Result Statement AsmErrorKind
values w [] = Err BadOperand
values w (o ∷ os) = do
  gs ← each (given w) (o ∷ os)
  ds ← each (datum w) gs
  Ok (Bytes ds)

-- what a word with these operands asks for
abbrev pub statement_of : Form → List (List ℕ) → Result Statement AsmErrorKind
statement_of (form.Op op) os = registers os >>= λ r. Ok (Code (Op op r.0 r.1 r.2 ∷ []))
statement_of (form.OpW op) os = registers os >>= λ r. Ok (Code (OpW op r.0 r.1 r.2 ∷ []))
statement_of (form.OpImm op) os = immediate os >>= λ r. ranged 2048 2047 r.2 (Code (OpImm op r.0 r.1 (low_bits 12 r.2) ∷ []))
statement_of form.AddImmW os = immediate os >>= λ r. ranged 2048 2047 r.2 (Code (AddImmW r.0 r.1 (low_bits 12 r.2) ∷ []))
statement_of (form.ShiftImm op) os = immediate os >>= λ r. ranged 0 63 r.2 (Code (ShiftImm op r.0 r.1 (low_bits 6 r.2) ∷ []))
statement_of (form.ShiftImmW op) os = immediate os >>= λ r. ranged 0 31 r.2 (Code (ShiftImmW op r.0 r.1 (low_bits 5 r.2) ∷ []))
statement_of (form.Load op) os = indirect os >>= λ r. ranged 2048 2047 r.2 (Code (Load op r.0 r.1 (low_bits 12 r.2) ∷ []))
statement_of (form.Store op) os = indirect os >>= λ r. ranged 2048 2047 r.2 (Code (Store op r.1 r.0 (low_bits 12 r.2) ∷ []))
statement_of form.Jalr os = indirect os >>= λ r. ranged 2048 2047 r.2 (Code (Jalr r.0 r.1 (low_bits 12 r.2) ∷ []))
statement_of (form.Branch op) os = do
  o ← three os
  s ← register o.0
  t ← register o.1
  l ← label o.2
  Ok (BranchTo op s t l)
statement_of form.Jal os = register_label os >>= λ r. Ok (JumpTo r.0 r.1)
statement_of form.Lui os = register_number os >>= λ r. ranged 0 0xFFFFF r.1 (Code (Lui r.0 (low_bits 20 r.1) ∷ []))
statement_of form.Auipc os = register_number os >>= λ r. ranged 0 0xFFFFF r.1 (Code (Auipc r.0 (low_bits 20 r.1) ∷ []))
statement_of form.Fence os = alone os (Fence 0 0 0x0FF)
statement_of form.Ecall os = alone os Ecall
statement_of form.Ebreak os = alone os Ebreak
statement_of form.Nothing os = alone os (OpImm Addi 0 0 0)
statement_of form.Move os = do
  o ← two os
  d ← register o.0
  s ← register o.1
  Ok (Code (OpImm Addi d s 0 ∷ []))
statement_of form.JumpAlways os = one os >>= λ o. label o >>= λ l. Ok (JumpTo 0 l)
statement_of form.Call os = one os >>= λ o. label o >>= λ l. Ok (JumpTo 1 l)
statement_of form.Return os = alone os (Jalr 0 1 0)
statement_of form.LoadAddress os = register_label os >>= λ r. Ok (LoadAddress r.0 r.1)
statement_of form.LoadNumber os = register_number os >>= λ r. ranged (2 ^ 31) (2 ^ 31 - 1) r.1 (Code (li_code r.0 r.1))
statement_of (form.Switch to) os = elim os [ [] ↦ Ok (Switch to) | _ ∷ _ ↦ Err BadOperand ]
statement_of (form.Values w) os = values w os
statement_of form.Text os = one os >>= λ o. or_bad (text_of o) >>= λ t. Ok (Bytes (Known (t ++ 0 ∷ []) ∷ []))
statement_of form.Space os = one os >>= λ o. number o >>= λ n. ranged 0 65536 n (Bytes (Known (replicate (low_bits 17 n) 0) ∷ []))

-- data words stand in .data alone, instructions in .text alone
abbrev pub stands_in : Form → Section → Bool
stands_in (form.Switch to) _ = true
stands_in (form.Values w) Data = true
stands_in (form.Values w) Text = false
stands_in form.Text Data = true
stands_in form.Text Text = false
stands_in form.Space Data = true
stands_in form.Space Text = false
stands_in _ Text = true
stands_in _ Data = false

-- what a line asks for in a section: nothing where it is empty
abbrev pub statement : Section → Parts → Result Statement AsmErrorKind
statement section p =
    if nat_eq (length p.word) 0 && nat_eq (length p.operands) 0 then Ok Empty
    else elim (form_of p.word) [ None ↦ Err UnknownWord | Some f ↦ if stands_in f section then statement_of f p.operands else Err UnknownWord ]

-- Sizes, and bytes by the labels' addresses.

-- how many bytes a value has
abbrev pub datum_size : Datum → ℕ
datum_size (Known bs) = length bs
datum_size (Address l) = 8

-- how many bytes a statement spells
abbrev pub size_of : Statement → ℕ
size_of Empty = 0
size_of (Switch to) = 0
size_of (Code is) = 4 * length is
size_of (BranchTo op s t l) = 4
size_of (JumpTo d l) = 4
size_of (LoadAddress d l) = 8
size_of (Bytes ds) = sum_by datum_size ds

-- a map from labels to addresses
abbrev pub Labels : Type 0
Labels = List ℕ → Option ℕ

-- the address of a label
abbrev pub address_of : Labels → List ℕ → Result ℕ AsmErrorKind
address_of labels l = elim (labels l) [ Some a ↦ Ok a | None ↦ Err UnknownLabel ]

-- the words of instructions, the lowest byte of each first
abbrev pub code_bytes : List Instr → List ℕ
code_bytes is = flat_map (λ i. le_bytes 4 (word i)) is

-- the k bits that hold a distance to jump, in half words, where it is even and they can hold it
abbrev pub distance : ℕ → ℕ → ℕ → Result ℕ AsmErrorKind
distance k from to =
    let d = from_to from to in
    if (low_bits 1 d == 0) && is_within (2 ^ k) (2 ^ k - 1) d then Ok (low_bits (k + 1) d / 2) else Err OutOfRange

-- the bytes of a value
abbrev pub datum_bytes : Labels → Datum → Result (List ℕ) AsmErrorKind
datum_bytes labels (Known bs) = Ok bs
datum_bytes labels (Address l) = address_of labels l >>= λ a. Ok (le_bytes 8 a)

-- lists one behind another
abbrev pub joined : {A : Type 0} → List (List A) → List A
joined ls = flat_map (λ l. l) ls

-- the bytes of values, in order
abbrev pub values_bytes : Labels → List Datum → Result (List ℕ) AsmErrorKind
values_bytes labels ds = each (datum_bytes labels) ds >>= λ bs. Ok (joined bs)

-- the bytes that a statement at an address spells
abbrev pub spelled : Labels → ℕ → Statement → Result (List ℕ) AsmErrorKind
spelled labels at Empty = Ok []
spelled labels at (Switch to) = Ok []
spelled labels at (Code is) = Ok (code_bytes is)
spelled labels at (BranchTo op s t l) = do
  to ← address_of labels l
  d ← distance 12 at to
  Ok (code_bytes (Branch op s t d ∷ []))
spelled labels at (JumpTo rd l) = do
  to ← address_of labels l
  d ← distance 20 at to
  Ok (code_bytes (Jal rd d ∷ []))
spelled labels at (LoadAddress rd l) = do
  to ← address_of labels l
  Ok (let m = low_bits 32 (from_to at to) in code_bytes (Auipc rd (upper m) ∷ OpImm Addi rd rd (lower m) ∷ []))
spelled labels at (Bytes ds) = values_bytes labels ds

-- what was spelled, with bytes in front
abbrev pub put_behind : List ℕ → Result (List ℕ) AsmErrorKind → Result (List ℕ) AsmErrorKind
put_behind bytes (Ok bs) = Ok (bytes ++ bs)
put_behind bytes (Err e) = Err e
