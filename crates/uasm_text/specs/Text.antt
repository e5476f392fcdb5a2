-- An instruction as a line of the assembler's language (docs/manual/assembler.md; the names of registers are those of
-- the RISC-V ABIs, "Integer Register Convention").
use Rattle.std.specs.Prelude.{ℕ, ◌-◌, ◌*◌, ◌^◌, Bool, false, ◌&&◌, ◌==◌, nat_lt, if◌then◌else◌, List, [], ◌∷◌, ◌++◌, codes, decimal, slice_index_or, Option, Some, None}
use Rattle.std.specs.List.{join_by}
use Rattle.std.specs.Fmt.{digits}
use Rattle.rv64i_core.specs.Layout.{bits}
use Rattle.rv64i_core.specs.Instructions.{branch_table, load_table, store_table, imm_table, shift_table, shift_w_table, reg_table, reg_w_table, lui, auipc, jal, jalr, addiw, fence, ecall, ebreak}
use Rattle.rv64i_core.specs.Registers.{add}
use Rattle.rv64i_core.specs.Step.{extended}
use Rattle.rv64i_core.specs.declared.instruction.Instr.{Instr}
use Rattle.rv64i_core.specs.declared.instruction.Instr.TheVariants.{Lui, Auipc, Jal, Jalr, Branch, Load, Store, OpImm, ShiftImm, Op, AddImmW, ShiftImmW, OpW, Fence, Ecall, Ebreak}

-- Registers.

-- the names of x0 to x31, in their order
abbrev pub register_names : List (List ℕ)
register_names =
    codes "zero" ∷ codes "ra" ∷ codes "sp" ∷ codes "gp" ∷ codes "tp" ∷ codes "t0" ∷ codes "t1" ∷ codes "t2" ∷
    codes "s0" ∷ codes "s1" ∷ codes "a0" ∷ codes "a1" ∷ codes "a2" ∷ codes "a3" ∷ codes "a4" ∷ codes "a5" ∷
    codes "a6" ∷ codes "a7" ∷ codes "s2" ∷ codes "s3" ∷ codes "s4" ∷ codes "s5" ∷ codes "s6" ∷ codes "s7" ∷
    codes "s8" ∷ codes "s9" ∷ codes "s10" ∷ codes "s11" ∷ codes "t3" ∷ codes "t4" ∷ codes "t5" ∷ codes "t6" ∷ []

-- the name of a register
unfoldable pub register : ℕ → List ℕ
register n = slice_index_or register_names n []

-- Numbers.

-- 0x and hexadecimal digits
abbrev pub hexadecimal : ℕ → List ℕ
hexadecimal n = codes "0x" ++ digits 16 false n

-- twelve bits as a number with its sign: from 2^11 on they stand for that less 2^12
abbrev pub signed_number : ℕ → List ℕ
signed_number n = if nat_lt n (2 ^ 11) then decimal n else codes "-" ++ decimal (2 ^ 12 - n)

-- number(register)
abbrev pub place : ℕ → ℕ → List ℕ
place n s = signed_number n ++ codes "(" ++ register s ++ codes ")"

-- Words.

-- the word of an instruction: its name in the table of instructions
abbrev pub name : Instr → List ℕ
name (Lui d imm) = lui.name
name (Auipc d imm) = auipc.name
name (Jal d offset) = jal.name
name (Jalr d s imm) = jalr.name
name (Branch op s t offset) = (branch_table op).name
name (Load op d s imm) = (load_table op).name
name (Store op s t imm) = (store_table op).name
name (OpImm op d s imm) = (imm_table op).name
name (ShiftImm op d s places) = (shift_table op).name
name (Op op d s t) = (reg_table op).name
name (AddImmW d s imm) = addiw.name
name (ShiftImmW op d s places) = (shift_w_table op).name
name (OpW op d s t) = (reg_w_table op).name
name (Fence d s imm) = fence.name
name Ecall = ecall.name
name Ebreak = ebreak.name

-- Fences. The language has one, whose word is 0FF0000F. Of any other the two sets of accesses are shown, as the
-- manual writes them; a hart looks at no other field (RISC-V Unprivileged ISA, "RV32I Base Integer Instruction Set",
-- Memory Ordering Instructions).

-- the fence of the language
abbrev pub is_the_fence : ℕ → ℕ → ℕ → Bool
is_the_fence d s imm = (d == 0) && (s == 0) && (imm == 0x0FF)

-- the letter of an access, if the bit for it is set
abbrev pub access : ℕ → List ℕ → List ℕ
access bit letter = if bit == 1 then letter else []

-- a set of accesses in four bits, from the top: device input, device output, memory reads, memory writes
abbrev pub accesses : ℕ → List ℕ
accesses n = if n == 0 then codes "0" else access (bits n 3 1) (codes "i") ++ access (bits n 2 1) (codes "o") ++ access (bits n 1 1) (codes "r") ++ access (bits n 0 1) (codes "w")

-- what comes before the fence, and what comes behind it
abbrev pub fence_operands : ℕ → List (List ℕ)
fence_operands imm = accesses (bits imm 4 4) ∷ accesses (bits imm 0 4) ∷ []

-- Lines.

-- the operands of an instruction, in their order; a branch or a jump leads to a target, whose text is given
abbrev pub operands : List ℕ → Instr → List (List ℕ)
operands target (Lui d imm) = register d ∷ hexadecimal imm ∷ []
operands target (Auipc d imm) = register d ∷ hexadecimal imm ∷ []
operands target (Jal d offset) = register d ∷ target ∷ []
operands target (Jalr d s imm) = register d ∷ place imm s ∷ []
operands target (Branch op s t offset) = register s ∷ register t ∷ target ∷ []
operands target (Load op d s imm) = register d ∷ place imm s ∷ []
operands target (Store op s t imm) = register t ∷ place imm s ∷ []
operands target (OpImm op d s imm) = register d ∷ register s ∷ signed_number imm ∷ []
operands target (ShiftImm op d s places) = register d ∷ register s ∷ decimal places ∷ []
operands target (Op op d s t) = register d ∷ register s ∷ register t ∷ []
operands target (AddImmW d s imm) = register d ∷ register s ∷ signed_number imm ∷ []
operands target (ShiftImmW op d s places) = register d ∷ register s ∷ decimal places ∷ []
operands target (OpW op d s t) = register d ∷ register s ∷ register t ∷ []
operands target (Fence d s imm) = if is_the_fence d s imm then [] else fence_operands imm
operands target Ecall = []
operands target Ebreak = []

-- a word, a space, and the operands with a comma and a space between each two; or the word alone
abbrev pub line : List ℕ → List (List ℕ) → List ℕ
line word [] = word
line word (o ∷ os) = word ++ codes " " ++ join_by (λ p. p) (codes ", ") (o ∷ os)

-- an instruction as a line, with this text for the target of a branch or a jump
abbrev pub text_with : List ℕ → Instr → List ℕ
text_with target i = line (name i) (operands target i)

-- Targets.

-- the address to which a branch or a jump at an address leads, modulo 2^64; none for others, and none for jalr, whose
-- target is in a register
abbrev pub target_of : ℕ → Instr → Option ℕ
target_of at (Jal d offset) = Some (add at (extended 21 (offset * 2)))
target_of at (Branch op s t offset) = Some (add at (extended 13 (offset * 2)))
target_of at i = None

-- the address as a text, if there is one
abbrev pub target_text : Option ℕ → List ℕ
target_text (Some a) = hexadecimal a
target_text None = []

-- an instruction at an address, with its target's address: beq a0, a1, 0x40
abbrev pub text_at : ℕ → Instr → List ℕ
text_at at i = text_with (target_text (target_of at i)) i
