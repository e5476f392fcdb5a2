-- The registers of a process, as they are shown.
use Rattle.std.specs.Prelude.{ℕ, ◌%◌, ◌==◌, if◌then◌else◌, List, [], ◌∷◌, ◌++◌, flat_map, codes, decimal, Option, None, Some}
use Rattle.std.specs.List.{concat, range_with_len}
use Rattle.rv64i_core.specs.Registers.{Registers, reg}
use Rattle.uasm_text.specs.Text.{register}
use Rattle.kcall_core.specs.Observers.{registers_of}
use Rattle.xv_session.specs.Recorded.{Recorded}
use Rattle.debug_words.specs.Texts.{named, at_left, at_right, hexadecimal}
use Rattle.debug_views.specs.Focus.{name_in, no_process}

-- what stands before a register: three stand in a row
abbrev pub gap_before : ℕ → List ℕ
gap_before n = if n % 3 == 1 then codes "\n" else codes "   "

-- its name, and what it holds
abbrev pub register_text : Registers → ℕ → List ℕ
register_text regs n = gap_before n ++ at_left 3 (register n) ++ codes " " ++ at_right 18 (hexadecimal (reg regs n))

-- those from x1 on, so many
unfoldable pub first_registers : Registers → ℕ → List ℕ
first_registers regs count = flat_map (register_text regs) (range_with_len 1 count)

-- whose they are
abbrev pub registers_head : (p : ℕ) → (name : Option (List ℕ)) → List ℕ
registers_head p name = concat (codes "registers of process " ∷ decimal p ∷ named name ∷ codes "\n" ∷ [])

abbrev pub pc_text : ℕ → List ℕ
pc_text pc = codes "pc  " ++ at_right 18 (hexadecimal pc)

-- the pc of a process, then x1 to x31
abbrev pub registers_text : (p : ℕ) → (name : Option (List ℕ)) → Registers → List ℕ
registers_text p name regs = registers_head p name ++ pc_text regs.pc ++ first_registers regs 31 ++ codes "\n"

abbrev pub registers_told : (p : ℕ) → (name : Option (List ℕ)) → Option Registers → List ℕ
registers_told p name None = no_process p
registers_told p name (Some regs) = registers_text p name regs

-- those of process p, if it lives
abbrev pub registers_shown : Recorded → ℕ → List ℕ
registers_shown s p = registers_told p (name_in s p) (registers_of s.machine.world.state p)
