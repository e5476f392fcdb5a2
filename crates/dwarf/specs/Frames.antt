-- Call frames: where the part of the stack of a function's caller begins, and where its registers are kept (DWARF 5, section 6.4.1).
-- Of the registers, rows tell the return address (ra, register 1) and s0 (register 8; RISC-V ABIs, "DWARF Register Numbers").
use Rattle.std.specs.Prelude.{ℕ, zero, suc, ◌+◌, ◌%◌, ◌^◌, ◌≡◌, ◌==◌, nat_lt, nat_le, if◌then◌else◌, List, [], ◌∷◌, ◌++◌, length, take}
use Rattle.std.specs.Prelude.{Option, Some, None, option_to_list, Result, Ok, Err, ℤ, pos}
use Rattle.dwarf.specs.declared.fault.Fault.{Fault}
use Rattle.dwarf.specs.declared.fault.Fault.TheVariants.{Length, Stack}
use Rattle.dwarf.specs.declared.fault.LineError.{LineError}
use Rattle.dwarf.specs.declared.frame.Base.{Base}
use Rattle.dwarf.specs.declared.frame.Base.TheVariants as bases
use Rattle.dwarf.specs.declared.frame.Rule.{Rule}
use Rattle.dwarf.specs.declared.frame.Rule.TheVariants as rules
use Rattle.dwarf.specs.declared.frame.FrameRow.{FrameRow}
use Rattle.dwarf.specs.declared.frame.FrameRules.{FrameRules}
use Rattle.dwarf.specs.declared.frame_common.Common.{Common}
use Rattle.dwarf.specs.declared.frame_change.Change.{Change}
use Rattle.dwarf.specs.declared.frame_change.Change.TheVariants.{Advance, SetBase, SetBaseRegister, SetBaseOffset, SetRule, Restore, Remember, Recall, Nothing}
use Rattle.dwarf.specs.declared.frame_program.FrameStep.{FrameStep}
use Rattle.dwarf.specs.declared.frame_program.FrameRun.{FrameRun}
use Rattle.dwarf.specs.declared.function_frames.FrameTable.{FrameTable}
use Rattle.dwarf.specs.declared.frame_entries.FrameUnit.{FrameUnit}
use Rattle.dwarf.specs.FrameChanges.{change_at}
use Rattle.dwarf.specs.FrameUnits.{common_at}
use Rattle.dwarf.specs.Items.{in_front}
use Rattle.dwarf.specs.Numbers.{◌>>=◌, or_fault, fixed}
use Rattle.dwarf.specs.Made.{Fails}

-- before any instruction nothing is told
abbrev pub unknown : FrameRules
unknown = record { base = bases.Unset; ra = rules.Unset; s0 = rules.Unset }

-- what an instruction does to the rules, if the functions have these others in common

-- another register, unless an expression tells the CFA; if it wasn't told yet, the register has it: so GNU's assembler for RISC-V
-- begins
abbrev pub with_register : ℕ → Base → Base
with_register register (bases.Register old offset) = bases.Register register offset
with_register register bases.Unset = bases.Register register (pos 0)
with_register register bases.Other = bases.Other

-- another distance, if the CFA is counted from a register

abbrev pub with_offset : ℤ → Base → Base
with_offset offset (bases.Register register old) = bases.Register register offset
with_offset offset bases.Unset = bases.Unset
with_offset offset bases.Other = bases.Other

abbrev pub with_base : Base → FrameRules → FrameRules
with_base base r = record { base = base; ra = r.ra; s0 = r.s0 }

-- registers other than these two are passed over
abbrev pub with_rule : ℕ → Rule → FrameRules → FrameRules
with_rule register rule r = record {
  base = r.base;
  ra = if register == 1 then rule else r.ra;
  s0 = if register == 8 then rule else r.s0;
}

-- the rule that the functions have in common
abbrev pub restored : ℕ → FrameRules → FrameRules → FrameRules
restored register common r = record {
  base = r.base;
  ra = if register == 1 then common.ra else r.ra;
  s0 = if register == 8 then common.s0 else r.s0;
}

abbrev pub changed_by : Change → FrameRules → FrameRules → FrameRules
changed_by (SetBase base) common r = with_base base r
changed_by (SetBaseRegister register) common r = with_base (with_register register r.base) r
changed_by (SetBaseOffset offset) common r = with_base (with_offset offset r.base) r
changed_by (SetRule register rule) common r = with_rule register rule r
changed_by (Restore register) common r = restored register common r
changed_by _ common r = r

-- the rules that were kept last, and those that were kept before them
abbrev pub split_last : FrameRules → List FrameRules → List FrameRules × FrameRules
split_last r [] = ([], r)
split_last r (s ∷ rs) = let after = split_last s rs in (r ∷ after.0, after.1)

abbrev pub taken_back : List FrameRules → Option (List FrameRules × FrameRules)
taken_back [] = None
taken_back (r ∷ rs) = Some (split_last r rs)

-- an instruction: the row that it ends, what holds after it, and the rules that are kept
abbrev pub went_on : FrameRow → ℕ → List FrameRules → FrameStep × List FrameRules
went_on state next kept = (record { row = None; state = state; next = next }, kept)

abbrev pub act : Change → FrameRules → FrameRow → List FrameRules → ℕ → ℕ → Result (FrameStep × List FrameRules) Fault
act (Advance bytes) common state kept next at =
    Ok (record { row = Some state; state = record { address = (state.address + bytes) % 2 ^ 64; rules = state.rules }; next = next }, kept)
act Remember common state kept next at = Ok (went_on state next (kept ++ state.rules ∷ []))
act Recall common state kept next at = or_fault (taken_back kept) (Stack at) >>= λ back.
    Ok (went_on (record { address = state.address; rules = back.1 }) next back.0)
act change common state kept next at =
    Ok (went_on (record { address = state.address; rules = changed_by change common state.rules }) next kept)

-- the instruction at a place
unfoldable pub frame_step : Common → List ℕ → FrameRules → ℕ → FrameRow → List FrameRules → Result (FrameStep × List FrameRules) Fault
frame_step c bytes common at state kept = change_at c bytes at >>= λ found. act found.change common state kept found.next at

-- the rows that at most n instructions end, from a place on, up to the end of the bytes; and what holds after them
unfoldable pub frames_from : Common → List ℕ → FrameRules → ℕ → ℕ → FrameRow → List FrameRules → Result (List FrameRow × FrameRow) Fault
frames_from c bytes common zero at state kept = Ok ([], state)
frames_from c bytes common (suc n) at state kept =
    if nat_le (length bytes) at then Ok ([], state)
    else (frame_step c bytes common at state kept >>= λ s.
    in_front (option_to_list s.0.row) (frames_from c bytes common n s.0.next s.0.state s.1))

-- a program, from a place on up to the end of the bytes: it has no more instructions than bytes
abbrev pub frames : Common → List ℕ → FrameRules → ℕ → FrameRow → Result (List FrameRow × FrameRow) Fault
frames c bytes common at state = frames_from c bytes common (length bytes) at state []

-- the rules that functions have in common
abbrev pub common_rules : List ℕ → Common → Result FrameRules Fault
common_rules section c = frames c (take c.end section) unknown c.from (record { address = 0; rules = unknown }) >>= λ run. Ok run.1.rules

-- The frames of a function: where it begins, how many bytes it has, and its rows.
abbrev pub FramesOf : Type 0
FramesOf = ℕ × ℕ × List FrameRow

-- the first row holds from the function's first instruction on, with the rules in common; the last one up to its end
unfoldable pub frames_of : List ℕ → FrameUnit → Result FramesOf Fault
frames_of section unit =
    if nat_lt (length section) unit.end then Err (Length unit.at)
    else (let bytes = take unit.end section in
    fixed 8 bytes unit.body >>= λ from. fixed 8 bytes (unit.body + 8) >>= λ size.
    common_at section unit.common >>= λ c. common_rules section c >>= λ rules.
    frames c bytes rules (unit.body + 16) (record { address = from; rules = rules }) >>= λ run.
    Ok (from, size, run.0 ++ run.1 ∷ []))

-- What functions that take memory of the host returned is what reading gives.

abbrev pub AreFrames : Result FrameRun LineError → Result (List FrameRow × FrameRow) Fault → Type 0
AreFrames (Ok r) read = read ≡ Ok (r.rows.items, r.state)
AreFrames (Err e) read = Fails e read

abbrev pub IsStep : Result FrameStep LineError → List FrameRules → Result (FrameStep × List FrameRules) Fault → Type 0
IsStep (Ok s) kept read = read ≡ Ok (s, kept)
IsStep (Err e) kept read = Fails e read

abbrev pub IsFrameTable : Result FrameTable LineError → Result FramesOf Fault → Type 0
IsFrameTable (Ok t) read = read ≡ Ok (t.from, t.size, t.rows.items)
IsFrameTable (Err e) read = Fails e read

abbrev pub AreRules : Result FrameRules LineError → Result FrameRules Fault → Type 0
AreRules (Ok r) read = read ≡ Ok r
AreRules (Err e) read = Fails e read
