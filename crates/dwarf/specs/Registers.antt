-- The registers of the line number machine (DWARF 5, section 6.2.2), and what each instruction does to them (section 6.2.5).
use Rattle.std.specs.Prelude.{ℕ, ◌+◌, ◌*◌, ◌%◌, ◌^◌, Bool, true, false, not, nat_lt, if◌then◌else◌, List, Option, Some, None, option_map, Result, Ok, Err, ℤ, pos, negsuc, ◌+ℤ◌}
use Rattle.dwarf.specs.declared.fault.Fault.{Fault}
use Rattle.dwarf.specs.declared.fault.Fault.TheVariants.{Line}
use Rattle.dwarf.specs.declared.line_header.LineHeader.{LineHeader}
use Rattle.dwarf.specs.declared.operation.Operation.{Operation}
use Rattle.dwarf.specs.declared.operation.Operation.TheVariants.{Special, Copy, AdvanceAddress, AdvanceLine, SetFile, SetColumn, NegateStatement, BeginBlock, AdvanceBytes}
use Rattle.dwarf.specs.declared.operation.Operation.TheVariants.{EndPrologue, BeginEpilogue, SetIsa, EndSequence, SetAddress, SetDiscriminator, Unknown}
use Rattle.dwarf.specs.declared.row.Row.{Row}
use Rattle.dwarf.specs.declared.registers.Step.{Step}
use Rattle.dwarf.specs.Numbers.{◌>>=◌, or_fault}
use Rattle.dwarf.specs.Operations.{operation}

-- at the beginning of a sequence
abbrev pub first : Bool → Row
first is_statement = record {
  address = 0;
  file = 1;
  line = 1;
  column = 0;
  is_statement = is_statement;
  basic_block = false;
  end_sequence = false;
  prologue_end = false;
  epilogue_begin = false;
  isa = 0;
  discriminator = 0;
}

-- the address so many of the shortest instructions later; addresses have 64 bits
abbrev pub advanced : ℕ → ℕ → Row → Row
advanced advance instruction_bytes r = record r { address = (r.address + advance * instruction_bytes) % 2 ^ 64 }

-- a line is a number of at most 64 bits
abbrev pub line_of : ℤ → Option ℕ
line_of (pos n) = if nat_lt n (2 ^ 64) then Some n else None
line_of (negsuc n) = None

-- the line so many lines later
abbrev pub moved : ℤ → Row → Option Row
moved lines r = option_map (λ line. record r { line = line }) (line_of (pos r.line +ℤ lines))

-- the single register that an instruction sets
abbrev pub set : Operation → Row → Row
set (SetFile file) r = record r { file = file }
set (SetColumn column) r = record r { column = column }
set NegateStatement r = record r { is_statement = not r.is_statement }
set BeginBlock r = record r { basic_block = true }
set (AdvanceBytes bytes) r = record r { address = (r.address + bytes) % 2 ^ 64 }
set EndPrologue r = record r { prologue_end = true }
set BeginEpilogue r = record r { epilogue_begin = true }
set (SetIsa isa) r = record r { isa = isa }
set (SetAddress address) r = record r { address = address }
set (SetDiscriminator discriminator) r = record r { discriminator = discriminator }
set EndSequence r = record r { end_sequence = true }
set _ r = r

-- what an instruction does to the registers, before it makes a row: none if it leads to no line
abbrev pub done : ℕ → Operation → Row → Option Row
done instruction_bytes (Special advance lines) r = moved lines (advanced advance instruction_bytes r)
done instruction_bytes (AdvanceAddress advance) r = Some (advanced advance instruction_bytes r)
done instruction_bytes (AdvanceLine lines) r = moved lines r
done instruction_bytes other r = Some (set other r)

-- the instructions that make a row
abbrev pub makes_row : Operation → Bool
makes_row (Special advance lines) = true
makes_row Copy = true
makes_row EndSequence = true
makes_row _ = false

-- after a row: a sequence that ended is followed by another, else these registers tell of the row alone
abbrev pub settled : Bool → Row → Row
settled is_statement r =
    if r.end_sequence then first is_statement
    else (record r { basic_block = false; prologue_end = false; epilogue_begin = false; discriminator = 0 })

-- an instruction, its row, and the registers after it
abbrev pub step_of : LineHeader → Operation → ℕ → Row → Step
step_of h operation next r =
    if makes_row operation then (record { row = Some r; registers = settled h.is_statement r; next = next })
    else (record { row = None; registers = r; next = next })

-- the instruction at a place
unfoldable pub step : LineHeader → List ℕ → ℕ → Row → Result Step Fault
step h bytes at r = operation h bytes at >>= λ d.
    or_fault (done h.instruction_bytes d.operation r) (Line at) >>= λ s. Ok (step_of h d.operation d.next s)
