-- What a kernel call was given, told of the machine before a step of it (RISC-V Calling Conventions, "Integer Register Convention"; the xv6 book, "Operating system interfaces").
use Rattle.std.specs.Prelude.{ℕ, ℤ, pos, negsuc, ◌&&◌, if◌then◌else◌, int_le, nat_lt, slice_get, Option, None, Some}
use Rattle.std.specs.Int.{cast_signed, w64}
use Rattle.std.specs.Ordering.{int_eq}
use Rattle.xk_base.specs.declared.limits.TheConstants.{NOFILE}
use Rattle.file_table.specs.declared.open_file.End.{End}
use Rattle.file_table.specs.declared.open_file.End.TheVariants.{Reading, Writing}
use Rattle.file_table.specs.declared.open_file.Target.{Target}
use Rattle.file_table.specs.declared.open_file.Target.TheVariants as target
use Rattle.kernel_spec.specs.runs.Run.{World}
use Rattle.kernel_spec.specs.views.State.{State}
use Rattle.kernel_spec.specs.views.Words.{c_int}
use Rattle.kernel_calls.specs.Arguments.{kind_of}
use Rattle.kernel_calls.specs.Table.{call_at, entry_of}
use Rattle.kernel_calls.specs.declared.argument.Argument.{Argument}
use Rattle.kernel_calls.specs.declared.argument.Argument.TheVariants as argument
use Rattle.kernel_calls.specs.declared.argument.ArgumentKind.{ArgumentKind}
use Rattle.kernel_calls.specs.declared.argument.ArgumentKind.TheVariants as kind
use Rattle.kernel_calls.specs.declared.call.KernelCall.{KernelCall}
use Rattle.kernel_calls.specs.declared.numbers.TheConstants.{WRITE}
use Rattle.kcall_core.specs.Observers.{byte_at, descriptor_of}
use Rattle.kcall_core.specs.declared.kernel.observers.Descriptor.{Descriptor}
use Rattle.call_reasons.specs.Asked.{asked_of}
use Rattle.call_reasons.specs.declared.asked.Asked.{Asked}
use Rattle.grade_rules.specs.declared.given.Given.{Given}
use Rattle.grade_rules.specs.declared.given.Thing.{Thing}
use Rattle.grade_rules.specs.declared.given.Thing.TheVariants.{Nothing, Console, File, ReadEnd, WriteEnd}
use Rattle.grade_submissions.specs.Pipes.{Made, number_on}

-- ---- arguments

-- the argument of a call at a place, counted from 0, if it takes one there
abbrev pub argument_in : Option KernelCall → ℕ → Option Argument
argument_in None place = None
argument_in (Some call) place = slice_get (entry_of call).arguments place

-- so of the call of a number
abbrev pub argument_of : ℤ → ℕ → Option Argument
argument_of number place = argument_in (call_at number) place

-- what a call takes of a register: the low 32 bits as a C int, or the whole as an address
abbrev pub taken_as : ArgumentKind → ℕ → ℤ
taken_as kind.Int register = c_int register
taken_as kind.Descriptor register = c_int register
taken_as kind.Buffer register = cast_signed w64 register
taken_as kind.Text register = cast_signed w64 register
taken_as kind.Texts register = cast_signed w64 register
taken_as kind.TwoDescriptors register = cast_signed w64 register
taken_as kind.Status register = cast_signed w64 register

-- and of an argument that it doesn't take: 0
abbrev pub taken : Option Argument → ℕ → ℤ
taken None register = pos 0
taken (Some argument) register = taken_as (kind_of argument) register

-- ---- what a descriptor names

abbrev pub end_thing : End → Thing
end_thing Reading = ReadEnd
end_thing Writing = WriteEnd

abbrev pub thing_of : Target → Thing
thing_of target.Console = Console
thing_of (target.Program program offset) = File
thing_of (target.Pipe pipe end) = end_thing end

abbrev pub thing_on : Option Target → Thing
thing_on None = Nothing
thing_on (Some target) = thing_of target

-- what a descriptor names
abbrev pub target_on : Option Descriptor → Option Target
target_on None = None
target_on (Some descriptor) = Some descriptor.open_file.target

-- what a number names as a descriptor of process p
abbrev pub target_named : State → (p : ℕ) → ℤ → Option Target
target_named s p (pos d) = if nat_lt d NOFILE then target_on (descriptor_of s p d) else None
target_named s p (negsuc k) = None

-- what the first argument of a call names, if that is a descriptor
abbrev pub target_given : State → (p : ℕ) → Option Argument → (register : ℕ) → Option Target
target_given s p (Some argument.Descriptor) register = target_named s p (c_int register)
target_given s p _ register = None

-- ---- the first byte of a write

abbrev pub byte_or_none : Option ℕ → ℤ
byte_or_none None = negsuc 0
byte_or_none (Some byte) = pos byte

-- the byte at the address that a write of one byte at least was given; -1 if it isn't there, and for any other call
abbrev pub byte_given : State → (p : ℕ) → Asked → ℤ
byte_given s p call = if int_eq call.number WRITE && int_le (pos 1) (c_int call.a2) then byte_or_none (byte_at s p call.a1) else negsuc 0

-- ---- all of it

abbrev pub given_to : Made → State → (p : ℕ) → Asked → Given
given_to made s p call = record {
  first = taken (argument_of call.number 0) call.a0;
  second = taken (argument_of call.number 1) call.a1;
  third = taken (argument_of call.number 2) call.a2;
  byte = byte_given s p call;
  on = thing_on (target_given s p (argument_of call.number 0) call.a0);
  pipe = number_on made (target_given s p (argument_of call.number 0) call.a0);
}

-- what is told where no call is
abbrev pub nothing_given : Given
nothing_given = record { first = pos 0; second = pos 0; third = pos 0; byte = negsuc 0; on = Nothing; pipe = 0 }

abbrev pub given_if : Made → State → (p : ℕ) → Option Asked → Given
given_if made s p None = nothing_given
given_if made s p (Some call) = given_to made s p call

abbrev pub given_by : Made → World → Option ℕ → Given
given_by made w None = nothing_given
given_by made w (Some p) = given_if made w.state p (asked_of w p)

-- what the call of the process that runs was given, in a run that has made these pipes: the call that it is in, with the arguments that it had at its first step; or, if it is in none, the one that its next instruction, if that is an ECALL, begins
abbrev pub given_in : Made → World → Given
given_in made w = given_by made w w.turns.current
