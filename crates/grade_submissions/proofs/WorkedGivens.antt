-- Worked cases of what calls were given.
use Rattle.std.specs.Prelude.{◌≡◌, ℕ, pos, negsuc, None, Some, refl}
use Rattle.file_table.specs.declared.open_file.End.TheVariants.{Reading, Writing}
use Rattle.file_table.specs.declared.open_file.Target.TheVariants as target
use Rattle.kernel_spec.specs.runs.Run.{World, Step_of}
use Rattle.kernel_spec.specs.steps.Own.{Called, Blocked, Stepped}
use Rattle.kernel_spec.specs.views.State.{State}
use Rattle.kernel_calls.specs.Table.{call_at}
use Rattle.kernel_calls.specs.declared.argument.Argument.TheVariants as argument
use Rattle.grade_rules.specs.declared.given.Given.{Given}
use Rattle.grade_rules.specs.declared.given.Thing.TheVariants.{Nothing, File, ReadEnd, WriteEnd}
use Rattle.grade_rules.specs.declared.note.Note.TheVariants as note
use Rattle.grade_submissions.specs.Givens.{argument_of, taken, thing_of, thing_on, target_named, target_given, byte_or_none, nothing_given, given_by}
use Rattle.grade_submissions.specs.Pipes.{Made}
use Rattle.grade_submissions.specs.Plays.{note_with}

-- close takes a descriptor, and nothing else; no call has number 99
takes_a_descriptor : argument_of (pos 21) 0 ≡ Some argument.Descriptor
unfolding call_at
takes_a_descriptor = refl

takes_no_more : argument_of (pos 21) 1 ≡ None
unfolding call_at
takes_no_more = refl

takes_nothing : argument_of (pos 99) 0 ≡ None
unfolding call_at
takes_nothing = refl

-- of a register that holds 2^32 + 3 a descriptor is 3, and of one that holds 2^32 - 1 it is -1; an address is the whole
low_half : taken (Some argument.Descriptor) 4294967299 ≡ pos 3
low_half = refl

below_none : taken (Some argument.Count) 4294967295 ≡ negsuc 0
below_none = refl

whole : taken (Some argument.Buffer) 4294967299 ≡ pos 4294967299
whole = refl

not_taken : taken None 7 ≡ pos 0
not_taken = refl

-- what a descriptor names
of_a_read_end : thing_of (target.Pipe 12 Reading) ≡ ReadEnd
of_a_read_end = refl

of_a_write_end : thing_of (target.Pipe 12 Writing) ≡ WriteEnd
of_a_write_end = refl

of_a_file : thing_of (target.Program 0 512) ≡ File
of_a_file = refl

-- a process has descriptors 0 to 31
too_high : (s : State) (p : ℕ) → target_named s p (pos 32) ≡ None
too_high s p = refl

below_zero : (s : State) (p : ℕ) → target_named s p (negsuc 0) ≡ None
below_zero s p = refl

-- a status is no descriptor, whatever number it is
no_descriptor : (s : State) (p : ℕ) → target_given s p (Some argument.ExitStatus) 1 ≡ None
no_descriptor s p = refl

of_nothing : thing_on None ≡ Nothing
of_nothing = refl

-- a letter, and none
a_letter : byte_or_none (Some 65) ≡ pos 65
a_letter = refl

no_letter : byte_or_none None ≡ negsuc 0
no_letter = refl

-- nobody gives nothing
nobody : (made : Made) (w : World) → given_by made w None ≡ nothing_given
nobody made w = refl

-- the note of a call, and of a sleep in one, has what it was given; an instruction has no note
of_a_call : (given : Given) → note_with given (Step_of 2 (Called (pos 5) (pos 0))) ≡ Some (note.Called 2 (pos 5) (pos 0) given)
of_a_call given = refl

of_a_sleep : (given : Given) → note_with given (Step_of 2 (Blocked (pos 5))) ≡ Some (note.Blocked 2 (pos 5) given)
of_a_sleep given = refl

of_an_instruction : (given : Given) → note_with given (Step_of 2 Stepped) ≡ None
of_an_instruction given = refl
