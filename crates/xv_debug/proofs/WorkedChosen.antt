-- Worked cases of which call words look at.
use Rattle.std.proofs.Common.{◌≡◌, ℕ, true, false, List, codes, None, Some, refl}
use Rattle.std.specs.Fmt.{digits}
use Rattle.kernel_spec.specs.views.State.{State}
use Rattle.rv64i_core.specs.Registers.{Registers}
use Rattle.dwarf.specs.Frames.{FramesOf}
use Rattle.xv_debug.specs.declared.frame_words.Choice.TheVariants.{Up, Down, Frame}
use Rattle.xv_debug.specs.Chosen.{address_in, chosen, left, none, number_after, number_of, registers_in, seen_call, unreached, unreached_text}
use Rattle.xv_debug.specs.declared.choosing.SeenCall.TheVariants.{Last, Caller}
use Rattle.xv_debug.specs.declared.choosing.Unreached.TheVariants.{Initial, Bottom, Level}
use Rattle.xv_report.specs.declared.numbered.NumberedCall.{NumberedCall}

-- ---- how long a call is looked at: call 2 of process 1, after 29 events

while_nothing_comes : number_of (chosen 1 29 2) 1 29 ≡ 2
while_nothing_comes = refl

after_an_event : number_of (chosen 1 29 2) 1 30 ≡ 0
after_an_event = refl

of_another_process : number_of (chosen 1 29 2) 2 29 ≡ 0
of_another_process = refl

of_none : number_of none 1 0 ≡ 0
of_none = refl

left_after_a_word_that_looks : left 29 29 (chosen 1 29 2) ≡ chosen 1 29 2
left_after_a_word_that_looks = refl

left_after_a_step : left 29 30 (chosen 1 29 2) ≡ none
left_after_a_step = refl

left_after_a_way_back : left 29 28 (chosen 1 29 2) ≡ none
left_after_a_way_back = refl

-- ---- the call after a word, of calls 0 to 3

up : number_after (Up None) 3 1 ≡ 2
up = refl

up_two : number_after (Up (Some 2)) 3 1 ≡ 3
up_two = refl

up_too_far : number_after (Up (Some 9)) 3 1 ≡ 3
up_too_far = refl

up_from_the_first : number_after (Up None) 3 3 ≡ 3
up_from_the_first = refl

down : number_after (Down None) 3 2 ≡ 1
down = refl

down_too_far : number_after (Down (Some 9)) 3 2 ≡ 0
down_too_far = refl

to_a_level : number_after (Frame (Some 3)) 3 1 ≡ 3
to_a_level = refl

to_no_level : number_after (Frame (Some 4)) 3 1 ≡ 1
to_no_level = refl

to_itself : number_after (Frame None) 3 1 ≡ 1
to_itself = refl

-- ---- when it is told that there is no other one

no_call_above : unreached (Up None) 3 3 ≡ Some Initial
no_call_above = refl

a_call_above : unreached (Up None) 3 2 ≡ None
a_call_above = refl

as_far_as_there_are : unreached (Up (Some 9)) 3 3 ≡ None
as_far_as_there_are = refl

no_call_below : unreached (Down None) 3 0 ≡ Some Bottom
no_call_below = refl

a_call_below : unreached (Down None) 3 1 ≡ None
a_call_below = refl

no_level : unreached (Frame (Some 4)) 3 1 ≡ Some (Level 4)
no_level = refl

the_first_level : unreached (Frame (Some 3)) 3 1 ≡ None
the_first_level = refl

itself : unreached (Frame None) 3 1 ≡ None
itself = refl

it_is_told_as_gdb_does : unreached_text (Level 4) ≡ codes "No frame at level 4.\n"
unfolding digits
it_is_told_as_gdb_does = refl

-- ---- what is seen of it

module _ (tables : List FramesOf) (s : State) (p : ℕ) (regs : Registers) where
  the_last_call : seen_call 0 tables s p ≡ Some Last
  the_last_call = refl

  abbrev caller : NumberedCall
  caller = record { pc = 0x90; activation = Some (record { pc = 0x90; at = 0x8C; sp = 0x2F10; s0 = None; ra = None }); is_guess = false }

  it_stands_in_its_call : address_in regs (Caller caller) ≡ 0x8F
  it_stands_in_its_call = refl

  the_last_one_is_at_the_pc : address_in regs Last ≡ regs.pc
  the_last_one_is_at_the_pc = refl

  its_stack_pointer : registers_in regs (Caller caller) 2 ≡ Some 0x2F10
  its_stack_pointer = refl

  what_was_not_kept : registers_in regs (Caller caller) 9 ≡ None
  what_was_not_kept = refl
