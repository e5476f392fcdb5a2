-- Worked cases of calls by a table of call frames.
use Rattle.std.proofs.Common.{◌≡◌, ℕ, true, false, List, [], ◌∷◌, None, Some, refl}
use Rattle.std.specs.Prelude.{pos, negsuc}
use Rattle.kernel_spec.specs.views.State.{State}
use Rattle.dwarf.specs.Frames.{FramesOf}
use Rattle.dwarf.specs.declared.frame.Base.TheVariants as bases
use Rattle.dwarf.specs.declared.frame.FrameRules.{FrameRules}
use Rattle.dwarf.specs.declared.frame.Rule.{Rule}
use Rattle.dwarf.specs.declared.frame.Rule.TheVariants as rules
use Rattle.xv_report.specs.Callers.{double_at, is_return}
use Rattle.xv_report.specs.Unwound.{caller_by, caller_in_ra, cfa_by, is_above, register_of, shifted, unwound_from, value_by}
use Rattle.xv_report.specs.declared.unwinding.Activation.{Activation}

-- a function that was called last, and one that has called
abbrev last : Activation
last = record { pc = 0x44; at = 0x44; sp = 0x2F00; s0 = Some 7; ra = Some 0x90 }

abbrev caller : Activation
caller = record { pc = 0x90; at = 0x8C; sp = 0x2F10; s0 = None; ra = None }

by_number : register_of last 1 ≡ Some 0x90
by_number = refl

not_followed : register_of last 9 ≡ None
not_followed = refl

sixteen_above_sp : cfa_by last (bases.Register 2 (pos 16)) ≡ Some 0x2F10
sixteen_above_sp = refl

at_s0 : cfa_by last (bases.Register 8 (pos 0)) ≡ Some 7
at_s0 = refl

s0_is_not_known : cfa_by caller (bases.Register 8 (pos 0)) ≡ None
s0_is_not_known = refl

eight_below : shifted 0x2F10 (negsuc 7) ≡ 0x2F08
eight_below = refl

-- a frame begins where its function's part of the stack begins only while ra has the return address
no_frame_yet : is_above last 0x2F00 ≡ true
no_frame_yet = refl

no_frame_of_a_caller : is_above caller 0x2F10 ≡ false
no_frame_of_a_caller = refl

frame_of_a_caller : is_above caller 0x2F20 ≡ true
frame_of_a_caller = refl

frame_below : is_above last 0x2EF0 ≡ false
frame_below = refl

module _ (s : State) (p : ℕ) where
  -- what isn't told is still there, what is lost isn't
  not_told : value_by s p last 0x2F10 (Some 7) rules.Unset ≡ Some 7
  not_told = refl

  lost : value_by s p last 0x2F10 (Some 7) rules.Undefined ≡ None
  lost = refl

  in_another_register : value_by s p last 0x2F10 (Some 7) (rules.InRegister 1) ≡ Some 0x90
  in_another_register = refl

  in_memory : double_at s p 0x2F08 ≡ Some 5 → value_by s p last 0x2F10 (Some 7) (rules.AtOffset (negsuc 7)) ≡ Some 5
  in_memory there = there

  -- numbers of eight bytes lie at their multiples
  between_two : value_by s p last 0x2F10 (Some 7) (rules.AtOffset (negsuc 3)) ≡ None
  between_two = refl

  -- A function at 0x40 keeps ra 8 below its caller's part, and one at 0x80 keeps s0 too, 16 below. Both have made 16 bytes
  abbrev kept : Rule → FrameRules
  kept s0 = record { base = bases.Register 2 (pos 16); ra = rules.AtOffset (negsuc 7); s0 = s0 }

  abbrev tables : List FramesOf
  tables = (0x40, 0x20, (record { address = 0x40; rules = kept rules.Unset }) ∷ []) ∷ (0x80, 0x20, (record { address = 0x80; rules = kept (rules.AtOffset (negsuc 15)) }) ∷ []) ∷ []

  its_caller : double_at s p 0x2F08 ≡ Some 0x90 → is_return s p 0x90 ≡ true
      → caller_by s p last (Some (kept rules.Unset)) ≡ Some (record { pc = 0x90; at = 0x8C; sp = 0x2F10; s0 = Some 7; ra = None })
  its_caller ra call = rw (ra, call) refl

  -- no call stands before the address
  no_call : double_at s p 0x2F08 ≡ Some 0x90 → is_return s p 0x90 ≡ false → caller_by s p last (Some (kept rules.Unset)) ≡ None
  no_call ra call = rw (ra, call) refl

  -- up to an address of which the table knows nothing
  both : double_at s p 0x2F08 ≡ Some 0x90 → is_return s p 0x90 ≡ true → double_at s p 0x2F18 ≡ Some 8 → double_at s p 0x2F10 ≡ Some 9 → is_return s p 8 ≡ true
      → unwound_from 64 tables s p last ≡ 0x90 ∷ 8 ∷ []
  unfolding unwound_from
  both ra call next s0 begin = rw (ra, call, next, s0, begin) refl

  -- so many at most
  first_alone : double_at s p 0x2F08 ≡ Some 0x90 → is_return s p 0x90 ≡ true → unwound_from 1 tables s p last ≡ 0x90 ∷ []
  unfolding unwound_from
  first_alone ra call = rw (ra, call) refl

  -- of a function without rules the caller is the one in ra, if that has rules
  by_ra : is_return s p 0x90 ≡ true → caller_in_ra tables s p last ≡ Some (record { pc = 0x90; at = 0x8C; sp = 0x2F00; s0 = Some 7; ra = None })
  by_ra call = rw call refl

  by_ra_without_rules : is_return s p 0x90 ≡ true → caller_in_ra [] s p last ≡ None
  by_ra_without_rules call = rw call refl
