-- Worked cases of calls by their numbers.
use Rattle.std.proofs.Common.{◌≡◌, ℕ, true, false, List, [], ◌∷◌, None, Some, refl}
use Rattle.std.specs.Prelude.{pos, negsuc}
use Rattle.kernel_spec.specs.views.State.{State}
use Rattle.dwarf.specs.Frames.{FramesOf}
use Rattle.dwarf.specs.declared.frame.Base.TheVariants as bases
use Rattle.dwarf.specs.declared.frame.FrameRules.{FrameRules}
use Rattle.dwarf.specs.declared.frame.Rule.{Rule}
use Rattle.dwarf.specs.declared.frame.Rule.TheVariants as rules
use Rattle.xv_report.specs.Callers.{double_at, is_return}
use Rattle.xv_report.specs.Numbered.{ancestor, guessed, in_ra, or_ra, register_in, told}
use Rattle.xv_report.specs.declared.numbered.NumberedCall.{NumberedCall}
use Rattle.xv_report.specs.declared.unwinding.Activation.{Activation}

-- ---- the addresses of calls that are guessed

by_frames : or_ra (0x90 ∷ 8 ∷ []) (Some 0x44) ≡ 0x90 ∷ 8 ∷ []
by_frames = refl

by_ra_alone : or_ra [] (Some 0x44) ≡ 0x44 ∷ []
by_ra_alone = refl

by_nothing : or_ra [] None ≡ []
by_nothing = refl

ra_is_the_first : in_ra (Some 0x44) 0 ≡ Some 0x44
ra_is_the_first = refl

ra_is_no_second : in_ra (Some 0x44) 1 ≡ None
ra_is_no_second = refl

-- ---- one call

abbrev caller : Activation
caller = record { pc = 0x90; at = 0x8C; sp = 0x2F10; s0 = None; ra = None }

by_table : told false (Some caller) ≡ Some (record { pc = 0x90; activation = Some caller; is_guess = false })
by_table = refl

by_guess : guessed (Some 0x44) ≡ Some (record { pc = 0x44; activation = None; is_guess = true })
by_guess = refl

its_stack_pointer : register_in (record { pc = 0x90; activation = Some caller; is_guess = false }) 2 ≡ Some 0x2F10
its_stack_pointer = refl

-- what the function that it called may have used
not_kept : register_in (record { pc = 0x90; activation = Some caller; is_guess = false }) 9 ≡ None
not_kept = refl

not_told : register_in (record { pc = 0x90; activation = None; is_guess = true }) 2 ≡ None
not_told = refl

-- ---- the calls by their numbers

module _ (s : State) (p : ℕ) where
  -- a function at 0x40 was called by one at 0x80, and keeps ra 8 below its caller's part of the stack. Both have made 16 bytes
  abbrev last : Activation
  last = record { pc = 0x44; at = 0x44; sp = 0x2F00; s0 = Some 7; ra = Some 0x90 }

  abbrev kept : Rule → FrameRules
  kept s0 = record { base = bases.Register 2 (pos 16); ra = rules.AtOffset (negsuc 7); s0 = s0 }

  abbrev tables : List FramesOf
  tables = (0x40, 0x20, (record { address = 0x40; rules = kept rules.Unset }) ∷ []) ∷ (0x80, 0x20, (record { address = 0x80; rules = kept (rules.AtOffset (negsuc 15)) }) ∷ []) ∷ []

  itself : ancestor 0 tables s p last ≡ Some last
  unfolding ancestor
  itself = refl

  its_caller : double_at s p 0x2F08 ≡ Some 0x90 → is_return s p 0x90 ≡ true → ancestor 1 tables s p last ≡ Some (record { pc = 0x90; at = 0x8C; sp = 0x2F10; s0 = Some 7; ra = None })
  unfolding ancestor
  its_caller ra call = rw (ra, call) refl

  the_caller_of_that : double_at s p 0x2F08 ≡ Some 0x90 → is_return s p 0x90 ≡ true → double_at s p 0x2F18 ≡ Some 8 → double_at s p 0x2F10 ≡ Some 9 → is_return s p 8 ≡ true
      → ancestor 2 tables s p last ≡ Some (record { pc = 8; at = 4; sp = 0x2F20; s0 = Some 9; ra = None })
  unfolding ancestor
  the_caller_of_that ra call next s0 begin = rw (ra, call, next, s0, begin) refl

  no_more : double_at s p 0x2F08 ≡ Some 0x90 → is_return s p 0x90 ≡ true → double_at s p 0x2F18 ≡ Some 8 → double_at s p 0x2F10 ≡ Some 9 → is_return s p 8 ≡ true → ancestor 3 tables s p last ≡ None
  unfolding ancestor
  no_more ra call next s0 begin = rw (ra, call, next, s0, begin) refl
