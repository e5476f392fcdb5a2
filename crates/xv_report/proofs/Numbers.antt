-- The calls by their numbers are those that are listed.
use Rattle.std.proofs.Common.{◌≡◌, ℕ, zero, suc, ◌+◌, ◌-◌, ◌<◌, ◌≤◌, ◌≢◌, Bool, true, false, cond, List, [], ◌∷◌, Option, None, Some, refl, sym, ap, ◌∙◌, arith}
use Rattle.std.proofs.lemmas.Bool.{lt-ltb, le-leb, ne_eqb}
use Rattle.std.specs.Prelude.{nat_le, option_map, slice_get}
use Rattle.rv64i_core.specs.Registers.{Registers, reg}
use Rattle.kernel_spec.specs.views.State.{State}
use Rattle.dwarf.specs.AllFrames.{rules_at}
use Rattle.dwarf.specs.Frames.{FramesOf}
use Rattle.dwarf.specs.declared.frame.FrameRules.{FrameRules}
use Rattle.xv_report.specs.CallLaws.{IsListed}
use Rattle.xv_report.specs.Callers.{RA, frames_told, return_in}
use Rattle.xv_report.specs.Numbered.{and_then, ancestor, caller_at, caller_by_kind, guessed, guessed_at, numbered, or_ra, returns_of, told}
use Rattle.xv_report.specs.Reports.{AreCallersWith, AreCallsBy}
use Rattle.xv_report.specs.Unwound.{and_on, caller_by, caller_in_ra, innermost, unwound_from}
use Rattle.xv_report.specs.declared.callers.Callers.{Callers}
use Rattle.xv_report.specs.declared.callers.TheConstants.{CALLERS_MAX}
use Rattle.xv_report.specs.declared.numbered.NumberedCall.{NumberedCall}
use Rattle.xv_report.specs.declared.unwinding.Activation.{Activation}
use Rattle.xv_report.specs.declared.unwinding.Calls.{Calls}
use Rattle.xv_report.specs.declared.unwinding.Calls.TheVariants.{Known, FromRa, Guessed}

abbrev pub goes_on : Option Activation → Option ℕ
goes_on o = option_map (λ (a : Activation). a.pc) o

abbrev pub call_goes_on : Option NumberedCall → Option ℕ
call_goes_on o = option_map (λ (c : NumberedCall). c.pc) o

-- ---- the function that finds a call

module _ (tables : List FramesOf) (s : State) (p : ℕ) (a : Activation) where
  pub itself : (number : ℕ) → number ≡ 0 → Some a ≡ ancestor number tables s p a
  unfolding ancestor
  itself zero is = refl
  itself (suc n) is = absurd (omega (arith, is))

  one-ancestor : (number : ℕ) → 0 < number → ancestor number tables s p a ≡ and_then (caller_by s p a (rules_at a.at tables)) (λ caller. ancestor (number - 1) tables s p caller)
  unfolding ancestor
  one-ancestor zero some = absurd (omega arith)
  one-ancestor (suc n) some =
      let less : suc n - 1 ≡ n = omega arith in
      ap (λ k. and_then (caller_by s p a (rules_at a.at tables)) (λ caller. ancestor k tables s p caller)) (sym less)

  -- there is no caller
  pub none-ancestor : (number : ℕ) (rules : Option FrameRules) → 0 < number → rules ≡ rules_at a.at tables → caller_by s p a rules ≡ None → None ≡ ancestor number tables s p a
  none-ancestor number rules some held none =
      sym (one-ancestor number some ∙ ap (λ o. and_then o (λ caller. ancestor (number - 1) tables s p caller)) (ap (caller_by s p a) (sym held) ∙ none))

  -- or it goes on from the caller
  pub from-caller : (number : ℕ) (rules : Option FrameRules) (c : Activation) (found : Option Activation) → 0 < number → rules ≡ rules_at a.at tables → caller_by s p a rules ≡ Some c
      → found ≡ ancestor (number - 1) tables s p c → found ≡ ancestor number tables s p a
  from-caller number rules c found some held is rest =
      rest ∙ sym (one-ancestor number some ∙ ap (λ o. and_then o (λ caller. ancestor (number - 1) tables s p caller)) (ap (caller_by s p a) (sym held) ∙ is))

-- ---- the law

module _ (tables : List FramesOf) (s : State) (p : ℕ) where
  first-listed : (o : Option Activation) (most : ℕ) → goes_on (and_then o (λ c. Some c)) ≡ slice_get (and_on o (λ c. unwound_from most tables s p c)) 0
  first-listed None most = refl
  first-listed (Some c) most = refl

  next-listed : (o : Option Activation) (place most : ℕ) → ((c : Activation) → goes_on (ancestor (suc place) tables s p c) ≡ slice_get (unwound_from most tables s p c) place)
      → goes_on (and_then o (λ c. ancestor (suc place) tables s p c)) ≡ slice_get (and_on o (λ c. unwound_from most tables s p c)) (suc place)
  next-listed None place most rest = refl
  next-listed (Some c) place most rest = rest c

  -- the call after a place goes on at the return address there
  listed : (place most : ℕ) (a : Activation) → place < most → goes_on (ancestor (suc place) tables s p a) ≡ slice_get (unwound_from most tables s p a) place
  unfolding ancestor unwound_from
  listed place zero a low = absurd (omega (arith, low))
  listed zero (suc most) a low = first-listed (caller_by s p a (rules_at a.at tables)) most
  listed (suc place) (suc most) a low = next-listed (caller_by s p a (rules_at a.at tables)) place most (λ c. listed place most c (omega (arith, low)))

  from-listed : (place most : ℕ) (c : Activation) → place < suc most → goes_on (ancestor place tables s p c) ≡ slice_get (c.pc ∷ unwound_from most tables s p c) place
  unfolding ancestor
  from-listed zero most c low = refl
  from-listed (suc place) most c low = listed place most c (omega (arith, low))

told-goes-on : (is_guess : Bool) (o : Option Activation) → call_goes_on (told is_guess o) ≡ goes_on o
told-goes-on is_guess None = refl
told-goes-on is_guess (Some a) = refl

guess-goes-on : (o : Option ℕ) → call_goes_on (guessed o) ≡ o
guess-goes-on None = refl
guess-goes-on (Some address) = refl

module _ (tables : List FramesOf) (s : State) (p : ℕ) (regs : Registers) (place : ℕ) (low : place < CALLERS_MAX) where
  one-on : (a : Activation) → ancestor (place + 1) tables s p a ≡ ancestor (suc place) tables s p a
  one-on a = let more : place + 1 ≡ suc place = omega arith in ap (λ n. ancestor n tables s p a) more

  by-kind : (rules : Option FrameRules) (in_ra : Option Activation) (calls : Calls) → AreCallsBy rules in_ra tables s p regs calls
      → call_goes_on (caller_by_kind rules in_ra place tables s p regs) ≡ slice_get (returns_of calls) place
  by-kind (Some rules) in_ra (Known addresses) is =
      told-goes-on false (ancestor (place + 1) tables s p (innermost regs)) ∙ ap goes_on (one-on (innermost regs)) ∙ listed tables s p place CALLERS_MAX (innermost regs) low
      ∙ sym (ap (λ xs. slice_get xs place) is)
  by-kind (Some rules) in_ra (FromRa addresses) is = absurd is
  by-kind (Some rules) in_ra (Guessed callers) is = absurd is
  by-kind None (Some caller) (FromRa addresses) is =
      told-goes-on true (ancestor place tables s p caller) ∙ from-listed tables s p place (CALLERS_MAX - 1) caller (omega (arith, low)) ∙ sym (ap (λ xs. slice_get xs place) is)
  by-kind None (Some caller) (Known addresses) is = absurd is
  by-kind None (Some caller) (Guessed callers) is = absurd is
  by-kind None None (Guessed callers) is =
      guess-goes-on (slice_get (or_ra (frames_told s p regs) (return_in s p (reg regs RA))) place)
      ∙ sym (ap (λ xs. slice_get (or_ra xs callers.ra) place) is.frames ∙ ap (λ ra. slice_get (or_ra (frames_told s p regs) ra) place) is.ra)
  by-kind None None (Known addresses) is = absurd is
  by-kind None None (FromRa addresses) is = absurd is

  -- a number that isn't 0, and within the limit
  is-caller : numbered (place + 1) tables s p regs ≡ caller_at place tables s p regs
  is-caller =
      let more : place + 1 ≢ 0 = omega arith in
      let within : place + 1 ≤ CALLERS_MAX = omega (arith, low) in
      let less : place + 1 - 1 ≡ place = omega arith in
      ap (λ b. cond b (told false (Some (innermost regs))) (cond (nat_le (place + 1) CALLERS_MAX) (caller_at (place + 1 - 1) tables s p regs) None)) (ne_eqb (place + 1) 0 more)
      ∙ ap (λ b. cond b (caller_at (place + 1 - 1) tables s p regs) None) (le-leb (place + 1) CALLERS_MAX within)
      ∙ ap (λ n. caller_at n tables s p regs) less

pub is-listed : IsListed
is-listed tables s p regs calls place are low =
    ap call_goes_on (is-caller tables s p regs place low) ∙ by-kind tables s p regs place low (rules_at regs.pc tables) (caller_in_ra tables s p (innermost regs)) calls are
