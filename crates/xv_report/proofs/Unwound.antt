-- The return addresses that a table of call frames tells, one call after another.
use Rattle.std.proofs.Common.{◌≡◌, ℕ, zero, suc, ◌-◌, ◌<◌, List, [], ◌∷◌, ◌++◌, append_assoc, append-nil, Option, None, Some, refl, sym, ap, ◌∙◌, arith}
use Rattle.kernel_spec.specs.views.State.{State}
use Rattle.dwarf.specs.AllFrames.{rules_at}
use Rattle.dwarf.specs.Frames.{FramesOf}
use Rattle.dwarf.specs.declared.frame.FrameRules.{FrameRules}
use Rattle.xv_report.specs.Unwound.{and_on, caller_by, unwound_from}
use Rattle.xv_report.specs.declared.unwinding.Activation.{Activation}

module _ (tables : List FramesOf) (s : State) (p : ℕ) (a : Activation) where
  -- as long as none is wanted, and if none is told
  pub none-wanted : (items : List ℕ) (most : ℕ) → most ≡ 0 → items ≡ items ++ unwound_from most tables s p a
  unfolding unwound_from
  none-wanted items zero is = sym (append-nil items)
  none-wanted items (suc n) is = absurd (omega (arith, is))

  none-from : (most : ℕ) → caller_by s p a (rules_at a.at tables) ≡ None → unwound_from most tables s p a ≡ []
  unfolding unwound_from
  none-from zero is = refl
  none-from (suc n) is = ap (λ o. and_on o (λ caller. unwound_from n tables s p caller)) is

  pub none-called : (items : List ℕ) (most : ℕ) (rules : Option FrameRules) → rules ≡ rules_at a.at tables → caller_by s p a rules ≡ None → items ≡ items ++ unwound_from most tables s p a
  none-called items most rules held none =
      sym (ap (λ xs. items ++ xs) (none-from most (ap (caller_by s p a) (sym held) ∙ none)) ∙ append-nil items)

  one-from : (most : ℕ) (c : Activation) → 0 < most → caller_by s p a (rules_at a.at tables) ≡ Some c → unwound_from most tables s p a ≡ c.pc ∷ unwound_from (most - 1) tables s p c
  unfolding unwound_from
  one-from zero c some is = absurd (omega arith)
  one-from (suc n) c some is =
      let less : suc n - 1 ≡ n = omega arith in
      ap (λ o. and_on o (λ caller. unwound_from n tables s p caller)) is ∙ ap (λ k. c.pc ∷ unwound_from k tables s p c) (sym less)

  pub one-called : (items pushed after : List ℕ) (most : ℕ) (rules : Option FrameRules) (c : Activation) → 0 < most → rules ≡ rules_at a.at tables → caller_by s p a rules ≡ Some c
      → pushed ≡ items ++ c.pc ∷ [] → after ≡ pushed ++ unwound_from (most - 1) tables s p c → after ≡ items ++ unwound_from most tables s p a
  one-called items pushed after most rules c some held is one more =
      let rest = unwound_from (most - 1) tables s p c in
      let first : unwound_from most tables s p a ≡ c.pc ∷ rest = one-from most c some (ap (caller_by s p a) (sym held) ∙ is) in
      more ∙ ap (λ xs. xs ++ rest) one ∙ append_assoc items (c.pc ∷ []) rest ∙ sym (ap (λ xs. items ++ xs) first)
