-- Whether a process has a child, slot by slot.
use Rattle.std.proofs.Common.{◌≡◌, ℕ, ◌<◌, ◌||◌, Bool, true, false, List, [], ◌∷◌, Option, Some, None, refl, sym, ap, ◌∙◌}
use Rattle.std.specs.Prelude.{IsSome, is_some, nat_eq}
use Rattle.std.specs.List.{list_any}
use Rattle.std.specs.FinMap.{get, keys}
use Rattle.std.proofs.lemmas.Bool.{eq-eqb, eqb-true, or_right}
use Rattle.xk_base.specs.declared.limits.TheConstants.{NPROC}
use Rattle.kernel_spec.specs.views.Processes.{Live, Process}
use Rattle.kernel_spec.specs.views.State.{State, live}
use Rattle.kernel_spec.specs.views.View.{child_of}
use Rattle.kernel_spec.specs.views.WellFormed.{HasSlots}
use Rattle.kernel_spec.specs.runs.Run.{World}
use Rattle.kernel_spec.proofs.turns.KeepsSlots.{listed}
use Rattle.kcall_core.specs.Observers.{child_at, if_live}
use Rattle.call_reasons.specs.Shown.{HasNoChildIn, has_child_in}

-- ---- lists of numbers

abbrev among : ℕ → List ℕ → Bool
among k ks = list_any (nat_eq k) ks

any_found : (test : ℕ → Bool) (ks : List ℕ) (k : ℕ) → among k ks ≡ true → test k ≡ true → list_any test ks ≡ true
any_found test [] k there passes = let no : ⊥ = cc in absurd no
any_found test (q ∷ ks) k there passes = by (nat_eq k q) refl there (any_found test ks k)
  where
    by : (b : Bool) → nat_eq k q ≡ b → (b || among k ks) ≡ true → (among k ks ≡ true → test k ≡ true → list_any test ks ≡ true) → (test q || list_any test ks) ≡ true
    by true same there rest = ap (λ b. b || list_any test ks) (sym (ap test (eqb-true k q same)) ∙ passes)
    by false other there rest = or_right (test q) (list_any test ks) (rest there passes)

none_found : (test : ℕ → Bool) (ks : List ℕ) → ((k : ℕ) → among k ks ≡ true → test k ≡ false) → list_any test ks ≡ false
none_found test [] fails = refl
none_found test (q ∷ ks) fails =
    ap (λ b. b || list_any test ks) (fails q (ap (λ b. b || among q ks) (eq-eqb q q refl)))
    ∙ none_found test ks (λ k there. fails k (or_right (nat_eq k q) (among k ks) there))

-- ---- children

-- a child is a process
is_process : (s : State) (p q : ℕ) → is_some (child_at s p q) ≡ true → is_some (get s.processes q) ≡ true
is_process s p q child = by (live s p) (get s.processes q) child
  where
    by : (o : Option Live) (x : Option Process) → is_some (if_live o (child_of p x)) ≡ true → is_some x ≡ true
    by None x e = let no : ⊥ = cc in absurd no
    by (Some l) None e = let no : ⊥ = cc in absurd no
    by (Some l) (Some x) e = refl

pub child_found : (s : State) (p q : ℕ) → is_some (child_at s p q) ≡ true → has_child_in s p ≡ true
child_found s p q child = any_found (λ k. is_some (child_at s p k)) (keys s.processes) q (listed s.processes q ∙ is_process s p q child) child

pub no_child : (w : World) (p : ℕ) → HasSlots w.state w.turns → ((slot : ℕ) → slot < NPROC → HasNoChildIn w p slot) → has_child_in w.state p ≡ false
no_child w p slots none = none_found (λ k. is_some (child_at w.state p k)) (keys w.state.processes)
    (λ q there. by q (get w.turns.slots q) refl (slots.some q (sym (listed w.state.processes q) ∙ there)))
  where
    by : (q : ℕ) (o : Option ℕ) → get w.turns.slots q ≡ o → IsSome o → is_some (child_at w.state p q) ≡ false
    by q None is some = let no : ⊥ = cc in absurd no
    by q (Some slot) is some = none slot (slots.below q slot is) q is
