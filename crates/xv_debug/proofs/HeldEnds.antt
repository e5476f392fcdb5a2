-- The processes that hold an end of a pipe, slot by slot.
use Rattle.std.proofs.Common.{◌≡◌, ℕ, suc, ◌+◌, inl, inr, Bool, true, false, List, [], ◌∷◌, ◌++◌, refl, sym, ◌∙◌, ap, append-nil, subst, arith}
use Rattle.std.specs.Prelude.{if◌then◌else◌}
use Rattle.file_table.specs.declared.open_file.End.{End}
use Rattle.kernel_spec.specs.runs.Run.{World}
use Rattle.kernel_spec.specs.waking.Turns.{HasSlot, IsFreeSlot}
use Rattle.xv_report.specs.Waits.{holds_end}
use Rattle.xv_debug.specs.PipeText.{AddsHolder, AreHolders}

-- ---- the process in a slot

pub nobody_there : (w : World) (f : ℕ) (end : End) (slot : ℕ) (pids : List ℕ) → IsFreeSlot w.turns slot → AddsHolder w f end slot pids pids
nobody_there w f end slot pids free = inl (free, refl)

pub not_held : (w : World) (f : ℕ) (end : End) (slot p : ℕ) (pids : List ℕ) → HasSlot w.turns p slot → holds_end w.state p f end ≡ false → AddsHolder w f end slot pids pids
not_held w f end slot p pids has holds = inr (p, has, sym (append-nil pids) ∙ ap (λ (b : Bool). pids ++ (if b then p ∷ [] else [])) (sym holds))

pub held : (w : World) (f : ℕ) (end : End) (slot p : ℕ) (before pids : List ℕ)
    → HasSlot w.turns p slot → holds_end w.state p f end ≡ true → pids ≡ before ++ p ∷ [] → AddsHolder w f end slot before pids
held w f end slot p before pids has holds put = inr (p, has, put ∙ ap (λ (b : Bool). before ++ (if b then p ∷ [] else [])) (sym holds))

-- ---- those in the first slots

pub no-holders : (w : World) (f : ℕ) (end : End) (pids : List ℕ) → pids ≡ [] → AreHolders w f end 0 pids
unfolding AreHolders
no-holders w f end pids none = none

pub holders-more : (w : World) (f : ℕ) (end : End) (slot : ℕ) (before pids : List ℕ) → AreHolders w f end slot before → AddsHolder w f end slot before pids → AreHolders w f end (slot + 1) pids
unfolding AreHolders
holders-more w f end slot before pids are adds =
    let next : suc slot ≡ slot + 1 = omega arith in
    subst (λ n. AreHolders w f end n pids) next (before, are, adds)
