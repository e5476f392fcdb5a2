-- The root's entries for the upper half of the addresses stay clear.
use Rattle.addr_space.proofs.Prelude.{ℕ, ◌<◌, ◌∙◌, ◌≡◌, ◌≤◌, ap, arith, cases_eq, false, flag, frame_at, inl, inr, IsTree, Kept, List, refl, Some, spot-of, sym, table-owned, table_at, word_at}
use Rattle.addr_space.proofs.Prelude.{word_at-same, WordWritten}

abbrev pub Half : List (List ℕ) → ℕ → Type 0
Half ram root = (p : ℕ) → 256 ≤ p → p < 512 → flag (word_at ram root p) 0 ≡ false

-- the root keeps its bytes
pub half-still : (ram ram' : List (List ℕ)) (root : ℕ) → IsTree ram root → frame_at ram' root ≡ frame_at ram root → Half ram' root
half-still ram ram' root tree same p ge lt = ap (λ w. flag w 0) (word_at-same ram ram' root p same) ∙ tree.lower_half p ge lt

-- all frames of the tree keep their bytes
pub half-kept : (ram ram' : List (List ℕ)) (root : ℕ) → IsTree ram root → Kept ram ram' root → Half ram' root
half-kept ram ram' root tree kept = half-still ram ram' root tree (kept.bytes root (table-owned ram root 0 0 root tree (omega arith) refl))

-- one entry of a table is written, and none of the root's upper half
pub half-written : (ram ram' : List (List ℕ)) (root f i w : ℕ) → IsTree ram root → WordWritten ram ram' f i w → (root ≡ f → i < 256) → Half ram' root
half-written ram ram' root f i w tree put low p ge lt =
    ap (λ w. flag w 0) (elim (cases_eq root f) [
      | inl same ↦ ap (λ x. word_at ram' x p) same ∙ put.beside p (λ e. omega (arith, e, low same, ge)) ∙ sym (ap (λ x. word_at ram x p) same)
      | inr ne ↦ put.stay.words root p ne
    ]) ∙ tree.lower_half p ge lt

-- a table below the root isn't the root
pub not-root : (ram : List (List ℕ)) (root f l p : ℕ) → IsTree ram root → 1 ≤ l → l ≤ 2 → table_at ram root l p ≡ Some f → root ≡ f → ⊥
not-root ram root f l p tree some le found same =
    let is = (spot-of ram root 0 0 root tree (omega arith) refl).only l p le (found ∙ ap Some (sym same)) in
    omega (arith, is.0, some)
