-- The pids that notes name, sorted, each once.
use Rattle.std.proofs.Common.{◌≡◌, ◌∙◌, ℕ, List, [], ◌++◌, eqb, length, ◌≤◌, drop, sym, ap, subst, append-nil}
use Rattle.std.specs.List.{Contains, dedup}
use Rattle.std.specs.List.Sorted.{IsPermutation, IsSorted, IsStrictlyIncreasing}
use Rattle.std.specs.List.Retain.{IsFiltered, DiffersFromLast}
use Rattle.std.specs.Ordering.{nat_cmp}
use Rattle.std.proofs.lemmas.List.{drop_all}
use Rattle.std.proofs.lemmas.List.Filters.{dedup_is}
use Rattle.std.proofs.lemmas.List.Kept.{Contains-dedup_nat, Contains-from_dedup}
use Rattle.std.proofs.lemmas.List.Sorted.{Contains-permutation, IsPermutation-sym}
use Rattle.std.proofs.lemmas.Map.Keys.{IsStrictlyIncreasing-dedup}
use Rattle.trace_picture.specs.declared.note.Note.{Note}
use Rattle.trace_picture.specs.Row.{named, AreNamed}

-- no note is left
pub all_found : (found : List ℕ) (notes : List Note) (i : ℕ) → length notes ≤ i → found ++ named (drop i notes) ≡ named notes → found ≡ named notes
all_found found notes i all is = sym (append-nil found) ∙ sym (ap (λ (ns : List Note). found ++ named ns) (drop_all i notes all)) ∙ is

pub are_named : (notes : List Note) (found sorted once : List ℕ) → found ≡ named notes → IsPermutation found sorted → IsSorted nat_cmp sorted
    → IsFiltered (DiffersFromLast eqb) [] sorted once → AreNamed notes once
are_named notes found sorted once is permuted sorts filtered =
    let kept : once ≡ dedup eqb sorted = dedup_is eqb sorted once filtered in
    record {
      those = λ pid. (
        λ here. subst (λ (xs : List ℕ). Contains xs pid) is
            (Contains-permutation sorted found pid (IsPermutation-sym found sorted permuted)
            (Contains-from_dedup eqb sorted pid (subst (λ (xs : List ℕ). Contains xs pid) kept here))),
        λ there. subst (λ (xs : List ℕ). Contains xs pid) (sym kept)
            (Contains-dedup_nat sorted pid (Contains-permutation found sorted pid permuted (subst (λ (xs : List ℕ). Contains xs pid) (sym is) there))),
      );
      rising = subst IsStrictlyIncreasing (sym kept) (IsStrictlyIncreasing-dedup sorted sorts);
    }
