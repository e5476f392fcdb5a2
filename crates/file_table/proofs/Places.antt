-- Places of the table of open files.
use Rattle.std.proofs.Common.{◌≡◌, ℕ, ◌+◌, ◌<◌, ◌≤◌, List, [], ◌∷◌, length, get_or, set, Option, Some, None, inl, inr, arith, true, ap, sym, ◌∙◌, replicate}
use Rattle.std.proofs.Common.{length-set}
use Rattle.std.specs.Prelude.{is_some, is_none, count_by, position, nat_lt, cond}
use Rattle.std.specs.List.{position_or_len}
use Rattle.std.proofs.lemmas.List.Sums.{sum_by-cons}
use Rattle.std.proofs.lemmas.List.{get_or-set_same, get_or-set_other, set_past}
use Rattle.std.proofs.lemmas.Bool.{cases_lt, cases_eq}
use Rattle.std.proofs.lemmas.Bool.Decides.{nat_tests}
use Rattle.file_table.specs.declared.open_file.TheConstants.{SHARERS_MAX}
use Rattle.file_table.specs.declared.open_file.CountedFile.{CountedFile}
use Rattle.file_table.specs.OpenFiles.{IsTable}

-- ---- a table that isn't full has a free place

-- an open file counts once
one_more : {X : Type 0} (x : X) (xs : List (Option X)) → count_by is_some (Some x ∷ xs) ≡ count_by is_some xs + 1
one_more x xs = sum_by-cons (λ y. cond (is_some y) 1 0) (Some x) xs ∙ omega arith

-- the first free place lies one further on
one_on : {X : Type 0} (x : X) (xs : List (Option X)) → position_or_len is_none (Some x ∷ xs) ≡ position_or_len is_none xs + 1
one_on x xs = omega arith

-- the first free place is within the table
before_end : {X : Type 0} (xs : List (Option X)) → count_by is_some xs < length xs → position_or_len is_none xs < length xs
before_end [] h = h
before_end (None ∷ xs) h = omega arith
before_end (Some x ∷ xs) h = omega (arith, one_more x xs, one_on x xs, before_end xs (omega (arith, h, one_more x xs)))

-- where fewer files are open than there are places, a place is free
pub place_is_there : {X : Type 0} (xs : List (Option X)) → count_by is_some xs < length xs → position is_none xs ≡ None → ⊥
place_is_there xs h e = let lt : nat_lt (position_or_len is_none xs) (length xs) ≡ true = grind (arith, nat_tests, before_end xs h) in
    let is : position is_none xs ≡ Some (position_or_len is_none xs) = ap (λ b. cond b (Some (position_or_len is_none xs)) None) lt in
    let no : Some (position_or_len is_none xs) ≡ None = sym is ∙ e in let no_way : ⊥ = cc in absurd no_way

-- ---- a table stays in order

-- an entry with a count in its range is put into one place
pub table_set : (files : List (Option CountedFile)) (place : ℕ) (e : CountedFile) → IsTable files → 1 ≤ e.count → e.count ≤ SHARERS_MAX → IsTable (set files place (Some e))
table_set files place e is low high = record {
  places = length-set files place (Some e) ∙ is.places;
  counts = λ k x at. elim (cases_eq k place) [
    | inl same ↦ elim (cases_lt place (length files)) [
      | inl lt ↦ let there : Some e ≡ Some x = sym (get_or-set_same files place (Some e) None lt) ∙ ap (λ j. get_or (set files place (Some e)) j None) (sym same) ∙ at in
          let one : e ≡ x = cc in (omega (arith, low, ap (λ (y : CountedFile). y.count) one), omega (arith, high, ap (λ (y : CountedFile). y.count) one))
      | inr ge ↦ is.counts k x (ap (λ ys. get_or ys k None) (sym (set_past files place (Some e) ge)) ∙ at)
    ]
    | inr other ↦ is.counts k x (sym (get_or-set_other files place k (Some e) None other) ∙ at)
  ];
}

-- as many of them, where the two numbers are equal
pub at_count : {X : Type 0} (xs : List X) (y : X) (m n : ℕ) → xs ≡ replicate m y → m ≡ n → xs ≡ replicate n y
at_count xs y m n is e = is ∙ ap (λ k. replicate k y) e
