-- The addresses of bytes that are watched, one more.
use Rattle.std.proofs.Common.{◌≡◌, ◌∙◌, ℕ, ◌+◌, ◌%◌, ◌^◌, List, [], ◌∷◌, ◌++◌, ap, append_assoc, arith, sym}
use Rattle.std.proofs.lemmas.List.FromFn.{map-range_with_len_more}
use Rattle.gdb_target.specs.Touches.{addresses_from}

pub address-more : (address n x : ℕ) (old mid new : List ℕ) → mid ≡ old ++ addresses_from address n → x ≡ (address + n) % 2 ^ 64 → new ≡ mid ++ x ∷ []
    → new ≡ old ++ addresses_from address (n + 1)
address-more address n x old mid new so_far is next =
    let one : List ℕ = (address + n) % 2 ^ 64 ∷ [] in
    next ∙ ap (λ (y : ℕ). mid ++ y ∷ []) is ∙ ap (λ (xs : List ℕ). xs ++ one) so_far ∙ append_assoc old (addresses_from address n) one
    ∙ ap (λ (xs : List ℕ). old ++ xs) (sym (map-range_with_len_more (λ (k : ℕ). (address + k) % 2 ^ 64) 0 n n (omega arith)))
