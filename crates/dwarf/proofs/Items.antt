-- Items that are read one after the other, as a loop does.
use Rattle.dwarf.proofs.Prelude.{[], ℕ, ◌++◌, ◌+◌, ◌-◌, ◌<◌, ◌>>=◌, ◌∙◌, ◌∷◌, ◌≡◌, ◌≤◌, ap, append_assoc, arith, Bool, Err, false, Fault, in_front, items, List, Ok, refl, Result, suc, sym, true}
use Rattle.std.proofs.lemmas.List.{append-nil}

pub in_front-append : {X B : Type 0} (a b : List X) (r : Result (List X × B) Fault) → in_front a (in_front b r) ≡ in_front (a ++ b) r
in_front-append {X = X} a b (Ok r) = ap (λ (ys : List X). Ok (ys, r.1)) (sym (append_assoc a b r.0))
in_front-append a b (Err f) = refl

pub in_front-end : {X B : Type 0} (front : List X) (at : B) → in_front front (Ok ([], at)) ≡ Ok (front, at)
in_front-end {X = X} front at = ap (λ (ys : List X). Ok (ys, at)) (append-nil front)

pub items-go_on : {A : Type 0} (stops : ℕ → Bool) (item : ℕ → Result A Fault) (next : A → ℕ) (front : List A) (count i at : ℕ) (x : A) (total : Result (List A × ℕ) Fault)
    → i < count → stops at ≡ false → item at ≡ Ok x
    → in_front front (items stops item next (count - i) at) ≡ total → in_front (front ++ x ∷ []) (items stops item next (count - (i + 1)) (next x)) ≡ total
unfolding items
items-go_on stops item next front count i at x total lt more h so_far =
    let k : count - i ≡ suc (count - (i + 1)) = omega arith in
    let one : in_front front (items stops item next (count - i) at) ≡ in_front (front ++ x ∷ []) (items stops item next (count - (i + 1)) (next x)) =
    rw (k, more, h) (in_front-append front (x ∷ []) (items stops item next (count - (i + 1)) (next x))) in
    sym one ∙ so_far

pub items-fail : {A : Type 0} (stops : ℕ → Bool) (item : ℕ → Result A Fault) (next : A → ℕ) (front : List A) (count i at : ℕ) (f : Fault) (total : Result (List A × ℕ) Fault)
    → i < count → stops at ≡ false → item at ≡ Err f
    → in_front front (items stops item next (count - i) at) ≡ total → total ≡ Err f
unfolding items
items-fail stops item next front count i at f total lt more h so_far =
    let k : count - i ≡ suc (count - (i + 1)) = omega arith in
    let one : in_front front (items stops item next (count - i) at) ≡ Err f = rw (k, more, h) refl in
    sym so_far ∙ one

pub items-end : {A : Type 0} (stops : ℕ → Bool) (item : ℕ → Result A Fault) (next : A → ℕ) (front : List A) (count i at : ℕ) (total : Result (List A × ℕ) Fault)
    → i < count → stops at ≡ true
    → in_front front (items stops item next (count - i) at) ≡ total → total ≡ Ok (front, at)
unfolding items
items-end stops item next front count i at total lt ended so_far =
    let k : count - i ≡ suc (count - (i + 1)) = omega arith in
    let one : in_front front (items stops item next (count - i) at) ≡ Ok (front, at) = rw (k, ended) (in_front-end front at) in
    sym so_far ∙ one

pub items-out : {A : Type 0} (stops : ℕ → Bool) (item : ℕ → Result A Fault) (next : A → ℕ) (front : List A) (count i at : ℕ) (total : Result (List A × ℕ) Fault)
    → count ≤ i
    → in_front front (items stops item next (count - i) at) ≡ total → total ≡ Ok (front, at)
unfolding items
items-out stops item next front count i at total le so_far =
    let k : count - i ≡ 0 = omega arith in
    let one : in_front front (items stops item next (count - i) at) ≡ Ok (front, at) = rw k (in_front-end front at) in
    sym so_far ∙ one
