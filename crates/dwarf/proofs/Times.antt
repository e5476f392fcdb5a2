-- Steps one after the other, as a loop does them.
use Rattle.dwarf.proofs.Prelude.{ℕ, ◌+◌, ◌-◌, ◌<◌, ◌>>=◌, ◌∙◌, ◌≡◌, ◌≤◌, ap, arith, eqb, Err, false, Fault, length, List, Ok, refl, Result, suc, sym, times, true, zero}

pub times-go_on : {A : Type 0} (f : A → Result A Fault) (count i : ℕ) (a b : A) (total : Result A Fault) → i < count → f a ≡ Ok b → times f (count - i) a ≡ total → times f (count - (i + 1)) b ≡ total
unfolding times
times-go_on f count i a b total lt h so_far =
    let k : count - i ≡ suc (count - (i + 1)) = omega arith in
    let one : times f (count - i) a ≡ times f (count - (i + 1)) b = rw (k, h) refl in
    sym one ∙ so_far

pub times-fail : {A : Type 0} (f : A → Result A Fault) (count i : ℕ) (a : A) (e : Fault) (total : Result A Fault) → i < count → f a ≡ Err e → times f (count - i) a ≡ total → total ≡ Err e
unfolding times
times-fail f count i a e total lt h so_far =
    let k : count - i ≡ suc (count - (i + 1)) = omega arith in
    let one : times f (count - i) a ≡ Err e = rw (k, h) refl in
    sym so_far ∙ one

pub times-end : {A : Type 0} (f : A → Result A Fault) (count i : ℕ) (a : A) (total : Result A Fault) → count ≤ i → times f (count - i) a ≡ total → total ≡ Ok a
unfolding times
times-end f count i a total le so_far =
    let k : count - i ≡ 0 = omega arith in
    let one : times f (count - i) a ≡ Ok a = rw k refl in
    sym so_far ∙ one
