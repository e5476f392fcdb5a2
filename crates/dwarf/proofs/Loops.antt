-- Lists that are read one after the other, as a loop does.
use Rattle.dwarf.proofs.Prelude.{[], ℕ, ◌++◌, ◌+◌, ◌-◌, ◌<◌, ◌>>=◌, ◌∙◌, ◌∷◌, ◌≡◌, ◌≤◌, ap, append_assoc, arith, Err, false, Fault, leb, length, LineHeader, List, None, Ok, Option, option_to_list}
use Rattle.dwarf.proofs.Prelude.{refl, Result, Row, rows_from, Some, step, suc, sym, true, Unit, unit_at, units_from, with_front}
use Rattle.std.proofs.lemmas.List.{append-nil}
use Rattle.dwarf.specs.declared.registers.Step.{Step}

pub with_front-append : {X : Type 0} (a b : List X) (r : Result (List X) Fault) → with_front a (with_front b r) ≡ with_front (a ++ b) r
with_front-append {X = X} a b (Ok xs) = ap (λ (ys : List X). Ok ys) (sym (append_assoc a b xs))
with_front-append a b (Err f) = refl

pub with_front-end : {X : Type 0} (front : List X) → with_front front (Ok []) ≡ Ok front
with_front-end {X = X} front = ap (λ (ys : List X). Ok ys) (append-nil front)

-- units

pub units-go_on : (section : List ℕ) (front : List Unit) (count i at : ℕ) (u : Unit) (total : Result (List Unit) Fault) → i < count → leb (length section) at ≡ false → unit_at section at ≡ Ok u
    → with_front front (units_from (count - i) section at) ≡ total → with_front (front ++ u ∷ []) (units_from (count - (i + 1)) section u.end) ≡ total
unfolding units_from
units-go_on section front count i at u total lt more h so_far =
    let k : count - i ≡ suc (count - (i + 1)) = omega arith in
    let one : with_front front (units_from (count - i) section at) ≡ with_front (front ++ u ∷ []) (units_from (count - (i + 1)) section u.end) =
    rw (k, more, h) (with_front-append front (u ∷ []) (units_from (count - (i + 1)) section u.end)) in
    sym one ∙ so_far

pub units-fail : (section : List ℕ) (front : List Unit) (count i at : ℕ) (f : Fault) (total : Result (List Unit) Fault) → i < count → leb (length section) at ≡ false → unit_at section at ≡ Err f
    → with_front front (units_from (count - i) section at) ≡ total → total ≡ Err f
unfolding units_from
units-fail section front count i at f total lt more h so_far =
    let k : count - i ≡ suc (count - (i + 1)) = omega arith in
    let one : with_front front (units_from (count - i) section at) ≡ Err f =
    rw (k, more, h) refl in
    sym so_far ∙ one

pub units-end : (section : List ℕ) (front : List Unit) (count i at : ℕ) (total : Result (List Unit) Fault) → i < count → leb (length section) at ≡ true
    → with_front front (units_from (count - i) section at) ≡ total → total ≡ Ok front
unfolding units_from
units-end section front count i at total lt ended so_far =
    let k : count - i ≡ suc (count - (i + 1)) = omega arith in
    let one : with_front front (units_from (count - i) section at) ≡ Ok front = rw (k, ended) (with_front-end front) in
    sym so_far ∙ one

pub units-out : (section : List ℕ) (front : List Unit) (count i at : ℕ) (total : Result (List Unit) Fault) → count ≤ i
    → with_front front (units_from (count - i) section at) ≡ total → total ≡ Ok front
unfolding units_from
units-out section front count i at total le so_far =
    let k : count - i ≡ 0 = omega arith in
    let one : with_front front (units_from (count - i) section at) ≡ Ok front = rw k (with_front-end front) in
    sym so_far ∙ one

-- rows

pub rows-go_on : (h : LineHeader) (bytes : List ℕ) (front : List Row) (count i at : ℕ) (r : Row) (s : Step) (total : Result (List Row) Fault) → i < count → leb (length bytes) at ≡ false
    → step h bytes at r ≡ Ok s
    → with_front front (rows_from h bytes (count - i) at r) ≡ total → with_front (front ++ option_to_list s.row) (rows_from h bytes (count - (i + 1)) s.next s.registers) ≡ total
unfolding rows_from
rows-go_on h bytes front count i at r s total lt more done so_far =
    let k : count - i ≡ suc (count - (i + 1)) = omega arith in
    let one : with_front front (rows_from h bytes (count - i) at r) ≡ with_front (front ++ option_to_list s.row) (rows_from h bytes (count - (i + 1)) s.next s.registers) =
    rw (k, more, done) (with_front-append front (option_to_list s.row) (rows_from h bytes (count - (i + 1)) s.next s.registers)) in
    sym one ∙ so_far

pub rows-fail : (h : LineHeader) (bytes : List ℕ) (front : List Row) (count i at : ℕ) (r : Row) (f : Fault) (total : Result (List Row) Fault) → i < count → leb (length bytes) at ≡ false
    → step h bytes at r ≡ Err f
    → with_front front (rows_from h bytes (count - i) at r) ≡ total → total ≡ Err f
unfolding rows_from
rows-fail h bytes front count i at r f total lt more failed so_far =
    let k : count - i ≡ suc (count - (i + 1)) = omega arith in
    let one : with_front front (rows_from h bytes (count - i) at r) ≡ Err f = rw (k, more, failed) refl in
    sym so_far ∙ one

pub rows-end : (h : LineHeader) (bytes : List ℕ) (front : List Row) (count i at : ℕ) (r : Row) (total : Result (List Row) Fault) → i < count → leb (length bytes) at ≡ true
    → with_front front (rows_from h bytes (count - i) at r) ≡ total → total ≡ Ok front
unfolding rows_from
rows-end h bytes front count i at r total lt ended so_far =
    let k : count - i ≡ suc (count - (i + 1)) = omega arith in
    let one : with_front front (rows_from h bytes (count - i) at r) ≡ Ok front = rw (k, ended) (with_front-end front) in
    sym so_far ∙ one

pub rows-out : (h : LineHeader) (bytes : List ℕ) (front : List Row) (count i at : ℕ) (r : Row) (total : Result (List Row) Fault) → count ≤ i
    → with_front front (rows_from h bytes (count - i) at r) ≡ total → total ≡ Ok front
unfolding rows_from
rows-out h bytes front count i at r total le so_far =
    let k : count - i ≡ 0 = omega arith in
    let one : with_front front (rows_from h bytes (count - i) at r) ≡ Ok front = rw k (with_front-end front) in
    sym so_far ∙ one
