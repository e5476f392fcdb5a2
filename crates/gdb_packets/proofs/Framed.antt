-- What a packet gives that is read.
use Rattle.std.proofs.Common.{◌≡◌, ◌∙◌, ℕ, ◌+◌, ◌*◌, ◌/◌, ◌%◌, ◌<◌, List, [], ◌∷◌, ◌++◌, Bool, true, false, eqb, refl, sym, ap, subst, Some, arith, append_assoc, append-nil, zero-add, ne_eqb, lit<}
use Rattle.std.proofs.lemmas.Bool.{eqb-true, eq-eqb}
use Rattle.std.proofs.lemmas.List.Sums.{sum_by-append}
use Rattle.gdb_packets.specs.Digits.{digit}
use Rattle.gdb_packets.specs.Laws.{ReadsBack, WrongSumsShow, with_digits}
use Rattle.gdb_packets.specs.Packets.{Reading, fed_all, pieces, escape, escaped, total, checksum, summed}
use Rattle.gdb_packets.specs.declared.reader.Phase.TheVariants.{Body, FirstDigit}
use Rattle.gdb_packets.proofs.SixteenDigits.{digit-value}
use Rattle.gdb_packets.proofs.Fed.{fed_all-append, pieces-append}

-- in the body, with a payload so far and a sum
abbrev body : List ℕ → ℕ → Reading
body q s = record { phase = Body; payload = q; sum = s }

-- one byte of the payload, as it stands in a packet, is read as it is, and brings nothing to an end
record Takes (b : ℕ) (q : List ℕ) (s : ℕ) : Type 0 where
  goes : fed_all (escape b) (body q s) ≡ body (q ++ b ∷ []) ((s + total (escape b)) % 256)
  ends_nothing : pieces (escape b) (body q s) ≡ []

twice : (s c d : ℕ) → ((s + c) % 256 + d) % 256 ≡ (s + (c + (d + 0))) % 256
twice s c d = omega arith

once : (s b : ℕ) → (s + b) % 256 ≡ (s + (0 + b)) % 256
once s b = omega arith

takes-at : (b : ℕ) (q : List ℕ) (s : ℕ) (e1 e2 e3 e4 : Bool) → eqb b 35 ≡ e1 → eqb b 36 ≡ e2 → eqb b 125 ≡ e3 → eqb b 42 ≡ e4 → Takes b q s
takes-at b q s true e2 e3 e4 h1 h2 h3 h4 =
    subst (λ (n : ℕ). Takes n q s) (sym (eqb-true b 35 h1)) (record { goes = ap (body (q ++ 35 ∷ [])) (twice s 125 3); ends_nothing = refl })
takes-at b q s false true e3 e4 h1 h2 h3 h4 =
    subst (λ (n : ℕ). Takes n q s) (sym (eqb-true b 36 h2)) (record { goes = ap (body (q ++ 36 ∷ [])) (twice s 125 4); ends_nothing = refl })
takes-at b q s false false true e4 h1 h2 h3 h4 =
    subst (λ (n : ℕ). Takes n q s) (sym (eqb-true b 125 h3)) (record { goes = ap (body (q ++ 125 ∷ [])) (twice s 125 93); ends_nothing = refl })
takes-at b q s false false false true h1 h2 h3 h4 =
    subst (λ (n : ℕ). Takes n q s) (sym (eqb-true b 42 h4)) (record { goes = ap (body (q ++ 42 ∷ [])) (twice s 125 10); ends_nothing = refl })
takes-at b q s false false false false h1 h2 h3 h4 =
    record { goes = rw (h1, h2, h3, h4, h2, h1, h3) (ap (body (q ++ b ∷ [])) (once s b)); ends_nothing = rw (h1, h2, h3, h4, h2) refl }

takes : (b : ℕ) (q : List ℕ) (s : ℕ) → Takes b q s
takes b q s = takes-at b q s (eqb b 35) (eqb b 36) (eqb b 125) (eqb b 42) refl refl refl refl

-- a whole payload
record TakesAll (payload q : List ℕ) (s : ℕ) : Type 0 where
  goes : fed_all (escaped payload) (body q s) ≡ body (q ++ payload) ((s + total (escaped payload)) % 256)
  ends_nothing : pieces (escaped payload) (body q s) ≡ []

takes-all : (payload q : List ℕ) (s : ℕ) → s < 256 → TakesAll payload q s
takes-all [] q s h = let same : s ≡ (s + 0) % 256 = omega arith in record { goes = ap (λ (l : List ℕ). body l s) (sym (append-nil q)) ∙ ap (body (q ++ [])) same; ends_nothing = refl }
takes-all (b ∷ payload) q s h =
    let one = takes b q s in
    let s1 : ℕ = (s + total (escape b)) % 256 in
    let small : s1 < 256 = omega arith in
    let all = takes-all payload (q ++ b ∷ []) s1 small in
    let summed : (s1 + total (escaped payload)) % 256 ≡ (s + total (escape b ++ escaped payload)) % 256 = let sums = sum_by-append (λ (n : ℕ). n) (escape b) (escaped payload) in omega arith in
    record {
      goes = fed_all-append (escape b) (escaped payload) (body q s) ∙ ap (fed_all (escaped payload)) one.goes ∙ all.goes
          ∙ ap (λ (l : List ℕ). body l ((s1 + total (escaped payload)) % 256)) (append_assoc q (b ∷ []) payload) ∙ ap (body (q ++ b ∷ payload)) summed;
      ends_nothing = pieces-append (escape b) (escaped payload) (body q s) ∙ rw (one.ends_nothing, one.goes) all.ends_nothing;
    }

-- up to the #, whatever was read before
abbrev head_of : List ℕ → List ℕ
head_of payload = 36 ∷ [] ++ escaped payload ++ 35 ∷ []

abbrev summing : List ℕ → Reading
summing payload = record { phase = FirstDigit; payload = payload; sum = checksum (escaped payload) }

record Arrives (payload : List ℕ) (before : Reading) : Type 0 where
  goes : fed_all (head_of payload) before ≡ summing payload
  ends_nothing : pieces (head_of payload) before ≡ []

arrives : (payload : List ℕ) (before : Reading) → Arrives payload before
arrives payload before =
    let all = takes-all payload [] 0 (lit< tt) in
    let body_is : fed_all (36 ∷ [] ++ escaped payload) before ≡ body payload (checksum (escaped payload)) = all.goes ∙ ap (λ (n : ℕ). body payload (n % 256)) (zero-add (total (escaped payload))) in
    record {
      goes = fed_all-append (36 ∷ [] ++ escaped payload) (35 ∷ []) before ∙ ap (fed_all (35 ∷ [])) body_is;
      ends_nothing = pieces-append (36 ∷ [] ++ escaped payload) (35 ∷ []) before ∙ rw (all.ends_nothing, body_is) refl;
    }

-- behind the #, two digits
record Sums (payload : List ℕ) (higher lower : ℕ) : Type 0 where
  keeps : (fed_all (digit higher ∷ digit lower ∷ []) (summing payload)).payload ≡ payload
  ends_one : pieces (digit higher ∷ digit lower ∷ []) (summing payload) ≡ summed (checksum (escaped payload)) higher (Some lower) ∷ []

sums : (payload : List ℕ) (higher lower : ℕ) → higher < 16 → lower < 16 → Sums payload higher lower
sums payload higher lower h l =
    let d = digit-value higher h in
    let e = digit-value lower l in
    record { keeps = rw (d.plain, d.value, e.plain) refl; ends_one = rw (d.plain, d.value, e.plain, e.value) refl }

with-digits : (payload : List ℕ) (before : Reading) (higher lower : ℕ) → higher < 16 → lower < 16
    → ((fed_all (with_digits payload higher lower) before).payload ≡ payload) × (pieces (with_digits payload higher lower) before ≡ summed (checksum (escaped payload)) higher (Some lower) ∷ [])
with-digits payload before higher lower h l =
    let a = arrives payload before in
    let s = sums payload higher lower h l in
    let digits = digit higher ∷ digit lower ∷ [] in (
      ap (λ (r : Reading). r.payload) (fed_all-append (head_of payload) digits before) ∙ ap (λ (r : Reading). (fed_all digits r).payload) a.goes ∙ s.keeps,
      pieces-append (head_of payload) digits before ∙ rw (a.ends_nothing, a.goes) s.ends_one,
    )

small : (payload : List ℕ) → checksum (escaped payload) < 256
small payload = omega arith

pub reads-back : ReadsBack
reads-back payload before =
    let c = checksum (escaped payload) in
    let both = with-digits payload before (c / 16) (c % 16) (let b : c < 256 = small payload in omega arith) (omega arith) in
    let right : c / 16 * 16 + c % 16 ≡ c = omega arith in
    (both.0, both.1 ∙ rw (eq-eqb (c / 16 * 16 + c % 16) c right) refl)

pub wrong-sums : WrongSumsShow
wrong-sums payload before higher lower h l wrong =
    let both = with-digits payload before higher lower h l in
    both.1 ∙ rw (ne_eqb (higher * 16 + lower) (checksum (escaped payload)) wrong) refl
