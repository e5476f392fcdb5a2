-- A text of events is that of one list of lines only.
use Rattle.std.proofs.Common.{◌≡◌, ◌≢◌, ℕ, suc, ◌<◌, ◌^◌, List, [], ◌∷◌, ◌++◌, length, get_or, codes, refl, sym, ◌∙◌, ap, ap₂, arith, append_assoc}
use Rattle.std.proofs.lemmas.Fmt.{digits_decimal, decimal_injective}
use Rattle.std.proofs.lemmas.List.{append_cancel_left}
use Rattle.std.proofs.lemmas.List.Elements.{All-head, All-tail}
use Rattle.std.proofs.lemmas.Str.Parse.{IsNumeralModel, numerals_by_value, tells_digits, not_in_digits}
use Rattle.std.specs.Fmt.{decimal}
use Rattle.std.specs.Str.Parse.{AllDigits, digits_value}
use Rattle.xv_record.specs.declared.line.Line.{Line}
use Rattle.xv_record.specs.declared.line.Line.TheVariants.{Run, Tick, Send, Key}
use Rattle.xv_record.specs.Text.{worded, line_text, events_text_of, IsLine, AreLines}
use Rattle.xv_record.specs.Told.{IsOneLine, end_text}

-- none of these is c
abbrev pub Lacks : ℕ → List ℕ → Type 0
Lacks c ds = (i : ℕ) → i < length ds → get_or ds i 0 ≢ c

head-is_none : (c d : ℕ) (ds : List ℕ) → Lacks c (d ∷ ds) → d ≢ c
head-is_none c d ds h = h 0 (omega arith)

tail-has_none : (c d : ℕ) (ds : List ℕ) → Lacks c (d ∷ ds) → Lacks c ds
tail-has_none c d ds h i below = h (suc i) (omega arith)

-- what stands before the first c, and behind it
pub same-part : (c : ℕ) (ds es xs ys : List ℕ) → Lacks c ds → Lacks c es → ds ++ c ∷ xs ≡ es ++ c ∷ ys → (ds ≡ es) × (xs ≡ ys)
same-part c [] [] xs ys p q e = (refl, cc)
same-part c [] (b ∷ es) xs ys p q e = let first : b ≡ c = cc in absurd (head-is_none c b es q first)
same-part c (a ∷ ds) [] xs ys p q e = let first : a ≡ c = cc in absurd (head-is_none c a ds p first)
same-part c (a ∷ ds) (b ∷ es) xs ys p q e =
    let first : a ≡ b = cc in
    let rest : ds ++ c ∷ xs ≡ es ++ c ∷ ys = cc in
    let both : (ds ≡ es) × (xs ≡ ys) = same-part c ds es xs ys (tail-has_none c a ds p) (tail-has_none c b es q) rest in
    (ap₂ (λ u v. u ∷ v) first both.0, both.1)

digits : IsNumeralModel (AllDigits 10) (digits_value 10)
digits = numerals_by_value (AllDigits 10) tells_digits

decimal-no_break : (n : ℕ) → n < 2 ^ 64 → Lacks 10 (decimal n)
decimal-no_break n small = not_in_digits digits (decimal n) 10 (digits_decimal digits n small) (λ r. omega (arith, r))

pub decimal-no_space : (n : ℕ) → n < 2 ^ 64 → Lacks 32 (decimal n)
decimal-no_space n small = not_in_digits digits (decimal n) 32 (digits_decimal digits n small) (λ r. omega (arith, r))

pub same-decimal : (c m n : ℕ) (xs ys : List ℕ) → m < 2 ^ 64 → n < 2 ^ 64 → Lacks c (decimal m) → Lacks c (decimal n) → decimal m ++ c ∷ xs ≡ decimal n ++ c ∷ ys → (m ≡ n) × (xs ≡ ys)
same-decimal c m n xs ys p q lacks lack e =
    let both : (decimal m ≡ decimal n) × (xs ≡ ys) = same-part c (decimal m) (decimal n) xs ys lacks lack e in
    (decimal_injective m n p q both.0, both.1)

same-number : (m n : ℕ) (xs ys : List ℕ) → m < 2 ^ 64 → n < 2 ^ 64 → decimal m ++ 10 ∷ xs ≡ decimal n ++ 10 ∷ ys → (m ≡ n) × (xs ≡ ys)
same-number m n xs ys p q e = same-decimal 10 m n xs ys p q (decimal-no_break m p) (decimal-no_break n q) e

worded-rest : (word : List ℕ) (n : ℕ) (xs : List ℕ) → worded word n ++ xs ≡ word ++ (decimal n ++ 10 ∷ xs)
worded-rest word n xs = append_assoc word (decimal n ++ 10 ∷ []) xs ∙ ap (λ t. word ++ t) (append_assoc (decimal n) (10 ∷ []) xs)

pub same-worded : (word : List ℕ) (m n : ℕ) (xs ys : List ℕ) → m < 2 ^ 64 → n < 2 ^ 64 → worded word m ++ xs ≡ worded word n ++ ys → (m ≡ n) × (xs ≡ ys)
same-worded word m n xs ys p q e =
    same-number m n xs ys p q (append_cancel_left word (decimal m ++ 10 ∷ xs) (decimal n ++ 10 ∷ ys) (sym (worded-rest word m xs) ∙ (e ∙ worded-rest word n ys)))

-- a text that begins with a line begins with no other
same-first : (a b : Line) (xs ys : List ℕ) → IsLine a → IsLine b → line_text a ++ xs ≡ line_text b ++ ys → (a ≡ b) × (xs ≡ ys)
same-first (Run m) (Run n) xs ys p q e = let both : (m ≡ n) × (xs ≡ ys) = same-worded (codes "run ") m n xs ys p q e in (ap Run both.0, both.1)
same-first (Tick m) (Tick n) xs ys p q e = let both : (m ≡ n) × (xs ≡ ys) = same-worded (codes "tick ") m n xs ys p q e in (ap Tick both.0, both.1)
same-first (Send m) (Send n) xs ys p q e = let both : (m ≡ n) × (xs ≡ ys) = same-worded (codes "send ") m n xs ys p q e in (ap Send both.0, both.1)
same-first (Key m) (Key n) xs ys p q e = let both : (m ≡ n) × (xs ≡ ys) = same-worded (codes "key ") m n xs ys (omega (arith, p)) (omega (arith, q)) e in (ap Key both.0, both.1)
same-first (Run m) (Tick n) xs ys p q e = let bad : ◌≡◌ {A = ℕ} 114 116 = cc in absurd (omega (arith, bad))
same-first (Run m) (Send n) xs ys p q e = let bad : ◌≡◌ {A = ℕ} 114 115 = cc in absurd (omega (arith, bad))
same-first (Run m) (Key n) xs ys p q e = let bad : ◌≡◌ {A = ℕ} 114 107 = cc in absurd (omega (arith, bad))
same-first (Tick m) (Run n) xs ys p q e = let bad : ◌≡◌ {A = ℕ} 116 114 = cc in absurd (omega (arith, bad))
same-first (Tick m) (Send n) xs ys p q e = let bad : ◌≡◌ {A = ℕ} 116 115 = cc in absurd (omega (arith, bad))
same-first (Tick m) (Key n) xs ys p q e = let bad : ◌≡◌ {A = ℕ} 116 107 = cc in absurd (omega (arith, bad))
same-first (Send m) (Run n) xs ys p q e = let bad : ◌≡◌ {A = ℕ} 115 114 = cc in absurd (omega (arith, bad))
same-first (Send m) (Tick n) xs ys p q e = let bad : ◌≡◌ {A = ℕ} 115 116 = cc in absurd (omega (arith, bad))
same-first (Send m) (Key n) xs ys p q e = let bad : ◌≡◌ {A = ℕ} 115 107 = cc in absurd (omega (arith, bad))
same-first (Key m) (Run n) xs ys p q e = let bad : ◌≡◌ {A = ℕ} 107 114 = cc in absurd (omega (arith, bad))
same-first (Key m) (Tick n) xs ys p q e = let bad : ◌≡◌ {A = ℕ} 107 116 = cc in absurd (omega (arith, bad))
same-first (Key m) (Send n) xs ys p q e = let bad : ◌≡◌ {A = ℕ} 107 115 = cc in absurd (omega (arith, bad))

-- No line of events stands at the head of these bytes
abbrev pub EndsLines : List ℕ → Type 0
EndsLines rest = (a : Line) (xs : List ℕ) → IsLine a → rest ≡ line_text a ++ xs → ⊥

-- events, and what no line begins
pub same-lines : (us vs : List Line) (xs ys : List ℕ) → AreLines us → AreLines vs → EndsLines xs → EndsLines ys → events_text_of us ++ xs ≡ events_text_of vs ++ ys → (us ≡ vs) × (xs ≡ ys)
same-lines [] [] xs ys p q end_x end_y e = (refl, e)
same-lines [] (b ∷ vs) xs ys p q end_x end_y e =
    absurd (end_x b (events_text_of vs ++ ys) (All-head IsLine b vs q) (e ∙ append_assoc (line_text b) (events_text_of vs) ys))
same-lines (a ∷ us) [] xs ys p q end_x end_y e =
    absurd (end_y a (events_text_of us ++ xs) (All-head IsLine a us p) (sym e ∙ append_assoc (line_text a) (events_text_of us) xs))
same-lines (a ∷ us) (b ∷ vs) xs ys p q end_x end_y e =
    let rest : line_text a ++ (events_text_of us ++ xs) ≡ line_text b ++ (events_text_of vs ++ ys) =
    sym (append_assoc (line_text a) (events_text_of us) xs) ∙ (e ∙ append_assoc (line_text b) (events_text_of vs) ys) in
    let both : (a ≡ b) × (events_text_of us ++ xs ≡ events_text_of vs ++ ys) =
    same-first a b (events_text_of us ++ xs) (events_text_of vs ++ ys) (All-head IsLine a us p) (All-head IsLine b vs q) rest in
    let more : (us ≡ vs) × (xs ≡ ys) = same-lines us vs xs ys (All-tail IsLine a us p) (All-tail IsLine b vs q) end_x end_y both.1 in
    (ap₂ (λ u v. u ∷ v) both.0 more.0, more.1)

-- the last line of a record is no line of events
pub end-ends : (more : List ℕ) → EndsLines (end_text ++ more)
end-ends more (Run n) xs is e = let bad : ◌≡◌ {A = ℕ} 101 114 = cc in absurd (omega (arith, bad))
end-ends more (Tick n) xs is e = let bad : ◌≡◌ {A = ℕ} 101 116 = cc in absurd (omega (arith, bad))
end-ends more (Send n) xs is e = let bad : ◌≡◌ {A = ℕ} 101 115 = cc in absurd (omega (arith, bad))
end-ends more (Key n) xs is e = let bad : ◌≡◌ {A = ℕ} 101 107 = cc in absurd (omega (arith, bad))

-- bytes without a line break aren't `front`, a line break, and more
no-break-in : (rest front xs : List ℕ) → IsOneLine rest → rest ≡ front ++ 10 ∷ xs → ⊥
no-break-in [] [] xs one e = cc
no-break-in [] (f ∷ front) xs one e = cc
no-break-in (b ∷ rest) [] xs one e = let is : b ≡ 10 = cc in All-head (λ c. c ≢ 10) b rest one is
no-break-in (b ∷ rest) (f ∷ front) xs one e = no-break-in rest front xs (All-tail (λ c. c ≢ 10) b rest one) cc

worded-has : (word : List ℕ) (n : ℕ) (xs : List ℕ) → worded word n ++ xs ≡ (word ++ decimal n) ++ 10 ∷ xs
worded-has word n xs = worded-rest word n xs ∙ sym (append_assoc word (decimal n) (10 ∷ xs))

-- nor is a part of a line
pub part-ends : (rest : List ℕ) → IsOneLine rest → EndsLines rest
part-ends rest one (Run n) xs is e = no-break-in rest (codes "run " ++ decimal n) xs one (e ∙ worded-has (codes "run ") n xs)
part-ends rest one (Tick n) xs is e = no-break-in rest (codes "tick " ++ decimal n) xs one (e ∙ worded-has (codes "tick ") n xs)
part-ends rest one (Send n) xs is e = no-break-in rest (codes "send " ++ decimal n) xs one (e ∙ worded-has (codes "send ") n xs)
part-ends rest one (Key n) xs is e = no-break-in rest (codes "key " ++ decimal n) xs one (e ∙ worded-has (codes "key ") n xs)

-- the last line is no part of a line
pub end-breaks : (rest more : List ℕ) → IsOneLine rest → rest ≡ end_text ++ more → ⊥
end-breaks rest more one e = no-break-in rest (codes "end") more one e
