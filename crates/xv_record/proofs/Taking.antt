-- A text has one record only.
use Rattle.std.proofs.Common.{◌≡◌, ◌∙◌, ℕ, Bool, true, false, List, [], ◌++◌, append-nil, ap, arith, get_or, refl, sym, subst}
use Rattle.std.proofs.lemmas.List.{append_cancel_left}
use Rattle.xv_record.specs.Reading.{EndsIn, Has, in_form}
use Rattle.xv_record.specs.Told.{RecordTold, IsTold, begun_text_of, end_text}
use Rattle.xv_record.specs.declared.reading.Ending.{Ending}
use Rattle.xv_record.specs.declared.reading.Ending.TheVariants.{Whole, Cut, Longer}
use Rattle.xv_record.proofs.Lines.{EndsLines, end-ends, part-ends, end-breaks}
use Rattle.xv_record.proofs.Whole.{same-record}

-- no line of events stands behind a record's events
ends-lines : (ending : Ending) (rest : List ℕ) → EndsIn false ending rest → EndsLines rest
ends-lines Whole rest is = subst EndsLines (append-nil end_text ∙ sym is) (end-ends [])
ends-lines Cut rest is = part-ends rest is
ends-lines Longer rest is = subst EndsLines (sym is.2) (end-ends is.0)

-- a text that ends so ends in no other way
same-ending : (a b : Ending) (rest : List ℕ) → EndsIn false a rest → EndsIn false b rest → a ≡ b
same-ending Whole Whole rest p q = refl
same-ending Cut Cut rest p q = refl
same-ending Longer Longer rest p q = refl
same-ending Whole Cut rest p q = absurd (end-breaks rest [] q (p ∙ sym (append-nil end_text)))
same-ending Cut Whole rest p q = absurd (end-breaks rest [] p (q ∙ sym (append-nil end_text)))
same-ending Cut Longer rest p q = absurd (end-breaks rest q.0 p q.2)
same-ending Longer Cut rest p q = absurd (end-breaks rest p.0 q p.2)
same-ending Whole Longer rest p q = absurd (q.1 (append_cancel_left end_text q.0 [] (sym q.2 ∙ (p ∙ sym (append-nil end_text)))))
same-ending Longer Whole rest p q = absurd (p.1 (append_cancel_left end_text p.0 [] (sym p.2 ∙ (q ∙ sym (append-nil end_text)))))

-- a text without returns that has a record has no other, and ends in no other way
pub one-record : (text : List ℕ) (r s : RecordTold) (a b : Ending) → IsTold r → IsTold s → Has false text r a → Has false text s b → (r ≡ s) × (a ≡ b)
one-record text r s a b h k p q =
    let both : (r ≡ s) × (p.rest ≡ q.rest) = same-record r s p.rest q.rest h k (ends-lines a p.rest p.ends) (ends-lines b q.rest q.ends) (sym p.text_is ∙ q.text_is) in
    (both.0, same-ending a b p.rest p.ends (subst (EndsIn false b) (sym both.1) q.ends))

-- a text whose lines end in returns isn't one whose lines don't
pub returns-differ : (text : List ℕ) (r s : RecordTold) (a b : Ending) → Has true text r a → Has false text s b → ⊥
returns-differ text r s a b p q =
    let same : in_form true (begun_text_of r) ++ p.rest ≡ begun_text_of s ++ q.rest = sym p.text_is ∙ q.text_is in
    let bad : ◌≡◌ {A = ℕ} 13 10 = ap (λ (t : List ℕ). get_or t 11 0) same in
    absurd (omega (arith, bad))

-- so it is the record that was written
pub taken-same : (text : List ℕ) (r s : RecordTold) (a b : Ending) (returns : Bool) → IsTold r → IsTold s → Has returns text r a → Has false text s b → (r ≡ s) × (a ≡ b)
taken-same text r s a b true h k p q = absurd (returns-differ text r s a b p q)
taken-same text r s a b false h k p q = one-record text r s a b h k p q
