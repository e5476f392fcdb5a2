-- A record's text is that of one record only.
use Rattle.std.proofs.Common.{◌≡◌, ◌≢◌, ℕ, zero, suc, List, [], ◌∷◌, ◌++◌, length, map, codes, flat_map, Result, Ok, refl, sym, subst, ◌∙◌, ap, ap₂, arith, append_assoc}
use Rattle.std.proofs.lemmas.List.{append_cancel_left}
use Rattle.std.proofs.lemmas.List.Elements.{All-head, All-tail, All-push}
use Rattle.std.proofs.lemmas.List.{map-append}
use Rattle.std.proofs.lemmas.List.Folds.{flat_map-map}
use Rattle.std.specs.Fmt.{decimal}
use Rattle.std.specs.List.{All}
use Rattle.hex.specs.Hex.{encode_lower, lower_digits, IsBytes, decode_of}
use Rattle.hex.specs.declared.error.FromHexError.{FromHexError}
use Rattle.hex.proofs.HexLemmas.{length-encode_with, decode_of-encode_lower}
use Rattle.xv_record.specs.declared.sums.ProgramSum.{ProgramSum}
use Rattle.xv_record.specs.Text.{worded, events_text_of}
use Rattle.xv_record.specs.Told.{ProgramTold, RecordTold, IsProgramTold, AreProgramsTold, IsTold, told_program, program_text, begun_text_of, head_text_of}
use Rattle.xv_record.proofs.Lines.{EndsLines, Lacks, same-part, decimal-no_space, same-decimal, same-lines, same-worded}

-- what stands in as many places, and behind it
same-front : (us vs xs ys : List ℕ) → length us ≡ length vs → us ++ xs ≡ vs ++ ys → (us ≡ vs) × (xs ≡ ys)
same-front [] [] xs ys n e = (refl, e)
same-front [] (b ∷ vs) xs ys n e = absurd (omega (arith, n))
same-front (a ∷ us) [] xs ys n e = absurd (omega (arith, n))
same-front (a ∷ us) (b ∷ vs) xs ys n e =
    let first : a ≡ b = cc in
    let rest : us ++ xs ≡ vs ++ ys = cc in
    let both : (us ≡ vs) × (xs ≡ ys) = same-front us vs xs ys (omega (arith, n)) rest in
    (ap₂ (λ x y. x ∷ y) first both.0, both.1)

all-lack : (c : ℕ) (ds : List ℕ) → All (λ b. b ≢ c) ds → Lacks c ds
all-lack c [] h i below = absurd (omega (arith, below))
all-lack c (d ∷ ds) h zero below = All-head (λ b. b ≢ c) d ds h
all-lack c (d ∷ ds) h (suc i) below = all-lack c ds (All-tail (λ b. b ≢ c) d ds h) i (omega (arith, below))

same-sum : (s t xs ys : List ℕ) → length s ≡ length t → IsBytes s → IsBytes t → encode_lower s ++ xs ≡ encode_lower t ++ ys → (s ≡ t) × (xs ≡ ys)
same-sum s t xs ys n p q e =
    let m = length-encode_with lower_digits s in
    let k = length-encode_with lower_digits t in
    let both : (encode_lower s ≡ encode_lower t) × (xs ≡ ys) = same-front (encode_lower s) (encode_lower t) xs ys (omega (arith, m, k, n)) e in
    let decoded : ◌≡◌ {A = Result (List ℕ) FromHexError} (Ok s) (Ok t) = sym (decode_of-encode_lower s p) ∙ (ap decode_of both.0 ∙ decode_of-encode_lower t q) in
    let same : s ≡ t = cc in
    (same, both.1)

spread : (a b c d xs : List ℕ) → (a ++ (b ++ 32 ∷ (c ++ 32 ∷ (d ++ 10 ∷ [])))) ++ xs ≡ a ++ (b ++ 32 ∷ (c ++ 32 ∷ (d ++ 10 ∷ xs)))
spread a b c d xs =
    append_assoc a (b ++ 32 ∷ (c ++ 32 ∷ (d ++ 10 ∷ []))) xs
    ∙ ap (λ t. a ++ t) (append_assoc b (32 ∷ (c ++ 32 ∷ (d ++ 10 ∷ []))) xs
    ∙ ap (λ t. b ++ 32 ∷ t) (append_assoc c (32 ∷ (d ++ 10 ∷ [])) xs
    ∙ ap (λ t. c ++ 32 ∷ t) (append_assoc d (10 ∷ []) xs)))

same-program : (p q : ProgramTold) (xs ys : List ℕ) → IsProgramTold p → IsProgramTold q → program_text p ++ xs ≡ program_text q ++ ys → (p ≡ q) × (xs ≡ ys)
same-program p q xs ys h k e =
    let word : List ℕ = codes "program " in
    let same : word ++ (encode_lower p.sum ++ 32 ∷ (decimal p.size ++ 32 ∷ (p.name ++ 10 ∷ xs))) ≡ word ++ (encode_lower q.sum ++ 32 ∷ (decimal q.size ++ 32 ∷ (q.name ++ 10 ∷ ys))) =
    sym (spread word (encode_lower p.sum) (decimal p.size) p.name xs) ∙ (e ∙ spread word (encode_lower q.sum) (decimal q.size) q.name ys) in
    let behind = append_cancel_left word (encode_lower p.sum ++ 32 ∷ (decimal p.size ++ 32 ∷ (p.name ++ 10 ∷ xs))) (encode_lower q.sum ++ 32 ∷ (decimal q.size ++ 32 ∷ (q.name ++ 10 ∷ ys))) same in
    let sums : (p.sum ≡ q.sum) × (32 ∷ (decimal p.size ++ 32 ∷ (p.name ++ 10 ∷ xs)) ≡ 32 ∷ (decimal q.size ++ 32 ∷ (q.name ++ 10 ∷ ys))) =
    same-sum p.sum q.sum (32 ∷ (decimal p.size ++ 32 ∷ (p.name ++ 10 ∷ xs))) (32 ∷ (decimal q.size ++ 32 ∷ (q.name ++ 10 ∷ ys))) (h.sum ∙ sym k.sum) h.sum_bytes k.sum_bytes behind in
    let sized : decimal p.size ++ 32 ∷ (p.name ++ 10 ∷ xs) ≡ decimal q.size ++ 32 ∷ (q.name ++ 10 ∷ ys) =
    append_cancel_left (32 ∷ []) (decimal p.size ++ 32 ∷ (p.name ++ 10 ∷ xs)) (decimal q.size ++ 32 ∷ (q.name ++ 10 ∷ ys)) sums.1 in
    let sizes : (p.size ≡ q.size) × (p.name ++ 10 ∷ xs ≡ q.name ++ 10 ∷ ys) =
    same-decimal 32 p.size q.size (p.name ++ 10 ∷ xs) (q.name ++ 10 ∷ ys) h.size k.size (decimal-no_space p.size h.size)
    (decimal-no_space q.size k.size) sized in
    let names : (p.name ≡ q.name) × (xs ≡ ys) = same-part 10 p.name q.name xs ys (all-lack 10 p.name h.name) (all-lack 10 q.name k.name) sizes.1 in
    ((λ i. record { sum = sums.0 i; size = sizes.0 i; name = names.0 i }), names.1)

same-programs : (ps qs : List ProgramTold) (xs ys : List ℕ) → AreProgramsTold ps → AreProgramsTold qs
    → flat_map program_text ps ++ (codes "events\n" ++ xs) ≡ flat_map program_text qs ++ (codes "events\n" ++ ys) → (ps ≡ qs) × (xs ≡ ys)
same-programs [] [] xs ys h k e = (refl, append_cancel_left (codes "events\n") xs ys e)
same-programs [] (q ∷ qs) xs ys h k e = let bad : ◌≡◌ {A = ℕ} 101 112 = cc in absurd (omega (arith, bad))
same-programs (p ∷ ps) [] xs ys h k e = let bad : ◌≡◌ {A = ℕ} 112 101 = cc in absurd (omega (arith, bad))
same-programs (p ∷ ps) (q ∷ qs) xs ys h k e =
    let us : List ℕ = flat_map program_text ps ++ (codes "events\n" ++ xs) in
    let vs : List ℕ = flat_map program_text qs ++ (codes "events\n" ++ ys) in
    let one : (p ≡ q) × (us ≡ vs) = same-program p q us vs (All-head IsProgramTold p ps h) (All-head IsProgramTold q qs k)
    (sym (append_assoc (program_text p) (flat_map program_text ps) (codes "events\n" ++ xs)) ∙ (e ∙ append_assoc (program_text q) (flat_map program_text qs) (codes "events\n" ++ ys))) in
    let more : (ps ≡ qs) × (xs ≡ ys) = same-programs ps qs xs ys (All-tail IsProgramTold p ps h) (All-tail IsProgramTold q qs k) one.1 in
    (ap₂ (λ u v. u ∷ v) one.0 more.0, more.1)

spread-head : (r : RecordTold) (xs : List ℕ) → begun_text_of r ++ xs
    ≡ codes "xv record 1\n" ++ (worded (codes "frames ") r.frames ++ (flat_map program_text r.programs ++ (codes "events\n" ++ (events_text_of r.events ++ xs))))
spread-head r xs =
    let frames : List ℕ = worded (codes "frames ") r.frames in
    let programs : List ℕ = flat_map program_text r.programs in
    let events : List ℕ = events_text_of r.events in
    append_assoc (head_text_of r.frames r.programs) events xs
    ∙ (append_assoc (codes "xv record 1\n") (frames ++ (programs ++ codes "events\n")) (events ++ xs)
    ∙ ap (λ t. codes "xv record 1\n" ++ t) (append_assoc frames (programs ++ codes "events\n") (events ++ xs)
    ∙ ap (λ t. frames ++ t) (append_assoc programs (codes "events\n") (events ++ xs))))

-- a record's head and events, and behind them what no line of events begins
pub same-record : (r s : RecordTold) (xs ys : List ℕ) → IsTold r → IsTold s → EndsLines xs → EndsLines ys → begun_text_of r ++ xs ≡ begun_text_of s ++ ys → (r ≡ s) × (xs ≡ ys)
same-record r s xs ys h k end_x end_y e =
    let us : List ℕ = events_text_of r.events ++ xs in
    let vs : List ℕ = events_text_of s.events ++ ys in
    let ps : List ℕ = flat_map program_text r.programs ++ (codes "events\n" ++ us) in
    let qs : List ℕ = flat_map program_text s.programs ++ (codes "events\n" ++ vs) in
    let spread : codes "xv record 1\n" ++ (worded (codes "frames ") r.frames ++ ps) ≡ codes "xv record 1\n" ++ (worded (codes "frames ") s.frames ++ qs) =
    sym (spread-head r xs) ∙ (e ∙ spread-head s ys) in
    let behind = append_cancel_left (codes "xv record 1\n") (worded (codes "frames ") r.frames ++ ps) (worded (codes "frames ") s.frames ++ qs) spread in
    let frames : (r.frames ≡ s.frames) × (ps ≡ qs) = same-worded (codes "frames ") r.frames s.frames ps qs (omega (arith, h.frames)) (omega (arith, k.frames)) behind in
    let programs : (r.programs ≡ s.programs) × (us ≡ vs) = same-programs r.programs s.programs us vs h.programs k.programs frames.1 in
    let events : (r.events ≡ s.events) × (xs ≡ ys) = same-lines r.events s.events xs ys h.events k.events end_x end_y programs.1 in
    ((λ i. record { frames = frames.0 i; programs = programs.0 i; events = events.0 i }), events.1)

-- one program more
pub told-push : (xs ys : List ProgramSum) (x : ProgramSum) → ys ≡ xs ++ x ∷ [] → AreProgramsTold (map told_program xs) → IsProgramTold (told_program x) → AreProgramsTold (map told_program ys)
told-push xs ys x same are is =
    let mapped : map told_program ys ≡ map told_program xs ++ told_program x ∷ [] = ap (λ (list : List ProgramSum). map told_program list) same ∙ map-append told_program xs (x ∷ []) in
    subst (λ (list : List ProgramTold). AreProgramsTold list) (sym mapped) (All-push IsProgramTold (map told_program xs) (told_program x) are is)

pub programs_text_is : (ps : List ProgramSum) → flat_map (λ p. program_text (told_program p)) ps ≡ flat_map program_text (map told_program ps)
programs_text_is ps = sym (flat_map-map program_text told_program ps)
