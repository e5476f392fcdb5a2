-- The first file that is there, and texts in parts.
use Rattle.std.proofs.Common.{◌≡◌, ◌∙◌, Bor, ℕ, zero, suc, ◌+◌, ◌<◌, Bool, true, false, List, [], ◌∷◌, ◌++◌, length, take, drop, get_or, Option, Some, None, inl, inr}
use Rattle.std.proofs.Common.{refl, sym, ap, subst, arith, append-nil, append_assoc}
use Rattle.std.specs.Prelude.{◌==◌, eqb, not, cond, if◌then◌else◌, map, codes, String, string_bytes}
use Rattle.std.specs.declared.alloc.Global.{Global}
use Rattle.std.specs.List.{concat, find, onto_first, slice_split, starts_with}
use Rattle.std.proofs.lemmas.Bool.{cases_Bool, ne_eqb}
use Rattle.std.proofs.lemmas.List.{take_more, drop_more, length-take-le}
use Rattle.grade_submissions.specs.declared.submission.HandedIn.{HandedIn}
use Rattle.grade_submissions.specs.Disks.{Reads}
use Rattle.grade_submissions.specs.Files.{Handing, IsUnder, IsNoneThere, IsFirstThere, or_names, no_file_text, is_return, without_returns}

module _ (reads : Reads) (handing : Handing) where
  none-one : (files : List (String Global)) (file : String Global) → IsNoneThere reads handing files → IsUnder reads handing (string_bytes file) None
      → IsNoneThere reads handing (files ++ file ∷ [])
  none-one [] file none here = (here, tt)
  none-one (other ∷ files) file none here = (none.0, none-one files file none.1 here)

  -- one file more that isn't there
  pub none_more : (files : List (String Global)) (place : ℕ) (file : String Global) → place < length files → file ≡ get_or files place file
      → IsNoneThere reads handing (take place files) → IsUnder reads handing (string_bytes file) None → IsNoneThere reads handing (take (place + 1) files)
  none_more files place file within is none here =
      let is_that : take (place + 1) files ≡ take place files ++ file ∷ [] = take_more files place file within ∙ ap (λ (f : String Global). take place files ++ f ∷ []) (sym is) in
      subst (λ (fs : List (String Global)). IsNoneThere reads handing fs) (sym is_that) (none-one (take place files) file none here)

  -- the file at a place is there, and none before it
  pub first_at : (files : List (String Global)) (place : ℕ) (file : String Global) (h : HandedIn) → place < length files → file ≡ get_or files place file
      → IsNoneThere reads handing (take place files) → IsUnder reads handing (string_bytes file) (Some h) → IsFirstThere reads handing files h
  first_at [] place file h within is none here = absurd (omega (arith, within))
  first_at (x ∷ files) zero file h within is none here = inl (subst (λ (f : String Global). IsUnder reads handing (string_bytes f) (Some h)) is here)
  first_at (x ∷ files) (suc place) file h within is none here = inr (none.0, first_at files place file h (omega (arith, within)) is none.1 here)

-- ---- lines that say why a file isn't to be run

abbrev pub begins : (begin line : List ℕ) → Bool
begins begin line = starts_with eqb line begin

abbrev pub first_from : (begin : List ℕ) → List (Bor (List ℕ)) → Option (List ℕ)
first_from begin list = find (begins begin) (map (λ l. l.now) list)

module _ (begin : List ℕ) (lines : List (Bor (List ℕ))) (place : ℕ) (other : Bor (List ℕ)) (within : place < length lines) where
  from-here : first_from begin (drop place lines) ≡ first_from begin (get_or lines place other ∷ drop (place + 1) lines)
  from-here = ap (first_from begin) (drop_more lines place other within)

  -- the line at a place begins so
  pub line_here : begins begin (get_or lines place other).now ≡ true → first_from begin (drop place lines) ≡ Some (get_or lines place other).now
  line_here so = from-here ∙ ap (λ (b : Bool). cond b (Some (get_or lines place other).now) (first_from begin (drop (place + 1) lines))) so

  -- it doesn't: the first that does comes later
  pub line_later : begins begin (get_or lines place other).now ≡ false → first_from begin (drop (place + 1) lines) ≡ first_from begin (drop place lines)
  line_later so = sym (from-here ∙ ap (λ (b : Bool). cond b (Some (get_or lines place other).now) (first_from begin (drop (place + 1) lines))) so)

-- ---- that none is there, in words

abbrev pub joint : ℕ → List ℕ
joint place = if place == 0 then codes " " else codes " or "

joint-more : (place : ℕ) → joint (suc place) ≡ codes " or "
joint-more place = ap (λ (b : Bool). cond b (codes " ") (codes " or ")) (ne_eqb (suc place) 0 (λ none. omega (arith, none)))

or-more : (files : List (String Global)) (file : String Global) → or_names (files ++ file ∷ []) ≡ or_names files ++ (codes " or " ++ string_bytes file)
or-more [] file = append-nil (codes " or " ++ string_bytes file)
or-more (x ∷ files) file =
    ap (λ (l : List ℕ). (codes " or " ++ string_bytes x) ++ l) (or-more files file)
    ∙ sym (append_assoc (codes " or " ++ string_bytes x) (or_names files) (codes " or " ++ string_bytes file))

no-file-one : (files : List (String Global)) (file : String Global) → no_file_text (files ++ file ∷ []) ≡ no_file_text files ++ (joint (length files) ++ string_bytes file)
no-file-one [] file = ap (λ (l : List ℕ). codes "no file " ++ l) (append-nil (string_bytes file))
no-file-one (x ∷ files) file =
    ap (λ (l : List ℕ). codes "no file " ++ (string_bytes x ++ l)) (or-more files file)
    ∙ ap (λ (l : List ℕ). codes "no file " ++ l) (sym (append_assoc (string_bytes x) (or_names files) (codes " or " ++ string_bytes file)))
    ∙ sym (append_assoc (codes "no file ") (string_bytes x ++ or_names files) (codes " or " ++ string_bytes file))
    ∙ ap (λ (l : List ℕ). no_file_text (x ∷ files) ++ (l ++ string_bytes file)) (sym (joint-more (length files)))

-- one file more
pub no_file_more : (files : List (String Global)) (place : ℕ) (file : String Global) → place < length files → file ≡ get_or files place file
    → no_file_text (take (place + 1) files) ≡ no_file_text (take place files) ++ (joint place ++ string_bytes file)
no_file_more files place file within is =
    let is_that : take (place + 1) files ≡ take place files ++ file ∷ [] = take_more files place file within ∙ ap (λ (f : String Global). take place files ++ f ∷ []) (sym is) in
    ap no_file_text is_that ∙ no-file-one (take place files) file
    ∙ ap (λ (n : ℕ). no_file_text (take place files) ++ (joint n ++ string_bytes file)) (length-take-le place files (omega (arith, within)))

-- ---- parts of a text

joined-one : (parts : List (Bor (List ℕ))) (part : Bor (List ℕ)) → concat (map (λ p. p.now) (parts ++ part ∷ [])) ≡ concat (map (λ p. p.now) parts) ++ part.now
joined-one [] part = append-nil part.now
joined-one (x ∷ parts) part = ap (λ (l : List ℕ). x.now ++ l) (joined-one parts part) ∙ sym (append_assoc x.now (concat (map (λ p. p.now) parts)) part.now)

-- one part more
pub joined_more : (parts : List (Bor (List ℕ))) (place : ℕ) (other : Bor (List ℕ)) → place < length parts
    → concat (map (λ p. p.now) (take (place + 1) parts)) ≡ concat (map (λ p. p.now) (take place parts)) ++ (get_or parts place other).now
joined_more parts place other within =
    ap (λ (ps : List (Bor (List ℕ))). concat (map (λ p. p.now) ps)) (take_more parts place other within) ∙ joined-one (take place parts) (get_or parts place other)

-- ---- carriage returns

concat-onto : (x : ℕ) (parts : List (List ℕ)) → concat (onto_first x parts) ≡ x ∷ concat parts
concat-onto x [] = refl
concat-onto x (part ∷ parts) = refl

-- the parts between carriage returns are the text without them
pub parts_joined : (text : List ℕ) → concat (slice_split is_return text) ≡ without_returns text
parts_joined [] = refl
parts_joined (x ∷ text) = elim (cases_Bool (is_return x)) [
  | inl so ↦
      ap (λ (b : Bool). concat (cond b ([] ∷ slice_split is_return text) (onto_first x (slice_split is_return text)))) so
      ∙ parts_joined text ∙ sym (ap (λ (b : Bool). cond (not b) (x ∷ without_returns text) (without_returns text)) so)
  | inr other ↦
      ap (λ (b : Bool). concat (cond b ([] ∷ slice_split is_return text) (onto_first x (slice_split is_return text)))) other
      ∙ concat-onto x (slice_split is_return text) ∙ ap (λ (l : List ℕ). x ∷ l) (parts_joined text)
      ∙ sym (ap (λ (b : Bool). cond (not b) (x ∷ without_returns text) (without_returns text)) other)
]
