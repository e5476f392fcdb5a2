-- A file of which the first bytes stand, and others are put behind them.
use Rattle.std.proofs.Common.{◌≡◌, ◌∙◌, ℕ, ◌+◌, List, [], ◌++◌, append_assoc, Option, None, Some, IfSome, ap, length, refl, subst, sym, take}
use Rattle.std.proofs.Math.Seq.{take-append_seam}
use Rattle.std.proofs.lemmas.Grind.{flat_map-append}
use Rattle.std.proofs.lemmas.List.{length-append}
use Rattle.xv_record.specs.Growing.{Grows, PutBehind, Stands}
use Rattle.xv_record.specs.Text.{events_text_of, line_text}
use Rattle.xv_record.specs.Told.{end_text}
use Rattle.xv_record.specs.declared.line.Line.{Line}

-- the text of lines, one list behind another
pub events-join : (us vs : List Line) → events_text_of (us ++ vs) ≡ events_text_of us ++ events_text_of vs
events-join us vs = flat_map-append line_text us vs

-- first bytes that are these, and what was put behind them
put-whole : (kept : ℕ) (front bytes : List ℕ) (old new : Option (List ℕ)) → IfSome old (λ xs. take kept xs ≡ front) → PutBehind kept bytes old new → IfSome new (λ ys. ys ≡ front ++ bytes)
put-whole kept front bytes None new stands put = subst (λ (o : Option (List ℕ)). IfSome o (λ ys. ys ≡ front ++ bytes)) (sym put) tt
put-whole kept front bytes (Some xs) None stands put = absurd put
put-whole kept front bytes (Some xs) (Some ys) stands put = put ∙ ap (λ (zs : List ℕ). zs ++ bytes) stands

-- of a file that is known, the first bytes, and all
first-are : (standing : ℕ) (front rest : List ℕ) (held : Option (List ℕ)) → standing ≡ length front → IfSome held (λ ys. ys ≡ front ++ rest) → IfSome held (λ ys. take standing ys ≡ front)
first-are standing front rest None size is = tt
first-are standing front rest (Some ys) size is = ap (take standing) is ∙ (ap (λ (n : ℕ). take n (front ++ rest)) size ∙ take-append_seam front rest)

all-are : (us vs : List ℕ) (held : Option (List ℕ)) → us ≡ vs → IfSome held (λ ys. ys ≡ us) → IfSome held (λ ys. ys ≡ vs)
all-are us vs held same is = subst (λ (zs : List ℕ). IfSome held (λ ys. ys ≡ zs)) same is

-- lines that stand, lines that may change, and the last line were put behind these bytes
parts-put : (head front : List ℕ) (before over last : List Line) (size : ℕ) (new : Option (List ℕ)) → front ≡ head ++ events_text_of before
    → IfSome new (λ ys. ys ≡ front ++ ((events_text_of over ++ events_text_of last) ++ end_text)) → size ≡ length front + length (events_text_of over) → Grows head before over last size new
parts-put head front before over last size new is put sized =
    let more : List ℕ = events_text_of over in
    let rest : List ℕ = events_text_of last ++ end_text in
    let joined : head ++ events_text_of (before ++ over) ≡ front ++ more =
    ap (λ (ts : List ℕ). head ++ ts) (events-join before over) ∙ (sym (append_assoc head (events_text_of before) more) ∙ ap (λ (ts : List ℕ). ts ++ more) (sym is)) in
    let long : size ≡ length (head ++ events_text_of (before ++ over)) = sized ∙ (sym (length-append front more) ∙ ap length (sym joined)) in
    let split : front ++ ((more ++ events_text_of last) ++ end_text) ≡ (head ++ events_text_of (before ++ over)) ++ rest =
    ap (λ (ts : List ℕ). front ++ ts) (append_assoc more (events_text_of last) end_text) ∙ (sym (append_assoc front more rest) ∙ ap (λ (ts : List ℕ). ts ++ rest) (sym joined)) in
    let all : (head ++ events_text_of (before ++ over)) ++ rest ≡ (head ++ events_text_of ((before ++ over) ++ last)) ++ end_text =
    sym (append_assoc (head ++ events_text_of (before ++ over)) (events_text_of last) end_text)
    ∙ ap (λ (ts : List ℕ). ts ++ end_text) (append_assoc head (events_text_of (before ++ over)) (events_text_of last) ∙ ap (λ (ts : List ℕ). head ++ ts) (sym (events-join (before ++ over) last))) in
    let parts : IfSome new (λ ys. ys ≡ (head ++ events_text_of (before ++ over)) ++ rest) =
    all-are (front ++ ((more ++ events_text_of last) ++ end_text)) ((head ++ events_text_of (before ++ over)) ++ rest) new split put in
    record {
      stands = record { size = long; bytes = first-are size (head ++ events_text_of (before ++ over)) rest new long parts };
      whole = all-are ((head ++ events_text_of (before ++ over)) ++ rest) ((head ++ events_text_of ((before ++ over) ++ last)) ++ end_text) new all parts;
    }

-- behind those that stood
pub grown : (head front : List ℕ) (before over last : List Line) (standing size : ℕ) (old new : Option (List ℕ)) → front ≡ [] → Stands old standing head before
    → PutBehind standing (((front ++ events_text_of over) ++ events_text_of last) ++ end_text) old new → size ≡ standing + length (front ++ events_text_of over) → Grows head before over last size new
grown head front before over last standing size old new none stands put sized =
    let stood : List ℕ = head ++ events_text_of before in
    let more : List ℕ = events_text_of over in
    let text : List ℕ = (more ++ events_text_of last) ++ end_text in
    let put_so : PutBehind standing text old new = subst (λ (fs : List ℕ). PutBehind standing (((fs ++ more) ++ events_text_of last) ++ end_text) old new) none put in
    let long : size ≡ standing + length more = sized ∙ ap (λ (fs : List ℕ). standing + length (fs ++ more)) none in
    parts-put head stood before over last size new refl (put-whole standing stood text old new stands.bytes put_so) (long ∙ ap (λ (n : ℕ). n + length more) stands.size)
