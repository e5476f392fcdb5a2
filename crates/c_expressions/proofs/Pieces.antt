-- What stands first in a text, and what stands behind it.
use Rattle.std.proofs.Common.{◌≡◌, ◌∙◌, ℕ, ◌==◌, ◌<◌, length, length-drop, List, [], ◌∷◌, ◌++◌}
use Rattle.std.proofs.Common.{map, append-nil, append_assoc, Bool, true, false, refl, sym, ap, subst, take, drop, Option, Some, None, arith}
use Rattle.c_expressions.specs.Tokens.{as_list, IsFirst, Piece, begins_with, begins_word as starts_word, Word, Negative, Leads, Blank, Sign, before, before_word}
use Rattle.c_expressions.specs.Tokens.{first_and, is_blank, is_of_word, minus_before, pieces, seen, then_tokens, tokens_in, tokens_of, word_length, word_token, negative}
use Rattle.std.proofs.lemmas.List.{map-append}
use Rattle.std.specs.Borrow.{Bor}
use Rattle.c_expressions.specs.declared.tokens.First.{First}
use Rattle.c_expressions.specs.declared.tokens.Token.{Token}
use Rattle.c_expressions.specs.declared.tokens.Token.TheVariants.{Arrow}

begins_word : List Piece → Bool
begins_word [] = false
begins_word (Word w ∷ ps) = true
begins_word (Negative w ∷ ps) = false
begins_word (Leads ∷ ps) = false
begins_word (Blank ∷ ps) = false
begins_word (Sign s ∷ ps) = false

alone : (byte : ℕ) (ps : List Piece) → begins_word ps ≡ false → before_word byte ps ≡ Word (byte ∷ []) ∷ ps
unfolding begins_word
alone byte [] e = refl
alone byte (Word w ∷ ps) e = cc
alone byte (Negative w ∷ ps) e = refl
alone byte (Leads ∷ ps) e = refl
alone byte (Blank ∷ ps) e = refl
alone byte (Sign s ∷ ps) e = refl

minus-no-sign : (s : ℕ) (ps : List Piece) (t : Bool) → (s == 62) ≡ t → begins_word (minus_before (Sign s ∷ ps)) ≡ false
unfolding begins_word
minus-no-sign s ps true e = rw e refl
minus-no-sign s ps false e = rw e refl

minus-no-word : (ps : List Piece) → begins_word (minus_before ps) ≡ false
unfolding begins_word
minus-no-word [] = refl
minus-no-word (Word w ∷ ps) = refl
minus-no-word (Negative w ∷ ps) = refl
minus-no-word (Leads ∷ ps) = refl
minus-no-word (Blank ∷ ps) = refl
minus-no-word (Sign s ∷ ps) = minus-no-sign s ps (s == 62) refl

no-word-by : (byte : ℕ) (ps : List Piece) (blank minus : Bool) → is_of_word byte ≡ false → is_blank byte ≡ blank → (byte == 45) ≡ minus → begins_word (before byte ps) ≡ false
unfolding begins_word
no-word-by byte ps true minus e b m = rw (e, b) refl
no-word-by byte ps false true e b m = rw (e, b, m) (minus-no-word ps)
no-word-by byte ps false false e b m = rw (e, b, m) refl

no-word : (byte : ℕ) (ps : List Piece) → is_of_word byte ≡ false → begins_word (before byte ps) ≡ false
no-word byte ps e = no-word-by byte ps (is_blank byte) (byte == 45) e refl refl

-- the word of the first bytes, before the pieces of the others
put_word : List ℕ → List Piece → List Piece
put_word [] ps = ps
put_word (byte ∷ bytes) ps = Word (byte ∷ bytes) ∷ ps

grown : (byte : ℕ) (word : List ℕ) (ps : List Piece) → begins_word ps ≡ false → before_word byte (put_word word ps) ≡ Word (byte ∷ word) ∷ ps
unfolding put_word
grown byte [] ps e = alone byte ps e
grown byte (b ∷ word) ps e = refl

-- what stands behind a word doesn't begin one
record IsWordFirst (text : List ℕ) : Type 0 where
  parts : pieces text ≡ put_word (take (word_length text) text) (pieces (drop (word_length text) text))
  ends : begins_word (pieces (drop (word_length text) text)) ≡ false

longer : (byte : ℕ) (bytes : List ℕ) → is_of_word byte ≡ true → IsWordFirst bytes → IsWordFirst (byte ∷ bytes)
unfolding put_word
longer byte bytes e w = record {
  parts = rw e (ap (before_word byte) w.parts ∙ grown byte (take (word_length bytes) bytes) (pieces (drop (word_length bytes) bytes)) w.ends);
  ends = rw e w.ends;
}

other : (byte : ℕ) (bytes : List ℕ) → is_of_word byte ≡ false → IsWordFirst (byte ∷ bytes)
unfolding put_word
other byte bytes e = record {
  parts = rw (e, e) refl;
  ends = rw e (no-word byte (pieces bytes) e);
}

word-first-by : (byte : ℕ) (bytes : List ℕ) (t : Bool) → is_of_word byte ≡ t → IsWordFirst bytes → IsWordFirst (byte ∷ bytes)
word-first-by byte bytes true e w = longer byte bytes e w
word-first-by byte bytes false e w = other byte bytes e

word-first : (text : List ℕ) → IsWordFirst text
unfolding put_word begins_word
word-first [] = record { parts = refl; ends = refl }
word-first (byte ∷ bytes) = word-first-by byte bytes (is_of_word byte) refl (word-first bytes)

-- ---- the tokens of what stands first

pub word-tokens : (text : List ℕ) → starts_word text ≡ true → tokens_in text ≡ then_tokens (word_token (take (word_length text) text)) (tokens_in (drop (word_length text) text))
unfolding put_word
word-tokens [] e = cc
word-tokens (byte ∷ bytes) e = ap tokens_of (word-first (byte ∷ bytes)).parts ∙ rw e refl

pub word-shorter : (text : List ℕ) → starts_word text ≡ true → length (drop (word_length text) text) < length text
word-shorter [] e = cc
word-shorter (byte ∷ bytes) e = let l = length-drop (word_length bytes) bytes in rw e (omega (arith, l))

-- ---- a minus

-- these pieces begin with `>`
points : List Piece → Bool
points [] = false
points (Word w ∷ ps) = false
points (Negative w ∷ ps) = false
points (Leads ∷ ps) = false
points (Blank ∷ ps) = false
points (Sign s ∷ ps) = s == 62

minus-points-none : (s : ℕ) (ps : List Piece) (t : Bool) → (s == 62) ≡ t → points (minus_before (Sign s ∷ ps)) ≡ false
unfolding points
minus-points-none s ps true e = rw e refl
minus-points-none s ps false e = rw e refl

minus-no-points : (ps : List Piece) → points (minus_before ps) ≡ false
unfolding points
minus-no-points [] = refl
minus-no-points (Word w ∷ ps) = refl
minus-no-points (Negative w ∷ ps) = refl
minus-no-points (Leads ∷ ps) = refl
minus-no-points (Blank ∷ ps) = refl
minus-no-points (Sign s ∷ ps) = minus-points-none s ps (s == 62) refl

-- what doesn't begin with `>` has pieces that don't
no-points-by : (byte : ℕ) (ps : List Piece) (word blank minus : Bool) → is_of_word byte ≡ word → is_blank byte ≡ blank → (byte == 45) ≡ minus → (byte == 62) ≡ false → points (before byte ps) ≡ false
unfolding points
no-points-by byte [] true blank minus w b m e = rw w refl
no-points-by byte (Word x ∷ ps) true blank minus w b m e = rw w refl
no-points-by byte (Negative x ∷ ps) true blank minus w b m e = rw w refl
no-points-by byte (Leads ∷ ps) true blank minus w b m e = rw w refl
no-points-by byte (Blank ∷ ps) true blank minus w b m e = rw w refl
no-points-by byte (Sign s ∷ ps) true blank minus w b m e = rw w refl
no-points-by byte ps false true minus w b m e = rw (w, b) refl
no-points-by byte ps false false true w b m e = rw (w, b, m) (minus-no-points ps)
no-points-by byte ps false false false w b m e = rw (w, b, m) e

no-points : (text : List ℕ) → begins_with 62 text ≡ false → points (pieces text) ≡ false
unfolding points
no-points [] e = refl
no-points (byte ∷ bytes) e = no-points-by byte (pieces bytes) (is_of_word byte) (is_blank byte) (byte == 45) refl refl refl e

-- before such pieces, which begin with a word or not
minus-by : (word : List ℕ) (ps : List Piece) → begins_word ps ≡ false → points (put_word word ps) ≡ false
    → tokens_of (minus_before (put_word word ps)) ≡ then_tokens (negative (word_token word)) (tokens_of ps)
unfolding put_word begins_word points
minus-by [] [] e p = refl
minus-by [] (Word w ∷ ps) e p = cc
minus-by [] (Negative w ∷ ps) e p = refl
minus-by [] (Leads ∷ ps) e p = refl
minus-by [] (Blank ∷ ps) e p = refl
minus-by [] (Sign s ∷ ps) e p = rw p refl
minus-by (byte ∷ word) ps e p = refl

pub minus-tokens : (rest : List ℕ) → begins_with 62 rest ≡ false → tokens_in (45 ∷ rest) ≡ then_tokens (negative (word_token (take (word_length rest) rest))) (tokens_in (drop (word_length rest) rest))
minus-tokens rest e =
    let w = word-first rest in
    let p : points (put_word (take (word_length rest) rest) (pieces (drop (word_length rest) rest))) ≡ false = subst (λ (ps : List Piece). points ps ≡ false) w.parts (no-points rest e) in
    ap (λ (ps : List Piece). tokens_of (minus_before ps)) w.parts ∙ minus-by (take (word_length rest) rest) (pieces (drop (word_length rest) rest)) w.ends p

-- ---- what a call says of a word

pub word-none : (text word : List ℕ) → starts_word text ≡ true → word ≡ take (word_length text) text → None ≡ word_token word → tokens_in text ≡ None
word-none text word starts taken none =
    word-tokens text starts ∙ ap (λ (t : Option Token). then_tokens t (tokens_in (drop (word_length text) text))) (ap word_token (sym taken) ∙ sym none)

pub word-is-first : (text word : List ℕ) (rest : Bor (List ℕ)) (token : Token) → starts_word text ≡ true → word ≡ take (word_length text) text → rest.now ≡ drop (word_length text) text
    → Some (seen token) ≡ word_token word → IsFirst text (record { token = Some token; rest = rest })
word-is-first text word rest token starts taken left some = record {
  parts = word-tokens text starts ∙ ap (λ (t : Option Token). then_tokens t (tokens_in (drop (word_length text) text))) (ap word_token (sym taken) ∙ sym some)
      ∙ ap (λ (r : List ℕ). then_tokens (Some (seen token)) (tokens_in r)) (sym left);
  shorter = subst (λ (r : List ℕ). length r < length text) (sym left) (word-shorter text starts);
}

-- behind a minus, by what is read of the word
minus-read : (rest word : List ℕ) (read : Option Token) → begins_with 62 rest ≡ false → word ≡ take (word_length rest) rest → read ≡ word_token word
    → tokens_in (45 ∷ rest) ≡ then_tokens (negative read) (tokens_in (drop (word_length rest) rest))
minus-read rest word read other taken is =
    minus-tokens rest other ∙ ap (λ (t : Option Token). then_tokens (negative t) (tokens_in (drop (word_length rest) rest))) (ap word_token (sym taken) ∙ sym is)

pub minus-none : (rest word : List ℕ) (read : Option Token) → begins_with 62 rest ≡ false → word ≡ take (word_length rest) rest → read ≡ word_token word → None ≡ negative read
    → tokens_in (45 ∷ rest) ≡ None
minus-none rest word read other taken is none =
    minus-read rest word read other taken is ∙ ap (λ (t : Option Token). then_tokens t (tokens_in (drop (word_length rest) rest))) (sym none)

pub minus-is-first : (rest word : List ℕ) (behind : Bor (List ℕ)) (read : Option Token) (token : Token) → begins_with 62 rest ≡ false → word ≡ take (word_length rest) rest
    → behind.now ≡ drop (word_length rest) rest → read ≡ word_token word → Some (seen token) ≡ negative read → IsFirst (45 ∷ rest) (record { token = Some token; rest = behind })
minus-is-first rest word behind read token other taken left is some = record {
  parts = minus-read rest word read other taken is ∙ ap (λ (t : Option Token). then_tokens t (tokens_in (drop (word_length rest) rest))) (sym some)
      ∙ ap (λ (r : List ℕ). then_tokens (Some (seen token)) (tokens_in r)) (sym left);
  shorter = let l = length-drop (word_length rest) rest in subst (λ (r : List ℕ). length r < length (45 ∷ rest)) (sym left) (omega (arith, l));
}

-- ---- tokens one after another

pub put_before : List Token → Option (List Token) → Option (List Token)
put_before read (Some tokens) = Some (read ++ tokens)
put_before read None = None

pub put-on : (read : List Token) (token : Option Token) (tokens : Option (List Token)) → put_before (map seen read) (first_and token tokens) ≡ put_before (map seen (read ++ as_list token)) tokens
unfolding put_before
put-on read (Some t) (Some ts) = ap Some (rw (map-append, append_assoc) refl)
put-on read (Some t) None = refl
put-on read None (Some ts) = ap Some (rw append-nil refl)
put-on read None None = refl

put-nothing : (tokens : Option (List Token)) → tokens ≡ put_before [] tokens
unfolding put_before
put-nothing (Some ts) = refl
put-nothing None = refl

pub none-yet : (text rest : List ℕ) (read : List Token) → read ≡ [] → rest ≡ text → tokens_in text ≡ put_before (map seen read) (tokens_in rest)
none-yet text rest read empty same =
    put-nothing (tokens_in text) ∙ ap (λ (r : List ℕ). put_before [] (tokens_in r)) (sym same) ∙ ap (λ (ts : List Token). put_before (map seen ts) (tokens_in rest)) (sym empty)

pub one-more : (text rest : List ℕ) (first : First) (old new : List Token) → tokens_in text ≡ put_before (map seen old) (tokens_in rest) → IsFirst rest first → new ≡ old ++ as_list first.token
    → tokens_in text ≡ put_before (map seen new) (tokens_in first.rest.now)
one-more text rest first old new before is added =
    before ∙ ap (put_before (map seen old)) is.parts ∙ put-on old first.token (tokens_in first.rest.now) ∙ ap (λ (ts : List Token). put_before (map seen ts) (tokens_in first.rest.now)) (sym added)

pub no-more : (text rest : List ℕ) (read : List Token) → tokens_in text ≡ put_before read (tokens_in rest) → tokens_in rest ≡ None → tokens_in text ≡ None
unfolding put_before
no-more text rest read before none = before ∙ ap (put_before read) none

pub all-read : (text rest : List ℕ) (read : List Token) → tokens_in text ≡ put_before read (tokens_in rest) → length rest ≡ 0 → tokens_in text ≡ Some read
unfolding put_before
all-read text [] read before empty = before ∙ ap Some (append-nil read)
all-read text (byte ∷ bytes) read before empty = absurd (omega arith)
