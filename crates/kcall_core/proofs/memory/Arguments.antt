-- The argument texts that a memory holds, one after another.
use Rattle.kcall_core.proofs.Prelude.{[], ℕ, ◌++◌, ◌+◌, ◌-◌, ◌<◌, ◌∙◌, ◌∷◌, ◌≡◌, ◌≢◌, ◌≤◌, ap, append-nil, append_assoc, ARG_BYTES, ArgsTooLong, arith, Bool, cases_lt, cond, eq-eqb, Err, ExecError}
use Rattle.kcall_core.proofs.Prelude.{false, false≢true, if◌then◌else◌, Image, image_byte, inl, inr, is_ok, le-ltb, length, length-append, List, Load, MAXARG, may_touching, nat_eq, nat_lt, ne_eqb}
use Rattle.kcall_core.proofs.Prelude.{None, none-some, Ok, OnOk, Option, option_map, pointer_at, push_refusal, refl, Result, same_Some, Some, suc, sym, terminated, text_at, text_from, texts_at}
use Rattle.kcall_core.proofs.Prelude.{TooManyArgs, true, zero}
use Rattle.kernel_spec.proofs.memory.TextsByParts.{texts_from, with_text}

-- these texts, and then the others
abbrev pub behind : List (List ℕ) → Option (List (List ℕ)) → Option (List (List ℕ))
behind texts others = option_map (λ rest. texts ++ rest) others

module _ (i : Image) (limit at : ℕ) where
  from-none : (more : ℕ) → pointer_at i at ≡ None → texts_at more limit i at ≡ None
  unfolding texts_at
  from-none zero none = ap (λ o. texts_from o (λ p. None)) none
  from-none (suc more) none = ap (λ o. texts_from o (λ p. with_text (text_at limit i p) (texts_at more limit i (at + 8)))) none

  from-null : (more p : ℕ) → pointer_at i at ≡ Some p → p ≡ 0 → texts_at more limit i at ≡ Some []
  unfolding texts_at
  from-null zero p is null = ap (λ o. texts_from o (λ q. None)) is ∙ ap (λ b. cond b (Some []) None) (eq-eqb p 0 null)
  from-null (suc more) p is null =
      ap (λ o. texts_from o (λ q. with_text (text_at limit i q) (texts_at more limit i (at + 8)))) is
      ∙ ap (λ b. cond b (Some []) (with_text (text_at limit i p) (texts_at more limit i (at + 8)))) (eq-eqb p 0 null)

  from-more : (p : ℕ) → pointer_at i at ≡ Some p → p ≢ 0 → texts_at 0 limit i at ≡ None
  unfolding texts_at
  from-more p is some = ap (λ o. texts_from o (λ q. None)) is ∙ ap (λ b. cond b (Some []) None) (ne_eqb p 0 some)

  from-text : (more p : ℕ) → pointer_at i at ≡ Some p → p ≢ 0 → texts_at (suc more) limit i at ≡ with_text (text_at limit i p) (texts_at more limit i (at + 8))
  unfolding texts_at
  from-text more p is some =
      ap (λ o. texts_from o (λ q. with_text (text_at limit i q) (texts_at more limit i (at + 8)))) is
      ∙ ap (λ b. cond b (Some []) (with_text (text_at limit i p) (texts_at more limit i (at + 8)))) (ne_eqb p 0 some)

-- ---- all of them, where some are read already

-- `texts` are read, and `more` texts more may be, from `at` on
pub record Reading (whole : Option (List (List ℕ))) (i : Image) (texts : List (List ℕ)) (more at : ℕ) : Type 0 where
  pub texts_read : whole ≡ behind texts (texts_at more ARG_BYTES i at)
  pub count : length texts + more ≡ MAXARG

all-here : (texts : List (List ℕ)) → behind texts (Some []) ≡ Some texts
all-here texts = ap Some (append-nil texts)

one-behind : (texts : List (List ℕ)) (text : List ℕ) (o : Option (List (List ℕ))) → behind texts (with_text (Some text) o) ≡ behind (texts ++ text ∷ []) o
one-behind texts text None = refl
one-behind texts text (Some rest) = ap Some (sym (append_assoc texts (text ∷ []) rest))

-- a text is refused where there is room for one more: all are too long
pub push-long : (texts : List (List ℕ)) (text : List ℕ) (e : ExecError) → length texts < MAXARG → push_refusal texts text ≡ Err e → ARG_BYTES < length (terminated (texts ++ text ∷ []))
push-long texts text e few refused = elim (cases_lt ARG_BYTES (length (terminated (texts ++ text ∷ [])))) [
  | inl long ↦ long
  | inr short ↦ absurd (no-err (sym (fits short) ∙ refused))
]
  where
    done : Result (Unit {0}) ExecError
    done = Ok tt

    no-err : done ≡ Err e → ⊥
    no-err is = cc

    fits : length (terminated (texts ++ text ∷ [])) ≤ ARG_BYTES → push_refusal texts text ≡ done
    fits short =
        ap (λ b. if b then Err TooManyArgs else if nat_lt ARG_BYTES (length (terminated (texts ++ text ∷ []))) then Err ArgsTooLong else Ok tt)
        (ne_eqb (length texts) MAXARG (λ is. absurd (omega (arith, is, few))))
        ∙ ap (λ b. if b then Err ArgsTooLong else Ok tt) (le-ltb ARG_BYTES (length (terminated (texts ++ text ∷ []))) short)

longer : (xs ys : List (List ℕ)) → length (terminated xs) ≤ length (terminated (xs ++ ys))
longer [] ys = omega arith
longer (x ∷ xs) ys = omega (arith, longer xs ys, length-append (x ++ 0 ∷ []) (terminated xs), length-append (x ++ 0 ∷ []) (terminated (xs ++ ys)))

module _ {whole : Option (List (List ℕ))} {i : Image} {texts : List (List ℕ)} {more at : ℕ} (r : Reading whole i texts more at) where
  -- the pointer can't be read
  pub no-pointer : pointer_at i at ≡ None → (xs : List (List ℕ)) → whole ≡ Some xs → ARG_BYTES < length (terminated xs)
  no-pointer none xs is = absurd (none-some xs (sym (r.texts_read ∙ ap (behind texts) (from-none i ARG_BYTES at more none)) ∙ is))

  -- a null pointer
  pub all-read : (p : ℕ) → pointer_at i at ≡ Some p → p ≡ 0 → whole ≡ Some texts
  all-read p is null = r.texts_read ∙ ap (behind texts) (from-null i ARG_BYTES at more p is null) ∙ all-here texts

  -- one text too many
  pub too-many : (p : ℕ) → more ≡ 0 → pointer_at i at ≡ Some p → p ≢ 0 → (xs : List (List ℕ)) → whole ≡ Some xs → ARG_BYTES < length (terminated xs)
  too-many p none is some xs e = absurd (none-some xs (sym (r.texts_read ∙ ap (behind texts) (ap (λ n. texts_at n ARG_BYTES i at) none ∙ from-more i ARG_BYTES at p is some)) ∙ e))

  next : (p : ℕ) → 0 < more → pointer_at i at ≡ Some p → p ≢ 0 → whole ≡ behind texts (with_text (text_at ARG_BYTES i p) (texts_at (more - 1) ARG_BYTES i (at + 8)))
  next p lt is some =
      let e : more ≡ suc (more - 1) = omega (arith, lt) in
      r.texts_read ∙ ap (behind texts) (ap (λ n. texts_at n ARG_BYTES i at) e ∙ from-text i ARG_BYTES at (more - 1) p is some)

  -- the text can't be read
  pub no-text : (p : ℕ) → 0 < more → pointer_at i at ≡ Some p → p ≢ 0 → text_at ARG_BYTES i p ≡ None → (xs : List (List ℕ)) → whole ≡ Some xs → ARG_BYTES < length (terminated xs)
  no-text p lt is some none xs e = absurd (none-some xs (sym (next p lt is some ∙ ap (λ o. behind texts (with_text o (texts_at (more - 1) ARG_BYTES i (at + 8)))) none) ∙ e))

  taken : (p : ℕ) (text : List ℕ) → 0 < more → pointer_at i at ≡ Some p → p ≢ 0 → text_at ARG_BYTES i p ≡ Some text → whole ≡ behind (texts ++ text ∷ []) (texts_at (more - 1) ARG_BYTES i (at + 8))
  taken p text lt is some there = next p lt is some ∙ ap (λ o. behind texts (with_text o (texts_at (more - 1) ARG_BYTES i (at + 8)))) there
      ∙ one-behind texts text (texts_at (more - 1) ARG_BYTES i (at + 8))

  -- one text more is read
  pub reading-next : (p : ℕ) (text : List ℕ) (texts' : List (List ℕ)) (more' at' : ℕ) → 0 < more → pointer_at i at ≡ Some p → p ≢ 0
      → text_at ARG_BYTES i p ≡ Some text → texts' ≡ texts ++ text ∷ [] → more' + 1 ≡ more → at' ≡ at + 8
      → Reading whole i texts' more' at'
  reading-next p text texts' more' at' lt is some there added fewer on =
      let e : more - 1 ≡ more' = omega (arith, fewer) in
      record {
        texts_read = taken p text lt is some there ∙ (λ j. behind (sym added j) (texts_at (e j) ARG_BYTES i (sym on j)));
        count = omega (arith, ap length added, length-append texts (text ∷ []), r.count, fewer);
      }

  -- the texts are too long together
  pub too-long : (p : ℕ) (text : List ℕ) → 0 < more → pointer_at i at ≡ Some p → p ≢ 0 → text_at ARG_BYTES i p ≡ Some text
      → ARG_BYTES < length (terminated (texts ++ text ∷ [])) → (xs : List (List ℕ)) → whole ≡ Some xs → ARG_BYTES < length (terminated xs)
  too-long p text lt is some there long xs e = by (texts_at (more - 1) ARG_BYTES i (at + 8)) (sym (taken p text lt is some there) ∙ e)
    where
      by : (o : Option (List (List ℕ))) → behind (texts ++ text ∷ []) o ≡ Some xs → ARG_BYTES < length (terminated xs)
      by None is = absurd (none-some xs is)
      by (Some rest) is = omega (arith, long, longer (texts ++ text ∷ []) rest, ap (λ ys. length (terminated ys)) (same_Some _ _ is))

  -- the text can't be read, or the list doesn't take it
  pub no-more : (p : ℕ) → 0 < more → pointer_at i at ≡ Some p → p ≢ 0
      → ((text : List ℕ) → text_at ARG_BYTES i p ≡ Some text → (e : ExecError) × (push_refusal texts text ≡ Err e)) → (xs : List (List ℕ))
      → whole ≡ Some xs → ARG_BYTES < length (terminated xs)
  no-more p lt is some refused xs e = by (text_at ARG_BYTES i p) refl
    where
      by : (o : Option (List ℕ)) → text_at ARG_BYTES i p ≡ o → ARG_BYTES < length (terminated xs)
      by None none = no-text p lt is some none xs e
      by (Some text) there =
          let r' = refused text there in
          too-long p text lt is some there (push-long texts text r'.0 (omega (arith, lt, r.count)) r'.1) xs e

-- a text that ends among the first bytes ends among more of them
pub text-longer : (n k : ℕ) (i : Image) (a : ℕ) (text : List ℕ) → text_at n i a ≡ Some text → text_at (n + k) i a ≡ Some text
unfolding text_at
text-longer zero k i a text is = absurd (no-text-yet is)
  where
    no-text-yet : None ≡ Some text → ⊥
    no-text-yet e = cc
text-longer (suc n) k i a text is =
    let one : suc n + k ≡ suc (n + k) = omega arith in
    ap (λ m. text_at m i a) one ∙ by (may_touching Load i a) (λ later e. text-longer n k i (a + 1) later e) is
  where
    ends : (b : Bool) → cond b (Some []) None ≡ Some text → cond b (Some []) (option_map (λ bytes. image_byte i a ∷ bytes) (text_at (n + k) i (a + 1))) ≡ Some text
    ends true w = w
    ends false w = absurd (cc)

    rest : ((later : List ℕ) → text_at n i (a + 1) ≡ Some later → text_at (n + k) i (a + 1) ≡ Some later) → (o : Option (List ℕ))
        → text_at n i (a + 1) ≡ o → text_from (image_byte i a) o ≡ Some text → text_from (image_byte i a) (text_at (n + k) i (a + 1)) ≡ Some text
    rest more None e w = ends (nat_eq (image_byte i a) 0) w
    rest more (Some later) e w = ap (text_from (image_byte i a)) (more later e) ∙ w

    by : (b : Bool) → ((later : List ℕ) → text_at n i (a + 1) ≡ Some later → text_at (n + k) i (a + 1) ≡ Some later) → cond b (text_from (image_byte i a) (text_at n i (a + 1))) None ≡ Some text
        → cond b (text_from (image_byte i a) (text_at (n + k) i (a + 1))) None ≡ Some text
    by true more w = rest more (text_at n i (a + 1)) refl w
    by false more w = absurd (cc)

-- what a list that took a text, or didn't, was told
pub taken-if : {A : Type 0} (r : Result (Unit {0}) ExecError) → is_ok r ≡ true → OnOk r A → A
taken-if (Ok done) is a = a
taken-if (Err e) is a = absurd (false≢true is)

pub refused-if : (r : Result (Unit {0}) ExecError) → is_ok r ≡ false → (e : ExecError) × (r ≡ Err e)
refused-if (Ok done) is = absurd (false≢true (sym is))
refused-if (Err e) is = (e, refl)
