-- How a text, a pointer and a list of texts are read, byte by byte.
use Rattle.std.proofs.Common.{◌≡◌, ◌≢◌, ℕ, zero, suc, ◌+◌, ◌-◌, ◌*◌, ◌<◌, ◌≤◌, ◌&&◌, ◌||◌, ◌++◌, Bool, cond, true, false, List, [], ◌∷◌, Option, Some, None}
use Rattle.std.proofs.Common.{refl, sym, ap, ◌∙◌, arith, ne_eqb, eq-eqb, append-nil, append_assoc}
use Rattle.std.specs.Prelude.{IfNone, IfSome, OnOk, Result, Ok, Err, is_some, length, map, nat_le, option_map, ◌==◌}
use Rattle.std.specs.List.{range_with_len}
use Rattle.std.specs.Result.{is_err}
use Rattle.std.proofs.lemmas.Bool.{and_parts, leb-true}
use Rattle.std.proofs.lemmas.List.{length-append}
use Rattle.std.proofs.lemmas.Option.{none-some, same_Some}
use Rattle.std.proofs.lemmas.List.FromFn.{take-map-range_with_len}
use Rattle.byteorder.specs.Endian.{little_number}
use Rattle.xk_base.proofs.Options.{none_from_is_some}
use Rattle.xk_base.specs.declared.access.Access.{Access}
use Rattle.xk_base.specs.declared.errors.ExecError.{ExecError}
use Rattle.xk_base.specs.declared.limits.TheConstants.{ADDRESS_END, ARG_BYTES}
use Rattle.xk_base.specs.Words.{le}
use Rattle.xk_base.proofs.Words.{little_number-le}
use Rattle.exec_core.specs.ArgTexts.{terminated}
use Rattle.kernel_spec.specs.rows.Buffers.{reaches_touching}
use Rattle.kernel_spec.specs.views.Processes.{Live}
use Rattle.call_reasons.specs.Facts.{Facts}
use Rattle.call_reasons.specs.Shown.{reach_in}
use Rattle.call_reasons.specs.Texts.{byte_at, has_texts, list_with, pointer_at, text_at, text_before, text_with, texts_at}

-- what is reached ends below 2^38
pub reached_low : (access : Access) (o : Option Live) (a n : ℕ) → 0 < n → reach_in access o a n ≡ true → a + n ≤ ADDRESS_END
reached_low access None a n some e = let no : ⊥ = cc in absurd no
reached_low access (Some l) a n some e = leb-true (a + n) ADDRESS_END (and_parts (nat_le (a + n) ADDRESS_END) (reaches_touching access l.image a n) within).0
  where
    within : (nat_le (a + n) ADDRESS_END && reaches_touching access l.image a n) ≡ true
    within = sym (ap (λ b. b || nat_le (a + n) ADDRESS_END && reaches_touching access l.image a n) (ne_eqb n 0 (λ e. omega (arith, e, some)))) ∙ e

-- ---- a pointer

pub one_more_byte : (n a : ℕ) (byte : ℕ → ℕ) → map byte (range_with_len a n) ++ byte (a + n) ∷ [] ≡ map byte (range_with_len a (suc n))
one_more_byte zero a byte = let same : a + 0 ≡ a = omega arith in ap (λ x. byte x ∷ []) same
one_more_byte (suc n) a byte =
    let next : a + suc n ≡ a + 1 + n = omega arith in
    ap (λ bytes. byte a ∷ bytes) (ap (λ x. map byte (range_with_len (a + 1) n) ++ byte x ∷ []) next ∙ one_more_byte n (a + 1) byte)

pub pointer_of : (byte : ℕ → ℕ) (a : ℕ) → little_number 8 (map byte (range_with_len a 8)) ≡ le (map byte (range_with_len a 8))
pointer_of byte a = little_number-le 8 (map byte (range_with_len a 8)) ∙ ap le (take-map-range_with_len byte a 8 8 (omega arith))

-- ---- a text

-- some bytes, and the text after them
abbrev pub after_bytes : List ℕ → Option (List ℕ) → Option (List ℕ)
after_bytes before rest = option_map (λ bytes. before ++ bytes) rest

pub told_there : {A : Type 0} (o : Option A) (items : A → List ℕ) (text : Option (List ℕ)) → IfSome o (λ a. text ≡ Some (items a)) → IfNone o (text ≡ None) → is_some o ≡ is_some text
told_there None items text found none = sym (ap is_some none)
told_there (Some a) items text found none = sym (ap is_some found)

module _ (f : Facts) (limit a : ℕ) where
  -- so many bytes are read: the text is these, and what stands after them
  abbrev pub Reads : (done : ℕ) (before : List ℕ) → Type 0
  Reads done before = text_at f limit a ≡ after_bytes before (text_at f (limit - done) (a + done))

  next_byte : (done : ℕ) → done < limit → text_at f (limit - done) (a + done) ≡ text_with (byte_at f (a + done)) (text_at f (limit - (done + 1)) (a + (done + 1)))
  unfolding text_at
  next_byte done below =
      let more : limit - done ≡ suc (limit - (done + 1)) = omega (arith, below) in
      let next : a + done + 1 ≡ a + (done + 1) = omega arith in
      ap (λ k. text_at f k (a + done)) more ∙ ap (λ b. text_with (byte_at f (a + done)) (text_at f (limit - (done + 1)) b)) next

  pub reads_first : Reads 0 []
  reads_first =
      let same : a + 0 ≡ a = omega arith in
      let all : limit - 0 ≡ limit = omega arith in
      by (text_at f limit a) ∙ sym (ap (λ k. after_bytes [] (text_at f k (a + 0))) all ∙ ap (λ b. after_bytes [] (text_at f limit b)) same)
    where
      by : (o : Option (List ℕ)) → o ≡ after_bytes [] o
      by None = refl
      by (Some text) = refl

  module _ (done : ℕ) (before : List ℕ) (reads : Reads done before) where
    pub none_read : done < limit → byte_at f (a + done) ≡ None → text_at f limit a ≡ None
    none_read below none =
        reads ∙ ap (after_bytes before) (next_byte done below ∙ ap (λ o. text_with o (text_at f (limit - (done + 1)) (a + (done + 1)))) none)

    pub end_read : (byte : ℕ) → done < limit → byte_at f (a + done) ≡ Some byte → byte ≡ 0 → text_at f limit a ≡ Some before
    end_read byte below is ends =
        reads ∙ ap (after_bytes before) (next_byte done below ∙ ap (λ o. text_with o (text_at f (limit - (done + 1)) (a + (done + 1)))) is
        ∙ ap (λ b. cond b (Some []) (option_map (λ bytes. byte ∷ bytes) (text_at f (limit - (done + 1)) (a + (done + 1))))) (eq-eqb byte 0 ends))
        ∙ ap Some (append-nil before)

    pub one_read : (byte : ℕ) → done < limit → byte_at f (a + done) ≡ Some byte → byte ≢ 0 → Reads (done + 1) (before ++ byte ∷ [])
    one_read byte below is some =
        reads
        ∙ ap (after_bytes before) (next_byte done below ∙ ap (λ o. text_with o (text_at f (limit - (done + 1)) (a + (done + 1)))) is
        ∙ ap (λ b. cond b (Some []) (option_map (λ bytes. byte ∷ bytes) (text_at f (limit - (done + 1)) (a + (done + 1))))) (ne_eqb byte 0 some))
        ∙ joined (text_at f (limit - (done + 1)) (a + (done + 1)))
      where
        joined : (o : Option (List ℕ)) → after_bytes before (option_map (λ bytes. byte ∷ bytes) o) ≡ after_bytes (before ++ byte ∷ []) o
        joined None = refl
        joined (Some rest) = ap Some (sym (append_assoc before (byte ∷ []) rest))

    pub all_read : limit ≤ done → text_at f limit a ≡ None
    unfolding text_at
    all_read beyond =
        let nothing : limit - done ≡ 0 = omega (arith, beyond) in
        reads ∙ ap (λ k. after_bytes before (text_at f k (a + done))) nothing

-- ---- a list of texts

-- these texts, and then the others
abbrev pub behind : List (List ℕ) → Option (List (List ℕ)) → Option (List (List ℕ))
behind before rest = option_map (λ texts. before ++ texts) rest

none_before : (o : Option (List ℕ)) (rest : Option (List (List ℕ))) → is_some o ≡ false → is_some (text_before o rest) ≡ false
none_before None rest none = refl
none_before (Some text) rest none = let no : ⊥ = cc in absurd no

some_before : (o : Option (List ℕ)) (rest : Option (List (List ℕ))) → is_some o ≡ true → is_some (text_before o rest) ≡ is_some rest
some_before None rest there = let no : ⊥ = cc in absurd no
some_before (Some text) None there = refl
some_before (Some text) (Some texts) there = refl

one_behind : (before : List (List ℕ)) (text : List ℕ) (rest : Option (List (List ℕ))) → behind before (text_before (Some text) rest) ≡ behind (before ++ text ∷ []) rest
one_behind before text None = refl
one_behind before text (Some texts) = ap Some (sym (append_assoc before (text ∷ []) texts))

both_terminated : (xs ys : List (List ℕ)) → length (terminated (xs ++ ys)) ≡ length (terminated xs) + length (terminated ys)
both_terminated [] ys = omega arith
both_terminated (x ∷ xs) ys = omega (arith, both_terminated xs ys, length-append (x ++ 0 ∷ []) (terminated xs), length-append (x ++ 0 ∷ []) (terminated (xs ++ ys)))

-- what a list that took a text, or didn't, was told
pub taken_if : {A : Type 0} (r : Result (Unit {0}) ExecError) → is_err r ≡ false → OnOk r A → A
taken_if (Ok done) is a = a
taken_if (Err e) is a = let no : ⊥ = cc in absurd no

pub refused_if : (r : Result (Unit {0}) ExecError) → is_err r ≡ true → (e : ExecError) × (r ≡ Err e)
refused_if (Ok done) is = let no : ⊥ = cc in absurd no
refused_if (Err e) is = (e, refl)

-- an empty list, if it is so
abbrev empty_if : Bool → Option (List (List ℕ))
empty_if b = cond b (Some []) None

-- the list that a pointer 0 alone is
abbrev only : Option ℕ → Option (List (List ℕ))
only o = list_with o (λ pointer. None) None

-- if no pointer but 0 may come, there are no texts
only_empty : (f : Facts) (limit a : ℕ) → has_texts f 0 limit a ≡ true → texts_at f 0 limit a ≡ Some []
unfolding texts_at
only_empty f limit a there = by (pointer_at f a) there
  where
    by_zero : (b : Bool) → is_some (empty_if b) ≡ true → empty_if b ≡ Some []
    by_zero true e = refl
    by_zero false e = let no : ⊥ = cc in absurd no

    by : (o : Option ℕ) → is_some (only o) ≡ true → only o ≡ Some []
    by None e = let no : ⊥ = cc in absurd no
    by (Some pointer) e = by_zero (pointer == 0) e

module _ (f : Facts) (most limit a : ℕ) where
  -- the texts that are left after so many pointers
  abbrev left : (done : ℕ) → Option (List (List ℕ))
  left done = texts_at f (most - done) limit (a + 8 * done)

  -- so many pointers are read, and each leads to a text
  abbrev pub Lists : (done : ℕ) → Type 0
  Lists done = has_texts f most limit a ≡ is_some (left done)

  -- the same, and these are the texts
  abbrev pub Gathers : (done : ℕ) (before : List (List ℕ)) → Type 0
  Gathers done before = (texts_at f most limit a ≡ behind before (left done)) × (length before ≡ done)

  all_left : left 0 ≡ texts_at f most limit a
  all_left =
      let same : a + 8 * 0 ≡ a = omega arith in
      let all : most - 0 ≡ most = omega arith in
      ap (λ k. texts_at f k limit (a + 8 * 0)) all ∙ ap (λ b. texts_at f most limit b) same

  pub lists_first : Lists 0
  lists_first = sym (ap is_some all_left)

  pub gathers_first : Gathers 0 []
  gathers_first = (by (texts_at f most limit a) ∙ ap (behind []) (sym all_left), refl)
    where
      by : (o : Option (List (List ℕ))) → o ≡ behind [] o
      by None = refl
      by (Some texts) = refl

  module _ (done : ℕ) (below : done < most) where
    abbrev by_pointer : Option ℕ → Option (List (List ℕ))
    by_pointer o = list_with o (λ pointer. text_at f limit pointer) (left (done + 1))

    abbrev by_zero : (pointer : ℕ) → Bool → Option (List (List ℕ))
    by_zero pointer b = cond b (Some []) (text_before (text_at f limit pointer) (left (done + 1)))

    next_pointer : left done ≡ by_pointer (pointer_at f (a + 8 * done))
    unfolding texts_at
    next_pointer =
        let more : most - done ≡ suc (most - (done + 1)) = omega (arith, below) in
        let next : a + 8 * done + 8 ≡ a + 8 * (done + 1) = omega arith in
        ap (λ k. texts_at f k limit (a + 8 * done)) more
        ∙ ap (λ b. list_with (pointer_at f (a + 8 * done)) (λ pointer. text_at f limit pointer) (texts_at f (most - (done + 1)) limit b)) next

    none_left : pointer_at f (a + 8 * done) ≡ None → left done ≡ None
    none_left none = next_pointer ∙ ap by_pointer none

    module _ (pointer : ℕ) (is : pointer_at f (a + 8 * done) ≡ Some pointer) where
      null_left : pointer ≡ 0 → left done ≡ Some []
      null_left null = next_pointer ∙ ap by_pointer is ∙ ap (by_zero pointer) (eq-eqb pointer 0 null)

      text_left : pointer ≢ 0 → left done ≡ text_before (text_at f limit pointer) (left (done + 1))
      text_left some = next_pointer ∙ ap by_pointer is ∙ ap (by_zero pointer) (ne_eqb pointer 0 some)

    -- whether the list is there
    module _ (lists : Lists done) where
      pub no_pointer : pointer_at f (a + 8 * done) ≡ None → has_texts f most limit a ≡ false
      no_pointer none = lists ∙ ap is_some (none_left none)

      module _ (pointer : ℕ) (is : pointer_at f (a + 8 * done) ≡ Some pointer) where
        pub null_pointer : pointer ≡ 0 → has_texts f most limit a ≡ true
        null_pointer null = lists ∙ ap is_some (null_left pointer is null)

        pub no_text : pointer ≢ 0 → is_some (text_at f limit pointer) ≡ false → has_texts f most limit a ≡ false
        no_text some none = lists ∙ ap is_some (text_left pointer is some) ∙ none_before (text_at f limit pointer) (left (done + 1)) none

        pub one_text : pointer ≢ 0 → is_some (text_at f limit pointer) ≡ true → Lists (done + 1)
        one_text some there = lists ∙ ap is_some (text_left pointer is some) ∙ some_before (text_at f limit pointer) (left (done + 1)) there

    -- the texts of the list
    module _ (before : List (List ℕ)) (gathers : Gathers done before) where
      pub none_gathered : pointer_at f (a + 8 * done) ≡ None → texts_at f most limit a ≡ None
      none_gathered none = gathers.0 ∙ ap (behind before) (none_left none)

      module _ (pointer : ℕ) (is : pointer_at f (a + 8 * done) ≡ Some pointer) where
        pub all_gathered : pointer ≡ 0 → texts_at f most limit a ≡ Some before
        all_gathered null = gathers.0 ∙ ap (behind before) (null_left pointer is null) ∙ ap Some (append-nil before)

        pub no_text_gathered : pointer ≢ 0 → text_at f limit pointer ≡ None → texts_at f most limit a ≡ None
        no_text_gathered some none = gathers.0 ∙ ap (behind before) (text_left pointer is some ∙ ap (λ o. text_before o (left (done + 1))) none)

        more_gathered : (text : List ℕ) → pointer ≢ 0 → text_at f limit pointer ≡ Some text → texts_at f most limit a ≡ behind (before ++ text ∷ []) (left (done + 1))
        more_gathered text some there =
            gathers.0 ∙ ap (behind before) (text_left pointer is some ∙ ap (λ o. text_before o (left (done + 1))) there) ∙ one_behind before text (left (done + 1))

        pub one_gathered : (text : List ℕ) → pointer ≢ 0 → text_at f limit pointer ≡ Some text → Gathers (done + 1) (before ++ text ∷ [])
        one_gathered text some there = (more_gathered text some there, omega (arith, length-append before (text ∷ []), gathers.1))

        -- a text that is one too long makes all of them too long
        pub long_gathered : (text : List ℕ) → pointer ≢ 0 → text_at f limit pointer ≡ Some text → ARG_BYTES < length (terminated (before ++ text ∷ [])) → (texts : List (List ℕ))
            → texts_at f most limit a ≡ Some texts → ARG_BYTES < length (terminated texts)
        long_gathered text some there long texts are = by (left (done + 1)) (sym (more_gathered text some there) ∙ are)
          where
            by : (o : Option (List (List ℕ))) → behind (before ++ text ∷ []) o ≡ Some texts → ARG_BYTES < length (terminated texts)
            by None e = absurd (none-some texts e)
            by (Some rest) e = omega (arith, long, both_terminated (before ++ text ∷ []) rest, ap (λ xs. length (terminated xs)) (same_Some _ _ e))

  module _ (done : ℕ) (is : done ≡ most) where
    last_left : left done ≡ texts_at f 0 limit (a + 8 * most)
    last_left =
        let nothing : most - done ≡ 0 = omega (arith, is) in
        ap (λ k. texts_at f k limit (a + 8 * done)) nothing ∙ ap (λ k. texts_at f 0 limit (a + 8 * k)) is

    pub all_listed : Lists done → has_texts f most limit a ≡ has_texts f 0 limit (a + 8 * most)
    all_listed lists = lists ∙ ap is_some last_left

    pub last_gathered : (before : List (List ℕ)) → Gathers done before → has_texts f 0 limit (a + 8 * most) ≡ true → texts_at f most limit a ≡ Some before
    last_gathered before gathers there = gathers.0 ∙ ap (behind before) (last_left ∙ only_empty f limit (a + 8 * most) there) ∙ ap Some (append-nil before)

    pub last_missing : (before : List (List ℕ)) → Gathers done before → has_texts f 0 limit (a + 8 * most) ≡ false → texts_at f most limit a ≡ None
    last_missing before gathers none = gathers.0 ∙ ap (behind before) (last_left ∙ none_from_is_some (texts_at f 0 limit (a + 8 * most)) none)

-- a pointer 0, after as many texts as may be
module _ (f : Facts) (limit a : ℕ) where
  pub no_last : pointer_at f a ≡ None → false ≡ has_texts f 0 limit a
  unfolding texts_at
  no_last none = sym (ap (λ o. is_some (only o)) none)

  pub last : (pointer : ℕ) → pointer_at f a ≡ Some pointer → (pointer == 0) ≡ has_texts f 0 limit a
  unfolding texts_at
  last pointer is = by (pointer == 0) ∙ sym (ap (λ o. is_some (only o)) is)
    where
      by : (b : Bool) → b ≡ is_some (empty_if b)
      by true = refl
      by false = refl
