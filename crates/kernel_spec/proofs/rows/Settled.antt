-- What comes of an image, and of a view, once pages are touched: those that were there are the same, and none of them is absent.
use Rattle.kernel_spec.proofs.Prelude.{[], ℕ, ℤ, ◌&&◌, ◌*◌, ◌+◌, ◌-◌, ◌/◌, ◌<◌, ◌||◌, ◌∙◌, ◌∷◌, ◌≡◌, ◌≤◌, ◌⊎◌, Access, allows, and_right, ap, arith, at_price, Bool, bring, brought, brought-size}
use Rattle.kernel_spec.proofs.Prelude.{cases_eq, cases_lt, cond, data_rights, false, false≢true, get, has_absent, Image, inl, inr, is_absent, is_some, le-ltb, List, list_all, list_any, may}
use Rattle.kernel_spec.proofs.Prelude.{may_touching, nat_lt, None, not, not-false, Option, option_map, or_right, Page, pages_at, perm_of_page, pos, price, range_with_len, reaches, reaches_touching}
use Rattle.kernel_spec.proofs.Prelude.{refl, same_Some, Some, Storing as Store, suc, sym, touch, true, View, with_page, writable, writable_now, zero, zeroed}
use Rattle.std.proofs.lemmas.Bool.{lt-ltb}
use Rattle.kernel_spec.proofs.rows.RowParts.{length_of_int}
use Rattle.kernel_spec.proofs.steps.MapsAfterChange.{get_same, get_other}

-- ---- one page

-- an absent page isn't there
pub absent-not-there : (i : Image) (v : ℕ) → is_absent i v ≡ true → get i.pages v ≡ None
absent-not-there i v e = by (nat_lt (4096 * v) i.size) (get i.pages v) refl e
  where
    by : (b : Bool) (o : Option Page) → get i.pages v ≡ o → (b && not (is_some o)) ≡ true → get i.pages v ≡ None
    by true None is e = is
    by true (Some x) is e = absurd (false≢true e)
    by false o is e = absurd (false≢true e)

-- a page that is there isn't absent
pub there-not-absent : (i : Image) (v : ℕ) (x : Page) → get i.pages v ≡ Some x → is_absent i v ≡ false
there-not-absent i v x is = ap (λ o. nat_lt (4096 * v) i.size && not (is_some o)) is ∙ and_right (nat_lt (4096 * v) i.size) false refl

-- page q after page v was brought, by whether v was absent
brings : (v : ℕ) (i : Image) (b : Bool) → is_absent i v ≡ b → bring v i ≡ cond b (with_page i v (zeroed data_rights)) i
brings v i b is = ap (λ b. cond b (with_page i v (zeroed data_rights)) i) is

pub bring-size : (v : ℕ) (i : Image) → (bring v i).size ≡ i.size
bring-size v i = by (is_absent i v)
  where
    by : (b : Bool) → (cond b (with_page i v (zeroed data_rights)) i).size ≡ i.size
    by true = refl
    by false = refl

pub bring-there : (v : ℕ) (i : Image) (q : ℕ) (x : Page) → get i.pages q ≡ Some x → get (bring v i).pages q ≡ Some x
bring-there v i q x is = by (is_absent i v) refl
  where
    by : (b : Bool) → is_absent i v ≡ b → get (bring v i).pages q ≡ Some x
    by true absent =
        ap (λ (j : Image). get j.pages q) (brings v i true absent)
        ∙ get_other i.pages v (zeroed data_rights) q (λ same. false≢true (sym (there-not-absent i v x (sym (ap (get i.pages) same) ∙ is)) ∙ absent)) ∙ is
    by false present = ap (λ (j : Image). get j.pages q) (brings v i false present) ∙ is

-- a page that comes is zeros
pub bring-new : (v : ℕ) (i : Image) (q : ℕ) (x : Page) → get i.pages q ≡ None → get (bring v i).pages q ≡ Some x → (is_absent i q ≡ true) × (x ≡ zeroed data_rights)
bring-new v i q x none is = by (is_absent i v) refl
  where
    by : (b : Bool) → is_absent i v ≡ b → (is_absent i q ≡ true) × (x ≡ zeroed data_rights)
    by true absent = elim (cases_eq q v) [
      | inl same ↦ (
        ap (is_absent i) same ∙ absent,
        same_Some _ _ (sym is ∙ ap (λ (j : Image). get j.pages q) (brings v i true absent) ∙ ap (get (with_page i v (zeroed data_rights)).pages) same ∙ get_same i.pages v (zeroed data_rights)),
      )
      | inr apart ↦ let w : Some x ≡ None = sym is ∙ ap (λ (j : Image). get j.pages q) (brings v i true absent)
          ∙ get_other i.pages v (zeroed data_rights) q apart ∙ none in let no : ⊥ = cc in absurd no
    ]
    by false present = let w : Some x ≡ None = sym is ∙ ap (λ (j : Image). get j.pages q) (brings v i false present) ∙ none in let no : ⊥ = cc in absurd no

-- what isn't absent doesn't become so
pub bring-keeps : (v : ℕ) (i : Image) (q : ℕ) → is_absent i q ≡ false → is_absent (bring v i) q ≡ false
bring-keeps v i q present = by (get i.pages q) refl
  where
    by : (o : Option Page) → get i.pages q ≡ o → is_absent (bring v i) q ≡ false
    by (Some x) is = there-not-absent (bring v i) q x (bring-there v i q x is)
    by None none = ap (λ n. nat_lt (4096 * q) n && not (is_some (get (bring v i).pages q))) (bring-size v i)
        ∙ past (nat_lt (4096 * q) i.size) (sym (ap (λ o. nat_lt (4096 * q) i.size && not (is_some o)) none) ∙ present)
      where
        past : (b : Bool) → (b && true) ≡ false → (b && not (is_some (get (bring v i).pages q))) ≡ false
        past true e = absurd (false≢true (sym e))
        past false e = refl

-- the page that is brought isn't absent
pub bring-comes : (v : ℕ) (i : Image) → is_absent (bring v i) v ≡ false
bring-comes v i = by (is_absent i v) refl
  where
    by : (b : Bool) → is_absent i v ≡ b → is_absent (bring v i) v ≡ false
    by true absent = there-not-absent (bring v i) v (zeroed data_rights) (ap (λ (j : Image). get j.pages v) (brings v i true absent) ∙ get_same i.pages v (zeroed data_rights))
    by false present = bring-keeps v i v present

-- ---- pages

-- a page that is there stays as it is
pub brought-there : (ps : List ℕ) (i : Image) (q : ℕ) (x : Page) → get i.pages q ≡ Some x → get (brought ps i).pages q ≡ Some x
unfolding brought
brought-there [] i q x is = is
brought-there (v ∷ vs) i q x is = bring-there v (brought vs i) q x (brought-there vs i q x is)

-- what isn't absent doesn't become so
pub brought-keeps : (ps : List ℕ) (i : Image) (q : ℕ) → is_absent i q ≡ false → is_absent (brought ps i) q ≡ false
unfolding brought
brought-keeps [] i q present = present
brought-keeps (v ∷ vs) i q present = bring-keeps v (brought vs i) q (brought-keeps vs i q present)

-- a page that comes was absent, and is zeros
pub brought-new : (ps : List ℕ) (i : Image) (q : ℕ) (x : Page) → get i.pages q ≡ None → get (brought ps i).pages q ≡ Some x → (is_absent i q ≡ true) × (x ≡ zeroed data_rights)
unfolding brought
brought-new [] i q x none is = let w : Some x ≡ None = sym is ∙ none in let no : ⊥ = cc in absurd no
brought-new (v ∷ vs) i q x none is = by (λ y there. brought-new vs i q y none there) (get (brought vs i).pages q) refl
  where
    was : is_absent (brought vs i) q ≡ true → is_absent i q ≡ true
    was absent = by-bool (is_absent i q) refl
      where
        by-bool : (b : Bool) → is_absent i q ≡ b → is_absent i q ≡ true
        by-bool true e = e
        by-bool false e = absurd (false≢true (sym (brought-keeps vs i q e) ∙ absent))

    by : ((y : Page) → get (brought vs i).pages q ≡ Some y → (is_absent i q ≡ true) × (y ≡ zeroed data_rights)) → (o : Option Page)
        → get (brought vs i).pages q ≡ o → (is_absent i q ≡ true) × (x ≡ zeroed data_rights)
    by rest None none-yet = let came = bring-new v (brought vs i) q x none-yet is in (was came.0, came.1)
    by rest (Some y) there = let came = rest y there in (came.0, same_Some _ _ (sym is ∙ bring-there v (brought vs i) q y there) ∙ came.1)

-- q is one of these
abbrev In : ℕ → List ℕ → Type 0
In q [] = ⊥
In q (v ∷ vs) = (q ≡ v) ⊎ In q vs

comes : (i : Image) (ps : List ℕ) (q : ℕ) → In q ps → is_absent (brought ps i) q ≡ false
unfolding brought
comes i [] q here = absurd here
comes i (v ∷ vs) q (inl same) = ap (is_absent (bring v (brought vs i))) same ∙ bring-comes v (brought vs i)
comes i (v ∷ vs) q (inr rest) = bring-keeps v (brought vs i) q (comes i vs q rest)

all-come : (i : Image) (qs ps : List ℕ) → ((q : ℕ) → In q qs → In q ps) → list_any (is_absent (brought ps i)) qs ≡ false
all-come i [] ps within = refl
all-come i (q ∷ qs) ps within = ap (λ b. b || list_any (is_absent (brought ps i)) qs) (comes i ps q (within q (inl refl))) ∙ all-come i qs ps (λ r here. within r (inr here))

-- none of them is absent
pub brought-settled : (ps : List ℕ) (i : Image) → has_absent ps (brought ps i) ≡ false
brought-settled ps i = all-come i ps ps (λ q here. here)

-- where none of them is absent, nothing comes
pub brought-none : (ps : List ℕ) (i : Image) → has_absent ps i ≡ false → brought ps i ≡ i
unfolding brought
brought-none [] i none = refl
brought-none (v ∷ vs) i none = by (brought-none vs i) (is_absent i v) refl none
  where
    by : (list_any (is_absent i) vs ≡ false → brought vs i ≡ i) → (b : Bool) → is_absent i v ≡ b → (b || list_any (is_absent i) vs) ≡ false → bring v (brought vs i) ≡ i
    by rest true is e = absurd (false≢true (sym e))
    by rest false is e = ap (bring v) (rest e) ∙ brings v i false is

-- ---- what may be read and written

-- where user code may, or may once the page is touched, it may so still
may-brought : (access : Access) (ps : List ℕ) (i : Image) (a : ℕ) → allows access (Some data_rights) ≡ true → may_touching access i a ≡ true → may_touching access (brought ps i) a ≡ true
may-brought access ps i a free e = by (get i.pages (a / 4096)) (get (brought ps i).pages (a / 4096)) refl refl
  where
    none-in : (b : Bool) → is_absent i (a / 4096) ≡ b → get i.pages (a / 4096) ≡ None → (b || may access i a) ≡ true → is_absent i (a / 4096) ≡ true
    none-in true is none e = is
    none-in false is none e = absurd (false≢true (sym (ap (λ o. allows access (option_map perm_of_page o)) none) ∙ e))

    by : (o p : Option Page) → get i.pages (a / 4096) ≡ o → get (brought ps i).pages (a / 4096) ≡ p → may_touching access (brought ps i) a ≡ true
    by (Some x) p is there =
        let stays = brought-there ps i (a / 4096) x is in
        ap (λ b. b || may access (brought ps i) a) (there-not-absent (brought ps i) (a / 4096) x stays)
        ∙ ap (λ o. allows access (option_map perm_of_page o)) (stays ∙ sym is)
        ∙ sym (ap (λ b. b || may access i a) (there-not-absent i (a / 4096) x is)) ∙ e
    by None (Some y) none there =
        let came = brought-new ps i (a / 4096) y none there in
        or_right (is_absent (brought ps i) (a / 4096)) (may access (brought ps i) a)
        (ap (λ o. allows access (option_map perm_of_page o)) there ∙ ap (λ (z : Page). allows access (Some z.perm)) came.1 ∙ free)
    by None None none gone =
        let absent = none-in (is_absent i (a / 4096)) refl none e in
        ap (λ b. b || may access (brought ps i) a)
        (ap (λ n. nat_lt (4096 * (a / 4096)) n && not (is_some (get (brought ps i).pages (a / 4096)))) (brought-size ps i)
        ∙ ap (λ o. nat_lt (4096 * (a / 4096)) i.size && not (is_some o)) (gone ∙ sym none) ∙ absent)

pub store-brought : (ps : List ℕ) (i : Image) (a n : ℕ) → reaches_touching Store i a n ≡ true → reaches_touching Store (brought ps i) a n ≡ true
unfolding reaches_touching
store-brought ps i a zero e = refl
store-brought ps i a (suc n) e = by (store-brought ps i (a + 1) n) (may_touching Store i a) refl e
  where
    by : (list_all (may_touching Store i) (range_with_len (a + 1) n) ≡ true
        → list_all (may_touching Store (brought ps i)) (range_with_len (a + 1) n) ≡ true) → (b : Bool) → may_touching Store i a ≡ b
        → (b && list_all (may_touching Store i) (range_with_len (a + 1) n)) ≡ true
        → (may_touching Store (brought ps i) a && list_all (may_touching Store (brought ps i)) (range_with_len (a + 1) n)) ≡ true
    by more true is rest = ap (λ b. b && list_all (may_touching Store (brought ps i)) (range_with_len (a + 1) n)) (may-brought Store ps i a refl is) ∙ more rest
    by more false is fails = absurd (false≢true fails)

-- ---- views

pub touch-none : (ps : List ℕ) (v : View) → has_absent ps v.image ≡ false → touch ps v ≡ Some v
unfolding touch
touch-none ps v none = ap (λ b. cond b (at_price (brought ps v.image) v) (Some v)) none

-- what a touch leaves: the image with the pages, and so many free frames
pub record Comes (ps : List ℕ) (v t : View) : Type 0 where
  pub view : t ≡ record v { image = t.image; free = t.free }
  pub image : t.image ≡ brought ps v.image
  pub price : t.free + price t.image ≡ v.free + price v.image

at-price : (i : Image) (v t : View) → at_price i v ≡ Some t → (t ≡ record v { image = i; free = v.free + price v.image - price i }) × (price i ≤ v.free + price v.image)
at-price i v t e = by (nat_lt v.free (price i - price v.image)) refl e
  where
    by : (b : Bool) → nat_lt v.free (price i - price v.image) ≡ b → cond b None (Some (record v { image = i; free = v.free + price v.image - price i })) ≡ Some t
        → (t ≡ record v { image = i; free = v.free + price v.image - price i }) × (price i ≤ v.free + price v.image)
    by true is e = let no : ⊥ = cc in absurd no
    by false is e = (
      sym (same_Some _ _ e),
      elim (cases_lt v.free (price i - price v.image)) [
        | inl dear ↦ absurd (false≢true (sym is ∙ lt-ltb v.free (price i - price v.image) dear))
        | inr fits ↦ omega (arith, fits)
      ],
    )

pub touch-comes : (ps : List ℕ) (v t : View) → touch ps v ≡ Some t → Comes ps v t
unfolding touch
touch-comes ps v t e = by (has_absent ps v.image) refl e
  where
    by : (b : Bool) → has_absent ps v.image ≡ b → cond b (at_price (brought ps v.image) v) (Some v) ≡ Some t → Comes ps v t
    by true is e =
        let at = at-price (brought ps v.image) v t e in
        let image : t.image ≡ brought ps v.image = ap (λ (u : View). u.image) at.0 in
        let free : t.free ≡ v.free + price v.image - price (brought ps v.image) = ap (λ (u : View). u.free) at.0 in
        record {
          view = at.0 ∙ (λ i. record v { image = sym image i; free = sym free i });
          image = image;
          price = ap (λ n. n + price t.image) free ∙ ap (λ j. v.free + price v.image - price (brought ps v.image) + price j) image ∙ omega (arith, at.1);
        }
    by false is e =
        let same : v ≡ t = same_Some _ _ e in
        record {
          view = sym same ∙ ap (λ (u : View). record v { image = u.image; free = u.free }) same;
          image = ap (λ (u : View). u.image) (sym same) ∙ sym (brought-none ps v.image is);
          price = ap (λ (u : View). u.free + price u.image) (sym same);
        }

-- none of the pages is absent behind a touch
pub touch-settles : (ps : List ℕ) (v t : View) → touch ps v ≡ Some t → has_absent ps t.image ≡ false
touch-settles ps v t e = ap (has_absent ps) (touch-comes ps v t e).image ∙ brought-settled ps v.image

-- so a second touch brings nothing
pub touch-again : (ps : List ℕ) (v t : View) → touch ps v ≡ Some t → touch ps t ≡ Some t
touch-again ps v t e = touch-none ps t (touch-settles ps v t e)

-- ---- a buffer that is there

-- where user code may write, the page is there
there-may : (i : Image) (a : ℕ) → may Store i a ≡ true → (is_absent i (a / 4096) ≡ false) × (may_touching Store i a ≡ true)
there-may i a e = by (get i.pages (a / 4096)) refl
  where
    by : (o : Option Page) → get i.pages (a / 4096) ≡ o → (is_absent i (a / 4096) ≡ false) × (may_touching Store i a ≡ true)
    by None none = absurd (false≢true (sym (ap (λ o. allows Store (option_map perm_of_page o)) none) ∙ e))
    by (Some x) is = let present = there-not-absent i (a / 4096) x is in (present, ap (λ b. b || may Store i a) present ∙ e)

-- a buffer that user code may write as it stands is one that it may write, and none of its pages is absent
pub there-ready : (i : Image) (a n : ℕ) → writable_now i a n ≡ true → (writable i a n ≡ true) × (has_absent (pages_at a n) i ≡ false)
unfolding reaches reaches_touching
there-ready i a zero e = (refl, refl)
there-ready i a (suc n) e = by (there-ready i (a + 1) n) (may Store i a) refl e
  where
    by : (list_all (may Store i) (range_with_len (a + 1) n) ≡ true → (list_all (may_touching Store i) (range_with_len (a + 1) n) ≡ true) × (has_absent (pages_at (a + 1) n) i ≡ false))
        → (b : Bool) → may Store i a ≡ b → (b && list_all (may Store i) (range_with_len (a + 1) n)) ≡ true
        → ((may_touching Store i a && list_all (may_touching Store i) (range_with_len (a + 1) n)) ≡ true) × ((is_absent i (a / 4096) || has_absent (pages_at (a + 1) n) i) ≡ false)
    by rest true is all =
        let here = there-may i a is in
        let more = rest all in
        (ap (λ b. b && list_all (may_touching Store i) (range_with_len (a + 1) n)) here.1 ∙ more.0, ap (λ b. b || has_absent (pages_at (a + 1) n) i) here.0 ∙ more.1)
    by rest false is fails = absurd (false≢true fails)

pub now-writable : (i : Image) (a n : ℕ) → writable_now i a n ≡ true → writable i a n ≡ true
now-writable i a n e = (there-ready i a n e).0

pub now-settled : (i : Image) (a n : ℕ) → writable_now i a n ≡ true → has_absent (pages_at a n) i ≡ false
now-settled i a n e = (there-ready i a n e).1

pub counted-settled : (i : Image) (a n : ℕ) (z : ℤ) → z ≡ pos n → writable_now i a n ≡ true → has_absent (pages_at a (length_of_int z)) i ≡ false
counted-settled i a n z is e = ap (λ z. has_absent (pages_at a (length_of_int z)) i) is ∙ now-settled i a n e

-- room for a status, where the address isn't 0
pub told-ready : (i : Image) (a : ℕ) (b : Bool) → (not b && not (writable_now i a 4)) ≡ false → ((not b && not (writable i a 4)) ≡ false) × (has_absent (pages_at a (cond b 0 4)) i ≡ false)
told-ready i a true e = (refl, refl)
told-ready i a false e = let ready = there-ready i a 4 (not-false (writable_now i a 4) e) in (ap not ready.0, ready.1)

-- where the pages' frames are free, they come
pub touch-view : (v : View) (ps : List ℕ) (n : ℕ) → price (brought ps v.image) ≤ price v.image + v.free → v.free + price v.image - price (brought ps v.image) ≡ n
    → touch ps v ≡ Some (record v { image = brought ps v.image; free = n })
unfolding touch
touch-view v ps n fits is = by (has_absent ps v.image) refl
  where
    by : (b : Bool) → has_absent ps v.image ≡ b → cond b (at_price (brought ps v.image) v) (Some v) ≡ Some (record v { image = brought ps v.image; free = n })
    by true absent = ap (λ b. cond b None (Some (record v
        { image = brought ps v.image; free = v.free + price v.image - price (brought ps v.image) })))
        (le-ltb v.free (price (brought ps v.image) - price v.image) (omega (arith, fits)))
        ∙ (λ i. Some (record v { image = brought ps v.image; free = is i }))
    by false none =
        let same = brought-none ps v.image none in
        let free : v.free ≡ n = omega (arith, is, ap price same) in
        λ i. Some (record v { image = sym same i; free = free i })

-- and where they aren't, none comes
pub touch-dear : (v : View) (ps : List ℕ) → price v.image + v.free < price (brought ps v.image) → touch ps v ≡ None
unfolding touch
touch-dear v ps dear = by (has_absent ps v.image) refl
  where
    by : (b : Bool) → has_absent ps v.image ≡ b → cond b (at_price (brought ps v.image) v) (Some v) ≡ None
    by true absent = ap (λ b. cond b None (Some (record v
        { image = brought ps v.image; free = v.free + price v.image - price (brought ps v.image) })))
        (lt-ltb v.free (price (brought ps v.image) - price v.image) (omega (arith, dear)))
    by false none = absurd (omega (arith, dear, ap price (brought-none ps v.image none)))

-- ---- and once its pages are touched, a buffer that may be written may be so as it stands

may-there : (j : Image) (a : ℕ) → may_touching Store j a ≡ true → is_absent j (a / 4096) ≡ false → may Store j a ≡ true
may-there j a e present = sym (ap (λ b. b || may Store j a) present) ∙ e

now-there : (j : Image) (a n : ℕ) → writable j a n ≡ true → has_absent (pages_at a n) j ≡ false → writable_now j a n ≡ true
unfolding reaches reaches_touching
now-there j a zero e none = refl
now-there j a (suc n) e none = by (now-there j (a + 1) n) (may_touching Store j a) (is_absent j (a / 4096)) refl refl e none
  where
    by : (list_all (may_touching Store j) (range_with_len (a + 1) n) ≡ true → has_absent (pages_at (a + 1) n) j ≡ false → list_all (may Store j) (range_with_len (a + 1) n) ≡ true)
        → (b c : Bool) → may_touching Store j a ≡ b → is_absent j (a / 4096) ≡ c
        → (b && list_all (may_touching Store j) (range_with_len (a + 1) n)) ≡ true → (c || has_absent (pages_at (a + 1) n) j) ≡ false
        → (may Store j a && list_all (may Store j) (range_with_len (a + 1) n)) ≡ true
    by rest true false is there all none = ap (λ b. b && list_all (may Store j) (range_with_len (a + 1) n)) (may-there j a is there) ∙ rest all none
    by rest true true is there all none = absurd (false≢true (sym none))
    by rest false c is there fails none = absurd (false≢true fails)

pub ready-there : (i : Image) (a n : ℕ) → writable i a n ≡ true → writable_now (brought (pages_at a n) i) a n ≡ true
ready-there i a n e = now-there (brought (pages_at a n) i) a n (store-brought (pages_at a n) i a n e) (brought-settled (pages_at a n) i)
