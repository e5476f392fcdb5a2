-- The steps by which a page comes into a space: a frame is taken, and a word of a table is written.
use Rattle.addr_space.proofs.Prelude.{ℕ, ◌*◌, ◌+◌, ◌<◌, ◌^◌, ◌∙◌, ◌∷◌, ◌≡◌, ◌≢◌, ◌≤◌, ap, arith, at, at-same, cases_eq, cond, copies, copies-nil, Entry, entry_of, entry_of-leaf_word}
use Rattle.addr_space.proofs.Prelude.{entry_of-table_word, entry_of-zero, frame_at, frame_of, free_in, free_in-written, gathered, gathered-get, get, get-insert, Good, Good-written, Hanging, Holds}
use Rattle.addr_space.proofs.Prelude.{Hung, hung-here, hung-others, hung-owned-lower, hung-owned-upper, hung-pages, inl, inr, insert, Invalid, is_perm, IsTree, Kept, kept-image, kept-owned}
use Rattle.addr_space.proofs.Prelude.{kept-pages, kept-tables, Leaf, leaf-here, leaf-others, leaf-owned, leaf_word, length, length-same, List, lower-place, lt-ltb, ltb, nat_cmp-IsAntisymmetric}
use Rattle.addr_space.proofs.Prelude.{nat_cmp_total, None, Once-more, Option, OthersStay, owned, Page, page-apart, page_at, page_entry, page_of, page_of-same, PageAdded, pages_of, Placing, Pool, refl}
use Rattle.addr_space.proofs.Prelude.{Rights, same-cons, same_map, SameFrames, SameImage, Some, spot-of, suc, sym, Table, table-owned, table_at, table_of, table_word, Taken, taken-free, tie-no}
use Rattle.addr_space.proofs.Prelude.{tie-yes, true, word_at, word_at-zero, WordWritten, zero_frame}
use Rattle.addr_space.proofs.Half.{Half, half-kept, half-written, not-root}

-- a frame that is taken changes nothing of the tree
pub taken-kept : (pool pool' : Pool) (ram ram' : List (List ℕ)) (root g : ℕ) → Holds pool ram root → length ram' ≡ length ram → Taken pool ram pool' ram' g → Kept ram ram' root
taken-kept pool pool' ram ram' root g h size taken = record {
  count = size;
  bytes = λ f own.
      let free : copies f (free_in pool ram) ≡ 0 = omega (arith, h.apart f, own) in
      taken.traded.others f free (copies-nil f);
}

taken-apart : (pool pool' : Pool) (ram ram' : List (List ℕ)) (root g : ℕ) → Holds pool ram root → Taken pool ram pool' ram' g → copies g (owned ram root) ≡ 0
taken-apart pool pool' ram ram' root g h taken =
    omega (arith, h.apart g, same-cons g g (free_in pool ram) (free_in pool' ram') (taken-free pool pool' ram ram' g taken), at-same g)

-- what a taken frame leaves: all of the tree, and the frame itself zeros
pub record AfterTake (pool : Pool) (ram : List (List ℕ)) (pool' : Pool) (ram' : List (List ℕ)) (root g : ℕ) : Type 0 where
  pub kept : Kept ram ram' root
  pub tree : IsTree ram' root
  pub own : owned ram' root ≡ owned ram root
  pub apart : copies g (owned ram' root) ≡ 0
  pub inside : g < length ram'
  pub split : (x : ℕ) → copies x (free_in pool ram) ≡ at x g + copies x (free_in pool' ram')
  pub zeros : (j : ℕ) → word_at ram' g j ≡ 0

pub after-take : (pool pool' : Pool) (ram ram' : List (List ℕ)) (root g : ℕ) → Holds pool ram root → length ram' ≡ length ram → Taken pool ram pool' ram' g → AfterTake pool ram pool' ram' root g
after-take pool pool' ram ram' root g h size taken =
    let kept = taken-kept pool pool' ram ram' root g h size taken in
    let own = kept-owned ram ram' root h.tree kept in
    record {
      kept = kept;
      tree = record { once = rw (size, own) h.tree.once; lower_half = half-kept ram ram' root h.tree kept };
      own = own;
      apart = ap (copies g) own ∙ taken-apart pool pool' ram ram' root g h taken;
      inside = taken.inside;
      split = λ x. same-cons x g (free_in pool ram) (free_in pool' ram') (taken-free pool pool' ram ram' g taken);
      zeros = λ j. word_at-zero ram' g j taken.zeros;
    }

-- a page's bytes aren't changed by a write to a table
pub table-write-image : (ram ram' : List (List ℕ)) (root f l p : ℕ) → IsTree ram root → OthersStay ram ram' f → l ≤ 2
    → table_at ram root l p ≡ Some f → (v : ℕ) → page_entry ram' root v ≡ page_entry ram root v → page_at ram' root v ≡ page_at ram root v
table-write-image ram ram' root f l p tree stay le found v same =
    ap (page_of ram') same ∙ page_of-same ram ram' (page_entry ram root v) (λ h e. stay.others h (λ is. page-apart ram root v h l p tree e le (found ∙ ap Some (sym is))))

-- the frames that are neither free nor the space's are of no concern
pub others-stay : (pool pool' : Pool) (ram mid ram' : List (List ℕ)) (root g f : ℕ) → Holds pool ram root → Taken pool ram pool' mid g → OthersStay mid ram' f → 1 ≤ copies f (owned ram root)
    → (x : ℕ) → copies x (free_in pool ram) ≡ 0 → copies x (owned ram root) ≡ 0 → frame_at ram' x ≡ frame_at ram x
others-stay pool pool' ram mid ram' root g f h taken stay own x free none =
    stay.others x (λ is. omega (arith, own, none, ap (λ y. copies y (owned ram root)) is)) ∙ taken.traded.others x free (copies-nil x)

-- what holds after one more frame is the space's
pub holds-more : (pool pool' : Pool) (ram mid ram' : List (List ℕ)) (root g f : ℕ) → Holds pool ram root → Good pool' mid
    → AfterTake pool ram pool' mid root g → OthersStay mid ram' f → 1 ≤ copies f (owned ram root)
    → SameFrames (owned ram' root) (g ∷ owned mid root) → Half ram' root
    → Holds pool' ram' root × ((x : ℕ) → copies x (free_in pool' ram') + copies x (owned ram' root) ≡ copies x (free_in pool ram) + copies x (owned ram root))
holds-more pool pool' ram mid ram' root g f h good after stay own more half =
    let free : copies f (free_in pool' mid) ≡ 0 = omega (arith, h.apart f, own, after.split f) in
    let same = free_in-written pool' mid ram' f good stay free in
    let count : (x : ℕ) → copies x (free_in pool' ram') + copies x (owned ram' root) ≡ copies x (free_in pool ram) + copies x (owned ram root) =
    λ x. omega (arith, ap (copies x) same, same-cons x g (owned ram' root) (owned mid root) more, ap (copies x) after.own, after.split x) in (
      record {
        good = Good-written pool' mid ram' f good stay free;
        tree = record { once = rw stay.count (Once-more (length mid) g (owned ram' root) (owned mid root) more after.inside after.apart after.tree.once); lower_half = half };
        apart = λ x. omega (arith, count x, h.apart x);
      },
      count,
    )

-- the word that hangs g below the table at place p of level l
pub hung-of : (pool pool' : Pool) (ram mid ram' : List (List ℕ)) (root f i g l p : ℕ) → Holds pool ram root → AfterTake pool ram pool' mid root g → WordWritten mid ram' f i (table_word g) → g < 32768
    → l < 2 → table_at ram root l p ≡ Some f → i < 512 → table_at ram root (suc l) (512 * p + i) ≡ None → Hung mid ram' root f i g l p
hung-of pool pool' ram mid ram' root f i g l p h after put small lt found inside none =
    let found' : table_at mid root l p ≡ Some f = kept-tables ram mid root h.tree after.kept l p (omega arith) ∙ found in
    record {
      w = table_word g;
      put = put;
      entry = entry_of-table_word (length mid) g after.inside small;
      spot = spot-of mid root l p f after.tree (omega arith) found';
      level = lt;
      entry_in = inside;
      free = kept-tables ram mid root h.tree after.kept (suc l) (512 * p + i) (omega arith) ∙ none;
      empty = λ j lt. ap table_of (ap (entry_of (length mid)) (after.zeros j) ∙ entry_of-zero (length mid));
      blank = λ e j lt. ap (entry_of (length mid)) (after.zeros j) ∙ entry_of-zero (length mid);
      apart = λ is. omega (arith, table-owned mid root l p f after.tree (omega arith) found', after.apart, ap (λ y. copies y (owned mid root)) is);
    }

-- a frame that is taken leaves one less
pub taken-length : (pool pool' : Pool) (ram mid ram' : List (List ℕ)) (f g : ℕ) → Good pool' mid → Taken pool ram pool' mid g → OthersStay mid ram' f
    → copies f (free_in pool' mid) ≡ 0 → length (free_in pool ram) ≡ 1 + length (free_in pool' ram')
taken-length pool pool' ram mid ram' f g good taken stay free =
    omega (arith, length-same (free_in pool ram) (g ∷ free_in pool' mid) (taken-free pool pool' ram mid g taken), ap length (free_in-written pool' mid ram' f good stay free))

-- hanging a table of zeros below another leaves the image
pub hang-upper : (pool pool' : Pool) (ram ram' : List (List ℕ)) (root i g : ℕ) → Holds pool ram root → Hanging pool ram pool' ram' root i g → i < 256 → table_at ram root 1 (512 * 0 + i) ≡ None
    → SameImage pool ram pool' ram' root × (table_at ram' root 1 (512 * 0 + i) ≡ Some g) × ((p : ℕ) → table_at ram' root 2 p ≡ table_at ram root 2 p)
    × (length (free_in pool ram) ≡ 1 + length (free_in pool' ram'))
hang-upper pool pool' ram ram' root i g h hang low none =
    let after = after-take pool pool' ram hang.mid root g h hang.taken.traded.count hang.taken in
    let hung = hung-of pool pool' ram hang.mid ram' root root i g 0 0 h after hang.put hang.small (omega arith) refl (omega arith) none in
    let own = table-owned ram root 0 0 root h.tree (omega arith) refl in
    let more = hung-owned-upper hang.mid ram' root root i g hung low in
    let half = half-written hang.mid ram' root root i (table_word g) after.tree hang.put (λ same. low) in
    let held = holds-more pool pool' ram hang.mid ram' root g root h hang.taken.traded.good after hang.put.stay own more half in (
      record {
        holds = held.0;
        count = hang.put.stay.count ∙ hang.taken.traded.count;
        image = λ v. table-write-image hang.mid ram' root root 0 0 after.tree hang.put.stay (omega arith) refl v
            (hung-pages hang.mid ram' root root i g 0 0 hung v) ∙ kept-image ram hang.mid root h.tree after.kept v;
        frames = held.1;
        others = others-stay pool pool' ram hang.mid ram' root g root h hang.taken hang.put.stay own;
      },
      hung-here hang.mid ram' root root i g 0 0 hung,
      λ p. hung-others hang.mid ram' root root i g 0 0 hung 2 p (omega arith) (λ e is. absurd (omega arith)) ∙ kept-tables ram hang.mid root h.tree after.kept 2 p (omega arith),
      taken-length pool pool' ram hang.mid ram' root g hang.taken.traded.good hang.taken hang.put.stay (omega (arith, h.apart root, own, after.split root)),
    )

pub hang-lower : (pool pool' : Pool) (ram ram' : List (List ℕ)) (root f i g p : ℕ) → Holds pool ram root → Hanging pool ram pool' ram' f i g
    → p < 256 → i < 512 → table_at ram root 1 p ≡ Some f → table_at ram root 2 (512 * p + i) ≡ None
    → SameImage pool ram pool' ram' root × (table_at ram' root 2 (512 * p + i) ≡ Some g) × (length (free_in pool ram) ≡ 1 + length (free_in pool' ram'))
hang-lower pool pool' ram ram' root f i g p h hang low inside found none =
    let after = after-take pool pool' ram hang.mid root g h hang.taken.traded.count hang.taken in
    let hung = hung-of pool pool' ram hang.mid ram' root f i g 1 p h after hang.put hang.small (omega arith) found inside none in
    let own = table-owned ram root 1 p f h.tree (omega arith) found in
    let more = hung-owned-lower hang.mid ram' root f i g p hung low in
    let half = half-written hang.mid ram' root f i (table_word g) after.tree hang.put (λ same. absurd (not-root ram root f 1 p h.tree (omega arith) (omega arith) found same)) in
    let held = holds-more pool pool' ram hang.mid ram' root g f h hang.taken.traded.good after hang.put.stay own more half in
    let found' : table_at hang.mid root 1 p ≡ Some f = kept-tables ram hang.mid root h.tree after.kept 1 p (omega arith) ∙ found in (
      record {
        holds = held.0;
        count = hang.put.stay.count ∙ hang.taken.traded.count;
        image = λ v. table-write-image hang.mid ram' root f 1 p after.tree hang.put.stay (omega arith) found' v
            (hung-pages hang.mid ram' root f i g 1 p hung v) ∙ kept-image ram hang.mid root h.tree after.kept v;
        frames = held.1;
        others = others-stay pool pool' ram hang.mid ram' root g f h hang.taken hang.put.stay own;
      },
      hung-here hang.mid ram' root f i g 1 p hung,
      taken-length pool pool' ram hang.mid ram' f g hang.taken.traded.good hang.taken hang.put.stay (omega (arith, h.apart f, own, after.split f)),
    )

-- a page more
pub gathered-insert : (f g : ℕ → Option Page) (n v : ℕ) (p : Page) → v < n → g v ≡ Some p → ((u : ℕ) → u ≢ v → g u ≡ f u) → gathered g n ≡ insert (gathered f n) v p
gathered-insert f g n v p lt new others =
    same_map nat_cmp_total nat_cmp-IsAntisymmetric (gathered g n) (insert (gathered f n) v p) (λ q.
    gathered-get g n q ∙ (elim (cases_eq q v) [
      | inl e ↦ ap (λ b. cond b (g q) None) (lt-ltb q n (omega arith)) ∙ ap g e ∙ new ∙ sym (ap (λ b. cond b (Some p) (get (gathered f n) q)) (tie-yes q v e))
      | inr ne ↦ ap (λ o. cond (ltb q n) o None) (others q ne) ∙ sym (gathered-get f n q) ∙ sym (ap (λ b. cond b (Some p) (get (gathered f n) q)) (tie-no q v ne))
    ]) ∙ sym (get-insert nat_cmp_total (gathered f n) v p q))

-- a page of zeros is put where none was
pub place-page : (pool pool' : Pool) (ram ram' : List (List ℕ)) (root f i g p : ℕ) (perm : Rights) → Holds pool ram root
    → Placing pool ram pool' ram' f i g perm → is_perm perm ≡ true → i < 512 → table_at ram root 2 p ≡ Some f
    → frame_of (page_entry ram root (512 * p + i)) ≡ None → PageAdded pool ram pool' ram' root (512 * p + i) perm
unfolding pages_of
place-page pool pool' ram ram' root f i g p perm h placing ok inside found none =
    let after = after-take pool pool' ram placing.mid root g h placing.taken.traded.count placing.taken in
    let found' : table_at placing.mid root 2 p ≡ Some f = kept-tables ram placing.mid root h.tree after.kept 2 p (omega arith) ∙ found in
    let spot = spot-of placing.mid root 2 p f after.tree (omega arith) found' in
    let low = lower-place ram root p f h.tree found in
    let own = table-owned ram root 2 p f h.tree (omega arith) found in
    let own' = table-owned placing.mid root 2 p f after.tree (omega arith) found' in
    let none' : frame_of (page_entry placing.mid root (512 * p + i)) ≡ None = ap frame_of (kept-pages ram placing.mid root h.tree after.kept (512 * p + i)) ∙ none in
    let leaf : entry_of (length placing.mid) (leaf_word g perm) ≡ Leaf g perm true true = entry_of-leaf_word (length placing.mid) g perm ok after.inside placing.small in
    let more = leaf-owned placing.mid ram' root f i (leaf_word g perm) p g placing.put spot inside low none' (ap frame_of leaf) in
    let half = half-written placing.mid ram' root f i (leaf_word g perm) after.tree placing.put (λ same. absurd (not-root ram root f 2 p h.tree (omega arith) (omega arith) found same)) in
    let held = holds-more pool pool' ram placing.mid ram' root g f h placing.taken.traded.good after placing.put.stay own more half in
    let apart : g ≢ f = λ is. omega (arith, own', after.apart, ap (λ y. copies y (owned placing.mid root)) is) in
    let zeros : frame_at ram' g ≡ zero_frame = placing.put.stay.others g apart ∙ placing.taken.zeros in
    let here : page_at ram' root (512 * p + i) ≡ Some (record { perm = perm; bytes = zero_frame }) =
    ap (page_of ram') (leaf-here placing.mid ram' root f i (leaf_word g perm) p placing.put spot inside ∙ leaf) ∙ ap (λ b. Some (record { perm = perm; bytes = b })) zeros in
    let others : (u : ℕ) → u ≢ 512 * p + i → page_at ram' root u ≡ page_at ram root u =
    λ u ne. table-write-image placing.mid ram' root f 2 p after.tree placing.put.stay (omega arith) found' u
    (leaf-others placing.mid ram' root f i (leaf_word g perm) p placing.put spot u ne) ∙ kept-image ram placing.mid root h.tree after.kept u in
    record {
      holds = held.0;
      count = placing.put.stay.count ∙ placing.taken.traded.count;
      pages = gathered-insert (page_at ram root) (page_at ram' root) (2 ^ 26) (512 * p + i) (record { perm = perm; bytes = zero_frame }) (omega arith) here others;
      frames = held.1;
      others = others-stay pool pool' ram placing.mid ram' root g f h placing.taken placing.put.stay own;
    }

pub gathered-same : {X : Type 0} (f g : ℕ → Option X) (n : ℕ) → ((k : ℕ) → g k ≡ f k) → gathered g n ≡ gathered f n
gathered-same f g n h = same_map nat_cmp_total nat_cmp-IsAntisymmetric (gathered g n) (gathered f n) (λ q. gathered-get g n q ∙ ap (λ o. cond (ltb q n) o None) (h q) ∙ sym (gathered-get f n q))

-- the image stays, and then a page comes
pub same-then-added : (pool0 pool1 pool2 : Pool) (ram0 ram1 ram2 : List (List ℕ)) (root v : ℕ) (perm : Rights) → SameImage pool0 ram0 pool1 ram1 root
    → PageAdded pool1 ram1 pool2 ram2 root v perm → PageAdded pool0 ram0 pool2 ram2 root v perm
unfolding pages_of
same-then-added pool0 pool1 pool2 ram0 ram1 ram2 root v perm same added = record {
  holds = added.holds;
  count = added.count ∙ same.count;
  pages = added.pages ∙ ap (λ m. insert m v (record { perm = perm; bytes = zero_frame })) (gathered-same (page_at ram0 root) (page_at ram1 root) (2 ^ 26) same.image);
  frames = λ f. added.frames f ∙ same.frames f;
  others = λ f free own. added.others f (omega (arith, same.frames f, free, own)) (omega (arith, same.frames f, free, own)) ∙ same.others f free own;
}

page-none : (ram : List (List ℕ)) (e : Entry) → page_of ram e ≡ None → frame_of e ≡ None
page-none ram Invalid h = refl
page-none ram (Table f) h = refl
page-none ram (Leaf f p a d) h = absurd (cc)

pub absent-after : (ram ram' : List (List ℕ)) (root v : ℕ) → page_at ram' root v ≡ page_at ram root v → page_at ram root v ≡ None → frame_of (page_entry ram' root v) ≡ None
absent-after ram ram' root v same none = page-none ram' (page_entry ram' root v) (same ∙ none)
