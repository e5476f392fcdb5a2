-- A page's bytes or permissions are written.
use Rattle.addr_space.proofs.Prelude.{ℕ, ◌%◌, ◌*◌, ◌++◌, ◌+◌, ◌/◌, ◌<◌, ◌^◌, ◌∙◌, ◌∷◌, ◌≡◌, ◌≢◌, ◌≤◌, ap, arith, Belongs, below, Bool, cases_eq, Changed, copies, entry_at, entry_of}
use Rattle.addr_space.proofs.Prelude.{entry_of-leaf_word, frame_at, frame_of, frames_of, free_in, free_in-written, given, Good-written, image_of, inl, inr, is_perm, IsSpace, IsTree, last, Leaf}
use Rattle.addr_space.proofs.Prelude.{leaf-here, leaf-others, leaf-tables, leaf_word, length, List, listed-same, lowers, None, Once, one-page, Option, OthersStay, owned, Page, page-apart, page-owned}
use Rattle.addr_space.proofs.Prelude.{page-place, page_at, page_entry, page_frames, page_of, page_of-same, pages_of, Pool, refl, Rights, Some, Space, spot-of, subst, suc, sym, table-owned, table_at}
use Rattle.addr_space.proofs.Prelude.{table_of, true, uppers, Usual, with_page, word_at, word_at-same, WordWritten, zero}
use Rattle.addr_space.proofs.Steps.{gathered-insert, table-write-image}
use Rattle.addr_space.proofs.Prices.{length-kinds}
use Rattle.addr_space.proofs.Half.{Half, half-still, half-written, not-root}

-- two memories with the same tables
pub record SameTables (ram ram' : List (List ℕ)) (root : ℕ) : Type 0 where
  pub tables : (l p : ℕ) → l ≤ 2 → table_at ram' root l p ≡ table_at ram root l p
  pub frames : (v : ℕ) → frame_of (page_entry ram' root v) ≡ frame_of (page_entry ram root v)
  pub usual : (v : ℕ) → Usual (page_entry ram' root v)
  pub count : length ram' ≡ length ram
  pub half : Half ram' root

pub still-tables : (ram ram' : List (List ℕ)) (root : ℕ) → length ram' ≡ length ram
    → ((l p f : ℕ) → l ≤ 2 → table_at ram root l p ≡ Some f → frame_at ram' f ≡ frame_at ram f) → (l p : ℕ) → l ≤ 2
    → table_at ram' root l p ≡ table_at ram root l p
still-tables ram ram' root count kept zero zero le = refl
still-tables ram ram' root count kept zero (suc p) le = refl
still-tables ram ram' root count kept (suc l) p le =
    ap (λ t. below ram' t (p % 512)) (still-tables ram ram' root count kept l (p / 512) (omega arith)) ∙ step (table_at ram root l (p / 512)) (p % 512) (λ f e. kept l (p / 512) f (omega arith) e)
  where
    step : (t : Option ℕ) (i : ℕ) → ((f : ℕ) → t ≡ Some f → frame_at ram' f ≡ frame_at ram f) → below ram' t i ≡ below ram t i
    step None i h = refl
    step (Some f) i h = ap table_of (ap (λ n. entry_of n (word_at ram' f i)) count ∙ ap (entry_of (length ram)) (word_at-same ram ram' f i (h f refl)))

pub still-entries : (ram ram' : List (List ℕ)) (root : ℕ) → length ram' ≡ length ram
    → ((l p f : ℕ) → l ≤ 2 → table_at ram root l p ≡ Some f → frame_at ram' f ≡ frame_at ram f) → (v : ℕ) → page_entry ram' root v ≡ page_entry ram root v
still-entries ram ram' root count kept v =
    ap (λ t. last ram' t (v % 512)) (still-tables ram ram' root count kept 2 (v / 512) (omega arith)) ∙ step (table_at ram root 2 (v / 512)) (v % 512) (λ f e. kept 2 (v / 512) f (omega arith) e)
  where
    step : (t : Option ℕ) (i : ℕ) → ((f : ℕ) → t ≡ Some f → frame_at ram' f ≡ frame_at ram f) → last ram' t i ≡ last ram t i
    step None i h = refl
    step (Some f) i h = ap (λ n. entry_of n (word_at ram' f i)) count ∙ ap (entry_of (length ram)) (word_at-same ram ram' f i (h f refl))

pub same-owned : (ram ram' : List (List ℕ)) (root : ℕ) → SameTables ram ram' root → owned ram' root ≡ owned ram root
unfolding owned uppers lowers page_frames
same-owned ram ram' root s =
    let u : uppers ram' root ≡ uppers ram root = listed-same (table_at ram' root 1) (table_at ram root 1) 256 (λ k h. s.tables 1 k (omega arith)) in
    let l : lowers ram' root ≡ lowers ram root = listed-same (table_at ram' root 2) (table_at ram root 2) (2 ^ 17) (λ k h. s.tables 2 k (omega arith)) in
    let p : page_frames ram' root ≡ page_frames ram root = listed-same (λ v. frame_of (page_entry ram' root v)) (λ v. frame_of (page_entry ram root v)) (2 ^ 26) (λ k h. s.frames k) in
    ap (λ a. root ∷ (a ++ (lowers ram' root ++ page_frames ram' root))) u ∙ ap (λ a. root ∷ (uppers ram root ++ (a ++ page_frames ram' root))) l
    ∙ ap (λ a. root ∷ (uppers ram root ++ (lowers ram root ++ a))) p

pub same-pages : (ram ram' : List (List ℕ)) (root : ℕ) → SameTables ram ram' root → page_frames ram' root ≡ page_frames ram root
unfolding page_frames
same-pages ram ram' root s = listed-same (λ v. frame_of (page_entry ram' root v)) (λ v. frame_of (page_entry ram root v)) (2 ^ 26) (λ k h. s.frames k)

-- a write to one frame of a space that leaves its tables
pub changed-same : (pool : Pool) (ram ram' : List (List ℕ)) (space : Space) (g : ℕ) → Belongs pool ram space → SameTables ram ram' space.root
    → OthersStay ram ram' g → 1 ≤ copies g (frames_of ram space) → Changed pool ram space pool ram' space
changed-same pool ram ram' space g b s stay own =
    let root = space.root in
    let free : copies g (free_in pool ram) ≡ 0 = omega (arith, b.apart g, own) in
    let same = same-owned ram ram' root s in
    let is = b.whole in
    record {
      whole = record {
        tree = record {
          once = subst (λ n. Once n (owned ram' root)) (sym s.count) (subst (λ xs. Once (length ram) xs) (sym same) is.tree.once);
          lower_half = s.half;
        };
        full = record {
          uppers = λ p f e. let r = is.full.uppers p f (sym (s.tables 1 p (omega arith)) ∙ e) in (r.0, r.1, r.2, s.tables 2 (512 * p + r.0) (omega arith) ∙ r.3);
          lowers = λ p f e. let r = is.full.lowers p f (sym (s.tables 2 p (omega arith)) ∙ e) in (r.0, r.1, r.2, s.frames (512 * p + r.0) ∙ r.3);
        };
        leaves = s.usual;
        ends = λ v ge lt. s.frames v ∙ is.ends v ge lt;
        size = is.size;
        pages = is.pages ∙ sym (ap length (same-pages ram ram' root s));
        tables = omega (arith, is.tables, length-kinds ram root, length-kinds ram' root, ap length same, ap length (same-pages ram ram' root s));
      };
      root = refl;
      traded = record {
        good = Good-written pool ram ram' g b.good stay free;
        count = s.count;
        frames = λ f. omega (arith, ap (copies f) (free_in-written pool ram ram' g b.good stay free), ap (copies f) same);
        others = λ f fx ox. stay.others f (λ e. omega (arith, own, ox, ap (λ y. copies y (owned ram root)) e));
      };
    }

pub record Written (pool : Pool) (ram ram' : List (List ℕ)) (space : Space) (v : ℕ) (page : Page) : Type 0 where
  pub changed : Changed pool ram space pool ram' space
  pub image : image_of ram' space ≡ with_page (image_of ram space) v page

pub kept-but : (ram ram' : List (List ℕ)) (root v g : ℕ) (perm : Rights) (a d : Bool) → IsTree ram root → page_entry ram root v ≡ Leaf g perm a d
    → OthersStay ram ram' g → (l p f : ℕ) → l ≤ 2 → table_at ram root l p ≡ Some f → frame_at ram' f ≡ frame_at ram f
kept-but ram ram' root v g perm a d tree leaf stay l p f le e = stay.others f (λ is. page-apart ram root v g l p tree (ap frame_of leaf) le (e ∙ ap Some is))

-- a leaf whose bits A and D are set gives all of its rights
given-all : (p : Rights) (a d : Bool) → (a ≡ true) × (d ≡ true) → given p a d ≡ p
given-all p a d set = ap (λ x. given p x d) set.0 ∙ ap (λ x. given p true x) set.1

pub leaf-given : (ram : List (List ℕ)) (space : Space) (v g : ℕ) (perm : Rights) (a d : Bool) → IsSpace ram space → page_entry ram space.root v ≡ Leaf g perm a d → given perm a d ≡ perm
leaf-given ram space v g perm a d is leaf = given-all perm a d (subst (λ e. Usual e) leaf (is.leaves v))

-- the page that a leaf of a space stands for
pub page-is : (ram : List (List ℕ)) (space : Space) (v g : ℕ) (perm : Rights) (a d : Bool) → IsSpace ram space
    → page_entry ram space.root v ≡ Leaf g perm a d → page_at ram space.root v ≡ Some (record { perm = perm; bytes = frame_at ram g })
page-is ram space v g perm a d is leaf = ap (page_of ram) leaf ∙ ap (λ p. Some (record { perm = p; bytes = frame_at ram g })) (leaf-given ram space v g perm a d is leaf)

-- the bytes of a page are written
pub bytes-image : (ram ram' : List (List ℕ)) (space : Space) (v g : ℕ) (perm : Rights) (a d : Bool) → IsSpace ram space → page_entry ram space.root v ≡ Leaf g perm a d → OthersStay ram ram' g
    → image_of ram' space ≡ with_page (image_of ram space) v (record { perm = perm; bytes = frame_at ram' g })
unfolding pages_of
bytes-image ram ram' space v g perm a d is leaf stay =
    let root = space.root in
    let there : frame_of (page_entry ram root v) ≡ Some g = ap frame_of leaf in
    let entries = still-entries ram ram' root stay.count (kept-but ram ram' root v g perm a d is.tree leaf stay) in
    let here : page_at ram' root v ≡ Some (record { perm = perm; bytes = frame_at ram' g }) = ap (page_of ram') (entries v ∙ leaf)
    ∙ ap (λ p. Some (record { perm = p; bytes = frame_at ram' g })) (leaf-given ram space v g perm a d is leaf) in
    let others : (u : ℕ) → u ≢ v → page_at ram' root u ≡ page_at ram root u = λ u ne. ap (page_of ram') (entries u)
    ∙ page_of-same ram ram' (page_entry ram root u) (λ f e. stay.others f (λ h. ne (one-page ram root u v g is.tree (e ∙ ap Some h) there))) in
    ap (λ m. record { pages = m; size = space.size }) (gathered-insert (page_at ram root) (page_at ram' root) (2 ^ 26) v
    (record { perm = perm; bytes = frame_at ram' g }) (page-place ram root v g is.tree there) here others)

pub bytes-changed : (pool : Pool) (ram ram' : List (List ℕ)) (space : Space) (v g : ℕ) (perm : Rights) (a d : Bool) → Belongs pool ram space
    → page_entry ram space.root v ≡ Leaf g perm a d → OthersStay ram ram' g → Changed pool ram space pool ram' space
bytes-changed pool ram ram' space v g perm a d b leaf stay =
    let root = space.root in
    let tree = b.whole.tree in
    let kept = kept-but ram ram' root v g perm a d tree leaf stay in
    let entries = still-entries ram ram' root stay.count kept in
    let same : SameTables ram ram' root = record {
      tables = still-tables ram ram' root stay.count kept;
      frames = λ u. ap frame_of (entries u);
      usual = λ u. subst (λ e. Usual e) (sym (entries u)) (b.whole.leaves u);
      count = stay.count;
      half = half-still ram ram' root tree (kept 0 0 root (omega arith) refl);
    } in
    changed-same pool ram ram' space g b same stay (page-owned ram root v g tree (ap frame_of leaf))

pub page-written : (pool : Pool) (ram ram' : List (List ℕ)) (space : Space) (v g : ℕ) (perm : Rights) (a d : Bool) → Belongs pool ram space
    → page_entry ram space.root v ≡ Leaf g perm a d → OthersStay ram ram' g
    → Written pool ram ram' space v (record { perm = perm; bytes = frame_at ram' g })
page-written pool ram ram' space v g perm a d b leaf stay =
    record { changed = bytes-changed pool ram ram' space v g perm a d b leaf stay; image = bytes-image ram ram' space v g perm a d b.whole leaf stay }

-- the permissions of a page are written
pub record Rewritten (ram ram' : List (List ℕ)) (root f i p g : ℕ) (perm perm' : Rights) (a d : Bool) : Type 0 where
  pub tables : (l q : ℕ) → l ≤ 2 → table_at ram' root l q ≡ table_at ram root l q
  pub was : page_entry ram root (512 * p + i) ≡ Leaf g perm a d
  pub here : page_entry ram' root (512 * p + i) ≡ Leaf g perm' true true
  pub others : (u : ℕ) → u ≢ 512 * p + i → page_entry ram' root u ≡ page_entry ram root u

pub rewritten : (ram ram' : List (List ℕ)) (root f i p g : ℕ) (perm perm' : Rights) (a d : Bool) → IsTree ram root → table_at ram root 2 p ≡ Some f
    → i < 512 → entry_at ram f i ≡ Leaf g perm a d → WordWritten ram ram' f i (leaf_word g perm') → is_perm perm' ≡ true → g < 32768
    → Rewritten ram ram' root f i p g perm perm' a d
rewritten ram ram' root f i p g perm perm' a d tree found inside leaf put ok small =
    let spot = spot-of ram root 2 p f tree (omega arith) found in
    let quotient : (512 * p + i) / 512 ≡ p = omega arith in
    let remainder : (512 * p + i) % 512 ≡ i = omega arith in
    let was : page_entry ram root (512 * p + i) ≡ Leaf g perm a d = ap (λ t. last ram t ((512 * p + i) % 512)) (ap (table_at ram root 2) quotient ∙ found) ∙ ap (entry_at ram f) remainder ∙ leaf in
    record {
      tables = λ l q le. leaf-tables ram ram' root f i (leaf_word g perm') p put spot l q le;
      was = was;
      here = leaf-here ram ram' root f i (leaf_word g perm') p put spot inside
          ∙ entry_of-leaf_word (length ram) g perm' ok (tree.once.inside g (page-owned ram root (512 * p + i) g tree (ap frame_of was))) small;
      others = λ u ne. leaf-others ram ram' root f i (leaf_word g perm') p put spot u ne;
    }

pub perm-changed : (pool : Pool) (ram ram' : List (List ℕ)) (space : Space) (f i p g : ℕ) (perm perm' : Rights) (a d : Bool) → Belongs pool ram space
    → table_at ram space.root 2 p ≡ Some f → i < 512 → entry_at ram f i ≡ Leaf g perm a d → WordWritten ram ram' f i (leaf_word g perm')
    → is_perm perm' ≡ true → g < 32768
    → Changed pool ram space pool ram' space
perm-changed pool ram ram' space f i p g perm perm' a d b found inside leaf put ok small =
    let tree = b.whole.tree in
    let r = rewritten ram ram' space.root f i p g perm perm' a d tree found inside leaf put ok small in
    let same : SameTables ram ram' space.root = record {
      tables = r.tables;
      frames = λ u. elim (cases_eq u (512 * p + i)) [
        | inl e ↦ ap (λ x. frame_of (page_entry ram' space.root x)) e ∙ ap frame_of r.here
            ∙ sym (ap frame_of r.was) ∙ sym (ap (λ x. frame_of (page_entry ram space.root x)) e)
        | inr ne ↦ ap frame_of (r.others u ne)
      ];
      usual = λ u. elim (cases_eq u (512 * p + i)) [
        | inl e ↦ subst (λ x. Usual x) (sym (ap (page_entry ram' space.root) e ∙ r.here))
            (refl, refl)
        | inr ne ↦ subst (λ x. Usual x) (sym (r.others u ne)) (b.whole.leaves u)
      ];
      count = put.stay.count;
      half = half-written ram ram' space.root f i (leaf_word g perm') tree put (λ is. absurd (not-root ram space.root f 2 p tree (omega arith) (omega arith) found is));
    } in
    changed-same pool ram ram' space f b same put.stay (table-owned ram space.root 2 p f tree (omega arith) found)

pub perm-image : (ram ram' : List (List ℕ)) (space : Space) (f i p g : ℕ) (perm perm' : Rights) (a d : Bool) → IsSpace ram space
    → table_at ram space.root 2 p ≡ Some f → i < 512 → entry_at ram f i ≡ Leaf g perm a d → WordWritten ram ram' f i (leaf_word g perm')
    → is_perm perm' ≡ true → g < 32768
    → image_of ram' space ≡ with_page (image_of ram space) (512 * p + i) (record { perm = perm'; bytes = frame_at ram g })
unfolding pages_of
perm-image ram ram' space f i p g perm perm' a d is found inside leaf put ok small =
    let root = space.root in
    let r = rewritten ram ram' root f i p g perm perm' a d is.tree found inside leaf put ok small in
    let bytes : frame_at ram' g ≡ frame_at ram g = put.stay.others g (λ e. page-apart ram root (512 * p + i) g 2 p is.tree (ap frame_of r.was) (omega arith) (found ∙ ap Some (sym e))) in
    let here : page_at ram' root (512 * p + i) ≡ Some (record { perm = perm'; bytes = frame_at ram g }) = ap (page_of ram') r.here ∙ ap (λ x. Some (record { perm = perm'; bytes = x })) bytes in
    ap (λ m. record { pages = m; size = space.size }) (gathered-insert (page_at ram root) (page_at ram' root) (2 ^ 26) (512 * p + i)
    (record { perm = perm'; bytes = frame_at ram g }) (page-place ram root (512 * p + i) g is.tree (ap frame_of r.was)) here
    (λ u ne. table-write-image ram ram' root f 2 p is.tree put.stay (omega arith) found u (r.others u ne)))
