-- A frame of a space is given back: the entry that led to it is made blank.
use Rattle.addr_space.proofs.Prelude.{ℕ, ◌%◌, ◌*◌, ◌+◌, ◌/◌, ◌<◌, ◌^◌, ◌∙◌, ◌∷◌, ◌≡◌, ◌≢◌, ◌≤◌, ap, arith, at, at-same, below, below-some, Bool, Cleared, copies, copies-cons, Entry, entry-here}
use Rattle.addr_space.proofs.Prelude.{entry-other, entry_at, entry_of, entry_of-zero, frame_of, free_in, Freed, given-free, Holds, Hung, hung-others, hung-owned-lower, hung-owned-upper, hung-pages}
use Rattle.addr_space.proofs.Prelude.{Invalid, IsTree, Kept, kept-image, kept-owned, kept-pages, kept-tables, last, Leaf, leaf-here, leaf-others, leaf-owned, leaf-tables, length, length-same, List}
use Rattle.addr_space.proofs.Prelude.{listed-more, listed-same, lower-place, None, Once, Once-less, owned, page_at, page_entry, page_frames, Pool, refl, Rights, same-cons, SameFrames, Some, Spot}
use Rattle.addr_space.proofs.Prelude.{spot-of, subst, suc, sym, Table, table-owned, table_at, table_of, Traded, up, upper-place, Usual, word_at, WordWritten, zero}
use Rattle.addr_space.proofs.Steps.{table-write-image}
use Rattle.addr_space.proofs.Half.{Half, half-kept, half-written, not-root}
use Rattle.addr_space.proofs.Trades.{given-others}

-- the write that takes a write back
back : (ram mid : List (List ℕ)) (f i w : ℕ) → WordWritten ram mid f i w → WordWritten mid ram f i (word_at ram f i)
back ram mid f i w put = record {
  stay = record { count = sym put.stay.count; others = λ g ne. sym (put.stay.others g ne); words = λ g j ne. sym (put.stay.words g j ne) };
  here = refl;
  beside = λ j ne. sym (put.beside j ne);
  before = λ k lt. sym (put.before k lt);
  after = λ k ge. sym (put.after k ge);
  size = sym put.size;
}

-- a blank entry only takes tables away
cleared-sub : (ram mid : List (List ℕ)) (root f i : ℕ) → WordWritten ram mid f i 0 → (l p h : ℕ) → table_at mid root l p ≡ Some h → table_at ram root l p ≡ Some h
cleared-sub ram mid root f i put zero zero h e = e
cleared-sub ram mid root f i put zero (suc p) h e = e
cleared-sub ram mid root f i put (suc l) p h e =
    let parent = below-some mid (table_at mid root l (p / 512)) (p % 512) h e in
    let k = parent.0 in
    let ih : table_at ram root l (p / 512) ≡ Some k = cleared-sub ram mid root f i put l (p / 512) k parent.1 in
    let has : table_of (entry_at mid k (p % 512)) ≡ Some h = sym (ap (λ t. below mid t (p % 512)) parent.1) ∙ e in
    let same : entry_at mid k (p % 512) ≡ entry_at ram k (p % 512) = entry-other ram mid f i 0 put k (p % 512) (λ is j.
    let blank : entry_at mid k (p % 512) ≡ Invalid = ap (λ x. entry_at mid x (p % 512)) is ∙ ap (entry_at mid f) j ∙ entry-here ram mid f i 0 put ∙ entry_of-zero (length ram) in
    let w : None ≡ Some h = sym (ap table_of blank) ∙ has in absurd (cc)) in
    ap (λ t. below ram t (p % 512)) ih ∙ sym (ap table_of same) ∙ has

-- what is left of the tree after the write, and after the frame is given back
pub record AfterClear (pool : Pool) (ram : List (List ℕ)) (pool' : Pool) (mid ram' : List (List ℕ)) (root : ℕ) : Type 0 where
  pub tree : IsTree mid root
  pub kept : Kept mid ram' root
  pub holds : Holds pool' ram' root
  pub traded : Traded pool ram pool' ram' (owned ram root) (owned ram' root)
  pub less : length (owned ram root) ≡ 1 + length (owned ram' root)

pub after-clear : (pool pool' : Pool) (ram ram' : List (List ℕ)) (root f i g : ℕ) → Holds pool ram root → (c : Cleared pool ram pool' ram' f i g) → SameFrames (owned ram root) (g ∷ owned c.mid root)
    → Half c.mid root → 1 ≤ copies f (owned ram root) → AfterClear pool ram pool' c.mid ram' root
after-clear pool pool' ram ram' root f i g h c more half own =
    let split : (x : ℕ) → copies x (owned ram root) ≡ at x g + copies x (owned c.mid root) = λ x. same-cons x g (owned ram root) (owned c.mid root) more in
    let tree : IsTree c.mid root = record {
      once = Once-less (length c.mid) g (owned ram root) (owned c.mid root) more
          (subst (λ n. Once n (owned ram root)) (sym c.put.stay.count) h.tree.once);
      lower_half = half;
    } in
    let unfree : (x : ℕ) → 1 ≤ copies x (owned ram root) → copies x (free_in pool c.mid) ≡ 0 = λ x o. omega (arith, h.apart x, o, ap (copies x) c.same) in
    let kept : Kept c.mid ram' root = record {
      count = c.given.count;
      bytes = λ x o. given-others pool pool' c.mid ram' g c.given x
          (λ is. omega (arith, o, h.tree.once.once g, split g, at-same g, ap (λ y. copies y (owned c.mid root)) is)) (unfree x (omega (arith, o, split x)));
    } in
    let same = kept-owned c.mid ram' root tree kept in
    let free : (x : ℕ) → copies x (free_in pool' ram') ≡ at x g + copies x (free_in pool ram) =
    λ x. same-cons x g (free_in pool' ram') (free_in pool c.mid) (given-free pool pool' c.mid ram' g c.given) ∙ ap (λ l. at x g + copies x l) c.same in
    let frames : (x : ℕ) → copies x (free_in pool' ram') + copies x (owned ram' root) ≡ copies x (free_in pool ram) + copies x (owned ram root) =
    λ x. omega (arith, free x, split x, ap (copies x) same) in
    let traded : Traded pool ram pool' ram' (owned ram root) (owned ram' root) = record {
      good = c.given.good;
      count = c.given.count ∙ c.put.stay.count;
      frames = frames;
      others = λ x fx ox. given-others pool pool' c.mid ram' g c.given x (λ is. omega (arith, ox, split x, ap (at x) (sym is), at-same x))
          (ap (copies x) c.same ∙ fx) ∙ c.put.stay.others x (λ is. omega (arith, own, ox, ap (λ y. copies y (owned ram root)) is));
    } in
    record {
      tree = tree;
      kept = kept;
      holds = record {
        good = c.given.good;
        tree = record {
          once = subst (λ n. Once n (owned ram' root)) (sym c.given.count) (subst (λ xs. Once (length c.mid) xs) (sym same) tree.once);
          lower_half = half-kept c.mid ram' root tree kept;
        };
        apart = λ x. omega (arith, frames x, h.apart x);
      };
      traded = traded;
      less = omega (arith, length-same (owned ram root) (g ∷ owned c.mid root) more, ap length same);
    }

-- a page goes
pub record PageGone (pool : Pool) (ram : List (List ℕ)) (pool' : Pool) (ram' : List (List ℕ)) (root v : ℕ) : Type 0 where
  pub freed : Freed pool ram pool' ram' root v 1
  pub gone : page_entry ram' root v ≡ Invalid
  pub pages : length (page_frames ram root) ≡ 1 + length (page_frames ram' root)
  pub image : (u : ℕ) → (u ≡ v → ⊥) → page_at ram' root u ≡ page_at ram root u
  pub lowers : (q : ℕ) → table_at ram' root 2 q ≡ table_at ram root 2 q

pub page-gone : (pool pool' : Pool) (ram ram' : List (List ℕ)) (root f i g p : ℕ) (perm : Rights) (a d : Bool) → Holds pool ram root
    → Cleared pool ram pool' ram' f i g → i < 512 → table_at ram root 2 p ≡ Some f → entry_at ram f i ≡ Leaf g perm a d
    → PageGone pool ram pool' ram' root (512 * p + i)
unfolding page_frames
page-gone pool pool' ram ram' root f i g p perm a d h c inside found leaf =
    let put = c.put in
    let spot = spot-of ram root 2 p f h.tree (omega arith) found in
    let tables : (l q : ℕ) → l ≤ 2 → table_at c.mid root l q ≡ table_at ram root l q = λ l q le. leaf-tables ram c.mid root f i 0 p put spot l q le in
    let spot' : Spot c.mid root 2 p f = record { found = tables 2 p (omega arith) ∙ found; only = λ m q le e. spot.only m q le (sym (tables m q le) ∙ e) } in
    let low = lower-place ram root p f h.tree found in
    let own = table-owned ram root 2 p f h.tree (omega arith) found in
    let blank : page_entry c.mid root (512 * p + i) ≡ Invalid = leaf-here ram c.mid root f i 0 p put spot inside ∙ entry_of-zero (length ram) in
    let was : entry_of (length c.mid) (word_at ram f i) ≡ Leaf g perm a d = ap (λ n. entry_of n (word_at ram f i)) put.stay.count ∙ leaf in
    let undo = back ram c.mid f i 0 put in
    let more : SameFrames (owned ram root) (g ∷ owned c.mid root) = leaf-owned c.mid ram root f i (word_at ram f i) p g undo spot' inside low (ap frame_of blank) (ap frame_of was) in
    let after = after-clear pool pool' ram ram' root f i g h c more
    (half-written ram c.mid root f i 0 h.tree put (λ same. absurd (not-root ram root f 2 p h.tree (omega arith) (omega arith) found same))) own in
    let there : page_entry ram root (512 * p + i) ≡ Leaf g perm a d = leaf-here c.mid ram root f i (word_at ram f i) p undo spot' inside ∙ was in
    let others : (u : ℕ) → (u ≡ 512 * p + i → ⊥) → page_entry c.mid root u ≡ page_entry ram root u = λ u ne. leaf-others ram c.mid root f i 0 p put spot u ne in
    let pages : page_frames ram' root ≡ page_frames c.mid root =
    listed-same (λ v. frame_of (page_entry ram' root v)) (λ v. frame_of (page_entry c.mid root v)) (2 ^ 26)
    (λ k lt. ap frame_of (kept-pages c.mid ram' root after.tree after.kept k)) in
    let one : SameFrames (page_frames ram root) (g ∷ page_frames c.mid root) = record {
      each = λ x.
          listed-more (λ v. frame_of (page_entry c.mid root v)) (λ v. frame_of (page_entry ram root v)) (2 ^ 26) (512 * p + i) g (omega arith)
          (ap frame_of blank) (ap frame_of there) (λ k lt ne. ap frame_of (sym (others k ne))) x ∙ sym (copies-cons x g (page_frames c.mid root));
    } in
    record {
      freed = record {
        holds = after.holds;
        traded = after.traded;
        beside = record {
          uppers = λ q ne. kept-tables c.mid ram' root after.tree after.kept 1 q (omega arith) ∙ tables 1 q (omega arith);
          lowers = λ q ne. kept-tables c.mid ram' root after.tree after.kept 2 q (omega arith) ∙ tables 2 q (omega arith);
          pages = λ u ne. kept-pages c.mid ram' root after.tree after.kept u ∙ others u ne;
        };
        less = after.less;
      };
      gone = kept-pages c.mid ram' root after.tree after.kept (512 * p + i) ∙ blank;
      pages = omega (arith, length-same (page_frames ram root) (g ∷ page_frames c.mid root) one, ap length pages);
      image = λ u ne. kept-image c.mid ram' root after.tree after.kept u ∙ table-write-image ram c.mid root f 2 p h.tree put.stay (omega arith) found u (others u ne);
      lowers = λ q. kept-tables c.mid ram' root after.tree after.kept 2 q (omega arith) ∙ tables 2 q (omega arith);
    }

-- a table that leads nowhere goes
pub record TableGone (pool : Pool) (ram : List (List ℕ)) (pool' : Pool) (ram' : List (List ℕ)) (root l q : ℕ) : Type 0 where
  pub holds : Holds pool' ram' root
  pub traded : Traded pool ram pool' ram' (owned ram root) (owned ram' root)
  pub less : length (owned ram root) ≡ 1 + length (owned ram' root)
  pub gone : table_at ram' root (suc l) q ≡ None
  pub tables : (m p : ℕ) → m ≤ 2 → (m ≡ suc l → p ≡ q → ⊥) → table_at ram' root m p ≡ table_at ram root m p
  pub entries : (u : ℕ) → page_entry ram' root u ≡ page_entry ram root u
  pub image : (u : ℕ) → page_at ram' root u ≡ page_at ram root u

-- hung back, it would be as before
unhung : (ram mid : List (List ℕ)) (root f i g l p : ℕ) → IsTree ram root → WordWritten ram mid f i 0 → l < 2 → i < 512 → table_at ram root l p ≡ Some f → entry_at ram f i ≡ Table g
    → ((j : ℕ) → j < 512 → table_of (entry_at ram g j) ≡ None) → (l ≡ 1 → (j : ℕ) → j < 512 → entry_at ram g j ≡ Invalid) → g ≢ f → Hung mid ram root f i g l p
unhung ram mid root f i g l p tree put level inside found leads empty blank apart =
    let spot = spot-of ram root l p f tree (omega (arith, level)) found in
    let quotient : (512 * p + i) / 512 ≡ p = omega (arith, inside) in
    let remainder : (512 * p + i) % 512 ≡ i = omega (arith, inside) in
    let stay : (j : ℕ) → entry_at mid g j ≡ entry_at ram g j = λ j. entry-other ram mid f i 0 put g j (λ is e. apart is) in
    let found' : table_at mid root l p ≡ Some f = up-same level in
    record {
      w = word_at ram f i;
      put = back ram mid f i 0 put;
      entry = ap (λ n. entry_of n (word_at ram f i)) put.stay.count ∙ leads;
      spot = record { found = found'; only = λ m q le e. spot.only m q le (cleared-sub ram mid root f i put m q f e) };
      level = level;
      entry_in = inside;
      free = ap (λ t. below mid t ((512 * p + i) % 512)) (ap (table_at mid root l) quotient ∙ found')
          ∙ ap (λ j. table_of (entry_at mid f j)) remainder ∙ ap table_of (entry-here ram mid f i 0 put ∙ entry_of-zero (length ram));
      empty = λ j lt. ap table_of (stay j) ∙ empty j lt;
      blank = λ e j lt. stay j ∙ blank e j lt;
      apart = apart;
    }
  where
    up-same : l < 2 → table_at mid root l p ≡ Some f
    up-same lt = up ram mid root f i 0 l p put (spot-of ram root l p f tree (omega (arith, lt)) found) (omega (arith, lt)) l p (omega arith) ∙ found

pub table-gone : (pool pool' : Pool) (ram ram' : List (List ℕ)) (root f i g l p : ℕ) → Holds pool ram root → (c : Cleared pool ram pool' ram' f i g) → l < 2 → i < 512 → table_at ram root l p ≡ Some f
    → (root ≡ f → i < 256) → Hung c.mid ram root f i g l p → SameFrames (owned ram root) (g ∷ owned c.mid root) → TableGone pool ram pool' ram' root l (512 * p + i)
table-gone pool pool' ram ram' root f i g l p h c level inside found small hung more =
    let own = table-owned ram root l p f h.tree (omega (arith, level)) found in
    let half = half-written ram c.mid root f i 0 h.tree c.put small in
    let after = after-clear pool pool' ram ram' root f i g h c more half own in
    let pages : (u : ℕ) → page_entry c.mid root u ≡ page_entry ram root u = λ u. sym (hung-pages c.mid ram root f i g l p hung u) in
    record {
      holds = after.holds;
      traded = after.traded;
      less = after.less;
      gone = kept-tables c.mid ram' root after.tree after.kept (suc l) (512 * p + i) (omega (arith, level)) ∙ hung.free;
      tables = λ m q le away. kept-tables c.mid ram' root after.tree after.kept m q le ∙ sym (hung-others c.mid ram root f i g l p hung m q le away);
      entries = λ u. kept-pages c.mid ram' root after.tree after.kept u ∙ pages u;
      image = λ u. kept-image c.mid ram' root after.tree after.kept u ∙ table-write-image ram c.mid root f l p h.tree c.put.stay (omega (arith, level)) found u (pages u);
    }

apart-of : (ram : List (List ℕ)) (root f g l p m q : ℕ) → IsTree ram root → l ≤ 2 → m ≤ 2 → table_at ram root l p ≡ Some f → table_at ram root m q ≡ Some g → (m ≡ l → ⊥) → g ≢ f
apart-of ram root f g l p m q tree le me found leads ne is =
    ne ((spot-of ram root l p f tree le found).only m q me (leads ∙ ap Some is)).0

pub upper-gone : (pool pool' : Pool) (ram ram' : List (List ℕ)) (root i g : ℕ) → Holds pool ram root → Cleared pool ram pool' ram' root i g → i < 256
    → table_at ram root 1 i ≡ Some g → entry_at ram root i ≡ Table g
    → ((j : ℕ) → j < 512 → table_of (entry_at ram g j) ≡ None) → TableGone pool ram pool' ram' root 0 i
upper-gone pool pool' ram ram' root i g h c inside there leads empty =
    let hung = unhung ram c.mid root root i g 0 0 h.tree c.put (omega arith) (omega arith) refl leads empty (λ e. absurd (omega (arith, e)))
    (apart-of ram root root g 0 0 1 i h.tree (omega arith) (omega arith) refl there (λ e. omega (arith, e))) in
    let at : 512 * 0 + i ≡ i = omega arith in
    subst (λ q. TableGone pool ram pool' ram' root 0 q) at
    (table-gone pool pool' ram ram' root root i g 0 0 h c (omega arith) (omega arith) refl (λ same. inside) hung
    (hung-owned-upper c.mid ram root root i g hung inside))

pub lower-gone : (pool pool' : Pool) (ram ram' : List (List ℕ)) (root f i g p : ℕ) → Holds pool ram root → Cleared pool ram pool' ram' f i g
    → i < 512 → table_at ram root 1 p ≡ Some f → table_at ram root 2 (512 * p + i) ≡ Some g → entry_at ram f i ≡ Table g
    → ((j : ℕ) → j < 512 → entry_at ram g j ≡ Invalid) → TableGone pool ram pool' ram' root 1 (512 * p + i)
lower-gone pool pool' ram ram' root f i g p h c inside found there leads blank =
    let hung = unhung ram c.mid root f i g 1 p h.tree c.put (omega arith) inside found leads (λ j lt. ap table_of (blank j lt)) (λ e. blank)
    (apart-of ram root f g 1 p 2 (512 * p + i) h.tree (omega arith) (omega arith) found there (λ e. omega (arith, e))) in
    table-gone pool pool' ram ram' root f i g 1 p h c (omega arith) inside found
    (λ same. absurd (not-root ram root f 1 p h.tree (omega arith) (omega arith) found same)) hung
    (hung-owned-lower c.mid ram root f i g p hung (upper-place ram root p f h.tree found))

pub inside-of : (pool : Pool) (ram : List (List ℕ)) (root l p f : ℕ) → Holds pool ram root → l ≤ 2 → table_at ram root l p ≡ Some f → f < length ram
inside-of pool ram root l p f h le e = h.tree.once.inside f (table-owned ram root l p f h.tree le e)

pub taken-of : (pool : Pool) (ram : List (List ℕ)) (root l p f : ℕ) → Holds pool ram root → l ≤ 2 → table_at ram root l p ≡ Some f → copies f (free_in pool ram) ≡ 0
taken-of pool ram root l p f h le e = omega (arith, h.apart f, table-owned ram root l p f h.tree le e)

pub entry-page : (ram : List (List ℕ)) (root q g k : ℕ) → k < 512 → table_at ram root 2 q ≡ Some g → page_entry ram root (512 * q + k) ≡ entry_at ram g k
entry-page ram root q g k lt e =
    let quotient : (512 * q + k) / 512 ≡ q = omega arith in
    let remainder : (512 * q + k) % 512 ≡ k = omega arith in
    ap (λ t. last ram t ((512 * q + k) % 512)) (ap (table_at ram root 2) quotient ∙ e) ∙ ap (entry_at ram g) remainder

pub entry-lower : (ram : List (List ℕ)) (root q g k : ℕ) → k < 512 → table_at ram root 1 q ≡ Some g → table_at ram root 2 (512 * q + k) ≡ table_of (entry_at ram g k)
entry-lower ram root q g k lt e =
    let quotient : (512 * q + k) / 512 ≡ q = omega arith in
    let remainder : (512 * q + k) % 512 ≡ k = omega arith in
    ap (λ t. below ram t ((512 * q + k) % 512)) (ap (table_at ram root 1) quotient ∙ e) ∙ ap (λ j. table_of (entry_at ram g j)) remainder

pub table-is : (e : Entry) (g : ℕ) → table_of e ≡ Some g → e ≡ Table g
table-is Invalid g h = absurd (cc)
table-is (Table f) g h = let same : f ≡ g = cc in ap Table same
table-is (Leaf f p a d) g h = absurd (cc)

pub usual-blank : (e : Entry) → Usual e → frame_of e ≡ None → e ≡ Invalid
usual-blank Invalid u h = refl
usual-blank (Table f) u h = absurd u
usual-blank (Leaf f p a d) u h = absurd (cc)

pub freed-lower : (pool pool' : Pool) (ram ram' : List (List ℕ)) (root q v : ℕ) → TableGone pool ram pool' ram' root 1 q → q ≡ v / 512 → Freed pool ram pool' ram' root v 1
freed-lower pool pool' ram ram' root q v t at = record {
  holds = t.holds;
  traded = t.traded;
  beside = record {
    uppers = λ p ne. t.tables 1 p (omega arith) (λ e is. omega (arith, e));
    lowers = λ p ne. t.tables 2 p (omega arith) (λ e is. ne (is ∙ at));
    pages = λ u ne. t.entries u;
  };
  less = t.less;
}

pub freed-upper : (pool pool' : Pool) (ram ram' : List (List ℕ)) (root v : ℕ) → TableGone pool ram pool' ram' root 0 (v / 262144) → Freed pool ram pool' ram' root v 1
freed-upper pool pool' ram ram' root v t = record {
  holds = t.holds;
  traded = t.traded;
  beside = record {
    uppers = λ p ne. t.tables 1 p (omega arith) (λ e is. ne is);
    lowers = λ p ne. t.tables 2 p (omega arith) (λ e is. omega (arith, e));
    pages = λ u ne. t.entries u;
  };
  less = t.less;
}
