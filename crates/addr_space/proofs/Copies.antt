-- A space is copied page by page.
use Rattle.addr_space.proofs.Prelude.{[], ℕ, ◌%◌, ◌*◌, ◌+◌, ◌-◌, ◌/◌, ◌<◌, ◌^◌, ◌∙◌, ◌≡◌, ◌≤◌, ap, arith, Belongs, Bool, Changed, cond, copies, copies-nil, empty, Entry, FinMap, frame_at, frame_of}
use Rattle.addr_space.proofs.Prelude.{frames_of, free_in, gathered, gathered-get, get, get-insert, get_or-set_same, given, Image, image_of, insert, insert-twice, insert_some, Invalid, is_perm}
use Rattle.addr_space.proofs.Prelude.{IsSpace, Kept, kept-image, kept-owned, kept-pages, kept-tables, last, le-ltb, Leaf, leaf-perm, length, List, Made, nat_cmp, nat_cmp_total, no_pages, None, Once}
use Rattle.addr_space.proofs.Prelude.{Option, others_stay-set, OthersStay, owned, Page, page-owned, page_at, page_entry, page_of, pages_of, Pool, price, refl, Rights, set, Some, Space, subst, suc}
use Rattle.addr_space.proofs.Prelude.{sym, Table, table_at, tie-yes, trade-join, trade-lengths, true, Usual, with_page, word_at, zero, zero_frame, zeroed}
use Rattle.addr_space.proofs.Pages.{leaf-given, page-is, page-written}
use Rattle.addr_space.proofs.Steps.{gathered-same}
use Rattle.addr_space.proofs.Prices.{page-got, price-more, length-kinds}
use Rattle.addr_space.proofs.Growing.{cost}
use Rattle.addr_space.proofs.PriceTo.{cost-size}
use Rattle.addr_space.proofs.Trades.{belongs-after, free-after, space-price}
use Rattle.addr_space.proofs.Half.{half-kept}
use Rattle.addr_space.proofs.Freeing.{changed-none, changed-join, same-frames, page-none}

abbrev image_pages : Image → FinMap nat_cmp Page
image_pages i = i.pages

-- nothing between two places
pub gathered-skip : (f : ℕ → Option Page) (n k : ℕ) → ((u : ℕ) → n ≤ u → u < n + k → f u ≡ None) → gathered f (n + k) ≡ gathered f n
unfolding gathered
gathered-skip f n zero none = let e : n + 0 ≡ n = omega arith in ap (gathered f) e
gathered-skip f n (suc k) none =
    let e : n + suc k ≡ suc (n + k) = omega arith in
    ap (gathered f) e ∙ ap (insert_some (gathered f (n + k)) (n + k)) (none (n + k) (omega arith) (omega arith)) ∙ gathered-skip f n k (λ u ge lt. none u ge (omega (arith, lt)))

pub gathered-next : (f : ℕ → Option Page) (n : ℕ) (page : Page) → f n ≡ Some page → gathered f (n + 1) ≡ insert (gathered f n) n page
unfolding gathered
gathered-next f n page e = let s : n + 1 ≡ suc n = omega arith in ap (gathered f) s ∙ ap (insert_some (gathered f n) n) e

-- more pages never cost less
gathered-cost : (f : ℕ → Option Page) (n size : ℕ) → n < 67108864 → cost (gathered f n) size ≤ cost (gathered f (suc n)) size
unfolding gathered
gathered-cost f n size lt = by (f n) refl
  where
    by : (o : Option Page) → f n ≡ o → cost (gathered f n) size ≤ cost (insert_some (gathered f n) n (f n)) size
    by None e = omega (arith, ap (λ x. cost (insert_some (gathered f n) n x) size) e)
    by (Some p) e = omega (
      arith,
      ap (λ x. cost (insert_some (gathered f n) n x) size) e,
      price-more (gathered f n) size n p lt (gathered-get f n n ∙ ap (λ b. cond b (f n) None) (le-ltb n n (omega arith))),
    )

pub gathered-costs : (f : ℕ → Option Page) (n k size : ℕ) → n + k ≤ 67108864 → cost (gathered f n) size ≤ cost (gathered f (n + k)) size
gathered-costs f n zero size le = let e : n + 0 ≡ n = omega arith in omega (arith, ap (λ m. cost (gathered f m) size) e)
gathered-costs f n (suc k) size le =
    let e : n + suc k ≡ suc (n + k) = omega arith in
    omega (arith, ap (λ m. cost (gathered f m) size) e, gathered-costs f n k size (omega arith), gathered-cost f (n + k) size (omega arith))

-- what a copy has done when it comes to page `from`
pub record Copied (pool0 : Pool) (ram0 : List (List ℕ)) (child0 : Space) (self : Space) (from : ℕ) (pool : Pool) (ram : List (List ℕ)) (child : Space) : Type 0 where
  pub inside : from ≤ 67108864
  pub belongs : Belongs pool ram child
  pub changed : Changed pool0 ram0 child0 pool ram child
  pub whole : IsSpace ram self
  pub apart : (f : ℕ) → 1 ≤ copies f (frames_of ram self) → copies f (free_in pool ram) + copies f (frames_of ram child) ≡ 0
  pub same : (v : ℕ) → page_at ram self.root v ≡ page_at ram0 self.root v
  pub pages : pages_of ram child.root ≡ gathered (page_at ram0 self.root) from
  pub room : price (image_of ram0 self) ≤ price (image_of ram child) + length (free_in pool ram)

-- a space whose frames keep their bytes stays one
pub space-kept : (ram ram' : List (List ℕ)) (space : Space) → IsSpace ram space → Kept ram ram' space.root → IsSpace ram' space
space-kept ram ram' space is kept =
    let root = space.root in
    let tables = kept-tables ram ram' root is.tree kept in
    let entries = kept-pages ram ram' root is.tree kept in
    let own = kept-owned ram ram' root is.tree kept in
    let frames = same-frames ram ram' root entries in
    record {
      tree = record { once = subst (λ n. Once n (owned ram' root)) (sym kept.count) (subst (λ xs. Once (length ram) xs) (sym own) is.tree.once); lower_half = half-kept ram ram' root is.tree kept };
      full = record {
        uppers = λ p f e. let r = is.full.uppers p f (sym (tables 1 p (omega arith)) ∙ e) in (r.0, r.1, r.2, tables 2 (512 * p + r.0) (omega arith) ∙ r.3);
        lowers = λ p f e. let r = is.full.lowers p f (sym (tables 2 p (omega arith)) ∙ e) in (r.0, r.1, r.2, ap frame_of (entries (512 * p + r.0)) ∙ r.3);
      };
      leaves = λ u. subst (λ e. Usual e) (sym (entries u)) (is.leaves u);
      ends = λ u ge lt. ap frame_of (entries u) ∙ is.ends u ge lt;
      size = is.size;
      pages = is.pages ∙ sym (ap length frames);
      tables = omega (arith, is.tables, length-kinds ram root, length-kinds ram' root, ap length own, ap length frames);
    }

page-some : (ram : List (List ℕ)) (e : Entry) (f : ℕ) → frame_of e ≡ Some f → (page : Page) × (page_of ram e ≡ Some page)
page-some ram Invalid f h = absurd (cc)
page-some ram (Table g) f h = absurd (cc)
page-some ram (Leaf g p a d) f h = (record { perm = given p a d; bytes = frame_at ram g }, refl)

pub copied-step : (pool0 pool1 pool2 : Pool) (ram0 ram1 ram2 : List (List ℕ)) (child0 self child1 child2 : Space) (from v f : ℕ)
    → Copied pool0 ram0 child0 self from pool1 ram1 child1 → Changed pool1 ram1 child1 pool2 ram2 child2
    → ((page : Page) → page_at ram1 self.root v ≡ Some page → image_of ram2 child2 ≡ with_page (image_of ram1 child1) v page) → from ≤ v
    → v < 67108864 → frame_of (page_entry ram1 self.root v) ≡ Some f
    → ((u : ℕ) → from ≤ u → u < v → frame_of (page_entry ram1 self.root u) ≡ None) → Copied pool0 ram0 child0 self (v + 1) pool2 ram2 child2
copied-step pool0 pool1 pool2 ram0 ram1 ram2 child0 self child1 child2 from v f so c image ge small there none =
    let kept : Kept ram1 ram2 self.root = record { count = c.traded.count; bytes = λ x own. c.traded.others x (omega (arith, so.apart x own)) (omega (arith, so.apart x own)) } in
    let own = kept-owned ram1 ram2 self.root so.whole.tree kept in
    let page = page-some ram1 (page_entry ram1 self.root v) f there in
    let k : from + (v - from) ≡ v = omega arith in
    let skip : gathered (page_at ram0 self.root) v ≡ gathered (page_at ram0 self.root) from =
    sym (ap (gathered (page_at ram0 self.root)) k) ∙ gathered-skip (page_at ram0 self.root) from (v - from)
    (λ u gu lu. sym (so.same u) ∙ page-none ram1 (page_entry ram1 self.root u) (none u gu (omega (arith, lu, ge)))) in
    record {
      inside = omega arith;
      belongs = belongs-after pool1 pool2 ram1 ram2 child1 child2 so.belongs c;
      changed = changed-join pool0 pool1 pool2 ram0 ram1 ram2 child0 child1 child2 so.changed c;
      whole = space-kept ram1 ram2 self so.whole kept;
      apart = λ x mine. omega (arith, c.traded.frames x, so.apart x (omega (arith, mine, ap (copies x) own)));
      same = λ u. kept-image ram1 ram2 self.root so.whole.tree kept u ∙ so.same u;
      pages = ap image_pages (image page.0 page.1) ∙ ap (λ m. insert m v page.0) (so.pages ∙ sym skip) ∙ sym (gathered-next (page_at ram0 self.root) v page.0 (sym (so.same v) ∙ page.1));
      room = omega (arith, so.room, free-after pool1 pool2 ram1 ram2 child1 child2 so.belongs c);
    }

-- the pages are the same where each is
pub same-price : (ram ram' : List (List ℕ)) (space : Space) → ((v : ℕ) → page_at ram' space.root v ≡ page_at ram space.root v) → pages_of ram' space.root ≡ pages_of ram space.root
unfolding pages_of
same-price ram ram' space same = gathered-same (page_at ram space.root) (page_at ram' space.root) (2 ^ 26) same

gathered-zero : (f : ℕ → Option Page) → gathered f 0 ≡ empty
unfolding gathered
gathered-zero f = refl

-- the start: an empty child
pub copied-none : (pool pool0 : Pool) (ram ram0 : List (List ℕ)) (self child : Space) → Belongs pool ram self → Made pool ram pool0 ram0 child
    → image_of ram0 child ≡ no_pages → price (image_of ram self) ≤ length (free_in pool ram)
    → Copied pool0 ram0 child self 0 pool0 ram0 child × ((v : ℕ) → page_at ram0 self.root v ≡ page_at ram self.root v)
copied-none pool pool0 ram ram0 self child b made image room =
    let kept : Kept ram ram0 self.root = record { count = made.traded.count; bytes = λ x own. made.traded.others x (omega (arith, b.apart x, own)) (copies-nil x) } in
    let own = kept-owned ram ram0 self.root b.whole.tree kept in
    let same = kept-image ram ram0 self.root b.whole.tree kept in
    let child_b : Belongs pool0 ram0 child = record { good = made.traded.good; whole = made.whole; apart = λ x. omega (arith, made.traded.frames x, copies-nil x, b.apart x) } in (
      record {
        inside = omega arith;
        belongs = child_b;
        changed = changed-none pool0 ram0 child child_b;
        whole = space-kept ram ram0 self b.whole kept;
        apart = λ x mine. omega (arith, made.traded.frames x, copies-nil x, b.apart x, mine, ap (copies x) own);
        same = λ v. refl;
        pages = ap image_pages image ∙ sym (gathered-zero (page_at ram0 self.root));
        room = omega (
          arith,
          room,
          space-price ram0 child made.whole,
          trade-lengths pool pool0 ram ram0 [] (frames_of ram0 child) made.traded,
          ap (λ m. cost m self.size) (same-price ram ram0 self same),
        );
      },
      same,
    )

-- the end: all pages are there
pub copied-all : (pool pool0 pool1 : Pool) (ram ram0 ram1 : List (List ℕ)) (self child0 child : Space) (from : ℕ) → Made pool ram pool0 ram0 child0
    → ((v : ℕ) → page_at ram0 self.root v ≡ page_at ram self.root v) → Copied pool0 ram0 child0 self from pool1 ram1 child
    → ((u : ℕ) → from ≤ u → u < 67108864 → frame_of (page_entry ram1 self.root u) ≡ None)
    → Made pool ram pool1 ram1 (record { root = child.root; size = self.size; pages = child.pages; tables = child.tables; end = child.end })
    × (image_of ram1 (record { root = child.root; size = self.size; pages = child.pages; tables = child.tables; end = child.end }) ≡ image_of ram self)
unfolding pages_of
copied-all pool pool0 pool1 ram ram0 ram1 self child0 child from made same so none =
    let w = so.changed.whole in
    let k : from + (67108864 - from) ≡ 67108864 = omega (arith, so.inside) in
    let all : gathered (page_at ram0 self.root) (2 ^ 26) ≡ gathered (page_at ram0 self.root) from =
    sym (ap (gathered (page_at ram0 self.root)) k) ∙ gathered-skip (page_at ram0 self.root) from (67108864 - from)
    (λ u gu lu. sym (so.same u) ∙ page-none ram1 (page_entry ram1 self.root u) (none u gu (omega (arith, lu, so.inside)))) in (
      record {
        whole = record { tree = w.tree; full = w.full; leaves = w.leaves; pages = w.pages; tables = w.tables; ends = w.ends; size = so.whole.size };
        traded = trade-join pool pool0 pool1 ram ram0 ram1 [] (frames_of ram0 child0) (frames_of ram1 child) made.traded so.changed.traded;
      },
      ap (λ m. record { pages = m; size = self.size }) (so.pages ∙ sym all ∙ gathered-same (page_at ram self.root) (page_at ram0 self.root) (2 ^ 26) same),
    )

-- there is room for the next page
pub room-for : (pool0 pool : Pool) (ram0 ram : List (List ℕ)) (child0 self child : Space) (from v f : ℕ) (page : Page)
    → Copied pool0 ram0 child0 self from pool ram child → from ≤ v → v < 67108864 → frame_of (page_entry ram self.root v) ≡ Some f
    → ((u : ℕ) → from ≤ u → u < v → frame_of (page_entry ram self.root u) ≡ None) → price (with_page (image_of ram child) v page) ≤ price (image_of ram child) + length (free_in pool ram)
unfolding pages_of
room-for pool0 pool ram0 ram child0 self child from v f page so ge small there none =
    let k : from + (v - from) ≡ v = omega arith in
    let skip : gathered (page_at ram0 self.root) v ≡ gathered (page_at ram0 self.root) from =
    sym (ap (gathered (page_at ram0 self.root)) k) ∙ gathered-skip (page_at ram0 self.root) from (v - from)
    (λ u gu lu. sym (so.same u) ∙ page-none ram (page_entry ram self.root u) (none u gu (omega (arith, lu, ge)))) in
    let is : pages_of ram child.root ≡ gathered (page_at ram0 self.root) v = so.pages ∙ sym skip in
    let gone : get (gathered (page_at ram0 self.root) v) v ≡ None = gathered-get (page_at ram0 self.root) v v ∙ ap (λ b. cond b (page_at ram0 self.root v) None) (le-ltb v v (omega arith)) in
    let there' = page-some ram (page_entry ram self.root v) f there in
    let mine = price-more (gathered (page_at ram0 self.root) v) child.size v page small gone in
    let its = price-more (gathered (page_at ram0 self.root) v) child.size v there'.0 small gone in
    let next = gathered-next (page_at ram0 self.root) v there'.0 (sym (so.same v) ∙ there'.1) in
    let total : v + 1 + (67108864 - (v + 1)) ≡ 67108864 = omega arith in
    let more = gathered-costs (page_at ram0 self.root) (v + 1) (67108864 - (v + 1)) child.size (omega arith) in
    omega (
      arith,
      so.room,
      mine,
      its,
      more,
      ap (λ m. cost (gathered (page_at ram0 self.root) m) child.size) total,
      ap (λ m. cost m child.size) next,
      ap (λ m. cost (insert m v page) child.size) is,
      cost-size (gathered (page_at ram0 self.root) 67108864) child.size self.size,
    )

-- the page that came
pub came-page : (ram ram' : List (List ℕ)) (child child' : Space) (v : ℕ) (page : Page)
    → image_of ram' child' ≡ with_page (image_of ram child) v page → v < 67108864 → page_at ram' child'.root v ≡ Some page
came-page ram ram' child child' v page e small =
    sym (page-got ram' child'.root v small) ∙ ap (λ i. get (image_pages i) v) e ∙ get-insert nat_cmp_total (pages_of ram child.root) v page v
    ∙ ap (λ b. cond b (Some page) (get (pages_of ram child.root) v)) (tie-yes v v refl)

pub no-leaf : (ram : List (List ℕ)) (e : Entry) (page : Page) → page_of ram e ≡ Some page → ((f : ℕ) (p : Rights) (a d : Bool) → e ≡ Leaf f p a d → ⊥) → ⊥
no-leaf ram Invalid page h never = absurd (cc)
no-leaf ram (Table f) page h never = absurd (cc)
no-leaf ram (Leaf f p a d) page h never = never f p a d refl

-- a page of the map is the one that a walk reaches
pub there-at : (ram : List (List ℕ)) (root v n : ℕ) (page : Page) → v < 67108864 → n ≡ v → get (pages_of ram root) v ≡ Some page → page_at ram root n ≡ Some page
there-at ram root v n page small e there = ap (page_at ram root) e ∙ sym (page-got ram root v small) ∙ there

perm_or : Rights → Option Page → Rights
perm_or p None = p
perm_or p (Some page) = page.perm

pub perm-is : (ram : List (List ℕ)) (f : ℕ) (p q : Rights) (a d : Bool) (bytes : List ℕ) → page_of ram (Leaf f p a d) ≡ Some (record { perm = q; bytes = bytes }) → given p a d ≡ q
unfolding perm_or
perm-is ram f p q a d bytes e = ap (perm_or p) e

pub set-stays : (ram ram' : List (List ℕ)) (f : ℕ) (bytes : List ℕ) → ram' ≡ set ram f bytes → OthersStay ram ram' f
set-stays ram ram' f bytes e = subst (λ r. OthersStay ram r f) (sym e) (others_stay-set ram f bytes)

pub set-here : (ram ram' : List (List ℕ)) (f : ℕ) (bytes : List ℕ) → ram' ≡ set ram f bytes → f < length ram → frame_at ram' f ≡ bytes
set-here ram ram' f bytes e inside = ap (λ r. frame_at r f) e ∙ get_or-set_same ram f bytes [] inside

-- a page is mapped, and then its bytes are copied
pub page-copied : (pool pool1 : Pool) (ram ram1 ram2 : List (List ℕ)) (self child child1 : Space) (v source target : ℕ) (perm p : Rights) (a d a' d' : Bool) → IsSpace ram self → Belongs pool ram child
    → ((f : ℕ) → 1 ≤ copies f (frames_of ram self) → copies f (free_in pool ram) + copies f (frames_of ram child) ≡ 0) → v < 67108864 → page_entry ram self.root v ≡ Leaf source perm a d
    → Changed pool ram child pool1 ram1 child1 → image_of ram1 child1 ≡ with_page (image_of ram child) v (zeroed perm)
    → page_entry ram1 child1.root v ≡ Leaf target p a' d' → ram2 ≡ set ram1 target (frame_at ram1 source)
    → Changed pool ram child pool1 ram2 child1 × ((page : Page) → page_at ram self.root v ≡ Some page → image_of ram2 child1 ≡ with_page (image_of ram child) v page)
page-copied pool pool1 ram ram1 ram2 self child child1 v source target perm p a d a' d' is b apart small leaf c image leaf1 e =
    let b1 = belongs-after pool pool1 ram ram1 child child1 b c in
    let inside : target < length ram1 = b1.whole.tree.once.inside target (page-owned ram1 child1.root v target b1.whole.tree (ap frame_of leaf1)) in
    let own : 1 ≤ copies source (frames_of ram self) = page-owned ram self.root v source is.tree (ap frame_of leaf) in
    let bytes : frame_at ram1 source ≡ frame_at ram source = c.traded.others source (omega (arith, apart source own)) (omega (arith, apart source own)) in
    let w = page-written pool1 ram1 ram2 child1 v target p a' d' b1 leaf1 (set-stays ram1 ram2 target (frame_at ram1 source) e) in
    let same : p ≡ perm = sym (leaf-given ram1 child1 v target p a' d' b1.whole leaf1)
    ∙ perm-is ram1 target p perm a' d' zero_frame (sym (ap (page_of ram1) leaf1) ∙ came-page ram ram1 child child1 v (zeroed perm) image small) in
    let new : frame_at ram2 target ≡ frame_at ram source = set-here ram1 ram2 target (frame_at ram1 source) e inside ∙ bytes in (
      changed-join pool pool1 pool1 ram ram1 ram2 child child1 child1 c w.changed,
      λ page there.
          let is_page : Some page ≡ Some (record { perm = perm; bytes = frame_at ram source }) = sym there ∙ page-is ram self v source perm a d is leaf in
          let page_is : record { perm = p; bytes = frame_at ram2 target } ≡ page = ap (λ q. record { perm = q; bytes = frame_at ram2 target }) same
          ∙ ap (λ x. record { perm = perm; bytes = x }) new ∙ (cc) in
          w.image ∙ ap (λ i. with_page i v (record { perm = p; bytes = frame_at ram2 target })) image
          ∙ ap (λ m. record { pages = m; size = child.size }) (insert-twice (pages_of ram child.root) v (zeroed perm) (record { perm = p; bytes = frame_at ram2 target }))
          ∙ ap (λ x. with_page (image_of ram child) v x) page_is,
    )

pub leaf-allowed : (ram : List (List ℕ)) (root v f : ℕ) (p : Rights) (a d : Bool) → page_entry ram root v ≡ Leaf f p a d → is_perm p ≡ true
leaf-allowed ram root v f p a d e = by (table_at ram root 2 (v / 512)) e
  where
    by : (t : Option ℕ) → last ram t (v % 512) ≡ Leaf f p a d → is_perm p ≡ true
    by None h = absurd (cc)
    by (Some g) h = leaf-perm (length ram) (word_at ram g (v % 512)) f p a d h
