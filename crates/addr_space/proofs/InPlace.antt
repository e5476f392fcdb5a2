-- Bytes of a space's pages are written.
use Rattle.addr_space.proofs.Prelude.{ℕ, ◌%◌, ◌*◌, ◌+◌, ◌/◌, ◌<◌, ◌^◌, ◌∙◌, ◌≡◌, allowed, ap, arith, Bool, cases_lt, cond, copies, frame_of, gathered-get, HasPage, image_of, inl, inr, is_canonical}
use Rattle.addr_space.proofs.Prelude.{IsSpace, le-ltb, Leaf, length, List, None, Once, OthersStay, owned, page-owned, page_at, page_entry, pages_of, refl, Rights, Some, Space, subst, sym, Usual}
use Rattle.addr_space.proofs.Prelude.{walked, WrittenInPlace}
use Rattle.addr_space.proofs.Half.{half-still}
use Rattle.addr_space.proofs.Prices.{length-kinds}
use Rattle.addr_space.proofs.Pages.{SameTables, still-tables, still-entries, same-owned, same-pages, kept-but}

-- where the tables stay, a space is still one
space-same : (ram ram' : List (List ℕ)) (space : Space) → IsSpace ram space → SameTables ram ram' space.root → IsSpace ram' space
space-same ram ram' space is s =
    let root = space.root in
    let same = same-owned ram ram' root s in
    record {
      tree = record {
        once = subst (λ n. Once n (owned ram' root)) (sym s.count) (subst (λ xs. Once (length ram) xs) (sym same) is.tree.once);
        lower_half = s.half;
      };
      full = record {
        uppers = λ p f e. let r = is.full.uppers p f (sym (s.tables 1 p (omega arith)) ∙ e) in (r.0, r.1, r.2, s.tables 2 (512 * p + r.0) (omega arith) ∙ r.3);
        lowers = λ p f e. let r = is.full.lowers p f (sym (s.tables 2 p (omega arith)) ∙ e) in (r.0, r.1, r.2, s.frames (512 * p + r.0) ∙ r.3);
      };
      leaves = s.usual;
      ends = λ v ge lt. s.frames v ∙ is.ends v ge lt;
      size = is.size;
      pages = is.pages ∙ sym (ap length (same-pages ram ram' root s));
      tables = omega (arith, is.tables, length-kinds ram root, length-kinds ram' root, ap length same, ap length (same-pages ram ram' root s));
    }

-- one page's frame is written
pub written-in-place : (ram ram' : List (List ℕ)) (space : Space) (v g : ℕ) (perm : Rights) (a d : Bool) → IsSpace ram space
    → page_entry ram space.root v ≡ Leaf g perm a d → OthersStay ram ram' g → WrittenInPlace ram ram' space
unfolding walked
written-in-place ram ram' space v g perm a d is leaf stay =
    let root = space.root in
    let kept = kept-but ram ram' root v g perm a d is.tree leaf stay in
    let entries = still-entries ram ram' root stay.count kept in
    let same : SameTables ram ram' root = record {
      tables = still-tables ram ram' root stay.count kept;
      frames = λ u. ap frame_of (entries u);
      usual = λ u. subst (λ e. Usual e) (sym (entries u)) (is.leaves u);
      count = stay.count;
      half = half-still ram ram' root is.tree (kept 0 0 root (omega arith) refl);
    } in
    let own = page-owned ram root v g is.tree (ap frame_of leaf) in
    record {
      whole = space-same ram ram' space is same;
      frames = same-owned ram ram' root same;
      walks = λ va access. ap (λ e. cond (is_canonical va) (allowed access e (va % 2 ^ 12)) None) (entries (va / 2 ^ 12 % 2 ^ 27));
      count = stay.count;
      others = λ f ox. stay.others f (λ e. omega (arith, own, ox, ap (λ y. copies y (owned ram root)) e));
    }

-- nothing is written
pub in_place-none : (ram : List (List ℕ)) (space : Space) → IsSpace ram space → WrittenInPlace ram ram space
in_place-none ram space is = record { whole = is; frames = refl; walks = λ va access. refl; count = refl; others = λ f x. refl }

-- one write behind another
pub in_place-join : (ram0 ram1 ram2 : List (List ℕ)) (space : Space) → WrittenInPlace ram0 ram1 space → WrittenInPlace ram1 ram2 space → WrittenInPlace ram0 ram2 space
in_place-join ram0 ram1 ram2 space a b = record {
  whole = b.whole;
  frames = b.frames ∙ a.frames;
  walks = λ va access. b.walks va access ∙ a.walks va access;
  count = b.count ∙ a.count;
  others = λ f x. b.others f (ap (copies f) a.frames ∙ x) ∙ a.others f x;
}

-- a page that is there has a number below 2^26
pub page-small : (ram : List (List ℕ)) (space : Space) (v : ℕ) → HasPage (image_of ram space) v → v < 67108864
unfolding pages_of
page-small ram space v (page, there) = elim (cases_lt v 67108864) [
  | inl lt ↦ lt
  | inr ge ↦ none (sym there ∙ gathered-get (page_at ram space.root) (2 ^ 26) v ∙ ap (λ b. cond b (page_at ram space.root v) None) (le-ltb v 67108864 ge))
]
  where
    none : Some page ≡ None → v < 67108864
    none e = absurd (cc)
