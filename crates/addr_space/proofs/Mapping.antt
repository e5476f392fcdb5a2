-- A space with a page more.
use Rattle.addr_space.proofs.Prelude.{ℕ, ◌+◌, ◌-◌, ◌<◌, ◌∙◌, ◌≡◌, ◌≤◌, ap, arith, Beside, Changed, frame_of, get, image_of, IsSpace, Leaf, length, List, max, None, Page, page_at, page_entry}
use Rattle.addr_space.proofs.Prelude.{PageAdded, pages_of, Pool, price, refl, Rights, rise, Space, subst, sym, true, Usual, with_page, zeroed}
use Rattle.addr_space.proofs.Prices.{page-got, price-rise, pages-more, length-owned, length-kinds}
use Rattle.addr_space.proofs.Paths.{full-after, leaves-after}
use Rattle.addr_space.proofs.Trades.{trade-added, space-counts, few}

-- a page that the map doesn't have, no walk reaches
pub absent-at : (ram : List (List ℕ)) (root v : ℕ) → v < 67108864 → get (pages_of ram root) v ≡ None → page_at ram root v ≡ None
absent-at ram root v small none = sym (page-got ram root v small) ∙ none

-- the same space with other counts
abbrev pub counted : Space → ℕ → ℕ → Space
counted space pages tables = record { root = space.root; size = space.size; pages = pages; tables = tables; end = space.end }

-- a space with a page more
abbrev pub with_more : Space → (tables end : ℕ) → Space
with_more space tables end = record { root = space.root; size = space.size; pages = space.pages + 1; tables = tables; end = end }

rise-some : (ram : List (List ℕ)) (root v : ℕ) → 1 ≤ rise ram root v
unfolding rise
rise-some ram root v = omega arith

pub needs-some : (ram : List (List ℕ)) (root v need : ℕ) → need ≡ rise ram root v → 1 ≤ need
needs-some ram root v need e = omega (arith, e, rise-some ram root v)

-- what a page more costs a space
pub costs : (ram : List (List ℕ)) (space : Space) (v need : ℕ) (page : Page) → IsSpace ram space → v < 67108864 → page_at ram space.root v ≡ None → need ≡ rise ram space.root v
    → price (with_page (image_of ram space) v page) ≡ price (image_of ram space) + need
costs ram space v need page is small none e = omega (arith, price-rise ram space.root space.size v page is.tree is.full small none, e)

pub mapped : (pool pool' : Pool) (ram ram' : List (List ℕ)) (space : Space) (v g need end : ℕ) (perm : Rights) → IsSpace ram space → v < 67108864
    → page_at ram space.root v ≡ None → need ≡ rise ram space.root v → end ≡ max space.end (v + 1)
    → PageAdded pool ram pool' ram' space.root v perm → Beside ram ram' space.root v → page_entry ram' space.root v ≡ Leaf g perm true true
    → Changed pool ram space pool' ram' (with_more space (space.tables + (need - 1)) end)
mapped pool pool' ram ram' space v g need end perm is small none e more_end added beside there =
    let full = full-after ram ram' space.root v g is.full beside (ap frame_of there) in
    let more = pages-more ram ram' space.root v (zeroed perm) small none added.pages in
    let old = space-counts ram space is in
    let new = length-owned ram' space.root space.size added.holds.tree full in
    let cost : price (with_page (image_of ram space) v (zeroed perm)) ≡ price (image_of ram space) + need = costs ram space v need (zeroed perm) is small none e in
    let same : price (record { pages = pages_of ram' space.root; size = space.size }) ≡ price (with_page (image_of ram space) v (zeroed perm)) =
    ap (λ m. price (record { pages = m; size = space.size })) added.pages in
    record {
      whole = record {
        tree = added.holds.tree;
        full = full;
        leaves = leaves-after ram ram' space.root v is.leaves beside (subst (λ e. Usual e) (sym there) (refl, refl));
        ends = λ u ge lt. ap frame_of (beside.pages u (λ e. omega (arith, e, ge, more_end))) ∙ is.ends u (omega (arith, ge, more_end)) lt;
        size = is.size;
        pages = omega (arith, more, is.pages);
        tables = omega (arith, more, is.pages, old, new, cost, same, length-kinds ram' space.root, needs-some ram space.root v need e);
      };
      root = refl;
      traded = trade-added pool pool' ram ram' space.root v perm added;
    }

pub image-more : (pool pool' : Pool) (ram ram' : List (List ℕ)) (space : Space) (v pages tables : ℕ) (perm : Rights)
    → PageAdded pool ram pool' ram' space.root v perm → image_of ram' (counted space pages tables) ≡ with_page (image_of ram space) v (zeroed perm)
image-more pool pool' ram ram' space v pages tables perm added = ap (λ m. record { pages = m; size = space.size }) added.pages

-- the counts are small
pub small-counts : (ram : List (List ℕ)) (space : Space) → IsSpace ram space → space.tables + space.pages ≤ length ram
small-counts ram space is = omega (arith, few ram space.root is.tree, length-kinds ram space.root, is.pages, is.tables)
