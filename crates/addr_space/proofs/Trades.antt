-- Frames that go between the pool and a holder.
use Rattle.addr_space.proofs.Prelude.{ℕ, ◌+◌, ◌<◌, ◌^◌, ◌∙◌, ◌≡◌, ◌≢◌, ◌≤◌, arith, at-other, Belongs, cases_lt, Changed, copies, copies-nil, copies-one, frame_at, frame_of, frames_of, free_in, Given}
use Rattle.addr_space.proofs.Prelude.{Good, image_of, inl, inr, IsSpace, IsTree, length, length-once, List, listed, lowers, Made, min, None, Option, owned, page_entry, page_frames, PageAdded, Pool}
use Rattle.addr_space.proofs.Prelude.{price, push_some, Rights, Some, Space, suc, sym, table_at, trade-lengths, Traded, uppers, zero}
use Rattle.xk_base.specs.declared.limits.TheConstants.{SIZE_LIMIT}
use Rattle.addr_space.proofs.Prices.{length-owned, length-kinds}

pub trade-added : (pool pool' : Pool) (ram ram' : List (List ℕ)) (root v : ℕ) (perm : Rights) → PageAdded pool ram pool' ram' root v perm
    → Traded pool ram pool' ram' (owned ram root) (owned ram' root)
trade-added pool pool' ram ram' root v perm a = record { good = a.holds.good; count = a.count; frames = a.frames; others = a.others }

-- another frame than the one given back keeps its bytes
pub given-others : (pool pool' : Pool) (ram ram' : List (List ℕ)) (f : ℕ) → Given pool ram pool' ram' f → (g : ℕ) → g ≢ f → copies g (free_in pool ram) ≡ 0 → frame_at ram' g ≡ frame_at ram g
given-others pool pool' ram ram' f given g ne free = given.others g free (copies-one g f ∙ at-other g f ne)

pub space-price : (ram : List (List ℕ)) (space : Space) → IsSpace ram space → price (image_of ram space) ≡ length (frames_of ram space)
space-price ram space is = sym (length-owned ram space.root space.size is.tree is.full)

pub space-counts : (ram : List (List ℕ)) (space : Space) → IsSpace ram space → price (image_of ram space) ≡ space.tables + space.pages
space-counts ram space is = omega (arith, space-price ram space is, length-kinds ram space.root, is.pages, is.tables)

-- the price and the free frames
pub free-after : (pool pool' : Pool) (ram ram' : List (List ℕ)) (space space' : Space) → Belongs pool ram space
    → Changed pool ram space pool' ram' space' → length (free_in pool' ram') + price (image_of ram' space') ≡ length (free_in pool ram) + price
    (image_of ram space)
free-after pool pool' ram ram' space space' b c =
    omega (arith, trade-lengths pool pool' ram ram' (frames_of ram space) (frames_of ram' space') c.traded, space-price ram space b.whole, space-price ram' space' c.whole)

pub belongs-after : (pool pool' : Pool) (ram ram' : List (List ℕ)) (space space' : Space) → Belongs pool ram space → Changed pool ram space pool' ram' space' → Belongs pool' ram' space'
belongs-after pool pool' ram ram' space space' b c = record { good = c.traded.good; whole = c.whole; apart = λ f. omega (arith, c.traded.frames f, b.apart f) }

-- a new space belongs to the pool that it came from
pub belongs-made : (pool pool' : Pool) (ram ram' : List (List ℕ)) (space : Space) → Good pool ram → Made pool ram pool' ram' space → Belongs pool' ram' space
belongs-made pool pool' ram ram' space good made = record { good = made.traded.good; whole = made.whole; apart = λ f. omega (arith, made.traded.frames f, copies-nil f, good.frames.once f) }

pub few : (ram : List (List ℕ)) (root : ℕ) → IsTree ram root → length (owned ram root) ≤ length ram
few ram root tree = length-once (length ram) (owned ram root) tree.once

-- another size within the limit plays no part
pub belongs-resized : (pool : Pool) (ram : List (List ℕ)) (space : Space) (size : ℕ) → size ≤ SIZE_LIMIT → Belongs pool ram space → Belongs pool ram (record space { size = size })
belongs-resized pool ram space size limit b = record {
  good = b.good;
  whole = record { tree = b.whole.tree; full = b.whole.full; leaves = b.whole.leaves; pages = b.whole.pages; tables = b.whole.tables; ends = b.whole.ends; size = limit };
  apart = b.apart;
}

-- a space without pages from a number on may end there
pub belongs-ended : (pool : Pool) (ram : List (List ℕ)) (space : Space) (first size end : ℕ) → end ≡ min space.end first → size ≤ SIZE_LIMIT
    → Belongs pool ram space → ((u : ℕ) → first ≤ u → u < 67108864 → frame_of (page_entry ram space.root u) ≡ None)
    → Belongs pool ram (record space { size = size; end = end })
belongs-ended pool ram space first size end less limit b none = record {
  good = b.good;
  whole = record {
    tree = b.whole.tree;
    full = b.whole.full;
    leaves = b.whole.leaves;
    pages = b.whole.pages;
    tables = b.whole.tables;
    ends = λ v ge lt. elim (cases_lt v first) [ inl below ↦ b.whole.ends v (omega (arith, ge, below, less)) lt | inr above ↦ none v above lt ];
    size = limit;
  };
  apart = b.apart;
}

-- whatever RAM is, a tree has room for so many frames
listed-few : (f : ℕ → Option ℕ) (n : ℕ) → length (listed f n) ≤ n
unfolding listed
listed-few f zero = omega arith
listed-few f (suc n) = one (f n) (listed f n) (listed-few f n)
  where
    one : (o : Option ℕ) (xs : List ℕ) → length xs ≤ n → length (push_some o xs) ≤ suc n
    one None xs le = omega (arith, le)
    one (Some x) xs le = omega (arith, le)

pub counts-few : (ram : List (List ℕ)) (space : Space) → IsSpace ram space → space.tables + space.pages ≤ 2 ^ 27
unfolding uppers lowers page_frames
counts-few ram space is =
    let high = listed-few (table_at ram space.root 1) 256 in
    let low = listed-few (table_at ram space.root 2) (2 ^ 17) in
    let leaves = listed-few (λ v. frame_of (page_entry ram space.root v)) (2 ^ 26) in
    omega (arith, is.pages, is.tables, high, low, leaves)
