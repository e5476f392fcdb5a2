-- A change of one space leaves every other as it was.
use Rattle.addr_space.proofs.Prelude.{[], ℕ, ◌+◌, ◌<◌, ◌≤◌, ◌⊎◌, ap, arith, Belongs, cases_lt, copies, copies-nil, frames_of, free_in, Good, inl, inr, Isolation, IsSpace, IsStranger, Kept, kept-image}
use Rattle.addr_space.proofs.Prelude.{kept-owned, kept-pages, List, Pool, Space, Spared, Traded}
use Rattle.addr_space.proofs.Copies.{space-kept, same-price}
use Rattle.addr_space.proofs.Translations.{walks-same}

-- a space whose frames keep their bytes is as it was
pub frames-kept : (ram ram' : List (List ℕ)) (space : Space) → IsSpace ram space → Kept ram ram' space.root → Spared ram ram' space
frames-kept ram ram' space is kept = record {
  whole = space-kept ram ram' space is kept;
  image = ap (λ m. record { pages = m; size = space.size }) (same-price ram ram' space (kept-image ram ram' space.root is.tree kept));
  frames = kept-owned ram ram' space.root is.tree kept;
  walks = walks-same ram ram' space.root (kept-pages ram ram' space.root is.tree kept);
}

pub is-isolated : Isolation
is-isolated ram ram' space is count bytes = frames-kept ram ram' space is (record { count = count; bytes = bytes })

-- frames that go between the free ones and one owner leave the spaces that have none of them
pub spared : (pool pool' : Pool) (ram ram' : List (List ℕ)) (mine mine' : List ℕ) (other : Space) → Traded pool ram pool' ram' mine mine' → IsStranger pool ram mine other → Spared ram ram' other
spared pool pool' ram ram' mine mine' other t s =
    frames-kept ram ram' other s.whole (record { count = t.count; bytes = λ f own. t.others f (omega (arith, s.apart f own)) (omega (arith, s.apart f own)) })

-- ---- several owners

-- a stranger stays one
pub stranger-after : (pool pool' : Pool) (ram ram' : List (List ℕ)) (mine mine' : List ℕ) (other : Space) → Traded pool ram pool' ram' mine mine'
    → IsStranger pool ram mine other → IsStranger pool' ram' mine' other
stranger-after pool pool' ram ram' mine mine' other t s =
    let same = spared pool pool' ram ram' mine mine' other t s in
    record { whole = same.whole; apart = λ f own. omega (arith, t.frames f, s.apart f (omega (arith, own, ap (copies f) same.frames))) }

-- a stranger belongs to the pool
pub stranger-belongs : (pool : Pool) (ram : List (List ℕ)) (mine : List ℕ) (other : Space) → Good pool ram → IsStranger pool ram mine other → Belongs pool ram other
stranger-belongs pool ram mine other good s = record { good = good; whole = s.whole; apart = λ f. by f (cases_lt 0 (copies f (frames_of ram other))) }
  where
    by : (f : ℕ) → (0 < copies f (frames_of ram other)) ⊎ (copies f (frames_of ram other) ≤ 0) → copies f (free_in pool ram) + copies f (frames_of ram other) ≤ 1
    by f (inl own) = omega (arith, s.apart f own, s.whole.tree.once.once f)
    by f (inr none) = omega (arith, none, good.frames.once f)

-- where a new owner gets frames that were free, a space that belonged to the pool still does
pub belongs-apart : (pool pool' : Pool) (ram ram' : List (List ℕ)) (mine : List ℕ) (other : Space) → Belongs pool ram other → Traded pool ram pool' ram' [] mine → Belongs pool' ram' other
belongs-apart pool pool' ram ram' mine other b t =
    let stranger : IsStranger pool ram [] other = record { whole = b.whole; apart = λ f own. omega (arith, own, b.apart f, copies-nil f) } in
    stranger-belongs pool' ram' mine other t.good (stranger-after pool pool' ram ram' [] mine other t stranger)
