-- The steps of a growth.
use Rattle.addr_space.proofs.Prelude.{ℕ, ◌+◌, ◌-◌, ◌<◌, ◌∙◌, ◌≡◌, ◌≤◌, ap, arith, Belongs, Bool, Changed, cond, false, FinMap, free_in, get, Image, image_of, insert, is_some, length, List, nat_cmp}
use Rattle.addr_space.proofs.Prelude.{None, Option, option_map, Page, pages_of, perm_of_page, Pool, price, refl, Rights, Some, Space, suc, sym, TranslationsStay, true, with_absent, with_page, zeroed}
use Rattle.addr_space.proofs.Growing.{cost, later-more}
use Rattle.addr_space.proofs.PriceTo.{cost-size}
use Rattle.addr_space.proofs.Trades.{free-after, belongs-after}
use Rattle.addr_space.proofs.Freeing.{changed-none, changed-join}
use Rattle.addr_space.proofs.Translations.{stays-none, stays-join}

pub perm-none : (o : Option Page) → option_map perm_of_page o ≡ None → o ≡ None
perm-none None e = refl
perm-none (Some p) e = absurd (cc)

pub perm-some : (o : Option Page) → (option_map perm_of_page o ≡ None → ⊥) → is_some o ≡ true
perm-some None ne = absurd (ne refl)
perm-some (Some p) ne = refl

pub none-yet : (pages : FinMap nat_cmp Page) (first : ℕ) (page : Page) → with_absent pages first 0 page ≡ pages
unfolding with_absent
none-yet pages first page = refl

pub absent-start : (pages : FinMap nat_cmp Page) (first : ℕ) (page : Page) → pages ≡ with_absent pages first (first - first) page
absent-start pages first page = let z : first - first ≡ 0 = omega arith in sym (ap (λ n. with_absent pages first n page) z ∙ none-yet pages first page)

step : (pages m : FinMap nat_cmp Page) (first n : ℕ) (page : Page) (b : Bool) → m ≡ with_absent pages first n page → is_some (get m (first + n)) ≡ b
    → with_absent pages first (suc n) page ≡ cond b m (insert m (first + n) page)
unfolding with_absent
step pages m first n page b is some =
    sym (ap (λ x. cond (is_some (get x (first + n))) x (insert x (first + n) page)) is) ∙ ap (λ c. cond c m (insert m (first + n) page)) some

-- the next page came, or was there
pub absent-step : (pages m : FinMap nat_cmp Page) (first v : ℕ) (page : Page) (b : Bool) → first ≤ v → m ≡ with_absent pages first (v - first) page
    → is_some (get m v) ≡ b → with_absent pages first (v + 1 - first) page ≡ cond b m (insert m v page)
absent-step pages m first v page b ge is some =
    let at : first + (v - first) ≡ v = omega arith in
    let next : v + 1 - first ≡ suc (v - first) = omega arith in
    ap (λ n. with_absent pages first n page) next ∙ step pages m first (v - first) page b is (ap (λ x. is_some (get m x)) at ∙ some) ∙ ap (λ x. cond b m (insert m x page)) at

pub no-refusal : (pool0 pool1 : Pool) (ram0 ram1 : List (List ℕ)) (s0 s1 : Space) (size v first last need free : ℕ) (perm : Rights) → Belongs pool0 ram0 s0 → Changed pool0 ram0 s0 pool1 ram1 s1
    → pages_of ram1 s0.root ≡ with_absent (pages_of ram0 s0.root) first (v - first) (zeroed perm) → first ≤ v → v < last → last ≤ 67108864
    → cost (with_absent (pages_of ram0 s0.root) first (last - first) (zeroed perm)) size ≡ price (image_of ram0 s0) + need → need ≤ free
    → free ≡ length (free_in pool0 ram0) → get (pages_of ram1 s1.root) v ≡ None
    → price (image_of ram1 s1) + length (free_in pool1 ram1) < price (with_page (image_of ram1 s1) v (zeroed perm)) → ⊥
no-refusal pool0 pool1 ram0 ram1 s0 s1 size v first last need free perm b c pages ge lt small price_to enough free_is none refused =
    let is : pages_of ram1 s1.root ≡ with_absent (pages_of ram0 s0.root) first (v - first) (zeroed perm) = ap (pages_of ram1) c.root ∙ pages in
    let next = absent-step (pages_of ram0 s0.root) (pages_of ram1 s1.root) first v (zeroed perm) false ge is (ap is_some none) in
    let total : v + 1 - first + (last - (v + 1)) ≡ last - first = omega arith in
    let more = later-more (pages_of ram0 s0.root) first (v + 1 - first) (last - (v + 1)) size (zeroed perm) (omega arith) in
    omega (
      arith,
      refused,
      free-after pool0 pool1 ram0 ram1 s0 s1 b c,
      free_is,
      enough,
      price_to,
      more,
      ap (λ m. cost m s1.size) next,
      cost-size (with_absent (pages_of ram0 s0.root) first (v + 1 - first) (zeroed perm)) s1.size size,
      ap (λ n. cost (with_absent (pages_of ram0 s0.root) first n (zeroed perm)) size) total,
    )

abbrev image_size : Image → ℕ
image_size i = i.size

abbrev image_pages : Image → FinMap nat_cmp Page
image_pages i = i.pages

-- what a growth has done when it comes to page v
pub record SoFar (pool0 : Pool) (ram0 : List (List ℕ)) (s0 : Space) (first : ℕ) (perm : Rights) (v : ℕ) (pool : Pool) (ram : List (List ℕ)) (s : Space) : Type 0 where
  pub belongs : Belongs pool ram s
  pub changed : Changed pool0 ram0 s0 pool ram s
  pub size : s.size ≡ s0.size
  pub pages : pages_of ram s0.root ≡ with_absent (pages_of ram0 s0.root) first (v - first) (zeroed perm)
  pub translations : TranslationsStay ram0 ram s0.root

pub so_far-none : (pool : Pool) (ram : List (List ℕ)) (s : Space) (first : ℕ) (perm : Rights) → Belongs pool ram s → SoFar pool ram s first perm first pool ram s
so_far-none pool ram s first perm b = record {
  belongs = b;
  changed = changed-none pool ram s b;
  size = refl;
  pages = absent-start (pages_of ram s.root) first (zeroed perm);
  translations = stays-none ram s.root;
}

pub so_far-new : (pool0 pool1 pool2 : Pool) (ram0 ram1 ram2 : List (List ℕ)) (s0 s1 s2 : Space) (first v : ℕ) (perm : Rights)
    → SoFar pool0 ram0 s0 first perm v pool1 ram1 s1 → Changed pool1 ram1 s1 pool2 ram2 s2
    → image_of ram2 s2 ≡ with_page (image_of ram1 s1) v (zeroed perm) → TranslationsStay ram1 ram2 s1.root → get (pages_of ram1 s1.root) v ≡ None
    → first ≤ v → v < 67108864 → SoFar pool0 ram0 s0 first perm (v + 1) pool2 ram2 s2
so_far-new pool0 pool1 pool2 ram0 ram1 ram2 s0 s1 s2 first v perm so c image stay none ge small =
    let is : pages_of ram1 s1.root ≡ with_absent (pages_of ram0 s0.root) first (v - first) (zeroed perm) = ap (pages_of ram1) so.changed.root ∙ so.pages in
    let next = absent-step (pages_of ram0 s0.root) (pages_of ram1 s1.root) first v (zeroed perm) false ge is (ap is_some none) in
    record {
      belongs = belongs-after pool1 pool2 ram1 ram2 s1 s2 so.belongs c;
      changed = changed-join pool0 pool1 pool2 ram0 ram1 ram2 s0 s1 s2 so.changed c;
      size = ap image_size image ∙ so.size;
      pages = ap (pages_of ram2) (sym (c.root ∙ so.changed.root)) ∙ ap image_pages image ∙ sym next;
      translations = stays-join ram0 ram1 ram2 s0.root s1.root so.changed.root so.translations stay;
    }

pub so_far-same : (pool0 pool1 : Pool) (ram0 ram1 : List (List ℕ)) (s0 s1 : Space) (first v : ℕ) (perm : Rights)
    → SoFar pool0 ram0 s0 first perm v pool1 ram1 s1 → is_some (get (pages_of ram1 s1.root) v) ≡ true → first ≤ v → v < 67108864
    → SoFar pool0 ram0 s0 first perm (v + 1) pool1 ram1 s1
so_far-same pool0 pool1 ram0 ram1 s0 s1 first v perm so some ge small =
    let is : pages_of ram1 s1.root ≡ with_absent (pages_of ram0 s0.root) first (v - first) (zeroed perm) = ap (pages_of ram1) so.changed.root ∙ so.pages in
    let next = absent-step (pages_of ram0 s0.root) (pages_of ram1 s1.root) first v (zeroed perm) true ge is some in
    record { belongs = so.belongs; changed = so.changed; size = so.size; pages = ap (pages_of ram1) (sym so.changed.root) ∙ sym next; translations = so.translations }
