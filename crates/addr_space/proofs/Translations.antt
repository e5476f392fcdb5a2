-- Where accesses lead after a change of the tables: only the last entry on the way to a page tells.
use Rattle.addr_space.proofs.Prelude.{ℕ, ◌%◌, ◌*◌, ◌-◌, ◌/◌, ◌<◌, ◌^◌, ◌∙◌, ◌≡◌, ◌≤◌, ◌⊎◌, Access, allowed, ap, arith, Beside, cases_eq, cases_lt, cond, Entry, eqb, false, frame_of, inl, inr, Invalid}
use Rattle.addr_space.proofs.Prelude.{is_canonical, IsSpace, Leaf, List, min, ne_eqb, None, none_either_way, page-place, page_at, page_entry, page_of, refl, Some, Space, subst, sym, Table}
use Rattle.addr_space.proofs.Prelude.{TranslationsStay, walked, WalksStay, WalksStayBelow, WalksStayBeside}
use Rattle.sv39_core.proofs.Walks.{walked-not_canonical}
use Rattle.std.specs.Int.{bit_at}
use Rattle.addr_space.proofs.Freeing.{none-of, page-none}

pub walk-same : (ram ram' : List (List ℕ)) (root va : ℕ) (access : Access)
    → page_entry ram' root (va / 4096 % 134217728) ≡ page_entry ram root (va / 4096 % 134217728) → walked ram' root va access ≡ walked ram root va access
unfolding walked
walk-same ram ram' root va access same = ap (λ e. cond (is_canonical va) (allowed access e (va % 4096)) None) same

-- no access reaches a page that isn't there
walk-none : (ram : List (List ℕ)) (root va : ℕ) (access : Access) → page_at ram root (va / 4096 % 134217728) ≡ None → walked ram root va access ≡ None
unfolding walked
walk-none ram root va access none = none_either_way (is_canonical va) (allowed access (page_entry ram root (va / 4096 % 134217728)) (va % 4096)) (by (page_entry ram root (va / 4096 % 134217728)) none)
  where
    by : (e : Entry) → page_of ram e ≡ None → allowed access e (va % 4096) ≡ None
    by Invalid h = refl
    by (Table f) h = refl
    by (Leaf f p a d) h = absurd (cc)

-- a page comes where there was none
pub page-more-stays : (ram ram' : List (List ℕ)) (root v : ℕ) → page_at ram root v ≡ None → Beside ram ram' root v → TranslationsStay ram ram' root
page-more-stays ram ram' root v none beside va access place is =
    elim (cases_eq (va / 4096 % 134217728) v) [
      | inl same ↦ let w : None ≡ Some place = sym (walk-none ram root va access (ap (page_at ram root) same ∙ none)) ∙ is in absurd (cc)
      | inr ne ↦ walk-same ram ram' root va access (beside.pages (va / 4096 % 134217728) ne) ∙ is
    ]

pub stays-none : (ram : List (List ℕ)) (root : ℕ) → TranslationsStay ram ram root
stays-none ram root va access place is = is

pub stays-join : (ram0 ram1 ram2 : List (List ℕ)) (root root' : ℕ) → root' ≡ root → TranslationsStay ram0 ram1 root → TranslationsStay ram1 ram2 root' → TranslationsStay ram0 ram2 root
stays-join ram0 ram1 ram2 root root' same a b va access place is = subst (λ r. TranslationsStay ram1 ram2 r) same b va access place (a va access place is)

-- the entries stay
pub walks-same : (ram ram' : List (List ℕ)) (root : ℕ) → ((u : ℕ) → page_entry ram' root u ≡ page_entry ram root u) → WalksStay ram ram' root
walks-same ram ram' root same va access = walk-same ram ram' root va access (same (va / 4096 % 134217728))

-- the entries of the first pages stay
pub walks-below : (ram ram' : List (List ℕ)) (root first : ℕ) → ((u : ℕ) → u < first → page_entry ram' root u ≡ page_entry ram root u) → first ≤ 134217728 → WalksStayBelow (4096 * first) ram ram' root
walks-below ram ram' root first same few va access lt = walk-same ram ram' root va access (same (va / 4096 % 134217728) (omega (arith, lt, few)))

-- no access reaches an address that isn't canonical
walk-far : (ram ram' : List (List ℕ)) (root va : ℕ) (access : Access) → is_canonical va ≡ false → walked ram' root va access ≡ walked ram root va access
walk-far ram ram' root va access far = walked-not_canonical ram' root va access far ∙ sym (walked-not_canonical ram root va access far)

-- an address of page v of the lower half that looks as if it were in a page is in it, or isn't canonical
page-of-address : (va v : ℕ) → va / 4096 % 134217728 ≡ v → v < 67108864 → (va / 4096 ≡ v) ⊎ (is_canonical va ≡ false)
page-of-address va v same small =
    elim (cases_eq (va / 4096) v) [
      | inl here ↦ inl here
      | inr ne ↦ inr (far (va / 549755813888) (bit_at va 38) (omega (arith, same, ne)) (low va (omega (arith, same, small))))
    ]
  where
    low : (x : ℕ) → x / 274877906944 % 2 ≡ 0 → bit_at x 38 ≡ 0
    low x e = e

    far : (top bit : ℕ) → 1 ≤ top → bit ≡ 0 → eqb top ((2 ^ 25 - 1) * bit) ≡ false
    far top bit some zero = ne_eqb top ((2 ^ 25 - 1) * bit) (λ e. omega (arith, some, ap (λ b. (2 ^ 25 - 1) * b) zero, e))

-- the entries of all other pages stay
pub walks-beside : (ram ram' : List (List ℕ)) (root v : ℕ) → v < 67108864 → ((u : ℕ) → (u ≡ v → ⊥) → page_entry ram' root u ≡ page_entry ram root u) → WalksStayBeside v ram ram' root
walks-beside ram ram' root v small same va access away =
    elim (cases_eq (va / 4096 % 134217728) v) [
      | inl is ↦ elim (page-of-address va v is small) [
        | inl here ↦ absurd (away here)
        | inr far ↦ walk-far ram ram' root va access far
      ]
      | inr ne ↦ walk-same ram ram' root va access (same (va / 4096 % 134217728) ne)
    ]

-- no access reaches an address behind the end of a space
pub unreached : (ram : List (List ℕ)) (space : Space) (end va : ℕ) (access : Access) → IsSpace ram space → end ≡ min space.end 67108864 → 4096 * end ≤ va → walked ram space.root va access ≡ None
unreached ram space end va access is least behind =
    let v = va / 4096 % 134217728 in
    let e = page_entry ram space.root v in
    elim (cases_lt v 67108864) [
      | inl small ↦ elim (page-of-address va v refl small) [
        | inl here ↦ walk-none ram space.root va access (page-none ram e (is.ends v (omega (arith, here, behind, least, small)) small))
        | inr far ↦ walked-not_canonical ram space.root va access far
      ]
      | inr big ↦ walk-none ram space.root va access (page-none ram e (none-of (frame_of e) (λ f there. omega (arith, page-place ram space.root v f is.tree there, big))))
    ]
