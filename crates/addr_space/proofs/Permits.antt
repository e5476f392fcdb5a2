-- What a page permits, read off its entry in a lower table.
use Rattle.addr_space.proofs.Prelude.{ℕ, ◌%◌, ◌*◌, ◌+◌, ◌/◌, ◌<◌, ◌^◌, ◌∙◌, ◌≡◌, Access, ap, arith, Entry, entry_at, entry_permits, false, get, image_of, Invalid, IsSpace, last, Leaf, List, None}
use Rattle.addr_space.proofs.Prelude.{page_entry, page_of, page_permits, refl, Some, Space, sym, Table, table_at, Usual}
use Rattle.addr_space.proofs.Prices.{page-got}
use Rattle.addr_space.proofs.Clearing.{entry-page}

permits-usual : (access : Access) (ram : List (List ℕ)) (e : Entry) → Usual e → page_permits access (page_of ram e) ≡ entry_permits access e
permits-usual access ram Invalid usual = refl
permits-usual access ram (Table f) usual = refl
permits-usual access ram (Leaf f perm a d) (used, dirty) = rw (used, dirty) refl

-- a page whose entry stands in this lower table
pub page-permitted : (ram : List (List ℕ)) (space : Space) (access : Access) (v lower k : ℕ) → IsSpace ram space → v < 2 ^ 26 → table_at ram space.root 2 (v / 512) ≡ Some lower → v % 512 + k < 512
    → page_permits access (get (image_of ram space).pages (v + k)) ≡ entry_permits access (entry_at ram lower (v % 512 + k))
page-permitted ram space access v lower k whole small found inside =
    let place : 512 * (v / 512) + (v % 512 + k) ≡ v + k = omega arith in
    let entry : page_entry ram space.root (v + k) ≡ entry_at ram lower (v % 512 + k) = sym (ap (page_entry ram space.root) place)
    ∙ entry-page ram space.root (v / 512) lower (v % 512 + k) inside found in
    ap (page_permits access) (page-got ram space.root (v + k) (omega (arith, small, inside)))
    ∙ permits-usual access ram (page_entry ram space.root (v + k)) (whole.leaves (v + k))
    ∙ ap (entry_permits access) entry

-- a page for which there is no lower table
pub page-refused : (ram : List (List ℕ)) (space : Space) (access : Access) (v : ℕ) → IsSpace ram space → v < 2 ^ 26
    → table_at ram space.root 2 (v / 512) ≡ None → page_permits access (get (image_of ram space).pages v) ≡ false
page-refused ram space access v whole small none =
    ap (page_permits access) (page-got ram space.root v small)
    ∙ ap (λ t. page_permits access (page_of ram (last ram t (v % 512)))) none
