-- The frame of a page is written.
use Rattle.addr_space.proofs.Prelude.{ℕ, ◌*◌, ◌+◌, ◌<◌, ◌^◌, ◌∙◌, ◌≡◌, ◌≤◌, ap, arith, Belongs, Bool, Changed, Entry, frame_at, frame_of, get, image_of, Invalid, IsSpace, Leaf, length, List, None}
use Rattle.addr_space.proofs.Prelude.{Page, page-owned, page_entry, page_of, Pool, refl, Rights, set, Some, Space, sym, Table, with_bytes, with_page, write_image, write_image-page, WrittenInPlace}
use Rattle.addr_space.proofs.Pages.{bytes-changed, bytes-image, page-is}
use Rattle.addr_space.proofs.Prices.{page-got}
use Rattle.addr_space.proofs.Copies.{set-stays, set-here}
use Rattle.addr_space.proofs.InPlace.{written-in-place}

-- an entry that is no leaf gives no page, and no frame
pub no-page : (ram : List (List ℕ)) (e : Entry) → ((f : ℕ) (r : Rights) (a d : Bool) → e ≡ Leaf f r a d → ⊥) → page_of ram e ≡ None
no-page ram Invalid none = refl
no-page ram (Table f) none = refl
no-page ram (Leaf f r a d) none = absurd (none f r a d refl)

pub no-frame : (e : Entry) → ((f : ℕ) (r : Rights) (a d : Bool) → e ≡ Leaf f r a d → ⊥) → frame_of e ≡ None
no-frame Invalid none = refl
no-frame (Table f) none = refl
no-frame (Leaf f r a d) none = absurd (none f r a d refl)

-- an entry with a frame is a leaf
pub leaf-of : (e : Entry) (f : ℕ) → frame_of e ≡ Some f → (r : Rights) × (a : Bool) × (d : Bool) × (e ≡ Leaf f r a d)
leaf-of Invalid f is = absurd (cc)
leaf-of (Table g) f is = absurd (cc)
leaf-of (Leaf g r a d) f is = let same : g ≡ f = cc in (r, a, d, ap (λ x. Leaf x r a d) same)

-- bytes stand at an address of a space, and nothing else of it changed
pub record BytesWritten (ram ram' : List (List ℕ)) (space : Space) (a : ℕ) (bytes : List ℕ) : Type 0 where
  pub image : image_of ram' space ≡ write_image (image_of ram space) a bytes
  pub in_place : WrittenInPlace ram ram' space
  pub changed : (pool : Pool) → Belongs pool ram space → Changed pool ram space pool ram' space

-- a part of the frame of page v is written
pub frame-written : (ram ram' : List (List ℕ)) (space : Space) (v f at : ℕ) (bytes : List ℕ) → IsSpace ram space → v < 2 ^ 26
    → frame_of (page_entry ram space.root v) ≡ Some f → length (frame_at ram f) ≡ 4096 → at + length bytes ≤ 4096
    → ram' ≡ set ram f (with_bytes at bytes (frame_at ram f)) → BytesWritten ram ram' space (4096 * v + at) bytes
frame-written ram ram' space v f at bytes is low framed long fits after =
    let (r, a, d, leaf) = leaf-of (page_entry ram space.root v) f framed in
    let inside : f < length ram = is.tree.once.inside f (page-owned ram space.root v f is.tree framed) in
    let new = with_bytes at bytes (frame_at ram f) in
    let stay = set-stays ram ram' f new after in
    let page : Page = record { perm = r; bytes = frame_at ram f } in
    let there : get (image_of ram space).pages v ≡ Some page = page-got ram space.root v low ∙ page-is ram space v f r a d is leaf in
    record {
      image = bytes-image ram ram' space v f r a d is leaf stay
          ∙ ap (λ b. with_page (image_of ram space) v (record { perm = r; bytes = b })) (set-here ram ram' f new after inside)
          ∙ sym (write_image-page bytes (image_of ram space) v at page there (omega (arith, long, fits)) fits);
      in_place = written-in-place ram ram' space v f r a d is leaf stay;
      changed = λ pool b. bytes-changed pool ram ram' space v f r a d b leaf stay;
    }
