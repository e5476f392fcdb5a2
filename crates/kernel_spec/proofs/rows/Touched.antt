-- What a touch leaves of an image and of a view, in one record: each page that was there is as it was, and each page that came was absent and holds zeros.
use Rattle.kernel_spec.proofs.Prelude.{ℕ, ◌&&◌, ◌*◌, ◌∙◌, ◌≡◌, ap, brought, brought-size, data_rights, false, get, HasWholePages, Image, is_absent, is_some, length, length-replicate, List, nat_lt}
use Rattle.kernel_spec.proofs.Prelude.{None, not, Option, Page, refl, replicate, same_Some, Some, subst, sym, touch, true, View, zero_frame, zeroed}
use Rattle.kernel_spec.proofs.rows.Settled.{absent-not-there, there-not-absent, brought-there, brought-new, touch-comes}

-- the page that comes by a touch
abbrev pub new_page : Page
new_page = zeroed data_rights

-- j is i once some pages are touched
pub record IsTouched (i j : Image) : Type 0 where
  pub size : j.size ≡ i.size
  pub kept : (page : ℕ) (x : Page) → get i.pages page ≡ Some x → get j.pages page ≡ Some x
  pub new : (page : ℕ) (x : Page) → get i.pages page ≡ None → get j.pages page ≡ Some x → (is_absent i page ≡ true) × (x ≡ new_page)

pub touched_none : (i : Image) → IsTouched i i
touched_none i = record { size = refl; kept = λ page x is. is; new = λ page x none is. let no : None ≡ Some x = sym none ∙ is in let bad : ⊥ = cc in absurd bad }

pub brought_touched : (pages : List ℕ) (i : Image) → IsTouched i (brought pages i)
brought_touched pages i = record { size = brought-size pages i; kept = λ page x is. brought-there pages i page x is; new = λ page x none is. brought-new pages i page x none is }

-- what is absent once pages are touched was absent before
pub absent_before : (i j : Image) (page : ℕ) → IsTouched i j → is_absent j page ≡ true → is_absent i page ≡ true
absent_before i j page t e = by (get i.pages page) refl
  where
    by : (o : Option Page) → get i.pages page ≡ o → is_absent i page ≡ true
    by None none =
        ap (λ (o : Option Page). nat_lt (4096 * page) i.size && not (is_some o)) (none ∙ sym (absent-not-there j page e))
        ∙ ap (λ (size : ℕ). nat_lt (4096 * page) size && not (is_some (get j.pages page))) (sym t.size) ∙ e
    by (Some x) is = let no : false ≡ true = sym (there-not-absent j page x (t.kept page x is)) ∙ e in let bad : ⊥ = cc in absurd bad

-- ---- whole pages

pub new_zeros : new_page.bytes ≡ replicate 4096 0
unfolding zero_frame
new_zeros = refl

new_whole : length new_page.bytes ≡ 4096
new_whole = ap length new_zeros ∙ length-replicate {A = ℕ} 4096 0

pub whole_touched : (i j : Image) → IsTouched i j → HasWholePages i → HasWholePages j
whole_touched i j t whole page x is = by (get i.pages page) refl
  where
    by : (o : Option Page) → get i.pages page ≡ o → length x.bytes ≡ 4096
    by None none = ap (λ (p : Page). length p.bytes) (t.new page x none is).1 ∙ new_whole
    by (Some y) e = ap (λ (p : Page). length p.bytes) (same_Some x y (sym is ∙ t.kept page y e)) ∙ whole page y e

-- ---- a view

-- the view with another image, and with so many frames free
abbrev pub touched_view : View → Image → ℕ → View
touched_view v image free = record v { image = image; free = free }

-- all that a touch changes of a view is the image, and how many frames are free
pub touch_view : (pages : List ℕ) (v t : View) → touch pages v ≡ Some t → t ≡ touched_view v t.image t.free
touch_view pages v t e = (touch-comes pages v t e).view

pub touch_touched : (pages : List ℕ) (v t : View) → touch pages v ≡ Some t → IsTouched v.image t.image
touch_touched pages v t e = subst (IsTouched v.image) (sym (touch-comes pages v t e).image) (brought_touched pages v.image)
