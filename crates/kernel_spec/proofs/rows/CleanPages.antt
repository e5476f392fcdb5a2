-- Which pages come: writing brings none, and a larger size brings zeros.
use Rattle.kernel_spec.proofs.Prelude.{[], ℕ, ◌%◌, ◌+◌, ◌-◌, ◌/◌, ◌∙◌, ◌∷◌, ◌≡◌, ◌≢◌, ◌⊎◌, after, ap, Bool, cond, data_rights, eqb_tells, false, FinMap, first, gathered-get, get, grown, Image, inl}
use Rattle.kernel_spec.proofs.Prelude.{inr, insert, insert_some, is_some, List, nat_cmp, nat_lt, None, Option, Page, page_count, put_byte, put_in, refl, replicate, same_Some, shrunk, Some, Store, suc}
use Rattle.kernel_spec.proofs.Prelude.{sym, true, with_absent, with_store, write_image, write_pages, written_page, zero, zero_frame, zeroed}
use Rattle.kernel_spec.proofs.steps.MapsAfterChange.{get_same, get_other}
use Rattle.kernel_spec.proofs.Common.{none_either_way}

-- each page that `after` has and `before` lacks holds zeros
abbrev pub NewPagesZero : Image → Image → Type 0
NewPagesZero before after = (page : ℕ) (x : Page) → get before.pages page ≡ None → get after.pages page ≡ Some x → x.bytes ≡ replicate 4096 0

-- ---- writing: a page that isn't there isn't made

put_absent : (i : Image) (v : ℕ) (p : Option Page) (o b q : ℕ) → get i.pages v ≡ p → get i.pages q ≡ None → get (put_in i v p o b).pages q ≡ None
put_absent i v None o b q is absent = absent
put_absent i v (Some page) o b q is absent = get_other i.pages v _ q apart ∙ absent
  where
    apart : q ≢ v
    apart e = let no : Some page ≡ None = sym is ∙ ap (get i.pages) (sym e) ∙ absent in let bad : ⊥ = cc in bad

pub write_absent : (bytes : List ℕ) (i : Image) (a q : ℕ) → get i.pages q ≡ None → get (write_image i a bytes).pages q ≡ None
unfolding write_image
write_absent [] i a q absent = absent
write_absent (b ∷ bs) i a q absent = write_absent bs (put_byte i a b) (a + 1) q (put_absent i (a / 4096) (get i.pages (a / 4096)) (a % 4096) b q refl absent)

insert_absent : (m : FinMap nat_cmp Page) (v : ℕ) (p : Option Page) (o : ℕ) (bytes : List ℕ) (q : ℕ) → get m v ≡ p → get m q ≡ None → get (insert_some m v (written_page p o bytes)) q ≡ None
insert_absent m v None o bytes q is absent = absent
insert_absent m v (Some page) o bytes q is absent = get_other m v _ q apart ∙ absent
  where
    apart : q ≢ v
    apart e = let no : Some page ≡ None = sym is ∙ ap (get m) (sym e) ∙ absent in let bad : ⊥ = cc in bad

pub store_absent : (i : Image) (st : Store) (q : ℕ) → get i.pages q ≡ None → get (with_store i st).pages q ≡ None
unfolding write_pages
store_absent i st q absent = insert_absent i.pages (st.address / 4096) (get i.pages (st.address / 4096)) (st.address % 4096) st.bytes q refl absent

-- ---- growing

added : (b : Bool) (m : FinMap nat_cmp Page) (v : ℕ) (page : Page) (q : ℕ) (x : Page) → get (cond b m (insert m v page)) q ≡ Some x → (get m q ≡ Some x) ⊎ (x ≡ page)
added true m v page q x is = inl is
added false m v page q x is = elim (eqb_tells q v) [
  | inl h ↦ inr (same_Some x page (sym is ∙ ap (get (insert m v page)) h.1 ∙ get_same m v page))
  | inr h ↦ inl (sym (get_other m v page q h.1) ∙ is)
]

grown_page : (m : FinMap nat_cmp Page) (first n : ℕ) (page : Page) (q : ℕ) (x : Page) → get m q ≡ None → get (with_absent m first n page) q ≡ Some x → x ≡ page
unfolding with_absent
grown_page m first zero page q x none is = let no : ⊥ = cc in absurd no
grown_page m first (suc n) page q x none is = elim (added (is_some (get (with_absent m first n page) (first + n))) (with_absent m first n page) (first + n) page q x is) [
  | inl before ↦ grown_page m first n page q x none before
  | inr new ↦ new
]

zeros : (zeroed data_rights).bytes ≡ replicate 4096 0
unfolding zero_frame
zeros = refl

pub grown_zeros : (i : Image) (size : ℕ) → NewPagesZero i (grown i size)
grown_zeros i size page x none is = ap (λ (y : Page). y.bytes) (grown_page i.pages (page_count i.size) (page_count size - page_count i.size) (zeroed data_rights) page x none is) ∙ zeros

pub shrunk_none : (i : Image) (size page : ℕ) → get i.pages page ≡ None → get (shrunk i size).pages page ≡ None
shrunk_none i size page none = gathered-get (get i.pages) (page_count size) page ∙ none_either_way (nat_lt page (page_count size)) (get i.pages page) none
