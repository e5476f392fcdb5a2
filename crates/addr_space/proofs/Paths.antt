-- What stays beside the way to a page.
use Rattle.addr_space.proofs.Prelude.{ℕ, ◌%◌, ◌*◌, ◌+◌, ◌/◌, ◌<◌, ◌∙◌, ◌≡◌, ap, arith, Beside, cases_eq, entry_of-leaf_word, frame_of, Hanging, Holds, hung-others, hung-pages, inl, inr, is_perm}
use Rattle.addr_space.proofs.Prelude.{kept-pages, kept-tables, Leaf, leaf-here, leaf-others, leaf-tables, leaf_word, length, List, None, NoneEmpty, page_entry, Placing, Pool, refl, Rights, Some}
use Rattle.addr_space.proofs.Prelude.{spot-of, subst, sym, table_at, true, Usual}
use Rattle.addr_space.proofs.Steps.{after-take, hung-of}
use Rattle.addr_space.proofs.Prices.{page-lower}

pub beside-none : (ram : List (List ℕ)) (root v : ℕ) → Beside ram ram root v
beside-none ram root v = record { uppers = λ p ne. refl; lowers = λ p ne. refl; pages = λ u ne. refl }

pub beside-join : (ram0 ram1 ram2 : List (List ℕ)) (root v : ℕ) → Beside ram0 ram1 root v → Beside ram1 ram2 root v → Beside ram0 ram2 root v
beside-join ram0 ram1 ram2 root v a b = record {
  uppers = λ p ne. b.uppers p ne ∙ a.uppers p ne;
  lowers = λ p ne. b.lowers p ne ∙ a.lowers p ne;
  pages = λ u ne. b.pages u ne ∙ a.pages u ne;
}

-- no table is empty where page v is there
pub full-after : (ram ram' : List (List ℕ)) (root v g : ℕ) → NoneEmpty ram root → Beside ram ram' root v → frame_of (page_entry ram' root v) ≡ Some g → NoneEmpty ram' root
full-after ram ram' root v g full beside there = record {
  uppers = λ p f e. elim (cases_eq p (v / 262144)) [
    | inl same ↦
        let low = page-lower ram' root v g there in
        let at : 512 * p + v / 512 % 512 ≡ v / 512 = omega (arith, same) in
        (v / 512 % 512, low.0, omega arith, ap (table_at ram' root 2) at ∙ low.1)
    | inr ne ↦
        let low = full.uppers p f (sym (beside.uppers p ne) ∙ e) in
        (low.0, low.1, low.2, beside.lowers (512 * p + low.0) (λ is. ne (omega (arith, is, low.2))) ∙ low.3)
  ];
  lowers = λ p f e. elim (cases_eq p (v / 512)) [
    | inl same ↦
        let at : 512 * p + v % 512 ≡ v = omega (arith, same) in
        (v % 512, g, omega arith, ap (λ u. frame_of (page_entry ram' root u)) at ∙ there)
    | inr ne ↦
        let page = full.lowers p f (sym (beside.lowers p ne) ∙ e) in
        (page.0, page.1, page.2, ap frame_of (beside.pages (512 * p + page.0) (λ is. ne (omega (arith, is, page.2)))) ∙ page.3)
  ];
}

pub leaves-after : (ram ram' : List (List ℕ)) (root v : ℕ) → ((u : ℕ) → Usual (page_entry ram root u)) → Beside ram ram' root v
    → Usual (page_entry ram' root v) → (u : ℕ) → Usual (page_entry ram' root u)
leaves-after ram ram' root v leaves beside there u =
    elim (cases_eq u v) [
      | inl same ↦ subst (λ e. Usual e) (ap (page_entry ram' root) (sym same)) there
      | inr ne ↦ subst (λ e. Usual e) (sym (beside.pages u ne)) (leaves u)
    ]

pub hang-upper-beside : (pool pool' : Pool) (ram ram' : List (List ℕ)) (root v g : ℕ) → Holds pool ram root
    → Hanging pool ram pool' ram' root (v / 262144) g → v < 67108864 → table_at ram root 1 (512 * 0 + v / 262144) ≡ None → Beside ram ram' root v
hang-upper-beside pool pool' ram ram' root v g h hang small none =
    let after = after-take pool pool' ram hang.mid root g h hang.taken.traded.count hang.taken in
    let hung = hung-of pool pool' ram hang.mid ram' root root (v / 262144) g 0 0 h after hang.put hang.small (omega arith) refl (omega arith) none in
    record {
      uppers = λ p ne. hung-others hang.mid ram' root root (v / 262144) g 0 0 hung 1 p (omega arith) (λ e is. ne (omega (arith, is)))
          ∙ kept-tables ram hang.mid root h.tree after.kept 1 p (omega arith);
      lowers = λ p ne. hung-others hang.mid ram' root root (v / 262144) g 0 0 hung 2 p (omega arith) (λ e is. absurd (omega arith)) ∙ kept-tables ram hang.mid root h.tree after.kept 2 p (omega arith);
      pages = λ u ne. hung-pages hang.mid ram' root root (v / 262144) g 0 0 hung u ∙ kept-pages ram hang.mid root h.tree after.kept u;
    }

pub hang-lower-beside : (pool pool' : Pool) (ram ram' : List (List ℕ)) (root f v g : ℕ) → Holds pool ram root
    → Hanging pool ram pool' ram' f (v / 512 % 512) g → v < 67108864 → table_at ram root 1 (v / 262144) ≡ Some f
    → table_at ram root 2 (512 * (v / 262144) + v / 512 % 512) ≡ None → Beside ram ram' root v
hang-lower-beside pool pool' ram ram' root f v g h hang small found none =
    let after = after-take pool pool' ram hang.mid root g h hang.taken.traded.count hang.taken in
    let hung = hung-of pool pool' ram hang.mid ram' root f (v / 512 % 512) g 1 (v / 262144) h after hang.put hang.small (omega arith) found (omega arith) none in
    record {
      uppers = λ p ne. hung-others hang.mid ram' root f (v / 512 % 512) g 1 (v / 262144) hung 1 p (omega arith) (λ e is. absurd (omega arith))
          ∙ kept-tables ram hang.mid root h.tree after.kept 1 p (omega arith);
      lowers = λ p ne. hung-others hang.mid ram' root f (v / 512 % 512) g 1 (v / 262144) hung 2 p (omega arith) (λ e is. ne (omega (arith, is)))
          ∙ kept-tables ram hang.mid root h.tree after.kept 2 p (omega arith);
      pages = λ u ne. hung-pages hang.mid ram' root f (v / 512 % 512) g 1 (v / 262144) hung u ∙ kept-pages ram hang.mid root h.tree after.kept u;
    }

pub place-beside : (pool pool' : Pool) (ram ram' : List (List ℕ)) (root f i g p : ℕ) (perm : Rights) → Holds pool ram root
    → Placing pool ram pool' ram' f i g perm → is_perm perm ≡ true → i < 512 → table_at ram root 2 p ≡ Some f
    → Beside ram ram' root (512 * p + i) × (page_entry ram' root (512 * p + i) ≡ Leaf g perm true true)
place-beside pool pool' ram ram' root f i g p perm h placing ok inside found =
    let after = after-take pool pool' ram placing.mid root g h placing.taken.traded.count placing.taken in
    let found' : table_at placing.mid root 2 p ≡ Some f = kept-tables ram placing.mid root h.tree after.kept 2 p (omega arith) ∙ found in
    let spot = spot-of placing.mid root 2 p f after.tree (omega arith) found' in (
      record {
        uppers = λ q ne. leaf-tables placing.mid ram' root f i (leaf_word g perm) p placing.put spot 1 q (omega arith) ∙ kept-tables ram placing.mid root h.tree after.kept 1 q (omega arith);
        lowers = λ q ne. leaf-tables placing.mid ram' root f i (leaf_word g perm) p placing.put spot 2 q (omega arith) ∙ kept-tables ram placing.mid root h.tree after.kept 2 q (omega arith);
        pages = λ u ne. leaf-others placing.mid ram' root f i (leaf_word g perm) p placing.put spot u ne ∙ kept-pages ram placing.mid root h.tree after.kept u;
      },
      leaf-here placing.mid ram' root f i (leaf_word g perm) p placing.put spot inside ∙ entry_of-leaf_word (length placing.mid) g perm ok after.inside placing.small,
    )
