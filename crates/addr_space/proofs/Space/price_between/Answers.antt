use Rattle.addr_space.proofs.Prelude.{ℕ, ◌+◌, ◌-◌, ◌/◌, ◌<◌, ◌∙◌, ◌≡◌, ap, arith, cases_eq, inl, inr, List, no-lower, None, pages_of, refl, root-inside, Some, sym, table_at, with_absent, zeroed}
use Rattle.addr_space.proofs.Growing.{cost}
use Rattle.addr_space.proofs.PriceTo.{price-span, price-run, price-one, price-rest}
use Rattle.addr_space.proofs.Touching.{least-of}
use Rattle.addr_space.proofs.Space.price_between.Goals as goal

pub lower_table-requires-clause-root_in : goal.lower_table-requires-clause-root_in
lower_table-requires-clause-root_in c = root-inside c.args.ram.now c.args.self.now.root c.requires.whole.tree

pub upper_table-requires-clause-root_in : goal.upper_table-requires-clause-root_in
upper_table-requires-clause-root_in c = root-inside c.args.ram.now c.args.self.now.root c.requires.whole.tree

pub new_page-count-requires-clause-root_in : goal.new_page-count-requires-clause-root_in
new_page-count-requires-clause-root_in c = root-inside c.args.ram.now c.args.self.now.root c.requires.whole.tree

none-yet : (ram : List (List ℕ)) (root first size : ℕ) (perm : _) → cost (with_absent (pages_of ram root) first (first - first) (zeroed perm)) size ≡ cost (pages_of ram root) size + 0
unfolding with_absent
none-yet ram root first size perm =
    let z : first - first ≡ 0 = omega arith in
    omega (arith, ap (λ n. cost (with_absent (pages_of ram root) first n (zeroed perm)) size) z)

pub pages-init : goal.pages-init
pages-init c = record {
  from = omega arith;
  in_range = omega (arith, c.requires.more);
  small = omega arith;
  aligned = λ a b. absurd (omega (arith, b));
  span = λ a b. absurd (omega (arith, b));
  count = λ perm. none-yet c.args.ram.now c.args.self.now.root c.args.first c.args.self.now.size perm;
}

pub pages-preserved-in_default : goal.pages-preserved-in_default
pages-preserved-in_default c =
    let inv = c.pages.invariant in
    let end = least-of c.min-end.result c.upper_table_end.result c.args.last c.min-end.ensures in
    let none : table_at c.args.ram.now c.args.self.now.root 1 (c.pages.number / 262144) ≡ None = sym c.upper_table.ensures ∙ c.in_default.is in
    let past : c.pages.number < c.min-end.result = elim end.2 [ inl e ↦ omega (arith, e) | inr e ↦ omega (arith, e, c.pages-test.true) ] in
    let lower = no-lower c.args.ram.now c.args.self.now.root c.pages.number none in
    record {
      from = omega (arith, inv.from, past);
      in_range = end.1;
      small = omega (arith, inv.small, inv.from, past, c.tables_for.ensures);
      aligned = λ a b w. elim end.2 [ inl e ↦ omega (arith, e) | inr e ↦ absurd (omega (arith, e, a)) ];
      span = λ a b w. elim end.2 [ inl e ↦ omega (arith, e) | inr e ↦ absurd (omega (arith, e, a)) ];
      count = λ perm. omega (
        arith,
        inv.count perm,
        c.tables_for.ensures,
        price-span 131072 c.args.ram.now c.args.self.now.root c.args.first c.pages.number c.min-end.result c.args.self.now.size 1
            (zeroed perm) c.requires.whole.tree c.requires.whole.full inv.from past (omega (arith, end.1, c.requires.limit)) (omega (arith, end.0))
            (omega (arith, end.1, c.requires.limit)) none (λ lt. inv.aligned c.pages-test.true lt lower)
            (λ ne off. absurd (off (inv.span c.pages-test.true (omega (arith, ne, inv.from)) none))) (λ a. refl),
      );
    }

pub pages-preserved-in_default-lower_table : goal.pages-preserved-in_default-lower_table
pages-preserved-in_default-lower_table c =
    let inv = c.pages.invariant in
    let end = least-of c.min-end-in_default-lower_table.result c.lower_table_end.result c.args.last c.min-end-in_default-lower_table.ensures in
    let upper : table_at c.args.ram.now c.args.self.now.root 1 (c.pages.number / 262144) ≡ Some c.in-Some.field-0 = sym c.in-Some.ensures in
    let none : table_at c.args.ram.now c.args.self.now.root 2 (c.pages.number / 512) ≡ None = sym c.lower_table.ensures ∙ c.in_default-lower_table.is in
    let past : c.pages.number < c.min-end-in_default-lower_table.result = elim end.2 [ inl e ↦ omega (arith, e) | inr e ↦ omega (arith, e, c.pages-test.true) ] in
    let there : table_at c.args.ram.now c.args.self.now.root 1 (c.pages.number / 262144) ≡ None → ⊥ = λ e. let w : None ≡ Some c.in-Some.field-0 = sym e ∙ upper in absurd (cc) in
    record {
      from = omega (arith, inv.from, past);
      in_range = end.1;
      small = omega (arith, inv.small, inv.from, past);
      aligned = λ a b w. elim end.2 [ inl e ↦ omega (arith, e) | inr e ↦ absurd (omega (arith, e, a)) ];
      span = λ a b w. elim (cases_eq (c.min-end-in_default-lower_table.result / 262144) (c.pages.number / 262144)) [
        | inl same ↦ absurd (there (ap (table_at c.args.ram.now c.args.self.now.root 1) (sym same) ∙ w))
        | inr ne ↦ elim end.2 [ inl e ↦ omega (arith, e, ne) | inr e ↦ absurd (omega (arith, e, a)) ]
      ];
      count = λ perm. omega (
        arith,
        inv.count perm,
        price-run c.args.ram.now c.args.self.now.root c.args.first c.pages.number
            c.min-end-in_default-lower_table.result c.args.self.now.size 0 (zeroed perm) c.requires.whole.tree c.requires.whole.full inv.from past
            (omega (arith, end.0)) (omega (arith, end.1, c.requires.limit)) none (λ lt. inv.aligned c.pages-test.true lt none) (λ ne. refl)
            (λ ne off. refl) (λ e a. absurd (there e)),
      );
    }

pub pages-preserved-then-self-number : goal.pages-preserved-then-self-number
pages-preserved-then-self-number c =
    let inv = c.pages.invariant in
    let end = least-of c.min-end-then-self-number.result c.lower_table_end-then-self-number.result c.args.last c.min-end-then-self-number.ensures in
    let upper : table_at c.args.ram.now c.args.self.now.root 1 (c.pages.number / 262144) ≡ Some c.in-Some.field-0 = sym c.in-Some.ensures in
    let table : table_at c.args.ram.now c.args.self.now.root 2 (c.pages.number / 512) ≡ Some c.in-Some-lower_table.field-0 = sym c.in-Some-lower_table.ensures in
    let past : c.pages.number < c.min-end-then-self-number.result = elim end.2 [ inl e ↦ omega (arith, e) | inr e ↦ omega (arith, e, c.pages-test.true) ] in
    let back : c.pages.number + (c.min-end-then-self-number.result - c.pages.number) ≡ c.min-end-then-self-number.result = omega (arith, past) in
    record {
      from = omega (arith, inv.from, past);
      in_range = end.1;
      small = omega (arith, inv.small, inv.from, past);
      aligned = λ a b w. elim end.2 [ inl e ↦ omega (arith, e) | inr e ↦ absurd (omega (arith, e, a)) ];
      span = λ a b none. elim (cases_eq (c.min-end-then-self-number.result / 262144) (c.pages.number / 262144)) [
        | inl same ↦ let w : None ≡ Some c.in-Some.field-0 = sym none ∙ ap (table_at c.args.ram.now c.args.self.now.root 1) same ∙ upper in absurd (cc)
        | inr ne ↦ elim end.2 [ inl e ↦ omega (arith, e, ne) | inr e ↦ absurd (omega (arith, e, a)) ]
      ];
      count = λ perm. omega (
        arith,
        inv.count perm,
        ap (λ n. cost (with_absent (pages_of c.args.ram.now c.args.self.now.root) c.args.first (n - c.args.first) (zeroed perm)) c.args.self.now.size) back,
        price-rest (c.min-end-then-self-number.result - c.pages.number) c.args.ram.now c.args.self.now.root c.args.first c.pages.number
            c.args.self.now.size c.in-Some-lower_table.field-0 (zeroed perm) c.requires.whole.tree c.requires.whole.full inv.from
            (omega (arith, back, end.1, c.requires.limit)) (omega (arith, back, end.0)) table
            (λ u ge lt. c.requires.whole.ends u (omega (arith, c.if-self-number.true, ge)) (omega (arith, lt, back, end.1, c.requires.limit))),
      );
    }

pub pages-preserved : goal.pages-preserved
pages-preserved c =
    let inv = c.pages.invariant in
    let upper : table_at c.args.ram.now c.args.self.now.root 1 (c.pages.number / 262144) ≡ Some c.in-Some.field-0 = sym c.in-Some.ensures in
    let table : table_at c.args.ram.now c.args.self.now.root 2 (c.pages.number / 512) ≡ Some c.in-Some-lower_table.field-0 = sym c.in-Some-lower_table.ensures in
    record {
      from = omega (arith, inv.from);
      in_range = omega (arith, c.pages-test.true);
      small = omega (arith, inv.small, inv.from, c.new_page-count.ensures.few);
      aligned = λ a b none. elim (cases_eq ((c.pages.number + 1) / 512) (c.pages.number / 512)) [
        | inl same ↦ let w : None ≡ Some c.in-Some-lower_table.field-0 = sym none ∙ ap (table_at c.args.ram.now c.args.self.now.root 2) same ∙ table in absurd (cc)
        | inr ne ↦ omega (arith, ne)
      ];
      span = λ a b none. elim (cases_eq ((c.pages.number + 1) / 262144) (c.pages.number / 262144)) [
        | inl same ↦ let w : None ≡ Some c.in-Some.field-0 = sym none ∙ ap (table_at c.args.ram.now c.args.self.now.root 1) same ∙ upper in absurd (cc)
        | inr ne ↦ omega (arith, ne)
      ];
      count = λ perm. omega (
        arith,
        inv.count perm,
        price-one c.args.ram.now c.args.self.now.root c.args.first c.pages.number c.args.self.now.size
            c.new_page-count.result c.in-Some-lower_table.field-0 (zeroed perm) c.requires.whole.tree c.requires.whole.full inv.from
            (omega (arith, c.pages-test.true, c.requires.limit)) table c.new_page-count.ensures.there c.new_page-count.ensures.new,
      );
    }

pub returns : goal.returns
returns c perm =
    let n : c.pages.number - c.args.first ≡ c.args.last - c.args.first = omega (arith, c.pages-test.false, c.pages.invariant.in_range) in
    sym (ap (λ m. cost (with_absent (pages_of c.args.ram.now c.args.self.now.root) c.args.first m (zeroed perm)) c.args.self.now.size) n) ∙ c.pages.invariant.count perm
