use Rattle.addr_space.proofs.Prelude.{◌%◌, ◌+◌, ◌/◌, ◌∙◌, ◌≡◌, ap, arith, cases_lt, entry_at, entry_permits, get, image_of, inl, inr, None, page_permits, root-inside, Some, sym, table-owned, table_at}
use Rattle.addr_space.proofs.Permits.{page-permitted, page-refused}
use Rattle.addr_space.proofs.Space.pages_permitting.Goals as goal

pub lower_table-requires-clause-root_in : goal.lower_table-requires-clause-root_in
lower_table-requires-clause-root_in c = root-inside c.args.ram.now c.args.self.now.root c.requires.tree

pub entries_permitting-requires-clause-table_in : goal.entries_permitting-requires-clause-table_in
entries_permitting-requires-clause-table_in c = c.requires.tree.once.inside c.in-Some.lower
    (table-owned c.args.ram.now c.args.self.now.root 2 (c.number-number.result / 512) c.in-Some.lower c.requires.tree (omega arith) (sym c.in-Some.ensures))

pub returns-in_default-clause-ends : goal.returns-in_default-clause-ends
returns-in_default-clause-ends c = λ _.
    let value = c.number-number.ensures.value in
    let none : table_at c.args.ram.now c.args.self.now.root 2 (c.args.vpn / 512) ≡ None = ap (λ x. table_at c.args.ram.now c.args.self.now.root 2 (x / 512)) (sym value) ∙ sym c.in_default.ensures in
    let here : c.args.vpn + 0 ≡ c.args.vpn = omega arith in
    inr (ap (λ x. page_permits c.args.access (get (image_of c.args.ram.now c.args.self.now).pages x)) here
    ∙ page-refused c.args.ram.now c.args.self.now c.args.access c.args.vpn c.requires (omega (arith, value, c.number-number.ensures.range)) none)

pub returns-clause-each : goal.returns-clause-each
returns-clause-each c = λ k lt.
    let value = c.number-number.ensures.value in
    let found : table_at c.args.ram.now c.args.self.now.root 2 (c.args.vpn / 512) ≡ Some c.in-Some.lower =
    ap (λ x. table_at c.args.ram.now c.args.self.now.root 2 (x / 512)) (sym value) ∙ sym c.in-Some.ensures in
    let inside = c.entries_permitting.ensures.inside in
    let from : c.args.vpn % 512 ≡ c.lower_index.result = ap (λ x. x % 512) (sym value) ∙ sym c.lower_index.ensures in
    page-permitted c.args.ram.now c.args.self.now c.args.access c.args.vpn c.in-Some.lower k c.requires (omega (arith, value, c.number-number.ensures.range)) found (omega (arith, from, inside, lt))
    ∙ ap (λ x. entry_permits c.args.access (entry_at c.args.ram.now c.in-Some.lower (x + k))) from
    ∙ c.entries_permitting.ensures.each k lt

pub returns-clause-ends : goal.returns-clause-ends
returns-clause-ends c = λ lt.
    let value = c.number-number.ensures.value in
    let found : table_at c.args.ram.now c.args.self.now.root 2 (c.args.vpn / 512) ≡ Some c.in-Some.lower =
    ap (λ x. table_at c.args.ram.now c.args.self.now.root 2 (x / 512)) (sym value) ∙ sym c.in-Some.ensures in
    let inside = c.entries_permitting.ensures.inside in
    let from : c.args.vpn % 512 ≡ c.lower_index.result = ap (λ x. x % 512) (sym value) ∙ sym c.lower_index.ensures in
    let n = c.entries_permitting.result in
    elim (c.entries_permitting.ensures.ends lt) [
      | inl full ↦ inl (omega (arith, from, full))
      | inr refused ↦ elim (cases_lt (c.args.vpn % 512 + n) 512) [
        | inl within ↦ inr (page-permitted c.args.ram.now c.args.self.now c.args.access c.args.vpn c.in-Some.lower n c.requires (omega (arith, value, c.number-number.ensures.range)) found within
            ∙ ap (λ x. entry_permits c.args.access (entry_at c.args.ram.now c.in-Some.lower (x + n))) from ∙ refused)
        | inr beyond ↦ inl (omega (arith, from, inside, beyond))
      ]
    ]
