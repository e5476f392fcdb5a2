use Rattle.addr_space.proofs.Prelude.{ℕ, ◌%◌, ◌/◌, ◌<◌, ◌∙◌, ◌≡◌, ap, below, below-some, Entry, entry_at, entry_of-table, Invalid, Leaf, length, List, Some, sym, Table, table_at, table_of}
use Rattle.addr_space.proofs.next_page.Goals as goal

-- a table that an entry leads to lies in RAM
table-inside : (ram : List (List ℕ)) (root v f : ℕ) → table_at ram root 2 (v / 512) ≡ Some f → f < length ram
table-inside ram root v f found =
    let upper = below-some ram (table_at ram root 1 (v / 512 / 512)) (v / 512 % 512) f found in
    let entry : table_of (entry_at ram upper.0 (v / 512 % 512)) ≡ Some f = sym (ap (λ t. below ram t (v / 512 % 512)) upper.1) ∙ found in
    entry_of-table _ _ _ (is-table (entry_at ram upper.0 (v / 512 % 512)) entry)
  where
    is-table : (e : Entry) → table_of e ≡ Some f → e ≡ Table f
    is-table Invalid h = absurd (cc)
    is-table (Table g) h = let same : g ≡ f = cc in ap Table same
    is-table (Leaf g r a d) h = absurd (cc)

pub next_leaf-index-requires-clause-table_in : goal.next_leaf-index-requires-clause-table_in
next_leaf-index-requires-clause-table_in c = table-inside c.args.ram.now c.args.root c.pages.number c.in-Some-lower_table.lower (sym c.in-Some-lower_table.ensures)
