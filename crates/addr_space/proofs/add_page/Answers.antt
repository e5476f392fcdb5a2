use Rattle.addr_space.proofs.Prelude.{ℕ, ◌%◌, ◌*◌, ◌+◌, ◌/◌, ◌∙◌, ◌≡◌, ◌≤◌, ap, arith, Beside, Leaf, List, missing, None, page_at, page_entry, PageAdded, Placing, rise, subst, sym, table-owned}
use Rattle.addr_space.proofs.Prelude.{table_at, true}
use Rattle.addr_space.proofs.Steps.{place-page, same-then-added, absent-after}
use Rattle.addr_space.proofs.Paths.{beside-join, place-beside}
use Rattle.addr_space.proofs.add_page.Goals.{After-place}
use Rattle.addr_space.proofs.add_page.Goals as goal

-- the free frames suffice for the page and the tables on the way to it
enough : (ram : List (List ℕ)) (root v free : ℕ) → rise ram root v ≤ free → 1 + (missing (table_at ram root 2 (v / 512)) + missing (table_at ram root 1 (v / 262144))) ≤ free
unfolding rise
enough ram root v free h = h

pub upper_for-upper-requires-clause-room : goal.upper_for-upper-requires-clause-room
upper_for-upper-requires-clause-room c none = omega (arith, enough _ _ _ _ c.requires.room)

pub lower_for-lower-requires-clause-room : goal.lower_for-lower-requires-clause-room
lower_for-lower-requires-clause-room c none =
    let gone : missing (table_at c.args.ram.now c.args.root 2 (c.args.number / 512)) ≡ 1 = ap missing (sym (c.upper_for-upper.ensures.lowers (c.args.number / 512)) ∙ none) in
    omega (arith, enough _ _ _ _ c.requires.room, gone, c.upper_for-upper.ensures.left)

pub place-requires-clause-some_free : goal.place-requires-clause-some_free
place-requires-clause-some_free c =
    omega (arith, enough _ _ _ _ c.requires.room, ap missing (c.upper_for-upper.ensures.lowers (c.args.number / 512)), c.upper_for-upper.ensures.left, c.lower_for-lower.ensures.left)

pub place-requires-clause-table_in : goal.place-requires-clause-table_in
place-requires-clause-table_in c =
    let tree = c.lower_for-lower.ensures.same.holds.tree in
    tree.once.inside c.lower_for-lower.result (table-owned c.lower_for-lower.new.ram c.args.root 2 (c.args.number / 512) c.lower_for-lower.result tree (omega arith) c.lower_for-lower.ensures.found)

-- the page that came, and what stayed beside it
record Came (c : After-place) : Type 0 where
  added : PageAdded c.args.pool.now c.args.ram.now c.place.new.pool c.place.new.ram c.args.root c.args.number c.args.perm
  beside : Beside c.args.ram.now c.place.new.ram c.args.root c.args.number
  there : page_entry c.place.new.ram c.args.root c.args.number ≡ Leaf c.place.ensures.placed.0 c.args.perm true true

came : (c : After-place) → Came c
came c =
    let n = c.args.number in
    let root = c.args.root in
    let v : 512 * (n / 512) + n % 512 ≡ n = omega arith in
    let same1 = c.upper_for-upper.ensures.same in
    let same2 = c.lower_for-lower.ensures.same in
    let absent : page_at c.args.ram.now root (512 * (n / 512) + n % 512) ≡ None = ap (page_at c.args.ram.now root) v ∙ c.requires.absent in
    let none = absent-after c.args.ram.now c.lower_for-lower.new.ram root (512 * (n / 512) + n % 512) (same2.image (512 * (n / 512) + n % 512) ∙ same1.image (512 * (n / 512) + n % 512)) absent in
    let placed = subst (λ i. Placing c.lower_for-lower.new.pool c.lower_for-lower.new.ram c.place.new.pool c.place.new.ram c.lower_for-lower.result i
    c.place.ensures.placed.0 c.args.perm) c.lower_index.ensures c.place.ensures.placed.1 in
    let added = place-page c.lower_for-lower.new.pool c.place.new.pool c.lower_for-lower.new.ram c.place.new.ram root c.lower_for-lower.result
    (n % 512) c.place.ensures.placed.0 (n / 512) c.args.perm same2.holds placed c.place.ensures.allowed
    (omega arith) c.lower_for-lower.ensures.found none in
    let whole = same-then-added _ _ _ _ _ _ root (512 * (n / 512) + n % 512) c.args.perm same1 (same-then-added _ _ _ _ _ _ root (512 * (n / 512) + n % 512) c.args.perm same2 added) in
    let last = place-beside c.lower_for-lower.new.pool c.place.new.pool c.lower_for-lower.new.ram c.place.new.ram root c.lower_for-lower.result
    (n % 512) c.place.ensures.placed.0 (n / 512) c.args.perm same2.holds placed c.place.ensures.allowed (omega arith) c.lower_for-lower.ensures.found in
    let last' : Beside c.lower_for-lower.new.ram c.place.new.ram root n = subst (λ u. Beside c.lower_for-lower.new.ram c.place.new.ram root u) v last.0 in
    record {
      added = subst (λ u. PageAdded c.args.pool.now c.args.ram.now c.place.new.pool c.place.new.ram root u c.args.perm) v whole;
      beside = beside-join _ _ _ root n (beside-join _ _ _ root n c.upper_for-upper.ensures.beside c.lower_for-lower.ensures.beside) last';
      there = ap (page_entry c.place.new.ram root) (sym v) ∙ last.1;
    }

pub returns-clause-added : goal.returns-clause-added
returns-clause-added c = (came c).added

pub returns-clause-beside : goal.returns-clause-beside
returns-clause-beside c = (came c).beside

pub returns-clause-there : goal.returns-clause-there
returns-clause-there c = (c.place.ensures.placed.0, (came c).there)
