use Rattle.addr_space.proofs.Prelude.{ℕ, ◌+◌, ◌-◌, ◌/◌, ◌∙◌, ◌≡◌, ◌≤◌, ap, arith, List, missing, None, Option, page_at, PageAdded, refl, rise, root-inside, Some, subst, table_at, zeroed}
use Rattle.addr_space.proofs.Mapping.{absent-at, costs, mapped, image-more, small-counts, needs-some}
use Rattle.addr_space.proofs.Isolation.{spared}
use Rattle.addr_space.proofs.Translations.{page-more-stays}
use Rattle.addr_space.proofs.Trades.{trade-added, belongs-after}
use Rattle.addr_space.proofs.Space.map_zeroed.Goals as goal

pub frames_for-needed-requires-clause-root_in : goal.frames_for-needed-requires-clause-root_in
frames_for-needed-requires-clause-root_in c = root-inside c.args.ram.now c.args.self.now.root c.requires.belongs.whole.tree

pub returns-then-free-needed-clause-refused : goal.returns-then-free-needed-clause-refused
returns-then-free-needed-clause-refused c =
    let e : c.frames_for-needed.result ≡ rise c.args.ram.now c.args.self.now.root c.args.vpn = c.frames_for-needed.ensures
    ∙ ap (rise c.args.ram.now c.args.self.now.root) c.number-number.ensures.value in
    let cost = costs c.args.ram.now c.args.self.now c.args.vpn c.frames_for-needed.result
    (zeroed c.args.perm) c.requires.belongs.whole c.number-number.ensures.range
    (absent-at c.args.ram.now c.args.self.now.root c.args.vpn c.number-number.ensures.range c.requires.absent) e in
    (omega (arith, cost, c.if-free-needed.true, c.free.ensures c.args.ram.now c.requires.belongs.good), record { same_pool = refl; same_ram = refl; same_space = refl })

pub add_page-requires-clause-absent : goal.add_page-requires-clause-absent
add_page-requires-clause-absent c = ap (page_at c.args.ram.now c.args.self.now.root) c.number-number.ensures.value
    ∙ absent-at c.args.ram.now c.args.self.now.root c.args.vpn c.number-number.ensures.range c.requires.absent

pub add_page-requires-clause-room : goal.add_page-requires-clause-room
add_page-requires-clause-room c = omega (arith, c.if-free-needed.false, c.frames_for-needed.ensures, c.free.ensures c.args.ram.now c.requires.belongs.good)

pub overflow_add-self : goal.overflow_add-self
overflow_add-self c = omega (arith, small-counts c.args.ram.now c.args.self.now c.requires.belongs.whole, c.requires.belongs.good.small)

pub overflow_sub-self : goal.overflow_sub-self
overflow_sub-self c = needs-some c.args.ram.now c.args.self.now.root c.number-number.result c.frames_for-needed.result c.frames_for-needed.ensures

rise-few : (ram : List (List ℕ)) (root v : ℕ) → rise ram root v ≤ 3
unfolding rise
rise-few ram root v = few (table_at ram root 2 (v / 512)) (table_at ram root 1 (v / 262144))
  where
    few : (a b : Option ℕ) → 1 + (missing a + missing b) ≤ 3
    few None None = omega arith
    few None (Some y) = omega arith
    few (Some x) None = omega arith
    few (Some x) (Some y) = omega arith

pub overflow_add-self-2 : goal.overflow_add-self-2
overflow_add-self-2 c = omega (
  arith,
  small-counts c.args.ram.now c.args.self.now c.requires.belongs.whole,
  c.requires.belongs.good.small,
  c.frames_for-needed.ensures,
  rise-few c.args.ram.now c.args.self.now.root c.number-number.result,
)

pub returns-clause-changed : goal.returns-clause-changed
returns-clause-changed c =
    let n = c.number-number.result in
    let absent = ap (page_at c.args.ram.now c.args.self.now.root) c.number-number.ensures.value
    ∙ absent-at c.args.ram.now c.args.self.now.root c.args.vpn c.number-number.ensures.range c.requires.absent in
    mapped _ _ c.args.ram.now c.add_page.new.ram c.args.self.now n c.add_page.ensures.there.0 c.frames_for-needed.result c.max-self.result
    c.args.perm c.requires.belongs.whole (omega (arith, c.number-number.ensures.value, c.number-number.ensures.range)) absent
    c.frames_for-needed.ensures c.max-self.ensures c.add_page.ensures.added c.add_page.ensures.beside c.add_page.ensures.there.1

pub returns-clause-belongs : goal.returns-clause-belongs
returns-clause-belongs c = belongs-after _ _ _ _ _ _ c.requires.belongs (returns-clause-changed c)

pub returns-clause-image : goal.returns-clause-image
returns-clause-image c =
    image-more _ _ c.args.ram.now c.add_page.new.ram c.args.self.now c.args.vpn (c.args.self.now.pages + 1)
    (c.args.self.now.tables + (c.frames_for-needed.result - 1)) c.args.perm
    (subst (λ u. PageAdded c.args.pool.now c.args.ram.now c.add_page.new.pool c.add_page.new.ram c.args.self.now.root u c.args.perm)
    c.number-number.ensures.value c.add_page.ensures.added)

pub returns-clause-translations : goal.returns-clause-translations
returns-clause-translations c =
    let absent = ap (page_at c.args.ram.now c.args.self.now.root) c.number-number.ensures.value
    ∙ absent-at c.args.ram.now c.args.self.now.root c.args.vpn c.number-number.ensures.range c.requires.absent in
    page-more-stays c.args.ram.now c.add_page.new.ram c.args.self.now.root c.number-number.result absent c.add_page.ensures.beside

pub returns-clause-fits : goal.returns-clause-fits
returns-clause-fits c =
    let e : c.frames_for-needed.result ≡ rise c.args.ram.now c.args.self.now.root c.args.vpn = c.frames_for-needed.ensures
    ∙ ap (rise c.args.ram.now c.args.self.now.root) c.number-number.ensures.value in
    let cost = costs c.args.ram.now c.args.self.now c.args.vpn c.frames_for-needed.result
    (zeroed c.args.perm) c.requires.belongs.whole c.number-number.ensures.range
    (absent-at c.args.ram.now c.args.self.now.root c.args.vpn c.number-number.ensures.range c.requires.absent) e in
    omega (arith, cost, c.if-free-needed.false, c.free.ensures c.args.ram.now c.requires.belongs.good)

pub returns-clause-others : goal.returns-clause-others
returns-clause-others c other s = spared _ _ _ _ _ _ other
    (trade-added c.args.pool.now c.add_page.new.pool c.args.ram.now c.add_page.new.ram c.args.self.now.root c.number-number.result c.args.perm
    c.add_page.ensures.added) s
