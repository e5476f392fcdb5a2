use Rattle.addr_space.proofs.Prelude.{◌∙◌, ap, arith, frame_of, image_of, page-owned, page_entry, page_of, root-inside, sym, with_page, zeroed}
use Rattle.addr_space.proofs.Copies.{came-page, no-leaf, page-copied}
use Rattle.addr_space.proofs.Space.copy_page.Goals as goal

pub entry_of_page-requires-clause-root_in : goal.entry_of_page-requires-clause-root_in
entry_of_page-requires-clause-root_in c = root-inside c.args.ram.now c.args.self.now.root c.requires.whole.tree

pub entry_of_page-requires-2-clause-root_in : goal.entry_of_page-requires-2-clause-root_in
entry_of_page-requires-2-clause-root_in c = root-inside c.map_zeroed.new.ram c.map_zeroed.new.self.root c.in-Ok.ensures.changed.whole.tree

pub unreachable-requires-in_default-entry_of_page : goal.unreachable-requires-in_default-entry_of_page
unreachable-requires-in_default-entry_of_page c =
    no-leaf c.map_zeroed.new.ram c.entry_of_page-2.result (zeroed c.in-Leaf.perm)
    (ap (page_of c.map_zeroed.new.ram) c.entry_of_page-2.ensures
    ∙ ap (λ u. page_of c.map_zeroed.new.ram (page_entry c.map_zeroed.new.ram c.map_zeroed.new.self.root u)) (sym c.new.ensures)
    ∙ came-page c.args.ram.now c.map_zeroed.new.ram c.args.child.now c.map_zeroed.new.self c.new.result
    (zeroed c.in-Leaf.perm) c.in-Ok.ensures.image (omega (arith, c.new.ensures, c.requires.page)))
    c.in_default-entry_of_page.not-Leaf

pub copy_frame-requires-clause-from_in : goal.copy_frame-requires-clause-from_in
copy_frame-requires-clause-from_in c = omega (
  arith,
  c.in-Ok.ensures.changed.traded.count,
  c.requires.whole.tree.once.inside c.in-Leaf.source
      (page-owned c.args.ram.now c.args.self.now.root c.args.number c.in-Leaf.source c.requires.whole.tree (ap frame_of (sym c.in-Leaf.ensures))),
)

pub copy_frame-requires-clause-to_in : goal.copy_frame-requires-clause-to_in
copy_frame-requires-clause-to_in c =
    let tree = c.in-Ok.ensures.changed.whole.tree in
    tree.once.inside c.in-Leaf-entry_of_page.target (page-owned c.map_zeroed.new.ram c.map_zeroed.new.self.root c.args.number
    c.in-Leaf-entry_of_page.target tree (ap frame_of (sym c.in-Leaf-entry_of_page.ensures)))

pub returns-clause-changed : goal.returns-clause-changed
returns-clause-changed c =
    (page-copied c.args.pool.now c.map_zeroed.new.pool c.args.ram.now c.map_zeroed.new.ram c.copy_frame.new.self c.args.self.now c.args.child.now
    c.map_zeroed.new.self c.args.number c.in-Leaf.source c.in-Leaf-entry_of_page.target c.in-Leaf.perm c.in-Leaf-entry_of_page.field-1
    c.in-Leaf.field-2 c.in-Leaf.field-3 c.in-Leaf-entry_of_page.field-2 c.in-Leaf-entry_of_page.field-3
    c.requires.whole c.requires.belongs c.requires.apart c.requires.page (sym c.in-Leaf.ensures) c.in-Ok.ensures.changed
    (c.in-Ok.ensures.image ∙ ap (λ u. with_page (image_of c.args.ram.now c.args.child.now) u (zeroed c.in-Leaf.perm)) c.new.ensures)
    (sym c.in-Leaf-entry_of_page.ensures) c.copy_frame.ensures).0

pub returns-clause-image : goal.returns-clause-image
returns-clause-image c =
    (page-copied c.args.pool.now c.map_zeroed.new.pool c.args.ram.now c.map_zeroed.new.ram c.copy_frame.new.self c.args.self.now c.args.child.now
    c.map_zeroed.new.self c.args.number c.in-Leaf.source c.in-Leaf-entry_of_page.target c.in-Leaf.perm c.in-Leaf-entry_of_page.field-1
    c.in-Leaf.field-2 c.in-Leaf.field-3 c.in-Leaf-entry_of_page.field-2 c.in-Leaf-entry_of_page.field-3
    c.requires.whole c.requires.belongs c.requires.apart c.requires.page (sym c.in-Leaf.ensures) c.in-Ok.ensures.changed
    (c.in-Ok.ensures.image ∙ ap (λ u. with_page (image_of c.args.ram.now c.args.child.now) u (zeroed c.in-Leaf.perm)) c.new.ensures)
    (sym c.in-Leaf-entry_of_page.ensures) c.copy_frame.ensures).1
