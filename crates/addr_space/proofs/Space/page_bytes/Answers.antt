use Rattle.addr_space.proofs.Prelude.{◌∙◌, ap, arith, frame_at, frame_of, page-owned, page_at, page_of, root-inside, sym}
use Rattle.addr_space.proofs.Pages.{page-is}
use Rattle.addr_space.proofs.Prices.{page-got}
use Rattle.addr_space.proofs.FromFrames.{no-page}
use Rattle.addr_space.proofs.Space.page_bytes.Goals as goal

pub entry_of_page-requires-clause-root_in : goal.entry_of_page-requires-clause-root_in
entry_of_page-requires-clause-root_in c = root-inside c.args.ram.now c.args.self.now.root c.requires.tree

pub frame-requires : goal.frame-requires
frame-requires c = c.requires.tree.once.inside c.in-Leaf.frame (page-owned c.args.ram.now c.args.self.now.root c.number.result c.in-Leaf.frame c.requires.tree (ap frame_of (sym c.in-Leaf.ensures)))

pub returns-clause-there : goal.returns-clause-there
returns-clause-there c =
    let ram = c.args.ram.now in
    let root = c.args.self.now.root in
    let page = page-is ram c.args.self.now c.number.result c.in-Leaf.frame c.in-Leaf.field-1 c.in-Leaf.field-2 c.in-Leaf.field-3 c.requires (sym c.in-Leaf.ensures) in (
      record { perm = c.in-Leaf.field-1; bytes = frame_at ram c.in-Leaf.frame },
      page-got ram root c.args.vpn (omega (arith, c.number.ensures.range))
          ∙ ap (page_at ram root) (sym c.number.ensures.value) ∙ page,
      c.frame.ensures,
    )

pub returns-in_default-clause-none : goal.returns-in_default-clause-none
returns-in_default-clause-none c =
    let ram = c.args.ram.now in
    let root = c.args.self.now.root in
    page-got ram root c.args.vpn (omega (arith, c.number.ensures.range)) ∙ ap (page_at ram root) (sym c.number.ensures.value)
    ∙ sym (ap (page_of ram) c.entry_of_page.ensures) ∙ no-page ram c.entry_of_page.result c.in_default.not-Leaf
