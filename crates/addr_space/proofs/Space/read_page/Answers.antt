use Rattle.addr_space.proofs.Prelude.{ℕ, ◌+◌, ◌-◌, ◌∙◌, ◌≡◌, ap, arith, drop, frame_at, frame_of, length, List, Page, page-owned, page_of, root-inside, same_Some, sym, take}
use Rattle.addr_space.proofs.Pages.{page-is}
use Rattle.addr_space.proofs.Copies.{no-leaf, there-at}
use Rattle.addr_space.proofs.Space.read_page.Goals as goal

pub entry_of_page-requires-clause-root_in : goal.entry_of_page-requires-clause-root_in
entry_of_page-requires-clause-root_in c = root-inside c.args.ram.now c.args.self.now.root c.requires.whole.tree

pub frame-bytes-requires : goal.frame-bytes-requires
frame-bytes-requires c = c.requires.whole.tree.once.inside c.in-Leaf.frame
    (page-owned c.args.ram.now c.args.self.now.root c.number.result c.in-Leaf.frame c.requires.whole.tree (ap frame_of (sym c.in-Leaf.ensures)))

pub unreachable-requires : goal.unreachable-requires
unreachable-requires c =
    let root = c.args.self.now.root in
    no-leaf c.args.ram.now c.entry_of_page.result c.requires.there.0
    (ap (page_of c.args.ram.now) c.entry_of_page.ensures
    ∙ there-at c.args.ram.now root c.args.vpn c.number.result c.requires.there.0 c.number.ensures.range c.number.ensures.value
    c.requires.there.1) c.in_default.not-Leaf

abbrev bytes_of : Page → List ℕ
bytes_of page = page.bytes

pub returns : goal.returns
returns c page there =
    let ram = c.args.ram.now in
    let self = c.args.self.now in
    let f = c.in-Leaf.frame in
    let at = c.args.at in
    let n = length c.args.out.now in
    let reached = sym (page-is ram self c.number.result f c.in-Leaf.field-1 c.in-Leaf.field-2 c.in-Leaf.field-3 c.requires.whole
    (sym c.in-Leaf.ensures)) ∙ there-at ram self.root c.args.vpn c.number.result page c.number.ensures.range c.number.ensures.value there in
    let same = same_Some {A = Page} (record { perm = c.in-Leaf.field-1; bytes = frame_at ram f }) page reached in
    let count : at + n - at ≡ n = omega arith in
    c.copy_from_slice.ensures.after ∙ ap (λ k. take k (drop at c.frame-bytes.result.now)) count ∙ ap (λ b. take n (drop at b)) (c.frame-bytes.ensures ∙ ap bytes_of same)
