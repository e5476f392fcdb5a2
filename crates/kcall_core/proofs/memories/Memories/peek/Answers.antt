use Rattle.kcall_core.proofs.Prelude.{◌/◌, ◌∙◌, ◌≡◌, ap, arith, byte_of, drop, get, image_of, None, Some, sym, take}
use Rattle.addr_space.proofs.Grown.{perm-none}
use Rattle.hart_core.proofs.Ends.{low-pages}
use Rattle.kcall_core.proofs.memory.Changes.{image-seen}
use Rattle.kcall_core.proofs.memory.Peeks.{byte-none, byte-some, some-page}
use Rattle.kcall_core.proofs.memories.Memories.peek.Goals as goal

pub returns-then-address-ge-ADDRESS_END : goal.returns-then-address-ge-ADDRESS_END
returns-then-address-ge-ADDRESS_END c =
    let s = c.memory-memory.ensures in
    let tree = (c.requires.sound.memories c.args.slot c.memory-memory.result.now s.is).space.tree in
    sym (ap (λ i. byte_of i c.args.address) (image-seen s) ∙ byte-none (image_of c.args.self.now.ram c.memory-memory.result.now.space) c.args.address
    (low-pages c.args.self.now.ram c.memory-memory.result.now.space.root tree (c.args.address / 4096)
    (omega (arith, c.if-address-ge-ADDRESS_END.true))))

pub perm-requires : goal.perm-requires
perm-requires c =
    let s = c.memory-memory.ensures in
    (c.requires.sound.memories c.args.slot c.memory-memory.result.now s.is).space

pub returns-in_default : goal.returns-in_default
returns-in_default c =
    let s = c.memory-memory.ensures in
    let pages = (image_of c.args.self.now.ram c.memory-memory.result.now.space).pages in
    let none : get pages (c.args.address / 4096) ≡ None = ap (get pages) (sym c.of_address-vpn.ensures) ∙ perm-none (get pages c.of_address-vpn.result) (sym c.perm.ensures ∙ c.in_default.is) in
    sym (ap (λ i. byte_of i c.args.address) (image-seen s) ∙ byte-none (image_of c.args.self.now.ram c.memory-memory.result.now.space) c.args.address none)

pub read_page-requires-clause-whole : goal.read_page-requires-clause-whole
read_page-requires-clause-whole c =
    let s = c.memory-memory.ensures in
    (c.requires.sound.memories c.args.slot c.memory-memory.result.now s.is).space

pub returns : goal.returns
returns c =
    let s = c.memory-memory.ensures in
    let pages = (image_of c.args.self.now.ram c.memory-memory.result.now.space).pages in
    let found = some-page (get pages c.of_address-vpn.result) c.in-Some._perm (sym c.perm.ensures ∙ c.in-Some.is) in
    let there : get pages (c.args.address / 4096) ≡ Some found.0 = ap (get pages) (sym c.of_address-vpn.ensures) ∙ found.1 in
    sym (ap (λ i. byte_of i c.args.address) (image-seen s) ∙ byte-some (image_of c.args.self.now.ram c.memory-memory.result.now.space) c.args.address
    found.0 c.read_page.new.out there (c.read_page.ensures found.0 found.1 ∙ ap (λ at. take 1 (drop at found.0.bytes)) c.page_offset.ensures.value))
