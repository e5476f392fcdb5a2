use Rattle.kcall_core.proofs.Prelude.{◌/◌, ◌∙◌, ap, arith, each_of, held_at, high-present, Image, image_of, is_absent, sym}
use Rattle.kcall_core.proofs.memory.Changes.{image-seen}
use Rattle.kcall_core.proofs.memory.Written.{whole-of, size-seen}
use Rattle.kcall_core.proofs.memories.Memories.absent_page.Goals as goal

pub returns-then-address-ge-ADDRESS_END-clause-present : goal.returns-then-address-ge-ADDRESS_END-clause-present
returns-then-address-ge-ADDRESS_END-clause-present c =
    high-present (held_at (each_of c.args.self.now) c.args.slot).image (c.args.address / 4096) (size-seen c.memory-memory.ensures) (omega (arith, c.if-address-ge-ADDRESS_END.true))

pub absent-requires : goal.absent-requires
absent-requires c = whole-of c.memory-memory.ensures

pub returns-then-not-absent-clause-present : goal.returns-then-not-absent-clause-present
returns-then-not-absent-clause-present c =
    ap (λ (i : Image). is_absent i (c.args.address / 4096)) (image-seen c.memory-memory.ensures)
    ∙ sym (ap (is_absent (image_of c.args.self.now.ram c.memory-memory.result.now.space)) c.of_address-vpn.ensures) ∙ sym c.absent.ensures ∙ c.if-not-absent.true

pub returns-clause-absent : goal.returns-clause-absent
returns-clause-absent c = (
  c.of_address-vpn.ensures,
  ap (λ (i : Image). is_absent i (c.args.address / 4096)) (image-seen c.memory-memory.ensures)
      ∙ sym (ap (is_absent (image_of c.args.self.now.ram c.memory-memory.result.now.space)) c.of_address-vpn.ensures) ∙ sym c.absent.ensures ∙ c.if-not-absent.false,
)
