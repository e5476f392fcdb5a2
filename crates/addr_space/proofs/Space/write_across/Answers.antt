use Rattle.addr_space.proofs.Prelude.{◌*◌, ◌+◌, ◌/◌, ◌≡◌, ◌≤◌, arith, frames_of, has-write_image, HasPage, image_of, length, rules, subst, sym, take, write_image-nil}
use Rattle.addr_space.proofs.Isolation.{spared}
use Rattle.addr_space.proofs.InPlace.{page-small, in_place-none, in_place-join}
use Rattle.addr_space.proofs.Freeing.{changed-none, changed-join}
use Rattle.addr_space.proofs.Trades.{belongs-after}
use Rattle.addr_space.proofs.Parts.{write-more}
use Rattle.addr_space.proofs.Space.write_across.Goals as goal

pub parts-init : goal.parts-init
parts-init c = (
  omega arith,
  sym (write_image-nil (image_of c.args.ram.now c.args.self.now) c.args.address),
  in_place-none c.args.ram.now c.args.self.now c.requires.whole,
  λ pool b. changed-none pool c.args.ram.now c.args.self.now b,
)

pub overflow_add-place : goal.overflow_add-place
overflow_add-place c = omega (arith, page-small c.args.ram.now c.args.self.now ((c.args.address + c.parts.done) / 4096) (c.requires.there c.parts.done (omega arith)))

pub of_address-vpn-requires : goal.of_address-vpn-requires
of_address-vpn-requires c = omega (arith, page-small c.args.ram.now c.args.self.now ((c.args.address + c.parts.done) / 4096) (c.requires.there c.parts.done (omega arith)))

pub write_page-requires-clause-there : goal.write_page-requires-clause-there
write_page-requires-clause-there c =
    let v = (c.args.address + c.parts.done) / 4096 in
    subst (λ w. HasPage (image_of c.parts.ram c.args.self.now) w) (sym c.of_address-vpn.ensures)
    (subst (λ i. HasPage i v) (sym c.parts.invariant.1)
    (has-write_image (take c.parts.done c.args.bytes.now) (image_of c.args.ram.now c.args.self.now) c.args.address v (c.requires.there c.parts.done (omega arith))))

pub parts-preserved : goal.parts-preserved
parts-preserved c =
    let ram = c.args.ram.now in
    let self = c.args.self.now in
    let a = c.args.address in
    let d = c.parts.done in
    let n = c.min-part.result in
    let fits : c.parts.done + c.min-part.result ≤ length c.args.bytes.now = search rules in
    let place : 4096 * c.of_address-vpn.result + c.page_offset-at.result ≡ a + d = omega (arith, c.of_address-vpn.ensures, c.page_offset-at.ensures.value) in (
      fits,
      write-more (image_of ram self) (image_of c.parts.ram self) (image_of c.write_page.new.ram self) a d n
          (4096 * c.of_address-vpn.result + c.page_offset-at.result) c.args.bytes.now c.parts.invariant.1 fits place c.write_page.ensures.written,
      in_place-join ram c.parts.ram c.write_page.new.ram self c.parts.invariant.2 c.write_page.ensures.in_place,
      λ pool b. changed-join pool pool pool ram c.parts.ram c.write_page.new.ram self self self (c.parts.invariant.3 pool b)
          (c.write_page.ensures.changed pool (belongs-after pool pool ram c.parts.ram self self b (c.parts.invariant.3 pool b))),
    )

pub returns-clause-belongs : goal.returns-clause-belongs
returns-clause-belongs c pool b = belongs-after pool pool c.args.ram.now c.parts.ram c.args.self.now c.args.self.now b (c.parts.invariant.3 pool b)

pub returns-clause-others : goal.returns-clause-others
returns-clause-others c pool b other s =
    let ram = c.args.ram.now in
    let self = c.args.self.now in
    spared pool pool ram c.parts.ram (frames_of ram self) (frames_of c.parts.ram self) other (c.parts.invariant.3 pool b).traded s
