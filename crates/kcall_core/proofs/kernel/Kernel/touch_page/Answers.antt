use Rattle.kcall_core.proofs.Prelude.{◌+◌, ◌/◌, ◌<◌, ◌≡◌, arith, bring, brought, each_of, false, free_of, held_at, inl, inr, is_absent, price, SlotChanges, Some, subst, sym, true, with_image}
use Rattle.kcall_core.proofs.making.Touching.{page-came, page-absent, page-dear}
use Rattle.kcall_core.proofs.kernel.Kernel.touch_page.Goals as goal

pub returns-in_default-clause-refused : goal.returns-in_default-clause-refused
returns-in_default-clause-refused c e h whole = inl (page-absent whole c.running_slot-slot.ensures.is (c.args.address / 4096) false c.in_default.ensures.present)

pub bring_page-requires-clause-absent : goal.bring_page-requires-clause-absent
bring_page-requires-clause-absent c =
    let held = held_at (each_of c.args.self.now.memories) c.running_slot-slot.result in
    subst (λ v. is_absent held.image v ≡ true) (sym c.in-Some.ensures.absent.0) c.in-Some.ensures.absent.1

pub returns-clause-touched : goal.returns-clause-touched
unfolding brought
returns-clause-touched c e h whole =
    let held = held_at (each_of c.args.self.now.memories) c.running_slot-slot.result in
    page-came whole c.running_slot-slot.ensures.is c.args.address
    (subst (λ v. SlotChanges c.args.self.now.memories c.bring_page.new.self c.running_slot-slot.result (Some (with_image (bring v held.image) held)))
    c.in-Some.ensures.absent.0 (c.bring_page.ensures.brought e))
    c.bring_page.ensures.runs

pub returns-clause-absent : goal.returns-clause-absent
returns-clause-absent c e h whole = page-absent whole c.running_slot-slot.ensures.is (c.args.address / 4096) true c.in-Some.ensures.absent.1

pub returns-clause-refused : goal.returns-clause-refused
unfolding brought
returns-clause-refused c e h whole =
    let image = (held_at (each_of c.args.self.now.memories) c.running_slot-slot.result).image in
    let dear = subst (λ v. price image + free_of c.args.self.now.memories < price (bring v image)) c.in-Some.ensures.absent.0 (c.bring_page.ensures.refused e).0 in
    inr (page-dear whole c.running_slot-slot.ensures.is c.args.address (omega (arith, dear)))
