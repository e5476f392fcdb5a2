use Rattle.kcall_core.proofs.Prelude.{◌∙◌, absent-not-there, ap, arith, each_of, free_of, get, held_at, Image, image_of, List, Memory, None, Option, price, refl, set, Some, Space, sym, with_page}
use Rattle.kcall_core.proofs.Prelude.{zeroed}
use Rattle.std.specs.Vec.{with_item}
use Rattle.kcall_core.proofs.memory.Changes.{there-below, there-some, stands, belongs-of, image-seen, space-changes}
use Rattle.kcall_core.proofs.memory.Lists.{set-twice, set-read}
use Rattle.kcall_core.proofs.memory.Vectors.{memories-back, vec-same}
use Rattle.kcall_core.proofs.memory.Runs.{grown-runs}
use Rattle.kcall_core.proofs.memory.Written.{bring-seen, if-fine, if-refused}
use Rattle.kcall_core.proofs.memories.Memories.bring_page.Goals as goal

pub index_mut-requires : goal.index_mut-requires
index_mut-requires c = there-below _ _ c.requires.there

pub unreachable-requires : goal.unreachable-requires
unreachable-requires c = there-some _ _ c.index_mut.result.now c.requires.there c.index_mut.ensures.value (sym c.take.ensures.value ∙ c.in_default.is)

pub map_zeroed-came-requires-clause-belongs : goal.map_zeroed-came-requires-clause-belongs
map_zeroed-came-requires-clause-belongs c =
    belongs-of (stands c.index_mut.result.now c.in-Some.memory c.requires.sound c.requires.there c.index_mut.ensures.value
    (sym c.take.ensures.value ∙ c.in-Some.is))

pub map_zeroed-came-requires-clause-absent : goal.map_zeroed-came-requires-clause-absent
map_zeroed-came-requires-clause-absent c =
    let s = stands c.index_mut.result.now c.in-Some.memory c.requires.sound c.requires.there c.index_mut.ensures.value (sym c.take.ensures.value ∙ c.in-Some.is) in
    ap (λ (i : Image). get i.pages c.args.vpn) (sym (image-seen s)) ∙ absent-not-there (held_at (each_of c.args.self.now) c.args.slot).image c.args.vpn c.requires.absent

pub index_mut-requires-2 : goal.index_mut-requires-2
index_mut-requires-2 c = there-below _ _ c.requires.there

pub returns-clause-brought : goal.returns-clause-brought
returns-clause-brought c _ =
    let s = stands c.index_mut.result.now c.in-Some.memory c.requires.sound c.requires.there c.index_mut.ensures.value (sym c.take.ensures.value ∙ c.in-Some.is) in
    let came = c.map_zeroed-came.result in
    let fine = sym c.is_ok-is_there.ensures.value ∙ c.if-not-is_there.false in
    space-changes _ c.map_zeroed-came.new.self _ s (if-fine came fine c.map_zeroed-came.ensures.changed)
    (if-fine came fine c.map_zeroed-came.ensures.image
    ∙ ap (λ p. with_page (image_of c.args.self.now.ram c.in-Some.memory.space) c.args.vpn (zeroed p)) c.data.ensures
    ∙ bring-seen s c.args.vpn c.requires.absent)
    (set-twice c.args.self.now.each.items c.args.slot c.take.new.self (Some record { space = c.map_zeroed-came.new.self; trapframe = c.in-Some.memory.trapframe })) refl

pub returns-clause-runs : goal.returns-clause-runs
returns-clause-runs c hart r =
    let s = stands c.index_mut.result.now c.in-Some.memory c.requires.sound c.requires.there c.index_mut.ensures.value (sym c.take.ensures.value ∙ c.in-Some.is) in
    grown-runs _ _ c.map_zeroed-came.new.self s c.map_zeroed-came.result c.map_zeroed-came.ensures.changed c.map_zeroed-came.ensures.translations c.map_zeroed-came.ensures.refused
    (set-twice c.args.self.now.each.items c.args.slot c.take.new.self (Some record { space = c.map_zeroed-came.new.self; trapframe = c.in-Some.memory.trapframe })) hart r

pub returns-then-not-is_there-clause-refused : goal.returns-then-not-is_there-clause-refused
unfolding free_of
returns-then-not-is_there-clause-refused c _ =
    let s = stands c.index_mut.result.now c.in-Some.memory c.requires.sound c.requires.there c.index_mut.ensures.value (sym c.take.ensures.value ∙ c.in-Some.is) in
    let h = if-refused c.map_zeroed-came.result (sym c.is_ok-is_there.ensures.value ∙ c.if-not-is_there.true) c.map_zeroed-came.ensures.refused in
    let old = c.args.self.now in
    let items = old.each.items in
    let put : Space → List (Option Memory) = λ x. set items c.args.slot (Some record { space = x; trapframe = c.in-Some.memory.trapframe }) in
    let back = set-twice items c.args.slot c.take.new.self
    (Some record { space = c.map_zeroed-came.new.self; trapframe = c.in-Some.memory.trapframe }) ∙ ap put h.1.same_space
    ∙ set-read items c.args.slot (Some c.in-Some.memory) None s.inside s.is in
    let set_back = with_item (with_item old.each c.args.slot c.take.new.self) c.args.slot (Some record { space = c.map_zeroed-came.new.self; trapframe = c.in-Some.memory.trapframe }) in
    let brought = ap (λ p. with_page (image_of old.ram c.in-Some.memory.space) c.args.vpn (zeroed p)) c.data.ensures ∙ bring-seen s c.args.vpn c.requires.absent in (
      omega (arith, h.0, ap price (image-seen s), ap price brought),
      memories-back old _ _ _ _ h.1.same_ram h.1.same_pool (vec-same old.each set_back.items set_back.ok back),
    )
