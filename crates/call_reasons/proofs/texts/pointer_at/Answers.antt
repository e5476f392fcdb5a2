use Rattle.std.proofs.Common.{◌∙◌, Some, None, cond, sym, ap, arith}
use Rattle.std.specs.Prelude.{length, map}
use Rattle.std.specs.List.{range_with_len}
use Rattle.std.proofs.lemmas.List.FromFn.{length-map-range_with_len}
use Rattle.byteorder.specs.Endian.{little_number}
use Rattle.xk_base.specs.declared.access.Access.TheVariants.{Load}
use Rattle.xk_base.specs.Words.{le}
use Rattle.kernel_spec.specs.views.State.{live}
use Rattle.call_reasons.specs.Shown.{facts_in}
use Rattle.call_reasons.proofs.Reading.{pointer_of, reached_low}
use Rattle.call_reasons.proofs.texts.pointer_at.Goals as goal

pub returns-then-not-reaches-clause-value : goal.returns-then-not-reaches-clause-value
returns-then-not-reaches-clause-value c =
    let f = facts_in c.args.machine.now.world.state c.args.pid in
    sym (ap (λ b. cond b (Some (le (map f.byte (range_with_len c.args.address 8)))) None) (sym c.reaches.ensures ∙ c.if-not-reaches.true))

pub pointer_bytes-bytes-requires : goal.pointer_bytes-bytes-requires
pointer_bytes-bytes-requires c = reached_low Load (live c.args.machine.now.world.state c.args.pid) c.args.address 8 (omega arith) (sym c.reaches.ensures ∙ c.if-not-reaches.false)

pub read_u64-requires : goal.read_u64-requires
read_u64-requires c =
    let f = facts_in c.args.machine.now.world.state c.args.pid in
    omega (arith, ap length (c.as_slice.ensures.value ∙ c.pointer_bytes-bytes.ensures), length-map-range_with_len f.byte c.args.address 8)

pub returns-clause-value : goal.returns-clause-value
returns-clause-value c =
    let f = facts_in c.args.machine.now.world.state c.args.pid in
    ap Some (c.read_u64.ensures ∙ ap (little_number 8) (c.as_slice.ensures.value ∙ c.pointer_bytes-bytes.ensures) ∙ pointer_of f.byte c.args.address)
    ∙ sym (ap (λ b. cond b (Some (le (map f.byte (range_with_len c.args.address 8)))) None) (sym c.reaches.ensures ∙ c.if-not-reaches.false))

pub returns-clause-low : goal.returns-clause-low
returns-clause-low c = reached_low Load (live c.args.machine.now.world.state c.args.pid) c.args.address 8 (omega arith) (sym c.reaches.ensures ∙ c.if-not-reaches.false)
