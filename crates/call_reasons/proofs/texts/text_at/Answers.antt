use Rattle.std.proofs.Common.{◌+◌, ◌∙◌, sym, subst, arith, rules}
use Rattle.call_reasons.specs.Shown.{facts_in}
use Rattle.call_reasons.proofs.Reading.{Reads, all_read, end_read, none_read, one_read, reads_first}
use Rattle.call_reasons.proofs.texts.text_at.Goals as goal

pub loop-done-init : goal.loop-done-init
loop-done-init c =
    let f = facts_in c.args.machine.now.world.state c.args.pid in (
      subst (λ items. Reads f c.args.limit c.args.address 0 items) (sym c.new-text.ensures) (reads_first f c.args.limit c.args.address),
      search rules,
      omega (arith, c.ranges.address.fits),
    )

pub returns-in_default-clause-none : goal.returns-in_default-clause-none
returns-in_default-clause-none c =
    let f = facts_in c.args.machine.now.world.state c.args.pid in
    none_read f c.args.limit c.args.address c.loop-done.done _ c.loop-done.invariant.0 c.loop-done-test.true (sym c.byte_at.ensures.value ∙ c.in_default.is)

pub returns-then-byte-eq0-clause-found : goal.returns-then-byte-eq0-clause-found
returns-then-byte-eq0-clause-found c =
    let f = facts_in c.args.machine.now.world.state c.args.pid in
    end_read f c.args.limit c.args.address c.loop-done.done _ c.loop-done.invariant.0 c.in-Some.byte c.loop-done-test.true (sym c.byte_at.ensures.value ∙ c.in-Some.is) c.if-byte-eq0.true

pub loop-done-preserved : goal.loop-done-preserved
loop-done-preserved c =
    let f = facts_in c.args.machine.now.world.state c.args.pid in (
      subst (λ items. Reads f c.args.limit c.args.address (c.loop-done.done + 1) items) (sym c.push.ensures.items)
          (one_read f c.args.limit c.args.address c.loop-done.done _ c.loop-done.invariant.0 c.in-Some.byte c.loop-done-test.true (sym c.byte_at.ensures.value ∙ c.in-Some.is) c.if-byte-eq0.false),
      omega (arith, c.loop-done.invariant.1, c.push.ensures.len),
      omega (arith, c.in-Some.ensures.low),
    )

pub returns-clause-none : goal.returns-clause-none
returns-clause-none c =
    let f = facts_in c.args.machine.now.world.state c.args.pid in
    all_read f c.args.limit c.args.address c.loop-done.done _ c.loop-done.invariant.0 (omega (arith, c.loop-done-test.false))
