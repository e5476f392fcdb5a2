use Rattle.std.proofs.Common.{rules, ap, sym, ◌∙◌, refl, w32}
use Rattle.std.proofs.lemmas.Int.{to_z-of_z}
use Rattle.kcall_core.specs.Kernel.{live_now}
use Rattle.kcall_core.specs.Makes.{answer_of}
use Rattle.kernel_spec.specs.steps.Own.{Exited}
use Rattle.kernel_spec.specs.runs.Run.{Step_of}
use Rattle.kernel_spec.specs.views.Words.{minus_one}
use Rattle.xv_machine.specs.Events.{run_outcome_of}
use Rattle.xv_machine.proofs.OneStep.{ends-marked, marked-answer, resume-answer, call-missing}
use Rattle.xv_machine.proofs.Repeated.{busy-in-call, some-none}
use Rattle.xv_machine.proofs.step.go_on.Goals as goal

pub returns-then-marked-clause-made : goal.returns-then-marked-clause-made
returns-then-marked-clause-made c =
    ends-marked c.args.kernel.now c.exit.new.self c.args.hart.now c.exit.new.hart (sym (c.marked.ensures c.args.hart.now) ∙ c.if-marked.true) (c.exit.ensures.made (Exited minus_one) refl)

pub returns-then-marked-clause-answer : goal.returns-then-marked-clause-answer
returns-then-marked-clause-answer c =
    sym (ap (Step_of c.args.pid) (marked-answer c.args.kernel.now c.exit.new.self c.args.hart.now c.exit.new.hart (sym (c.marked.ensures c.args.hart.now) ∙ c.if-marked.true)))

pub unreachable-requires : goal.unreachable-requires
unreachable-requires c =
    let live = live_now c.args.kernel.now c.args.hart.now in
    some-none live.call (busy-in-call live c.requires.busy (sym (c.marked.ensures c.args.hart.now) ∙ c.if-marked.false))
    (call-missing c.args.kernel.now c.args.hart.now (sym (c.in_call.ensures c.args.hart.now) ∙ c.in_default.is))

pub resume-end-requires-clause-unmarked : goal.resume-end-requires-clause-unmarked
resume-end-requires-clause-unmarked c = sym (c.marked.ensures c.args.hart.now) ∙ c.if-marked.false

pub resume-end-requires-clause-in_call : goal.resume-end-requires-clause-in_call
resume-end-requires-clause-in_call c =
    busy-in-call (live_now c.args.kernel.now c.args.hart.now) c.requires.busy (sym (c.marked.ensures c.args.hart.now) ∙ c.if-marked.false)

pub returns-clause-answer : goal.returns-clause-answer
returns-clause-answer c =
    resume-answer c.args.kernel.now c.args.hart.now c.args.pid c.in-Some.number c.resume-end.result (run_outcome_of c.call_outcome.result)
    (sym c.in-Some.is ∙ c.in_call.ensures c.args.hart.now) c.resume-end.ensures.answer
    (c.call_outcome.ensures ∙ ap (λ n. Step_of c.args.pid (answer_of n c.resume-end.result)) (to_z-of_z w32 c.in-Some.number (search rules)))
