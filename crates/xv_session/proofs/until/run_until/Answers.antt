use Rattle.std.proofs.Common.{◌≡◌, ◌≤◌, suc, ◌∙◌, Bool, true, false, Some, sym, ap, refl, subst, add-one, arith}
use Rattle.kernel_spec.specs.runs.Run.{Run}
use Rattle.xv_machine.specs.Events.{outcome_of}
use Rattle.xv_session.specs.Until.{Unmet, Searched, meets, meets_with}
use Rattle.xv_session.proofs.LastSteps.{one-more-followed}
use Rattle.xv_session.proofs.Searches.{unmet-sound}
use Rattle.xv_session.proofs.until.run_until.Goals as goal

pub run_once-outcome-requires : goal.run_once-outcome-requires
run_once-outcome-requires c =
    record { sound = unmet-sound c.args.condition.now c.loop-before.before c.args.followed.now.running c.loop-before.followed.running c.requires c.loop-before.invariant.0 }

pub returns-then-met-clause-searched : goal.returns-then-met-clause-searched
returns-then-met-clause-searched c =
    let n = c.loop-before.before in
    let mid = c.loop-before.followed.running in
    let new = c.run_once-outcome.new.self.running in
    let o = outcome_of c.run_once-outcome.result in
    let met = c.is_met-met.result in
    let is : meets c.args.condition.now mid.machine o new.machine ≡ met =
    sym (c.is_met-met.ensures ∙ ap (λ (b : Bool). meets_with c.args.condition.now b o new.machine) c.is_at_store-stores.ensures) in
    let within : suc n ≤ c.args.most = omega (arith, c.loop-before-test.true) in
    let all : met ≡ false → suc n ≡ c.args.most = λ unmet. (let no : true ≡ false = sym c.if-met.true ∙ unmet in let bad : ⊥ = cc in absurd bad) in
    subst (λ k. Searched c.args.condition.now c.args.most met (Some o) c.args.followed.now.running new k) (sym (add-one n))
    (mid, o, c.loop-before.invariant.0, c.run_once-outcome.ensures.advances, is, refl, within, all)

pub returns-then-met-clause-follows : goal.returns-then-met-clause-follows
returns-then-met-clause-follows c =
    one-more-followed c.loop-before.before Run c.args.followed.now c.loop-before.followed c.run_once-outcome.new.self c.loop-before.invariant.2 c.run_once-outcome.ensures.follows

pub returns-then-sent-most-clause-searched : goal.returns-then-sent-most-clause-searched
returns-then-sent-most-clause-searched c =
    let n = c.loop-before.before in
    let mid = c.loop-before.followed.running in
    let new = c.run_once-outcome.new.self.running in
    let o = outcome_of c.run_once-outcome.result in
    let is : meets c.args.condition.now mid.machine o new.machine ≡ false =
    sym (c.is_met-met.ensures ∙ ap (λ (b : Bool). meets_with c.args.condition.now b o new.machine) c.is_at_store-stores.ensures) ∙ c.if-met.false in
    let within : suc n ≤ c.args.most = omega (arith, c.loop-before-test.true) in
    let all : suc n ≡ c.args.most = omega (arith, c.if-sent-most.true) in
    subst (λ k. Searched c.args.condition.now c.args.most false (Some o) c.args.followed.now.running new k) (sym (add-one n))
    (mid, o, c.loop-before.invariant.0, c.run_once-outcome.ensures.advances, is, refl, within, λ _. all)

pub returns-then-sent-most-clause-follows : goal.returns-then-sent-most-clause-follows
returns-then-sent-most-clause-follows c =
    one-more-followed c.loop-before.before Run c.args.followed.now c.loop-before.followed c.run_once-outcome.new.self c.loop-before.invariant.2 c.run_once-outcome.ensures.follows

pub loop-before-preserved : goal.loop-before-preserved
loop-before-preserved c =
    let n = c.loop-before.before in
    let mid = c.loop-before.followed.running in
    let new = c.run_once-outcome.new.self.running in
    let o = outcome_of c.run_once-outcome.result in
    let is : meets c.args.condition.now mid.machine o new.machine ≡ false =
    sym (c.is_met-met.ensures ∙ ap (λ (b : Bool). meets_with c.args.condition.now b o new.machine) c.is_at_store-stores.ensures) ∙ c.if-met.false in (
      subst (λ k. Unmet c.args.condition.now k c.args.followed.now.running new) (sym (add-one n))
          (mid, o, c.loop-before.invariant.0, c.run_once-outcome.ensures.advances, is),
      λ _. omega (arith, c.loop-before-test.true, c.if-sent-most.false),
      one-more-followed n Run c.args.followed.now c.loop-before.followed c.run_once-outcome.new.self c.loop-before.invariant.2 c.run_once-outcome.ensures.follows,
    )
