use Rattle.kcall_core.proofs.Prelude.{ℕ, ◌∙◌, ap, arith, but_not, fits_root, FitsBut, Hart, is_between, subst}
use Rattle.kcall_core.proofs.memory.Runs.{but-next, but-none}
use Rattle.kcall_core.proofs.memories.forgetting.forget_from.Goals as goal

pub returns-then-first-end-clause-fits : goal.returns-then-first-end-clause-fits
returns-then-first-end-clause-fits c ram f = fits_root ram c.switch.new.self.root c.args.root c.switch.new.self.cache (ap (λ (h : Hart). h.root) c.switch.ensures.value) (c.switch.ensures.fits ram)

-- one page more is forgotten, and those below the first stay
pub loop-page-preserved : goal.loop-page-preserved
loop-page-preserved c =
    let v = c.loop-page.page in
    let gone = is_between v c.args.end in
    record {
      regs = c.forget.ensures.regs ∙ c.loop-page.invariant.regs;
      root = c.forget.ensures.root ∙ c.loop-page.invariant.root;
      ahead = omega arith;
      fits = λ ram root f. but-next ram root c.forget.new.self.cache v c.args.end
          (subst (λ (u : ℕ). FitsBut ram root c.forget.new.self.cache (but_not gone u)) c.new.ensures (c.forget.ensures.but ram root gone (c.loop-page.invariant.fits ram root f)));
      kept = λ u lt. c.forget.ensures.others u (λ e. omega (arith, e, lt, c.new.ensures)) ∙ c.loop-page.invariant.kept u lt;
    }

pub returns-clause-fits : goal.returns-clause-fits
returns-clause-fits c ram f = but-none ram c.args.root c.loop-page.hart.cache c.loop-page.page c.args.end c.loop-page-test.false (c.loop-page.invariant.fits ram c.args.root f)
