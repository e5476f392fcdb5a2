use Rattle.std.proofs.Common.{arith, ℕ, ◌∙◌, ap}
use Rattle.explained_run.specs.Counts.{counted, row}
use Rattle.explained_run.specs.declared.counts.Count.{Count}
use Rattle.explained_run.proofs.Rows.{instructions-tallied}
use Rattle.explained_run.proofs.counts.Counts.add_instructions.Goals as goal

pub returns-clause-counts : goal.returns-clause-counts
returns-clause-counts c = λ yes. c.add.ensures.counts yes
    ∙ ap (λ (x : Count). counted c.args.choice.now c.args.self.now.counts.items (record x { instructions = c.from.result })) c.nothing-count.ensures
    ∙ ap (λ (n : ℕ). counted c.args.choice.now c.args.self.now.counts.items (row c.args.pid c.args.program 0 0 n)) c.from.ensures
    ∙ instructions-tallied c.args.choice.now c.args.self.now.counts.items c.args.pid c.args.program c.args.made (omega (arith, c.if-made-eq0.false)) (omega (arith, c.ranges.made.fits))
