use Rattle.std.proofs.Common.{◌+◌, ◌∙◌, sym, arith}
use Rattle.kcall_core.specs.ObservedPipes.{pipe_counts_of}
use Rattle.debug_views.proofs.Shown.{writes-nothing}
use Rattle.xv_debug.specs.PipeText.{AddsPipe}
use Rattle.xv_debug.proofs.ToldPipes.{no-pipe, pipe-passed, pipe-written}
use Rattle.xv_debug.proofs.pipes.show_if_there.Goals as goal

pub returns-in_default-clause-adds : goal.returns-in_default-clause-adds
returns-in_default-clause-adds c =
    let w = c.args.machine.now.world in
    let f = c.args.pipe in
    writes-nothing (AddsPipe w f (pipe_counts_of w.state f) c.args.before c.args.before) _ (no-pipe w f c.args.before (pipe_counts_of w.state f) (sym c.pipe_counts.ensures ∙ c.in_default.is))

pub returns-then-before-ge-PIPES_MOST-clause-adds : goal.returns-then-before-ge-PIPES_MOST-clause-adds
returns-then-before-ge-PIPES_MOST-clause-adds c =
    let w = c.args.machine.now.world in
    let f = c.args.pipe in
    writes-nothing (AddsPipe w f (pipe_counts_of w.state f) c.args.before (c.args.before + 1)) _
    (pipe-passed w f c.args.before (pipe_counts_of w.state f) c.in-Some.counts (sym c.pipe_counts.ensures ∙ c.in-Some.is) c.if-before-ge-PIPES_MOST.true)

pub returns-clause-adds : goal.returns-clause-adds
returns-clause-adds c =
    let w = c.args.machine.now.world in
    let f = c.args.pipe in
    pipe-written w f c.args.before (pipe_counts_of w.state f) c.in-Some.counts _ _ (sym c.pipe_counts.ensures ∙ c.in-Some.is) (omega (arith, c.if-before-ge-PIPES_MOST.false)) c.in_ok-show_pipe.ensures
