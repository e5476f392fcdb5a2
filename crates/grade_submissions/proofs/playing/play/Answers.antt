use Rattle.std.proofs.Common.{◌≡◌, ◌∙◌, [], map, inl, sym, ap, subst, arith}
use Rattle.kernel_spec.specs.views.State.{named_file}
use Rattle.xv_machine.specs.Reached.{IsReached}
use Rattle.xv_session.specs.Recorded.{Recorded}
use Rattle.grade_submissions.specs.Plays.{Told}
use Rattle.grade_submissions.proofs.Going.{booted-reached, booted-blank}
use Rattle.grade_submissions.proofs.Planning.{none-played, round-more, plan-ended, plan-done, run-of, neither}
use Rattle.grade_submissions.proofs.playing.play.Goals as goal

pub loop-round-init : goal.loop-round-init
loop-round-init c =
    let none : c.begin-played.result.kept.runs ≡ 0 = ap (λ (t : Told). t.runs) c.begin-played.ensures.kept in
    record { played = none-played c.args.plan c.args.keys.now c.begin-played.result; few = omega (arith, none) }

pub loop-round-preserved : goal.loop-round-preserved
loop-round-preserved c =
    let frames = c.args.config.frames in
    let trace = c.args.config.trace in
    let programs = map named_file c.args.programs.items in
    let booted = c.begin-played.result in
    let now = c.loop-round.played in
    let start : IsReached frames trace programs [] booted.session.machine =
    subst (λ (s : Recorded). IsReached frames trace programs [] s.machine) (sym c.begin-played.ensures.session)
    (booted-reached frames trace programs c.in-Ok.session c.begin-played.ensures.recorded c.in-Ok.ensures.fresh) in
    let on = neither now (sym c.is_ended.ensures ∙ c.if-is_ended.false) in
    record {
      played = round-more frames trace programs c.args.plan c.args.keys.now c.loop-round.round booted now start c.loop-round.invariant.played
          c.key_at-key.result c.play_round.new.self c.key_at-key.ensures (omega (arith, c.loop-round-test.true)) on.0 on.1 c.in_ok-play_round.ensures.plays;
      few = omega (arith, c.loop-round.invariant.few, c.in_ok-play_round.ensures.runs);
    }

pub returns-then-is_ended : goal.returns-then-is_ended
returns-then-is_ended c =
    let frames = c.args.config.frames in
    let trace = c.args.config.trace in
    let programs = map named_file c.args.programs.items in
    let booted = c.begin-played.result in
    let now = c.loop-round.played in
    let start : IsReached frames trace programs [] booted.session.machine =
    subst (λ (s : Recorded). IsReached frames trace programs [] s.machine) (sym c.begin-played.ensures.session)
    (booted-reached frames trace programs c.in-Ok.session c.begin-played.ensures.recorded c.in-Ok.ensures.fresh) in
    let blank = booted-blank frames trace programs c.in-Ok.session booted c.in-Ok.ensures.fresh c.begin-played.ensures.session c.begin-played.ensures.notes c.begin-played.ensures.fault
    c.begin-played.ensures.pipes in
    run-of frames trace programs c.args.plan c.args.keys.now c.loop-round.round booted now start c.loop-round.invariant.played
    c.begin-played.ensures.kept blank c.begin-played.ensures.budget
    (plan-ended frames trace programs c.args.plan c.args.keys.now c.loop-round.round booted now start c.loop-round.invariant.played
    (omega (arith, c.loop-round-test.true)) (sym c.is_ended.ensures ∙ c.if-is_ended.true))

pub returns : goal.returns
returns c =
    let frames = c.args.config.frames in
    let trace = c.args.config.trace in
    let programs = map named_file c.args.programs.items in
    let booted = c.begin-played.result in
    let now = c.loop-round.played in
    let start : IsReached frames trace programs [] booted.session.machine =
    subst (λ (s : Recorded). IsReached frames trace programs [] s.machine) (sym c.begin-played.ensures.session)
    (booted-reached frames trace programs c.in-Ok.session c.begin-played.ensures.recorded c.in-Ok.ensures.fresh) in
    let blank = booted-blank frames trace programs c.in-Ok.session booted c.in-Ok.ensures.fresh c.begin-played.ensures.session c.begin-played.ensures.notes c.begin-played.ensures.fault
    c.begin-played.ensures.pipes in
    run-of frames trace programs c.args.plan c.args.keys.now c.loop-round.round booted now start c.loop-round.invariant.played
    c.begin-played.ensures.kept blank c.begin-played.ensures.budget
    (plan-done frames trace programs c.args.plan c.args.keys.now c.loop-round.round booted now start c.loop-round.invariant.played (omega (arith, c.loop-round.auto.round-end))
    (inl (omega (arith, c.loop-round-test.false, c.loop-round.auto.round-end))))
