use Rattle.std.proofs.Common.{◌≡◌, ◌∙◌, ◌+◌, ◌++◌, ◌∷◌, [], ℕ, replicate, refl, arith, subst}
use Rattle.std.proofs.lemmas.List.{replicate_more}
use Rattle.xv_machine.specs.Events.{event_of}
use Rattle.grade_submissions.specs.Plays.{PlaysOn}
use Rattle.grade_submissions.proofs.Going.{plays-none, plays-join, plays-those, first-all}
use Rattle.grade_submissions.proofs.playing.Played.show_often.Goals as goal

pub loop-sent-init : goal.loop-sent-init
loop-sent-init c = record { plays = plays-none c.args.self.now; same = refl }

pub loop-sent-preserved : goal.loop-sent-preserved
loop-sent-preserved c = let e = event_of c.args.event in record {
  plays = plays-those (replicate c.loop-sent.sent e ++ (e ∷ [])) (replicate (c.loop-sent.sent + 1) e) c.args.self.now c.show.new.self (replicate_more c.loop-sent.sent e)
      (plays-join (replicate c.loop-sent.sent e) (e ∷ []) c.args.self.now c.loop-sent.self c.show.new.self c.loop-sent.invariant.plays c.in_ok-show.ensures.plays);
  same = c.in_ok-show.ensures.runs ∙ c.loop-sent.invariant.same;
}

pub returns-clause-plays : goal.returns-clause-plays
returns-clause-plays c =
    let e = event_of c.args.event in
    let all : c.loop-sent.sent ≡ c.args.count = omega (arith, c.loop-sent-test.false, c.loop-sent.auto.sent-end) in
    first-all (replicate c.args.count e) c.args.self.now c.loop-sent.self (subst (λ (n : ℕ). PlaysOn (replicate n e) c.args.self.now c.loop-sent.self) all c.loop-sent.invariant.plays)
