-- Rounds without a key that are played over ticks, in which nothing is shown.
use Rattle.std.proofs.Common.{◌≡◌, ◌≢◌, ◌∙◌, ℕ, zero, suc, ◌+◌, ◌-◌, arith, List, [], ◌∷◌, ◌++◌, append-nil, drop, replicate, false, ◌||◌, inl, inr, refl, sym, ap, ap₂, subst}
use Rattle.std.proofs.Common.{Option, None, Some, Result, Ok, Err}
use Rattle.std.specs.Prelude.{ℤ, is_some}
use Rattle.std.proofs.lemmas.Bool.{or_parts}
use Rattle.xk_base.specs.declared.limits.TheConstants.{SEND_BYTES}
use Rattle.kernel_spec.specs.runs.Run.{World, Event, Run, Tick, Send, Outcome, Ticked, Halted, Sent, TickHappens, bytes_out, out}
use Rattle.kernel_spec.specs.runs.Rounds.{events, halts, key_events, round, AreRounds}
use Rattle.kernel_spec.proofs.runs.Plans.{rounds_follow_rounds}
use Rattle.xv_machine.specs.Devices.{Sink}
use Rattle.xv_machine.specs.Drives.{GivesTurn, PassesTick, is_halted}
use Rattle.xv_machine.specs.Meaning.{Meaning}
use Rattle.xv_machine.specs.Sound.{IsSoundMachine}
use Rattle.xv_machine.specs.Stretches.{Silent, SilentFirst, PlayedQuietly, Plays}
use Rattle.xv_machine.proofs.Idle.{out-again}
use Rattle.xv_machine.proofs.Joins.{events-join, shows-join, goes-none, goes-join, one-silent, silent-join, silent-played, played-join, broke-later}
use Rattle.xv_machine.proofs.Sent.{events-again}
use Rattle.xv_machine.proofs.Shown.{ends-in}

abbrev Steps : Type 0
Steps = List (Event × Outcome)

-- ---- none yet

pub none-quiet : (quantum : ℕ) (m : Meaning) → IsSoundMachine m → PlayedQuietly 0 quantum m m
none-quiet quantum m sound = record { list = []; goes = goes-none m sound; rounds = refl; silent = refl; goes_on = λ on. on }

-- ---- a round that ends so

abbrev the-end : Steps
the-end = (Tick, Ticked) ∷ replicate SEND_BYTES (Send, Sent None)

end-events : events the-end ≡ Tick ∷ replicate SEND_BYTES Send
end-events = ap (λ es. Tick ∷ es) (events-again SEND_BYTES Send (Sent None))

end-out : out the-end ≡ []
end-out = out-again SEND_BYTES

drop-nil : (n : ℕ) → drop {A = ℕ} n [] ≡ []
drop-nil zero = refl
drop-nil (suc n) = refl

-- the clock counts ticks of a machine that isn't halted alone
counts-on : (w t : World) (halted : Option ℤ) → TickHappens w halted Ticked t → is_some halted ≡ false
counts-on w t None happens = refl
counts-on w t (Some status) happens = let bad : Ticked ≡ Halted = happens.0 in let no : ⊥ = cc in absurd no

module _ (passed quantum : ℕ) (old start mid new : Meaning) (q : PlayedQuietly passed quantum old start) (s : Silent (replicate quantum Run) start mid) (p : PassesTick mid new) where
  mid-on : is_halted mid ≡ false
  mid-on = counts-on mid.world p.ends.run.0 mid.world.turns.halted p.ends.run.1.0

  started : (is_halted start || halts s.list) ≡ false
  started = sym (ends-in start.world s.list mid.world s.goes.run) ∙ mid-on

  before : (is_halted old || halts q.list) ≡ false
  before = sym (ends-in old.world q.list start.world q.goes.run) ∙ (or_parts (is_halted start) (halts s.list) started).0

  pub quiet-more : PlayedQuietly (passed + 1) quantum old p.between
  quiet-more =
      let one : Steps = s.list ++ the-end in
      let those : events one ≡ round quantum (drop passed []) =
      events-join s.list the-end ∙ ap₂ (λ xs ys. xs ++ ys) s.those end-events ∙ ap (λ ks. key_events ks ++ replicate quantum Run ++ Tick ∷ replicate SEND_BYTES Send) (sym (drop-nil passed)) in
      let now_one : AreRounds 1 quantum (drop passed []) false one = (one, [], sym (append-nil one), those, refl) in
      let next : AreRounds 1 quantum (drop passed []) (false || halts q.list) one =
      subst (λ b. AreRounds 1 quantum (drop passed []) b one) (sym (or_parts (is_halted old) (halts q.list) before).1) now_one in
      record {
        list = q.list ++ one;
        goes = goes-join q.list one old start p.between q.goes (goes-join s.list the-end start mid p.between s.goes p.ends);
        rounds = rounds_follow_rounds passed 1 quantum [] false q.list one q.rounds next;
        silent = shows-join q.list one ∙ ap₂ (λ xs ys. xs ++ ys) q.silent (shows-join s.list the-end ∙ ap₂ (λ xs ys. xs ++ ys) s.silent end-out);
        goes_on = λ on. p.goes_on;
      }

  gives-nothing : (o : Outcome) → GivesTurn o → bytes_out o ≡ []
  gives-nothing o (inl idle) = ap bytes_out idle
  gives-nothing o (inr (pid, turn)) = ap bytes_out turn

  -- the first Run of the next round
  pub quiet-begins : Silent (Run ∷ []) p.between new
  quiet-begins = one-silent Run p.outcome p.between new p.begins (gives-nothing p.outcome p.gives)

-- ---- the Runs of a round

one-and-rest : (quantum : ℕ) → quantum ≢ 0 → Run ∷ replicate (quantum - 1) Run ≡ replicate quantum Run
one-and-rest zero some = absurd (some refl)
one-and-rest (suc n) some = let same : suc n - 1 ≡ n = omega arith in ap (λ m. Run ∷ replicate m Run) same

-- the first, and the others
pub runs-all : (quantum : ℕ) (s t u : Meaning) → quantum ≢ 0 → Silent (Run ∷ []) s t → Silent (replicate (quantum - 1) Run) t u → Silent (replicate quantum Run) s u
runs-all quantum s t u some first rest =
    subst (λ (es : List Event). Silent es s u) (one-and-rest quantum some) (silent-join (Run ∷ []) (replicate (quantum - 1) Run) s t u first rest)

-- the first, and some of the others
pub runs-first : (quantum : ℕ) (s t u : Meaning) → quantum ≢ 0 → Silent (Run ∷ []) s t → SilentFirst (replicate (quantum - 1) Run) t u → SilentFirst (replicate quantum Run) s u
runs-first quantum s t u some first q = record {
  part = Run ∷ q.part;
  rest = q.rest;
  those = ap (λ es. Run ∷ es) q.those ∙ one-and-rest quantum some;
  silent = silent-join (Run ∷ []) q.part s t u first q.silent;
}

-- all of them, and the machine stays
pub runs-stay : (quantum : ℕ) (s t u : Meaning) → u ≡ t → Silent (replicate quantum Run) s t → SilentFirst (replicate quantum Run) s u
runs-stay quantum s t u same p = subst (λ (m : Meaning). SilentFirst (replicate quantum Run) s m) (sym same) (record {
  part = replicate quantum Run;
  rest = [];
  those = append-nil (replicate quantum Run);
  silent = p;
})

-- ---- a silent stretch, and then events that show bytes

pub plays-after : {E : Type 0} (r : Result (Unit {0}) E) (xs ys : List Event) (s t u : Meaning) (h k : Sink) → Silent xs s t → Plays r ys t u h k → Plays r (xs ++ ys) s u h k
plays-after (Ok x) xs ys s t u h k silent plays = played-join xs ys s t u h h k (silent-played xs s t h silent) plays
plays-after (Err e) xs ys s t u h k silent plays = broke-later xs ys s t u h h k (silent-played xs s t h silent) plays
