-- Worked cases of how a drive ends: what was written, what was read, and how often the devices were called.
use Rattle.std.proofs.Common.{◌≡◌, ◌∙◌, ℕ, ◌+◌, ◌<◌, ◌≤◌, zero, suc, inl, inr, Bool, false, List, [], ◌∷◌, ◌++◌, drop, length, length-append, Option, None, Some, IfSome, refl, sym, ap, subst, arith}
use Rattle.std.specs.Io.KnownBytes.{Appends}
use Rattle.kernel_spec.specs.runs.Run.{Event, Tick, Key, Send, Outcome, Ticked, Sent, Typed, out, bytes_out}
use Rattle.kernel_spec.specs.runs.Rounds.{events, round, AreRounds}
use Rattle.xv_machine.specs.Devices.{Source, Asked, Sink, Given, Calls, took, failed}
use Rattle.xv_machine.specs.declared.driving.RunPlan.{RunPlan}
use Rattle.xv_machine.specs.Drives.{AskedFor, calls_of, is_halted, keys_in, Done, StoppedByRead, StoppedByWrite, StopsInRound, AreTyped, StoppedByPlayer}
use Rattle.xv_machine.specs.Meaning.{Meaning}

-- ---- how often a source is asked

-- two rounds, and two keys: two calls
each_round_a_key : AskedFor (Some 0) (Some 2) 2 2
each_round_a_key = refl

-- two rounds, and one key: one call more found none
a_round_without_key : AskedFor (Some 0) (Some 2) 1 2
a_round_without_key = refl

-- five rounds, and one key: behind the end the source isn't asked
asked_no_more : AskedFor (Some 0) (Some 2) 1 5
asked_no_more = refl

no_round : AskedFor (Some 7) (Some 7) 0 0
no_round = refl

-- a call more, where each round had a key
one_more : AskedFor (Some 0) (Some 3) 2 2 → ⊥
one_more h = let bad : ⊥ = cc in bad

-- a call more than the one that found none
two_more : AskedFor (Some 0) (Some 3) 1 2 → ⊥
two_more h = let bad : ⊥ = cc in bad

-- a round without a key, for which the source wasn't asked
not_asked : AskedFor (Some 0) (Some 1) 1 2 → ⊥
not_asked h = let bad : ⊥ = cc in bad

-- a call before no round
asked_before_none : AskedFor (Some 7) (Some 8) 0 0 → ⊥
asked_before_none h = let bad : ⊥ = cc in bad

-- ---- what is written

-- a key's echo in one call, a byte that is sent in one, and none for what shows nothing
calls_of_three : calls_of ((Key 8, Typed (8 ∷ 32 ∷ 8 ∷ [])) ∷ (Send, Sent None) ∷ (Send, Sent (Some 104)) ∷ []) ≡ took (8 ∷ 32 ∷ 8 ∷ []) ∷ took (104 ∷ []) ∷ []
calls_of_three = refl

-- a byte more than the bytes that are to be written
more_bytes : (held bytes : List ℕ) (b : ℕ) (after : Option (List ℕ)) → after ≡ Some (held ++ (bytes ++ b ∷ [])) → Appends (Some held) after bytes → ⊥
more_bytes held bytes b after is written =
    let both : held ++ (bytes ++ b ∷ []) ≡ held ++ bytes = subst (λ (o : Option (List ℕ)). Appends (Some held) o bytes) is written in
    omega (arith, ap length both, length-append held (bytes ++ b ∷ []), length-append bytes (b ∷ []), length-append held bytes)

-- and a call more
more_calls : (before calls : List Given) (g : Given) (after : Option (List Given)) → after ≡ Some (before ++ (calls ++ g ∷ [])) → Calls (Some before) after calls → ⊥
more_calls before calls g after is made =
    let both : before ++ (calls ++ g ∷ []) ≡ before ++ calls = inside (before ++ (calls ++ g ∷ [])) (before ++ calls) (sym is ∙ made) in
    omega (arith, ap length both, length-append before (calls ++ g ∷ []), length-append calls (g ∷ []), length-append before calls)
  where
    inside : (xs ys : List Given) → ◌≡◌ {A = Option (List Given)} (Some xs) (Some ys) → xs ≡ ys
    inside xs ys e = cc

-- ---- what a player's refusal leaves

-- the last key that was read may be untyped
last_untyped : AreTyped (97 ∷ 98 ∷ []) (97 ∷ [])
last_untyped = inr (98, refl)

all_typed : AreTyped (97 ∷ []) (97 ∷ [])
all_typed = inl refl

-- but no other
two_untyped : AreTyped (97 ∷ 98 ∷ []) [] → ⊥
two_untyped (inl h) = let bad : ⊥ = cc in bad
two_untyped (inr (b, h)) = let bad : ⊥ = cc in bad

-- and none was typed that wasn't read
typed_unread : AreTyped [] (97 ∷ []) → ⊥
typed_unread (inl h) = let bad : ⊥ = cc in bad
typed_unread (inr (b, h)) = let bad : ⊥ = cc in bad

-- it may refuse the first event
refused_at_once : StopsInRound 1 2 [] false []
refused_at_once = (0, [], [], round 2 [], refl, omega arith, refl, refl, refl)

-- but in no round more than the plan has
no_round_to_stop_in : (quantum : ℕ) (keys : List ℕ) (halted : Bool) (list : List (Event × Outcome)) → StopsInRound 0 quantum keys halted list → ⊥
no_round_to_stop_in quantum keys halted list h = absurd (omega (arith, h.5))

-- and a round doesn't begin with a tick
tick_first : StopsInRound 1 2 [] false ((Tick, Ticked) ∷ []) → ⊥
tick_first h = by h.0 h.5 h.6 h.8
  where
    by : (count : ℕ) → count < 1 → AreRounds count 2 [] false h.1 → events h.2 ++ h.3 ≡ round 2 (drop count []) → ⊥
    by zero less are is =
        let part : (Tick, Ticked) ∷ [] ≡ h.2 = h.4 ∙ ap (λ (es : List (Event × Outcome)). es ++ h.2) are in
        let begins : Tick ∷ h.3 ≡ round 2 (drop 0 []) = ap (λ (es : List (Event × Outcome)). events es ++ h.3) part ∙ is in
        let bad : ⊥ = cc in bad
    by (suc count) less are is = absurd (omega (arith, less))

module _ (plan : RunPlan) (source source_after : Source) (old new : Meaning) (sink sink_after : Sink) where
  -- the drive came to its end
  module _ (d : Done plan source source_after old new sink sink_after) where
    byte_too_many : (held : List ℕ) (b : ℕ) → sink.held ≡ Some held → sink_after.held ≡ Some (held ++ (out d.list ++ b ∷ [])) → ⊥
    byte_too_many held b before after = more_bytes held (out d.list) b sink_after.held after (subst (λ (o : Option (List ℕ)). Appends o sink_after.held (out d.list)) before d.written.bytes)

    call_too_many : (calls : List Given) (g : Given) → sink.calls ≡ Some calls → sink_after.calls ≡ Some (calls ++ (calls_of d.list ++ g ∷ [])) → ⊥
    call_too_many calls g before after = more_calls calls (calls_of d.list) g sink_after.calls after
        (subst (λ (o : Option (List Given)). Calls o sink_after.calls (calls_of d.list)) before d.written.calls)

    -- the keys are those of the source, and not as many other ones
    other_keys : source.left ≡ Some (7 ∷ 8 ∷ []) → d.keys ≡ 7 ∷ 9 ∷ [] → ⊥
    other_keys left keys = let same : d.keys ≡ 7 ∷ 8 ∷ [] = known source.left left d.known in let bad : ⊥ = cc in bad
      where
        known : (o : Option (List ℕ)) → o ≡ Some (7 ∷ 8 ∷ []) → IfSome o (λ bytes. d.keys ≡ bytes) → d.keys ≡ 7 ∷ 8 ∷ []
        known o is h = subst (λ (q : Option (List ℕ)). IfSome q (λ bytes. d.keys ≡ bytes)) is h

    -- the source was asked once more, though each round had a key
    asked_once_more : source.asked ≡ Some 0 → length (keys_in (events d.list)) ≡ 2 → d.planned.0 ≡ 2 → source_after.asked ≡ Some 3 → ⊥
    asked_once_more before keys rounds after =
        let asked : AskedFor (Some 0) (Some 3) 2 2 =
        subst (λ (n : ℕ). AskedFor (Some 0) (Some 3) n 2) keys (subst (λ (n : ℕ). AskedFor (Some 0) (Some 3) (length (keys_in (events d.list))) n) rounds
        (subst (λ (o : Option ℕ). AskedFor (Some 0) o (length (keys_in (events d.list))) d.planned.0) after
        (subst (λ (o : Option ℕ). AskedFor o source_after.asked (length (keys_in (events d.list))) d.planned.0) before d.asked))) in
        one_more asked

  -- a failed read ended it
  module _ (d : StoppedByRead plan source source_after old new sink sink_after) where
    byte_too_many_before_read : (held : List ℕ) (b : ℕ) → sink.held ≡ Some held → sink_after.held ≡ Some (held ++ (out d.list ++ b ∷ [])) → ⊥
    byte_too_many_before_read held b before after = more_bytes held (out d.list) b sink_after.held after
        (subst (λ (o : Option (List ℕ)). Appends o sink_after.held (out d.list)) before d.written.bytes)

    call_too_many_before_read : (calls : List Given) (g : Given) → sink.calls ≡ Some calls → sink_after.calls ≡ Some (calls ++ (calls_of d.list ++ g ∷ [])) → ⊥
    call_too_many_before_read calls g before after = more_calls calls (calls_of d.list) g sink_after.calls after
        (subst (λ (o : Option (List Given)). Calls o sink_after.calls (calls_of d.list)) before d.written.calls)

    -- it was asked again behind the failure, or wasn't asked at all
    asked_again : source.asked ≡ Some 0 → d.rounds.0 ≡ 2 → source_after.asked ≡ Some 4 → ⊥
    asked_again before rounds after =
        let asked : Asked (Some 0) (Some 4) 3 =
        subst (λ (n : ℕ). Asked (Some 0) (Some 4) (n + 1)) rounds
        (subst (λ (o : Option ℕ). Asked (Some 0) o (d.rounds.0 + 1)) after
        (subst (λ (o : Option ℕ). Asked o source_after.asked (d.rounds.0 + 1)) before d.asked)) in
        let bad : ⊥ = cc in bad

    failed_unasked : source.asked ≡ Some 0 → d.rounds.0 ≡ 2 → source_after.asked ≡ Some 2 → ⊥
    failed_unasked before rounds after =
        let asked : Asked (Some 0) (Some 2) 3 =
        subst (λ (n : ℕ). Asked (Some 0) (Some 2) (n + 1)) rounds
        (subst (λ (o : Option ℕ). Asked (Some 0) o (d.rounds.0 + 1)) after
        (subst (λ (o : Option ℕ). Asked o source_after.asked (d.rounds.0 + 1)) before d.asked)) in
        let bad : ⊥ = cc in bad

  -- a player's refusal ended the rounds
  module _ (d : StoppedByPlayer plan source source_after old new sink sink_after) where
    byte_too_many_before_refusal : (held : List ℕ) (b : ℕ) → sink.held ≡ Some held → sink_after.held ≡ Some (held ++ (out d.list ++ b ∷ [])) → ⊥
    byte_too_many_before_refusal held b before after = more_bytes held (out d.list) b sink_after.held after
        (subst (λ (o : Option (List ℕ)). Appends o sink_after.held (out d.list)) before d.written.bytes)

    call_too_many_before_refusal : (calls : List Given) (g : Given) → sink.calls ≡ Some calls → sink_after.calls ≡ Some (calls ++ (calls_of d.list ++ g ∷ [])) → ⊥
    call_too_many_before_refusal calls g before after = more_calls calls (calls_of d.list) g sink_after.calls after
        (subst (λ (o : Option (List Given)). Calls o sink_after.calls (calls_of d.list)) before d.written.calls)

  -- a failed write ended it
  module _ (d : StoppedByWrite plan source source_after old new sink sink_after) where
    -- a call was made behind the one that failed
    call_behind_a_failure : (calls : List Given) (g : Given) → sink.calls ≡ Some calls → sink_after.calls ≡ Some (calls ++ ((calls_of d.before ++ failed (bytes_out d.last.1) ∷ []) ++ g ∷ [])) → ⊥
    call_behind_a_failure calls g before after =
        more_calls calls (calls_of d.before ++ failed (bytes_out d.last.1) ∷ []) g sink_after.calls after
        (subst (λ (o : Option (List Given)). Calls o sink_after.calls (calls_of d.before ++ failed (bytes_out d.last.1) ∷ [])) before d.calls)

    -- a byte too many was given to the call that failed
    byte_too_many_in_failure : (b : ℕ) → d.before ≡ [] → sink.calls ≡ Some [] → sink_after.calls ≡ Some (failed (bytes_out d.last.1 ++ b ∷ []) ∷ []) → ⊥
    byte_too_many_in_failure b first before after =
        let made : sink_after.calls ≡ Some (calls_of d.before ++ failed (bytes_out d.last.1) ∷ []) =
        subst (λ (o : Option (List Given)). Calls o sink_after.calls (calls_of d.before ++ failed (bytes_out d.last.1) ∷ [])) before d.calls in
        let same : bytes_out d.last.1 ++ b ∷ [] ≡ bytes_out d.last.1 =
        inside (bytes_out d.last.1 ++ b ∷ []) (bytes_out d.last.1)
        (sym after ∙ made ∙ ap (λ (es : List (Event × Outcome)). Some (calls_of es ++ failed (bytes_out d.last.1) ∷ [])) first) in
        omega (arith, ap length same, length-append (bytes_out d.last.1) (b ∷ []))
      where
        inside : (xs ys : List ℕ) → ◌≡◌ {A = Option (List Given)} (Some (failed xs ∷ [])) (Some (failed ys ∷ [])) → xs ≡ ys
        inside xs ys e = ap bytes e
          where
            bytes : Option (List Given) → List ℕ
            bytes (Some (g ∷ gs)) = g.bytes
            bytes o = []

-- ---- a plan of no round does nothing

module _ (source source_after : Source) (old new : Meaning) (sink sink_after : Sink) (d : Done (record { rounds = 0; quantum = 1 }) source source_after old new sink sink_after) where
  no_event : d.list ≡ []
  no_event = by d.planned.0 d.planned.1 d.planned.2
    where
      by : (count : ℕ) → count ≤ 0 → AreRounds count 1 d.keys (is_halted old) d.list → d.list ≡ []
      by zero within are = are
      by (suc count) within are = absurd (omega (arith, within))

  nothing_written : sink.held ≡ Some [] → sink_after.held ≡ Some (104 ∷ []) → ⊥
  nothing_written before after =
      let written : Appends (Some []) (Some (104 ∷ [])) [] =
      subst (λ (es : List (Event × Outcome)). Appends (Some []) (Some (104 ∷ [])) (out es)) no_event
      (subst (λ (o : Option (List ℕ)). Appends (Some []) o (out d.list)) after
      (subst (λ (o : Option (List ℕ)). Appends o sink_after.held (out d.list)) before d.written.bytes)) in
      let bad : ⊥ = cc in bad
