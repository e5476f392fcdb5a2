-- How far a round is, and who goes on after an instruction.
use Rattle.std.proofs.Common.{◌≡◌, ◌∙◌, ◌+◌, ◌-◌, ◌<◌, ◌≤◌, ℕ, ℤ, zero, suc, Bool, true, false, List, [], ◌∷◌, ◌++◌, length, drop, take, replicate, Option, None, Some, inl}
use Rattle.std.proofs.Common.{refl, sym, ap, ap₂, subst, arith, ◌&&◌, ◌||◌, ◌≢◌, IfNone, IfSome, is_none, not, slice_get}
use Rattle.std.specs.FinMap.{get}
use Rattle.std.specs.FinSet.{contains}
use Rattle.std.specs.Prelude.{IsSome, if◌then◌else◌}
use Rattle.std.proofs.lemmas.List.{drop-drop, drop_all, length-drop, take-append-drop}
use Rattle.std.proofs.lemmas.Option.{same_Some}
use Rattle.kernel_spec.specs.runs.Run as runs
use Rattle.kernel_spec.specs.runs.Run.{Event, Run, Tick, Outcome, RunHappens, Step_of, World, halts_with, stays_current}
use Rattle.kernel_spec.specs.runs.Rounds.{key_events}
use Rattle.kernel_spec.specs.steps.Own.{Stepped}
use Rattle.kernel_spec.specs.steps.Step.{own}
use Rattle.kernel_spec.specs.views.Processes.{Live}
use Rattle.kernel_spec.specs.views.State.{live}
use Rattle.kernel_spec.proofs.Common.{alive_part}
use Rattle.xv_report.specs.Waits.{wait_in}
use Rattle.xv_session.specs.Answers.{Sent}
use Rattle.xv_session.specs.Recorded.{Recorded}
use Rattle.xv_session.specs.Steps.{Advances}
use Rattle.xv_session.specs.Until.{is_done}
use Rattle.xv_session.specs.declared.running.Running.{Running}
use Rattle.xv_debug.specs.motion.Backwards.{is_run}
use Rattle.xv_debug.specs.motion.Clock.{IsByClock, begun, is_key, is_tick, round_after, round_by, round_of, runs_among}
use Rattle.xv_debug.specs.motion.Effects.{Adds, AddsRuns}
use Rattle.xv_debug.specs.motion.Plan.{Planned, key_due}
use Rattle.xv_debug.specs.declared.motion.clock.Round.{Round}
use Rattle.xv_debug.specs.motion.Resting.{AwaitsTick, SomebodyMayGoOn, is_clock}
use Rattle.xv_debug.proofs.Quiet.{done-is}

-- ---- some events after others

pub round-join : (q : ℕ) (round : Round) (xs ys : List Event) → round_after q round (xs ++ ys) ≡ round_after q (round_after q round xs) ys
round-join q round [] ys = refl
round-join q round (x ∷ xs) ys = round-join q (round_by q round x) xs ys

-- behind those of a run
pub round-added : (q : ℕ) (list : List Event) (a b : Recorded) → Adds list a b → round_of q b.events ≡ round_after q (round_of q a.events) list
round-added q list a b adds = ap (λ (s : Recorded). round_of q s.events) adds ∙ round-join q (begun q) a.events list

-- one
pub round_sent : (q : ℕ) (round now : Round) (e : Event) (o : Outcome) (a b : Recorded) → Sent a e o b → round ≡ round_of q a.events → now ≡ round_by q round e → now ≡ round_of q b.events
round_sent q round now e o a b (one, same) is next = next ∙ ap (λ (r : Round). round_by q r e) is ∙ sym (round-added q (e ∷ []) a b same)

-- a round with so many Runs less
abbrev pub fewer : Round → (runs : ℕ) → Round
fewer round n = record { left = round.left - n; keyed = round.keyed }

-- Runs
pub runs-taken : (q : ℕ) (round : Round) (n : ℕ) → round_after q round (replicate n Run) ≡ fewer round n
runs-taken q round zero = let none : round.left ≡ round.left - 0 = omega arith in ap (λ (k : ℕ). record { left = k; keyed = round.keyed }) none
runs-taken q round (suc n) =
    let less : (round.left - 1) - n ≡ round.left - suc n = omega arith in
    runs-taken q (fewer round 1) n ∙ ap (λ (k : ℕ). record { left = k; keyed = round.keyed }) less

-- behind events, so many Runs
pub round-more : (q : ℕ) (list : List Event) (n : ℕ) → round_of q (list ++ replicate n Run) ≡ fewer (round_of q list) n
round-more q list n = round-join q (begun q) list (replicate n Run) ∙ runs-taken q (round_of q list) n

pub round_ran : (q : ℕ) (round : Round) (n : ℕ) (now : Round) (a b : Recorded) → AddsRuns n a b → round ≡ round_of q a.events → now ≡ fewer round n → now ≡ round_of q b.events
round_ran q round n now a b adds is next =
    next ∙ ap (λ (r : Round). fewer r n) is ∙ sym (round-added q (replicate n Run) a b adds ∙ runs-taken q (round_of q a.events) n)

-- ---- counted from the end

-- a round that comes to so much more: so many Runs, and a key, or none
abbrev pub gone-on : Round → (runs : ℕ) → (key : Bool) → Round
gone-on round n key = record { left = round.left - n; keyed = round.keyed || key }

-- of a round of q Runs it is so far after the events from a place on, if it began there; and those bring any round on by as much
pub record IsCounted (q : ℕ) (round : Round) (place : ℕ) (list : List Event) : Type 0 where
  pub taken : ℕ
  pub left_is : round.left ≡ q - taken
  pub behind : (r : Round) → round_after q r (drop place list) ≡ gone-on r taken round.keyed

or-false : (b : Bool) → (b || false) ≡ b
or-false true = refl
or-false false = refl

or-join : (a b c : Bool) → ((a || b) || c) ≡ (a || (c || b))
or-join true b c = refl
or-join false true true = refl
or-join false true false = refl
or-join false false true = refl
or-join false false false = refl

pub counted_none : (q place : ℕ) (list : List Event) → place ≡ length list → IsCounted q (begun q) place list
counted_none q place list is = record {
  taken = 0;
  left_is = omega arith;
  behind = λ r.
      let none : drop place list ≡ [] = drop_all place list (omega (arith, is)) in
      let same : r.left ≡ r.left - 0 = omega arith in
      ap (round_after q r) none ∙ ap₂ (λ (n : ℕ) (b : Bool). record { left = n; keyed = b }) same (sym (or-false r.keyed));
}

-- equal events from a place on that reach up to another one
pub up_to : (place end count : ℕ) (e : Event) (list : List Event) → place ≤ end → place + count ≤ end → end ≤ place + count → take count (drop place list) ≡ replicate count e
    → (count ≤ end) × (take count (drop (end - count) list) ≡ replicate count e)
up_to place end count e list before within all those =
    let here : end - count ≡ place = omega (arith, before, within, all) in
    (omega (arith, within), ap (λ (k : ℕ). take count (drop k list)) here ∙ those)

-- equal events and those behind them
module _ (place count : ℕ) (e : Event) (list : List Event) (within : count ≤ place) (those : take count (drop (place - count) list) ≡ replicate count e) where
  parts : drop (place - count) list ≡ replicate count e ++ drop place list
  parts =
      let here : (place - count) + count ≡ place = omega (arith, within) in
      sym (take-append-drop count (drop (place - count) list)) ∙ ap (λ (es : List Event). es ++ drop count (drop (place - count) list)) those
      ∙ ap (λ (es : List Event). replicate count e ++ es) (drop-drop count (place - count) list ∙ ap (λ (k : ℕ). drop k list) here)

  round-parts : (q : ℕ) (r : Round) → round_after q r (drop (place - count) list) ≡ round_after q (round_after q r (replicate count e)) (drop place list)
  round-parts q r = ap (round_after q r) parts ∙ round-join q r (replicate count e) (drop place list)

-- so many equal events that are no Ticks bring a round on
keys-typed : (q : ℕ) (r : Round) (byte n : ℕ) → r.keyed ≡ true → round_after q r (replicate n (runs.Key byte)) ≡ r
keys-typed q r byte zero typed = refl
keys-typed q r byte (suc n) typed =
    let one : round_by q r (runs.Key byte) ≡ r = ap (λ (b : Bool). record { left = r.left; keyed = b }) (sym typed) in
    ap (λ (x : Round). round_after q x (replicate n (runs.Key byte))) one ∙ keys-typed q r byte n typed

still : (q : ℕ) (r : Round) (count : ℕ) → round_after q r (replicate count runs.Send) ≡ r
still q r zero = refl
still q r (suc count) = still q r count

or-true : (b : Bool) → (b || true) ≡ true
or-true true = refl
or-true false = refl

equal-go-on : (q : ℕ) (r : Round) (e : Event) (count : ℕ) → 0 < count → is_tick e ≡ false → round_after q r (replicate count e) ≡ gone-on r (runs_among e count) (is_key e)
equal-go-on q r Run count some apart = runs-taken q r count ∙ ap (λ (b : Bool). record { left = r.left - count; keyed = b }) (sym (or-false r.keyed))
equal-go-on q r Tick count some apart = let bad : ⊥ = cc in absurd bad
equal-go-on q r (runs.Key byte) zero some apart = let no : ⊥ = omega (arith, some) in absurd no
equal-go-on q r (runs.Key byte) (suc n) some apart =
    let none : r.left ≡ r.left - 0 = omega arith in
    keys-typed q (record { left = r.left; keyed = true }) byte n refl ∙ ap₂ (λ (k : ℕ) (b : Bool). record { left = k; keyed = b }) none (sym (or-true r.keyed))
equal-go-on q r runs.Send count some apart =
    let none : r.left ≡ r.left - 0 = omega arith in
    still q r count ∙ ap₂ (λ (k : ℕ) (b : Bool). record { left = k; keyed = b }) none (sym (or-false r.keyed))

-- equal events that are no Ticks
pub counted_more : (q : ℕ) (round now : Round) (place before count : ℕ) (e : Event) (list : List Event) → is_tick e ≡ false → 0 < count → count ≤ place → before ≡ place - count
    → take count (drop (place - count) list) ≡ replicate count e → now.left ≡ round.left - runs_among e count → now.keyed ≡ (round.keyed || is_key e)
    → IsCounted q round place list → IsCounted q now before list
counted_more q round now place before count e list apart some within at those less typed c = record {
  taken = c.taken + runs_among e count;
  left_is = omega (arith, less, c.left_is);
  behind = λ r.
      let less_still : (r.left - runs_among e count) - c.taken ≡ r.left - (c.taken + runs_among e count) = omega arith in
      ap (λ (k : ℕ). round_after q r (drop k list)) at ∙ round-parts place count e list within those q r
      ∙ ap (λ (x : Round). round_after q x (drop place list)) (equal-go-on q r e count some apart)
      ∙ c.behind (gone-on r (runs_among e count) (is_key e))
      ∙ ap₂ (λ (k : ℕ) (b : Bool). record { left = k; keyed = b }) less_still (or-join r.keyed (is_key e) round.keyed ∙ ap (λ (b : Bool). r.keyed || b) (sym typed));
}

is-tick : (e : Event) → is_tick e ≡ true → e ≡ Tick
is-tick Tick is = refl
is-tick Run is = let bad : ⊥ = cc in absurd bad
is-tick (runs.Key byte) is = let bad : ⊥ = cc in absurd bad
is-tick runs.Send is = let bad : ⊥ = cc in absurd bad

ticked : (q : ℕ) (r : Round) (count : ℕ) → 0 < count → round_after q r (replicate count Tick) ≡ begun q
ticked q r zero some = let no : ⊥ = omega (arith, some) in absurd no
ticked q r (suc zero) some = refl
ticked q r (suc (suc count)) some = ticked q (begun q) (suc count) (omega arith)

-- what is counted from where a round begins is how far it is
from-begin : (q : ℕ) (round : Round) (place : ℕ) (list : List Event) → IsCounted q round place list → round ≡ round_after q (begun q) (drop place list)
from-begin q round place list c = ap (λ (k : ℕ). record { left = k; keyed = round.keyed }) c.left_is ∙ sym (c.behind (begun q))

pub counted_ticks : (q : ℕ) (round : Round) (place count : ℕ) (e : Event) (list : List Event) → is_tick e ≡ true → 0 < count → count ≤ place
    → take count (drop (place - count) list) ≡ replicate count e → IsCounted q round place list → round ≡ round_of q list
counted_ticks q round place count e list tick some within those c =
    let ticks : take count (drop (place - count) list) ≡ replicate count Tick = those ∙ ap (replicate count) (is-tick e tick) in
    let before : List Event = take (place - count) list in
    let all : round_after q (begun q) list ≡ round_after q (round_after q (begun q) before) (drop (place - count) list) =
    ap (round_after q (begun q)) (sym (take-append-drop (place - count) list)) ∙ round-join q (begun q) before (drop (place - count) list) in
    from-begin q round place list c ∙ ap (λ (r : Round). round_after q r (drop place list)) (sym (ticked q (round_after q (begun q) before) count some))
    ∙ sym (round-parts place count Tick list within ticks q (round_after q (begun q) before)) ∙ sym all

pub counted_all : (q : ℕ) (round : Round) (place : ℕ) (list : List Event) → place ≡ 0 → IsCounted q round place list → round ≡ round_of q list
counted_all q round place list none c =
    let whole : drop place list ≡ list = ap (λ (k : ℕ). drop k list) none ∙ take-append-drop 0 list in
    from-begin q round place list c ∙ ap (round_after q (begun q)) whole

-- ---- an instruction

-- whoever has done one runs still
run-stays : (w t : World) (halted : Option ℤ) (current : Option ℕ) (o : Outcome) → RunHappens w halted current o t → is_done o ≡ true → IsSome t.turns.current
run-stays w t (Some status) current o (is, same) done = let no : is_done runs.Halted ≡ true = sym (ap is_done is) ∙ done in let bad : ⊥ = cc in absurd bad
run-stays w t None (Some p) o step done =
    let stepped : (own step.before).answer ≡ Stepped = done-is p (own step.before).answer (sym (ap is_done step.answer) ∙ done) in
    subst (λ (c : Option ℕ). IsSome c) (sym (step.turns.current ∙ ap (stays_current p) stepped)) refl
run-stays w t None None (Step_of p a) bad done = absurd bad
run-stays w t None None (runs.Turn p) taken done = let bad : ⊥ = cc in absurd bad
run-stays w t None None runs.Idle taken done = let bad : ⊥ = cc in absurd bad
run-stays w t None None runs.Ticked bad done = absurd bad
run-stays w t None None (runs.Typed echo) bad done = absurd bad
run-stays w t None None (runs.Sent byte) bad done = absurd bad
run-stays w t None None runs.Halted bad done = absurd bad

pub done-goes : (a b : Running) (o : Outcome) → Advances a Run o b → is_done o ≡ true → SomebodyMayGoOn b.machine.world
done-goes a b o one done =
    let w = a.machine.world in
    inl (run-stays w b.machine.world w.turns.halted w.turns.current o one.event.promised.0 done)

-- neither the clock goes on by it, nor does the machine halt
run-keeps : (w t : World) (halted : Option ℤ) (current : Option ℕ) (o : Outcome) → RunHappens w halted current o t → is_done o ≡ true → (t.turns.halted ≡ halted) × (t.state.clock ≡ w.state.clock)
run-keeps w t (Some status) current o (is, same) done = let no : is_done runs.Halted ≡ true = sym (ap is_done is) ∙ done in let bad : ⊥ = cc in absurd bad
run-keeps w t None (Some p) o step done =
    let stepped : (own step.before).answer ≡ Stepped = done-is p (own step.before).answer (sym (ap is_done step.answer) ∙ done) in
    (step.turns.halted ∙ ap (halts_with p) stepped, step.state.left.clock)
run-keeps w t None None (Step_of p a) bad done = absurd bad
run-keeps w t None None (runs.Turn p) taken done = let bad : ⊥ = cc in absurd bad
run-keeps w t None None runs.Idle taken done = let bad : ⊥ = cc in absurd bad
run-keeps w t None None runs.Ticked bad done = absurd bad
run-keeps w t None None (runs.Typed echo) bad done = absurd bad
run-keeps w t None None (runs.Sent byte) bad done = absurd bad
run-keeps w t None None runs.Halted bad done = absurd bad

-- so the same key is due after it
pub done-due : (plan : Planned) (round : Round) (a b : Running) (o : Outcome) → Advances a Run o b → is_done o ≡ true → key_due plan round b.machine.world ≡ key_due plan round a.machine.world
done-due plan round a b o one done =
    let w = a.machine.world in
    let kept = run-keeps w b.machine.world w.turns.halted w.turns.current o one.event.promised.0 done in
    ap₂ (λ (h : Option ℤ) (n : ℕ). if not round.keyed && is_none h then key_events (drop n plan.keys) else []) kept.0 kept.1

-- ---- who sleeps up to a tick

-- is there
pub awaited_there : (w : World) (p : ℕ) → AwaitsTick w p → IsSome (get w.state.processes p)
awaited_there w p awaits = by (contains w.turns.sleepers p) refl (live w.state p) refl awaits
  where
    by : (b : Bool) → contains w.turns.sleepers p ≡ b → (l : Option Live) → live w.state p ≡ l → is_clock (if b then wait_in w.state p l else None) ≡ true → IsSome (get w.state.processes p)
    by false e l f is = let no : false ≡ true = is in let bad : ⊥ = cc in absurd bad
    by true e None f is = let no : false ≡ true = is in let bad : ⊥ = cc in absurd bad
    by true e (Some l) f is = rw (alive_part (get w.state.processes p) l f) refl

-- ---- an event that is a Run

pub clock-run : (plan : Planned) (round : Round) (w : World) (e : Event) → is_run e ≡ true → IsByClock plan round w e → IsByClock plan round w Run
clock-run plan round w Run is next = next
clock-run plan round w Tick is next = let bad : ⊥ = cc in absurd bad
clock-run plan round w (runs.Key byte) is next = let bad : ⊥ = cc in absurd bad
clock-run plan round w runs.Send is next = let bad : ⊥ = cc in absurd bad

-- ---- the keys of rounds

-- the key of a round, by its number
pub key_there : (keys : List ℕ) (n byte : ℕ) → slice_get keys n ≡ Some byte → key_events (drop n keys) ≡ runs.Key byte ∷ []
key_there [] n byte is = let bad : ⊥ = cc in absurd bad
key_there (k ∷ ks) zero byte is = ap (λ (b : ℕ). runs.Key b ∷ []) (same_Some k byte is)
key_there (k ∷ ks) (suc n) byte is = key_there ks n byte is

pub no_key_there : (keys : List ℕ) (n : ℕ) → slice_get keys n ≡ None → key_events (drop n keys) ≡ []
no_key_there [] zero is = refl
no_key_there [] (suc n) is = refl
no_key_there (k ∷ ks) zero is = let bad : ⊥ = cc in absurd bad
no_key_there (k ∷ ks) (suc n) is = no_key_there ks n is

-- as it is told
pub key_if : (keys : List ℕ) (n : ℕ) (told : Option ℕ) → told ≡ slice_get keys n → IfSome told (λ byte. key_events (drop n keys) ≡ runs.Key byte ∷ [])
key_if keys n None is = tt
key_if keys n (Some byte) is = key_there keys n byte (sym is)

pub key_if_none : (keys : List ℕ) (n : ℕ) (told : Option ℕ) → told ≡ slice_get keys n → IfNone told (key_events (drop n keys) ≡ [])
key_if_none keys n None is = no_key_there keys n (sym is)
key_if_none keys n (Some byte) is = tt

-- whether a later round has one
pub keys_behind : (n : ℕ) (keys : List ℕ) → n < length keys → drop n keys ≢ []
keys_behind n keys few none = let short = length-drop n keys in let zero_long : length (drop n keys) ≡ 0 = ap length none in omega (arith, few, short, zero_long)

pub no_keys_behind : (n : ℕ) (keys : List ℕ) → length keys ≤ n → drop n keys ≡ []
no_keys_behind n keys all = drop_all n keys all

-- the key that is due, if the round may still begin with one
due-if : (may : Bool) (key now : List Event) → may ≡ true → key ≡ now → (if may then key else []) ≡ now
due-if true key now is same = same
due-if false key now is same = let bad : ⊥ = cc in absurd bad

pub due_not : (may : Bool) (key : List Event) → may ≡ false → (if may then key else []) ≡ []
due_not true key is = let bad : ⊥ = cc in absurd bad
due_not false key is = refl

pub due_some : (may : Bool) (key : List Event) (told : Option ℕ) → may ≡ true → IfSome told (λ byte. key ≡ runs.Key byte ∷ []) → IfSome told (λ byte. (if may then key else []) ≡ runs.Key byte ∷ [])
due_some may key None is same = tt
due_some may key (Some byte) is same = due-if may key (runs.Key byte ∷ []) is same

pub due_none : (may : Bool) (key : List Event) (told : Option ℕ) → may ≡ true → IfNone told (key ≡ []) → IfNone told ((if may then key else []) ≡ [])
due_none may key None is same = due-if may key [] is same
due_none may key (Some byte) is same = tt
