-- Runs that were sent at once: of a process that runs, and where nobody runs.
use Rattle.std.proofs.Common.{◌≡◌, ◌≢◌, ◌⊎◌, ℕ, zero, suc, ◌+◌, ◌<◌, List, [], ◌∷◌, ◌++◌, length, replicate, Option, None, Some, inl, inr, refl, sym, ap, ap₂, ◌∙◌, subst, arith}
use Rattle.std.specs.Prelude.{ℤ, IsSome}
use Rattle.std.proofs.lemmas.List.{length-replicate, replicate_more, length-append}
use Rattle.kernel_spec.specs.runs.Run.{World, Event, Run, Outcome, Step_of, Turn, Idle, Halted, Ticked, Typed, Sent, TurnTaken, RunHappens, Happens, stays_current}
use Rattle.kernel_spec.specs.runs.Rounds.{events}
use Rattle.kernel_spec.specs.steps.Own.{Answer, Stepped}
use Rattle.kernel_spec.specs.steps.Step.{own}
use Rattle.kernel_spec.specs.views.Words.{or_zero}
use Rattle.kernel_spec.specs.waking.Wakes.{Promised, IsPromised}
use Rattle.xv_machine.specs.Drives.{Goes, Ran, AreRuns, done_by}
use Rattle.xv_machine.specs.Instructions.{NextIsOther}
use Rattle.xv_machine.specs.Meaning.{Meaning}
use Rattle.xv_machine.specs.Reached.{IsEvent}
use Rattle.xv_machine.specs.Sound.{IsSoundMachine, IsHalted}
use Rattle.xv_machine.proofs.Joins.{events-join, goes-one, goes-join}
use Rattle.xv_machine.proofs.Sent.{events-again}
use Rattle.xv_session.specs.Names.{NamesGo, names_after, asked_in}
use Rattle.xv_session.specs.Steps.{Advances, RunsMade, AreRunsTo, idle_or_halted, passed}
use Rattle.xv_session.specs.declared.names.Named.{Named}
use Rattle.xv_session.specs.declared.running.Running.{Running}
use Rattle.xv_session.proofs.NamesGo.{names-one, names-join, names-again, names-along, IsNameless, step-nameless, turn-nameless, idle-nameless, halted-nameless}

-- ---- where nobody runs

abbrev HasTurn : Outcome → World → Type 0
HasTurn o t = (p : ℕ) × (o ≡ Turn p) × (t.turns.current ≡ Some p)

-- a turn, or nothing changes
abbrev Passes : World → Option ℤ → Outcome → World → Type 0
Passes w halted o t = HasTurn o t ⊎ ((t ≡ w) × (o ≡ idle_or_halted halted))

one-passes : (w t : World) (o : Outcome) → w.turns.current ≡ None → Happens w Run o t → Passes w w.turns.halted o t
one-passes w t o stopped h = by w.turns.halted w.turns.current stopped h
  where
    taken : (x : Outcome) → TurnTaken w x t → Passes w None x t
    taken (Turn p) h = inl (p, refl, ap (λ (v : World). v.turns.current) h.3)
    taken Idle h = inr (h, refl)
    taken (Step_of p a) h = absurd h
    taken Ticked h = absurd h
    taken (Typed echo) h = absurd h
    taken (Sent b) h = absurd h
    taken Halted h = absurd h

    by : (halted : Option ℤ) (current : Option ℕ) → current ≡ None → RunHappens w halted current o t → Passes w halted o t
    by (Some status) current none h = inr (h.1, h.0)
    by None (Some p) none h = let bad : ⊥ = cc in absurd bad
    by None None none h = taken o h

no-step : (halted : Option ℤ) (p : ℕ) → Step_of p Stepped ≡ idle_or_halted halted → ⊥
no-step None p e = cc
no-step (Some status) p e = cc

no-other : (halted : Option ℤ) (o : Outcome) → o ≢ Idle → o ≢ Halted → o ≡ idle_or_halted halted → ⊥
no-other None o idle halted e = idle e
no-other (Some status) o idle halted e = halted e

-- no instruction is done where nobody runs
pub first-no-step : (w t : World) (p : ℕ) → w.turns.current ≡ None → Happens w Run (Step_of p Stepped) t → ⊥
first-no-step w t p stopped h = elim (one-passes w t (Step_of p Stepped) stopped h) [
  | inl turn ↦ let e : Step_of p Stepped ≡ Turn turn.0 = turn.1 in let bad : ⊥ = cc in bad
  | inr same ↦ no-step w.turns.halted p same.1
]

-- the same again and again, and nobody's turn comes
all-stay : (n : ℕ) (w t : World) (o : Outcome) → w.turns.current ≡ None → ((p : ℕ) → o ≢ Turn p) → IsPromised w (replicate n (Run, o)) t → t ≡ w
all-stay zero w t o stopped none run = run
all-stay (suc n) w t o stopped none (mid, one, more) = elim (one-passes w mid o stopped one.0) [
  | inl turn ↦ absurd (none turn.0 turn.1)
  | inr same ↦ all-stay n mid t o (ap (λ (v : World). v.turns.current) same.0 ∙ stopped) none more ∙ same.0
]

not-turn : (o : Outcome) → (o ≡ Idle) ⊎ (o ≡ Halted) → (p : ℕ) → o ≢ Turn p
not-turn o (inl is) p e = let bad : Idle ≡ Turn p = sym is ∙ e in let no : ⊥ = cc in no
not-turn o (inr is) p e = let bad : Halted ≡ Turn p = sym is ∙ e in let no : ⊥ = cc in no

nameless : (o : Outcome) → (o ≡ Idle) ⊎ (o ≡ Halted) → IsNameless o
nameless o (inl is) = subst IsNameless (sym is) idle-nameless
nameless o (inr is) = subst IsNameless (sym is) halted-nameless

-- by who runs then, and whether the machine is halted, it is told what came of the last Run
abbrev Told : (most : ℕ) → List (Event × Outcome) → (a b : World) → List Named → Type 0
Told most list a b names = (o : Outcome) × (o ≡ passed b.turns.current b.turns.halted) × AreRunsTo most (or_zero a.turns.current) (Some o) list × NamesGo a list b names names

passed-turn : (current : Option ℕ) (halted : Option ℤ) (p : ℕ) → current ≡ Some p → Turn p ≡ passed current halted
passed-turn None halted p e = let bad : ⊥ = cc in absurd bad
passed-turn (Some q) halted p e = let same : q ≡ p = cc in ap Turn (sym same)

passed-none : (current : Option ℕ) (halted : Option ℤ) → current ≡ None → idle_or_halted halted ≡ passed current halted
passed-none None halted e = refl
passed-none (Some q) halted e = let bad : ⊥ = cc in absurd bad

all-told : (most p : ℕ) (list : List (Event × Outcome)) (a b : World) (names : List Named) → 0 < most → a.turns.current ≡ None → IsPromised a list b → AreRuns most p list → Told most list a b names
all-told zero p list a b names some stopped run are = absurd (omega arith)
all-told (suc k) p list a b names some stopped run (inl all) =
    let first : IsPromised a (replicate (suc k) (done_by p)) b = subst (λ (es : List (Event × Outcome)). IsPromised a es b) all run in
    absurd (first-no-step a first.0 p stopped first.1.0)
all-told (suc k) p list a b names some stopped run (inr (inl (suc made, o, is, fewer, other, idle, halted))) =
    let first : IsPromised a (replicate (suc made) (done_by p) ++ (Run, o) ∷ []) b = subst (λ (es : List (Event × Outcome)). IsPromised a es b) is run in
    absurd (first-no-step a first.0 p stopped first.1.0)
all-told (suc k) p list a b names some stopped run (inr (inl (zero, o, is, fewer, other, idle, halted))) =
    let first : IsPromised a ((Run, o) ∷ []) b = subst (λ (es : List (Event × Outcome)). IsPromised a es b) is run in
    elim (one-passes a first.0 o stopped first.1.0) [
      | inl turn ↦ (
        o,
        turn.1 ∙ passed-turn b.turns.current b.turns.halted turn.0 (ap (λ (v : World). v.turns.current) first.2 ∙ turn.2),
        inl (0, is, fewer, (λ e. no-turn-step turn.0 (or_zero a.turns.current) (sym turn.1 ∙ e)), idle, halted),
        names-along list ((Run, o) ∷ []) a b names names is (first.0, first.1, (first.2, sym ((subst IsNameless (sym turn.1) (turn-nameless turn.0)).keeps (asked_in a) names))),
      )
      | inr same ↦ absurd (no-other a.turns.halted o idle halted same.1)
    ]
  where
    no-turn-step : (q r : ℕ) → Turn q ≡ Step_of r Stepped → ⊥
    no-turn-step q r e = cc
all-told (suc k) p list a b names some stopped run (inr (inr (o, is, which))) =
    let again : IsPromised a (replicate (suc k) (Run, o)) b = subst (λ (es : List (Event × Outcome)). IsPromised a es b) is run in
    let stays : b ≡ a = all-stay (suc k) a b o stopped (not-turn o which) again in
    let now : o ≡ idle_or_halted a.turns.halted = elim (one-passes a again.0 o stopped again.1.0) [
      | inl turn ↦ absurd (not-turn o which turn.0 turn.1)
      | inr same ↦ same.1
    ] in (
      o,
      now ∙ ap (λ (v : World). idle_or_halted v.turns.halted) (sym stays) ∙ passed-none b.turns.current b.turns.halted (ap (λ (v : World). v.turns.current) stays ∙ stopped),
      inr (is, which),
      names-along list (replicate (suc k) (Run, o)) a b names names is (names-again (suc k) a b Run o names (nameless o which) again),
    )

pub one-more : (made p : ℕ) (o : Outcome) → events (replicate made (done_by p) ++ (Run, o) ∷ []) ≡ replicate (made + 1) Run
one-more made p o = events-join (replicate made (done_by p)) ((Run, o) ∷ []) ∙ ap (λ es. es ++ Run ∷ []) (events-again made Run (Step_of p Stepped)) ∙ replicate_more made Run

-- all of them are Runs
are-runs : (most p sent : ℕ) (list : List (Event × Outcome)) → length list ≡ sent → AreRuns most p list → events list ≡ replicate sent Run
are-runs most p sent list count (inl all) =
    ap events all ∙ events-again most Run (Step_of p Stepped) ∙ ap (λ n. replicate n Run) (sym (length-replicate most (done_by p)) ∙ ap length (sym all) ∙ count)
are-runs most p sent list count (inr (inl (made, o, is, fewer, other, idle, halted))) =
    ap events is ∙ one-more made p o
    ∙ ap (λ n. replicate n Run) (sym (length-append (replicate made (done_by p)) ((Run, o) ∷ []) ∙ ap (λ n. n + 1) (length-replicate made (done_by p))) ∙ ap length (sym is) ∙ count)
are-runs most p sent list count (inr (inr (o, is, which))) = ap events is ∙ events-again most Run o ∙ ap (λ n. replicate n Run) (sym (length-replicate most (Run, o)) ∙ ap length (sym is) ∙ count)

-- Runs that were sent where nobody runs
pub passes : (most sent : ℕ) (names : List Named) (a b : Meaning) → a.world.turns.current ≡ None → 0 < most → Ran most sent a b
    → RunsMade most sent (Some (passed b.world.turns.current b.world.turns.halted)) (record { machine = a; names = names }) (record { machine = b; names = names })
passes most sent names a b stopped some ran =
    let told = all-told most (or_zero a.world.turns.current) ran.list a.world b.world names some stopped ran.goes.run ran.runs_are in
    record {
      list = ran.list;
      goes = ran.goes;
      named = told.3;
      runs_are = subst (λ (o : Outcome). AreRunsTo most (or_zero a.world.turns.current) (Some o) ran.list) told.1 told.2;
      those = are-runs most (or_zero a.world.turns.current) sent ran.list ran.count ran.runs_are;
    }

-- ---- the process that runs

one-stays : (w t : World) (p : ℕ) → w.turns.current ≡ Some p → Happens w Run (Step_of p Stepped) t → t.turns.current ≡ Some p
one-stays w t p is h = by w.turns.halted w.turns.current is h
  where
    by : (halted : Option ℤ) (current : Option ℕ) → current ≡ Some p → RunHappens w halted current (Step_of p Stepped) t → t.turns.current ≡ Some p
    by (Some status) current e h = let no : Step_of p Stepped ≡ Halted = h.0 in let bad : ⊥ = cc in absurd bad
    by None None e h = absurd h
    by None (Some q) e h =
        let answer : Step_of p Stepped ≡ Step_of q (own h.before).answer = h.answer in
        let same : (own h.before).answer ≡ Stepped = cc in
        h.turns.current ∙ ap (stays_current q) same ∙ e

-- it runs on, as long as its instructions are done
pub runs-on : (n : ℕ) (w t : World) (p : ℕ) → w.turns.current ≡ Some p → IsPromised w (replicate n (done_by p)) t → t.turns.current ≡ Some p
runs-on zero w t p is run = ap (λ (v : World). v.turns.current) run ∙ is
runs-on (suc n) w t p is (mid, one, more) = runs-on n mid t p (one-stays w mid p is one.0) more

-- of a Run a step of it comes
pub steps : (m : Meaning) (t : World) (p : ℕ) (o : Outcome) → IsSoundMachine m → m.world.turns.current ≡ Some p → Happens m.world Run o t → (a : Answer) × (o ≡ Step_of p a)
steps m t p o sound is h = by m.world.turns.halted m.world.turns.current is sound.halted h
  where
    by : (halted : Option ℤ) (current : Option ℕ) → current ≡ Some p → IsHalted m.world.state m.world.turns halted → RunHappens m.world halted current o t → (a : Answer) × (o ≡ Step_of p a)
    by (Some status) current e end h = let no : None ≡ Some p = sym end.1 ∙ is in let bad : ⊥ = cc in absurd bad
    by None None e end h = let bad : ⊥ = cc in absurd bad
    by None (Some q) e end h = let same : q ≡ p = cc in ((own h.before).answer, h.answer ∙ ap (λ r. Step_of r (own h.before).answer) same)

-- the process that runs
pub there : (o : Option ℕ) → IsSome o → o ≡ Some (or_zero o)
there None e = let no : ⊥ = cc in absurd no
there (Some p) e = refl

-- all of them are done instructions
pub all-done : (most made : ℕ) (names : List Named) (a b : Meaning) → made ≡ most → Goes a (replicate made (done_by (or_zero a.world.turns.current))) b
    → RunsMade most most None (record { machine = a; names = names }) (record { machine = b; names = names })
all-done most made names a b all goes =
    let p = or_zero a.world.turns.current in
    record {
      list = replicate made (done_by p);
      goes = goes;
      named = names-again made a.world b.world Run (Step_of p Stepped) names (step-nameless p) goes.run;
      runs_are = ap (λ n. replicate n (done_by p)) all;
      those = events-again made Run (Step_of p Stepped) ∙ ap (λ n. replicate n Run) all;
    }

-- something else came of the last one
pub some-done : (most made p : ℕ) (o : Outcome) (names : List Named) (a mid : Meaning) (new : Running) → IsSoundMachine a
    → a.world.turns.current ≡ Some p → made < most → Goes a (replicate made (done_by (or_zero a.world.turns.current))) mid → NextIsOther mid
    → Advances (record { machine = mid; names = names }) Run o new → RunsMade most (made + 1) (Some o) (record { machine = a; names = names }) new
some-done most made p o names a mid new sound is fewer goes next one =
    let q = or_zero a.world.turns.current in
    let which : q ≡ p = ap or_zero is in
    let there : mid.world.turns.current ≡ Some p = runs-on made a.world mid.world p is (subst (λ r. IsPromised a.world (replicate made (done_by r)) mid.world) which goes.run) in
    let step = steps mid new.machine.world p o goes.sound there one.event.promised.0 in
    let last = goes-one Run o mid new.machine one.event.promised one.event.notes one.event.room one.event.frames one.event.sound in
    record {
      list = replicate made (done_by q) ++ (Run, o) ∷ [];
      goes = goes-join (replicate made (done_by q)) ((Run, o) ∷ []) a mid new.machine goes last;
      named = names-join (replicate made (done_by q)) ((Run, o) ∷ []) a.world mid.world new.machine.world names names new.names
          (names-again made a.world mid.world Run (Step_of q Stepped) names (step-nameless q) goes.run)
          (subst (λ (ns : List Named). NamesGo mid.world ((Run, o) ∷ []) new.machine.world names ns) (sym one.names) (names-one mid.world new.machine.world Run o names one.event.promised));
      runs_are = inl (
        made,
        refl,
        fewer,
        (λ e. next q new.machine.world
            (subst (λ x. Happens mid.world Run x new.machine.world) e one.event.promised.0)),
        (λ e. no-idle step.0 (sym step.1 ∙ e)),
        (λ e. no-halted step.0 (sym step.1 ∙ e)),
      );
      those = one-more made q o;
    }
  where
    no-idle : (a : Answer) → Step_of p a ≡ Idle → ⊥
    no-idle a e = cc

    no-halted : (a : Answer) → Step_of p a ≡ Halted → ⊥
    no-halted a e = cc

-- ---- one Run

event-of : (e : Event) (o : Outcome) (a b : Meaning) → Goes a ((e, o) ∷ []) b → IsEvent a e o b
event-of e o a b goes = record {
  promised = subst (λ (w : World). Promised a.world e o w) (sym goes.run.2) goes.run.1;
  notes = goes.notes;
  room = goes.room;
  frames = goes.frames;
  sound = goes.sound;
}

-- an instruction
pub one-done : (p made : ℕ) (names : List Named) (a b : Meaning) → a.world.turns.current ≡ Some p → made ≡ 1 → Goes a (replicate made (done_by (or_zero a.world.turns.current))) b
    → Advances (record { machine = a; names = names }) Run (Step_of p Stepped) (record { machine = b; names = names })
one-done p made names a b is one goes = record {
  event = event-of Run (Step_of p Stepped) a b (subst (λ (list : List (Event × Outcome)). Goes a list b) (ap₂ (λ (n q : ℕ). replicate n (done_by q)) one (ap or_zero is)) goes);
  names = refl;
}

-- none was done, and then an event comes
pub none-done : (p made : ℕ) (e : Event) (o : Outcome) (names : List Named) (a mid : Meaning) (new : Running) → made ≡ 0
    → Goes a (replicate made (done_by p)) mid → Advances (record { machine = mid; names = names }) e o new
    → Advances (record { machine = a; names = names }) e o new
none-done p made e o names a mid new none goes one =
    let nothing : Goes a [] mid = subst (λ n. Goes a (replicate n (done_by p)) mid) none goes in
    record {
      event = event-of e o a new.machine (goes-join [] ((e, o) ∷ []) a mid new.machine nothing
          (goes-one e o mid new.machine one.event.promised one.event.notes one.event.room one.event.frames one.event.sound));
      names = one.names ∙ ap (λ (w : World). names_after (asked_in w) o names) nothing.run;
    }
