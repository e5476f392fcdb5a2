-- Runs that lead to no stop are so many stretches, at none of whose ends a process of the program stands at a breakpoint.
use Rattle.std.proofs.Common.{◌≡◌, ◌∙◌, ℕ, zero, suc, ◌+◌, ◌<◌, ◌≤◌, inl, Bool, true, false, List, [], ◌∷◌, ◌++◌, refl, sym, ap, subst, arith, length, length-append, Option, None, Some}
use Rattle.std.specs.Prelude.{replicate, ◌&&◌, ◌==◌, if◌then◌else◌, not, is_none, is_some}
use Rattle.std.proofs.lemmas.Bool.{and_parts, eqb-true, false≢true, or_parts, not-false, not-true}
use Rattle.std.proofs.lemmas.List.{length-replicate, nil_from_length}
use Rattle.kernel_spec.specs.runs.Run.{Run, Outcome, Step_of, Turn, Idle, Ticked, Typed, Sent, Halted}
use Rattle.kernel_spec.specs.steps.Own.{Answer, Stepped, Called, Blocked, Exited, Faulted}
use Rattle.kcall_core.specs.Observers.{process_at, registers_of}
use Rattle.rv64i_core.specs.Registers.{Registers}
use Rattle.xv_machine.specs.Meaning.{Meaning}
use Rattle.xv_machine.specs.Drives.{Goes}
use Rattle.xv_machine.proofs.Joins.{goes-one}
use Rattle.xv_session.specs.Answers.{Stopped}
use Rattle.xv_session.specs.Looking.{next_step_of}
use Rattle.xv_session.specs.Names.{place_in}
use Rattle.xv_session.specs.Recorded.{Recorded, running_of}
use Rattle.xv_session.specs.Steps.{Advances}
use Rattle.xv_session.specs.Stops.{Unstopped, WentOn, is_before_stop, is_at_one, pc_is_one, stores_to_one, stops_for}
use Rattle.xv_session.specs.Until as until
use Rattle.xv_session.specs.declared.looking.NextStep.{NextStep}
use Rattle.xv_session.specs.declared.running.Running.{Running}
use Rattle.gdb_target.specs.Came.{Comes}
use Rattle.gdb_target.specs.Forth.{Passed, Stretch, current_of, ends_alone, is_bare, is_done, is_step, is_reached, standing}
use Rattle.gdb_target.specs.LastHit.{GoesForth, Looked, let_run_of}
use Rattle.gdb_target.specs.LetRun.{if_let}
use Rattle.gdb_target.specs.PlayedBy.{is_run}
use Rattle.gdb_target.specs.Rows.{RunsToStop, is_free, looks_at_row, starts_row}
use Rattle.gdb_target.specs.Standing.{NextIsRun, does_instruction, stander, stander_of, starter, starter_of, if_so, begins, is_among, is_place}
use Rattle.gdb_target.specs.Touches.{access_by, access_or, buffer_used, caller_ahead, caller_of, doer, first_used, if_done}
use Rattle.gdb_target.specs.Touches.{mover, mover_of, of_program, read_by, touch_ahead, touch_of, touch_or, touched, use_by_caller}
use Rattle.gdb_target.specs.Touches.{use_by, use_of_access, use_of_answer, use_of_step, used_by, watched_addresses, watches_uses}
use Rattle.gdb_target.specs.declared.let_run.LetRun.{LetRun}
use Rattle.gdb_target.specs.declared.played.Played.{Played}
use Rattle.gdb_target.specs.declared.points.Points.{Points}
use Rattle.gdb_target.specs.declared.reverse.Back.{Back}
use Rattle.gdb_target.specs.declared.reverse.Back.TheVariants as back
use Rattle.gdb_target.specs.Plan.{Planned, planned_at}
use Rattle.gdb_target.specs.declared.target.Target.{Target}
use Rattle.gdb_target.specs.declared.target.Until.{Until}
use Rattle.gdb_target.specs.declared.target.Until.TheVariants.{Point, StepOf, AnyStep}
use Rattle.gdb_target.specs.declared.target.Way.{Way}
use Rattle.gdb_target.specs.declared.touches.Access.{Access}
use Rattle.gdb_target.specs.declared.touches.Caller.{Caller}
use Rattle.gdb_target.specs.declared.touches.Touch.{Touch}
use Rattle.gdb_target.proofs.PlayedOn.{played_send, run_of_true}

-- ---- a place that is before no stop

among-none : (addresses : List ℕ) (o : Option Registers) → pc_is_one addresses o ≡ false → is_among addresses o ≡ false
among-none addresses None h = refl
among-none addresses (Some regs) h = h

pub nobody-stands : (run : Played) (program : ℕ) (addresses bytes : List ℕ) → is_before_stop addresses bytes run.session.machine.world ≡ false → stander run program addresses ≡ None
nobody-stands run program addresses bytes free = by run.session.machine.world.turns.current free
  where
    at : (p : ℕ) (b : Bool) → is_among addresses (registers_of run.session.machine.world.state p) ≡ false → stander_of run program addresses (if_so b p) ≡ None
    at p false none = refl
    at p true none =
        ap (λ (b : Bool). if_so (b && is_place program (place_in p run.session.names)) p) none

    by : (current : Option ℕ) → stops_for addresses bytes run.session.machine.world.state current ≡ false → stander_of run program addresses (starter_of run current) ≡ None
    by None free = refl
    by (Some p) free =
        let s = run.session.machine.world.state in
        at p (begins run p) (among-none addresses (registers_of s p) (or_parts (is_at_one addresses s p) (stores_to_one bytes s p) free).0)

-- ---- nothing is watched for reads

use-none : (access : Access) (points : Points) → points.read.items ≡ [] → points.accessed.items ≡ [] → use_by access points ≡ None
use-none access points no_reads none =
    let read : read_by access points ≡ None = rw no_reads (by access.loads) in
    let accessed : first_used access points.accessed.items ≡ None = ap (first_used access) none in
    ap (λ (x : Option ℕ). access_or x (first_used access points.accessed.items)) read ∙ ap (access_or None) accessed
  where
    by : (b : Bool) → (if b then first_used access [] else None) ≡ None
    by true = refl
    by false = refl

step-none : (points : Points) (access : Option Access) → points.read.items ≡ [] → points.accessed.items ≡ [] → use_of_access points access ≡ None
step-none points None no_reads none = refl
step-none points (Some access) no_reads none = use-none access points no_reads none

use-of-none : (points : Points) (step : Option NextStep) → points.read.items ≡ [] → points.accessed.items ≡ [] → use_of_step points step ≡ None
use-of-none points None no_reads none = refl
use-of-none points (Some step) no_reads none = step-none points (access_by (until.instruction_in step.word) step.address) no_reads none

touch-none : (run : Played) (points : Points) (p : Option ℕ) → points.read.items ≡ [] → points.accessed.items ≡ [] → touch_of run points p ≡ None
touch-none run points None no_reads none = refl
touch-none run points (Some p) no_reads none = ap (used_by p) (use-of-none points (next_step_of run.session.machine.world.state p) no_reads none)

if-done-none : (touch : Option Touch) (o : Outcome) → touch ≡ None → if_done touch o ≡ None
if-done-none touch o none = by (until.is_done o)
  where
    by : (b : Bool) → (if b then touch else None) ≡ None
    by true = none
    by false = refl

answer-none : (points : Points) (caller : Caller) (a : Answer) → points.read.items ≡ [] → points.accessed.items ≡ [] → use_of_answer points caller a ≡ None
answer-none points caller Stepped no_reads none = refl
answer-none points caller (Called number value) no_reads none = ap (used_by caller.pid) (step-none points (buffer_used caller.buffer number value) no_reads none)
answer-none points caller (Blocked number) no_reads none = refl
answer-none points caller (Exited status) no_reads none = refl
answer-none points caller (Faulted cause) no_reads none = refl

call-none : (points : Points) (caller : Option Caller) (o : Outcome) → points.read.items ≡ [] → points.accessed.items ≡ [] → use_by_caller points caller o ≡ None
call-none points None o no_reads none = refl
call-none points (Some caller) (Step_of p a) no_reads none = answer-none points caller a no_reads none
call-none points (Some caller) (Turn p) no_reads none = refl
call-none points (Some caller) Idle no_reads none = refl
call-none points (Some caller) Ticked no_reads none = refl
call-none points (Some caller) (Typed echo) no_reads none = refl
call-none points (Some caller) (Sent byte) no_reads none = refl
call-none points (Some caller) Halted no_reads none = refl

-- neither is told
neither : (first second : Option Touch) → first ≡ None → second ≡ None → touch_or first second ≡ None
neither first second no_first no_second = ap (λ (x : Option Touch). touch_or x second) no_first ∙ no_second

-- so no use is told
untouched : (r : LetRun) (t : Target) (o : Outcome) → watches_uses t.points ≡ false → touched r t o ≡ None
untouched r t o spares =
    let both = and_parts (length t.points.read.items == 0) (length t.points.accessed.items == 0) (not-false ((length t.points.read.items == 0) && (length t.points.accessed.items == 0)) spares) in
    let no_reads = nil_from_length t.points.read.items (eqb-true (length t.points.read.items) 0 both.0) in
    let none = nil_from_length t.points.accessed.items (eqb-true (length t.points.accessed.items) 0 both.1) in
    neither (if_done (touch_ahead r t) o) (use_by_caller t.points (caller_ahead r t) o)
    (if-done-none (touch_ahead r t) o (touch-none t.run t.points (if_let r (doer t.run t.program)) no_reads none))
    (call-none t.points (caller_ahead r t) o no_reads none)

-- by another event than Run no instruction is done
starter-none : (run : Played) → is_run (planned_at run.plan (length run.session.events)) ≡ false → starter run ≡ None
starter-none run other = by run.session.machine.world.turns.current
  where
    by : (current : Option ℕ) → starter_of run current ≡ None
    by None = refl
    by (Some p) =
        ap (λ (b : Bool). if_so ((b && is_none run.session.machine.world.turns.halted) && does_instruction (process_at run.session.machine.world p)) p) other

mover-none : (run : Played) → is_run (planned_at run.plan (length run.session.events)) ≡ false → mover run ≡ None
mover-none run other = by run.session.machine.world.turns.current
  where
    by : (current : Option ℕ) → mover_of run current ≡ None
    by None = refl
    by (Some p) = ap (λ (b : Bool). if_so (b && is_none run.session.machine.world.turns.halted) p) other

pub untouched-by-other : (r : LetRun) (t : Target) (o : Outcome) → is_run (planned_at t.run.plan (length t.run.session.events)) ≡ false → touched r t o ≡ None
untouched-by-other r t o other =
    neither (if_done (touch_ahead r t) o) (use_by_caller t.points (caller_ahead r t) o)
    (if-done-none (touch_ahead r t) o (ap (λ (p : Option ℕ). touch_of t.run t.points (if_let r (of_program t.run t.program p))) (starter-none t.run other)))
    (ap (λ (p : Option ℕ). use_by_caller t.points (caller_of t.run (if_let r (of_program t.run t.program p))) o) (mover-none t.run other))

-- up to a point
abbrev pub to_point : LetRun → Way
to_point r = record { until = Point; let_run = r }

no-step : (o : Outcome) → is_step Point o ≡ false
no-step (Step_of p a) = by (is_done a)
  where
    by : (b : Bool) → (b && false) ≡ false
    by true = refl
    by false = refl
no-step (Turn p) = refl
no-step Idle = refl
no-step Ticked = refl
no-step (Typed echo) = refl
no-step (Sent byte) = refl
no-step Halted = refl

-- by a done instruction nobody is gone
nobody-ends : (r : LetRun) (o : Outcome) → until.is_done o ≡ true → ends_alone r o ≡ false
nobody-ends r (Step_of p Stepped) done = refl
nobody-ends r (Step_of p (Called number value)) done = refl
nobody-ends r (Step_of p (Blocked number)) done = refl
nobody-ends r (Step_of p (Exited status)) done = absurd (false≢true done)
nobody-ends r (Step_of p (Faulted cause)) done = absurd (false≢true done)
nobody-ends r (Turn p) done = refl
nobody-ends r Idle done = refl
nobody-ends r Ticked done = refl
nobody-ends r (Typed echo) done = refl
nobody-ends r (Sent byte) done = refl
nobody-ends r Halted done = refl

-- ---- one Run

-- a Run that a session was sent
comes-one : (from to : Played) (o : Outcome) (mid new : Running) → from.session.machine ≡ mid.machine → to.session.machine ≡ new.machine → Advances mid Run o new
    → length to.session.events ≡ length from.session.events + 1 → Comes from to o
comes-one from to o mid new here there one count = record {
  before = [];
  last = Run;
  goes = subst (λ (m : Meaning). Goes m ((Run, o) ∷ []) to.session.machine) (sym here) (subst (λ (m : Meaning). Goes mid.machine ((Run, o) ∷ []) m) (sym there)
      (goes-one Run o mid.machine new.machine one.event.promised one.event.notes one.event.room one.event.frames one.event.sound));
  count = omega (arith, count);
}

-- ---- how many are sent

module _ (addresses bytes : List ℕ) where
  pub went-within : (most : ℕ) (met : Bool) (last : Option Outcome) (old new : Running) (sent : ℕ) → WentOn addresses bytes most met last old new sent → sent ≤ most
  went-within most met last old new zero went = omega arith
  went-within most met last old new (suc n) (mid, o, before, one, stops, was, within, all) = within

  pub went-some : (most : ℕ) (met : Bool) (last : Option Outcome) (old new : Running) (sent : ℕ) → WentOn addresses bytes most met last old new sent → 0 < most → 0 < sent
  went-some most met last old new zero (none, unmet, nothing, same) some = omega (arith, none, some)
  went-some most met last old new (suc n) went some = omega arith

  -- of Runs, one at least, something came
  pub something-came : (most : ℕ) (met : Bool) (last : Option Outcome) (old new : Running) (sent : ℕ) → WentOn addresses bytes most met last old new sent → 0 < most
      → (o : Outcome) × (last ≡ Some o)
  something-came most met last old new zero (none, unmet, nothing, same) some = absurd (omega (arith, none, some))
  something-came most met last old new (suc n) (mid, o, before, one, stops, was, within, all) some = (o, was)

-- ---- Runs in a row

-- what stands after so many of them
record IsAt (r : LetRun) (t : Target) (bytes : List ℕ) (n : ℕ) (mid : Running) (last : Target) : Type 0 where
  passed : Passed (to_point r) n t last
  looked : (q : LetRun) → Looked (back.Point q) n t last None
  free : is_before_stop last.points.breakpoints.items bytes last.run.session.machine.world ≡ false
  machine : last.run.session.machine ≡ mid.machine
  points : last.points ≡ t.points
  plan : last.run.plan ≡ t.run.plan
  count : length last.run.session.events ≡ length t.run.session.events + n

-- A row of Runs from t to `to`: the last of them is a stretch of its own, of which this came, and before it nobody stood at a breakpoint
pub record IsRow (r : LetRun) (t : Target) (o : Outcome) (to : Target) : Type 0 where
  pub stretches : ℕ
  pub last : Target
  pub passed : Passed (to_point r) stretches t last
  pub looked : (q : LetRun) → Looked (back.Point q) stretches t last None
  pub stretch : Stretch Point last to o
  pub nobody : stander last.run last.program last.points.breakpoints.items ≡ None
  pub untouched : (q : LetRun) → touched q last o ≡ None
  pub single : length to.run.session.events ≡ length last.run.session.events + 1

module _ (r : LetRun) (t : Target) (bytes : List ℕ) (count : ℕ) (free : is_before_stop t.points.breakpoints.items bytes t.run.session.machine.world ≡ false)
    (spares : watches_uses t.points ≡ false)
    (each : (k : ℕ) → k < count → planned_at t.run.plan (length t.run.session.events + k) ≡ Run) where
  abbrev addresses : List ℕ
  addresses = t.points.breakpoints.items

  one-on : (n : ℕ) (mid new : Running) (o : Outcome) (last : Target) → n < count → IsAt r t bytes n mid last → Advances mid Run o new → until.is_done o ≡ true
      → is_before_stop addresses bytes new.machine.world ≡ false → (next : Target) × IsAt r t bytes (suc n) new next
  one-on n mid new o last few is one done free_now =
      let s = last.run.session in
      let plan = last.run.plan in
      let after : Recorded = record s { events = s.events ++ Run ∷ []; machine = new.machine; names = new.names } in
      let its : planned_at plan (length s.events) ≡ Run =
      subst (λ (x : Planned). planned_at x (length s.events) ≡ Run) (sym is.plan)
      (ap (planned_at t.run.plan) is.count ∙ each n few) in
      let run : Played = record {
        session = after;
        plan = plan;
        played = played_send plan s.events after.events Run last.run.played its refl;
      } in
      let next : Target = record last { run = run } in
      let long : length after.events ≡ length s.events + 1 = length-append s.events (Run ∷ []) in
      let came : Comes last.run run o = comes-one last.run run o mid new is.machine refl one long in
      let its_free : is_before_stop last.points.breakpoints.items bytes new.machine.world ≡ false =
      subst (λ (points : Points). is_before_stop points.breakpoints.items bytes new.machine.world ≡ false) (sym is.points) free_now in
      let here : stander last.run last.program last.points.breakpoints.items ≡ None = nobody-stands last.run last.program last.points.breakpoints.items bytes is.free in
      let nobody : standing r next ≡ None = ap (if_let r) (nobody-stands run last.program last.points.breakpoints.items bytes its_free) in
      let spared : watches_uses last.points ≡ false = subst (λ (points : Points). watches_uses points ≡ false) (sym is.points) spares in
      let forth : GoesForth last o next = record { came = came; more = omega (arith, long); single = inl long } in (
        next,
        record {
          passed = (
            last,
            is.passed,
            record {
              outcome = o;
              stretch = record { came = came; single = inl long };
              untouched = untouched r last o spared;
              no_step = ap (λ (b : Bool). is_reached b next) (no-step o);
              nobody = nobody;
              there = ap (λ (b : Bool). is_reached b next) (nobody-ends r o done);
            },
          );
          looked = λ q. (last, None, None, is.looked q, record { outcome = o; told = (ap (if_let q) here, untouched q last o spared); forth = forth }, refl);
          free = its_free;
          machine = refl;
          points = is.points;
          plan = is.plan;
          count = omega (arith, long, is.count);
        },
      )

  row-at : (n : ℕ) (mid : Running) → n ≤ count → Unstopped addresses bytes n (running_of t.run.session) mid → (last : Target) × IsAt r t bytes n mid last
  row-at zero mid few same = (
    t,
    record {
      passed = refl;
      looked = λ q. (refl, refl);
      free = free;
      machine = ap (λ (r : Running). r.machine) (sym same);
      points = refl;
      plan = refl;
      count = omega arith;
    },
  )
  row-at (suc n) new few (mid, o, before, one, done, free_now) =
      let (last, is) = row-at n mid (omega (arith, few)) before in
      one-on n mid new o last (omega (arith, few)) is one done free_now

  pub row : (to : Target) (o : Outcome) (most sent : ℕ) (met : Bool) → sent ≤ count → Stopped addresses bytes most sent met (Some o) t.run.session to.run.session → IsRow r t o to
  row to o most zero met few ((none, unmet, nothing, same), kept) = let bad : ⊥ = cc in absurd bad
  row to o most (suc n) met few ((mid, x, before, one, stops, was, within, all), kept) =
      let (last, at) = row-at n mid (omega (arith, few)) before in
      let same : x ≡ o = cc in
      let new : Running = running_of to.run.session in
      let far : length to.run.session.events ≡ length t.run.session.events + suc n =
      ap (λ (r : Recorded). length r.events) kept ∙ length-append t.run.session.events (replicate (suc n) Run) ∙ ap (λ k. length t.run.session.events + k) (length-replicate (suc n) Run) in
      let long : length to.run.session.events ≡ length last.run.session.events + 1 = omega (arith, far, at.count) in
      record {
        stretches = n;
        last = last;
        passed = at.passed;
        looked = at.looked;
        stretch = record { came = comes-one last.run to.run o mid new at.machine refl (subst (λ y. Advances mid Run y new) same one) long; single = inl long };
        nobody = nobody-stands last.run last.program last.points.breakpoints.items bytes at.free;
        untouched = λ q. untouched q last o (subst (λ (points : Points). watches_uses points ≡ false) (sym at.points) spares);
        single = long;
      }

-- ---- where it may start

row-free : (r : LetRun) (t to : Target) (bytes : List ℕ) (o : Outcome) → is_free bytes t ≡ true → RunsToStop t.points.breakpoints.items bytes t.run o to.run → IsRow r t o to
row-free r t to bytes o starts ran =
    let at = is_before_stop t.points.breakpoints.items bytes t.run.session.machine.world in
    let uses = watches_uses t.points in
    let both = and_parts (is_some (current_of t) && not uses) (not at) starts in
    let free : at ≡ false = not-true at both.1 in
    let spares : uses ≡ false = not-true uses (and_parts (is_some (current_of t)) (not uses) both.0).1 in
    row r t bytes ran.sent free spares ran.runs to o ran.most ran.sent ran.met (omega arith) ran.stopped

pub row-of : (r : LetRun) (t to : Target) (bytes : List ℕ) (o : Outcome) → bytes ≡ watched_addresses t.points → is_free bytes t ≡ true
    → RunsToStop t.points.breakpoints.items (watched_addresses t.points) t.run o to.run → IsRow r t o to
row-of r t to bytes o all starts ran = row-free r t to (watched_addresses t.points) o (subst (λ (b : List ℕ). is_free b t ≡ true) all starts) ran

pub starts-free : (until : Until) (bytes : List ℕ) (t : Target) → starts_row until bytes t ≡ true → (until ≡ Point) × (is_free bytes t ≡ true)
starts-free Point bytes t starts = (refl, (and_parts (not (is_bare t.points)) (is_free bytes t) starts).1)
starts-free (StepOf p) bytes t starts = cc
starts-free AnyStep bytes t starts = cc

pub looks-free : (b : Back) (bytes : List ℕ) (t : Target) → looks_at_row b bytes t ≡ true → (b ≡ back.Point (let_run_of b)) × (is_free bytes t ≡ true) × NextIsRun t.run
looks-free (back.Point let_run) bytes t looks =
    let e = planned_at t.run.plan (length t.run.session.events) in
    let both = and_parts (is_run e) (is_free bytes t) looks in
    (refl, both.1, run_of_true e both.0)
looks-free (back.StepOf p) bytes t looks = cc
