-- Stretches and looks, one after another.
use Rattle.std.proofs.Common.{◌≡◌, ◌⊎◌, ◌∙◌, ℕ, zero, suc, ◌+◌, ◌<◌, ◌≤◌, inl, inr, length, refl, sym, ap, subst, arith, Option, None, Some}
use Rattle.std.proofs.lemmas.Bool.{eq-eqb}
use Rattle.std.specs.Prelude.{Bool, IfSome, if◌then◌else◌, false, true}
use Rattle.kernel_spec.specs.runs.Run.{Outcome, Step_of, Turn, Idle, Ticked, Typed, Sent, Halted}
use Rattle.kernel_spec.specs.steps.Own.{Answer, Stepped, Called, Blocked, Exited, Faulted}
use Rattle.xv_session.specs.Until.{is_done}
use Rattle.gdb_packets.specs.declared.answers.StopReason.{StopReason}
use Rattle.gdb_target.specs.Before.{told_before}
use Rattle.gdb_target.specs.Forth.{Passed, Stretch, IsChanged, IsJudged, IsStopFor, IsUsedOrJudged, Goes, GoesBy, Stands, TellsIf, or_shows}
use Rattle.gdb_target.specs.LastHit.{GoesForth, IsHitBefore, IsHitFor, IsHitOf, IsPointHit, Looked, Looks, later, step_hit}
use Rattle.gdb_target.specs.LetRun.{lets}
use Rattle.gdb_target.specs.Standing.{stander}
use Rattle.gdb_target.specs.Touches.{IsByChange, IsByInstruction, access_or, buffer_used, first_used, if_done, read_by, reason_of_use}
use Rattle.gdb_target.specs.Touches.{told_of, touch_or, touched, use_by, use_by_caller, use_of_access, use_of_answer, used_by}
use Rattle.gdb_target.specs.declared.let_run.LetRun.{LetRun}
use Rattle.gdb_target.specs.declared.reverse.Back.{Back}
use Rattle.gdb_target.specs.declared.reverse.Back.TheVariants as backs
use Rattle.gdb_target.specs.declared.reverse.Hit.{Hit}
use Rattle.gdb_target.specs.declared.target.Pause.{Pause}
use Rattle.gdb_target.specs.declared.target.Pause.TheVariants.{Shows, Stopped, Gone, Ended}
use Rattle.gdb_target.specs.declared.target.Stopped as stops
use Rattle.gdb_target.specs.declared.target.Target.{Target}
use Rattle.gdb_target.specs.declared.target.Way.{Way}
use Rattle.gdb_target.specs.declared.points.Points.{Points}
use Rattle.gdb_target.specs.declared.touches.Access.{Access}
use Rattle.gdb_target.specs.declared.touches.Ahead.{Ahead}
use Rattle.gdb_target.specs.declared.touches.Caller.{Caller}
use Rattle.gdb_target.specs.declared.touches.Touch.{Touch}
use Rattle.gdb_target.specs.declared.touches.Use.{Use}
use Rattle.gdb_target.specs.declared.touches.Use.TheVariants as uses
use Rattle.gdb_target.proofs.Rows.{IsRow, to_point}

-- ---- forth

-- Runs, one at most or as many as it is, are one
pub one-or : {U : Type 0} (most old new : ℕ) → (most ≡ 1) ⊎ U → old < new → new ≤ old + most → (new ≡ old + 1) ⊎ U
one-or most old new (inl one) more within = inl (omega (arith, one, more, within))
one-or most old new (inr free) more within = inr free

module _ (way : Way) where
  -- the stop before what came is told
  told-goes : (from mid new : Target) (o : Outcome) (p : Option Pause) (before : Option stops.Stopped) → Stretch way.until from mid o → told_before way.let_run o ≡ before
      → TellsIf before mid p new → Goes way from p new
  told-goes from mid new o p None stretch is told = absurd told
  told-goes from mid new o p (Some s) stretch is told = subst (λ (q : Option Pause). Goes way from q new) (sym told.pause_is)
      (inl (record { happened = mid; outcome = o; stretch = stretch; told = is; back = told.back }))

  -- by a stretch after which no use of watched bytes is told
  stands-goes : (from mid new : Target) (o : Outcome) (p : Option Pause) → Stretch way.until from mid o → touched way.let_run from o ≡ None → new ≡ mid → Stands way o new p → Goes way from p new
  stands-goes from mid new o None stretch spared same stands = record {
    outcome = o;
    stretch = subst (λ (t : Target). Stretch way.until from t o) (sym same) stretch;
    untouched = spared;
    no_step = stands.0;
    nobody = stands.1;
    there = stands.2;
  }
  stands-goes from mid new o (Some Shows) stretch spared same stands = absurd stands
  stands-goes from mid new o (Some (Stopped s)) stretch spared same (why, trap, lets_it) = inr (record {
    outcome = o;
    stretch = subst (λ (t : Target). Stretch way.until from t o) (sym same) stretch;
    is = subst (λ (r : StopReason). IsStopFor way from o r s.pid new) (sym why) trap;
    let_run = lets_it;
  })
  stands-goes from mid new o (Some Gone) stretch spared same gone =
      record { outcome = o; stretch = subst (λ (t : Target). Stretch way.until from t o) (sym same) stretch; gone = gone }
  stands-goes from mid new o (Some (Ended status)) stretch spared same stands = absurd stands

  -- what stands here after a stretch, or else what the console shows
  pub shown-goes : (from new : Target) (o : Outcome) (p : Option Pause) (b : Bool) → Stretch way.until from new o → touched way.let_run from o ≡ None → Stands way o new p
      → Goes way from (or_shows p b) new
  shown-goes from new o None true stretch spared stands = stands-goes from new new o None stretch spared refl stands
  shown-goes from new o None false stretch spared stands = stands-goes from new new o None stretch spared refl stands
  shown-goes from new o (Some pause) b stretch spared stands = stands-goes from new new o (Some pause) stretch spared refl stands

  pub judged-goes : (from mid new : Target) (o : Outcome) (p : Option Pause) → Stretch way.until from mid o → touched way.let_run from o ≡ None
      → IsJudged way (told_before way.let_run o) o mid p new → Goes way from p new
  judged-goes from mid new o p stretch spared (inl told) = told-goes from mid new o p (told_before way.let_run o) stretch refl told
  judged-goes from mid new o p stretch spared (inr (same, stands)) = stands-goes from mid new o p stretch spared same stands

  pub passed-join : (n m : ℕ) (a b c : Target) → Passed way n a b → Passed way m b c → (k : ℕ) × Passed way k a c
  passed-join n zero a b c p same = (n, subst (λ (t : Target). Passed way n a t) (sym same) p)
  passed-join n (suc m) a b c p (mid, rest, last) = let (k, so_far) = passed-join n m a b mid p rest in (suc k, (mid, so_far, last))

  pub goes-once : (a b : Target) (p : Option Pause) → Goes way a p b → GoesBy way a p b
  goes-once a b None g = record { stretches = 1; last = b; passed = (a, refl, g); ends = refl }
  goes-once a b (Some pause) g = record { stretches = 0; last = a; passed = refl; ends = g }

  pub goes-further : (n : ℕ) (a b c : Target) (p : Option Pause) → Passed way n a b → GoesBy way b p c → GoesBy way a p c
  goes-further n a b c p passed g =
      let (k, so_far) = passed-join n g.stretches a b g.last passed g.passed in
      record { stretches = k; last = g.last; passed = so_far; ends = g.ends }

  pub all-passed : (a c : Target) → GoesBy way a None c → (k : ℕ) × Passed way k a c
  all-passed a c g = (g.stretches, subst (λ (t : Target). Passed way g.stretches a t) (sym g.ends) g.passed)

  changed-for : (a b : Target) (o : Outcome) (p : ℕ) (how : Use) → IsByChange how → IsChanged p b → IsStopFor way a o (reason_of_use how) p b
  changed-for a b o p (uses.Change address) may is = is
  changed-for a b o p (uses.Read address) may is = absurd may
  changed-for a b o p (uses.Access address) may is = inr is

  -- by a stretch bytes that are watched became others
  pub changed-goes : (a b : Target) (o : Outcome) (s : stops.Stopped) (how : Use) → Stretch way.until a b o → s.reason ≡ reason_of_use how → IsByChange how → IsChanged s.pid b
      → lets way.let_run s.pid ≡ true → Goes way a (Some (Stopped s)) b
  changed-goes a b o s how stretch why may is lets_it = inr (record {
    outcome = o;
    stretch = stretch;
    is = subst (λ (r : StopReason). IsStopFor way a o r s.pid b) (sym why) (changed-for a b o s.pid how may is);
    let_run = lets_it;
  })

  used-for : (a b : Target) (o : Outcome) (p : ℕ) (how : Use) → IsByInstruction how → touched way.let_run a o ≡ Some (record { pid = p; how = how }) → IsStopFor way a o (reason_of_use how) p b
  used-for a b o p (uses.Change address) may is = absurd may
  used-for a b o p (uses.Read address) may is = is
  used-for a b o p (uses.Access address) may is = inl is

  -- by a stretch an instruction used bytes that are watched; or it did not, and it is judged
  pub used-goes : (a mid b : Target) (o : Outcome) (p : Option Pause) (used : Option Touch) → Stretch way.until a mid o → touched way.let_run a o ≡ used
      → IfSome used (λ (it : Touch). IsByInstruction it.how) → IfSome used (λ (it : Touch). lets way.let_run it.pid ≡ true) → IsUsedOrJudged way used o mid p b → Goes way a p b
  used-goes a mid b o p None stretch spared may lets_it judged = judged-goes a mid b o p stretch spared judged
  used-goes a mid b o p (Some touch) stretch is may lets_it (paused, same) = subst (λ (q : Option Pause). Goes way a q b) (sym paused) (inr (record {
    outcome = o;
    stretch = subst (λ (t : Target). Stretch way.until a t o) (sym same) stretch;
    is = used-for a b o touch.pid touch.how may is;
    let_run = lets_it;
  }))

-- what holds of the use that is looked for holds of the one that is told
if-done-keeps : (touch : Option Touch) (o : Outcome) (P : Touch → Type 0) → IfSome touch P → IfSome (if_done touch o) P
if-done-keeps touch o P holds = by (is_done o)
  where
    by : (b : Bool) → IfSome (if b then touch else None) P
    by true = holds
    by false = tt

-- an access is told as a read, or as a use of bytes for both
use-may : (access : Access) (points : Points) → IfSome (use_by access points) IsByInstruction
use-may access points = by (read_by access points) (first_used access points.accessed.items)
  where
    by : (read accessed : Option ℕ) → IfSome (access_or read accessed) IsByInstruction
    by (Some address) accessed = tt
    by None (Some address) = tt
    by None None = tt

access-may : (points : Points) (access : Option Access) → IfSome (use_of_access points access) IsByInstruction
access-may points None = tt
access-may points (Some access) = use-may access points

used-may : (p : ℕ) (how : Option Use) → IfSome how IsByInstruction → IfSome (used_by p how) (λ (it : Touch). IsByInstruction it.how)
used-may p None may = tt
used-may p (Some how) may = may

used-pid : (P : ℕ → Type 0) (p : ℕ) (how : Option Use) → P p → IfSome (used_by p how) (λ (it : Touch). P it.pid)
used-pid P p None holds = tt
used-pid P p (Some how) holds = holds

answer-may : (points : Points) (caller : Caller) (a : Answer) → IfSome (use_of_answer points caller a) (λ (it : Touch). IsByInstruction it.how)
answer-may points caller Stepped = tt
answer-may points caller (Called number value) =
    used-may caller.pid (use_of_access points (buffer_used caller.buffer number value)) (access-may points (buffer_used caller.buffer number value))
answer-may points caller (Blocked number) = tt
answer-may points caller (Exited status) = tt
answer-may points caller (Faulted cause) = tt

answer-pid : (P : ℕ → Type 0) (points : Points) (caller : Caller) (a : Answer) → P caller.pid → IfSome (use_of_answer points caller a) (λ (it : Touch). P it.pid)
answer-pid P points caller Stepped holds = tt
answer-pid P points caller (Called number value) holds = used-pid P caller.pid (use_of_access points (buffer_used caller.buffer number value)) holds
answer-pid P points caller (Blocked number) holds = tt
answer-pid P points caller (Exited status) holds = tt
answer-pid P points caller (Faulted cause) holds = tt

call-may : (points : Points) (caller : Option Caller) (o : Outcome) → IfSome (use_by_caller points caller o) (λ (it : Touch). IsByInstruction it.how)
call-may points None o = tt
call-may points (Some caller) (Step_of p a) = answer-may points caller a
call-may points (Some caller) (Turn p) = tt
call-may points (Some caller) Idle = tt
call-may points (Some caller) Ticked = tt
call-may points (Some caller) (Typed echo) = tt
call-may points (Some caller) (Sent byte) = tt
call-may points (Some caller) Halted = tt

call-pid : (P : ℕ → Type 0) (points : Points) (caller : Option Caller) (o : Outcome) → IfSome caller (λ (it : Caller). P it.pid)
    → IfSome (use_by_caller points caller o) (λ (it : Touch). P it.pid)
call-pid P points None o holds = tt
call-pid P points (Some caller) (Step_of p a) holds = answer-pid P points caller a holds
call-pid P points (Some caller) (Turn p) holds = tt
call-pid P points (Some caller) Idle holds = tt
call-pid P points (Some caller) Ticked holds = tt
call-pid P points (Some caller) (Typed echo) holds = tt
call-pid P points (Some caller) (Sent byte) holds = tt
call-pid P points (Some caller) Halted holds = tt

either-keeps : (first second : Option Touch) (P : Touch → Type 0) → IfSome first P → IfSome second P → IfSome (touch_or first second) P
either-keeps None second P of_first of_second = of_second
either-keeps (Some touch) second P of_first of_second = of_first

pub told-may : (points : Points) (next : Ahead) (o : Outcome) → IfSome next.touch (λ (it : Touch). IsByInstruction it.how)
    → IfSome (told_of points next o) (λ (it : Touch). IsByInstruction it.how)
told-may points next o may =
    let P : Touch → Type 0 = λ it. IsByInstruction it.how in
    either-keeps (if_done next.touch o) (use_by_caller points next.caller o) P (if-done-keeps next.touch o P may) (call-may points next.caller o)

pub told-lets : (r : LetRun) (points : Points) (next : Ahead) (o : Outcome) → IfSome next.touch (λ (it : Touch). lets r it.pid ≡ true)
    → IfSome next.caller (λ (it : Caller). lets r it.pid ≡ true) → IfSome (told_of points next o) (λ (it : Touch). lets r it.pid ≡ true)
told-lets r points next o touch caller =
    let P : Touch → Type 0 = λ it. lets r it.pid ≡ true in
    either-keeps (if_done next.touch o) (use_by_caller points next.caller o) P (if-done-keeps next.touch o P touch)
    (call-pid (λ (p : ℕ). lets r p ≡ true) points next.caller o caller)

-- a row, and what is judged of it
pub row-goes : (r : LetRun) (a mid new : Target) (o : Outcome) (p : Option Pause) → IsRow r a o mid → IsJudged (to_point r) (told_before r o) o mid p new → GoesBy (to_point r) a p new
row-goes r a mid new o p row judged =
    goes-further (to_point r) row.stretches a row.last new p row.passed
    (goes-once (to_point r) row.last new p (judged-goes (to_point r) row.last mid new o p row.stretch (row.untouched r) judged))

-- by a row bytes that are watched became others
pub row-changed : (r : LetRun) (a mid : Target) (o : Outcome) (s : stops.Stopped) (how : Use) → IsRow r a o mid → s.reason ≡ reason_of_use how → IsByChange how → IsChanged s.pid mid
    → lets r s.pid ≡ true → GoesBy (to_point r) a (Some (Stopped s)) mid
row-changed r a mid o s how row why may is lets_it = record {
  stretches = row.stretches;
  last = row.last;
  passed = row.passed;
  ends = changed-goes (to_point r) row.last mid o s how row.stretch why may is lets_it;
}

-- ---- back

later-alone : (h : Option Hit) → h ≡ later None h
later-alone None = refl
later-alone (Some h) = refl

later-again : (a b c : Option Hit) → later a (later b c) ≡ later (later a b) c
later-again a b None = refl
later-again a b (Some h) = refl

pub looked-once : (back : Back) (a b : Target) (h : Option Hit) → Looks back a b h → Looked back 1 a b h
looked-once back a b h looks = (a, None, h, (refl, refl), looks, later-alone h)

pub looked-join : (back : Back) (n m : ℕ) (a b c : Target) (h k : Option Hit) → Looked back n a b h → Looked back m b c k → (j : ℕ) × Looked back j a c (later h k)
looked-join back n zero a b c h k before (same, none) =
    (n, subst (λ (t : Target). Looked back n a t (later h k)) (sym same) (subst (λ (x : Option Hit). Looked back n a b (later h x)) (sym none) before))
looked-join back n (suc m) a b c h k before (here, found, told, rest, looks, is) =
    let (j, so_far) = looked-join back n m a b here h found before rest in
    (suc j, (here, later h found, told, so_far, looks, ap (later h) is ∙ later-again h found told))

-- a row, and what was told of its last Run
pub row-looked : (r q : LetRun) (a to : Target) (o : Outcome) (h : Option Hit) (place : ℕ) → (row : IsRow q a o to) → length to.run.session.events ≡ place + 1
    → IsPointHit r place None None h → (n : ℕ) × Looked (backs.Point r) n a to h
row-looked r q a to o h place row count told =
    let same : place ≡ length row.last.run.session.events = omega (arith, count, row.single) in
    let here : IsPointHit r (length row.last.run.session.events) (stander row.last.run row.last.program row.last.points.breakpoints.items) (touched r row.last o) h =
    subst (λ (touch : Option Touch). IsPointHit r (length row.last.run.session.events) (stander row.last.run row.last.program row.last.points.breakpoints.items) touch h) (sym (row.untouched r))
    (subst (λ (s : Option ℕ). IsPointHit r (length row.last.run.session.events) s None h) (sym row.nobody) (subst (λ (n : ℕ). IsPointHit r n None None h) same told)) in
    let forth : GoesForth row.last o to = record { came = row.stretch.came; more = omega (arith, row.single); single = inl row.single } in
    (suc row.stretches, (row.last, None, h, row.looked r, record { outcome = o; told = here; forth = forth }, later-alone h))

pub hit-within : (b : Back) (r : LetRun) (h : Option Hit) (place end : ℕ) (stands : Option ℕ) (touch : Option Touch) → b ≡ backs.Point r → IsPointHit r place stands touch h → place < end
    → IfSome h (λ (found : Hit). IsHitBefore b end found)
hit-within b r None place end stands touch is told within = tt
hit-within b r (Some h) place end stands touch is told within = subst (λ (x : Back). IsHitBefore x end h) (sym is) (omega (arith, told.0, within), told.2)

pub hit-of-step : (stood : Bool) (place p : ℕ) → IfSome (step_hit stood place p) (λ (found : Hit). IsHitOf (backs.StepOf p) place found)
hit-of-step true place p = (refl, eq-eqb p p refl)
hit-of-step false place p = tt

-- why it is told
pub hit-for-change : (stands : Option ℕ) (touch : Option Touch) (p : ℕ) (how : Use) → IsByChange how → IsHitFor stands touch p (Some how)
hit-for-change stands touch p (uses.Change address) may = tt
hit-for-change stands touch p (uses.Read address) may = absurd may
hit-for-change stands touch p (uses.Access address) may = tt

pub hit-for-use : (stands : Option ℕ) (p : ℕ) (how : Use) → IsHitFor stands (Some (record { pid = p; how = how })) p (Some how)
hit-for-use stands p (uses.Change address) = tt
hit-for-use stands p (uses.Read address) = refl
hit-for-use stands p (uses.Access address) = tt

-- what is told of a place is of a process that is let run
pub hit-of : (r : LetRun) (h : Option Hit) (place : ℕ) (stands : Option ℕ) (touch : Option Touch) → IsPointHit r place stands touch h
    → IfSome h (λ (found : Hit). IsHitOf (backs.Point r) place found)
hit-of r None place stands touch told = tt
hit-of r (Some h) place stands touch told = (told.0, told.2)

pub hit-here : (b : Back) (h : Option Hit) (place end : ℕ) → IfSome h (λ (found : Hit). IsHitOf b place found) → place < end → IfSome h (λ (found : Hit). IsHitBefore b end found)
hit-here b None place end told within = tt
hit-here b (Some h) place end told within = (omega (arith, told.0, within), told.1)
