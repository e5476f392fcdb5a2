-- What stood last among the places that a run goes by.
use Rattle.std.proofs.Common.{◌∙◌, subst}
use Rattle.std.specs.Prelude.{◌≡◌, ◌⊎◌, ℕ, zero, suc, ◌+◌, ◌<◌, Bool, true, false, length, Option, None, Some, IfSome}
use Rattle.kernel_spec.specs.runs.Run.{Outcome}
use Rattle.kernel_spec.specs.views.Words.{is_this}
use Rattle.xv_session.specs.LastFound.{IsLast}
use Rattle.gdb_packets.specs.declared.answers.StopReason.TheVariants.{Begin, Trap}
use Rattle.gdb_target.specs.Came.{Comes}
use Rattle.gdb_target.specs.Forth.{current_of}
use Rattle.gdb_target.specs.LetRun.{if_let, lets}
use Rattle.gdb_target.specs.SameRun.{beginning}
use Rattle.gdb_target.specs.Standing.{stander, starter}
use Rattle.gdb_target.specs.Touches.{reason_of_use, touched}
use Rattle.gdb_target.specs.declared.let_run.LetRun.{LetRun}
use Rattle.gdb_target.specs.declared.let_run.LetRun.TheVariants.{Alone}
use Rattle.gdb_target.specs.declared.reverse.Back.{Back}
use Rattle.gdb_target.specs.declared.reverse.Back.TheVariants.{StepOf, Point}
use Rattle.gdb_target.specs.declared.reverse.Hit.{Hit}
use Rattle.gdb_target.specs.declared.target.Stopped.{Stopped}
use Rattle.gdb_target.specs.declared.target.Target.{Target}
use Rattle.gdb_target.specs.declared.touches.Touch.{Touch}
use Rattle.gdb_target.specs.declared.touches.Use.{Use}
use Rattle.gdb_target.specs.declared.touches.Use.TheVariants.{Change, Read, Access}

-- process p was about to do an instruction at this place, or not
abbrev pub step_hit : (stood : Bool) → (place p : ℕ) → Option Hit
step_hit true place p = Some (record { place = place; pid = p; watched = None })
step_hit false place p = None

-- whom a way back lets run
abbrev pub let_run_of : Back → LetRun
let_run_of (StepOf p) = Alone p
let_run_of (Point let_run) = let_run

-- Why process p is told: it stands there, and its instruction uses no watched bytes; or it uses them so; or bytes became others
abbrev pub IsHitFor : (stands : Option ℕ) → (touch : Option Touch) → (p : ℕ) → (watched : Option Use) → Type 0
IsHitFor stands touch p None = (stands ≡ Some p) × (touch ≡ None)
IsHitFor stands touch p (Some (Change address)) = Unit {0}
IsHitFor stands touch p (Some (Read address)) = touch ≡ Some (record { pid = p; how = Read address })
IsHitFor stands touch p (Some (Access address)) = Unit {0}

-- Nothing is told only if no process that is let run stands at a breakpoint, and the instruction uses no watched bytes. What is told is of this place, and of one that is let run
abbrev pub IsPointHit : LetRun → (place : ℕ) → (stands : Option ℕ) → (touch : Option Touch) → Option Hit → Type 0
IsPointHit let_run place stands touch None = (if_let let_run stands ≡ None) × (touch ≡ None)
IsPointHit let_run place stands touch (Some h) = (h.place ≡ place) × IsHitFor stands touch h.pid h.watched × (lets let_run h.pid ≡ true)

-- What is told of a place, of whose next event this came. Of a step, it is told exactly if the process is about to do an instruction there
abbrev pub IsHitAt : Back → (place : ℕ) → Target → Outcome → Option Hit → Type 0
IsHitAt (StepOf p) place t o hit = hit ≡ step_hit (is_this p (starter t.run)) place p
IsHitAt (Point let_run) place t o hit = IsPointHit let_run place (stander t.run t.program t.points.breakpoints.items) (touched let_run t o) hit

-- it is of this place, or of one before a place, and of a process that is let run
abbrev pub IsHitOf : Back → (place : ℕ) → Hit → Type 0
IsHitOf back place h = (h.place ≡ place) × (lets (let_run_of back) h.pid ≡ true)

abbrev pub IsHitBefore : Back → (end : ℕ) → Hit → Type 0
IsHitBefore back end h = (h.place < end) × (lets (let_run_of back) h.pid ≡ true)

-- the later of two: the second, if there is one
abbrev pub later : (first second : Option Hit) → Option Hit
later first None = first
later first (Some h) = Some h

-- The run went on, and this came of it: by one event, or by more if nobody ran
pub record GoesForth (from : Target) (o : Outcome) (to : Target) : Type 0 where
  pub came : Comes from.run to.run o
  pub more : length from.run.session.events < length to.run.session.events
  pub single : (length to.run.session.events ≡ length from.run.session.events + 1) ⊎ (current_of from ≡ None)

-- The run went on from here, and what stood at this place was told
pub record LooksAt (back : Back) (place : ℕ) (here on : Target) (hit : Option Hit) : Type 0 where
  pub outcome : Outcome
  pub told : IsHitAt back place here outcome hit
  pub forth : GoesForth here outcome on

abbrev pub Looks : Back → (here on : Target) → Option Hit → Type 0
Looks back here on hit = LooksAt back (length here.run.session.events) here on hit

-- So many looks, one after another, and the last of what they told
abbrev pub Looked : Back → (looks : ℕ) → (from to : Target) → Option Hit → Type 0
Looked back zero from to hit = (to ≡ from) × (hit ≡ None)
Looked back (suc n) from to hit = (here : Target) × (before : Option Hit) × (told : Option Hit) × Looked back n from here before × Looks back here to told × (hit ≡ later before told)

-- It was looked for from a place of this run on, up to the place where it stands here; and this stood last, or nothing did
pub record LooksFrom (back : Back) (begin : ℕ) (here to : Target) (hit : Option Hit) : Type 0 where
  pub from : Target
  pub looks : ℕ
  pub same_run : beginning from.run ≡ beginning here.run
  pub begins : length from.run.session.events ≡ begin
  pub looked : Looked back looks from to hit
  pub up_to : length to.run.session.events ≡ length here.run.session.events

-- So it was, and the run is the same; and what stood is told of a place before here, and of a process that is let run
pub record LooksBefore (back : Back) (begin : ℕ) (here to : Target) (hit : Option Hit) : Type 0 where
  pub looks : LooksFrom back begin here to hit
  pub same_run : beginning to.run ≡ beginning here.run
  pub before : IfSome hit (IsHitBefore back (length here.run.session.events))

-- looked for once more, from where nothing was found
pub looks_again : (back : Back) (before begin : ℕ) (a b c : Target) (hit : Option Hit) → LooksBefore back before a b None → LooksBefore back begin b c hit
    → LooksBefore back begin a c hit
looks_again back before begin a b c hit vain looks = record {
  looks = record {
    from = looks.looks.from;
    looks = looks.looks.looks;
    same_run = looks.looks.same_run ∙ vain.same_run;
    begins = looks.looks.begins;
    looked = looks.looks.looked;
    up_to = looks.looks.up_to ∙ vain.looks.up_to;
  };
  same_run = looks.same_run ∙ vain.same_run;
  before = subst (λ (n : ℕ). IfSome hit (IsHitBefore back n)) vain.looks.up_to looks.before;
}

-- It stood last before here; nothing did only if it was looked for from the first place on
abbrev pub IsLastOf : Back → (here to : Target) → (hit : Option Hit) → Type 0
IsLastOf back here to hit = IsLast (LooksFrom back) here to hit

-- A use of watched bytes is told as what it is, and of its process; else a trap is told, or that it is the run's begin
abbrev pub IsToldUse : Option Use → (p : ℕ) → Stopped → Type 0
IsToldUse None p s = (s.reason ≡ Trap) ⊎ (s.reason ≡ Begin)
IsToldUse (Some how) p s = (s.reason ≡ reason_of_use how) × (s.pid ≡ p)

abbrev pub IsToldBy : Option Hit → Stopped → Type 0
IsToldBy None s = s.reason ≡ Begin
IsToldBy (Some h) s = IsToldUse h.watched h.pid s

-- The way back ends there, or at the first place if nothing stood
abbrev pub EndsAt : Option Hit → Target → Type 0
EndsAt None t = length t.run.session.events ≡ 0
EndsAt (Some h) t = length t.run.session.events ≡ h.place

-- The run went back to what stood last before here, which the stop tells
pub record GoesBackToLast (back : Back) (old new : Target) (s : Stopped) : Type 0 where
  pub to : Target
  pub hit : Option Hit
  pub last : IsLastOf back old to hit
  pub ends : EndsAt hit new
  pub told : IsToldBy hit s
