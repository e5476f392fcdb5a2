-- A session whose machine has gone on.
use Rattle.std.proofs.Common.{◌≡◌, ℕ, List, [], ◌++◌, None, Ok, take, sym, subst}
use Rattle.kernel_spec.specs.runs.First.{first}
use Rattle.kernel_spec.specs.runs.Run.{Event}
use Rattle.kernel_spec.specs.views.State.{ProgramFile}
use Rattle.xv_machine.specs.Boots.{Boots, HasEmptyTrace}
use Rattle.xv_machine.specs.Sound.{IsSoundMachine}
use Rattle.xv_machine.proofs.Reached.{boot_reaches}
use Rattle.xv_session.specs.Answers.{stands}
use Rattle.xv_session.specs.Follows.{Follows}
use Rattle.xv_session.specs.LastStep.{HasLast}
use Rattle.xv_session.specs.Names.{first_names}
use Rattle.xv_session.specs.Recorded.{Recorded, IsLed, GoesBy}
use Rattle.xv_session.specs.declared.followed.Followed.{Followed}
use Rattle.xv_session.specs.declared.running.Running.{Running}
use Rattle.xv_session.proofs.LastSteps.{follows-goes, last-at-boot, last-on}
use Rattle.xv_session.proofs.Plays.{led-on}
use Rattle.xv_session.proofs.Programs.{goes-on, led-programs, booted-led}

-- r had got the events xs, and goes on by ys to s; the session keeps the events zs now, and its programs are those that the machine of s holds
module _ (frames trace : ℕ) (xs ys zs : List Event) (r s : Followed) (led : IsLed frames trace r.running.machine.world.state.programs xs r.running)
    (last : HasLast frames trace r.running.machine.world.state.programs xs r.running.machine r.last) (more : Follows ys r s) (all : zs ≡ xs ++ ys) where
  abbrev pub its : List ProgramFile
  its = s.running.machine.world.state.programs

  on : IsLed frames trace its (xs ++ ys) s.running × (its ≡ r.running.machine.world.state.programs)
  on = goes-on frames trace xs ys r.running s.running led (follows-goes ys r s more)

  pub sessions-on : IsLed frames trace its zs s.running × HasLast frames trace its zs s.running.machine s.last
  sessions-on = (
    subst (λ (es : List Event). IsLed frames trace its es s.running) (sym all) on.0,
    subst (λ (es : List Event). HasLast frames trace its es s.running.machine s.last) (sym all)
        (subst (λ (ps : List ProgramFile). HasLast frames trace ps (xs ++ ys) s.running.machine s.last) (sym on.1)
        (last-on frames trace r.running.machine.world.state.programs xs ys r s last more)),
  )

  pub stands-on : record {
    frames = frames;
    trace = trace;
    programs = its;
    events = zs;
    machine = s.running.machine;
    names = s.running.names;
  } ≡ stands (record {
    frames = frames;
    trace = trace;
    programs = r.running.machine.world.state.programs;
    events = xs;
    machine = r.running.machine;
    names = r.running.names;
  }) (xs ++ ys) s.running.machine s.running.names
  stands-on = λ i. record { frames = frames; trace = trace; programs = on.1 i; events = all i; machine = s.running.machine; names = s.running.names }

-- a machine that was booted anew, and got the first events
pub led-anew : (frames trace place : ℕ) (programs copied : List ProgramFile) (list : List Event) (r s : Running) → copied ≡ programs
    → Boots frames (Ok r.machine) (first frames trace copied) → IsSoundMachine r.machine → HasEmptyTrace trace r.machine
    → r.names ≡ first_names r.machine.world.state.programs → GoesBy (take place list) r s → IsLed frames trace programs (take place list) s
led-anew frames trace place programs copied list r s same boots sound empty names goes =
    let those : Boots frames (Ok r.machine) (first frames trace programs) = subst (λ (ps : List ProgramFile). Boots frames (Ok r.machine) (first frames trace ps)) same boots in
    led-on frames trace programs [] (take place list) r s (booted-led frames trace programs r those sound empty names).0 goes

-- and whose step was last
pub last-anew : (frames trace place : ℕ) (programs copied : List ProgramFile) (list : List Event) (r s : Followed) → copied ≡ programs
    → Boots frames (Ok r.running.machine) (first frames trace copied) → IsSoundMachine r.running.machine → HasEmptyTrace trace r.running.machine
    → r.last ≡ None → Follows (take place list) r s → HasLast frames trace programs (take place list) s.running.machine s.last
last-anew frames trace place programs copied list r s same boots sound empty none goes =
    let m = r.running.machine in
    let those : Boots frames (Ok m) (first frames trace programs) = subst (λ (ps : List ProgramFile). Boots frames (Ok m) (first frames trace ps)) same boots in
    last-on frames trace programs [] (take place list) r s (last-at-boot frames trace programs m r.last none (boot_reaches frames trace programs m those sound empty)) goes

-- a session that has gone back to a place: it is led to r, and keeps these events
module _ (s : Recorded) (place : ℕ) (kept : List Event) (r : Followed) (led : IsLed s.frames s.trace s.programs (take place s.events) r.running) (those : kept ≡ take place s.events) where
  its-programs : r.running.machine.world.state.programs ≡ s.programs
  its-programs = led-programs s.frames s.trace s.programs (take place s.events) r.running led

  pub recorded-back : IsLed s.frames s.trace r.running.machine.world.state.programs kept r.running
  recorded-back = subst (λ (ps : List ProgramFile). IsLed s.frames s.trace ps kept r.running) (sym its-programs)
      (subst (λ (es : List Event). IsLed s.frames s.trace s.programs es r.running) (sym those) led)

  pub last-back : HasLast s.frames s.trace s.programs (take place s.events) r.running.machine r.last
      → HasLast s.frames s.trace r.running.machine.world.state.programs kept r.running.machine r.last
  last-back last = subst (λ (ps : List ProgramFile). HasLast s.frames s.trace ps kept r.running.machine r.last) (sym its-programs)
      (subst (λ (es : List Event). HasLast s.frames s.trace s.programs es r.running.machine r.last) (sym those) last)

  pub stands-back : record {
    frames = s.frames;
    trace = s.trace;
    programs = r.running.machine.world.state.programs;
    events = kept;
    machine = r.running.machine;
    names = r.running.names;
  } ≡ stands s (take place s.events) r.running.machine r.running.names
  stands-back =
      λ i. record { frames = s.frames; trace = s.trace; programs = its-programs i; events = those i; machine = r.running.machine; names = r.running.names }
