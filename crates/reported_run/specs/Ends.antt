-- Calls that are told once a process ends: who has killed it, and which growth it was refused.
use Rattle.std.specs.Prelude.{ℕ, ℤ, pos, negsuc, ◌&&◌, ◌||◌, Bool, false, not, if◌then◌else◌, is_none, nat_eq, List, [], ◌∷◌, ◌++◌, filter, find, Option, None, Some, option_map}
use Rattle.std.specs.Ordering.{int_eq}
use Rattle.kernel_spec.specs.runs.Run.{World}
use Rattle.kcall_core.specs.Observers.{process_at}
use Rattle.kcall_core.specs.declared.kernel.observers.ProcessState.{ProcessState}
use Rattle.kcall_core.specs.declared.kernel.observers.ProcessState.TheVariants as state
use Rattle.xv_session.specs.Recorded.{Recorded}
use Rattle.xv_session.specs.declared.names.Named.{Named}
use Rattle.reported_run.specs.declared.ends.CallMade.{CallMade}
use Rattle.reported_run.specs.declared.ends.Kill.{Kill}

-- the kernel calls kill, sbrk and sbrklazy
abbrev pub KILL : ℤ
KILL = pos 6

abbrev pub SBRK : ℤ
SBRK = pos 12

abbrev pub SBRKLAZY : ℤ
SBRKLAZY = pos 22

-- ---- kills

-- the process is live, and its kill mark is set
abbrev pub is_marked : Option ProcessState → Bool
is_marked None = false
is_marked (Some (state.Live parent marked call asleep)) = marked
is_marked (Some (state.Zombie parent status)) = false

-- the first kill of process p among these
abbrev pub kill_of : List Kill → (p : ℕ) → Option Kill
kill_of kills p = find (λ (k : Kill). nat_eq k.victim p) kills

-- process p is marked, and these kills have none of it
abbrev pub is_newly_killed : World → List Kill → (p : ℕ) → Bool
is_newly_killed w kills p = is_marked (process_at w p) && is_none (kill_of kills p)

-- the first of these processes that is so
abbrev pub newly_killed : World → List Kill → List Named → Option ℕ
newly_killed w kills names = option_map (λ (n : Named). n.pid) (find (λ (n : Named). is_newly_killed w kills n.pid) names)

abbrev pub with_kill : List Kill → CallMade → (victim : Option ℕ) → List Kill
with_kill kills call None = kills
with_kill kills call (Some p) = kills ++ record { victim = p; by = call } ∷ []

-- the call has killed a process: whoever is marked from then on was killed by it
abbrev pub is_kill : (number value : ℤ) → Bool
is_kill number value = int_eq number KILL && int_eq value (pos 0)

-- the kills that are known once a session has made this call, by those that were known before
abbrev pub kills_after : Recorded → CallMade → (value : ℤ) → List Kill → List Kill
kills_after s call value kills = if is_kill call.number value then with_kill kills call (newly_killed s.machine.world kills s.names) else kills

-- those of other processes than p
abbrev pub other_kills : (p : ℕ) → List Kill → List Kill
other_kills p kills = filter (λ (k : Kill). not (nat_eq k.victim p)) kills

-- ---- growths that were refused

abbrev pub is_growth : (number : ℤ) → Bool
is_growth number = int_eq number SBRK || int_eq number SBRKLAZY

-- a call of sbrk or sbrklazy that answers less than 0
abbrev pub is_refused : (number value : ℤ) → Bool
is_refused number (pos n) = false
is_refused number (negsuc k) = is_growth number

abbrev pub other_calls : (p : ℕ) → List CallMade → List CallMade
other_calls p calls = filter (λ (c : CallMade). not (nat_eq c.pid p)) calls

abbrev pub with_refused : List CallMade → CallMade → List CallMade
with_refused calls call = other_calls call.pid calls ++ call ∷ []

-- the last growth that each process was refused, once this call is made
abbrev pub refused_after : CallMade → (value : ℤ) → List CallMade → List CallMade
refused_after call value calls = if is_refused call.number value then with_refused calls call else calls

-- that of process p
abbrev pub refused_of : List CallMade → (p : ℕ) → Option CallMade
refused_of calls p = find (λ (c : CallMade). nat_eq c.pid p) calls

-- ---- if there was memory for all of them

abbrev pub if_complete : {A : Type 0} → (complete : Bool) → Option A → Option A
if_complete complete found = if complete then found else None
