-- Instructions of the process that runs, one after another: stretches of them, and behind each an instruction that faulted and is done where an absent page comes.
use Rattle.kcall_core.proofs.Prelude.{ℕ, ◌+◌, ◌-◌, ◌<◌, ◌∙◌, ◌≡◌, ◌≢◌, ◌≤◌, ap, arith, Cause, Hart, IsLastMade, IsLastStep, IsRunning, IsUndone, IsWhole, Kernel, live_now, Makes, MakesDone}
use Rattle.kcall_core.proofs.Prelude.{MakesInARow, Memories, own, refl, RunsIn, slot_now, Steps, StepsDone, StepsInARow, Stop, stop_now, subst, suc, sym, view_now, zero}
use Rattle.kcall_core.proofs.table.States.{running}
use Rattle.kcall_core.proofs.making.Instructions.{step-done, step-stays}
use Rattle.kcall_core.proofs.making.Staying.{still-runs}
use Rattle.kcall_core.proofs.making.TouchedSteps.{IsTried, tried-here, stop-plain, made-before, stop-before, stays-there, runs-there}
use Rattle.kcall_core.proofs.memory.Stepping.{ecall-no-fault, next-no-fault}
use Rattle.rv64i_core.specs.declared.execution.Stop.TheVariants as stops
use Rattle.kernel_spec.specs.steps.Cases as laws

pub ecall-next : stops.Ecall ≢ stops.Next
ecall-next e = cc

-- so many instructions are done, and the process is between two of them
pub record IsMade (most made : ℕ) (k : Kernel) (h : Hart) (k' : Kernel) (h' : Hart) : Type 0 where
  pub done : MakesDone made k h k' h'
  pub whole : IsWhole k' h'
  pub running : IsRunning k'
  pub free : laws.IsBetweenCalls (live_now k' h')
  pub fits : made ≤ most

-- ---- instructions behind instructions

at-count : (m n : ℕ) (k : Kernel) (h : Hart) (k' : Kernel) (h' : Hart) → m ≡ n → MakesDone m k h k' h' → MakesDone n k h k' h'
at-count m n k h k' h' e done = subst (λ c. MakesDone c k h k' h') e done

joined : (made count : ℕ) (k : Kernel) (h : Hart) (mid : Kernel) (between : Hart) (k' : Kernel) (h' : Hart) → MakesDone made k h mid between
    → MakesDone count mid between k' h' → MakesDone (made + count) k h k' h'
joined made zero k h mid between k' h' before done =
    at-count made (made + zero) k h k' h' (omega arith) (subst (λ x. MakesDone made k h x h') (sym done.0) (subst (λ x. MakesDone made k h mid x) (sym done.1) before))
joined made (suc count) k h mid between k' h' before (last, hart, more, free, next, one) =
    at-count (suc (made + count)) (made + suc count) k h k' h' (omega arith) (last, hart, joined made count k h mid between last hart before more, free, next, one)

-- ---- a stretch of instructions, as the memories tell it

module _ (k : Kernel) (h : Hart) (whole : IsWhole k h) (runs : IsRunning k) (free : laws.IsBetweenCalls (live_now k h)) where
  abbrev AreMade : ℕ → Memories → Hart → Type 0
  AreMade count m h' = MakesDone count k h (record k { memories = m }) h' × IsWhole (record k { memories = m }) h'

  series : (count : ℕ) (m : Memories) (h' : Hart) → StepsDone count (slot_now k) k.memories h m h' → AreMade count m h'
  series zero m h' done = subst (λ x. AreMade 0 x h') (sym done.0) (subst (λ x. AreMade 0 k.memories x) (sym done.1) ((refl, refl), whole))
  series (suc count) m h' (mid, between, before, one) =
      let so_far = series count mid between before in
      let made = step-done (record k { memories = mid }) m between h' stops.Next so_far.1 runs one free refl in
      ((record k { memories = mid }, between, so_far.0, free, sym (stop-plain (record k { memories = mid }) between stops.Next one.ends next-no-fault), made), made.whole)

fewer-made : (slot most made : ℕ) (stop : Stop) (mid new : Memories) (between h' : Hart) → IsLastStep slot most made stop mid between new h' → made ≤ most
fewer-made slot most made stops.Next mid new between h' last = let e : made ≡ most = last.0 in omega (arith, e)
fewer-made slot most made stops.Ecall mid new between h' last = let lt : made < most = last.0 in omega (arith, lt)
fewer-made slot most made (stops.Fault cause) mid new between h' last = let lt : made < most = last.0 in omega (arith, lt)

-- behind what is made already
pub record Stretch (most made count : ℕ) (stop : Stop) (first : Kernel) (start : Hart) (k : Kernel) (new : Memories) (h' : Hart) : Type 0 where
  pub mid : Memories
  pub between : Hart
  pub so_far : IsMade most (made + count) first start (record k { memories = mid }) between
  pub last : IsLastStep (slot_now k) (most - made) count stop mid between new h'

module _ (most made : ℕ) (first : Kernel) (start : Hart) (k : Kernel) (h : Hart) (is : IsMade most made first start k h) (count : ℕ) (stop : Stop) (new : Memories) (h' : Hart)
    (each : (slot : ℕ) → RunsIn k.memories slot h → StepsInARow slot (most - made) count stop k.memories h new h') where
  pub stretch : Stretch most made count stop first start k new h'
  stretch =
      let row = each (slot_now k) (running k h is.whole.sound is.running).is.runs in
      let there = series k h is.whole is.running is.free count row.mid row.between row.done in
      record {
        mid = row.mid;
        between = row.between;
        so_far = record {
          done = joined made count first start k h (record k { memories = row.mid }) row.between is.done there.0;
          whole = there.1;
          running = is.running;
          free = is.free;
          fits = omega (arith, is.fits, fewer-made (slot_now k) (most - made) count stop row.mid new row.between h' row.last);
        };
        last = row.last;
      }

-- ---- how a stretch ends

undone-last : (most made : ℕ) (stop : Stop) (k : Kernel) (h : Hart) (k' : Kernel) (h' : Hart) → stop ≢ stops.Next → IsUndone most made stop k h k' h' → IsLastMade most made stop k h k' h'
undone-last most made stops.Next k h k' h' other u = absurd (other refl)
undone-last most made stops.Ecall k h k' h' other u = u
undone-last most made (stops.Fault cause) k h k' h' other u = u

last-made : (most made count : ℕ) (stop : Stop) (k : Kernel) (mid new : Memories) (between h' : Hart) → IsWhole (record k { memories = mid }) between
    → IsRunning k → made + count ≤ most → ((cause : Cause) → stop ≢ stops.Fault cause)
    → IsLastStep (slot_now k) (most - made) count stop mid between new h' → IsLastMade most (made + count) stop (record k { memories = mid }) between (record k { memories = new }) h'
last-made most made count stops.Next k mid new between h' so runs fits other last = (omega (arith, fits, last.0), ap (λ x. record k { memories = x }) last.1, last.2)
last-made most made count stops.Ecall k mid new between h' so runs fits other last =
    let s : Steps mid new (slot_now k) between h' stops.Ecall = last.1 in
    let stays = step-stays (record k { memories = mid }) new between h' stops.Ecall so runs s ecall-next in
    record {
      fewer = omega (arith, fits, last.0);
      ends = stop-plain (record k { memories = mid }) between stops.Ecall s.ends ecall-no-fault;
      stays = stays;
      same = still-runs (record k { memories = mid }) (record k { memories = new }) between h' so.sound runs stays;
    }
last-made most made count (stops.Fault cause) k mid new between h' so runs fits other last = absurd (other cause refl)

module _ {most made count : ℕ} {stop : Stop} {first : Kernel} {start : Hart} {k : Kernel} {new : Memories} {h' : Hart} (x : Stretch most made count stop first start k new h') where
  abbrev before : Kernel
  before = record k { memories = x.mid }

  abbrev behind : Kernel
  behind = record k { memories = new }

  -- not by a fault
  pub ended : ((cause : Cause) → stop ≢ stops.Fault cause) → MakesInARow most (made + count) stop first start behind h'
  ended other = record {
    mid = before;
    between = x.between;
    done = x.so_far.done;
    whole = x.so_far.whole;
    running = x.so_far.running;
    free = x.so_far.free;
    last = last-made most made count stop k x.mid new x.between h' x.so_far.whole x.so_far.running x.so_far.fits other x.last;
  }

  -- by a fault
  module _ (cause : Cause) (is : stop ≡ stops.Fault cause) where
    abbrev Faults : Stop → Type 0
    Faults s = IsLastStep (slot_now k) (most - made) count s x.mid x.between new h'

    last-fault : (count < most - made) × Steps x.mid new (slot_now k) x.between h' (stops.Fault cause)
    last-fault = subst Faults is x.last

    pub fault-fewer : made + count < most
    fault-fewer = omega (arith, last-fault.0)

    pub fault-tried : IsTried cause before x.between behind h'
    fault-tried = tried-here before new x.between h' (stops.Fault cause) x.so_far.whole x.so_far.running last-fault.1 cause refl

    -- the instruction isn't done
    pub fault-ends : (last : Kernel) (hart : Hart) (end : Stop) → end ≢ stops.Next → end ≡ stop_now behind h' → (last ≡ behind) × (hart ≡ h')
        → MakesInARow most (made + count) end first start last hart
    fault-ends last hart end other ends same = record {
      mid = before;
      between = x.between;
      done = x.so_far.done;
      whole = x.so_far.whole;
      running = x.so_far.running;
      free = x.so_far.free;
      last = undone-last most (made + count) end before x.between last hart other (record {
        fewer = fault-fewer;
        ends = stop-before before behind x.between h' end x.so_far.whole x.so_far.running fault-tried.stays ends;
        stays = stays-there before behind last x.between h' hart same fault-tried.stays;
        same = runs-there before behind last x.between h' hart same fault-tried.same;
      });
    }

    -- it is done
    pub fault-done : (last : Kernel) (hart : Hart) (end : Stop) → end ≡ stops.Next → end ≡ stop_now behind h'
        → Makes behind h' (own (view_now behind h')) last hart → IsRunning last → laws.IsBetweenCalls (live_now last hart)
        → IsMade most (made + count + 1) first start last hart
    fault-done last hart end next ends makes runs free = record {
      done = at-count (suc (made + count)) (made + count + 1) first start last hart (omega arith) (
        before,
        x.between,
        x.so_far.done,
        x.so_far.free,
        sym (stop-before before behind x.between h' end x.so_far.whole x.so_far.running fault-tried.stays ends)
            ∙ next,
        made-before before behind x.between h' last hart x.so_far.whole x.so_far.running fault-tried.stays makes,
      );
      whole = makes.whole;
      running = runs;
      free = free;
      fits = omega (arith, fault-fewer);
    }

-- ---- all that were asked for

pub all-made : (most made : ℕ) (first : Kernel) (start : Hart) (k : Kernel) (h : Hart) → IsMade most made first start k h → most ≤ made → MakesInARow most made stops.Next first start k h
all-made most made first start k h is all = record {
  mid = k;
  between = h;
  done = is.done;
  whole = is.whole;
  running = is.running;
  free = is.free;
  last = (omega (arith, is.fits, all), refl, refl);
}
