-- What each step comes to: it is refused, it is done, it waits, or the process is gone; and which pid a new process has.
use Rattle.kernel_spec.proofs.Prelude.{ℕ, ◌≡◌, ◌⊎◌, after_instruction, begun, Bool, Call, call_begun, call_or_begun, done, Ecall, Exited, false, Fault, going_on, gone, Image, inl, inr, minus_one}
use Rattle.kernel_spec.proofs.Prelude.{Next, next_instruction, None, Option, Own, own, perform, refl, refused, Some, Step, Stepped, stored, subst, sym, true, unless_killed, View}
use Rattle.kernel_spec.proofs.calls.All.{perform_facts}
use Rattle.kernel_spec.proofs.rows.Touched.{touched_view}
use Rattle.kernel_spec.proofs.rows.ByTouch.{by_instruction_apart}
pub use Rattle.kernel_spec.proofs.calls.Facts.{Comes, Numbered, may_wait}

pub perform_comes : (c : Call) (v : View) → Comes c v (perform c v)
perform_comes c v = (perform_facts c v).comes

-- ---- a step

-- an instruction is done
pub record IsInstruction (v : View) (o : Own) : Type 0 where
  pub answer : o.answer ≡ Stepped
  pub after : View
  pub next : o.next ≡ Some after
  pub idle : after.call ≡ None
  pub pids : Numbered v.next_pid o

-- the view in which the call's row is done
abbrev pub in_call : View → Option Call → View
in_call v None = begun v
in_call v (Some c) = v

module _ (v : View) where
  abbrev pub StepComes : Option Call → Own → Type 0
  StepComes call o = IsInstruction v o ⊎ Comes (call_or_begun v call) (in_call v call) o

  instruction_comes : v.call ≡ None → (st : Step) → StepComes None (after_instruction v st)
  instruction_comes idle (Next r None) = inl (record { answer = refl; after = stored v r None; next = refl; idle = idle; pids = refl })
  instruction_comes idle (Next r (Some st)) = inl (record { answer = refl; after = stored v r (Some st); next = refl; idle = idle; pids = refl })
  instruction_comes idle Ecall = inr (perform_comes (call_begun v) (begun v))
  instruction_comes idle (Fault cause) = inr (inr (inr (inr (record { next = refl; ends = refl; pids = refl }))))

module _ (v : View) where
  -- an instruction that is no ECALL comes to the same before the page that it is on came
  instruction_before : (image : Image) (free : ℕ) → v.call ≡ None → (st : Step) → (st ≡ Ecall → ⊥) → StepComes v None (after_instruction (touched_view v image free) st)
  instruction_before image free idle (Next r None) other = inl (record { answer = refl; after = stored (touched_view v image free) r None; next = refl; idle = idle; pids = refl })
  instruction_before image free idle (Next r (Some st)) other = inl (record { answer = refl; after = stored (touched_view v image free) r (Some st); next = refl; idle = idle; pids = refl })
  instruction_before image free idle Ecall other = absurd (other refl)
  instruction_before image free idle (Fault cause) other = inr (inr (inr (inr (record { next = refl; ends = refl; pids = refl }))))

  going_comes : (call : Option Call) → v.call ≡ call → StepComes v call (going_on v call)
  going_comes None idle = by_instruction_apart (λ st o. StepComes v None o) v (instruction_comes v idle (next_instruction v.regs v.image))
      (λ image free touched other. instruction_before image free idle (next_instruction v.regs image) other)
  going_comes (Some c) busy = inr (perform_comes c v)

  marked_comes : (call : Option Call) → StepComes v call (gone (Exited minus_one) v)
  marked_comes None = inr (inr (inr (inr (record { next = refl; ends = refl; pids = refl }))))
  marked_comes (Some c) = inr (inr (inr (inr (record { next = refl; ends = refl; pids = refl }))))

  unless_comes : (b : Bool) → StepComes v v.call (unless_killed v b)
  unless_comes true = marked_comes v.call
  unless_comes false = going_comes v.call refl

  pub own_comes : StepComes v v.call (own v)
  unfolding own
  own_comes = unless_comes v.killed

-- ---- which pid a new process has

numbered_by : (v : View) (call : Option Call) (o : Own) → StepComes v call o → Numbered v.next_pid o
numbered_by v call o (inl step) = step.pids
numbered_by v call o (inr (inl is)) = subst (Numbered v.next_pid) (sym is) (by call)
  where
    by : (call : Option Call) → Numbered v.next_pid (refused (call_or_begun v call) (in_call v call))
    by None = refl
    by (Some c) = refl
numbered_by v call o (inr (inr (inl done))) = by call done.pids
  where
    by : (call : Option Call) → Numbered (in_call v call).next_pid o → Numbered v.next_pid o
    by None h = h
    by (Some c) h = h
numbered_by v call o (inr (inr (inr (inl wait)))) = subst (Numbered v.next_pid) (sym wait.is) (by call wait.next_pid)
  where
    by : (call : Option Call) → wait.after.next_pid ≡ (in_call v call).next_pid → wait.after.next_pid ≡ v.next_pid
    by None h = h
    by (Some c) h = h
numbered_by v call o (inr (inr (inr (inr gone)))) = by call gone.pids
  where
    by : (call : Option Call) → Numbered (in_call v call).next_pid o → Numbered v.next_pid o
    by None h = h
    by (Some c) h = h

pub own_numbered : (v : View) → Numbered v.next_pid (own v)
own_numbered v = numbered_by v v.call (own v) (own_comes v)
