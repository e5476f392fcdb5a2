-- What a step comes to for a process that has begun a call, or has touched pages, is what it comes to for the process before.
use Rattle.kernel_spec.proofs.Prelude.{ℕ, ℤ, ◌%◌, ◌+◌, ◌^◌, ◌∙◌, ◌≡◌, ◌≢◌, after_instruction, Alive, alone_state, ap, Call, call_begun, cond, Ecall, eqb_tells, false, file_at, get, going_on}
use Rattle.kernel_spec.proofs.Prelude.{gone_with, Image, inl, inr, is_same, least_below, Live, live, live_part, nat_eq, next_instruction, NOFILE, None, Option, option_map, option_or, Own, own}
use Rattle.kernel_spec.proofs.Prelude.{perform, pipe_at, Quiet, refl, Registers, seen, seen_children, set_live, Some, State, Status, sym, unless_killed, View, view, view_of}
use Rattle.kernel_spec.proofs.memory.OnAbsent.{before_ecall}
use Rattle.kernel_spec.proofs.steps.SeenByParts.{seen_descriptor, left_at, file_of, pipe_of_file}
use Rattle.kernel_spec.proofs.steps.ViewsAfterSetLive.{view-set_live, same_child, live-set_live_here, live-set_live_there}
use Rattle.kernel_spec.proofs.steps.SeenByParts as parts

module _ (s : State) (p : ℕ) (old : Live) (was : get s.processes p ≡ Some (Alive old)) (r : Registers) (i : Image) (c : Option Call) (free : ℕ) where
  abbrev pub with_call : Live
  with_call = record old { regs = r; image = i; call = c }

  abbrev pub state_begun : State
  state_begun = alone_state p with_call s.console free s

  pub same_file_at : (q d : ℕ) → file_at state_begun q d ≡ file_at s q d
  same_file_at q d = elim (eqb_tells q p) [
    | inl h ↦ ap (λ (n : ℕ). file_at state_begun n d) h.1 ∙ ap (λ (o : Option Live). file_of o d) (live-set_live_here s p old with_call was refl)
        ∙ sym (ap (λ (o : Option Live). file_of o d) (ap live_part was)) ∙ sym (ap (λ (n : ℕ). file_at s n d) h.1)
    | inr h ↦ ap (λ (o : Option Live). file_of o d) (live-set_live_there s p old with_call was refl q h.1)
  ]

  same_pipe_at : (q d : ℕ) → pipe_at state_begun q d ≡ pipe_at s q d
  same_pipe_at q d = ap (pipe_of_file s) (same_file_at q d)

  same_children : (g : Option ℤ) (w : View) → seen_children g (view_of state_begun p with_call) (record w { free = free }) ≡ seen_children g (view_of s p old) w
  unfolding view_of
  same_children None w = refl
  same_children (Some status) w = λ i. λ x. option_or (cond (nat_eq x p) (parts.same_child (w.children x) (Status status)) (w.children x))
      (cond (nat_eq w.pid 1) (same_child s p old with_call was refl p x i) None)

  same_seen : (o : Own) (w : View) → seen state_begun (view_of state_begun p with_call) o (record w { free = free }) ≡ seen s (view_of s p old) o w
  unfolding seen view_of
  same_seen o w = λ i. record (seen s (view_of s p old) o w) {
    descriptors = λ d. seen_descriptor
        (left_at o.left.descriptors (least_below (λ e. is_same (same_file_at w.pid d i) (same_file_at p e i)) NOFILE))
        (left_at o.left.descriptors (least_below (λ e. is_same (same_pipe_at w.pid d i) (same_pipe_at p e i)) NOFILE))
        (w.descriptors d);
    children = same_children (gone_with o.answer) w i;
  }

  -- another process sees only other free frames
  pub same_view_of : (q : ℕ) → q ≢ p → view state_begun q ≡ option_map (λ (w : View). record w { free = free }) (view s q)
  unfolding view_of
  same_view_of q apart = ap (option_map (view_of state_begun q)) (live-set_live_there s p old with_call was refl q apart) ∙ by (live s q)
    where
      by : (o : Option Live) → option_map (view_of state_begun q) o ≡ option_map (λ (w : View). record w { free = free }) (option_map (view_of s q) o)
      by None = refl
      by (Some l) = λ i. Some (record (view-set_live s p old with_call was refl q l i) { free = free })

  pub quiet_begun : (o : Own) (t : State) → Quiet state_begun (view_of state_begun p with_call) o t → Quiet s (view_of s p old) o t
  unfolding view_of
  quiet_begun o t h = λ q w apart is. h q (record w { free = free }) apart (same_view_of q apart ∙ ap (option_map (λ (w : View). record w { free = free })) is) ∙ ap Some (same_seen o w)

-- ---- the step of a process that is at an ECALL, and of one whose call is in progress

module _ (s : State) (p : ℕ) (old : Live) (was : get s.processes p ≡ Some (Alive old)) (unmarked : old.killed ≡ false) where
  abbrev pub the_call : Call
  the_call = call_begun (view_of s p old)

  abbrev pub past : Registers
  past = record old.regs { pc = (old.regs.pc + 4) % 2 ^ 64 }

  abbrev pub began : Live
  began = record old { regs = past; call = Some the_call }

  pub ecall_own : old.call ≡ None → next_instruction old.regs old.image ≡ Ecall → own (view_of s p old) ≡ perform the_call (view_of (set_live p began s) p began)
  unfolding own view_of
  ecall_own idle is =
      ap (unless_killed (view_of s p old)) unmarked ∙ ap (going_on (view_of s p old)) idle
      ∙ (λ i. after_instruction (before_ecall (view_of s p old) is i)
      (next_instruction (before_ecall (view_of s p old) is i).regs (before_ecall (view_of s p old) is i).image)) ∙ ap (after_instruction (view_of s p old)) is
      ∙ ap (perform the_call) (sym (view-set_live s p old began was refl p began))
