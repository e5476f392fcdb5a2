-- Instructions of the process that runs where its pages may be absent: one that faults is tried, the absent page that it is on comes, and it is done.
use Rattle.kcall_core.proofs.Prelude.{[], ℕ, ◌&&◌, ◌/◌, ◌∙◌, ◌∷◌, ◌≡◌, ◌≢◌, ◌⊎◌, address_used, after_instruction, ap, before_fault, before_instruction, before_same, before_touched, before_untouched}
use Rattle.kcall_core.proofs.Prelude.{brought, Cause, done_once_touched, Ecall, false, Fault, faults_on_data, going_on, Hart, HasFaulted, if◌then◌else◌, Image, inl, inr, instruction_now, is_absent}
use Rattle.kcall_core.proofs.Prelude.{is_data_page_fault, is_on_absent, IsRunning, IsTouched, IsWhole, Kernel, last_fault, Live, live_now, Makes, Memories, Next, next_instruction, None, not_on_absent}
use Rattle.kcall_core.proofs.Prelude.{off_absent_once_touched, own, page_not_on_absent, page_used, pages_at, refl, Registers, RunsIn, slot_now, Stays, Step, step_in, Steps, StillRuns, Stop, stop_now}
use Rattle.kcall_core.proofs.Prelude.{stop_of, subst, sym, touch, true, unless_killed, user, View, view_now, view_of}
use Rattle.kcall_core.proofs.table.States.{running}
use Rattle.kcall_core.proofs.making.Instructions.{step-done, step-stays}
use Rattle.kcall_core.proofs.making.Staying.{still-runs, stays-view, makes-from}
use Rattle.kcall_core.proofs.memory.Stepping.{ecall-no-fault}
use Rattle.rv64i_core.specs.declared.execution.Stop.TheVariants as stops
use Rattle.kernel_spec.specs.steps.Cases as laws

-- ---- an instruction that doesn't fault

pub fault-no-next : (cause : Cause) → stops.Fault cause ≢ stops.Next
fault-no-next cause e = cc

quiet : (stop : Stop) (step : Step) → stop ≡ stop_of step → ((cause : Cause) → stop ≢ stops.Fault cause) → faults_on_data step ≡ false
quiet stop (Next regs store) ends other = refl
quiet stop Ecall ends other = refl
quiet stop (Fault cause) ends other = absurd (other cause ends)

-- no page comes first
pub stop-plain : (k : Kernel) (h : Hart) (stop : Stop) → stop ≡ stop_of (next_instruction (live_now k h).regs (live_now k h).image) → ((cause : Cause) → stop ≢ stops.Fault cause) → stop ≡ stop_now k h
unfolding view_of
stop-plain k h stop ends other =
    let off = not_on_absent (live_now k h).regs (live_now k h).image (quiet stop (next_instruction (live_now k h).regs (live_now k h).image) ends other) in
    ends ∙ ap (λ (v : View). stop_of (next_instruction v.regs v.image)) (sym (before_same (view_now k h) off))

-- ---- an instruction that faults, as the memories' step tells it

pub fault-of : (step : Step) (cause : Cause) → stops.Fault cause ≡ stop_of step → step ≡ Fault cause
fault-of (Next regs store) cause e = absurd (fault-no-next cause e)
fault-of Ecall cause e = absurd (ecall-no-fault cause (sym e))
fault-of (Fault other) cause e = cc

noted : (old address : ℕ) (cause : Cause) (step : Step) → step ≡ Fault cause → is_data_page_fault cause ≡ true → last_fault old address step ≡ address
noted old address cause step is paged = ap (λ s. last_fault old address s) is ∙ ap (λ b. if b then address else old) paged

-- it was tried, and nothing that can be seen is another
pub record IsTried (cause : Cause) (k : Kernel) (h : Hart) (k' : Kernel) (h' : Hart) : Type 0 where
  pub stays : Stays k h k' h'
  pub same : StillRuns k h k' h'
  pub faulted : HasFaulted cause k' h'

pub tried-here : (k : Kernel) (new : Memories) (h h' : Hart) (stop : Stop) → IsWhole k h → IsRunning k → Steps k.memories new (slot_now k) h h' stop
    → (cause : Cause) → stop ≡ stops.Fault cause → IsTried cause k h (record k { memories = new }) h'
tried-here k new h h' stop whole runs s cause is =
    let stays = step-stays k new h h' stop whole runs s (λ e. fault-no-next cause (sym is ∙ e)) in
    let same = still-runs k (record k { memories = new }) h h' whole.sound runs stays in
    let was : next_instruction (live_now k h).regs (live_now k h).image ≡ Fault cause = fault-of (step_in k.memories (slot_now k) h.regs) cause (sym is ∙ s.ends) in
    record {
      stays = stays;
      same = same;
      faulted = record {
        fault = ap (λ (l : Live). next_instruction l.regs l.image) same.live ∙ was;
        address = λ paged.
            s.fault ∙ noted h.fault_address (address_used h.regs (user (live_now k h).image)) cause (next_instruction (live_now k h).regs (live_now k h).image) was paged
            ∙ ap (λ (l : Live). address_used l.regs (user l.image)) (sym same.live);
      };
    }

module _ (k : Kernel) (new : Memories) (h h' : Hart) (stop : Stop) (whole : IsWhole k h) (runs : IsRunning k) (each : (slot : ℕ) → RunsIn k.memories slot h → Steps k.memories new slot h h' stop) where
  -- what it does in the slot of the process that runs
  pub step-here : Steps k.memories new (slot_now k) h h' stop
  step-here = each (slot_now k) (running k h whole.sound runs).is.runs

  pub tried : (cause : Cause) → stop ≡ stops.Fault cause → IsTried cause k h (record k { memories = new }) h'
  tried cause is = tried-here k new h h' stop whole runs step-here cause is

  -- where it doesn't fault
  pub plain-stop : ((cause : Cause) → stop ≢ stops.Fault cause) → stop ≡ stop_now k h
  plain-stop other = stop-plain k h stop step-here.ends other

  pub plain-done : laws.IsBetweenCalls (live_now k h) → stop ≡ stops.Next → Makes k h (own (view_now k h)) (record k { memories = new }) h'
  plain-done free next = step-done k new h h' stop whole runs step-here free next

  pub plain-stays : stop ≢ stops.Next → Stays k h (record k { memories = new }) h'
  plain-stays other = step-stays k new h h' stop whole runs step-here other

  pub plain-same : stop ≢ stops.Next → StillRuns k h (record k { memories = new }) h'
  plain-same other = still-runs k (record k { memories = new }) h h' whole.sound runs (plain-stays other)

-- what is made of its next instruction behind is made of it from before
pub made-before : (k k' : Kernel) (h h' : Hart) (last : Kernel) (hart : Hart) → IsWhole k h → IsRunning k → Stays k h k' h'
    → Makes k' h' (own (view_now k' h')) last hart → Makes k h (own (view_now k h)) last hart
made-before k k' h h' last hart whole runs stays made =
    subst (λ v. Makes k h (own v) last hart) (stays-view k k' h h' whole.sound runs stays) (makes-from k k' h h' whole.sound runs stays (own (view_now k' h')) last hart made)

pub stop-before : (k k' : Kernel) (h h' : Hart) (stop : Stop) → IsWhole k h → IsRunning k → Stays k h k' h' → stop ≡ stop_now k' h' → stop ≡ stop_now k h
stop-before k k' h h' stop whole runs stays is = is ∙ ap (λ v. stop_of (instruction_now v)) (stays-view k k' h h' whole.sound runs stays)

pub stays-there : (k k' last : Kernel) (h h' hart : Hart) → (last ≡ k') × (hart ≡ h') → Stays k h k' h' → Stays k h last hart
stays-there k k' last h h' hart same stays = subst (λ x. Stays k h x hart) (sym same.0) (subst (λ y. Stays k h k' y) (sym same.1) stays)

pub runs-there : (k k' last : Kernel) (h h' hart : Hart) → (last ≡ k') × (hart ≡ h') → StillRuns k h k' h' → StillRuns k h last hart
runs-there k k' last h h' hart same still = subst (λ x. StillRuns k h x hart) (sym same.0) (subst (λ y. StillRuns k h k' y) (sym same.1) still)

-- ---- what is done about the fault

pub own-is : (v : View) → v.killed ≡ false → v.call ≡ None → own v ≡ after_instruction (before_instruction v) (instruction_now v)
unfolding own
own-is v unmarked idle = ap (unless_killed v) unmarked ∙ ap (going_on v) idle

own-before : (v t : View) → v.killed ≡ false → v.call ≡ None → t.killed ≡ false → t.call ≡ None → before_instruction v ≡ t → before_instruction t ≡ t → own v ≡ own t
own-before v t unmarked idle unmarked' idle' comes again =
    own-is v unmarked idle ∙ ap (λ (u : View). after_instruction u (next_instruction u.regs u.image)) (comes ∙ sym again) ∙ sym (own-is t unmarked' idle')

module _ (k : Kernel) (h : Hart) (cause : Cause) (faulted : HasFaulted cause k h) (address : ℕ) (told : address ≡ h.fault_address) where
  abbrev regs : Registers
  regs = (live_now k h).regs

  abbrev image : Image
  image = (live_now k h).image

  faults-so : before_instruction (view_now k h) ≡ view_now k h → stops.Fault cause ≡ stop_now k h
  unfolding view_of
  faults-so same = sym (ap (λ (v : View). stop_of (next_instruction v.regs v.image)) same ∙ ap stop_of faulted.fault)

  -- it isn't a page fault of a load or a store
  pub other-fault : is_data_page_fault cause ≡ false → stops.Fault cause ≡ stop_now k h
  unfolding view_of
  other-fault other = faults-so (before_fault (view_now k h) cause faulted.fault other)

  page-is : is_data_page_fault cause ≡ true → address / 4096 ≡ page_used regs image
  page-is paged = ap (λ a. a / 4096) (told ∙ faulted.address paged)

  -- the page isn't absent, or it doesn't come
  pub untouched-fault : is_data_page_fault cause ≡ true → (is_absent image (address / 4096) ≡ false) ⊎ (touch (pages_at address 1) (view_now k h) ≡ None) → stops.Fault cause ≡ stop_now k h
  unfolding view_of
  untouched-fault paged refused = elim refused [
    | inl there ↦ faults-so (before_same (view_now k h) (page_not_on_absent regs image (ap (λ p. is_absent image p) (sym (page-is paged)) ∙ there)))
    | inr none ↦ faults-so (before_untouched (view_now k h) (ap (λ p. touch (p ∷ []) (view_now k h)) (sym (page-is paged)) ∙ none))
  ]

  module _ (paged : is_data_page_fault cause ≡ true) (k1 : Kernel) (touched : IsTouched (pages_at address 1) k h k1 h) (absent : is_absent (live_now k h).image (address / 4096) ≡ true) where
    on : is_on_absent regs image ≡ true
    unfolding is_on_absent
    on =
        ap (λ step. faults_on_data step && is_absent image (page_used regs image)) faulted.fault
        ∙ ap (λ b. b && is_absent image (page_used regs image)) paged
        ∙ ap (λ p. is_absent image p) (sym (page-is paged)) ∙ absent

    comes : before_instruction (view_now k h) ≡ view_now k1 h
    unfolding view_of
    comes = before_touched (view_now k h) (view_now k1 h) on (ap (λ p. touch (p ∷ []) (view_now k h)) (sym (page-is paged)) ∙ touched.view)

    image-there : (live_now k1 h).image ≡ brought (page_used regs image ∷ []) image
    image-there = ap (λ (l : Live). l.image) touched.live ∙ ap (λ p. brought (p ∷ []) image) (page-is paged)

    again : before_instruction (view_now k1 h) ≡ view_now k1 h
    unfolding view_of
    again = before_same (view_now k1 h) (ap (λ i. is_on_absent regs i) image-there ∙ off_absent_once_touched regs image on)

    own-there : laws.IsBetweenCalls (live_now k h) → own (view_now k h) ≡ own (view_now k1 h)
    unfolding view_of
    own-there free =
        own-before (view_now k h) (view_now k1 h) free.0 free.1 (ap (λ (l : Live). l.killed) touched.live ∙ free.0) (ap (λ (l : Live). l.call) touched.live ∙ free.1) comes again

    module _ (new : Memories) (h' : Hart) (stop : Stop) (s : Steps k1.memories new (slot_now k1) h h' stop) where
      pub touched-next : stop ≡ stops.Next
      touched-next = s.ends ∙ ap (λ i. stop_of (next_instruction regs i)) image-there ∙ done_once_touched regs image on

      pub touched-stop : stop ≡ stop_now k h
      unfolding view_of
      touched-stop = s.ends ∙ ap (λ (v : View). stop_of (next_instruction v.regs v.image)) (sym comes)

      -- it is between calls, before and behind
      pub touched-free : laws.IsBetweenCalls (live_now k h) → laws.IsBetweenCalls (live_now (record k1 { memories = new }) h')
      touched-free free = (ap (λ (l : Live). l.killed) touched.live ∙ free.0, ap (λ (l : Live). l.call) touched.live ∙ free.1)

      pub touched-makes : laws.IsBetweenCalls (live_now k h) → Makes k h (own (view_now k h)) (record k1 { memories = new }) h'
      touched-makes free =
          subst (λ o. Makes k h o (record k1 { memories = new }) h') (sym (own-there free))
          (touched.makes (own (view_now k1 h)) (record k1 { memories = new }) h' (step-done k1 new h h' stop touched.whole touched.running s (touched-free free) touched-next))
