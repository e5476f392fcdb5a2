-- What is told of a machine is determined by its first world and its events, and it is what its observers answer.
use Rattle.std.proofs.Common.{[], ℕ, zero, suc, ◌*◌, ◌+◌, ◌-◌, ◌<◌, ◌≤◌, ◌^◌, ◌∙◌, ◌∷◌, ◌++◌, ◌≡◌, ap, ap₂, arith, Bool, false, get_or, inl, inr}
use Rattle.std.proofs.Common.{length, List, map, None, Option, refl, Some, subst, sym}
use Rattle.std.proofs.lemmas.Bool.{cases_eq, cases_lt}
use Rattle.std.proofs.lemmas.Grind.{flat_map-append}
use Rattle.std.proofs.lemmas.List.{length-map, map-append}
use Rattle.std.proofs.lemmas.Option.{none-some, same_Some}
use Rattle.std.specs.FinMap.{get, keys, len, len-entries, entries, entries_sorted, is_sorted}
use Rattle.std.specs.FinMap.Entries.{below_all}
use Rattle.std.specs.declared.cmp.Ordering.TheVariants.{Equal, Greater}
use Rattle.std.specs.Ordering.{nat_cmp, is_lt}
use Rattle.std.specs.Cmp.{nat_cmp_is}
use Rattle.std.specs.Prelude.{◌↔◌, Contains, is_some, IsSome, option_map, T}
use Rattle.circular_buffer.specs.Buffer.{keep_last}
use Rattle.xk_base.specs.Frames.{copies}
use Rattle.xk_base.proofs.Frames.{at, at-le, at-other, copies-cons, copies-nil}
use Rattle.xk_base.specs.Image.{some_below}
unfoldable use Rattle.xk_base.specs.Image.{price}
use Rattle.pipe_core.specs.Pipe.{Pipe as Pipes}
use Rattle.kernel_spec.specs.views.Processes.{Child, Live, Process, Alive, Zombie}
use Rattle.kernel_spec.specs.views.State.{live, live_part, State}
use Rattle.kernel_spec.specs.views.View.{child_of, View}
unfoldable use Rattle.kernel_spec.specs.views.View.{view_of}
use Rattle.kernel_spec.specs.views.WellFormed.{cost, over_all}
unfoldable use Rattle.kernel_spec.specs.views.WellFormed.{sum_below}
use Rattle.kernel_spec.specs.views.Words.{count_if}
use Rattle.kernel_spec.specs.runs.Alike.{AreAlike}
use Rattle.kernel_spec.specs.runs.Run.{bytes_out, Event, out, Outcome, World}
use Rattle.kernel_spec.specs.waking.Wakes.{IsPromised}
use Rattle.kernel_spec.specs.runs.Rounds.{events}
use Rattle.kernel_spec.proofs.Common.{is_some-view, same_first, same_rest}
use Rattle.kernel_spec.proofs.runs.Boot.{promised_runs_split}
use Rattle.kernel_spec.proofs.runs.Replays.{replay_is_the_same}
use Rattle.kernel_spec.proofs.steps.MapsAfterChange.{first, second}
use Rattle.kernel_spec.proofs.turns.KeepsSlots.{is_listed, not_listed}
use Rattle.kcall_core.specs.Holdings.{byte_of}
use Rattle.kcall_core.specs.Observers.{registers_of, byte_at, byte_in, child_at, if_live}
use Rattle.kcall_core.specs.declared.kernel.observers.frame_uses.FrameUse.{FrameUse}
use Rattle.kcall_core.specs.declared.kernel.observers.frame_uses.FrameUse.TheVariants.{Free, Trapframe, Root, Upper, Lower, Page, Pipe}
use Rattle.xv_machine.specs.FrameUses.{IsOwned, IsUsed, page_frame_in}
use Rattle.xv_machine.specs.Meaning.{Meaning, Owned}
use Rattle.xv_machine.specs.Notes.{notes_of}
use Rattle.xv_machine.specs.Sound.{frames_of, HasFrames, IsSoundMachine}
use Rattle.xv_claims.specs.Told.{count_used, has_page, has_part, HaveUse, Told, told_of}
use Rattle.xv_claims.specs.ToldLaws.{OutcomesAreDetermined, OutcomesGoOn, TellsOutcomes}

-- ---- what is read off a live process is read off its view

module _ (s : State) (p : ℕ) where
  regs_read : (o : Option Live) → option_map (λ (v : View). v.regs) (option_map (view_of s p) o) ≡ option_map (λ (l : Live). l.regs) o
  unfolding view_of
  regs_read None = refl
  regs_read (Some l) = refl

  abbrev byte_seen : ℕ → Option View → Option ℕ
  byte_seen va None = None
  byte_seen va (Some v) = byte_of v.image va

  byte_read : (va : ℕ) (o : Option Live) → byte_seen va (option_map (view_of s p) o) ≡ byte_in va o
  unfolding view_of
  byte_read va None = refl
  byte_read va (Some l) = refl

  abbrev child_seen : ℕ → Option View → Option Child
  child_seen q None = None
  child_seen q (Some v) = v.children q

  child_read : (q : ℕ) (o : Option Live) → child_seen q (option_map (view_of s p) o) ≡ if_live o (child_of p (get s.processes q))
  unfolding view_of
  child_read q None = refl
  child_read q (Some l) = refl

  abbrev part_seen : (size place : ℕ) → Option View → Bool
  part_seen size place None = false
  part_seen size place (Some v) = some_below size (λ k. is_some (get v.image.pages (size * place + k)))

  part_read : (size place : ℕ) (o : Option Live) → part_seen size place (option_map (view_of s p) o) ≡ has_part size place o
  unfolding view_of
  part_read size place None = refl
  part_read size place (Some l) = refl

  abbrev page_seen : ℕ → Option View → Bool
  page_seen vpn None = false
  page_seen vpn (Some v) = is_some (get v.image.pages vpn)

  page_read : (vpn : ℕ) (o : Option Live) → page_seen vpn (option_map (view_of s p) o) ≡ has_page vpn o
  unfolding view_of
  page_read vpn None = refl
  page_read vpn (Some l) = refl

  abbrev cost_seen : Option View → ℕ
  cost_seen None = 0
  cost_seen (Some v) = price v.image + 1

  cost_read : (o : Option Process) → cost_seen (option_map (view_of s p) (live_part o)) ≡ cost o
  unfolding view_of
  cost_read None = refl
  cost_read (Some (Alive l)) = refl
  cost_read (Some (Zombie parent status)) = refl

-- ---- in two worlds that can't be told apart

module _ (v w : World) (alike : AreAlike v w) where
  abbrev a : State
  a = v.state

  abbrev b : State
  b = w.state

  same_regs : (p : ℕ) → registers_of a p ≡ registers_of b p
  same_regs p = sym (regs_read a p (live a p)) ∙ ap (λ (o : Option View). option_map (λ (x : View). x.regs) o) (alike.views p) ∙ regs_read b p (live b p)

  same_byte : (p va : ℕ) → byte_at a p va ≡ byte_at b p va
  same_byte p va = sym (byte_read a p va (live a p)) ∙ ap (byte_seen a p va) (alike.views p) ∙ byte_read b p va (live b p)

  same_child : (p q : ℕ) → child_at a p q ≡ child_at b p q
  same_child p q = sym (child_read a p q (live a p)) ∙ ap (child_seen a p q) (alike.views p) ∙ child_read b p q (live b p)

  same_some : (p : ℕ) → is_some (live a p) ≡ is_some (live b p)
  same_some p = sym (is_some-view (live a p) a p) ∙ ap is_some (alike.views p) ∙ is_some-view (live b p) b p

  same_part : (size place p : ℕ) → has_part size place (live a p) ≡ has_part size place (live b p)
  same_part size place p = sym (part_read a p size place (live a p)) ∙ ap (part_seen a p size place) (alike.views p) ∙ part_read b p size place (live b p)

  same_page : (vpn p : ℕ) → has_page vpn (live a p) ≡ has_page vpn (live b p)
  same_page vpn p = sym (page_read a p vpn (live a p)) ∙ ap (page_seen a p vpn) (alike.views p) ∙ page_read b p vpn (live b p)

  same_cost : (p : ℕ) → cost (get a.processes p) ≡ cost (get b.processes p)
  same_cost p = sym (cost_read a p (get a.processes p)) ∙ ap (cost_seen a p) (alike.views p) ∙ cost_read b p (get b.processes p)

  same_costs : over_all a cost ≡ over_all b cost
  same_costs = λ i. sum_below (alike.next_pid i) (λ p. same_cost p i)

  same_count : (frames : ℕ) (role : FrameUse) → count_used frames a role ≡ count_used frames b role
  same_count frames Free = alike.free
  same_count frames (Trapframe pid) = ap count_if (same_some pid)
  same_count frames (Root pid) = ap count_if (same_some pid)
  same_count frames (Upper pid place) = ap count_if (same_part (2 ^ 18) place pid)
  same_count frames (Lower pid place) = ap count_if (same_part 512 place pid)
  same_count frames (Page pid vpn) = ap count_if (same_page vpn pid)
  same_count frames Pipe = λ i. frames - (alike.free i + same_costs i)

  same_told : (frames trace : ℕ) (es fs : List (Event × Outcome)) → es ≡ fs → told_of frames trace es v ≡ told_of frames trace fs w
  same_told frames trace es fs same = λ i. record (told_of frames trace (same i) v) {
    registers = λ p. same_regs p i;
    peek = λ p va. same_byte p va i;
    child_state = λ p q. same_child p q i;
    free_frames = alike.free i;
    current = (alike.turns i).current;
    halted = (alike.turns i).halted;
    frames = λ role. same_count frames role i;
  }

pub outcomes_are_determined : OutcomesAreDetermined
outcomes_are_determined frames trace programs wanted one two (v, boot, (t, es, run, those, is)) (w, again, (u, fs, run_too, those_too, is_too)) =
    let both = replay_is_the_same frames trace programs v w t u es fs boot again run run_too (those ∙ sym those_too) in
    is ∙ same_told t u both.1 frames trace es fs both.0 ∙ sym is_too

-- ---- what the first events give

-- a list of events in two parts
record Parted (list : List (Event × Outcome)) (es fs : List Event) : Type 0 where
  front : List (Event × Outcome)
  back : List (Event × Outcome)
  is : list ≡ front ++ back
  fronts : events front ≡ es
  backs : events back ≡ fs

parted : (list : List (Event × Outcome)) (es fs : List Event) → events list ≡ es ++ fs → Parted list es fs
parted list [] fs same = record { front = []; back = list; is = refl; fronts = refl; backs = same }
parted [] (e ∷ es) fs same = let no : ⊥ = cc in absurd no
parted (x ∷ list) (e ∷ es) fs same =
    let more = parted list es fs (same_rest x.0 e (events list) (es ++ fs) same) in
    let first_event : x.0 ≡ e = same_first x.0 e (events list) (es ++ fs) same in
    record { front = x ∷ more.front; back = more.back; is = ap (λ (xs : List (Event × Outcome)). x ∷ xs) more.is; fronts = λ i. first_event i ∷ more.fronts i; backs = more.backs }

pub outcomes_go_on : OutcomesGoOn
outcomes_go_on frames trace programs es fs told (w, boot, (t, list, run, those, is)) =
    let parts = parted list es fs those in
    let both = promised_runs_split w t parts.front parts.back (subst (λ (xs : List (Event × Outcome)). IsPromised w xs t) parts.is run) in
    let before : Told = told_of frames trace parts.front both.0 in (
      before,
      map (λ e. e.1) parts.back,
      out parts.back,
      (w, boot, (both.0, parts.front, both.1, parts.fronts, refl)),
      ap (λ (x : Told). x.outcomes) is ∙ ap (λ (xs : List (Event × Outcome)). map (λ e. e.1) xs) parts.is ∙ map-append (λ (e : Event × Outcome). e.1) parts.front parts.back,
      ap (λ (x : Told). x.bytes) is ∙ ap out parts.is ∙ flat_map-append (λ (e : Event × Outcome). bytes_out e.1) parts.front parts.back,
    )

-- ---- lists in which each stands once

single : (x f : ℕ) → Contains (x ∷ []) f ↔ (x ≡ f)
single x f = (λ h. by h.0 h.1 h.2, λ e. (0, omega arith, e))
  where
    by : (k : ℕ) → k < 1 → get_or (x ∷ []) k f ≡ f → x ≡ f
    by zero lt is = is
    by (suc k) lt is = absurd (omega (arith, lt))

abbrev listed : Option ℕ → List ℕ
listed None = []
listed (Some x) = x ∷ []

length_listed : (o : Option ℕ) → length (listed o) ≡ count_if (is_some o)
length_listed None = refl
length_listed (Some x) = refl

once_listed : (o : Option ℕ) (f : ℕ) → copies f (listed o) ≤ 1
once_listed None f = omega (arith, copies-nil f)
once_listed (Some x) f = omega (arith, copies-cons f x [], copies-nil f, at-le f x)

contains_listed : (o : Option ℕ) (f : ℕ) → Contains (listed o) f ↔ (o ≡ Some f)
contains_listed None f = (λ h. absurd (omega (arith, h.1)), λ e. absurd (none-some f e))
contains_listed (Some x) f = (λ h. ap Some ((single x f).0 h), λ e. (single x f).1 (same_Some x f e))

-- the keys of a map rise
not_less : (k e : ℕ) → e ≤ k → T (is_lt (nat_cmp k e)) → ⊥
not_less k e low h = elim (cases_eq k e) [
  | inl same ↦ subst (λ o. T (is_lt o)) (sym (nat_cmp_is k e Equal same)) h
  | inr apart ↦ subst (λ o. T (is_lt o)) (sym (nat_cmp_is k e Greater (omega (arith, low, apart)))) h
]

all_above : {X : Type 0} (k : ℕ) (es : List (ℕ × X)) → T (below_all nat_cmp k es) → (f : ℕ) → f ≤ k → copies f (map (λ e. e.0) es) ≡ 0
all_above k [] h f low = copies-nil f
all_above k (e ∷ es) h f low =
    let other : at f e.0 ≡ 0 = at-other f e.0 (λ same. not_less k e.0 (omega (arith, low, same)) (first _ _ h)) in
    omega (arith, copies-cons f e.0 (map (λ e. e.0) es), other, all_above k es (second _ _ h) f low)

once_key : {X : Type 0} (es : List (ℕ × X)) → T (is_sorted nat_cmp es) → (f : ℕ) → copies f (map (λ e. e.0) es) ≤ 1
once_key [] h f = omega (arith, copies-nil f)
once_key (e ∷ es) h f = elim (cases_eq f e.0) [
  | inl same ↦ omega (arith, copies-cons f e.0 (map (λ e. e.0) es), at-le f e.0, all_above e.0 es (first _ _ h) f (omega (arith, same)))
  | inr apart ↦ omega (arith, copies-cons f e.0 (map (λ e. e.0) es), at-other f e.0 apart, once_key es (second _ _ h) f)
]

-- ---- the frames that have a use

-- the frame that who has frames has for something
abbrev frame_by : (Owned → Option ℕ) → Option Owned → Option ℕ
frame_by g None = None
frame_by g (Some o) = g o

has_owner : (l : Option Live) (o : Option Owned) → HasFrames l o → is_some o ≡ is_some l
has_owner None None h = refl
has_owner None (Some o) h = absurd h
has_owner (Some l) None h = absurd h
has_owner (Some l) (Some o) h = refl

has_upper : (place : ℕ) (l : Option Live) (o : Option Owned) → HasFrames l o → is_some (frame_by (λ o. get o.uppers place) o) ≡ has_part (2 ^ 18) place l
has_upper place None None h = refl
has_upper place None (Some o) h = absurd h
has_upper place (Some l) None h = absurd h
has_upper place (Some l) (Some o) h = h.uppers place

has_lower : (place : ℕ) (l : Option Live) (o : Option Owned) → HasFrames l o → is_some (frame_by (λ o. get o.lowers place) o) ≡ has_part 512 place l
has_lower place None None h = refl
has_lower place None (Some o) h = absurd h
has_lower place (Some l) None h = absurd h
has_lower place (Some l) (Some o) h = h.lowers place

has_paged : (vpn : ℕ) (l : Option Live) (o : Option Owned) → HasFrames l o → is_some (frame_by (λ o. get o.pages vpn) o) ≡ has_page vpn l
has_paged vpn None None h = refl
has_paged vpn None (Some o) h = absurd h
has_paged vpn (Some l) None h = absurd h
has_paged vpn (Some l) (Some o) h = h.pages vpn

each_some : (f : Owned → ℕ) (o : Option Owned) → is_some (frame_by (λ o. Some (f o)) o) ≡ is_some o
each_some f None = refl
each_some f (Some o) = refl

frame_is : (g : Owned → Option ℕ) (x : Option Owned) (f : ℕ) → (frame_by g x ≡ Some f) ↔ ((o : Owned) × (x ≡ Some o) × (g o ≡ Some f))
frame_is g None f = (λ e. absurd (none-some f e), λ h. absurd (none-some h.0 h.1))
frame_is g (Some o) f = (λ e. (o, refl, e), λ h. ap g (same_Some o h.0 h.1) ∙ h.2)

module _ (m : Meaning) (sound : IsSoundMachine m) where
  free_once : (f : ℕ) → copies f m.frames.free ≤ 1
  free_once f =
      let a : ℕ = copies f m.frames.free in
      let b : ℕ = sum_below m.world.state.next_pid (λ p. copies f (frames_of (get m.frames.owned p))) in
      let c : ℕ = count_if (is_some (get m.world.state.pipes f)) in
      elim (cases_lt f m.frames.count) [
        | inl below ↦ (let e : a + b + c ≡ 1 = sound.once f below in omega (arith, e))
        | inr above ↦ (let e : a + b + c ≡ 0 = sound.inside f above in omega (arith, e))
      ]

  by_owner : (pid : ℕ) (role : FrameUse) (g : Owned → Option ℕ) (n : ℕ) → count_if (is_some (frame_by g (get m.frames.owned pid))) ≡ n
      → ((f : ℕ) → IsOwned m.frames pid (λ o. g o ≡ Some f) ↔ IsUsed m f role) → HaveUse m role n
  by_owner pid role g n count same = (
    listed (frame_by g (get m.frames.owned pid)),
    length_listed (frame_by g (get m.frames.owned pid)) ∙ count,
    λ f. (
      once_listed (frame_by g (get m.frames.owned pid)) f,
      (
        λ h. (same f).0 ((frame_is g (get m.frames.owned pid) f).0 ((contains_listed (frame_by g (get m.frames.owned pid)) f).0 h)),
        λ h. (contains_listed (frame_by g (get m.frames.owned pid)) f).1 ((frame_is g (get m.frames.owned pid) f).1 ((same f).1 h)),
      ),
    ),
  )

  owner_is : (pid : ℕ) (h : Owned → ℕ) (f : ℕ) → IsOwned m.frames pid (λ o. Some (h o) ≡ Some f) ↔ IsOwned m.frames pid (λ o. h o ≡ f)
  owner_is pid h f = (λ x. (x.0, x.1, same_Some (h x.0) f x.2), λ x. (x.0, x.1, ap Some x.2))

  page_is : (pid vpn f : ℕ) → IsOwned m.frames pid (λ o. get o.pages vpn ≡ Some f) ↔ (page_frame_in vpn (get m.frames.owned pid) ≡ Some f)
  page_is pid vpn f = by (get m.frames.owned pid)
    where
      by : (x : Option Owned) → ((o : Owned) × (x ≡ Some o) × (get o.pages vpn ≡ Some f)) ↔ (page_frame_in vpn x ≡ Some f)
      by None = (λ h. absurd (none-some h.0 h.1), λ e. absurd (none-some f e))
      by (Some o) = (λ h. ap (λ (x : Owned). get x.pages vpn) (same_Some o h.0 h.1) ∙ h.2, λ e. (o, refl, e))

  pipe_there : (f : ℕ) → Contains (keys m.world.state.pipes) f → IsSome (get m.world.state.pipes f)
  pipe_there f h = by (get m.world.state.pipes f) refl
    where
      by : (o : Option Pipes) → get m.world.state.pipes f ≡ o → IsSome (get m.world.state.pipes f)
      by None is = absurd (not_listed m.world.state.pipes f is h)
      by (Some x) is = ap is_some is

  pipes_are : length (keys m.world.state.pipes) ≡ m.frames.count - (m.world.state.free + over_all m.world.state cost)
  pipes_are =
      let a : ℕ = m.world.state.free in
      let b : ℕ = over_all m.world.state cost in
      let c : ℕ = len m.world.state.pipes in
      let d : ℕ = m.frames.count in
      let all : a + b + c ≡ d = sound.well.counted in
      let left : c ≡ d - (a + b) = omega (arith, all) in
      length-map (entries m.world.state.pipes) (λ e. e.0) ∙ sym (len-entries m.world.state.pipes) ∙ left

  have_use : (role : FrameUse) → HaveUse m role (count_used m.frames.count m.world.state role)
  have_use Free = (m.frames.free, sym sound.free, λ f. (free_once f, (λ h. h, λ h. h)))
  have_use (Trapframe pid) = by_owner pid (Trapframe pid) (λ o. Some o.trapframe) (count_if (is_some (live m.world.state pid)))
      (ap count_if (each_some (λ o. o.trapframe) (get m.frames.owned pid) ∙ has_owner (live m.world.state pid) (get m.frames.owned pid) (sound.owned pid))) (owner_is pid (λ o. o.trapframe))
  have_use (Root pid) = by_owner pid (Root pid) (λ o. Some o.root) (count_if (is_some (live m.world.state pid)))
      (ap count_if (each_some (λ o. o.root) (get m.frames.owned pid) ∙ has_owner (live m.world.state pid) (get m.frames.owned pid) (sound.owned pid))) (owner_is pid (λ o. o.root))
  have_use (Upper pid place) = by_owner pid (Upper pid place) (λ o. get o.uppers place) (count_if (has_part (2 ^ 18) place (live m.world.state pid)))
      (ap count_if (has_upper place (live m.world.state pid) (get m.frames.owned pid) (sound.owned pid))) (λ f. (λ h. h, λ h. h))
  have_use (Lower pid place) = by_owner pid (Lower pid place) (λ o. get o.lowers place) (count_if (has_part 512 place (live m.world.state pid)))
      (ap count_if (has_lower place (live m.world.state pid) (get m.frames.owned pid) (sound.owned pid))) (λ f. (λ h. h, λ h. h))
  have_use (Page pid vpn) = by_owner pid (Page pid vpn) (λ o. get o.pages vpn) (count_if (has_page vpn (live m.world.state pid)))
      (ap count_if (has_paged vpn (live m.world.state pid) (get m.frames.owned pid) (sound.owned pid))) (page_is pid vpn)
  have_use Pipe = (keys m.world.state.pipes, pipes_are, λ f. (once_key (entries m.world.state.pipes) (entries_sorted m.world.state.pipes) f, (pipe_there f, is_listed m.world.state.pipes f)))

-- ---- as a law

pub tells_outcomes : TellsOutcomes
tells_outcomes frames trace programs list m (booted, is, count, sound, empty, goes) = (
  told_of frames trace list m.world,
  (booted.world, is, (m.world, list, goes.run, refl, refl)),
  record {
    outcomes = refl;
    bytes = refl;
    registers = λ p. refl;
    peek = λ p va. refl;
    child_state = λ p q. refl;
    free_frames = refl;
    current = refl;
    halted = refl;
    trace = goes.notes ∙ ap₂ (λ n notes. keep_last n (notes ++ notes_of list)) empty.1 empty.0;
    frames = λ role. subst (λ (n : ℕ). HaveUse m role (count_used n m.world.state role)) (goes.frames ∙ count) (have_use m goes.sound role);
  },
  λ other h. outcomes_are_determined frames trace programs (events list) other (told_of frames trace list m.world) h (booted.world, is, (m.world, list, goes.run, refl, refl)),
)
