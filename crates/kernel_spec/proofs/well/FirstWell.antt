-- The state after boot is well-formed.
use Rattle.kernel_spec.proofs.Prelude.{[], ℕ, ◌+◌, ◌-◌, ◌∙◌, ◌∷◌, ◌≡◌, ◌≢◌, ◌≤◌, Alive, ap, arith, BadConfig, Bool, BootError, cond, contains, contains-empty, cost, empty, eqb_tells, Err, ExecError}
use Rattle.kernel_spec.proofs.Prelude.{false, file_at, first, first_init, first_loaded, first_process, first_state, first_turns, get, get-empty, HasSlot, HasSlots, init_name, init_of, inl, inr}
use Rattle.kernel_spec.proofs.Prelude.{is_some, IsSome, leb_tells, len, len-empty, List, Live, live_part, Loaded, loaded, lt-ltb, nat_cmp, nat_eq, nat_lt, NoFrames, None, Ok, Option, option_map}
use Rattle.kernel_spec.proofs.Prelude.{over_all, Pipe, price, Process, ProgramFile, refl, Result, same_Some, Sleeps, Some, State, subst, sum_below, sym, TRACE_MAX, true, View, view, view_of}
use Rattle.kernel_spec.proofs.Prelude.{WellFormed, within_frames, World}
use Rattle.kernel_spec.proofs.steps.SeenByParts.{file_of}
use Rattle.kernel_spec.specs.runs.First.{unless_refused}
use Rattle.kernel_spec.specs.laws.FirstLaws.{FirstWell, FirstSlots}
use Rattle.kernel_spec.specs.views.NewKernel.{refusal}
use Rattle.kernel_spec.proofs.steps.MapsAfterChange.{get_at, get_same}
use Rattle.kernel_spec.proofs.Common.{none_has_no_value, same_Ok}

nothing_open : {X : Type 0} (i : ℕ) (x : X) → get (empty {X = X} {R = nat_cmp}) i ≡ Some x → ⊥
nothing_open {X} i x e = let none : ◌≡◌ {A = Option X} None (Some x) = sym (get-empty nat_cmp i) ∙ e in let no : ⊥ = cc in no

module _ (frames : ℕ) (programs : List ProgramFile) (l : Loaded) (enough : price l.image + 1 ≤ frames) where
  abbrev s : State
  s = first_state frames programs l

  abbrev first_live : Live
  first_live = first_process l

  at : (p : ℕ) → get s.processes p ≡ cond (nat_eq p 1) (Some (Alive first_live)) None
  at p = get_at empty 1 (Alive first_live) p ∙ ap (cond (nat_eq p 1) (Some (Alive first_live))) (get-empty nat_cmp p)

  elsewhere : (p : ℕ) → p ≢ 1 → get s.processes p ≡ None
  elsewhere p apart = at p ∙ elim (eqb_tells p 1) [ inl e ↦ absurd (apart e.1) | inr e ↦ ap (λ (b : Bool). cond b (Some (Alive first_live)) None) e.0 ]

  here : get s.processes 1 ≡ Some (Alive first_live)
  here = get_same empty 1 (Alive first_live)

  only : (p : ℕ) → IsSome (get s.processes p) → p ≡ 1
  only p there = elim (eqb_tells p 1) [ inl e ↦ e.1 | inr e ↦ absurd (none_has_no_value (get s.processes p) (elsewhere p e.1) there) ]

  nothing_named : (p d f : ℕ) → file_at s p d ≡ Some f → ⊥
  nothing_named p d f h = elim (eqb_tells p 1) [
    | inl e ↦ nothing_open d f (sym (ap (λ (o : Option Process). file_of (live_part o) d) (ap (get s.processes) e.1 ∙ here)) ∙ h)
    | inr e ↦ let none : None ≡ Some f = sym (ap (λ (o : Option Process). file_of (live_part o) d) (elsewhere p e.1)) ∙ h in let no : ⊥ = cc in no
  ]

  total : over_all s cost ≡ price l.image + 1
  unfolding sum_below
  total =
      let c0 : ℕ = cost (get s.processes 0) in let c1 : ℕ = cost (get s.processes 1) in let n : ℕ = price l.image + 1 in
      let a : c0 ≡ 0 = ap cost (elsewhere 0 (λ e. let no : ⊥ = omega arith in no)) in let b : c1 ≡ n = ap cost here in
      let goal : 0 + c0 + c1 ≡ n = omega arith in goal

  frames_all : s.free + over_all s cost + len s.pipes ≡ frames
  frames_all =
      let n : ℕ = price l.image in let a : ℕ = over_all s cost in let k : ℕ = len s.pipes in
      let x : a ≡ n + 1 = total in let y : k ≡ 0 = len-empty nat_cmp Pipe in let z : n + 1 ≤ frames = enough in
      let goal : frames - n - 1 + a + k ≡ frames = omega arith in goal

  pub state_well : WellFormed frames s
  state_well = record {
    pids = λ p there. let e : p ≡ 1 = only p there in (omega arith, omega arith);
    first = λ p there. (Alive first_live, here, refl);
    parents = λ p x is. inl (only p (ap is_some is));
    descriptors = λ p d f h. absurd (nothing_named p d f h);
    ends = λ f i x end is on. absurd (nothing_open f x is);
    named = λ f there. absurd (none_has_no_value (get s.files f) (get-empty nat_cmp f) there);
    readers = λ i x is. absurd (nothing_open i x is);
    writers = λ i x is. absurd (nothing_open i x is);
    held = λ i x is. absurd (nothing_open i x is);
    counted = frames_all;
    pipe_bytes = λ i x is. absurd (nothing_open i x is);
    keys = omega arith;
    to_send = omega arith;
  }

-- it is what some file and texts are loaded as
abbrev IsLoaded : Loaded → Type 0
IsLoaded l = (file : List ℕ) × (texts : List (List ℕ)) × (loaded file texts ≡ Ok l)

-- the world after boot is the first one, of what `init` is loaded as
abbrev IsFirst : ℕ → List ProgramFile → World → Type 0
IsFirst frames programs w = (l : Loaded) × (price l.image + 1 ≤ frames) × (w ≡ record { state = first_state frames programs l; turns = first_turns }) × IsLoaded l

by_frames : (frames : ℕ) (programs : List ProgramFile) (l : Loaded) → IsLoaded l → (w : World) (b : Bool) → nat_lt frames (price l.image + 1) ≡ b
    → first_loaded frames programs (cond {A = Result Loaded ExecError} b (Err NoFrames) (Ok l)) ≡ Ok w → IsFirst frames programs w
by_frames frames programs l made w true e h = let no : ⊥ = cc in absurd no
by_frames frames programs l made w false e h =
    let same : record { state = first_state frames programs l; turns = first_turns } ≡ w = same_Ok (record { state = first_state frames programs l; turns = first_turns }) w h in
    let enough : price l.image + 1 ≤ frames = elim (leb_tells (price l.image + 1) frames) [
      | inl t ↦ t.1
      | inr t ↦ absurd (let less : nat_lt frames (price l.image + 1) ≡ true = lt-ltb frames (price l.image + 1) t.1 in
          let no : true ≡ false = sym less ∙ e in let bad : ⊥ = cc in bad)
    ] in
    (l, enough, sym same, made)

by_loaded : (frames : ℕ) (programs : List ProgramFile) (r : Result Loaded ExecError) (file : List ℕ) (texts : List (List ℕ)) → loaded file texts ≡ r
    → (w : World) → first_loaded frames programs (within_frames frames r) ≡ Ok w → IsFirst frames programs w
by_loaded frames programs (Err e) file texts made w h = let no : ⊥ = cc in absurd no
by_loaded frames programs (Ok l) file texts made w h = by_frames frames programs l (file, texts, made) w (nat_lt frames (price l.image + 1)) refl h

by_init : (frames : ℕ) (programs : List ProgramFile) (o : Option ProgramFile) (w : World) → first_init frames programs o ≡ Ok w → IsFirst frames programs w
by_init frames programs None w h = let no : ⊥ = cc in absurd no
by_init frames programs (Some program) w h = by_loaded frames programs (loaded program.bytes (init_name ∷ [])) program.bytes (init_name ∷ []) refl w h

by_refusal : (frames : ℕ) (programs : List ProgramFile) (o : Option BootError) (w : World) → unless_refused o (first_init frames programs (init_of programs)) ≡ Ok w → IsFirst frames programs w
by_refusal frames programs (Some e) w h = let no : ⊥ = cc in absurd no
by_refusal frames programs None w h = by_init frames programs (init_of programs) w h

by_trace : (frames : ℕ) (programs : List ProgramFile) (w : World) (b : Bool)
    → cond b (Err BadConfig) (unless_refused (refusal frames programs) (first_init frames programs (init_of programs))) ≡ Ok w → IsFirst frames programs w
by_trace frames programs w true h = let no : ⊥ = cc in absurd no
by_trace frames programs w false h = by_refusal frames programs (refusal frames programs) w h

is_first : (frames trace : ℕ) (programs : List ProgramFile) (w : World) → first frames trace programs ≡ Ok w → IsFirst frames programs w
unfolding first
is_first frames trace programs w h = by_trace frames programs w (nat_lt TRACE_MAX trace) h

pub first_well : FirstWell
first_well frames trace programs w h = let f = is_first frames trace programs w h in subst (λ (v : World). WellFormed frames v.state) (sym f.2) (state_well frames programs f.0 f.1)

-- ---- nobody sleeps, and process 1 has the only slot

pub nobody_sleeps : (frames trace : ℕ) (programs : List ProgramFile) (w : World) → first frames trace programs ≡ Ok w → (p : ℕ) → Sleeps w.turns p → ⊥
nobody_sleeps frames trace programs w h p asleep =
    let f = is_first frames trace programs w h in
    let no : true ≡ false = sym asleep ∙ ap (λ (v : World). contains v.turns.sleepers p) f.2 ∙ contains-empty nat_cmp p in
    let bad : ⊥ = cc in bad

first_slot : (q slot : ℕ) → HasSlot first_turns q slot → (q ≡ 1) × (slot ≡ 0)
first_slot q slot h = elim (eqb_tells q 1) [
  | inl e ↦ (e.1, same_Some slot 0 (sym h ∙ get_at empty 1 0 q ∙ ap (λ (b : Bool). cond b (Some 0) (get (empty {X = ℕ} {R = nat_cmp}) q)) e.0))
  | inr e ↦ absurd (nothing_open q slot (sym (get_at empty 1 0 q ∙ ap (λ (b : Bool). cond b (Some 0) (get (empty {X = ℕ} {R = nat_cmp}) q)) e.0) ∙ h))
]

slots_here : (frames : ℕ) (programs : List ProgramFile) (l : Loaded) → price l.image + 1 ≤ frames → HasSlots (first_state frames programs l) first_turns
slots_here frames programs l enough = record {
  some = λ q there. ap is_some (ap (get first_turns.slots) (only frames programs l enough q there) ∙ get_same empty 1 0);
  only = λ q slot h. ap is_some (ap (get (first_state frames programs l).processes) (first_slot q slot h).0 ∙ here frames programs l enough);
  below = λ q slot h. let e : slot ≡ 0 = (first_slot q slot h).1 in omega arith;
  last = omega arith;
  current = λ q is. let no : ⊥ = cc in absurd no;
  apart = λ q r slot a b. (first_slot q slot a).0 ∙ sym (first_slot r slot b).0;
}

pub first_slots : FirstSlots
first_slots frames trace programs w h = let f = is_first frames trace programs w h in subst (λ (v : World). HasSlots v.state v.turns) (sym f.2) (slots_here frames programs f.0 f.1)

-- ---- and is in no call

idle_here : (frames : ℕ) (programs : List ProgramFile) (l : Loaded) → price l.image + 1 ≤ frames → (p : ℕ) (v : View) → view (first_state frames programs l) p ≡ Some v → v.call ≡ None
unfolding view_of
idle_here frames programs l enough p v see = by (nat_eq p 1)
    (sym (ap (λ (o : Option Process). option_map (view_of (s frames programs l enough) p) (live_part o)) (at frames programs l enough p)) ∙ see)
  where
    by : (b : Bool) → option_map (view_of (s frames programs l enough) p) (live_part (cond b (Some (Alive (first_live frames programs l enough))) None)) ≡ Some v → v.call ≡ None
    by true e = sym (ap (λ (x : View). x.call) (same_Some (view_of (s frames programs l enough) p (first_live frames programs l enough)) v e))
    by false e = let no : ⊥ = cc in absurd no

pub first_idle : (frames trace : ℕ) (programs : List ProgramFile) (w : World) → first frames trace programs ≡ Ok w → (p : ℕ) (v : View) → view w.state p ≡ Some v → v.call ≡ None
first_idle frames trace programs w h p v see =
    let f = is_first frames trace programs w h in
    idle_here frames programs f.0 f.1 p v (sym (ap (λ (x : World). view x.state p) f.2) ∙ see)

-- ---- and has the image of a program that was loaded

image_here : (frames : ℕ) (programs : List ProgramFile) (l : Loaded) → price l.image + 1 ≤ frames → (p : ℕ) (v : View) → view (first_state frames programs l) p ≡ Some v → v.image ≡ l.image
unfolding view_of
image_here frames programs l enough p v see = by (nat_eq p 1)
    (sym (ap (λ (o : Option Process). option_map (view_of (s frames programs l enough) p) (live_part o)) (at frames programs l enough p)) ∙ see)
  where
    by : (b : Bool) → option_map (view_of (s frames programs l enough) p) (live_part (cond b (Some (Alive (first_live frames programs l enough))) None)) ≡ Some v → v.image ≡ l.image
    by true e = sym (ap (λ (x : View). x.image) (same_Some (view_of (s frames programs l enough) p (first_live frames programs l enough)) v e))
    by false e = let no : ⊥ = cc in absurd no

pub first_image : (frames trace : ℕ) (programs : List ProgramFile) (w : World) → first frames trace programs ≡ Ok w → (p : ℕ) (v : View)
    → view w.state p ≡ Some v → (l : Loaded) × (file : List ℕ) × (texts : List (List ℕ)) × (loaded file texts ≡ Ok l) × (v.image ≡ l.image)
first_image frames trace programs w h p v see =
    let f = is_first frames trace programs w h in
    (f.0, f.3.0, f.3.1, f.3.2, image_here frames programs f.0 f.1 p v (sym (ap (λ (x : World). view x.state p) f.2) ∙ see))

-- ---- and is the only one

alone_here : (frames : ℕ) (programs : List ProgramFile) (l : Loaded) → price l.image + 1 ≤ frames → (p : ℕ) (v : View) → view (first_state frames programs l) p ≡ Some v → p ≡ 1
alone_here frames programs l enough p v see = only frames programs l enough p (by (get (first_state frames programs l).processes p) refl see)
  where
    by : (o : Option Process) → get (first_state frames programs l).processes p ≡ o
        → option_map (view_of (first_state frames programs l) p) (live_part o) ≡ Some v → IsSome (get (first_state frames programs l).processes p)
    by None is e = let no : ⊥ = cc in absurd no
    by (Some x) is e = ap is_some is

pub first_alone : (frames trace : ℕ) (programs : List ProgramFile) (w : World) → first frames trace programs ≡ Ok w → (p : ℕ) (v : View) → view w.state p ≡ Some v → p ≡ 1
first_alone frames trace programs w h p v see =
    let f = is_first frames trace programs w h in
    alone_here frames programs f.0 f.1 p v (sym (ap (λ (x : World). view x.state p) f.2) ∙ see)

-- and the programs are those that it was booted with
pub has_its_programs : (frames trace : ℕ) (programs : List ProgramFile) (w : World) → first frames trace programs ≡ Ok w → w.state.programs ≡ programs
has_its_programs frames trace programs w h = let f = is_first frames trace programs w h in ap (λ (v : World). v.state.programs) f.2
