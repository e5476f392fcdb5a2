-- Worked cases of how a run is cut at a process's steps, and of what a step's answer tells.
use Rattle.kernel_spec.proofs.Prelude.{[], ℕ, ◌+◌, ◌-◌, ◌<◌, ◌>>=◌, ◌>>◌, ◌^◌, ◌or◌, ◌when◌, ◌∙◌, ◌∷◌, ◌≡◌, ap, arith, Blocked, c_int, Call, Called, Contains, Descriptor, Event, Exited, false, fresh}
use Rattle.kernel_spec.proofs.Prelude.{goes_on, Happens, Image, inl, inr, is_some, IsBrokenWrite, IsCut, IsStepOf, Key, kill, List, Moment, negsuc, None, Option, Outcome, own, perform, PIPE_BYTES}
use Rattle.kernel_spec.proofs.Prelude.{pos, put, refl, regs_in_call, row, row_of, Run, same_Some, Shown, Shown_file, Shown_pipe, Shown_terminal, Some, Step_of, Stepped, steps_of, suc, sym, Tick}
use Rattle.kernel_spec.proofs.Prelude.{Ticked, true, Turn, Typed, View, view, waiting_calls, World, Writing, zero}
use Rattle.kernel_spec.proofs.worked.WorkedViews.{call, in_call, ends_of}

-- ---- which outcomes are those of process 2

outcomes_of_2 : steps_of 2 ((Run, Turn 2) ∷ (Run, Step_of 2 Stepped) ∷ (Run, Step_of 3 (Exited (pos 7))) ∷ (Tick, Ticked) ∷
    (Run, Step_of 2 (Blocked (pos 3))) ∷ (Run, Step_of 22 Stepped) ∷ []) ≡ Step_of 2 Stepped ∷ Step_of 2 (Blocked (pos 3)) ∷ []
outcomes_of_2 = refl

-- ---- a tick, a step of process 2, a key

first_of : (m n : Moment) (ms ns : List Moment) → m ∷ ms ≡ n ∷ ns → m ≡ n
first_of m n ms ns e = cc

-- a moment with which process 2 is gone is the last
pub none_behind : (es : List (Event × Outcome)) (w t : World) (m n : Moment) → m.after ≡ None → IsCut 2 w es t (m ∷ n ∷ []) → ⊥
none_behind [] w t m n gone is = let none : m ∷ n ∷ [] ≡ [] = is.1 in let no : ⊥ = cc in no
none_behind (e ∷ es) w t m n gone is = elim is.2 [
  | inl passed ↦ none_behind es is.0 t m n gone passed.1
  | inr own ↦ elim own.4 [
    | inl lives ↦
        let same : m ≡ own.0 = first_of m own.0 (n ∷ []) own.1 own.2 in
        let no : false ≡ true = sym (ap is_some gone) ∙ ap (λ (x : Moment). is_some x.after) same ∙ lives in
        let bad : ⊥ = cc in bad
    | inr over ↦ let none : m ∷ n ∷ [] ≡ own.0 ∷ [] = own.2 ∙ ap (λ (l : List Moment). own.0 ∷ l) over in let no : ⊥ = cc in no
  ]
]

module _ (w a b t : World) (u n : View) (tick : Happens w Tick Ticked a) (runs : IsStepOf 2 a Run) (before : view a.state 2 ≡ Some u)
    (step : Happens a Run (Step_of 2 Stepped) b) (after : view b.state 2 ≡ Some n) (key : Happens b (Key 97) (Typed (97 ∷ [])) t) where
  abbrev moment : Moment
  moment = record { before = u; outcome = Step_of 2 Stepped; after = Some n }

  other_event : (v : World) (e : Event) → (e ≡ Run → ⊥) → ¬ IsStepOf 2 v e
  other_event v e apart is = apart is.0

  cut : IsCut 2 w ((Tick, Ticked) ∷ (Run, Step_of 2 Stepped) ∷ (Key 97, Typed (97 ∷ [])) ∷ []) t (moment ∷ [])
  cut = (
    a,
    tick,
    inl (
      other_event w Tick (λ e. let no : ⊥ = cc in no),
      (
        b,
        step,
        inr (
          moment,
          [],
          refl,
          (runs, before, refl, after),
          inl refl,
          (t, key, inl (other_event b (Key 97) (λ e. let no : ⊥ = cc in no), (refl, refl))),
        ),
      ),
    ),
  )

  -- its moment tells what it saw, and no other outcome
  not_another_outcome : IsCut 2 a ((Run, Step_of 2 Stepped) ∷ []) b (record moment { outcome = Step_of 2 (Exited (pos 0)) } ∷ []) → ⊥
  not_another_outcome is = elim is.2 [
    | inl passed ↦ passed.0 runs
    | inr own ↦
        let same : record moment { outcome = Step_of 2 (Exited (pos 0)) } ≡ own.0 = first_of (record moment { outcome = Step_of 2 (Exited (pos 0)) }) own.0 [] own.1 own.2 in
        let outcome : Step_of 2 (Exited (pos 0)) ≡ Step_of 2 Stepped = ap (λ (m : Moment). m.outcome) same ∙ own.3.2 in
        let no : ⊥ = cc in no
  ]

  not_another_view : (x : View) → (u ≡ x → ⊥) → IsCut 2 a ((Run, Step_of 2 Stepped) ∷ []) b (record moment { before = x } ∷ []) → ⊥
  not_another_view x apart is = elim is.2 [
    | inl passed ↦ passed.0 runs
    | inr own ↦
        let same : record moment { before = x } ≡ own.0 = first_of (record moment { before = x }) own.0 [] own.1 own.2 in
        apart (some_view u x (sym before ∙ own.3.1 ∙ ap (λ (m : Moment). Some m.before) (sym same)))
  ]
    where
      some_view : (a b : View) → Some a ≡ Some b → a ≡ b
      some_view a b e = cc

  -- a step of process 2 isn't passed over
  not_passed_over : IsCut 2 a ((Run, Step_of 2 Stepped) ∷ []) b [] → ⊥
  not_passed_over is = elim is.2 [ inl passed ↦ passed.0 runs | inr own ↦ let none : [] ≡ own.0 ∷ own.1 = own.2 in let no : ⊥ = cc in no ]

  -- nor is there one where nothing happens
  not_made_up : IsCut 2 w [] w (moment ∷ []) → ⊥
  not_made_up is = let none : moment ∷ [] ≡ [] = is.1 in let no : ⊥ = cc in no

  -- and none behind the step with which it is gone
  none_behind_its_end : (es : List (Event × Outcome)) → IsCut 2 w es t (record { before = u; outcome = Step_of 2 (Exited (pos 0)); after = None } ∷ moment ∷ []) → ⊥
  none_behind_its_end es is = none_behind es w t (record { before = u; outcome = Step_of 2 (Exited (pos 0)); after = None }) moment refl is

-- ---- a call that is refused changes a0, and the pc where it is begun

module _ (image : Image) where
  -- an ECALL at 40 asks for the call, or it is in progress
  regs_begun : regs_in_call (record (in_call image (call 6 99 0 0)) { regs = fresh 40; call = None }) None ≡ fresh 44
  unfolding in_call
  regs_begun = refl

  regs_going_on : regs_in_call (record (in_call image (call 6 99 0 0)) { regs = fresh 40 }) (Some (call 6 99 0 0)) ≡ fresh 40
  unfolding in_call
  regs_going_on = refl

  -- kill of a pid that is not in use
  kill_refused : own (in_call image (call 6 99 0 0)) ≡ goes_on (Called (pos 6) (negsuc 0)) (record (in_call image (call 6 99 0 0)) { regs = put (fresh 0) 10 (2 ^ 64 - 1); call = None })
  unfolding own in_call perform row row_of kill ◌>>=◌ ◌>>◌ ◌when◌ ◌or◌
  kill_refused = refl

-- ---- the calls that may wait: pipe (4) and sbrk (12) may not

may_wait_13 : Contains waiting_calls (pos 13)
may_wait_13 = (2, omega arith, refl)

never_4 : Contains waiting_calls (pos 4) → ⊥
never_4 (zero, below, is) = let no : ⊥ = cc in no
never_4 (suc zero, below, is) = let no : ⊥ = cc in no
never_4 (suc (suc zero), below, is) = let no : ⊥ = cc in no
never_4 (suc (suc (suc zero)), below, is) = let no : ⊥ = cc in no
never_4 (suc (suc (suc (suc k))), below, is) = let far : suc (suc (suc (suc k))) < 4 = below in omega (arith, far)

never_12 : Contains waiting_calls (pos 12) → ⊥
never_12 (zero, below, is) = let no : ⊥ = cc in no
never_12 (suc zero, below, is) = let no : ⊥ = cc in no
never_12 (suc (suc zero), below, is) = let no : ⊥ = cc in no
never_12 (suc (suc (suc zero)), below, is) = let no : ⊥ = cc in no
never_12 (suc (suc (suc (suc k))), below, is) = let far : suc (suc (suc (suc k))) < 4 = below in omega (arith, far)

-- ---- a write of a byte more than a pipe holds, which has moved all the others: broken where its pipe has no reader any more, and not where it has one; nor is a read

abbrev readers_shown : Shown → ℕ
readers_shown Shown_terminal = 0
readers_shown (Shown_file program offset) = 0
readers_shown (Shown_pipe name end pipe) = pipe.readers

abbrev readers_at : Option Descriptor → ℕ
readers_at None = 0
readers_at (Some d) = readers_shown d.shown

module _ (image : Image) where
  abbrev all_but_one : ℕ → Call
  all_but_one number = record (call number 1 8192 (PIPE_BYTES + 1)) { moved = PIPE_BYTES }

  abbrev with_readers : ℕ → ℕ → View
  with_readers number readers = record (in_call image (all_but_one number)) { descriptors = ends_of (record { bytes = []; readers = readers; writers = 1 }) }

  broken : IsBrokenWrite (with_readers 16 0)
  unfolding in_call
  broken = (
    all_but_one 16,
    1,
    record {
      file = 1;
      read = false;
      write = true;
      shown = Shown_pipe 0 Writing (record { bytes = []; readers = 0; writers = 1 });
    },
    0,
    Writing,
    record { bytes = []; readers = 0; writers = 1 },
    refl,
    refl,
    refl,
    refl,
    refl,
    refl,
  )

  same_number : (a b : ℕ) → pos a ≡ pos b → a ≡ b
  same_number a b e = cc

  not_with_a_reader : IsBrokenWrite (with_readers 16 1) → ⊥
  unfolding in_call
  not_with_a_reader (c, d, x, name, end, pipe, busy, number, at, on, shown, none) =
      let descriptor : 1 ≡ d = same_number 1 d (ap (λ (c : Call). c_int c.a0) (same_Some (all_but_one 16) c busy) ∙ at) in
      let readers : ◌≡◌ {A = ℕ} 1 0 = ap (λ (k : ℕ). readers_at (ends_of (record { bytes = []; readers = 1; writers = 1 }) k)) descriptor ∙ ap readers_at on ∙ ap readers_shown shown ∙ none in
      let no : ⊥ = cc in no

  not_a_read : IsBrokenWrite (with_readers 5 0) → ⊥
  unfolding in_call
  not_a_read (c, d, x, name, end, pipe, busy, number, at, on, shown, none) = let same : pos 5 ≡ pos 16 =
      ap (λ (c : Call). c.number) (same_Some (all_but_one 5) c busy) ∙ number in let no : ⊥ = cc in no
