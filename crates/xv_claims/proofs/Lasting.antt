-- Who has nothing in common has nothing in common after any event.
use Rattle.std.proofs.Common.{ℕ, ◌∙◌, ◌≡◌, ◌≢◌, ap, Bool, false, inl, inr, None, Option, refl, Some, subst, sym, true}
use Rattle.std.proofs.lemmas.Bool.{cases_eq}
use Rattle.std.proofs.lemmas.Option.{same_Some}
use Rattle.std.specs.Prelude.{ℤ, is_some}
use Rattle.kernel_spec.specs.others.Quiet.{file_at, is_same, pipe_at}
use Rattle.kernel_spec.specs.runs.Moments.{IsStepOf}
use Rattle.kernel_spec.specs.runs.Run.{Event, Happens, Halted, Idle, IsNewTo, Key, KeyHappens, Outcome, Run, RunHappens}
use Rattle.kernel_spec.specs.runs.Run.{Send, Sent, StaysOn, Step_of, StepOf, Tick, Ticked, TickHappens, Turn, TurnTaken, Typed}
use Rattle.kernel_spec.specs.runs.Run.{FilesAfter, World}
use Rattle.kernel_spec.specs.steps.Step.{own}
use Rattle.kernel_spec.specs.views.Shared.{bare}
use Rattle.kernel_spec.specs.views.State.{live, State}
use Rattle.kernel_spec.specs.views.View.{Descriptor, file_name, pipe_name, Shown, Shown_file, Shown_pipe, Shown_terminal, View, view}
use Rattle.kernel_spec.specs.views.WellFormed.{AreShown}
use Rattle.kernel_spec.proofs.Common.{the_value}
use Rattle.kernel_spec.proofs.runs.Sharing.{both_some, same_some, some_same}
use Rattle.kernel_spec.proofs.runs.Shown.{file_within, pipe_within, shown_at}
use Rattle.kernel_spec.proofs.steps.OthersKeepTheRest.{others_keep, pid_is}
use Rattle.xv_claims.specs.Apart.{AreApart}
use Rattle.xv_claims.specs.ApartLaws.{ApartLasts}

-- ---- a descriptor in use, of who made no step, was in use

bare_name : (o : Option Descriptor) → file_name (bare o) ≡ file_name o
bare_name None = refl
bare_name (Some d) = refl

bare_pipe : (o : Option Descriptor) → pipe_name (bare o) ≡ pipe_name o
bare_pipe None = refl
bare_pipe (Some d) = by d.file d.read d.write d.shown
  where
    by : (file : ℕ) (r w : Bool) (x : Shown) → pipe_name (bare (Some (record { file = file; read = r; write = w; shown = x })))
        ≡ pipe_name (Some (record { file = file; read = r; write = w; shown = x }))
    by file r w Shown_terminal = refl
    by file r w (Shown_file program offset) = refl
    by file r w (Shown_pipe name end pipe) = refl

file_used : (s : State) → AreShown s → (q d : ℕ) → is_some (file_at s q d) ≡ is_some (file_name (shown_at (view s q) d))
file_used s shown q d = sym (some_same (file_at s q d)) ∙ sym (file_within s shown q d d) ∙ some_same (file_name (shown_at (view s q) d))

pipe_used : (s : State) → AreShown s → (q d : ℕ) → is_some (pipe_at s q d) ≡ is_some (pipe_name (shown_at (view s q) d))
pipe_used s shown q d = sym (some_same (pipe_at s q d)) ∙ sym (pipe_within s shown q d d) ∙ some_same (pipe_name (shown_at (view s q) d))

module _ (w t : World) (e : Event) (o : Outcome) (h : Happens w e o t) (before : AreShown w.state) (after : AreShown t.state) (q : ℕ) (v : View)
    (see : view w.state q ≡ Some v) (no_step : ¬ IsStepOf q w e) where
  file_was : (d : ℕ) → is_some (file_at t.state q d) ≡ is_some (file_at w.state q d)
  file_was d =
      let k = others_keep q v w t e o h no_step see in
      file_used t.state after q d ∙ ap (λ (x : Option View). is_some (file_name (shown_at x d))) k.1 ∙ sym (ap is_some (bare_name (k.0.descriptors d)))
      ∙ ap (λ (x : Option Descriptor). is_some (file_name x)) (k.3 d)
      ∙ ap is_some (bare_name (v.descriptors d)) ∙ sym (ap (λ (x : Option View). is_some (file_name (shown_at x d))) see) ∙ sym (file_used w.state before q d)

  pipe_was : (d : ℕ) → is_some (pipe_at t.state q d) ≡ is_some (pipe_at w.state q d)
  pipe_was d =
      let k = others_keep q v w t e o h no_step see in
      pipe_used t.state after q d ∙ ap (λ (x : Option View). is_some (pipe_name (shown_at x d))) k.1 ∙ sym (ap is_some (bare_pipe (k.0.descriptors d)))
      ∙ ap (λ (x : Option Descriptor). is_some (pipe_name x)) (k.3 d)
      ∙ ap is_some (bare_pipe (v.descriptors d)) ∙ sym (ap (λ (x : Option View). is_some (pipe_name (shown_at x d))) see) ∙ sym (pipe_used w.state before q d)

-- ---- a step of r

module _ (F : State → (p d : ℕ) → Option ℕ) (s t : State) (r a b : ℕ) (stay : StaysOn F s t) (new : IsNewTo r F s t) (apart : a ≢ b)
    (used_a : a ≢ r → (d : ℕ) → is_some (F t a d) ≡ is_some (F s a d)) (used_b : b ≢ r → (d : ℕ) → is_some (F t b d) ≡ is_some (F s b d))
    (before : (d e : ℕ) → is_same (F s a d) (F s b e) ≡ false) where
  old : (q d f : ℕ) → is_some (F t q d) ≡ is_some (F s q d) → F t q d ≡ Some f → F s q d ≡ Some f
  old q d f used is = let x = the_value (F s q d) (sym used ∙ ap is_some is) in x.1 ∙ ap Some (stay q d x.0 f x.1 is)

  clash : (d e f : ℕ) → F s a d ≡ Some f → F s b e ≡ Some f → ⊥
  clash d e f x y = let no : false ≡ true = sym (before d e) ∙ same_some (F s a d) (F s b e) f x y in let bad : ⊥ = cc in bad

  none_met : (d e f : ℕ) → F t a d ≡ Some f → F t b e ≡ Some f → ⊥
  none_met d e f x y = elim (cases_eq a r) [
    | inl is ↦
        let other : b ≢ r = λ h. apart (is ∙ sym h) in
        let was : F s b e ≡ Some f = old b e f (used_b other e) y in
        other (new b d e f (subst (λ (n : ℕ). F t n d ≡ Some f) is x) (λ k h. clash k e f (subst (λ (n : ℕ). F s n k ≡ Some f) (sym is) h) was) y)
    | inr not ↦ elim (cases_eq b r) [
      | inl is ↦
          let was : F s a d ≡ Some f = old a d f (used_a not d) x in
          not (new a e d f (subst (λ (n : ℕ). F t n e ≡ Some f) is y) (λ k h. clash d k f was (subst (λ (n : ℕ). F s n k ≡ Some f) (sym is) h)) x)
      | inr other ↦ clash d e f (old a d f (used_a not d) x) (old b e f (used_b other e) y)
    ]
  ]

  still_apart : (d e : ℕ) → is_same (F t a d) (F t b e) ≡ false
  still_apart d e = by (is_same (F t a d) (F t b e)) refl
    where
      by : (x : Bool) → is_same (F t a d) (F t b e) ≡ x → is_same (F t a d) (F t b e) ≡ false
      by false is = is
      by true is = let both = both_some (F t a d) (F t b e) is in absurd (none_met d e both.0 both.1 both.2)

-- ---- any event

module _ (w t : World) (p q : ℕ) (shown : AreShown w.state) (then_shown : AreShown t.state) (other : p ≢ q)
    (v u : View) (see_p : view w.state p ≡ Some v) (see_q : view w.state q ≡ Some u) (apart : AreApart w.state p q) where
  after_step : (r : ℕ) (o : Outcome) → Happens w Run o t → w.turns.current ≡ Some r → StepOf w r o t → AreApart t.state p q
  after_step r o h runs step =
      let pid : step.before.pid ≡ r = pid_is w.state r (live w.state r) step.before step.was in
      let files : FilesAfter w.state r (own step.before) t.state = subst (λ (n : ℕ). FilesAfter w.state n (own step.before) t.state) pid step.state.files in
      let not_p : p ≢ r → ¬ IsStepOf p w Run = λ n is. n (same_Some p r (sym is.2 ∙ runs)) in
      let not_q : q ≢ r → ¬ IsStepOf q w Run = λ n is. n (same_Some q r (sym is.2 ∙ runs)) in
      record {
        files = still_apart file_at w.state t.state r q p files.same_file files.new_file (λ e. other (sym e))
            (λ n. file_was w t Run o h shown then_shown q u see_q (not_q n)) (λ n. file_was w t Run o h shown then_shown p v see_p (not_p n)) apart.files;
        pipes = still_apart pipe_at w.state t.state r q p files.same_pipe files.new_pipe (λ e. other (sym e))
            (λ n. pipe_was w t Run o h shown then_shown q u see_q (not_q n)) (λ n. pipe_was w t Run o h shown then_shown p v see_p (not_p n)) apart.pipes;
      }

  unchanged : t.state ≡ w.state → AreApart t.state p q
  unchanged e = subst (λ (s : State). AreApart s p q) (sym e) apart

  after_turn : (o : Outcome) → TurnTaken w o t → AreApart t.state p q
  after_turn (Turn r) h = unchanged (ap (λ (x : World). x.state) h.3)
  after_turn Idle h = unchanged (ap (λ (x : World). x.state) h)
  after_turn (Step_of r a) h = absurd h
  after_turn Ticked h = absurd h
  after_turn (Typed echo) h = absurd h
  after_turn (Sent b) h = absurd h
  after_turn Halted h = absurd h

  -- the same descriptors, files and pipes
  by_the_same : (s : State) → t.state ≡ s → AreApart s p q → AreApart t.state p q
  by_the_same s e = subst (λ (x : State). AreApart x p q) (sym e)

  after_run : (o : Outcome) (halted : Option ℤ) (current : Option ℕ) → w.turns.current ≡ current → Happens w Run o t → RunHappens w halted current o t → AreApart t.state p q
  after_run o (Some status) current is h happens = unchanged (ap (λ (x : World). x.state) happens.1)
  after_run o None (Some r) is h happens = after_step r o h is happens
  after_run o None None is h happens = after_turn o happens

  after_tick : (o : Outcome) (halted : Option ℤ) → TickHappens w halted o t → AreApart t.state p q
  after_tick o (Some status) h = unchanged (ap (λ (x : World). x.state) h.1)
  after_tick o None h = by_the_same _ h.1 (record { files = apart.files; pipes = apart.pipes })

  after_key : (o : Outcome) (halted : Option ℤ) (b : ℕ) → KeyHappens w halted b o t → AreApart t.state p q
  after_key o (Some status) b h = unchanged (ap (λ (x : World). x.state) h.1)
  after_key o None b h = by_the_same _ h.1 (record { files = apart.files; pipes = apart.pipes })

  after_event : (e : Event) (o : Outcome) → Happens w e o t → AreApart t.state p q
  after_event Run o h = after_run o w.turns.halted w.turns.current refl h h
  after_event Tick o h = after_tick o w.turns.halted h
  after_event (Key b) o h = after_key o w.turns.halted b h
  after_event Send o h = by_the_same _ h.1 (record { files = apart.files; pipes = apart.pipes })

pub apart_lasts : ApartLasts
apart_lasts w t p q e o promised shown other lives_p lives_q apart =
    let v = the_value (view w.state p) lives_p in
    let u = the_value (view w.state q) lives_q in
    after_event w t p q shown (promised.3 shown) other v.0 u.0 v.1 u.1 apart e o promised.0
