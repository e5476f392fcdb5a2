-- Worked cases of processes that have nothing in common, and of what is left between them.
use Rattle.std.proofs.Common.{[], ℕ, ◌∙◌, ◌∷◌, ◌≡◌, ◌≢◌, ◌||◌, ap, false, inl, inr, None, Option, refl, Some, sym, true, subst}
use Rattle.std.proofs.lemmas.Option.{same_Some}
use Rattle.std.specs.FinMap.{get}
use Rattle.std.specs.Prelude.{is_some, IsSome, MatchOption, pos}
use Rattle.console_core.specs.Lists.{Console}
use Rattle.pipe_core.specs.Pipe.{Pipe}
use Rattle.rv64i_core.specs.Registers.{Registers}
use Rattle.xk_base.specs.Image.{Image}
use Rattle.file_table.specs.declared.open_file.End.{End}
use Rattle.proc_table.specs.declared.process.Call.{Call}
unfoldable use Rattle.kernel_spec.specs.waking.Ready.{ready}
use Rattle.kernel_spec.specs.views.WellFormed.{AreShown}
use Rattle.kernel_spec.specs.waking.Turns.{Sleeps}
use Rattle.kernel_spec.specs.waking.Wakes.{NoReadySleeper, Promised}
use Rattle.kernel_spec.specs.others.Quiet.{file_at, is_same, pipe_at, seen_children, seen_shown}
use Rattle.kernel_spec.specs.runs.Moments.{IsStepOf, Moment}
use Rattle.kernel_spec.specs.runs.Run.{FilesAfter, Happens, Outcome, Run, Tick, Ticked, World}
use Rattle.kernel_spec.specs.steps.Own.{Answer, Exited, gone_with, Own, Stepped}
use Rattle.kernel_spec.specs.steps.Step.{own}
use Rattle.kernel_spec.specs.views.Processes.{Alive, Child, Live, Running, Status, Zombie}
use Rattle.kernel_spec.specs.views.State.{State}
use Rattle.kernel_spec.specs.views.View.{Descriptor, Descriptors, child_of, Shown_file, Shown_pipe, View, view}
use Rattle.kernel_spec.specs.views.Words.{is_this}
use Rattle.kernel_spec.proofs.Common.{none_is_same}
use Rattle.xv_claims.specs.ApartLaws.{ApartLasts, ApartWorlds, OnlyTicksWake}
use Rattle.xv_claims.specs.Apart.{AreApart, Channels, channels, channels_left, IsCutApart, IsOfApart, SameButChannels, Spares, with_channels}

-- ---- the channels

-- a view with other channels has these, and else what it had
module _ (c : Channels) (v : View) where
  these : channels (with_channels c v) ≡ c
  these = refl

  else_as_before : let w = with_channels c v in
      (w.pid ≡ v.pid) × (w.regs ≡ v.regs) × (w.image ≡ v.image) × (w.call ≡ v.call) × (w.killed ≡ v.killed) × (w.descriptors ≡ v.descriptors) × (w.children ≡ v.children) × (w.programs ≡ v.programs)
  else_as_before = (refl, refl, refl, refl, refl, refl, refl, refl)

-- a step leaves the clock, and the rest as `own` says
left_so : (v : View) (o : Own) → channels_left (record v { clock = 7 }) (record o { left = record o.left { pids = 1 ∷ 4 ∷ []; next_pid = 5; free = 9 } })
    ≡ record { console = o.left.console; clock = 7; pids = 1 ∷ 4 ∷ []; next_pid = 5; free = 9 }
left_so v o = refl

module _ (v : View) where
  -- the channels may differ, and nothing else
  they_differ : (console : Console) → SameButChannels (record v { console = console; clock = 1; pids = []; next_pid = 2; free = 3 }) v
  they_differ console = refl

  no_other_pid : SameButChannels (record v { pid = 2 }) (record v { pid = 3 }) → ⊥
  no_other_pid h = let same : ◌≡◌ {A = ℕ} 2 3 = ap (λ (x : View). x.pid) h in let no : ⊥ = cc in no

  no_other_regs : (a b : Registers) → a ≢ b → SameButChannels (record v { regs = a }) (record v { regs = b }) → ⊥
  no_other_regs a b apart h = apart (ap (λ (x : View). x.regs) h)

  no_other_image : (a b : Image) → a ≢ b → SameButChannels (record v { image = a }) (record v { image = b }) → ⊥
  no_other_image a b apart h = apart (ap (λ (x : View). x.image) h)

  no_other_mark : SameButChannels (record v { killed = true }) (record v { killed = false }) → ⊥
  no_other_mark h = let same : true ≡ false = ap (λ (x : View). x.killed) h in let no : ⊥ = cc in no

  no_other_table : (a b : Descriptors) → a ≢ b → SameButChannels (record v { descriptors = a }) (record v { descriptors = b }) → ⊥
  no_other_table a b apart h = apart (ap (λ (x : View). x.descriptors) h)

  no_other_children : (a b : ℕ → Option Child) → a ≢ b → SameButChannels (record v { children = a }) (record v { children = b }) → ⊥
  no_other_children a b apart h = apart (ap (λ (x : View). x.children) h)

-- ---- apart

module _ (s : State) where
  no_common_file : AreApart s 1 2 → file_at s 2 3 ≡ Some 5 → file_at s 1 0 ≡ Some 5 → ⊥
  no_common_file apart a b = let no : false ≡ true = sym (apart.files 3 0) ∙ (λ i. is_same (a i) (b i)) in let bad : ⊥ = cc in bad

  no_common_pipe : AreApart s 1 2 → pipe_at s 2 3 ≡ Some 5 → pipe_at s 1 0 ≡ Some 5 → ⊥
  no_common_pipe apart a b = let no : false ≡ true = sym (apart.pipes 3 0) ∙ (λ i. is_same (a i) (b i)) in let bad : ⊥ = cc in bad

  -- two processes of which one names nothing are apart
  names_nothing : ((d : ℕ) → file_at s 1 d ≡ None) → ((d : ℕ) → pipe_at s 1 d ≡ None) → AreApart s 1 2
  names_nothing files pipes = record {
    files = λ d e. ap (is_same (file_at s 2 d)) (files e) ∙ none_is_same (file_at s 2 d);
    pipes = λ d e. ap (is_same (pipe_at s 2 d)) (pipes e) ∙ none_is_same (pipe_at s 2 d);
  }

module _ (s : State) (o : Own) where
  no_mark : Spares s 5 o 3 → o.marked ≡ Some 3 → ⊥
  no_mark spares is = spares.unmarked is

  -- who ends isn't a child of the other, live or not, and the other isn't process 1
  not_its_child : (l : Live) → Spares s 5 o 3 → o.answer ≡ Exited (pos 0) → get s.processes 5 ≡ Some (Alive (record l { parent = Some 3 })) → ⊥
  not_its_child l spares ends is =
      let none : child_of 3 (get s.processes 5) ≡ None = (spares.ends (ap (λ (a : Answer). is_some (gone_with a)) ends)).0 in
      let no : Some Running ≡ None = sym (ap (child_of 3) is) ∙ none in let bad : ⊥ = cc in bad

  no_orphans : Spares s 5 o 1 → o.answer ≡ Exited (pos 0) → ⊥
  no_orphans spares ends = (spares.ends (ap (λ (a : Answer). is_some (gone_with a)) ends)).1 refl

  -- another's mark is no matter, nor is a child of the other's, or process 1, if nobody ends
  spared : o.marked ≡ Some 4 → o.answer ≡ Stepped → Spares s 5 o 1
  spared is steps = record {
    unmarked = λ e. (let both : ◌≡◌ {A = ℕ} 4 1 = same_Some 4 1 (sym is ∙ e) in let no : ⊥ = cc in no);
    ends = λ gone. (let no : false ≡ true = sym (ap (λ (a : Answer). is_some (gone_with a)) steps) ∙ gone in let bad : ⊥ = cc in absurd bad);
  }

  -- and an end is none, if it is of no child of the other's, and the other isn't process 1
  ends_apart : o.marked ≡ None → get s.processes 5 ≡ Some (Zombie (Some 4) (pos 0)) → Spares s 5 o 3
  ends_apart none is = record {
    unmarked = λ e. (let both : ◌≡◌ {A = Option ℕ} None (Some 3) = sym none ∙ e in let no : ⊥ = cc in no);
    ends = λ gone. (ap (child_of 3) is, λ e. (let no : ⊥ = cc in no));
  }

-- ---- if a premise is left out, the other sees more than the channels

-- the pipe that both are on, as the step left it, and the offset of an open file that both name
pipe_told : (d : Descriptor) (e f : End) (x y : Pipe) → seen_shown None (Some (record d { shown = Shown_pipe 4 f y })) (Shown_pipe 0 e x) ≡ Shown_pipe 0 e y
pipe_told d e f x y = refl

offset_told : (d : Descriptor) → seen_shown (Some (record d { shown = Shown_file 2 90 })) None (Shown_file 2 10) ≡ Shown_file 2 90
offset_told d = refl

-- its child's end; and if it is process 1, the children of who ended
end_told : (v w : View) → v.pid ≡ 5 → w.pid ≡ 2 → w.children 5 ≡ Some Running → seen_children (Some (pos 3)) v w 5 ≡ Some (Status (pos 3))
end_told v w pid own_pid child = rw (pid, own_pid, child) refl

orphans_told : (v w : View) → v.pid ≡ 5 → w.pid ≡ 1 → w.children 6 ≡ None → v.children 6 ≡ Some Running → seen_children (Some (pos 3)) v w 6 ≡ Some Running
orphans_told v w pid own_pid none child = rw (pid, own_pid, none, child) refl

-- and its mark
mark_told : (false || is_this 2 (Some 2)) ≡ true
mark_told = refl

-- ---- events of who is apart from process 2

module _ (w : World) where
  by_a_tick : IsOfApart 2 w Tick
  by_a_tick = (λ is. (let no : ⊥ = no_run is.0 in no), λ q v is. absurd (no_run is.0))
    where
      no_run : Tick ≡ Run → ⊥
      no_run e = cc

  not_its_own : IsStepOf 2 w Run → IsOfApart 2 w Run → ⊥
  not_its_own is apart = apart.0 is

  -- a step of process 3, which is on a pipe of 2's, is none
  not_on_its_pipe : (v : View) → IsStepOf 3 w Run → view w.state 3 ≡ Some v → pipe_at w.state 2 0 ≡ Some 5 → pipe_at w.state 3 1 ≡ Some 5 → IsOfApart 2 w Run → ⊥
  not_on_its_pipe v is see a b apart = let no : false ≡ true = sym ((apart.1 3 v is see).0.pipes 0 1) ∙ (λ i. is_same (a i) (b i)) in let bad : ⊥ = cc in bad

  -- nor one that marks it
  no_kill : (v : View) → IsStepOf 3 w Run → view w.state 3 ≡ Some v → (own v).marked ≡ Some 2 → IsOfApart 2 w Run → ⊥
  no_kill v is see marks apart = (apart.1 3 v is see).1.unmarked marks

-- a run that is cut
module _ (w t : World) where
  no_moment : Happens w Tick Ticked t → IsCutApart 2 w ((Tick, Ticked) ∷ []) t []
  no_moment tick = (t, tick, inl (by_a_tick w, (refl, refl)))

  one_moment : (v n : View) (o : Outcome) → Happens w Run o t → IsStepOf 2 w Run → view w.state 2 ≡ Some v → view t.state 2 ≡ Some n
      → IsCutApart 2 w ((Run, o) ∷ []) t (record { before = v; outcome = o; after = Some n } ∷ [])
  one_moment v n o step is before after = (t, step, inr (record { before = v; outcome = o; after = Some n }, [], refl, (is, before, refl, after), inl refl, (refl, refl)))

  -- no step of its own is passed over, and there is no moment without one
  not_passed_over : (o : Outcome) → IsStepOf 2 w Run → IsCutApart 2 w ((Run, o) ∷ []) t [] → ⊥
  not_passed_over o is cut = elim cut.2 [
    | inl apart ↦ apart.0.0 is
    | inr moment ↦ (let none : [] ≡ moment.0 ∷ moment.1 = moment.2 in let no : ⊥ = cc in no)
  ]

  not_made_up : (m : Moment) → IsCutApart 2 w [] t (m ∷ []) → ⊥
  not_made_up m cut = let none : m ∷ [] ≡ [] = cut.1 in let no : ⊥ = cc in no

-- ---- two worlds that show process 2 the same but for the channels: if these are the same too as it makes a step, it has one answer

module _ (law : ApartWorlds) (v w x y : World) (a b n m : View) (o q : Outcome) (see_v : view v.state 2 ≡ Some a) (see_w : view w.state 2 ≡ Some b) (alike : SameButChannels a b)
    (step_v : Happens v Run o x) (step_w : Happens w Run q y) (his_v : IsStepOf 2 v Run) (his_w : IsStepOf 2 w Run) (after_v : view x.state 2 ≡ Some n) (after_w : view y.state 2 ≡ Some m) where
  one_answer : channels a ≡ channels b → (o ≡ q) × (Some n ≡ Some m)
  one_answer same =
      let moments = law 2 v w x y ((Run, o) ∷ []) ((Run, q) ∷ [])
      (record { before = a; outcome = o; after = Some n } ∷ []) (record { before = b; outcome = q; after = Some m } ∷ []) a b see_v see_w alike
      (one_moment v x a n o step_v his_v see_v after_v) (one_moment w y b m q step_w his_w see_w after_w) (same, tt) in
      (ap (λ (z : Moment). z.outcome) moments.0, ap (λ (z : Moment). z.after) moments.0)

-- ---- who sleeps for ticks

-- a mark makes it ready, and so it has to be asked for
marked_is_ready : (x : View) → ready (record x { killed = true }) ≡ true
unfolding ready
marked_is_ready x = refl

-- process 2, which sleeps for 5 ticks, sleeps on after a step of process 3
sleeps_on : OnlyTicksWake → (w t : World) (o : Outcome) (v u : View) (c : Call) → Promised w Run o t → IsStepOf 3 w Run → view w.state 3 ≡ Some v → view w.state 2 ≡ Some u
    → NoReadySleeper w → Sleeps w.turns 2
    → u.call ≡ Some (record c { number = pos 13; a0 = 5 }) → (own v).marked ≡ None → Sleeps t.turns 2
sleeps_on law w t o v u c promised his see_v see_u none asleep call marks =
    law w t 3 2 o v u promised his (λ e. (let no : ⊥ = cc in no)) see_v see_u none asleep (record c { number = pos 13; a0 = 5 }, call, refl)
    (λ e. (let both : ◌≡◌ {A = Option ℕ} None (Some 2) = sym marks ∙ e in let no : ⊥ = cc in no))

-- ---- who is apart stays so

-- over two events, between which both live
still_apart : ApartLasts → (w m t : World) (o q : Outcome) → Promised w Tick o m → Promised m Run q t → AreShown w.state → IsSome (view w.state 2) → IsSome (view w.state 3)
    → IsSome (view m.state 2) → IsSome (view m.state 3) → AreApart w.state 2 3 → AreApart t.state 2 3
still_apart law w m t o q tick run shown two three two_on three_on apart =
    law m t 2 3 Run q run (tick.3 shown) other two_on three_on (law w m 2 3 Tick o tick shown other two three apart)
  where
    other : ◌≢◌ {A = ℕ} 2 3
    other e = cc

-- but not from who is born by the event, and so both have to live before: it is on its parent's open files
newborn_shares : (s t : State) (o : Own) (c : View) → FilesAfter s 2 o t → o.child ≡ Some c → file_at s 2 0 ≡ Some 5 → file_at t 2 0 ≡ Some 5 → AreApart t 2 c.pid → ⊥
newborn_shares s t o c after made before now apart =
    let its : file_at t c.pid 0 ≡ file_at s 2 0 = subst (λ (x : Option View). MatchOption x (Unit {0}) (λ c. (d : ℕ) → file_at t c.pid d ≡ file_at s 2 d)) made after.newborn 0 in
    let no : false ≡ true = sym (apart.files 0 0) ∙ (λ i. is_same ((its ∙ before) i) (now i)) in
    let bad : ⊥ = cc in bad
