-- A process that is apart from who makes a step sees only the channels change.
use Rattle.console_core.specs.Keys.{line}
use Rattle.kernel_spec.specs.others.Quiet.{is_same, file_at, pipe_at, seen_table, meets_on_file, meets_on_pipe}
unfoldable use Rattle.kernel_spec.specs.others.Quiet.{seen}
use Rattle.kernel_spec.specs.runs.Moments.{AllBoth, IsStepOf, Moment}
use Rattle.kernel_spec.specs.runs.Run.{Event, Halted, Happens, Idle, Key, KeyHappens, Outcome, Run, RunHappens, Send, Sent, sent, Step_of, StepOf}
use Rattle.kernel_spec.specs.runs.Run.{Tick, Ticked, TickHappens, Turn, TurnTaken, Typed, World}
use Rattle.kernel_spec.specs.steps.Own.{gone_with, Own}
unfoldable use Rattle.kernel_spec.specs.steps.Step.{own}
use Rattle.kernel_spec.specs.views.Processes.{Live}
use Rattle.kernel_spec.specs.views.State.{live, State}
use Rattle.kernel_spec.specs.views.View.{child_of, Descriptor, Shown, Shown_file, Shown_pipe, Shown_terminal, View, view}
unfoldable use Rattle.kernel_spec.specs.views.View.{view_of}
use Rattle.std.proofs.Common.{[], ℕ, ◌∙◌, ◌∷◌, ◌≡◌, ◌≢◌, ◌⊎◌, ap, Bool, cond, false, inl, inr, ◌||◌, List, None, Option, refl, Some, subst, sym, true}
use Rattle.std.proofs.lemmas.Bool.{ne_eqb}
use Rattle.std.proofs.lemmas.Bool.Decides.{eqb_tells}
use Rattle.std.proofs.lemmas.Option.{same_Some}
use Rattle.std.specs.FinMap.{get}
use Rattle.std.specs.Prelude.{ℤ, nat_eq, IsSome, option_map}
unfoldable use Rattle.xk_base.specs.Words.{least_below}
use Rattle.xk_base.specs.declared.limits.TheConstants.{NOFILE}
use Rattle.std.specs.Option.{option_or}
use Rattle.kernel_spec.specs.others.Quiet.{seen_children}
use Rattle.kernel_spec.specs.views.Processes.{Child, Status}
use Rattle.kernel_spec.specs.views.Words.{is_this}
use Rattle.kernel_spec.proofs.Common.{or_false, same_first, same_rest, the_value, this_is_not}
use Rattle.kernel_spec.proofs.runs.Two.{own_step, stepped}
use Rattle.kernel_spec.proofs.steps.LeastPasses.{least_passes}
use Rattle.kernel_spec.proofs.steps.OthersKeepTheRest.{clock_view, console_view, pid_is}
use Rattle.kernel_spec.proofs.steps.SeenByParts.{left_at, same_child, seen_descriptor}
use Rattle.xv_claims.specs.Apart.{AreApart, Channels, channels, channels_left, IsCutApart, IsOfApart, Spares, with_channels}
use Rattle.xv_claims.specs.ApartLaws.{ApartSeesChannels, ApartWorlds}

-- ---- descriptors

none_passes : (n : ℕ) (P : ℕ → Bool) → ((d : ℕ) → P d ≡ false) → least_below P n ≡ None
none_passes n P none = by (least_below P n) refl
  where
    by : (o : Option ℕ) → least_below P n ≡ o → least_below P n ≡ None
    by None is = is
    by (Some k) is = let no : false ≡ true = sym (none k) ∙ (least_passes n P k is).0 in let bad : ⊥ = cc in absurd bad

seen_alone : (d : Option Descriptor) → seen_descriptor None None d ≡ d
seen_alone None = refl
seen_alone (Some d) = by d.file d.read d.write d.shown
  where
    by : (file : ℕ) (r w : Bool) (x : Shown) → seen_descriptor None None (Some (record { file = file; read = r; write = w; shown = x })) ≡ Some (record { file = file; read = r; write = w; shown = x })
    by file r w Shown_terminal = refl
    by file r w (Shown_file program offset) = refl
    by file r w (Shown_pipe name end pipe) = refl

-- ---- children

or_none : (o : Option Child) → option_or o None ≡ o
or_none None = refl
or_none (Some c) = refl

same_children : (gone : Option ℤ) (v w : View) → (IsSome gone → (w.children v.pid ≡ None) × (w.pid ≢ 1)) → (c : ℕ) → seen_children gone v w c ≡ w.children c
same_children None v w ends c = refl
same_children (Some status) v w ends c =
    ap (λ (b : Bool). option_or (cond (nat_eq c v.pid) (same_child (w.children c) (Status status)) (w.children c)) (cond b (v.children c) None)) not_first ∙ elim (eqb_tells c v.pid) [
      | inl here ↦
          let gone : w.children c ≡ None = ap w.children here.1 ∙ (ends refl).0 in
          ap (λ (b : Bool). option_or (cond b (same_child (w.children c) (Status status)) (w.children c)) None) here.0
          ∙ ap (λ (o : Option Child). option_or (same_child o (Status status)) None) gone ∙ sym gone
      | inr there ↦ ap (λ (b : Bool). option_or (cond b (same_child (w.children c) (Status status)) (w.children c)) None) there.0 ∙ or_none (w.children c)
    ]
  where
    not_first : nat_eq w.pid 1 ≡ false
    not_first = ne_eqb w.pid 1 (ends refl).1

-- ---- what is read off a view

a_view : (s : State) (q : ℕ) (o : Option Live) (w : View) → option_map (view_of s q) o ≡ Some w → (l : Live) × (w ≡ view_of s q l)
a_view s q None w e = let no : ⊥ = cc in absurd no
a_view s q (Some l) w e = (l, sym (same_Some (view_of s q l) w e))

-- two live processes see one clock, and a child as the state has it
module _ (s : State) (p q : ℕ) (w : View) (see : view s q ≡ Some w) where
  one_clock : (v : View) → view s p ≡ Some v → w.clock ≡ v.clock
  unfolding view_of
  one_clock v see_p = ap (λ (u : View). u.clock) (a_view s q (live s q) w see).1 ∙ sym (ap (λ (u : View). u.clock) (a_view s p (live s p) v see_p).1)

  no_child : child_of q (get s.processes p) ≡ None → w.children p ≡ None
  unfolding view_of
  no_child none = ap (λ (u : View). u.children p) (a_view s q (live s q) w see).1 ∙ none

-- ---- a step of who is apart

seen_apart : (s : State) (v w : View) (o : Own) → AreApart s v.pid w.pid → o.marked ≢ Some w.pid
    → (IsSome (gone_with o.answer) → (w.children v.pid ≡ None) × (w.pid ≢ 1)) → w.clock ≡ v.clock
    → seen s v o w ≡ with_channels (channels_left v o) w
unfolding seen
seen_apart s v w o apart marks ends clock = λ i. record (with_channels (channels_left v o) w) {
  clock = clock i;
  descriptors = λ d. table d i;
  children = λ c. same_children (gone_with o.answer) v w ends c i;
  killed = unmarked i;
}
  where
    no_file : (d : ℕ) → meets_on_file s v.pid w.pid d ≡ None
    no_file d = none_passes NOFILE (λ e. is_same (file_at s w.pid d) (file_at s v.pid e)) (apart.files d)

    no_pipe : (d : ℕ) → meets_on_pipe s v.pid w.pid d ≡ None
    no_pipe d = none_passes NOFILE (λ e. is_same (pipe_at s w.pid d) (pipe_at s v.pid e)) (apart.pipes d)

    table : (d : ℕ) → seen_table s v.pid w.pid o.left.descriptors w.descriptors d ≡ w.descriptors d
    table d = (λ i. seen_descriptor (left_at o.left.descriptors (no_file d i)) (left_at o.left.descriptors (no_pipe d i)) (w.descriptors d)) ∙ seen_alone (w.descriptors d)

    unmarked : (w.killed || is_this w.pid o.marked) ≡ w.killed
    unmarked = ap (λ (b : Bool). w.killed || b) (this_is_not w.pid o.marked marks) ∙ sym (or_false w.killed)

-- ---- one event

-- p sees the channels change, and nothing else
record SeesChannels (p : ℕ) (v : View) (t : State) : Type 0 where
  now : Channels
  is : view t p ≡ Some (with_channels now v)

unchanged : (p : ℕ) (v : View) (w t : World) → t ≡ w → view w.state p ≡ Some v → SeesChannels p v t.state
unchanged p v w t e is = record { now = channels v; is = ap (λ (u : World). view u.state p) e ∙ is }

step_seen : (w t : World) (r q : ℕ) (o : Outcome) (u : View) (h : StepOf w r o t) → r ≢ q → view w.state q ≡ Some u → AreApart w.state r q → Spares w.state r (own h.before) q
    → view t.state q ≡ Some (with_channels (channels_left h.before (own h.before)) u)
step_seen w t r q o u h other is apart spares =
    let pid_r : h.before.pid ≡ r = pid_is w.state r (live w.state r) h.before h.was in
    let pid_q : u.pid ≡ q = pid_is w.state q (live w.state q) u is in
    let apart_too : AreApart w.state h.before.pid u.pid = subst (λ (n : ℕ). AreApart w.state n u.pid) (sym pid_r) (subst (λ (n : ℕ). AreApart w.state r n) (sym pid_q) apart) in
    let none : child_of q (get w.state.processes r) ≡ None → u.children h.before.pid ≡ None = λ e. ap u.children pid_r ∙ no_child w.state r q u is e in
    let clock : u.clock ≡ h.before.clock = one_clock w.state r q u is h.before h.was in
    let unmarked : (own h.before).marked ≢ Some u.pid = λ e. spares.unmarked (e ∙ ap Some pid_q) in
    let ends : IsSome (gone_with (own h.before).answer) → (u.children h.before.pid ≡ None) × (u.pid ≢ 1) = λ gone. (none (spares.ends gone).0, λ first. (spares.ends gone).1 (sym pid_q ∙ first)) in
    h.state.others q u (λ e. other (sym (e ∙ pid_r))) is ∙ ap Some (seen_apart w.state h.before u (own h.before) apart_too unmarked ends clock)

kept_turn : (p : ℕ) (v : View) (w t : World) (o : Outcome) → TurnTaken w o t → view w.state p ≡ Some v → SeesChannels p v t.state
kept_turn p v w t (Turn q) h is = record { now = channels v; is = ap (λ (u : World). view u.state p) h.3 ∙ is }
kept_turn p v w t Idle h is = unchanged p v w t h is
kept_turn p v w t (Step_of q a) h is = absurd h
kept_turn p v w t Ticked h is = absurd h
kept_turn p v w t (Typed echo) h is = absurd h
kept_turn p v w t (Sent b) h is = absurd h
kept_turn p v w t Halted h is = absurd h

kept_run : (p : ℕ) (v : View) (w t : World) (o : Outcome) (halted : Option ℤ) (current : Option ℕ) → w.turns.halted ≡ halted → w.turns.current ≡ current
    → RunHappens w halted current o t → IsOfApart p w Run → view w.state p ≡ Some v → SeesChannels p v t.state
kept_run p v w t o (Some status) current e f h apart is = unchanged p v w t h.1 is
kept_run p v w t o None (Some r) e f h apart is =
    let other : r ≢ p = λ same. apart.0 (refl, e, f ∙ ap Some same) in
    let both = apart.1 r h.before (refl, e, f) h.was in
    record { now = channels_left h.before (own h.before); is = step_seen w t r p o v h other is both.0 both.1 }
kept_run p v w t o None None e f h apart is = kept_turn p v w t o h is

kept_tick : (p : ℕ) (v : View) (w t : World) (o : Outcome) (halted : Option ℤ) → TickHappens w halted o t → view w.state p ≡ Some v → SeesChannels p v t.state
kept_tick p v w t o (Some status) h is = unchanged p v w t h.1 is
kept_tick p v w t o None h is = record { now = record (channels v) { clock = _ }; is = ap (λ (s : State). view s p) h.1 ∙ clock_view w.state _ p (live w.state p) v is }

kept_key : (p : ℕ) (v : View) (w t : World) (o : Outcome) (halted : Option ℤ) (b : ℕ) → KeyHappens w halted b o t → view w.state p ≡ Some v → SeesChannels p v t.state
kept_key p v w t o (Some status) b h is = unchanged p v w t h.1 is
kept_key p v w t o None b h is = record {
  now = record (channels v) { console = (line w.state.console b).0 };
  is = ap (λ (s : State). view s p) h.1 ∙ console_view w.state ((line w.state.console b).0) p (live w.state p) v is;
}

kept : (p : ℕ) (v : View) (w t : World) (e : Event) (o : Outcome) → Happens w e o t → IsOfApart p w e → view w.state p ≡ Some v → SeesChannels p v t.state
kept p v w t Run o h apart is = kept_run p v w t o w.turns.halted w.turns.current refl refl h apart is
kept p v w t Tick o h apart is = kept_tick p v w t o w.turns.halted h is
kept p v w t (Key b) o h apart is = kept_key p v w t o w.turns.halted b h is
kept p v w t Send o h apart is = record {
  now = record (channels v) { console = sent w.state.console };
  is = ap (λ (s : State). view s p) h.1 ∙ console_view w.state (sent w.state.console) p (live w.state p) v is;
}

-- ---- as a law

pub apart_sees_channels : ApartSeesChannels
apart_sees_channels w t p q o v u h his other see_p see_q apart spares =
    let step = own_step p w t o w.turns.halted w.turns.current h his.1 his.2 in
    let same : step.before ≡ v = same_Some step.before v (sym step.was ∙ see_p) in
    step_seen w t p q o u step other see_q apart (subst (λ (x : View). Spares w.state p (own x) q) (sym same) spares) ∙ ap (λ (x : View). Some (with_channels (channels_left x (own x)) u)) same

-- ---- the first moment of a run that is cut at p's steps

-- other events, p's step, and the run that is left
record First (p : ℕ) (v : View) (t : World) (m : Moment) (ms : List Moment) : Type 0 where
  start : World
  end : World
  later : List (Event × Outcome)
  before : Channels
  sees : m.before ≡ with_channels before v
  see : view start.state p ≡ Some m.before
  is : IsStepOf p start Run
  happens : Happens start Run m.outcome end
  after : view end.state p ≡ m.after
  last : IsSome m.after ⊎ (ms ≡ [])
  cut : IsCutApart p end later t ms

first_of : (p : ℕ) (v : View) (w t : World) (es : List (Event × Outcome)) (m : Moment) (ms : List Moment) (c : Channels)
    → view w.state p ≡ Some (with_channels c v) → IsCutApart p w es t (m ∷ ms) → First p v t m ms
first_of p v w t [] m ms c see cut = let none : m ∷ ms ≡ [] = cut.1 in let no : ⊥ = cc in absurd no
first_of p v w t (e ∷ es) m ms c see (mid, h, way) = elim way [
  | inl (apart, cut) ↦ (let k = kept p (with_channels c v) w mid e.0 e.1 h apart see in first_of p v mid t es m ms k.now k.is cut)
  | inr (n, later, all, moment, last, cut) ↦
      let first : n ≡ m = sym (same_first m n ms later all) in
      let more : later ≡ ms = sym (same_rest m n ms later all) in
      record {
        start = w;
        end = mid;
        later = es;
        before = c;
        sees = ap (λ (x : Moment). x.before) (sym first) ∙ same_Some n.before (with_channels c v) (sym moment.1 ∙ see);
        see = moment.1 ∙ ap (λ (x : Moment). Some x.before) first;
        is = (refl, moment.0.1, moment.0.2);
        happens = subst (λ (o : Outcome). Happens w Run o mid) (sym moment.2 ∙ ap (λ (x : Moment). x.outcome) first)
            (subst (λ (x : Event). Happens w x e.1 mid) moment.0.0 h);
        after = moment.3 ∙ ap (λ (x : Moment). x.after) first;
        last = subst (λ (x : Moment). IsSome x.after ⊎ (ms ≡ [])) first (subst (λ (x : List Moment). IsSome n.after ⊎ (x ≡ [])) more last);
        cut = subst (λ (x : List Moment). IsCutApart p mid es t x) more cut;
      }
]

-- ---- the first moments of two runs

module _ (p : ℕ) (v : View) (x y : World) (m n : Moment) (ms ns : List Moment) (c : First p v x m ms) (d : First p v y n ns) where
  -- are the same, if the channels are
  first_moment : channels m.before ≡ channels n.before → m ≡ n
  first_moment same_channels =
      let befores : c.before ≡ d.before = ap channels (sym c.sees) ∙ same_channels ∙ ap channels d.sees in
      let same : m.before ≡ n.before = c.sees ∙ ap (λ (z : Channels). with_channels z v) befores ∙ sym d.sees in
      let step_c = stepped p c.start c.end m.outcome m.before c.happens c.is c.see in
      let step_d = stepped p d.start d.end n.outcome n.before d.happens d.is d.see in
      let outcomes : m.outcome ≡ n.outcome = step_c.0 ∙ ap (λ (z : View). Step_of p (own z).answer) same ∙ sym step_d.0 in
      let afters : m.after ≡ n.after = sym c.after ∙ step_c.1 ∙ ap (λ (z : View). (own z).next) same ∙ sym step_d.1 ∙ d.after in
      λ i. record { before = same i; outcome = outcomes i; after = afters i }

two_cuts : (p : ℕ) (v w x y : World) (es fs : List (Event × Outcome)) (ms ns : List Moment) (a : View) (c d : Channels)
    → view v.state p ≡ Some (with_channels c a) → view w.state p ≡ Some (with_channels d a)
    → IsCutApart p v es x ms → IsCutApart p w fs y ns → AllBoth (λ m n. channels m.before ≡ channels n.before) ms ns → AllBoth (λ m n. m ≡ n) ms ns
two_cuts p v w x y es fs [] ns a c d see_v see_w cut_v cut_w s = tt
two_cuts p v w x y es fs (m ∷ ms) [] a c d see_v see_w cut_v cut_w s = tt
two_cuts p v w x y es fs (m ∷ ms) (n ∷ ns) a c d see_v see_w cut_v cut_w s =
    let f = first_of p a v x es m ms c see_v cut_v in
    let g = first_of p a w y fs n ns d see_w cut_w in
    let now : m ≡ n = first_moment p a x y m n ms ns f g s.0 in (
      now,
      elim f.last as (λ _. AllBoth (λ m n. m ≡ n) ms ns) [
        | inl lives ↦
            let there = the_value m.after lives in
            let see_w = g.after ∙ ap (λ (z : Moment). z.after) (sym now) ∙ there.1 in
            two_cuts p f.end g.end x y f.later g.later ms ns there.0 (channels there.0) (channels there.0) (f.after ∙ there.1) see_w f.cut g.cut s.1
        | inr over ↦ subst (λ (z : List Moment). AllBoth (λ m n. m ≡ n) z ns) (sym over) tt
      ],
    )

pub apart_worlds : ApartWorlds
apart_worlds p v w x y es fs ms ns a b see_v see_w same cut_v cut_w s =
    two_cuts p v w x y es fs ms ns a (channels a) (channels b) see_v (see_w ∙ ap Some (sym same)) cut_v cut_w s
