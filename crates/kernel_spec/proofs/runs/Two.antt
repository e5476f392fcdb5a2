-- Two worlds.
use Rattle.kernel_spec.proofs.Prelude.{[], ℕ, ℤ, ◌∙◌, ◌∷◌, ◌≡◌, ◌⊎◌, AllBoth, ap, Event, false, Happens, inl, inr, is_some, IsCut, IsSome, IsStepOf, List, live, MatchOption, Moment, None, Option}
use Rattle.kernel_spec.proofs.Prelude.{Others, Outcome, own, refl, Run, RunHappens, same_Some, SameStep, shared, Some, StateAfter, Step_of, StepOf, subst, sym, true, TwoWorlds, View, view, World}
use Rattle.kernel_spec.proofs.steps.ViewIsSharedAndRest.{rest, same_view}
use Rattle.kernel_spec.proofs.steps.OthersKeepTheRest.{kept_others, pid_is}
use Rattle.kernel_spec.proofs.Common.{same_first, same_rest, the_value}

pub own_step : (p : ℕ) (w t : World) (o : Outcome) (halted : Option ℤ) (current : Option ℕ) → RunHappens w halted current o t → halted ≡ None → current ≡ Some p → StepOf w p o t
own_step p w t o (Some status) current h e f = absurd (let no : ⊥ = cc in no)
own_step p w t o None None h e f = absurd (let no : ⊥ = cc in no)
own_step p w t o None (Some q) h e f = let same : q ≡ p = cc in subst (λ (r : ℕ). StepOf w r o t) same h

-- what a step of p comes to, from the view alone
pub stepped : (p : ℕ) (w t : World) (o : Outcome) (v : View) → Happens w Run o t → IsStepOf p w Run → view w.state p ≡ Some v → (o ≡ Step_of p (own v).answer) × (view t.state p ≡ (own v).next)
stepped p w t o v h is see =
    let step = own_step p w t o w.turns.halted w.turns.current h is.1 is.2 in
    let same : step.before ≡ v = same_Some step.before v (sym step.was ∙ see) in (
      step.answer ∙ ap (λ (u : View). Step_of p (own u).answer) same,
      sym (ap (view t.state) (pid_is w.state p (live w.state p) step.before step.was))
          ∙ step.state.next ∙ ap (λ (u : View). (own u).next) same,
    )

same_moment : (m n : Moment) → m.before ≡ n.before → m.outcome ≡ n.outcome → m.after ≡ n.after → m ≡ n
same_moment m n e f g = λ i. record { before = e i; outcome = f i; after = g i }

-- ---- the first moment of a run that is cut at p's steps

-- other events, p's step, and the run that is left
record First (p : ℕ) (w t : World) (m : Moment) (ms : List Moment) : Type 0 where
  start : World
  end : World
  passed : List (Event × Outcome)
  later : List (Event × Outcome)
  others : Others p w passed start
  see : view start.state p ≡ Some m.before
  is : IsStepOf p start Run
  happens : Happens start Run m.outcome end
  after : view end.state p ≡ m.after
  last : IsSome m.after ⊎ (ms ≡ [])
  cut : IsCut p end later t ms

first_of : (p : ℕ) (w t : World) (es : List (Event × Outcome)) (m : Moment) (ms : List Moment) → IsCut p w es t (m ∷ ms) → First p w t m ms
first_of p w t [] m ms c = let none : m ∷ ms ≡ [] = c.1 in let no : ⊥ = cc in absurd no
first_of p w t (e ∷ es) m ms (mid, h, way) = elim way [
  | inl (apart, cut) ↦
      let f = first_of p mid t es m ms cut in record {
        start = f.start;
        end = f.end;
        passed = e ∷ f.passed;
        later = f.later;
        others = (mid, h, apart, f.others);
        see = f.see;
        is = f.is;
        happens = f.happens;
        after = f.after;
        last = f.last;
        cut = f.cut;
      }
  | inr (n, later, all, moment, last, cut) ↦
      let first : n ≡ m = sym (same_first m n ms later all) in
      let more : later ≡ ms = sym (same_rest m n ms later all) in
      record {
        start = w;
        end = mid;
        passed = [];
        later = es;
        others = refl;
        see = moment.1 ∙ ap (λ (x : Moment). Some x.before) first;
        is = (refl, moment.0.1, moment.0.2);
        happens = subst (λ (o : Outcome). Happens w Run o mid) (sym moment.2 ∙ ap (λ (x : Moment). x.outcome) first) (subst (λ (x : Event). Happens w x e.1 mid) moment.0.0 h);
        after = moment.3 ∙ ap (λ (x : Moment). x.after) first;
        last = subst (λ (x : Moment). IsSome x.after ⊎ (ms ≡ [])) first (subst (λ (x : List Moment). IsSome n.after ⊎ (x ≡ [])) more last);
        cut = subst (λ (x : List Moment). IsCut p mid es t x) more cut;
      }
]

-- ---- the first moments of two runs

module _ (p : ℕ) (v w x y : World) (m n : Moment) (ms ns : List Moment) (c : First p v x m ms) (d : First p w y n ns) where
  -- are the same, if what is shared is
  first_moment : (u : View) → view v.state p ≡ Some u → view w.state p ≡ Some u → shared m.before ≡ shared n.before → m ≡ n
  first_moment u seev seew s =
      let keepv = kept_others p u v c.start c.passed c.others seev in
      let keepw = kept_others p u w d.start d.passed d.others seew in
      let restv : rest m.before ≡ rest u = ap rest (same_Some m.before keepv.after (sym c.see ∙ keepv.is)) ∙ keepv.same in
      let restw : rest n.before ≡ rest u = ap rest (same_Some n.before keepw.after (sym d.see ∙ keepw.is)) ∙ keepw.same in
      let same : m.before ≡ n.before = same_view m.before n.before (restv ∙ sym restw) s in
      let stepv = stepped p c.start c.end m.outcome m.before c.happens c.is c.see in
      let stepw = stepped p d.start d.end n.outcome n.before d.happens d.is d.see in
      same_moment m n same (stepv.0 ∙ ap (λ (x : View). Step_of p (own x).answer) same ∙ sym stepw.0) (sym c.after ∙ stepv.1 ∙ ap (λ (x : View). (own x).next) same ∙ sym stepw.1 ∙ d.after)

  after_moment : m ≡ n → view c.end.state p ≡ view d.end.state p
  after_moment e =
      let stepv = stepped p c.start c.end m.outcome m.before c.happens c.is c.see in
      let stepw = stepped p d.start d.end n.outcome n.before d.happens d.is d.see in
      stepv.1 ∙ ap (λ (x : Moment). (own x.before).next) e ∙ sym stepw.1

two_cuts : (p : ℕ) (v w x y : World) (es fs : List (Event × Outcome)) (ms ns : List Moment) → IsSome (view v.state p) → view v.state p ≡ view w.state p → IsCut p v es x ms → IsCut p w fs y ns
    → AllBoth (λ m n. shared m.before ≡ shared n.before) ms ns → AllBoth (λ m n. m ≡ n) ms ns
two_cuts p v w x y es fs [] ns live same c d s = tt
two_cuts p v w x y es fs (m ∷ ms) [] live same c d s = tt
two_cuts p v w x y es fs (m ∷ ms) (n ∷ ns) live same c d s =
    let there = the_value (view v.state p) live in
    let f = first_of p v x es m ms c in
    let g = first_of p w y fs n ns d in
    let now : m ≡ n = first_moment p v w x y m n ms ns f g there.0 there.1 (sym same ∙ there.1) s.0 in (
      now,
      elim f.last as (λ _. AllBoth (λ m n. m ≡ n) ms ns) [
        | inl lives ↦ two_cuts p f.end g.end x y f.later g.later ms ns (subst (λ (o : Option View). IsSome o) (sym f.after) lives) (after_moment p v w x y m n ms ns f g now) f.cut g.cut s.1
        | inr over ↦ subst (λ (x : List Moment). AllBoth (λ m n. m ≡ n) x ns) (sym over) tt
      ],
    )

pub two_worlds : TwoWorlds
two_worlds p v w ms ns live same c d s = two_cuts p v w c.1 d.1 c.0 d.0 ms ns live same c.2 d.2 s

-- ---- one step in two worlds

module _ (v w t u : World) (a b : View) (same : a ≡ b) (here : StateAfter v.state a (own a) t.state) (there : StateAfter w.state b (own b) u.state) (pid : IsSome (view v.state a.pid)) where
  same_newborn : (c : ℕ) → view v.state c ≡ None → IsSome (view t.state c) → view u.state c ≡ view t.state c
  same_newborn c none lives = elim (here.no_more c lives) [
    | inl own_pid ↦ let no : false ≡ true = sym (ap is_some (ap (view v.state) (sym own_pid) ∙ none)) ∙ pid in let bad : ⊥ = cc in absurd bad
    | inr rest ↦ elim rest [
      | inl before ↦ let no : false ≡ true = sym (ap is_some none) ∙ before in let bad : ⊥ = cc in absurd bad
      | inr born ↦ by (own a).child (own b).child (ap (λ (x : View). (own x).child) same) born here.newborn there.newborn
    ]
  ]
    where
      by : (x y : Option View) → x ≡ y → MatchOption x ⊥ (λ child. c ≡ child.pid)
          → MatchOption x (Unit {0}) (λ child. view t.state child.pid ≡ Some child) → MatchOption y (Unit {0}) (λ child. view u.state child.pid ≡ Some child)
          → view u.state c ≡ view t.state c
      by None y e born seen other = absurd born
      by (Some x) None e born seen other = let no : ⊥ = cc in absurd no
      by (Some x) (Some y) e born seen other =
          let one : x ≡ y = same_Some x y e in
          ap (view u.state) (born ∙ ap (λ (z : View). z.pid) one) ∙ other ∙ ap Some (sym one) ∙ sym seen ∙ ap (view t.state) (sym born)

pub same_step : SameStep
same_step p v w t u o q same isv isw hv hw =
    let a = own_step p v t o v.turns.halted v.turns.current hv isv.1 isv.2 in
    let b = own_step p w u q w.turns.halted w.turns.current hw isw.1 isw.2 in
    let one : a.before ≡ b.before = same_Some a.before b.before (sym a.was ∙ same ∙ b.was) in
    let pid : a.before.pid ≡ p = pid_is v.state p (live v.state p) a.before a.was in (
      a.answer ∙ ap (λ (x : View). Step_of p (own x).answer) one ∙ sym b.answer,
      (stepped p v t o a.before hv isv a.was).1 ∙ ap (λ (x : View). (own x).next) one ∙ sym (stepped p w u q b.before hw isw b.was).1,
      same_newborn v w t u a.before b.before one a.state b.state (ap (λ (k : ℕ). is_some (view v.state k)) pid ∙ ap is_some a.was),
    )
