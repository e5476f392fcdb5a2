-- Each byte of a process's memory has its source in its own line, over a whole run.
use Rattle.kernel_spec.proofs.Prelude.{[], ℕ, ◌%◌, ◌*◌, ◌+◌, ◌-◌, ◌/◌, ◌<◌, ◌∙◌, ◌∷◌, ◌≡◌, ◌≢◌, ◌⊎◌, ap, arith, byte_in, call_in, EachByteHasItsSource, eqb_tells, Event, false, first, get, Happens}
use Rattle.kernel_spec.proofs.Prelude.{HasByte, HasWholePages, Holds, Image, inl, inr, is_some, IsNewbornOf, IsPut, IsRun, IsStepOf, IsStored, List, live, MatchOption, None, Ok, Option, Outcome, own}
use Rattle.kernel_spec.proofs.Prelude.{Page, Passes, ProgramFile, refl, same_Some, slice_index, Some, Stands, StepOf, stored_by, subst, sym, true, View, view, WasPut, World}
use Rattle.kernel_spec.proofs.steps.OthersKeepTheRest.{kept, pid_is}
use Rattle.kernel_spec.proofs.rows.NewPages.{no_old_byte, no_old_child, stores_these_bytes}
use Rattle.kernel_spec.proofs.rows.OwnBytes.{each_byte_is_of_its_own}
use Rattle.kernel_spec.proofs.rows.WholePages.{exec_or_not, own_whole, loaded_whole}
use Rattle.kernel_spec.proofs.runs.Cuts.{kind, not_his, same_seen}
use Rattle.kernel_spec.proofs.well.FirstWell.{first_image}
use Rattle.kernel_spec.proofs.Common.{the_value}

-- ---- where the memory of a process is from, by one event

-- it is that of r before, which is the process or the one that made it; or the process made a step
abbrev Comes : World → Event → World → ℕ → View → Type 0
Comes w e t q u = (r : ℕ) × (v : View) × (view w.state r ≡ Some v) × (((u.image ≡ v.image) × Passes w e t r q) ⊎ ((q ≡ r) × IsStepOf r w e × ((own v).next ≡ Some u)))

module _ (w t : World) (e : Event) (o : Outcome) (h : Happens w e o t) (q : ℕ) (u : View) (see : view t.state q ≡ Some u) where
  by_other : (v : View) → ¬ IsStepOf q w e → view w.state q ≡ Some v → Comes w e t q u
  by_other v apart was =
      let k = kept q v w t e o h apart was in
      (q, v, was, inl (ap (λ (x : View). x.image) (same_Some u k.after (sym see ∙ k.is)) ∙ ap (λ (x : View). x.image) k.same, inl refl))

  by_itself : (r : ℕ) → IsStepOf r w e → StepOf w r o t → q ≡ r → Comes w e t q u
  by_itself r is step same =
      let pid : step.before.pid ≡ r = pid_is w.state r (live w.state r) step.before step.was in
      (r, step.before, step.was, inr (same, is, sym step.state.next ∙ ap (view t.state) (pid ∙ sym same) ∙ see))

  by_parent : (r : ℕ) → IsStepOf r w e → (step : StepOf w r o t) → view w.state q ≡ None → IsNewbornOf (own step.before) q → Comes w e t q u
  by_parent r is step none born = by (own step.before).child refl born step.state.newborn
    where
      by : (child : Option View) → (own step.before).child ≡ child → MatchOption child ⊥ (λ c. q ≡ c.pid) → MatchOption child (Unit {0}) (λ c. view t.state c.pid ≡ Some c) → Comes w e t q u
      by None made born first = absurd born
      by (Some c) made born first =
          let same : u ≡ c = same_Some u c (sym see ∙ ap (view t.state) born ∙ first) in
          (r, step.before, step.was, inl (ap (λ (x : View). x.image) same ∙ no_old_child w.state r step.before c step.was made, inr (is, none, ap is_some see)))

  by_step : (r : ℕ) → IsStepOf r w e → StepOf w r o t → q ≢ r → (x : Option View) → view w.state q ≡ x → Comes w e t q u
  by_step r is step apart (Some v) was = by_other v (λ its. apart (let same : q ≡ r = same_Some q r (sym its.2 ∙ is.2) in same)) was
  by_step r is step apart None none = elim (step.state.no_more q (ap is_some see)) [
    | inl his ↦ absurd (apart (his ∙ pid_is w.state r (live w.state r) step.before step.was))
    | inr rest ↦ elim rest [
      | inl before ↦ let no : false ≡ true = sym (ap is_some none) ∙ before in let bad : ⊥ = cc in absurd bad
      | inr born ↦ by_parent r is step none born
    ]
  ]

  comes : Comes w e t q u
  comes = elim (kind w t e o h) [
    | inl step ↦ elim (eqb_tells q step.0) [
      | inl same ↦ by_itself step.0 step.1 step.2 same.1
      | inr apart ↦ by_step step.0 step.1 step.2 apart.1 (view w.state q) refl
    ]
    | inr outside ↦
        let was = the_value (view w.state q) (sym (same_seen w t outside.processes q) ∙ ap is_some see) in
        by_other was.0 (not_his q w t e o h (outside.outcome q)) was.1
  ]

-- ---- all pages stay whole

abbrev AllWhole : World → Type 0
AllWhole w = (p : ℕ) (v : View) → view w.state p ≡ Some v → HasWholePages v.image

whole_event : (w t : World) (e : Event) (o : Outcome) → Happens w e o t → AllWhole w → AllWhole t
whole_event w t e o h whole q u see =
    let c = comes w t e o h q u see in
    elim c.3 [
      | inl same ↦ subst HasWholePages (sym same.0) (whole c.0 c.1 c.2)
      | inr step ↦ own_whole c.1 u (whole c.0 c.1 c.2) step.2
    ]

whole_run : (w t : World) (es : List (Event × Outcome)) → IsRun w es t → AllWhole w → AllWhole t
whole_run w t [] run whole = subst AllWhole (sym run) whole
whole_run w t (e ∷ es) run whole = whole_run run.0 t es run.2 (whole_event w run.0 e.0 e.1 run.1 whole)

-- ---- one event

-- the byte was there before, or the step put it there
abbrev Before : World → Event → World → (q page i byte : ℕ) → Type 0
Before w e t q page i byte =
    ((r : ℕ) × Holds w r page i byte × Passes w e t r q)
    ⊎ ((v : View) × (view w.state q ≡ Some v) × IsStepOf q w e × IsPut v page i byte)

module _ (w t : World) (e : Event) (o : Outcome) (h : Happens w e o t) (whole : AllWhole w) (q page i byte : ℕ) (below : i < 4096) (now : Holds t q page i byte) where
  abbrev u : View
  u = now.0

  abbrev Here : Type 0
  Here = Before w e t q page i byte

  same_image : (r : ℕ) (v : View) → view w.state r ≡ Some v → u.image ≡ v.image → Passes w e t r q → Here
  same_image r v was same passes = inl (r, (v, was, subst (λ (image : Image). HasByte image page i byte) same now.2), passes)

  stored_so : (v : View) → view w.state q ≡ Some v → (own v).next ≡ Some u → IsStored v (page * 4096 + i) → byte ≡ slice_index (stored_by v).bytes (page * 4096 + i - (stored_by v).address)
  stored_so v was next stored =
      let at : (page * 4096 + i) / 4096 ≡ page = omega (arith, below) in
      let place : (page * 4096 + i) % 4096 ≡ i = omega (arith, below) in
      sym (ap (λ (n : ℕ). byte_in (get u.image.pages n) ((page * 4096 + i) % 4096)) at
      ∙ ap (λ (o : Option Page). byte_in o ((page * 4096 + i) % 4096)) now.2.1 ∙ ap (slice_index now.2.0.bytes) place ∙ now.2.2)
      ∙ stores_these_bytes v u (page * 4096 + i) (whole q v was) next stored

  by_step_put : (v : View) → view w.state q ≡ Some v → IsStepOf q w e → (own v).next ≡ Some u → Here
  by_step_put v was is next = elim (exec_or_not (call_in v) (own v)) [
    | inl done ↦ inr (v, was, is, inr (inr (u.image, (no_old_byte v u next).0 done, now.2)))
    | inr apart ↦ elim (each_byte_is_of_its_own v u page now.2.0 i (whole q v was) next apart now.2.1 below) [
      | inl stored ↦ inr (v, was, is, inl (stored, stored_so v was next stored))
      | inr rest ↦ elim rest [
        | inl stood ↦ inl (q, (v, was, (stood.0, stood.1, stood.2 ∙ now.2.2)), inl refl)
        | inr zero ↦ inr (v, was, is, inr (inl (zero.0, sym now.2.2 ∙ zero.1)))
      ]
    ]
  ]

  one_event : Here
  one_event =
      let c = comes w t e o h q u now.1 in
      elim c.3 [
        | inl kept ↦ same_image c.0 c.1 c.2 kept.0 kept.1
        | inr step ↦ by_step_put c.1 (ap (view w.state) step.0 ∙ c.2) (subst (λ (r : ℕ). IsStepOf r w e) (sym step.0) step.1) step.2
      ]

-- ---- a run

abbrev Source : World → List (Event × Outcome) → World → (p page i byte : ℕ) → Type 0
Source w es t p page i byte = ((q : ℕ) × Stands w es t q p page i byte) ⊎ WasPut w es t p page i byte

pub stands_now : (w t : World) (es : List (Event × Outcome)) (q p page i byte : ℕ) → Stands w es t q p page i byte → Holds w q page i byte
stands_now w t [] q p page i byte stands = stands.0
stands_now w t (e ∷ es) q p page i byte stands = stands.0

module _ (w mid t : World) (e : Event × Outcome) (es : List (Event × Outcome)) (h : Happens w e.0 e.1 mid) (p page i byte : ℕ) where
  -- put later
  one_more : WasPut mid es t p page i byte → Source w (e ∷ es) t p page i byte
  one_more put = inr (mid, h, inr put)

  -- put by this event, or there before it
  at_head : (q : ℕ) → Stands mid es t q p page i byte → Before w e.0 mid q page i byte → Source w (e ∷ es) t p page i byte
  at_head q stands from = elim from [
    | inl before ↦ inl (before.0, (before.1, (mid, q, h, before.2, stands)))
    | inr put ↦ inr (mid, h, inl (q, (put.2, (put.0, put.1, put.3)), stands))
  ]

source : (es : List (Event × Outcome)) (w t : World) (p page i byte : ℕ) → AllWhole w → IsRun w es t → i < 4096 → Holds t p page i byte → Source w es t p page i byte
source [] w t p page i byte whole run below now = inl (p, (subst (λ (x : World). Holds x p page i byte) run now, run, refl))
source (e ∷ es) w t p page i byte whole run below now =
    elim (source es run.0 t p page i byte (whole_event w run.0 e.0 e.1 run.1 whole) run.2 below now) [
      | inl stands ↦ at_head w run.0 t e es run.1 p page i byte stands.0 stands.1
          (one_event w run.0 e.0 e.1 run.1 whole stands.0 page i byte below (stands_now run.0 t es stands.0 p page i byte stands.1))
      | inr put ↦ one_more w run.0 t e es run.1 p page i byte put
    ]

-- ---- from boot

whole_first : (frames trace : ℕ) (programs : List ProgramFile) (w : World) → first frames trace programs ≡ Ok w → AllWhole w
whole_first frames trace programs w h p v see =
    let f = first_image frames trace programs w h p v see in
    subst HasWholePages (sym f.4) (loaded_whole f.1 f.2 f.0 f.3)

pub each_byte_has_its_source : EachByteHasItsSource
each_byte_has_its_source frames trace programs es fs w t p page i byte boot run below now =
    source fs w t p page i byte (whole_run boot.0 w es boot.2 (whole_first frames trace programs boot.0 boot.1)) run below now
