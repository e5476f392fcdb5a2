-- What is told of events, one behind another.
use Rattle.std.proofs.Common.{◌≡◌, ℕ, zero, suc, ◌+◌, ◌<◌, ◌≤◌, Bool, false, List, [], ◌∷◌, ◌++◌, length, replicate}
use Rattle.std.proofs.Common.{Option, None, Some, inl, inr, refl, sym, ap, ◌∙◌, subst, arith, append-nil, append_assoc, length-append, ◌⊎◌}
use Rattle.std.proofs.lemmas.List.{length-replicate}
use Rattle.kernel_spec.specs.runs.Run.{Event, Run, Outcome, Step_of, Idle, Halted, out}
use Rattle.kernel_spec.specs.runs.Rounds.{events}
use Rattle.kernel_spec.specs.steps.Own.{Stepped}
use Rattle.xv_machine.specs.Drives.{done_by}
use Rattle.xv_session.specs.Steps.{AreRunsTo}
use Rattle.xv_session.proofs.RunsCounted.{count-sent}
use Rattle.grade_submissions.specs.Plays.{Told, is_idle, idle_after, told_with, told_by, told_runs}

pub idle_none : (before : Bool) (sent : ℕ) (o : Outcome) → sent ≡ 0 → idle_after before sent o ≡ before
idle_none before zero o none = refl
idle_none before (suc n) o none = absurd (omega (arith, none))

pub idle_some : (before : Bool) (sent : ℕ) (o : Outcome) → 0 < sent → idle_after before sent o ≡ is_idle o
idle_some before zero o some = absurd (omega (arith, some))
idle_some before (suc n) o some = refl

pub told-join : (t : Told) (xs ys : List (Event × Outcome)) → told_by t (xs ++ ys) ≡ told_by (told_by t xs) ys
told-join t [] ys = refl
told-join t (e ∷ xs) ys = told-join (told_with t _ e.1) xs ys

-- the bytes are those of the events
pub told-shown : (t : Told) (list : List (Event × Outcome)) → (told_by t list).shown ≡ t.shown ++ out list
told-shown t [] = sym (append-nil t.shown)
told-shown t (e ∷ list) = told-shown (told_with t _ e.1) list ∙ append_assoc t.shown _ _

-- ---- Runs that were sent at once

-- an instruction that is done tells nothing but that a process ran
done-one : (t : Told) (p : ℕ) → told_with t 1 (Step_of p Stepped) ≡ told_runs t 1 None
done-one t p = rw (append-nil t.shown) refl

done-more : (n p : ℕ) (t : Told) → told_by t (replicate (suc n) (done_by p)) ≡ told_runs t (suc n) None
done-more zero p t = done-one t p
done-more (suc n) p t =
    let count : t.runs + 1 + suc n ≡ t.runs + suc (suc n) = omega arith in
    ap (λ (u : Told). told_by u (replicate (suc n) (done_by p))) (done-one t p) ∙ done-more n p (told_runs t 1 None)
    ∙ ap (λ (k : ℕ). record { shown = t.shown; runs = k; last = t.last; idle = false; sending = t.sending }) count

-- the same again and again, which tells nothing new
again : (n : ℕ) (o : Outcome) (t : Told) → (o ≡ Idle) ⊎ (o ≡ Halted) → told_by t (replicate (suc n) (Run, o)) ≡ told_with t (suc n) o
again zero o t is = refl
again (suc n) o t is =
    let count : t.runs + 1 + suc n ≡ t.runs + suc (suc n) = omega arith in
    again n o (told_with t 1 o) is ∙ elim is [
      | inl idle ↦ subst (λ (x : Outcome). told_with (told_with t 1 x) (suc n) x ≡ told_with t (suc (suc n)) x) (sym idle)
          (rw (append-nil t.shown, append-nil t.shown, count) refl)
      | inr halted ↦ subst (λ (x : Outcome). told_with (told_with t 1 x) (suc n) x ≡ told_with t (suc (suc n)) x) (sym halted)
          (rw (append-nil t.shown, append-nil t.shown, count) refl)
    ]

-- instructions, and then something else
then-other : (made p : ℕ) (o : Outcome) (t : Told) → told_by t (replicate made (done_by p) ++ (Run, o) ∷ []) ≡ told_with t (made + 1) o
then-other zero p o t = refl
then-other (suc n) p o t =
    let count : t.runs + suc n + 1 ≡ t.runs + (suc n + 1) = omega arith in
    let more : suc n + 1 ≡ suc (suc n) = omega arith in
    told-join t (replicate (suc n) (done_by p)) ((Run, o) ∷ [])
    ∙ ap (λ (u : Told). told_with u 1 o) (done-more n p t)
    ∙ rw (more) (ap (λ (k : ℕ). record (told_with t 1 o) { runs = k }) (omega arith))

some-of : (n : ℕ) (P : ℕ → Type 0) → 0 < n → ((k : ℕ) → P (suc k)) → P n
some-of zero P some each = absurd (omega (arith, some))
some-of (suc k) P some each = each k

pub done-told : (n p : ℕ) (t : Told) → 0 < n → told_by t (replicate n (done_by p)) ≡ told_runs t n None
done-told n p t some = some-of n (λ k. told_by t (replicate k (done_by p)) ≡ told_runs t k None) some (λ k. done-more k p t)

pub runs-told : (most sent p : ℕ) (last : Option Outcome) (list : List (Event × Outcome)) (t : Told) → 0 < most → AreRunsTo most p last list → events list ≡ replicate sent Run
    → (told_by t list ≡ told_runs t sent last) × (0 < sent) × (sent ≤ most)
runs-told most sent p None list t some are those =
    let count : sent ≡ most = sym (count-sent list sent those) ∙ ap length are ∙ length-replicate most (done_by p) in
    let told : told_by t (replicate most (done_by p)) ≡ told_runs t most None = some-of most (λ n. told_by t (replicate n (done_by p)) ≡ told_runs t n None) some (λ k. done-more k p t) in
    (ap (told_by t) are ∙ told ∙ ap (λ (n : ℕ). told_runs t n None) (sym count), omega (arith, count, some), omega (arith, count))
runs-told most sent p (Some o) list t some (inl made) those =
    let long : length list ≡ made.0 + 1 = ap length made.1 ∙ length-append (replicate made.0 (done_by p)) ((Run, o) ∷ []) ∙ ap (λ (n : ℕ). n + 1) (length-replicate made.0 (done_by p)) in
    let count : sent ≡ made.0 + 1 = sym (count-sent list sent those) ∙ long in
    let under = made.2 in
    (ap (told_by t) made.1 ∙ then-other made.0 p o t ∙ ap (λ (n : ℕ). told_with t n o) (sym count), omega (arith, count), omega (arith, count, under))
runs-told most sent p (Some o) list t some (inr same) those =
    let count : sent ≡ most = sym (count-sent list sent those) ∙ ap length same.0 ∙ length-replicate most (Run, o) in
    let told : told_by t (replicate most (Run, o)) ≡ told_with t most o = some-of most (λ n. told_by t (replicate n (Run, o)) ≡ told_with t n o) some (λ k. again k o t same.1) in
    (ap (told_by t) same.0 ∙ told ∙ ap (λ (n : ℕ). told_with t n o) (sym count), omega (arith, count, some), omega (arith, count))
