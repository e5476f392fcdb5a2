-- The words of rows: a claim of what a row comes to is one of each of its ended.
use Rattle.kernel_spec.proofs.Prelude.{ℕ, ℤ, ◌>>=◌, ◌>>◌, ◌or◌, ◌when◌, ◌∙◌, ◌≡◌, ap, Bool, Call, cond, Descriptor, End, eqb-true, false, Image, nat_eq, natural, None, not, Option, Own, pages_at}
use Rattle.kernel_spec.proofs.Prelude.{perform, Pipe, reaches, refl, refused, Row, row, row_of, Shown, Shown_file, Shown_pipe, Shown_terminal, Some, Storing, subst, sym, touch, true, View, writable}
use Rattle.kernel_spec.proofs.rows.Settled.{store-brought, touch-comes, touch-settles}
use Rattle.kernel_spec.proofs.rows.Touched.{IsTouched, touched_view, touch_view, touch_touched}
use Rattle.kernel_spec.proofs.rows.MayStore.{settled_reaches}

module _ (P : Own → Type 0) where
  -- E when t
  pub by_when : (b : Bool) {e x : Own} → P e → (b ≡ false → P x) → P ((e when b) >> x)
  unfolding ◌>>◌ ◌when◌
  by_when true ended goes = ended
  by_when false ended goes = goes refl

  -- where it matters why the step ended
  pub by_test : (b : Bool) {e x : Own} → (b ≡ true → P e) → (b ≡ false → P x) → P ((e when b) >> x)
  unfolding ◌>>◌ ◌when◌
  by_test true ended goes = ended refl
  by_test false ended goes = goes refl

  pub by_cond : (b : Bool) {x y : Own} → P x → P y → P (cond b x y)
  by_cond true h g = h
  by_cond false h g = g

  -- x ← o or E
  pub by_or : {A : Type 0} (o : Option A) {e : Own} {f : A → Own} → P e → ((a : A) → o ≡ Some a → P (f a)) → P ((o or e) >>= f)
  unfolding ◌>>=◌ ◌or◌
  by_or None ended goes = ended
  by_or (Some a) ended goes = goes a refl

  -- t ← touch (pages_at a n) v or E: user code may store in the buffer then
  pub by_touch : (a n : ℕ) (v : View) (f : View → Own) {e : Own} → P e
      → ((image : Image) (free : ℕ) → IsTouched v.image image → (writable v.image a n ≡ true → reaches Storing image a n ≡ true) → P (f (touched_view v image free)))
      → P ((touch (pages_at a n) v or e) >>= f)
  by_touch a n v f ended goes = by_or (touch (pages_at a n) v) ended (λ t comes.
      subst (λ u. P (f u)) (sym (touch_view (pages_at a n) v t comes)) (goes t.image t.free (touch_touched (pages_at a n) v t comes)
      (λ room. settled_reaches t.image a n (touch-settles (pages_at a n) v t comes)
      (ap (λ i. writable i a n) (touch-comes (pages_at a n) v t comes).image ∙ store-brought (pages_at a n) v.image a n room))))

  -- a descriptor is on the console, on a program's file or on a pipe
  pub by_shown : (Q : Descriptor → Type 0) (f : Descriptor → Own)
      → ((file : ℕ) (r w : Bool) → let d : Descriptor = record { file = file; read = r; write = w; shown = Shown_terminal } in Q d → P (f d))
      → ((file : ℕ) (r w : Bool) (program offset : ℕ) → let d : Descriptor = record { file = file; read = r; write = w; shown = Shown_file program offset } in Q d → P (f d))
      → ((file : ℕ) (r w : Bool) (name : ℕ) (end : End) (pipe : Pipe) → let d : Descriptor = record { file = file; read = r; write = w; shown = Shown_pipe name end pipe } in Q d → P (f d))
      → (d : Descriptor) → Q d → P (f d)
  by_shown Q f terminal a_file a_pipe d = by d.shown
    where
      by : (s : Shown) → Q (record d { shown = s }) → P (f (record d { shown = s }))
      by Shown_terminal = terminal d.file d.read d.write
      by (Shown_file program offset) = a_file d.file d.read d.write program offset
      by (Shown_pipe name end pipe) = a_pipe d.file d.read d.write name end pipe

  -- what read and write test, in their order: the mode, n below 0, n 0, and whether the buffer is there
  pub by_moving : (mode : Bool) (z : ℤ) (is_there : ℕ → Bool) {e x : Own} {f : ℕ → Own} → P e → (natural z ≡ Some 0 → P x)
      → ((n : ℕ) → natural z ≡ Some n → nat_eq n 0 ≡ false → not (is_there n) ≡ false → P (f n))
      → P ((e when not mode) >> ((natural z or e) >>= (λ n. (x when nat_eq n 0) >> ((e when not (is_there n)) >> f n))))
  by_moving mode z is_there ended nothing goes = by_when (not mode) ended (λ _. by_or (natural z) ended (λ n count.
      by_test (nat_eq n 0) (λ none. nothing (count ∙ ap Some (eqb-true n 0 none))) (λ some. by_when (not (is_there n)) ended (goes n count some))))

-- ---- which row

-- by the number of the call
pub by_number : (c : Call) (v : View) (number : ℤ) → c.number ≡ number → perform c v ≡ ((row_of number or refused c v) >>= (λ r. row r c v))
unfolding perform
by_number c v number is = ap (λ (z : ℤ). (row_of z or refused c v) >>= (λ r. row r c v)) is

pub by_none : (c : Call) (v : View) → row_of c.number ≡ None → perform c v ≡ refused c v
unfolding perform ◌>>=◌ ◌or◌
by_none c v none = ap (λ (o : Option Row). (o or refused c v) >>= (λ r. row r c v)) none
