-- What a step may do with its process's descriptors: none that stays in use changes between an end of a pipe and something else, a step that opens one
-- closes none, and a pipe that is shown for the first time is empty.
use Rattle.kernel_spec.proofs.Prelude.{[], ℕ, ◌&&◌, ◌<◌, ◌∙◌, ◌≡◌, advance, advance_shown, advanced, ap, Bool, change_pipes, change_shown, changed, cond, Descriptor, Descriptors, End, eqb_tells}
use Rattle.kernel_spec.proofs.Prelude.{false, inl, inr, is_none, is_some, IsSome, lowest_free, lowest_free_above, named, nat_eq, nat_lt, new_pipe, NOFILE, None, one_less_on, one_more_on, Option}
use Rattle.kernel_spec.proofs.Prelude.{option_map, Pipe, pipe_name, refl, rename, rename_shown, same_Some, Shown, Shown_file, Shown_pipe, shown_pipe_name, Shown_terminal, Some, sym, true, with_value}
use Rattle.kernel_spec.proofs.steps.LeastPasses.{least_passes}
use Rattle.kernel_spec.proofs.steps.NamesAreChosenAgain.{named_at, pipe_renamed}
use Rattle.kernel_spec.proofs.Common.{is_some-map, named_low, none_from_is_none}

-- no descriptor has a number from NOFILE on
abbrev pub IsLow : Descriptors → Type 0
IsLow t = (d : ℕ) → IsSome (t d) → d < NOFILE

-- it is an end of a pipe
abbrev pub is_end : Option Descriptor → Bool
is_end o = is_some (pipe_name o)

-- a pipe of the table u that no descriptor of t was on
abbrev pub NewPipe : Descriptors → Descriptors → Pipe → Type 0
NewPipe t u x =
    (d : ℕ) × (name : ℕ) × (end : End)
    × (option_map (λ y. y.shown) (u d) ≡ Some (Shown_pipe name end x))
    × ((e : ℕ) → pipe_name (u e) ≡ Some name → t e ≡ None)

-- the table t may become u by a step
pub record Table (t u : Descriptors) : Type 0 where
  pub kind : (d : ℕ) → IsSome (t d) → IsSome (u d) → is_end (u d) ≡ is_end (t d)
  pub opens : (d k : ℕ) → t d ≡ None → IsSome (u d) → IsSome (t k) → IsSome (u k)
  pub new : (x : Pipe) → NewPipe t u x → x.bytes ≡ []

-- ---- what a change of a table does

-- all that are in use stay so
abbrev pub Adds : Descriptors → Descriptors → Type 0
Adds t u = (d : ℕ) → IsSome (t d) → IsSome (u d) × (is_end (u d) ≡ is_end (t d))

-- no other comes into use
abbrev pub Closes : Descriptors → Descriptors → Type 0
Closes t u = (d : ℕ) → IsSome (u d) → IsSome (t d) × (is_end (u d) ≡ is_end (t d))

-- both
abbrev pub Same : Descriptors → Descriptors → Type 0
Same t u = (d : ℕ) → (is_some (u d) ≡ is_some (t d)) × (is_end (u d) ≡ is_end (t d))

pub same_table : (t : Descriptors) → Same t t
same_table t d = (refl, refl)

pub same_adds : (t u : Descriptors) → Same t u → Adds t u
same_adds t u h d there = ((h d).0 ∙ there, (h d).1)

pub same_closes : (t u : Descriptors) → Same t u → Closes t u
same_closes t u h d there = (sym (h d).0 ∙ there, (h d).1)

pub change_same : (f : ℕ → Pipe → Pipe) (t : Descriptors) → Same t (change_pipes f t)
change_same f t d = by (t d)
  where
    shown : (x : Shown) → is_some (shown_pipe_name (change_shown f x)) ≡ is_some (shown_pipe_name x)
    shown Shown_terminal = refl
    shown (Shown_file program offset) = refl
    shown (Shown_pipe name end pipe) = refl

    by : (o : Option Descriptor) → (is_some (changed f o) ≡ is_some o) × (is_end (changed f o) ≡ is_end o)
    by None = (refl, refl)
    by (Some x) = (refl, shown x.shown)

pub advance_same : (file n : ℕ) (t : Descriptors) → Same t (advance file n t)
advance_same file n t d = by (t d)
  where
    shown : (x : Shown) → is_some (shown_pipe_name (advance_shown n x)) ≡ is_some (shown_pipe_name x)
    shown Shown_terminal = refl
    shown (Shown_file program offset) = refl
    shown (Shown_pipe name end pipe) = refl

    at : (x : Descriptor) (b : Bool) → (is_some (cond b (Some (record x { shown = advance_shown n x.shown })) (Some x)) ≡ true)
        × (is_end (cond b (Some (record x { shown = advance_shown n x.shown })) (Some x)) ≡ is_end (Some x))
    at x true = (refl, shown x.shown)
    at x false = (refl, refl)

    by : (o : Option Descriptor) → (is_some (advanced file n o) ≡ is_some o) × (is_end (advanced file n o) ≡ is_end o)
    by None = (refl, refl)
    by (Some x) = at x (nat_eq x.file file)

pub more_same : (x : Shown) (t : Descriptors) → Same t (one_more_on x t)
more_same Shown_terminal t = same_table t
more_same (Shown_file program offset) t = same_table t
more_same (Shown_pipe name end pipe) t = change_same _ t

pub less_same : (x : Shown) (t : Descriptors) → Same t (one_less_on x t)
less_same Shown_terminal t = same_table t
less_same (Shown_file program offset) t = same_table t
less_same (Shown_pipe name end pipe) t = change_same _ t

-- names chosen anew
pub named_same : (t : Descriptors) (d : ℕ) → d < NOFILE → (is_some (named t d) ≡ is_some (t d)) × (is_end (named t d) ≡ is_end (t d))
named_same t d below = (
  ap is_some (named_at t d below) ∙ is_some-map (rename t) (t d),
  ap is_end (named_at t d below) ∙ ap is_some (pipe_renamed t (t d)) ∙ is_some-map _ (pipe_name (t d)),
)

-- another descriptor at a number that is free
pub value_adds : (t u : Descriptors) (k : ℕ) (o : Option Descriptor) → t k ≡ None → Adds t u → Adds t (with_value u k o)
value_adds t u k o free h d there = elim (eqb_tells d k) [
  | inl same ↦ let no : false ≡ true = sym (ap is_some (ap t same.1 ∙ free)) ∙ there in let bad : ⊥ = cc in absurd bad
  | inr apart ↦ (
    ap (λ (b : Bool). is_some (cond b o (u d))) apart.0 ∙ (h d there).0,
    ap (λ (b : Bool). is_end (cond b o (u d))) apart.0 ∙ (h d there).1,
  )
]

-- nothing at a number
pub value_closes : (t u : Descriptors) (k : ℕ) → Closes t u → Closes t (with_value u k None)
value_closes t u k h d there = by (nat_eq d k) there
  where
    by : (b : Bool) → IsSome (cond b None (u d)) → IsSome (t d) × (is_end (cond b None (u d)) ≡ is_end (t d))
    by true g = let no : ⊥ = cc in absurd no
    by false g = h d g

pub closed_named : (t u : Descriptors) → Closes t u → Closes t (named u)
closed_named t u h d there =
    let same = named_same u d (named_low u d there) in
    let was = h d (sym same.0 ∙ there) in
    (was.0, same.1 ∙ was.1)

second : (a b : Bool) → (a && b) ≡ true → b ≡ true
second true b e = e
second false b e = let no : ⊥ = cc in absurd no

module _ (t : Descriptors) (low : (d : ℕ) → IsSome (t d) → d < NOFILE) where
  pub added_named : (u : Descriptors) → Adds t u → Adds t (named u)
  added_named u h d there =
      let same = named_same u d (low d there) in
      let is = h d there in
      (same.0 ∙ is.0, same.1 ∙ is.1)

  free_is : (k : ℕ) → is_none (t k) ≡ true → t k ≡ None
  free_is k e = none_from_is_none (t k) e

  pub lowest_is_free : (k : ℕ) → lowest_free t ≡ Some k → t k ≡ None
  lowest_is_free k e = free_is k (least_passes NOFILE (λ d. is_none (t d)) k e).0

  pub next_is_free : (r k : ℕ) → lowest_free_above t r ≡ Some k → t k ≡ None
  next_is_free r k e = free_is k (second (nat_lt r k) (is_none (t k)) (least_passes NOFILE (λ d. nat_lt r d && is_none (t d)) k e).0)

-- ---- pipes that are shown for the first time

pub nothing_shown : (o : Option Descriptor) (name : ℕ) (end : End) (x : Pipe) → o ≡ None → option_map (λ y. y.shown) o ≡ Some (Shown_pipe name end x) → ⊥
nothing_shown o name end x none is = let e : None ≡ Some (Shown_pipe name end x) = sym (ap (option_map (λ (y : Descriptor). y.shown)) none) ∙ is in let no : ⊥ = cc in no

pub name_shown : (o : Option Descriptor) (name : ℕ) (end : End) (x : Pipe) → option_map (λ y. y.shown) o ≡ Some (Shown_pipe name end x) → pipe_name o ≡ Some name
name_shown None name end x is = let no : ⊥ = cc in absurd no
name_shown (Some d) name end x is = ap shown_pipe_name (same_Some d.shown (Shown_pipe name end x) is)

pub named_none : (t : Descriptors) (d : ℕ) → t d ≡ None → named t d ≡ None
unfolding named
named_none t d e = by (nat_lt d NOFILE)
  where
    by : (b : Bool) → cond b (option_map (rename t) (t d)) None ≡ None
    by true = ap (option_map (rename t)) e
    by false = refl

-- it is on no pipe, or on an empty one
abbrev pub EmptyPipe : Option Descriptor → Type 0
EmptyPipe o = (name : ℕ) (end : End) (x : Pipe) → option_map (λ y. y.shown) o ≡ Some (Shown_pipe name end x) → x.bytes ≡ []

pub none_empty : (o : Option Descriptor) → o ≡ None → EmptyPipe o
none_empty o e name end x is = absurd (nothing_shown o name end x e is)

abbrev pipe_of_shown : Pipe → Shown → Pipe
pipe_of_shown y Shown_terminal = y
pipe_of_shown y (Shown_file program offset) = y
pipe_of_shown y (Shown_pipe name end pipe) = pipe

renamed_empty : (t : Descriptors) (o : Option Descriptor) → EmptyPipe o → EmptyPipe (option_map (rename t) o)
renamed_empty t None h = none_empty None refl
renamed_empty t (Some d) h = by d.shown (λ name end x is. h name end x is)
  where
    by : (shown : Shown) → ((name : ℕ) (end : End) (x : Pipe) → Some shown ≡ Some (Shown_pipe name end x) → x.bytes ≡ [])
        → (name : ℕ) (end : End) (x : Pipe) → Some (rename_shown t shown) ≡ Some (Shown_pipe name end x) → x.bytes ≡ []
    by Shown_terminal g name end x is = let no : ⊥ = cc in absurd no
    by (Shown_file program offset) g name end x is = let no : ⊥ = cc in absurd no
    by (Shown_pipe m f y) g name end x is =
        let same : y ≡ x = ap (pipe_of_shown y) (same_Some (rename_shown t (Shown_pipe m f y)) (Shown_pipe name end x) is) in
        ap (λ (z : Pipe). z.bytes) (sym same) ∙ g m f y refl

pub named_empty : (t : Descriptors) (d : ℕ) → EmptyPipe (t d) → EmptyPipe (named t d)
unfolding named
named_empty t d h = by (nat_lt d NOFILE)
  where
    by : (b : Bool) → EmptyPipe (cond b (option_map (rename t) (t d)) None)
    by true = renamed_empty t (t d) h
    by false = none_empty None refl

pub value_empty : (t : Descriptors) (k : ℕ) (o : Option Descriptor) (d : ℕ) → EmptyPipe o → EmptyPipe (t d) → EmptyPipe (with_value t k o d)
value_empty t k o d h g = by (nat_eq d k)
  where
    by : (b : Bool) → EmptyPipe (cond b o (t d))
    by true = h
    by false = g

pub no_pipe_empty : (file : ℕ) (r w : Bool) (shown : Shown) → shown_pipe_name shown ≡ None → EmptyPipe (Some (record { file = file; read = r; write = w; shown = shown }))
no_pipe_empty file r w shown none name end x is = let e : None ≡ Some name = sym none
    ∙ name_shown (Some (record { file = file; read = r; write = w; shown = shown })) name end x is in let no : ⊥ = cc in absurd no

pub pipe_empty : (file n : ℕ) (r w : Bool) (e : End) → EmptyPipe (Some (record { file = file; read = r; write = w; shown = Shown_pipe n e new_pipe }))
unfolding new_pipe
pipe_empty file n r w e name end x is = ap (λ (z : Pipe). z.bytes) (sym (ap (pipe_of_shown new_pipe) (same_Some (Shown_pipe n e new_pipe) (Shown_pipe name end x) is)))

-- ---- the tables that come

none_more : (t u : Descriptors) → ((d : ℕ) → t d ≡ None → u d ≡ None) → (x : Pipe) → NewPipe t u x → x.bytes ≡ []
none_more t u more x new = absurd (nothing_shown (u new.0) new.1 new.2 x (more new.0 (new.4 new.0 (name_shown (u new.0) new.1 new.2 x new.3))) new.3)

pub still_none : (a b : Option Descriptor) → (IsSome b → IsSome a) → a ≡ None → b ≡ None
still_none a None some none = refl
still_none a (Some x) some none = let no : false ≡ true = sym (ap is_some none) ∙ some refl in let bad : ⊥ = cc in absurd bad

pub table_same : (t u : Descriptors) → Same t u → Table t u
table_same t u h = record {
  kind = λ d before after. (h d).1;
  opens = λ d k none after before. (h k).0 ∙ before;
  new = none_more t u (λ d none. still_none (t d) (u d) (λ some. sym (h d).0 ∙ some) none);
}

pub table_closed : (t u : Descriptors) → Closes t u → Table t u
table_closed t u h = record {
  kind = λ d before after. (h d after).1;
  opens = λ d k none after before. let no : false ≡ true = sym (ap is_some none) ∙ (h d after).0 in let bad : ⊥ = cc in absurd bad;
  new = none_more t u (λ d none. still_none (t d) (u d) (λ some. (h d some).0) none);
}

pub table_added : (t u : Descriptors) → Adds t u → ((x : Pipe) → NewPipe t u x → x.bytes ≡ []) → Table t u
table_added t u h new = record {
  kind = λ d before after. (h d before).1;
  opens = λ d k none after before. (h k before).0;
  new = new;
}

-- where each descriptor that comes into use is on no pipe, or on an empty one
pub new_empty : (t u : Descriptors) → ((d : ℕ) → t d ≡ None → EmptyPipe (u d)) → (x : Pipe) → NewPipe t u x → x.bytes ≡ []
new_empty t u empty x new = empty new.0 (new.4 new.0 (name_shown (u new.0) new.1 new.2 x new.3)) new.1 new.2 x new.3

pub plain : (t : Descriptors) → Table t t
plain t = table_same t t (same_table t)
