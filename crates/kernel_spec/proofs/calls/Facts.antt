-- All that is claimed of a step, in one record, and how each end of a row gives it: it is refused, done, it waits, or the process is gone.
use Rattle.kernel_spec.proofs.Prelude.{ℕ, ℤ, ◌+◌, ◌∙◌, ◌≡◌, ◌≢◌, ◌⊎◌, Answer, answered, ap, Blocked, Bool, Call, Called, done, Exec, false, gone, gone_with, Image, inl, inr, is_some, IsExecDone}
use Rattle.kernel_spec.proofs.Prelude.{IsExecOf, IsNewbornOf, IsSome, List, list_any, MatchOption, minus_one, nat_eq, None, none-some, nothing_stored, Option, Own, pos, Read, refl, refused, Row}
use Rattle.kernel_spec.proofs.Prelude.{row_of, same_Some, Sleep, Some, Store, subst, sym, true, View, Wait, waits, Write}
use Rattle.kernel_spec.proofs.rows.MayStore.{AllowedTouching}
use Rattle.kernel_spec.proofs.calls.Images.{Images, Empty, Tells, images_same, allowed_none, nothing_empty}
use Rattle.kernel_spec.proofs.calls.Tables.{IsLow, Table, plain}

-- ---- what is claimed

-- q is among the pids
abbrev pub has : ℕ → List ℕ → Bool
has q pids = list_any (nat_eq q) pids

-- Of a step of the call c that comes to o in the view v, and stores s
pub record Facts (c : Call) (s : Store) (v : View) (o : Own) : Type 0 where
  -- after an exec that is done the image is the one that it makes
  pub exec : (n : View) → o.next ≡ Some n → IsExecDone c o → IsExecOf c v o n.image
  pub image : ¬ IsExecDone c o → (n : View) → o.next ≡ Some n → Images s v.image n.image
  -- each byte that is stored is there, and user code may store it there
  pub told : (n : View) → o.next ≡ Some n → Tells s v.image n.image
  pub allowed : AllowedTouching v.image s
  -- a process that isn't gone is left, and the pids are those of before and the newborn's
  pub left : gone_with o.answer ≡ None → IsSome o.next
  pub pids : (q : ℕ) → has q o.left.pids ≡ true → (has q v.pids ≡ true) ⊎ IsNewbornOf o q
  pub table : IsLow v.descriptors → (n : View) → o.next ≡ Some n → Table v.descriptors n.descriptors
  -- who makes a process goes on, and opens and closes nothing; the newborn has its image
  pub bears : (n : View) → o.next ≡ Some n → IsSome o.child → (k : ℕ) → is_some (n.descriptors k) ≡ is_some (v.descriptors k)
  pub parent : IsSome o.child → IsSome o.next
  pub newborn : (child : View) → o.child ≡ Some child → child.image ≡ v.image

-- where the next pid is n, a new process has that pid and is in no call, and one pid is used up
abbrev pub Numbered : ℕ → Own → Type 0
Numbered n o = MatchOption o.child (o.left.next_pid ≡ n) (λ child. (child.pid ≡ n) × (child.call ≡ None) × (o.left.next_pid ≡ n + 1))

-- the call is done, and its answer isn't negative
pub record IsDone (c : Call) (v : View) (o : Own) : Type 0 where
  pub value : ℕ
  pub answer : o.answer ≡ Called c.number (pos value)
  pub after : View
  pub next : o.next ≡ Some after
  pub idle : after.call ≡ None
  pub pids : Numbered v.next_pid o

-- a row that may wait
abbrev pub may_wait : Option Row → Bool
may_wait (Some Wait) = true
may_wait (Some Read) = true
may_wait (Some Sleep) = true
may_wait (Some Write) = true
may_wait _ = false

pub record DoesWait (c : Call) (v : View) (o : Own) : Type 0 where
  pub moved : ℕ
  pub after : View
  pub is : o ≡ waits c moved after
  pub row : may_wait (row_of c.number) ≡ true
  pub next_pid : after.next_pid ≡ v.next_pid

pub record IsGone (v : View) (o : Own) : Type 0 where
  pub next : o.next ≡ None
  pub ends : IsSome (gone_with o.answer)
  pub pids : Numbered v.next_pid o

-- what a step of the call c comes to
abbrev pub Comes : Call → View → Own → Type 0
Comes c v o = (o ≡ refused c v) ⊎ IsDone c v o ⊎ DoesWait c v o ⊎ IsGone v o

-- all of it, of a row that stores this by its answer
pub record RowFacts (c : Call) (v : View) (stores : Answer → Store) (o : Own) : Type 0 where
  pub step : Facts c (stores o.answer) v o
  pub comes : Comes c v o

-- ---- a step after which the process goes on in the view u

module _ (c : Call) (s : Store) (v : View) (o : Own) (u : View) (next : o.next ≡ Some u) where
  pub at_next : (P : View → Type 0) → P u → (n : View) → o.next ≡ Some n → P n
  at_next P h n e = subst P (same_Some u n (sym next ∙ e)) h

  pub goes_facts : ¬ IsExecDone c o → o.child ≡ None → Images s v.image u.image → AllowedTouching v.image s → ((q : ℕ) → has q o.left.pids ≡ true → has q v.pids ≡ true)
      → (IsLow v.descriptors → Table v.descriptors u.descriptors)
      → Facts c s v o
  goes_facts other alone image allowed pids table = record {
    exec = λ n e done. absurd (other done);
    image = λ _. at_next (λ n. Images s v.image n.image) image;
    told = at_next (λ n. Tells s v.image n.image) image.told;
    allowed = allowed;
    left = λ _. ap is_some next;
    pids = λ q h. inl (pids q h);
    table = λ low. at_next (λ n. Table v.descriptors n.descriptors) (table low);
    bears = λ n e born k. let no : false ≡ true = sym (ap is_some alone) ∙ born in let bad : ⊥ = cc in absurd bad;
    parent = λ _. ap is_some next;
    newborn = λ child is. let no : None ≡ Some child = sym alone ∙ is in let bad : ⊥ = cc in absurd bad;
  }

-- ---- a step after which it is gone

pub gone_facts : (c : Call) (s : Store) (v : View) (a : Answer) {status : ℤ} → gone_with a ≡ Some status → Empty s → Facts c s v (gone a v)
gone_facts c s v a goes empty = record {
  exec = λ n e done. absurd (none-some n e);
  image = λ _ n e. absurd (none-some n e);
  told = λ n e. absurd (none-some n e);
  allowed = allowed_none s v.image empty;
  left = λ stays. let no : ⊥ = cc in absurd no;
  pids = λ q h. inl h;
  table = λ low n e. absurd (none-some n e);
  bears = λ n e born k. absurd (none-some n e);
  parent = λ born. born;
  newborn = λ child is. let no : ⊥ = cc in absurd no;
}

-- ---- the ends of a row

-- a call that is refused, or waits, isn't done, nor is an instruction a call
pub refused_apart : (number : ℤ) (k : ℕ) → Called number minus_one ≢ Called number (pos k)
refused_apart number k e = let no : ⊥ = cc in no

waits_apart : (number : ℤ) (k : ℕ) → Blocked number ≢ Called number (pos k)
waits_apart number k e = let no : ⊥ = cc in no

abbrev is_exec : Option Row → Bool
is_exec (Some Exec) = true
is_exec _ = false

module _ (c : Call) (v : View) (stores : Answer → Store) where
  abbrev pub Ends : Own → Type 0
  Ends o = RowFacts c v stores o

  pub refusal : Empty (stores (Called c.number minus_one)) → Ends (refused c v)
  refusal empty = record {
    step = goes_facts c (stores (Called c.number minus_one)) v (refused c v) (answered minus_one v) refl
        (λ exec. refused_apart c.number exec.0 exec.2) refl
        (images_same (stores (Called c.number minus_one)) v.image v.image empty (λ page. refl))
        (allowed_none (stores (Called c.number minus_one)) v.image empty) (λ q h. h) (λ _. plain v.descriptors);
    comes = inl refl;
  }

  module _ {r : Option Row} (row : row_of c.number ≡ r) where
    -- done with a value that isn't negative
    pub finished : is_exec r ≡ false → (value : ℕ) (o : Own) (u : View) → o.answer ≡ Called c.number (pos value) → o.next ≡ Some (answered (pos value) u) → o.child ≡ None
        → o.left.next_pid ≡ v.next_pid → Images (stores o.answer) v.image u.image → AllowedTouching v.image (stores o.answer)
        → ((q : ℕ) → has q o.left.pids ≡ true → has q v.pids ≡ true) → (IsLow v.descriptors → Table v.descriptors u.descriptors)
        → Ends o
    finished other value o u answer next alone number image allowed pids table = record {
      step = goes_facts c (stores o.answer) v o (answered (pos value) u) next (λ exec. let no : true ≡ false = sym (ap is_exec exec.1) ∙ ap is_exec row ∙ other in let bad : ⊥ = cc in bad)
          alone image allowed pids table;
      comes = inr (inl (record {
        value = value;
        answer = answer;
        after = answered (pos value) u;
        next = next;
        idle = refl;
        pids = subst (λ (x : Option View). MatchOption x (o.left.next_pid ≡ v.next_pid)
            (λ child. (child.pid ≡ v.next_pid) × (child.call ≡ None) × (o.left.next_pid ≡ v.next_pid + 1))) (sym alone) number;
      }));
    }

    pub asleep : may_wait r ≡ true → (moved : ℕ) (u : View) → u.next_pid ≡ v.next_pid → u.pids ≡ v.pids → Images (stores (Blocked c.number)) v.image u.image
        → AllowedTouching v.image (stores (Blocked c.number)) → (IsLow v.descriptors → Table v.descriptors u.descriptors)
        → Ends (waits c moved u)
    asleep may moved u number pids image allowed table = record {
      step = goes_facts c (stores (Blocked c.number)) v (waits c moved u) (record u { call = Some (record c { moved = moved }) }) refl
          (λ exec. waits_apart c.number exec.0 exec.2) refl image allowed (λ q h. sym (ap (has q) pids) ∙ h) table;
      comes = inr (inr (inl (record { moved = moved; after = u; is = refl; row = ap may_wait row ∙ may; next_pid = number })));
    }

-- ---- of a row that stores nothing

abbrev pub nothing : Answer → Store
nothing answer = nothing_stored

module _ (c : Call) (v : View) where
  -- whatever its answer
  pub no : RowFacts c v nothing (refused c v)
  no = refusal c v nothing nothing_empty

  pub same_image : Images nothing_stored v.image v.image
  same_image = images_same nothing_stored v.image v.image nothing_empty (λ page. refl)

  module _ {r : Option Row} (row : row_of c.number ≡ r) where
    -- done, with other descriptors
    pub done_with : is_exec r ≡ false → (value : ℕ) (u : View) → u.image ≡ v.image → u.pids ≡ v.pids → u.next_pid ≡ v.next_pid
        → (IsLow v.descriptors → Table v.descriptors u.descriptors) → RowFacts c v nothing (done c (pos value) u)
    done_with other value u image pids number table =
        finished c v nothing row other value (done c (pos value) u) u refl refl refl number
        (subst (Images nothing_stored v.image) (sym image) same_image) (allowed_none nothing_stored v.image nothing_empty) (λ q h. sym (ap (has q) pids) ∙ h) table

    -- done, with another image
    pub done_over : is_exec r ≡ false → (value : ℕ) (image : Image) (free : ℕ) → Images nothing_stored v.image image
        → RowFacts c v nothing (done c (pos value) (record v { image = image; free = free }))
    done_over other value image free images =
        finished c v nothing row other value (done c (pos value) (record v { image = image; free = free })) (record v { image = image; free = free }) refl refl refl refl
        images (allowed_none nothing_stored v.image nothing_empty) (λ q h. h) (λ _. plain v.descriptors)

    -- done, and nothing changes
    pub only_done : is_exec r ≡ false → (value : ℕ) → RowFacts c v nothing (done c (pos value) v)
    only_done other value = done_with other value v refl refl refl (λ _. plain v.descriptors)

    pub waits_with : may_wait r ≡ true → (moved : ℕ) (u : View) → u.image ≡ v.image → u.pids ≡ v.pids → u.next_pid ≡ v.next_pid
        → (IsLow v.descriptors → Table v.descriptors u.descriptors) → RowFacts c v nothing (waits c moved u)
    waits_with may moved u image pids number table =
        asleep c v nothing row may moved u number pids (subst (Images nothing_stored v.image) (sym image) same_image) (allowed_none nothing_stored v.image nothing_empty) table
