-- What the memories tell and change of a pipe's counts.
use Rattle.kcall_core.proofs.Prelude.{ℕ, ◌<◌, ◌∙◌, ◌≡◌, ◌≤◌, across, ap, AreSound, arith, Becomes, Bool, Channel, closes_wake, cond, count_on, each_changed, End, false, false≢true, FRAMES_MAX, get}
use Rattle.kcall_core.proofs.Prelude.{get_same, is_given_up, IsPipe, IsSome, joined, Memories, nat_eq, None, Option, or_new, parted, Pipe, pipe_cost, pipe_in, pipe_named, PipeChanges, pipes_of, refl}
use Rattle.kcall_core.proofs.Prelude.{Slots, Some, subst, sym, true, with_pipe, woken, woken_by}
use Rattle.kcall_core.proofs.memory.PipeFrames.{pipe-keeps, pipe-named, pipe-becomes}
use Rattle.kcall_core.proofs.files.PipeLeft.{remainder, with-twice, wakes-across, wakes-nobody}
use Rattle.kcall_core.proofs.table.Woken.{each-woken, each-none}

module _ (old : Memories) {f : ℕ} (small : f < FRAMES_MAX) (sound : AreSound old) (there : IsSome (get (pipes_of old) f)) where
  pub is-pipe : IsPipe old.ram f
  is-pipe = sound.keeps f (pipe-keeps old f small there)

  pub named-in : pipe_in old.ram f ≡ pipe_named (pipes_of old) f
  named-in = sym (pipe-named old f small (pipe-keeps old f small there))

  pub counted-in : (end e : End) → end ≡ e → count_on end (pipe_named (pipes_of old) f) ≡ count_on e (pipe_in old.ram f)
  counted-in end e is = λ t. count_on (is t) (sym named-in t)

  pub joins : (new : Memories) (end e : End) → end ≡ e → Becomes old.ram new.ram f (joined (pipe_in old.ram f) e 1) → new.pool ≡ old.pool
      → new.each.items ≡ old.each.items → new.pipes.items ≡ old.pipes.items → PipeChanges old new f (Some (joined (pipe_named (pipes_of old) f) end 1))
  joins new end e is made pool each pipes =
      subst (λ n. PipeChanges old new f (Some (joined (pipe_named (pipes_of old) f) n 1))) (sym is)
      (pipe-becomes new (λ p. joined p e 1) small sound (pipe-keeps old f small there) made pool each pipes)

  pub parts : (new : Memories) (end e : End) → end ≡ e → Becomes old.ram new.ram f (parted (pipe_in old.ram f) e 1) → new.pool ≡ old.pool
      → new.each.items ≡ old.each.items → new.pipes.items ≡ old.pipes.items → PipeChanges old new f (Some (parted (pipe_named (pipes_of old) f) end 1))
  parts new end e is made pool each pipes =
      subst (λ n. PipeChanges old new f (Some (parted (pipe_named (pipes_of old) f) n 1))) (sym is)
      (pipe-becomes new (λ p. parted p e 1) small sound (pipe-keeps old f small there) made pool each pipes)

-- ---- a pipe that is changed, and perhaps goes

module _ {old mid : Memories} {f : ℕ} {y : Pipe} (changes : PipeChanges old mid f (Some y)) where
  changed-is : get (pipes_of mid) f ≡ Some y
  changed-is = ap (λ m. get m f) changes.pipes ∙ get_same (pipes_of old) f y

  pub changed-there : IsSome (get (pipes_of mid) f)
  changed-there = subst (λ o. IsSome o) (sym changed-is) refl

  pub changed-named : pipe_named (pipes_of mid) f ≡ y
  changed-named = ap or_new changed-is

  pub stays-there : is_given_up y ≡ false → PipeChanges old mid f (remainder y)
  stays-there held = subst (PipeChanges old mid f) (sym (ap (λ (b : Bool). cond b None (Some y)) held)) changes

  pub goes-then : (new : Memories) → is_given_up y ≡ true → PipeChanges mid new f None → PipeChanges old new f (remainder y)
  goes-then new given goes = subst (PipeChanges old new f) (sym (ap (λ (b : Bool). cond b None (Some y)) given)) (record {
    sound = goes.sound;
    each = goes.each ∙ changes.each;
    pipes = goes.pipes ∙ ap (with_pipe f None) changes.pipes ∙ with-twice f y (pipes_of old);
    free = omega (arith, goes.free, changes.free, ap pipe_cost changed-is);
    frames = goes.frames ∙ changes.frames;
    runs = λ slot hart r. goes.runs slot hart (changes.runs slot hart r);
  })

-- ---- who wakes

pub there-is : (o : Option Pipe) → IsSome o → o ≡ Some (or_new o)
there-is None some = absurd (false≢true some)
there-is (Some y) some = refl

module _ {old new : Memories} {f : ℕ} (end : End) (there : IsSome (get (pipes_of old) f)) (some : 1 ≤ count_on end (pipe_named (pipes_of old) f))
    (changes : PipeChanges old new f (remainder (parted (pipe_named (pipes_of old) f) end 1))) where
  pub left-nobody : nat_eq (count_on end (parted (pipe_named (pipes_of old) f) end 1)) 0 ≡ false → (t : Slots) → t ≡ each_changed (woken_by (closes_wake (pipes_of old) (pipes_of new))) t
  left-nobody more t =
      each-none (closes_wake (pipes_of old) (pipes_of new)) t
      (λ c. ap (λ m. closes_wake (pipes_of old) m c) changes.pipes ∙ wakes-nobody (pipes_of old) f end (pipe_named (pipes_of old) f) (there-is (get (pipes_of old) f) there) some more c)

  pub left-wakes : nat_eq (count_on end (parted (pipe_named (pipes_of old) f) end 1)) 0 ≡ true → (channel : Channel) → channel ≡ across f end
      → (t t' : Slots) → t' ≡ each_changed (woken channel) t → t' ≡ each_changed (woken_by (closes_wake (pipes_of old) (pipes_of new))) t
  left-wakes last channel is t t' after =
      after ∙ ap (λ c. each_changed (woken c) t) is
      ∙ each-woken (closes_wake (pipes_of old) (pipes_of new)) (across f end) t
      (λ c. ap (λ m. closes_wake (pipes_of old) m c) changes.pipes ∙ wakes-across (pipes_of old) f end (pipe_named (pipes_of old) f) (there-is (get (pipes_of old) f) there) some last c)
