-- The laws of steps that change only the process itself, the console and the free frames.
use Rattle.kernel_spec.proofs.Prelude.{ℕ, ◌+◌, ◌-◌, ◌∙◌, ◌≡◌, ◌≢◌, A1, After, after, after_instruction, Alive, alone_state, Answer, AnswerLaw, ap, arith, at_price, before_instruction, begun_live}
use Rattle.kernel_spec.proofs.Prelude.{begun_state, Blocked, Bool, brought, Call, call_begun, Called, cond, Console, done, EcallLaw, EndLaw, eqb_tells, Fault, file_at, FilesAfter, get, goes_on}
use Rattle.kernel_spec.proofs.Prelude.{going_on, gone_with, Image, in_call, inl, inr, InstructionLaw, is_some, IsBetweenCalls, IsSome, le-ltb, Live, live_part, MatchOption, named, Next}
use Rattle.kernel_spec.proofs.Prelude.{next_instruction, None, numbered, Option, option_map, Own, own, own_state, pipe_at, pos, price, put, refl, Registers, ResumeLaw, Some, SP, started, State}
use Rattle.kernel_spec.proofs.Prelude.{StateAfter, Step, Stepped, stepped, Store, subst, sym, touch, TouchLaw, unless_killed, View, view, view_of, WaitingLaw, waits, with_a0, with_answer, with_pc}
use Rattle.kernel_spec.proofs.Prelude.{with_store, word}
use Rattle.kernel_spec.proofs.memory.OnAbsent.{before_next}
use Rattle.kernel_spec.proofs.steps.SeenByParts.{pipe_of_file}
use Rattle.kernel_spec.proofs.steps.BegunIsAsBefore.{with_call, state_begun, same_file_at, same_view_of, quiet_begun, ecall_own}
use Rattle.kernel_spec.proofs.steps.ChangeIsSeen.{alone, after_alone, view_alone, done_is, waits_is}
use Rattle.kernel_spec.proofs.steps.TableTells.{own_table_tells}
use Rattle.kernel_spec.proofs.steps.ChangeIsTold.{after_same_files}
use Rattle.kernel_spec.proofs.rows.PartLaws.{ExecPart}
use Rattle.kernel_spec.proofs.rows.RowParts.{running}

module _ (s : State) (p : ℕ) (old : Live) (was : get s.processes p ≡ Some (Alive old)) (r : Registers) (i : Image) (c : Option Call) (k : Bool) (console : Console) (free : ℕ) where
  pub alone_law : (a : Answer) → gone_with a ≡ None → StateAfter s (view_of s p old)
      (goes_on a (view_of (after_alone s p old was r i c k console free) p (alone s p old was r i c k console free)))
      (after_alone s p old was r i c k console free)
  unfolding view_of
  alone_law a stays = after_same_files s p old was r i c k s.files s.pipes console free (λ f. refl) a stays
      (named (numbered (after_alone s p old was r i c k console free) (alone s p old was r i c k console free)))
      (own_table_tells s (after_alone s p old was r i c k console free) p old (ap live_part was) (λ f. refl))
      (record { file = λ f other h. refl; pipe = λ j other h. refl; kinds = λ f other. refl })

pub by_own : (s t : State) (v : View) (o u : Own) → o ≡ u → StateAfter s v u t → StateAfter s v o t
by_own s t v o u same h = subst (λ (x : Own). StateAfter s v x t) (sym same) h

pub answer : AnswerLaw
unfolding view_of
answer s p l c value image console free was =
    by_own s (alone_state p (with_answer value (record l { image = image })) console free s) (view_of s p l) (done c value (record (view_of s p l) { image = image; console = console; free = free }))
    (goes_on (Called c.number value) (view_of (alone_state p (with_answer value (record l { image = image })) console free s) p (with_answer value (record l { image = image }))))
    (done_is s p l was c image console free value)
    (alone_law s p l was (with_a0 l.regs (word value)) image None l.killed console free (Called c.number value) refl)

pub waiting : WaitingLaw
unfolding view_of
waiting s p l c moved image console free was =
    by_own s (alone_state p (in_call (record c { moved = moved }) (record l { image = image })) console free s) (view_of s p l)
    (waits c moved (record (view_of s p l) { image = image; console = console; free = free }))
    (goes_on (Blocked c.number) (view_of (alone_state p (in_call (record c { moved = moved }) (record l { image = image })) console free s) p
    (in_call (record c { moved = moved }) (record l { image = image }))))
    (waits_is s p l was c image console free moved)
    (alone_law s p l was l.regs image (Some (record c { moved = moved })) l.killed console free (Blocked c.number) refl)

pub exec : ExecPart
unfolding view_of
exec s p l c new was =
    by_own s (alone_state p (with_answer (pos new.argc) (started new l)) s.console (s.free + price l.image - price new.image) s) (view_of s p l) (done c (pos new.argc) (running new (view_of s p l)))
    (goes_on (Called c.number (pos new.argc)) (view_of
    (alone_state p (with_answer (pos new.argc) (started new l)) s.console (s.free + price l.image - price new.image) s) p
    (with_answer (pos new.argc) (started new l))))
    (ap (goes_on (Called c.number (pos new.argc))) (view_alone s p l was
    (with_a0 (with_pc (put (put l.regs SP new.sp) A1 new.sp) new.pc) (word (pos new.argc))) new.image None l.killed s.console
    (s.free + price l.image - price new.image)))
    (alone_law s p l was (with_a0 (with_pc (put (put l.regs SP new.sp) A1 new.sp) new.pc) (word (pos new.argc))) new.image None l.killed s.console
    (s.free + price l.image - price new.image) (Called c.number (pos new.argc)) refl)

-- ---- what a step begins with

-- where no page comes first
pub begins : (s : State) (p : ℕ) (l : Live) → IsBetweenCalls l → before_instruction (view_of s p l) ≡ view_of s p l → (st : Step)
    → next_instruction l.regs l.image ≡ st → own (view_of s p l) ≡ after_instruction (view_of s p l) st
unfolding own view_of
begins s p l runs there st is =
    ap (unless_killed (view_of s p l)) runs.0 ∙ ap (going_on (view_of s p l)) runs.1
    ∙ (λ i. after_instruction (there i) (next_instruction (there i).regs (there i).image)) ∙ ap (after_instruction (view_of s p l)) is

pub before-next : (s : State) (p : ℕ) (l : Live) (r : Registers) (st : Option Store) → next_instruction l.regs l.image ≡ Next r st → before_instruction (view_of s p l) ≡ view_of s p l
unfolding view_of
before-next s p l r st is = before_next (view_of s p l) r st is

pub instruction : InstructionLaw
unfolding view_of
instruction s p l r None was runs is =
    by_own s (own_state p (stepped r None l) s) (view_of s p l) (own (view_of s p l)) (goes_on Stepped (view_of (own_state p (stepped r None l) s) p (stepped r None l)))
    (begins s p l runs (before-next s p l r None is) (Next r None) is ∙ ap (goes_on Stepped) (view_alone s p l was r l.image l.call l.killed s.console s.free))
    (alone_law s p l was r l.image l.call l.killed s.console s.free Stepped refl)
instruction s p l r (Some st) was runs is =
    by_own s (own_state p (stepped r (Some st) l) s) (view_of s p l) (own (view_of s p l)) (goes_on Stepped (view_of (own_state p (stepped r (Some st) l) s) p (stepped r (Some st) l)))
    (begins s p l runs (before-next s p l r (Some st) is) (Next r (Some st)) is ∙ ap (goes_on Stepped) (view_alone s p l was r (with_store l.image st) l.call l.killed s.console s.free))
    (alone_law s p l was r (with_store l.image st) l.call l.killed s.console s.free Stepped refl)

pub resume : ResumeLaw
unfolding own view_of
resume s p l c unmarked busy = ap (unless_killed (view_of s p l)) unmarked ∙ ap (going_on (view_of s p l)) busy

pub end : EndLaw
unfolding own view_of
end s p l = (λ killed. ap (unless_killed (view_of s p l)) killed, λ cause runs is there. begins s p l runs there (Fault cause) is)

-- ---- what is done to the state in which a call is begun, or pages are touched, is what the step does

module _ (s : State) (p : ℕ) (l : Live) (was : get s.processes p ≡ Some (Alive l)) (r : Registers) (i : Image) (c : Option Call) (free : ℕ) where
  abbrev mid : State
  mid = state_begun s p l was r i c free

  file_same : (q d : ℕ) → file_at mid q d ≡ file_at s q d
  file_same q d = same_file_at s p l was r i c free q d

  pipe_same : (q d : ℕ) → pipe_at mid q d ≡ pipe_at s q d
  pipe_same q d = ap (pipe_of_file s) (file_same q d)

  mid_files : (o : Own) (t : State) → FilesAfter mid p o t → FilesAfter s p o t
  mid_files o t h = record {
    same_file = λ q d f g a b. h.same_file q d f g (file_same q d ∙ a) b;
    same_pipe = λ q d f g a b. h.same_pipe q d f g (pipe_same q d ∙ a) b;
    newborn = newborns o.child h.newborn;
    new_file = λ q d e f a b x. h.new_file q d e f a (λ k y. b k (sym (file_same p k) ∙ y)) x;
    new_pipe = λ q d e f a b x. h.new_pipe q d e f a (λ k y. b k (sym (pipe_same p k) ∙ y)) x;
  }
    where
      newborns : (c : Option View) → MatchOption c (Unit {0}) (λ c. (d : ℕ) → file_at t c.pid d ≡ file_at mid p d) → MatchOption c (Unit {0}) (λ c. (d : ℕ) → file_at t c.pid d ≡ file_at s p d)
      newborns None x = tt
      newborns (Some c) x = λ d. x d ∙ file_same p d

  some_before : (q : ℕ) → q ≢ p → IsSome (view mid q) → IsSome (view s q)
  some_before q apart x = by (view s q) (ap is_some (sym (same_view_of s p l was r i c free q apart)) ∙ x)
    where
      by : (o : Option View) → IsSome (option_map (λ (w : View). record w { free = free }) o) → IsSome o
      by None x = x
      by (Some w) x = refl

  pub mid_after : (o : Own) (t : State) → After mid p (with_call s p l was r i c free) o t → After s p l o t
  unfolding view_of
  mid_after o t h = record {
    next = h.next;
    newborn = h.newborn;
    others = quiet_begun s p l was r i c free o t h.others;
    no_more = λ q x. elim (eqb_tells q p) [
      | inl e ↦ inl e.1
      | inr e ↦ elim (h.no_more q x) [
        | inl mine ↦ inl mine
        | inr more ↦ inr (elim more [ inl there ↦ inl (some_before q e.1 there) | inr new ↦ inr new ])
      ]
    ];
    left = record { console = h.left.console; pids = h.left.pids; next_pid = h.left.next_pid; free = h.left.free; clock = h.left.clock; programs = h.left.programs };
    files = mid_files o t h.files;
  }

pub begun_after : (s : State) (p : ℕ) (l : Live) (was : get s.processes p ≡ Some (Alive l)) (o : Own) (t : State) → After (begun_state p l s) p (begun_live s p l) o t → After s p l o t
begun_after s p l was o t h = mid_after s p l was (with_pc l.regs (after l.regs)) l.image (Some (call_begun (view_of s p l))) s.free o t h

pub ecall : EcallLaw
unfolding view_of
ecall s p l was runs is = (ecall_own s p l was runs.0 runs.1 is, λ o t h. begun_after s p l was o t h)

pub touched : TouchLaw
unfolding view_of touch
touched s p l pages was fits = (
  λ absent. ap (λ b. cond b (at_price (brought pages l.image) (view_of s p l)) (Some (view_of s p l))) absent
      ∙ ap (λ b. cond b None (Some (record (view_of s p l)
      { image = brought pages l.image; free = s.free + price l.image - price (brought pages l.image) })))
      (le-ltb s.free (price (brought pages l.image) - price l.image) (omega (arith, fits)))
      ∙ ap Some (view_alone s p l was l.regs (brought pages l.image) l.call l.killed s.console (s.free + price l.image - price (brought pages l.image))),
  λ o t h. mid_after s p l was l.regs (brought pages l.image) l.call (s.free + price l.image - price (brought pages l.image)) o t h,
)
