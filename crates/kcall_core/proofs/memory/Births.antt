-- A vacant slot gets a memory made of free frames; a call that is refused.
use Rattle.kcall_core.proofs.Prelude.{[], ℕ, ◌%◌, ◌++◌, ◌+◌, ◌<◌, ◌∙◌, ◌∷◌, ◌≡◌, all_joined, ap, AreSound, arith, at-same, Belongs, Bool, cases_lt, cond, copies, copies-cons, copies-nil, copies-one}
use Rattle.kcall_core.proofs.Prelude.{count_if, each_of, empty, Err, false, free_in, fresh, gathered, get_or, Good, HasMemory, Held, held_in, IfErr, IfOk, Image, image_of, inl, inr, insert_some}
use Rattle.kcall_core.proofs.Prelude.{IsAccounted, IsMemory, IsSome, IsVacant, keeps_pipe, kept_pipe, length, length-all, length-replicate, List, Made, map, Memories, Memory, NoFrames, None}
use Rattle.kcall_core.proofs.Prelude.{none-some, NPROC, Ok, Option, or_nothing, pipe_in, Pool, process_frames, refl, Registers, replicate, Result, saved, set, slot_frames, SlotChanges, Some, Space}
use Rattle.kcall_core.proofs.Prelude.{Stands, subst, suc, sym, Taken, trade-join, trade-lengths, trade-none, Traded, true≢false, zero}
use Rattle.kcall_core.proofs.memory.Frames.{saved-zero, slot-free, Stays, stays-if}
use Rattle.kcall_core.proofs.memory.Changes.{each-at, trade-first, slot-filled, there-inside}
use Rattle.addr_space.specs.Space as space

-- ---- answers

pub done-both : {X A B C : Type 0} (r : Result X NoFrames) → IfOk r (λ _. A) → IfOk r (λ _. B) → (A → B → C) → IfOk r (λ _. C)
done-both (Ok u) a b f = f a b
done-both (Err u) a b f = tt

pub fails : {X A B : Type 0} (r : Result X NoFrames) → IfErr r (λ _. A) → (A → B) → IfErr r (λ _. B)
fails (Ok u) a f = tt
fails (Err u) a f = f a

-- nothing was traded where pool and RAM are the same
pub untraded : (pool pool' : Pool) (ram ram' : List (List ℕ)) (mine : List ℕ) → Good pool ram → pool' ≡ pool → ram' ≡ ram → Traded pool ram pool' ram' mine mine
untraded pool pool' ram ram' mine good same_pool same_ram =
    subst (λ p. Traded pool ram p ram' mine mine) (sym same_pool) (subst (λ r. Traded pool ram pool r mine mine) (sym same_ram) (trade-none pool ram mine good))

-- ---- a trapframe is taken, and a space is made

-- a frame that was taken is no longer free
pub taken-apart : {pool pool' : Pool} {ram ram' : List (List ℕ)} {t : ℕ} → Good pool ram → Taken pool ram pool' ram' t → copies t (free_in pool' ram') ≡ 0
taken-apart {pool} {pool'} {ram} {ram'} {t} good taken = omega (arith, taken.traded.frames t, good.frames.once t, copies-one t t, at-same t, copies-nil t)

module _ {pool pool1 pool2 : Pool} {ram ram1 ram2 : List (List ℕ)} {t : ℕ} {s : Space} (good : Good pool ram) (taken : Taken pool ram pool1 ram1 t) (made : Made pool1 ram1 pool2 ram2 s) where
  pub born-traded : Traded pool ram pool2 ram2 [] (t ∷ space.frames_of ram2 s)
  born-traded = trade-join pool pool1 pool2 ram ram1 ram2 [] (t ∷ []) (t ∷ space.frames_of ram2 s) taken.traded (trade-first pool1 pool2 ram1 ram2 [] (space.frames_of ram2 s) t made.traded)

  pub born-saved : saved ram2 t ≡ fresh 0
  born-saved = saved-zero ram2 t (made.traded.others t (taken-apart good taken) (copies-nil t) ∙ taken.zeros)

  pub born-whole : IsMemory ram2 (record { space = s; trapframe = t })
  born-whole = record { space = made.whole; aligned = ap (λ (r : Registers). r.pc % 4) born-saved }

-- the slot gets this space, and a trapframe of zeros
pub born : {old : Memories} {i : ℕ} {pool1 : Pool} {ram1 : List (List ℕ)} (new : Memories) (t : ℕ) (s : Space) (image : Image) → AreSound old
    → IsVacant (each_of old) i → Taken old.pool old.ram pool1 ram1 t → Made pool1 ram1 new.pool new.ram s → image_of new.ram s ≡ image
    → new.each.items ≡ set old.each.items i (Some (record { space = s; trapframe = t })) → new.pipes.items ≡ old.pipes.items → SlotChanges old new i (Some (record { image = image; saved = fresh 0 }))
born {old} {i} new t s image sound vacant taken made is each pipes =
    let filled = slot-filled new (record { space = s; trapframe = t }) sound vacant (born-traded sound.good taken made) (born-whole sound.good taken made) each pipes in
    let regs : saved new.ram t ≡ fresh 0 = born-saved sound.good taken made in
    let seen : held_in new.ram (Some (record { space = s; trapframe = t })) ≡ Some (record { image = image; saved = fresh 0 }) = λ k. Some (record { image = is k; saved = regs k }) in
    subst (λ h. SlotChanges old new i h) seen filled

-- ---- the memory that is copied

pub no-none : (ram : List (List ℕ)) (o : Option Memory) → IsSome (held_in ram o) → (m : Memory) × (o ≡ Some m)
no-none ram None h = absurd (no h)
  where
    no : IsSome (held_in ram None) → ⊥
    no e = cc
no-none ram (Some m) h = (m, refl)

-- a slot that has a memory
pub there-stands : (old : Memories) (i : ℕ) → AreSound old → HasMemory (each_of old) i → (m : Memory) × Stands old i m
there-stands old i sound there =
    let found = no-none old.ram (get_or old.each.items i None) (subst IsSome (each-at old i) there) in
    (found.0, record { sound = sound; inside = there-inside old i there; is = found.1 })

module _ {old : Memories} {i : ℕ} {m : Memory} {pool1 : Pool} {ram1 : List (List ℕ)} {t : ℕ} (s : Stands old i m) (taken : Taken old.pool old.ram pool1 ram1 t) where
  stays : Stays old.ram ram1 (Some m)
  stays = subst (Stays old.ram ram1) s.is (stays-if old.pool pool1 old.ram ram1 [] (t ∷ []) (get_or old.each.items i None) taken.traded
      (s.sound.memories i) (λ f has. omega (arith, slot-free s.sound f i, has, copies-nil f)))

  pub beside-belongs : Belongs pool1 ram1 m.space
  beside-belongs = record {
    good = taken.traded.good;
    whole = (stays.memory m refl).space;
    apart = λ f. omega (
      arith,
      slot-free s.sound f i,
      ap (λ o. copies f (slot_frames old.ram o)) s.is,
      ap (copies f) stays.frames,
      copies-cons f m.trapframe (space.frames_of old.ram m.space),
      copies-cons f m.trapframe (space.frames_of ram1 m.space),
      taken.traded.frames f,
      copies-nil f,
    );
  }

  pub beside-image : image_of ram1 m.space ≡ image_of old.ram m.space
  beside-image = ap (λ (o : Option Held). (or_nothing o).image) stays.held

-- one frame fewer is free
pub taken-length : {pool pool' : Pool} {ram ram' : List (List ℕ)} {t : ℕ} → Taken pool ram pool' ram' t → length (free_in pool ram) ≡ 1 + length (free_in pool' ram')
taken-length {pool} {pool'} {ram} {ram'} {t} taken = omega (arith, trade-lengths pool pool' ram ram' [] (t ∷ []) taken.traded)

-- ---- no memory at all

pub joined-none : {X : Type 0} (f : Option X → List ℕ) (n : ℕ) → f None ≡ [] → all_joined (map f (replicate n None)) ≡ []
unfolding all_joined
joined-none f zero e = refl
joined-none f (suc n) e = ap (λ l. l ++ all_joined (map f (replicate n None))) e ∙ joined-none f n e

pub get_or-same : {X : Type 0} (x : X) (n i : ℕ) → get_or (replicate n x) i x ≡ x
get_or-same x zero i = refl
get_or-same x (suc n) zero = refl
get_or-same x (suc n) (suc i) = get_or-same x n i

pub map-none : {X Y : Type 0} (f : Option X → Option Y) (n : ℕ) → f None ≡ None → map f (replicate n None) ≡ replicate n None
map-none f zero e = refl
map-none f (suc n) e = ap (λ y. y ∷ map f (replicate n None)) e ∙ ap (λ l. None ∷ l) (map-none f n e)

-- where all frames are free, no slot has a memory and no frame keeps a pipe, each frame is accounted for
pub none-sound : (pool : Pool) (ram : List (List ℕ)) (ms : List (Option Memory)) (ps : List Bool) (n k : ℕ) → Good pool ram
    → ((f : ℕ) → f < length ram → copies f (free_in pool ram) ≡ 1) → n ≡ NPROC → k ≡ length ram → ms ≡ replicate n None → ps ≡ replicate k false
    → IsAccounted pool ram ms ps
none-sound pool ram ms ps n k good free is_n is_k slots places =
    let processes : process_frames ram ms ≡ [] = ap (λ l. all_joined (map (slot_frames ram) l)) slots ∙ joined-none (slot_frames ram) n refl in
    let pipes : (f : ℕ) → keeps_pipe ps f ≡ false = λ f. ap (λ l. get_or l f false) places ∙ get_or-same false k f in
    record {
      good = good;
      slots = ap length slots ∙ length-replicate n None ∙ is_n;
      places = ap length places ∙ length-replicate k false ∙ is_k;
      memories = λ i m e. absurd (none-some m (sym (ap (λ l. get_or l i None) slots ∙ get_or-same None n i) ∙ e));
      keeps = λ f e. absurd (true≢false (sym e ∙ pipes f));
      once = λ f inside. omega (arith, free f inside, ap (copies f) processes, ap count_if (pipes f), copies-nil f);
      inside = λ f outside. elim (cases_lt 0 (copies f (free_in pool ram))) [
        | inl some ↦ absurd (omega (arith, good.frames.inside f some, outside))
        | inr none ↦ omega (arith, none, ap (copies f) processes, ap count_if (pipes f), copies-nil f)
      ];
    }

-- there are no pipes
pub no-pipes : (ram : List (List ℕ)) (ps : List Bool) (k n : ℕ) → ps ≡ replicate k false → gathered (kept_pipe ram ps) n ≡ empty
unfolding gathered
no-pipes ram ps k zero places = refl
no-pipes ram ps k (suc n) places =
    let none : kept_pipe ram ps n ≡ None = ap (λ b. cond b (Some (pipe_in ram n)) None) (ap (λ l. get_or l n false) places ∙ get_or-same false k n) in
    ap (insert_some (gathered (kept_pipe ram ps) n) n) none ∙ no-pipes ram ps k n places

pub all-free : (pool : Pool) (ram : List (List ℕ)) → Good pool ram → ((f : ℕ) → f < length ram → copies f (free_in pool ram) ≡ 1) → length (free_in pool ram) ≡ length ram
all-free pool ram good free = length-all (length ram) (free_in pool ram) good.frames free
