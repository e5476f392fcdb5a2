-- The one law of the memories: a change that moves frames only between the free ones and one owner changes that owner alone.
use Rattle.kcall_core.proofs.Prelude.{[], ℕ, ◌%◌, ◌+◌, ◌<◌, ◌∙◌, ◌∷◌, ◌≡◌, ◌≢◌, all_joined, ap, AreSound, arith, at-same, Belongs, Bool, cases_eq, Changed, copies, copies-cons, copies-nil, each_of}
use Rattle.kcall_core.proofs.Prelude.{false≢true, FRAMES_MAX, free_in, free_of, gathered, get_or, get_or-map, get_or-set_other, get_or-set_same, get_or_read, Hart, HasMemory, Held, held_at, held_cost}
use Rattle.kcall_core.proofs.Prelude.{held_in, Image, image_of, inl, inr, IsAccounted, IsMemory, IsSome, IsVacant, keeps_pipe, kept_pipe, length, length-map, length-set, List, map, Memories, Memory}
use Rattle.kcall_core.proofs.Prelude.{None, none-some, Option, or_nothing, pipes_of, Pool, price, process_frames, refl, Registers, RunsIn, Same, same_Some, saved, set, slot_frames, SlotChanges, Some}
use Rattle.kcall_core.proofs.Prelude.{Space, Stands, subst, suc, sym, trade-lengths, Traded, true, with_image, zero}
use Rattle.kcall_core.proofs.memory.Lists.{map-same, map-set_one}
use Rattle.kcall_core.proofs.memory.Joined.{joined-set}
use Rattle.kcall_core.proofs.memory.Frames.{saved-same, fits-stay, frames-at, slot-free, slot-inside, pipe-free, slots-apart, pipe-apart, Stays, stays-if, PipeStays, pipe-stays-if, pipes-seen}
use Rattle.kcall_core.proofs.memory.Frames.{cost-frames}
use Rattle.addr_space.specs.Space as space

-- ---- one slot

module _ {pool pool' : Pool} {ram ram' : List (List ℕ)} {ms : List (Option Memory)} {ps : List Bool} (i : ℕ) (m : Option Memory) (sound : IsAccounted pool ram ms ps) (lt : i < length ms)
    (traded : Traded pool ram pool' ram' (slot_frames ram (get_or ms i None)) (slot_frames ram' m)) (is : (n : Memory) → m ≡ Some n → IsMemory ram' n) where
  pub others : (j : ℕ) → j ≢ i → Stays ram ram' (get_or ms j None)
  others j ne = stays-if pool pool' ram ram' (slot_frames ram (get_or ms i None)) (slot_frames ram' m) (get_or ms j None) traded (sound.memories j) (λ f has. slots-apart sound f i j ne has)

  pipe-others : (f : ℕ) → keeps_pipe ps f ≡ true → PipeStays ram ram' f
  pipe-others f keeps = pipe-stays-if pool pool' ram ram' (slot_frames ram (get_or ms i None)) (slot_frames ram' m) f traded (sound.keeps f keeps) (pipe-apart sound f i keeps)

  lists : map (slot_frames ram') (set ms i m) ≡ set (map (slot_frames ram) ms) i (slot_frames ram' m)
  lists = map-set_one (slot_frames ram) (slot_frames ram') ms i m None (λ j inside ne. (others j ne).frames)

  account : (x : ℕ) → copies x (process_frames ram' (set ms i m)) + copies x (slot_frames ram (get_or ms i None)) ≡ copies x (process_frames ram ms) + copies x (slot_frames ram' m)
  account x =
      let one = joined-set x (map (slot_frames ram) ms) i (slot_frames ram' m) (omega (arith, lt, length-map ms (slot_frames ram))) in
      omega (arith, one, ap (λ l. copies x (all_joined l)) lists, ap (copies x) (frames-at ram ms i))

  pub sound-after : IsAccounted pool' ram' (set ms i m) ps
  sound-after = record {
    good = traded.good;
    slots = length-set ms i m ∙ sound.slots;
    places = sound.places ∙ sym traded.count;
    memories = λ j n e. elim (cases_eq j i) [
      | inl same ↦ is n (sym (ap (λ k. get_or (set ms i m) k None) same ∙ get_or-set_same ms i m None lt) ∙ e)
      | inr ne ↦ (others j ne).memory n (sym (get_or-set_other ms i j m None ne) ∙ e)
    ];
    keeps = λ f e. (pipe-others f e).keeps;
    once = λ f inside. omega (arith, sound.once f (omega (arith, traded.count, inside)), account f, traded.frames f);
    inside = λ f outside. omega (arith, sound.inside f (omega (arith, traded.count, outside)), account f, traded.frames f);
  }

  pub each-after : map (held_in ram') (set ms i m) ≡ set (map (held_in ram) ms) i (held_in ram' m)
  each-after = map-set_one (held_in ram) (held_in ram') ms i m None (λ j inside ne. (others j ne).held)

  pub pipes-after : (n : ℕ) → gathered (kept_pipe ram' ps) n ≡ gathered (kept_pipe ram ps) n
  pipes-after n = pipes-seen ram ram' ps n (λ f keeps. (pipe-others f keeps).same)

  pub free-after : length (free_in pool' ram') + held_cost (held_in ram' m) ≡ length (free_in pool ram) + held_cost (held_in ram (get_or ms i None))
  free-after =
      omega (arith, trade-lengths pool pool' ram ram' (slot_frames ram (get_or ms i None)) (slot_frames ram' m) traded, cost-frames ram' m is, cost-frames ram (get_or ms i None) (sound.memories i))

-- the memory in a slot, as it is seen
pub each-at : (old : Memories) (i : ℕ) → get_or (each_of old) i None ≡ held_in old.ram (get_or old.each.items i None)
unfolding each_of
each-at old i = get_or-map (held_in old.ram) old.each.items i None

-- the memory in a slot is another
pub slot-changes : (old new : Memories) (i : ℕ) (m : Option Memory) → AreSound old → i < length old.each.items
    → Traded old.pool old.ram new.pool new.ram (slot_frames old.ram (get_or old.each.items i None)) (slot_frames new.ram m)
    → ((n : Memory) → m ≡ Some n → IsMemory new.ram n) → new.each.items ≡ set old.each.items i m → new.pipes.items ≡ old.pipes.items → SlotChanges old new i (held_in new.ram m)
unfolding each_of pipes_of free_of
slot-changes old new i m sound lt traded is each pipes = record {
  sound = subst (λ e. IsAccounted new.pool new.ram e new.pipes.items) (sym each)
      (subst (λ p. IsAccounted new.pool new.ram (set old.each.items i m) p) (sym pipes) (sound-after i m sound lt traded is));
  each = ap (map (held_in new.ram)) each ∙ each-after i m sound lt traded is;
  pipes = ap (λ l. gathered (kept_pipe new.ram l) FRAMES_MAX) pipes ∙ pipes-after i m sound lt traded is FRAMES_MAX;
  free = omega (arith, free-after i m sound lt traded is, ap held_cost (get_or-map (held_in old.ram) old.each.items i None));
  frames = traded.count;
  runs = λ j hart ne r. record {
    memory = r.memory;
    is = ap (λ l. get_or l j None) each ∙ get_or-set_other old.each.items i j m None ne ∙ r.is;
    root = r.root;
    fits = fits-stay old.ram new.ram r.memory.space.root hart.cache ((others i m sound lt traded is j ne).walks r.memory r.is) r.fits;
  };
}

-- ---- nothing that is owned changes

module _ {pool pool' : Pool} {ram ram' : List (List ℕ)} {ms : List (Option Memory)} {ps : List Bool} (sound : IsAccounted pool ram ms ps) (traded : Traded pool ram pool' ram' [] []) where
  same-slot : (j : ℕ) → Stays ram ram' (get_or ms j None)
  same-slot j = stays-if pool pool' ram ram' [] [] (get_or ms j None) traded (sound.memories j) (λ f has. omega (arith, slot-free sound f j, has, copies-nil f))

  same-pipe : (f : ℕ) → keeps_pipe ps f ≡ true → PipeStays ram ram' f
  same-pipe f keeps = pipe-stays-if pool pool' ram ram' [] [] f traded (sound.keeps f keeps) (omega (arith, pipe-free sound f keeps, copies-nil f))

  same-frames : map (slot_frames ram') ms ≡ map (slot_frames ram) ms
  same-frames = map-same (slot_frames ram) (slot_frames ram') ms None (λ j inside. (same-slot j).frames)

  same-sound : IsAccounted pool' ram' ms ps
  same-sound = record {
    good = traded.good;
    slots = sound.slots;
    places = sound.places ∙ sym traded.count;
    memories = λ j n e. (same-slot j).memory n e;
    keeps = λ f e. (same-pipe f e).keeps;
    once = λ f inside. omega (arith, sound.once f (omega (arith, traded.count, inside)), traded.frames f, copies-nil f, ap (λ l. copies f (all_joined l)) same-frames);
    inside = λ f outside. omega (arith, sound.inside f (omega (arith, traded.count, outside)), traded.frames f, copies-nil f, ap (λ l. copies f (all_joined l)) same-frames);
  }

  same-each : map (held_in ram') ms ≡ map (held_in ram) ms
  same-each = map-same (held_in ram) (held_in ram') ms None (λ j inside. (same-slot j).held)

  same-pipes : (n : ℕ) → gathered (kept_pipe ram' ps) n ≡ gathered (kept_pipe ram ps) n
  same-pipes n = pipes-seen ram ram' ps n (λ f keeps. (same-pipe f keeps).same)

pub same-if : (old new : Memories) → AreSound old → Traded old.pool old.ram new.pool new.ram [] [] → new.each.items ≡ old.each.items → new.pipes.items ≡ old.pipes.items → Same old new
unfolding each_of pipes_of free_of
same-if old new sound traded each pipes = record {
  sound = subst (λ e. IsAccounted new.pool new.ram e new.pipes.items) (sym each) (subst (λ p. IsAccounted new.pool new.ram old.each.items p) (sym pipes) (same-sound sound traded));
  each = ap (map (held_in new.ram)) each ∙ same-each sound traded;
  pipes = ap (λ l. gathered (kept_pipe new.ram l) FRAMES_MAX) pipes ∙ same-pipes sound traded FRAMES_MAX;
  free = omega (arith, trade-lengths old.pool new.pool old.ram new.ram [] [] traded);
  frames = traded.count;
  runs = λ j hart r. record {
    memory = r.memory;
    is = ap (λ l. get_or l j None) each ∙ r.is;
    root = r.root;
    fits = fits-stay old.ram new.ram r.memory.space.root hart.cache ((same-slot sound traded j).walks r.memory r.is) r.fits;
  };
}

-- ---- the space in a slot is another

pub trade-first : (pool pool' : Pool) (ram ram' : List (List ℕ)) (mine mine' : List ℕ) (t : ℕ) → Traded pool ram pool' ram' mine mine' → Traded pool ram pool' ram' (t ∷ mine) (t ∷ mine')
trade-first pool pool' ram ram' mine mine' t traded = record {
  good = traded.good;
  count = traded.count;
  frames = λ f. omega (arith, traded.frames f, copies-cons f t mine, copies-cons f t mine');
  others = λ f free own. traded.others f free (omega (arith, own, copies-cons f t mine));
}

pub belongs-of : {old : Memories} {i : ℕ} {m : Memory} → Stands old i m → Belongs old.pool old.ram m.space
belongs-of {old} {i} {m} s = record {
  good = s.sound.good;
  whole = (s.sound.memories i m s.is).space;
  apart = λ f. omega (arith, slot-free s.sound f i, ap (λ o. copies f (slot_frames old.ram o)) s.is, copies-cons f m.trapframe (space.frames_of old.ram m.space));
}

-- the trapframe isn't free, nor one of the space's frames
pub trapframe-apart : {old : Memories} {i : ℕ} {m : Memory} → Stands old i m → (copies m.trapframe (free_in old.pool old.ram) ≡ 0) × (copies m.trapframe (space.frames_of old.ram m.space) ≡ 0)
trapframe-apart {old} {i} {m} s =
    let t = m.trapframe in
    let own = space.frames_of old.ram m.space in (
      omega (arith, slot-free s.sound t i, ap (λ o. copies t (slot_frames old.ram o)) s.is, copies-cons t t own, at-same t),
      omega (arith, slot-free s.sound t i, ap (λ o. copies t (slot_frames old.ram o)) s.is, copies-cons t t own, at-same t),
    )

pub trapframe-inside : {old : Memories} {i : ℕ} {m : Memory} → Stands old i m → m.trapframe < length old.ram
trapframe-inside {old} {i} {m} s =
    let t = m.trapframe in
    slot-inside s.sound t i (omega (arith, ap (λ o. copies t (slot_frames old.ram o)) s.is, copies-cons t t (space.frames_of old.ram m.space), at-same t))

pub held-seen : {old : Memories} {i : ℕ} {m : Memory} → Stands old i m → held_at (each_of old) i ≡ record { image = image_of old.ram m.space; saved = saved old.ram m.trapframe }
held-seen {old} {i} {m} s = ap or_nothing (each-at old i ∙ ap (held_in old.ram) s.is)

pub image-seen : {old : Memories} {i : ℕ} {m : Memory} → Stands old i m → (held_at (each_of old) i).image ≡ image_of old.ram m.space
image-seen {old} {i} {m} s = ap (λ (h : Held). h.image) (held-seen s)

pub cost-seen : {old : Memories} {i : ℕ} {m : Memory} → Stands old i m → held_cost (get_or (each_of old) i None) ≡ price (image_of old.ram m.space) + 1
cost-seen {old} {i} {m} s = ap held_cost (each-at old i ∙ ap (held_in old.ram) s.is)

pub space-changes : {old : Memories} {i : ℕ} {m : Memory} (new : Memories) (space' : Space) (image : Image) → Stands old i m
    → Changed old.pool old.ram m.space new.pool new.ram space' → image_of new.ram space' ≡ image
    → new.each.items ≡ set old.each.items i (Some (record { space = space'; trapframe = m.trapframe })) → new.pipes.items ≡ old.pipes.items
    → SlotChanges old new i (Some (with_image image (held_at (each_of old) i)))
space-changes {old} {i} {m} new space' image s changed is_image each pipes =
    let after : Memory = record { space = space'; trapframe = m.trapframe } in
    let apart = trapframe-apart s in
    let registers : saved new.ram m.trapframe ≡ saved old.ram m.trapframe = saved-same old.ram new.ram m.trapframe (changed.traded.others m.trapframe apart.0 apart.1) in
    let whole : IsMemory new.ram after = record { space = changed.whole; aligned = ap (λ (r : Registers). r.pc % 4) registers ∙ (s.sound.memories i m s.is).aligned } in
    let traded : Traded old.pool old.ram new.pool new.ram (slot_frames old.ram (get_or old.each.items i None)) (slot_frames new.ram (Some after)) =
    subst (λ o. Traded old.pool old.ram new.pool new.ram (slot_frames old.ram o) (slot_frames new.ram (Some after))) (sym s.is)
    (trade-first old.pool new.pool old.ram new.ram (space.frames_of old.ram m.space) (space.frames_of new.ram space') m.trapframe changed.traded) in
    let changes = slot-changes old new i (Some after) s.sound s.inside traded (λ n e. subst (IsMemory new.ram) (same_Some after n e) whole) each pipes in
    let seen : held_in new.ram (Some after) ≡ Some (with_image image
    (record { image = image_of old.ram m.space; saved = saved old.ram m.trapframe })) = λ k. Some (record { image = is_image k; saved = registers k }) in
    subst (λ h. SlotChanges old new i h) (seen ∙ ap (λ h. Some (with_image image h)) (sym (held-seen s))) changes

-- ---- the memory of a slot goes

pub slot-gone : {old : Memories} {i : ℕ} {m : Memory} (new : Memories) → Stands old i m
    → Traded old.pool old.ram new.pool new.ram (m.trapframe ∷ space.frames_of old.ram m.space) [] → new.each.items ≡ set old.each.items i None
    → new.pipes.items ≡ old.pipes.items → SlotChanges old new i None
slot-gone {old} {i} {m} new s traded each pipes =
    slot-changes old new i None s.sound s.inside (subst (λ o. Traded old.pool old.ram new.pool new.ram (slot_frames old.ram o) []) (sym s.is) traded) (λ n e. absurd (none-some n e)) each pipes

-- ---- a vacant slot gets a memory

pub none-held : (ram : List (List ℕ)) (o : Option Memory) → held_in ram o ≡ None → o ≡ None
none-held ram None e = refl
none-held ram (Some m) e = absurd (none-some (or_nothing (held_in ram (Some m))) (sym e))

pub vacant-inside : (old : Memories) (i : ℕ) → IsVacant (each_of old) i → i < length old.each.items
unfolding each_of
vacant-inside old i vacant = omega (arith, vacant.0, length-map old.each.items (held_in old.ram))

pub vacant-is : (old : Memories) (i : ℕ) → IsVacant (each_of old) i → get_or old.each.items i None ≡ None
vacant-is old i vacant = none-held old.ram (get_or old.each.items i None) (sym (each-at old i) ∙ vacant.1)

pub slot-filled : {old : Memories} {i : ℕ} (new : Memories) (n : Memory) → AreSound old → IsVacant (each_of old) i
    → Traded old.pool old.ram new.pool new.ram [] (n.trapframe ∷ space.frames_of new.ram n.space) → IsMemory new.ram n
    → new.each.items ≡ set old.each.items i (Some n) → new.pipes.items ≡ old.pipes.items → SlotChanges old new i (held_in new.ram (Some n))
slot-filled {old} {i} new n sound vacant traded whole each pipes =
    slot-changes old new i (Some n) sound (vacant-inside old i vacant)
    (subst (λ o. Traded old.pool old.ram new.pool new.ram (slot_frames old.ram o) (slot_frames new.ram (Some n))) (sym (vacant-is old i vacant)) traded)
    (λ m e. subst (IsMemory new.ram) (same_Some n m e) whole) each pipes

-- ---- a slot that has a memory

pub some-inside : {X : Type 0} (xs : List (Option X)) (i : ℕ) → IsSome (get_or xs i None) → i < length xs
some-inside [] i h = absurd (false≢true h)
some-inside (x ∷ xs) zero h = omega arith
some-inside (x ∷ xs) (suc i) h = omega (arith, some-inside xs i h)

-- what is read from a place that has something
pub read-some : {X : Type 0} (xs : List (Option X)) (i : ℕ) (o : Option X) → IsSome (get_or xs i None) → o ≡ get_or xs i o → o ≡ None → ⊥
read-some xs i o has read none = false≢true (subst IsSome (ap (get_or xs i) (sym none) ∙ sym read ∙ none) has)

pub there-inside : (old : Memories) (i : ℕ) → HasMemory (each_of old) i → i < length old.each.items
unfolding each_of
there-inside old i there = omega (arith, some-inside (each_of old) i there, length-map old.each.items (held_in old.ram))

-- what is read from a slot that has one
pub there-some : (old : Memories) (i : ℕ) (o : Option Memory) → HasMemory (each_of old) i → o ≡ get_or old.each.items i o → o ≡ None → ⊥
there-some old i o there read none =
    let is : get_or old.each.items i None ≡ None = ap (get_or old.each.items i) (sym none) ∙ sym read ∙ none in
    no-held (subst IsSome (each-at old i ∙ ap (held_in old.ram) is) there)
  where
    no-held : IsSome (held_in old.ram None) → ⊥
    no-held h = cc

pub stands : {old : Memories} {i : ℕ} (o : Option Memory) (m : Memory) → AreSound old → HasMemory (each_of old) i → o ≡ get_or old.each.items i o → o ≡ Some m → Stands old i m
stands {old} {i} o m sound there read some =
    let lt : i < length old.each.items = there-inside old i there in
    record { sound = sound; inside = lt; is = sym (get_or_read old.each.items i o lt read None) ∙ some }

-- the slot has a memory of the kernel's, since what it stands for is one
pub there-held : (old : Memories) (i : ℕ) → HasMemory (each_of old) i → IsSome (get_or old.each.items i None)
there-held old i there = by (get_or old.each.items i None) refl
  where
    no-held : IsSome (held_in old.ram None) → ⊥
    no-held h = cc

    by : (o : Option Memory) → get_or old.each.items i None ≡ o → IsSome o
    by None e = absurd (no-held (subst IsSome (each-at old i ∙ ap (held_in old.ram) e) there))
    by (Some m) e = refl

-- the memory that was found in a slot stands there
pub stood : {old : Memories} {i : ℕ} {m : Memory} → AreSound old → HasMemory (each_of old) i → get_or old.each.items i None ≡ Some m → Stands old i m
stood {old} {i} sound there is = record { sound = sound; inside = there-inside old i there; is = is }

pub there-below : (old : Memories) (i : ℕ) → HasMemory (each_of old) i → i < old.each.len
there-below old i there = omega (arith, there-inside old i there, old.each.ok.0)

pub vacant-below : (old : Memories) (i : ℕ) → IsVacant (each_of old) i → i < old.each.len
vacant-below old i vacant = omega (arith, vacant-inside old i vacant, old.each.ok.0)

some-below : {X : Type 0} (xs : List (Option X)) (i : ℕ) (x : X) → get_or xs i None ≡ Some x → i < length xs
some-below xs i x e = some-inside xs i (subst IsSome (sym e) (is-some x))
  where
    is-some : {Y : Type 0} (y : Y) → IsSome (Some y)
    is-some y = refl

pub runs-inside : {old : Memories} {i : ℕ} {hart : Hart} → RunsIn old i hart → i < length old.each.items
runs-inside {old} {i} r = some-below old.each.items i r.memory r.is
