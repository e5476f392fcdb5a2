-- What a change of one owner's frames leaves of all other owners.
use Rattle.kcall_core.proofs.Prelude.{[], ℕ, ◌%◌, ◌*◌, ◌+◌, ◌<◌, ◌∙◌, ◌∷◌, ◌≡◌, ◌≢◌, ◌≤◌, Access, ap, arith, at-other, at-same, Bool, cases_eq, cases_lt, cond, copies, copies-cons, copies-one}
use Rattle.kcall_core.proofs.Prelude.{count_if, false, Fits, frame_at, free_in, fresh, gathered, get_or, get_or-map, held_cost, held_in, inl, inr, IsAccounted, IsMemory, IsPipe, keeps_pipe, kept_pipe}
use Rattle.kcall_core.proofs.Prelude.{length, List, map, Memory, None, none-some, nothing, Option, owners, pipe_in, Pool, process_frames, refl, Registers, replicate, ring_byte, same_Some, saved}
use Rattle.kcall_core.proofs.Prelude.{slot_frames, Some, Spared, spared, subst, suc, Traded, Translations, true, values_below, walked, word_at, word_at-same, word_at-zero, words_from, zero}
use Rattle.kcall_core.proofs.Prelude.{zero_frame}
use Rattle.addr_space.proofs.Trades.{space-price}
use Rattle.addr_space.proofs.Steps.{gathered-same}
use Rattle.kcall_core.proofs.memory.Joined.{joined-has, joined-two}
use Rattle.addr_space.specs.Space as space

-- ---- what one frame holds

words-same : (ram ram' : List (List ℕ)) (f i n : ℕ) → frame_at ram' f ≡ frame_at ram f → words_from ram' f i n ≡ words_from ram f i n
words-same ram ram' f i zero e = refl
words-same ram ram' f i (suc n) e = ap (λ w. w ∷ words_from ram' f (suc i) n) (word_at-same ram ram' f i e) ∙ ap (λ l. word_at ram f i ∷ l) (words-same ram ram' f (suc i) n e)

pub saved-same : (ram ram' : List (List ℕ)) (f : ℕ) → frame_at ram' f ≡ frame_at ram f → saved ram' f ≡ saved ram f
unfolding saved
saved-same ram ram' f e =
    let words = words-same ram ram' f 1 31 e in
    let pc = word_at-same ram ram' f 0 e in
    λ k. record { x = words k; pc = pc k }

pub pipe-same : (ram ram' : List (List ℕ)) (f : ℕ) → frame_at ram' f ≡ frame_at ram f → pipe_in ram' f ≡ pipe_in ram f
unfolding pipe_in
pipe-same ram ram' f e =
    let readers = word_at-same ram ram' f 0 e in
    let writers = word_at-same ram ram' f 1 e in
    let oldest = word_at-same ram ram' f 2 e in
    let count = word_at-same ram ram' f 3 e in
    λ k. record { bytes = values_below (count k) (ring_byte (e k) (oldest k)); readers = readers k; writers = writers k }

pub is-pipe-same : (ram ram' : List (List ℕ)) (f : ℕ) → length ram' ≡ length ram → frame_at ram' f ≡ frame_at ram f → IsPipe ram f → IsPipe ram' f
is-pipe-same ram ram' f count e p = record {
  inside = omega (arith, count, p.inside);
  reading = omega (arith, word_at-same ram ram' f 0 e, p.reading);
  writing = omega (arith, word_at-same ram ram' f 1 e, p.writing);
  oldest = omega (arith, word_at-same ram ram' f 2 e, p.oldest);
  count = omega (arith, word_at-same ram ram' f 3 e, p.count);
}

-- what a hart keeps is true as long as the walks stay
pub fits-stay : (ram ram' : List (List ℕ)) (root : ℕ) (cache : Translations)
    → ((va : ℕ) (access : Access) → walked ram' root va access ≡ walked ram root va access) → Fits ram root cache → Fits ram' root cache
fits-stay ram ram' root cache walks fits = record {
  each = λ i access allowed. ((fits.each i access allowed).0, λ offset lt. walks (4096 * (get_or cache.places i nothing).page + offset) access ∙ (fits.each i access allowed).1 offset lt);
}

-- ---- whose frame it is

pub frames-at : (ram : List (List ℕ)) (ms : List (Option Memory)) (i : ℕ) → get_or (map (slot_frames ram) ms) i [] ≡ slot_frames ram (get_or ms i None)
frames-at ram ms i = get_or-map (slot_frames ram) ms i None

module _ {pool : Pool} {ram : List (List ℕ)} {ms : List (Option Memory)} {ps : List Bool} (sound : IsAccounted pool ram ms ps) where
  total : (x : ℕ) → owners pool ram ms ps x ≤ 1
  total x = elim (cases_lt x (length ram)) [ inl lt ↦ omega (arith, sound.once x lt) | inr ge ↦ omega (arith, sound.inside x ge) ]

  slot-has : (x i : ℕ) → copies x (slot_frames ram (get_or ms i None)) ≤ copies x (process_frames ram ms)
  slot-has x i = omega (arith, joined-has x (map (slot_frames ram) ms) i, ap (copies x) (frames-at ram ms i))

  -- what is free or owned lies in RAM
  pub slot-inside : (x i : ℕ) → 1 ≤ copies x (slot_frames ram (get_or ms i None)) → x < length ram
  slot-inside x i has = elim (cases_lt x (length ram)) [ inl lt ↦ lt | inr ge ↦ absurd (omega (arith, sound.inside x ge, slot-has x i, has)) ]

  -- the frames of one slot aren't free
  pub slot-free : (x i : ℕ) → copies x (free_in pool ram) + copies x (slot_frames ram (get_or ms i None)) ≤ 1
  slot-free x i = omega (arith, total x, slot-has x i)

  -- the frame of a pipe isn't free, and isn't in a slot
  pub pipe-free : (x : ℕ) → keeps_pipe ps x ≡ true → copies x (free_in pool ram) ≡ 0
  pipe-free x keeps = omega (arith, total x, ap count_if keeps)

  -- the frames of two slots
  pub slots-apart : (x i j : ℕ) → j ≢ i → 1 ≤ copies x (slot_frames ram (get_or ms j None)) → copies x (free_in pool ram) + copies x (slot_frames ram (get_or ms i None)) ≡ 0
  slots-apart x i j ne has =
      let two = joined-two x (map (slot_frames ram) ms) j i ne in
      omega (arith, total x, two, has, ap (copies x) (frames-at ram ms i), ap (copies x) (frames-at ram ms j))

  pub pipe-apart : (x i : ℕ) → keeps_pipe ps x ≡ true → copies x (free_in pool ram) + copies x (slot_frames ram (get_or ms i None)) ≡ 0
  pipe-apart x i keeps = omega (arith, total x, slot-has x i, ap count_if keeps)

  -- the frames of a slot, and that of a pipe
  pub slot-pipe-apart : (x i f : ℕ) → keeps_pipe ps f ≡ true → 1 ≤ copies x (slot_frames ram (get_or ms i None)) → copies x (free_in pool ram) + copies x (f ∷ []) ≡ 0
  slot-pipe-apart x i f keeps has = elim (cases_eq x f) [
    | inl e ↦ absurd (omega (arith, pipe-apart x i (ap (keeps_pipe ps) e ∙ keeps), has))
    | inr ne ↦ omega (arith, total x, slot-has x i, has, copies-one x f, at-other x f ne)
  ]

  -- the frames of two pipes
  pub pipes-apart : (x f : ℕ) → keeps_pipe ps x ≡ true → x ≢ f → copies x (free_in pool ram) + copies x (f ∷ []) ≡ 0
  pipes-apart x f keeps ne = omega (arith, pipe-free x keeps, copies-one x f, at-other x f ne)

-- ---- isolation: an owner that has none of the frames that may be written

-- a memory is as it was: its frames, what it stands for, where its tables lead
pub record Stays (ram ram' : List (List ℕ)) (m : Option Memory) : Type 0 where
  pub frames : slot_frames ram' m ≡ slot_frames ram m
  pub held : held_in ram' m ≡ held_in ram m
  pub memory : (n : Memory) → m ≡ Some n → IsMemory ram' n
  pub walks : (n : Memory) → m ≡ Some n → (va : ℕ) (access : Access) → walked ram' n.space.root va access ≡ walked ram n.space.root va access

pub stays-if : (pool pool' : Pool) (ram ram' : List (List ℕ)) (mine mine' : List ℕ) (m : Option Memory) → Traded pool ram pool' ram' mine mine' → ((n : Memory) → m ≡ Some n → IsMemory ram n)
    → ((f : ℕ) → 1 ≤ copies f (slot_frames ram m) → copies f (free_in pool ram) + copies f mine ≡ 0) → Stays ram ram' m
stays-if pool pool' ram ram' mine mine' None traded is apart = record {
  frames = refl;
  held = refl;
  memory = λ n e. absurd (none-some n e);
  walks = λ n e. absurd (none-some n e);
}
stays-if pool pool' ram ram' mine mine' (Some m) traded is apart =
    let own = space.frames_of ram m.space in
    let s : Spared ram ram' m.space = spared pool pool' ram ram' mine mine' m.space traded
    (record { whole = (is m refl).space; apart = λ f has. apart f (omega (arith, copies-cons f m.trapframe own, has)) }) in
    let none = apart m.trapframe (omega (arith, copies-cons m.trapframe m.trapframe own, at-same m.trapframe)) in
    let registers : saved ram' m.trapframe ≡ saved ram m.trapframe = saved-same ram ram' m.trapframe (traded.others m.trapframe (omega (arith, none)) (omega (arith, none))) in
    let memory : IsMemory ram' m = record { space = s.whole; aligned = ap (λ (r : Registers). r.pc % 4) registers ∙ (is m refl).aligned } in
    record {
      frames = ap (λ l. m.trapframe ∷ l) s.frames;
      held = λ k. Some (record { image = s.image k; saved = registers k });
      memory = λ n e. subst (IsMemory ram') (same_Some m n e) memory;
      walks = λ n e. subst (λ (x : Memory). (va : ℕ) (access : Access) → walked ram' x.space.root va access ≡ walked ram x.space.root va access) (same_Some m n e) s.walks;
    }

-- a pipe is as it was
pub record PipeStays (ram ram' : List (List ℕ)) (f : ℕ) : Type 0 where
  pub keeps : IsPipe ram' f
  pub same : pipe_in ram' f ≡ pipe_in ram f

pub pipe-stays-if : (pool pool' : Pool) (ram ram' : List (List ℕ)) (mine mine' : List ℕ) (f : ℕ) → Traded pool ram pool' ram' mine mine'
    → IsPipe ram f → copies f (free_in pool ram) + copies f mine ≡ 0 → PipeStays ram ram' f
pipe-stays-if pool pool' ram ram' mine mine' f traded is none =
    let bytes : frame_at ram' f ≡ frame_at ram f = traded.others f (omega (arith, none)) (omega (arith, none)) in
    record { keeps = is-pipe-same ram ram' f traded.count bytes is; same = pipe-same ram ram' f bytes }

-- all pipes are seen as they were
pub pipe-seen : (ram ram' : List (List ℕ)) (f : ℕ) (b : Bool) → (b ≡ true → pipe_in ram' f ≡ pipe_in ram f) → cond b (Some (pipe_in ram' f)) None ≡ cond b (Some (pipe_in ram f)) None
pipe-seen ram ram' f true same = ap Some (same refl)
pipe-seen ram ram' f false same = refl

pub pipes-seen : (ram ram' : List (List ℕ)) (ps : List Bool) (n : ℕ) → ((f : ℕ) → keeps_pipe ps f ≡ true → pipe_in ram' f ≡ pipe_in ram f)
    → gathered (kept_pipe ram' ps) n ≡ gathered (kept_pipe ram ps) n
pipes-seen ram ram' ps n same = gathered-same (kept_pipe ram ps) (kept_pipe ram' ps) n (λ f. pipe-seen ram ram' f (keeps_pipe ps f) (same f))

-- what a memory costs is how many frames it has
pub cost-frames : (ram : List (List ℕ)) (m : Option Memory) → ((n : Memory) → m ≡ Some n → IsMemory ram n) → length (slot_frames ram m) ≡ held_cost (held_in ram m)
cost-frames ram None is = refl
cost-frames ram (Some m) is = omega (arith, space-price ram m.space (is m refl).space)

-- a frame of zeros, as a trapframe
words-zero : (ram : List (List ℕ)) (f i n : ℕ) → frame_at ram f ≡ zero_frame → words_from ram f i n ≡ replicate n 0
words-zero ram f i zero e = refl
words-zero ram f i (suc n) e = ap (λ w. w ∷ words_from ram f (suc i) n) (word_at-zero ram f i e) ∙ ap (λ l. 0 ∷ l) (words-zero ram f (suc i) n e)

pub saved-zero : (ram : List (List ℕ)) (f : ℕ) → frame_at ram f ≡ zero_frame → saved ram f ≡ fresh 0
unfolding saved
saved-zero ram f e =
    let words = words-zero ram f 1 31 e in
    let pc = word_at-zero ram f 0 e in
    λ k. record { x = words k; pc = pc k }
