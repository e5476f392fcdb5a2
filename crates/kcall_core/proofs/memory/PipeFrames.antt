-- A change of the frame of one pipe.
use Rattle.kcall_core.proofs.Prelude.{[], ℕ, ◌+◌, ◌<◌, ◌∙◌, ◌∷◌, ◌≡◌, ◌≢◌, ◌≤◌, all_joined, ap, AreSound, arith, at, at-other, at-same, Becomes, Bool, cases_eq, cond, copies, copies-nil, copies-one}
use Rattle.kcall_core.proofs.Prelude.{count_if, each_of, eq_by_cmp, false, false≢true, FinMap, FRAMES_MAX, free_in, free_in-written, free_of, gathered, gathered-get, get, get-insert, get-remove}
use Rattle.kcall_core.proofs.Prelude.{get_or, get_or-set_other, get_or-set_same, Given, Good, Good-written, held_in, inl, inr, IsAccounted, IsPipe, IsSome, keeps_pipe, kept_pipe, length, length-set}
use Rattle.kcall_core.proofs.Prelude.{List, lt-ltb, ltb, map, Memories, Memory, nat_cmp, nat_cmp_total, None, Option, or_new, OthersStay, Pipe, pipe_cost, pipe_in, pipe_named, PipeChanges, pipes_of}
use Rattle.kcall_core.proofs.Prelude.{Pool, process_frames, refl, same_pages, set, slot_frames, Some, subst, sym, Taken, tie-no, tie-yes, trade-join, trade-lengths, Traded, true, with_pipe}
use Rattle.kcall_core.proofs.memory.Lists.{map-same, set-read}
use Rattle.kcall_core.proofs.memory.Frames.{fits-stay, slot-free, slot-pipe-apart, pipe-free, pipes-apart, Stays, stays-if, PipeStays, pipe-stays-if, pipe-seen}
use Rattle.kcall_core.proofs.memory.Births.{taken-apart}

-- the frame of a pipe, if there is one
abbrev pub own_pipe : Bool → ℕ → List ℕ
own_pipe true f = f ∷ []
own_pipe false f = []

own-at : (b : Bool) (f : ℕ) → copies f (own_pipe b f) ≡ count_if b
own-at true f = copies-one f f ∙ at-same f
own-at false f = copies-nil f

own-other : (b : Bool) (x f : ℕ) → x ≢ f → copies x (own_pipe b f) ≡ 0
own-other true x f ne = copies-one x f ∙ at-other x f ne
own-other false x f ne = copies-nil x

own-length : (b : Bool) (f : ℕ) → length (own_pipe b f) ≡ count_if b
own-length true f = refl
own-length false f = refl

cost-count : (b : Bool) (p : Pipe) → pipe_cost (cond b (Some p) None) ≡ count_if b
cost-count true p = refl
cost-count false p = refl

get-with : (m : FinMap nat_cmp Pipe) (f : ℕ) (o : Option Pipe) (v : ℕ) → get (with_pipe f o m) v ≡ cond (eq_by_cmp nat_cmp v f) o (get m v)
get-with m f None v = get-remove nat_cmp_total m f v
get-with m f (Some p) v = get-insert nat_cmp_total m f p v

module _ {pool pool' : Pool} {ram ram' : List (List ℕ)} {ms : List (Option Memory)} {ps : List Bool} (f : ℕ) (b : Bool) (sound : IsAccounted pool ram ms ps) (inside : f < length ram)
    (traded : Traded pool ram pool' ram' (own_pipe (keeps_pipe ps f) f) (own_pipe b f)) (is : b ≡ true → IsPipe ram' f) where
  listed : f < length ps
  listed = omega (arith, inside, sound.places)

  slot-apart : (before : Bool) → keeps_pipe ps f ≡ before → (x i : ℕ) → 1 ≤ copies x (slot_frames ram (get_or ms i None)) → copies x (free_in pool ram) + copies x (own_pipe before f) ≡ 0
  slot-apart true e x i has = slot-pipe-apart sound x i f e has
  slot-apart false e x i has = omega (arith, slot-free sound x i, has, copies-nil x)

  slots : (j : ℕ) → Stays ram ram' (get_or ms j None)
  slots j = stays-if pool pool' ram ram' (own_pipe (keeps_pipe ps f) f) (own_pipe b f) (get_or ms j None) traded (sound.memories j) (λ x has. slot-apart (keeps_pipe ps f) refl x j has)

  other-apart : (before : Bool) (g : ℕ) → keeps_pipe ps g ≡ true → g ≢ f → copies g (free_in pool ram) + copies g (own_pipe before f) ≡ 0
  other-apart true g e ne = pipes-apart sound g f e ne
  other-apart false g e ne = omega (arith, pipe-free sound g e, copies-nil g)

  others : (g : ℕ) → g ≢ f → keeps_pipe ps g ≡ true → PipeStays ram ram' g
  others g ne e = pipe-stays-if pool pool' ram ram' (own_pipe (keeps_pipe ps f) f) (own_pipe b f) g traded (sound.keeps g e) (other-apart (keeps_pipe ps f) g e ne)

  same-frames : process_frames ram' ms ≡ process_frames ram ms
  same-frames = ap all_joined (map-same (slot_frames ram) (slot_frames ram') ms None (λ j lt. (slots j).frames))

  flags : (x : ℕ) → count_if (keeps_pipe (set ps f b) x) + copies x (own_pipe (keeps_pipe ps f) f) ≡ count_if (keeps_pipe ps x) + copies x (own_pipe b f)
  flags x = elim (cases_eq x f) [
    | inl e ↦
        let here : count_if (keeps_pipe (set ps f b) f) + copies f (own_pipe (keeps_pipe ps f) f) ≡ count_if (keeps_pipe ps f) + copies f (own_pipe b f) =
        omega (arith, own-at b f, own-at (keeps_pipe ps f) f, ap count_if (get_or-set_same ps f b false listed)) in
        subst (λ y. count_if (keeps_pipe (set ps f b) y) + copies y (own_pipe (keeps_pipe ps f) f) ≡ count_if (keeps_pipe ps y) + copies y (own_pipe b f)) (sym e) here
    | inr ne ↦ omega (arith, own-other b x f ne, own-other (keeps_pipe ps f) x f ne, ap count_if (get_or-set_other ps f x b false ne))
  ]

  here-keeps : (g : ℕ) → g ≡ f → keeps_pipe (set ps f b) g ≡ true → IsPipe ram' g
  here-keeps g e keeps = subst (IsPipe ram') (sym e) (is (sym (get_or-set_same ps f b false listed) ∙ ap (keeps_pipe (set ps f b)) (sym e) ∙ keeps))

  pub piped-sound : IsAccounted pool' ram' ms (set ps f b)
  piped-sound = record {
    good = traded.good;
    slots = sound.slots;
    places = length-set ps f b ∙ sound.places ∙ sym traded.count;
    memories = λ j n e. (slots j).memory n e;
    keeps = λ g e. elim (cases_eq g f) [
      | inl same ↦ here-keeps g same e
      | inr ne ↦ (others g ne (sym (get_or-set_other ps f g b false ne) ∙ e)).keeps
    ];
    once = λ x lt. omega (arith, sound.once x (omega (arith, traded.count, lt)), traded.frames x, flags x, ap (copies x) same-frames);
    inside = λ x ge. omega (arith, sound.inside x (omega (arith, traded.count, ge)), traded.frames x, flags x, ap (copies x) same-frames);
  }

  pub piped-each : map (held_in ram') ms ≡ map (held_in ram) ms
  piped-each = map-same (held_in ram) (held_in ram') ms None (λ j lt. (slots j).held)

  other-seen : (v : ℕ) → v ≢ f → kept_pipe ram' (set ps f b) v ≡ kept_pipe ram ps v
  other-seen v ne =
      ap (λ k. cond k (Some (pipe_in ram' v)) None) (get_or-set_other ps f v b false ne) ∙ pipe-seen ram ram' v (keeps_pipe ps v) (λ e. (others v ne e).same)

  pub piped-pipes : (n : ℕ) → f < n → gathered (kept_pipe ram' (set ps f b)) n ≡ with_pipe f (cond b (Some (pipe_in ram' f)) None) (gathered (kept_pipe ram ps) n)
  piped-pipes n lt = same_pages (gathered (kept_pipe ram' (set ps f b)) n) (with_pipe f (cond b (Some (pipe_in ram' f)) None) (gathered (kept_pipe ram ps) n)) (λ v. elim (cases_eq v f) [
    | inl e ↦
        let here : kept_pipe ram' (set ps f b) f ≡ cond b (Some (pipe_in ram' f)) None = ap (λ k. cond k (Some (pipe_in ram' f)) None) (get_or-set_same ps f b false listed) in
        gathered-get (kept_pipe ram' (set ps f b)) n v ∙ ap (λ k. cond k (kept_pipe ram' (set ps f b) v) None) (lt-ltb v n (omega (arith, lt, e))) ∙ ap (kept_pipe ram' (set ps f b)) e ∙ here
        ∙ sym (get-with (gathered (kept_pipe ram ps) n) f (cond b (Some (pipe_in ram' f)) None) v
        ∙ ap (λ k. cond k (cond b (Some (pipe_in ram' f)) None) (get (gathered (kept_pipe ram ps) n) v)) (tie-yes v f e))
    | inr ne ↦
        gathered-get (kept_pipe ram' (set ps f b)) n v ∙ ap (λ o. cond (ltb v n) o None) (other-seen v ne) ∙ sym (gathered-get (kept_pipe ram ps) n v)
        ∙ sym (get-with (gathered (kept_pipe ram ps) n) f (cond b (Some (pipe_in ram' f)) None) v
        ∙ ap (λ k. cond k (cond b (Some (pipe_in ram' f)) None) (get (gathered (kept_pipe ram ps) n) v)) (tie-no v f ne))
  ])

-- the pipe in a frame, as it is seen
pub pipes-at : (old : Memories) (f : ℕ) → f < FRAMES_MAX → get (pipes_of old) f ≡ kept_pipe old.ram old.pipes.items f
unfolding pipes_of
pipes-at old f lt = gathered-get (kept_pipe old.ram old.pipes.items) FRAMES_MAX f ∙ ap (λ k. cond k (kept_pipe old.ram old.pipes.items f) None) (lt-ltb f FRAMES_MAX lt)

pub pipe-changes : (old new : Memories) (f : ℕ) (b : Bool) → AreSound old → f < length old.ram
    → Traded old.pool old.ram new.pool new.ram (own_pipe (keeps_pipe old.pipes.items f) f) (own_pipe b f) → (b ≡ true → IsPipe new.ram f)
    → new.each.items ≡ old.each.items → new.pipes.items ≡ set old.pipes.items f b → PipeChanges old new f (cond b (Some (pipe_in new.ram f)) None)
unfolding each_of pipes_of free_of
pipe-changes old new f b sound inside traded is each pipes =
    let small : f < FRAMES_MAX = omega (arith, inside, sound.good.small) in
    record {
      sound = subst (λ e. IsAccounted new.pool new.ram e new.pipes.items) (sym each) (subst (λ p. IsAccounted new.pool new.ram old.each.items p) (sym pipes) (piped-sound f b sound inside traded is));
      each = ap (map (held_in new.ram)) each ∙ piped-each f b sound inside traded is;
      pipes = ap (λ l. gathered (kept_pipe new.ram l) FRAMES_MAX) pipes ∙ piped-pipes f b sound inside traded is FRAMES_MAX small;
      free = omega (
        arith,
        trade-lengths old.pool new.pool old.ram new.ram (own_pipe (keeps_pipe old.pipes.items f) f) (own_pipe b f) traded,
        own-length b f,
        own-length (keeps_pipe old.pipes.items f) f,
        cost-count b (pipe_in new.ram f),
        cost-count (keeps_pipe old.pipes.items f) (pipe_in old.ram f),
        ap pipe_cost (gathered-get (kept_pipe old.ram old.pipes.items) FRAMES_MAX f ∙ ap (λ k. cond k (kept_pipe old.ram old.pipes.items f) None) (lt-ltb f FRAMES_MAX small)),
      );
      frames = traded.count;
      runs = λ j hart r. record {
        memory = r.memory;
        is = ap (λ l. get_or l j None) each ∙ r.is;
        root = r.root;
        fits = fits-stay old.ram new.ram r.memory.space.root hart.cache ((slots f b sound inside traded is j).walks r.memory r.is) r.fits;
      };
    }

-- ---- a pipe that is there

some-keeps : (b : Bool) (p : Pipe) → IsSome (cond b (Some p) None) → b ≡ true
some-keeps true p h = refl
some-keeps false p h = absurd (no h)
  where
    no : IsSome (cond false (Some p) None) → ⊥
    no e = cc

-- a frame that a pipe of the map is in
pub pipe-keeps : (old : Memories) (f : ℕ) → f < FRAMES_MAX → IsSome (get (pipes_of old) f) → keeps_pipe old.pipes.items f ≡ true
pipe-keeps old f lt there = some-keeps (keeps_pipe old.pipes.items f) (pipe_in old.ram f) (subst IsSome (pipes-at old f lt) there)

pub pipe-inside : (old : Memories) (f : ℕ) → AreSound old → keeps_pipe old.pipes.items f ≡ true → f < length old.ram
pipe-inside old f sound keeps = (sound.keeps f keeps).inside

-- ---- a pipe is made, changed, and given up

-- a frame that isn't free is written
written : (pool : Pool) (ram ram' : List (List ℕ)) (f : ℕ) → Good pool ram → OthersStay ram ram' f → copies f (free_in pool ram) ≡ 0 → Traded pool ram pool ram' (f ∷ []) (f ∷ [])
written pool ram ram' f good stay apart = record {
  good = Good-written pool ram ram' f good stay apart;
  count = stay.count;
  frames = λ x. ap (λ l. copies x l + copies x (f ∷ [])) (free_in-written pool ram ram' f good stay apart);
  others = λ x _ none. stay.others x (λ e. absurd (omega (arith, none, copies-one x f, ap (λ y. at y f) e, at-same f)));
}

-- a free frame keeps no pipe
free-keeps : {pool : Pool} {ram : List (List ℕ)} {ms : List (Option Memory)} {ps : List Bool} → IsAccounted pool ram ms ps → (f : ℕ) → 1 ≤ copies f (free_in pool ram) → keeps_pipe ps f ≡ false
free-keeps {pool} {ram} {ms} {ps} sound f free = by (keeps_pipe ps f) refl
  where
    by : (b : Bool) → keeps_pipe ps f ≡ b → keeps_pipe ps f ≡ false
    by true e = absurd (omega (arith, pipe-free sound f e, free))
    by false e = e

was-free : {pool pool' : Pool} {ram ram' : List (List ℕ)} {f : ℕ} → Taken pool ram pool' ram' f → 1 ≤ copies f (free_in pool ram)
was-free {pool} {pool'} {ram} {ram'} {f} taken = omega (arith, taken.traded.frames f, copies-one f f, at-same f, copies-nil f)

-- a frame that is free names no pipe
pub pipe-absent : (old : Memories) (f : ℕ) {pool1 : Pool} {ram1 : List (List ℕ)} → AreSound old → Taken old.pool old.ram pool1 ram1 f → get (pipes_of old) f ≡ None
pipe-absent old f sound taken =
    pipes-at old f (omega (arith, taken.inside, taken.traded.count, sound.good.small)) ∙ ap (λ b. cond b (Some (pipe_in old.ram f)) None) (free-keeps sound f (was-free taken))

pub pipe-made : {old : Memories} {f : ℕ} {pool1 : Pool} {ram1 : List (List ℕ)} (new : Memories) (pipe : Pipe) → AreSound old
    → Taken old.pool old.ram pool1 ram1 f → new.pool ≡ pool1 → Becomes ram1 new.ram f pipe → new.each.items ≡ old.each.items
    → new.pipes.items ≡ set old.pipes.items f true
    → PipeChanges old new f (Some pipe)
pipe-made {old} {f} {pool1} {ram1} new pipe sound taken pool made each pipes =
    let none = free-keeps sound f (was-free taken) in
    let all_joined : Traded old.pool old.ram pool1 new.ram [] (f ∷ []) =
    trade-join old.pool pool1 pool1 old.ram ram1 new.ram [] (f ∷ []) (f ∷ []) taken.traded
    (written pool1 ram1 new.ram f taken.traded.good made.stay (taken-apart sound.good taken)) in
    let traded : Traded old.pool old.ram new.pool new.ram (own_pipe (keeps_pipe old.pipes.items f) f) (own_pipe true f) =
    subst (λ p. Traded old.pool old.ram p new.ram (own_pipe (keeps_pipe old.pipes.items f) f) (own_pipe true f)) (sym pool)
    (subst (λ b. Traded old.pool old.ram pool1 new.ram (own_pipe b f) (own_pipe true f)) (sym none) all_joined) in
    let changes : PipeChanges old new f (Some (pipe_in new.ram f)) = pipe-changes old new f true sound (omega (arith, taken.inside, taken.traded.count)) traded (λ e. made.good) each pipes in
    subst (λ p. PipeChanges old new f (Some p)) made.is changes

-- the frame of a pipe isn't free
pub pipe-taken : (old : Memories) (f : ℕ) → AreSound old → keeps_pipe old.pipes.items f ≡ true → copies f (free_in old.pool old.ram) ≡ 0
pipe-taken old f sound keeps = pipe-free sound f keeps

pub pipe-dropped : {old : Memories} {f : ℕ} (new : Memories) → AreSound old → keeps_pipe old.pipes.items f ≡ true
    → Given old.pool old.ram new.pool new.ram f → new.each.items ≡ old.each.items → new.pipes.items ≡ set old.pipes.items f false → PipeChanges old new f None
pipe-dropped {old} {f} new sound keeps given each pipes =
    let traded : Traded old.pool old.ram new.pool new.ram (own_pipe (keeps_pipe old.pipes.items f) f) (own_pipe false f) =
    subst (λ b. Traded old.pool old.ram new.pool new.ram (own_pipe b f) (own_pipe false f)) (sym keeps) given in
    pipe-changes old new f false sound (pipe-inside old f sound keeps) traded (λ e. absurd (false≢true e)) each pipes

pub pipe-changed : {old : Memories} {f : ℕ} (new : Memories) (pipe : Pipe) → AreSound old → keeps_pipe old.pipes.items f ≡ true
    → Becomes old.ram new.ram f pipe → new.pool ≡ old.pool → new.each.items ≡ old.each.items → new.pipes.items ≡ old.pipes.items
    → PipeChanges old new f (Some pipe)
pipe-changed {old} {f} new pipe sound keeps made pool each pipes =
    let inside = pipe-inside old f sound keeps in
    let one : Traded old.pool old.ram old.pool new.ram (f ∷ []) (f ∷ []) = written old.pool old.ram new.ram f sound.good made.stay (pipe-free sound f keeps) in
    let traded : Traded old.pool old.ram new.pool new.ram (own_pipe (keeps_pipe old.pipes.items f) f) (own_pipe true f) =
    subst (λ p. Traded old.pool old.ram p new.ram (own_pipe (keeps_pipe old.pipes.items f) f) (own_pipe true f)) (sym pool)
    (subst (λ b. Traded old.pool old.ram old.pool new.ram (own_pipe b f) (own_pipe true f)) (sym keeps) one) in
    let changes : PipeChanges old new f (Some (pipe_in new.ram f)) =
    pipe-changes old new f true sound inside traded (λ e. made.good) each (pipes ∙ sym (set-read old.pipes.items f true false (omega (arith, inside, sound.places)) keeps)) in
    subst (λ p. PipeChanges old new f (Some p)) made.is changes

-- the pipe of a name, in its frame
pub pipe-named : (old : Memories) (f : ℕ) → f < FRAMES_MAX → keeps_pipe old.pipes.items f ≡ true → pipe_named (pipes_of old) f ≡ pipe_in old.ram f
pipe-named old f lt keeps = ap or_new (pipes-at old f lt ∙ ap (λ b. cond b (Some (pipe_in old.ram f)) None) keeps)

-- the pipe of a name is changed
pub pipe-becomes : {old : Memories} {f : ℕ} (new : Memories) (change : Pipe → Pipe) → f < FRAMES_MAX → AreSound old
    → keeps_pipe old.pipes.items f ≡ true → Becomes old.ram new.ram f (change (pipe_in old.ram f)) → new.pool ≡ old.pool → new.each.items ≡ old.each.items
    → new.pipes.items ≡ old.pipes.items → PipeChanges old new f (Some (change (pipe_named (pipes_of old) f)))
pipe-becomes {old} {f} new change lt sound keeps made pool each pipes =
    subst (λ p. PipeChanges old new f (Some (change p))) (sym (pipe-named old f lt keeps)) (pipe-changed new (change (pipe_in old.ram f)) sound keeps made pool each pipes)
