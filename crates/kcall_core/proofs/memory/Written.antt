-- Bytes are written to the space in a slot; answers that are good or refused.
use Rattle.kcall_core.proofs.Prelude.{ℕ, ◌+◌, ◌<◌, ◌^◌, ◌∙◌, ◌≡◌, ◌≤◌, Access, allows, ap, arith, Bool, bring, brought, Changed, cond, data_rights, each_of, Err, false, false≢true, frames_of, free_in}
use Rattle.kcall_core.proofs.Prelude.{Hart, held_at, IfErr, IfOk, Image, image_of, is_absent, is_ok, IsSpace, length, List, Load, low-pages, mapped-inside, Memories, Memory, None, Ok, pages_at}
use Rattle.kcall_core.proofs.Prelude.{reached-mapped, reaches, reaches-whole, reaches_touching, readable, refl, Result, RunsIn, set, SIZE_LIMIT, Some, Stands, subst, sym, trade-lengths, true, whole}
use Rattle.kcall_core.proofs.Prelude.{whole-low, with_page, zeroed}
use Rattle.addr_space.specs.InPlace.{WrittenInPlace}
use Rattle.kcall_core.proofs.memory.Lists.{set-read}
use Rattle.kcall_core.proofs.memory.Changes.{image-seen}
use Rattle.kcall_core.proofs.memory.Runs.{runs-on, same-translations}

-- ---- answers

pub ok-map : {X E : Type 0} {A B : X → Type 0} (r : Result X E) → IfOk r A → ((x : X) → A x → B x) → IfOk r B
ok-map (Ok x) a f = f x a
ok-map (Err e) a f = tt

pub ok-both : {X E : Type 0} {A B C : X → Type 0} (r : Result X E) → IfOk r A → IfOk r B → ((x : X) → A x → B x → C x) → IfOk r C
ok-both (Ok x) a b f = f x a b
ok-both (Err e) a b f = tt

pub err-map : {X E : Type 0} {A B : E → Type 0} (r : Result X E) → IfErr r A → ((e : E) → A e → B e) → IfErr r B
err-map (Ok x) a f = tt
err-map (Err e) a f = f e a

-- what follows from either answer
pub either : {X E C : Type 0} {A : X → Type 0} {B : E → Type 0} (r : Result X E) → IfOk r A → IfErr r B → ((x : X) → A x → C) → ((e : E) → B e → C) → C
either (Ok x) a b f g = f x a
either (Err e) a b f g = g e b

-- what follows from an answer that is good
pub if-fine : {X E A : Type 0} (r : Result X E) → is_ok r ≡ true → IfOk r (λ _. A) → A
if-fine (Ok x) is a = a
if-fine (Err e) is a = absurd (false≢true is)

-- and from one that is refused
pub if-refused : {X E A : Type 0} (r : Result X E) → is_ok r ≡ false → IfErr r (λ _. A) → A
if-refused (Ok x) is a = absurd (false≢true (sym is))
if-refused (Err e) is a = a

-- an answer that tells a truth value
pub told : {X E : Type 0} (r : Result X E) (b : Bool) → IfOk r (λ _. b ≡ true) → IfErr r (λ _. b ≡ false) → is_ok r ≡ b
told (Ok x) b fine refused = sym fine
told (Err e) b fine refused = sym refused

-- ---- the space in a slot

pub whole-of : {old : Memories} {i : ℕ} {m : Memory} → Stands old i m → IsSpace old.ram m.space
whole-of {old} {i} {m} s = (s.sound.memories i m s.is).space

pub size-of : {old : Memories} {i : ℕ} {m : Memory} → Stands old i m → (image_of old.ram m.space).size ≤ SIZE_LIMIT
size-of {old} {i} {m} s = (whole-of s).size

pub size-seen : {old : Memories} {i : ℕ} {m : Memory} → Stands old i m → (held_at (each_of old) i).image.size ≤ SIZE_LIMIT
size-seen {old} {i} {m} s = subst (λ (n : Image). n.size ≤ SIZE_LIMIT) (sym (image-seen s)) (whole-of s).size

-- what may be read or written once absent pages are touched is what may be in the whole image
pub touching-seen : {old : Memories} {i : ℕ} {m : Memory} (access : Access) → allows access (Some data_rights) ≡ true → Stands old i m → (a n : ℕ)
    → reaches_touching access (held_at (each_of old) i).image a n ≡ reaches access (whole (image_of old.ram m.space)) a n
touching-seen {old} {i} {m} access free s a n =
    reaches-whole access (held_at (each_of old) i).image a n free (size-seen s) ∙ ap (λ (j : Image). reaches access (whole j) a n) (image-seen s)

-- what may be read, with absent pages, lies below 2^38
pub readable-inside : {old : Memories} {i : ℕ} {m : Memory} → Stands old i m → (a n : ℕ) → readable (held_at (each_of old) i).image a n ≡ true → (k : ℕ) → k < n → a + k < 2 ^ 38
readable-inside {old} {i} {m} s a n may =
    let seen = image_of old.ram m.space in
    mapped-inside (whole seen) a n (whole-low seen (low-pages old.ram m.space)) (reached-mapped Load (whole seen) a n (sym (touching-seen Load refl s a n) ∙ may))

-- the pages that a range touches, as the space adds them
pub touched-seen : {old : Memories} {i : ℕ} {m : Memory} → Stands old i m → (a n : ℕ) → brought (pages_at a n) (held_at (each_of old) i).image ≡ brought (pages_at a n) (image_of old.ram m.space)
touched-seen {old} {i} {m} s a n = ap (brought (pages_at a n)) (image-seen s)

-- an absent page, as the space adds it
pub bring-seen : {old : Memories} {i : ℕ} {m : Memory} → Stands old i m → (v : ℕ) → is_absent (held_at (each_of old) i).image v ≡ true
    → with_page (image_of old.ram m.space) v (zeroed data_rights) ≡ bring v (held_at (each_of old) i).image
bring-seen {old} {i} {m} s v absent =
    let image = (held_at (each_of old) i).image in
    ap (λ (j : Image). with_page j v (zeroed data_rights)) (sym (image-seen s)) ∙ sym (ap (λ b. cond b (with_page image v (zeroed data_rights)) image) absent)

pub each-stays : {old : Memories} {i : ℕ} {m : Memory} → Stands old i m → old.each.items ≡ set old.each.items i (Some (record { space = m.space; trapframe = m.trapframe }))
each-stays {old} {i} {m} s = sym (set-read old.each.items i (Some m) None s.inside s.is)

-- as many frames are free
pub free-stays : {old : Memories} {i : ℕ} {m : Memory} (ram' : List (List ℕ)) → Stands old i m → WrittenInPlace old.ram ram' m.space
    → Changed old.pool old.ram m.space old.pool ram' m.space → length (free_in old.pool ram') ≡ length (free_in old.pool old.ram)
free-stays {old} {i} {m} ram' s place changed = omega (arith, trade-lengths old.pool old.pool old.ram ram' (frames_of old.ram m.space) (frames_of ram' m.space) changed.traded, ap length place.frames)

-- a hart goes on
pub written-runs : {old : Memories} {i : ℕ} {m : Memory} (new : Memories) → Stands old i m → WrittenInPlace old.ram new.ram m.space
    → new.each.items ≡ old.each.items → (hart : Hart) → RunsIn old i hart → RunsIn new i hart
written-runs {old} {i} {m} new s place each = runs-on new m.space s refl (λ va access at is. place.walks va access ∙ is) (each ∙ each-stays s)

pub unwritten-runs : {old : Memories} {i : ℕ} {m : Memory} (new : Memories) → Stands old i m → new.ram ≡ old.ram → new.each.items ≡ old.each.items
    → (hart : Hart) → RunsIn old i hart → RunsIn new i hart
unwritten-runs {old} {i} {m} new s same each = runs-on new m.space s refl (same-translations old.ram new.ram m.space.root same) (each ∙ each-stays s)
