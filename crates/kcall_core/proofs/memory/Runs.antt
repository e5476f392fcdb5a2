-- A hart goes on with the tables of a slot whose space changes.
use Rattle.kcall_core.proofs.Prelude.{ℕ, ◌&&◌, ◌*◌, ◌+◌, ◌<◌, ◌∙◌, ◌≡◌, ◌≤◌, Access, ap, arith, but_not, cases_lt, Changed, Err, false, false≢true, Fits, fits-none_gone, fits_root, FitsBut, FitsHart}
use Rattle.kcall_core.proofs.Prelude.{get_or, get_or-set_same, Hart, IfErr, IfOk, inl, inr, is_between, le-leb, List, lt-ltb, Memories, Memory, nat_lt, nat_tests, NoFrames, None, nothing, Ok, Result}
use Rattle.kcall_core.proofs.Prelude.{RunsIn, same_Some, set, Some, Space, Stands, subst, sym, Translations, TranslationsStay, true, Unchanged, walked, WalksStayBelow}

-- what is kept stays true as long as each present translation stays
fits-on : (ram ram' : List (List ℕ)) (root : ℕ) (cache : Translations) → TranslationsStay ram ram' root → Fits ram root cache → Fits ram' root cache
fits-on ram ram' root cache stay fits = record {
  each = λ i access allowed. (
    (fits.each i access allowed).0,
    λ offset lt. stay (4096 * (get_or cache.places i nothing).page + offset) access ((get_or cache.places i nothing).frame, offset) ((fits.each i access allowed).1 offset lt),
  );
}

pub runs-on : {old : Memories} {i : ℕ} {m : Memory} (new : Memories) (space' : Space) → Stands old i m → space'.root ≡ m.space.root
    → TranslationsStay old.ram new.ram m.space.root → new.each.items ≡ set old.each.items i (Some (record { space = space'; trapframe = m.trapframe }))
    → (hart : Hart) → RunsIn old i hart → RunsIn new i hart
runs-on {old} {i} {m} new space' s root stay each hart r =
    let same : m ≡ r.memory = same_Some m r.memory (sym s.is ∙ r.is) in
    let fits : Fits old.ram m.space.root hart.cache = subst (λ (x : Memory). Fits old.ram x.space.root hart.cache) (sym same) r.fits in
    record {
      memory = record { space = space'; trapframe = m.trapframe };
      is = ap (λ l. get_or l i None) each ∙ get_or-set_same old.each.items i (Some (record { space = space'; trapframe = m.trapframe })) None s.inside;
      root = r.root ∙ ap (λ (x : Memory). Some x.space.root) (sym same) ∙ ap Some (sym root);
      fits = subst (λ (x : ℕ). Fits new.ram x hart.cache) (sym root) (fits-on old.ram new.ram m.space.root hart.cache stay fits);
    }

-- where RAM is the same, each translation stays
pub same-translations : (ram ram' : List (List ℕ)) (root : ℕ) → ram' ≡ ram → TranslationsStay ram ram' root
same-translations ram ram' root e va access place is = ap (λ r. walked r root va access) e ∙ is

-- a growth, done or refused
pub grown-runs : {old : Memories} {i : ℕ} {m : Memory} (refusal : Type 0) (new : Memories) (space' : Space) → Stands old i m
    → (r : Result (Unit {0}) NoFrames) → IfOk r (λ _. Changed old.pool old.ram m.space new.pool new.ram space')
    → IfOk r (λ _. TranslationsStay old.ram new.ram m.space.root)
    → IfErr r (λ _. refusal × Unchanged old.pool old.ram m.space new.pool new.ram space')
    → new.each.items ≡ set old.each.items i (Some (record { space = space'; trapframe = m.trapframe })) → (hart : Hart) → RunsIn old i hart → RunsIn new i hart
grown-runs {old} {i} {m} refusal new space' s (Ok u) changed stay refused each hart r = runs-on new space' s changed.root stay each hart r
grown-runs {old} {i} {m} refusal new space' s (Err e) changed stay refused each hart r =
    runs-on new space' s (ap (λ (x : Space). x.root) refused.1.same_space) (same-translations old.ram new.ram m.space.root refused.1.same_ram) each hart r

-- a hart that uses the slot's tables, and what it keeps is true of the tables that it uses
pub runs-there : {m : Memories} {i : ℕ} {memory : Memory} → Stands m i memory → (hart : Hart) → hart.root ≡ Some memory.space.root
    → FitsHart m.ram hart.root hart.cache → RunsIn m i hart
runs-there {m} {i} {memory} s hart root fits = record {
  memory = memory;
  is = s.is;
  root = root;
  fits = fits_root m.ram hart.root memory.space.root hart.cache root fits;
}

-- a hart that was switched to the slot's tables
pub switched-runs : {old : Memories} {i : ℕ} {m : Memory} (new : Memories) (space' : Space) → Stands old i m
    → new.each.items ≡ set old.each.items i (Some (record { space = space'; trapframe = m.trapframe })) → (hart : Hart)
    → hart.root ≡ Some space'.root → FitsHart new.ram hart.root hart.cache → RunsIn new i hart
switched-runs {old} {i} {m} new space' s each hart root fits = record {
  memory = record { space = space'; trapframe = m.trapframe };
  is = ap (λ l. get_or l i None) each ∙ get_or-set_same old.each.items i (Some (record { space = space'; trapframe = m.trapframe })) None s.inside;
  root = root;
  fits = fits_root new.ram hart.root space'.root hart.cache root fits;
}

-- ---- pages are gone, and forgotten

-- the pages from `first` on are gone, and none stood behind `end`
pub fits-shrunk : (ram ram' : List (List ℕ)) (root : ℕ) (cache : Translations) (first end : ℕ) → WalksStayBelow (4096 * first) ram ram' root
    → ((va : ℕ) (access : Access) → 4096 * end ≤ va → walked ram root va access ≡ None) → Fits ram root cache
    → FitsBut ram' root cache (is_between first end)
fits-shrunk ram ram' root cache first end below behind fits = record {
  placed = λ i access allowed. (fits.each i access allowed).0;
  each = λ i stays access allowed.
      let k = get_or cache.places i nothing in (
        (fits.each i access allowed).0,
        λ o lt.
            let walk : walked ram root (4096 * k.page + o) access ≡ Some (k.frame, o) = (fits.each i access allowed).1 o lt in
            elim (cases_lt k.page first) [
              | inl low ↦ below (4096 * k.page + o) access (omega (arith, low, lt)) ∙ walk
              | inr high ↦ elim (cases_lt k.page end) [
                | inl inside ↦ absurd (both k.page high inside stays)
                | inr past ↦ let none : None ≡ Some (k.frame, o) = sym (behind (4096 * k.page + o) access (omega (arith, past))) ∙ walk in absurd (cc)
              ]
            ],
      );
}
  where
    both : (u : ℕ) → first ≤ u → u < end → is_between first end u ≡ false → ⊥
    both u high inside stays =
        let between : is_between first end u ≡ true = ap (λ b. b && nat_lt u end) (le-leb first u high) ∙ ap (λ b. true && b) (lt-ltb u end inside) in
        false≢true (sym stays ∙ between)

-- one page fewer is left to be forgotten
pub but-next : (ram : List (List ℕ)) (root : ℕ) (cache : Translations) (v end : ℕ) → FitsBut ram root cache (but_not (is_between v end) v) → FitsBut ram root cache (is_between (v + 1) end)
but-next ram root cache v end fits = record { placed = fits.placed; each = λ i e. fits.each i (fewer (get_or cache.places i nothing).page e) }
  where
    fewer : (u : ℕ) → is_between (v + 1) end u ≡ false → but_not (is_between v end) v u ≡ false
    fewer u e = grind (arith, nat_tests)

-- none is left
pub but-none : (ram : List (List ℕ)) (root : ℕ) (cache : Translations) (v end : ℕ) → end ≤ v → FitsBut ram root cache (is_between v end) → Fits ram root cache
but-none ram root cache v end past fits = fits-none_gone ram root cache (is_between v end) (λ u. grind (arith, nat_tests)) fits

-- the hart that runs in a slot has its root
pub runs-root : {old : Memories} {i : ℕ} {m : Memory} {hart : Hart} → Stands old i m → RunsIn old i hart → hart.root ≡ Some m.space.root
runs-root {old} {i} {m} s r = r.root ∙ ap (λ (x : Memory). Some x.space.root) (same_Some r.memory m (sym r.is ∙ s.is))

-- the slot's hart has forgotten what is gone from its tables
pub forgot-runs : {old : Memories} {i : ℕ} {m : Memory} (new : Memories) (space' : Space) → Stands old i m → space'.root ≡ m.space.root
    → new.each.items ≡ set old.each.items i (Some (record { space = space'; trapframe = m.trapframe }))
    → (first end : ℕ) → WalksStayBelow (4096 * first) old.ram new.ram m.space.root → ((va : ℕ) (access : Access) → 4096 * end ≤ va → walked old.ram m.space.root va access ≡ None)
    → (hart hart' : Hart) → RunsIn old i hart → hart'.root ≡ Some space'.root
    → (FitsBut new.ram space'.root hart.cache (is_between first end) → Fits new.ram space'.root hart'.cache) → RunsIn new i hart'
forgot-runs {old} {i} {m} new space' s root each first end below behind hart hart' r root' forgets =
    let same : m ≡ r.memory = same_Some m r.memory (sym s.is ∙ r.is) in
    let fits : Fits old.ram m.space.root hart.cache = subst (λ (x : Memory). Fits old.ram x.space.root hart.cache) (sym same) r.fits in
    record {
      memory = record { space = space'; trapframe = m.trapframe };
      is = ap (λ l. get_or l i None) each ∙ get_or-set_same old.each.items i (Some (record { space = space'; trapframe = m.trapframe })) None s.inside;
      root = root';
      fits = forgets (subst (λ (x : ℕ). FitsBut new.ram x hart.cache (is_between first end)) (sym root) (fits-shrunk old.ram new.ram m.space.root hart.cache first end below behind fits));
    }
