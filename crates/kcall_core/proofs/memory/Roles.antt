-- What a frame is used for in a tree of tables, and in the memory of a process: each frame for one thing.
use Rattle.kcall_core.proofs.Prelude.{ℕ, ◌%◌, ◌*◌, ◌+◌, ◌/◌, ◌<◌, ◌^◌, ◌∙◌, ◌≡◌, ◌≢◌, ◌≤◌, ap, AreSound, arith, at, at-other, at-same, cases_lt, copies, copies-cons, copies-nil, copies-owned}
use Rattle.kcall_core.proofs.Prelude.{frame_of, FrameRole, get_or, get_or_read, IfNone, inl, inr, IsInTree, IsOffTheWay, IsSpace, IsTree, IsUsedBy, IsUsedIn, last, List, lower-place, lowers, Memories}
use Rattle.kcall_core.proofs.Prelude.{Memory, min, None, none-some, NPROC, one-place, Option, owned, page-has, page-place, page_entry, page_frames, refl, same_Some, slot_frames, Some, Space, subst}
use Rattle.kcall_core.proofs.Prelude.{suc, sym, upper-place, uppers, zero}
use Rattle.sv39_core.specs.Sv39.{entry_at, table_at}
use Rattle.sv39_core.specs.Listed.{push_some, listed}
use Rattle.sv39_core.proofs.Listings.{listed-has}
use Rattle.kcall_core.specs.declared.memories.frame_roles.FrameRole.TheVariants.{Trapframe, Root, Upper, Lower, Page}

-- ---- the walk over all pages

-- the page of an entry of a lower table
pub page-there : (ram : List (List ℕ)) (root f v lower i : ℕ) → v % 512 ≡ 0 → i < 512 → table_at ram root 2 (v / 512) ≡ Some lower
    → frame_of (entry_at ram lower i) ≡ Some f → frame_of (page_entry ram root (v + i)) ≡ Some f
page-there ram root f v lower i whole lt down is =
    let same : (v + i) / 512 ≡ v / 512 = omega (arith, whole, lt) in
    let there : table_at ram root 2 ((v + i) / 512) ≡ Some lower = ap (table_at ram root 2) same ∙ down in
    let place : (v + i) % 512 ≡ i = omega (arith, whole, lt) in
    ap (λ t. frame_of (last ram t ((v + i) % 512))) there ∙ ap (λ k. frame_of (entry_at ram lower k)) place ∙ is

-- a frame that is off the way to all pages of a space is none of its tables or pages
pub none-in-space : (ram : List (List ℕ)) (space : Space) (f end : ℕ) → IsSpace ram space → end ≡ min space.end (2 ^ 26) → space.root ≢ f
    → ((v : ℕ) → v < end → IsOffTheWay ram space.root f v) → (role : FrameRole) → ¬ IsInTree ram space.root f role
none-in-space ram space f end whole until ne off role = by role
  where
    -- a page lies below the end
    early : (v g : ℕ) → frame_of (page_entry ram space.root v) ≡ Some g → v < end
    early v g is =
        let low = page-place ram space.root v g whole.tree is in
        elim (cases_lt v space.end) [
          | inl lt ↦ omega (arith, until, low, lt)
          | inr ge ↦ absurd (none-some g (sym (whole.ends v ge low) ∙ is))
        ]

    by : (r : FrameRole) → ¬ IsInTree ram space.root f r
    by Trapframe e = e
    by Root e = ne e
    by (Upper place) e =
        let l = whole.full.uppers place f e in
        let p = whole.full.lowers (512 * place + l.0) l.1 l.3 in
        let v = 512 * (512 * place + l.0) + p.0 in
        let here : v / 262144 ≡ place = omega (arith, l.2, p.2) in
        (off v (early v p.1 p.3)).0 (ap (table_at ram space.root 1) here ∙ e)
    by (Lower place) e =
        let p = whole.full.lowers place f e in
        let v = 512 * place + p.0 in
        let here : v / 512 ≡ place = omega (arith, p.2) in
        (off v (early v p.1 p.3)).1 (ap (table_at ram space.root 2) here ∙ e)
    by (Page v) e = (off v (early v f e)).2 e

-- ---- a frame of a memory, by how often it stands among the memory's frames

-- what isn't listed doesn't stand in the list
listed-none : (g : ℕ → Option ℕ) (n x : ℕ) → ((k : ℕ) → g k ≢ Some x) → copies x (listed g n) ≡ 0
unfolding listed
listed-none g zero x none = copies-nil x
listed-none g (suc n) x none = by (g n) (none n) (listed-none g n x none)
  where
    by : (o : Option ℕ) → o ≢ Some x → copies x (listed g n) ≡ 0 → copies x (push_some o (listed g n)) ≡ 0
    by None ne rest = rest
    by (Some y) ne rest = omega (arith, copies-cons x y (listed g n), at-other x y (λ e. ne (ap Some (sym e))), rest)

module _ (ram : List (List ℕ)) (m : Memory) (f : ℕ) where
  parts : copies f (slot_frames ram (Some m)) ≡ at f m.trapframe +
      (at f m.space.root + (copies f (uppers ram m.space.root) + (copies f (lowers ram m.space.root) + copies f (page_frames ram m.space.root))))
  parts = omega (arith, copies-cons f m.trapframe (owned ram m.space.root), copies-owned f ram m.space.root)

  -- a frame without a role isn't the memory's
  pub unused-none : ((role : FrameRole) → ¬ IsUsedBy ram m f role) → copies f (slot_frames ram (Some m)) ≡ 0
  unfolding uppers lowers page_frames
  unused-none none =
      omega (
        arith,
        parts,
        at-other f m.trapframe (λ e. none Trapframe (sym e)),
        at-other f m.space.root (λ e. none Root (sym e)),
        listed-none (table_at ram m.space.root 1) 256 f (λ k. none (Upper k)),
        listed-none (table_at ram m.space.root 2) (2 ^ 17) f (λ k. none (Lower k)),
        listed-none (λ v. frame_of (page_entry ram m.space.root v)) (2 ^ 26) f (λ k. none (Page k)),
      )

  module _ (tree : IsTree ram m.space.root) where
    here : (g : ℕ) → g ≡ f → at f g ≡ 1
    here g e = ap (at f) e ∙ at-same f

    upper-has : (p : ℕ) → table_at ram m.space.root 1 p ≡ Some f → 1 ≤ copies f (uppers ram m.space.root)
    unfolding uppers
    upper-has p e = listed-has (table_at ram m.space.root 1) 256 p f (upper-place ram m.space.root p f tree e) e

    lower-has : (p : ℕ) → table_at ram m.space.root 2 p ≡ Some f → 1 ≤ copies f (lowers ram m.space.root)
    unfolding lowers
    lower-has p e = listed-has (table_at ram m.space.root 2) (2 ^ 17) p f (lower-place ram m.space.root p f tree e) e

    -- a frame with a role is the memory's
    pub used-has : (role : FrameRole) → IsUsedBy ram m f role → 1 ≤ copies f (slot_frames ram (Some m))
    used-has Trapframe e = omega (arith, parts, here m.trapframe e)
    used-has Root e = omega (arith, parts, here m.space.root e)
    used-has (Upper p) e = omega (arith, parts, upper-has p e)
    used-has (Lower p) e = omega (arith, parts, lower-has p e)
    used-has (Page v) e = omega (arith, parts, page-has ram m.space.root v f tree e)

    module _ (once : copies f (slot_frames ram (Some m)) ≤ 1) where
      same-upper : (p q : ℕ) → table_at ram m.space.root 1 p ≡ Some f → table_at ram m.space.root 1 q ≡ Some f → p ≡ q
      unfolding uppers
      same-upper p q e d =
          one-place (table_at ram m.space.root 1) 256 p q f (upper-place ram m.space.root p f tree e) (upper-place ram m.space.root q f tree d) e d (omega (arith, once, parts))

      same-lower : (p q : ℕ) → table_at ram m.space.root 2 p ≡ Some f → table_at ram m.space.root 2 q ≡ Some f → p ≡ q
      unfolding lowers
      same-lower p q e d =
          one-place (table_at ram m.space.root 2) (2 ^ 17) p q f (lower-place ram m.space.root p f tree e) (lower-place ram m.space.root q f tree d) e d (omega (arith, once, parts))

      same-page : (p q : ℕ) → frame_of (page_entry ram m.space.root p) ≡ Some f → frame_of (page_entry ram m.space.root q) ≡ Some f → p ≡ q
      unfolding page_frames
      same-page p q e d =
          one-place (λ v. frame_of (page_entry ram m.space.root v)) (2 ^ 26) p q f (page-place ram m.space.root p f tree e) (page-place ram m.space.root q f tree d) e d (omega (arith, once, parts))

      -- it has one role
      pub one-role : (r s : FrameRole) → IsUsedBy ram m f r → IsUsedBy ram m f s → r ≡ s
      one-role Trapframe Trapframe e d = refl
      one-role Trapframe Root e d = absurd (omega (arith, once, parts, here m.trapframe e, here m.space.root d))
      one-role Trapframe (Upper q) e d = absurd (omega (arith, once, parts, here m.trapframe e, upper-has q d))
      one-role Trapframe (Lower q) e d = absurd (omega (arith, once, parts, here m.trapframe e, lower-has q d))
      one-role Trapframe (Page q) e d = absurd (omega (arith, once, parts, here m.trapframe e, page-has ram m.space.root q f tree d))
      one-role Root Trapframe e d = absurd (omega (arith, once, parts, here m.space.root e, here m.trapframe d))
      one-role Root Root e d = refl
      one-role Root (Upper q) e d = absurd (omega (arith, once, parts, here m.space.root e, upper-has q d))
      one-role Root (Lower q) e d = absurd (omega (arith, once, parts, here m.space.root e, lower-has q d))
      one-role Root (Page q) e d = absurd (omega (arith, once, parts, here m.space.root e, page-has ram m.space.root q f tree d))
      one-role (Upper p) Trapframe e d = absurd (omega (arith, once, parts, upper-has p e, here m.trapframe d))
      one-role (Upper p) Root e d = absurd (omega (arith, once, parts, upper-has p e, here m.space.root d))
      one-role (Upper p) (Upper q) e d = ap Upper (same-upper p q e d)
      one-role (Upper p) (Lower q) e d = absurd (omega (arith, once, parts, upper-has p e, lower-has q d))
      one-role (Upper p) (Page q) e d = absurd (omega (arith, once, parts, upper-has p e, page-has ram m.space.root q f tree d))
      one-role (Lower p) Trapframe e d = absurd (omega (arith, once, parts, lower-has p e, here m.trapframe d))
      one-role (Lower p) Root e d = absurd (omega (arith, once, parts, lower-has p e, here m.space.root d))
      one-role (Lower p) (Upper q) e d = absurd (omega (arith, once, parts, lower-has p e, upper-has q d))
      one-role (Lower p) (Lower q) e d = ap Lower (same-lower p q e d)
      one-role (Lower p) (Page q) e d = absurd (omega (arith, once, parts, lower-has p e, page-has ram m.space.root q f tree d))
      one-role (Page p) Trapframe e d = absurd (omega (arith, once, parts, page-has ram m.space.root p f tree e, here m.trapframe d))
      one-role (Page p) Root e d = absurd (omega (arith, once, parts, page-has ram m.space.root p f tree e, here m.space.root d))
      one-role (Page p) (Upper q) e d = absurd (omega (arith, once, parts, page-has ram m.space.root p f tree e, upper-has q d))
      one-role (Page p) (Lower q) e d = absurd (omega (arith, once, parts, page-has ram m.space.root p f tree e, lower-has q d))
      one-role (Page p) (Page q) e d = ap Page (same-page p q e d)

-- ---- the memory in a slot

pub map-none : {X : Type 0} {P Q : Type 0} (o : Option X) → (P → Q) → IfNone o P → IfNone o Q
map-none None f p = f p
map-none (Some x) f p = p

-- what is read of a slot
pub slot-read : (m : Memories) (i : ℕ) (o : Option Memory) → AreSound m → i < NPROC → o ≡ get_or m.each.items i o → get_or m.each.items i None ≡ o
slot-read m i o sound lt read = sym (get_or_read m.each.items i o (omega (arith, sound.slots, lt)) read None)

pub none-in-slot : (m : Memories) (i f : ℕ) (memory : Memory) → get_or m.each.items i None ≡ Some memory → memory.trapframe ≢ f
    → ((role : FrameRole) → ¬ IsInTree m.ram memory.space.root f role) → (role : FrameRole) → ¬ IsUsedIn m i f role
none-in-slot m i f memory is ne none role (other, at, used) = by role (subst (λ (n : Memory). IsUsedBy m.ram n f role) (same_Some other memory (sym at ∙ is)) used)
  where
    by : (r : FrameRole) → IsUsedBy m.ram memory f r → ⊥
    by Trapframe e = ne e
    by Root e = none Root e
    by (Upper place) e = none (Upper place) e
    by (Lower place) e = none (Lower place) e
    by (Page v) e = none (Page v) e
