-- Each frame of RAM has one use, and one owner at most.
use Rattle.kcall_core.proofs.Prelude.{[], ℕ, ℤ, ◌+◌, ◌<◌, ◌↔◌, ◌∙◌, ◌≡◌, ◌≤◌, ◌⊎◌, ap, arith, cases_eq, cases_lt, copies, copies-nil, count_if, counts_of, each_of, false, frame_count, frame_of}
use Rattle.kcall_core.proofs.Prelude.{FrameRole, FRAMES_MAX, FrameUse, Free, free_in, get, get_or, Hart, held_in, inl, inr, is_some, IsLiveIn, IsOwned, IsSound, IsUsed, IsUsedBy, IsUsedIn, keeps_pipe}
use Rattle.kcall_core.proofs.Prelude.{Kernel, length, live, Lower, map, Memories, Memory, None, none-some, Option, option_map, owners, page_entry, page_frame_in, page_frame_of, pipes_of, place_at}
use Rattle.kcall_core.proofs.Prelude.{Process, process_frames, refl, Root, same_Some, slot_frames, Some, state_of, status_of, subst, sym, Trapframe, true, Upper, use_of}
use Rattle.kcall_core.specs.declared.memories.piping.PipeCounts.{PipeCounts}
use Rattle.kcall_core.specs.declared.kernel.observers.frame_uses.FrameUse.TheVariants.{Page, Pipe}
use Rattle.kcall_core.proofs.memory.Changes.{each-at}
use Rattle.kcall_core.proofs.memory.Frames.{frames-at}
use Rattle.kcall_core.proofs.memory.Joined.{joined-has, joined-two, joined-none}
use Rattle.kcall_core.proofs.memory.PipesTold.{keeps-told}
use Rattle.kcall_core.proofs.memory.Roles.{unused-none, used-has, one-role}
use Rattle.kcall_core.proofs.table.Observed.{live-held}
use Rattle.pipe_core.specs.Pipe as pipe
use Rattle.kcall_core.specs.declared.memories.frame_roles.FrameRole.TheVariants as role

module _ (k : Kernel) (h : Hart) (sound : IsSound k h) where
  -- a slot with a memory has a process
  pub memory-place : (i : ℕ) (m : Memory) → get_or k.memories.each.items i None ≡ Some m → (p : Process) × (place_at k.table i ≡ Some p) × (status_of p ≡ None)
  memory-place i m is = by (place_at k.table i) refl
    where
      held : get_or (each_of k.memories) i None ≡ held_in k.memories.ram (Some m)
      held = each-at k.memories i ∙ ap (held_in k.memories.ram) is

      lives : (p : Process) → place_at k.table i ≡ Some p → (s : Option ℤ) → status_of p ≡ s → (q : Process) × (place_at k.table i ≡ Some q) × (status_of q ≡ None)
      lives p at None alive = (p, at, alive)
      lives p at (Some status) over = absurd (none-some _ (sym (sound.ended i p status at over) ∙ held))

      by : (o : Option Process) → place_at k.table i ≡ o → (p : Process) × (place_at k.table i ≡ Some p) × (status_of p ≡ None)
      by None free = absurd (none-some _ (sym (sound.vacant i free) ∙ held))
      by (Some p) at = lives p at (status_of p) refl

  -- a frame has one owner at most
  total : (f : ℕ) → owners k.memories.pool k.memories.ram k.memories.each.items k.memories.pipes.items f ≤ 1
  total f = elim (cases_lt f (length k.memories.ram)) [ inl lt ↦ omega (arith, sound.memories.once f lt) | inr ge ↦ omega (arith, sound.memories.inside f ge) ]

  slot-many : (f i : ℕ) (m : Memory) → get_or k.memories.each.items i None ≡ Some m
      → copies f (get_or (map (slot_frames k.memories.ram) k.memories.each.items) i []) ≡ copies f (slot_frames k.memories.ram (Some m))
  slot-many f i m is = ap (copies f) (frames-at k.memories.ram k.memories.each.items i) ∙ ap (λ o. copies f (slot_frames k.memories.ram o)) is

  slot-few : (f i : ℕ) (m : Memory) → get_or k.memories.each.items i None ≡ Some m → copies f (slot_frames k.memories.ram (Some m)) ≤ copies f (process_frames k.memories.ram k.memories.each.items)
  slot-few f i m is = omega (arith, slot-many f i m is, joined-has f (map (slot_frames k.memories.ram) k.memories.each.items) i)

  role-many : (f i : ℕ) (m : Memory) → get_or k.memories.each.items i None ≡ Some m → (r : FrameRole) → IsUsedBy k.memories.ram m f r → 1 ≤ copies f (slot_frames k.memories.ram (Some m))
  role-many f i m is r used = used-has k.memories.ram m f ((sound.memories.memories i m is).space.tree) r used

  owned-many : (f pid : ℕ) (r : FrameRole) → IsOwned k pid f r → 1 ≤ copies f (process_frames k.memories.ram k.memories.each.items)
  owned-many f pid r o = omega (arith, role-many f o.0 o.4.0 o.4.1 r o.4.2, slot-few f o.0 o.4.0 o.4.1)

  -- it is in one slot, and has one role there
  owned-once : (f p q : ℕ) (r s : FrameRole) → IsOwned k p f r → IsOwned k q f s → (p ≡ q) × (r ≡ s)
  owned-once f p q r s a b = elim (cases_eq a.0 b.0) [
    | inl same ↦ (
      sym a.3 ∙ ap (λ (x : Process). x.pid) (same_Some a.1 b.1 (sym a.2 ∙ ap (place_at k.table) same ∙ b.2)) ∙ b.3,
      one-role k.memories.ram a.4.0 f ((sound.memories.memories a.0 a.4.0 a.4.1).space.tree) (omega (arith, total f, slot-few f a.0 a.4.0 a.4.1)) r s a.4.2
          (subst (λ (m : Memory). IsUsedBy k.memories.ram m f s) (same_Some b.4.0 a.4.0 (sym b.4.1 ∙ ap (λ i. get_or k.memories.each.items i None) (sym same) ∙ a.4.1)) b.4.2),
    )
    | inr ne ↦
        absurd (omega (
          arith,
          total f,
          joined-two f (map (slot_frames k.memories.ram) k.memories.each.items) a.0 b.0 ne,
          slot-many f a.0 a.4.0 a.4.1,
          slot-many f b.0 b.4.0 b.4.1,
          role-many f a.0 a.4.0 a.4.1 r a.4.2,
          role-many f b.0 b.4.0 b.4.1 s b.4.2,
        ))
  ]

  -- ---- the uses of a frame

  abbrev Kind : (f : ℕ) → FrameUse → Type 0
  Kind f u = ((u ≡ Free) × (1 ≤ copies f (free_in k.memories.pool k.memories.ram))) ⊎ ((u ≡ Pipe) × (keeps_pipe k.memories.pipes.items f ≡ true))
      ⊎ ((pid : ℕ) × (r : FrameRole) × (u ≡ use_of pid r) × IsOwned k pid f r)

  module _ (f : ℕ) (low : f < FRAMES_MAX) where
    kind : (u : FrameUse) → IsUsed k f u → Kind f u
    kind Free used = inl (refl, used)
    kind (Trapframe pid) used = inr (inr (pid, role.Trapframe, refl, used))
    kind (Root pid) used = inr (inr (pid, role.Root, refl, used))
    kind (Upper pid place) used = inr (inr (pid, role.Upper place, refl, used))
    kind (Lower pid place) used = inr (inr (pid, role.Lower place, refl, used))
    kind (Page pid vpn) used = inr (inr (pid, role.Page vpn, refl, used))
    kind Pipe used = inr (inl (refl, sym (keeps-told k.memories f low) ∙ used))

    pub owned-used : (pid : ℕ) (r : FrameRole) → IsOwned k pid f r → IsUsed k f (use_of pid r)
    owned-used pid role.Trapframe o = o
    owned-used pid role.Root o = o
    owned-used pid (role.Upper place) o = o
    owned-used pid (role.Lower place) o = o
    owned-used pid (role.Page vpn) o = o

    piped : keeps_pipe k.memories.pipes.items f ≡ true → count_if (keeps_pipe k.memories.pipes.items f) ≡ 1
    piped keeps = ap count_if keeps

    same-kind : (u v : FrameUse) → Kind f u → Kind f v → u ≡ v
    same-kind u v (inl (a, x)) (inl (b, y)) = a ∙ sym b
    same-kind u v (inl (a, x)) (inr (inl (b, y))) = absurd (omega (arith, total f, x, piped y))
    same-kind u v (inl (a, x)) (inr (inr (q, s, b, y))) = absurd (omega (arith, total f, x, owned-many f q s y))
    same-kind u v (inr (inl (a, x))) (inl (b, y)) = absurd (omega (arith, total f, piped x, y))
    same-kind u v (inr (inl (a, x))) (inr (inl (b, y))) = a ∙ sym b
    same-kind u v (inr (inl (a, x))) (inr (inr (q, s, b, y))) = absurd (omega (arith, total f, piped x, owned-many f q s y))
    same-kind u v (inr (inr (p, r, a, x))) (inl (b, y)) = absurd (omega (arith, total f, owned-many f p r x, y))
    same-kind u v (inr (inr (p, r, a, x))) (inr (inl (b, y))) = absurd (omega (arith, total f, owned-many f p r x, piped y))
    same-kind u v (inr (inr (p, r, a, x))) (inr (inr (q, s, b, y))) =
        let one = owned-once f p q r s x y in
        a ∙ ap (λ n. use_of n r) one.0 ∙ ap (use_of q) one.1 ∙ sym b

    -- a frame has one use
    pub one-use : (u v : FrameUse) → IsUsed k f u → IsUsed k f v → u ≡ v
    one-use u v a b = same-kind u v (kind u a) (kind v b)

    -- what is used lies in RAM
    inside-kind : (u : FrameUse) → Kind f u → f < frame_count k
    inside-kind u used = elim (cases_lt f (frame_count k)) [ inl lt ↦ lt | inr ge ↦ absurd (by used ge) ]
      where
        by : Kind f u → frame_count k ≤ f → ⊥
        by (inl (a, x)) ge = omega (arith, sound.memories.inside f ge, x)
        by (inr (inl (a, x))) ge = omega (arith, sound.memories.inside f ge, piped x)
        by (inr (inr (p, r, a, x))) ge = omega (arith, sound.memories.inside f ge, owned-many f p r x)

    pub use-inside : (u : FrameUse) → IsUsed k f u → f < frame_count k
    use-inside u used = inside-kind u (kind u used)

    -- ---- what is told of it

    pub told-some : (u : FrameUse) → IsUsed k f u → (v : FrameUse) → (Some u ≡ Some v) ↔ IsUsed k f v
    told-some u used v = (λ e. subst (IsUsed k f) (same_Some u v e) used, λ other. ap Some (one-use u v used other))

    pub told-none : frame_count k ≤ f → (v : FrameUse) → (None ≡ Some v) ↔ IsUsed k f v
    told-none ge v = (λ e. absurd (none-some v e), λ used. absurd (omega (arith, ge, use-inside v used)))

    -- a frame that no process has, and no pipe lies in, is free
    pub left-free : f < frame_count k → keeps_pipe k.memories.pipes.items f ≡ false → ((pid : ℕ) (r : FrameRole) → ¬ IsOwned k pid f r) → IsUsed k f Free
    left-free lt free none =
        omega (arith, sound.memories.once f lt, ap count_if free, joined-none f (map (slot_frames k.memories.ram) k.memories.each.items) each)
      where
        each : (i : ℕ) → copies f (get_or (map (slot_frames k.memories.ram) k.memories.each.items) i []) ≡ 0
        each i = ap (copies f) (frames-at k.memories.ram k.memories.each.items i) ∙ by (get_or k.memories.each.items i None) refl
          where
            by : (o : Option Memory) → get_or k.memories.each.items i None ≡ o → copies f (slot_frames k.memories.ram o) ≡ 0
            by None is = copies-nil f
            by (Some m) is = let p = memory-place i m is in unused-none k.memories.ram m f (λ r used. none p.0.pid r (i, p.0, p.1, refl, (m, is, used)))

  -- ---- a page

  page-same : (i vpn : ℕ) (m : Memory) → get_or k.memories.each.items i None ≡ Some m → page_frame_in k.memories i vpn ≡ frame_of (page_entry k.memories.ram m.space.root vpn)
  page-same i vpn m is = ap (page_frame_of k.memories.ram vpn) is

  pub page-told : (pid i vpn : ℕ) → IsLiveIn k pid i → (f : ℕ) → (page_frame_in k.memories i vpn ≡ Some f) ↔ IsUsed k f (Page pid vpn)
  page-told pid i vpn there f = (by (get_or k.memories.each.items i None) refl, back)
    where
      by : (o : Option Memory) → get_or k.memories.each.items i None ≡ o → page_frame_of k.memories.ram vpn o ≡ Some f → IsUsed k f (Page pid vpn)
      by None is e = absurd (none-some f e)
      by (Some m) is e = (i, there.0, there.1, there.3, (m, is, e))

      back : IsUsed k f (Page pid vpn) → page_frame_in k.memories i vpn ≡ Some f
      back o = elim (cases_eq i o.0) [
        | inl same ↦ page-same i vpn o.4.0 (ap (λ j. get_or k.memories.each.items j None) same ∙ o.4.1) ∙ o.4.2
        | inr ne ↦ absurd (ne (sound.table.pids.apart i o.0 there.0 o.1 there.1 o.2 (there.3 ∙ sym o.3)))
      ]

  pub no-page-told : (pid vpn : ℕ) → live (state_of k h) pid ≡ None → (f : ℕ) → (None ≡ Some f) ↔ IsUsed k f (Page pid vpn)
  no-page-told pid vpn missing f = (λ e. absurd (none-some f e), λ o. absurd (gone o))
    where
      gone : IsUsed k f (Page pid vpn) → ⊥
      gone o =
          let p = memory-place o.0 o.4.0 o.4.1 in
          let same : o.1.pid ≡ p.0.pid = ap (λ (x : Process). x.pid) (same_Some o.1 p.0 (sym o.2 ∙ p.1)) in
          none-some _ (sym missing ∙ ap (live (state_of k h)) (sym o.3 ∙ same) ∙ live-held k h sound.table o.0 p.0 p.1 p.2)

-- ---- the search over all slots

pub one-more : (m : Memories) (f slot : ℕ) → ((i : ℕ) → i < slot → (role : FrameRole) → ¬ IsUsedIn m i f role)
    → ((role : FrameRole) → ¬ IsUsedIn m slot f role) → (i : ℕ) → i < slot + 1 → (role : FrameRole) → ¬ IsUsedIn m i f role
one-more m f slot before here i lt role used = elim (cases_lt i slot) [ inl earlier ↦ before i earlier role used | inr ge ↦ here role (subst (λ j. IsUsedIn m j f role) (same ge) used) ]
  where
    same : slot ≤ i → i ≡ slot
    same ge = omega (arith, lt, ge)

-- a pipe lies in a frame exactly where its counts are told
pub some-counted : (m : Memories) (f : ℕ) (o : Option PipeCounts) → o ≡ option_map counts_of (get (pipes_of m) f) → is_some (get (pipes_of m) f) ≡ is_some o
some-counted m f o told = sym (mapped (get (pipes_of m) f)) ∙ sym (ap is_some told)
  where
    mapped : (p : Option pipe.Pipe) → is_some (option_map counts_of p) ≡ is_some p
    mapped None = refl
    mapped (Some p) = refl
