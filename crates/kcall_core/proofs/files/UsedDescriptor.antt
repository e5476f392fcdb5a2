-- A descriptor that a call names by its number: what is in use, and what is not.
use Rattle.kcall_core.proofs.Prelude.{ℕ, ℤ, ◌<◌, ◌∙◌, ◌≡◌, ap, Bool, cases_lt, cond, descriptor_at, descriptors_at, entry_file, get, Hart, inl, inr, InUse, IsRunning, IsSome, IsWhole, Kernel, le-ltb}
use Rattle.kcall_core.proofs.Prelude.{live_now, lt-ltb, named, named_at, named_by, NOFILE, None, numbered, open_file_at, OpenFile, Option, option_map, pos, refl, rename, slot_now, Some, state_of}
use Rattle.kcall_core.proofs.Prelude.{subst, sym, view_now, view_of}
use Rattle.kcall_core.proofs.table.Stops.{now-slot}
use Rattle.kcall_core.proofs.files.Namings.{named-seen}
use Rattle.kcall_core.proofs.files.OneClosed.{used-entry, used-seen, opened-seen}
use Rattle.kcall_core.proofs.processes.Exits.{whole-closing}

pub runs-now : (k : Kernel) (slot : ℕ) → k.current ≡ Some slot → IsRunning k
runs-now k slot is = subst (λ o. IsSome o) (sym is) refl

module _ {k : Kernel} {h : Hart} {slot : ℕ} (whole : IsWhole k h) (runs : IsRunning k) (is : k.current ≡ Some slot) where
  pub in-use-named : {d g : ℕ} → d < NOFILE → named_by (descriptors_at k.table slot) d ≡ Some g → (x : OpenFile) × InUse k h d g x
  in-use-named {d} {g} below e =
      let closing = whole-closing whole runs in
      let entry = used-entry closing is below e in
      let kind : open_file_at k.files g ≡ Some entry.0.file = ap (option_map entry_file) entry.1 in
      (entry.0.file, record { used = used-seen closing is below e; opened = opened-seen closing is below e kind; kind = kind })

  pub in-use : {d : ℕ} → d < NOFILE → IsSome (named_by (descriptors_at k.table slot) d) → (g : ℕ) × (x : OpenFile) × InUse k h d g x
  in-use {d} below some = by (named_by (descriptors_at k.table slot) d) refl some
    where
      by : (o : Option ℕ) → named_by (descriptors_at k.table slot) d ≡ o → IsSome o → (g : ℕ) × (x : OpenFile) × InUse k h d g x
      by None e some = let no : ⊥ = cc in absurd no
      by (Some g) e some =
          let closing = whole-closing whole runs in
          let entry = used-entry closing is below e in
          let kind : open_file_at k.files g ≡ Some entry.0.file = ap (option_map entry_file) entry.1 in
          (g, entry.0.file, record { used = used-seen closing is below e; opened = opened-seen closing is below e kind; kind = kind })

  -- what no descriptor in use has as its number shows nothing
  pub unused-shown : (z : ℤ) → ((d : ℕ) → d < NOFILE → z ≡ pos d → named_by (descriptors_at k.table slot) d ≡ None) → (d : ℕ) → z ≡ pos d → (view_now k h).descriptors d ≡ None
  unfolding view_of named
  unused-shown z none d e = elim (cases_lt d NOFILE) [
    | inl below ↦
        let free : get (live_now k h).descriptors d ≡ None =
        named-seen (descriptors_at k.table (slot_now k)) d
        ∙ ap (λ b. cond b (named_by (descriptors_at k.table (slot_now k)) d) None) (lt-ltb d NOFILE below)
        ∙ ap (λ n. named_by (descriptors_at k.table n) d) (sym (now-slot slot whole.sound is)) ∙ none d below e in
        named_at (numbered (state_of k h) (live_now k h)) d below ∙ ap (λ o. option_map (rename (numbered (state_of k h) (live_now k h))) (descriptor_at (state_of k h) o)) free
    | inr past ↦ ap (λ (b : Bool). cond b (option_map (rename (numbered (state_of k h) (live_now k h))) (numbered (state_of k h) (live_now k h) d)) None) (le-ltb d NOFILE past)
  ]
