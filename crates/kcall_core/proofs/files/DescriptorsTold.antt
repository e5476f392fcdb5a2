-- What is told of a descriptor, by what the tables keep.
use Rattle.kcall_core.proofs.Prelude.{ℕ, ◌<◌, ◌∙◌, ◌≡◌, ◌≤◌, ap, arith, cond, count_at, descriptor_of, descriptors_at, file_of, Hart, is_some, IsLiveIn, IsOpen, IsSome, IsWhole, Kernel, live, lt-ltb}
use Rattle.kcall_core.proofs.Prelude.{ltb, named_by, NOFILE, None, none_either_way, open_file_at, opened, OpenFile, option_map, or_zero, refl, Some, state_of, subst, sym}
use Rattle.kcall_core.specs.declared.kernel.observers.Descriptor.{Descriptor}
use Rattle.kcall_core.proofs.memory.Changes.{some-inside}
use Rattle.kcall_core.proofs.table.Observed.{live-held}
use Rattle.kcall_core.proofs.table.States.{slot-inside}
use Rattle.kcall_core.proofs.files.Namings.{named-counts, named-seen, counted-entry, file-seen, file-inside}

module _ (k : Kernel) (h : Hart) (whole : IsWhole k h) (pid i : ℕ) (there : IsLiveIn k pid i) where
  pub told-inside : i < 64
  told-inside = slot-inside k h whole.sound i there.0 there.1

  module _ (d : ℕ) (below : d < NOFILE) where
    -- the descriptor names what it names in its slot
    file-told : (h' : Hart) → file_of (live (state_of k h') pid) d ≡ named_by (descriptors_at k.table i) d
    file-told h' =
        ap (λ n. file_of (live (state_of k h') n) d) (sym there.3)
        ∙ ap (λ o. file_of o d) (live-held k h' whole.sound.table i there.0 there.1 there.2)
        ∙ named-seen (descriptors_at k.table i) d
        ∙ ap (λ b. cond b (named_by (descriptors_at k.table i) d) None) (lt-ltb d NOFILE below)

    pub named-open : (file : ℕ) → named_by (descriptors_at k.table i) d ≡ Some file → IsOpen k.files file
    named-open file is = let many : 1 ≤ or_zero (count_at k.files file) =
        omega (arith, whole.counted.counts file, named-counts k.table i d file told-inside below is) in ap is_some (counted-entry k.files file many).1

    pub descriptor-told : (h' : Hart) (file : ℕ) (x : OpenFile) → named_by (descriptors_at k.table i) d ≡ Some file
        → open_file_at k.files file ≡ Some x → descriptor_of (state_of k h') pid d ≡ Some (record { file = file; open_file = x })
    descriptor-told h' file x is kind =
        ap (opened (state_of k h')) (file-told h' ∙ is)
        ∙ ap (option_map (λ (y : OpenFile). let told : Descriptor = record { file = file; open_file = y } in told)) (file-seen k h' file (file-inside k.files file x whole.files kind) ∙ kind)

  pub descriptor-unused : (d : ℕ) (h' : Hart) → named_by (descriptors_at k.table i) d ≡ None → descriptor_of (state_of k h') pid d ≡ None
  descriptor-unused d h' is =
      ap (opened (state_of k h'))
      (ap (λ n. file_of (live (state_of k h') n) d) (sym there.3)
      ∙ ap (λ o. file_of o d) (live-held k h' whole.sound.table i there.0 there.1 there.2)
      ∙ named-seen (descriptors_at k.table i) d
      ∙ none_either_way (ltb d NOFILE) (named_by (descriptors_at k.table i) d) is)

  -- a descriptor that is in use has one of the numbers of descriptors
  pub named-below : (d file : ℕ) → named_by (descriptors_at k.table i) d ≡ Some file → d < NOFILE
  named-below d file is = omega (arith, some-inside (descriptors_at k.table i) d (subst (λ o. IsSome o) (sym is) refl), whole.counted.lists i told-inside)
