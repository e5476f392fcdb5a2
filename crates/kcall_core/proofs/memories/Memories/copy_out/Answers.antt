use Rattle.kcall_core.proofs.Prelude.{[], ℕ, ◌∙◌, ap, free_in, free_of, Image, length, List, refl, sym, writable_now, write_image}
use Rattle.kcall_core.proofs.memory.Births.{untraded}
use Rattle.kcall_core.proofs.memory.Changes.{there-held, stood, image-seen, belongs-of, space-changes, same-if}
use Rattle.kcall_core.proofs.memory.Written.{ok-map, ok-both, err-map, either, whole-of, each-stays, free-stays, written-runs, unwritten-runs}
use Rattle.kcall_core.proofs.memories.Memories.copy_out.Goals as goal

pub memory_in-memory-requires : goal.memory_in-memory-requires
memory_in-memory-requires c = there-held _ _ c.requires.there

pub copy_out-requires : goal.copy_out-requires
copy_out-requires c = whole-of (stood c.requires.sound c.requires.there c.memory_in-memory.ensures)

pub returns-clause-fine : goal.returns-clause-fine
returns-clause-fine c =
    let s = stood c.requires.sound c.requires.there c.memory_in-memory.ensures in
    ok-map c.copy_out.result c.copy_out.ensures.fine (λ x fine. ap (λ (i : Image). writable_now i c.args.address (length c.args.bytes.now)) (image-seen s) ∙ fine)

pub returns-clause-written : goal.returns-clause-written
returns-clause-written c =
    let s = stood c.requires.sound c.requires.there c.memory_in-memory.ensures in
    ok-both c.copy_out.result c.copy_out.ensures.copied c.copy_out.ensures.changed (λ x is changed.
    space-changes _ c.memory_in-memory.result.now.space _ s (changed c.args.self.now.pool (belongs-of s)) (is ∙ ap (λ (i : Image). write_image i c.args.address c.args.bytes.now) (sym (image-seen s)))
    (each-stays s) refl)

pub returns-clause-free : goal.returns-clause-free
unfolding free_of
returns-clause-free c =
    let s = stood c.requires.sound c.requires.there c.memory_in-memory.ensures in
    either c.copy_out.result
    (ok-both c.copy_out.result c.copy_out.ensures.in_place c.copy_out.ensures.changed
    (λ x place changed. free-stays c.copy_out.new.ram s place (changed c.args.self.now.pool (belongs-of s)))) c.copy_out.ensures.refused
    (λ x is. is) (λ e r. ap (λ (m : List (List ℕ)). length (free_in c.args.self.now.pool m)) r.1)

pub returns-clause-runs : goal.returns-clause-runs
returns-clause-runs c =
    let s = stood c.requires.sound c.requires.there c.memory_in-memory.ensures in
    either c.copy_out.result c.copy_out.ensures.in_place c.copy_out.ensures.refused (λ x place. written-runs _ s place refl) (λ e r. unwritten-runs _ s r.1 refl)

pub returns-clause-refused : goal.returns-clause-refused
returns-clause-refused c =
    let s = stood c.requires.sound c.requires.there c.memory_in-memory.ensures in
    err-map c.copy_out.result c.copy_out.ensures.refused (λ e r. (
      ap (λ (i : Image). writable_now i c.args.address (length c.args.bytes.now)) (image-seen s) ∙ r.0,
      same-if c.args.self.now _ c.requires.sound (untraded _ _ _ _ [] c.requires.sound.good refl r.1) refl refl,
    ))
