-- Worked cases: where GDB begins, and with which program.
use Rattle.std.proofs.Common.{◌≡◌, [], ◌∷◌, None, Some, true, false, refl, arith}
use Rattle.std.specs.Prelude.{codes}
use Rattle.std.specs.Fmt.{digits}
use Rattle.xk_base.specs.declared.program.Program.{Program}
use Rattle.gdb_target.specs.Beginning.{IsBeyond, IsPlaceIn, end_note, is_named, known, note_of}

-- ---- the program

module _ (init sh other : Program) (first : is_named (codes "init") init ≡ true) (second : is_named (codes "init") sh ≡ false) where
  -- `init` is passed over, if there is another program
  the-first-other : known (init ∷ sh ∷ other ∷ []) None ≡ Some 1
  the-first-other = rw (first, second) refl

  one-before-init : known (sh ∷ init ∷ []) None ≡ Some 0
  one-before-init = rw (second) refl

  init-alone : known (init ∷ []) None ≡ Some 0
  init-alone = rw (first) refl

  -- a program is found by its name, `init` too
  init-by-name : known (sh ∷ init ∷ []) (Some (codes "init")) ≡ Some 1
  init-by-name = rw (second, first) refl

  no-such-name : known (sh ∷ sh ∷ []) (Some (codes "init")) ≡ None
  no-such-name = rw (second) refl

-- ---- the place

the-end : IsPlaceIn 5 None 5
the-end = refl

the-last-event : IsPlaceIn 5 (Some 5) 5
the-last-event = (refl, omega arith)

one-more-is-beyond : IsBeyond 5 (Some 6)
one-more-is-beyond = omega arith

the-end-is-not-beyond : IsBeyond 5 (Some 5) → ⊥
the-end-is-not-beyond beyond = omega (arith, beyond)

-- ---- what is told

at-the-place : note_of (codes "a.txt") 61230 61230 (end_note 61230 61230) ≡ codes "xv_gdb: a.txt: GDB begins after 61230 of its 61230 events\n"
unfolding digits
at-the-place = refl

before-the-end : note_of (codes "a.txt") 7 9 (end_note 7 8) ≡ codes "xv_gdb: a.txt: GDB begins after 7 of its 9 events, before init ends\n"
unfolding digits
before-the-end = refl
