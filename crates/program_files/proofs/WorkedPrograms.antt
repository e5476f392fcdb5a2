-- Worked cases of programs of files.
use Rattle.std.proofs.Common.{◌≢◌, ℕ, zero, suc, ◌<◌, inl, inr, refl, arith}
use Rattle.std.specs.Prelude.{length, slice_index, codes}
use Rattle.program_files.specs.Programs.{IsNameIn, IsSource}

-- the name in `a/b` is `b`
no-slash : (place : ℕ) → place < length (codes "b") → slice_index (codes "b") place ≢ 47
no-slash zero within is = absurd (omega (arith, is))
no-slash (suc place) within is = absurd (omega (arith, within))

in_a_folder : IsNameIn (codes "a/b") (codes "b")
in_a_folder = record { ends = inr (codes "a", refl); one = no-slash }

alone : IsNameIn (codes "b") (codes "b")
alone = record { ends = inl refl; one = no-slash }

-- and not the whole path
not_the_path : IsNameIn (codes "a/b") (codes "a/b") → ⊥
not_the_path named = named.one 1 (omega arith) refl

-- `b.s` is the source of a program `b`
no-slash-in-source : (place : ℕ) → place < length (codes "b.s") → slice_index (codes "b.s") place ≢ 47
no-slash-in-source zero within is = absurd (omega (arith, is))
no-slash-in-source (suc zero) within is = absurd (omega (arith, is))
no-slash-in-source (suc (suc zero)) within is = absurd (omega (arith, is))
no-slash-in-source (suc (suc (suc place))) within is = absurd (omega (arith, within))

a_source : IsSource (codes "b.s") (codes "b")
a_source = record { ends = inl refl; one = no-slash-in-source }
