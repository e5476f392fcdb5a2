-- Worked cases of the definitions.
use Rattle.std.proofs.Common.{◌≢◌, ◌++◌, ℕ, zero, suc, ◌<◌, List, ap, arith, inl, inr, length-append}
use Rattle.std.specs.Prelude.{◌≡◌, true, false, [], ◌∷◌, None, Some, String, length, slice_index, string_bytes, codes, refl}
use Rattle.std.specs.declared.alloc.Global.{Global}
use Rattle.grade_rules.specs.declared.ending.End.TheVariants as ends
use Rattle.kernel_spec.specs.runs.Run.{Run, Tick, Sent, Idle}
use Rattle.grade_submissions.specs.declared.disk.Found.TheVariants.{Nothing, NoFile}
use Rattle.grade_submissions.specs.declared.submission.HandedIn.TheVariants.{Refused}
use Rattle.grade_submissions.specs.Encodings.{without_mark}
use Rattle.grade_submissions.specs.Files.{path_in, without_returns, speaks_of, no_file_text, IsFolderOf, IsFoundAs, IsLastPart}
use Rattle.grade_submissions.specs.Plays.{sending_after, runs_among, waiting}

-- a file `b` in the folder `a`
in_a_folder : path_in (codes "a") (codes "b") ≡ codes "a/b"
in_a_folder = refl

-- the folder of `a/b` is `a`, and no other
no-slash : (place : ℕ) → place < length (codes "b") → slice_index (codes "b") place ≢ 47
no-slash zero within is = absurd (omega (arith, is))
no-slash (suc place) within is = absurd (omega (arith, within))

its_folder : IsFolderOf (codes "a/b") (codes "a")
its_folder = inl (codes "b", refl, no-slash)

not_the_present_one : IsFolderOf (codes "a/b") (codes ".") → ⊥
not_the_present_one (inl is) = absurd (omega (arith, ap (λ (path : List ℕ). slice_index path 0) is.1))
not_the_present_one (inr is) = is.1 1 (omega arith) refl

alone : IsFolderOf (codes "b") (codes ".")
alone = inr (refl, no-slash)

-- the last part of `c/b` and of `c/b/` is `b`, and no part of a name is one
last_of_two : IsLastPart (codes "c/b") (codes "b")
last_of_two = inr (ends-otherwise, (no-slash, inr (codes "c", refl)))
  where
    ends-otherwise : (bare : List ℕ) → codes "c/b" ≡ bare ++ codes "/" → ⊥
    ends-otherwise [] is = absurd (omega (arith, ap length is))
    ends-otherwise (a ∷ []) is = absurd (omega (arith, ap length is))
    ends-otherwise (a ∷ b ∷ []) is = absurd (omega (arith, ap (λ (path : List ℕ). slice_index path 2) is))
    ends-otherwise (a ∷ b ∷ c ∷ rest) is = absurd (omega (arith, ap length is, length-append rest (codes "/")))

a_slash_behind_it : IsLastPart (codes "c/b/") (codes "b")
a_slash_behind_it = inl (codes "c/b", refl, (no-slash, inr (codes "c", refl)))

no_part_of_a_name : IsLastPart (codes "ab") (codes "b") → ⊥
no_part_of_a_name (inl (bare, is, name)) = ends-otherwise bare is
  where
    ends-otherwise : (bare : List ℕ) → codes "ab" ≡ bare ++ codes "/" → ⊥
    ends-otherwise [] is = absurd (omega (arith, ap length is))
    ends-otherwise (a ∷ []) is = absurd (omega (arith, ap (λ (path : List ℕ). slice_index path 1) is))
    ends-otherwise (a ∷ b ∷ rest) is = absurd (omega (arith, ap length is, length-append rest (codes "/")))
no_part_of_a_name (inr (bare, (free, inl is))) = absurd (omega (arith, ap length is))
no_part_of_a_name (inr (bare, (free, inr (folder, is)))) = behind folder is
  where
    behind : (folder : List ℕ) → codes "ab" ≡ path_in folder (codes "b") → ⊥
    behind [] is = absurd (omega (arith, ap (λ (path : List ℕ). slice_index path 0) is))
    behind (a ∷ rest) is = absurd (omega (arith, ap length is, length-append rest (codes "/b")))

-- a byte order mark goes, if it stands first
a_mark : without_mark (0xef ∷ 0xbb ∷ 0xbf ∷ 65 ∷ []) ≡ (65 ∷ [])
a_mark = refl

no_mark : without_mark (65 ∷ 0xef ∷ 0xbb ∷ 0xbf ∷ []) ≡ (65 ∷ 0xef ∷ 0xbb ∷ 0xbf ∷ [])
no_mark = refl

-- a carriage return goes, and the end of the line stays
a_return : without_returns (65 ∷ 13 ∷ 10 ∷ []) ≡ (65 ∷ 10 ∷ [])
a_return = refl

-- a line speaks of the file whose whole name stands before its colon
of_this : speaks_of (codes "init.s") (codes "init.s: a link") ≡ true
of_this = refl

of_another : speaks_of (codes "init") (codes "init.s: a link") ≡ false
of_another = refl

none_there : (one other : String Global) → string_bytes one ≡ codes "init" → string_bytes other ≡ codes "init.s"
    → no_file_text (one ∷ other ∷ []) ≡ codes "no file init or init.s"
none_there one other is that = rw (is, that) refl

-- what isn't there is no refusal, and a link is one
nothing_there : IsFoundAs (codes "init") Nothing None
nothing_there = refl

a_link : (why : String Global) → string_bytes why ≡ codes "init: not a plain file" → IsFoundAs (codes "init") NoFile (Some (Refused why))
a_link why is = is

a_link_is_there : IsFoundAs (codes "init") NoFile None → ⊥
a_link_is_there is = is

-- two Runs and a Tick have two Runs
two_runs : runs_among (Run ∷ Tick ∷ Run ∷ []) ≡ 2
two_runs = refl

-- a Send that finds no byte ends the sending, and a Run doesn't
no_byte : sending_after true (Sent None) ≡ false
no_byte = refl

a_byte : sending_after false (Sent (Some 65)) ≡ true
a_byte = refl

a_run : sending_after true Idle ≡ true
a_run = refl

-- who waits while the console sends floods it
flood : waiting true ≡ ends.Floods
flood = refl

no_flood : waiting false ≡ ends.Waits
no_flood = refl
