-- Programs of call frames, as a loop runs them.
use Rattle.dwarf.proofs.Prelude.{[], ℕ, ◌++◌, ◌+◌, ◌-◌, ◌<◌, ◌>>=◌, ◌∙◌, ◌∷◌, ◌≡◌, ◌≤◌}
use Rattle.dwarf.proofs.Prelude.{ap, arith, Err, false, Fault, in_front, leb, length, List, None, Ok, Option, option_to_list, refl, Result, Some, suc, sym, true}
use Rattle.dwarf.proofs.Items.{in_front-append, in_front-end}
use Rattle.dwarf.specs.Frames.{frame_step, frames_from, split_last, taken_back}
use Rattle.std.specs.Prelude.{MatchOption, option_map}
use Rattle.dwarf.specs.Made.{Fails}
use Rattle.dwarf.specs.declared.fault.LineError.{LineError}
use Rattle.dwarf.specs.declared.fault.LineError.TheVariants.{Memory, Damaged}
use Rattle.dwarf.specs.declared.frame.FrameRow.{FrameRow}
use Rattle.dwarf.specs.declared.frame.FrameRules.{FrameRules}
use Rattle.dwarf.specs.declared.frame_common.Common.{Common}
use Rattle.dwarf.specs.declared.frame_program.FrameStep.{FrameStep}

split_last-append : (r : FrameRules) (xs : List FrameRules) (x : FrameRules) → split_last r (xs ++ x ∷ []) ≡ (r ∷ xs, x)
split_last-append r [] x = refl
split_last-append r (y ∷ ys) x = rw (split_last-append y ys x) refl

-- what was kept last comes back first
pub taken_back-append : (xs : List FrameRules) (x : FrameRules) → taken_back (xs ++ x ∷ []) ≡ Some (xs, x)
taken_back-append [] x = refl
taken_back-append (y ∷ ys) x = ap (λ p. Some p) (split_last-append y ys x)

-- what `pop` takes from a list, and what it leaves
pub taken_back_pop : (old new : List FrameRules) (r : Option FrameRules) → old ≡ new ++ option_to_list r
    → (n m : ℕ) → MatchOption r ((n ≡ 0) × (m ≡ 0)) (λ _. m + 1 ≡ n) → n ≡ length old → option_map (λ x. (new, x)) r ≡ taken_back old
taken_back_pop old new (Some x) e n m h same = sym (ap taken_back e ∙ taken_back-append new x)
taken_back_pop [] new None e n m h same = refl
taken_back_pop (y ∷ ys) new None e n m h same = absurd (omega (arith, h.0, same))

pub frames-go_on : (c : Common) (bytes : List ℕ) (common : FrameRules) (front : List FrameRow) (count i at : ℕ) (state : FrameRow) (kept after : List FrameRules) (s : FrameStep)
    (total : Result (List FrameRow × FrameRow) Fault) → i < count → leb (length bytes) at ≡ false → frame_step c bytes common at state kept ≡ Ok (s, after)
    → in_front front (frames_from c bytes common (count - i) at state kept) ≡ total
    → in_front (front ++ option_to_list s.row) (frames_from c bytes common (count - (i + 1)) s.next s.state after) ≡ total
unfolding frames_from
frames-go_on c bytes common front count i at state kept after s total lt more done so_far =
    let k : count - i ≡ suc (count - (i + 1)) = omega arith in
    let one : in_front front (frames_from c bytes common (count - i) at state kept)
    ≡ in_front (front ++ option_to_list s.row) (frames_from c bytes common (count - (i + 1)) s.next s.state after) =
    rw (k, more, done) (in_front-append front (option_to_list s.row) (frames_from c bytes common (count - (i + 1)) s.next s.state after)) in
    sym one ∙ so_far

pub frames-fail : (c : Common) (bytes : List ℕ) (common : FrameRules) (front : List FrameRow) (count i at : ℕ) (state : FrameRow) (kept : List FrameRules) (f : Fault)
    (total : Result (List FrameRow × FrameRow) Fault) → i < count → leb (length bytes) at ≡ false → frame_step c bytes common at state kept ≡ Err f
    → in_front front (frames_from c bytes common (count - i) at state kept) ≡ total → total ≡ Err f
unfolding frames_from
frames-fail c bytes common front count i at state kept f total lt more failed so_far =
    let k : count - i ≡ suc (count - (i + 1)) = omega arith in
    let one : in_front front (frames_from c bytes common (count - i) at state kept) ≡ Err f = rw (k, more, failed) refl in
    sym so_far ∙ one

-- whatever a step failed with, the run fails with it
pub frames-fails : (c : Common) (bytes : List ℕ) (common : FrameRules) (front : List FrameRow) (count i at : ℕ) (state : FrameRow) (kept : List FrameRules) (e : LineError)
    (total : Result (List FrameRow × FrameRow) Fault) → i < count → leb (length bytes) at ≡ false → Fails e (frame_step c bytes common at state kept)
    → in_front front (frames_from c bytes common (count - i) at state kept) ≡ total → Fails e total
frames-fails c bytes common front count i at state kept Memory total lt more failed so_far = tt
frames-fails c bytes common front count i at state kept (Damaged f) total lt more failed so_far = frames-fail c bytes common front count i at state kept f total lt more failed so_far

pub frames-end : (c : Common) (bytes : List ℕ) (common : FrameRules) (front : List FrameRow) (count i at : ℕ) (state : FrameRow) (kept : List FrameRules)
    (total : Result (List FrameRow × FrameRow) Fault) → i < count → leb (length bytes) at ≡ true
    → in_front front (frames_from c bytes common (count - i) at state kept) ≡ total → total ≡ Ok (front, state)
unfolding frames_from
frames-end c bytes common front count i at state kept total lt ended so_far =
    let k : count - i ≡ suc (count - (i + 1)) = omega arith in
    let one : in_front front (frames_from c bytes common (count - i) at state kept) ≡ Ok (front, state) = rw (k, ended) (in_front-end front state) in
    sym so_far ∙ one

pub frames-out : (c : Common) (bytes : List ℕ) (common : FrameRules) (front : List FrameRow) (count i at : ℕ) (state : FrameRow) (kept : List FrameRules)
    (total : Result (List FrameRow × FrameRow) Fault) → count ≤ i
    → in_front front (frames_from c bytes common (count - i) at state kept) ≡ total → total ≡ Ok (front, state)
unfolding frames_from
frames-out c bytes common front count i at state kept total le so_far =
    let k : count - i ≡ 0 = omega arith in
    let one : in_front front (frames_from c bytes common (count - i) at state kept) ≡ Ok (front, state) = rw k (in_front-end front state) in
    sym so_far ∙ one
