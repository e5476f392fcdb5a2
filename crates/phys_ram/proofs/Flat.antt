-- The bytes of all frames, in one list.
use Rattle.std.proofs.Common.{◌≡◌, ℕ, ◌+◌, ◌-◌, ◌*◌, ◌<◌, ◌≤◌, List, [], ◌++◌, length, take, drop, get_or, sym, ap, ◌∙◌, arith, take-take}
use Rattle.std.specs.List.{flat_map}
use Rattle.std.proofs.lemmas.List.{take-append-drop, drop_more, drop-drop, drop-take}
use Rattle.std.proofs.lemmas.Grind.{flat_map-append}
use Rattle.std.proofs.Math.Seq.{drop-append_seam, take-append_seam}

-- a frame of 4,096 bytes, before which frames of as many bytes stand
module _ (frames : List (List ℕ)) (f : ℕ) (inside : f < length frames) (before : length (flat_map (λ bytes. bytes) (take f frames)) ≡ 4096 * f) (long : length (get_or frames f []) ≡ 4096) where
  abbrev pub all : List ℕ
  all = flat_map (λ bytes. bytes) frames

  abbrev first : List ℕ
  first = flat_map (λ bytes. bytes) (take f frames)

  abbrev rest : List ℕ
  rest = flat_map (λ bytes. bytes) (drop (f + 1) frames)

  three : all ≡ first ++ (get_or frames f [] ++ rest)
  three =
      ap (flat_map (λ bytes. bytes)) (sym (take-append-drop f frames))
      ∙ flat_map-append (λ bytes. bytes) (take f frames) (drop f frames)
      ∙ ap (λ l. first ++ flat_map (λ bytes. bytes) l) (drop_more frames f [] inside)

  from_here : drop (4096 * f) all ≡ get_or frames f [] ++ rest
  from_here = ap (drop (4096 * f)) three ∙ ap (λ n. drop n (first ++ (get_or frames f [] ++ rest))) (sym before) ∙ drop-append_seam first (get_or frames f [] ++ rest)

  frame_here : take 4096 (drop (4096 * f) all) ≡ get_or frames f []
  frame_here = ap (take 4096) from_here ∙ ap (λ n. take n (get_or frames f [] ++ rest)) (sym long) ∙ take-append_seam (get_or frames f []) rest

  pub part_here : (at count : ℕ) → at + count ≤ 4096 → take count (drop (4096 * f + at) all) ≡ take count (drop at (get_or frames f []))
  part_here at count low =
      let size : 4096 ≡ at + (4096 - at) = omega (arith, low) in
      let cut : drop at (get_or frames f []) ≡ take (4096 - at) (drop (4096 * f + at) all) =
      ap (drop at) (sym frame_here) ∙ ap (λ n. drop at (take n (drop (4096 * f) all))) size ∙ drop-take at (4096 - at) (drop (4096 * f) all) ∙ ap (take (4096 - at)) (drop-drop at (4096 * f) all) in
      sym (ap (take count) cut ∙ take-take count (4096 - at) (drop (4096 * f + at) all) (omega (arith, low)))
