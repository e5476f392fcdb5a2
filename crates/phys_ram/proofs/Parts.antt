-- A frame among those of a vector is written, through one of the two parts that the vector was split into.
use Rattle.std.proofs.Common.{◌≡◌, ℕ, ◌-◌, ◌<◌, ◌≤◌, List, ◌++◌, length, take, drop, set, sym, ap, ◌∙◌, arith}
use Rattle.std.proofs.lemmas.List.{take-append-drop, set-append_left, set-append_right, length-set, length-take-le, drop_all, take_all, append-nil}

-- the frames, how many there are, and which is written
module _ (items : List (List ℕ)) (len : ℕ) (whole : len ≡ length items) (t : ℕ) (y : List ℕ) (inside : t < length items) where
  -- what a vector ends as whose two parts are joined again
  ends_as : (now : List (List ℕ)) → now ≡ set items t y → take len (now ++ drop (length now) items) ≡ set items t y
  ends_as now is =
      let long : length now ≡ length items = ap length is ∙ length-set items t y in
      ap (λ rest. take len (now ++ rest)) (drop_all (length now) items (omega (arith, long)))
      ∙ ap (take len) (append-nil now)
      ∙ take_all len now (omega (arith, long, whole))
      ∙ is

  -- it is the first of the upper part
  pub set_in_upper : (low high : List (List ℕ)) → low ≡ take t items → high ≡ drop t items → take len ((low ++ set high 0 y) ++ drop (length (low ++ set high 0 y)) items) ≡ set items t y
  set_in_upper low high is_low is_high =
      let cut : length low ≡ t = ap length is_low ∙ length-take-le t items (omega (arith, inside)) in
      let both : low ++ high ≡ items = (λ k. is_low k ++ is_high k) ∙ take-append-drop t items in
      let first : t - t ≡ 0 = omega arith in
      ends_as (low ++ set high 0 y) (ap (λ k. low ++ set high k y) (sym first) ∙ sym (set-append_right low high t t y cut (omega arith)) ∙ ap (λ xs. set xs t y) both)

  -- it lies in the lower part
  pub set_in_lower : (low high : List (List ℕ)) (s : ℕ) → t < s → s ≤ length items → low ≡ take s items → high ≡ drop s items
      → take len ((set low t y ++ high) ++ drop (length (set low t y ++ high)) items) ≡ set items t y
  set_in_lower low high s lt le is_low is_high =
      let cut : length low ≡ s = ap length is_low ∙ length-take-le s items le in
      let both : low ++ high ≡ items = (λ k. is_low k ++ is_high k) ∙ take-append-drop s items in
      ends_as (set low t y ++ high) (sym (set-append_left low high t y (omega (arith, cut, lt))) ∙ ap (λ xs. set xs t y) both)
