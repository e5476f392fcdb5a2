-- Worked rows of the calls on processes: fork, wait, kill, sleep and sbrk at their limits, numbers that are no call, and arguments that are C ints.
-- What an image costs is given.
use Rattle.kernel_spec.proofs.Prelude.{[], ℕ, ◌+◌, ◌-◌, ◌>>=◌, ◌>>◌, ◌^◌, ◌or◌, ◌when◌, ◌||◌, ◌∙◌, ◌∷◌, ◌≡◌, Alive, Answer, ap, Blocked, Bool, Call, Called, cond, count_below, done, Exited, false}
use Rattle.kernel_spec.proofs.Prelude.{fork, grown, Image, kill, List, Live, map, marked, nat_eq, nat_lt, negsuc, new_pipe, None, Own, own, perform, pos, price, ready, refl, replicate, row, row_of}
use Rattle.kernel_spec.proofs.Prelude.{Running, sbrk, shrunk, SIZE_LIMIT, sleep, Some, Status, touch, true, View, wait, Zombie}
use Rattle.kernel_spec.proofs.worked.WorkedViews.{call, minus, in_call, ends_of, a0_after, pids_of, free_of, at_place, writers_of, readers_of, image_of, child_at, pid_of, next_pid_of}
use Rattle.kernel_spec.proofs.rows.RowParts.{perform_row, forked, cannot_fork, unless, grow_to, perform_parts, fork_parts}
use Rattle.kernel_spec.proofs.rows.RowsByParts.{by_parts}

module _ (image : Image) where
  -- ---- fork, of a process that costs 7 frames

  forking : (free next : ℕ) → List ℕ → View
  forking free next pids = record (in_call image (call 1 0 0 0)) { free = free; next_pid = next; pids = pids }

  fork_if : View → Bool → Own
  fork_if v refused = unless refused (call 1 0 0 0) v (λ _. forked (call 1 0 0 0) v)

  -- what is asked of a fork, where it is known whether it is refused
  forks : {X : Type 0} (asked : Own → X) (v : View) (refused : Bool) → cannot_fork v ≡ refused → asked (fork_parts (call 1 0 0 0) v) ≡ asked (fork_if v refused)
  unfolding fork_if
  forks asked v refused e = ap (λ (b : Bool). asked (fork_if v b)) e

  module _ (priced : price image ≡ 6) where
    enough : (free : ℕ) → nat_lt free (price image + 1) ≡ nat_lt free 7
    enough free = ap (λ (n : ℕ). nat_lt free (n + 1)) priced

    -- exactly as many frames as it takes are free
    fork_7 : (own (forking 7 2 (1 ∷ []))).answer ≡ Called (pos 1) (pos 2)
    unfolding own perform_parts perform_row row_of in_call forking fork_if
    fork_7 = by_parts (λ (o : Own). o.answer) _ _ refl (forks (λ o. o.answer) (forking 7 2 (1 ∷ [])) false (enough 7))

    fork_leaves_none : free_of (own (forking 7 2 (1 ∷ []))).next ≡ 0
    unfolding own perform_parts perform_row row_of in_call forking fork_if free_of
    fork_leaves_none = by_parts (λ (o : Own). free_of o.next) _ _ refl (forks (λ o. free_of o.next) (forking 7 2 (1 ∷ [])) false (enough 7) ∙ ap (λ (n : ℕ). 7 - (n + 1)) priced)

    fork_one_below : (own (forking 6 2 (1 ∷ []))).answer ≡ Called (pos 1) (negsuc 0)
    unfolding own perform_parts perform_row row_of in_call forking fork_if
    fork_one_below = by_parts (λ (o : Own). o.answer) _ _ refl (forks (λ o. o.answer) (forking 6 2 (1 ∷ [])) true (enough 6))

    -- the last pid is given, and none above it
    fork_last_pid : (own (forking 7 (2 ^ 31 - 1) (1 ∷ []))).answer ≡ Called (pos 1) (pos (2 ^ 31 - 1))
    unfolding own perform_parts perform_row row_of in_call forking fork_if
    fork_last_pid = by_parts (λ (o : Own). o.answer) _ _ refl (forks (λ o. o.answer) (forking 7 (2 ^ 31 - 1) (1 ∷ [])) false (enough 7))

    fork_past_it : (own (forking 7 (2 ^ 31) (1 ∷ []))).answer ≡ Called (pos 1) (negsuc 0)
    unfolding own in_call forking perform row row_of fork ◌>>=◌ ◌>>◌ ◌when◌ ◌or◌
    fork_past_it = refl

    -- with 63 pids in use there is room for one more, with 64 for none
    fork_63 : (own (forking 7 70 (replicate 63 1))).answer ≡ Called (pos 1) (pos 70)
    unfolding own perform_parts perform_row row_of in_call forking fork_if
    fork_63 = by_parts (λ (o : Own). o.answer) _ _ refl (forks (λ o. o.answer) (forking 7 70 (replicate 63 1)) false (enough 7))

    fork_64 : (own (forking 7 70 (replicate 64 1))).answer ≡ Called (pos 1) (negsuc 0)
    unfolding own in_call forking perform row row_of fork ◌>>=◌ ◌>>◌ ◌when◌ ◌or◌
    fork_64 = refl

    -- what parent and child see then
    fork_pids : pids_of (own (forking 7 5 (1 ∷ 4 ∷ []))).next ≡ 1 ∷ 4 ∷ 5 ∷ []
    unfolding own perform_parts perform_row row_of in_call forking fork_if pids_of
    fork_pids = by_parts (λ (o : Own). pids_of o.next) _ _ refl (forks (λ o. pids_of o.next) (forking 7 5 (1 ∷ 4 ∷ [])) false (enough 7))

    fork_next_pid : next_pid_of (own (forking 7 5 (1 ∷ 4 ∷ []))).next ≡ 6
    unfolding own perform_parts perform_row row_of in_call forking fork_if next_pid_of
    fork_next_pid = by_parts (λ (o : Own). next_pid_of o.next) _ _ refl (forks (λ o. next_pid_of o.next) (forking 7 5 (1 ∷ 4 ∷ [])) false (enough 7))

    fork_child : child_at (own (forking 7 5 (1 ∷ 4 ∷ []))).next 5 ≡ Some Running
    unfolding own perform_parts perform_row row_of in_call forking fork_if child_at
    fork_child = by_parts (λ (o : Own). child_at o.next 5) _ _ refl (forks (λ o. child_at o.next 5) (forking 7 5 (1 ∷ 4 ∷ [])) false (enough 7))

    child_pid : pid_of (own (forking 7 5 (1 ∷ 4 ∷ []))).child ≡ 5
    unfolding own perform_parts perform_row row_of in_call forking fork_if pid_of
    child_pid = by_parts (λ (o : Own). pid_of o.child) _ _ refl (forks (λ o. pid_of o.child) (forking 7 5 (1 ∷ 4 ∷ [])) false (enough 7))

    child_a0 : a0_after (own (forking 7 5 (1 ∷ 4 ∷ []))).child ≡ 0
    unfolding own perform_parts perform_row row_of in_call forking fork_if a0_after
    child_a0 = by_parts (λ (o : Own). a0_after o.child) _ _ refl (forks (λ o. a0_after o.child) (forking 7 5 (1 ∷ 4 ∷ [])) false (enough 7))

    child_alone : child_at (own (forking 7 5 (1 ∷ 4 ∷ []))).child 5 ≡ None
    unfolding own perform_parts perform_row row_of in_call forking fork_if child_at
    child_alone = by_parts (λ (o : Own). child_at o.child 5) _ _ refl (forks (λ o. child_at o.child 5) (forking 7 5 (1 ∷ 4 ∷ [])) false (enough 7))

    child_image : image_of (own (forking 7 5 (1 ∷ 4 ∷ []))).child ≡ image
    unfolding own perform_parts perform_row row_of in_call forking fork_if image_of
    child_image = by_parts (λ (o : Own). image_of o.child) _ _ refl (forks (λ o. image_of o.child) (forking 7 5 (1 ∷ 4 ∷ [])) false (enough 7))

    -- both are on both ends of the parent's pipe
    fork_readers : readers_of (at_place (own (record (forking 7 2 (1 ∷ [])) { descriptors = ends_of new_pipe })).next 1) ≡ 2
    unfolding own perform_parts perform_row row_of in_call forking fork_if at_place readers_of new_pipe count_below
    fork_readers = by_parts (λ (o : Own). readers_of (at_place o.next 1)) _ _ refl
        (forks (λ o. readers_of (at_place o.next 1)) (record (forking 7 2 (1 ∷ [])) { descriptors = ends_of new_pipe }) false (enough 7))

    fork_writers : writers_of (at_place (own (record (forking 7 2 (1 ∷ [])) { descriptors = ends_of new_pipe })).child 0) ≡ 2
    unfolding own perform_parts perform_row row_of in_call forking fork_if at_place writers_of new_pipe count_below
    fork_writers = by_parts (λ (o : Own). writers_of (at_place o.child 0)) _ _ refl
        (forks (λ o. writers_of (at_place o.child 0)) (record (forking 7 2 (1 ∷ [])) { descriptors = ends_of new_pipe }) false (enough 7))

  -- ---- kill of a zombie: it stays as it is; a status of 5 is still there

  with_zombie : Call → View
  with_zombie c = record (in_call image c) { pids = 1 ∷ 2 ∷ []; children = λ q. cond (nat_eq q 2) (Some (Status (pos 5))) None }

  kill_zombie : (own (with_zombie (call 6 2 0 0))).answer ≡ Called (pos 6) (pos 0)
  unfolding own in_call with_zombie perform row row_of kill ◌>>=◌ ◌>>◌ ◌when◌ ◌or◌
  kill_zombie = refl

  kill_zombie_keeps : child_at (own (with_zombie (call 6 2 0 0))).next 2 ≡ Some (Status (pos 5))
  unfolding own in_call with_zombie child_at perform row row_of kill ◌>>=◌ ◌>>◌ ◌when◌ ◌or◌
  kill_zombie_keeps = refl

  kill_zombie_marks : (own (with_zombie (call 6 2 0 0))).marked ≡ Some 2
  unfolding own in_call with_zombie perform row row_of kill ◌>>=◌ ◌>>◌ ◌when◌ ◌or◌
  kill_zombie_marks = refl

  kill_other : (own (with_zombie (call 6 3 0 0))).answer ≡ Called (pos 6) (negsuc 0)
  unfolding own in_call with_zombie perform row row_of kill ◌>>=◌ ◌>>◌ ◌when◌ ◌or◌
  kill_other = refl

  -- pid 0 is refused by itself, and not for being free
  kill_0 : (own (record (in_call image (call 6 0 0 0)) { pids = 0 ∷ 1 ∷ [] })).answer ≡ Called (pos 6) (negsuc 0)
  unfolding own in_call perform row row_of kill ◌>>=◌ ◌>>◌ ◌when◌ ◌or◌
  kill_0 = refl

  -- a pid is in use until its zombie is waited for
  wait_zombie : pids_of (own (with_zombie (call 3 0 0 0))).next ≡ 1 ∷ []
  unfolding own in_call with_zombie pids_of perform row row_of wait touch ◌>>=◌ ◌>>◌ ◌when◌ ◌or◌
  wait_zombie = refl

  waited_zombie : child_at (own (with_zombie (call 3 0 0 0))).next 2 ≡ None
  unfolding own in_call with_zombie child_at perform row row_of wait touch ◌>>=◌ ◌>>◌ ◌when◌ ◌or◌
  waited_zombie = refl

  -- ---- wait for the lesser of the zombies 3 and 4

  zombies_3_4 : View
  zombies_3_4 = record (in_call image (call 3 0 0 0)) {
    pids = 1 ∷ 3 ∷ 4 ∷ [];
    children = λ q. cond (nat_eq q 3) (Some (Status (pos 30))) (cond (nat_eq q 4) (Some (Status (pos 40))) None);
  }

  wait_3 : (own zombies_3_4).answer ≡ Called (pos 3) (pos 3)
  unfolding own in_call zombies_3_4 perform row row_of wait touch ◌>>=◌ ◌>>◌ ◌when◌ ◌or◌
  wait_3 = refl

  wait_leaves_4 : child_at (own zombies_3_4).next 4 ≡ Some (Status (pos 40))
  unfolding own in_call zombies_3_4 child_at perform row row_of wait touch ◌>>=◌ ◌>>◌ ◌when◌ ◌or◌
  wait_leaves_4 = refl

  -- 4 alone has ended
  wait_4 : (own (record zombies_3_4 { children = λ q. cond (nat_eq q 3) (Some Running) (cond (nat_eq q 4) (Some (Status (pos 40))) None) })).answer ≡ Called (pos 3) (pos 4)
  unfolding own in_call zombies_3_4 perform row row_of wait touch ◌>>=◌ ◌>>◌ ◌when◌ ◌or◌
  wait_4 = refl

  -- ---- sleep

  sleep_0 : (own (in_call image (call 13 0 0 0))).answer ≡ Called (pos 13) (pos 0)
  unfolding own in_call perform row row_of sleep ◌>>=◌ ◌>>◌ ◌when◌ ◌or◌
  sleep_0 = refl

  sleep_minus_5 : (own (in_call image (call 13 (minus 5) 0 0))).answer ≡ Called (pos 13) (pos 0)
  unfolding own in_call perform row row_of sleep ◌>>=◌ ◌>>◌ ◌when◌ ◌or◌
  sleep_minus_5 = refl

  -- sleep(2), begun at the clock's last value, at this clock
  round_sleeper : ℕ → View
  round_sleeper clock = record (in_call image (record (call 13 2 0 0) { clock = 2 ^ 32 - 1 })) { clock = clock }

  sleep_round_0 : (own (round_sleeper (2 ^ 32 - 1))).answer ≡ Blocked (pos 13)
  unfolding own in_call round_sleeper perform row row_of sleep ◌>>=◌ ◌>>◌ ◌when◌ ◌or◌
  sleep_round_0 = refl

  sleep_round_1 : (own (round_sleeper 0)).answer ≡ Blocked (pos 13)
  unfolding own in_call round_sleeper perform row row_of sleep ◌>>=◌ ◌>>◌ ◌when◌ ◌or◌
  sleep_round_1 = refl

  sleep_round_2 : (own (round_sleeper 1)).answer ≡ Called (pos 13) (pos 0)
  unfolding own in_call round_sleeper perform row row_of sleep ◌>>=◌ ◌>>◌ ◌when◌ ◌or◌
  sleep_round_2 = refl

  ready_round_1 : ready (round_sleeper 0) ≡ false
  unfolding ready row_of in_call round_sleeper
  ready_round_1 = refl

  ready_round_2 : ready (round_sleeper 1) ≡ true
  unfolding ready row_of in_call round_sleeper
  ready_round_2 = refl

  -- ---- sbrk, from a size, with so many frames free

  sizing : (size n free : ℕ) → View
  sizing size n free = record (in_call image (call 12 n 0 0)) { image = record image { size = size }; free = free }

  growing : (size n free frames : ℕ) → Own
  unfolding sizing in_call
  growing size n free frames =
      unless (nat_lt SIZE_LIMIT (size + n) || nat_lt free frames) (call 12 n 0 0) (sizing size n free)
      (λ _. done (call 12 n 0 0) (pos size) (record (sizing size n free) { image = grown (record image { size = size }) (size + n); free = free - frames }))

  -- what is asked of growth, where it is known how many frames it takes
  grows : {X : Type 0} (asked : Own → X) (size n free frames : ℕ) → price (grown (record image { size = size }) (size + n)) - price (record image { size = size }) ≡ frames
      → asked (grow_to (call 12 n 0 0) (sizing size n free) (size + n)) ≡ asked (growing size n free frames)
  unfolding sizing in_call growing
  grows asked size n free frames e = ap (λ (k : ℕ). asked (growing size n free k)) e

  module _ (two : price (grown (record image { size = 12288 }) 20480) - price (record image { size = 12288 }) ≡ 2) where
    -- exactly as many frames as it takes are free, and one fewer
    sbrk_fits : (own (sizing 12288 8192 2)).answer ≡ Called (pos 12) (pos 12288)
    unfolding own perform_parts perform_row row_of in_call sizing growing
    sbrk_fits = by_parts (λ (o : Own). o.answer) _ _ refl (grows (λ o. o.answer) 12288 8192 2 2 two)

    sbrk_takes_all : free_of (own (sizing 12288 8192 2)).next ≡ 0
    unfolding own perform_parts perform_row row_of in_call sizing growing free_of
    sbrk_takes_all = by_parts (λ (o : Own). free_of o.next) _ _ refl (grows (λ o. free_of o.next) 12288 8192 2 2 two)

    sbrk_grows : image_of (own (sizing 12288 8192 2)).next ≡ grown (record image { size = 12288 }) 20480
    unfolding own perform_parts perform_row row_of in_call sizing growing image_of
    sbrk_grows = by_parts (λ (o : Own). image_of o.next) _ _ refl (grows (λ o. image_of o.next) 12288 8192 2 2 two)

    sbrk_one_below : (own (sizing 12288 8192 1)).answer ≡ Called (pos 12) (negsuc 0)
    unfolding own perform_parts perform_row row_of in_call sizing growing
    sbrk_one_below = by_parts (λ (o : Own). o.answer) _ _ refl (grows (λ o. o.answer) 12288 8192 1 2 two)

  -- up to the greatest size, and a byte beyond
  module _ (one : price (grown (record image { size = 2 ^ 38 - 8193 }) (2 ^ 38 - 8192)) - price (record image { size = 2 ^ 38 - 8193 }) ≡ 1) where
    sbrk_to_limit : (own (sizing (2 ^ 38 - 8193) 1 9)).answer ≡ Called (pos 12) (pos (2 ^ 38 - 8193))
    unfolding own perform_parts perform_row row_of in_call sizing growing
    sbrk_to_limit = by_parts (λ (o : Own). o.answer) _ _ refl (grows (λ o. o.answer) (2 ^ 38 - 8193) 1 9 1 one)

  sbrk_past_limit : (own (sizing (2 ^ 38 - 8193) 2 500)).answer ≡ Called (pos 12) (negsuc 0)
  unfolding own in_call sizing perform row row_of sbrk ◌>>=◌ ◌>>◌ ◌when◌ ◌or◌
  sbrk_past_limit = refl

  -- down to 0, and a byte below
  sbrk_to_0 : (own (sizing 12288 (minus 12288) 0)).answer ≡ Called (pos 12) (pos 12288)
  unfolding own in_call sizing perform row row_of sbrk ◌>>=◌ ◌>>◌ ◌when◌ ◌or◌
  sbrk_to_0 = refl

  sbrk_to_0_leaves : image_of (own (sizing 12288 (minus 12288) 0)).next ≡ shrunk (record image { size = 12288 }) 0
  unfolding own in_call sizing image_of perform row row_of sbrk ◌>>=◌ ◌>>◌ ◌when◌ ◌or◌
  sbrk_to_0_leaves = refl

  sbrk_below_0 : (own (sizing 12288 (minus 12289) 500)).answer ≡ Called (pos 12) (negsuc 0)
  unfolding own in_call sizing perform row row_of sbrk ◌>>=◌ ◌>>◌ ◌when◌ ◌or◌
  sbrk_below_0 = refl

  -- ---- numbers that are no call

  no_call : List ℕ
  no_call = 0 ∷ 8 ∷ 9 ∷ 17 ∷ 18 ∷ 19 ∷ 20 ∷ 23 ∷ []

  no_rows : map (λ n. row_of (pos n)) no_call ≡ replicate 8 None
  unfolding row_of no_call
  no_rows = refl

  no_answers : map (λ n. (own (in_call image (call n 1 0 0))).answer) no_call ≡ map (λ n. Called (pos n) (negsuc 0)) no_call
  unfolding own in_call no_call perform row row_of ◌>>=◌ ◌>>◌ ◌when◌ ◌or◌
  no_answers = refl

  -- a number below 0
  call_minus_1 : (own (in_call image (record (call 0 0 0 0) { number = negsuc 0 }))).answer ≡ Called (negsuc 0) (negsuc 0)
  unfolding own in_call perform row row_of ◌>>=◌ ◌or◌
  call_minus_1 = refl

  -- ---- arguments are the low 32 bits, with a sign

  exit_by : ℕ → Answer
  exit_by status = (own (in_call image (call 2 status 0 0))).answer

  exits : map exit_by (0 ∷ 7 ∷ (2 ^ 31 - 1) ∷ (2 ^ 31) ∷ (2 ^ 32 - 1) ∷ (2 ^ 32 + 7) ∷ (2 ^ 64 - 1) ∷ [])
      ≡ Exited (pos 0) ∷ Exited (pos 7) ∷ Exited (pos (2 ^ 31 - 1)) ∷ Exited (negsuc (2 ^ 31 - 1)) ∷ Exited (negsuc 0) ∷ Exited (pos 7) ∷ Exited (negsuc 0) ∷ []
  unfolding own in_call exit_by perform row row_of ◌>>=◌ ◌>>◌ ◌when◌ ◌or◌
  exits = refl

  kill_low_bits : (own (in_call image (call 6 (2 ^ 32 + 1) 0 0))).marked ≡ Some 1
  unfolding own in_call perform row row_of kill ◌>>=◌ ◌>>◌ ◌when◌ ◌or◌
  kill_low_bits = refl

-- a zombie isn't marked, a live process is
kill_leaves_zombies : marked (Zombie (Some 1) (pos 5)) ≡ Zombie (Some 1) (pos 5)
kill_leaves_zombies = refl

kill_marks_live : (l : Live) → marked (Alive l) ≡ Alive (record l { killed = true })
kill_marks_live l = refl
