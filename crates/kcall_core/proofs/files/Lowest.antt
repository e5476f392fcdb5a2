-- The lowest free descriptor, as the table finds it and as the process sees it.
use Rattle.kcall_core.proofs.Prelude.{ℕ, ◌&&◌, ◌<◌, ◌∙◌, ◌≡◌, and_parts, ap, arith, cond, descriptors_at, frame_count, get, get_or, Hart, is_none, IsRunning, IsWhole, Kernel, le-ltb, least_below}
use Rattle.kcall_core.proofs.Prelude.{least_congr, least_least, least_passes, length, List, live_now, lowest_free, lowest_free_above, lowest_free_above_is, lowest_free_is, lt-ltb, ltb-true, named_by}
use Rattle.kcall_core.proofs.Prelude.{nat_lt, NOFILE, None, none_below, none_from_is_none, Option, pid_now, position, position_or_len, position_or_len_is, refl, slot_now, Slots, Some, state_of, sym}
use Rattle.kcall_core.proofs.Prelude.{view_now}
use Rattle.kcall_core.proofs.table.Stops.{now-slot}
use Rattle.kcall_core.proofs.turns.Turned.{live-is}
use Rattle.kcall_core.proofs.files.Namings.{named-seen}

pub least-position : {X : Type 0} (ds : List (Option X)) (n : ℕ) → length ds ≡ n → least_below (λ d. is_none (get_or ds d None)) n ≡ position is_none ds
least-position ds n long = by (least_below (λ d. is_none (get_or ds d None)) n) refl
  where
    by : (o : Option ℕ) → least_below (λ d. is_none (get_or ds d None)) n ≡ o → least_below (λ d. is_none (get_or ds d None)) n ≡ position is_none ds
    by None e =
        let none = none_below (λ d. is_none (get_or ds d None)) n e in
        let at : position_or_len is_none ds ≡ length ds = position_or_len_is is_none ds (length ds) None (omega arith) (λ k lt. none k (omega (arith, lt, long))) (λ lt. absurd (omega (arith, lt))) in
        e ∙ sym (ap (λ i. cond (nat_lt i (length ds)) (Some i) None) at ∙ ap (λ b. cond b (Some (length ds)) None) (le-ltb (length ds) (length ds) (omega arith)))
    by (Some i) e =
        let found = least_passes n (λ d. is_none (get_or ds d None)) i e in
        let earlier = least_least n (λ d. is_none (get_or ds d None)) i e in
        let at : position_or_len is_none ds ≡ i = position_or_len_is is_none ds i None (omega (arith, found.1, long)) earlier (λ lt. found.0) in
        e ∙ sym (ap (λ j. cond (nat_lt j (length ds)) (Some j) None) at ∙ ap (λ b. cond b (Some i) None) (lt-ltb i (length ds) (omega (arith, found.1, long))))

pub lowest-shown : {k : Kernel} {h : Hart} {slot : ℕ} → IsWhole k h → IsRunning k → k.current ≡ Some slot → slot < 64
    → lowest_free (view_now k h).descriptors ≡ position is_none (descriptors_at k.table slot)
lowest-shown {k} {h} {slot} whole runs is inside =
    let ds = descriptors_at k.table slot in
    lowest_free_is (frame_count k) (state_of k h) whole.well (pid_now k) (live_now k h) (live-is k h whole.sound runs)
    ∙ least_congr NOFILE (λ d. is_none (get (live_now k h).descriptors d)) (λ d. is_none (get_or ds d None)) (λ d below. ap is_none (
    named-seen (descriptors_at k.table (slot_now k)) d
    ∙ ap (λ b. cond b (named_by (descriptors_at k.table (slot_now k)) d) None) (lt-ltb d NOFILE below)
    ∙ ap (λ n. named_by (descriptors_at k.table n) d) (sym (now-slot slot whole.sound is))))
    ∙ least-position ds NOFILE (whole.counted.lists slot inside)

-- it is free
pub lowest-free : {k : Kernel} {h : Hart} {slot d : ℕ} → IsWhole k h → slot < 64 → position is_none (descriptors_at k.table slot) ≡ Some d
    → (d < NOFILE) × (named_by (descriptors_at k.table slot) d ≡ None)
lowest-free {k} {h} {slot} {d} whole inside e =
    let ds = descriptors_at k.table slot in
    let found = least_passes NOFILE (λ n. is_none (get_or ds n None)) d (least-position ds NOFILE (whole.counted.lists slot inside) ∙ e) in
    (found.1, none_from_is_none (named_by ds d) found.0)

-- the lowest above another one
pub above-shown : {k : Kernel} {h : Hart} {slot : ℕ} → IsWhole k h → IsRunning k → k.current ≡ Some slot → (low : ℕ)
    → lowest_free_above (view_now k h).descriptors low ≡ least_below (λ d. nat_lt low d && is_none (named_by (descriptors_at k.table slot) d)) NOFILE
above-shown {k} {h} {slot} whole runs is low =
    lowest_free_above_is (frame_count k) (state_of k h) whole.well (pid_now k) (live_now k h) (live-is k h whole.sound runs) low
    ∙ least_congr NOFILE (λ d. nat_lt low d && is_none (get (live_now k h).descriptors d))
    (λ d. nat_lt low d && is_none (named_by (descriptors_at k.table slot) d)) (λ d below. ap (λ o. nat_lt low d && is_none o) (
    named-seen (descriptors_at k.table (slot_now k)) d
    ∙ ap (λ b. cond b (named_by (descriptors_at k.table (slot_now k)) d) None) (lt-ltb d NOFILE below)
    ∙ ap (λ n. named_by (descriptors_at k.table n) d) (sym (now-slot slot whole.sound is))))

-- it is free, and another one
pub above-free : (t : Slots) (slot : ℕ) {low d : ℕ} → least_below (λ e. nat_lt low e && is_none (named_by (descriptors_at t slot) e)) NOFILE ≡ Some d
    → (d < NOFILE) × (named_by (descriptors_at t slot) d ≡ None) × (low < d)
above-free t slot {low} {d} e =
    let found = least_passes NOFILE (λ n. nat_lt low n && is_none (named_by (descriptors_at t slot) n)) d e in
    let both = and_parts (nat_lt low d) (is_none (named_by (descriptors_at t slot) d)) found.0 in
    (found.1, none_from_is_none (named_by (descriptors_at t slot) d) both.1, ltb-true low d both.0)
