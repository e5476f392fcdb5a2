-- The events of rounds, place by place.
use Rattle.std.proofs.Common.{◌≡◌, ◌∙◌, ℕ, ◌+◌, ◌-◌, ◌*◌, ◌/◌, ◌%◌, ◌<◌, ◌≤◌, List}
use Rattle.std.proofs.Common.{[], ◌∷◌, ◌++◌, sym, ap, subst, arith, length, length-append, take, drop, drop-cons, get_or}
use Rattle.std.specs.Prelude.{replicate}
use Rattle.std.proofs.lemmas.Bool.{lt-ltb, le-ltb}
use Rattle.std.proofs.Math.Nat.{mul-le-mul_right}
use Rattle.std.proofs.lemmas.List.{length-replicate, get_or-append-add, get_or-replicate}
use Rattle.std.proofs.Math.ListN.{get_or-append}
use Rattle.std.proofs.lemmas.Nat.{div-mul-add, mod-mul-add, div-add-mod', le-div}
use Rattle.std.proofs.lemmas.Option.{unwrap_or-slice_get}
use Rattle.xk_base.specs.declared.limits.TheConstants.{SEND_BYTES}
use Rattle.kernel_spec.specs.runs.Run.{Event, Run, Tick, Send}
use Rattle.kernel_spec.specs.runs.Rounds.{key_events, round}
use Rattle.xv_machine.specs.Events.{event_of}
use Rattle.xv_machine.specs.RoundParts.{events_of_part, events_of_parts}
use Rattle.xv_machine.specs.declared.parts.RoundPart.{RoundPart}
use Rattle.xv_machine.proofs.PlayedParts.{parts-more, parts-all, parts-around}
use Rattle.gdb_target.specs.Rounds.{event_in, event_at}
use Rattle.recordings.specs.Recording.{event_among}

-- ---- the same round

record SameRound (n d k : ℕ) : Type 0 where
  round : (n + k) / d ≡ n / d
  within : (n + k) % d ≡ n % d + k

same-round : (n d k : ℕ) → n % d + k < d → SameRound n d k
same-round n d k h =
    let sum = div-add-mod' n d in
    let e : n + k ≡ n / d * d + (n % d + k) = omega arith in
    record { round = ap (λ (m : ℕ). m / d) e ∙ div-mul-add (n / d) d (n % d + k) h; within = ap (λ (m : ℕ). m % d) e ∙ mod-mul-add (n / d) d (n % d + k) h }

-- ---- a round

-- how many events a round has
pub round-length : (quantum : ℕ) (keys : List ℕ) → quantum < length (round quantum keys)
round-length quantum keys =
    let later : List Event = Tick ∷ replicate SEND_BYTES Send in
    let all = length-append (key_events keys ++ replicate quantum Run) later in
    let rest = length-append (key_events keys) (replicate quantum Run) in
    let runs : length (replicate quantum Run) ≡ quantum = length-replicate quantum Run in
    omega (arith, all, rest, runs)

pub round-within : (quantum : ℕ) (keys : List ℕ) → length (round quantum keys) ≤ quantum + 34
round-within quantum keys =
    let later : List Event = Tick ∷ replicate SEND_BYTES Send in
    let all = length-append (key_events keys ++ replicate quantum Run) later in
    let rest = length-append (key_events keys) (replicate quantum Run) in
    let runs : length (replicate quantum Run) ≡ quantum = length-replicate quantum Run in
    let few = key-few keys in
    omega (arith, all, rest, runs, few)
  where
    key-few : (ks : List ℕ) → length (key_events ks) ≤ 1
    key-few [] = omega arith
    key-few (b ∷ bs) = omega arith

module _ (parts : List RoundPart) (i : ℕ) (d : RoundPart) (below : i < length parts) where
  abbrev before : List Event
  before = events_of_parts (take i parts)

  abbrev now : List Event
  now = events_of_part (get_or parts i d)

  abbrev later : List Event
  later = events_of_parts (drop (i + 1) parts)

  -- how many events the first parts have, one more
  pub parts-length : length (events_of_parts (take (i + 1) parts)) ≡ length (events_of_parts (take i parts)) + (get_or parts i d).count
  parts-length =
      ap length (parts-more parts i d below) ∙ (length-append before now ∙ ap (λ (n : ℕ). length before + n) (length-replicate (get_or parts i d).count (event_of (get_or parts i d).event)))

  -- and all of them
  pub parts-fit : length (events_of_parts (take i parts)) + (get_or parts i d).count ≤ length (events_of_parts parts)
  parts-fit =
      let all : length (events_of_parts parts) ≡ length (before ++ now) + length later = ap length (sym (parts-around parts i d below)) ∙ length-append (before ++ now) later in
      let front : length (before ++ now) ≡ length before + (get_or parts i d).count =
      length-append before now ∙ ap (λ (n : ℕ). length before + n) (length-replicate (get_or parts i d).count (event_of (get_or parts i d).event)) in
      omega (arith, all, front)

  -- the event at a place of a part
  pub among-part : (left within k : ℕ) → left + length (events_of_parts (take i parts)) ≡ within → left + k < (get_or parts i d).count
      → event_among (events_of_parts parts) (within + k) ≡ event_of (get_or parts i d).event
  among-part left within k place inside =
      let e = event_of (get_or parts i d).event in
      let n = (get_or parts i d).count in
      let here : within + k ≡ length before + (left + k) = omega (arith, place) in
      let long : length (before ++ now) ≡ length before + n = length-append before now ∙ ap (λ (m : ℕ). length before + m) (length-replicate n e) in
      let early : length before + (left + k) < length (before ++ now) = omega (arith, long, inside) in
      unwrap_or-slice_get (events_of_parts parts) (within + k) Send
      ∙ (ap (λ (es : List Event). get_or es (within + k) Send) (sym (parts-around parts i d below))
      ∙ (ap (λ (m : ℕ). get_or ((before ++ now) ++ later) m Send) here
      ∙ (get_or-append (before ++ now) later Send (length before + (left + k)) early
      ∙ (get_or-append-add before now (left + k) Send ∙ get_or-replicate n (left + k) e Send inside))))

pub parts-whole : (parts : List RoundPart) (i : ℕ) → length parts ≤ i → length (events_of_parts (take i parts)) ≡ length (events_of_parts parts)
parts-whole parts i all = ap length (parts-all parts i all)

-- ---- a round among the others

module _ (keys : List ℕ) (quantum place k : ℕ) (e : Event) where
  in-keyed : (long short key : ℕ) → place / long < length keys → place % long + k < long → key ≡ get_or keys (place / long) 0
      → event_among (round quantum (key ∷ [])) (place % long + k) ≡ e → event_in keys quantum long short (place + k) ≡ e
  in-keyed long short key early inside is goes =
      let same = same-round place long k inside in
      rw (same.round, same.within, lt-ltb (place / long) (length keys) early)
      (ap (λ (ks : List ℕ). event_among (round quantum ks) (place % long + k)) (drop-cons keys (place / long) 0 early)
      ∙ (ap (λ (b : ℕ). event_among (round quantum (b ∷ [])) (place % long + k)) (sym is) ∙ goes))

  -- after all keys
  keys-over : (long : ℕ) → length keys ≤ place / long → length keys * long ≤ place
  keys-over long late =
      let sum = div-add-mod' place long in
      let more : length keys * long ≤ place / long * long = mul-le-mul_right long late in
      omega arith

  in-unkeyed : (long short : ℕ) → 0 < long → length keys ≤ place / long → (place - length keys * long) % short + k < short
      → event_among (round quantum []) ((place - length keys * long) % short + k) ≡ e → event_in keys quantum long short (place + k) ≡ e
  in-unkeyed long short some late inside goes =
      let typed : ℕ = length keys * long in
      let over : typed ≤ place = keys-over long late in
      let later : length keys ≤ (place + k) / long = le-div (length keys) (place + k) long some (omega arith) in
      let shift : place + k - typed ≡ place - typed + k = omega arith in
      let same = same-round (place - typed) short k inside in
      rw (le-ltb ((place + k) / long) (length keys) later)
      (ap (λ (m : ℕ). event_among (round quantum []) (m % short)) shift ∙ (ap (λ (m : ℕ). event_among (round quantum []) m) same.within ∙ goes))

  -- with the numbers that the code has for these
  with_lengths : (long short : ℕ) → long ≡ length (round quantum (0 ∷ [])) → short ≡ length (round quantum [])
      → event_in keys quantum long short (place + k) ≡ e → event_at keys quantum (place + k) ≡ e
  with_lengths long short is_long is_short goes =
      subst (λ (m : ℕ). event_in keys quantum (length (round quantum (0 ∷ []))) m (place + k) ≡ e) is_short (subst (λ (m : ℕ). event_in keys quantum m short (place + k) ≡ e) is_long goes)

  pub keyed-goes : (n long short key : ℕ) → n ≡ length keys → long ≡ length (round quantum (0 ∷ [])) → short ≡ length (round quantum []) → place / long < n → place % long + k < long
      → key ≡ get_or keys (place / long) 0 → event_among (round quantum (key ∷ [])) (place % long + k) ≡ e → event_at keys quantum (place + k) ≡ e
  keyed-goes n long short key is_n is_long is_short early inside is goes =
      with_lengths long short is_long is_short (in-keyed long short key (subst (λ (m : ℕ). place / long < m) is_n early) inside is goes)

  pub unkeyed-goes : (n long short : ℕ) → n ≡ length keys → long ≡ length (round quantum (0 ∷ [])) → short ≡ length (round quantum []) → 0 < long → n ≤ place / long
      → (place - n * long) % short + k < short → event_among (round quantum []) ((place - n * long) % short + k) ≡ e → event_at keys quantum (place + k) ≡ e
  unkeyed-goes n long short is_n is_long is_short some late inside goes =
      let P : ℕ → Type 0 = λ m.
      m ≤ place / long → (place - m * long) % short + k < short → event_among (round quantum []) ((place - m * long) % short + k) ≡ e → event_in keys quantum long short (place + k) ≡ e in
      let here : P (length keys) = λ late inside goes. in-unkeyed long short some late inside goes in
      let there : P n = subst P (sym is_n) here in
      with_lengths long short is_long is_short (there late inside goes)
