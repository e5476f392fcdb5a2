-- Whole rounds, as far as a drive has come, and how it ends.
use Rattle.std.proofs.Common.{◌≡◌, ◌∙◌, ℕ, zero, suc, ◌+◌, ◌<◌, ◌≤◌, ◌⊎◌, cond, inl, inr, subst}
use Rattle.std.proofs.Common.{refl, sym, ap, ap₂, arith, List, [], ◌∷◌, ◌++◌, append-nil, append_assoc, length, length-append}
use Rattle.std.proofs.Common.{drop, replicate, slice_get, Bool, true, false, ◌||◌, Option, None, Some, IfSome, Result, Ok, Err, OnOk, IfErr}
use Rattle.std.specs.Prelude.{not, is_none, is_some}
use Rattle.std.specs.Option.{option_to_list}
use Rattle.std.proofs.lemmas.Grind.{flat_map-append}
use Rattle.std.specs.Io.KnownBytes.{Consumes}
use Rattle.std.proofs.lemmas.Bool.{le-ltb, lt-ltb}
use Rattle.xk_base.specs.declared.limits.TheConstants.{SEND_BYTES}
use Rattle.kernel_spec.specs.runs.Run.{Event, Run, Tick, Key, Send, Outcome, bytes_out}
use Rattle.kernel_spec.specs.runs.Rounds.{key_events, round, events, halts, AreRounds}
use Rattle.kernel_spec.proofs.runs.Plans.{rounds_follow_rounds}
use Rattle.xv_machine.specs.Devices.{Source, Asked, Sink, Calls, failed}
use Rattle.xv_machine.specs.declared.driving.RunPlan.{RunPlan}
use Rattle.xv_machine.specs.declared.driving.DriveEnd.{DriveEnd}
use Rattle.xv_machine.specs.declared.driving.DriveError.{DriveError}
use Rattle.xv_machine.specs.declared.driving.DriveError.TheVariants.{Read, Write}
use Rattle.xv_machine.specs.Drives.{Goes, Wrote, calls_of, AskedFor, is_halted, key_in, keys_in, Done, StoppedByRead, StoppedByWrite, StoppedByPlayer, AreTyped, OnRead, OnWrite}
use Rattle.xv_machine.specs.Meaning.{Meaning}
use Rattle.xv_machine.specs.Sound.{IsSoundMachine}
use Rattle.xv_machine.specs.Stretches.{Played, PlayedFirst, PlayedQuietly, BrokeOff, TakesKey}
use Rattle.xv_machine.proofs.Joins.{events-join, calls-join, calls-trans, wrote-nil, wrote-join, goes-none, goes-join, wrote-silent}
use Rattle.xv_machine.proofs.Shown.{ends-in}

abbrev Steps : Type 0
Steps = List (Event × Outcome)

-- ---- keys

keys-join : (xs ys : List Event) → keys_in (xs ++ ys) ≡ keys_in xs ++ keys_in ys
keys-join xs ys = flat_map-append key_in xs ys

no-keys-run : (n : ℕ) → keys_in (replicate n Run) ≡ []
no-keys-run zero = refl
no-keys-run (suc n) = no-keys-run n

no-keys-send : (n : ℕ) → keys_in (replicate n Send) ≡ []
no-keys-send zero = refl
no-keys-send (suc n) = no-keys-send n

abbrev behind_key : ℕ → List Event
behind_key quantum = replicate quantum Run ++ Tick ∷ replicate SEND_BYTES Send

no-keys-behind : (quantum : ℕ) → keys_in (behind_key quantum) ≡ []
no-keys-behind quantum = keys-join (replicate quantum Run) (Tick ∷ replicate SEND_BYTES Send) ∙ ap₂ (λ xs ys. xs ++ ys) (no-keys-run quantum) (no-keys-send SEND_BYTES)

-- a round has the key that it was given
keys-of-round : (quantum : ℕ) (key : Option ℕ) → keys_in (round quantum (option_to_list key)) ≡ option_to_list key
keys-of-round quantum None = no-keys-behind quantum
keys-of-round quantum (Some b) = ap (λ ks. b ∷ ks) (no-keys-behind quantum)

front-nil : (xs ys : List ℕ) → xs ++ ys ≡ [] → xs ≡ []
front-nil [] ys e = refl
front-nil (x ∷ xs) ys e = cc

part-some : (b : ℕ) (z : Event) (zs rest more : List Event) → (z ∷ zs) ++ rest ≡ Key b ∷ more → keys_in ((z ∷ zs) ++ rest) ≡ b ∷ [] → keys_in (z ∷ zs) ≡ b ∷ []
part-some b z zs rest more starts all =
    let head : z ≡ Key b = cc in
    let front : keys_in (z ∷ zs) ≡ b ∷ keys_in zs = ap (λ e. key_in e ++ keys_in zs) head in
    let total : b ∷ (keys_in zs ++ keys_in rest) ≡ b ∷ [] = ap (λ ks. ks ++ keys_in rest) (sym front) ∙ sym (keys-join (z ∷ zs) rest) ∙ all in
    let tail : keys_in zs ++ keys_in rest ≡ [] = cc in
    front ∙ ap (λ ks. b ∷ ks) (front-nil (keys_in zs) (keys_in rest) tail)

-- the first part of a round has its key
part-keys : (quantum : ℕ) (key : Option ℕ) (es rest : List Event) (e : Event) → (es ++ e ∷ []) ++ rest ≡ round quantum (option_to_list key) → keys_in (es ++ e ∷ []) ≡ option_to_list key
part-keys quantum None es rest e is = front-nil (keys_in (es ++ e ∷ [])) (keys_in rest) (sym (keys-join (es ++ e ∷ []) rest) ∙ ap keys_in is ∙ keys-of-round quantum None)
part-keys quantum (Some b) [] rest e is = part-some b e [] rest (behind_key quantum) is (ap keys_in is ∙ keys-of-round quantum (Some b))
part-keys quantum (Some b) (x ∷ es) rest e is = part-some b x (es ++ e ∷ []) rest (behind_key quantum) is (ap keys_in is ∙ keys-of-round quantum (Some b))

-- of a round's first events: its key, unless there are none
part-typed : (quantum : ℕ) (key : Option ℕ) (part rest : List Event) → part ++ rest ≡ round quantum (option_to_list key) → AreTyped (option_to_list key) (keys_in part)
part-typed quantum None part rest is = inl (front-nil (keys_in part) (keys_in rest) (sym (keys-join part rest) ∙ ap keys_in is ∙ keys-of-round quantum None))
part-typed quantum (Some b) [] rest is = inr (b, refl)
part-typed quantum (Some b) (z ∷ zs) rest is = inl (part-some b z zs rest (behind_key quantum) is (ap keys_in is ∙ keys-of-round quantum (Some b)))

-- the same of more keys
typed-behind : (front read typed : List ℕ) → AreTyped read typed → AreTyped (front ++ read) (front ++ typed)
typed-behind front read typed (inl same) = inl (ap (λ ks. front ++ ks) same)
typed-behind front read typed (inr (b, is)) = inr (b, append_assoc front typed (b ∷ []) ∙ ap (λ ks. front ++ ks) is)

-- ---- how many are behind

drop-all : (xs : List ℕ) (n : ℕ) → length xs ≤ n → drop n (xs ++ []) ≡ []
drop-all [] zero le = refl
drop-all [] (suc n) le = refl
drop-all (x ∷ xs) zero le = absurd (omega (arith, le))
drop-all (x ∷ xs) (suc n) le = drop-all xs n (omega (arith, le))

drop-front : (xs ys : List ℕ) (n : ℕ) → length xs ≡ n → drop n (xs ++ ys) ≡ ys
drop-front [] [] zero is = refl
drop-front [] (y ∷ ys) zero is = refl
drop-front [] ys (suc n) is = absurd (omega (arith, is))
drop-front (x ∷ xs) ys zero is = absurd (omega (arith, is))
drop-front (x ∷ xs) ys (suc n) is = drop-front xs ys n (omega (arith, is))

-- each round so far has read a key, or the source is at its end
abbrev Pace : (at_end : Bool) → (read rest : List ℕ) → (count : ℕ) → Type 0
Pace false read rest count = length read ≡ count
Pace true read rest count = (rest ≡ []) × (length read < count)

-- what is left behind the keys that were read; nothing is known of it where the source doesn't tell
abbrev Leaves : (left now : Option (List ℕ)) → (read rest : List ℕ) → Type 0
Leaves None now read rest = rest ≡ []
Leaves (Some bytes) now read rest = (bytes ≡ read ++ rest) × (now ≡ Some rest)

-- ---- the same rounds with more keys

more-rounds : (count quantum : ℕ) (keys more : List ℕ) (halted : Bool) (list : Steps) → count ≤ length keys
    → AreRounds count quantum keys halted list → AreRounds count quantum (keys ++ more) halted list
more-rounds zero quantum keys more halted list le are = are
more-rounds (suc count) quantum keys more true list le are = are
more-rounds (suc count) quantum [] more false list le are = absurd (omega (arith, le))
more-rounds (suc count) quantum (k ∷ keys) more false list le are = (
  are.0,
  are.1,
  are.2,
  are.3,
  subst (λ ks. AreRounds count quantum ks (halts are.0) are.1) (first (keys ++ more))
      (more-rounds count quantum (drop 1 (k ∷ keys)) more (halts are.0) are.1 (omega (arith, le, ap length (first keys))) are.4),
)
  where
    first : (xs : List ℕ) → xs ≡ drop 0 xs
    first [] = refl
    first (x ∷ xs) = refl

-- ---- the key of one more round

abbrev pub SameRounds : (quantum count : ℕ) (keys more : List ℕ) → Type 0
SameRounds quantum count keys more = (halted : Bool) (list : Steps) → AreRounds count quantum keys halted list → AreRounds count quantum more halted list

record Taken (quantum count : ℕ) (left after : Option (List ℕ)) (key : Option ℕ) (read rest : List ℕ) : Type 0 where
  more : List ℕ
  leaves : Leaves left after (read ++ option_to_list key) more
  pace : Pace (is_none key) (read ++ option_to_list key) more (suc count)
  same : SameRounds quantum count (read ++ rest) ((read ++ option_to_list key) ++ more)
  key_is : key_events (drop count ((read ++ option_to_list key) ++ more)) ≡ key_events (option_to_list key)

equal-rounds : (quantum count : ℕ) (keys more : List ℕ) → keys ≡ more → SameRounds quantum count keys more
equal-rounds quantum count keys more e halted list are = subst (λ ks. AreRounds count quantum ks halted list) e are

-- no key: nothing is left
none-taken : (quantum count : ℕ) (left after : Option (List ℕ)) (read rest : List ℕ) → rest ≡ [] → length read ≤ count
    → Leaves left after (read ++ []) [] → Taken quantum count left after None read rest
none-taken quantum count left after read rest none le leaves = record {
  more = [];
  leaves = leaves;
  pace = (refl, omega (arith, le, ap length (append-nil read)));
  same = equal-rounds quantum count (read ++ rest) ((read ++ []) ++ []) (ap (λ ks. read ++ ks) none ∙ sym (append-nil (read ++ [])));
  key_is = ap key_events (ap (λ ks. drop count (ks ++ [])) (append-nil read) ∙ drop-all read count le);
}

no-more : (left now after : Option (List ℕ)) (read rest : List ℕ) → Leaves left now read rest → rest ≡ [] → IfSome left (λ _. after ≡ Some []) → Leaves left after (read ++ []) []
no-more None now after read rest leaves none gave = refl
no-more (Some bytes) now after read rest leaves none gave = (leaves.0 ∙ ap (λ ks. read ++ ks) none ∙ sym (append-nil (read ++ [])), gave)

taken : (quantum count : ℕ) (at_end : Bool) (left now after : Option (List ℕ)) (key : Option ℕ) (read rest : List ℕ) → Leaves left now read rest
    → Pace at_end read rest count → TakesKey at_end now key after
    → Taken quantum count left after key read rest
taken quantum count true left now after None read rest leaves pace takes =
    none-taken quantum count left after read rest pace.0 (omega (arith, pace.1)) (no-more left now after read rest leaves pace.0 (by left leaves))
  where
    by : (l : Option (List ℕ)) → Leaves l now read rest → IfSome l (λ _. after ≡ Some [])
    by None h = tt
    by (Some bytes) h = takes.1 ∙ h.1 ∙ ap Some pace.0
taken quantum count true left now after (Some b) read rest leaves pace takes = cc
taken quantum count false None now after None read rest leaves pace takes = none-taken quantum count None after read rest leaves (omega (arith, pace)) refl
taken quantum count false None now after (Some b) read rest leaves pace takes = record {
  more = [];
  leaves = refl;
  pace = length-append read (b ∷ []) ∙ omega (arith, pace);
  same = λ halted list are. subst (λ ks. AreRounds count quantum ks halted list) (sym (append-nil (read ++ b ∷ [])))
      (more-rounds count quantum read (b ∷ []) halted list (omega (arith, pace)) (equal-rounds quantum count (read ++ rest) read (ap (λ ks. read ++ ks) leaves ∙ append-nil read) halted list are));
  key_is = ap key_events (ap (drop count) (append-nil (read ++ b ∷ [])) ∙ drop-front read (b ∷ []) count pace);
}
taken quantum count false (Some bytes) None after key read rest leaves pace takes = let no : ⊥ = cc in absurd no
taken quantum count false (Some bytes) (Some now) after key read rest leaves pace takes = by rest key leaves (takes.0 ∙ ap (λ ks. slice_get ks 0) same) (takes.1 ∙ ap (λ ks. Some (drop 1 ks)) same)
  where
    same : now ≡ rest
    same = cc

    by : (xs : List ℕ) (k : Option ℕ) → Leaves (Some bytes) (Some now) read xs → k ≡ slice_get xs 0 → after ≡ Some (drop 1 xs) → Taken quantum count (Some bytes) after k read xs
    by [] None h e f = none-taken quantum count (Some bytes) after read [] refl (omega (arith, pace)) (h.0 ∙ sym (append-nil (read ++ [])), f)
    by [] (Some b) h e f = cc
    by (x ∷ xs) None h e f = cc
    by (x ∷ xs) (Some b) h e f =
        let b_is : b ≡ x = cc in
        let whole : read ++ x ∷ xs ≡ (read ++ b ∷ []) ++ xs = ap (λ k. read ++ k ∷ xs) (sym b_is) ∙ sym (append_assoc read (b ∷ []) xs) in
        record {
          more = xs;
          leaves = (h.0 ∙ whole, f ∙ ap Some (first xs));
          pace = length-append read (b ∷ []) ∙ omega (arith, pace);
          same = equal-rounds quantum count (read ++ x ∷ xs) ((read ++ b ∷ []) ++ xs) whole;
          key_is = ap key_events (ap (drop count) (sym whole) ∙ drop-front read (x ∷ xs) count pace) ∙ ap (λ k. Key k ∷ []) (sym b_is);
        }
      where
        first : (ys : List ℕ) → drop 1 (x ∷ ys) ≡ ys
        first [] = refl
        first (y ∷ ys) = refl

-- ---- calls of the source

-- each key so far took one call, and one more found that none is left
abbrev AskedSo : (at_end : Bool) → (before after : Option ℕ) → (keys : ℕ) → Type 0
AskedSo false before after keys = Asked before after keys
AskedSo true before after keys = Asked before after (keys + 1)

asked-none : (a : Option ℕ) → Asked a a 0
asked-none None = tt
asked-none (Some n) = let same : n ≡ n + 0 = omega arith in ap Some same

asked-trans : (a b c : Option ℕ) (m n : ℕ) → Asked a b m → Asked b c n → Asked a c (m + n)
asked-trans None b c m n p q = tt
asked-trans (Some k) b c m n p q = let same : k + m + n ≡ k + (m + n) = omega arith in subst (λ z. Asked z c n) p q ∙ ap Some same

-- behind one round more
asked-next : (at_end : Bool) (a now after : Option ℕ) (keys : ℕ) → AskedSo at_end a now keys → Asked now after (cond at_end 0 1) → Asked a after (keys + 1)
asked-next false a now after keys so call = asked-trans a now after keys 1 so call
asked-next true a now after keys so call =
    let same : keys + 1 + 0 ≡ keys + 1 = omega arith in
    subst (λ n. Asked a after n) same (asked-trans a now after (keys + 1) 0 so call)

asked-typed : (key : Option ℕ) (a after : Option ℕ) (keys typed : ℕ) → typed ≡ keys + length (option_to_list key) → Asked a after (keys + 1) → AskedSo (is_none key) a after typed
asked-typed None a after keys typed is asked = let same : keys + 1 ≡ typed + 1 = omega (arith, is) in subst (λ n. Asked a after n) same asked
asked-typed (Some b) a after keys typed is asked = subst (λ n. Asked a after n) (sym is) asked

asked-for : (at_end : Bool) (a after : Option ℕ) (read rest : List ℕ) (rounds : ℕ) → Pace at_end read rest rounds → AskedSo at_end a after (length read) → AskedFor a after (length read) rounds
asked-for false a after read rest rounds pace so = subst (λ b. Asked a after (cond b (length read + 1) (length read))) (sym (le-ltb (length read) rounds (omega (arith, pace)))) so
asked-for true a after read rest rounds pace so = subst (λ b. Asked a after (cond b (length read + 1) (length read))) (sym (lt-ltb (length read) rounds pace.1)) so

-- ---- rounds

-- This many rounds were played, and the source was found at its end or not
pub record Going (quantum count : ℕ) (at_end : Bool) (left now : Option (List ℕ)) (old new : Meaning) (sink sink_now : Sink) (asked asked_now : Option ℕ) : Type 0 where
  pub list : Steps
  pub rest : List ℕ
  pub goes : Goes old list new
  pub leaves : Leaves left now (keys_in (events list)) rest
  pub pace : Pace at_end (keys_in (events list)) rest count
  pub rounds : AreRounds count quantum (keys_in (events list) ++ rest) (is_halted old) list
  pub written : Wrote sink sink_now list
  pub calls : AskedSo at_end asked asked_now (length (keys_in (events list)))

pub none-going : (quantum : ℕ) (left : Option (List ℕ)) (m : Meaning) (sink : Sink) (asked : Option ℕ) → IsSoundMachine m → Going quantum 0 false left left m m sink sink asked asked
none-going quantum left m sink asked sound = record {
  list = [];
  rest = rest left;
  goes = goes-none m sound;
  leaves = leaves left;
  pace = refl;
  rounds = refl;
  written = wrote-nil sink;
  calls = asked-none asked;
}
  where
    rest : Option (List ℕ) → List ℕ
    rest None = []
    rest (Some bytes) = bytes

    leaves : (l : Option (List ℕ)) → Leaves l l [] (rest l)
    leaves None = refl
    leaves (Some bytes) = (refl, refl)

-- on a machine that isn't halted, one more round may begin
goes-on : (old : Meaning) (list : Steps) (new : Meaning) → Goes old list new → new.world.turns.halted ≡ None → (is_halted old || halts list) ≡ false
goes-on old list new goes on = sym (ends-in old.world list new.world goes.run) ∙ ap is_some on

module _ (quantum count : ℕ) (at_end : Bool) (left now after : Option (List ℕ)) (key : Option ℕ) (old mid : Meaning) (sink sink_now : Sink)
    (asked asked_now asked_after : Option ℕ) (g : Going quantum count at_end left now old mid sink sink_now asked asked_now)
    (takes : TakesKey at_end now key after) (call : Asked asked_now asked_after (cond at_end 0 1)) where
  abbrev took : Taken quantum count left after key (keys_in (events g.list)) g.rest
  took = taken quantum count at_end left now after key (keys_in (events g.list)) g.rest g.leaves g.pace takes

  -- its calls of the source
  one_asked : Asked asked asked_after (length (keys_in (events g.list)) + 1)
  one_asked = asked-next at_end asked asked_now asked_after (length (keys_in (events g.list))) g.calls call

  -- its events
  begun : round quantum (option_to_list key) ≡ round quantum (drop count ((keys_in (events g.list) ++ option_to_list key) ++ took.more))
  begun = ap (λ es. es ++ replicate quantum Run ++ Tick ∷ replicate SEND_BYTES Send) (sym took.key_is)

  pub one-more : (new : Meaning) (sink_after : Sink) → mid.world.turns.halted ≡ None
      → Played (round quantum (option_to_list key)) mid new sink_now sink_after
      → Going quantum (count + 1) (is_none key) left after old new sink sink_after asked asked_after
  one-more new sink_after on p =
      let read : keys_in (events (g.list ++ p.list)) ≡ keys_in (events g.list) ++ option_to_list key =
      ap keys_in (events-join g.list p.list) ∙ keys-join (events g.list) (events p.list) ∙ ap (λ es. keys_in (events g.list) ++ keys_in es) p.those
      ∙ ap (λ ks. keys_in (events g.list) ++ ks) (keys-of-round quantum key) in
      let keys : List ℕ = (keys_in (events g.list) ++ option_to_list key) ++ took.more in
      let now_one : AreRounds 1 quantum (drop count keys) false p.list = (p.list, [], sym (append-nil p.list), p.those ∙ begun, refl) in
      let one : AreRounds 1 quantum (drop count keys) (is_halted old || halts g.list) p.list =
      subst (λ b. AreRounds 1 quantum (drop count keys) b p.list) (sym (goes-on old g.list mid g.goes on)) now_one in
      let all : AreRounds (count + 1) quantum keys (is_halted old) (g.list ++ p.list) =
      rounds_follow_rounds count 1 quantum keys (is_halted old) g.list p.list (took.same (is_halted old) g.list g.rounds) one in
      let next : suc count ≡ count + 1 = omega arith in
      record {
        list = g.list ++ p.list;
        rest = took.more;
        goes = goes-join g.list p.list old mid new g.goes p.goes;
        leaves = subst (λ ks. Leaves left after ks took.more) (sym read) took.leaves;
        pace = subst (λ n. Pace (is_none key) (keys_in (events (g.list ++ p.list))) took.more n) next (subst (λ ks. Pace (is_none key) ks took.more (suc count)) (sym read) took.pace);
        rounds = subst (λ ks. AreRounds (count + 1) quantum (ks ++ took.more) (is_halted old) (g.list ++ p.list)) (sym read) all;
        written = wrote-join sink sink_now sink_after g.list p.list g.written p.written;
        calls = asked-typed key asked asked_after (length (keys_in (events g.list))) (length (keys_in (events (g.list ++ p.list))))
            (ap length read ∙ length-append (keys_in (events g.list)) (option_to_list key)) one_asked;
      }

-- ---- rounds over ticks, in which nothing is typed

quiet-keys : (count quantum : ℕ) (halted : Bool) (list : Steps) → AreRounds count quantum [] halted list → keys_in (events list) ≡ []
quiet-keys zero quantum halted list are = ap (λ xs. keys_in (events xs)) are
quiet-keys (suc count) quantum true list are = absurd are
quiet-keys (suc count) quantum false list are =
    ap (λ xs. keys_in (events xs)) are.2 ∙ ap keys_in (events-join are.0 are.1) ∙ keys-join (events are.0) (events are.1)
    ∙ ap₂ (λ xs ys. xs ++ ys) (ap keys_in are.3 ∙ keys-of-round quantum None) (quiet-keys count quantum (halts are.0) are.1 are.4)

pub over-more : (quantum count passed : ℕ) (at_end : Bool) (left now : Option (List ℕ)) (old mid new : Meaning) (sink sink_now : Sink) (asked asked_now : Option ℕ)
    → Going quantum count at_end left now old mid sink sink_now asked asked_now → mid.world.turns.halted ≡ None → PlayedQuietly passed quantum mid new
    → (at_end ≡ true) ⊎ (passed ≡ 0) → Going quantum (count + passed) at_end left now old new sink sink_now asked asked_now
over-more quantum count passed at_end left now old mid new sink sink_now asked asked_now g on q why =
    let read : keys_in (events (g.list ++ q.list)) ≡ keys_in (events g.list) =
    ap keys_in (events-join g.list q.list) ∙ keys-join (events g.list) (events q.list)
    ∙ ap (λ ks. keys_in (events g.list) ++ ks) (quiet-keys passed quantum false q.list q.rounds) ∙ append-nil (keys_in (events g.list)) in
    let keys : List ℕ = keys_in (events g.list) ++ g.rest in
    let further : AreRounds passed quantum (drop count keys) (is_halted old || halts g.list) q.list =
    subst (λ b. AreRounds passed quantum (drop count keys) b q.list) (sym (goes-on old g.list mid g.goes on)) (later g.pace why) in
    record {
      list = g.list ++ q.list;
      rest = g.rest;
      goes = goes-join g.list q.list old mid new g.goes q.goes;
      leaves = subst (λ ks. Leaves left now ks g.rest) (sym read) g.leaves;
      pace = subst (λ ks. Pace at_end ks g.rest (count + passed)) (sym read) (paced at_end (keys_in (events g.list)) g.pace why);
      rounds = subst (λ ks. AreRounds (count + passed) quantum (ks ++ g.rest) (is_halted old) (g.list ++ q.list)) (sym read)
          (rounds_follow_rounds count passed quantum keys (is_halted old) g.list q.list g.rounds further);
      written = wrote-join sink sink_now sink_now g.list q.list g.written (wrote-silent sink_now q.list q.silent);
      calls = subst (λ ks. AskedSo at_end asked asked_now (length ks)) (sym read) g.calls;
    }
  where
    none-left : (b : Bool) → b ≡ true → Pace b (keys_in (events g.list)) g.rest count → drop count (keys_in (events g.list) ++ g.rest) ≡ []
    none-left true e pace = ap (λ ks. drop count (keys_in (events g.list) ++ ks)) pace.0 ∙ drop-all (keys_in (events g.list)) count (omega (arith, pace.1))
    none-left false e pace = cc

    later : Pace at_end (keys_in (events g.list)) g.rest count → (at_end ≡ true) ⊎ (passed ≡ 0) → AreRounds passed quantum (drop count (keys_in (events g.list) ++ g.rest)) false q.list
    later pace (inl end) = subst (λ ks. AreRounds passed quantum ks false q.list) (sym (none-left at_end end pace)) q.rounds
    later pace (inr none) =
        subst (λ n. AreRounds n quantum (drop count (keys_in (events g.list) ++ g.rest)) false q.list) (sym none) (subst (λ n. AreRounds n quantum [] false q.list) none q.rounds)

    paced : (b : Bool) (ks : List ℕ) → Pace b ks g.rest count → (b ≡ true) ⊎ (passed ≡ 0) → Pace b ks g.rest (count + passed)
    paced true ks pace why = (pace.0, omega (arith, pace.1))
    paced false ks pace (inl e) = cc
    paced false ks pace (inr none) = omega (arith, pace, none)

pub none-from-some : (key : Option ℕ) (b : Bool) → is_some key ≡ not b → b ≡ is_none key
none-from-some None true h = refl
none-from-some None false h = cc
none-from-some (Some key) true h = cc
none-from-some (Some key) false h = refl

-- ---- the ends

leaves-known : (left now : Option (List ℕ)) (read rest : List ℕ) → Leaves left now read rest → IfSome left (λ bytes. read ++ rest ≡ bytes)
leaves-known None now read rest h = tt
leaves-known (Some bytes) now read rest h = sym h.0

leaves-typed : (left now : Option (List ℕ)) (read rest : List ℕ) → Leaves left now read rest → Consumes left now read
leaves-typed None now read rest h = tt
leaves-typed (Some bytes) None read rest h = let no : ⊥ = cc in absurd no
leaves-typed (Some bytes) (Some now) read rest h =
    let same : now ≡ rest = cc in
    h.0 ∙ ap (λ ks. read ++ ks) (sym same)

pub all-done : (plan : RunPlan) (count : ℕ) (at_end : Bool) (source source_now : Source) (old new : Meaning) (sink sink_now : Sink)
    → count ≤ plan.rounds → Going plan.quantum count at_end source.left source_now.left old new sink sink_now source.asked source_now.asked
    → (count ≡ plan.rounds) ⊎ (is_halted new ≡ true) → Done plan source source_now old new sink sink_now
all-done plan count at_end source source_now old new sink sink_now within g why =
    let keys : List ℕ = keys_in (events g.list) ++ g.rest in
    let over : (count ≡ plan.rounds) ⊎ ((is_halted old || halts g.list) ≡ true) = elim why [
      | inl all ↦ inl all
      | inr halted ↦ inr (sym (ends-in old.world g.list new.world g.goes.run) ∙ halted)
    ] in
    record {
      list = g.list;
      goes = g.goes;
      keys = keys;
      known = leaves-known source.left source_now.left (keys_in (events g.list)) g.rest g.leaves;
      planned = (count, within, g.rounds, over);
      written = g.written;
      typed = leaves-typed source.left source_now.left (keys_in (events g.list)) g.rest g.leaves;
      asked = asked-for at_end source.asked source_now.asked (keys_in (events g.list)) g.rest count g.pace g.calls;
    }

pub read-stops : (plan : RunPlan) (count : ℕ) (at_end : Bool) (source source_now source_after : Source) (old new : Meaning) (sink sink_now : Sink)
    → count < plan.rounds → Going plan.quantum count at_end source.left source_now.left old new sink sink_now source.asked source_now.asked
    → new.world.turns.halted ≡ None → at_end ≡ false → Asked source_now.asked source_after.asked (cond at_end 0 1) → StoppedByRead plan source source_after old new sink sink_now
read-stops plan count at_end source source_now source_after old new sink sink_now within g on reads call = record {
  list = g.list;
  goes = g.goes;
  keys = keys_in (events g.list) ++ g.rest;
  known = leaves-known source.left source_now.left (keys_in (events g.list)) g.rest g.leaves;
  rounds = (count, within, g.rounds, goes-on old g.list new g.goes on);
  each_had_a_key = subst (λ b. Pace b (keys_in (events g.list)) g.rest count) reads g.pace;
  asked = subst (λ n. Asked source.asked source_after.asked (n + 1)) (subst (λ b. Pace b (keys_in (events g.list)) g.rest count) reads g.pace)
      (asked-next at_end source.asked source_now.asked source_after.asked (length (keys_in (events g.list))) g.calls call);
  written = g.written;
}

pub write-stops : (plan : RunPlan) (count : ℕ) (at_end : Bool) (source source_now source_after : Source) (key : Option ℕ) (old mid new : Meaning)
    (sink sink_now sink_after : Sink) → count < plan.rounds
    → (g : Going plan.quantum count at_end source.left source_now.left old mid sink sink_now source.asked source_now.asked)
    → mid.world.turns.halted ≡ None → TakesKey at_end source_now.left key source_after.left
    → Asked source_now.asked source_after.asked (cond at_end 0 1) → BrokeOff (round plan.quantum (option_to_list key)) mid new sink_now sink_after
    → StoppedByWrite plan source source_after old new sink sink_after
write-stops plan count at_end source source_now source_after key old mid new sink sink_now sink_after within g on takes call q =
    let t = took plan.quantum count at_end source.left source_now.left source_after.left key old mid sink sink_now source.asked source_now.asked source_after.asked g takes call in
    let read : List ℕ = keys_in (events g.list) in
    let keys : List ℕ = (read ++ option_to_list key) ++ t.more in
    let part : Steps = q.before ++ q.last ∷ [] in
    let part_events : events part ≡ events q.before ++ q.last.0 ∷ [] = events-join q.before (q.last ∷ []) in
    let part_is : keys_in (events part) ≡ option_to_list key =
    ap keys_in part_events ∙ part-keys plan.quantum key (events q.before) q.rest q.last.0 (ap (λ es. es ++ q.rest) (sym part_events) ∙ q.those) in
    let read_is : keys_in (events (g.list ++ part)) ≡ read ++ option_to_list key =
    ap keys_in (events-join g.list part) ∙ keys-join (events g.list) (events part) ∙ ap (λ ks. read ++ ks) part_is in
    let next : suc count ≡ count + 1 = omega arith in
    record {
      list = g.list ++ part;
      last = q.last;
      goes = goes-join g.list part old mid new g.goes q.goes;
      keys = keys;
      known = leaves-known source.left source_after.left (read ++ option_to_list key) t.more t.leaves;
      cut = (
        count,
        g.list,
        q.before,
        q.rest,
        refl,
        within,
        t.same (is_halted old) g.list g.rounds,
        goes-on old g.list mid g.goes on,
        q.those
            ∙ begun plan.quantum count at_end source.left source_now.left source_after.left key old mid sink sink_now source.asked source_now.asked
            source_after.asked g takes call,
      );
      shows = q.shows;
      before = g.list ++ q.before;
      ends = sym (append_assoc g.list q.before (q.last ∷ []));
      calls = subst (Calls sink.calls sink_after.calls)
          (sym (append_assoc (calls_of g.list) (calls_of q.before) (failed (bytes_out q.last.1) ∷ [])) ∙ ap (λ cs. cs ++ failed (bytes_out q.last.1) ∷ []) (sym (calls-join g.list q.before)))
          (calls-trans sink.calls sink_now.calls sink_after.calls (calls_of g.list) (calls_of q.before ++ failed (bytes_out q.last.1) ∷ []) g.written.calls q.calls);
      typed = subst (Consumes source.left source_after.left) (sym read_is) (leaves-typed source.left source_after.left (read ++ option_to_list key) t.more t.leaves);
      asked = asked-for (is_none key) source.asked source_after.asked (keys_in (events (g.list ++ part))) t.more (count + 1)
          (subst (λ n. Pace (is_none key) (keys_in (events (g.list ++ part))) t.more n) next (subst (λ ks. Pace (is_none key) ks t.more (suc count)) (sym read_is) t.pace))
          (asked-typed key source.asked source_after.asked (length read) (length (keys_in (events (g.list ++ part)))) (ap length read_is ∙ length-append read (option_to_list key))
          (one_asked plan.quantum count at_end source.left source_now.left source_after.left key old mid sink sink_now source.asked source_now.asked source_after.asked g takes call));
    }

pub player-stops : (plan : RunPlan) (count : ℕ) (at_end : Bool) (source source_now source_after : Source) (key : Option ℕ) (old mid new : Meaning)
    (sink sink_now sink_after : Sink) → count < plan.rounds
    → (g : Going plan.quantum count at_end source.left source_now.left old mid sink sink_now source.asked source_now.asked)
    → mid.world.turns.halted ≡ None → TakesKey at_end source_now.left key source_after.left
    → Asked source_now.asked source_after.asked (cond at_end 0 1) → PlayedFirst (round plan.quantum (option_to_list key)) mid new sink_now sink_after
    → StoppedByPlayer plan source source_after old new sink sink_after
player-stops plan count at_end source source_now source_after key old mid new sink sink_now sink_after within g on takes call q =
    let t = took plan.quantum count at_end source.left source_now.left source_after.left key old mid sink sink_now source.asked source_now.asked source_after.asked g takes call in
    let before : List ℕ = keys_in (events g.list) in
    let read : List ℕ = before ++ option_to_list key in
    let part : Steps = q.played.list in
    let part_is : events part ++ q.rest ≡ round plan.quantum (option_to_list key) = ap (λ es. es ++ q.rest) q.played.those ∙ q.those in
    let typed_is : keys_in (events (g.list ++ part)) ≡ before ++ keys_in (events part) = ap keys_in (events-join g.list part) ∙ keys-join (events g.list) (events part) in
    let next : suc count ≡ count + 1 = omega arith in
    record {
      list = g.list ++ part;
      goes = goes-join g.list part old mid new g.goes q.played.goes;
      keys = read ++ t.more;
      known = leaves-known source.left source_after.left read t.more t.leaves;
      cut = (
        count,
        g.list,
        part,
        q.rest,
        refl,
        within,
        t.same (is_halted old) g.list g.rounds,
        goes-on old g.list mid g.goes on,
        part_is
            ∙ begun plan.quantum count at_end source.left source_now.left source_after.left key old mid sink sink_now source.asked source_now.asked
            source_after.asked g takes call,
      );
      written = wrote-join sink sink_now sink_after g.list part g.written q.played.written;
      read = read;
      consumed = leaves-typed source.left source_after.left read t.more t.leaves;
      typed = subst (AreTyped read) (sym typed_is)
          (typed-behind before (option_to_list key) (keys_in (events part)) (part-typed plan.quantum key (events part) q.rest part_is));
      asked = asked-for (is_none key) source.asked source_after.asked read t.more (count + 1) (subst (λ n. Pace (is_none key) read t.more n) next t.pace)
          (asked-typed key source.asked source_after.asked (length before) (length read) (length-append before (option_to_list key))
          (one_asked plan.quantum count at_end source.left source_now.left source_after.left key old mid sink sink_now source.asked source_now.asked source_after.asked g takes call));
    }

-- however a drive ended, the machine has gone by events
pub ends-somehow : (end : Result DriveEnd DriveError) (plan : RunPlan) (source source_after : Source) (old new : Meaning) (sink sink_after : Sink)
    → OnOk end (Done plan source source_after old new sink sink_after) → IfErr end (λ e. OnRead e (StoppedByRead plan source source_after old new sink sink_after))
    → IfErr end (λ e. OnWrite e (StoppedByWrite plan source source_after old new sink sink_after)) → (list : Steps) × Goes old list new
ends-somehow (Ok end) plan source source_after old new sink sink_after done read write = (done.list, done.goes)
ends-somehow (Err Read) plan source source_after old new sink sink_after done read write = (read.list, read.goes)
ends-somehow (Err Write) plan source source_after old new sink sink_after done read write = (write.list, write.goes)
