-- Two process tables that differ in the process of one place, which has the same pid.
use Rattle.kcall_core.proofs.Prelude.{ℕ, ◌<◌, ◌∙◌, ◌≡◌, ◌≢◌, ap, AreCounted, arith, asleep, Call, cases_eq, changed_at, Channel, channel_of, CountedFile, descriptors_at, get_or, get_or-set_other}
use Rattle.kcall_core.proofs.Prelude.{get_or-set_same, in_call, inl, inr, is_none, length, List, named_in, None, none-some, none_named, NPROC, Option, option_map, place_at, place_is_live, Process}
use Rattle.kcall_core.proofs.Prelude.{process_pid, refl, sleeper_in, sleepers_below, Slots, slots_of, Some, state_asleep, state_channel, state_in_call, state_status, status_of, sum_below, sym}
use Rattle.kcall_core.proofs.turns.Turned.{slots-same, sleepers-same, sleeper-same}
use Rattle.proc_table.specs.declared.process.State as table
use Rattle.proc_table.specs.declared.process.State.TheVariants as table_state

-- one place has another process of the same pid, and nothing else of the table is another
pub record ItsPlace (t u : Slots) (slot : ℕ) (before after : Process) : Type 0 where
  pub was : place_at t slot ≡ Some before
  pub is : place_at u slot ≡ Some after
  pub others : (j : ℕ) → j ≢ slot → place_at u j ≡ place_at t j
  pub pid : after.pid ≡ before.pid
  pub lived : status_of before ≡ None
  pub lives : status_of after ≡ None
  pub descriptors : u.descriptors ≡ t.descriptors
  pub last : u.last ≡ t.last

module _ {t u : Slots} {slot : ℕ} {before after : Process} (x : ItsPlace t u slot before after) where
  -- what is told of both processes alike is told of each place alike
  module _ {A : Type 0} (f : Option Process → A) (alike : f (Some after) ≡ f (Some before)) where
    pub alike-at : (j : ℕ) → f (place_at u j) ≡ f (place_at t j)
    alike-at j = elim (cases_eq j slot) [
      | inl e ↦ ap (λ n. f (place_at u n)) e ∙ ap f x.is ∙ alike ∙ sym (ap (λ n. f (place_at t n)) e ∙ ap f x.was)
      | inr apart ↦ ap f (x.others j apart)
    ]

  pub place-slots : slots_of u ≡ slots_of t
  place-slots = slots-same t u (alike-at (option_map process_pid) (ap Some x.pid))

  pub place-sleepers : channel_of after ≡ channel_of before → sleepers_below u NPROC ≡ sleepers_below t NPROC
  place-sleepers same = sleepers-same t u NPROC (alike-at sleeper_in (sleeper-same after before x.pid same))

  pub place-files : (j : ℕ) → descriptors_at u j ≡ descriptors_at t j
  place-files j = ap (λ d. get_or d j none_named) x.descriptors

  pub place-live : (j : ℕ) → place_is_live (place_at u j) ≡ place_is_live (place_at t j)
  place-live = alike-at place_is_live (ap is_none x.lives ∙ sym (ap is_none x.lived))

  -- open files are named as often as before
  pub place-counted : {files : List (Option CountedFile)} → AreCounted files t → AreCounted files u
  place-counted {files} counted = record {
    counts = λ file. counted.counts file ∙ ap (λ d. sum_below NPROC (λ j. named_in (get_or d j none_named) file)) (sym x.descriptors);
    lists = λ j lt. ap length (place-files j) ∙ counted.lists j lt;
    closed = λ j dead. place-files j ∙ counted.closed j (sym (place-live j) ∙ dead);
  }

-- the process in one slot is changed so that its pid is the same
pub changed-place : (t u : Slots) (slot : ℕ) (p : Process) (f : Process → Process) → length t.places ≡ NPROC → slot < 64 → place_at t slot ≡ Some p → status_of p ≡ None → (f p).pid ≡ p.pid
    → status_of (f p) ≡ None → u ≡ changed_at slot f t
    → ItsPlace t u slot p (f p)
changed-place t u slot p f places inside was lived pid lives e = record {
  was = was;
  is = ap (λ (v : Slots). place_at v slot) e ∙ get_or-set_same t.places slot (option_map f (place_at t slot)) None (omega (arith, places, inside)) ∙ ap (option_map f) was;
  others = λ j apart. ap (λ (v : Slots). place_at v j) e ∙ get_or-set_other t.places slot j (option_map f (place_at t slot)) None apart;
  pid = pid;
  lived = lived;
  lives = lives;
  descriptors = ap (λ (v : Slots). v.descriptors) e;
  last = ap (λ (v : Slots). v.last) e;
}

-- a live process is in another call
pub in-call-lives : (call : Option Call) (p : Process) → status_of p ≡ None → status_of (in_call call p) ≡ None
in-call-lives call p lives = by p.state lives
  where
    by : (s : table.State) → state_status s ≡ None → state_status (state_in_call call s) ≡ None
    by (table_state.Live life) e = refl
    by (table_state.Zombie status) e = e

pub in-call-channel : (call : Option Call) (p : Process) → channel_of (in_call call p) ≡ channel_of p
in-call-channel call p = by p.state
  where
    by : (s : table.State) → state_channel (state_in_call call s) ≡ state_channel s
    by (table_state.Live life) = refl
    by (table_state.Zombie status) = refl

pub asleep-lives : (on : Channel) (p : Process) → status_of p ≡ None → status_of (asleep on p) ≡ None
asleep-lives on p lives = by p.state lives
  where
    by : (s : table.State) → state_status s ≡ None → state_status (state_asleep on s) ≡ None
    by (table_state.Live life) e = refl
    by (table_state.Zombie status) e = e

pub asleep-channel : (on : Channel) (p : Process) → status_of p ≡ None → channel_of (asleep on p) ≡ Some on
asleep-channel on p lives = by p.state lives
  where
    by : (s : table.State) → state_status s ≡ None → state_channel (state_asleep on s) ≡ Some on
    by (table_state.Live life) e = refl
    by (table_state.Zombie status) e = absurd (none-some status (sym e))

-- what is another twice in one place is another
pub place-join : {t u v : Slots} {slot : ℕ} {a b c : Process} → ItsPlace t u slot a b → ItsPlace u v slot b c → ItsPlace t v slot a c
place-join x y = record {
  was = x.was;
  is = y.is;
  others = λ j apart. y.others j apart ∙ x.others j apart;
  pid = y.pid ∙ x.pid;
  lived = x.lived;
  lives = y.lives;
  descriptors = y.descriptors ∙ x.descriptors;
  last = y.last ∙ x.last;
}
