-- What it is to attend to a machine.
use Rattle.std.specs.Prelude.{◌≡◌, ℕ, List, ◌++◌, Option}
use Rattle.std.specs.Io.KnownBytes.{Consumes}
use Rattle.kernel_spec.specs.runs.Rounds.{events}
use Rattle.xv_session.specs.Recorded.{Recorded}
use Rattle.xv_live.specs.Keys.{leading_of, typed_of, keys_of}
use Rattle.xv_live.specs.declared.pauses.Pause.{Pause}
use Rattle.xv_live.specs.Shown.{Shown}

-- the machine went by events, and these are the keys among them
pub record Types (keys : List ℕ) (old new : Recorded) (screen screen_after : Option (List ℕ)) : Type 0 where
  pub shown : Shown old new screen screen_after
  pub those : keys_of (events shown.list) ≡ keys

-- the machine went by events, and the keys among them are the first of those that waited
pub record TypesFirst (old new : Recorded) (screen screen_after : Option (List ℕ)) (waited waits : List ℕ) : Type 0 where
  pub keys : List ℕ
  pub typed : Types keys old new screen screen_after
  pub first : waited ≡ keys ++ waits

-- The machine went by events, the session keeps them, and what they show, and nothing else, was written. Bytes came from the keyboard. The keys that waited, and behind them those of these bytes that are the machine's, were typed in this order: none is lost or typed twice, and those that weren't typed yet wait. These pauses are what the other bytes asked for
pub record Attends (led : List Pause) (old new : Recorded) (screen screen_after coming coming_after : Option (List ℕ)) (waited waits : List ℕ) : Type 0 where
  pub shown : Shown old new screen screen_after
  pub bytes : List ℕ
  pub came : Consumes coming coming_after bytes
  pub keys : waited ++ typed_of bytes ≡ keys_of (events shown.list) ++ waits
  pub asked_for : leading_of bytes ≡ led
