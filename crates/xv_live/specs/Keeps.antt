-- What a file has of a session's record while the session goes on.
use Rattle.std.specs.Prelude.{◌≡◌, ◌≤◌, ℕ, List, ◌++◌, length, take, Option, None, IsSome, IfSome}
use Rattle.std.specs.String.{string_bytes}
use Rattle.kernel_spec.specs.runs.Run.{Event}
use Rattle.xv_record.specs.Growing.{IsWholeFile, Stands}
use Rattle.xv_record.specs.declared.line.Line.{Line}
use Rattle.xv_live.specs.Plays.{events_of_lines}
use Rattle.xv_live.specs.declared.keeping.Recording.{Recording}
use Rattle.xv_live.specs.declared.recorder.Recorder.{Recorder}

-- The file is the whole record of just these events, behind this head. Its first bytes, so many, are the head and the lines of the first events, so many, and won't change any more
pub record Keeps (held : Option (List ℕ)) (head : List ℕ) (standing place : ℕ) (events : List Event) : Type 0 where
  pub over : List Line
  pub last : List Line
  pub those : events_of_lines (over ++ last) ≡ events
  pub whole : IsWholeFile held head (over ++ last)
  pub first : events_of_lines over ≡ take place events
  pub within : place ≤ length events
  pub stands : Stands held standing head over

module _ {F : Type 0} where
  -- the record of these events is in its file, and they are as many as it says; `held` gives the bytes of a file, if they are known
  abbrev pub IsUpTo : (held : F → Option (List ℕ)) → Recording F → List Event → Type 0
  IsUpTo held r events = Keeps (held r.growing.file) (string_bytes r.head) r.growing.standing r.place events × (r.count ≡ length events)

  -- the record that is kept, if one is, is that of these events
  abbrev pub IsKept : (held : F → Option (List ℕ)) → Recorder F → List Event → Type 0
  IsKept held r events = IfSome r.recording (λ k. IsUpTo held k events)

  -- the record that is kept, if one is, has this head
  abbrev pub HasHead : Recorder F → (head : List ℕ) → Type 0
  HasHead r head = IfSome r.recording (λ k. string_bytes k.head ≡ head)

  -- A record that is kept is kept on with its head, unless it is told why not; and what was told stays. If none is kept, none is begun, and nothing more is told
  pub record GoesOn (old new : Recorder F) : Type 0 where
    pub off : old.recording ≡ None → (new.recording ≡ None) × (new.failure ≡ old.failure)
    pub still : new.failure ≡ None → IsSome old.recording → IsSome new.recording
    pub well : new.failure ≡ None → old.failure ≡ None
    pub head : (head : List ℕ) → HasHead old head → HasHead new head
