-- Worked cases of what lines tell of processes besides their events.
use Rattle.std.proofs.Common.{◌≡◌, [], ◌∷◌, None, Some, refl, string_bytes, String}
use Rattle.std.specs.declared.alloc.Global.{Global}
use Rattle.trace_picture.specs.declared.line.Line.TheVariants.{Event, Name, Waits, Other}
use Rattle.trace_picture.specs.declared.note.Note.TheVariants.{Turn, Tick}
use Rattle.trace_picture.specs.declared.remark.Remark.{Remark}
use Rattle.trace_picture.specs.Remarks.{all_behind, names_of, told_behind, waits_of}

-- a name stands behind the events of the lines before it; what tells of no name, and no event, moves nothing
second_event : (sh wc : String Global) → all_behind names_of 0 (Name 1 sh ∷ Event (Turn 1) ∷ Other ∷ Waits 1 wc ∷ Event Tick ∷ Name 2 wc ∷ [])
    ≡ record { place = 0; pid = 1; text = sh } ∷ record { place = 2; pid = 2; text = wc } ∷ []
second_event sh wc = refl

sleepers_alone : (sh wc : String Global) → all_behind waits_of 0 (Name 1 sh ∷ Event (Turn 1) ∷ Waits 1 wc ∷ []) ≡ record { place = 1; pid = 1; text = wc } ∷ []
sleepers_alone sh wc = refl

-- what was told behind three events is told of a sleep that begins after two, and not of one that begins after three
of_this_sleep : (r : Remark) → r.place ≡ 3 → told_behind 2 (Some r) ≡ Some (string_bytes r.text)
of_this_sleep r place = rw place refl

of_an_earlier_sleep : (r : Remark) → r.place ≡ 3 → told_behind 3 (Some r) ≡ None
of_an_earlier_sleep r place = rw place refl
