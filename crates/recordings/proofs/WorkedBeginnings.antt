-- Worked cases: with which events a record begins.
use Rattle.std.proofs.Common.{◌≡◌, List, [], ◌∷◌, true, false, refl, ap}
use Rattle.kernel_spec.specs.runs.Run.{Event, Run, Tick, Key, Send}
use Rattle.recordings.specs.Recording.{Begins, event_among, is_same}

abbrev three : List Event
three = Run ∷ Run ∷ Tick ∷ []

with_none : Begins three []
with_none = (three, refl)

with_the_first_two : Begins three (Run ∷ Run ∷ [])
with_the_first_two = (Tick ∷ [], refl)

with_all : Begins three three
with_all = ([], refl)

abbrev second : List Event → Event
second [] = Send
second (a ∷ []) = Send
second (a ∷ b ∷ more) = b

-- one that another event has left, or that has gone on after its end
not_with_another : Begins three (Run ∷ Tick ∷ []) → ⊥
not_with_another (rest, is) = let no : Run ≡ Tick = ap second is in let bad : ⊥ = cc in bad

abbrev fourth : List Event → Event
fourth (a ∷ b ∷ c ∷ d ∷ more) = d
fourth _ = Send

not_with_more : Begins three (Run ∷ Run ∷ Tick ∷ Run ∷ []) → ⊥
not_with_more (rest, is) = let no : Send ≡ Run = ap fourth is in let bad : ⊥ = cc in bad

a_key_is_the_same_by_its_byte : (is_same (Key 97) (Key 97) ≡ true) × (is_same (Key 97) (Key 98) ≡ false) × (is_same Run Tick ≡ false)
a_key_is_the_same_by_its_byte = (refl, refl, refl)

the_second : event_among three 1 ≡ Run
the_second = refl

none_behind_the_last : event_among three 3 ≡ Send
none_behind_the_last = refl
