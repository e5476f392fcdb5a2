-- At which addresses, and before stores to which bytes, Runs that are sent at once have to stop.
use Rattle.std.specs.Prelude.{◌≡◌, ℕ, List, ◌++◌, flat_map, Option, None, Some}
use Rattle.std.specs.Option.{option_to_list}
use Rattle.xv_session.specs.declared.until.Condition.{Condition}
use Rattle.xv_session.specs.declared.until.Condition.TheVariants as waits_for
use Rattle.debug_words.specs.declared.vocabulary.Mark.{Mark}
use Rattle.debug_words.specs.declared.vocabulary.Mark.TheVariants.{At, Store}
use Rattle.xv_debug.specs.declared.motion.aiming.Aim.{Aim}
use Rattle.xv_debug.specs.declared.motion.aiming.Aim.TheVariants.{Anything, On, Return, Outside}
use Rattle.xv_debug.specs.declared.motion.places.Kind.{Kind}
use Rattle.xv_debug.specs.declared.motion.places.Kind.TheVariants.{Instructions, Bytes}
use Rattle.xv_debug.specs.declared.motion.places.Places.{Places}

abbrev pub of_mark : Kind → Mark → Option ℕ
of_mark Instructions (At program address) = Some address
of_mark Bytes (Store address) = Some address
of_mark _ _ = None

abbrev pub of_condition : Kind → Condition → Option ℕ
of_condition Instructions (waits_for.At p pc) = Some pc
of_condition Bytes (waits_for.StoreTo address) = Some address
of_condition _ _ = None

abbrev pub of_aim : Kind → Aim → Option ℕ
of_aim kind (On condition) = of_condition kind condition
of_aim Instructions (Return p pc stack) = Some pc
of_aim _ _ = None

-- that of an aim, and those of the marks
abbrev pub all_of : Kind → Aim → List Mark → List ℕ
all_of kind aim marks = option_to_list (of_aim kind aim) ++ flat_map (λ m. option_to_list (of_mark kind m)) marks

-- a done instruction that leads to no such address is never the aim
abbrev pub IsFar : Aim → Type 0
IsFar Anything = ⊥
IsFar (On (waits_for.StepOf p)) = ⊥
IsFar (Outside p first last) = ⊥
IsFar _ = Unit {0}

pub record ArePlaces (aim : Aim) (marks : List Mark) (places : Places) : Type 0 where
  pub far : IsFar aim
  pub addresses : places.addresses.items ≡ all_of Instructions aim marks
  pub bytes : places.bytes.items ≡ all_of Bytes aim marks
