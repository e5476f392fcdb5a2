-- That the named are live has one proof at most, so a struct can keep it.
use Rattle.std.specs.Prelude.{◌≡◌, true, List, [], ◌∷◌, is_some}
use Rattle.std.specs.Coded.{×_prop, Unit-prop, Coded-set, coded_bool}
use Rattle.kernel_spec.specs.views.State.{State, live}
use Rattle.xv_session.specs.Names.{Among, Apart, AreLive}
use Rattle.xv_session.specs.declared.names.Named.{Named}

pub not-prop : (A : Type 0) → IsProp (¬ A)
not-prop A f g = λ i x. (let same : f x ≡ g x = absurd (f x) in same) i

pub apart-prop : (names : List Named) → IsProp (Apart names)
apart-prop [] = Unit-prop
apart-prop (n ∷ ns) = ×_prop (not-prop (Among n.pid ns)) (apart-prop ns)

pub live-prop : (s : State) (names : List Named) → IsProp (AreLive s names)
live-prop s names a b = λ i. record {
  apart = apart-prop names a.apart b.apart i;
  lives = λ p among. Coded-set coded_bool (is_some (live s p)) true (a.lives p among) (b.lives p among) i;
}
