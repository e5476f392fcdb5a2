-- An event that isn't a step of p leaves the rest of p's view.
use Rattle.kernel_spec.proofs.Prelude.{[], ℕ, ℤ, ◌∙◌, ◌∷◌, ◌≡◌, ◌≢◌, ap, bare, Bool, Console, Descriptor, Event, Halted, Happens, Idle, IsStepOf, Key, KeyHappens, line, List, Live, live}
use Rattle.kernel_spec.proofs.Prelude.{meets_on_file, meets_on_pipe, None, Option, option_map, Others, OthersKeep, Outcome, Own, own, refl, Run, RunHappens, same_Some, seen, Send, Sent, sent, Shown}
use Rattle.kernel_spec.proofs.Prelude.{Shown_file, Shown_pipe, Shown_terminal, Some, State, Step_of, StepOf, sym, Tick, Ticked, TickHappens, Turn, TurnTaken, Typed, View, view, view_of, World}
use Rattle.kernel_spec.proofs.steps.SeenByParts.{seen_descriptor, left_at}
use Rattle.kernel_spec.proofs.steps.ViewIsSharedAndRest.{rest}

bare_seen_shown : (f p : Option Descriptor) (file : ℕ) (read write : Bool) (x : Shown)
    → bare (seen_descriptor f p (Some (record { file = file; read = read; write = write; shown = x }))) ≡ bare
    (Some (record { file = file; read = read; write = write; shown = x }))
bare_seen_shown f p file read write Shown_terminal = refl
bare_seen_shown f p file read write (Shown_file program offset) = refl
bare_seen_shown f p file read write (Shown_pipe name end pipe) = refl

bare_seen : (f p d : Option Descriptor) → bare (seen_descriptor f p d) ≡ bare d
bare_seen f p None = refl
bare_seen f p (Some d) = bare_seen_shown f p d.file d.read d.write d.shown

pub rest-seen : (s : State) (v : View) (o : Own) (w : View) → rest (seen s v o w) ≡ rest w
unfolding seen
rest-seen s v o w = λ i. record (rest w) {
  descriptors = λ d. bare_seen (left_at o.left.descriptors (meets_on_file s v.pid w.pid d))
      (left_at o.left.descriptors (meets_on_pipe s v.pid w.pid d)) (w.descriptors d) i;
}

-- ---- a clock or a console that changes

pub clock_view : (s : State) (c p : ℕ) (o : Option Live) (v : View) → option_map (view_of s p) o ≡ Some v → option_map (view_of (record s { clock = c }) p) o ≡ Some (record v { clock = c })
unfolding view_of
clock_view s c p None v e = cc
clock_view s c p (Some l) v e = ap (λ (u : View). Some (record u { clock = c })) (same_Some (view_of s p l) v e)

pub console_view : (s : State) (c : Console) (p : ℕ) (o : Option Live) (v : View) → option_map (view_of s p) o ≡ Some v
    → option_map (view_of (record s { console = c }) p) o ≡ Some (record v { console = c })
unfolding view_of
console_view s c p None v e = cc
console_view s c p (Some l) v e = ap (λ (u : View). Some (record u { console = c })) (same_Some (view_of s p l) v e)

pub pid_is : (s : State) (p : ℕ) (o : Option Live) (v : View) → option_map (view_of s p) o ≡ Some v → v.pid ≡ p
unfolding view_of
pid_is s p None v e = cc
pid_is s p (Some l) v e = sym (ap (λ (u : View). u.pid) (same_Some (view_of s p l) v e))

-- ---- one event

-- p is live, and the rest of its view is v's
pub record Keeps (p : ℕ) (v : View) (t : State) : Type 0 where
  pub after : View
  pub is : view t p ≡ Some after
  pub same : rest after ≡ rest v

unchanged : (p : ℕ) (v : View) (w t : World) → t ≡ w → view w.state p ≡ Some v → Keeps p v t.state
unchanged p v w t e is = record { after = v; is = ap (λ (u : World). view u.state p) e ∙ is; same = refl }

kept_step : (p : ℕ) (v : View) (w t : World) (r : ℕ) (o : Outcome) → StepOf w r o t → p ≢ r → view w.state p ≡ Some v → Keeps p v t.state
kept_step p v w t r o h apart is = record {
  after = seen w.state h.before (own h.before) v;
  is = h.state.others p v (λ e. apart (e ∙ pid_is w.state r (live w.state r) h.before h.was)) is;
  same = rest-seen w.state h.before (own h.before) v;
}

kept_turn : (p : ℕ) (v : View) (w t : World) (o : Outcome) → TurnTaken w o t → view w.state p ≡ Some v → Keeps p v t.state
kept_turn p v w t (Turn q) h is = record { after = v; is = ap (λ (u : World). view u.state p) h.3 ∙ is; same = refl }
kept_turn p v w t Idle h is = unchanged p v w t h is
kept_turn p v w t (Step_of q a) h is = absurd h
kept_turn p v w t Ticked h is = absurd h
kept_turn p v w t (Typed echo) h is = absurd h
kept_turn p v w t (Sent b) h is = absurd h
kept_turn p v w t Halted h is = absurd h

kept_run : (p : ℕ) (v : View) (w t : World) (o : Outcome) (halted : Option ℤ) (current : Option ℕ) → RunHappens w halted current o t
    → ¬ ((halted ≡ None) × (current ≡ Some p)) → view w.state p ≡ Some v → Keeps p v t.state
kept_run p v w t o (Some status) current h apart is = unchanged p v w t h.1 is
kept_run p v w t o None (Some r) h apart is = kept_step p v w t r o h (λ e. apart (refl, ap Some (sym e))) is
kept_run p v w t o None None h apart is = kept_turn p v w t o h is

kept_tick : (p : ℕ) (v : View) (w t : World) (o : Outcome) (halted : Option ℤ) → TickHappens w halted o t → view w.state p ≡ Some v → Keeps p v t.state
kept_tick p v w t o (Some status) h is = unchanged p v w t h.1 is
kept_tick p v w t o None h is = let after : State = t.state in
    record { after = record v { clock = _ }; is = ap (λ (s : State). view s p) h.1 ∙ clock_view w.state _ p (live w.state p) v is; same = refl }

kept_key : (p : ℕ) (v : View) (w t : World) (o : Outcome) (halted : Option ℤ) (b : ℕ) → KeyHappens w halted b o t → view w.state p ≡ Some v → Keeps p v t.state
kept_key p v w t o (Some status) b h is = unchanged p v w t h.1 is
kept_key p v w t o None b h is = record {
  after = record v { console = (line w.state.console b).0 };
  is = ap (λ (s : State). view s p) h.1
      ∙ console_view w.state ((line w.state.console b).0) p (live w.state p) v is;
  same = refl;
}

pub kept : (p : ℕ) (v : View) (w t : World) (e : Event) (o : Outcome) → Happens w e o t → ¬ IsStepOf p w e → view w.state p ≡ Some v → Keeps p v t.state
kept p v w t Run o h apart is = kept_run p v w t o w.turns.halted w.turns.current h (λ x. apart (refl, x.0, x.1)) is
kept p v w t Tick o h apart is = kept_tick p v w t o w.turns.halted h is
kept p v w t (Key b) o h apart is = kept_key p v w t o w.turns.halted b h is
kept p v w t Send o h apart is = record {
  after = record v { console = sent w.state.console };
  is = ap (λ (s : State). view s p) h.1
      ∙ console_view w.state (sent w.state.console) p (live w.state p) v is;
  same = refl;
}

-- ---- a run without a step of p

pub kept_others : (p : ℕ) (v : View) (w t : World) (es : List (Event × Outcome)) → Others p w es t → view w.state p ≡ Some v → Keeps p v t.state
kept_others p v w t [] h is = unchanged p v w t h is
kept_others p v w t (e ∷ es) h is =
    let one = kept p v w h.0 e.0 e.1 h.1 h.2 is in
    let more = kept_others p one.after h.0 t es h.3 one.is in
    record { after = more.after; is = more.is; same = more.same ∙ one.same }

-- ---- as a law

pub others_keep : OthersKeep
others_keep p v w t e o h apart is =
    let k = kept p v w t e o h apart is in (
      k.after,
      k.is,
      (
        ap (λ (u : View). u.pid) k.same,
        ap (λ (u : View). u.regs) k.same,
        ap (λ (u : View). u.image) k.same,
        ap (λ (u : View). u.call) k.same,
        ap (λ (u : View). u.programs) k.same,
      ),
      λ d. ap (λ (u : View). u.descriptors d) k.same,
    )
