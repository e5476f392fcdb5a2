use Rattle.std.proofs.Common.{◌≡◌, ◌∙◌, ◌-◌, ℕ, None, Some, ap, arith, length, refl, slice_get, subst, sym, take}
use Rattle.std.specs.Prelude.{option_map}
use Rattle.xv_machine.specs.Events.{event_of}
use Rattle.xv_session.specs.Recorded.{IsPlayed}
use Rattle.call_reasons.proofs.Steps.{is-last, no-last}
use Rattle.call_reasons.proofs.last.reason_of_last.Goals as goal

pub returns-in_default-clause-told : goal.returns-in_default-clause-told
returns-in_default-clause-told c =
    let s = c.args.session.now in
    let place : c.saturating_sub-last.result ≡ length s.events - 1 = omega arith in
    let none : slice_get s.events (length s.events - 1) ≡ None = ap (slice_get s.events) (sym place) ∙ sym c.event.ensures ∙ ap (option_map event_of) c.in_default.is in
    record { none = λ _. refl; some = λ other. absurd (other (no-last s.events none)) }

pub returns-clause-told : goal.returns-clause-told
returns-clause-told c =
    let s = c.args.session.now in
    let m = c.in_ok-machine.machine in
    let place : c.saturating_sub-last.result ≡ length s.events - 1 = omega arith in
    let last : slice_get s.events (length s.events - 1) ≡ Some (event_of c.in-Some.event) =
    ap (slice_get s.events) (sym place) ∙ sym c.event.ensures ∙ ap (option_map event_of) c.in-Some.is in
    record {
      none = λ empty. absurd (is-last s.events (event_of c.in-Some.event) last empty);
      some = λ _. record {
        before = m;
        is_before = subst (λ (n : ℕ). IsPlayed s.frames s.trace s.programs (take n s.events) m) place c.in_ok-machine.ensures.played;
        event = event_of c.in-Some.event;
        last = last;
        by = c.reason_by.ensures;
      };
    }
