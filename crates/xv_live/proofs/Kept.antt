-- A record that is kept, from step to step.
use Rattle.std.proofs.Common.{◌≡◌, ◌∙◌, ℕ, ◌≤◌, List, [], ◌++◌, ap, length, Option, None, Some, IsSome, IfSome, refl, subst, sym, take}
use Rattle.std.proofs.lemmas.Grind.{flat_map-append}
use Rattle.std.proofs.lemmas.List.{take-append-le}
use Rattle.std.proofs.lemmas.Option.{none-some}
use Rattle.std.specs.String.{string_bytes}
use Rattle.kernel_spec.proofs.Common.{none_has_no_value}
use Rattle.kernel_spec.specs.runs.Run.{Event}
use Rattle.xv_record.specs.Growing.{Grows, Stands}
use Rattle.xv_record.specs.declared.line.Line.{Line}
use Rattle.xv_live.specs.Keeps.{GoesOn, Keeps}
use Rattle.xv_live.specs.Plays.{events_of_line, events_of_lines}
use Rattle.xv_live.specs.declared.keeping.Recording.{Recording}
use Rattle.xv_live.specs.declared.recorder.Recorder.{Recorder}
use Rattle.xv_record.specs.declared.growing.GrowError.{GrowError}

lines-join : (us vs : List Line) → events_of_lines (us ++ vs) ≡ events_of_lines us ++ events_of_lines vs
lines-join us vs = flat_map-append events_of_line us vs

-- it is begun anew
pub keeps-begun : (held : Option (List ℕ)) (head shown : List ℕ) (standing place : ℕ) (events : List Event) (over last : List Line) → shown ≡ head → Grows shown [] over last standing held
    → take 0 events ++ events_of_lines over ≡ take place events → place ≤ length events → take place events ++ events_of_lines last ≡ events → Keeps held head standing place events
keeps-begun held head shown standing place events over last same grows these within rest =
    let g : Grows head [] over last standing held = subst (λ (h : List ℕ). Grows h [] over last standing held) same grows in record {
      over = over;
      last = last;
      those = lines-join over last ∙ (ap (λ (es : List Event). es ++ events_of_lines last) these ∙ rest);
      whole = g.whole;
      first = these;
      within = within;
      stands = g.stands;
    }

-- the first events of more
take-front : (place : ℕ) (before more events : List Event) → events ≡ before ++ more → place ≤ length before → take place events ≡ take place before
take-front place before more events same within = ap (λ (es : List Event). take place es) same ∙ take-append-le place before more within

-- or goes on
pub keeps-more : (held now : Option (List ℕ)) (head : List ℕ) (standing place stands next : ℕ) (before more events : List Event) (over last : List Line) → events ≡ before ++ more
    → Keeps held head standing place before → ((start : List Line) → Stands held standing head start → Grows head start over last stands now)
    → take place events ++ events_of_lines over ≡ take next events → next ≤ length events → take next events ++ events_of_lines last ≡ events → Keeps now head stands next events
keeps-more held now head standing place stands next before more events over last same k grows these within rest =
    let g = grows k.over k.stands in
    let front : events_of_lines k.over ≡ take place events = k.first ∙ sym (take-front place before more events same k.within) in
    let first : events_of_lines (k.over ++ over) ≡ take next events = lines-join k.over over ∙ (ap (λ (es : List Event). es ++ events_of_lines over) front ∙ these) in
    record {
      over = k.over ++ over;
      last = last;
      those = lines-join (k.over ++ over) last ∙ (ap (λ (es : List Event). es ++ events_of_lines last) first ∙ rest);
      whole = g.whole;
      first = first;
      within = within;
      stands = g.stands;
    }

module _ {F : Type 0} where
  -- nothing was done
  pub on_still : (r : Recorder F) → GoesOn r r
  on_still r = record { off = λ none. (none, refl); still = λ _ is. is; well = λ w. w; head = λ _ h. h }

  -- none was kept
  pub on_off : (old new : Recorder F) → old.recording ≡ None → new.recording ≡ None → new.failure ≡ old.failure → GoesOn old new
  on_off old new none off same = record {
    off = λ _. (off, same);
    still = λ _ is. absurd (none_has_no_value old.recording none is);
    well = λ w. sym same ∙ w;
    head = λ h _. subst (λ (o : Option (Recording F)). IfSome o (λ k. string_bytes k.head ≡ h)) (sym off) tt;
  }

  -- it is kept on, with its head
  pub on_kept : (old new : Recorder F) (was is : Recording F) → old.recording ≡ Some was → new.recording ≡ Some is → new.failure ≡ old.failure → is.head ≡ was.head → GoesOn old new
  on_kept old new was is before after same head = record {
    off = λ none. absurd (none-some was (sym none ∙ before));
    still = λ _ _. subst (λ (o : Option (Recording F)). IsSome o) (sym after) refl;
    well = λ w. sym same ∙ w;
    head = λ h has.
        let had : string_bytes was.head ≡ h = subst (λ (o : Option (Recording F)). IfSome o (λ k. string_bytes k.head ≡ h)) before has in
        subst (λ (o : Option (Recording F)). IfSome o (λ k. string_bytes k.head ≡ h)) (sym after) (ap string_bytes head ∙ had);
  }

  -- or it is told why it isn't
  pub on_failed : (old new : Recorder F) (was : Recording F) (why : GrowError) → old.recording ≡ Some was → new.recording ≡ None → new.failure ≡ Some why → GoesOn old new
  on_failed old new was why before none failed = record {
    off = λ none_kept. absurd (none-some was (sym none_kept ∙ before));
    still = λ w _. absurd (none-some why (sym w ∙ failed));
    well = λ w. absurd (none-some why (sym w ∙ failed));
    head = λ h _. subst (λ (o : Option (Recording F)). IfSome o (λ k. string_bytes k.head ≡ h)) (sym none) tt;
  }

  pub on_join : (a b c : Recorder F) → GoesOn a b → GoesOn b c → GoesOn a c
  on_join a b c p q = record {
    off = λ none. ((q.off (p.off none).0).0, (q.off (p.off none).0).1 ∙ (p.off none).1);
    still = λ w is. q.still w (p.still (q.well w) is);
    well = λ w. p.well (q.well w);
    head = λ h has. q.head h (p.head h has);
  }
