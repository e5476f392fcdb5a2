-- What lines tell, one after another.
use Rattle.std.proofs.Common.{◌≡◌, ◌∙◌, ℕ, ◌+◌, List, [], ◌∷◌, ◌++◌, flat_map, length, sym, ap, append_assoc, append-nil, zero-add, add-zero, arith}
use Rattle.std.proofs.lemmas.List.{length-append}
use Rattle.std.proofs.lemmas.Grind.{flat_map-append}
use Rattle.trace_picture.specs.declared.line.Line.{Line}
use Rattle.trace_picture.specs.declared.line.Told.{Told}
use Rattle.trace_picture.specs.declared.remark.Remark.{Remark}
use Rattle.trace_picture.specs.Remarks.{IsToldBy, TellEach, Tells, all_behind, events_of, names_of, waits_of}

-- the events of one line more
more_events : (lines : List Line) (line : Line) → flat_map events_of (lines ++ line ∷ []) ≡ flat_map events_of lines ++ events_of line
more_events lines line = flat_map-append events_of lines (line ∷ []) ∙ ap (λ ns. flat_map events_of lines ++ ns) (append-nil (events_of line))

-- the remarks of one line more
more_remarks : (tells : ℕ → Line → List Remark) (n : ℕ) (lines : List Line) (line : Line)
    → all_behind tells n (lines ++ line ∷ []) ≡ all_behind tells n lines ++ tells (n + length (flat_map events_of lines)) line
more_remarks tells n [] line = append-nil (tells n line) ∙ ap (λ k. tells k line) (sym (add-zero n))
more_remarks tells n (first ∷ lines) line =
    let m : ℕ = n + length (events_of first) in
    let far : m + length (flat_map events_of lines) ≡ n + length (events_of first ++ flat_map events_of lines)
    = omega (arith, length-append (events_of first) (flat_map events_of lines)) in
    ap (λ rs. tells n first ++ rs) (more_remarks tells m lines line)
    ∙ sym (append_assoc (tells n first) (all_behind tells m lines) (tells (m + length (flat_map events_of lines)) line))
    ∙ ap (λ k. (tells n first ++ all_behind tells m lines) ++ tells k line) far

-- each of one line more
more_each : (texts : List (List ℕ)) (lines : List Line) (text : List ℕ) (line : Line) → TellEach texts lines → Tells text line → TellEach (texts ++ text ∷ []) (lines ++ line ∷ [])
more_each [] [] text line each one = (one, tt)
more_each [] (other ∷ lines) text line each one = absurd each
more_each (other ∷ texts) [] text line each one = absurd each
more_each (other ∷ texts) (its ∷ lines) text line each one = (each.0, more_each texts lines text line each.1 one)

-- no line
pub none_told : (told : Told) → told.notes.items ≡ [] → told.remarks.names.items ≡ [] → told.remarks.waits.items ≡ [] → IsToldBy [] told
none_told told notes names waits = record { lines = []; each = tt; notes = notes; names = names; waits = waits }

-- one line more
pub more_told : (texts : List (List ℕ)) (text : List ℕ) (old new : Told) (line : Line) → IsToldBy texts old → Tells text line
    → new.notes.items ≡ old.notes.items ++ events_of line
    → new.remarks.names.items ≡ old.remarks.names.items ++ names_of (length old.notes.items) line
    → new.remarks.waits.items ≡ old.remarks.waits.items ++ waits_of (length old.notes.items) line
    → IsToldBy (texts ++ text ∷ []) new
more_told texts text old new line told tells notes names waits =
    let all : List Line = told.lines in
    let place : length old.notes.items ≡ 0 + length (flat_map events_of all) = ap length told.notes ∙ sym (zero-add (length (flat_map events_of all))) in
    record {
      lines = all ++ line ∷ [];
      each = more_each texts all text line told.each tells;
      notes = notes ∙ ap (λ ns. ns ++ events_of line) told.notes ∙ sym (more_events all line);
      names = names ∙ ap (λ rs. rs ++ names_of (length old.notes.items) line) told.names
          ∙ ap (λ k. all_behind names_of 0 all ++ names_of k line) place ∙ sym (more_remarks names_of 0 all line);
      waits = waits ∙ ap (λ rs. rs ++ waits_of (length old.notes.items) line) told.waits
          ∙ ap (λ k. all_behind waits_of 0 all ++ waits_of k line) place ∙ sym (more_remarks waits_of 0 all line);
    }
