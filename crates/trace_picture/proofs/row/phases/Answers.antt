use Rattle.std.proofs.Common.{◌≡◌, ◌+◌, ◌++◌, ◌<◌, length, replicate, drop, get_or, List, [], sym, ap, ◌∙◌, arith, append-nil}
use Rattle.std.proofs.lemmas.List.{at_drop_more, drop_all}
use Rattle.trace_picture.specs.declared.note.Note.{Note}
use Rattle.trace_picture.specs.declared.note.Note.TheVariants.{Turn}
use Rattle.trace_picture.specs.declared.row.State.{State}
use Rattle.trace_picture.specs.Row.{shown, states}
use Rattle.trace_picture.proofs.Phases.{goes_on, changes, shown_append}
use Rattle.trace_picture.proofs.row.phases.Goals as goal
use Rattle.trace_picture.proofs.row.phases.Goals.{then-eq, else-eq+in_ok-push}

-- a note goes to the last phase, or begins one
pub loop-note-preserved : goal.loop-note-preserved
loop-note-preserved c =
    let row = c.loop-note.row.items in
    let last = c.loop-note.last in
    let i = c.loop-note.note-index in
    let notes = c.args.notes.now in
    let lt : i < length notes = omega arith in
    let note = get_or notes i (Turn 0) in
    let left = drop (i + 1) notes in
    let here = at_drop_more (λ (ns : List Note). shown row ++ (replicate last.events last.state ++ states c.args.pid last.state ns)) notes i (Turn 0) lt in
    elim c.if-eq.branch [
      | then-eq w ↦
          let same : c.after-state.result ≡ last.state = grind (arith, c.eq.ensures, w.if-eq.true) in
          record {
            told = rw (w.row-is, w.last-is) (goes_on row last.events c.args.pid last.state note left (sym c.after-state.ensures ∙ same) ∙ sym here ∙ c.loop-note.invariant.told);
            few = rw w.last-is (omega (arith, c.loop-note.invariant.few));
          }
      | else-eq+in_ok-push w ↦ record {
        told = rw (w.row-is, w.last-is, w.in_ok-push.ensures.items, c.after-state.ensures) (changes row last c.args.pid note left ∙ sym here ∙ c.loop-note.invariant.told);
        few = rw w.last-is (omega (arith, c.loop-note.invariant.few));
      }
    ]

-- no note is left
pub returns : goal.returns
returns c =
    let row = c.loop-note.row.items in
    let last = c.loop-note.last in
    let none : drop c.loop-note.note-index c.args.notes.now ≡ [] = drop_all c.loop-note.note-index c.args.notes.now (omega arith) in
    ap shown c.in_ok-push-2.ensures.items
    ∙ shown_append row last
    ∙ ap (λ (xs : List State). shown row ++ xs) (sym (append-nil (replicate last.events last.state)))
    ∙ ap (λ (ns : List Note). shown row ++ (replicate last.events last.state ++ states c.args.pid last.state ns)) (sym none)
    ∙ c.loop-note.invariant.told
