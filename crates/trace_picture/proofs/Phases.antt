-- A row that is made note by note.
use Rattle.std.proofs.Common.{◌≡◌, ℕ, zero, suc, ◌+◌, List, [], ◌∷◌, ◌++◌, replicate, refl, ap, ◌∙◌, sym, add-one, append_assoc, append-nil}
use Rattle.trace_picture.specs.Row.{after, shown, states}
use Rattle.trace_picture.specs.declared.note.Note.{Note}
use Rattle.trace_picture.specs.declared.row.State.{State}
use Rattle.trace_picture.specs.declared.row.Phase.{Phase}

-- one more event in the same state
one_more : (k : ℕ) (s : State) (rest : List State) → replicate (k + 1) s ++ rest ≡ replicate k s ++ s ∷ rest
one_more k s rest = rw add-one (go k)
  where
    go : (k : ℕ) → replicate (suc k) s ++ rest ≡ replicate k s ++ s ∷ rest
    go zero = refl
    go (suc k) = ap (λ (xs : List State). s ∷ xs) (go k)

-- a row shows its phases one behind another
pub shown_append : (row : List Phase) (last : Phase) → shown (row ++ last ∷ []) ≡ shown row ++ replicate last.events last.state
shown_append [] last = append-nil (replicate last.events last.state)
shown_append (first ∷ row) last =
    ap (λ (xs : List State). replicate first.events first.state ++ xs) (shown_append row last)
    ∙ sym (append_assoc (replicate first.events first.state) (shown row) (replicate last.events last.state))

-- a note that leaves the state as it is makes the last phase longer
pub goes_on : (row : List Phase) (k pid : ℕ) (s : State) (note : Note) (rest : List Note)
    → after pid s note ≡ s
    → shown row ++ (replicate (k + 1) s ++ states pid s rest) ≡ shown row ++ (replicate k s ++ states pid s (note ∷ rest))
goes_on row k pid s note rest same =
    ap (λ (xs : List State). shown row ++ xs)
    (one_more k s (states pid s rest) ∙ ap (λ (t : State). replicate k s ++ t ∷ states pid t rest) (sym same))

-- any other note begins a phase of its own
pub changes : (row : List Phase) (last : Phase) (pid : ℕ) (note : Note) (rest : List Note)
    → shown (row ++ last ∷ []) ++ (replicate 1 (after pid last.state note) ++ states pid (after pid last.state note) rest)
    ≡ shown row ++ (replicate last.events last.state ++ states pid last.state (note ∷ rest))
changes row last pid note rest =
    ap (λ (xs : List State). xs ++ states pid last.state (note ∷ rest)) (shown_append row last)
    ∙ append_assoc (shown row) (replicate last.events last.state) (states pid last.state (note ∷ rest))
