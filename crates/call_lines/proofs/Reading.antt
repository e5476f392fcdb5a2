-- Bytes and texts of memory, one behind another, as they are read.
use Rattle.std.proofs.Common.{◌≡◌, ℕ, zero, suc, Bool, false, ◌+◌, ◌-◌, ◌^◌, ◌==◌, ◌<◌, ◌≤◌, List, [], ◌∷◌, ◌++◌, Option, None, Some, Result, OnOk}
use Rattle.std.proofs.Common.{refl, sym, ◌∙◌, ap, subst, arith, codes, append-nil, append_assoc, ne_eqb, lt-ltb, le-ltb}
use Rattle.std.specs.Prelude.{ℤ}
use Rattle.std.proofs.lemmas.Result.{on_ok_weaker}
use Rattle.kernel_spec.specs.views.State.{State}
use Rattle.kernel_calls.specs.Table.{call_at}
use Rattle.kernel_calls.specs.declared.call.KernelCall.{KernelCall}
use Rattle.call_reasons.specs.declared.asked.Asked.{Asked}
use Rattle.kernel_calls.specs.Arguments.{kind_of}
use Rattle.kernel_calls.specs.declared.argument.Argument.{Argument}
use Rattle.kernel_calls.specs.declared.argument.ArgumentKind.{ArgumentKind}
use Rattle.call_lines.specs.Line.{answer_shown, reason_shown, argument_here, argument_shown, buffer_length, stored_shown, value_at, value_shown, comma_unless, text_shown, texts_shown}
use Rattle.call_lines.specs.Memory.{address_at, bytes_from, read_at, text_from}
use Rattle.debug_views.proofs.Texts.{four_shown, shown_behind}

-- ---- bytes

-- nothing is looked at
pub no_bytes : (s : State) (p a most : ℕ) (old : List ℕ) → most ≡ 0 → old ≡ old ++ bytes_from s p a most
unfolding bytes_from
no_bytes s p a zero old is = sym (append-nil old)
no_bytes s p a (suc most) old is = absurd (omega (arith, is))

-- none is there
pub none_there : (s : State) (p a most : ℕ) (old : List ℕ) → read_at s p a ≡ None → old ≡ old ++ bytes_from s p a most
unfolding bytes_from
none_there s p a zero old none = sym (append-nil old)
none_there s p a (suc most) old none = rw none (sym (append-nil old))

-- one is there, and others may be behind it
next_bytes : (s : State) (p a most next b : ℕ) → 0 < most → read_at s p a ≡ Some b → next ≡ a + 1 → next < 2 ^ 64
    → b ∷ bytes_from s p next (most - 1) ≡ bytes_from s p a most
unfolding bytes_from
next_bytes s p a zero next b some there at below = absurd (omega (arith, some))
next_bytes s p a (suc most) next b some there at below =
    let less : suc most - 1 ≡ most = omega arith in
    let under : a + 1 < 2 ^ 64 = omega (arith, at, below) in
    rw (less, there, at, lt-ltb (a + 1) (2 ^ 64) under) refl

pub more_bytes : {T E : Type 0} (r : Result T E) (s : State) (p a most next b : ℕ) (old mid new : List ℕ) → 0 < most → read_at s p a ≡ Some b → next ≡ a + 1 → next < 2 ^ 64
    → mid ≡ old ++ b ∷ [] → OnOk r (new ≡ mid ++ bytes_from s p next (most - 1)) → OnOk r (new ≡ old ++ bytes_from s p a most)
more_bytes r s p a most next b old mid new some there at below first wrote =
    let rest = bytes_from s p next (most - 1) in
    on_ok_weaker r (λ e. e ∙ ap (λ t. t ++ rest) first ∙ append_assoc old (b ∷ []) rest ∙ ap (λ t. old ++ t) (next_bytes s p a most next b some there at below)) wrote

-- or it is the last one
pub last_byte : (s : State) (p a most b : ℕ) (old new : List ℕ) → 0 < most → read_at s p a ≡ Some b → 2 ^ 64 ≤ a + 1 → new ≡ old ++ b ∷ [] → new ≡ old ++ bytes_from s p a most
unfolding bytes_from
last_byte s p a zero b old new some there past first = absurd (omega (arith, some))
last_byte s p a (suc most) b old new some there past first = rw (there, le-ltb (a + 1) (2 ^ 64) past) first

-- ---- letters of a text

pub no_letters : (s : State) (p a most : ℕ) (old : List ℕ) → most ≡ 0 → old ≡ old ++ text_from s p a most
unfolding text_from
no_letters s p a zero old is = sym (append-nil old)
no_letters s p a (suc most) old is = absurd (omega (arith, is))

pub no_letter_there : (s : State) (p a most : ℕ) (old : List ℕ) → read_at s p a ≡ None → old ≡ old ++ text_from s p a most
unfolding text_from
no_letter_there s p a zero old none = sym (append-nil old)
no_letter_there s p a (suc most) old none = rw none (sym (append-nil old))

-- the zero that ends it
pub text_ends : (s : State) (p a most b : ℕ) (old : List ℕ) → read_at s p a ≡ Some b → b ≡ 0 → old ≡ old ++ text_from s p a most
unfolding text_from
text_ends s p a zero b old there is = sym (append-nil old)
text_ends s p a (suc most) b old there is = rw (there, is) (sym (append-nil old))

next_letters : (s : State) (p a most next b : ℕ) → 0 < most → read_at s p a ≡ Some b → ¬ (b ≡ 0) → next ≡ a + 1 → next < 2 ^ 64
    → b ∷ text_from s p next (most - 1) ≡ text_from s p a most
unfolding text_from
next_letters s p a zero next b some there letter at below = absurd (omega (arith, some))
next_letters s p a (suc most) next b some there letter at below =
    let less : suc most - 1 ≡ most = omega arith in
    let under : a + 1 < 2 ^ 64 = omega (arith, at, below) in
    rw (less, there, ne_eqb b 0 letter, at, lt-ltb (a + 1) (2 ^ 64) under) refl

pub more_letters : {T E : Type 0} (r : Result T E) (s : State) (p a most next b : ℕ) (old mid new : List ℕ) → 0 < most → read_at s p a ≡ Some b → ¬ (b ≡ 0) → next ≡ a + 1
    → next < 2 ^ 64 → mid ≡ old ++ b ∷ [] → OnOk r (new ≡ mid ++ text_from s p next (most - 1)) → OnOk r (new ≡ old ++ text_from s p a most)
more_letters r s p a most next b old mid new some there letter at below first wrote =
    let rest = text_from s p next (most - 1) in
    on_ok_weaker r (λ e. e ∙ ap (λ t. t ++ rest) first ∙ append_assoc old (b ∷ []) rest ∙ ap (λ t. old ++ t) (next_letters s p a most next b some there letter at below)) wrote

pub last_letter : (s : State) (p a most b : ℕ) (old new : List ℕ) → 0 < most → read_at s p a ≡ Some b → ¬ (b ≡ 0) → 2 ^ 64 ≤ a + 1
    → new ≡ old ++ b ∷ [] → new ≡ old ++ text_from s p a most
unfolding text_from
last_letter s p a zero b old new some there letter past first = absurd (omega (arith, some))
last_letter s p a (suc most) b old new some there letter past first = rw (there, ne_eqb b 0 letter, le-ltb (a + 1) (2 ^ 64) past) first

-- ---- texts

pub no_texts : (shown : ℕ) (s : State) (p a : ℕ) (is_first : Bool) (most : ℕ) (old : List ℕ) → most ≡ 0 → old ≡ old ++ texts_shown shown s p a is_first most
unfolding texts_shown
no_texts shown s p a is_first zero old is = sym (append-nil old)
no_texts shown s p a is_first (suc most) old is = absurd (omega (arith, is))

-- no address is there
pub no_address : {T E : Type 0} (r : Result T E) (shown : ℕ) (s : State) (p a : ℕ) (is_first : Bool) (most : ℕ) (old new : List ℕ) → 0 < most → address_at s p a ≡ None
    → OnOk r (new ≡ old ++ (comma_unless is_first ++ codes "?")) → OnOk r (new ≡ old ++ texts_shown shown s p a is_first most)
unfolding texts_shown
no_address r shown s p a is_first zero old new some none wrote = absurd (omega (arith, some))
no_address r shown s p a is_first (suc most) old new some none wrote = rw none wrote

-- the address 0 ends them
pub texts_end : (shown : ℕ) (s : State) (p a : ℕ) (is_first : Bool) (most text : ℕ) (old : List ℕ) → address_at s p a ≡ Some text → text ≡ 0 → old ≡ old ++ texts_shown shown s p a is_first most
unfolding texts_shown
texts_end shown s p a is_first zero text old there is = sym (append-nil old)
texts_end shown s p a is_first (suc most) text old there is = rw (there, is) (sym (append-nil old))

next_texts : (shown : ℕ) (s : State) (p a : ℕ) (is_first : Bool) (most text next : ℕ) → 0 < most → address_at s p a ≡ Some text → ¬ (text ≡ 0) → next ≡ a + 8 → next < 2 ^ 64
    → comma_unless is_first ++ text_shown shown s p text ++ texts_shown shown s p next false (most - 1) ≡ texts_shown shown s p a is_first most
unfolding texts_shown
next_texts shown s p a is_first zero text next some there letter at below = absurd (omega (arith, some))
next_texts shown s p a is_first (suc most) text next some there letter at below =
    let less : suc most - 1 ≡ most = omega arith in
    let under : a + 8 < 2 ^ 64 = omega (arith, at, below) in
    rw (less, there, ne_eqb text 0 letter, at, lt-ltb (a + 8) (2 ^ 64) under) refl

pub more_texts : {T E : Type 0} (r : Result T E) (shown : ℕ) (s : State) (p a : ℕ) (is_first : Bool) (most text next : ℕ) (old mid new : List ℕ)
    → 0 < most → address_at s p a ≡ Some text → ¬ (text ≡ 0) → next ≡ a + 8 → next < 2 ^ 64 → mid ≡ old ++ (comma_unless is_first ++ text_shown shown s p text)
    → OnOk r (new ≡ mid ++ texts_shown shown s p next false (most - 1)) → OnOk r (new ≡ old ++ texts_shown shown s p a is_first most)
more_texts r shown s p a is_first most text next old mid new some there letter at below first wrote =
    let front = comma_unless is_first ++ text_shown shown s p text in
    let rest = texts_shown shown s p next false (most - 1) in
    let whole : front ++ rest ≡ texts_shown shown s p a is_first most = next_texts shown s p a is_first most text next some there letter at below in
    on_ok_weaker r (λ e. e ∙ ap (λ t. old ++ t) whole) (shown_behind r old mid new front rest first wrote)

pub last_text : (shown : ℕ) (s : State) (p a : ℕ) (is_first : Bool) (most text : ℕ) (old new : List ℕ) → 0 < most → address_at s p a ≡ Some text → ¬ (text ≡ 0) → 2 ^ 64 ≤ a + 8
    → new ≡ old ++ (comma_unless is_first ++ text_shown shown s p text) → new ≡ old ++ texts_shown shown s p a is_first most
unfolding texts_shown
last_text shown s p a is_first zero text old new some there letter past first = absurd (omega (arith, some))
last_text shown s p a is_first (suc most) text old new some there letter past first =
    rw (there, ne_eqb text 0 letter, le-ltb (a + 8) (2 ^ 64) past) (first ∙ ap (λ t. old ++ t) (sym (append-nil (comma_unless is_first ++ text_shown shown s p text))))

-- ---- arguments

-- a comma was written, unless it is the first, and the argument behind it
pub here_written : {T E : Type 0} (r : Result T E) (shown : ℕ) (s : State) (p : ℕ) (call : KernelCall) (asked : Asked) (answered : Option ℤ) (place : ℕ) (argument : Argument) (kind : ArgumentKind)
    (value : ℕ) (bytes : Option ℕ) (old mid new : List ℕ) → kind ≡ kind_of argument → value ≡ value_at asked place → bytes ≡ buffer_length call asked answered
    → mid ≡ old ++ comma_unless (place == 0) → OnOk r (new ≡ mid ++ argument_shown shown s p kind value bytes answered)
    → OnOk r (new ≡ old ++ argument_here shown s p call asked answered place (Some argument))
here_written r shown s p call asked answered place argument kind value bytes old mid new is_kind is_value is_bytes first wrote =
    shown_behind r old mid new (comma_unless (place == 0)) (argument_shown shown s p (kind_of argument) (value_at asked place) (buffer_length call asked answered) answered) first
    (subst (λ (k : ArgumentKind). OnOk r (new ≡ mid ++ argument_shown shown s p k (value_at asked place) (buffer_length call asked answered) answered)) is_kind
    (subst (λ (v : ℕ). OnOk r (new ≡ mid ++ argument_shown shown s p kind v (buffer_length call asked answered) answered)) is_value
    (subst (λ (b : Option ℕ). OnOk r (new ≡ mid ++ argument_shown shown s p kind value b answered)) is_bytes wrote)))

-- ---- an answer

-- the value was written, and what was stored, and the reason behind it
pub answer_written : {T E : Type 0} (r : Result T E) (s : State) (p : ℕ) (asked : Asked) (value seen : ℤ) (call : Option KernelCall) (old mid next last new : List ℕ)
    → seen ≡ value → call ≡ call_at asked.number → mid ≡ old ++ codes " = " → next ≡ mid ++ value_shown call seen → last ≡ next ++ stored_shown s p asked call seen
    → OnOk r (new ≡ last ++ reason_shown s p asked seen) → OnOk r (new ≡ old ++ answer_shown s p asked value)
answer_written r s p asked value seen call old mid next last new same is first second third fourth =
    subst (λ (v : ℤ). OnOk r (new ≡ old ++ answer_shown s p asked v)) same
    (subst (λ (k : Option KernelCall). OnOk r (new ≡ old ++ (codes " = " ++ value_shown k seen ++ stored_shown s p asked k seen ++ reason_shown s p asked seen))) is
    (four_shown r old mid next last new (codes " = ") (value_shown call seen) (stored_shown s p asked call seen) (reason_shown s p asked seen) first second third fourth))
