-- What the answer of a step tells of what the step leaves.
use Rattle.kernel_spec.proofs.Prelude.{ℕ, ℤ, ◌<◌, ◌∙◌, ◌≡◌, Answer, ap, arith, Blocked, Bool, Call, call_or_begun, Called, Contains, false, get_or, goes_on, gone_with, inl, inr, IsBlocked, IsSome}
use Rattle.kernel_spec.proofs.Prelude.{minus_one, None, Option, Own, own, pos, Read, refl, refused, regs_in_call, Row, row_of, same_Some, Sleep, Some, Stepped, subst, sym, true, View, Wait}
use Rattle.kernel_spec.proofs.Prelude.{waiting_calls, waits, with_a0, word, Write}
use Rattle.kernel_spec.specs.laws.StepLaws.{RefusalsChangeNothing, InCallWhereBlocked, BlockedIsInCall}
use Rattle.kernel_spec.proofs.rows.Outcomes.{StepComes, in_call, may_wait, own_comes}
use Rattle.kernel_spec.proofs.rows.RowNumbers.{row-number}
use Rattle.kernel_spec.proofs.Common.{none_has_no_value}

not_gone : (a : Answer) (number value : ℤ) → IsSome (gone_with a) → a ≡ Called number value → ⊥
not_gone a number value goes is = let no : IsSome (gone_with (Called number value)) = subst (λ (x : Answer). IsSome (gone_with x)) is goes in let bad : ⊥ = cc in bad

-- ---- a call that is refused

module _ (v : View) (number : ℤ) where
  abbrev NothingElse : Option Call → Own → Type 0
  NothingElse call o = o ≡ goes_on (Called number minus_one) (record v { regs = with_a0 (regs_in_call v call) (word minus_one); call = None })

  refused_call : (call : Option Call) (o : Own) → o.answer ≡ Called number minus_one → o ≡ refused (call_or_begun v call) (in_call v call) → NothingElse call o
  refused_call call o answer is =
      let same : (call_or_begun v call).number ≡ number = number_is (sym (ap (λ (x : Own). x.answer) is) ∙ answer) in
      is ∙ by call ∙ ap (λ (z : ℤ). goes_on (Called z minus_one) (record v { regs = with_a0 (regs_in_call v call) (word minus_one); call = None })) same
    where
      number_is : Called (call_or_begun v call).number minus_one ≡ Called number minus_one → (call_or_begun v call).number ≡ number
      number_is e = cc

      by : (call : Option Call) → refused (call_or_begun v call) (in_call v call) ≡ goes_on (Called (call_or_begun v call).number minus_one)
          (record v { regs = with_a0 (regs_in_call v call) (word minus_one); call = None })
      by None = refl
      by (Some c) = refl

  by_outcome : (call : Option Call) (o : Own) → StepComes v call o → o.answer ≡ Called number minus_one → NothingElse call o
  by_outcome call o (inl step) answer = let no : Stepped ≡ Called number minus_one = sym step.answer ∙ answer in let bad : ⊥ = cc in absurd bad
  by_outcome call o (inr (inl is)) answer = refused_call call o answer is
  by_outcome call o (inr (inr (inl done))) answer = let no : Called (call_or_begun v call).number (pos done.value) ≡ Called number minus_one =
      sym done.answer ∙ answer in let bad : ⊥ = cc in absurd bad
  by_outcome call o (inr (inr (inr (inl waits)))) answer = let no : Blocked (call_or_begun v call).number ≡ Called number minus_one =
      sym (ap (λ (x : Own). x.answer) waits.is) ∙ answer in let bad : ⊥ = cc in absurd bad
  by_outcome call o (inr (inr (inr (inr gone)))) answer = absurd (not_gone o.answer number minus_one gone.ends answer)

pub refusals_change_nothing : RefusalsChangeNothing
refusals_change_nothing v number answer = by_outcome v number v.call (own v) (own_comes v) answer

-- ---- a call in progress

-- in progress after a step that comes to o, in the view n
abbrev Tells : Answer → Option Call → Type 0
Tells answer call = (IsBlocked answer → IsSome call) × (IsSome call → IsBlocked answer)

-- no call, and an answer that is another
neither : (a b : Answer) (call : Option Call) → a ≡ b → ((number : ℤ) → b ≡ Blocked number → ⊥) → call ≡ None → Tells a call
neither a b call is apart none = (λ blocked. absurd (apart blocked.0 (sym is ∙ blocked.1)), λ some. absurd (none_has_no_value call none some))

module _ (v n : View) where
  tells : (call : Option Call) (o : Own) → StepComes v call o → o.next ≡ Some n → Tells o.answer n.call
  tells call o (inl step) next = neither o.answer Stepped n.call step.answer (λ k e. let no : ⊥ = cc in no) (ap (λ (w : View). w.call) (same_Some n step.after (sym next ∙ step.next)) ∙ step.idle)
  tells call o (inr (inl is)) next =
      let c : Call = call_or_begun v call in
      neither o.answer (Called c.number minus_one) n.call (ap (λ (x : Own). x.answer) is) (λ k e. let no : ⊥ = cc in no) (ap call_of (sym next ∙ ap (λ (x : Own). x.next) is))
    where
      call_of : Option View → Option Call
      call_of None = None
      call_of (Some w) = w.call
  tells call o (inr (inr (inl done))) next =
      neither o.answer (Called (call_or_begun v call).number (pos done.value)) n.call done.answer (λ k e. let no : ⊥ = cc in no)
      (ap (λ (w : View). w.call) (same_Some n done.after (sym next ∙ done.next)) ∙ done.idle)
  tells call o (inr (inr (inr (inl wait)))) next = (
    λ blocked. subst (λ (w : View). IsSome w.call) (same_Some _ n (sym (ap (λ (x : Own). x.next) wait.is) ∙ next)) refl,
    λ some. ((call_or_begun v call).number, ap (λ (x : Own). x.answer) wait.is),
  )
  tells call o (inr (inr (inr (inr gone)))) next = let no : None ≡ Some n = sym gone.next ∙ next in let bad : ⊥ = cc in absurd bad

pub in_call_where_blocked : InCallWhereBlocked
in_call_where_blocked v n next = tells v n v.call (own v) (own_comes v) next

-- ---- which calls may wait

abbrev is_wait : Row → Bool
is_wait Wait = true
is_wait _ = false

abbrev is_read : Row → Bool
is_read Read = true
is_read _ = false

abbrev is_sleep : Row → Bool
is_sleep Sleep = true
is_sleep _ = false

abbrev is_write : Row → Bool
is_write Write = true
is_write _ = false

at_place : (z : ℤ) (i number : ℕ) → i < 4 → ((y : ℤ) → get_or waiting_calls i y ≡ pos number) → z ≡ pos number → Contains waiting_calls z
at_place z i number below there is = (i, below, there z ∙ sym is)

waiting : (z : ℤ) (r : Option Row) → row_of z ≡ r → may_wait r ≡ true → Contains waiting_calls z
waiting z (Some Wait) row may = at_place z 0 3 (omega arith) (λ y. refl) (row-number is_wait Wait 3 refl refl z row)
waiting z (Some Read) row may = at_place z 1 5 (omega arith) (λ y. refl) (row-number is_read Read 5 refl refl z row)
waiting z (Some Sleep) row may = at_place z 2 13 (omega arith) (λ y. refl) (row-number is_sleep Sleep 13 refl refl z row)
waiting z (Some Write) row may = at_place z 3 16 (omega arith) (λ y. refl) (row-number is_write Write 16 refl refl z row)
waiting z _ row may = let no : ⊥ = cc in absurd no

blocked_is : (v n : View) (number : ℤ) (call : Option Call) (o : Own) → StepComes v call o → o.answer ≡ Blocked number → o.next ≡ Some n
    → (moved : ℕ) × (n.call ≡ Some (record (call_or_begun v call) { moved = moved })) × ((call_or_begun v call).number ≡ number) × Contains waiting_calls number
blocked_is v n number call o (inl step) answer next = let no : Stepped ≡ Blocked number = sym step.answer ∙ answer in let bad : ⊥ = cc in absurd bad
blocked_is v n number call o (inr (inl is)) answer next = let no : Called (call_or_begun v call).number minus_one ≡ Blocked number =
    sym (ap (λ (x : Own). x.answer) is) ∙ answer in let bad : ⊥ = cc in absurd bad
blocked_is v n number call o (inr (inr (inl done))) answer next = let no : Called (call_or_begun v call).number (pos done.value) ≡ Blocked number =
    sym done.answer ∙ answer in let bad : ⊥ = cc in absurd bad
blocked_is v n number call o (inr (inr (inr (inl wait)))) answer next =
    let c : Call = call_or_begun v call in
    let same : c.number ≡ number = number_is (sym (ap (λ (x : Own). x.answer) wait.is) ∙ answer) in (
      wait.moved,
      sym (ap (λ (w : View). w.call) (same_Some _ n (sym (ap (λ (x : Own). x.next) wait.is) ∙ next))),
      same,
      subst (λ (z : ℤ). Contains waiting_calls z) same (waiting c.number (row_of c.number) refl wait.row),
    )
  where
    number_is : Blocked (call_or_begun v call).number ≡ Blocked number → (call_or_begun v call).number ≡ number
    number_is e = cc
blocked_is v n number call o (inr (inr (inr (inr gone)))) answer next = let no : None ≡ Some n = sym gone.next ∙ next in let bad : ⊥ = cc in absurd bad

pub blocked_is_in_call : BlockedIsInCall
blocked_is_in_call v n number answer next = blocked_is v n number v.call (own v) (own_comes v) answer next
