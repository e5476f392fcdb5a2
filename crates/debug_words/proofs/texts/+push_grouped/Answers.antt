use Rattle.std.proofs.Common.{rules, ◌≡◌, inl, inr, decimal, arith, append_assoc}
use Rattle.std.proofs.lemmas.Result.{IfOk-equal}
use Rattle.debug_words.specs.Texts.{grouped_by}
use Rattle.debug_words.proofs.Appends.{grouped-few, grouped-more}
use Rattle.debug_words.proofs.texts.+push_grouped.Goals as goal
use Rattle.debug_words.proofs.texts.+push_grouped.Goals.{then-thousands-eq0-via-then-thousands-eq0, then-thousands-eq0-via-else-thousands-eq0+then-number-lt1000}

pub returns-then-thousands-eq0 : goal.returns-then-thousands-eq0
returns-then-thousands-eq0 t c =
    let few : grouped_by c.args.thousands c.args.number ≡ decimal c.args.number = elim c.then-thousands-eq0.branch [
      | then-thousands-eq0-via-then-thousands-eq0 w ↦ grouped-few c.args.thousands c.args.number (inl w.if-thousands-eq0.true)
      | then-thousands-eq0-via-else-thousands-eq0+then-number-lt1000 w ↦ grouped-few c.args.thousands c.args.number (inr w.if-number-lt1000.true)
    ] in
    rw few (search rules)

pub returns : goal.returns
returns t c =
    rw (grouped-more c.args.thousands c.args.number (omega (arith, c.if-thousands-eq0.false)) (omega (arith, c.if-number-lt1000.false)))
    (search (rules, IfOk-equal, append_assoc))
