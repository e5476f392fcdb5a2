use Rattle.kcall_core.proofs.Prelude.{◌+◌, ◌-◌, ◌<◌, ◌∙◌, ◌≡◌, arith, eq-eqb, eqb-true, false, false≢true, refl, rules, sym, true}
use Rattle.kcall_core.proofs.memory.Arguments.{no-pointer, all-read, too-many, no-more, reading-next}
use Rattle.kcall_core.proofs.memories.Memories.fetch_args.Goals as goal

pub returns-in_default-clause-refused : goal.returns-in_default-clause-refused
returns-in_default-clause-refused c is = no-pointer c.texts.invariant c.in_default.ensures.refused

pub returns-then-pointer-eq0-clause-found : goal.returns-then-pointer-eq0-clause-found
returns-then-pointer-eq0-clause-found c is = all-read c.texts.invariant c.in-Ok.pointer c.in-Ok.ensures.number (search rules)

pub returns-then-not-fetch_arg-clause-refused : goal.returns-then-not-fetch_arg-clause-refused
returns-then-not-fetch_arg-clause-refused c is =
    let missing : c.fetch_arg.result ≡ false = search rules in
    no-more c.texts.invariant c.in-Ok.pointer (search rules) c.in-Ok.ensures.number (search rules) (c.fetch_arg.ensures.refused missing)

pub texts-preserved : goal.texts-preserved
texts-preserved c =
    let there : c.fetch_arg.result ≡ true = search rules in
    let more : 0 < c.texts.more = search rules in
    let one = c.fetch_arg.ensures.added there in
    reading-next c.texts.invariant c.in-Ok.pointer one.0 c.fetch_arg.new.args (c.texts.more - 1) (c.texts.at + 8) more c.in-Ok.ensures.number (search rules) one.1 one.2 (omega (arith, more)) refl

pub returns-in_default-fetch_u64-clause-refused : goal.returns-in_default-fetch_u64-clause-refused
returns-in_default-fetch_u64-clause-refused c is = no-pointer c.texts.invariant c.in_default-fetch_u64.ensures.refused

pub returns-clause-found : goal.returns-clause-found
returns-clause-found c is = all-read c.texts.invariant c.in-Ok-fetch_u64.pointer c.in-Ok-fetch_u64.ensures.number (eqb-true c.in-Ok-fetch_u64.pointer 0 is)

pub returns-clause-refused : goal.returns-clause-refused
returns-clause-refused c is = too-many c.texts.invariant c.in-Ok-fetch_u64.pointer (search rules) c.in-Ok-fetch_u64.ensures.number (λ e. false≢true (sym is ∙ eq-eqb c.in-Ok-fetch_u64.pointer 0 e))
