use Rattle.std.proofs.Common.{string_bytes, sym, arith, append-nil, lt-ltb, le-ltb}
use Rattle.debug_views.proofs.history.show_more.Goals as goal

pub returns-then-place-all : goal.returns-then-place-all
returns-then-place-all c = rw (le-ltb c.args.place c.args.all (omega (arith, c.if-place-all.true))) (sym (append-nil (string_bytes c.args.answer.now)))

pub returns : goal.returns
returns c = rw (lt-ltb c.args.place c.args.all (omega (arith, c.if-place-all.false))) c.writeln.ensures.bytes
