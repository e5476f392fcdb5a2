use Rattle.std.proofs.Common.{rules}
use Rattle.std.specs.Prelude.{pos}
use Rattle.std.specs.Ordering.{int_eq}
use Rattle.std.proofs.lemmas.Iterator.{YieldsList-from_slice}
use Rattle.std.proofs.lemmas.Iterator.Search.{any_from_yields_List}
use Rattle.kernel_calls.specs.Table.{entry_of}
use Rattle.kernel_calls.specs.declared.call.KernelCall.{KernelCall}
use Rattle.explained_run.proofs.choice.is_of.Goals as goal

pub returns : goal.returns
returns c =
    any_from_yields_List (λ (call : KernelCall). int_eq (pos (entry_of call).number) c.args.number) _ _ _ c.any.ensures.ran (YieldsList-from_slice c.args.calls.now cc) (λ x b q k. search rules)
