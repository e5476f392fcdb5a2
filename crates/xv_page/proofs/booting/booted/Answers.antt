use Rattle.std.specs.Prelude.{map}
use Rattle.kernel_spec.specs.runs.First.{first}
use Rattle.kernel_spec.specs.views.State.{named_file}
use Rattle.xv_page.proofs.Starved.{boots-boxed, new-boxed}
use Rattle.xv_page.proofs.booting.booted.Goals as goal

pub returns-in-Ok-clause-boots : goal.returns-in-Ok-clause-boots
returns-in-Ok-clause-boots c =
    let config = c.args.config in
    boots-boxed config.frames c.in-Ok.session c.in_box.result (first config.frames config.trace (map named_file c.args.programs.items)) c.in_box.ensures c.in-Ok.ensures.boots

pub returns-in-Ok-clause-fresh : goal.returns-in-Ok-clause-fresh
returns-in-Ok-clause-fresh c =
    let config = c.args.config in
    new-boxed config.frames config.trace (map named_file c.args.programs.items) c.in-Ok.session c.in_box.result c.in_box.ensures c.in-Ok.ensures.fresh
