use Rattle.std.proofs.Common.{◌<◌, rules}
use Rattle.proc_table.specs.Turns.{IsNearest}
use Rattle.proc_table.proofs.Turns.{nearest_alone}
use Rattle.proc_table.proofs.table.Table.next.Goals as goal

pub returns-clause-alone : goal.returns-clause-alone
returns-clause-alone c = λ slot is.
    let t = c.args.self.now in
    let low : t.last < 64 = search rules in
    let near : IsNearest t.places t.last c.nearest.result = search rules in
    nearest_alone t.places t.last slot c.nearest.result low near is
