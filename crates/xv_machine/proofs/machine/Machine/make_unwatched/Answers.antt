use Rattle.xv_machine.proofs.Advances.{now-running}
use Rattle.xv_machine.proofs.Runs.{current-pid}
use Rattle.xv_machine.proofs.Unwatched.{now-made, now-stops, now-lives, now-whole}
use Rattle.xv_machine.proofs.machine.Machine.make_unwatched.Goals as goal

pub instructions_unwatched-requires-clause-running : goal.instructions_unwatched-requires-clause-running
instructions_unwatched-requires-clause-running c =
    let i = c.self.inside in
    (current-pid i.kernel c.args.pid (now-running i.kernel i.hart i.halted i.trace c.args.self.now c.args.pid c.self.view_is c.requires.current)).0

pub invariant_of-self : goal.invariant_of-self
invariant_of-self c =
    let i = c.self.inside in
    let e = c.instructions_unwatched in
    record {
      whole = now-whole c.args.watch.now.addresses.now c.args.watch.now.bytes.now i.kernel i.hart i.halted i.trace c.args.self.now c.args.pid c.self.view_is c.requires.current
          c.self.invariant.whole c.self.invariant.halted c.self.invariant.kept c.args.most e.result e.new.kernel e.new.hart e.ensures;
      halted = now-lives c.args.watch.now.addresses.now c.args.watch.now.bytes.now i.kernel i.hart i.halted i.trace c.args.self.now c.args.pid c.self.view_is c.requires.current
          c.self.invariant.whole c.self.invariant.halted c.self.invariant.kept c.args.most e.result e.new.kernel e.new.hart e.ensures;
      kept = c.self.invariant.kept;
    }

pub returns-clause-made : goal.returns-clause-made
returns-clause-made c =
    let i = c.self.inside in
    let e = c.instructions_unwatched in
    now-made c.args.watch.now.addresses.now c.args.watch.now.bytes.now i.kernel i.hart i.halted i.trace c.args.self.now c.args.pid c.self.view_is c.requires.current
    c.self.invariant.whole c.self.invariant.halted c.self.invariant.kept c.args.most e.result e.new.kernel e.new.hart e.ensures

pub returns-clause-stops : goal.returns-clause-stops
returns-clause-stops c =
    let i = c.self.inside in
    let e = c.instructions_unwatched in
    now-stops c.args.watch.now.addresses.now c.args.watch.now.bytes.now i.kernel i.hart i.halted i.trace c.args.self.now c.args.pid c.self.view_is c.requires.current
    c.self.invariant.whole c.self.invariant.halted c.self.invariant.kept c.args.most e.result e.new.kernel e.new.hart e.ensures
