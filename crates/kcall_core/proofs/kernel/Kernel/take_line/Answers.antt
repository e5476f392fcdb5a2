use Rattle.kcall_core.proofs.Prelude.{ℕ, ◌∙◌, ◌≡◌, ◌≤◌, ap, arith, Console, each_of, held_at, Kernel, length, length-take-le, List, nat_eq, Pulled, reaches-fewer, replicate, SlotChanges, Some, Store}
use Rattle.kcall_core.proofs.Prelude.{subst, take, with_image, without_line, writable_now, write_image}
use Rattle.kcall_core.proofs.files.LineRoom.{line-pulled, front-is, front-long}
use Rattle.kcall_core.proofs.kernel.Kernel.take_line.Goals as goal

pub write_tested-requires-clause-writable : goal.write_tested-requires-clause-writable
write_tested-requires-clause-writable c =
    let image = (held_at (each_of c.args.self.now.memories) c.args.slot).image in
    let taken = c.pull_line-pull.result.taken in
    let fits : c.min.result ≤ 129 = omega (arith, c.min.ensures) in
    let room : length (take c.min.result (replicate {A = ℕ} 129 0)) ≡ c.min.result = length-take-le {A = ℕ} c.min.result (replicate 129 0) fits in
    let few : taken ≤ length (take c.min.result (replicate {A = ℕ} 129 0)) = c.pull_line-pull.ensures.within in
    ap (λ n. writable_now image c.args.address n) (front-long taken _ _ c.pull_line-pull.new.buf c.pull_line-pull.ensures.count c.pull_line-pull.ensures.bytes)
    ∙ reaches-fewer Store image c.args.address c.args.n taken (omega (arith, few, room, c.min.ensures)) c.requires.writable

pub returns-clause-count : goal.returns-clause-count
returns-clause-count c =
    c.pull_line-pull.ensures.count ∙ ap (λ (p : Pulled). length p.taken) (line-pulled (nat_eq c.args.done 0) c.args.n c.min.result c.args.self.now.console.committed c.requires.keys c.min.ensures)

pub returns-clause-ended : goal.returns-clause-ended
returns-clause-ended c =
    c.pull_line-pull.ensures.ended ∙ ap (λ (p : Pulled). p.ended) (line-pulled (nat_eq c.args.done 0) c.args.n c.min.result c.args.self.now.console.committed c.requires.keys c.min.ensures)

pub returns-clause-written : goal.returns-clause-written
returns-clause-written c =
    let held = held_at (each_of c.args.self.now.memories) c.args.slot in
    subst (λ (bytes : List ℕ). SlotChanges c.args.self.now.memories c.write_tested.new.self c.args.slot (Some (with_image (write_image held.image c.args.address bytes) held)))
    (front-is c.pull_line-pull.result.taken _ _ c.pull_line-pull.new.buf c.pull_line-pull.ensures.count c.pull_line-pull.ensures.bytes
    ∙ ap (λ (p : Pulled). p.taken) (line-pulled (nat_eq c.args.done 0) c.args.n c.min.result c.args.self.now.console.committed c.requires.keys c.min.ensures))
    c.write_tested.ensures.written

pub returns-clause-rest : goal.returns-clause-rest
returns-clause-rest c =
    ap (λ (x : Console). let k : Kernel = record c.args.self.now { memories = c.write_tested.new.self; console = x } in k)
    (c.pull_line-pull.ensures.after ∙ ap (λ (p : Pulled). without_line p c.args.self.now.console)
    (line-pulled (nat_eq c.args.done 0) c.args.n c.min.result c.args.self.now.console.committed c.requires.keys c.min.ensures))
