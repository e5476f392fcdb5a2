use Rattle.kcall_core.proofs.Prelude.{ℕ, ◌∙◌, ◌≤◌, ap, arith, each_of, held_at, length-take-le, Load, readable, replicate, touching-fewer}
use Rattle.kcall_core.proofs.kernel.Kernel.send_from.Goals as goal

pub read_tested-requires-clause-readable : goal.read_tested-requires-clause-readable
read_tested-requires-clause-readable c =
    let image = (held_at (each_of c.args.self.now.memories) c.args.slot).image in
    let fits : c.min.result ≤ 32 = omega (arith, c.min.ensures, c.room.ensures.value) in
    ap (λ n. readable image c.args.address n) (length-take-le {A = ℕ} c.min.result (replicate 32 0) fits)
    ∙ touching-fewer Load image c.args.address c.args.n c.min.result (omega (arith, c.min.ensures)) c.requires.readable
