use Rattle.std.proofs.Common.{◌≡◌, ◌+◌, ◌≤◌, ℕ, length}
use Rattle.gdb_target.specs.Served.{GoesOften, ShowsAlone}
use Rattle.gdb_target.proofs.service.serving.Service.go_on.Given as goal

abbrev pub invariant-pauses : goal.invariant-pauses
invariant-pauses g l =
    (n : ℕ) × GoesOften l.going.way n l.fn.self.target l.self.target × ShowsAlone (g.W.Write.contents l.fn.output) (g.W.Write.contents l.output)
    × (l.self.link.acks ≡ l.fn.self.link.acks)
    × (length l.fn.self.target.run.session.events + l.often ≤ length l.self.target.run.session.events)
