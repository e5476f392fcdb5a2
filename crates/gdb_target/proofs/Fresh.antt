-- A target of which nothing is chosen yet, and the keys of a line.
use Rattle.std.proofs.Common.{◌≡◌, ◌∙◌, ap, length, sym}
use Rattle.gdb_target.specs.Beginning.{IsFresh}
use Rattle.gdb_target.specs.declared.target.Target.{Target}

-- it is told of a stop, and still nothing is chosen
pub fresh-still : (old new : Target) → new ≡ record old { stopped = new.stopped; looked_at = new.looked_at } → IsFresh old → IsFresh new
fresh-still old new rest fresh = record {
  breakpoints = ap (λ (t : Target). t.points.breakpoints.items) rest ∙ fresh.breakpoints;
  watched = ap (λ (t : Target). t.points.watched.items) rest ∙ fresh.watched;
  resumed = ap (λ (t : Target). t.resumed) rest ∙ fresh.resumed;
  interrupted = ap (λ (t : Target). t.interrupted) rest ∙ fresh.interrupted;
  shown = ap (λ (t : Target). t.shown.items) rest ∙ fresh.shown;
  noted = ap (λ (t : Target). t.noted) rest ∙ fresh.noted ∙ ap (λ (t : Target). length t.run.session.events) (sym rest);
  told = ap (λ (t : Target). t.told) rest ∙ fresh.told;
}
