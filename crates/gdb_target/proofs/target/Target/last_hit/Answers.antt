use Rattle.std.proofs.Common.{◌∙◌, ℕ, Option, ap, refl, rules, sym, subst}
use Rattle.gdb_target.specs.Choices.{Choices}
use Rattle.gdb_target.specs.LastHit.{Looked}
use Rattle.gdb_target.specs.Touches.{watched_addresses}
use Rattle.gdb_target.specs.declared.reverse.Hit.{Hit}
use Rattle.gdb_target.proofs.Ways.{looked-join}
use Rattle.gdb_target.proofs.target.Target.last_hit.Goals as goal

pub look_on-requires-clause-watched : goal.look_on-requires-clause-watched
look_on-requires-clause-watched c = c.as_slice.ensures.value ∙ c.in-Ok.ensures ∙ ap (λ (x : Choices). watched_addresses x.points) (sym c.places.invariant.choices)

pub places-init : goal.places-init
places-init c = record {
  within = search rules;
  hit = search rules;
  last = (0, (refl, refl));
  same = search rules;
  choices = search rules;
}

pub places-preserved : goal.places-preserved
places-preserved c =
    let back = c.args.back.now in
    let (n, so_far) = c.places.invariant.last in
    let (m, more) = c.in_ok-hit.ensures.looked in
    record {
      within = c.look_on.ensures.within;
      hit = search rules;
      last = subst (λ (h : Option Hit). (j : ℕ) × Looked back j c.args.self.now c.look_on.new.self h) (sym c.later-last.ensures)
          (looked-join back n m c.args.self.now c.places.self c.look_on.new.self c.places.last c.in_ok-hit.hit so_far more);
      same = search rules;
      choices = search rules;
    }
