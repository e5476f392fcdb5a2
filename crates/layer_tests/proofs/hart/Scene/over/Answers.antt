use Rattle.std.proofs.Common.{◌≡◌, ap, Some}
use Rattle.hart_core.specs.declared.hart.Hart.{Hart}
use Rattle.hart_core.proofs.Caches.{fits_root}
use Rattle.layer_tests.proofs.hart.Scene.over.Goals as goal

pub invariant_of-result : goal.invariant_of-result
invariant_of-result c =
    let used : c.switch.new.self.root ≡ Some c.args.root = ap (λ (h : Hart). h.root) c.switch.ensures.value in
    record {
      used = used;
      tree = c.requires;
      fits = fits_root c.args.ram c.switch.new.self.root c.args.root c.switch.new.self.cache used (c.switch.ensures.fits c.args.ram);
    }
