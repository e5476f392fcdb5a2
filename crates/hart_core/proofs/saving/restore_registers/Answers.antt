use Rattle.std.proofs.Common.{◌%◌, ap, sym, ◌∙◌}
use Rattle.hart_core.proofs.Saved.{saved_same, word_same}
use Rattle.hart_core.proofs.saving.restore_registers.Goals as goal

pub read_registers-requires : goal.read_registers-requires
read_registers-requires c = ap (λ n. n % 4) (sym (word_same c.args.ram.now c.args.f c.frame.result.now (sym c.frame.ensures) 0)) ∙ c.requires.aligned

pub returns : goal.returns
returns c = c.read_registers.ensures ∙ sym (saved_same c.args.ram.now c.args.f c.frame.result.now (sym c.frame.ensures))
