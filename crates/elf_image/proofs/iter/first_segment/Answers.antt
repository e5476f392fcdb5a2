use Rattle.std.proofs.Common.{◌+◌, ◌-◌, sym, ap, ◌∙◌, ◌∷◌}
use Rattle.xk_base.specs.ProgramFile.{segments_from}
use Rattle.elf_image.proofs.Walks.{segments_from-loaded, segments_from-skipped}
use Rattle.elf_image.proofs.iter.first_segment.Goals as goal

pub returns-then-is_loaded-clause-found : goal.returns-then-is_loaded-clause-found
returns-then-is_loaded-clause-found c =
    sym c.loop-i.invariant
    ∙ segments_from-loaded c.args.file.now c.args.header.now c.loop-i.i c.args.header.now.phnum c.read_program_header-program_header.result
    c.loop-i-test.true (cc) (sym c.is_loaded.ensures ∙ c.if-is_loaded.true)
    ∙ ap (λ s. s ∷ segments_from c.args.file.now c.args.header.now (c.loop-i.i + 1) (c.args.header.now.phnum - (c.loop-i.i + 1))) (sym c.segment.ensures)

pub loop-i-preserved : goal.loop-i-preserved
loop-i-preserved c =
    sym (segments_from-skipped c.args.file.now c.args.header.now c.loop-i.i c.args.header.now.phnum c.read_program_header-program_header.result
    c.loop-i-test.true (cc) (sym c.is_loaded.ensures ∙ c.if-is_loaded.false))
    ∙ c.loop-i.invariant
