use Rattle.std.proofs.Common.{rules}
use Rattle.xk_base.specs.ProgramFile.{file_header}
use Rattle.elf_image.proofs.read_header.Goals as goal

pub returns : goal.returns
unfolding file_header
returns c = search rules
