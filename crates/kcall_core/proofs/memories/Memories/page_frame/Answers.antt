use Rattle.kcall_core.proofs.Prelude.{◌∙◌, ap, page_frame_of, sym}
use Rattle.kcall_core.proofs.memories.Memories.page_frame.Goals as goal

pub page_frame-requires : goal.page_frame-requires
page_frame-requires c =
    let s = c.memory.ensures in
    (c.requires.sound.memories c.args.slot c.memory.result.now s.is).space

pub returns : goal.returns
returns c =
    let s = c.memory.ensures in
    c.page_frame.ensures.frame ∙ sym (ap (page_frame_of c.args.self.now.ram c.args.vpn) s.is)
