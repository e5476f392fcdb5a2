use Rattle.kcall_core.proofs.Prelude.{◌∙◌, ap, no_process, refl, sym}
use Rattle.kcall_core.proofs.table.NoProcess.{new-state, new-sound}
use Rattle.kcall_core.proofs.table.Deserted.{no-process-whole, empty-within}
use Rattle.kcall_core.proofs.kernel.Kernel.new.Goals as goal

pub returns-clause-blank : goal.returns-clause-blank
returns-clause-blank c = record {
  nobody = record {
    table = c.in-Ok-new.ensures.made ∙ ap no_process c.new-2.ensures;
    current = refl;
    files = c.in-Ok-new-2.ensures.made;
    pipes = c.in-Ok.ensures.pipes;
    free = c.in-Ok.ensures.free ∙ sym c.in-Ok.ensures.frames;
  };
  console = c.in-Ok-new-3.ensures.ok;
  clock = refl;
}

pub returns-clause-whole : goal.returns-clause-whole
returns-clause-whole c = λ hart idle.
    no-process-whole _
    (record {
      table = c.in-Ok-new.ensures.made ∙ ap no_process c.new-2.ensures;
      current = refl;
      files = c.in-Ok-new-2.ensures.made;
      pipes = c.in-Ok.ensures.pipes;
      free = c.in-Ok.ensures.free ∙ sym c.in-Ok.ensures.frames;
    })
    hart (new-sound _ hart (c.in-Ok-new.ensures.made ∙ ap no_process c.new-2.ensures) refl c.in-Ok.ensures.sound c.in-Ok.ensures.each idle.0 idle.1)
    (empty-within _ c.in-Ok-new-3.ensures.ok)

pub returns-clause-sound : goal.returns-clause-sound
returns-clause-sound c = λ hart idle. new-sound _ hart (c.in-Ok-new.ensures.made ∙ ap no_process c.new-2.ensures) refl c.in-Ok.ensures.sound c.in-Ok.ensures.each idle.0 idle.1

pub returns-clause-state : goal.returns-clause-state
returns-clause-state c = λ hart. new-state _ hart (c.in-Ok-new.ensures.made ∙ ap no_process c.new-2.ensures) c.args.frames c.in-Ok-new-2.ensures.made
    c.in-Ok-new-3.ensures.ok refl c.in-Ok.ensures.pipes c.in-Ok.ensures.free
