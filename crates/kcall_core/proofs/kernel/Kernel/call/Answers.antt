use Rattle.kcall_core.proofs.making.CallAnswers.{begun-made, begun-answer}
use Rattle.kcall_core.proofs.kernel.Kernel.call.Goals as goal

pub returns-clause-made : goal.returns-clause-made
returns-clause-made c =
    begun-made c.requires.whole c.requires.running
    (record {
      sound = c.begin-call.ensures.whole.sound;
      kernel = c.begin-call.ensures.kernel;
      call = c.begin-call.ensures.call;
      live = c.begin-call.ensures.live;
      state = c.begin-call.ensures.state;
    })
    c.requires.between_calls c.requires.ecall c.perform.ensures.made

pub returns-clause-answer : goal.returns-clause-answer
returns-clause-answer c =
    begun-answer c.requires.whole c.requires.running
    (record {
      sound = c.begin-call.ensures.whole.sound;
      kernel = c.begin-call.ensures.kernel;
      call = c.begin-call.ensures.call;
      live = c.begin-call.ensures.live;
      state = c.begin-call.ensures.state;
    })
    c.perform.result c.requires.between_calls c.requires.ecall c.perform.ensures.answer
