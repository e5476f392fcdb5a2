use Rattle.std.proofs.Common.{◌≡◌, false}
use Rattle.xv_debug.specs.Conversations.{Converses}
use Rattle.terminal_session.proofs.debugging.conversation.Conversation.converse.Given as goal

abbrev pub invariant-loop : goal.invariant-loop
invariant-loop g l = Converses false l.initial.self.debugger.plan l.initial.self.session l.self.session × (l.self.debugger.plan ≡ l.initial.self.debugger.plan)
