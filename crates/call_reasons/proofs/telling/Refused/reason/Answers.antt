use Rattle.std.proofs.Common.{◌∙◌, Some, None, refl, sym, ap}
use Rattle.kernel_calls.specs.declared.call.KernelCall.TheVariants as calls
use Rattle.call_reasons.specs.Shown.{facts_in}
use Rattle.call_reasons.specs.declared.reason.Reason.TheVariants.{NoRoom}
use Rattle.call_reasons.proofs.ByCall.{close_told, dup_told, exec_told, exit_untold, fork_told, getpid_untold, kill_told, open_told, pipe_told, read_told, reason_at, sbrk_told, sbrklazy_told}
use Rattle.call_reasons.proofs.ByCall.{sleep_untold, uptime_untold, wait_told, write_told}
use Rattle.call_reasons.proofs.telling.Refused.reason.Goals as goal

pub returns-in_default : goal.returns-in_default
returns-in_default c =
    let f = facts_in c.args.self.now.machine.now.world.state c.args.self.now.pid in
    reason_at c.args.self.now.call.now f None _ (sym c.in_default.is ∙ c.call_of.ensures) refl

pub returns-in-Fork : goal.returns-in-Fork
returns-in-Fork c =
    let f = facts_in c.args.self.now.machine.now.world.state c.args.self.now.pid in
    reason_at c.args.self.now.call.now f (Some calls.Fork) _
    (ap Some (sym c.in-Fork.is) ∙ sym c.in-Some.is ∙ c.call_of.ensures) (fork_told c.args.self.now.call.now f _ (ap (λ n. Some (NoRoom n)) c.free_frames.ensures))

pub returns-in-Wait : goal.returns-in-Wait
returns-in-Wait c =
    let f = facts_in c.args.self.now.machine.now.world.state c.args.self.now.pid in
    reason_at c.args.self.now.call.now f (Some calls.Wait) _ (ap Some (sym c.in-Wait.is) ∙ sym c.in-Some.is ∙ c.call_of.ensures) (wait_told c.args.self.now.call.now f _ c.of_wait.ensures)

pub returns-in-Pipe : goal.returns-in-Pipe
returns-in-Pipe c =
    let f = facts_in c.args.self.now.machine.now.world.state c.args.self.now.pid in
    reason_at c.args.self.now.call.now f (Some calls.Pipe) _ (ap Some (sym c.in-Pipe.is) ∙ sym c.in-Some.is ∙ c.call_of.ensures) (pipe_told c.args.self.now.call.now f _ c.of_pipe.ensures)

pub returns-in-Read : goal.returns-in-Read
returns-in-Read c =
    let f = facts_in c.args.self.now.machine.now.world.state c.args.self.now.pid in
    reason_at c.args.self.now.call.now f (Some calls.Read) _ (ap Some (sym c.in-Read.is) ∙ sym c.in-Some.is ∙ c.call_of.ensures) (read_told c.args.self.now.call.now f _ c.of_read.ensures)

pub returns-in-Kill : goal.returns-in-Kill
returns-in-Kill c =
    let f = facts_in c.args.self.now.machine.now.world.state c.args.self.now.pid in
    reason_at c.args.self.now.call.now f (Some calls.Kill) _ (ap Some (sym c.in-Kill.is) ∙ sym c.in-Some.is ∙ c.call_of.ensures) (kill_told c.args.self.now.call.now f _ c.of_kill.ensures)

pub returns-in-Dup : goal.returns-in-Dup
returns-in-Dup c =
    let f = facts_in c.args.self.now.machine.now.world.state c.args.self.now.pid in
    reason_at c.args.self.now.call.now f (Some calls.Dup) _ (ap Some (sym c.in-Dup.is) ∙ sym c.in-Some.is ∙ c.call_of.ensures) (dup_told c.args.self.now.call.now f _ c.of_dup.ensures)

pub returns-in-Sbrk : goal.returns-in-Sbrk
returns-in-Sbrk c =
    let f = facts_in c.args.self.now.machine.now.world.state c.args.self.now.pid in
    reason_at c.args.self.now.call.now f (Some calls.Sbrk) _ (ap Some (sym c.in-Sbrk.is) ∙ sym c.in-Some.is ∙ c.call_of.ensures) (sbrk_told c.args.self.now.call.now f _ c.of_sbrk.ensures)

pub returns-in-Write : goal.returns-in-Write
returns-in-Write c =
    let f = facts_in c.args.self.now.machine.now.world.state c.args.self.now.pid in
    reason_at c.args.self.now.call.now f (Some calls.Write) _ (ap Some (sym c.in-Write.is) ∙ sym c.in-Some.is ∙ c.call_of.ensures) (write_told c.args.self.now.call.now f _ c.of_write.ensures)

pub returns-in-Close : goal.returns-in-Close
returns-in-Close c =
    let f = facts_in c.args.self.now.machine.now.world.state c.args.self.now.pid in
    reason_at c.args.self.now.call.now f (Some calls.Close) _ (ap Some (sym c.in-Close.is) ∙ sym c.in-Some.is ∙ c.call_of.ensures) (close_told c.args.self.now.call.now f _ c.of_close.ensures)

pub returns-in-Sbrklazy : goal.returns-in-Sbrklazy
returns-in-Sbrklazy c =
    let f = facts_in c.args.self.now.machine.now.world.state c.args.self.now.pid in
    reason_at c.args.self.now.call.now f (Some calls.Sbrklazy) _
    (ap Some (sym c.in-Sbrklazy.is) ∙ sym c.in-Some.is ∙ c.call_of.ensures) (sbrklazy_told c.args.self.now.call.now f _ c.of_sbrklazy.ensures)

pub returns-in-Exit : goal.returns-in-Exit
returns-in-Exit c =
    let f = facts_in c.args.self.now.machine.now.world.state c.args.self.now.pid in
    reason_at c.args.self.now.call.now f (Some calls.Exit) _ (ap Some (sym c.in-Exit.is) ∙ sym c.in-Some.is ∙ c.call_of.ensures) (exit_untold c.args.self.now.call.now f _ refl)

pub returns-in-Exec : goal.returns-in-Exec
returns-in-Exec c =
    let f = facts_in c.args.self.now.machine.now.world.state c.args.self.now.pid in
    reason_at c.args.self.now.call.now f (Some calls.Exec) _ (ap Some (sym c.in-Exec.is) ∙ sym c.in-Some.is ∙ c.call_of.ensures) (exec_told c.args.self.now.call.now f _ c.of_exec.ensures)

pub returns-in-Getpid : goal.returns-in-Getpid
returns-in-Getpid c =
    let f = facts_in c.args.self.now.machine.now.world.state c.args.self.now.pid in
    reason_at c.args.self.now.call.now f (Some calls.Getpid) _ (ap Some (sym c.in-Getpid.is) ∙ sym c.in-Some.is ∙ c.call_of.ensures) (getpid_untold c.args.self.now.call.now f _ refl)

pub returns-in-Sleep : goal.returns-in-Sleep
returns-in-Sleep c =
    let f = facts_in c.args.self.now.machine.now.world.state c.args.self.now.pid in
    reason_at c.args.self.now.call.now f (Some calls.Sleep) _ (ap Some (sym c.in-Sleep.is) ∙ sym c.in-Some.is ∙ c.call_of.ensures) (sleep_untold c.args.self.now.call.now f _ refl)

pub returns-in-Uptime : goal.returns-in-Uptime
returns-in-Uptime c =
    let f = facts_in c.args.self.now.machine.now.world.state c.args.self.now.pid in
    reason_at c.args.self.now.call.now f (Some calls.Uptime) _ (ap Some (sym c.in-Uptime.is) ∙ sym c.in-Some.is ∙ c.call_of.ensures) (uptime_untold c.args.self.now.call.now f _ refl)

pub returns-in-Open : goal.returns-in-Open
returns-in-Open c =
    let f = facts_in c.args.self.now.machine.now.world.state c.args.self.now.pid in
    reason_at c.args.self.now.call.now f (Some calls.Open) _ (ap Some (sym c.in-Open.is) ∙ sym c.in-Some.is ∙ c.call_of.ensures) (open_told c.args.self.now.call.now f _ c.of_open.ensures)
