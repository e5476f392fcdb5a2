use Rattle.kcall_core.proofs.Prelude.{◌∙◌, ◌≢◌, answer_of, ap, c_int, Exited, Makes, Own, pos, rules, Some, state_of, subst, sym, to_z-of_z, view_now, view_of}
use Rattle.std.specs.Int.{w32}
use Rattle.kernel_spec.proofs.calls.fork.{is_fork}
use Rattle.kernel_spec.proofs.calls.exit.{is_exit}
use Rattle.kernel_spec.proofs.calls.wait.{is_wait}
use Rattle.kernel_spec.proofs.calls.pipe.{is_pipe}
use Rattle.kernel_spec.proofs.calls.read.{is_read}
use Rattle.kernel_spec.proofs.calls.kill.{is_kill}
use Rattle.kernel_spec.proofs.calls.exec.{is_exec}
use Rattle.kernel_spec.proofs.calls.dup.{is_dup}
use Rattle.kernel_spec.proofs.calls.getpid.{is_getpid}
use Rattle.kernel_spec.proofs.calls.sbrk.{is_sbrk}
use Rattle.kernel_spec.proofs.calls.sleep.{is_sleep}
use Rattle.kernel_spec.proofs.calls.uptime.{is_uptime}
use Rattle.kernel_spec.proofs.calls.open_file.{is_open}
use Rattle.kernel_spec.proofs.calls.write.{is_write}
use Rattle.kernel_spec.proofs.calls.close.{is_close}
use Rattle.kernel_spec.proofs.calls.sbrklazy.{is_sbrklazy}
use Rattle.kernel_spec.proofs.rows.NoRow.{◌also◌, IsOther, other-row}
use Rattle.kcall_core.proofs.kernel.Kernel.perform.Goals as goal

pub returns-in-1 : goal.returns-in-1
returns-in-1 c =
    let row = is_fork c.args.call.now (view_now c.args.self.now c.args.hart.now) (search rules) in
    record {
      made = subst (λ o. Makes c.args.self.now c.args.hart.now o c.fork.new.self c.fork.new.hart) (sym row) (c.fork.ensures.made c.args.call.now);
      answer = ap (λ (o : Own). o.answer) row ∙ c.fork.ensures.answer c.args.call.now;
    }

pub returns-in-2 : goal.returns-in-2
returns-in-2 c =
    let status = sym (to_z-of_z w32 c.c_int-status.result (record { sfits = c.c_int-status.type_inv }) ∙ c.c_int-status.ensures) in
    let row = is_exit c.args.call.now (view_now c.args.self.now c.args.hart.now) (search rules) in
    record {
      made = subst (λ o. Makes c.args.self.now c.args.hart.now o c.exit.new.self c.exit.new.hart) (sym row) (c.exit.ensures.made (Exited (c_int c.args.call.now.a0)) (ap Some status));
      answer = ap (λ (o : Own). o.answer) row ∙ ap Exited status;
    }

pub returns-in-3 : goal.returns-in-3
returns-in-3 c =
    let row = is_wait c.args.call.now (view_now c.args.self.now c.args.hart.now) (search rules) in
    record {
      made = subst (λ o. Makes c.args.self.now c.args.hart.now o c.wait.new.self c.wait.new.hart) (sym row) c.wait.ensures.made;
      answer = ap (λ (o : Own). o.answer) row ∙ c.wait.ensures.answer;
    }

pub returns-in-6 : goal.returns-in-6
returns-in-6 c =
    let row = is_kill c.args.call.now (view_now c.args.self.now c.args.hart.now) (search rules) in
    record {
      made = subst (λ o. Makes c.args.self.now c.args.hart.now o c.kill.new.self c.kill.new.hart) (sym row) c.kill.ensures.made;
      answer = ap (λ (o : Own). o.answer) row ∙ c.kill.ensures.answer;
    }

pub returns-in-7 : goal.returns-in-7
returns-in-7 c =
    let row = is_exec c.args.call.now (view_now c.args.self.now c.args.hart.now) (search rules) in
    record {
      made = subst (λ o. Makes c.args.self.now c.args.hart.now o c.exec.new.self c.exec.new.hart) (sym row) c.exec.ensures.made;
      answer = ap (λ (o : Own). o.answer) row ∙ c.exec.ensures.answer;
    }

pub returns-in-12 : goal.returns-in-12
returns-in-12 c =
    let row = is_sbrk c.args.call.now (view_now c.args.self.now c.args.hart.now) (search rules) in
    record {
      made = subst (λ o. Makes c.args.self.now c.args.hart.now o c.sbrk.new.self c.sbrk.new.hart) (sym row) c.sbrk.ensures.made;
      answer = ap (λ (o : Own). o.answer) row ∙ c.sbrk.ensures.answer;
    }

pub returns-in-13 : goal.returns-in-13
returns-in-13 c =
    let row = is_sleep c.args.call.now (view_now c.args.self.now c.args.hart.now) (search rules) in
    record {
      made = subst (λ o. Makes c.args.self.now c.args.hart.now o c.sleep.new.self c.sleep.new.hart) (sym row) c.sleep.ensures.made;
      answer = ap (λ (o : Own). o.answer) row ∙ c.sleep.ensures.answer;
    }

pub returns-in-14 : goal.returns-in-14
unfolding view_of state_of
returns-in-14 c =
    let row = is_uptime c.args.call.now (view_now c.args.self.now c.args.hart.now) (search rules) in
    record {
      made = subst (λ o. Makes c.args.self.now c.args.hart.now o c.uptime.new.self c.uptime.new.hart) (sym row) (c.uptime.ensures.made c.args.call.now);
      answer = ap (λ (o : Own). o.answer) row ∙ ap (answer_of c.args.call.now.number) (sym c.uptime.ensures.end);
    }

pub returns-in-21 : goal.returns-in-21
returns-in-21 c =
    let row = is_close c.args.call.now (view_now c.args.self.now c.args.hart.now) (search rules) in
    record {
      made = subst (λ o. Makes c.args.self.now c.args.hart.now o c.close.new.self c.close.new.hart) (sym row) c.close.ensures.made;
      answer = ap (λ (o : Own). o.answer) row ∙ c.close.ensures.answer;
    }

pub returns-in-10 : goal.returns-in-10
returns-in-10 c =
    let row = is_dup c.args.call.now (view_now c.args.self.now c.args.hart.now) (search rules) in
    record {
      made = subst (λ o. Makes c.args.self.now c.args.hart.now o c.dup.new.self c.dup.new.hart) (sym row) c.dup.ensures.made;
      answer = ap (λ (o : Own). o.answer) row ∙ c.dup.ensures.answer;
    }

pub returns-in-11 : goal.returns-in-11
unfolding view_of
returns-in-11 c =
    let row = is_getpid c.args.call.now (view_now c.args.self.now c.args.hart.now) (search rules) in
    record {
      made = subst (λ o. Makes c.args.self.now c.args.hart.now o c.getpid.new.self c.getpid.new.hart) (sym row) (c.getpid.ensures.made c.args.call.now);
      answer = ap (λ (o : Own). o.answer) row ∙ ap (answer_of c.args.call.now.number) (sym c.getpid.ensures.end);
    }

pub returns-in-4 : goal.returns-in-4
returns-in-4 c =
    let row = is_pipe c.args.call.now (view_now c.args.self.now c.args.hart.now) (search rules) in
    record {
      made = subst (λ o. Makes c.args.self.now c.args.hart.now o c.pipe.new.self c.pipe.new.hart) (sym row) c.pipe.ensures.made;
      answer = ap (λ (o : Own). o.answer) row ∙ c.pipe.ensures.answer;
    }

pub returns-in-5 : goal.returns-in-5
returns-in-5 c =
    let row = is_read c.args.call.now (view_now c.args.self.now c.args.hart.now) (search rules) in
    record {
      made = subst (λ o. Makes c.args.self.now c.args.hart.now o c.read.new.self c.read.new.hart) (sym row) c.read.ensures.made;
      answer = ap (λ (o : Own). o.answer) row ∙ c.read.ensures.answer;
    }

pub returns-in-15 : goal.returns-in-15
returns-in-15 c =
    let row = is_open c.args.call.now (view_now c.args.self.now c.args.hart.now) (search rules) in
    record {
      made = subst (λ o. Makes c.args.self.now c.args.hart.now o c.open_file.new.self c.open_file.new.hart) (sym row) c.open_file.ensures.made;
      answer = ap (λ (o : Own). o.answer) row ∙ c.open_file.ensures.answer;
    }

pub returns-in-16 : goal.returns-in-16
returns-in-16 c =
    let row = is_write c.args.call.now (view_now c.args.self.now c.args.hart.now) (search rules) in
    record {
      made = subst (λ o. Makes c.args.self.now c.args.hart.now o c.write.new.self c.write.new.hart) (sym row) c.write.ensures.made;
      answer = ap (λ (o : Own). o.answer) row ∙ c.write.ensures.answer;
    }

pub returns-in-22 : goal.returns-in-22
returns-in-22 c =
    let row = is_sbrklazy c.args.call.now (view_now c.args.self.now c.args.hart.now) (search rules) in
    record {
      made = subst (λ o. Makes c.args.self.now c.args.hart.now o c.sbrklazy.new.self c.sbrklazy.new.hart) (sym row) c.sbrklazy.ensures.made;
      answer = ap (λ (o : Own). o.answer) row ∙ c.sbrklazy.ensures.answer;
    }

pub returns-in_default : goal.returns-in_default
returns-in_default c =
    let fork : c.args.call.now.number ≢ pos 1 = search rules in
    let exit : c.args.call.now.number ≢ pos 2 = search rules in
    let wait : c.args.call.now.number ≢ pos 3 = search rules in
    let pipe : c.args.call.now.number ≢ pos 4 = search rules in
    let read : c.args.call.now.number ≢ pos 5 = search rules in
    let kill : c.args.call.now.number ≢ pos 6 = search rules in
    let exec : c.args.call.now.number ≢ pos 7 = search rules in
    let dup : c.args.call.now.number ≢ pos 10 = search rules in
    let getpid : c.args.call.now.number ≢ pos 11 = search rules in
    let sbrk : c.args.call.now.number ≢ pos 12 = search rules in
    let sleep : c.args.call.now.number ≢ pos 13 = search rules in
    let uptime : c.args.call.now.number ≢ pos 14 = search rules in
    let opening : c.args.call.now.number ≢ pos 15 = search rules in
    let write : c.args.call.now.number ≢ pos 16 = search rules in
    let close : c.args.call.now.number ≢ pos 21 = search rules in
    let sbrklazy : c.args.call.now.number ≢ pos 22 = search rules in
    let other : IsOther c.args.call.now.number =
    fork also exit also wait also pipe also read also kill also exec also dup also getpid also sbrk also sleep also uptime also opening also write also close also sbrklazy also tt in
    let row = other-row c.args.call.now (view_now c.args.self.now c.args.hart.now) other in
    record {
      made = subst (λ o. Makes c.args.self.now c.args.hart.now o c.refuse.new.self c.refuse.new.hart) (sym row) (c.refuse.ensures.made c.args.call.now);
      answer = ap (λ (o : Own). o.answer) row ∙ ap (answer_of c.args.call.now.number) (sym c.refuse.ensures.end);
    }
