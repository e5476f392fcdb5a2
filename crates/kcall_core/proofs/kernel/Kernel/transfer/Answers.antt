use Rattle.kcall_core.proofs.Prelude.{◌∙◌, ap, c_int, named_by, sym, to_z-of_z, view_now, w32}
use Rattle.kcall_core.proofs.processes.Exits.{whole-closing}
use Rattle.kcall_core.proofs.files.OneClosed.{used-open}
use Rattle.kcall_core.proofs.table.States.{slot-inside}
use Rattle.kcall_core.proofs.files.UsedDescriptor.{runs-now, in-use-named, unused-shown}
use Rattle.kcall_core.proofs.files.MovingRows.{in-use-as, unused-row, shut-row, below-row}
use Rattle.kcall_core.proofs.kernel.Kernel.transfer.Goals as goal

pub used_descriptor-requires : goal.used_descriptor-requires
used_descriptor-requires c =
    let now = c.requires.whole.1.sound.current c.args.slot c.requires.slot in
    slot-inside c.args.self.now c.requires.whole.0 c.requires.whole.1.sound c.args.slot now.process now.is

pub descriptors-requires : goal.descriptors-requires
descriptors-requires c =
    let now = c.requires.whole.1.sound.current c.args.slot c.requires.slot in
    slot-inside c.args.self.now c.requires.whole.0 c.requires.whole.1.sound c.args.slot now.process now.is

pub returns-in_default-clause-refused : goal.returns-in_default-clause-refused
returns-in_default-clause-refused c = λ hart whole.
    let asked = to_z-of_z w32 c.c_int.result (record { sfits = c.c_int.type_inv }) ∙ c.c_int.ensures in
    unused-row c.args.end c.args.call.now (view_now c.args.self.now hart)
    (unused-shown whole (runs-now c.args.self.now c.args.slot c.requires.slot) c.requires.slot (c_int c.args.call.now.a0) (λ d below e. c.in_default.ensures.unused d below (asked ∙ e)))

pub kind-kind-requires : goal.kind-kind-requires
kind-kind-requires c =
    used-open (whole-closing c.requires.whole.1 (runs-now c.args.self.now c.args.slot c.requires.slot)) c.requires.slot c.in-Some.ensures.used.1
    (ap (λ ds. named_by ds c.in-Some.fd) (sym c.descriptors.ensures) ∙ sym c.get.ensures ∙ c.in-Some-get.is)

pub returns-then-not-allows-clause-refused : goal.returns-then-not-allows-clause-refused
returns-then-not-allows-clause-refused c = λ hart whole.
    let asked = to_z-of_z w32 c.c_int.result (record { sfits = c.c_int.type_inv }) ∙ c.c_int.ensures in
    let runs = runs-now c.args.self.now c.args.slot c.requires.slot in
    let fd = c.in-Some.ensures.used in
    let names = ap (λ ds. named_by ds c.in-Some.fd) (sym c.descriptors.ensures) ∙ sym c.get.ensures ∙ c.in-Some-get.is in
    let there = in-use-named whole runs c.requires.slot fd.1 names in
    let source = in-use-as there.0 c.kind-kind.result there.1 c.kind-kind.ensures in
    let number = sym asked ∙ fd.0 in
    shut-row c.args.call.now whole runs fd.1 number source c.args.end (sym c.allows.ensures ∙ c.if-not-allows.true)

pub returns-in_default-byte_count-clause-refused : goal.returns-in_default-byte_count-clause-refused
returns-in_default-byte_count-clause-refused c = λ hart whole.
    let asked = to_z-of_z w32 c.c_int.result (record { sfits = c.c_int.type_inv }) ∙ c.c_int.ensures in
    let runs = runs-now c.args.self.now c.args.slot c.requires.slot in
    let fd = c.in-Some.ensures.used in
    let names = ap (λ ds. named_by ds c.in-Some.fd) (sym c.descriptors.ensures) ∙ sym c.get.ensures ∙ c.in-Some-get.is in
    let there = in-use-named whole runs c.requires.slot fd.1 names in
    let source = in-use-as there.0 c.kind-kind.result there.1 c.kind-kind.ensures in
    let number = sym asked ∙ fd.0 in
    let size = to_z-of_z w32 c.c_int-2.result (record { sfits = c.c_int-2.type_inv }) ∙ c.c_int-2.ensures in
    below-row c.args.call.now whole runs fd.1 number source c.args.end (sym c.allows.ensures ∙ c.if-not-allows.false) (λ n e. c.in_default-byte_count.ensures.none n (size ∙ e))

pub returns-clause-size : goal.returns-clause-size
returns-clause-size c = c.in-Some-byte_count.ensures.some.1

pub returns-clause-allowed : goal.returns-clause-allowed
returns-clause-allowed c = sym c.allows.ensures ∙ c.if-not-allows.false

pub returns-clause-asked : goal.returns-clause-asked
returns-clause-asked c = λ hart whole.
    let asked = to_z-of_z w32 c.c_int.result (record { sfits = c.c_int.type_inv }) ∙ c.c_int.ensures in
    let runs = runs-now c.args.self.now c.args.slot c.requires.slot in
    let fd = c.in-Some.ensures.used in
    let names = ap (λ ds. named_by ds c.in-Some.fd) (sym c.descriptors.ensures) ∙ sym c.get.ensures ∙ c.in-Some-get.is in
    let there = in-use-named whole runs c.requires.slot fd.1 names in
    let source = in-use-as there.0 c.kind-kind.result there.1 c.kind-kind.ensures in
    let number = sym asked ∙ fd.0 in
    let size = to_z-of_z w32 c.c_int-2.result (record { sfits = c.c_int-2.type_inv }) ∙ c.c_int-2.ensures in
    record { fd = c.in-Some.fd; below = fd.1; number = number; source = source; count = sym size ∙ c.in-Some-byte_count.ensures.some.0 }
