use Rattle.kcall_core.proofs.Prelude.{[], ◌∙◌, ◌∷◌, ◌≡◌, A0, A1, ap, Entry, Err, first_regs, free_of, fresh, init_name, init_of, IsSome, IsWhole, length, loaded, map, named_file, Ok, program_bytes}
use Rattle.kcall_core.proofs.Prelude.{refl, SP, state_of, subst, sym, within_frames}
use Rattle.std.proofs.lemmas.Result.{err_from_is_err_and}
use Rattle.rv64i_core.specs.Registers.{put}
use Rattle.kcall_core.proofs.table.Starting.{blank-vacant, slot-zero, first-has, Begins, begins}
use Rattle.kcall_core.proofs.table.FirstWhole.{begun-whole, begun-world}
use Rattle.kcall_core.proofs.table.Deserted.{console-within}
use Rattle.kcall_core.proofs.kernel.Kernel.start.Goals as goal

pub load_first-requires-clause-vacant : goal.load_first-requires-clause-vacant
load_first-requires-clause-vacant c = blank-vacant c.requires.whole.sound c.requires.nobody

pub load_first-requires-clause-program : goal.load_first-requires-clause-program
unfolding state_of
load_first-requires-clause-program c = subst (λ p. IsSome (init_of (map named_file p))) (sym c.deref.ensures.value) c.requires.program

pub returns-in_err-start-clause-refused : goal.returns-in_err-start-clause-refused
unfolding state_of
returns-in_err-start-clause-refused c =
    let p = err_from_is_err_and c.from_residual.result c.from_residual.ensures.1 in
    let r = c.in_err-start.ensures.refused in
    rw (p.1, p.2) (
      subst (λ ps. within_frames (free_of c.args.self.now.memories) (loaded (program_bytes (init_of (map named_file ps))) (init_name ∷ [])) ≡ Err c.in_err-start.field-0.0) c.deref.ensures.value r.0,
      ap (λ m. record c.args.self.now { memories = m }) r.1,
      refl,
    )

pub returns-in_err-start-clause-whole : goal.returns-in_err-start-clause-whole
returns-in_err-start-clause-whole c = subst (λ m. IsWhole (record c.args.self.now { memories = m }) c.args.hart.now) (sym c.in_err-start.ensures.refused.1) c.requires.whole

pub save-requires-clause-there : goal.save-requires-clause-there
save-requires-clause-there c = first-has c.load_first.new.memories c.in-Ok.slot _ c.requires.whole.sound c.in_ok-start.ensures.loaded.5
    (slot-zero c.args.self.now c.in-Ok.slot c.requires.nobody c.in-Ok.ensures.slot.0)

pub returns-clause-stopped : goal.returns-clause-stopped
returns-clause-stopped c =
    let st = c.in_ok-start.ensures.loaded in
    let k' = record c.args.self.now { memories = c.save.new.self; table = c.spawn.new.self } in
    let regs : c.first_regs-regs.result ≡ first_regs st.0 = c.first_regs-regs.ensures ∙ ap (λ (e : Entry). put (put (put (fresh e.pc) SP e.sp) A0 e.argc) A1 e.sp) st.2 in
    let b : Begins c.args.self.now c.args.hart.now k' (record c.args.hart.now { regs = c.first_regs-regs.result }) st.0 =
    begins st.0 c.first_regs-regs.result c.requires.whole.sound c.requires.nobody st.5 c.save.ensures.saved
    (slot-zero c.args.self.now c.in-Ok.slot c.requires.nobody c.in-Ok.ensures.slot.0) regs c.in-Ok.ensures.made refl refl refl
    (record { files = refl; console = refl; programs = refl; clock = refl }) in
    b.current

pub returns-clause-whole : goal.returns-clause-whole
returns-clause-whole c =
    let st = c.in_ok-start.ensures.loaded in
    let k' = record c.args.self.now { memories = c.save.new.self; table = c.spawn.new.self } in
    let regs : c.first_regs-regs.result ≡ first_regs st.0 = c.first_regs-regs.ensures ∙ ap (λ (e : Entry). put (put (put (fresh e.pc) SP e.sp) A0 e.argc) A1 e.sp) st.2 in
    let b : Begins c.args.self.now c.args.hart.now k' (record c.args.hart.now { regs = c.first_regs-regs.result }) st.0 =
    begins st.0 c.first_regs-regs.result c.requires.whole.sound c.requires.nobody st.5 c.save.ensures.saved
    (slot-zero c.args.self.now c.in-Ok.slot c.requires.nobody c.in-Ok.ensures.slot.0) regs c.in-Ok.ensures.made refl refl refl
    (record { files = refl; console = refl; programs = refl; clock = refl }) in
    begun-whole b c.requires.nobody (console-within c.args.self.now c.args.hart.now c.requires.whole) st.4

pub returns-clause-started : goal.returns-clause-started
unfolding state_of
returns-clause-started c =
    let st = c.in_ok-start.ensures.loaded in
    let k' = record c.args.self.now { memories = c.save.new.self; table = c.spawn.new.self } in
    let regs : c.first_regs-regs.result ≡ first_regs st.0 = c.first_regs-regs.ensures ∙ ap (λ (e : Entry). put (put (put (fresh e.pc) SP e.sp) A0 e.argc) A1 e.sp) st.2 in
    let b : Begins c.args.self.now c.args.hart.now k' (record c.args.hart.now { regs = c.first_regs-regs.result }) st.0 =
    begins st.0 c.first_regs-regs.result c.requires.whole.sound c.requires.nobody st.5 c.save.ensures.saved
    (slot-zero c.args.self.now c.in-Ok.slot c.requires.nobody c.in-Ok.ensures.slot.0) regs c.in-Ok.ensures.made refl refl refl
    (record { files = refl; console = refl; programs = refl; clock = refl }) in
    begun-world b st.4 (subst (λ ps. loaded (program_bytes (init_of (map named_file ps))) (init_name ∷ []) ≡ Ok st.0) c.deref.ensures.value st.1)

pub returns-clause-frames : goal.returns-clause-frames
returns-clause-frames c = c.save.ensures.saved.frames ∙ c.in_ok-start.ensures.loaded.5.frames

pub returns-in_err-start-clause-frames : goal.returns-in_err-start-clause-frames
returns-in_err-start-clause-frames c = ap (λ m. length m.ram) c.in_err-start.ensures.refused.1
