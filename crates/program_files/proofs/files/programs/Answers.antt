use Rattle.std.proofs.Common.{rules, ℕ, ◌<◌, ◌+◌, List, None, arith, length, subst, sym, take}
use Rattle.xk_base.specs.declared.program.Program.{Program}
use Rattle.program_files.specs.Programs.{AreProgramsIn, IsProgramIn}
use Rattle.program_files.proofs.Read.{opened, programs_more}
use Rattle.program_files.proofs.files.programs.Goals as goal

-- a program more
pub loop-path-preserved : goal.loop-path-preserved
loop-path-preserved g c =
    let paths = c.args.paths.now in
    let n = c.loop-path.path-index in
    let path = c.path-item.result in
    let program = c.in_ok-made.made.program in
    let within : n < length paths = omega (arith, c.loop-path-test.true) in
    let here : IsProgramIn c.as_str-path.result.now None program = opened _ c.open-file.result c.as_str-path.result.now program c.in_ok-made.ensures.made in
    record {
      programs = search rules;
      lines = search rules;
      made = subst (λ (ps : List Program). AreProgramsIn (take (n + 1) paths) ps) (sym c.in_ok-push.ensures.items)
          (programs_more paths c.loop-path.programs.items n path program within c.path-item.is c.loop-path.invariant.made
          (subst (λ (name : List ℕ). IsProgramIn name None program) c.as_str-path.ensures.value here));
    }
