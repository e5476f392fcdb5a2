use Rattle.kcall_core.proofs.Prelude.{[], ◌∙◌, ◌∷◌, ◌≡◌, ap, init_name, init_of, loaded, map, named_file, Ok, Option, option_copied, option_map, program_bytes, program_named, ProgramFile, Some, sym}
use Rattle.kcall_core.proofs.processes.Asking.{loaded-fits}
use Rattle.kcall_core.proofs.kernel.starting.load_first.Goals as goal

pub returns-in-Ok-load_into-clause-loaded : goal.returns-in-Ok-load_into-clause-loaded
unfolding init_of
returns-in-Ok-load_into-clause-loaded c =
    let l = c.in-Ok.plan in
    let found : init_of (map named_file c.args.programs.now) ≡ Some (named_file c.in-Some.program.now) =
    sym (ap (λ n. program_named n (map named_file c.args.programs.now)) c.as_slice.ensures) ∙ sym c.program_named.ensures
    ∙ ap (λ o. option_map named_file (option_copied o)) c.in-Some.is in
    let is : loaded (program_bytes (init_of (map named_file c.args.programs.now))) (init_name ∷ []) ≡ Ok l =
    ap (λ (o : Option ProgramFile). loaded (program_bytes o) (init_name ∷ [])) found
    ∙ sym (ap (λ f. loaded f (init_name ∷ [])) c.deref.ensures.value) ∙ sym (ap (loaded c.deref.result.now) c.first_args-args.ensures) ∙ sym c.plan.ensures ∙ c.in-Ok.is in (
      l,
      is,
      c.in-Ok-load_into.ensures.start,
      (loaded-fits (program_bytes (init_of (map named_file c.args.programs.now))) (init_name ∷ []) l is).0,
      c.in-Ok-load_into.ensures.fits,
      c.in-Ok-load_into.ensures.loaded,
    )
