use Rattle.kcall_core.proofs.Prelude.{[], ◌∙◌, ◌≡◌, ap, arith, Asks, each_of, false, held_at, loaded, map, named_file, program_named, refl, rules, sym, take, true}
use Rattle.kcall_core.proofs.memory.Births.{untraded}
use Rattle.kcall_core.proofs.memory.Changes.{same-if}
use Rattle.kcall_core.proofs.processes.Asking.{loaded-fits}
use Rattle.kcall_core.proofs.kernel.exec.replace_as_asked.Goals as goal

pub returns-then-not-fetch_args-clause-refused : goal.returns-then-not-fetch_args-clause-refused
returns-then-not-fetch_args-clause-refused c = let missing : c.fetch_args.result ≡ false = search rules in (
  λ l a.
      let f = loaded-fits a.program.bytes a.texts l a.loaded_is in
      absurd (omega (arith, f.1, c.fetch_args.ensures.refused missing a.texts a.texts_is)),
  same-if c.args.memories.now c.args.memories.now c.requires.sound (untraded _ _ _ _ [] c.requires.sound.good refl refl) refl refl,
  refl,
)

pub returns-clause-started : goal.returns-clause-started
returns-clause-started c =
    let there : c.fetch_args.result ≡ true = search rules in
    let image = (held_at (each_of c.args.memories.now) c.args.slot).image in
    let l = c.in-Ok-plan.plan in
    let a : Asks (map named_file c.args.programs.now) image c.args.path c.args.pointers l = record {
      name = take c.in-Ok.len c.fetch_text.new.text;
      texts = c.fetch_args.new.args;
      program = named_file c.in_ok-program.program.now;
      name_is = c.in-Ok.ensures.found;
      texts_is = c.fetch_args.ensures.found there;
      program_is = sym (ap (λ n. program_named n (map named_file c.args.programs.now)) c.without_slashes.ensures) ∙ sym c.in_ok-program.ensures;
      loaded_is = sym (ap (λ f. loaded f c.fetch_args.new.args) c.deref.ensures.value) ∙ sym c.plan.ensures ∙ c.in-Ok-plan.is;
    } in
    (l, a, c.in-Ok-replace.ensures.start, (loaded-fits a.program.bytes a.texts l a.loaded_is).0, c.in-Ok-replace.ensures.fits, c.in-Ok-replace.ensures.replaced, c.in-Ok-replace.ensures.runs)

pub returns-in_default-replace-clause-refused : goal.returns-in_default-replace-clause-refused
returns-in_default-replace-clause-refused c = search rules
