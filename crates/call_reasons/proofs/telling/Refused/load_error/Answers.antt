use Rattle.std.proofs.Common.{◌∙◌, sym, ap}
use Rattle.std.specs.Prelude.{option_copied, option_map}
use Rattle.xk_base.specs.declared.limits.TheConstants.{ARG_BYTES, MAXARG}
use Rattle.xk_base.specs.Loaded.{loaded}
use Rattle.kernel_spec.specs.views.State.{named_file}
use Rattle.call_reasons.specs.Loading.{error_of}
use Rattle.call_reasons.specs.Shown.{facts_in}
use Rattle.call_reasons.specs.Texts.{texts_at}
use Rattle.call_reasons.proofs.Loads.{no_file, of_file, of_long}
use Rattle.call_reasons.proofs.telling.Refused.load_error.Goals as goal

pub returns-in_default : goal.returns-in_default
returns-in_default c =
    let programs = c.args.self.now.machine.now.world.state.programs in
    let texts = texts_at (facts_in c.args.self.now.machine.now.world.state c.args.self.now.pid) MAXARG ARG_BYTES c.args.self.now.call.now.a1 in
    no_file c.args.name.now programs texts (sym c.program_named.ensures ∙ ap (λ o. option_map named_file (option_copied o)) c.in_default.is)

pub returns-in-Some-args_at : goal.returns-in-Some-args_at
returns-in-Some-args_at c =
    let programs = c.args.self.now.machine.now.world.state.programs in
    let texts = texts_at (facts_in c.args.self.now.machine.now.world.state c.args.self.now.pid) MAXARG ARG_BYTES c.args.self.now.call.now.a1 in
    of_file c.args.name.now programs texts (named_file c.in-Some.program.now) c.in-Some-args_at.args c.error_with.result (sym c.in-Some.ensures) c.in-Some-args_at.ensures.found
    (c.error_with.ensures ∙ ap (λ file. error_of (loaded file c.in-Some-args_at.args)) c.deref.ensures.value)

pub returns-in-None : goal.returns-in-None
returns-in-None c =
    let programs = c.args.self.now.machine.now.world.state.programs in
    let texts = texts_at (facts_in c.args.self.now.machine.now.world.state c.args.self.now.pid) MAXARG ARG_BYTES c.args.self.now.call.now.a1 in
    of_long c.args.name.now programs texts (named_file c.in-Some.program.now) c.error_with_long.result (sym c.in-Some.ensures) c.requires c.in-None.ensures.none
    (λ words long. c.error_with_long.ensures words long ∙ ap (λ file. error_of (loaded file words)) c.deref-in-None.ensures.value)
