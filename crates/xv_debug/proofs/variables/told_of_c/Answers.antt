use Rattle.std.proofs.Common.{◌∙◌, Option, ap, option_map, rules, string_bytes, subst, sym}
use Rattle.c_expressions.specs.Asked.{seen}
use Rattle.c_expressions.specs.declared.asked.Asked.{Asked}
use Rattle.xv_debug.specs.ToldOfC.{IsToldIn, not_asked, told_it}
use Rattle.xv_debug.specs.declared.choosing.SeenCall.{SeenCall}
use Rattle.xv_debug.proofs.variables.told_of_c.Goals as goal

pub returns-in_default : goal.returns-in_default
returns-in_default c = not_asked (sym c.of.ensures ∙ ap (λ (o : Option Asked). option_map seen o) c.in_default.is)

pub returns : goal.returns
returns c =
    told_it c.in-Some.asked (sym c.of.ensures ∙ ap (λ (o : Option Asked). option_map seen o) c.in-Some.is) c.in_ok-told.told
    (record {
      pid = c.in-Some-focus.pid;
      source = c.source_of-source.result;
      at = record { looks = search rules; of = search rules; is = search rules };
      told = subst (λ (o : Option SeenCall). IsToldIn c.source_of-source.result c.args.session.now c.in-Some-focus.pid o c.in-Some.asked (option_map string_bytes c.in_ok-told.told.text))
          (sym c.in_ok-told.ensures.call) c.in_ok-told.ensures.text;
    })
