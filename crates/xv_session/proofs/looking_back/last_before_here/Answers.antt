use Rattle.std.proofs.Common.{◌∙◌, None, inl, inr, refl, subst, sym}
use Rattle.std.proofs.lemmas.Result.{IfOk-weaker}
use Rattle.xk_base.proofs.Options.{none_from_is_some}
use Rattle.xv_session.proofs.SearchedBack.{looks-on, none-found}
use Rattle.xv_session.proofs.looking_back.last_before_here.Goals as goal

pub windows-init : goal.windows-init
windows-init g c = record { stays = g.met.L.LooksBack.stays_first c.args.looker.now; vain = inl refl }

pub windows-preserved : goal.windows-preserved
windows-preserved g c =
    let looked = g.L.LooksBack.looked c.args.goal.now in
    let begin = c.saturating_sub-begin.result in
    let none = none_from_is_some c.in_ok-found.found (sym c.is_some.ensures ∙ c.if-is_some.false) in
    let vain = subst (looked begin c.windows.looker c.look_from.new.self) none c.in_ok-found.ensures.looked in
    record {
      stays = g.met.L.LooksBack.stays_on c.args.looker.now c.windows.looker c.look_from.new.self c.windows.invariant.stays c.look_from.ensures.stays;
      vain = inr (begin, looks-on looked (g.met.L.LooksBack.looked_again c.args.goal.now) begin c.args.looker.now c.windows.looker c.look_from.new.self None c.windows.invariant.vain vain);
    }

pub returns-then-is_some-clause-last : goal.returns-then-is_some-clause-last
returns-then-is_some-clause-last g c = record {
  begin = c.saturating_sub-begin.result;
  looks = looks-on (g.L.LooksBack.looked c.args.goal.now) (g.met.L.LooksBack.looked_again c.args.goal.now) _ c.args.looker.now c.windows.looker c.look_from.new.self _ c.windows.invariant.vain c.in_ok-found.ensures.looked;
  whole = none-found _ c.in_ok-found.found (sym c.is_some.ensures ∙ c.if-is_some.true);
}

pub returns-then-begin-eq0-clause-last : goal.returns-then-begin-eq0-clause-last
returns-then-begin-eq0-clause-last g c = record {
  begin = c.saturating_sub-begin.result;
  looks = looks-on (g.L.LooksBack.looked c.args.goal.now) (g.met.L.LooksBack.looked_again c.args.goal.now) _ c.args.looker.now c.windows.looker c.look_from.new.self _ c.windows.invariant.vain c.in_ok-found.ensures.looked;
  whole = λ none. c.if-begin-eq0.true;
}

pub returns-clause-last : goal.returns-clause-last
returns-clause-last g c =
    IfOk-weaker c.look_from-2.result _ _ (λ found looks. record {
      begin = 0;
      looks = looks-on (g.L.LooksBack.looked c.args.goal.now) (g.met.L.LooksBack.looked_again c.args.goal.now) 0 c.args.looker.now c.windows.looker c.look_from-2.new.self found c.windows.invariant.vain looks;
      whole = λ none. refl;
    }) c.look_from-2.ensures.looked
