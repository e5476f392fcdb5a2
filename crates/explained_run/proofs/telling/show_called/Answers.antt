use Rattle.std.proofs.Common.{◌++◌, ◌∙◌, ap, string_bytes, w32, w64}
use Rattle.std.proofs.lemmas.Int.{to_z-of_z}
use Rattle.explained_run.specs.Seen.{seen_of}
use Rattle.debug_views.proofs.Texts.{pushed}
use Rattle.explained_run.proofs.Texts.{called_written}
use Rattle.explained_run.proofs.telling.show_called.Goals as goal

pub returns : goal.returns
returns c =
    called_written c.push_str-3.result (seen_of c.args.seen.now) c.args.machine.now.world.state c.args.pid c.args.number _ c.args.value _ _ _ _ _ _ _ _ (to_z-of_z w32 c.args.number c.ranges.number)
    (to_z-of_z w64 c.args.value c.ranges.value) (to_z-of_z w64 c.args.value c.ranges.value) (c.in_ok-push_str.ensures.bytes ∙ ap (λ t. string_bytes c.args.text.now ++ t) c.as_str.ensures.value)
    (c.in_ok-push_str-2.ensures.bytes ∙ ap (λ t. string_bytes c.push_str.new.self ++ t) c.mark.ensures) c.in_ok-show_done.ensures c.in_ok-show_answered.ensures
    (pushed c.push_str-3.result _ _ _ c.push_str-3.ensures.bytes)
