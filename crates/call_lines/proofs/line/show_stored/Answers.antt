use Rattle.std.proofs.Common.{◌≡◌, ◌∙◌, ◌++◌, [], Bool, if◌then◌else◌, Option, ℤ, ap, codes, string_bytes, OnOk, sym, subst, w64}
use Rattle.std.proofs.lemmas.Int.{to_z-of_z}
use Rattle.call_lines.specs.Line.{int_shown, stores_status}
use Rattle.call_lines.specs.Memory.{int_at}
use Rattle.debug_views.proofs.Texts.{shown_behind}
use Rattle.call_lines.proofs.line.show_stored.Goals as goal

pub returns-in_ok-push_str : goal.returns-in_ok-push_str
returns-in_ok-push_str c =
    let r = c.show_int.result in
    let old = string_bytes c.args.answer.now in
    let mid = string_bytes c.push_str.new.self in
    let new = string_bytes c.show_int.new.answer in
    let status = int_at c.args.machine.now.world.state c.args.pid c.args.asked.now.a0 in
    subst (λ (b : Bool). OnOk r (new ≡ old ++ (if b then codes ", its status " ++ int_shown status else [])))
    (sym c.if-stores_status.true ∙ c.stores_status.ensures ∙ ap (stores_status c.args.asked.now c.args.call) (to_z-of_z w64 c.args.value c.ranges.value))
    (shown_behind r old mid new (codes ", its status ") (int_shown status) c.in_ok-push_str.ensures.bytes
    (subst (λ (i : Option ℤ). OnOk r (new ≡ mid ++ int_shown i)) c.in_ok-status.ensures c.show_int.ensures))
