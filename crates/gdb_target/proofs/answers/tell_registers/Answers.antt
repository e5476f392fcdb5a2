use Rattle.std.proofs.Common.{◌≡◌, ◌∙◌, ℕ, List, sym, ap, subst}
use Rattle.std.specs.Prelude.{IfOk}
use Rattle.hex.specs.Hex.{encode_lower}
use Rattle.gdb_target.specs.Told.{registers_told}
use Rattle.gdb_target.proofs.answers.tell_registers.Goals as goal

pub returns-in_ok-bytes-in-Some : goal.returns-in_ok-bytes-in-Some
returns-in_ok-bytes-in-Some c =
    let told : encode_lower c.as_slice.result.now ≡ registers_told c.args.regs.now =
    ap encode_lower (c.as_slice.ensures.value ∙ c.in_ok-bytes-in-Some.ensures) ∙ sym (ap registers_told c.in-Some.is) in
    subst (λ (xs : List ℕ). IfOk c.hex_bytes.result (λ text. text.items ≡ xs)) told c.hex_bytes.ensures
