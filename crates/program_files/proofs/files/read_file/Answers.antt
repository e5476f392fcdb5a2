use Rattle.std.proofs.Common.{◌≡◌, ℕ, ◌+◌, ◌≤◌, List, ◌++◌, IfSome, arith, length, subst, take}
use Rattle.std.specs.Prelude.{option_map}
use Rattle.xk_base.specs.declared.limits.TheConstants.{PROGRAM_BYTES}
use Rattle.program_files.proofs.Read.{all_known}
use Rattle.program_files.proofs.files.read_file.Goals as goal

-- all that there is
pub returns-in-Ok-clause-read : goal.returns-in-Ok-clause-read
returns-in-Ok-clause-read g c =
    let bytes = c.read_to_end.new.buf.items in
    let empty = c.new-bytes.result.items in
    let short : length bytes ≤ PROGRAM_BYTES = omega (arith, c.in-Ok.ensures.ok, c.new-bytes.ensures.len, c.if-count-le-PROGRAM_BYTES.true) in
    let here = subst (λ (n : ℕ). IfSome (option_map (take n) (g.F.Read.remaining c.take.result.inner)) (λ rest. bytes ≡ empty ++ rest)) c.take.ensures.limit c.in-Ok.ensures.bytes in
    let there = subst (λ f. IfSome (option_map (take (PROGRAM_BYTES + 1)) (g.F.Read.remaining f)) (λ rest. bytes ≡ empty ++ rest)) c.take.ensures.inner here in
    record {
      short = short;
      all = all_known PROGRAM_BYTES (g.F.Read.remaining c.args.file) bytes
          (subst (λ (l : List ℕ). IfSome (option_map (take (PROGRAM_BYTES + 1)) (g.F.Read.remaining c.args.file)) (λ rest. bytes ≡ l ++ rest)) c.new-bytes.ensures.items there) short;
    }
