-- The words that this crate's proofs say: each is handed on from where it is defined.
pub use Rattle.std.proofs.Common.{[], ◌∙◌, ◌∷◌, ◌≡◌, ◌≤◌, ap, arith, codes, IfSome, negsuc, None, pos, refl, Some, string_bytes, sym, vec_len}
