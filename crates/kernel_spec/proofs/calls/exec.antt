-- exec: which call it is, and what is claimed of its row.
use Rattle.kernel_spec.proofs.Prelude.{ℕ, ◌>>=◌, ◌or◌, ◌≡◌, answered, ap, ARG_BYTES, Call, done, Err, Exec, exec, Image, inl, inr, List, Loaded, loaded, MAXARG, MAXPATH, nat_lt, no_slashes, None}
use Rattle.kernel_spec.proofs.Prelude.{none-some, nothing_stored, Ok, Option, perform, pos, price, program_named, ProgramFile, refl, Result, result_of, row, row_of, same_Some, Some, sym, text_at}
use Rattle.kernel_spec.proofs.Prelude.{texts_at, View}
use Rattle.kernel_spec.proofs.calls.Facts.{RowFacts, at_next, no, nothing}
use Rattle.kernel_spec.proofs.calls.Words.{by_number, by_or, by_when}
use Rattle.kernel_spec.proofs.calls.Images.{allowed_none, nothing_empty}
use Rattle.kernel_spec.proofs.calls.Tables.{Table, plain}
use Rattle.kernel_spec.proofs.rows.RowParts.{running}

pub is_exec : (c : Call) (v : View) → c.number ≡ pos 7 → perform c v ≡ exec c v
unfolding row row_of ◌>>=◌ ◌or◌
is_exec c v is = by_number c v (pos 7) is

loads : {A E : Type 0} (r : Result A E) (a : A) → result_of r ≡ Some a → r ≡ Ok a
loads (Ok b) a e = ap Ok (same_Some b a e)
loads (Err x) a e = absurd (none-some a e)

module _ (c : Call) (v : View) (its : row_of c.number ≡ Some Exec) where
  -- the image is the one that the program's file makes
  runs : (path : List ℕ) (texts : List (List ℕ)) (p : ProgramFile) (l : Loaded) → text_at MAXPATH v.image c.a0 ≡ Some path → texts_at MAXARG ARG_BYTES v.image c.a1 ≡ Some texts
      → program_named (no_slashes path) v.programs ≡ Some p → loaded p.bytes texts ≡ Ok l
      → RowFacts c v nothing (done c (pos l.argc) (running l v))
  runs path texts p l read given found is = record {
    step = record {
      exec = λ n e _. (path, texts, p, l, its, read, found, given, is, ap image_of (sym e), refl);
      image = λ other. absurd (other (l.argc, its, refl));
      told = λ n e whole a lies. absurd (nothing_empty a lies);
      allowed = allowed_none nothing_stored v.image nothing_empty;
      left = λ _. refl;
      pids = λ q h. inl h;
      table = λ _. at_next c nothing_stored v (done c (pos l.argc) (running l v)) (answered (pos l.argc) (running l v)) refl (λ n. Table v.descriptors n.descriptors) (plain v.descriptors);
      bears = λ n e born. let no_way : ⊥ = cc in absurd no_way;
      parent = λ _. refl;
      newborn = λ child is. let no_way : ⊥ = cc in absurd no_way;
    };
    comes = inr (inl (record { value = l.argc; answer = refl; after = answered (pos l.argc) (running l v); next = refl; idle = refl; pids = refl }));
  }
    where
      image_of : Option View → Image
      image_of None = l.image
      image_of (Some w) = w.image

  pub exec_facts : RowFacts c v nothing (exec c v)
  unfolding exec
  exec_facts = by_or (RowFacts c v nothing) (text_at MAXPATH v.image c.a0) (no c v) (λ path read.
      by_or (RowFacts c v nothing) (texts_at MAXARG ARG_BYTES v.image c.a1) (no c v) (λ texts given.
      by_or (RowFacts c v nothing) (program_named (no_slashes path) v.programs) (no c v) (λ p found.
      by_or (RowFacts c v nothing) (result_of (loaded p.bytes texts)) (no c v) (λ l made. by_when (RowFacts c v nothing) (nat_lt v.free (price l.image)) (no c v) (λ _.
      runs path texts p l read given found (loads (loaded p.bytes texts) l made))))))
