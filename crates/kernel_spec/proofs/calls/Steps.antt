-- What is claimed of every row, of every step: an instruction, a call in progress, and the end of a process that is marked.
use Rattle.kernel_spec.proofs.Prelude.{ℕ, ℤ, ◌/◌, ◌∙◌, ◌≡◌, ◌≢◌, after_instruction, begun, Bool, Call, call_begun, call_in, call_or_begun, Called, cond, Ecall, Exited, false, Fault, Faulted, get}
use Rattle.kernel_spec.proofs.Prelude.{going_on, Image, is_absent, may, minus_one, Next, next_instruction, None, none-some, nothing_stored, Option, or_right, Own, own, perform, pos, refl, Registers}
use Rattle.kernel_spec.proofs.Prelude.{row_of, Some, Step, Stepped, Store, stored_by_instruction, stored_by_row, stored_in, Storing, subst, sym, true, unless_killed, user, View, with_store}
use Rattle.kernel_spec.proofs.rows.Touched.{IsTouched, touched_view}
use Rattle.kernel_spec.proofs.rows.ByTouch.{by_instruction_apart}
use Rattle.kernel_spec.proofs.rows.MayStore.{instruction_may, same_begun, same_stores, store_in_page, touching_before}
use Rattle.kernel_spec.proofs.rows.KeptBytes.{store_stays}
use Rattle.kernel_spec.proofs.rows.CleanPages.{store_absent}
use Rattle.kernel_spec.proofs.rows.SetBytes.{store_there}
use Rattle.kernel_spec.proofs.calls.Images.{Images, allowed_none, images_before, images_same, nothing_empty, there_is}
use Rattle.kernel_spec.proofs.calls.Tables.{plain}
use Rattle.kernel_spec.proofs.calls.Facts.{Facts, goes_facts, gone_facts}
use Rattle.kernel_spec.proofs.calls.All.{perform_facts}

-- an instruction isn't a call
stepped_apart : (number : ℤ) (k : ℕ) → Stepped ≢ Called number (pos k)
stepped_apart number k e = let no : ⊥ = cc in no

-- a store of user code
images_store : (v : View) (r : Registers) (st : Store) → next_instruction v.regs v.image ≡ Next r (Some st) → Images st v.image (with_store v.image st)
images_store v r st made =
    let fits = store_in_page v.regs (user v.image) r st made in
    record {
      stays = λ page x y long was is. store_stays v.image st fits page x y long was is;
      new = λ page y none is. absurd (none-some y (sym (store_absent v.image st page none) ∙ is));
      told = λ all a lies.
          let page = there_is (get v.image.pages (a / 4096)) (instruction_may v.regs v.image r st made a lies) in
          store_there v.image st a page.0 fits page.1 (all (a / 4096) page.0 page.1) lies.0 lies.1;
    }

-- ---- an instruction

-- one that is no ECALL, beside any call
instruction_alone : (c : Call) (v : View) (st : Step) → next_instruction v.regs v.image ≡ st → (st ≡ Ecall → ⊥)
    → Facts c (stored_by_instruction v st (after_instruction v st).answer) v (after_instruction v st)
instruction_alone c v (Next r None) made other =
    goes_facts c nothing_stored v (after_instruction v (Next r None)) (record v { regs = r }) refl (λ exec. stepped_apart c.number exec.0 exec.2) refl
    (images_same nothing_stored v.image v.image nothing_empty (λ page. refl)) (allowed_none nothing_stored v.image nothing_empty) (λ q h. h) (λ _. plain v.descriptors)
instruction_alone c v (Next r (Some st)) made other =
    goes_facts c st v (after_instruction v (Next r (Some st))) (record v { regs = r; image = with_store v.image st }) refl (λ exec. stepped_apart c.number exec.0 exec.2) refl
    (images_store v r st made) (λ a l. or_right (is_absent v.image (a / 4096)) (may Storing v.image a) (instruction_may v.regs v.image r st made a l)) (λ q h. h) (λ _. plain v.descriptors)
instruction_alone c v Ecall made other = absurd (other refl)
instruction_alone c v (Fault cause) made other = gone_facts c nothing_stored v (Faulted cause) refl nothing_empty

module _ (v : View) where
  abbrev FactsBy : Step → Own → Type 0
  FactsBy st o = Facts (call_begun v) (stored_by_instruction v st o.answer) v o

  -- a call that begins by it
  begins : FactsBy Ecall (after_instruction v Ecall)
  begins = subst (λ (s : Store). Facts (call_begun v) s v (after_instruction v Ecall)) (same_begun v (perform (call_begun v) (begun v)).answer) (record {
    exec = h.exec;
    image = h.image;
    told = h.told;
    allowed = h.allowed;
    left = h.left;
    pids = h.pids;
    table = h.table;
    bears = h.bears;
    parent = h.parent;
    newborn = h.newborn;
  })
    where
      h : Facts (call_begun v) (stored_by_row (call_begun v) (begun v) (row_of (call_begun v).number) (perform (call_begun v) (begun v)).answer) (begun v) (perform (call_begun v) (begun v))
      h = (perform_facts (call_begun v) (begun v)).step

  instruction_facts : (st : Step) → next_instruction v.regs v.image ≡ st → FactsBy st (after_instruction v st)
  instruction_facts (Next r s) made = instruction_alone (call_begun v) v (Next r s) made (λ e. let no : ⊥ = cc in no)
  instruction_facts Ecall made = begins
  instruction_facts (Fault cause) made = instruction_alone (call_begun v) v (Fault cause) made (λ e. let no : ⊥ = cc in no)

  -- once the page that it is on came
  instruction_before : (image : Image) (free : ℕ) → IsTouched v.image image → (next_instruction v.regs image ≡ Ecall → ⊥)
      → FactsBy (next_instruction v.regs image) (after_instruction (touched_view v image free) (next_instruction v.regs image))
  instruction_before image free touched other =
      subst (λ (s : Store). Facts (call_begun v) s v o) (same_stores v image free st o.answer) (record {
        exec = λ n e done. absurd (not_call st other done.2);
        image = λ apart n e. images_before (stored_by_instruction u st o.answer) v.image image n.image touched (h.image apart n e);
        told = λ n e. (images_before (stored_by_instruction u st o.answer) v.image image n.image touched (h.image (λ exec. not_call st other exec.2) n e)).told;
        allowed = λ a l. touching_before v.image image touched a (h.allowed a l);
        left = h.left;
        pids = h.pids;
        table = h.table;
        bears = h.bears;
        parent = h.parent;
        newborn = λ child is. absurd (no_child st other child is);
      })
    where
      u : View
      u = touched_view v image free

      st : Step
      st = next_instruction v.regs image

      o : Own
      o = after_instruction u st

      h : Facts (call_begun v) (stored_by_instruction u st o.answer) u o
      h = instruction_alone (call_begun v) u st refl other

      not_call : (st : Step) → (st ≡ Ecall → ⊥) → {k : ℕ} → (after_instruction u st).answer ≡ Called (call_begun v).number (pos k) → ⊥
      not_call (Next r s) apart e = stepped_apart (call_begun v).number _ e
      not_call Ecall apart e = apart refl
      not_call (Fault cause) apart {k = k} e = let no : Faulted cause ≡ Called (call_begun v).number (pos k) = e in let bad : ⊥ = cc in bad

      no_child : (st : Step) → (st ≡ Ecall → ⊥) → (child : View) → (after_instruction u st).child ≡ Some child → ⊥
      no_child (Next r s) apart child e = none-some child e
      no_child Ecall apart child e = apart refl
      no_child (Fault cause) apart child e = none-some child e

  -- ---- a step

  going_facts : (o : Option Call) → Facts (call_or_begun v o) (stored_in v o (going_on v o).answer) v (going_on v o)
  going_facts None = by_instruction_apart FactsBy v (instruction_facts (next_instruction v.regs v.image) refl) instruction_before
  going_facts (Some c) = (perform_facts c v).step

  unless_facts : (b : Bool) → Facts (call_in v) (cond b nothing_stored (stored_in v v.call (unless_killed v b).answer)) v (unless_killed v b)
  unless_facts true = gone_facts (call_in v) nothing_stored v (Exited minus_one) refl nothing_empty
  unless_facts false = going_facts v.call

  pub own_facts : Facts (call_in v) (cond v.killed nothing_stored (stored_in v v.call (own v).answer)) v (own v)
  unfolding own
  own_facts = unless_facts v.killed
