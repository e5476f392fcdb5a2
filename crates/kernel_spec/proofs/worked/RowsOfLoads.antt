-- Worked cases of instructions on absent pages. Page 2 is absent, and what the image costs is given; the word at 40 is what is fetched.
use Rattle.kernel_spec.proofs.Prelude.{[], ℕ, ◌∙◌, ◌∷◌, ◌≡◌, address_used, after_instruction, ap, before_instruction, brought, by_opcode, bytes_at, Cause, data_address, decoded, false, Fault, Faulted}
use Rattle.kernel_spec.proofs.Prelude.{fetched, FetchPageFault, fresh, get, goes_on, gone, Image, instr, instruction_now, instruction_row as row, is_absent, Load, load_op, load_row, load_value}
use Rattle.kernel_spec.proofs.Prelude.{LoadMisaligned, LoadPageFault, Next, next_instruction, None, nothing_stored, Ok, Own, own, page_used, price, put, refl, Registers, Some, Stepped, Store}
use Rattle.kernel_spec.proofs.Prelude.{store_op, store_row, stored_by, stored_by_instruction, StoreInstr, StorePageFault, touch, true, user, View, with_pc, with_store, zero_frame}
use Rattle.rv64i_core.specs.Memory.{storing, loaded}
use Rattle.rv64i_core.specs.declared.instruction.LoadOp.TheVariants.{Ld, Lw}
use Rattle.rv64i_core.specs.declared.instruction.StoreOp.TheVariants.{Sb}
use Rattle.kernel_spec.proofs.memory.OnAbsent.{before_same, before_touched, before_untouched, brought-one, page_not_on_absent, same_word, is_on_absent}
use Rattle.kernel_spec.proofs.rows.Settled.{absent-not-there}
use Rattle.kernel_spec.proofs.worked.WorkedViews.{call, in_call}

-- ---- three words: `ld a0, 0(a1)`, `sb a2, 0(a1)` and `lw a0, 1(a1)`

ld_word : decoded 0x0005B503 ≡ Some (Load Ld 10 11 0)
unfolding decoded by_opcode load_row load_op
ld_word = refl

sb_word : decoded 0x00C58023 ≡ Some (StoreInstr Sb 11 12 0)
unfolding decoded by_opcode store_row store_op
sb_word = refl

lw_word : decoded 0x0015A503 ≡ Some (Load Lw 10 11 1)
unfolding decoded by_opcode load_row load_op
lw_word = refl

-- the pc is 40, a0 is 5, a1 the first address of page 2, and a2 is 7
abbrev regs : Registers
regs = put (put (put (fresh 40) 10 5) 11 8192) 12 7

module _ (image : Image) where
  -- a process between two calls, with so many free frames
  between : ℕ → View
  unfolding in_call
  between free = record (in_call image (call 0 0 0 0)) { call = None; regs = regs; free = free }

  -- what a step comes to, from the view in which its instruction is done
  step_from : View → Own
  step_from v = after_instruction v (next_instruction v.regs v.image)

  own_from : (free : ℕ) → own (between free) ≡ step_from (before_instruction (between free))
  unfolding own between in_call step_from
  own_from free = refl

  module _ (absent : is_absent image 2 ≡ true) where
    abbrev after : Image
    after = brought (2 ∷ []) image

    none : get image.pages 2 ≡ None
    none = absent-not-there image 2 absent

    module _ (fetches : fetched (user image) 40 ≡ Ok 0x0005B503) where
      -- the load faults on page 2
      ld_faults : next_instruction regs image ≡ Fault LoadPageFault
      unfolding instr decoded by_opcode load_row load_op row loaded bytes_at user
      ld_faults = rw (fetches, none) refl

      ld_page : page_used regs image ≡ 2
      unfolding address_used decoded by_opcode load_row load_op data_address
      ld_page = rw fetches refl

      ld_on_absent : is_on_absent regs image ≡ true
      unfolding is_on_absent
      ld_on_absent = rw (ld_faults, ld_page, absent) refl

      -- where it is there: eight zeros
      ld_done : next_instruction regs after ≡ Next (with_pc (put regs 10 0) 44) None
      unfolding instr decoded by_opcode load_row load_op load_value row loaded bytes_at user zero_frame
      ld_done = rw (same_word (2 ∷ []) image 40 0x0005B503 fetches, brought-one 2 image absent) refl

      module _ (old : price image ≡ 6) (new : price after ≡ 7) where
        -- the page comes, for the last free frame
        ld_before : before_instruction (between 1) ≡ record (between 0) { image = after }
        unfolding between in_call touch
        ld_before = before_touched (between 1) (record (between 0) { image = after }) ld_on_absent (rw (ld_page, absent, new, old) refl)

        -- and the load is done: a0 is 0, and the pc moves on
        ld_step : own (between 1) ≡ goes_on Stepped (record (between 0) { image = after; regs = with_pc (put regs 10 0) 44 })
        unfolding between in_call step_from
        ld_step = own_from 1 ∙ ap step_from ld_before ∙ ap (after_instruction (record (between 0) { image = after })) ld_done

        ld_now : instruction_now (between 1) ≡ Next (with_pc (put regs 10 0) 44) None
        unfolding between in_call
        ld_now = ap (λ (w : View). next_instruction w.regs w.image) ld_before ∙ ld_done

        -- it stores nothing
        ld_stores : stored_by (between 1) ≡ nothing_stored
        unfolding between in_call
        ld_stores = ap (λ s. stored_by_instruction (between 1) s (own (between 1)).answer) ld_now

        -- no frame is free: nothing comes, and it faults
        ld_untouched : before_instruction (between 0) ≡ between 0
        unfolding between in_call touch
        ld_untouched = before_untouched (between 0) (rw (ld_page, absent, new, old) refl)

        ld_gone : own (between 0) ≡ gone (Faulted LoadPageFault) (between 0)
        unfolding between in_call step_from
        ld_gone = own_from 0 ∙ ap step_from ld_untouched ∙ ap (after_instruction (between 0)) ld_faults

    module _ (fetches : fetched (user image) 40 ≡ Ok 0x00C58023) where
      sb_faults : next_instruction regs image ≡ Fault StorePageFault
      unfolding instr decoded by_opcode store_row store_op row storing bytes_at user
      sb_faults = rw (fetches, none) refl

      sb_page : page_used regs image ≡ 2
      unfolding address_used decoded by_opcode store_row store_op data_address
      sb_page = rw fetches refl

      sb_on_absent : is_on_absent regs image ≡ true
      unfolding is_on_absent
      sb_on_absent = rw (sb_faults, sb_page, absent) refl

      abbrev seven : Store
      seven = record { address = 8192; bytes = 7 ∷ [] }

      sb_done : next_instruction regs after ≡ Next (with_pc regs 44) (Some seven)
      unfolding instr decoded by_opcode store_row store_op row storing bytes_at user
      sb_done = rw (same_word (2 ∷ []) image 40 0x00C58023 fetches, brought-one 2 image absent) refl

      module _ (old : price image ≡ 6) (new : price after ≡ 7) where
        sb_before : before_instruction (between 1) ≡ record (between 0) { image = after }
        unfolding between in_call touch
        sb_before = before_touched (between 1) (record (between 0) { image = after }) sb_on_absent (rw (sb_page, absent, new, old) refl)

        -- the byte is stored into the page that came
        sb_step : own (between 1) ≡ goes_on Stepped (record (between 0) { image = with_store after seven; regs = with_pc regs 44 })
        unfolding between in_call step_from
        sb_step = own_from 1 ∙ ap step_from sb_before ∙ ap (after_instruction (record (between 0) { image = after })) sb_done

        sb_now : instruction_now (between 1) ≡ Next (with_pc regs 44) (Some seven)
        unfolding between in_call
        sb_now = ap (λ (w : View). next_instruction w.regs w.image) sb_before ∙ sb_done

        -- which is told
        sb_stores : stored_by (between 1) ≡ record { address = 8192; bytes = 7 ∷ [] }
        unfolding between in_call
        sb_stores = ap (λ s. stored_by_instruction (between 1) s (own (between 1)).answer) sb_now

        sb_untouched : before_instruction (between 0) ≡ between 0
        unfolding between in_call touch
        sb_untouched = before_untouched (between 0) (rw (sb_page, absent, new, old) refl)

        sb_gone : own (between 0) ≡ gone (Faulted StorePageFault) (between 0)
        unfolding between in_call step_from
        sb_gone = own_from 0 ∙ ap step_from sb_untouched ∙ ap (after_instruction (between 0)) sb_faults

        -- where it faults it stores nothing
        sb_stores_nothing : stored_by (between 0) ≡ nothing_stored
        unfolding between in_call
        sb_stores_nothing = ap (λ s. stored_by_instruction (between 0) s (own (between 0)).answer) (ap (λ (w : View). next_instruction w.regs w.image) sb_untouched ∙ sb_faults)

  -- ---- what touches nothing, with frames to spare

  -- a load that faults with this cause, before its page is touched
  faulting : (cause : Cause) → before_instruction (between 9) ≡ between 9 → next_instruction regs image ≡ Fault cause → own (between 9) ≡ gone (Faulted cause) (between 9)
  unfolding between in_call step_from
  faulting cause before is = own_from 9 ∙ ap step_from before ∙ ap (after_instruction (between 9)) is

  -- a misaligned load at 8193, whatever its page
  module _ (fetches : fetched (user image) 40 ≡ Ok 0x0015A503) where
    lw_faults : next_instruction regs image ≡ Fault LoadMisaligned
    unfolding instr decoded by_opcode load_row load_op row loaded
    lw_faults = rw fetches refl

    lw_untouched : before_instruction (between 9) ≡ between 9
    unfolding between in_call
    lw_untouched = rw lw_faults refl

    lw_gone : own (between 9) ≡ gone (Faulted LoadMisaligned) (between 9)
    lw_gone = faulting LoadMisaligned lw_untouched lw_faults

  -- a fetch from an absent page
  module _ (absent : is_absent image 0 ≡ true) where
    fetch_faults : next_instruction regs image ≡ Fault FetchPageFault
    unfolding instr fetched bytes_at user
    fetch_faults = rw (absent-not-there image 0 absent) refl

    fetch_untouched : before_instruction (between 9) ≡ between 9
    unfolding between in_call
    fetch_untouched = rw fetch_faults refl

    fetch_gone : own (between 9) ≡ gone (Faulted FetchPageFault) (between 9)
    fetch_gone = faulting FetchPageFault fetch_untouched fetch_faults

  -- a load from a page that is neither there nor absent, as one past the size
  module _ (past : is_absent image 2 ≡ false) (none : get image.pages 2 ≡ None) (fetches : fetched (user image) 40 ≡ Ok 0x0005B503) where
    past_faults : next_instruction regs image ≡ Fault LoadPageFault
    unfolding instr decoded by_opcode load_row load_op row loaded bytes_at user
    past_faults = rw (fetches, none) refl

    past_page : page_used regs image ≡ 2
    unfolding address_used decoded by_opcode load_row load_op data_address
    past_page = rw fetches refl

    past_untouched : before_instruction (between 9) ≡ between 9
    unfolding between in_call
    past_untouched = before_same (between 9) (page_not_on_absent regs image (ap (is_absent image) past_page ∙ past))

    past_gone : own (between 9) ≡ gone (Faulted LoadPageFault) (between 9)
    past_gone = faulting LoadPageFault past_untouched past_faults
