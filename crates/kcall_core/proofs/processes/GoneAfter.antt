-- A process goes: first its descriptors are closed, then it ends. Together that is its end.
use Rattle.kcall_core.proofs.Prelude.{ℕ, ℤ, ◌+◌, ◌∙◌, ◌≡◌, Alive, ap, arith, cases_eq, changed_state, empty, fewer_on_all, FinMap, freed_on_all, get, get-orphans, get_other, get_same, gone-closed}
use Rattle.kcall_core.proofs.Prelude.{gone_state, inl, inr, insert, Live, nat_cmp, nat_cmp-IsAntisymmetric, nat_cmp_total, NOFILE, OpenFile, option_map, orphan, orphans, Pipe, price, same_map, State}
use Rattle.kcall_core.proofs.Prelude.{sym, Zombie}
use Rattle.kernel_spec.specs.views.Processes.{Process}

module _ (s : State) (p : ℕ) (l : Live) (status : ℤ) (descriptors : FinMap nat_cmp ℕ) (files : FinMap nat_cmp OpenFile) (pipes : FinMap nat_cmp Pipe) (free : ℕ) where
  abbrev bare : Live
  bare = record l { descriptors = descriptors }

  -- where its descriptors are closed
  abbrev pub closed : State
  closed = changed_state p bare files pipes s.console free s

  abbrev zombie : Process
  zombie = Zombie l.parent status

  same-processes : insert (orphans p closed).processes p zombie ≡ insert (orphans p s).processes p zombie
  same-processes = same_map nat_cmp_total nat_cmp-IsAntisymmetric (insert (orphans p closed).processes p zombie) (insert (orphans p s).processes p zombie) (λ q. elim (cases_eq q p) [
    | inl e ↦ ap (get (insert (orphans p closed).processes p zombie)) e ∙ get_same (orphans p closed).processes p zombie
        ∙ sym (ap (get (insert (orphans p s).processes p zombie)) e ∙ get_same (orphans p s).processes p zombie)
    | inr apart ↦
        get_other (orphans p closed).processes p zombie q apart ∙ get-orphans p closed q ∙ ap (option_map (orphan p)) (get_other s.processes p (Alive bare) q apart) ∙ sym (get-orphans p s q)
        ∙ sym (get_other (orphans p s).processes p zombie q apart)
  ])

  pub gone-after : descriptors ≡ empty → pipes ≡ fewer_on_all s l NOFILE s.pipes → free ≡ s.free + freed_on_all s l NOFILE s.pipes
      → gone_state p bare status files closed ≡ gone_state p l status files s
  gone-after none ends frames =
      let count : free + (price l.image + 1) ≡ s.free + price l.image + 1 + freed_on_all s l NOFILE s.pipes = omega (arith, frames) in
      sym (gone-closed closed bare none p status) ∙ (λ t. record s { processes = same-processes t; files = files; pipes = ends t; free = count t })
