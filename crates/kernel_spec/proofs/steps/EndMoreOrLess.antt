-- Dup and close of a descriptor on a pipe.
use Rattle.kernel_spec.proofs.Prelude.{ℕ, ◌&&◌, ◌+◌, ◌<◌, ◌∙◌, ◌≡◌, ◌≢◌, ◌≤◌, ap, arith, Bool, change_pipe, changed, cond, count_below, Descriptor, Descriptors, End, eq-eqb, eqb_tells, false, File}
use Rattle.kernel_spec.proofs.Prelude.{get, inl, inr, is_given_up, is_this, joined, least_on_pipe, Live, named, names_given_up, nat_eq, NOFILE, None, numbered, one_less_on, one_more_on, OpenFile}
use Rattle.kernel_spec.proofs.Prelude.{Option, option_map, or_gone, parted, Pipe, Pipe_end, pipe_name, pipe_of_target, pipes_given_up, refl, rename, set_pipe, Shown_pipe, Some, State, suc, sym}
use Rattle.kernel_spec.proofs.Prelude.{Target, Terminal, unwrap_or, zero}
use Rattle.kernel_spec.proofs.steps.SeenByParts.{pipe_of_file, pipe_of_open, descriptor_at, descriptor_on}
use Rattle.kernel_spec.proofs.steps.LeastPasses.{least_passes}
use Rattle.kernel_spec.proofs.steps.NamesAreChosenAgain.{choice, named_at}
use Rattle.kernel_spec.proofs.steps.OnePipeChanges.{numbered_set, named_change}
use Rattle.kernel_spec.proofs.steps.ClosingCountsDown.{name_of_pipe}
use Rattle.kernel_spec.proofs.Common.{count_below-same, this_is}

-- dup: the pipe has one descriptor more
pub more_here : (s : State) (old : Live) (i k : ℕ) (end : End) (x : Pipe) → least_on_pipe (numbered s old) i ≡ Some k
    → one_more_on (Shown_pipe k end x) (named (numbered s old)) ≡ named (numbered (set_pipe i (joined x end 1) s) old)
more_here s old i k end x names = sym (ap named (numbered_set s i (joined x end 1) old) ∙ named_change (numbered s old) i k (joined x end 1) names)

-- close: the pipe has one descriptor fewer
pub less_here : (s : State) (old : Live) (i k : ℕ) (end : End) (x : Pipe) → least_on_pipe (numbered s old) i ≡ Some k
    → one_less_on (Shown_pipe k end x) (named (numbered s old)) ≡ named (change_pipe i (parted x end 1) (numbered s old))
less_here s old i k end x names = sym (named_change (numbered s old) i k (parted x end 1) names)

-- ---- how many pipes that gives up

count_none : (n k : ℕ) (b : Bool) → n ≤ k → count_below (λ d. nat_eq d k && b) n ≡ 0
unfolding count_below
count_none zero k b h = refl
count_none (suc n) k b h = (λ i. count_none n k b (omega arith) i + cond (apart i && b) 1 0)
  where
    apart : nat_eq n k ≡ false
    apart = elim (eqb_tells n k) [ inl e ↦ let same : n ≡ k = e.1 in absurd (omega arith) | inr e ↦ e.0 ]

count_one : (n k : ℕ) (b : Bool) → k < n → count_below (λ d. nat_eq d k && b) n ≡ cond b 1 0
unfolding count_below
count_one zero k b h = absurd (omega arith)
count_one (suc n) k b h = elim (eqb_tells n k) [
  | inl e ↦ let same : n ≡ k = e.1 in (λ i. count_none n k b (omega arith) i + cond (e.0 i && b) 1 0) ∙ (let z : ℕ = cond b 1 0 in let g : 0 + z ≡ z = omega arith in g)
  | inr e ↦ let apart : n ≢ k = e.1 in (λ i. count_one n k b (omega arith) i + cond (e.0 i && b) 1 0) ∙ (let z : ℕ = cond b 1 0 in let g : z + 0 ≡ z = omega arith in g)
]

module _ (s : State) (old : Live) (i k : ℕ) (y : Pipe) (names : least_on_pipe (numbered s old) i ≡ Some k)
    (held : (d j : ℕ) → pipe_of_file s (get old.descriptors d) ≡ Some j → is_given_up (or_gone (get s.pipes j)) ≡ false) where
  abbrev T : Descriptors
  T = numbered s old

  abbrev name : ℕ → ℕ
  name j = choice (λ d. pipe_name (T d)) j

  name_i : name i ≡ k
  name_i = ap (λ (o : Option ℕ). unwrap_or o i) names

  k_below : k < NOFILE
  k_below = (least_passes NOFILE (λ d. is_this i (pipe_name (T d))) k names).1

  k_on : pipe_of_file s (get old.descriptors k) ≡ Some i
  k_on = sym (name_of_pipe s old (get old.descriptors k)) ∙ this_is i (pipe_name (T k)) (least_passes NOFILE (λ d. is_this i (pipe_name (T d))) k names).0

  abbrev now : ℕ → Pipe → Pipe
  now n pipe = cond (nat_eq n k) y pipe

  -- a descriptor's part of the count, by the pipe it is on
  abbrev part : ℕ → Option ℕ → Bool
  part d None = false
  part d (Some j) = nat_eq (name j) d && is_given_up (now (name j) (or_gone (get s.pipes j)))

  part_target : (d g : ℕ) (r w : Bool) (x : Target) → names_given_up d
      (changed now (option_map (rename T) (descriptor_on s g (Some (record { read = r; write = w; target = x }))))) ≡ part d (pipe_of_target x)
  part_target d g r w Terminal = refl
  part_target d g r w (File program offset) = refl
  part_target d g r w (Pipe_end j end) = refl

  part_open : (d g : ℕ) (o : Option OpenFile) → names_given_up d (changed now (option_map (rename T) (descriptor_on s g o))) ≡ part d (pipe_of_open o)
  part_open d g None = refl
  part_open d g (Some x) = part_target d g x.read x.write x.target

  part_place : (d : ℕ) (o : Option ℕ) → names_given_up d (changed now (option_map (rename T) (descriptor_at s o))) ≡ part d (pipe_of_file s o)
  part_place d None = refl
  part_place d (Some g) = part_open d g (get s.files g)

  fall : (b c : Bool) → b ≡ false → false ≡ (b && c)
  fall b c e = ap (λ (z : Bool). z && c) (sym e)

  not_k : (d : ℕ) → pipe_of_file s (get old.descriptors d) ≢ Some i → nat_eq d k ≡ false
  not_k d off = elim (eqb_tells d k) [ inl e ↦ absurd (off (ap (λ (n : ℕ). pipe_of_file s (get old.descriptors n)) e.1 ∙ k_on)) | inr e ↦ e.0 ]

  part_is : (d : ℕ) (o : Option ℕ) → pipe_of_file s (get old.descriptors d) ≡ o → part d o ≡ (nat_eq d k && is_given_up y)
  part_is d None on = fall (nat_eq d k) (is_given_up y) (not_k d (λ e. let no : ⊥ = cc in no))
  part_is d (Some j) on = elim (eqb_tells (name j) d) [
    | inl here ↦ elim (eqb_tells d k) [
      | inl at_k ↦
          (λ q. here.0 q && is_given_up (cond (eq-eqb (name j) k (here.1 ∙ at_k.1) q) y (or_gone (get s.pipes j))))
          ∙ ap (λ (b : Bool). b && is_given_up y) (sym at_k.0)
      | inr other ↦
          (λ q. here.0 q && is_given_up (cond (apart (name j) (λ e. other.1 (sym here.1 ∙ e)) q) y (or_gone (get s.pipes j))))
          ∙ held d j on ∙ fall (nat_eq d k) (is_given_up y) other.0
    ]
    | inr away ↦ ap (λ (b : Bool). b && is_given_up (now (name j) (or_gone (get s.pipes j)))) away.0 ∙ fall (nat_eq d k) (is_given_up y) (elim (eqb_tells d k) [
      | inl at_k ↦
          let ji : Some j ≡ Some i = sym on ∙ ap (λ (n : ℕ). pipe_of_file s (get old.descriptors n)) at_k.1 ∙ k_on in
          let same : j ≡ i = cc in
          absurd (away.1 (ap name same ∙ name_i ∙ sym at_k.1))
      | inr other ↦ other.0
    ])
  ]
    where
      apart : (n : ℕ) → n ≢ k → nat_eq n k ≡ false
      apart n h = elim (eqb_tells n k) [ inl e ↦ absurd (h e.1) | inr e ↦ e.0 ]

  pub frees_here : pipes_given_up (named (change_pipe i y (numbered s old))) ≡ cond (is_given_up y) 1 0
  frees_here =
      ap pipes_given_up (named_change (numbered s old) i k y names)
      ∙ count_below-same NOFILE (λ d. names_given_up d (change_pipe k y (named T) d)) (λ d. nat_eq d k && is_given_up y)
      (λ d below. ap (λ (o : Option Descriptor). names_given_up d (changed now o)) (named_at T d below) ∙ part_place d (get old.descriptors d)
      ∙ part_is d (pipe_of_file s (get old.descriptors d)) refl)
      ∙ count_one NOFILE k (is_given_up y) k_below
