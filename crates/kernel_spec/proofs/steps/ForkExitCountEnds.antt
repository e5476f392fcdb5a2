-- Fork and exit change every pipe that the process names, by the number of its descriptors on each end.
use Rattle.kernel_spec.proofs.Prelude.{ℕ, ◌&&◌, ◌<◌, ◌∙◌, ◌≡◌, all_closed, ap, Bool, change_pipes, change_shown, changed, cond, Descriptor, Descriptors, doubled, End, ends, false, fun_ext, is_end}
use Rattle.kernel_spec.proofs.Prelude.{is_this, joined, least_below, ltb-true, named, nat_lt, NOFILE, None, on_end, Option, option_map, parted, Pipe, pipe_name, Reading, refl, rename, rename_shown}
use Rattle.kernel_spec.proofs.Prelude.{Shown, Shown_file, shown_on_end, Shown_pipe, shown_pipe_name, Shown_terminal, Some, sym, true, unwrap_or, Writing}
use Rattle.kernel_spec.proofs.steps.OnePipeChanges.{file_name_kept, pipe_name_kept}
use Rattle.kernel_spec.proofs.steps.NamesAreChosenAgain.{same_names, choice, named_at}
use Rattle.kernel_spec.proofs.Common.{count_below-same}

-- ---- names, and a change of every pipe

module _ (t : Descriptors) (f g : ℕ → Pipe → Pipe) (agree : (d j : ℕ) → d < NOFILE → pipe_name (t d) ≡ Some j → (x : Pipe) → f j x ≡ g (choice (λ e. pipe_name (t e)) j) x) where
  shown_changes : (d : ℕ) → d < NOFILE → (x : Shown) → pipe_name (t d) ≡ shown_pipe_name x → rename_shown (change_pipes f t) (change_shown f x) ≡ change_shown g (rename_shown t x)
  shown_changes d below Shown_terminal on = refl
  shown_changes d below (Shown_file program offset) on = refl
  shown_changes d below (Shown_pipe j end pipe) on =
      λ i. Shown_pipe (unwrap_or (least_below (λ e. is_this j (pipe_name_kept f (t e) i)) NOFILE) j) end (agree d j below on pipe i)

  place_changes : (d : ℕ) → d < NOFILE → (o : Option Descriptor) → t d ≡ o → option_map (rename (change_pipes f t)) (changed f o) ≡ changed g (option_map (rename t) o)
  place_changes d below None e = refl
  place_changes d below (Some x) e = λ i. Some (record x
      { file = unwrap_or (least_below (λ c. is_this x.file (file_name_kept f (t c) i)) NOFILE) x.file; shown = shown_changes d below x.shown (ap pipe_name e) i })

  range_changes : (d : ℕ) (b : Bool) → nat_lt d NOFILE ≡ b → cond b (option_map (rename (change_pipes f t)) (changed f (t d))) None ≡ changed g (cond b (option_map (rename t) (t d)) None)
  range_changes d true e = place_changes d (ltb-true d NOFILE e) (t d) refl
  range_changes d false e = refl

  pub named_changes : named (change_pipes f t) ≡ change_pipes g (named t)
  unfolding named
  named_changes = fun_ext (λ d. range_changes d (nat_lt d NOFILE) refl)

-- ---- how many descriptors are on an end, by either name

module _ (t : Descriptors) (d j : ℕ) (below : d < NOFILE) (on : pipe_name (t d) ≡ Some j) (end : End) where
  shown_either : (e : ℕ) → e < NOFILE → (x : Shown) → pipe_name (t e) ≡ shown_pipe_name x → shown_on_end (choice (λ c. pipe_name (t c)) j) end (rename_shown t x) ≡ shown_on_end j end x
  shown_either e b Shown_terminal is = refl
  shown_either e b (Shown_file program offset) is = refl
  shown_either e b (Shown_pipe n other pipe) is = ap (λ (q : Bool). q && is_end end other) (same_names (λ c. pipe_name (t c)) d e below b (Some j) (Some n) on is)

  place_either : (e : ℕ) → e < NOFILE → (o : Option Descriptor) → t e ≡ o → on_end (choice (λ c. pipe_name (t c)) j) end (option_map (rename t) o) ≡ on_end j end o
  place_either e b None is = refl
  place_either e b (Some x) is = shown_either e b x.shown (ap pipe_name is)

  pub ends_either : ends t j end ≡ ends (named t) (choice (λ c. pipe_name (t c)) j) end
  ends_either = sym (count_below-same NOFILE (λ e. on_end (choice (λ c. pipe_name (t c)) j) end (named t e)) (λ e. on_end j end (t e))
      (λ e b. ap (on_end (choice (λ c. pipe_name (t c)) j) end) (named_at t e b) ∙ place_either e b (t e) refl))

-- ---- fork, and exit

pub named_doubled : (t : Descriptors) → named (doubled t) ≡ doubled (named t)
named_doubled t = named_changes t
    (λ name pipe. joined (joined pipe Reading (ends t name Reading)) Writing (ends t name Writing))
    (λ name pipe. joined (joined pipe Reading (ends (named t) name Reading)) Writing (ends (named t) name Writing))
    (λ d j below on x i. joined (joined x Reading (ends_either t d j below on Reading i)) Writing (ends_either t d j below on Writing i))

pub named_all_closed : (t : Descriptors) → named (all_closed t) ≡ all_closed (named t)
named_all_closed t = named_changes t
    (λ name pipe. parted (parted pipe Reading (ends t name Reading)) Writing (ends t name Writing))
    (λ name pipe. parted (parted pipe Reading (ends (named t) name Reading)) Writing (ends (named t) name Writing))
    (λ d j below on x i. parted (parted x Reading (ends_either t d j below on Reading i)) Writing (ends_either t d j below on Writing i))
