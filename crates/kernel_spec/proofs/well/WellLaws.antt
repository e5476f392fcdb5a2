-- Well-formed states stay so, as laws.
use Rattle.kernel_spec.proofs.Prelude.{[], ℕ, ℤ, ◌%◌, ◌*◌, ◌+◌, ◌/◌, ◌^◌, ◌∙◌, ◌∷◌, ◌≡◌, Alive, ap, Bool, cond, count_below, End, eqb_tells, Exited, file_at, FilesLeft, FinMap, fun_ext, get}
use Rattle.kernel_spec.proofs.Prelude.{gone_state, Image, inl, inr, insert, insert_some, is_some, len, len-insert, List, Live, nat_cmp, nat_cmp_total, None, on, OpenFile, Option, Page, price, Process}
use Rattle.kernel_spec.proofs.Prelude.{put_byte, put_in, Reading, refl, set, Some, some_below, State, StoresTakeNothing, sym, WellAlone, WellForked, WellFormed, WellGone, WellOutside, WellReaped}
use Rattle.kernel_spec.proofs.Prelude.{with_store, write_image, write_pages, WritesTakeNothing, Writing, written, written_page, Zombie}
use Rattle.kernel_spec.proofs.steps.OthersTableIsSeen.{OtherNames}
use Rattle.kernel_spec.proofs.well.Sums.{sum_same}
use Rattle.kernel_spec.proofs.steps.MapsAfterChange.{get_same, get_other}
use Rattle.kernel_spec.proofs.well.ForkWell as forks
use Rattle.kernel_spec.proofs.well.GoneWell as goes
use Rattle.kernel_spec.proofs.well.WaitWell as reaps
use Rattle.kernel_spec.proofs.well.StaysWell as stays
use Rattle.kernel_spec.proofs.steps.FamilyLawsHold as family

pub forked : WellForked
forked frames s p l well was room = forks.fork_well frames s well p l was room

pub reaped : WellReaped
reaped frames s p q status well zombie = reaps.reaped_well frames s well q p status zombie

pub alone : WellAlone
alone frames s p l r image c killed console free well was paid within = stays.alone_well frames s well p l was r image c killed console free paid within.typed within.sent_later

module _ (frames : ℕ) (s : State) (p : ℕ) (l : Live) (status : ℤ) (files : FinMap nat_cmp OpenFile) (well : WellFormed frames s)
    (was : get s.processes p ≡ Some (Alive l)) (left : FilesLeft s (gone_state p l status files s)) where
  other_names : (g q d : ℕ) → file_at (gone_state p l status files s) q d ≡ Some g → OtherNames s p g
  other_names g q d h = elim (eqb_tells q p) [
    | inl me ↦ absurd (family.not_mine frames s p l (Exited status) status files well was refl left d g (ap (λ (n : ℕ). file_at (gone_state p l status files s) n d) (sym me.1) ∙ h))
    | inr other ↦ (q, d, other.1, sym (family.others_same frames s p l (Exited status) status files well was refl left q d other.1) ∙ h)
  ]

  pub gone_stays : WellFormed frames (gone_state p l status files s)
  gone_stays = goes.gone_well frames s well p l was status files (family.spared frames s p l (Exited status) status files well was refl left)
      (λ g h. let n = left.named g h in other_names g n.0 n.1 n.2)

pub gone : WellGone
gone frames s p l status files well was left = gone_stays frames s p l status files well was left

-- ---- writing takes no frame: the same pages are there

abbrev there : Image → ℕ → Bool
there i = λ q. is_some (get i.pages q)

priced : (i j : Image) → there i ≡ there j → len i.pages ≡ len j.pages → price i ≡ price j
unfolding price
priced i j same many = λ k. 1 + count_below (λ t. some_below (2 ^ 18) (λ n. same k (2 ^ 18 * t + n))) 256 + count_below (λ t. some_below 512 (λ n. same k (512 * t + n))) (2 ^ 17) + many k

put_there : (i : Image) (v : ℕ) (p : Option Page) (o b : ℕ) → get i.pages v ≡ p → there (put_in i v p o b) ≡ there i
put_there i v None o b is = refl
put_there i v (Some page) o b is = fun_ext (λ q. elim (eqb_tells q v) [
  | inl e ↦ ap is_some (ap (get (insert i.pages v (record { perm = page.perm; bytes = set page.bytes o b }))) e.1
      ∙ get_same i.pages v (record { perm = page.perm; bytes = set page.bytes o b })) ∙ sym (ap is_some (ap (get i.pages) e.1 ∙ is))
  | inr e ↦ ap is_some (get_other i.pages v (record { perm = page.perm; bytes = set page.bytes o b }) q e.1)
])

put_many : (i : Image) (v : ℕ) (p : Option Page) (o b : ℕ) → get i.pages v ≡ p → len (put_in i v p o b).pages ≡ len i.pages
put_many i v None o b is = refl
put_many i v (Some page) o b is = len-insert nat_cmp_total i.pages v (record { perm = page.perm; bytes = set page.bytes o b })
    ∙ ap (λ (x : Bool). cond x (len i.pages) (len i.pages + 1)) (ap is_some is)

put_price : (i : Image) (a b : ℕ) → price (put_byte i a b) ≡ price i
put_price i a b = priced (put_byte i a b) i (put_there i (a / 4096) (get i.pages (a / 4096)) (a % 4096) b refl) (put_many i (a / 4096) (get i.pages (a / 4096)) (a % 4096) b refl)

write_price : (bytes : List ℕ) (i : Image) (a : ℕ) → price (write_image i a bytes) ≡ price i
unfolding write_image
write_price [] i a = refl
write_price (b ∷ bs) i a = write_price bs (put_byte i a b) (a + 1) ∙ put_price i a b

pub writes_take_nothing : WritesTakeNothing
writes_take_nothing image a bytes = write_price bytes image a

-- ---- what no process does

pub outside : WellOutside
outside frames s clock console h within = record {
  pids = h.pids;
  first = h.first;
  parents = λ p x is. elim (h.parents p x is) [ inl one ↦ inl one | inr has ↦ inr (record { parent = has.parent; is = has.is; other = has.other; there = has.there }) ];
  descriptors = h.descriptors;
  ends = h.ends;
  named = h.named;
  readers = λ i x is. h.readers i x is ∙ sum_same s.next_pid (λ p. on s i Reading (get s.processes p))
      (λ p. on (record s { clock = clock; console = console }) i Reading (get s.processes p)) (λ p b. same i Reading (get s.processes p));
  writers = λ i x is. h.writers i x is ∙ sum_same s.next_pid (λ p. on s i Writing (get s.processes p))
      (λ p. on (record s { clock = clock; console = console }) i Writing (get s.processes p)) (λ p b. same i Writing (get s.processes p));
  held = h.held;
  counted = h.counted;
  pipe_bytes = h.pipe_bytes;
  keys = within.typed;
  to_send = within.sent_later;
}
  where
    same : (i : ℕ) (end : End) (o : Option Process) → on s i end o ≡ on (record s { clock = clock; console = console }) i end o
    same i end None = refl
    same i end (Some (Alive l)) = refl
    same i end (Some (Zombie parent status)) = refl

-- a store writes to one page, which stays there
stored_there : (i : Image) (v : ℕ) (p : Option Page) (o : ℕ) (bytes : List ℕ) → get i.pages v ≡ p → there (record i { pages = insert_some i.pages v (written_page p o bytes) }) ≡ there i
stored_there i v None o bytes is = refl
stored_there i v (Some page) o bytes is = fun_ext (λ q. elim (eqb_tells q v) [
  | inl e ↦ ap is_some (ap (get (insert i.pages v (record page { bytes = written page.bytes o bytes }))) e.1
      ∙ get_same i.pages v (record page { bytes = written page.bytes o bytes })) ∙ sym (ap is_some (ap (get i.pages) e.1 ∙ is))
  | inr e ↦ ap is_some (get_other i.pages v (record page { bytes = written page.bytes o bytes }) q e.1)
])

stored_many : (i : Image) (v : ℕ) (p : Option Page) (o : ℕ) (bytes : List ℕ) → get i.pages v ≡ p → len (insert_some i.pages v (written_page p o bytes)) ≡ len i.pages
stored_many i v None o bytes is = refl
stored_many i v (Some page) o bytes is = len-insert nat_cmp_total i.pages v (record page { bytes = written page.bytes o bytes })
    ∙ ap (λ (x : Bool). cond x (len i.pages) (len i.pages + 1)) (ap is_some is)

pub stores_take_nothing : StoresTakeNothing
unfolding write_pages
stores_take_nothing image st = priced (with_store image st) image
    (stored_there image (st.address / 4096) (get image.pages (st.address / 4096)) (st.address % 4096) st.bytes refl)
    (stored_many image (st.address / 4096) (get image.pages (st.address / 4096)) (st.address % 4096) st.bytes refl)
