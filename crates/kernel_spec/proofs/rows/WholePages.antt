-- Every page of a process's memory has 4,096 bytes, after each step.
use Rattle.kernel_spec.proofs.Prelude.{ℕ, ℤ, ◌*◌, ◌+◌, ◌∙◌, ◌≡◌, ◌⊎◌, addresses, aligned, Answer, ap, ArgsTooLong, Blocked, Bool, Call, call_in, Called, cond, Decides-int_eq, end_after, Err, Exec}
use Rattle.kernel_spec.proofs.Prelude.{ExecError, Exited, false, Faulted, gathered-get, get, HasWholePages, if◌then◌else◌, inl, inr, int_eq, IsExecDone, length, length-map-range_with_len, List}
use Rattle.kernel_spec.proofs.Prelude.{Loaded, loaded, nat_lt, negsuc, None, Ok, Option, option_map, Own, own, Page, page_by, page_count, page_perm, pos, program_image, refl, Result, Rights, Row}
use Rattle.kernel_spec.proofs.Prelude.{row_of, same_Some, segments_over, Some, stack_over, stack_pointer, Stepped, subst, sym, true, View, with_texts, zeros}
use Rattle.xk_base.specs.Loaded.{◌>>=◌}
use Rattle.xk_base.specs.ProgramFile.{page_up, header_of, segments_of}
use Rattle.xk_base.specs.declared.program.Header.{Header}
use Rattle.xk_base.specs.declared.program.Segment.{Segment}
use Rattle.kernel_spec.proofs.rows.NewPages.{no_old_byte, same_lengths}

-- ---- a program in memory

whole_page : (byte : ℕ → ℕ) (perm : Rights) (v : ℕ) → length (page_by byte v perm).bytes ≡ 4096
unfolding addresses
whole_page byte perm v = length-map-range_with_len byte (4096 * v) 4096

whole_image : (file : List ℕ) (segments : List Segment) (texts : List (List ℕ)) → HasWholePages (program_image file segments texts)
unfolding program_image
whole_image file segments texts page x is = by (nat_lt page (page_count (s + 8192))) (page_perm segments s page)
    (sym (gathered-get (λ v. option_map (page_by bytes v) (page_perm segments s v)) (page_count (s + 8192)) page) ∙ is)
  where
    s : ℕ
    s = page_up (end_after 0 segments)

    bytes : ℕ → ℕ
    bytes = stack_over (s + 8192) texts (segments_over file segments zeros)

    by : (b : Bool) (perm : Option Rights) → cond b (option_map (page_by bytes page) perm) None ≡ Some x → length x.bytes ≡ 4096
    by true (Some perm) e = ap (λ (p : Page). length p.bytes) (sym (same_Some (page_by bytes page perm) x e)) ∙ whole_page bytes perm page
    by true None e = let no : ⊥ = cc in absurd no
    by false perm e = let no : ⊥ = cc in absurd no

pub bound : {A B : Type 0} (r : Result A ExecError) (f : A → Result B ExecError) (b : B) → (r >>= f) ≡ Ok b → (a : A) × (r ≡ Ok a) × (f a ≡ Ok b)
bound (Ok a) f b e = (a, refl, e)
bound (Err x) f b e = absurd (cc)

picked : (b : Bool) (x l : Loaded) → (if b then Err ArgsTooLong else Ok x) ≡ Ok l → x ≡ l
picked true x l e = absurd (cc)
picked false x l e = cc

whole_texts : (file : List ℕ) (header : Header) (texts : List (List ℕ)) (segments : List Segment) (l : Loaded) → with_texts file header texts segments ≡ Ok l → HasWholePages l.image
whole_texts file header texts segments l e =
    let s = page_up (end_after 0 segments) in
    let sp = stack_pointer (s + 8192) texts in
    let made : Loaded = record { image = program_image file segments texts; pc = aligned header.entry; sp = sp; argc = length texts } in
    subst (λ (x : Loaded). HasWholePages x.image) (picked (nat_lt sp (s + 4096)) made l e) (whole_image file segments texts)

pub loaded_whole : (file : List ℕ) (texts : List (List ℕ)) (l : Loaded) → loaded file texts ≡ Ok l → HasWholePages l.image
loaded_whole file texts l e =
    let header = bound (header_of file) (λ h. segments_of file h >>= with_texts file h texts) l e in
    let segments = bound (segments_of file header.0) (with_texts file header.0 texts) l header.2 in
    whole_texts file header.0 texts segments.0 l segments.2

-- ---- whether a step is an exec that succeeded

abbrev is_exec : Option Row → Bool
is_exec (Some Exec) = true
is_exec _ = false

exec_row : (r : Option Row) → (r ≡ Some Exec) ⊎ (is_exec r ≡ false)
exec_row (Some Exec) = inl refl
exec_row _ = inr refl

abbrev Succeeds : ℤ → Answer → Type 0
Succeeds number answer = (k : ℕ) × (answer ≡ Called number (pos k))

called_number : (a b : ℤ) (x : ℤ) (k : ℕ) → Called a x ≡ Called b (pos k) → a ≡ b
called_number a b x k e = cc

succeeds_or_not : (number : ℤ) (answer : Answer) → Succeeds number answer ⊎ ¬ Succeeds number answer
succeeds_or_not number Stepped = inr (λ h. let e : Stepped ≡ Called number (pos h.0) = h.1 in let no : ⊥ = cc in no)
succeeds_or_not number (Called n (pos k)) = by (int_eq n number) refl
  where
    by : (b : Bool) → int_eq n number ≡ b → Succeeds number (Called n (pos k)) ⊎ ¬ Succeeds number (Called n (pos k))
    by true same = inl (k, ap (λ (z : ℤ). Called z (pos k)) ((Decides-int_eq n number).0 same))
    by false apart = inr (λ h. let no : true ≡ false = sym ((Decides-int_eq n number).1 (called_number n number (pos k) h.0 h.1)) ∙ apart in let bad : ⊥ = cc in bad)
succeeds_or_not number (Called n (negsuc k)) = inr (λ h. let e : Called n (negsuc k) ≡ Called number (pos h.0) = h.1 in let no : ⊥ = cc in no)
succeeds_or_not number (Blocked n) = inr (λ h. let e : Blocked n ≡ Called number (pos h.0) = h.1 in let no : ⊥ = cc in no)
succeeds_or_not number (Exited status) = inr (λ h. let e : Exited status ≡ Called number (pos h.0) = h.1 in let no : ⊥ = cc in no)
succeeds_or_not number (Faulted cause) = inr (λ h. let e : Faulted cause ≡ Called number (pos h.0) = h.1 in let no : ⊥ = cc in no)

pub exec_or_not : (c : Call) (o : Own) → IsExecDone c o ⊎ ¬ IsExecDone c o
exec_or_not c o = elim (exec_row (row_of c.number)) [
  | inl exec ↦ elim (succeeds_or_not c.number o.answer) [
    | inl done ↦ inl (done.0, exec, done.1)
    | inr apart ↦ inr (λ h. apart (h.0, h.2))
  ]
  | inr other ↦ inr (λ h. let no : true ≡ false = sym (ap is_exec h.1) ∙ other in let bad : ⊥ = cc in bad)
]

-- ---- a step

pub own_whole : (v n : View) → HasWholePages v.image → (own v).next ≡ Some n → HasWholePages n.image
own_whole v n whole next page y is = elim (exec_or_not (call_in v) (own v)) [
  | inl done ↦ let made = (no_old_byte v n next).0 done in by_exec made.3 made.9 (loaded_whole made.2.bytes made.1 made.3 made.8) page y is
  | inr apart ↦ by (get v.image.pages page) refl apart
]
  where
    by_exec : (l : Loaded) → n.image ≡ l.image → HasWholePages l.image → HasWholePages n.image
    by_exec l same h = subst HasWholePages (sym same) h

    by : (o : Option Page) → get v.image.pages page ≡ o → ¬ IsExecDone (call_in v) (own v) → length y.bytes ≡ 4096
    by None was apart = ((no_old_byte v n next).1 apart page y (was, is)).0
    by (Some x) was apart = same_lengths v n whole next apart page x y was is ∙ whole page x was
