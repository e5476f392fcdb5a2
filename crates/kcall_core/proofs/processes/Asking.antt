-- The program that a process asks exec for.
use Rattle.kcall_core.proofs.Prelude.{[], ℕ, ◌%◌, ◌++◌, ◌+◌, ◌-◌, ◌<◌, ◌>>=◌, ◌∙◌, ◌∷◌, ◌≡◌, ◌≢◌, ◌≤◌, aligned, ap, ARG_BYTES, ArgsTooLong, arith, Asks, Bool, bytes_eq, cond, down, drop, end_after}
use Rattle.kcall_core.proofs.Prelude.{eq-eqb, Err, ExecError, false, find, if◌then◌else◌, Image, length, length-append, List, Loaded, loaded, lowest, ltb-false, map, MAXARG, MAXPATH, named_file}
use Rattle.kcall_core.proofs.Prelude.{nat_lt, ne_eqb, no_slashes, None, none-some, Ok, Option, option_map, Program, program_image, program_named, ProgramFile, refl, Result, slice_index, Some}
use Rattle.kcall_core.proofs.Prelude.{stack_pointer, suc, sym, terminated, text_at, text_places, texts_at, true, with_texts, zero}
use Rattle.xk_base.specs.declared.program.Header.{Header}
use Rattle.xk_base.specs.declared.program.Segment.{Segment}
use Rattle.xk_base.specs.ProgramFile.{page_up, header_of, segments_of}
use Rattle.kernel_spec.proofs.rows.WholePages.{bound}

-- ---- names

pub slashes-gone : (xs : List ℕ) (k : ℕ) → k < length xs → slice_index xs k ≢ 47 → ((j : ℕ) → j < k → slice_index xs j ≡ 47) → drop k xs ≡ no_slashes xs
unfolding no_slashes
slashes-gone [] k lt ne all = absurd (omega (arith, lt))
slashes-gone (x ∷ xs) zero lt ne all = sym (ap (λ b. cond b (no_slashes xs) (x ∷ xs)) (ne_eqb x 47 ne))
slashes-gone (x ∷ xs) (suc k) lt ne all =
    slashes-gone xs k (omega (arith, lt)) ne (λ j below. all (suc j) (omega (arith, below))) ∙ sym (ap (λ b. cond b (no_slashes xs) (x ∷ xs)) (eq-eqb x 47 (all 0 (omega arith))))

pub slashes-only : (xs : List ℕ) → ((j : ℕ) → j < length xs → slice_index xs j ≡ 47) → [] ≡ no_slashes xs
unfolding no_slashes
slashes-only [] all = refl
slashes-only (x ∷ xs) all = slashes-only xs (λ j below. all (suc j) (omega (arith, below))) ∙ sym (ap (λ b. cond b (no_slashes xs) (x ∷ xs)) (eq-eqb x 47 (all 0 (omega arith))))

-- ---- programs

either : (b : Bool) (p : Program) (rest : Option Program) (rest' : Option ProgramFile) → option_map named_file rest ≡ rest'
    → option_map named_file (cond b (Some p) rest) ≡ cond b (Some (named_file p)) rest'
either true p rest rest' e = refl
either false p rest rest' e = e

-- the program of a name is found among the programs as among their names and files
pub found-among : (name : List ℕ) (programs : List Program) → option_map named_file (find (λ p. bytes_eq p.name.items name) programs) ≡ program_named name (map named_file programs)
found-among name [] = refl
found-among name (p ∷ later) = either (bytes_eq p.name.items name) p (find (λ q. bytes_eq q.name.items name) later) (program_named name (map named_file later)) (found-among name later)

-- ---- what can be loaded

picked : (b : Bool) (x l : Loaded) → (if b then Err ArgsTooLong else Ok x) ≡ Ok l → (b ≡ false) × (x ≡ l)
picked true x l e = absurd (cc)
picked false x l e = (refl, cc)

lowest-below : (texts : List (List ℕ)) (top : ℕ) → lowest top (text_places top texts) ≤ top - length (terminated texts)
lowest-below [] top = omega arith
lowest-below (text ∷ later) top = omega (arith, lowest-below later (down top (length text + 1)), length-append (text ++ 0 ∷ []) (terminated later), length-append text (0 ∷ []))

-- each text takes a byte at least
few : (texts : List (List ℕ)) → length texts ≤ length (terminated texts)
few [] = omega arith
few (text ∷ later) = omega (arith, few later, length-append (text ++ 0 ∷ []) (terminated later), length-append text (0 ∷ []))

texts-fit : (file : List ℕ) (header : Header) (texts : List (List ℕ)) (segments : List Segment) (l : Loaded)
    → with_texts file header texts segments ≡ Ok l → (l.pc % 4 ≡ 0) × (length (terminated texts) ≤ ARG_BYTES) × (l.argc ≡ length texts)
texts-fit file header texts segments l e =
    let s = page_up (end_after 0 segments) in
    let sp = stack_pointer (s + 8192) texts in
    let r = picked (nat_lt sp (s + 4096)) (record { image = program_image file segments texts; pc = aligned header.entry; sp = sp; argc = length texts }) l e in (
      sym (ap (λ (x : Loaded). x.pc % 4) r.1) ∙ omega arith,
      omega (arith, ltb-false sp (s + 4096) r.0, lowest-below texts (s + 8192)),
      sym (ap (λ (x : Loaded). x.argc) r.1),
    )

-- a program that is loaded starts at a multiple of 4, and its texts fit
pub loaded-fits : (file : List ℕ) (texts : List (List ℕ)) (l : Loaded) → loaded file texts ≡ Ok l → (l.pc % 4 ≡ 0) × (length (terminated texts) ≤ ARG_BYTES) × (l.argc ≡ length texts)
loaded-fits file texts l e =
    let header = bound (header_of file) (λ h. segments_of file h >>= with_texts file h texts) l e in
    let segments = bound (segments_of file header.0) (with_texts file header.0 texts) l header.2 in
    texts-fit file header.0 texts segments.0 l segments.2

-- ---- what is asked for, as a function

abbrev pub if_loaded : Result Loaded ExecError → Option Loaded
if_loaded (Err e) = None
if_loaded (Ok l) = Some l

abbrev pub asked_program : Option (List (List ℕ)) → Option ProgramFile → Option Loaded
asked_program None program = None
asked_program (Some texts) None = None
asked_program (Some texts) (Some program) = if_loaded (loaded program.bytes texts)

abbrev pub asked_path : List ProgramFile → Option (List (List ℕ)) → Option (List ℕ) → Option Loaded
asked_path programs texts None = None
asked_path programs texts (Some path) = asked_program texts (program_named (no_slashes path) programs)

-- the program that a process asks for, by the addresses of its path and of the pointers to its texts; none where a byte can't be read, no program has the name, or it can't be loaded
abbrev pub asked : List ProgramFile → Image → (path pointers : ℕ) → Option Loaded
asked programs image path pointers = asked_path programs (texts_at MAXARG ARG_BYTES image pointers) (text_at MAXPATH image path)

pub asks-given : {programs : List ProgramFile} {image : Image} {path pointers : ℕ} {l : Loaded} → Asks programs image path pointers l → asked programs image path pointers ≡ Some l
asks-given {programs} {image} {path} {pointers} {l} a =
    ap (asked_path programs (texts_at MAXARG ARG_BYTES image pointers)) a.name_is
    ∙ ap (λ t. asked_program t (program_named (no_slashes a.name) programs)) a.texts_is
    ∙ ap (asked_program (Some a.texts)) a.program_is
    ∙ ap if_loaded a.loaded_is

pub asks-of : (programs : List ProgramFile) (image : Image) (path pointers : ℕ) (l : Loaded) → asked programs image path pointers ≡ Some l → Asks programs image path pointers l
asks-of programs image path pointers l e = by-name (text_at MAXPATH image path) refl (texts_at MAXARG ARG_BYTES image pointers) refl e
  where
    by-file : (name : List ℕ) (texts : List (List ℕ)) (program : ProgramFile) → text_at MAXPATH image path ≡ Some name
        → texts_at MAXARG ARG_BYTES image pointers ≡ Some texts → program_named (no_slashes name) programs ≡ Some program
        → (r : Result Loaded ExecError) → loaded program.bytes texts ≡ r → if_loaded r ≡ Some l → Asks programs image path pointers l
    by-file name texts program n t p (Err x) is same = absurd (none-some l same)
    by-file name texts program n t p (Ok x) is same =
        let e : x ≡ l = cc in
        record { name = name; texts = texts; program = program; name_is = n; texts_is = t; program_is = p; loaded_is = is ∙ ap Ok e }

    by-program : (name : List ℕ) → text_at MAXPATH image path ≡ Some name → (t : Option (List (List ℕ)))
        → texts_at MAXARG ARG_BYTES image pointers ≡ t → (p : Option ProgramFile) → program_named (no_slashes name) programs ≡ p
        → asked_program t p ≡ Some l → Asks programs image path pointers l
    by-program name n None t p is same = absurd (none-some l same)
    by-program name n (Some texts) t None is same = absurd (none-some l same)
    by-program name n (Some texts) t (Some program) is same = by-file name texts program n t is (loaded program.bytes texts) refl same

    by-name : (n : Option (List ℕ)) → text_at MAXPATH image path ≡ n → (t : Option (List (List ℕ))) → texts_at MAXARG ARG_BYTES image pointers ≡ t
        → asked_path programs t n ≡ Some l → Asks programs image path pointers l
    by-name None n t is same = absurd (none-some l same)
    by-name (Some name) n t is same = by-program name n t is (program_named (no_slashes name) programs) refl same

-- the texts of a program that is asked for are few
pub asked-few : {programs : List ProgramFile} {image : Image} {path pointers : ℕ} {l : Loaded} → Asks programs image path pointers l → l.argc ≤ ARG_BYTES
asked-few {programs} {image} {path} {pointers} {l} a =
    let f = loaded-fits a.program.bytes a.texts l a.loaded_is in
    omega (arith, f.1, f.2, few a.texts)
