-- The segments of a file that isn't refused fit one behind another.
use Rattle.std.proofs.Common.{◌≡◌, ℕ, zero, suc, ◌+◌, ◌%◌, ◌<◌, ◌≤◌, Bool, true, false, not, ltb, eqb, ◌&&◌, ◌||◌, if◌then◌else◌, List, ◌∷◌, length, None, refl, arith, Option, Some, Ok, subst}
use Rattle.std.proofs.lemmas.Bool.{or_parts, and_parts, ltb-false, false≢true}
use Rattle.xk_base.specs.declared.limits.TheConstants.{SIZE_LIMIT}
use Rattle.xk_base.specs.declared.program.Header.{Header}
use Rattle.xk_base.specs.declared.program.ProgramHeader.{ProgramHeader}
use Rattle.xk_base.specs.Words.{least_below}
use Rattle.xk_base.specs.ProgramFile.{page_up, is_bad, is_load, is_loaded, is_refused, is_refused_after, place, program_header_at, size_before, segment, segments_from, Fit, segments_of}
use Rattle.xk_base.specs.ProgramFile.{unless_refused}
use Rattle.xk_base.proofs.Least.{none_below}
use Rattle.xk_base.specs.declared.program.Segment.{Segment}

right_false : (a b : Bool) → a ≡ true → (a && b) ≡ false → b ≡ false
right_false true b h e = e
right_false false b h e = absurd (false≢true h)

-- a header that makes a segment and isn't bad fits behind the size
fits_one : (len size : ℕ) (h : ProgramHeader) → is_bad len size h ≡ false → is_loaded h ≡ true
    → (page_up size ≤ h.vaddr) × (h.filesz ≤ h.memsz) × (h.off + h.filesz ≤ len) × (h.vaddr + h.memsz ≤ SIZE_LIMIT)
unfolding is_bad
fits_one len size h good is =
    let parts = and_parts (is_load h) (ltb 0 h.memsz) is in
    let z = not (eqb (h.vaddr % 4096) 0) in
    let v = ltb h.vaddr (page_up size) in
    let o = ltb len (h.off + h.filesz) in
    let l = ltb SIZE_LIMIT (h.vaddr + h.memsz) in
    let one = or_parts (ltb h.memsz h.filesz) (ltb 0 h.memsz && (z || v || o || l)) (right_false (is_load h) (ltb h.memsz h.filesz || (ltb 0 h.memsz && (z || v || o || l))) parts.0 good) in
    let two = or_parts (z || v || o) l (right_false (ltb 0 h.memsz) (z || v || o || l) parts.1 one.1) in
    let three = or_parts (z || v) o two.0 in
    let four = or_parts z v three.0 in
    (ltb-false h.vaddr (page_up size) four.1, ltb-false h.memsz h.filesz one.0, ltb-false len (h.off + h.filesz) three.1, ltb-false SIZE_LIMIT (h.vaddr + h.memsz) two.1)

good_header : (file : List ℕ) (f : Header) (size i : ℕ) → is_refused_after file f size i ≡ false → is_bad (length file) size (program_header_at file f i) ≡ false
unfolding is_refused_after
good_header file f size i e = (or_parts (ltb (length file) (place f i + 56)) (is_bad (length file) size (program_header_at file f i)) e).1

-- n headers from header i on, none of which is refused
fit_from : (file : List ℕ) (f : Header) (n i : ℕ) → ((k : ℕ) → i ≤ k → k < i + n → is_refused file f k ≡ false) → Fit (length file) (size_before file f i) (segments_from file f i n)
fit_from file f zero i ok = tt
fit_from file f (suc n) i ok =
    one (is_loaded (program_header_at file f i)) refl (fit_from file f n (suc i) (λ k lo hi. ok k (omega (arith, lo)) (omega (arith, hi))))
  where
    one : (b : Bool) → is_loaded (program_header_at file f i) ≡ b
        → Fit (length file) (if b then (program_header_at file f i).vaddr + (program_header_at file f i).memsz else size_before file f i) (segments_from file f (suc i) n)
        → Fit (length file) (size_before file f i) (if b then segment (program_header_at file f i) ∷ segments_from file f (suc i) n else segments_from file f (suc i) n)
    one true is rest =
        let p = fits_one (length file) (size_before file f i) (program_header_at file f i) (good_header file f (size_before file f i) i (ok i (omega arith) (omega arith))) is in
        (p.0, p.1, p.2, p.3, rest)
    one false is rest = rest

-- where no header is refused, the segments fit
pub fit_if_none : (file : List ℕ) (f : Header) (n : ℕ) → least_below (is_refused file f) n ≡ None → Fit (length file) 0 (segments_from file f 0 n)
fit_if_none file f n none = fit_from file f n 0 (λ k lo hi. none_below (is_refused file f) n none k (omega (arith, hi)))

-- the segments of a file fit
pub segments_fit : (file : List ℕ) (f : Header) (segments : List Segment) → segments_of file f ≡ Ok segments → Fit (length file) 0 segments
segments_fit file f segments e = one (least_below (is_refused file f) f.phnum) refl e
  where
    one : (o : Option ℕ) → least_below (is_refused file f) f.phnum ≡ o → unless_refused o (segments_from file f 0 f.phnum) ≡ Ok segments → Fit (length file) 0 segments
    one (Some i) is e = absurd (cc)
    one None is e =
        let same : segments_from file f 0 f.phnum ≡ segments = cc in
        subst (λ s. Fit (length file) 0 s) same (fit_if_none file f f.phnum is)
