-- What writes to a frame make of its pipe.
use Rattle.std.proofs.Common.{◌≡◌, ℕ, ◌+◌, ◌-◌, ◌*◌, ◌%◌, ◌<◌, ◌≤◌, List, [], ◌++◌, length, set, take, drop, get_or, min, refl, sym, ap, ◌∙◌, arith, ◌≢◌}
use Rattle.std.proofs.lemmas.List.{append-nil, append_assoc, get_or-drop, get_or-set_same, length-take-le, take_all}
use Rattle.xk_base.specs.declared.limits.TheConstants.{PIPE_BYTES}
use Rattle.phys_ram.proofs.Words.{little_from-same, others_stay-set, word_at-number, word_at-same}
use Rattle.phys_ram.specs.Ram.{frame_at, word_at, OthersStay, WordWritten}
use Rattle.pipe_core.specs.declared.TheConstants.{END_COUNT_MAX}
use Rattle.pipe_core.specs.Pipe.{IsPipe, pipe_in, new_pipe, Becomes, IsPlaced, values_below, ring_byte, with_readers, with_writers, with_more, without_first}
use Rattle.pipe_core.proofs.Values.{front, length_values, values-add, values-same, values_take}

-- how many bytes a pipe has
pub length-bytes : (ram : List (List ℕ)) (f : ℕ) → length (pipe_in ram f).bytes ≡ word_at ram f 3
unfolding pipe_in
length-bytes ram f = length_values (word_at ram f 3) (ring_byte (frame_at ram f) (word_at ram f 2))

-- a change of another frame keeps a pipe
pub pipe_stays : (old new : List (List ℕ)) (f g : ℕ) → OthersStay old new f → g ≢ f → IsPipe old g → IsPipe new g × (pipe_in new g ≡ pipe_in old g)
unfolding pipe_in
pipe_stays old new f g stay ne p =
    let none = stay.words g 0 ne in
    let one = stay.words g 1 ne in
    let two = stay.words g 2 ne in
    let three = stay.words g 3 ne in
    let frame = stay.others g ne in (
      record {
        inside = omega (arith, p.inside, stay.count);
        reading = omega (arith, p.reading, none);
        writing = omega (arith, p.writing, one);
        oldest = omega (arith, p.oldest, two);
        count = omega (arith, p.count, three);
      },
      rw (none, one, two, three, frame) refl,
    )

-- a pipe is within its limits
pub bytes_fit : (ram : List (List ℕ)) (f : ℕ) → IsPipe ram f → length (pipe_in ram f).bytes ≤ PIPE_BYTES
bytes_fit ram f p = omega (arith, length-bytes ram f, p.count)

-- two changes of one frame
pub stay_on : (a b c : List (List ℕ)) (f : ℕ) → OthersStay a b f → OthersStay b c f → OthersStay a c f
stay_on a b c f s t = record {
  count = t.count ∙ s.count;
  others = λ g ne. t.others g ne ∙ s.others g ne;
  words = λ g i ne. t.words g i ne ∙ s.words g i ne;
}

-- no bytes are added
pub becomes-none : (ram : List (List ℕ)) (f : ℕ) → IsPipe ram f → Becomes ram ram f (with_more [] (pipe_in ram f))
becomes-none ram f p = record {
  good = p;
  is = ap (λ xs. record (pipe_in ram f) { bytes = xs }) (sym (append-nil (pipe_in ram f).bytes));
  stay = record { count = refl; others = λ g ne. refl; words = λ g i ne. refl };
}

-- bytes are added behind bytes
pub becomes-more : (a b c : List (List ℕ)) (f : ℕ) (xs ys : List ℕ) → Becomes a b f (with_more xs (pipe_in a f)) → Becomes b c f (with_more ys (pipe_in b f))
    → Becomes a c f (with_more (xs ++ ys) (pipe_in a f))
becomes-more a b c f xs ys one two = record {
  good = two.good;
  is = two.is ∙ ap (with_more ys) one.is ∙ ap (λ zs. record (pipe_in a f) { bytes = zs }) (append_assoc (pipe_in a f).bytes xs ys);
  stay = stay_on a b c f one.stay two.stay;
}

-- a pipe whose frame keeps its bytes
pub pipe_kept : (old new : List (List ℕ)) (g : ℕ) → length new ≡ length old → frame_at new g ≡ frame_at old g → IsPipe old g → IsPipe new g × (pipe_in new g ≡ pipe_in old g)
unfolding pipe_in
pipe_kept old new g count frame p =
    let none = word_at-same old new g 0 frame in
    let one = word_at-same old new g 1 frame in
    let two = word_at-same old new g 2 frame in
    let three = word_at-same old new g 3 frame in (
      record {
        inside = omega (arith, p.inside, count);
        reading = omega (arith, p.reading, none);
        writing = omega (arith, p.writing, one);
        oldest = omega (arith, p.oldest, two);
        count = omega (arith, p.count, three);
      },
      rw (none, one, two, three, frame) refl,
    )

-- a word of the header changes, and the ring stays
ring_kept : (old new : List (List ℕ)) (f i v : ℕ) → WordWritten old new f i v → i < 4 → (from n : ℕ)
    → values_below n (ring_byte (frame_at new f) from) ≡ values_below n (ring_byte (frame_at old f) from)
ring_kept old new f i v w lt from n =
    values-same n _ _ (λ k _. w.after (32 + (from + k) % PIPE_BYTES) (omega (arith, lt)))

-- a count changes, and nothing else
pub readers_changed : (old new : List (List ℕ)) (f v : ℕ) → IsPipe old f → v ≤ END_COUNT_MAX → WordWritten old new f 0 v → Becomes old new f (with_readers v (pipe_in old f))
unfolding pipe_in
readers_changed old new f v p small w =
    let one = w.beside 1 (λ e. absurd (cc)) in
    let two = w.beside 2 (λ e. absurd (cc)) in
    let three = w.beside 3 (λ e. absurd (cc)) in
    let ring = ring_kept old new f 0 v w (omega arith) (word_at old f 2) (word_at old f 3) in
    record {
      good = record {
        inside = omega (arith, p.inside, w.stay.count);
        reading = omega (arith, small, w.here);
        writing = omega (arith, p.writing, one);
        oldest = omega (arith, p.oldest, two);
        count = omega (arith, p.count, three);
      };
      is = rw (w.here, one, two, three, ring) refl;
      stay = w.stay;
    }

pub writers_changed : (old new : List (List ℕ)) (f v : ℕ) → IsPipe old f → v ≤ END_COUNT_MAX → WordWritten old new f 1 v → Becomes old new f (with_writers v (pipe_in old f))
unfolding pipe_in
writers_changed old new f v p small w =
    let none = w.beside 0 (λ e. absurd (cc)) in
    let two = w.beside 2 (λ e. absurd (cc)) in
    let three = w.beside 3 (λ e. absurd (cc)) in
    let ring = ring_kept old new f 1 v w (omega arith) (word_at old f 2) (word_at old f 3) in
    record {
      good = record {
        inside = omega (arith, p.inside, w.stay.count);
        reading = omega (arith, p.reading, none);
        writing = omega (arith, small, w.here);
        oldest = omega (arith, p.oldest, two);
        count = omega (arith, p.count, three);
      };
      is = rw (none, w.here, two, three, ring) refl;
      stay = w.stay;
    }

-- the four words of a new pipe
pub made : (r0 r1 r2 r3 r4 : List (List ℕ)) (f : ℕ) → f < length r0 → WordWritten r0 r1 f 0 1 → WordWritten r1 r2 f 1 1 → WordWritten r2 r3 f 2 0 → WordWritten r3 r4 f 3 0 → Becomes r0 r4 f new_pipe
unfolding pipe_in new_pipe values_below
made r0 r1 r2 r3 r4 f inside a b c d =
    let none : word_at r4 f 0 ≡ 1 = d.beside 0 (λ e. absurd (cc)) ∙ c.beside 0 (λ e. absurd (cc)) ∙ b.beside 0 (λ e. absurd (cc)) ∙ a.here in
    let one : word_at r4 f 1 ≡ 1 = d.beside 1 (λ e. absurd (cc)) ∙ c.beside 1 (λ e. absurd (cc)) ∙ b.here in
    let two : word_at r4 f 2 ≡ 0 = d.beside 2 (λ e. absurd (cc)) ∙ c.here in
    let stay = stay_on r0 r1 r4 f a.stay (stay_on r1 r2 r4 f b.stay (stay_on r2 r3 r4 f c.stay d.stay)) in
    record {
      good = record {
        inside = omega (arith, inside, stay.count);
        reading = omega (arith, none);
        writing = omega (arith, one);
        oldest = omega (arith, two);
        count = omega (arith, d.here);
      };
      is = rw (none, one, d.here) refl;
      stay = stay;
    }

-- ---- bytes in and out

-- the header's words depend on the first 32 bytes alone
word_same : (a b : List (List ℕ)) (f i : ℕ) → i < 4 → ((j : ℕ) → j < 32 → get_or (frame_at a f) j 0 ≡ get_or (frame_at b f) j 0) → word_at a f i ≡ word_at b f i
word_same a b f i lt h =
    word_at-number a f i
    ∙ little_from-same 0 8 (drop (8 * i) (frame_at a f)) (drop (8 * i) (frame_at b f))
    (λ k lo hi. get_or-drop (8 * i) (frame_at a f) k 0 ∙ h (8 * i + k) (omega (arith, lt, hi)) ∙ sym (get_or-drop (8 * i) (frame_at b f) k 0))
    ∙ sym (word_at-number b f i)

-- bytes are placed behind those that are there
pub pushes : (old mid new : List (List ℕ)) (f : ℕ) (frame bytes : List ℕ) → IsPipe old f → mid ≡ set old f frame → length bytes + word_at old f 3 ≤ PIPE_BYTES
    → IsPlaced (frame_at old f) frame ((word_at old f 2 + word_at old f 3) % PIPE_BYTES) bytes → WordWritten mid new f 3 (word_at old f 3 + length bytes)
    → Becomes old new f (with_more bytes (pipe_in old f))
unfolding pipe_in
pushes old mid new f frame bytes p e fits put w =
    let first = word_at old f 2 in
    let count = word_at old f 3 in
    let n = length bytes in
    let at : frame_at mid f ≡ frame = ap (λ r. frame_at r f) e ∙ get_or-set_same old f frame [] p.inside in
    let low : (j : ℕ) → j < 32 → get_or (frame_at mid f) j 0 ≡ get_or (frame_at old f) j 0 =
    λ j lt. ap (λ r. get_or r j 0) at ∙ put.kept j (λ k below same. absurd (omega (arith, lt, same))) in
    let none : word_at new f 0 ≡ word_at old f 0 = w.beside 0 (λ x. absurd (cc)) ∙ word_same mid old f 0 (omega arith) low in
    let one : word_at new f 1 ≡ word_at old f 1 = w.beside 1 (λ x. absurd (cc)) ∙ word_same mid old f 1 (omega arith) low in
    let two : word_at new f 2 ≡ first = w.beside 2 (λ x. absurd (cc)) ∙ word_same mid old f 2 (omega arith) low in
    let byte : (k : ℕ) → ring_byte (frame_at new f) first k ≡ ring_byte frame first k =
    λ k. w.after (32 + (first + k) % PIPE_BYTES) (omega arith) ∙ ap (λ r. ring_byte r first k) at in
    let before : values_below count (ring_byte (frame_at new f) first) ≡ values_below count (ring_byte (frame_at old f) first) =
    values-same count _ _ (λ k lt. byte k ∙ put.kept (32 + (first + k) % PIPE_BYTES) (λ j below same. absurd (omega (arith, same, lt, below, fits)))) in
    let behind : values_below n (λ k. ring_byte (frame_at new f) first (count + k)) ≡ bytes =
    values-same n _ (λ k. get_or bytes k 0)
    (λ k lt. byte (count + k)
    ∙ ap (λ m. get_or frame (32 + m) 0)
    (let same : (first + (count + k)) % PIPE_BYTES ≡ ((first + count) % PIPE_BYTES + k) % PIPE_BYTES = omega arith in same) ∙ put.placed k lt)
    ∙ values_take n bytes (omega arith) ∙ take_all n bytes (omega arith) in
    let stay = stay_on old mid new f (rw e (others_stay-set old f frame)) w.stay in
    record {
      good = record {
        inside = omega (arith, p.inside, stay.count);
        reading = omega (arith, p.reading, none);
        writing = omega (arith, p.writing, one);
        oldest = omega (arith, p.oldest, two);
        count = omega (arith, w.here, fits);
      };
      is = rw (none, one, two, w.here) (
          ap (λ xs. record { bytes = xs; readers = word_at old f 0; writers = word_at old f 1 })
          (values-add count n (ring_byte (frame_at new f) first) ∙ ap (λ xs. xs ++ values_below n (λ k. ring_byte (frame_at new f) first (count + k)))
          before ∙ ap (λ xs. values_below count (ring_byte (frame_at old f) first) ++ xs) behind)
          );
      stay = stay;
    }

-- bytes are taken from the front
pulls : (old mid new : List (List ℕ)) (f n : ℕ) → IsPipe old f → n ≤ word_at old f 3 → WordWritten old mid f 2 ((word_at old f 2 + n) % PIPE_BYTES) → WordWritten mid new f 3 (word_at old f 3 - n)
    → Becomes old new f (without_first n (pipe_in old f))
unfolding pipe_in
pulls old mid new f n p le v w =
    let first = word_at old f 2 in
    let count = word_at old f 3 in
    let none : word_at new f 0 ≡ word_at old f 0 = w.beside 0 (λ x. absurd (cc)) ∙ v.beside 0 (λ x. absurd (cc)) in
    let one : word_at new f 1 ≡ word_at old f 1 = w.beside 1 (λ x. absurd (cc)) ∙ v.beside 1 (λ x. absurd (cc)) in
    let two : word_at new f 2 ≡ (first + n) % PIPE_BYTES = w.beside 2 (λ x. absurd (cc)) ∙ v.here in
    let ring : values_below (count - n) (ring_byte (frame_at new f) ((first + n) % PIPE_BYTES)) ≡ values_below (count - n) (λ k. ring_byte (frame_at old f) first (n + k)) =
    values-same (count - n) _ _ (λ k lt. w.after (32 + ((first + n) % PIPE_BYTES + k) % PIPE_BYTES) (omega arith) ∙ v.after (32 + ((first + n) % PIPE_BYTES + k) % PIPE_BYTES) (omega arith)
    ∙ ap (λ m. get_or (frame_at old f) (32 + m) 0) (let same : ((first + n) % PIPE_BYTES + k) % PIPE_BYTES ≡ (first + (n + k)) % PIPE_BYTES = omega arith in same)) in
    let stay = stay_on old mid new f v.stay w.stay in
    record {
      good = record {
        inside = omega (arith, p.inside, stay.count);
        reading = omega (arith, p.reading, none);
        writing = omega (arith, p.writing, one);
        oldest = omega (arith, two);
        count = omega (arith, w.here, p.count);
      };
      is = rw (none, one, two, w.here) (
          ap (λ xs. record { bytes = xs; readers = word_at old f 0; writers = word_at old f 1 })
          (ring ∙ sym (front n count (ring_byte (frame_at old f) first) le).1)
          );
      stay = stay;
    }

-- ---- the same, of numbers that were read

pub pushes_to : (old mid new : List (List ℕ)) (f n first count from : ℕ) (frame0 frame bytes : List ℕ) → IsPipe old f → mid ≡ set old f frame → first ≡ word_at old f 2
    → count ≡ length (pipe_in old f).bytes → n ≡ min (length bytes) (PIPE_BYTES - count)
    → frame0 ≡ frame_at old f → from ≡ (first + count) % PIPE_BYTES → IsPlaced frame0 frame from (take n bytes) → WordWritten mid new f 3 (count + n)
    → Becomes old new f (with_more (take n bytes) (pipe_in old f))
pushes_to old mid new f n first count from frame0 frame bytes p e one two room here place put w =
    let three : count ≡ word_at old f 3 = two ∙ length-bytes old f in
    let whole : length (take n bytes) ≡ n = length-take-le n bytes (omega (arith, room)) in
    let put1 = rw here at put in
    let put2 = rw place at put1 in
    let put3 = rw one at put2 in
    let put4 = rw three at put3 in
    let w1 = rw three at w in
    let w2 = rw (← whole) at w1 in
    pushes old mid new f frame (take n bytes) p e (omega (arith, room, three, p.count, whole)) put4 w2

pub pulls_to : (old mid new : List (List ℕ)) (f n first count : ℕ) → IsPipe old f → first ≡ word_at old f 2 → count ≡ length (pipe_in old f).bytes → n ≤ count
    → WordWritten old mid f 2 ((first + n) % PIPE_BYTES) → WordWritten mid new f 3 (count - n) → Becomes old new f (without_first n (pipe_in old f))
pulls_to old mid new f n first count p one two le v w =
    let three : count ≡ word_at old f 3 = two ∙ length-bytes old f in
    let v1 = rw one at v in
    let w1 = rw three at w in
    pulls old mid new f n p (omega (arith, le, three)) v1 w1

pub pulls_bytes : (ram : List (List ℕ)) (f n first count len : ℕ) (frame xs ys : List ℕ) → first ≡ word_at ram f 2 → count ≡ length (pipe_in ram f).bytes → n ≤ count → frame ≡ frame_at ram f
    → len ≡ n → xs ≡ values_below len (ring_byte frame first)
    → xs ++ ys ≡ take n (pipe_in ram f).bytes ++ ys
unfolding pipe_in
pulls_bytes ram f n first count len frame xs ys one two le at cut is =
    let three : count ≡ word_at ram f 3 = two ∙ length-bytes ram f in
    ap (λ zs. zs ++ ys) (is ∙ ap (λ m. values_below m (ring_byte frame first)) cut ∙ ap (λ a. values_below n (ring_byte frame a)) one ∙ ap (λ r. values_below n (ring_byte r (word_at ram f 2))) at
    ∙ sym (front n (word_at ram f 3) (ring_byte (frame_at ram f) (word_at ram f 2)) (omega (arith, le, three))).0)
