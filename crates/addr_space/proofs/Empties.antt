-- A root that is a frame of zeros.
use Rattle.addr_space.proofs.Prelude.{[], ℕ, ◌%◌, ◌++◌, ◌+◌, ◌/◌, ◌<◌, ◌^◌, ◌∙◌, ◌∷◌, ◌≡◌, ◌≤◌, ◌⊎◌, ap, arith, at, at-le, at-other, below, cases_eq, copies, copies-nil, copies-one, empty, entry_at}
use Rattle.addr_space.proofs.Prelude.{entry_of, entry_of-zero, flag, frame_of, free_in, gathered, Good, image_of, inl, inr, insert_some, Invalid, last, length, List, listed, lowers, Made, no_pages}
use Rattle.addr_space.proofs.Prelude.{None, Option, owned, page_at, page_entry, page_frames, page_of, pages_of, Pool, push_some, refl, same-cons, Some, subst, suc, sym, table_at, table_of, Taken}
use Rattle.addr_space.proofs.Prelude.{taken-free, uppers, Usual, word_at-zero, zero}

pub listed-none : (f : ℕ → Option ℕ) (n : ℕ) → ((k : ℕ) → f k ≡ None) → listed f n ≡ []
unfolding listed
listed-none f zero h = refl
listed-none f (suc n) h = ap (λ o. push_some o (listed f n)) (h n) ∙ listed-none f n h

pub gathered-none : {X : Type 0} (f : ℕ → Option X) (n : ℕ) → ((k : ℕ) → f k ≡ None) → gathered f n ≡ empty
unfolding gathered
gathered-none f zero h = refl
gathered-none f (suc n) h = ap (insert_some (gathered f n) n) (h n) ∙ gathered-none f n h

no-upper : (ram : List (List ℕ)) (root p : ℕ) → ((i : ℕ) → entry_at ram root i ≡ Invalid) → table_at ram root 1 p ≡ None
no-upper ram root p bare = step (p / 512)
  where
    step : (q : ℕ) → below ram (table_at ram root 0 q) (p % 512) ≡ None
    step zero = ap table_of (bare (p % 512))
    step (suc q) = refl

no-lower : (ram : List (List ℕ)) (root p : ℕ) → ((i : ℕ) → entry_at ram root i ≡ Invalid) → table_at ram root 2 p ≡ None
no-lower ram root p bare = ap (λ t. below ram t (p % 512)) (no-upper ram root (p / 512) bare)

no-page : (ram : List (List ℕ)) (root v : ℕ) → ((i : ℕ) → entry_at ram root i ≡ Invalid) → page_entry ram root v ≡ Invalid
no-page ram root v bare = ap (λ t. last ram t (v % 512)) (no-lower ram root (v / 512) bare)

record Nothing (ram : List (List ℕ)) (root : ℕ) : Type 0 where
  u : uppers ram root ≡ []
  l : lowers ram root ≡ []
  p : page_frames ram root ≡ []
  o : owned ram root ≡ root ∷ []
  m : pages_of ram root ≡ empty

nothing : (ram : List (List ℕ)) (root : ℕ) → ((i : ℕ) → entry_at ram root i ≡ Invalid) → Nothing ram root
unfolding uppers lowers page_frames owned pages_of
nothing ram root bare =
    let u : uppers ram root ≡ [] = listed-none (table_at ram root 1) 256 (λ k. no-upper ram root k bare) in
    let l : lowers ram root ≡ [] = listed-none (table_at ram root 2) (2 ^ 17) (λ k. no-lower ram root k bare) in
    let p : page_frames ram root ≡ [] = listed-none (λ v. frame_of (page_entry ram root v)) (2 ^ 26) (λ k. ap frame_of (no-page ram root k bare)) in
    record {
      u = u;
      l = l;
      p = p;
      o = ap (λ a. root ∷ (a ++ (lowers ram root ++ page_frames ram root))) u ∙ ap (λ a. root ∷ (a ++ page_frames ram root)) l ∙ ap (λ a. root ∷ a) p;
      m = gathered-none (page_at ram root) (2 ^ 26) (λ k. ap (page_of ram) (no-page ram root k bare));
    }

pub made-empty : (pool pool' : Pool) (ram ram' : List (List ℕ)) (g : ℕ) → Good pool ram → Taken pool ram pool' ram' g
    → Made pool ram pool' ram' (record { root = g; size = 0; pages = 0; tables = 1; end = 0 }) × (image_of ram' (record { root = g; size = 0; pages = 0; tables = 1; end = 0 }) ≡ no_pages)
made-empty pool pool' ram ram' g good taken =
    let bare : (i : ℕ) → entry_at ram' g i ≡ Invalid = λ i. ap (entry_of (length ram')) (word_at-zero ram' g i taken.zeros) ∙ entry_of-zero (length ram') in
    let no = nothing ram' g bare in
    let split : (x : ℕ) → copies x (free_in pool ram) ≡ at x g + copies x (free_in pool' ram') = λ x. same-cons x g (free_in pool ram) (free_in pool' ram') (taken-free pool pool' ram ram' g taken) in
    let first : g < length ram' = taken.inside in
    let inside : (x : ℕ) → (x ≡ g) ⊎ (x ≡ g → ⊥) → 1 ≤ at x g → x < length ram' = λ x which h. elim which [ inl e ↦ omega (arith, first, e) | inr ne ↦ absurd (omega (arith, at-other x g ne, h)) ] in
    let one : (x : ℕ) → copies x (owned ram' g) ≡ at x g = λ x. ap (copies x) no.o ∙ copies-one x g in (
      record {
        whole = record {
          tree = record {
            once = record {
              inside = λ x h. inside x (cases_eq x g) (omega (arith, one x, h));
              once = λ x. omega (arith, one x, at-le x g);
            };
            lower_half = λ p ge lt. ap (λ w. flag w 0) (word_at-zero ram' g p taken.zeros);
          };
          full = record {
            uppers = λ p f e. let w : None ≡ Some f = sym (no-upper ram' g p bare) ∙ e in absurd (cc);
            lowers = λ p f e. let w : None ≡ Some f = sym (no-lower ram' g p bare) ∙ e in absurd (cc);
          };
          leaves = λ v. subst (λ e. Usual e) (sym (no-page ram' g v bare)) tt;
          ends = λ v ge lt. ap frame_of (no-page ram' g v bare);
          size = omega arith;
          pages = sym (ap length no.p);
          tables = omega (arith, ap length no.u, ap length no.l);
        };
        traded = record {
          good = taken.traded.good;
          count = taken.traded.count;
          frames = λ f. omega (arith, one f, split f, copies-nil f);
          others = λ f free own. taken.traded.others f free own;
        };
      },
      ap (λ m. record { pages = m; size = 0 }) no.m,
    )
