-- What the kernel reads from a process's memory, what it writes to it, and how memory grows and shrinks
-- (the xv6 book, "Code: exec", "Code: System call arguments", and "Code: sbrk" for growth).
-- The kernel reads where user code may read, and writes where user code may write (`Reach` of user_copy). An absent page is one that user code
-- may read and write, once it is touched: it reads as zeros.
use Rattle.std.specs.Prelude.{ℕ, zero, suc, ◌+◌, ◌/◌, ◌||◌, Bool, if◌then◌else◌, List, [], ◌∷◌, Option, None, Some, nat_eq, option_map}
use Rattle.std.specs.List.{list_all, range_with_len}
use Rattle.xk_base.specs.Words.{le}
use Rattle.xk_base.specs.Image.{Image}
use Rattle.xk_base.specs.Bytes.{image_byte, image_bytes}
use Rattle.xk_base.specs.declared.access.Access.{Access}
use Rattle.xk_base.specs.declared.access.Access.TheVariants.{Load, Store}
use Rattle.xk_base.specs.Access.{data_rights}
use Rattle.addr_space.specs.Changes.{grown as grown_with, shrunk as shrunk_to}
use Rattle.addr_space.specs.Absent.{is_absent}
use Rattle.user_copy.specs.Reach.{may, reaches}
use Rattle.kernel_spec.specs.views.Words.{◌>>=◌}

-- user code may read or write the byte at an address, or may do so once its page is touched
abbrev pub may_touching : Access → Image → ℕ → Bool
may_touching access i a = is_absent i (a / 4096) || may access i a

-- the same of each of the n bytes from address a on
unfoldable pub reaches_touching : Access → Image → ℕ → ℕ → Bool
reaches_touching access i a n = list_all (may_touching access i) (range_with_len a n)

-- all n bytes from address a on may be read
abbrev pub readable : Image → ℕ → ℕ → Bool
readable i a n = reaches_touching Load i a n

-- all n bytes from address a on may be written
abbrev pub writable : Image → ℕ → ℕ → Bool
writable i a n = reaches_touching Store i a n

-- all n bytes from address a on may be written as they stand: none lies in an absent page
abbrev pub writable_now : Image → ℕ → ℕ → Bool
writable_now i a n = reaches Store i a n

-- ---- texts and pointers

-- the byte at an address, then the text behind it, where the byte isn't the zero byte that ends a text
abbrev pub text_from : ℕ → Option (List ℕ) → Option (List ℕ)
text_from byte rest = if nat_eq byte 0 then Some [] else option_map (λ bytes. byte ∷ bytes) rest

-- the text at address a, without its zero byte, which is among the first `limit` bytes; none where a byte before it may not be read
unfoldable pub text_at : (limit : ℕ) → Image → ℕ → Option (List ℕ)
text_at zero i a = None
text_at (suc limit) i a = if may_touching Load i a then text_from (image_byte i a) (text_at limit i (a + 1)) else None

-- the pointer at address a
abbrev pub pointer_at : Image → ℕ → Option ℕ
pointer_at i a = if readable i a 8 then Some (le (image_bytes i a 8)) else None

-- the texts that the pointers from address a on lead to, up to a pointer 0: at most `more` of them, each with at most `limit` bytes
unfoldable pub texts_at : (more : ℕ) (limit : ℕ) → Image → ℕ → Option (List (List ℕ))
texts_at zero limit i a = do
  p ← pointer_at i a
  if nat_eq p 0 then Some [] else None
texts_at (suc more) limit i a = do
  p ← pointer_at i a
  if nat_eq p 0 then Some [] else (do text ← text_at limit i p; rest ← texts_at more limit i (a + 8); Some (text ∷ rest))

-- a name without its leading slashes (47)
unfoldable pub no_slashes : List ℕ → List ℕ
no_slashes [] = []
no_slashes (b ∷ bs) = if nat_eq b 47 then no_slashes bs else b ∷ bs

-- ---- a larger and a smaller size

-- the image at a larger size: the pages that the larger size needs and the smaller one did not are there, with zeros where there were none
abbrev pub grown : Image → ℕ → Image
grown i size = grown_with i size data_rights

-- the image at a smaller size: the pages that it doesn't need are gone, and a page that it ends in keeps its bytes
abbrev pub shrunk : Image → ℕ → Image
shrunk i size = shrunk_to i size
