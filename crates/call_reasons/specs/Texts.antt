-- The texts that a call names, by facts of its caller (the xv6 book, "Code: System call arguments" and "Code: exec").
use Rattle.std.specs.Prelude.{ℕ, zero, suc, ◌+◌, ◌==◌, ◌||◌, Bool, if◌then◌else◌, List, [], ◌∷◌, map, Option, None, Some, is_some, option_map, bytes_eq}
use Rattle.std.specs.List.{range_with_len}
use Rattle.xk_base.specs.Words.{le}
use Rattle.kernel_spec.specs.rows.Buffers.{no_slashes, text_from}
use Rattle.kernel_spec.specs.views.Programs.{console_name}
use Rattle.call_reasons.specs.Facts.{Facts}

-- a byte, if it may be read, and the text after it; the zero byte ends a text
abbrev pub text_with : Option ℕ → Option (List ℕ) → Option (List ℕ)
text_with None rest = None
text_with (Some byte) rest = text_from byte rest

-- a text, and the texts after it, if both are there
abbrev pub text_before : Option (List ℕ) → (rest : Option (List (List ℕ))) → Option (List (List ℕ))
text_before None rest = None
text_before (Some text) rest = option_map (λ texts. text ∷ texts) rest

-- a pointer, if it may be read: 0 ends a list, and any other leads to a text, and the list goes on
abbrev pub list_with : Option ℕ → (text : ℕ → Option (List ℕ)) → (rest : Option (List (List ℕ))) → Option (List (List ℕ))
list_with None text rest = None
list_with (Some pointer) text rest = if pointer == 0 then Some [] else text_before (text pointer) rest

module _ (f : Facts) where
  -- the byte at an address, if the process may read it
  abbrev pub byte_at : (address : ℕ) → Option ℕ
  byte_at address = if f.reads address 1 then Some (f.byte address) else None

  -- the text at an address, without its zero byte, which is among the first `limit` bytes; none if a byte up to that may not be read
  unfoldable pub text_at : (limit address : ℕ) → Option (List ℕ)
  text_at zero address = None
  text_at (suc limit) address = text_with (byte_at address) (text_at limit (address + 1))

  -- the pointer at an address: 8 bytes, the lowest first
  abbrev pub pointer_at : (address : ℕ) → Option ℕ
  pointer_at address = if f.reads address 8 then Some (le (map f.byte (range_with_len address 8))) else None

  -- the texts of at most `limit` bytes that the pointers from an address on lead to: at most `most` pointers, and then a pointer 0
  unfoldable pub texts_at : (most limit address : ℕ) → Option (List (List ℕ))
  texts_at zero limit address = list_with (pointer_at address) (λ pointer. None) None
  texts_at (suc most) limit address = list_with (pointer_at address) (λ pointer. text_at limit pointer) (texts_at most limit (address + 8))

  -- such texts are there
  abbrev pub has_texts : (most limit address : ℕ) → Bool
  has_texts most limit address = is_some (texts_at most limit address)

-- ---- names

-- the name that a path is: its bytes without the leading slashes; of no path, no bytes
abbrev pub name_in : (path : Option (List ℕ)) → List ℕ
name_in None = []
name_in (Some path) = no_slashes path

abbrev pub is_console : (name : List ℕ) → Bool
is_console name = bytes_eq console_name name

-- the console has this name, or a program
abbrev pub is_named : Facts → (name : List ℕ) → Bool
is_named f name = is_console name || f.is_program name
