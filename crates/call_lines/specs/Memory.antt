-- What the kernel reads of a process's memory from an address on (the xv6 book, "Code: System call arguments").
use Rattle.std.specs.Prelude.{ℕ, ℤ, zero, suc, ◌+◌, ◌*◌, ◌^◌, ◌==◌, ◌&&◌, Bool, false, nat_lt, if◌then◌else◌, List, [], ◌∷◌, length, Option, None, Some}
use Rattle.byteorder.specs.Endian.{little_number}
use Rattle.xk_base.specs.Image.{Image}
use Rattle.xk_base.specs.Bytes.{image_byte}
use Rattle.xk_base.specs.declared.access.Access.TheVariants.{Load}
use Rattle.xk_base.specs.declared.limits.TheConstants.{ADDRESS_END}
use Rattle.kernel_spec.specs.rows.Buffers.{may_touching}
use Rattle.kernel_spec.specs.views.Processes.{Live}
use Rattle.kernel_spec.specs.views.State.{State, live}
use Rattle.kernel_spec.specs.views.Words.{c_int}

-- the byte that the kernel reads at an address of an image: the one that is there, if user code may read it; 0 in an absent page; none elsewhere
abbrev pub read_of : Image → (address : ℕ) → Option ℕ
read_of image address = if nat_lt address ADDRESS_END && may_touching Load image address then Some (image_byte image address) else None

abbrev pub read_in : Option Live → (address : ℕ) → Option ℕ
read_in None address = None
read_in (Some process) address = read_of process.image address

-- the byte that it reads there for a live process
abbrev pub read_at : State → (p address : ℕ) → Option ℕ
read_at s p address = read_in (live s p) address

-- a page begins below the size of a memory, if there is one
abbrev pub is_below : (page : ℕ) → (size : Option ℕ) → Bool
is_below page None = false
is_below page (Some size) = nat_lt (4096 * page) size

-- a byte, if it is read, and the bytes after it
abbrev pub byte_and : Option ℕ → List ℕ → List ℕ
byte_and None rest = []
byte_and (Some byte) rest = byte ∷ rest

-- the bytes from an address on, as far as they are read, so many at most; none from 2^64 on
unfoldable pub bytes_from : State → (p address most : ℕ) → List ℕ
bytes_from s p address zero = []
bytes_from s p address (suc most) = byte_and (read_at s p address) (if nat_lt (address + 1) (2 ^ 64) then bytes_from s p (address + 1) most else [])

-- a byte of a text, if it is read and isn't the zero that ends it, and the bytes after it
abbrev pub letter_and : Option ℕ → List ℕ → List ℕ
letter_and None rest = []
letter_and (Some byte) rest = if byte == 0 then [] else byte ∷ rest

-- the bytes of a text, up to the zero that ends it, as far as they are read, so many at most
unfoldable pub text_from : State → (p address most : ℕ) → List ℕ
text_from s p address zero = []
text_from s p address (suc most) = letter_and (read_at s p address) (if nat_lt (address + 1) (2 ^ 64) then text_from s p (address + 1) most else [])

-- a C int of four bytes, the first as the lowest; none of fewer
abbrev pub int_of : List ℕ → Option ℤ
int_of bytes = if length bytes == 4 then Some (c_int (little_number 4 bytes)) else None

abbrev pub int_at : State → (p address : ℕ) → Option ℤ
int_at s p address = int_of (bytes_from s p address 4)

-- an address of eight bytes
abbrev pub address_of : List ℕ → Option ℕ
address_of bytes = if length bytes == 8 then Some (little_number 8 bytes) else None

abbrev pub address_at : State → (p address : ℕ) → Option ℕ
address_at s p address = address_of (bytes_from s p address 8)
