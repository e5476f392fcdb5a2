-- What of a process's memory the kernel may reach for it: the bytes that user code itself may reach so
-- (RISC-V Privileged ISA, Sv39: the bits U, R and W of a page).
use Rattle.std.specs.Prelude.{ℕ, ◌+◌, ◌/◌, ◌==◌, ◌&&◌, Bool, false, Option, Some, None, option_map}
use Rattle.std.specs.List.{list_all, range_with_len}
use Rattle.std.specs.FinMap.{get}
use Rattle.xk_base.specs.declared.access.Access.{Access}
use Rattle.xk_base.specs.declared.access.Access.TheVariants.{Load}
use Rattle.xk_base.specs.declared.access.Rights.{Rights}
use Rattle.xk_base.specs.Image.{Image}
use Rattle.xk_base.specs.Bytes.{image_byte}
use Rattle.xk_base.specs.Words.{least_below}
use Rattle.sv39_core.specs.Sv39.{permits}
use Rattle.addr_space.specs.Changes.{perm_of_page}
use Rattle.addr_space.specs.Absent.{whole}
use Rattle.user_copy.specs.declared.AbsentPages.{AbsentPages}
use Rattle.user_copy.specs.declared.AbsentPages.TheVariants.{Refused, Zeros}

-- user code may make the access to a page with these rights; to none where there is no page
abbrev pub allows : Access → Option Rights → Bool
allows access None = false
allows access (Some rights) = permits access rights

-- user code may make the access to the byte at an address. Addresses don't wrap: there is no page from 2^38 on, and so none past 2^64
abbrev pub may : Access → Image → ℕ → Bool
may access image a = allows access (option_map perm_of_page (get image.pages (a / 4096)))

-- user code may make the access to each of the n bytes from an address on
unfoldable pub reaches : Access → Image → ℕ → ℕ → Bool
reaches access image a n = list_all (may access image) (range_with_len a n)

-- n bytes and then a zero byte, and user code may read all of them
abbrev pub ends_after : Image → ℕ → ℕ → Bool
ends_after image a n = reaches Load image a (n + 1) && (image_byte image (a + n) == 0)

-- how many bytes stand before the first zero byte from an address on, where that is one of the first `limit` bytes and user code may read all up to it
unfoldable pub text_length : Image → ℕ → ℕ → Option ℕ
text_length image a limit = least_below (ends_after image a) limit

-- ---- a process with absent pages

-- what a copy takes an image for: with the pages that are there alone, or with each absent page as zeros that user code may read and write
abbrev pub image_seen : AbsentPages → Image → Image
image_seen Refused image = image
image_seen Zeros image = whole image
