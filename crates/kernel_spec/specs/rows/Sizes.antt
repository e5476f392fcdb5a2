-- The size of a process after sbrk and sbrklazy, and its image at that size.
use Rattle.std.specs.Prelude.{ℕ, suc, ◌+◌, ◌-◌, nat_le, nat_lt, ℤ, pos, negsuc, if◌then◌else◌, Option, Some, None}
use Rattle.xk_base.specs.declared.limits.TheConstants.{SIZE_LIMIT}
use Rattle.xk_base.specs.Image.{Image}
use Rattle.kernel_spec.specs.rows.Buffers.{grown, shrunk}

-- the size after n bytes more, or fewer; none below 0 or above the limit
abbrev pub resized : ℕ → ℤ → Option ℕ
resized size (pos n) = if nat_le (size + n) SIZE_LIMIT then Some (size + n) else None
resized size (negsuc k) = if nat_lt k size then Some (size - suc k) else None

-- the size after n bytes more; none where they are fewer, or where it is above the limit
abbrev pub resized_lazily : ℕ → ℤ → Option ℕ
resized_lazily size (pos n) = if nat_le (size + n) SIZE_LIMIT then Some (size + n) else None
resized_lazily size (negsuc k) = None

-- the image at another size
abbrev pub at_size : Image → ℕ → Image
at_size image size = if nat_lt size image.size then shrunk image size else grown image size
