-- RAM is a list of frames, and each frame a list of 4,096 bytes.
use Rattle.std.specs.Prelude.{◌≡◌, ◌≢◌, ℕ, ◌+◌, ◌*◌, ◌≤◌, ◌<◌, ◌⊎◌, List, [], ◌++◌, length, drop, take, get_or, slice_index, replicate}
use Rattle.xk_base.specs.declared.errors.BootError.{BootError}
use Rattle.xk_base.specs.declared.errors.BootError.TheVariants.{BadConfig, Memory, BadPrograms, NoInit, Init}
use Rattle.xk_base.specs.declared.limits.TheConstants.{FRAMES_MIN, FRAMES_MAX, PAGE_BYTES}
use Rattle.xk_base.specs.Words.{le}

-- the bytes of frame f
abbrev pub frame_at : List (List ℕ) → ℕ → List ℕ
frame_at ram f = get_or ram f []

-- word i of frame f: the number, little-endian, in its eight bytes from byte 8 i on
unfoldable pub word_at : List (List ℕ) → ℕ → ℕ → ℕ
word_at ram f i = le (take 8 (drop (8 * i) (frame_at ram f)))

-- a frame of zeros
unfoldable pub zero_frame : List ℕ
zero_frame = replicate PAGE_BYTES 0

-- a frame with these bytes from byte `at` on, and its own before and behind them
abbrev pub with_bytes : ℕ → List ℕ → List ℕ → List ℕ
with_bytes at bytes frame = take at frame ++ (bytes ++ drop (at + length bytes) frame)

-- RAM may have n frames
abbrev pub IsFrameCount : ℕ → Type 0
IsFrameCount n = (FRAMES_MIN ≤ n) × (n ≤ FRAMES_MAX)

-- no RAM of n frames can be made: for its count, or although the count is right, for want of the host's memory
abbrev pub IsRefused : ℕ → BootError → Type 0
IsRefused n BadConfig = (n < FRAMES_MIN) ⊎ (FRAMES_MAX < n)
IsRefused n Memory = IsFrameCount n
IsRefused n (BadPrograms i) = ⊥
IsRefused n NoInit = ⊥
IsRefused n (Init cause) = ⊥

-- frame f alone may differ: the bytes and so the words of all others stay
pub record OthersStay (old new : List (List ℕ)) (f : ℕ) : Type 0 where
  pub count : length new ≡ length old
  pub others : (g : ℕ) → g ≢ f → frame_at new g ≡ frame_at old g
  pub words : (g i : ℕ) → g ≢ f → word_at new g i ≡ word_at old g i

-- word i of frame f is now v, and nothing else differs: the other words of f, its bytes before and after these eight, its length
pub record WordWritten (old new : List (List ℕ)) (f i v : ℕ) : Type 0 where
  pub stay : OthersStay old new f
  pub here : word_at new f i ≡ v
  pub beside : (j : ℕ) → j ≢ i → word_at new f j ≡ word_at old f j
  pub before : (k : ℕ) → k < 8 * i → slice_index (frame_at new f) k ≡ slice_index (frame_at old f) k
  pub after : (k : ℕ) → 8 * i + 8 ≤ k → slice_index (frame_at new f) k ≡ slice_index (frame_at old f) k
  pub size : length (frame_at new f) ≡ length (frame_at old f)
