-- The pipes, as they are told.
use Rattle.std.specs.Prelude.{◌≡◌, ◌⊎◌, ℕ, zero, suc, ◌+◌, ◌-◌, ◌<◌, ◌≤◌, ◌==◌, if◌then◌else◌, nat_lt, List, [], ◌∷◌, ◌++◌, flat_map, take, codes, decimal, Option, None, Some}
use Rattle.std.specs.List.{concat}
use Rattle.xk_base.specs.declared.limits.TheConstants.{FRAMES_MAX, NPROC, PIPE_BYTES}
use Rattle.file_table.specs.declared.open_file.End.{End}
use Rattle.file_table.specs.declared.open_file.End.TheVariants.{Reading, Writing}
use Rattle.kernel_spec.specs.runs.Run.{World}
use Rattle.kernel_spec.specs.waking.Turns.{HasSlot, IsFreeSlot}
use Rattle.kcall_core.specs.ObservedPipes.{pipe_counts_of}
use Rattle.kcall_core.specs.declared.memories.piping.PipeCounts.{PipeCounts}
use Rattle.xv_report.specs.Waits.{holds_end}
use Rattle.debug_words.specs.Texts.{many, quoted}
use Rattle.xv_debug.specs.Pipes.{pipe_bytes}
use Rattle.xv_debug.specs.declared.pipes.TheConstants.{PIPES_MOST, SHOWN_MOST}

-- ---- who holds an end

-- behind the pids of those in other slots: that of the process in this slot, if it holds the end
abbrev pub AddsHolder : World → (f : ℕ) → End → (slot : ℕ) → (before pids : List ℕ) → Type 0
AddsHolder w f end slot before pids =
    (IsFreeSlot w.turns slot × (pids ≡ before)) ⊎ ((p : ℕ) × HasSlot w.turns p slot × (pids ≡ before ++ (if holds_end w.state p f end then p ∷ [] else [])))

-- These are the pids of the processes in the first slots, so many, that hold an end of the pipe in frame f
unfoldable pub AreHolders : World → (f : ℕ) → End → (slots : ℕ) → List ℕ → Type 0
AreHolders w f end zero pids = pids ≡ []
AreHolders w f end (suc slot) pids = (before : List ℕ) × AreHolders w f end slot before × AddsHolder w f end slot before pids

abbrev pub holder_behind : ℕ → List ℕ
holder_behind p = codes ", " ++ decimal p

abbrev pub holders_text : List ℕ → List ℕ
holders_text [] = codes "nobody"
holders_text (p ∷ pids) = decimal p ++ flat_map holder_behind pids

-- ---- a pipe

-- its oldest bytes, if it has any
abbrev pub oldest_text : List ℕ → List ℕ
oldest_text [] = []
oldest_text (b ∷ bytes) = codes "  the oldest: " ++ quoted (b ∷ bytes) ++ codes "\n"

-- how many bytes it has, how many descriptors are on its read end, and whose
unfoldable pub read_end_text : (f : ℕ) → PipeCounts → (readers : List ℕ) → List ℕ
read_end_text f counts readers = concat (
    codes "pipe " ∷ decimal f ∷ codes ", named by its frame: " ∷ many counts.bytes (codes "byte") ∷ codes " of " ∷ decimal PIPE_BYTES
    ∷ codes "\n  read end: " ∷ many counts.readers (codes "descriptor") ∷ codes ", of " ∷ holders_text readers ∷ codes "\n" ∷ [])

-- the same of its write end
unfoldable pub write_end_text : PipeCounts → (writers : List ℕ) → List ℕ
write_end_text counts writers = concat (codes "  write end: " ∷ many counts.writers (codes "descriptor") ∷ codes ", of " ∷ holders_text writers ∷ codes "\n" ∷ [])

abbrev pub pipe_text : (f : ℕ) → PipeCounts → (readers writers oldest : List ℕ) → List ℕ
pipe_text f counts readers writers oldest = read_end_text f counts readers ++ write_end_text counts writers ++ oldest_text oldest

-- of the pipe in frame f
abbrev pub IsPipeText : World → (f : ℕ) → PipeCounts → List ℕ → Type 0
IsPipeText w f counts text =
    (readers : List ℕ) × (writers : List ℕ) × AreHolders w f Reading NPROC readers × AreHolders w f Writing NPROC writers
    × (text ≡ pipe_text f counts readers writers (take SHOWN_MOST (pipe_bytes w.state f)))

-- ---- all of them

-- behind so many pipes: the pipe in frame f, if there is one, and its text, if it is among the first
abbrev pub AddsPipe : World → (f : ℕ) → Option PipeCounts → (before count : ℕ) → (added : List ℕ) → Type 0
AddsPipe w f None before count added = (count ≡ before) × (added ≡ [])
AddsPipe w f (Some counts) before count added = (count ≡ before + 1) × (before < PIPES_MOST → IsPipeText w f counts added) × (PIPES_MOST ≤ before → added ≡ [])

-- So many pipes lie in the first frames, and this is the text of the first of them
unfoldable pub ArePipes : World → (frames count : ℕ) → (text : List ℕ) → Type 0
ArePipes w zero count text = (count ≡ 0) × (text ≡ [])
ArePipes w (suc f) count text =
    (before : ℕ) × (text_before : List ℕ) × (added : List ℕ) × ArePipes w f before text_before
    × AddsPipe w f (pipe_counts_of w.state f) before count added × (text ≡ text_before ++ added)

-- how many more there are; or that there is none
abbrev pub count_text : ℕ → List ℕ
count_text count =
    if nat_lt PIPES_MOST count then codes "and " ++ many (count - PIPES_MOST) (codes "more pipe") ++ codes ": fds tells of each\n"
    else (if count == 0 then codes "there is no pipe\n" else [])

abbrev pub IsPipesText : World → List ℕ → Type 0
IsPipesText w text = (count : ℕ) × (pipes : List ℕ) × ArePipes w FRAMES_MAX count pipes × (text ≡ pipes ++ count_text count)
