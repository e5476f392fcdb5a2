-- The pipes that are told, frame by frame.
use Rattle.std.proofs.Common.{◌≡◌, ℕ, suc, ◌+◌, ◌<◌, ◌≤◌, Bool, false, List, [], ◌∷◌, ◌++◌, ◌∙◌, codes, length, Option, None, Some, Result, OnOk, refl, sym, subst, arith}
use Rattle.std.proofs.lemmas.Bool.{false≢true}
use Rattle.std.proofs.lemmas.Result.{on_ok_weaker}
use Rattle.std.specs.Prelude.{◌==◌}
use Rattle.xk_base.specs.declared.limits.TheConstants.{FRAMES_MAX}
use Rattle.kcall_core.specs.ObservedPipes.{pipe_counts_of}
use Rattle.kcall_core.specs.declared.memories.piping.PipeCounts.{PipeCounts}
use Rattle.kernel_spec.specs.runs.Run.{World}
use Rattle.debug_views.specs.Written.{Writes}
use Rattle.debug_views.proofs.Texts.{two_behind}
use Rattle.debug_words.specs.Texts.{quoted}
use Rattle.xv_debug.specs.PipeText.{AddsPipe, ArePipes, IsPipeText, IsPipesText, count_text, oldest_text}
use Rattle.xv_debug.specs.declared.pipes.TheConstants.{PIPES_MOST}

-- ---- the pipe of a frame

-- there is none
pub no-pipe : (w : World) (f before : ℕ) (o : Option PipeCounts) → o ≡ None → AddsPipe w f o before before []
no-pipe w f before o none = subst (λ (o : Option PipeCounts). AddsPipe w f o before before []) (sym none) (refl, refl)

-- it is behind those that are told
pub pipe-passed : (w : World) (f before : ℕ) (o : Option PipeCounts) (counts : PipeCounts) → o ≡ Some counts → PIPES_MOST ≤ before → AddsPipe w f o before (before + 1) []
pipe-passed w f before o counts there past =
    subst (λ (o : Option PipeCounts). AddsPipe w f o before (before + 1) []) (sym there) (refl, (λ few. absurd (omega (arith, few, past))), (λ _. refl))

-- it is told
pipe-told : (w : World) (f before : ℕ) (o : Option PipeCounts) (counts : PipeCounts) (text : List ℕ) → o ≡ Some counts → before < PIPES_MOST → IsPipeText w f counts text
    → AddsPipe w f o before (before + 1) text
pipe-told w f before o counts text there few is =
    subst (λ (o : Option PipeCounts). AddsPipe w f o before (before + 1) text) (sym there) (refl, (λ _. is), (λ past. absurd (omega (arith, few, past))))

pub pipe-written : (w : World) (f before : ℕ) (o : Option PipeCounts) (counts : PipeCounts) (old new : List ℕ) → o ≡ Some counts → before < PIPES_MOST → Writes old new (IsPipeText w f counts)
    → Writes old new (AddsPipe w f o before (before + 1))
pipe-written w f before o counts old new there few (text, is, same) = (text, pipe-told w f before o counts text there few is, same)

-- ---- those in the first frames

pub no-pipes : (w : World) → ArePipes w 0 0 []
unfolding ArePipes
no-pipes w = (refl, refl)

-- and that of the next frame
pub pipes-more : (w : World) (f before count : ℕ) (old mid new : List ℕ) → Writes old mid (ArePipes w f before) → Writes mid new (AddsPipe w f (pipe_counts_of w.state f) before count)
    → Writes old new (ArePipes w (f + 1) count)
unfolding ArePipes
pipes-more w f before count old mid new (text, are, first) (added, adds, second) =
    let next : suc f ≡ f + 1 = omega arith in
    (text ++ added, subst (λ n. ArePipes w n count (text ++ added)) next (before, text, added, are, adds, refl), two_behind old mid new text added first second)

-- all of them, and how many more there are
pub pipes-told : {T E : Type 0} (r : Result T E) (w : World) (count : ℕ) (old mid new : List ℕ) → Writes old mid (ArePipes w FRAMES_MAX count) → OnOk r (new ≡ mid ++ count_text count)
    → OnOk r (Writes old new (IsPipesText w))
pipes-told r w count old mid new (pipes, are, first) wrote =
    on_ok_weaker r (λ second. (pipes ++ count_text count, (count, pipes, are, refl), two_behind old mid new pipes (count_text count) first second)) wrote

-- ---- the oldest bytes of a pipe

pub oldest-told : (bytes : List ℕ) (empty : Bool) → empty ≡ (length bytes == 0) → empty ≡ false → codes "  the oldest: " ++ quoted bytes ++ codes "\n" ≡ oldest_text bytes
oldest-told [] empty is none = absurd (false≢true (sym none ∙ is))
oldest-told (b ∷ bytes) empty is none = refl
