-- Worked cases of what Runs cost.
use Rattle.std.proofs.Common.{◌≡◌, ℕ, None, Some, Option, refl}
use Rattle.std.specs.Prelude.{pos, negsuc}
use Rattle.kernel_spec.specs.runs.Run.{Outcome, Step_of, Turn, Idle}
use Rattle.kernel_spec.specs.steps.Own.{Called, Exited, Faulted}
use Rattle.xk_base.specs.declared.access.Cause.TheVariants.{StorePageFault}
use Rattle.run_work.specs.Work.{budget_of, pages_of, given_by_call, given_back, unseen, cost, with_more}
use Rattle.run_work.specs.declared.cost.Before.{Before}

-- ---- pages

no_byte : pages_of 0 ≡ 0
no_byte = refl

one_byte : pages_of 1 ≡ 1
one_byte = refl

one_page : pages_of 4096 ≡ 1
one_page = refl

one_byte_more : pages_of 4097 ≡ 2
one_byte_more = refl

-- ---- costs: a process of five pages, and 100 free frames

abbrev seen : Before
seen = record { free = 100; size = Some 20480 }

abbrev five : ℕ → Option ℕ
five p = Some 20480

abbrev gone : ℕ → Option ℕ
gone p = None

-- instructions alone
steps : cost seen 1000 100 five None ≡ 1000
steps = refl

-- instructions that bring three pages
touches : cost seen 1000 97 five None ≡ 1768
touches = refl

-- a write of 5,000 bytes
writes : cost seen 1 100 five (Some (Step_of 3 (Called (pos 16) (pos 5000)))) ≡ 513
writes = refl

-- a read that fails answers -1
reads_nothing : cost seen 1 100 five (Some (Step_of 3 (Called (pos 5) (negsuc 0)))) ≡ 257
reads_nothing = refl

-- a program of five pages in place of five others, at the first Run of a row
loads : cost seen 1 100 five (Some (Step_of 3 (Called (pos 7) (pos 1)))) ≡ 1281
loads = refl

-- at the third: two of the old pages may have come by the Runs before it
loads_later : cost seen 3 100 five (Some (Step_of 3 (Called (pos 7) (pos 1)))) ≡ 2307
loads_later = refl

-- an exit that gives back five pages; and one that may have brought all five first
exits : cost seen 1 105 gone (Some (Step_of 3 (Exited (pos 0)))) ≡ 1281
exits = refl

exits_later : cost seen 9 100 gone (Some (Step_of 3 (Exited (pos 0)))) ≡ 2569
exits_later = refl

faults_later : cost seen 9 100 gone (Some (Step_of 3 (Faulted StorePageFault))) ≡ 2569
faults_later = refl

-- sbrk takes away three of eight pages, and all of them may have come by the Runs before it
shrinks : cost seen 9 100 five (Some (Step_of 3 (Called (pos 12) (pos 32768)))) ≡ 1545
shrinks = refl

shrinks_lazily : given_by_call (pos 22) (pos 32768) None (Some 20480) ≡ 3
shrinks_lazily = refl

-- a growth takes none away
grows : given_by_call (pos 12) (pos 8192) None (Some 20480) ≡ 0
grows = refl

-- an exec that is refused leaves its process as it was
refused : given_by_call (pos 7) (negsuc 0) (Some 20480) (Some 20480) ≡ 0
refused = refl

-- nobody may run
idles : cost (record { free = 100; size = None }) 1000 100 five (Some Idle) ≡ 1000
idles = refl

-- ---- bounds

few_runs : unseen 4 100 ≡ 3
few_runs = refl

few_pages : unseen 100 4 ≡ 4
few_pages = refl

no_run : unseen 0 4 ≡ 0
no_run = refl

full : with_more 18446744073709551615 1 ≡ 18446744073709551615
full = refl

no_budget : budget_of 0 ≡ 18446744073709551615
no_budget = refl

one_million : budget_of 1 ≡ 1000000
one_million = refl
