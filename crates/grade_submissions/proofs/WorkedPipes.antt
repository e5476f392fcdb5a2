-- Worked cases of which pipe is which.
use Rattle.std.specs.Prelude.{◌≡◌, pos, negsuc, None, Some, refl}
use Rattle.file_table.specs.declared.open_file.End.TheVariants.{Reading}
use Rattle.file_table.specs.declared.open_file.Target.TheVariants as target
use Rattle.kernel_spec.specs.runs.Run.{World, Step_of, Turn}
use Rattle.kernel_spec.specs.steps.Own.{Called, Blocked}
use Rattle.grade_rules.specs.declared.given.Given.{Given}
use Rattle.grade_submissions.specs.Pipes.{Made, frame_of, none_made, number_in, number_on, with_pipe, pipes_after}

-- a pipe in frame 12, another one in frame 7, and a third one in frame 12, which was free again
three : Made
three = with_pipe (Some 12) (with_pipe (Some 7) (with_pipe (Some 12) none_made))

-- the pipe that lies there now is the third
used_again : number_in three 12 ≡ 3
unfolding three
used_again = refl

other_frame : number_in three 7 ≡ 2
unfolding three
other_frame = refl

no_pipe_there : number_in three 8 ≡ 0
unfolding three
no_pipe_there = refl

-- its ends have its number; the console has none
of_its_end : number_on three (Some (target.Pipe 12 Reading)) ≡ 3
unfolding three
of_its_end = refl

of_the_console : number_on three (Some target.Console) ≡ 0
of_the_console = refl

of_nothing : number_on three None ≡ 0
of_nothing = refl

of_a_file : frame_of (target.Program 0 512) ≡ None
of_a_file = refl

-- a pipe that couldn't be made has no number, nor has one a call that sleeps, or that isn't `pipe`
refused : (given : Given) (t : World) (made : Made) → pipes_after given t (Step_of 2 (Called (pos 4) (negsuc 0))) made ≡ made
refused given t made = refl

another_call : (given : Given) (t : World) (made : Made) → pipes_after given t (Step_of 2 (Called (pos 21) (pos 0))) made ≡ made
another_call given t made = refl

a_sleep : (given : Given) (t : World) (made : Made) → pipes_after given t (Step_of 2 (Blocked (pos 4))) made ≡ made
a_sleep given t made = refl

a_turn : (given : Given) (t : World) (made : Made) → pipes_after given t (Turn 2) made ≡ made
a_turn given t made = refl
