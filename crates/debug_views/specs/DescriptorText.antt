-- The descriptors of a process, as they are shown.
use Rattle.std.specs.Prelude.{ℕ, nat_lt, if◌then◌else◌, is_some, List, [], ◌∷◌, ◌++◌, flat_map, slice_get, codes, decimal, Option, None, Some}
use Rattle.std.specs.List.{concat, range_with_len}
use Rattle.xk_base.specs.declared.limits.TheConstants.{NOFILE}
use Rattle.file_table.specs.declared.open_file.OpenFile.{OpenFile}
use Rattle.file_table.specs.declared.open_file.Target.{Target}
use Rattle.file_table.specs.declared.open_file.Target.TheVariants.{Console, Program, Pipe}
use Rattle.file_table.specs.declared.open_file.End.{End}
use Rattle.file_table.specs.declared.open_file.End.TheVariants.{Reading, Writing}
use Rattle.kernel_spec.specs.views.State.{State, ProgramFile, live}
use Rattle.kcall_core.specs.Observers.{descriptor_of}
use Rattle.kcall_core.specs.declared.kernel.observers.Descriptor.{Descriptor}
use Rattle.xv_session.specs.Recorded.{Recorded}
use Rattle.debug_words.specs.Texts.{grouped, named, name_shown, number_at_right}
use Rattle.debug_views.specs.Focus.{name_in, no_process}
use Rattle.debug_views.specs.Sharing.{first_with}

-- the name of a program's file, or a mark if there is none at its place
abbrev pub name_or_mark : Option ProgramFile → List ℕ
name_or_mark None = codes "?"
name_or_mark (Some f) = f.name

abbrev pub file_name : List ProgramFile → (place : ℕ) → List ℕ
file_name programs place = name_or_mark (slice_get programs place)

abbrev pub end_name : End → List ℕ
end_name Reading = codes "read"
end_name Writing = codes "write"

-- a program's file, and an end of a pipe
abbrev pub file_text : (name : List ℕ) → (offset : ℕ) → List ℕ
file_text name offset = codes "file " ++ name_shown name ++ codes ", next byte " ++ grouped offset

abbrev pub end_text : End → (frame : ℕ) → List ℕ
end_text end frame = end_name end ++ codes " end of pipe " ++ decimal frame

-- what an open file is on
abbrev pub target_text : List ProgramFile → Target → List ℕ
target_text programs Console = codes "console"
target_text programs (Program place offset) = file_text (file_name programs place) offset
target_text programs (Pipe frame end) = end_text end frame

-- what may be done with it
abbrev pub rights_text : OpenFile → List ℕ
rights_text o = (if o.read then codes "r" else codes "-") ++ (if o.write then codes "w" else codes "-")

-- of descriptor d: the first one that shares its open file, if that is another
abbrev pub sharing_text : (d : ℕ) → (first : Option ℕ) → List ℕ
sharing_text d None = codes "\n"
sharing_text d (Some first) = if nat_lt first d then codes "; the open file of fd " ++ decimal first ++ codes "\n" else codes "\n"

-- descriptor d of process p
abbrev pub descriptor_text : State → (p d : ℕ) → Descriptor → List ℕ
descriptor_text s p d found =
    number_at_right 4 d ++ codes "  " ++ rights_text found.open_file ++ codes "   " ++ target_text s.programs found.open_file.target
    ++ sharing_text d (first_with s p found.file)

abbrev pub descriptor_told : State → (p d : ℕ) → Option Descriptor → List ℕ
descriptor_told s p d None = []
descriptor_told s p d (Some found) = descriptor_text s p d found

-- the first descriptors of process p, those that are in use
unfoldable pub first_descriptors : State → (p count : ℕ) → List ℕ
first_descriptors s p count = flat_map (λ d. descriptor_told s p d (descriptor_of s p d)) (range_with_len 0 count)

abbrev pub descriptors_head : (p : ℕ) → (name : Option (List ℕ)) → List ℕ
descriptors_head p name = concat (codes "descriptors of process " ∷ decimal p ∷ named name ∷ codes "; r: it may be read, w: written\n  fd  may  on\n" ∷ [])

-- those of process p
abbrev pub descriptors_text : Recorded → ℕ → List ℕ
descriptors_text s p = descriptors_head p (name_in s p) ++ first_descriptors s.machine.world.state p NOFILE

-- if it lives
abbrev pub descriptors_shown : Recorded → ℕ → List ℕ
descriptors_shown s p =
    if is_some (live s.machine.world.state p)
    then descriptors_text s p
    else no_process p
