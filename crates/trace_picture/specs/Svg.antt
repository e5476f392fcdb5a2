-- The text of a picture, in SVG 1.1 (Scalable Vector Graphics).
use Rattle.std.specs.Prelude.{ℕ, ℤ, pos, ◌+◌, ◌*◌, ◌/◌, ◌%◌, ◌-◌, ◌^◌, ◌==◌, nat_le, nat_lt, min, max, if◌then◌else◌, List, [], ◌∷◌, ◌++◌, length, take, slice_get, flat_map, codes, decimal, Option, None, Some, option_map}
use Rattle.std.specs.Char.{encode_utf8}
use Rattle.std.specs.Fmt.{signed_decimal}
use Rattle.std.specs.List.{concat, range_with_len}
use Rattle.kernel_calls.specs.Table.{call_at, entry_of}
use Rattle.kernel_calls.specs.declared.call.KernelCall.{KernelCall}
use Rattle.trace_picture.specs.Names.{letter_text, names_room, row_name, who_text, xml_text}
use Rattle.trace_picture.specs.Remarks.{program_at, wait_in}
use Rattle.trace_picture.specs.Shapes.{shapes_of}
use Rattle.trace_picture.specs.declared.chart.Chart.{Chart}
use Rattle.trace_picture.specs.declared.note.Note.{Note}
use Rattle.trace_picture.specs.declared.note.Note.TheVariants as notes
use Rattle.trace_picture.specs.declared.picture.Console.{Console}
use Rattle.trace_picture.specs.declared.picture.Console.TheVariants.{SentBytes, TypedBytes}
use Rattle.trace_picture.specs.declared.picture.Measure.{Measure}
use Rattle.trace_picture.specs.declared.picture.Measure.TheVariants.{Pixels, Hundredths}
use Rattle.trace_picture.specs.declared.remark.Remarks.{Remarks}
use Rattle.trace_picture.specs.declared.row.State.{State}
use Rattle.trace_picture.specs.declared.row.State.TheVariants.{Absent, Ready, Running, Asleep, Ended}
use Rattle.trace_picture.specs.declared.shape.Mark.{Mark}
use Rattle.trace_picture.specs.declared.shape.Mark.TheVariants as marks
use Rattle.trace_picture.specs.declared.shape.Shape.{Shape}
use Rattle.trace_picture.specs.declared.shape.Shape.TheVariants as shapes

-- ---- lengths

-- in 64 bits: the longest, if it would be longer
abbrev pub capped : ℕ → ℕ
capped n = min n (2 ^ 64 - 1)

-- hundredths of a pixel, in pixels: `12.05`
abbrev pub pixels : (hundredths : ℕ) → List ℕ
pixels n = decimal (n / 100) ++ (codes "." ++ (decimal (n / 10 % 10) ++ decimal (n % 10)))

abbrev pub measure_text : Measure → List ℕ
measure_text (Pixels n) = decimal n
measure_text (Hundredths length) = pixels length.0

-- ---- places: bars begin at `left`, in pixels; all `events` of a trace take 1,200

-- where the bars of the first events end, so many, in hundredths of a pixel
abbrev pub across : (left events : ℕ) → (event : ℕ) → ℕ
across left events event = capped (capped (event * 120000) / max events 1 + capped (left * 100))

-- the upper edge of a row, and the middle of its bar
abbrev pub row_top : (place : ℕ) → ℕ
row_top place = capped (capped (20 * place) + 44)

abbrev pub row_middle : (place : ℕ) → ℕ
row_middle place = capped (row_top place + 6)

-- ---- elements

-- a text from x on, on the line `base`
abbrev pub text_opened : (x : List ℕ) → (base : ℕ) → List ℕ
text_opened x base = concat (codes "<text x=\"" ∷ x ∷ codes "\" y=\"" ∷ decimal base ∷ codes "\">" ∷ [])

abbrev pub text_closed : List ℕ
text_closed = codes "</text>\n"

abbrev pub text_at : (x : List ℕ) → (base : ℕ) → (text : List ℕ) → List ℕ
text_at x base text = text_opened x base ++ (text ++ text_closed)

-- a bar of a colour from x on, 12 pixels high, up to what stands in it
abbrev pub bar_opened : (class x : List ℕ) → (top : ℕ) → (width : List ℕ) → List ℕ
bar_opened class x top width = concat (codes "<rect class=\"" ∷ class ∷ codes "\" x=\"" ∷ x ∷ codes "\" y=\"" ∷ decimal top ∷ codes "\" width=\"" ∷ width ∷ codes "\" height=\"12\"" ∷ [])

-- a line of a colour, from top to bottom
abbrev pub line_text : (class : List ℕ) → (x top bottom : ℕ) → List ℕ
line_text class x top bottom = concat (codes "<line class=\"" ∷ class ∷ codes "\" x1=\"" ∷ pixels x ∷ codes "\" y1=\"" ∷ decimal top ∷ codes "\" x2=\"" ∷ pixels x ∷ codes "\" y2=\""
    ∷ decimal bottom ∷ codes "\"/>\n" ∷ [])

-- ---- the parts of a bar

abbrev pub word : State → List ℕ
word Absent = codes "absent"
word Ready = codes "ready"
word Running = codes "running"
word Asleep = codes "asleep"
word Ended = codes "ended"

-- what a sleeper waits for, if it is told
abbrev pub wait_text : Option (List ℕ) → List ℕ
wait_text None = []
wait_text (Some wait) = codes " in " ++ xml_text wait

abbrev pub waits_text : Remarks → State → (pid first behind : ℕ) → List ℕ
waits_text remarks Asleep pid first behind = wait_text (wait_in remarks pid first behind)
waits_text remarks _ pid first behind = []

-- what shows under the pointer: the process, what it did, and in which events
abbrev pub bar_title : Remarks → (pid first behind : ℕ) → State → List ℕ
bar_title remarks pid first behind state = concat (codes "><title>" ∷ who_text pid (program_at remarks pid behind) ∷ codes ": " ∷ word state ∷ waits_text remarks state pid first behind
    ∷ codes ", events "
    ∷ decimal first ∷ codes " to " ∷ decimal (behind - 1) ∷ codes "</title></rect>\n" ∷ [])

-- ---- marks

abbrev pub call_name : Option KernelCall → List ℕ
call_name None = codes "unknown"
call_name (Some call) = (entry_of call).name

abbrev pub call_text : (number : ℤ) → List ℕ
call_text number = concat (call_name (call_at number) ∷ codes " (call " ∷ signed_decimal number ∷ codes ")" ∷ [])

abbrev pub mark_title : Mark → List ℕ
mark_title (marks.Answered number answer) = call_text number ++ (codes " answers " ++ signed_decimal answer)
mark_title (marks.Waits number) = call_text number ++ codes " waits"
mark_title (marks.Exit status) = codes "exit with status " ++ signed_decimal status
mark_title (marks.Fault cause) = codes "fault of cause " ++ signed_decimal (pos cause)

abbrev pub mark_titled : Mark → List ℕ
mark_titled mark = concat (codes "><title>" ∷ mark_title mark ∷ codes "</title></rect>\n" ∷ [])

abbrev pub mark_class : Mark → List ℕ
mark_class (marks.Answered number answer) = codes "call"
mark_class (marks.Waits number) = codes "call"
mark_class (marks.Exit status) = codes "exit"
mark_class (marks.Fault cause) = codes "fault"

-- how wide it is, in pixels
abbrev pub mark_width : Mark → ℕ
mark_width (marks.Answered number answer) = 1
mark_width (marks.Waits number) = 1
mark_width (marks.Exit status) = 4
mark_width (marks.Fault cause) = 4

-- the word of a fault, six pixels right of its mark
abbrev pub fault_text : (x row cause : ℕ) → List ℕ
fault_text x row cause = concat (codes "<text class=\"fault\" x=\"" ∷ pixels (capped (x + 600)) ∷ codes "\" y=\"" ∷ decimal (capped (row_top row + 10)) ∷ codes "\">fault " ∷ decimal cause
    ∷ codes "</text>\n" ∷ [])

abbrev pub fault_word : (x row : ℕ) → Mark → List ℕ
fault_word x row (marks.Fault cause) = fault_text x row cause
fault_word x row _ = []

abbrev pub mark_opened : (x row : ℕ) → Mark → List ℕ
mark_opened x row mark = bar_opened (mark_class mark) (pixels x) (row_top row) (decimal (mark_width mark))

abbrev pub mark_text : (x row : ℕ) → Mark → List ℕ
mark_text x row mark = mark_opened x row mark ++ (mark_titled mark ++ fault_word x row mark)

-- ---- shapes: the rows end at `bottom`

-- a part of a row's bar, up to its text
abbrev pub part_opened : (left events row first behind : ℕ) → State → List ℕ
part_opened left events row first behind state = bar_opened (word state) (pixels (across left events first)) (row_top row) (pixels (across left events behind - across left events first))

abbrev pub shape_text : Remarks → (left events bottom : ℕ) → Shape → List ℕ
shape_text remarks left events bottom (shapes.Tick event) = line_text (codes "tick") (across left events event) 44 bottom
shape_text remarks left events bottom (shapes.Name row pid) = text_at (decimal 8) (capped (row_top row + 10)) (row_name pid (program_at remarks pid events))
shape_text remarks left events bottom (shapes.Bar row pid first behind state) =
    part_opened left events row first behind state ++ bar_title remarks pid first behind state
shape_text remarks left events bottom (shapes.Birth event parent child) = line_text (codes "birth") (across left events event) (row_middle parent) (row_middle child)
shape_text remarks left events bottom (shapes.Mark event row mark) = mark_text (across left events event) row mark

-- ---- the head, and what the colours mean

abbrev pub size_text : (width height : ℕ) → List ℕ
size_text width height = concat (codes " width=\"" ∷ decimal width ∷ codes "\" height=\"" ∷ decimal height ∷ codes "\"" ∷ [])

-- the colours, by the words that the picture's parts have as their classes
abbrev pub bar_colours : List ℕ
bar_colours = codes ".running { fill: #2563c9 } .ready { fill: #c4d7f5 }\n" ++ codes ".asleep { fill: #f3c969 } .ended { fill: #b9b9b9 }\n"

abbrev pub tick_colours : List ℕ
tick_colours = codes ".tick { stroke: #e4e4e4 } .birth { stroke: #2e8b57; stroke-width: 1.5 }\n"

abbrev pub call_colours : List ℕ
call_colours = codes ".call { fill: #10294f } .exit { fill: #4a4a4a } .fault { fill: #c0392b }\n"

abbrev pub mark_colours : List ℕ
mark_colours = tick_colours ++ call_colours

abbrev pub style_begin : List ℕ
style_begin = codes " font-family=\"sans-serif\" font-size=\"11\">\n<style>\n"

abbrev pub style_end : List ℕ
style_end = codes "</style>\n<rect"

abbrev pub style_text : List ℕ
style_text = style_begin ++ (bar_colours ++ (mark_colours ++ style_end))

abbrev pub svg_begin : List ℕ
svg_begin = codes "<svg xmlns=\"http://www.w3.org/2000/svg\""

abbrev pub picture_opened : (width height : ℕ) → List ℕ
picture_opened width height = svg_begin ++ size_text width height

abbrev pub ground_text : (width height : ℕ) → List ℕ
ground_text width height = size_text width height ++ codes " fill=\"white\"/>\n"

abbrev pub head_text : (width height : ℕ) → List ℕ
head_text width height = picture_opened width height ++ (style_text ++ ground_text width height)

abbrev pub meaning_text : (class : List ℕ) → (left : ℕ) → List ℕ
meaning_text class left = bar_opened class (decimal left) 10 (decimal 12) ++ (codes "/>\n" ++ text_at (decimal (capped (left + 16))) 20 class)

-- 90 pixels each
abbrev pub meanings : (left : ℕ) → List (List ℕ) → List ℕ
meanings left [] = []
meanings left (class ∷ classes) = meaning_text class left ++ meanings (capped (left + 90)) classes

abbrev pub legend_text : (left : ℕ) → List ℕ
legend_text left = meanings left (codes "running" ∷ codes "ready" ∷ codes "asleep" ∷ codes "ended" ∷ codes "call" ∷ codes "exit" ∷ codes "fault" ∷ [])

-- ---- below the bars: bytes of the console, and the numbers of events

abbrev pub console_name : Console → List ℕ
console_name SentBytes = codes "sent"
console_name TypedBytes = codes "typed"

-- the byte that an event shows there, if it shows one
abbrev pub byte_in : Console → Note → Option ℕ
byte_in SentBytes (notes.Sent byte) = Some byte
byte_in TypedBytes (notes.Key byte) = Some byte
byte_in _ _ = None

-- a visible character, an arrow for Enter, and a dot for any other
abbrev pub letter_of : (byte : ℕ) → ℕ
letter_of byte = if byte == 10 then 9166 else if nat_lt byte 32 then 183 else if nat_le byte 126 then byte else 183

abbrev pub console_letter : (x base letter : ℕ) → List ℕ
console_letter x base letter = concat (codes "<text x=\"" ∷ pixels x ∷ codes "\" y=\"" ∷ decimal base ∷ codes "\" font-family=\"monospace\">" ∷ letter_text letter ∷ codes "</text>\n" ∷ [])

abbrev pub byte_text : (x base byte : ℕ) → List ℕ
byte_text x base byte = console_letter x base (letter_of byte)

-- a byte of the console, and the number of the event that shows it
pub record Letter : Type 0 where
  pub event : ℕ
  pub byte : ℕ

abbrev pub letter_of_event : (event : ℕ) → Option ℕ → List Letter
letter_of_event event None = []
letter_of_event event (Some byte) = record { event = event; byte = byte } ∷ []

-- the bytes that events show, the first of which has this number
abbrev pub letters : Console → (event : ℕ) → List Note → List Letter
letters line event [] = []
letters line event (note ∷ notes) = letter_of_event event (byte_in line note) ++ letters line (event + 1) notes

-- from where on there is room behind letters: each takes seven pixels, from its event on or from the end of the one before it
abbrev pub room_behind : (left events : ℕ) → List Letter → ℕ
room_behind left events [] = 0
room_behind left events (letter ∷ list) = max (across left events letter.event + 700 * (length list + 1)) (room_behind left events list)

-- where a byte stands: at its event, or, if there is no room, right of those before it
abbrev pub byte_place : (left events event free : ℕ) → ℕ
byte_place left events event free = max (across left events event) free

abbrev pub byte_shown : (left events base event free : ℕ) → Option ℕ → List ℕ
byte_shown left events base event free None = []
byte_shown left events base event free (Some byte) = byte_text (byte_place left events event free) base byte

-- a letter behind those before it, whose room ends at `free`; it is left out if that is right of the picture's edge
abbrev pub letter_shown : (left events base free : ℕ) → Option Letter → List ℕ
letter_shown left events base free None = []
letter_shown left events base free (Some letter) =
    if nat_lt (capped (capped (left + 1200) * 100)) free then [] else byte_shown left events base letter.event free (Some letter.byte)

-- all letters: each behind those before it
abbrev pub letters_shown : (left events base : ℕ) → List Letter → List ℕ
letters_shown left events base list =
    flat_map (λ place. letter_shown left events base (capped (room_behind left events (take place list))) (slice_get list place)) (range_with_len 0 (length list))

abbrev pub bytes_shown : Console → (left events base : ℕ) → List Note → List ℕ
bytes_shown line left events base notes = letters_shown left events base (letters line 0 notes)

abbrev pub bytes_text : Console → Chart → (left base : ℕ) → List ℕ
bytes_text line chart left base = text_at (decimal 8) base (console_name line) ++ bytes_shown line left (length chart.notes.items) base chart.notes.items

-- from where on there is room after an event, if there was from `free` on
abbrev pub free_after : (left events event free : ℕ) → Option ℕ → ℕ
free_after left events event free None = free
free_after left events event free (Some byte) = capped (byte_place left events event free + 700)

abbrev pub number_text : (left events base quarter : ℕ) → List ℕ
number_text left events base quarter =
    let event = capped (events * quarter) / 4 in
    text_at (pixels (across left events event)) base (decimal event)

-- five events
abbrev pub numbers_text : (left events base : ℕ) → List ℕ
numbers_text left events base = text_at (decimal 8) base (codes "event") ++ flat_map (number_text left events base) (0 ∷ 1 ∷ 2 ∷ 3 ∷ 4 ∷ [])

abbrev pub below_text : Chart → (left bottom : ℕ) → List ℕ
below_text chart left bottom =
    bytes_text SentBytes chart left (capped (bottom + 16)) ++ (bytes_text TypedBytes chart left (capped (bottom + 34)) ++ numbers_text left (length chart.notes.items) (capped (bottom + 54)))

-- ---- the whole picture

abbrev pub begin_text : (left bottom : ℕ) → List ℕ
begin_text left bottom = head_text (capped (left + 1280)) (capped (bottom + 70)) ++ legend_text left

abbrev pub end_text : Chart → (left bottom : ℕ) → List ℕ
end_text chart left bottom = below_text chart left bottom ++ codes "</svg>\n"

abbrev pub picture_by : Chart → Remarks → (left events bottom : ℕ) → List Shape → List ℕ
picture_by chart remarks left events bottom shapes = begin_text left bottom ++ (flat_map (shape_text remarks left events bottom) shapes ++ end_text chart left bottom)

unfoldable pub picture_of : Chart → Remarks → List ℕ
picture_of chart remarks = picture_by chart remarks (names_room chart remarks) (length chart.notes.items) (row_top (length chart.rows.items)) (shapes_of chart)
