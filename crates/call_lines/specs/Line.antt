-- A kernel call as a line of text: its name, what is passed to it, and what it answers. Of each text and buffer so many bytes are shown at most
-- (`shown`); one more is looked at, so that it is seen whether there are more.
use Rattle.std.specs.Prelude.{ℕ, ℤ, pos, negsuc, zero, suc, ◌+◌, ◌%◌, ◌^◌, ◌==◌, Bool, not, true, false, min, nat_lt, if◌then◌else◌}
use Rattle.std.specs.Prelude.{List, [], ◌++◌, length, flat_map, slice_get, codes, Option, None, Some}
use Rattle.std.specs.Fmt.{signed_decimal}
use Rattle.std.specs.List.{range_with_len}
use Rattle.debug_words.specs.Texts.{hexadecimal}
use Rattle.kernel_calls.specs.Arguments.{kind_of}
use Rattle.kernel_calls.specs.Table.{entry_of, call_at}
use Rattle.kernel_calls.specs.declared.argument.Argument.{Argument}
use Rattle.kernel_calls.specs.declared.argument.ArgumentKind.{ArgumentKind}
use Rattle.kernel_calls.specs.declared.argument.ArgumentKind.TheVariants as kinds
use Rattle.kernel_calls.specs.declared.call.KernelCall.{KernelCall}
use Rattle.kernel_calls.specs.declared.call.KernelCall.TheVariants.{Read, Write, Sbrk, Sbrklazy, Wait}
use Rattle.kernel_spec.specs.views.State.{State}
use Rattle.kernel_spec.specs.views.Words.{c_int}
use Rattle.call_reasons.specs.Asked.{call_asked}
use Rattle.call_reasons.specs.Shown.{reason_in}
use Rattle.call_reasons.specs.Words.{reason_words}
use Rattle.call_reasons.specs.declared.asked.Asked.{Asked}
use Rattle.call_reasons.specs.declared.reason.Reason.{Reason}
use Rattle.call_lines.specs.Memory.{address_at, bytes_from, int_at, read_at, text_from}
use Rattle.call_lines.specs.Strings.{c_string}
use Rattle.call_lines.specs.declared.line.TheConstants.{TEXTS_MOST}

-- what stands before an argument, and before a text among texts, unless it is the first
abbrev pub comma_unless : (is_first : Bool) → List ℕ
comma_unless is_first = if is_first then [] else codes ", "

-- ---- arguments

-- a text in memory, by its first byte; its address if the kernel may not read that
abbrev pub text_by : (shown : ℕ) → State → (p address : ℕ) → (first : Option ℕ) → List ℕ
text_by shown s p address None = hexadecimal address
text_by shown s p address (Some byte) = c_string shown (text_from s p address (shown + 1))

abbrev pub text_shown : (shown : ℕ) → State → (p address : ℕ) → List ℕ
text_shown shown s p address = text_by shown s p address (read_at s p address)

-- the text at an address that stands there, if it isn't 0, and those behind it
abbrev pub text_and : (shown : ℕ) → State → (p : ℕ) → (is_first : Bool) → Option ℕ → List ℕ → List ℕ
text_and shown s p is_first None rest = comma_unless is_first ++ codes "?"
text_and shown s p is_first (Some text) rest = if text == 0 then [] else comma_unless is_first ++ text_shown shown s p text ++ rest

-- texts whose addresses stand one behind another, up to the address 0, so many at most; a sign where no address is there
unfoldable pub texts_shown : (shown : ℕ) → State → (p address : ℕ) → (is_first : Bool) → (most : ℕ) → List ℕ
texts_shown shown s p address is_first zero = []
texts_shown shown s p address is_first (suc most) =
    text_and shown s p is_first (address_at s p address) (if nat_lt (address + 8) (2 ^ 64) then texts_shown shown s p (address + 8) false most else [])

-- a number that isn't below zero
abbrev pub natural : ℤ → Option ℕ
natural (pos n) = Some n
natural (negsuc k) = None

abbrev pub natural_in : Option ℤ → Option ℕ
natural_in None = None
natural_in (Some z) = natural z

-- how many bytes of its buffer a call has: what is written has them before the call, and what is read once it is answered
abbrev pub buffer_length : KernelCall → Asked → (answered : Option ℤ) → Option ℕ
buffer_length Write asked answered = natural (c_int asked.a2)
buffer_length Read asked answered = natural_in answered
buffer_length _ asked answered = None

-- the bytes that are looked at, if the kernel may read all of them; else their address
abbrev pub whole_or_place : (shown address most : ℕ) → (bytes : List ℕ) → List ℕ
whole_or_place shown address most bytes = if length bytes == most then c_string shown bytes else hexadecimal address

-- a buffer that has so many bytes; its address if nobody knows them yet
abbrev pub buffer_shown : (shown : ℕ) → State → (p address : ℕ) → Option ℕ → List ℕ
buffer_shown shown s p address None = hexadecimal address
buffer_shown shown s p address (Some count) = whole_or_place shown address (min count (shown + 1)) (bytes_from s p address (min count (shown + 1)))

-- a C int in memory; a sign if it isn't there
abbrev pub int_shown : Option ℤ → List ℕ
int_shown None = codes "?"
int_shown (Some z) = signed_decimal z

-- the call has answered 0
abbrev pub is_zero : Option ℤ → Bool
is_zero (Some (pos n)) = n == 0
is_zero (Some (negsuc k)) = false
is_zero None = false

-- two C ints in memory
abbrev pub ints_shown : Option ℤ → Option ℤ → List ℕ
ints_shown one other = int_shown one ++ codes ", " ++ int_shown other

abbrev pub ints_stored : State → (p address : ℕ) → List ℕ
ints_stored s p address = codes "{" ++ ints_shown (int_at s p address) (int_at s p ((address + 4) % 2 ^ 64)) ++ codes "}"

-- two descriptors, once they are stored; else where they are to be stored
abbrev pub pair_shown : State → (p address : ℕ) → (answered : Option ℤ) → List ℕ
pair_shown s p address answered = if is_zero answered then ints_stored s p address else hexadecimal address

-- where a status is stored, if anywhere
abbrev pub status_shown : (address : ℕ) → List ℕ
status_shown address = if address == 0 then codes "0" else codes "&" ++ hexadecimal address

-- the texts of an array
abbrev pub list_shown : (shown : ℕ) → State → (p address : ℕ) → List ℕ
list_shown shown s p address = codes "{" ++ texts_shown shown s p address true TEXTS_MOST ++ codes "}"

-- an argument, by what it is
abbrev pub argument_shown : (shown : ℕ) → State → (p : ℕ) → ArgumentKind → (value : ℕ) → (bytes : Option ℕ) → (answered : Option ℤ) → List ℕ
argument_shown shown s p kinds.Int value bytes answered = signed_decimal (c_int value)
argument_shown shown s p kinds.Descriptor value bytes answered = signed_decimal (c_int value)
argument_shown shown s p kinds.Buffer value bytes answered = buffer_shown shown s p value bytes
argument_shown shown s p kinds.Text value bytes answered = text_shown shown s p value
argument_shown shown s p kinds.Texts value bytes answered = list_shown shown s p value
argument_shown shown s p kinds.TwoDescriptors value bytes answered = pair_shown s p value answered
argument_shown shown s p kinds.Status value bytes answered = status_shown value

-- the register of an argument
abbrev pub value_at : Asked → (place : ℕ) → ℕ
value_at asked place = if place == 0 then asked.a0 else if place == 1 then asked.a1 else asked.a2

abbrev pub argument_here : (shown : ℕ) → State → (p : ℕ) → KernelCall → Asked → (answered : Option ℤ) → (place : ℕ) → Option Argument → List ℕ
argument_here shown s p call asked answered place None = []
argument_here shown s p call asked answered place (Some argument) =
    comma_unless (place == 0) ++ argument_shown shown s p (kind_of argument) (value_at asked place) (buffer_length call asked answered) answered

-- the argument at a place
abbrev pub argument_at : (shown : ℕ) → State → (p : ℕ) → KernelCall → Asked → (answered : Option ℤ) → (place : ℕ) → List ℕ
argument_at shown s p call asked answered place = argument_here shown s p call asked answered place (slice_get (entry_of call).arguments place)

-- all arguments of a call
abbrev pub arguments_shown : (shown : ℕ) → State → (p : ℕ) → KernelCall → Asked → (answered : Option ℤ) → List ℕ
arguments_shown shown s p call asked answered = flat_map (argument_at shown s p call asked answered) (range_with_len 0 (length (entry_of call).arguments))

-- ---- a call

abbrev pub known_call : (shown : ℕ) → State → (p : ℕ) → Asked → (answered : Option ℤ) → KernelCall → List ℕ
known_call shown s p asked answered call = (entry_of call).name ++ codes "(" ++ arguments_shown shown s p call asked answered ++ codes ")"

-- of a number that no call has the registers are shown
abbrev pub unknown_call : Asked → List ℕ
unknown_call asked = codes "call " ++ signed_decimal asked.number ++ codes "(" ++ hexadecimal asked.a0 ++ codes ", " ++ hexadecimal asked.a1 ++ codes ", " ++ hexadecimal asked.a2 ++ codes ")"

abbrev pub call_by : (shown : ℕ) → State → (p : ℕ) → Asked → (answered : Option ℤ) → Option KernelCall → List ℕ
call_by shown s p asked answered None = unknown_call asked
call_by shown s p asked answered (Some call) = known_call shown s p asked answered call

-- what process p asks for, with the memory of state s: before the call, or with its answer after it
abbrev pub call_shown : (shown : ℕ) → State → (p : ℕ) → Asked → (answered : Option ℤ) → List ℕ
call_shown shown s p asked answered = call_by shown s p asked answered (call_at asked.number)

-- ---- an answer

-- a place in memory
abbrev pub place_or_refusal : ℤ → List ℕ
place_or_refusal (pos n) = hexadecimal n
place_or_refusal (negsuc k) = signed_decimal (negsuc k)

-- the value that a call answers
abbrev pub value_shown : Option KernelCall → ℤ → List ℕ
value_shown (Some Sbrk) value = place_or_refusal value
value_shown (Some Sbrklazy) value = place_or_refusal value
value_shown _ value = signed_decimal value

-- a child's status was stored
abbrev pub stores_status : Asked → Option KernelCall → ℤ → Bool
stores_status asked (Some Wait) (pos child) = not (asked.a0 == 0)
stores_status asked _ _ = false

-- that status
abbrev pub stored_shown : State → (p : ℕ) → Asked → Option KernelCall → ℤ → List ℕ
stored_shown s p asked call value = if stores_status asked call value then codes ", its status " ++ int_shown (int_at s p asked.a0) else []

-- a reason, in brackets
abbrev pub reason_text : Option Reason → List ℕ
reason_text None = []
reason_text (Some reason) = codes " (" ++ reason_words reason ++ codes ")"

-- why it was refused, if it was
abbrev pub reason_shown : State → (p : ℕ) → Asked → ℤ → List ℕ
reason_shown s p asked value = reason_text (reason_in s p (call_asked asked) value)

abbrev pub answer_shown : State → (p : ℕ) → Asked → ℤ → List ℕ
answer_shown s p asked value =
    codes " = " ++ value_shown (call_at asked.number) value ++ stored_shown s p asked (call_at asked.number) value ++ reason_shown s p asked value
