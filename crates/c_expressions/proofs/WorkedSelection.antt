-- Worked selections, of `struct node { int value; struct node *next; } list[3]` at 0x1000 and of a pointer to its first one at 0x2000.
use Rattle.std.specs.Prelude.{◌≡◌, ℕ, ◌==◌, Bool, true, false, codes, if◌then◌else◌, List, [], ◌∷◌, Option, Some, None, Ok, Err, refl}
use Rattle.std.specs.Borrow.{Bor}
use Rattle.debug_info.specs.declared.layouts.MemberRow.{MemberRow}
use Rattle.debug_info.specs.declared.layouts.Shape.TheVariants.{Pointer, Array, Record}
use Rattle.debug_info.specs.declared.layouts.TypeRow.{TypeRow}
use Rattle.debug_info.specs.declared.spots.Spot.TheVariants.{Memory}
use Rattle.debug_info.specs.declared.types.Kind.{Kind}
use Rattle.debug_info.specs.declared.places.Place.TheVariants as places
use Rattle.c_expressions.specs.Finding.{found_from}
use Rattle.c_expressions.specs.Selection.{selected, value_at}
use Rattle.c_expressions.specs.declared.expression.Step.TheVariants.{Member, Index, Target, Address}
use Rattle.c_expressions.specs.declared.finding.Found.TheVariants as founds
use Rattle.c_expressions.specs.declared.refusal.Refusal.TheVariants.{NoPointer, NoRecord, NoMember, NoBytes, NotThere, NoAddress, OfAddress}
use Rattle.c_expressions.specs.declared.selection.Subject.{Subject}

text : List ℕ → Bor (List ℕ)
text name = record { ref_ptr = (0, 0); now = name }

-- types: 1 is `int`, 2 `struct node`, 3 `struct node *`, 4 `struct node [3]`
kind : ℕ → Kind
kind number = record { number = number; range = 0 }

types : List TypeRow
types = record { kind = kind 2; shape = Record 2 } ∷ record { kind = kind 3; shape = Pointer (kind 2) 16 } ∷ record { kind = kind 4; shape = Array (kind 2) 16 } ∷ []

row : (owner : ℕ) → (name : List ℕ) → Kind → (offset : ℕ) → Bool → MemberRow
row owner name kind offset is_placeless = record { owner = owner; name = text name; kind = kind; offset = offset; is_placeless = is_placeless }

members : List MemberRow
members = row 2 (codes "value") (kind 1) 0 false ∷ row 2 (codes "next") (kind 3) 8 false ∷ row 2 (codes "flag") (kind 1) 0 true ∷ []

-- the pointer at 0x2000 is 0x1000; the `next` of the first one, at 0x1008, is 0x1020; nothing else is there
memory : ℕ → Option ℕ
memory address =
    if address == 0x2001 then Some 0x10 else (if address == 0x1008 then Some 0x20 else (if address == 0x1009 then Some 0x10
    else (if address == 0x2000 then Some 0 else (if address == 0x2002 then Some 0 else (if address == 0x2003 then Some 0
    else (if address == 0x2004 then Some 0 else (if address == 0x2005 then Some 0 else (if address == 0x2006 then Some 0
    else (if address == 0x2007 then Some 0 else (if address == 0x100a then Some 0 else (if address == 0x100b then Some 0
    else (if address == 0x100c then Some 0 else (if address == 0x100d then Some 0 else (if address == 0x100e then Some 0
    else (if address == 0x100f then Some 0 else None)))))))))))))))

list : Subject
list = value_at (kind 4) (Memory 0x1000)

pointer : Subject
pointer = value_at (kind 3) (Memory 0x2000)

-- list[2].next lies 2 * 16 + 8 bytes after the first byte
by_sums : selected types members memory (Index 2 ∷ Member (text (codes "next")) ∷ []) list ≡ Ok (value_at (kind 3) (Memory 0x1028))
unfolding list kind types members row text
by_sums = refl

-- pointer->next is read at 0x1008, and pointer->next->value is where it leads
by_pointers : selected types members memory (Target ∷ Member (text (codes "next")) ∷ Target ∷ Member (text (codes "value")) ∷ []) pointer ≡ Ok (value_at (kind 1) (Memory 0x1020))
unfolding pointer kind types members row text memory
by_pointers = refl

-- pointer[1] is the second one, and pointer[-1] stands before the first
after_it : selected types members memory (Index 1 ∷ []) pointer ≡ Ok (value_at (kind 2) (Memory 0x1010))
unfolding pointer kind types members row text memory
after_it = refl

before_it : selected types members memory (Index 0xFFFFFFFFFFFFFFFF ∷ []) pointer ≡ Ok (value_at (kind 2) (Memory 0xFF0))
unfolding pointer kind types members row text memory
before_it = refl

-- *list is list[0], and &list[1] is the address of the second one
first_one : selected types members memory (Target ∷ []) list ≡ Ok (value_at (kind 2) (Memory 0x1000))
unfolding list kind types members row text
first_one = refl

its_address : selected types members memory (Index 1 ∷ Address ∷ []) list ≡ Ok (record { kind = kind 2; spot = Memory 0x1010; is_address = true })
unfolding list kind types members row text
its_address = refl

-- what leads nowhere: `list->none`, `list.next`, `*list[0]`, `*list[2].next` whose bytes aren't there, `list[0].flag`, `(&list)[0]`
no_member : selected types members memory (Target ∷ Member (text (codes "none")) ∷ []) list ≡ Err NoMember
unfolding list kind types members row text
no_member = refl

no_record : selected types members memory (Member (text (codes "next")) ∷ []) list ≡ Err NoRecord
unfolding list kind types members row text
no_record = refl

no_pointer : selected types members memory (Index 0 ∷ Target ∷ []) list ≡ Err NoPointer
unfolding list kind types members row text
no_pointer = refl

not_there : selected types members memory (Index 2 ∷ Member (text (codes "next")) ∷ Target ∷ []) list ≡ Err NotThere
unfolding list kind types members row text memory
not_there = refl

bits : selected types members memory (Index 0 ∷ Member (text (codes "flag")) ∷ []) list ≡ Err NoBytes
unfolding list kind types members row text
bits = refl

of_address : selected types members memory (Address ∷ Index 0 ∷ []) list ≡ Err OfAddress
unfolding list kind types members row text
of_address = refl

-- a pointer in a register leads on, but has no address; what the compiler keeps nowhere has no bytes
in_a_register : found_from types members (λ number. Some 0x1000) memory (kind 3) (places.Register 10) (Target ∷ Member (text (codes "next")) ∷ []) ≡ founds.Subject (value_at (kind 3) (Memory 0x1008))
unfolding kind types members row text memory
in_a_register = refl

no_address : found_from types members (λ number. Some 0x1000) memory (kind 3) (places.Register 10) (Address ∷ []) ≡ founds.Refused NoAddress
unfolding kind types members row text memory
no_address = refl

nowhere : found_from types members (λ number. Some 0x1000) memory (kind 3) places.OptimizedOut (Target ∷ []) ≡ founds.Placeless places.OptimizedOut
unfolding kind types members row text memory
nowhere = refl
