-- Worked cases of which lines the settings ask for.
use Rattle.std.proofs.Common.{◌≡◌, [], ◌∷◌, arith, false, true, None, Some, String, refl, rules}
use Rattle.std.specs.Prelude.{Vec, codes, pos, string_bytes}
use Rattle.std.specs.declared.alloc.Global.{Global}
use Rattle.kernel_calls.specs.Table.{call_named}
use Rattle.kernel_calls.specs.declared.call.KernelCall.{KernelCall}
use Rattle.kernel_calls.specs.declared.call.KernelCall.TheVariants.{Read, Write}
use Rattle.explained_run.specs.Asked.{AreCallsAsked, AreCallsOf, IsChoiceOf, IsNoCallIn, names_in}
use Rattle.explained_run.specs.Chosen.{is_of, shows_ends}
use Rattle.explained_run.specs.declared.choice.Choice.{Choice}
use Rattle.explained_run.specs.declared.line.Settings.{Settings}

-- with a table there are no lines, without one there are
a_table_has_no_lines : (s : Settings) (choice : Choice) → IsChoiceOf (record s { count = true }) choice → choice.lines ≡ false
a_table_has_no_lines s choice is = is.lines

lines_without_a_table : (s : Settings) (choice : Choice) → IsChoiceOf (record s { count = false }) choice → choice.lines ≡ true
lines_without_a_table s choice is = is.lines

-- a comma parts two names; what stands between two commas is a name, also if it is empty
one_name : names_in (codes "read") ≡ codes "read" ∷ []
one_name = refl

two_names : names_in (codes "read,write") ≡ codes "read" ∷ codes "write" ∷ []
two_names = refl

an_empty_name : names_in (codes "read,,write") ≡ codes "read" ∷ [] ∷ codes "write" ∷ []
an_empty_name = refl

-- a call is asked for by its name, and by a list each call that it names
read_is_asked_for : (list : String Global) (calls : Vec KernelCall Global) → string_bytes list ≡ codes "read" → calls.items ≡ Read ∷ [] → AreCallsAsked (Some list) (Some calls)
unfolding call_named
read_is_asked_for list calls is are = rw (is, are) refl

both_are_asked_for : (list : String Global) (calls : Vec KernelCall Global) → string_bytes list ≡ codes "read,write" → calls.items ≡ Read ∷ Write ∷ []
    → AreCallsAsked (Some list) (Some calls)
unfolding call_named
both_are_asked_for list calls is are = rw (is, are) refl

-- not the first of them alone, and no other call
the_first_alone_is_not : AreCallsOf (names_in (codes "read,write")) (Read ∷ []) → ⊥
unfolding call_named
the_first_alone_is_not same = search (rules, same)

write_is_not_asked_for : AreCallsOf (names_in (codes "read")) (Write ∷ []) → ⊥
unfolding call_named
write_is_not_asked_for same = search (rules, same)

any_call_is_asked_for : AreCallsAsked None None
any_call_is_asked_for = tt

-- a name that no call has is refused, also an empty one
reads_is_refused : IsNoCallIn (names_in (codes "read,reads")) (codes "reads")
unfolding call_named
reads_is_refused = ((1, omega arith, refl), refl)

an_empty_name_is_refused : IsNoCallIn (names_in (codes "read,")) []
unfolding call_named
an_empty_name_is_refused = ((1, omega arith, refl), refl)

no_name_is_refused : IsNoCallIn (names_in []) []
unfolding call_named
no_name_is_refused = ((0, omega arith, refl), refl)

-- of two calls both are told, by their numbers, and no third one, nor the end of a process without a call
both_are_told : is_of (Read ∷ Write ∷ []) (pos 5) ≡ true
both_are_told = refl

the_other_is_told : is_of (Read ∷ Write ∷ []) (pos 16) ≡ true
the_other_is_told = refl

fork_is_not_told : is_of (Read ∷ Write ∷ []) (pos 1) ≡ false
fork_is_not_told = refl

no_end_is_told : (choice : Choice) (calls : Vec KernelCall Global) → shows_ends (record choice { calls = Some calls }) ≡ false
no_end_is_told choice calls = refl
