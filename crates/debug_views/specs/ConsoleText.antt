-- The console's lists, as they are shown.
use Rattle.std.specs.Prelude.{ℕ, List, [], ◌∷◌, ◌++◌, length, take, codes}
use Rattle.std.specs.List.{concat}
use Rattle.xk_base.specs.declared.limits.TheConstants.{CONSOLE_BYTES, SEND_BYTES}
use Rattle.console_core.specs.Lists.{Console}
use Rattle.debug_words.specs.Texts.{grouped, many, quoted}
use Rattle.debug_views.specs.declared.console.TheConstants.{SHOWN_MOST}

-- the bytes themselves, if there are any
abbrev pub behind_number : List ℕ → List ℕ
behind_number [] = []
behind_number (b ∷ bytes) = codes " " ++ quoted (b ∷ bytes)

-- a list: what it is, how many bytes it has, and these
unfoldable pub list_text : (what bytes : List ℕ) → List ℕ
list_text what bytes = what ++ codes ": " ++ many (length bytes) (codes "byte") ++ behind_number bytes ++ codes "\n"

-- for how many bytes there is room
abbrev pub room_text : List ℕ
room_text = concat (codes "There is room for " ∷ grouped CONSOLE_BYTES ∷ codes " typed bytes and " ∷ grouped SEND_BYTES ∷ codes " that wait.\n" ∷ [])

-- the three lists, of each the first 128 bytes, which are all, and for how many bytes there is room
abbrev pub console_text : Console → List ℕ
console_text c =
    list_text (codes "typed, and may be taken back") (take SHOWN_MOST c.uncommitted)
    ++ list_text (codes "typed lines that a read may take") (take SHOWN_MOST c.committed)
    ++ list_text (codes "written, and wait to be sent") (take SHOWN_MOST c.to_send)
    ++ room_text
