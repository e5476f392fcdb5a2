-- Where the accesses of user code lead before and after a change: to a place in a frame, or to a page fault.
use Rattle.std.specs.Prelude.{◌≡◌, ℕ, ◌/◌, ◌<◌, List, Some}
use Rattle.xk_base.specs.declared.access.Access.{Access}
use Rattle.sv39_core.specs.Sv39.{walked}

-- each present translation stays: an access that reached a place in a frame reaches the same one. Where there was a page fault, a page may have come
abbrev pub TranslationsStay : List (List ℕ) → List (List ℕ) → ℕ → Type 0
TranslationsStay ram ram' root = (va : ℕ) (access : Access) (place : ℕ × ℕ) → walked ram root va access ≡ Some place → walked ram' root va access ≡ Some place

-- each access leads where it led, a page fault included
abbrev pub WalksStay : List (List ℕ) → List (List ℕ) → ℕ → Type 0
WalksStay ram ram' root = (va : ℕ) (access : Access) → walked ram' root va access ≡ walked ram root va access

-- each access to an address below `end` leads where it led
abbrev pub WalksStayBelow : ℕ → List (List ℕ) → List (List ℕ) → ℕ → Type 0
WalksStayBelow end ram ram' root = (va : ℕ) (access : Access) → va < end → walked ram' root va access ≡ walked ram root va access

-- each access to an address outside page v leads where it led
abbrev pub WalksStayBeside : ℕ → List (List ℕ) → List (List ℕ) → ℕ → Type 0
WalksStayBeside v ram ram' root = (va : ℕ) (access : Access) → (va / 4096 ≡ v → ⊥) → walked ram' root va access ≡ walked ram root va access
