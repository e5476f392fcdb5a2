-- Which accesses a page permits to user code (RISC-V Privileged ISA, Sv39: the bits U, R, W and X of a page).
use Rattle.std.specs.Prelude.{Bool, false, Option, Some, None}
use Rattle.xk_base.specs.declared.access.Access.{Access}
use Rattle.xk_base.specs.Image.{Page}
use Rattle.sv39_core.specs.Sv39.{permits}

-- user code may make the access to a page; to none where there is no page
abbrev pub page_permits : Access → Option Page → Bool
page_permits access None = false
page_permits access (Some page) = permits access page.perm
