use Rattle.std.proofs.Common.{◌≡◌, take}
use Rattle.bb_menu.specs.Menu.{menu_text}
use Rattle.bb_menu.proofs.menu.Menu.text.Given as goal

-- the lines of the entries so far are there
abbrev pub invariant-loop-place : goal.invariant-loop-place
invariant-loop-place l = l.text ≡ menu_text (take l.place l.self)
