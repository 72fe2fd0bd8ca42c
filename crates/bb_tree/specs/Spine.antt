-- A forest as a list of slots: each has where its parent is and its name, and stands after its
-- parent. Slot 0 is the root, which the list leaves out, so the list begins with slot 1.
use Rattle.std.specs.Prelude.{ℕ, ◌+◌, ◌<◌, ◌==◌, ◌&&◌, List, [], ◌∷◌, Option, Some, None, if◌then◌else◌}
use Rattle.std.specs.Str.{bytes_eq}
use Rattle.bb_tree.specs.Node.{Forest, empty, node}

-- the nodes that stand in slot k, where `rest` are the slots from i on
abbrev pub nodes_under :
    {V : Type 0} → (ℕ → List (List ℕ × V)) → ℕ → List (ℕ × List ℕ) → ℕ → Forest V
nodes_under props i [] k = empty
nodes_under props i (s ∷ rest) k =
    if s.0 == k
    then node s.1 (props i) (nodes_under props (i + 1) rest i) (nodes_under props (i + 1) rest k)
    else nodes_under props (i + 1) rest k

-- the names and places of the nodes that stand in slot k
abbrev pub child_table : ℕ → List (ℕ × List ℕ) → ℕ → List (List ℕ × ℕ)
child_table i [] k = []
child_table i (s ∷ rest) k =
    if s.0 == k then (s.1, i) ∷ child_table (i + 1) rest k else child_table (i + 1) rest k

-- the slot that the names lead to from slot k
abbrev pub slot_led_to : ℕ → List (ℕ × List ℕ) → ℕ → List (List ℕ) → Option ℕ
slot_led_to i [] k [] = Some k
slot_led_to i [] k (n ∷ ns) = None
slot_led_to i (s ∷ rest) k [] = Some k
slot_led_to i (s ∷ rest) k (n ∷ ns) =
    if (s.0 == k) && bytes_eq n s.1 then slot_led_to (i + 1) rest i ns else slot_led_to (i + 1) rest k (n ∷ ns)

-- each slot stands after its parent
abbrev pub IsRising : ℕ → List (ℕ × List ℕ) → Type 0
IsRising i [] = Unit {0}
IsRising i (s ∷ rest) = (s.0 < i) × IsRising (i + 1) rest
