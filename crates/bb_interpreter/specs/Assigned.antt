-- The value that an assignment gives, which isn't cut into fields (IEEE Std 1003.1-2017, Shell
-- Command Language, 2.9.1 Simple Commands).
use Rattle.std.specs.Prelude.{◌≡◌, ◌<◌, ℕ, ◌+◌, List, [], ◌∷◌, decimal, drop, length, nat_lt, take, Option, Some, None, if◌then◌else◌}
use Rattle.std.specs.List.{flat_map}
use Rattle.bb_interpreter.specs.declared.assigned.ValueStop.{ValueStop}
use Rattle.bb_interpreter.specs.declared.assigned.ValueStop.TheVariants.{TooLong}
use Rattle.bb_script.specs.declared.script.Assignment.{Assignment}
use Rattle.bb_script.specs.Words.{Atom, Letter, Quote, Value, QuotedValue, Status, plain_front, word_atoms}

-- the bytes that an atom expands to, by the values of variables and the last status
abbrev pub atom_text : (List ℕ → List ℕ) → ℕ → Atom → List ℕ
atom_text value status (Letter c) = c ∷ []
atom_text value status Quote = []
atom_text value status (Value name) = value name
atom_text value status (QuotedValue name) = value name
atom_text value status Status = decimal status

abbrev pub uncut_text : (List ℕ → List ℕ) → ℕ → List Atom → List ℕ
uncut_text value status word = flat_map (atom_text value status) word

-- what a name is set to by these atoms, or none where the name, the `=` and it have more than
-- 4,096 bytes
abbrev pub assigned_value : (List ℕ → List ℕ) → ℕ → List ℕ → List Atom → Option (List ℕ)
assigned_value value status name rest =
    let text = uncut_text value status rest in
    if nat_lt 4096 (length name + 1 + length text) then None else Some text

-- the name that an assignment sets, and the atoms of its value
abbrev pub assigned_name : Assignment → List ℕ
assigned_name a = take a.name_len (plain_front (word_atoms a.word))

abbrev pub assigned_rest : Assignment → List Atom
assigned_rest a = drop (a.name_len + 1) (word_atoms a.word)

-- a stop for another cause than memory comes where a text has more bytes than its limit
abbrev pub StopsOver : ℕ → List ℕ → ValueStop → Type 0
StopsOver limit text e = e ≡ TooLong → limit < length text
