-- Fields that are made mark by mark.
use Rattle.std.specs.Prelude.{◌≡◌, ◌<◌, ℕ, ◌+◌, List, [], ◌∷◌, ◌++◌, fold, map, nat_lt, Option, Some, None, if◌then◌else◌}
use Rattle.std.specs.List.{flat_map}
use Rattle.std.specs.Option.{option_map, option_to_list, unwrap_or}
use Rattle.bb_script.specs.declared.fields_so_far.ExpansionStop.{ExpansionStop}
use Rattle.bb_script.specs.declared.fields_so_far.ExpansionStop.TheVariants.{TooLong}
use Rattle.bb_script.specs.declared.fields_so_far.FieldsSoFar.{FieldsSoFar}
use Rattle.bb_script.specs.Fields.{FieldMark, Char, Held, Gap, atom_marks, word_marks}
use Rattle.bb_script.specs.declared.word.WordPart.{WordPart}
use Rattle.bb_script.specs.Words.{Atom, special_atom}

-- the fields that are whole, the one that is open, and how many bytes they have
pub record OpenFields : Type 0 where
  pub done : List (List ℕ)
  pub opened : Option (List ℕ)
  pub size : ℕ

abbrev pub mark_taken : OpenFields → FieldMark → OpenFields
mark_taken f (Char c) =
    record f { opened = Some (unwrap_or f.opened [] ++ c ∷ []); size = f.size + 1 }
mark_taken f Held = record f { opened = Some (unwrap_or f.opened []) }
mark_taken f Gap = record f { done = f.done ++ option_to_list f.opened; opened = None }

abbrev pub marks_taken : OpenFields → List FieldMark → OpenFields
marks_taken = fold mark_taken

abbrev pub no_fields : OpenFields
no_fields = record { done = []; opened = None; size = 0 }

-- a stop for another cause than memory comes where the fields have too many bytes
abbrev pub StopsLong : OpenFields → ExpansionStop → Type 0
StopsLong fields e = e ≡ TooLong → 4096 < fields.size

-- a word ends as if at a blank
abbrev pub closed_marks : (List ℕ → List ℕ) → ℕ → List Atom → List FieldMark
closed_marks value status word = word_marks value status word ++ Gap ∷ []

abbrev pub fields_seen : FieldsSoFar → OpenFields
fields_seen f = record { done = f.done.items; opened = f.opened; size = f.size }

abbrev pub all_marks : (List ℕ → List ℕ) → ℕ → List (List Atom) → List FieldMark
all_marks value status words = flat_map (closed_marks value status) words

-- a part of a word: its letters, and what comes after them
abbrev pub part_marks : (List ℕ → List ℕ) → ℕ → WordPart → List FieldMark
part_marks value status part =
    map Char part.letters.items ++ atom_marks value status (special_atom part.special)

abbrev pub parts_marks : (List ℕ → List ℕ) → ℕ → List WordPart → List FieldMark
parts_marks value status parts = flat_map (part_marks value status) parts

-- the fields, unless they have too many bytes
abbrev pub fields_within : OpenFields → Option (List (List ℕ))
fields_within fields = if nat_lt 4096 fields.size then None else Some fields.done
