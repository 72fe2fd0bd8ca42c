-- The fields that words expand to (IEEE Std 1003.1-2017, Shell Command Language, 2.6.2 Parameter
-- Expansion, 2.6.5 Field Splitting and 2.6.7 Quote Removal).
use Rattle.std.specs.Prelude.{ℕ, ◌==◌, ◌||◌, Bool, true, false, List, [], ◌∷◌, decimal, filter, length, map, nat_lt, sum_by, Option, Some, None, if◌then◌else◌}
use Rattle.std.specs.List.{flat_map}
use Rattle.bb_script.specs.Words.{Atom, Letter, Quote, Value, QuotedValue, Status}

-- what a word is made of after its expansion: a character, a quoted part's beginning, and a blank
-- of an expansion that isn't quoted
pub data FieldMark : Type 0 where
  Char : ℕ → FieldMark
  Held : FieldMark
  Gap : FieldMark

-- space, tab and LF
abbrev pub separates_fields : ℕ → Bool
separates_fields c = c == 32 || c == 9 || c == 10

abbrev pub split_mark : ℕ → FieldMark
split_mark c = if separates_fields c then Gap else Char c

-- what an atom expands to, by the values of variables and the last status
abbrev pub atom_marks : (List ℕ → List ℕ) → ℕ → Atom → List FieldMark
atom_marks value status (Letter c) = Char c ∷ []
atom_marks value status Quote = Held ∷ []
atom_marks value status (Value name) = map split_mark (value name)
atom_marks value status (QuotedValue name) = map Char (value name)
atom_marks value status Status = map Char (decimal status)

abbrev pub word_marks : (List ℕ → List ℕ) → ℕ → List Atom → List FieldMark
word_marks value status word = flat_map (atom_marks value status) word

-- ---- cut at gaps

abbrev pub mark_joined : FieldMark → List (List FieldMark) → List (List FieldMark)
mark_joined m [] = (m ∷ []) ∷ []
mark_joined m (first ∷ rest) = (m ∷ first) ∷ rest

abbrev pub cut_at_gaps : List FieldMark → List (List FieldMark)
cut_at_gaps [] = [] ∷ []
cut_at_gaps (Gap ∷ ms) = [] ∷ cut_at_gaps ms
cut_at_gaps (Held ∷ ms) = mark_joined Held (cut_at_gaps ms)
cut_at_gaps (Char c ∷ ms) = mark_joined (Char c) (cut_at_gaps ms)

-- a field counts where a character or a quoted part stands in it
abbrev pub counts_as_field : List FieldMark → Bool
counts_as_field [] = false
counts_as_field (m ∷ ms) = true

abbrev pub field_text : List FieldMark → List ℕ
field_text [] = []
field_text (Char c ∷ ms) = c ∷ field_text ms
field_text (Held ∷ ms) = field_text ms
field_text (Gap ∷ ms) = field_text ms

abbrev pub fields_in : List FieldMark → List (List ℕ)
fields_in ms = map field_text (filter counts_as_field (cut_at_gaps ms))

-- ---- the words of a command

abbrev pub word_fields : (List ℕ → List ℕ) → ℕ → List Atom → List (List ℕ)
word_fields value status word = fields_in (word_marks value status word)

abbrev pub all_fields : (List ℕ → List ℕ) → ℕ → List (List Atom) → List (List ℕ)
all_fields value status words = flat_map (word_fields value status) words

-- how many bytes fields have, with nothing between them
abbrev pub fields_size : List (List ℕ) → ℕ
fields_size fields = sum_by length fields

-- the fields of words, or none where they have more than 4,096 bytes
abbrev pub expansion_of : (List ℕ → List ℕ) → ℕ → List (List Atom) → Option (List (List ℕ))
expansion_of value status words =
    let fields = all_fields value status words in
    if nat_lt 4096 (fields_size fields) then None else Some fields
