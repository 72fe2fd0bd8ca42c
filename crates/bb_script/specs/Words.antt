-- What a word of a script is made of before its expansion (IEEE Std 1003.1-2017, Shell Command
-- Language, 2.2 Quoting and 2.6 Word Expansions).
use Rattle.std.specs.Prelude.{ℕ, ◌==◌, Bool, true, false, List, [], ◌∷◌, ◌++◌, map, Option, Some, None, if◌then◌else◌}
use Rattle.std.specs.List.{flat_map, prefix_len}
use Rattle.std.specs.Option.{option_map}
use Rattle.std.specs.Char.{is_ascii_alphanumeric}
use Rattle.bb_script.specs.declared.word.Special.{Special}
use Rattle.bb_script.specs.declared.word.Special.TheVariants as special
use Rattle.bb_script.specs.declared.word.WordPart.{WordPart}
use Rattle.bb_script.specs.declared.word.Word.{Word}

pub data Atom : Type 0 where
  -- a byte that stands for itself
  Letter : ℕ → Atom
  -- a quoted part begins
  Quote : Atom
  -- the value of the variable of this name, which is cut into fields, or stands in quotes and isn't
  Value : List ℕ → Atom
  QuotedValue : List ℕ → Atom
  -- the last status
  Status : Atom

-- ---- a word that was read

abbrev pub special_atom : Special → Atom
special_atom special.Quote = Quote
special_atom (special.Value name) = Value name.items
special_atom (special.QuotedValue name) = QuotedValue name.items
special_atom special.Status = Status

abbrev pub part_atoms : WordPart → List Atom
part_atoms part = map Letter part.letters.items ++ special_atom part.special ∷ []

abbrev pub word_atoms : Word → List Atom
word_atoms word = flat_map part_atoms word.parts.items ++ map Letter word.letters.items

-- ---- what a word says without an expansion

-- the letters before all else
abbrev pub plain_front : List Atom → List ℕ
plain_front [] = []
plain_front (Letter c ∷ later) = c ∷ plain_front later
plain_front (Quote ∷ later) = []
plain_front (Value name ∷ later) = []
plain_front (QuotedValue name ∷ later) = []
plain_front (Status ∷ later) = []

-- the letters of a word that has nothing else
abbrev pub letters_alone : List Atom → Option (List ℕ)
letters_alone [] = Some []
letters_alone (Letter c ∷ later) = option_map (λ text. c ∷ text) (letters_alone later)
letters_alone (Quote ∷ later) = None
letters_alone (Value name ∷ later) = None
letters_alone (QuotedValue name ∷ later) = None
letters_alone (Status ∷ later) = None
