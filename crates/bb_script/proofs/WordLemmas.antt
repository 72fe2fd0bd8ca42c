-- What a word says without an expansion, by its parts.
use Rattle.std.proofs.Common.{◌≡◌, ℕ, List, [], ◌∷◌, ◌++◌, length, map, Some, None, refl, ap, sym, ◌∙◌, append_assoc, arith}
use Rattle.std.specs.List.{flat_map}
use Rattle.std.specs.Option.{option_map}
use Rattle.bb_script.specs.declared.word.Special.{Special}
use Rattle.bb_script.specs.declared.word.Special.TheVariants as special
use Rattle.bb_script.specs.declared.word.Word.{Word}
use Rattle.bb_script.specs.declared.word.WordPart.{WordPart}
use Rattle.bb_script.specs.Words.{Atom, Letter, plain_front, letters_alone, part_atoms, special_atom, word_atoms}

front-letters : (text : List ℕ) → plain_front (map Letter text) ≡ text
front-letters [] = refl
front-letters (c ∷ later) = ap (λ l. c ∷ l) (front-letters later)

text-letters : (text : List ℕ) → letters_alone (map Letter text) ≡ Some text
text-letters [] = refl
text-letters (c ∷ later) = ap (λ o. option_map (λ l. c ∷ l) o) (text-letters later)

front-special : (text : List ℕ) (s : Special) (more : List Atom)
    → plain_front (map Letter text ++ special_atom s ∷ more) ≡ text
front-special [] special.Quote more = refl
front-special [] (special.Value name) more = refl
front-special [] (special.QuotedValue name) more = refl
front-special [] special.Status more = refl
front-special (c ∷ later) s more = ap (λ l. c ∷ l) (front-special later s more)

text-special : (text : List ℕ) (s : Special) (more : List Atom)
    → letters_alone (map Letter text ++ special_atom s ∷ more) ≡ None
text-special [] special.Quote more = refl
text-special [] (special.Value name) more = refl
text-special [] (special.QuotedValue name) more = refl
text-special [] special.Status more = refl
text-special (c ∷ later) s more =
    ap (λ o. option_map (λ l. c ∷ l) o) (text-special later s more)

-- a word's atoms, where this is its first part
atoms_of_part : (word : Word) (part : WordPart) (later : List WordPart)
    → word.parts.items ≡ part ∷ later
    → word_atoms word ≡ map Letter part.letters.items
    ++ special_atom part.special ∷ (flat_map part_atoms later ++ map Letter word.letters.items)
atoms_of_part word part later is =
    ap (λ parts. flat_map part_atoms parts ++ map Letter word.letters.items) is
    ∙ append_assoc (map Letter part.letters.items ++ special_atom part.special ∷ []) (flat_map part_atoms later) (map Letter word.letters.items)
    ∙ append_assoc (map Letter part.letters.items) (special_atom part.special ∷ []) (flat_map part_atoms later ++ map Letter word.letters.items)

pub front_of_part : (word : Word) (part : WordPart) (later : List WordPart)
    → word.parts.items ≡ part ∷ later → plain_front (word_atoms word) ≡ part.letters.items
front_of_part word part later is =
    ap plain_front (atoms_of_part word part later is)
    ∙ front-special part.letters.items part.special (flat_map part_atoms later ++ map Letter word.letters.items)

pub no_text_of_part : (word : Word) (part : WordPart) (later : List WordPart)
    → word.parts.items ≡ part ∷ later → letters_alone (word_atoms word) ≡ None
no_text_of_part word part later is =
    ap letters_alone (atoms_of_part word part later is)
    ∙ text-special part.letters.items part.special (flat_map part_atoms later ++ map Letter word.letters.items)

no_parts : (parts : List WordPart) → length parts ≡ 0 → parts ≡ []
no_parts [] none = refl
no_parts (part ∷ later) none = absurd (omega arith)

atoms_alone : (word : Word) → length word.parts.items ≡ 0
    → word_atoms word ≡ map Letter word.letters.items
atoms_alone word none =
    ap (λ parts. flat_map part_atoms parts ++ map Letter word.letters.items) (no_parts word.parts.items none)

pub front_alone : (word : Word) → length word.parts.items ≡ 0
    → plain_front (word_atoms word) ≡ word.letters.items
front_alone word none = ap plain_front (atoms_alone word none) ∙ front-letters word.letters.items

pub text_alone : (word : Word) → length word.parts.items ≡ 0
    → letters_alone (word_atoms word) ≡ Some word.letters.items
text_alone word none = ap letters_alone (atoms_alone word none) ∙ text-letters word.letters.items
