-- The fields that are made mark by mark are those of all marks.
use Rattle.std.proofs.Common.{◌≡◌, ◌<◌, ◌≤◌, ℕ, ◌+◌, Bool, true, false, List, [], ◌∷◌, ◌++◌, drop, drop-cons, get_or, length, map, nat_lt, if◌then◌else◌, Option, Some, None, suc, add-one, add_assoc, ap, append_assoc, append-nil, arith, refl, sym, subst, ◌∙◌}
use Rattle.std.specs.Prelude.{filter, fold, sum_by}
use Rattle.std.specs.List.{flat_map}
use Rattle.std.specs.Option.{option_to_list, unwrap_or}
use Rattle.std.proofs.lemmas.Bool.{lt-ltb}
use Rattle.std.proofs.lemmas.List.{drop_more, length-append}
use Rattle.std.proofs.lemmas.List.Sums.{sum_by-append}
use Rattle.bb_script.specs.declared.fields_so_far.ExpansionStop.{ExpansionStop}
use Rattle.bb_script.specs.declared.fields_so_far.ExpansionStop.TheVariants.{TooLong}
use Rattle.bb_script.specs.declared.word.Word.{Word}
use Rattle.bb_script.specs.declared.word.WordPart.{WordPart}
use Rattle.bb_script.specs.Fields.{FieldMark, Char, Held, Gap, all_fields, atom_marks, counts_as_field, cut_at_gaps, expansion_of, field_text, fields_in, fields_size, mark_joined, word_fields, word_marks}
use Rattle.bb_script.specs.FieldsSoFar.{OpenFields, StopsLong, all_marks, closed_marks, fields_within, mark_taken, marks_taken, no_fields, part_marks, parts_marks}
use Rattle.bb_script.specs.Words.{Atom, Letter, part_atoms, special_atom, word_atoms}

-- ---- sizes only grow

pub grows : (ms : List FieldMark) (o : OpenFields) → o.size ≤ (marks_taken o ms).size
grows [] o = omega arith
grows (Char c ∷ ms) o =
    let more : o.size + 1 ≤ (marks_taken (mark_taken o (Char c)) ms).size = grows ms (mark_taken o (Char c)) in
    omega arith
grows (Held ∷ ms) o = grows ms (mark_taken o Held)
grows (Gap ∷ ms) o = grows ms (mark_taken o Gap)

pub taken-append : (o : OpenFields) (one two : List FieldMark)
    → marks_taken o (one ++ two) ≡ marks_taken (marks_taken o one) two
taken-append o [] two = refl
taken-append o (m ∷ one) two = taken-append (mark_taken o m) one two

-- a stop at the first marks is one of all of them
pub stops-later : (o all : OpenFields) (one later : List FieldMark) (e : ExpansionStop)
    → marks_taken o (one ++ later) ≡ all → StopsLong (marks_taken o one) e → StopsLong all e
stops-later o all one later e is stop long =
    let more = grows later (marks_taken o one) in
    let same : (marks_taken (marks_taken o one) later).size ≡ all.size = ap (λ (f : OpenFields). f.size) (sym (taken-append o one later) ∙ is) in
    let first : 4096 < (marks_taken o one).size = stop long in
    omega arith

pub stops-first : (o all : OpenFields) (m : FieldMark) (later : List FieldMark) (e : ExpansionStop)
    → marks_taken o (m ∷ later) ≡ all → StopsLong (mark_taken o m) e → StopsLong all e
stops-first o all m later e is stop = stops-later o all (m ∷ []) later e is stop

-- ---- a stop in a loop

pub map-stops : (g : ℕ → FieldMark) (text : List ℕ) (i : ℕ) (o all : OpenFields)
    (e : ExpansionStop) → i < length text → marks_taken o (map g (drop i text)) ≡ all
    → StopsLong (mark_taken o (g (get_or text i 0))) e → StopsLong all e
map-stops g text i o all e within is stop =
    stops-first o all (g (get_or text i 0)) (map g (drop (i + 1) text)) e
    (ap (λ l. marks_taken o (map g l)) (sym (drop_more text i 0 within)) ∙ is) stop

here : {X : Type 0} (xs : List X) (i : ℕ) (x : X) → i < length xs → x ≡ get_or xs i x
    → drop i xs ≡ x ∷ drop (i + 1) xs
here xs i x within same = drop_more xs i x within ∙ ap (λ y. y ∷ drop (i + 1) xs) (sym same)

pub parts-stop : (f : WordPart → List FieldMark) (xs : List WordPart) (i : ℕ) (x : WordPart)
    (o all : OpenFields) (e : ExpansionStop) → i < length xs → x ≡ get_or xs i x
    → marks_taken o (flat_map f (drop i xs)) ≡ all → StopsLong (marks_taken o (f x)) e
    → StopsLong all e
parts-stop f xs i x o all e within same is stop =
    stops-later o all (f x) (flat_map f (drop (i + 1) xs)) e
    (ap (λ l. marks_taken o (flat_map f l)) (sym (here xs i x within same)) ∙ is) stop

pub words-stop : (f : List Atom → List FieldMark) (xs : List Word) (i : ℕ) (x : Word)
    (o all : OpenFields) (e : ExpansionStop) → i < length xs → x ≡ get_or xs i x
    → marks_taken o (flat_map f (map word_atoms (drop i xs))) ≡ all
    → StopsLong (marks_taken o (f (word_atoms x))) e → StopsLong all e
words-stop f xs i x o all e within same is stop =
    stops-later o all (f (word_atoms x)) (flat_map f (map word_atoms (drop (i + 1) xs))) e
    (ap (λ l. marks_taken o (flat_map f (map word_atoms l))) (sym (here xs i x within same)) ∙ is)
    stop

-- ---- the marks of a word, by its parts

flat_map-append : {X A : Type 0} (f : X → List A) (one two : List X)
    → flat_map f (one ++ two) ≡ flat_map f one ++ flat_map f two
flat_map-append f [] two = refl
flat_map-append f (x ∷ one) two =
    ap (λ l. f x ++ l) (flat_map-append f one two)
    ∙ sym (append_assoc (f x) (flat_map f one) (flat_map f two))

letter-marks : (value : List ℕ → List ℕ) (status : ℕ) (text : List ℕ)
    → flat_map (atom_marks value status) (map Letter text) ≡ map Char text
letter-marks value status [] = refl
letter-marks value status (c ∷ text) = ap (λ l. Char c ∷ l) (letter-marks value status text)

one-part : (value : List ℕ → List ℕ) (status : ℕ) (part : WordPart)
    → flat_map (atom_marks value status) (part_atoms part) ≡ part_marks value status part
one-part value status part =
    flat_map-append (atom_marks value status) (map Letter part.letters.items) (special_atom part.special ∷ [])
    ∙ ap (λ l. l ++ (atom_marks value status (special_atom part.special) ++ [])) (letter-marks value status part.letters.items)
    ∙ ap (λ l. map Char part.letters.items ++ l) (append-nil (atom_marks value status (special_atom part.special)))

all-parts : (value : List ℕ → List ℕ) (status : ℕ) (parts : List WordPart)
    → flat_map (atom_marks value status) (flat_map part_atoms parts)
    ≡ parts_marks value status parts
all-parts value status [] = refl
all-parts value status (part ∷ parts) =
    flat_map-append (atom_marks value status) (part_atoms part) (flat_map part_atoms parts)
    ∙ ap (λ l. l ++ flat_map (atom_marks value status) (flat_map part_atoms parts)) (one-part value status part)
    ∙ ap (λ l. part_marks value status part ++ l) (all-parts value status parts)

pub marks-of_word : (value : List ℕ → List ℕ) (status : ℕ) (word : Word)
    → closed_marks value status (word_atoms word)
    ≡ parts_marks value status word.parts.items ++ (map Char word.letters.items ++ Gap ∷ [])
marks-of_word value status word =
    ap (λ l. l ++ Gap ∷ [])
    (flat_map-append (atom_marks value status) (flat_map part_atoms word.parts.items) (map Letter word.letters.items)
    ∙ ap (λ l. l ++ flat_map (atom_marks value status) (map Letter word.letters.items)) (all-parts value status word.parts.items)
    ∙ ap (λ l. parts_marks value status word.parts.items ++ l) (letter-marks value status word.letters.items))
    ∙ append_assoc (parts_marks value status word.parts.items) (map Char word.letters.items) (Gap ∷ [])

-- the same, after its parts
pub after-parts : (value : List ℕ → List ℕ) (status : ℕ) (word : Word) (o next : OpenFields)
    → next ≡ marks_taken o (parts_marks value status word.parts.items)
    → marks_taken next (map Char word.letters.items ++ Gap ∷ [])
    ≡ marks_taken o (closed_marks value status (word_atoms word))
after-parts value status word o next is =
    ap (λ f. marks_taken f (map Char word.letters.items ++ Gap ∷ [])) is
    ∙ sym (taken-append o (parts_marks value status word.parts.items) (map Char word.letters.items ++ Gap ∷ []))
    ∙ ap (marks_taken o) (sym (marks-of_word value status word))

-- and after its last letters
pub after-letters : (value : List ℕ → List ℕ) (status : ℕ) (word : Word)
    (o next last : OpenFields)
    → next ≡ marks_taken o (parts_marks value status word.parts.items)
    → last ≡ marks_taken next (map Char word.letters.items)
    → mark_taken last Gap ≡ marks_taken o (closed_marks value status (word_atoms word))
after-letters value status word o next last is is_last =
    ap (λ f. mark_taken f Gap) is_last
    ∙ sym (taken-append next (map Char word.letters.items) (Gap ∷ []))
    ∙ after-parts value status word o next is

-- ---- what comes of a word

-- what comes of the pieces, of which the first goes on with what is open
abbrev fields_from : Option (List ℕ) → List (List FieldMark) → List (List ℕ)
fields_from None pieces = map field_text (filter counts_as_field pieces)
fields_from (Some text) [] = text ∷ []
fields_from (Some text) (first ∷ rest) =
    (text ++ field_text first) ∷ map field_text (filter counts_as_field rest)

from-char : (c : ℕ) (o : Option (List ℕ)) (pieces : List (List FieldMark))
    → fields_from (Some (unwrap_or o [] ++ c ∷ [])) pieces
    ≡ fields_from o (mark_joined (Char c) pieces)
from-char c None [] = refl
from-char c None (p ∷ ps) = refl
from-char c (Some t) [] = refl
from-char c (Some t) (p ∷ ps) =
    ap (λ l. l ∷ map field_text (filter counts_as_field ps)) (append_assoc t (c ∷ []) (field_text p))

from-held : (o : Option (List ℕ)) (pieces : List (List FieldMark))
    → fields_from (Some (unwrap_or o [])) pieces ≡ fields_from o (mark_joined Held pieces)
from-held None [] = refl
from-held None (p ∷ ps) = refl
from-held (Some t) [] = ap (λ l. l ∷ []) (sym (append-nil t))
from-held (Some t) (p ∷ ps) = refl

from-gap : (done : List (List ℕ)) (o : Option (List ℕ)) (pieces : List (List FieldMark))
    → (done ++ option_to_list o) ++ fields_from None pieces ≡ done ++ fields_from o ([] ∷ pieces)
from-gap done None pieces = ap (λ l. l ++ fields_from None pieces) (append-nil done)
from-gap done (Some t) pieces =
    append_assoc done (t ∷ []) (fields_from None pieces)
    ∙ ap (λ l. done ++ (l ∷ fields_from None pieces)) (sym (append-nil t))

from-end : (o : Option (List ℕ)) → option_to_list o ≡ fields_from o ([] ∷ [])
from-end None = refl
from-end (Some t) = ap (λ l. l ∷ []) (sym (append-nil t))

word_law : (ms : List FieldMark) (o : OpenFields)
    → (mark_taken (marks_taken o ms) Gap).done ≡ o.done ++ fields_from o.opened (cut_at_gaps ms)
word_law [] o = ap (λ l. o.done ++ l) (from-end o.opened)
word_law (Char c ∷ ms) o =
    word_law ms (mark_taken o (Char c))
    ∙ ap (λ l. o.done ++ l) (from-char c o.opened (cut_at_gaps ms))
word_law (Held ∷ ms) o =
    word_law ms (mark_taken o Held) ∙ ap (λ l. o.done ++ l) (from-held o.opened (cut_at_gaps ms))
word_law (Gap ∷ ms) o =
    word_law ms (mark_taken o Gap) ∙ from-gap o.done o.opened (cut_at_gaps ms)

-- ---- what comes of words

words_law : (value : List ℕ → List ℕ) (status : ℕ) (words : List (List Atom)) (o : OpenFields)
    → o.opened ≡ None
    → ((marks_taken o (all_marks value status words)).done
    ≡ o.done ++ all_fields value status words)
    × ((marks_taken o (all_marks value status words)).opened ≡ None)
words_law value status [] o none = (sym (append-nil o.done), none)
words_law value status (word ∷ words) o none =
    let ms = word_marks value status word in
    let next : OpenFields = mark_taken (marks_taken o ms) Gap in
    let split : marks_taken o (all_marks value status (word ∷ words)) ≡ marks_taken next (all_marks value status words) =
    taken-append o (closed_marks value status word) (all_marks value status words)
    ∙ ap (λ f. marks_taken f (all_marks value status words)) (taken-append o ms (Gap ∷ [])) in
    let here : next.done ≡ o.done ++ fields_in ms =
    word_law ms o ∙ ap (λ f. o.done ++ fields_from f (cut_at_gaps ms)) none in
    let later = words_law value status words next refl in (
      ap (λ (f : OpenFields). f.done) split ∙ later.0
          ∙ ap (λ l. l ++ all_fields value status words) here
          ∙ append_assoc o.done (fields_in ms) (all_fields value status words),
      ap (λ (f : OpenFields). f.opened) split ∙ later.1,
    )

-- ---- how many bytes they have

abbrev open_size : Option (List ℕ) → ℕ
open_size None = 0
open_size (Some text) = length text

size-append : (one two : List (List ℕ))
    → fields_size (one ++ two) ≡ fields_size one + fields_size two
size-append one two = sum_by-append length one two

option-size : (o : Option (List ℕ)) → fields_size (option_to_list o) ≡ open_size o
option-size None = refl
option-size (Some text) = omega arith

IsCounted : OpenFields → Type 0
IsCounted o = o.size ≡ fields_size o.done + open_size o.opened

char-size : (o : Option (List ℕ)) (c : ℕ)
    → length (unwrap_or o [] ++ c ∷ []) ≡ open_size o + 1
char-size None c = refl
char-size (Some text) c = length-append text (c ∷ [])

held-size : (o : Option (List ℕ)) → length (unwrap_or o []) ≡ open_size o
held-size None = refl
held-size (Some text) = refl

mark-counted : (m : FieldMark) (o : OpenFields) → IsCounted o → IsCounted (mark_taken o m)
unfolding IsCounted
mark-counted (Char c) o h = let s = char-size o.opened c in omega arith
mark-counted Held o h = let s = held-size o.opened in omega arith
mark-counted Gap o h =
    let s = size-append o.done (option_to_list o.opened) in
    let t = option-size o.opened in
    omega arith

all-counted : (ms : List FieldMark) (o : OpenFields) → IsCounted o → IsCounted (marks_taken o ms)
all-counted [] o h = h
all-counted (m ∷ ms) o h = all-counted ms (mark_taken o m) (mark-counted m o h)

-- ---- the whole expansion

size_law : (value : List ℕ → List ℕ) (status : ℕ) (words : List (List Atom))
    → (marks_taken no_fields (all_marks value status words)).size
    ≡ fields_size (all_fields value status words)
unfolding IsCounted
size_law value status words =
    let law = words_law value status words no_fields refl in
    let counted : (marks_taken no_fields (all_marks value status words)).size ≡ fields_size (marks_taken no_fields (all_marks value status words)).done + open_size (marks_taken no_fields (all_marks value status words)).opened =
    all-counted (all_marks value status words) no_fields refl in
    let done : fields_size (marks_taken no_fields (all_marks value status words)).done ≡ fields_size (all_fields value status words) = ap fields_size law.0 in
    let none : open_size (marks_taken no_fields (all_marks value status words)).opened ≡ 0 = ap open_size law.1 in
    omega arith

pub expanded : (value : List ℕ → List ℕ) (status : ℕ) (words : List (List Atom))
    → fields_within (marks_taken no_fields (all_marks value status words))
    ≡ expansion_of value status words
expanded value status words =
    ap (λ n. if nat_lt 4096 n then None else Some (marks_taken no_fields (all_marks value status words)).done) (size_law value status words)
    ∙ ap (λ l. if nat_lt 4096 (fields_size (all_fields value status words)) then None else Some l) ((words_law value status words no_fields refl).0)

pub too_long : (value : List ℕ → List ℕ) (status : ℕ) (words : List (List Atom))
    → 4096 < (marks_taken no_fields (all_marks value status words)).size
    → expansion_of value status words ≡ None
too_long value status words long =
    sym (expanded value status words) ∙ long_is (marks_taken no_fields (all_marks value status words)) long
  where
    long_is : (o : OpenFields) → 4096 < o.size → fields_within o ≡ None
    long_is o h = rw (lt-ltb 4096 o.size h) refl

pub none-after : (value : List ℕ → List ℕ) (status : ℕ) (words : List (List Atom)) (o : OpenFields)
    (stop : ExpansionStop) → o ≡ no_fields
    → StopsLong (marks_taken o (all_marks value status words)) stop → stop ≡ TooLong
    → None ≡ expansion_of value status words
none-after value status words o stop is long too_long_is =
    let P : OpenFields → Type 0 = λ f. 4096 < (marks_taken f (all_marks value status words)).size in
    sym (too_long value status words (subst P is (long too_long_is)))
