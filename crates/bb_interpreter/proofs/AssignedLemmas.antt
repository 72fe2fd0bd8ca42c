-- What an assignment's word expands to, by its parts.
use Rattle.std.proofs.Common.{Some, None, cond, nat_lt, inl, inr, ◌≡◌, ◌<◌, ◌≤◌, ℕ, ◌+◌, ◌-◌, List, [], ◌∷◌, ◌++◌, ap, append-nil, append_assoc, arith, drop, length, map, refl, suc, sym, zero, ◌∙◌}
use Rattle.std.specs.List.{flat_map}
use Rattle.std.proofs.lemmas.Bool.{cases_Bool, le-ltb, lt-ltb, ltb-false, ltb-true}
use Rattle.std.proofs.lemmas.Grind.{flat_map-append}
use Rattle.std.proofs.lemmas.List.{drop-map, drop_all, length-append}
use Rattle.bb_script.specs.declared.word.Word.{Word}
use Rattle.bb_script.specs.declared.word.WordPart.{WordPart}
use Rattle.bb_script.specs.Words.{Atom, Letter, part_atoms, plain_front, special_atom, word_atoms}
use Rattle.bb_script.proofs.WordLemmas as words
use Rattle.bb_interpreter.specs.declared.assigned.ValueStop.{ValueStop}
use Rattle.bb_interpreter.specs.Assigned.{StopsOver, assigned_value, atom_text, uncut_text}

pub front_alone : (word : Word) → length word.parts.items ≡ 0 → plain_front (word_atoms word) ≡ word.letters.items
front_alone word none = words.front_alone word none

pub front_of_part : (word : Word) (part : WordPart) (later : List WordPart)
    → word.parts.items ≡ part ∷ later → plain_front (word_atoms word) ≡ part.letters.items
front_of_part word part later is = words.front_of_part word part later is

pub drop_both : {X : Type 0} (n : ℕ) (xs ys : List X) → drop n (xs ++ ys) ≡ drop n xs ++ drop (n - length xs) ys
drop_both zero xs ys =
    let e : zero - length xs ≡ zero = omega arith in
    ap (λ k. xs ++ drop k ys) (sym e)
drop_both (suc n) [] ys =
    let e : suc n - 0 ≡ suc n = omega arith in
    ap (λ k. drop k ys) (sym e)
drop_both (suc n) (x ∷ xs) ys =
    let e : suc n - length (x ∷ xs) ≡ n - length xs = omega arith in
    drop_both n xs ys ∙ ap (λ k. drop n xs ++ drop k ys) (sym e)

map_len : (text : List ℕ) → length (map Letter text) ≡ length text
map_len [] = refl
map_len (c ∷ text) =
    let ih : length (map Letter text) ≡ length text = map_len text in
    omega (arith, ih)

letters_text : (value : List ℕ → List ℕ) (status : ℕ) (text : List ℕ) → uncut_text value status (map Letter text) ≡ text
letters_text value status [] = refl
letters_text value status (c ∷ text) = ap (λ l. c ∷ l) (letters_text value status text)

pub dropped_letters : (value : List ℕ → List ℕ) (status n : ℕ) (text : List ℕ)
    → uncut_text value status (drop n (map Letter text)) ≡ drop n text
dropped_letters value status n text =
    ap (uncut_text value status) (drop-map Letter n text) ∙ letters_text value status (drop n text)

-- a part, whose letters or all of which are passed over
pub part_within : (value : List ℕ → List ℕ) (status n : ℕ) (part : WordPart) → n ≤ length part.letters.items
    → uncut_text value status (drop n (part_atoms part)) ≡ drop n part.letters.items ++ atom_text value status (special_atom part.special)
part_within value status n part h =
    let s = special_atom part.special in
    let ls = map Letter part.letters.items in
    let e : n - length ls ≡ 0 = omega (arith, map_len part.letters.items) in
    ap (uncut_text value status) (drop_both n ls (s ∷ []) ∙ ap (λ k. drop n ls ++ drop k (s ∷ [])) e)
    ∙ flat_map-append (atom_text value status) (drop n ls) (s ∷ [])
    ∙ ap (λ l. l ++ (atom_text value status s ++ [])) (dropped_letters value status n part.letters.items)
    ∙ ap (λ l. drop n part.letters.items ++ l) (append-nil (atom_text value status s))

pub part_past : (value : List ℕ → List ℕ) (status n : ℕ) (part : WordPart) → length part.letters.items < n
    → uncut_text value status (drop n (part_atoms part)) ≡ []
part_past value status n part h =
    let s = special_atom part.special in
    let ls = map Letter part.letters.items in
    let e : length (ls ++ s ∷ []) ≤ n = omega (arith, h, map_len part.letters.items, length-append ls (s ∷ [])) in
    ap (uncut_text value status) (drop_all n (ls ++ s ∷ []) e)

pub part_len : (part : WordPart) → length (part_atoms part) ≡ length part.letters.items + 1
part_len part =
    let s = special_atom part.special in
    let ls = map Letter part.letters.items in
    omega (arith, map_len part.letters.items, length-append ls (s ∷ []))

-- the parts of a word, the first of which is taken
pub parts_next : (value : List ℕ → List ℕ) (status n left : ℕ) (text : List ℕ) (part : WordPart) (later : List WordPart) (letters : List ℕ)
    → left ≡ n - (length part.letters.items + 1)
    → (text ++ uncut_text value status (drop n (part_atoms part))) ++ uncut_text value status (drop left (flat_map part_atoms later ++ map Letter letters))
    ≡ text ++ uncut_text value status (drop n (flat_map part_atoms (part ∷ later) ++ map Letter letters))
parts_next value status n left text part later letters same =
    let ps = part_atoms part in
    let rest = flat_map part_atoms later ++ map Letter letters in
    let e : left ≡ n - length ps = same ∙ ap (λ k. n - k) (sym (part_len part)) in
    append_assoc text (uncut_text value status (drop n ps)) (uncut_text value status (drop left rest))
    ∙ ap (λ l. text ++ l)
    (sym (flat_map-append (atom_text value status) (drop n ps) (drop left rest))
    ∙ ap (λ k. uncut_text value status (drop n ps ++ drop k rest)) e
    ∙ ap (uncut_text value status) (sym (drop_both n ps rest))
    ∙ ap (λ l. uncut_text value status (drop n l)) (sym (append_assoc ps (flat_map part_atoms later) (map Letter letters))))

-- a text that goes on is over a limit too
pub stops_longer : (limit : ℕ) (one later all : List ℕ) (e : ValueStop) → one ++ later ≡ all → StopsOver limit one e → StopsOver limit all e
stops_longer limit one later all e is stop too_long =
    let over = stop too_long in
    let same = ap (λ (l : List ℕ). length l) is in
    omega (arith, over, same, length-append one later)

-- after a part's letters and what comes after them
pub part_whole : (value : List ℕ → List ℕ) (status n : ℕ) (part : WordPart) (text letters : List ℕ)
    → letters ≡ part.letters.items → n ≤ length letters
    → (text ++ drop n letters) ++ atom_text value status (special_atom part.special)
    ≡ text ++ uncut_text value status (drop n (part_atoms part))
part_whole value status n part text letters same h =
    let s = atom_text value status (special_atom part.special) in
    let len : length letters ≡ length part.letters.items = ap (λ (l : List ℕ). length l) same in
    append_assoc text (drop n letters) s
    ∙ ap (λ l. text ++ (drop n l ++ s)) same
    ∙ ap (λ l. text ++ l) (sym (part_within value status n part (omega (arith, len, h))))

-- after the last part
pub letters_left : (value : List ℕ → List ℕ) (status n : ℕ) (text all letters : List ℕ) (left : List WordPart) (own : List ℕ)
    → letters ≡ own → left ≡ []
    → text ++ uncut_text value status (drop n (flat_map part_atoms left ++ map Letter own)) ≡ all
    → text ++ drop n letters ≡ all
letters_left value status n text all letters left own same none is =
    ap (λ l. text ++ drop n l) same
    ∙ ap (λ l. text ++ l) (sym (dropped_letters value status n own))
    ∙ ap (λ ps. text ++ uncut_text value status (drop n (flat_map part_atoms ps ++ map Letter own))) (sym none)
    ∙ is

-- the limit of a value is what the name and the `=` leave
same_test : (k limit len : ℕ) → k + 1 + limit ≡ 4096 → nat_lt 4096 (k + 1 + len) ≡ nat_lt limit len
same_test k limit len sum = elim (cases_Bool (nat_lt limit len)) [
  | inl is ↦
      let over : limit < len = ltb-true limit len is in
      lt-ltb 4096 (k + 1 + len) (omega (arith, sum, over)) ∙ sym is
  | inr is_not ↦
      let within : len ≤ limit = ltb-false limit len is_not in
      le-ltb 4096 (k + 1 + len) (omega (arith, sum, within)) ∙ sym is_not
]

pub value_is : (value : List ℕ → List ℕ) (status : ℕ) (name : List ℕ) (rest : List Atom) (text : List ℕ) (limit : ℕ)
    → length name + 1 + limit ≡ 4096 → text ≡ uncut_text value status rest
    → cond (nat_lt limit (length text)) None (Some text) ≡ assigned_value value status name rest
value_is value status name rest text limit sum same =
    ap (λ (t : List ℕ). cond (nat_lt limit (length t)) None (Some t)) same
    ∙ ap (λ b. cond b None (Some (uncut_text value status rest))) (sym (same_test (length name) limit (length (uncut_text value status rest)) sum))
