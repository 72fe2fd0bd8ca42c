-- The first of a list of names that is a text.
use Rattle.std.proofs.Common.{◌≡◌, ℕ, ◌+◌, ◌<◌, Bool, true, false, List, [], Some, None, length, get_or, arith, below_more, ap, sym, ◌∙◌, refl, ◌≢◌}
use Rattle.std.specs.List.{AllPairs, position, position_or_len, slice_get}
use Rattle.std.specs.Option.{option_map_or}
use Rattle.std.specs.Str.{bytes_eq}
use Rattle.std.proofs.lemmas.List.Quantifiers.{position-Some}
use Rattle.std.proofs.lemmas.List.Sums.{position_or_len_is}
use Rattle.std.proofs.lemmas.Slice.Eq.{bytes_eq-Decides}
use Rattle.std.proofs.lemmas.Option.{slice_get-get_or}
use Rattle.bb_vars.specs.Names.{is_name_at}

-- no name before this place is the text
abbrev pub IsNoneBefore : List (List ℕ) → List ℕ → ℕ → Type 0
IsNoneBefore names text i = (k : ℕ) → k < i → bytes_eq (get_or names k []) text ≡ false

pub name_at : (names : List (List ℕ)) (text : List ℕ) (i : ℕ) → i < length names
    → is_name_at names text i ≡ bytes_eq (get_or names i []) text
name_at names text i inside =
    ap (λ found. option_map_or (λ name. bytes_eq name text) found false) (slice_get-get_or names i [] inside)

pub none_before_more : (names : List (List ℕ)) (text : List ℕ) (i : ℕ) → i < length names → is_name_at names text i ≡ false
    → IsNoneBefore names text i → IsNoneBefore names text (i + 1)
none_before_more names text i inside differs before =
    below_more (λ k. bytes_eq (get_or names k []) text ≡ false) i before (sym (name_at names text i inside) ∙ differs)

pub place_of_first : (names : List (List ℕ)) (text : List ℕ) (i : ℕ) → i < length names → is_name_at names text i ≡ true
    → IsNoneBefore names text i → position (λ n. bytes_eq n text) names ≡ Some i
place_of_first names text i inside same before =
    let place : position_or_len (λ n. bytes_eq n text) names ≡ i =
    position_or_len_is (λ n. bytes_eq n text) names i [] (omega arith) before (λ _. sym (name_at names text i inside) ∙ same) in
    rw place (grind arith)

pub place_of_none : (names : List (List ℕ)) (text : List ℕ) → IsNoneBefore names text (length names)
    → position (λ n. bytes_eq n text) names ≡ None
place_of_none names text before =
    let place : position_or_len (λ n. bytes_eq n text) names ≡ length names =
    position_or_len_is (λ n. bytes_eq n text) names (length names) [] (omega arith) before (λ h. absurd (omega arith)) in
    rw place (grind arith)

-- ---- an index that is printed, and a name that was read

same_name : (name : List ℕ) → bytes_eq name name ≡ true
same_name name = (bytes_eq-Decides name name).1 refl

other_name : (test : Bool) (name text : List ℕ) → bytes_eq name text ≡ test → name ≢ text → bytes_eq name text ≡ false
other_name true name text h differ = absurd (differ ((bytes_eq-Decides name text).0 h))
other_name false name text h differ = h

pub position-of_name : (names : List (List ℕ)) (i : ℕ) → i < length names → AllPairs (λ a b. a ≢ b) names
    → position (λ n. bytes_eq n (get_or names i [])) names ≡ Some i
position-of_name names i inside differ =
    let text = get_or names i [] in
    place_of_first names text i inside (name_at names text i inside ∙ same_name text)
    (λ k h. other_name _ (get_or names k []) text refl (differ k i [] h inside))

pub slice_get-position : (names : List (List ℕ)) (text : List ℕ) (i : ℕ) → position (λ n. bytes_eq n text) names ≡ Some i → slice_get names i ≡ Some text
slice_get-position names text i h =
    let found = position-Some (λ n. bytes_eq n text) names i text h in
    slice_get-get_or names i text found.0 ∙ ap (λ n. Some n) ((bytes_eq-Decides _ _).0 found.1)
