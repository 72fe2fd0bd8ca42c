-- Strings in UTF-8, and names that are joined.
use Rattle.std.proofs.Common.{◌≡◌, ℕ, zero, suc, ◌+◌, Bool, false, List, [], ◌∷◌, ◌++◌, Some, Result, Ok, Err, Bor, length, eqb, refl, sym, ap, ◌∙◌, append_assoc, inl, inr, map, take, slice_get, arith}
use Rattle.std.proofs.lemmas.Option.{slice_get_within}
use Rattle.std.proofs.lemmas.List.{length-map, length-take-le, map-append}
use Rattle.bb_tree.proofs.Below.{take_next}
use Rattle.std.proofs.lemmas.Bool.{cases_Bool, ne_eqb}
use Rattle.std.proofs.lemmas.Str.{IsUtf8-from_is_utf8, is_utf8-from_IsUtf8}
use Rattle.std.specs.List.{join_with_byte}
use Rattle.std.specs.Option.{option_copied}
use Rattle.std.specs.Result.{MatchResult, result_ok}
use Rattle.std.specs.Str.{IsUtf8, is_utf8}
use Rattle.bb_layout.specs.Fields.{base_name}
use Rattle.bb_layout.specs.Results.{option_filter}
use Rattle.bb_layout.specs.Walk.{dotted_more}

pub not_utf8 : (bs : List ℕ) → (IsUtf8 bs → ⊥) → is_utf8 bs ≡ false
not_utf8 bs h =
    elim (cases_Bool (is_utf8 bs)) [
      | inl t ↦ absurd (h (IsUtf8-from_is_utf8 bs t))
      | inr f ↦ f
    ]

-- what reading bytes as a text gives
pub text_kept : {E : Type 0} (N : E → Type 0) (bs : List ℕ) (r : Result (Bor (List ℕ)) E) → MatchResult r (λ s. (s.now ≡ bs) × IsUtf8 bs) (λ e. (IsUtf8 bs → ⊥) × N e)
    → option_copied (result_ok r) ≡ option_filter is_utf8 (Some bs)
text_kept N bs (Ok s) h = rw (is_utf8-from_IsUtf8 bs h.1) (ap Some h.0)
text_kept N bs (Err e) h = rw (not_utf8 bs h.0) refl

-- one more name
joined_more : (xs : List (List ℕ)) (y : List ℕ) (b : Bool) → b ≡ eqb (length xs) 0 → join_with_byte 46 (xs ++ y ∷ []) ≡ dotted_more b (join_with_byte 46 xs) y
joined_more [] y b h = rw h refl
joined_more (x ∷ []) y b h = let next : b ≡ false = h ∙ ne_eqb (suc zero) 0 (λ e. omega arith) in rw next refl
joined_more (x ∷ z ∷ xs) y b h =
    let next : b ≡ false = h ∙ ne_eqb (suc (suc (length xs))) 0 (λ e. omega arith) in
    let rest = joined_more (z ∷ xs) y false (sym (ne_eqb (suc (length xs)) 0 (λ e. omega arith))) in
    rw next (ap (λ l. x ++ (46 ∷ l)) rest ∙ sym (append_assoc x (46 ∷ join_with_byte 46 (z ∷ xs)) (46 ∷ y)))

pub joined_at : (path : List (List ℕ)) (i : ℕ) (part : List ℕ) → slice_get path i ≡ Some part
    → join_with_byte 46 (map base_name (take (i + 1) path)) ≡ dotted_more (eqb i 0) (join_with_byte 46 (map base_name (take i path))) (base_name part)
joined_at path i part h =
    let inside = slice_get_within path i part h in
    let all : i ≡ length (map base_name (take i path)) = omega (arith, length-map (take i path) base_name, length-take-le i path (omega arith)) in
    ap (λ l. join_with_byte 46 (map base_name l)) (take_next path i part h) ∙ ap (join_with_byte 46) (map-append base_name (take i path) (part ∷ []))
    ∙ joined_more (map base_name (take i path)) (base_name part) (eqb i 0) (ap (λ n. eqb n 0) all)
