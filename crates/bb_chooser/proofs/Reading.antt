-- What a line sets, case by case.
use Rattle.std.proofs.Common.{◌≡◌, ◌≢◌, ℕ, ◌+◌, ◌==◌, ◌||◌, Bool, true, false, List, [], ◌∷◌, ◌++◌, Some, None, Result, Ok, Err, IfErr, length, arith, refl, sym, subst, inl, inr}
use Rattle.std.proofs.lemmas.Bool.{cases_Bool}
use Rattle.std.proofs.lemmas.Bool.Decides.{Decides-eqb}
use Rattle.std.proofs.lemmas.Slice.Eq.{starts_is}
use Rattle.std.specs.List.{list_any, position_or_len, starts_with}
use Rattle.std.specs.Prelude.{nat_eq}
use Rattle.std.specs.Result.{IsErrAnd}
use Rattle.std.specs.Str.{is_utf8}
use Rattle.bb_layout.specs.Results.{result_and_then}
use Rattle.bb_chooser.specs.Lines.{assignment_of, front, setting_in_line, pair_setting_of, sides_at, sets_nothing}
use Rattle.bb_chooser.specs.declared.fault.Fault.TheVariants.{BadLine}

pub no_front : (text : List ℕ) → ((rest : List ℕ) → text ≢ front ++ rest) → assignment_of text ≡ Err BadLine
no_front text h =
    let other : starts_with nat_eq text front ≡ false = elim (cases_Bool (starts_with nat_eq text front)) [
      | inl e ↦ absurd (h _ ((starts_is Decides-eqb text front _ refl).0 e))
      | inr e ↦ e
    ] in
    rw other refl

pub behind_front : (text rest : List ℕ) → text ≡ front ++ rest → assignment_of text ≡ pair_setting_of rest
behind_front text rest h = rw h refl

pub line_no_text : (line : List ℕ) → is_utf8 line ≡ false → setting_in_line line ≡ Err BadLine
line_no_text line h = rw h refl

pub line_quiet : (line : List ℕ) → is_utf8 line ≡ true → sets_nothing line ≡ true → setting_in_line line ≡ Ok None
line_quiet line h q = rw h (rw q refl)

pub line_sets : (line : List ℕ) → is_utf8 line ≡ true → sets_nothing line ≡ false → setting_in_line line ≡ result_and_then (λ setting. Ok (Some setting)) (assignment_of line)
line_sets line h q = rw h (rw q refl)

-- a refusal that is handed on says what it said, but where memory was refused
pub handed_on : {T E : Type 0} (none : E) (P : E → Type 0) (r : Result T E) (x : E) → IsErrAnd r (λ y. y ≡ x) → (x ≢ none → P x) → IfErr r (λ e. e ≢ none → P e)
handed_on none P (Ok v) x h k = absurd h
handed_on none P (Err y) x h k = subst (λ z. z ≢ none → P z) (sym h) k

pub none_among : (p : ℕ → Bool) (text : List ℕ) → position_or_len p text ≡ length text → list_any p text ≡ false
none_among p [] h = refl
none_among p (x ∷ xs) h = by (p x) refl (λ e. none_among p xs e)
  where
    by : (b : Bool) → p x ≡ b → (position_or_len p xs ≡ length xs → list_any p xs ≡ false) → (b || list_any p xs) ≡ false
    by true e rest = let g : position_or_len p (x ∷ xs) ≡ 0 = rw e refl in absurd (omega arith)
    by false e rest = let g : position_or_len p (x ∷ xs) ≡ 1 + position_or_len p xs = rw e refl in rest (omega arith)

pub no_sides : (c : ℕ) (text : List ℕ) → position_or_len (λ b. b == c) text ≡ length text → sides_at c text ≡ None
no_sides c text h = rw (none_among (λ b. b == c) text h) refl
