-- The first token of a text, and the tokens after it.
use Rattle.std.proofs.Common.{◌≡◌, ℕ, zero, suc, ◌+◌, ◌<◌, Bool, true, false, cond, List, [], ◌∷◌, ◌++◌, length, take, drop, refl, sym, ap, subst, ◌∙◌, arith, Option, Some, None, if◌then◌else◌}
use Rattle.std.proofs.lemmas.Bool.Decides.{nat_tests}
use Rattle.std.specs.Char.{is_ascii_alphabetic, is_ascii_digit, digit_value}
use Rattle.std.specs.List.{prefix_len}
use Rattle.std.specs.Prelude.{◌==◌}
use Rattle.std.specs.Str.Parse.{AllDigits, digits_value}
use Rattle.bb_menu.specs.Version.{VersionToken, mark_tokens, tokens_after, tokens_begun, version_tokens}
use Rattle.bb_menu.specs.Version as tokens
use Rattle.bb_menu.specs.Ranks.{IsRun, more_tokens, rank_begun, run_length, token_of}
use Rattle.bb_menu.specs.declared.token.TokenRank.{TokenRank}
use Rattle.bb_menu.specs.declared.token.TokenRank.TheVariants as ranks

-- characters that belong to the token before are as if they weren't there
tokens_after-drop : (n : ℕ) (text : List ℕ) → tokens_after n text ≡ version_tokens (drop n text)
unfolding tokens_after
tokens_after-drop zero [] = refl
tokens_after-drop zero (c ∷ rest) = refl
tokens_after-drop (suc n) [] = refl
tokens_after-drop (suc n) (c ∷ rest) = tokens_after-drop n rest

-- the token that a character begins, by whether it is a letter or a digit
abbrev begun_by : Bool → Bool → ℕ → List ℕ → List VersionToken
begun_by letter digit c rest =
    (if letter then tokens.Letters (c ∷ take (prefix_len is_ascii_alphabetic rest) rest) ∷ []
    else if digit then tokens.Digits (digits_value 10 (c ∷ take (prefix_len is_ascii_digit rest) rest)) ∷ []
    else mark_tokens c)
    ++ tokens_after (if letter then prefix_len is_ascii_alphabetic rest else if digit then prefix_len is_ascii_digit rest else 0) rest

begun : (c : ℕ) (rest : List ℕ) → version_tokens (c ∷ rest) ≡ begun_by (is_ascii_alphabetic c) (is_ascii_digit c) c rest
unfolding tokens_after
begun c rest = refl

-- a text begins with this token, and those after it
abbrev Begins : ℕ → List ℕ → TokenRank → Type 0
Begins c rest rank =
    let n = run_length rank (c ∷ rest) in
    version_tokens (c ∷ rest) ≡ token_of rank (take n (c ∷ rest)) ∷ more_tokens rank (drop n (c ∷ rest))

one_more : (p : ℕ → Bool) (c : ℕ) (rest : List ℕ) → p c ≡ true → prefix_len p (c ∷ rest) ≡ suc (prefix_len p rest)
one_more p c rest h =
    let n : 1 + prefix_len p rest ≡ suc (prefix_len p rest) = omega arith in
    ap (λ b. cond b (1 + prefix_len p rest) 0) h ∙ n

begins_letters : (c : ℕ) (rest : List ℕ) → is_ascii_alphabetic c ≡ true → Begins c rest ranks.Letters
begins_letters c rest h =
    begun c rest ∙ ap (λ b. begun_by b (is_ascii_digit c) c rest) h
    ∙ ap (λ t. tokens.Letters (c ∷ take (prefix_len is_ascii_alphabetic rest) rest) ∷ t) (tokens_after-drop (prefix_len is_ascii_alphabetic rest) rest)
    ∙ ap (λ n. token_of ranks.Letters (take n (c ∷ rest)) ∷ more_tokens ranks.Letters (drop n (c ∷ rest))) (sym (one_more is_ascii_alphabetic c rest h))

begins_digits : (c : ℕ) (rest : List ℕ) → is_ascii_alphabetic c ≡ false → is_ascii_digit c ≡ true → Begins c rest ranks.Digits
begins_digits c rest other h =
    begun c rest ∙ ap (λ b. begun_by b (is_ascii_digit c) c rest) other ∙ ap (λ b. begun_by false b c rest) h
    ∙ ap (λ t. tokens.Digits (digits_value 10 (c ∷ take (prefix_len is_ascii_digit rest) rest)) ∷ t) (tokens_after-drop (prefix_len is_ascii_digit rest) rest)
    ∙ ap (λ n. token_of ranks.Digits (take n (c ∷ rest)) ∷ more_tokens ranks.Digits (drop n (c ∷ rest))) (sym (one_more is_ascii_digit c rest h))

begins_mark : (c : ℕ) (rest : List ℕ) → is_ascii_alphabetic c ≡ false → is_ascii_digit c ≡ false → version_tokens (c ∷ rest) ≡ mark_tokens c ++ version_tokens rest
begins_mark c rest other none =
    begun c rest ∙ ap (λ b. begun_by b (is_ascii_digit c) c rest) other ∙ ap (λ b. begun_by false b c rest) none

-- the marks, by which one a character is
abbrev marks_by : Bool → Bool → Bool → Bool → List VersionToken
marks_by tilde hyphen caret dot =
    if tilde then tokens.Tilde ∷ [] else if hyphen then tokens.Hyphen ∷ [] else if caret then tokens.Caret ∷ []
    else if dot then tokens.Dot ∷ [] else []

abbrev rank_by : Bool → Bool → Bool → Bool → Bool → Bool → Option TokenRank
rank_by letter digit tilde hyphen caret dot =
    if letter then Some ranks.Letters else if digit then Some ranks.Digits else if tilde then Some ranks.Tilde
    else if hyphen then Some ranks.Hyphen else if caret then Some ranks.Caret else if dot then Some ranks.Dot else None

-- what a rank says of the text that it begins
abbrev Leads : ℕ → List ℕ → Option TokenRank → Type 0
Leads c rest None = version_tokens (c ∷ rest) ≡ version_tokens rest
Leads c rest (Some rank) = Begins c rest rank

module _ (c : ℕ) (rest : List ℕ) where
  mark_leads : is_ascii_alphabetic c ≡ false → is_ascii_digit c ≡ false → (tilde hyphen caret dot : Bool) →
      mark_tokens c ≡ marks_by tilde hyphen caret dot → Leads c rest (rank_by false false tilde hyphen caret dot)
  mark_leads other none true h k d e = begins_mark c rest other none ∙ ap (λ t. t ++ version_tokens rest) e
  mark_leads other none false true k d e = begins_mark c rest other none ∙ ap (λ t. t ++ version_tokens rest) e
  mark_leads other none false false true d e = begins_mark c rest other none ∙ ap (λ t. t ++ version_tokens rest) e
  mark_leads other none false false false true e = begins_mark c rest other none ∙ ap (λ t. t ++ version_tokens rest) e
  mark_leads other none false false false false e = begins_mark c rest other none ∙ ap (λ t. t ++ version_tokens rest) e

  leads_by : (letter digit : Bool) → is_ascii_alphabetic c ≡ letter → is_ascii_digit c ≡ digit →
      Leads c rest (rank_by letter digit (c == 126) (c == 45) (c == 94) (c == 46))
  leads_by true digit e f = begins_letters c rest e
  leads_by false true e f = begins_digits c rest e f
  leads_by false false e f = mark_leads e f (c == 126) (c == 45) (c == 94) (c == 46) refl

  pub leads : Leads c rest (rank_begun c)
  leads = leads_by (is_ascii_alphabetic c) (is_ascii_digit c) refl refl

-- ---- what the code says of a token

some_is : (r s : TokenRank) → Some r ≡ Some s → r ≡ s
some_is r s h = cc

pub token_found : (text rest : List ℕ) (c : ℕ) (rank : TokenRank) → text ≡ c ∷ rest → rank_begun c ≡ Some rank →
    version_tokens text ≡ token_of rank (take (run_length rank text) text) ∷ more_tokens rank (drop (run_length rank text) text)
token_found text rest c rank is begins =
    subst (λ t. version_tokens t ≡ token_of rank (take (run_length rank t) t) ∷ more_tokens rank (drop (run_length rank t) t)) (sym is)
    (subst (Leads c rest) begins (leads c rest))

pub token_none : (text rest : List ℕ) (c : ℕ) → text ≡ c ∷ rest → rank_begun c ≡ None → version_tokens text ≡ version_tokens rest
token_none text rest c is none = ap version_tokens is ∙ subst (Leads c rest) none (leads c rest)

pub token_end : (text : List ℕ) → length text ≡ 0 → version_tokens text ≡ tokens.End ∷ []
unfolding tokens_after
token_end [] none = refl
token_end (c ∷ rest) none = absurd (omega (arith, none))

-- a run of digits has digits alone
digits_run : (text : List ℕ) → AllDigits 10 (take (prefix_len is_ascii_digit text) text)
digits_run [] = tt
digits_run (c ∷ rest) = by (is_ascii_digit c) refl (digits_run rest)
  where
    by : (b : Bool) → is_ascii_digit c ≡ b → AllDigits 10 (take (prefix_len is_ascii_digit rest) rest) → AllDigits 10 (take (cond b (1 + prefix_len is_ascii_digit rest) 0) (c ∷ rest))
    by true e more =
        let n : 1 + prefix_len is_ascii_digit rest ≡ suc (prefix_len is_ascii_digit rest) = omega arith in
        let here : digit_value c < 10 = grind (arith, nat_tests) in
        subst (λ k. AllDigits 10 (take k (c ∷ rest))) (sym n) (here, more)
    by false e more = tt

pub run_found : (rank : TokenRank) (text : List ℕ) → IsRun rank (take (run_length rank text) text)
run_found ranks.Tilde text = tt
run_found ranks.End text = tt
run_found ranks.Hyphen text = tt
run_found ranks.Caret text = tt
run_found ranks.Dot text = tt
run_found ranks.Letters text = tt
run_found ranks.Digits text = digits_run text
