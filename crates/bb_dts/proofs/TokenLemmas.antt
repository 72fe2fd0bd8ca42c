-- Tokens, character by character.
use Rattle.std.proofs.Common.{◌≡◌, ℕ, ◌+◌, ◌-◌, ◌<◌, ◌≤◌, suc, zero, take, Result, Ok, Err, arith, cond, nat_eq, List, [], ◌∷◌, length, drop, get_or, codes, Some, None, refl, ap, sym, ◌∙◌}
use Rattle.std.specs.Option.{option_map}
use Rattle.std.specs.List.{starts_with}
use Rattle.std.proofs.lemmas.List.{at_drop_more, at_drop_all}
use Rattle.bb_dts.specs.declared.error.DtsError.{DtsError}
use Rattle.bb_dts.specs.declared.error.DtsError.TheVariants as refusal
use Rattle.bb_dts.specs.declared.token_kind.TokenKind.TheVariants.{End}
use Rattle.bb_dts.specs.declared.token_kind.Mode.{Mode}
use Rattle.bb_dts.specs.declared.token_kind.Lexed.{Lexed}
use Rattle.bb_dts.specs.declared.token_kind.Lexed.TheVariants.{Blank, Token, BadToken, LeftOut}
use Rattle.bb_dts.specs.Tokens.{comment_len, first_token, token_at, word_of, found_at, FoundToken}

comment_len-cons : (c : ℕ) (cs : List ℕ)
    → comment_len (c ∷ cs) ≡ cond (starts_with nat_eq (c
    ∷ cs) (codes "*/")) (Some 2) (option_map (λ n. n + 1) (comment_len cs))
unfolding comment_len
comment_len-cons c cs = refl

comment_len-nil : comment_len [] ≡ None
unfolding comment_len
comment_len-nil = refl

pub comment_len-drop_all : (text : List ℕ) (i : ℕ) → length text ≤ i
    → comment_len (drop i text) ≡ None
comment_len-drop_all text i h = at_drop_all comment_len text i h ∙ comment_len-nil

pub comment_len-drop_more : (text : List ℕ) (i : ℕ) → i < length text
    → comment_len (drop i text)
    ≡ cond (starts_with nat_eq (drop i text) (codes "*/")) (Some 2)
    (option_map (λ n. n + 1) (comment_len (drop (i + 1) text)))
comment_len-drop_more text i h =
    at_drop_more comment_len text i 0 h ∙ (comment_len-cons (get_or text i 0) (drop (i + 1) text)
    ∙ ap (λ b. cond b (Some 2) (option_map (λ n. n + 1) (comment_len (drop (i + 1) text))))
    (sym (at_drop_more (λ rest. starts_with nat_eq rest (codes "*/")) text i 0 h)))

first_token-skip : (mode : Mode) (total skip : ℕ) (text : List ℕ)
    → first_token mode total skip text ≡ first_token mode total 0 (drop skip text)
unfolding first_token
first_token-skip mode total zero [] = refl
first_token-skip mode total zero (c ∷ tail) = refl
first_token-skip mode total (suc skip) [] = refl
first_token-skip mode total (suc skip) (c ∷ tail) = first_token-skip mode total skip tail

-- what a text begins with, or what comes after the blanks that it begins with
abbrev pub first_here : Mode → ℕ → List ℕ → Lexed → Result FoundToken DtsError
first_here mode total text (Blank n) = first_token mode total 0 (drop (n + 1) text)
first_here mode total text (Token kind n) =
    Ok (record {
      kind = kind;
      word = word_of kind (take (n + 1) text);
      at = total - length text;
      rest = drop (n + 1) text;
    })
first_here mode total text BadToken = Err (refusal.BadToken (total - length text))
first_here mode total text LeftOut = Err (refusal.LeftOut (total - length text))

here : (mode : Mode) (total c : ℕ) (tail : List ℕ) (lexed : Lexed)
    → found_at (total - length (c ∷ tail)) c tail lexed (λ n. first_token mode total n tail)
    ≡ first_here mode total (c ∷ tail) lexed
here mode total c tail (Blank n) = let more : n + 1 ≡ suc n = omega arith in
    rw more (first_token-skip mode total n tail)
here mode total c tail (Token kind n) = let more : n + 1 ≡ suc n = omega arith in rw more refl
here mode total c tail BadToken = refl
here mode total c tail LeftOut = refl

pub first_token-here : (mode : Mode) (total : ℕ) (text : List ℕ) → 0 < length text
    → first_token mode total 0 text ≡ first_here mode total text (token_at mode text)
unfolding first_token
first_token-here mode total [] some = absurd (omega arith)
first_token-here mode total (c ∷ tail) some = here mode total c tail (token_at mode (c ∷ tail))

pub first_token-none : (mode : Mode) (total : ℕ) (text : List ℕ) → length text ≡ 0
    → first_token mode total 0 text ≡ Ok (record { kind = End; word = []; at = total; rest = [] })
unfolding first_token
first_token-none mode total [] none = refl
first_token-none mode total (c ∷ tail) none = absurd (omega arith)
