-- The tokens of a text by its first character.
use Rattle.std.proofs.Common.{◌≡◌, ◌≢◌, ◌<◌, ℕ, zero, suc, ◌+◌, ◌-◌, ◌||◌, ◌&&◌, ◌==◌, nat_lt, Bool, true, false, not, List, [], ◌∷◌, length, drop, if◌then◌else◌, codes, refl, ap, sym, subst, ◌∙◌, ◌≤◌, arith}
use Rattle.std.specs.List.{prefix_len}
use Rattle.bb_script.specs.declared.error.ScriptError.TheVariants as refusal
use Rattle.bb_script.specs.declared.open_word.PieceTaken.{PieceTaken}
use Rattle.bb_script.specs.declared.open_word.PieceTaken.TheVariants as piece_taken
use Rattle.bb_script.specs.declared.piece.Quoting.{Quoting}
use Rattle.bb_script.specs.declared.piece.Quoting.TheVariants.{Bare, Single, Double}
use Rattle.bb_script.specs.declared.piece.WordPiece.{WordPiece}
use Rattle.bb_script.specs.declared.piece.WordPiece.TheVariants as piece
use Rattle.bb_script.specs.declared.token_kind.Lexeme.{Lexeme}
use Rattle.bb_script.specs.declared.token_kind.Lexeme.TheVariants.{Blank, Mark, CutOff, Begins}
use Rattle.bb_script.specs.declared.token_kind.ScriptTokenKind.{ScriptTokenKind}
use Rattle.bb_script.specs.declared.token_kind.ScriptTokenKind.TheVariants.{Semi, Line, And, Or, Stray, Cut, End}
use Rattle.bb_script.specs.declared.token.ScriptToken.{ScriptToken}
use Rattle.bb_script.specs.declared.word.Word.{Word}
use Rattle.bb_script.specs.Descent.{ahead_in}
use Rattle.bb_script.specs.Reading.{IsStillWord, step_taken, tokens_seen, word_seen}
use Rattle.bb_script.specs.Pieces.{begins_with, bare_piece, braced_piece, dollar_piece, ends_word, escaped_piece, named_piece, variable_len, word_piece}
use Rattle.bb_script.specs.Tokens.{Amid, Between, GoesOn, HasEnded, IsBad, OpenWord, SpeltToken, Within, WordStep, backslash_lexeme, bad_word, doubled_mark, lexeme_at, mark_at, mark_token, tokens, tokens_amid, tokens_at_end, tokens_between, tokens_from_word, tokens_within, word_at_end, word_begun, word_step, word_token}
use Rattle.bb_script.specs.Places.{TokenAhead}
use Rattle.bb_script.specs.Walk.{end_ahead, token_ahead}

-- ---- a word that begins doesn't end at once

neither : {A : Type 0} (b : Bool) (x y z : A) → (x ≡ z → ⊥) → (y ≡ z → ⊥)
    → (if b then x else y) ≡ z → ⊥
neither true x y z not_x not_y is = not_x is
neither false x y z not_x not_y is = not_y is

doubled-other : (c : ℕ) (rest : List ℕ) (kind : ScriptTokenKind)
    → doubled_mark c rest kind ≡ Begins → ⊥
doubled-other c rest kind =
    neither (begins_with c rest) (Mark kind 1) (Mark Stray 0) Begins (λ is. cc) (λ is. cc)

mark-other : (c : ℕ) (rest : List ℕ) → mark_at c rest ≡ Begins → ⊥
mark-other c rest =
    neither (c == 32 || c == 9 || c == 13) _ _ Begins (λ is. cc)
    (neither (c == 10) _ _ Begins (λ is. cc)
    (neither (c == 59) _ _ Begins (λ is. cc)
    (neither (c == 38) _ _ Begins (doubled-other 38 rest And)
    (neither (c == 124) _ _ Begins (doubled-other 124 rest Or) (λ is. cc)))))

braced-other : (text : List ℕ) → braced_piece text ≡ piece.Ends → ⊥
braced-other text =
    neither (nat_lt 0 (variable_len text) && begins_with 125 (drop (variable_len text) text))
    (piece.Value 1 (variable_len text) (variable_len text + 2)) piece.Refuses piece.Ends
    (λ is. cc) (λ is. cc)

named-other : (text : List ℕ) → named_piece text ≡ piece.Ends → ⊥
named-other text =
    neither (nat_lt 0 (variable_len text))
    (piece.Value 0 (variable_len text) (variable_len text)) (piece.Letter 36 0) piece.Ends
    (λ is. cc) (λ is. cc)

dollar-other : (rest : List ℕ) → dollar_piece rest ≡ piece.Ends → ⊥
dollar-other rest =
    neither (begins_with 63 rest) piece.Status
    (if begins_with 123 rest then braced_piece (drop 1 rest) else named_piece rest) piece.Ends
    (λ is. cc)
    (neither (begins_with 123 rest) (braced_piece (drop 1 rest)) (named_piece rest) piece.Ends
    (braced-other (drop 1 rest)) (named-other rest))

backslash-other : (rest : List ℕ) → backslash_lexeme rest ≡ Begins
    → escaped_piece rest ≡ piece.Ends → ⊥
backslash-other [] begins ends = cc
backslash-other (c ∷ rest) begins ends =
    neither (c == 10) piece.Drops (piece.Escaped c) piece.Ends (λ is. cc) (λ is. cc) ends

begins_by : (ends hash single double back dollar : Bool) (at c len : ℕ) (rest : List ℕ)
    → (if ends then mark_at c rest else (if hash then Blank len else (
    if back then backslash_lexeme rest else Begins))) ≡ Begins
    → (if ends then piece.Ends else (if single then piece.Opens (Single at) else (
    if double then piece.Opens (Double at) else (if back then escaped_piece rest else (
    if dollar then dollar_piece rest else piece.Letter c 0))))) ≡ piece.Ends
    → ⊥
begins_by true hash single double back dollar at c len rest begins is = mark-other c rest begins
begins_by false hash true double back dollar at c len rest begins is = cc
begins_by false hash false true back dollar at c len rest begins is = cc
begins_by false true false false true dollar at c len rest begins is = cc
begins_by false false false false true dollar at c len rest begins is =
    backslash-other rest begins is
begins_by false hash false false false true at c len rest begins is = dollar-other rest is
begins_by false hash false false false false at c len rest begins is = cc

begins-goes_on : (at c : ℕ) (rest : List ℕ) → lexeme_at c rest ≡ Begins
    → bare_piece at c rest ≡ piece.Ends → ⊥
begins-goes_on at c rest =
    begins_by (ends_word c) (c == 35) (c == 39) (c == 34) (c == 92) (c == 36) at c
    (prefix_len (λ d. not (d == 10)) rest) rest

step_ends : (word : OpenWord) (rest : List ℕ) (p : WordPiece)
    → word_step word rest p ≡ HasEnded → p ≡ piece.Ends
step_ends word rest piece.Ends is = refl
step_ends word rest piece.Refuses is = cc
step_ends word rest piece.Drops is = cc
step_ends word rest (piece.Letter c more) is = cc
step_ends word rest (piece.Escaped c) is = cc
step_ends word rest (piece.Opens quoting) is = cc
step_ends word rest piece.Closes is = cc
step_ends word rest (piece.Value front len past) is = cc
step_ends word rest piece.Status is = cc

from_word : (total at c : ℕ) (rest : List ℕ) (word : OpenWord)
    (on : ℕ → Amid → List SpeltToken) (s : WordStep) → s ≢ HasEnded
    → tokens_from_word word at on s ≡ tokens_within total word at c rest on s
from_word total at c rest word on (GoesOn more next) goes = refl
from_word total at c rest word on HasEnded goes = absurd (goes refl)
from_word total at c rest word on IsBad goes = refl

-- ---- bytes that are passed over

tokens-skip : (total skip : ℕ) (text : List ℕ) (amid : Amid)
    → tokens total skip text amid ≡ tokens total 0 (drop skip text) amid
unfolding tokens
tokens-skip total zero [] amid = refl
tokens-skip total zero (c ∷ rest) amid = refl
tokens-skip total (suc skip) [] amid = refl
tokens-skip total (suc skip) (c ∷ rest) amid = tokens-skip total skip rest amid

pub tokens-nothing : (total : ℕ) → tokens total 0 [] Between ≡ []
unfolding tokens
tokens-nothing total = refl

-- ---- in a word

-- what a step of a word leads to, where the text begins with the character
abbrev pub after_step : ℕ → OpenWord → List ℕ → List ℕ → WordStep → List SpeltToken
after_step total word text rest (GoesOn more next) = tokens total 0 (drop more rest) (Within next)
after_step total word text rest HasEnded = word_token word ∷ tokens total 0 text Between
after_step total word text rest IsBad =
    bad_word word (refusal.Unexpected (total - length text)) ∷ []

within_by : (total c : ℕ) (rest : List ℕ) (word : OpenWord) (s : WordStep)
    → tokens_within total word (total - length (c ∷ rest)) c rest
    (λ more next. tokens total more rest next) s ≡ after_step total word (c ∷ rest) rest s
unfolding tokens
within_by total c rest word (GoesOn more next) = tokens-skip total more rest (Within next)
within_by total c rest word HasEnded = refl
within_by total c rest word IsBad = refl

pub within_next : (total c : ℕ) (rest : List ℕ) (word : OpenWord)
    → tokens total 0 (c ∷ rest) (Within word)
    ≡ after_step total word (c ∷ rest) rest
    (word_step word rest (word_piece word.quoting (total - length (c ∷ rest)) c rest))
unfolding tokens
within_next total c rest word =
    within_by total c rest word
    (word_step word rest (word_piece word.quoting (total - length (c ∷ rest)) c rest))

-- where a word has ended, and where it is malformed
pub ended-word : (total c : ℕ) (rest text : List ℕ) (word : OpenWord) → text ≡ c ∷ rest
    → word_step word rest (word_piece word.quoting (total - length text) c rest) ≡ HasEnded
    → tokens total 0 text (Within word) ≡ word_token word ∷ tokens total 0 text Between
ended-word total c rest text word is ended =
    ap (λ t. tokens total 0 t (Within word)) is ∙ within_next total c rest word
    ∙ ap (after_step total word (c ∷ rest) rest)
    (ap (λ t. word_step word rest (word_piece word.quoting (total - length t) c rest)) (sym is)
    ∙ ended)
    ∙ ap (λ t. word_token word ∷ tokens total 0 t Between) (sym is)

pub bad-word : (total c : ℕ) (rest text : List ℕ) (word : OpenWord) → text ≡ c ∷ rest
    → word_step word rest (word_piece word.quoting (total - length text) c rest) ≡ IsBad
    → tokens total 0 text (Within word)
    ≡ bad_word word (refusal.Unexpected (total - length text)) ∷ []
bad-word total c rest text word is bad =
    ap (λ t. tokens total 0 t (Within word)) is ∙ within_next total c rest word
    ∙ ap (after_step total word (c ∷ rest) rest)
    (ap (λ t. word_step word rest (word_piece word.quoting (total - length t) c rest)) (sym is)
    ∙ bad)
    ∙ ap (λ t. bad_word word (refusal.Unexpected (total - length t)) ∷ []) (sym is)

-- the same of a token that was made of it
pub ended-seen : (total c here : ℕ) (rest text : List ℕ) (word next : OpenWord) (p : WordPiece)
    (taken : PieceTaken) (t : ScriptToken) (w : Word)
    → text ≡ c ∷ rest → here ≡ total - length text → p ≡ word_piece word.quoting here c rest
    → word_step word rest p ≡ step_taken taken next → IsStillWord taken word next
    → taken ≡ piece_taken.HasEnded → word_seen t w ≡ word_token next → t.rest.now ≡ text
    → tokens total 0 text (Within word) ≡ tokens_seen total t w
ended-seen total c here rest text word next p taken t w is here_is p_is stepped still ended seen rest_is =
    let P : PieceTaken → Type 0 = λ k. IsStillWord k word next in
    let same : next ≡ word = subst P ended still in
    ended-word total c rest text word is
    (ap (λ h. word_step word rest (word_piece word.quoting h c rest)) (sym here_is)
    ∙ ap (word_step word rest) (sym p_is) ∙ stepped ∙ ap (λ k. step_taken k next) ended)
    ∙ ap (λ (v : OpenWord). word_token v ∷ tokens total 0 text Between) (sym same)
    ∙ ap (λ (s : SpeltToken). s ∷ tokens total 0 text Between) (sym seen)
    ∙ ap (λ r. word_seen t w ∷ tokens total 0 r Between) (sym rest_is)

pub bad-seen : (total c here : ℕ) (rest text : List ℕ) (word next : OpenWord) (p : WordPiece)
    (taken : PieceTaken) (t : ScriptToken) (w : Word)
    → text ≡ c ∷ rest → here ≡ total - length text → p ≡ word_piece word.quoting here c rest
    → word_step word rest p ≡ step_taken taken next → IsStillWord taken word next
    → taken ≡ piece_taken.IsBad → word_seen t w ≡ bad_word next (refusal.Unexpected here)
    → t.rest.now ≡ [] → tokens total 0 text (Within word) ≡ tokens_seen total t w
bad-seen total c here rest text word next p taken t w is here_is p_is stepped still bad seen rest_is =
    let P : PieceTaken → Type 0 = λ k. IsStillWord k word next in
    let same : next ≡ word = subst P bad still in
    bad-word total c rest text word is
    (ap (λ h. word_step word rest (word_piece word.quoting h c rest)) (sym here_is)
    ∙ ap (word_step word rest) (sym p_is) ∙ stepped ∙ ap (λ k. step_taken k next) bad)
    ∙ ap (λ h. bad_word word (refusal.Unexpected h) ∷ []) (sym here_is)
    ∙ ap (λ (v : OpenWord). bad_word v (refusal.Unexpected here) ∷ []) (sym same)
    ∙ ap (λ (s : SpeltToken). s ∷ []) (sym seen)
    ∙ ap (λ l. word_seen t w ∷ l) (sym (tokens-nothing total))
    ∙ ap (λ r. word_seen t w ∷ tokens total 0 r Between) (sym rest_is)

-- ---- between two words

abbrev pub after_lexeme : ℕ → List ℕ → List ℕ → Lexeme → List SpeltToken
after_lexeme total text rest (Blank more) = tokens total 0 (drop more rest) Between
after_lexeme total text rest (Mark kind more) =
    mark_token kind (total - length text) ∷ tokens total 0 (drop more rest) Between
after_lexeme total text rest CutOff = mark_token Cut total ∷ []
after_lexeme total text rest Begins =
    tokens total 0 text (Within (word_begun (total - length text)))

between_by : (total c : ℕ) (rest : List ℕ) (l : Lexeme) → lexeme_at c rest ≡ l
    → tokens_between total (total - length (c ∷ rest)) c rest
    (λ more next. tokens total more rest next) l ≡ after_lexeme total (c ∷ rest) rest l
unfolding tokens
between_by total c rest (Blank more) is = tokens-skip total more rest Between
between_by total c rest (Mark kind more) is =
    ap (λ l. mark_token kind (total - length (c ∷ rest)) ∷ l) (tokens-skip total more rest Between)
between_by total c rest CutOff is = refl
between_by total c rest Begins is =
    from_word total (total - length (c ∷ rest)) c rest (word_begun (total - length (c ∷ rest)))
    (λ more next. tokens total more rest next)
    (word_step (word_begun (total - length (c ∷ rest))) rest
    (word_piece Bare (total - length (c ∷ rest)) c rest))
    (λ ended. begins-goes_on (total - length (c ∷ rest)) c rest is
    (step_ends (word_begun (total - length (c ∷ rest))) rest
    (word_piece Bare (total - length (c ∷ rest)) c rest) ended))

pub between_next : (total c : ℕ) (rest : List ℕ)
    → tokens total 0 (c ∷ rest) Between
    ≡ after_lexeme total (c ∷ rest) rest (lexeme_at c rest)
unfolding tokens
between_next total c rest = between_by total c rest (lexeme_at c rest) refl

-- ---- at the text's end

pub tokens-none : (total : ℕ) (text : List ℕ) (amid : Amid) → length text ≡ 0
    → tokens total 0 text amid ≡ tokens_at_end amid
unfolding tokens
tokens-none total [] amid none = refl
tokens-none total (c ∷ rest) amid none = absurd (omega arith)

-- ---- the first token

abbrev pub by_tokens : ℕ → List SpeltToken → TokenAhead
by_tokens total [] = end_ahead total
by_tokens total (t ∷ later) = token_ahead t later

-- what a token that is found is, of the tokens at its place
pub first_ahead : (total : ℕ) (ts : List SpeltToken) → ahead_in total ts ≡ by_tokens total ts
unfolding ahead_in
first_ahead total [] = refl
first_ahead total (t ∷ later) = refl

pub ahead-nil : (total : ℕ) → ahead_in total [] ≡ end_ahead total
unfolding ahead_in
ahead-nil total = refl

pub ahead-cons : (total : ℕ) (t : SpeltToken) (later : List SpeltToken)
    → ahead_in total (t ∷ later) ≡ token_ahead t later
unfolding ahead_in
ahead-cons total t later = refl

-- a `\` at the text's end, and the text's end
pub cut-seen : (total c : ℕ) (rest text : List ℕ) → text ≡ c ∷ rest → lexeme_at c rest ≡ CutOff
    → ahead_in total (tokens total 0 text Between)
    ≡ record { kind = Cut; word = []; at = total; rest = tokens total 0 [] Between }
cut-seen total c rest text is cut =
    ap (λ t. ahead_in total (tokens total 0 t Between)) is
    ∙ ap (ahead_in total)
    (between_next total c rest ∙ ap (after_lexeme total (c ∷ rest) rest) cut)
    ∙ ahead-cons total (mark_token Cut total) []
    ∙ ap (λ (l : List SpeltToken). record { kind = Cut; word = []; at = total; rest = l })
    (sym (tokens-nothing total))

pub end-seen : (total : ℕ) (text : List ℕ) → length text ≡ 0
    → ahead_in total (tokens total 0 text Between)
    ≡ record { kind = End; word = []; at = total; rest = tokens total 0 [] Between }
end-seen total text none =
    ap (ahead_in total) (tokens-none total text Between none) ∙ ahead-nil total
    ∙ ap (λ (l : List SpeltToken). record { kind = End; word = []; at = total; rest = l })
    (sym (tokens-nothing total))

pub ahead-within : (total : ℕ) (ts : List SpeltToken) (t : TokenAhead) → t ≡ ahead_in total ts
    → length t.rest ≤ length ts
unfolding ahead_in
ahead-within total [] t is =
    let same : length t.rest ≡ 0 = ap (λ (a : TokenAhead). length a.rest) is in omega arith
ahead-within total (first ∷ later) t is =
    let same : length t.rest ≡ length later = ap (λ (a : TokenAhead). length a.rest) is in
    omega arith

pub ahead-shorter : (total : ℕ) (ts : List SpeltToken) (t : TokenAhead) → t ≡ ahead_in total ts
    → t.kind ≢ End → length t.rest < length ts
unfolding ahead_in
ahead-shorter total [] t is other = absurd (other (ap (λ (a : TokenAhead). a.kind) is))
ahead-shorter total (first ∷ later) t is other =
    let same : length t.rest ≡ length later = ap (λ (a : TokenAhead). length a.rest) is in
    omega arith
