-- A string, character by character.
use Rattle.std.proofs.Common.{◌≡◌, ℕ, ◌+◌, ◌-◌, ◌<◌, ◌≤◌, ◌==◌, suc, zero, Bool, true, false, cond, not, List, [], ◌∷◌, ◌++◌, length, take, drop, get_or, Option, Some, None, refl, ap, sym, ◌∙◌, arith, option_and_then}
use Rattle.std.specs.Option.{option_map, option_map_or}
use Rattle.std.specs.List.{prefix_len}
use Rattle.std.proofs.lemmas.List.{at_drop_more, at_drop_all}
use Rattle.std.proofs.lemmas.Grind.{common_steps}
use Rattle.bb_dts.specs.Strings.{escape_of, string_len, quoted_bytes}

string_len-nil : (escaped : Bool) → string_len escaped [] ≡ None
unfolding string_len
string_len-nil true = refl
string_len-nil false = refl

string_len-escape : (c : ℕ) (cs : List ℕ)
    → string_len true (c ∷ cs)
    ≡ option_and_then (λ _. option_map (λ n. n + 1) (string_len false cs)) (escape_of (c ∷ cs))
unfolding string_len
string_len-escape c cs = refl

string_len-plain : (c : ℕ) (cs : List ℕ)
    → string_len false (c ∷ cs)
    ≡ cond (c == 34) (Some 0) (option_map (λ n. n + 1) (string_len (c == 92) cs))
unfolding string_len
string_len-plain c cs = refl

pub string_len-drop_all : (escaped : Bool) (text : List ℕ) (i : ℕ) → length text ≤ i
    → string_len escaped (drop i text) ≡ None
string_len-drop_all escaped text i h = at_drop_all (string_len escaped) text i h
    ∙ string_len-nil escaped

pub string_len-drop_escape : (text : List ℕ) (i : ℕ) → i < length text
    → string_len true (drop i text)
    ≡ option_and_then (λ _. option_map (λ n. n + 1) (string_len false (drop (i + 1) text)))
    (escape_of (drop i text))
string_len-drop_escape text i h =
    at_drop_more (string_len true) text i 0 h
    ∙ (string_len-escape (get_or text i 0) (drop (i + 1) text)
    ∙ ap (λ e. option_and_then (λ _. option_map (λ n. n + 1) (string_len false (drop (i + 1)
    text))) e) (sym (at_drop_more escape_of text i 0 h)))

pub string_len-drop_plain : (text : List ℕ) (i : ℕ) → i < length text
    → string_len false (drop i text)
    ≡ cond (get_or text i 0 == 34) (Some 0)
    (option_map (λ n. n + 1) (string_len (get_or text i 0 == 92) (drop (i + 1) text)))
string_len-drop_plain text i h = at_drop_more (string_len false) text i 0 h
    ∙ string_len-plain (get_or text i 0) (drop (i + 1) text)

pub option_map_more : (o : Option ℕ) (i : ℕ)
    → option_map (λ n. n + i) (option_map (λ n. n + 1) o) ≡ option_map (λ n. n + (i + 1)) o
option_map_more None i = refl
option_map_more (Some n) i = ap (λ m. Some m) (omega arith)

pub quoted_bytes-skip : (skip : ℕ) (text : List ℕ)
    → quoted_bytes skip text ≡ quoted_bytes 0 (drop skip text)
unfolding quoted_bytes
quoted_bytes-skip zero [] = refl
quoted_bytes-skip zero (c ∷ cs) = refl
quoted_bytes-skip (suc skip) [] = refl
quoted_bytes-skip (suc skip) (c ∷ cs) = quoted_bytes-skip skip cs

pub quoted_bytes-escape : (c : ℕ) (cs : List ℕ) → c ≡ 92
    → quoted_bytes 0 (c ∷ cs) ≡ option_map_or (λ e. e.0
    ∷ quoted_bytes 0 (drop e.1 cs)) (escape_of cs) []
unfolding quoted_bytes
quoted_bytes-escape c cs is = rw is (elim (escape_of cs) as (λ o. option_map_or (λ e. e.0
    ∷ quoted_bytes e.1 cs) o [] ≡ option_map_or (λ e. e.0 ∷ quoted_bytes 0 (drop e.1 cs)) o [])
    [ None ↦ refl | Some e ↦ ap (λ bytes. e.0 ∷ bytes) (quoted_bytes-skip e.1 cs) ])

quoted_bytes-other : (c : ℕ) (cs : List ℕ) → (c == 92) ≡ false
    → quoted_bytes 0 (c ∷ cs) ≡ c ∷ quoted_bytes 0 cs
unfolding quoted_bytes
quoted_bytes-other c cs other = rw other refl

abbrev plain : List ℕ → ℕ
plain text = prefix_len (λ c. not (c == 92)) text

plain-step : (c : ℕ) (cs : List ℕ)
    → quoted_bytes 0 cs ≡ take (plain cs) cs ++ quoted_bytes 0 (drop (plain cs) cs) → (b : Bool)
    → (c == 92) ≡ b → quoted_bytes 0 (c ∷ cs) ≡ take (cond (not b) (1 + plain cs) 0) (c
    ∷ cs) ++ quoted_bytes 0 (drop (cond (not b) (1 + plain cs) 0) (c ∷ cs))
plain-step c cs behind true is = refl
plain-step c cs behind false is =
    let more : 1 + plain cs ≡ suc (plain cs) = omega arith in
    rw more (quoted_bytes-other c cs is ∙ ap (λ bytes. c ∷ bytes) behind)

-- what stands before the first `\` gives itself
pub quoted_bytes-plain : (text : List ℕ)
    → quoted_bytes 0 text ≡ take (plain text) text ++ quoted_bytes 0 (drop (plain text) text)
quoted_bytes-plain [] = refl
quoted_bytes-plain (c ∷ cs) = plain-step c cs (quoted_bytes-plain cs) (c == 92) refl

pub quoted_bytes-drop_escape : (text : List ℕ) → get_or text 0 0 ≡ 92
    → quoted_bytes 0 text ≡ option_map_or (λ e. e.0
    ∷ quoted_bytes 0 (drop e.1 (drop 1 text))) (escape_of (drop 1 text)) []
quoted_bytes-drop_escape [] is = absurd (omega arith)
quoted_bytes-drop_escape (c ∷ cs) is = quoted_bytes-escape c cs is

pub quoted_bytes-none : (text : List ℕ) → length text ≡ 0 → quoted_bytes 0 text ≡ []
unfolding quoted_bytes
quoted_bytes-none [] is = refl
quoted_bytes-none (c ∷ cs) is = absurd (omega arith)

-- `&text[n..]`
pub tail_is : (text : List ℕ) (n : ℕ) → take (length text - n) (drop n text) ≡ drop n text
tail_is text n = grind (arith, common_steps)

pub drop-more : (text : List ℕ) (m n : ℕ) → drop n (drop m text) ≡ drop (m + n) text
drop-more text m n = grind (arith, common_steps)
