-- Words of a source are ASCII.
use Rattle.std.proofs.Common.{◌≡◌, ℕ, ◌+◌, ◌-◌, ◌<◌, Bool, true, false, cond, suc, List, [], ◌∷◌, length, take, drop, refl, arith, ◌&&◌, ◌==◌, not}
use Rattle.std.specs.List.{prefix_len}
use Rattle.std.specs.Str.{IsAscii}
use Rattle.std.proofs.lemmas.Bool.Decides.{nat_tests}
use Rattle.std.proofs.lemmas.Grind.{common_steps}
use Rattle.std.proofs.lemmas.Str.Ascii.{IsAscii-nil, IsAscii-cons}
use Rattle.bb_dts.specs.declared.token_kind.TokenKind.TheVariants.{Reference, Label, Name}
use Rattle.bb_dts.specs.Characters.{is_word, is_name_character, begins_label}
use Rattle.bb_dts.specs.Tokens.{word_of, label_len}

prefix-step : (p : ℕ → Bool) → ((c : ℕ) → p c ≡ true → c < 128) → (c : ℕ) (cs : List ℕ)
    → IsAscii (take (prefix_len p cs) cs) → (b : Bool) → p c ≡ b
    → IsAscii (take (cond b (1 + prefix_len p cs) 0) (c ∷ cs))
prefix-step p small c cs behind true is =
    let more : 1 + prefix_len p cs ≡ suc (prefix_len p cs) = omega arith in
    rw more (IsAscii-cons c (take (prefix_len p cs) cs) (small c is) behind)
prefix-step p small c cs behind false is = IsAscii-nil

-- the characters of a front that pass a test are ASCII where it lets no others pass
pub IsAscii-prefix : (p : ℕ → Bool) → ((c : ℕ) → p c ≡ true → c < 128) → (text : List ℕ)
    → IsAscii (take (prefix_len p text) text)
IsAscii-prefix p small [] = IsAscii-nil
IsAscii-prefix p small (c ∷ cs) = prefix-step p small c cs (IsAscii-prefix p small cs) (p c) refl

pub small_word : (c : ℕ) → is_word c ≡ true → c < 128
small_word c is = grind (arith, nat_tests)

pub small_name : (c : ℕ) → is_name_character c ≡ true → c < 128
small_name c is = grind (arith, nat_tests)

pub small_name_in_value : (c : ℕ) → (is_name_character c && not (c == 44)) ≡ true → c < 128
small_name_in_value c is = grind (arith, nat_tests)

pub word_of-name : (bytes : List ℕ) → word_of Name bytes ≡ bytes
unfolding word_of
word_of-name bytes = refl

pub word_of-label : (bytes : List ℕ) → word_of Label bytes ≡ take (length bytes - 1) bytes
unfolding word_of
word_of-label bytes = refl

pub word_of-reference : (bytes : List ℕ) → word_of Reference bytes ≡ drop 1 bytes
unfolding word_of
word_of-reference bytes = refl

label-begins : (c : ℕ) (cs : List ℕ) (b : Bool)
    → IsAscii (take (cond b (prefix_len is_word (c ∷ cs)) 0) (c ∷ cs))
label-begins c cs true = IsAscii-prefix is_word small_word (c ∷ cs)
label-begins c cs false = IsAscii-nil

pub IsAscii-label : (text : List ℕ) → IsAscii (take (label_len text) text)
IsAscii-label [] = IsAscii-nil
IsAscii-label (c ∷ cs) = label-begins c cs (begins_label c)

pub take-front : (text : List ℕ) (n : ℕ) → n < length text
    → take (length (take (n + 1) text) - 1) (take (n + 1) text) ≡ take n text
take-front text n h = grind (arith, common_steps)
