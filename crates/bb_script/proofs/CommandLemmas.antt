-- Which words set a variable.
use Rattle.std.proofs.Common.{◌≡◌, ◌<◌, ℕ, true, nat_lt, if◌then◌else◌, List, [], ◌∷◌, ◌++◌, ap, refl, sym, ◌∙◌, arith}
use Rattle.bb_script.specs.Tree.{call, command_of_words, command_of_word, name_set_alone_len, name_set_len, set, set_command_of}
use Rattle.bb_script.specs.Words.{Atom}

lt-one : (n : ℕ) → 0 < n → nat_lt 0 n ≡ true
lt-one n some = grind arith

pub sets_alone : (words front : List (List Atom)) (word : List Atom)
    → words ≡ front ++ word ∷ [] → 0 < name_set_alone_len words
    → command_of_words words ≡ set_command_of (name_set_alone_len words) word
sets_alone [] front word is some = absurd (omega arith)
sets_alone (only ∷ []) [] word is some =
    let same : only ≡ word = cc in
    ap (λ b. if b then set_command_of (name_set_len only) only else call (only ∷ [])) (lt-one (name_set_len only) some)
    ∙ ap (set_command_of (name_set_len only)) same
sets_alone (only ∷ []) (first ∷ []) word is some = cc
sets_alone (only ∷ []) (first ∷ next ∷ front) word is some = cc
sets_alone (first ∷ next ∷ later) front word is some = absurd (omega arith)

pub sets_nothing : (words : List (List Atom)) → name_set_alone_len words ≡ 0
    → command_of_words words ≡ call words
sets_nothing [] none = refl
sets_nothing (only ∷ []) none = ap (command_of_word only) none
sets_nothing (first ∷ next ∷ later) none = refl
