-- What `echo` sends. It knows `-n` as its first word, and no escapes: that is this project's
-- choice, where POSIX leaves both open (IEEE Std 1003.1-2017, `echo`).
use Rattle.std.specs.Prelude.{ℕ, List, [], ◌∷◌, ◌++◌, codes, if◌then◌else◌}
use Rattle.std.specs.List.{flat_map}
use Rattle.std.specs.Str.{bytes_eq}

-- words with a blank between two of them
abbrev pub joined_words : List (List ℕ) → List ℕ
joined_words [] = []
joined_words (word ∷ later) = word ++ flat_map (λ w. 32 ∷ w) later

abbrev pub echo_text : List (List ℕ) → List ℕ
echo_text [] = 10 ∷ []
echo_text (word ∷ later) =
    if bytes_eq word (codes "-n") then joined_words later else joined_words (word ∷ later) ++ 10 ∷ []
