-- Words of a drill by computation.
use Rattle.std.proofs.Common.{◌≡◌, ℕ, List, [], ◌∷◌, Ok, Err, codes, refl}
use Rattle.bb_words.specs.Words.{drill_of, words_from, words_of}

drill_first : words_of (codes "drill" ∷ codes "3" ∷ codes "1" ∷ []) ≡ Ok (drill_of 3 1)
unfolding words_from
drill_first = refl

drill_last : words_of (codes "drill" ∷ codes "4294967295" ∷ codes "1000" ∷ []) ≡ Ok (drill_of 4294967295 1000)
unfolding words_from
drill_last = refl

drill_hexadecimal : words_of (codes "drill" ∷ codes "0x10" ∷ codes "0x10" ∷ []) ≡ Ok (drill_of 16 16)
unfolding words_from
drill_hexadecimal = refl

drill_alone : words_of (codes "drill" ∷ []) ≡ Err 1
unfolding words_from
drill_alone = refl

drill_without_sessions : words_of (codes "drill" ∷ codes "1" ∷ []) ≡ Err 2
unfolding words_from
drill_without_sessions = refl

drill_of_none : words_of (codes "drill" ∷ codes "1" ∷ codes "0" ∷ []) ≡ Err 2
unfolding words_from
drill_of_none = refl

drill_of_too_many : words_of (codes "drill" ∷ codes "1" ∷ codes "1001" ∷ []) ≡ Err 2
unfolding words_from
drill_of_too_many = refl

drill_without_number : words_of (codes "drill" ∷ codes "x" ∷ codes "1" ∷ []) ≡ Err 1
unfolding words_from
drill_without_number = refl

drill_fourth : words_of (codes "drill" ∷ codes "1" ∷ codes "1" ∷ codes "1" ∷ []) ≡ Err 3
unfolding words_from
drill_fourth = refl

drill_number_too_large : words_of (codes "drill" ∷ codes "4294967296" ∷ codes "1" ∷ []) ≡ Err 1
unfolding words_from
drill_number_too_large = refl
