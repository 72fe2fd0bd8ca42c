use Rattle.std.proofs.Common.{◌≡◌, ◌++◌, ◌∷◌, drop}
use Rattle.std.specs.List.{flat_map}
use Rattle.bb_interpreter.specs.Echo.{joined_words}
use Rattle.bb_interpreter.proofs.echo.joined_words.Given as goal

abbrev pub invariant-loop-word : goal.invariant-loop-word
invariant-loop-word l =
    l.text ++ flat_map (λ w. 32 ∷ w) (drop l.word-index l.others) ≡ joined_words l.words
