use Rattle.std.proofs.Common.{◌≡◌, None, drop}
use Rattle.bb_words.specs.Options.{none_given}
use Rattle.bb_words.specs.Words.{Options, words_from}
use Rattle.bb_words.proofs.options.read_options.Given as goal

-- the words from here on say what those after the command's name say
abbrev pub invariant-loop-place : goal.invariant-loop-place
invariant-loop-place l = words_from 1 (Options l.row None none_given) (drop 1 l.words) ≡ words_from l.place (Options l.row l.due l.given) (drop l.place l.words)
