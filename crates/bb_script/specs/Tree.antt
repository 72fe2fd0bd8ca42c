-- A script as a value.
use Rattle.std.specs.Prelude.{ℕ, ◌+◌, ◌==◌, Bool, List, [], ◌∷◌, length, take, drop, nat_lt, Option, Some, None, if◌then◌else◌}
use Rattle.bb_script.specs.declared.script.When.{When}
use Rattle.bb_script.specs.Words.{Atom, plain_front}
use Rattle.bb_script.specs.Pieces.{begins_with, variable_len}

mutual
  -- steps, one after another, and when each is run
  pub data ScriptTree : Type 0 where
    no_steps : ScriptTree
    step : When → CommandTree → ScriptTree → ScriptTree

  pub data CommandTree : Type 0 where
    -- a command and its words
    call : List (List Atom) → CommandTree
    -- the variable of this name gets a value
    set : List ℕ → List Atom → CommandTree
    choose : ChoiceTree → CommandTree
    -- the body is run once for each field of the words, which is the value of the variable
    repeat : List ℕ → List (List Atom) → ScriptTree → CommandTree

  -- what an `if` tries, one after another, and its `else`, where it has one
  pub data ChoiceTree : Type 0 where
    no_else : ChoiceTree
    otherwise : ScriptTree → ChoiceTree
    branch : ScriptTree → ScriptTree → ChoiceTree → ChoiceTree

abbrev pub steps_tree : List (When × CommandTree) → ScriptTree
steps_tree [] = no_steps
steps_tree (s ∷ later) = step s.0 s.1 (steps_tree later)

abbrev pub choice_tree : List (ScriptTree × ScriptTree) → Option ScriptTree → ChoiceTree
choice_tree [] None = no_else
choice_tree [] (Some steps) = otherwise steps
choice_tree (b ∷ later) other = branch b.0 b.1 (choice_tree later other)

-- how long the name is that a word sets, with `=` after it; 0 where it sets none
abbrev pub name_set_len : List Atom → ℕ
name_set_len word =
    let n = variable_len (plain_front word) in
    if begins_with 61 (drop n (plain_front word)) then n else 0

-- the name of this length is set to what follows it and the `=`
abbrev pub set_command_of : ℕ → List Atom → CommandTree
set_command_of n word = set (take n (plain_front word)) (drop (n + 1) word)

-- a command of these words. One word may set a variable (IEEE Std 1003.1-2017, Shell Command
-- Language, 2.9.1 Simple Commands)
abbrev pub command_of_word : List Atom → ℕ → CommandTree
command_of_word word n = if nat_lt 0 n then set_command_of n word else call (word ∷ [])

abbrev pub command_of_words : List (List Atom) → CommandTree
command_of_words [] = call []
command_of_words (word ∷ []) = command_of_word word (name_set_len word)
command_of_words (word ∷ next ∷ later) = call (word ∷ next ∷ later)

-- how long the name is that these words set, which only one alone does
abbrev pub name_set_alone_len : List (List Atom) → ℕ
name_set_alone_len [] = 0
name_set_alone_len (word ∷ []) = name_set_len word
name_set_alone_len (word ∷ next ∷ later) = 0
