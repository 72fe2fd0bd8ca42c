-- The walk in the pieces in which a descent goes through it: from a place on, left open to the
-- script that is read and to those around it.
use Rattle.std.specs.Prelude.{◌≡◌, ℕ, ◌+◌, ◌++◌, Bool, true, false, List, [], ◌∷◌, length, map, nat_lt, Option, Some, None, Result, Ok, Err, if◌then◌else◌}
use Rattle.bb_script.specs.declared.error.ScriptError.{ScriptError}
use Rattle.bb_script.specs.declared.error.ScriptError.TheVariants as refusal
use Rattle.bb_script.specs.declared.script.Script.{Script}
use Rattle.bb_script.specs.declared.script.When.{When}
use Rattle.bb_script.specs.declared.script.When.TheVariants.{Always, OnSuccess, OnFailure}
use Rattle.bb_script.specs.declared.token.LoopStart.{LoopStart}
use Rattle.bb_script.specs.declared.token.Nesting.{Nesting}
use Rattle.bb_script.specs.declared.token.ScriptInput.{ScriptInput}
use Rattle.bb_script.specs.declared.token.ScriptToken.{ScriptToken}
use Rattle.bb_script.specs.declared.token_kind.Keyword.{Keyword}
use Rattle.bb_script.specs.declared.token_kind.Keyword.TheVariants.{Plain, If, Then, Elif, Else, Fi, For, In, Do, Done}
use Rattle.bb_script.specs.declared.token_kind.ScriptTokenKind.{ScriptTokenKind}
use Rattle.bb_script.specs.declared.token_kind.ScriptTokenKind.TheVariants.{Word, BadWord, Semi, Line, And, Or, Stray, Cut, End}
use Rattle.bb_script.specs.declared.word.Word.{Word as ReadWord}
use Rattle.bb_script.specs.Tokens.{SpeltToken, tokens_of}
use Rattle.bb_script.specs.Tree.{ScriptTree, CommandTree, choose, repeat, steps_tree, choice_tree, command_of_words}
use Rattle.bb_script.specs.Views.{steps_in}
use Rattle.bb_script.specs.Places.{Place, Begin, AfterOperator, Words, Closed, LoopName, LoopIn, LoopWords, LoopDo, LoopHead, StepsSoFar, BodyOf, TestOf, ThenOf, ElseOf, LoopOf, Enclosing, TokenAhead, close_step, closes_script, body_of_steps, with_command, with_loop_word, deeper, misplaced, refused_at}
use Rattle.bb_script.specs.Walk.{ScriptResult, walk_tokens, walk_on, end_ahead, token_ahead}
use Rattle.bb_script.specs.Words.{Atom, word_atoms}

-- ---- a token that was read

abbrev pub ahead_seen : ℕ → ScriptToken → ReadWord → TokenAhead
ahead_seen total t word = record {
  kind = t.kind;
  word = word_atoms word;
  at = t.at;
  rest = tokens_of total t.rest.now;
}

-- the first token, or the text's end
unfoldable pub ahead_in : ℕ → List SpeltToken → TokenAhead
ahead_in total [] = end_ahead total
ahead_in total (t ∷ later) = token_ahead t later

-- how many tokens a text has
abbrev pub tokens_left : ScriptInput → List ℕ → ℕ
tokens_left input text = length (tokens_of input.total text)

-- ---- walks that are left open

abbrev pub Onward : Type 0
Onward = StepsSoFar → List Enclosing → ScriptResult

unfoldable pub walk_from : ℕ → Nesting → Place → List SpeltToken → Onward
walk_from total nesting place tokens body around =
    walk_tokens total tokens (record { place = place; body = body; nesting = nesting }) around

unfoldable pub refusal_walk : ScriptError → Onward
refusal_walk e body around = Err e

-- after a command
unfoldable pub walk_closed : ℕ → Nesting → CommandTree → List SpeltToken → Onward
walk_closed total nesting command tokens body around =
    walk_from total nesting Closed tokens (with_command body command) around

-- a walk in a script inside of another one is left open to those around it alone
abbrev pub OnwardInside : Type 0
OnwardInside = List Enclosing → ScriptResult

unfoldable pub walk_inside : Nesting → BodyOf → OnwardInside → Onward
walk_inside nesting inside walk body around =
    walk (record { body = body; nesting = nesting; inside = inside } ∷ around)

-- from the beginning of such a script, and where these steps of it were read
unfoldable pub walk_fresh : ℕ → Nesting → List SpeltToken → OnwardInside
walk_fresh total nesting tokens around =
    walk_from total nesting Begin tokens (body_of_steps []) around

unfoldable pub walk_steps :
    ℕ → Nesting → List (When × CommandTree) → List SpeltToken → OnwardInside
walk_steps total nesting steps tokens around =
    walk_from total nesting Begin tokens (body_of_steps steps) around

-- where its end or a keyword that closes it was found
unfoldable pub walk_close :
    ℕ → Nesting → List (When × CommandTree) → ℕ → ScriptTokenKind → List SpeltToken → OnwardInside
walk_close total nesting steps at kind rest around =
    walk_on (close_step nesting (body_of_steps steps) around at kind)
    (λ point around'. walk_tokens total rest point around')

unfoldable pub refusal_inside : ScriptError → OnwardInside
refusal_inside e around = Err e

-- a walk with these steps, of which the next is due so
unfoldable pub walk_due : List (When × CommandTree) → When → Onward → OnwardInside
walk_due steps due walk around = walk (record { steps = steps; due = due }) around

-- a walk with no script around
unfoldable pub walk_outermost : OnwardInside → ScriptResult
walk_outermost walk = walk []

-- ---- with what a reader is given

-- what a refusal says something of, which is nothing where memory was refused
abbrev pub unless_memory : {A : Type 0} → ScriptError → A → Option A
unless_memory refusal.NoMemory walk = None
unless_memory _ walk = Some walk

-- the refusal is that of a walk, unless memory was refused
abbrev pub RefusesWalk : Onward → ScriptError → Type 0
RefusesWalk walk e = unless_memory e walk ≡ unless_memory e (refusal_walk e)

abbrev pub RefusesInside : OnwardInside → ScriptError → Type 0
RefusesInside walk e = unless_memory e walk ≡ unless_memory e (refusal_inside e)

abbrev pub RefusesScript : ScriptResult → ScriptError → Type 0
RefusesScript result e = unless_memory e result ≡ unless_memory e (Err e)

abbrev pub text_walk : ScriptInput → Nesting → Place → List ℕ → Onward
text_walk input nesting place text =
    walk_from input.total nesting place (tokens_of input.total text)

abbrev pub fresh_walk : ScriptInput → Nesting → List ℕ → OnwardInside
fresh_walk input nesting text = walk_fresh input.total nesting (tokens_of input.total text)

abbrev pub steps_walk : ScriptInput → Nesting → List (When × CommandTree) → List ℕ → OnwardInside
steps_walk input nesting steps text =
    walk_steps input.total nesting steps (tokens_of input.total text)

abbrev pub close_walk : ScriptInput → Nesting → Script → ScriptToken → OnwardInside
close_walk input nesting script t =
    walk_close input.total nesting (steps_in script) t.at t.kind (tokens_of input.total t.rest.now)

abbrev pub walk_after : ScriptInput → Nesting → CommandTree → List ℕ → Onward
walk_after input nesting command text =
    walk_closed input.total nesting command (tokens_of input.total text)

-- the body of a `for` that was read so far
abbrev pub loop_body_walk : ScriptInput → Nesting → LoopStart → List ℕ → Onward
loop_body_walk input inner start text =
    walk_inside start.outside (LoopOf start.name.items (map word_atoms start.words.items))
    (fresh_walk input inner text)

-- a `for` before its body, as it was read
abbrev pub head_seen : LoopStart → LoopHead
head_seen start = record {
  outside = start.outside;
  name = start.name.items;
  words = map word_atoms start.words.items;
}
