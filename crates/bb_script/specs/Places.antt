-- The grammar of scripts as a table: what a token does at each place (IEEE Std 1003.1-2017, Shell
-- Command Language, 2.9 Shell Commands and 2.10 Shell Grammar).
use Rattle.std.specs.Prelude.{ℕ, ◌+◌, ◌&&◌, ◌==◌, Bool, true, false, List, [], ◌∷◌, ◌++◌, length, nat_lt, Option, Some, None, Result, Ok, Err, if◌then◌else◌}
use Rattle.bb_script.specs.declared.error.ScriptError.{ScriptError}
use Rattle.bb_script.specs.declared.error.ScriptError.TheVariants.{Unclosed, Unexpected, TooDeep}
use Rattle.bb_script.specs.declared.script.When.{When}
use Rattle.bb_script.specs.declared.script.When.TheVariants.{Always, OnSuccess, OnFailure}
use Rattle.bb_script.specs.declared.token.Nesting.{Nesting}
use Rattle.bb_script.specs.declared.token_kind.Keyword.{Keyword}
use Rattle.bb_script.specs.declared.token_kind.Keyword.TheVariants.{Plain, If, Then, Elif, Else, Fi, For, In, Do, Done}
use Rattle.bb_script.specs.declared.token_kind.ScriptTokenKind.{ScriptTokenKind}
use Rattle.bb_script.specs.declared.token_kind.ScriptTokenKind.TheVariants.{Word, BadWord, Semi, Line, And, Or, Stray, Cut, End}
use Rattle.bb_script.specs.Pieces.{variable_len}
use Rattle.bb_script.specs.Tokens.{SpeltToken}
use Rattle.bb_script.specs.Tree.{ScriptTree, CommandTree, choose, repeat, steps_tree, choice_tree, command_of_words}
use Rattle.bb_script.specs.Words.{Atom, letters_alone}

-- ---- where the walk is

-- a `for` before its body: how deep it stands itself, its name, and its words so far
pub record LoopHead : Type 0 where
  pub outside : Nesting
  pub name : List ℕ
  pub words : List (List Atom)

pub data Place : Type 0 where
  -- where a command may begin, or a keyword that closes
  Begin : Place
  -- after `&&` and `||`
  AfterOperator : Place
  -- in a command of these words
  Words : List (List Atom) → Place
  -- after `fi` and `done`
  Closed : Place
  -- after `for`, which stands so deep
  LoopName : Nesting → Place
  -- before `in`
  LoopIn : LoopHead → Place
  -- after `in`
  LoopWords : LoopHead → Place
  -- before `do`
  LoopDo : LoopHead → Place

-- the steps of a script so far, and when the next is run
pub record StepsSoFar : Type 0 where
  pub steps : List (When × CommandTree)
  pub due : When

-- what a script inside of another one belongs to: the test of an `if`, with the branches before it;
-- what comes after that test; its `else`; the body of a `for`
pub data BodyOf : Type 0 where
  TestOf : List (ScriptTree × ScriptTree) → BodyOf
  ThenOf : List (ScriptTree × ScriptTree) → ScriptTree → BodyOf
  ElseOf : List (ScriptTree × ScriptTree) → BodyOf
  LoopOf : List ℕ → List (List Atom) → BodyOf

-- a script around another one, with how deep it is
pub record Enclosing : Type 0 where
  pub body : StepsSoFar
  pub nesting : Nesting
  pub inside : BodyOf

pub record WalkPoint : Type 0 where
  pub place : Place
  pub body : StepsSoFar
  pub nesting : Nesting

-- what a token does
pub data WalkStep : Type 0 where
  Goes : WalkPoint → List Enclosing → WalkStep
  Ends : ScriptTree → WalkStep
  Refuses : ScriptError → WalkStep

-- a token, with those after it
pub record TokenAhead : Type 0 where
  pub kind : ScriptTokenKind
  pub word : List Atom
  pub at : ℕ
  pub rest : List SpeltToken

-- ---- one token

abbrev pub body_of_steps : List (When × CommandTree) → StepsSoFar
body_of_steps steps = record { steps = steps; due = Always }

abbrev pub with_command : StepsSoFar → CommandTree → StepsSoFar
with_command body command = record body { steps = body.steps ++ (body.due, command) ∷ [] }

abbrev pub body_due : StepsSoFar → When → StepsSoFar
body_due body due = record body { due = due }

abbrev pub goes_to : Place → StepsSoFar → Nesting → List Enclosing → WalkStep
goes_to place body nesting around =
    Goes (record { place = place; body = body; nesting = nesting }) around

-- a script begins inside of this one
abbrev pub enters : Nesting → Enclosing → List Enclosing → WalkStep
enters nesting outer around = goes_to Begin (body_of_steps []) nesting (outer ∷ around)

-- the script ends, and with it the command that it belongs to
abbrev pub leaves : Enclosing → List Enclosing → CommandTree → WalkStep
leaves outer around command = goes_to Closed (with_command outer.body command) outer.nesting around

-- the text ends: inside of something open its offset is shown
abbrev pub unclosed : ℕ → Option ℕ → ScriptError
unclosed at None = Unexpected at
unclosed at (Some from) = Unclosed from

-- a token in a wrong place
abbrev pub misplaced : Nesting → ℕ → ScriptTokenKind → ScriptError
misplaced nesting at End = unclosed at nesting.opened
misplaced nesting at Cut = unclosed at nesting.opened
misplaced nesting at (Word keyword) = Unexpected at
misplaced nesting at (BadWord e) = Unexpected at
misplaced nesting at Semi = Unexpected at
misplaced nesting at Line = Unexpected at
misplaced nesting at And = Unexpected at
misplaced nesting at Or = Unexpected at
misplaced nesting at Stray = Unexpected at

-- the same where a word may come: one that is malformed is refused for that
abbrev pub refused_at : Nesting → ℕ → ScriptTokenKind → ScriptError
refused_at nesting at (BadWord e) = e
refused_at nesting at kind = misplaced nesting at kind

abbrev pub deeper : Nesting → ℕ → Nesting
deeper nesting at = record { level = nesting.level + 1; opened = Some at }

-- an `if` or `for` at an offset, unless too many are open
abbrev pub opens : Nesting → ℕ → (Nesting → WalkStep) → WalkStep
opens nesting at next =
    if nat_lt nesting.level 16 then next (deeper nesting at) else Refuses (TooDeep at)

-- where a command has to begin, by the keyword that a word spells
abbrev pub command_step : Nesting → StepsSoFar → List Enclosing → TokenAhead → Keyword → WalkStep
command_step nesting body around t Plain = goes_to (Words (t.word ∷ [])) body nesting around
command_step nesting body around t In = goes_to (Words (t.word ∷ [])) body nesting around
command_step nesting body around t If =
    opens nesting t.at
    (λ inner. enters inner (record { body = body; nesting = nesting; inside = TestOf [] }) around)
command_step nesting body around t For =
    opens nesting t.at (λ inner. goes_to (LoopName nesting) body inner around)
command_step nesting body around t keyword = Refuses (Unexpected t.at)

-- by a keyword that closes the script, or by the text's end
abbrev pub inside_step :
    Nesting → Enclosing → List Enclosing → ScriptTree → ℕ → BodyOf → ScriptTokenKind → WalkStep
inside_step nesting outer around steps at (TestOf branches) (Word Then) =
    enters nesting (record outer { inside = ThenOf branches steps }) around
inside_step nesting outer around steps at (ThenOf branches test) (Word Elif) =
    enters nesting (record outer { inside = TestOf (branches ++ (test, steps) ∷ []) }) around
inside_step nesting outer around steps at (ThenOf branches test) (Word Else) =
    enters nesting (record outer { inside = ElseOf (branches ++ (test, steps) ∷ []) }) around
inside_step nesting outer around steps at (ThenOf branches test) (Word Fi) =
    leaves outer around (choose (choice_tree (branches ++ (test, steps) ∷ []) None))
inside_step nesting outer around steps at (ElseOf branches) (Word Fi) =
    leaves outer around (choose (choice_tree branches (Some steps)))
inside_step nesting outer around steps at (LoopOf name words) (Word Done) =
    leaves outer around (repeat name words steps)
inside_step nesting outer around steps at inside kind = Refuses (misplaced nesting at kind)

abbrev pub close_step :
    Nesting → StepsSoFar → List Enclosing → ℕ → ScriptTokenKind → WalkStep
close_step nesting body [] at End = Ends (steps_tree body.steps)
close_step nesting body [] at kind = Refuses (misplaced nesting at kind)
close_step nesting body (outer ∷ around) at kind =
    inside_step nesting outer around (steps_tree body.steps) at outer.inside kind

-- the keywords that close a script inside of another one
abbrev pub closes_script : Keyword → Bool
closes_script Then = true
closes_script Elif = true
closes_script Else = true
closes_script Fi = true
closes_script Done = true
closes_script keyword = false

-- where a command may begin, by whether the word's keyword closes the script
abbrev pub word_begins :
    Nesting → StepsSoFar → List Enclosing → TokenAhead → Keyword → Bool → WalkStep
word_begins nesting body around t keyword true = close_step nesting body around t.at (Word keyword)
word_begins nesting body around t keyword false = command_step nesting body around t keyword

abbrev pub begin_step :
    Nesting → StepsSoFar → List Enclosing → TokenAhead → ScriptTokenKind → WalkStep
begin_step nesting body around t (Word keyword) =
    word_begins nesting body around t keyword (closes_script keyword)
begin_step nesting body around t Line = goes_to Begin body nesting around
begin_step nesting body around t End = close_step nesting body around t.at End
begin_step nesting body around t kind = Refuses (refused_at nesting t.at kind)

-- after `&&` and `||`
abbrev pub operator_step :
    Nesting → StepsSoFar → List Enclosing → TokenAhead → ScriptTokenKind → WalkStep
operator_step nesting body around t (Word keyword) = command_step nesting body around t keyword
operator_step nesting body around t Line = goes_to AfterOperator body nesting around
operator_step nesting body around t kind = Refuses (refused_at nesting t.at kind)

-- after a command
abbrev pub closed_step :
    Nesting → StepsSoFar → List Enclosing → ℕ → ScriptTokenKind → WalkStep
closed_step nesting body around at Semi = goes_to Begin (body_due body Always) nesting around
closed_step nesting body around at Line = goes_to Begin (body_due body Always) nesting around
closed_step nesting body around at And =
    goes_to AfterOperator (body_due body OnSuccess) nesting around
closed_step nesting body around at Or =
    goes_to AfterOperator (body_due body OnFailure) nesting around
closed_step nesting body around at End = close_step nesting body around at End
closed_step nesting body around at kind = Refuses (misplaced nesting at kind)

-- in a command's words
abbrev pub words_step :
    List (List Atom) → Nesting → StepsSoFar → List Enclosing → TokenAhead → ScriptTokenKind
    → WalkStep
words_step words nesting body around t (Word keyword) =
    goes_to (Words (words ++ t.word ∷ [])) body nesting around
words_step words nesting body around t (BadWord e) = Refuses e
words_step words nesting body around t kind =
    closed_step nesting (with_command body (command_of_words words)) around t.at kind

-- one letter at least, and no other characters than those of names
abbrev pub is_variable_name : List ℕ → Bool
is_variable_name text =
    nat_lt 0 (variable_len text) && (variable_len text == length text)

abbrev pub name_of_text : Option (List ℕ) → Option (List ℕ)
name_of_text None = None
name_of_text (Some text) = if is_variable_name text then Some text else None

-- the name that a word is
abbrev pub loop_name : List Atom → ScriptTokenKind → Option (List ℕ)
loop_name word (Word keyword) = name_of_text (letters_alone word)
loop_name word kind = None

abbrev pub loop_name_step :
    Nesting → Nesting → StepsSoFar → List Enclosing → TokenAhead → Option (List ℕ) → WalkStep
loop_name_step outside nesting body around t None = Refuses (misplaced nesting t.at t.kind)
loop_name_step outside nesting body around t (Some name) =
    goes_to (LoopIn (record { outside = outside; name = name; words = [] })) body nesting around

abbrev pub loop_in_step :
    LoopHead → Nesting → StepsSoFar → List Enclosing → TokenAhead → ScriptTokenKind → WalkStep
loop_in_step head nesting body around t (Word In) = goes_to (LoopWords head) body nesting around
loop_in_step head nesting body around t kind = Refuses (misplaced nesting t.at kind)

abbrev pub with_loop_word : LoopHead → List Atom → LoopHead
with_loop_word head word = record head { words = head.words ++ word ∷ [] }

abbrev pub loop_words_step :
    LoopHead → Nesting → StepsSoFar → List Enclosing → TokenAhead → ScriptTokenKind → WalkStep
loop_words_step head nesting body around t (Word keyword) =
    goes_to (LoopWords (with_loop_word head t.word)) body nesting around
loop_words_step head nesting body around t Semi = goes_to (LoopDo head) body nesting around
loop_words_step head nesting body around t Line = goes_to (LoopDo head) body nesting around
loop_words_step head nesting body around t kind = Refuses (refused_at nesting t.at kind)

abbrev pub loop_do_step :
    LoopHead → Nesting → StepsSoFar → List Enclosing → TokenAhead → ScriptTokenKind → WalkStep
loop_do_step head nesting body around t Line = goes_to (LoopDo head) body nesting around
loop_do_step head nesting body around t (Word Do) =
    enters nesting
    (record { body = body; nesting = head.outside; inside = LoopOf head.name head.words }) around
loop_do_step head nesting body around t kind = Refuses (misplaced nesting t.at kind)

-- what a token does at a place
abbrev pub step_at_place :
    Place → Nesting → StepsSoFar → List Enclosing → TokenAhead → WalkStep
step_at_place Begin nesting body around t = begin_step nesting body around t t.kind
step_at_place AfterOperator nesting body around t = operator_step nesting body around t t.kind
step_at_place (Words words) nesting body around t = words_step words nesting body around t t.kind
step_at_place Closed nesting body around t = closed_step nesting body around t.at t.kind
step_at_place (LoopName outside) nesting body around t =
    loop_name_step outside nesting body around t (loop_name t.word t.kind)
step_at_place (LoopIn head) nesting body around t = loop_in_step head nesting body around t t.kind
step_at_place (LoopWords head) nesting body around t =
    loop_words_step head nesting body around t t.kind
step_at_place (LoopDo head) nesting body around t = loop_do_step head nesting body around t t.kind
