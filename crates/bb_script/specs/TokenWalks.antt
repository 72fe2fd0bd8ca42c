-- The same walks by their first token.
use Rattle.std.specs.Prelude.{◌≡◌, ℕ, ◌+◌, ◌++◌, Bool, true, false, List, [], ◌∷◌, length, map, nat_lt, Option, Some, None, Result, Ok, Err, if◌then◌else◌}
use Rattle.bb_script.specs.declared.error.ScriptError.{ScriptError}
use Rattle.bb_script.specs.declared.error.ScriptError.TheVariants as refusal
use Rattle.bb_script.specs.declared.script.Script.{Script}
use Rattle.bb_script.specs.declared.script.When.{When}
use Rattle.bb_script.specs.declared.script.When.TheVariants.{Always, OnSuccess, OnFailure}
use Rattle.bb_script.specs.declared.token.LoopStart.{LoopStart}
use Rattle.bb_script.specs.declared.token.Nesting.{Nesting}
use Rattle.bb_script.specs.declared.token.ScriptInput.{ScriptInput}
use Rattle.bb_script.specs.declared.token.ScriptToken.{ScriptToken}
use Rattle.bb_script.specs.declared.token_kind.Keyword.{Keyword}
use Rattle.bb_script.specs.declared.token_kind.Keyword.TheVariants.{Plain, If, Then, Elif, Else, Fi, For, In, Do, Done}
use Rattle.bb_script.specs.declared.token_kind.ScriptTokenKind.{ScriptTokenKind}
use Rattle.bb_script.specs.declared.token_kind.ScriptTokenKind.TheVariants.{Word, BadWord, Semi, Line, And, Or, Stray, Cut, End}
use Rattle.bb_script.specs.declared.word.Word.{Word as ReadWord}
use Rattle.bb_script.specs.Tokens.{SpeltToken, tokens_of}
use Rattle.bb_script.specs.Tree.{ScriptTree, CommandTree, choose, repeat, steps_tree, choice_tree, command_of_words}
use Rattle.bb_script.specs.Views.{steps_in}
use Rattle.bb_script.specs.Places.{Place, Begin, AfterOperator, Words, Closed, LoopName, LoopIn, LoopWords, LoopDo, LoopHead, StepsSoFar, BodyOf, TestOf, ThenOf, ElseOf, LoopOf, Enclosing, TokenAhead, close_step, closes_script, body_of_steps, with_command, with_loop_word, deeper, misplaced, refused_at}
use Rattle.bb_script.specs.Walk.{ScriptResult, walk_tokens, walk_on, end_ahead, token_ahead}
use Rattle.bb_script.specs.Words.{Atom, word_atoms}
use Rattle.bb_script.specs.Descent.{Onward, OnwardInside, refusal_inside, refusal_walk, walk_close, walk_closed, walk_due, walk_from, walk_fresh, walk_inside, walk_steps, ahead_seen}

-- an `if` or a `for`, unless too many are open
abbrev pub open_walk : Nesting → ℕ → (Nesting → Onward) → Onward
open_walk nesting at next =
    if nat_lt nesting.level 16 then next (deeper nesting at) else refusal_walk (refusal.TooDeep at)

-- where a command has to begin
abbrev pub command_walk : ℕ → Nesting → TokenAhead → Keyword → Onward
command_walk total nesting t Plain = walk_from total nesting (Words (t.word ∷ [])) t.rest
command_walk total nesting t In = walk_from total nesting (Words (t.word ∷ [])) t.rest
command_walk total nesting t If =
    open_walk nesting t.at
    (λ inner. walk_inside nesting (TestOf []) (walk_fresh total inner t.rest))
command_walk total nesting t For =
    open_walk nesting t.at (λ inner. walk_from total inner (LoopName nesting) t.rest)
command_walk total nesting t keyword = refusal_walk (refusal.Unexpected t.at)

-- after `&&` and `||`
abbrev pub operator_walk : ℕ → Nesting → TokenAhead → ScriptTokenKind → Onward
operator_walk total nesting t (Word keyword) = command_walk total nesting t keyword
operator_walk total nesting t Line = walk_from total nesting AfterOperator t.rest
operator_walk total nesting t kind = refusal_walk (refused_at nesting t.at kind)

-- where a command may begin
abbrev pub word_walk :
    ℕ → Nesting → List (When × CommandTree) → TokenAhead → Keyword → Bool → OnwardInside
word_walk total nesting steps t keyword true =
    walk_close total nesting steps t.at (Word keyword) t.rest
word_walk total nesting steps t keyword false =
    walk_due steps Always (command_walk total nesting t keyword)

abbrev pub begin_walk :
    ℕ → Nesting → List (When × CommandTree) → TokenAhead → ScriptTokenKind → OnwardInside
begin_walk total nesting steps t (Word keyword) =
    word_walk total nesting steps t keyword (closes_script keyword)
begin_walk total nesting steps t Line = walk_steps total nesting steps t.rest
begin_walk total nesting steps t End = walk_close total nesting steps t.at End t.rest
begin_walk total nesting steps t kind = refusal_inside (refused_at nesting t.at kind)

-- after a command, with which the steps are these
abbrev pub closed_walk :
    ℕ → Nesting → List (When × CommandTree) → List SpeltToken → TokenAhead → ScriptTokenKind
    → OnwardInside
closed_walk total nesting steps tokens t Semi = walk_steps total nesting steps t.rest
closed_walk total nesting steps tokens t Line = walk_steps total nesting steps t.rest
closed_walk total nesting steps tokens t And =
    walk_due steps OnSuccess (walk_from total nesting AfterOperator t.rest)
closed_walk total nesting steps tokens t Or =
    walk_due steps OnFailure (walk_from total nesting AfterOperator t.rest)
closed_walk total nesting steps tokens t End = walk_steps total nesting steps tokens
closed_walk total nesting steps tokens t kind = refusal_inside (misplaced nesting t.at kind)

-- in a command's words
abbrev pub words_walk :
    ℕ → Nesting → List (List Atom) → List SpeltToken → TokenAhead → ScriptTokenKind → Onward
words_walk total nesting words tokens t (Word keyword) =
    walk_from total nesting (Words (words ++ t.word ∷ [])) t.rest
words_walk total nesting words tokens t (BadWord e) = refusal_walk e
words_walk total nesting words tokens t kind =
    walk_closed total nesting (command_of_words words) tokens

-- ---- by what closes a script inside of another one

abbrev pub is_then : ScriptTokenKind → Bool
is_then (Word Then) = true
is_then kind = false

abbrev pub is_elif : ScriptTokenKind → Bool
is_elif (Word Elif) = true
is_elif kind = false

abbrev pub is_else : ScriptTokenKind → Bool
is_else (Word Else) = true
is_else kind = false

abbrev pub is_fi : ScriptTokenKind → Bool
is_fi (Word Fi) = true
is_fi kind = false

abbrev pub is_in : ScriptTokenKind → Bool
is_in (Word In) = true
is_in kind = false

abbrev pub is_do : ScriptTokenKind → Bool
is_do (Word Do) = true
is_do kind = false

abbrev pub is_done : ScriptTokenKind → Bool
is_done (Word Done) = true
is_done kind = false

abbrev pub is_line : ScriptTokenKind → Bool
is_line Line = true
is_line kind = false

abbrev pub is_end : ScriptTokenKind → Bool
is_end End = true
is_end kind = false

-- the branches of an `if` with one more
abbrev pub with_branch :
    List (ScriptTree × ScriptTree) → ScriptTree → List (When × CommandTree)
    → List (ScriptTree × ScriptTree)
with_branch branches test steps = branches ++ (test, steps_tree steps) ∷ []

-- after the test of an `if`
abbrev pub test_walk :
    ℕ → Nesting → Nesting → List (ScriptTree × ScriptTree) → List (When × CommandTree) → ℕ
    → List SpeltToken → ScriptTokenKind → Onward
test_walk total nesting inner branches steps at rest kind =
    if is_then kind
    then walk_inside nesting (ThenOf branches (steps_tree steps)) (walk_fresh total inner rest)
    else refusal_walk (misplaced inner at kind)

-- after what comes after the test
abbrev pub then_walk :
    ℕ → Nesting → Nesting → List (ScriptTree × ScriptTree) → ScriptTree
    → List (When × CommandTree) → ℕ → List SpeltToken → ScriptTokenKind → Onward
then_walk total nesting inner branches test steps at rest kind =
    let more = with_branch branches test steps in
    if is_elif kind then walk_inside nesting (TestOf more) (walk_fresh total inner rest) else (
    if is_else kind then walk_inside nesting (ElseOf more) (walk_fresh total inner rest) else (
    if is_fi kind
    then walk_closed total nesting (choose (choice_tree more None)) rest
    else refusal_walk (misplaced inner at kind)))

-- after the `else`
abbrev pub else_walk :
    ℕ → Nesting → Nesting → List (ScriptTree × ScriptTree) → List (When × CommandTree) → ℕ
    → List SpeltToken → ScriptTokenKind → Onward
else_walk total nesting inner branches steps at rest kind =
    if is_fi kind
    then walk_closed total nesting (choose (choice_tree branches (Some (steps_tree steps)))) rest
    else refusal_walk (misplaced inner at kind)

-- after the body of a `for`
abbrev pub loop_walk :
    ℕ → Nesting → Nesting → List ℕ → List (List Atom) → List (When × CommandTree) → ℕ
    → List SpeltToken → ScriptTokenKind → Onward
loop_walk total nesting inner name words steps at rest kind =
    if is_done kind
    then walk_closed total nesting (repeat name words (steps_tree steps)) rest
    else refusal_walk (misplaced inner at kind)

-- ---- before the body of a `for`

abbrev pub loop_name_walk : ℕ → Nesting → Nesting → TokenAhead → Option (List ℕ) → Onward
loop_name_walk total outside inner t None = refusal_walk (misplaced inner t.at t.kind)
loop_name_walk total outside inner t (Some name) =
    walk_from total inner (LoopIn (record { outside = outside; name = name; words = [] })) t.rest

abbrev pub in_walk : ℕ → Nesting → LoopHead → TokenAhead → Onward
in_walk total inner head t =
    if is_in t.kind
    then walk_from total inner (LoopWords head) t.rest
    else refusal_walk (misplaced inner t.at t.kind)

abbrev pub loop_words_walk : ℕ → Nesting → LoopHead → TokenAhead → ScriptTokenKind → Onward
loop_words_walk total inner head t (Word keyword) =
    walk_from total inner (LoopWords (with_loop_word head t.word)) t.rest
loop_words_walk total inner head t Semi = walk_from total inner (LoopDo head) t.rest
loop_words_walk total inner head t Line = walk_from total inner (LoopDo head) t.rest
loop_words_walk total inner head t kind = refusal_walk (refused_at inner t.at kind)

abbrev pub do_walk : ℕ → Nesting → LoopHead → TokenAhead → Onward
do_walk total inner head t =
    if is_do t.kind
    then walk_inside head.outside (LoopOf head.name head.words) (walk_fresh total inner t.rest)
    else (if is_line t.kind
    then walk_from total inner (LoopDo head) t.rest
    else refusal_walk (misplaced inner t.at t.kind))

-- at the text's end or a keyword, with no script around
abbrev pub outermost_walk :
    Nesting → List (When × CommandTree) → ℕ → ScriptTokenKind → ScriptResult
outermost_walk nesting steps at kind =
    if is_end kind then Ok (steps_tree steps) else Err (misplaced nesting at kind)

-- where a command begins with a word that was read
abbrev pub token_walk : ScriptInput → Nesting → Keyword → ScriptToken → ReadWord → Onward
token_walk input nesting keyword t word =
    command_walk input.total nesting (ahead_seen input.total t word) keyword
