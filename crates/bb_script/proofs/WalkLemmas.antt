-- The walk by its first token.
use Rattle.std.proofs.Common.{◌≡◌, ℕ, ◌+◌, Bool, true, false, List, [], ◌∷◌, ◌++◌, Option, Some, None, nat_lt, if◌then◌else◌, Ok, Err, ap, refl, sym, ◌∙◌, length}
use Rattle.std.specs.Option.{option_map}
use Rattle.bb_script.specs.declared.error.ScriptError.{ScriptError}
use Rattle.bb_script.specs.declared.error.ScriptError.TheVariants as refusal
use Rattle.bb_script.specs.declared.script.Script.{Script}
use Rattle.bb_script.specs.declared.script.Otherwise.TheFolds.{fold_out-Script}
use Rattle.bb_script.specs.declared.script.When.{When}
use Rattle.bb_script.specs.declared.token.LoopStart.{LoopStart}
use Rattle.bb_script.specs.declared.token.Nesting.{Nesting}
use Rattle.bb_script.specs.declared.token.ScriptInput.{ScriptInput}
use Rattle.bb_script.specs.declared.token_kind.Keyword.{Keyword}
use Rattle.bb_script.specs.declared.token_kind.Keyword.TheVariants.{Plain, If, Then, Elif, Else, Fi, For, In, Do, Done}
use Rattle.bb_script.specs.declared.token_kind.ScriptTokenKind.{ScriptTokenKind}
use Rattle.bb_script.specs.declared.token_kind.ScriptTokenKind.TheVariants.{Word, BadWord, Semi, Line, And, Or, Stray, Cut, End}
use Rattle.bb_script.specs.Descent.{Onward, OnwardInside, ahead_in, refusal_inside, refusal_walk, unless_memory, walk_close, walk_closed, walk_due, walk_from, walk_fresh, walk_inside, walk_outermost, walk_steps}
use Rattle.bb_script.specs.Places.{AfterOperator, Begin, BodyOf, Closed, ElseOf, Enclosing, Goes, LoopDo, LoopHead, LoopIn, LoopName, LoopOf, LoopWords, Refuses, StepsSoFar, TestOf, ThenOf, TokenAhead, WalkPoint, WalkStep, Words, begin_step, body_of_steps, close_step, closed_step, closes_script, command_step, deeper, enters, goes_to, inside_step, loop_do_step, loop_in_step, loop_name, loop_name_step, loop_words_step, misplaced, opens, operator_step, step_at_place, refused_at, with_command, word_begins, words_step}
use Rattle.bb_script.specs.Script.{script_in}
use Rattle.bb_script.specs.TokenWalks.{begin_walk, closed_walk, command_walk, do_walk, else_walk, in_walk, is_done, is_elif, is_else, is_end, is_fi, is_then, loop_walk, loop_words_walk, loop_name_walk, open_walk, operator_walk, outermost_walk, test_walk, then_walk, with_branch, word_walk, words_walk}
use Rattle.bb_script.specs.Tokens.{SpeltToken, tokens_of}
use Rattle.bb_script.specs.Tree.{ScriptTree, CommandTree, ChoiceTree, command_of_words, steps_tree}
use Rattle.bb_script.specs.Views.{script_tree, seen_branch, seen_choice, seen_command, seen_loop, seen_otherwise, seen_script, seen_step, steps_in}
use Rattle.bb_script.specs.Walk.{ScriptResult, end_ahead, outermost, token_ahead, walk_on, walk_start, walk_tokens}
use Rattle.bb_script.specs.Words.{Atom}

-- where a walk goes on after a token
abbrev on : ℕ → List SpeltToken → WalkPoint → List Enclosing → ScriptResult
on total later = λ point around. walk_tokens total later point around

-- ---- a command begins

opens_by : (total : ℕ) (nesting : Nesting) (at : ℕ) (later : List SpeltToken) (body : StepsSoFar)
    (around : List Enclosing) (next : Nesting → WalkStep) (walk : Nesting → Onward)
    → walk_on (next (deeper nesting at)) (on total later) ≡ walk (deeper nesting at) body around
    → (b : Bool)
    → walk_on (if b then next (deeper nesting at) else Refuses (refusal.TooDeep at)) (on total later)
    ≡ (if b then walk (deeper nesting at) else refusal_walk (refusal.TooDeep at)) body around
unfolding refusal_walk
opens_by total nesting at later body around next walk same true = same
opens_by total nesting at later body around next walk same false = refl

command_by : (total : ℕ) (nesting : Nesting) (t : TokenAhead) (body : StepsSoFar)
    (around : List Enclosing) (keyword : Keyword)
    → walk_on (command_step nesting body around t keyword) (on total t.rest)
    ≡ command_walk total nesting t keyword body around
unfolding walk_from refusal_walk walk_inside walk_fresh
command_by total nesting t body around Plain = refl
command_by total nesting t body around In = refl
command_by total nesting t body around If =
    opens_by total nesting t.at t.rest body around
    (λ inner. enters inner (record { body = body; nesting = nesting; inside = TestOf [] }) around)
    (λ inner. walk_inside nesting (TestOf []) (walk_fresh total inner t.rest)) refl
    (nat_lt nesting.level 16)
command_by total nesting t body around For =
    opens_by total nesting t.at t.rest body around
    (λ inner. goes_to (LoopName nesting) body inner around)
    (λ inner. walk_from total inner (LoopName nesting) t.rest) refl (nat_lt nesting.level 16)
command_by total nesting t body around Then = refl
command_by total nesting t body around Elif = refl
command_by total nesting t body around Else = refl
command_by total nesting t body around Fi = refl
command_by total nesting t body around Do = refl
command_by total nesting t body around Done = refl

-- ---- after `&&` and `||`

operator_by : (total : ℕ) (nesting : Nesting) (t : TokenAhead) (body : StepsSoFar)
    (around : List Enclosing) (kind : ScriptTokenKind)
    → walk_on (operator_step nesting body around t kind) (on total t.rest)
    ≡ operator_walk total nesting t kind body around
unfolding walk_from refusal_walk
operator_by total nesting t body around (Word keyword) =
    command_by total nesting t body around keyword
operator_by total nesting t body around (BadWord e) = refl
operator_by total nesting t body around Semi = refl
operator_by total nesting t body around Line = refl
operator_by total nesting t body around And = refl
operator_by total nesting t body around Or = refl
operator_by total nesting t body around Stray = refl
operator_by total nesting t body around Cut = refl
operator_by total nesting t body around End = refl

pub operator_next : (total : ℕ) (nesting : Nesting) (tokens : List SpeltToken)
    → walk_from total nesting AfterOperator tokens
    ≡ operator_walk total nesting (ahead_in total tokens) (ahead_in total tokens).kind
unfolding walk_from walk_tokens ahead_in refusal_walk
operator_next total nesting [] = refl
operator_next total nesting (t ∷ later) = λ i. λ body around.
    operator_by total nesting (token_ahead t later) body around t.kind i

-- ---- in the words of a command

words_by : (total : ℕ) (nesting : Nesting) (words : List (List Atom)) (t : SpeltToken)
    (later : List SpeltToken) (body : StepsSoFar) (around : List Enclosing)
    (kind : ScriptTokenKind) → t.kind ≡ kind
    → walk_on (words_step words nesting body around (token_ahead t later) kind) (on total later)
    ≡ words_walk total nesting words (t ∷ later) (token_ahead t later) kind body around
unfolding walk_from walk_closed walk_tokens refusal_walk
words_by total nesting words t later body around (Word keyword) is = refl
words_by total nesting words t later body around (BadWord e) is = refl
words_by total nesting words t later body around Semi is = ap (λ k. walk_on (closed_step nesting (with_command body (command_of_words words)) around t.at k) (on total later)) (sym is)
words_by total nesting words t later body around Line is = ap (λ k. walk_on (closed_step nesting (with_command body (command_of_words words)) around t.at k) (on total later)) (sym is)
words_by total nesting words t later body around And is = ap (λ k. walk_on (closed_step nesting (with_command body (command_of_words words)) around t.at k) (on total later)) (sym is)
words_by total nesting words t later body around Or is = ap (λ k. walk_on (closed_step nesting (with_command body (command_of_words words)) around t.at k) (on total later)) (sym is)
words_by total nesting words t later body around Stray is = ap (λ k. walk_on (closed_step nesting (with_command body (command_of_words words)) around t.at k) (on total later)) (sym is)
words_by total nesting words t later body around Cut is = ap (λ k. walk_on (closed_step nesting (with_command body (command_of_words words)) around t.at k) (on total later)) (sym is)
words_by total nesting words t later body around End is = ap (λ k. walk_on (closed_step nesting (with_command body (command_of_words words)) around t.at k) (on total later)) (sym is)

pub words_next : (total : ℕ) (nesting : Nesting) (words : List (List Atom))
    (tokens : List SpeltToken)
    → walk_from total nesting (Words words) tokens
    ≡ words_walk total nesting words tokens (ahead_in total tokens) (ahead_in total tokens).kind
unfolding walk_from walk_closed walk_tokens ahead_in
words_next total nesting words [] = refl
words_next total nesting words (t ∷ later) = λ i. λ body around.
    words_by total nesting words t later body around t.kind refl i

-- ---- where a command may begin

begins_by : (total : ℕ) (nesting : Nesting) (steps : List (When × CommandTree)) (t : TokenAhead)
    (around : List Enclosing) (keyword : Keyword) (b : Bool)
    → walk_on (word_begins nesting (body_of_steps steps) around t keyword b) (on total t.rest)
    ≡ word_walk total nesting steps t keyword b around
unfolding walk_close walk_due
begins_by total nesting steps t around keyword true = refl
begins_by total nesting steps t around keyword false =
    command_by total nesting t (body_of_steps steps) around keyword

begin_by : (total : ℕ) (nesting : Nesting) (steps : List (When × CommandTree)) (t : TokenAhead)
    (around : List Enclosing) (kind : ScriptTokenKind)
    → walk_on (begin_step nesting (body_of_steps steps) around t kind) (on total t.rest)
    ≡ begin_walk total nesting steps t kind around
unfolding walk_from walk_steps walk_close refusal_inside
begin_by total nesting steps t around (Word keyword) =
    begins_by total nesting steps t around keyword (closes_script keyword)
begin_by total nesting steps t around (BadWord e) = refl
begin_by total nesting steps t around Semi = refl
begin_by total nesting steps t around Line = refl
begin_by total nesting steps t around And = refl
begin_by total nesting steps t around Or = refl
begin_by total nesting steps t around Stray = refl
begin_by total nesting steps t around Cut = refl
begin_by total nesting steps t around End = refl

-- at the text's end no token comes after
end_by : (total : ℕ) (nesting : Nesting) (steps : List (When × CommandTree))
    (around : List Enclosing) (one two : WalkPoint → List Enclosing → ScriptResult)
    → walk_on (close_step nesting (body_of_steps steps) around total End) one
    ≡ walk_on (close_step nesting (body_of_steps steps) around total End) two
end_by total nesting steps [] one two = refl
end_by total nesting steps (outer ∷ around) one two = by outer.inside
  where
    by : (inside : BodyOf)
        → walk_on (inside_step nesting outer around (steps_tree steps) total inside End) one
        ≡ walk_on (inside_step nesting outer around (steps_tree steps) total inside End) two
    by (TestOf branches) = refl
    by (ThenOf branches test) = refl
    by (ElseOf branches) = refl
    by (LoopOf name words) = refl

pub steps_next : (total : ℕ) (nesting : Nesting) (steps : List (When × CommandTree))
    (tokens : List SpeltToken)
    → walk_steps total nesting steps tokens
    ≡ begin_walk total nesting steps (ahead_in total tokens) (ahead_in total tokens).kind
unfolding walk_steps walk_from walk_tokens walk_close ahead_in
steps_next total nesting steps [] = λ i. λ around.
    end_by total nesting steps around (λ point inner. Err (refusal.Unexpected total)) (on total []) i
steps_next total nesting steps (t ∷ later) = λ i. λ around.
    begin_by total nesting steps (token_ahead t later) around t.kind i

pub fresh_steps : (total : ℕ) (nesting : Nesting) (tokens : List SpeltToken)
    → walk_fresh total nesting tokens ≡ walk_steps total nesting [] tokens
unfolding walk_fresh walk_steps
fresh_steps total nesting tokens = refl

-- ---- after a command

due_same : (nesting : Nesting) (steps : List (When × CommandTree)) (due : When)
    (around : List Enclosing) (at : ℕ)
    → close_step nesting (record { steps = steps; due = due }) around at End
    ≡ close_step nesting (body_of_steps steps) around at End
due_same nesting steps due [] at = refl
due_same nesting steps due (outer ∷ around) at = refl

closed_by : (total : ℕ) (nesting : Nesting) (steps : List (When × CommandTree)) (due : When)
    (t : SpeltToken) (later : List SpeltToken) (around : List Enclosing)
    (kind : ScriptTokenKind) → t.kind ≡ kind
    → walk_on (closed_step nesting (record { steps = steps; due = due }) around t.at kind) (on total later)
    ≡ closed_walk total nesting steps (t ∷ later) (token_ahead t later) kind around
unfolding walk_from walk_due walk_steps refusal_inside walk_tokens
closed_by total nesting steps due t later around Semi is = refl
closed_by total nesting steps due t later around Line is = refl
closed_by total nesting steps due t later around And is = refl
closed_by total nesting steps due t later around Or is = refl
closed_by total nesting steps due t later around (Word keyword) is = refl
closed_by total nesting steps due t later around (BadWord e) is = refl
closed_by total nesting steps due t later around Stray is = refl
closed_by total nesting steps due t later around Cut is = refl
closed_by total nesting steps due t later around End is =
    ap (λ s. walk_on s (on total later)) (due_same nesting steps due around t.at)
    ∙ ap (λ k. walk_on (begin_step nesting (body_of_steps steps) around (token_ahead t later) k) (on total later)) (sym is)

pub closed_next : (total : ℕ) (nesting : Nesting) (steps : List (When × CommandTree)) (due : When)
    (command : CommandTree) (tokens : List SpeltToken)
    → walk_due steps due (walk_closed total nesting command tokens)
    ≡ closed_walk total nesting (steps ++ (due, command) ∷ []) tokens (ahead_in total tokens) (ahead_in total tokens).kind
unfolding walk_due walk_closed walk_from walk_steps walk_tokens ahead_in
closed_next total nesting steps due command [] = λ i. λ around.
    walk_on (due_same nesting (steps ++ (due, command) ∷ []) due around total i)
    (λ point inner. Err (refusal.Unexpected total))
closed_next total nesting steps due command (t ∷ later) = λ i. λ around.
    closed_by total nesting (steps ++ (due, command) ∷ []) due t later around t.kind refl i

-- ---- a script inside of another one is closed

-- what a script inside of another one leads to, by what it belongs to
abbrev inside_by : ℕ → Nesting → Nesting → List (When × CommandTree) → ℕ → List SpeltToken → BodyOf → ScriptTokenKind → Onward
inside_by total nesting inner steps at rest (TestOf branches) kind = test_walk total nesting inner branches steps at rest kind
inside_by total nesting inner steps at rest (ThenOf branches test) kind = then_walk total nesting inner branches test steps at rest kind
inside_by total nesting inner steps at rest (ElseOf branches) kind = else_walk total nesting inner branches steps at rest kind
inside_by total nesting inner steps at rest (LoopOf name words) kind = loop_walk total nesting inner name words steps at rest kind

-- the same by one token
inside_at : (total : ℕ) (nesting inner : Nesting) (inside : BodyOf)
    (steps : List (When × CommandTree)) (at : ℕ) (rest : List SpeltToken) (body : StepsSoFar)
    (around : List Enclosing) (kind : ScriptTokenKind)
    → walk_on (inside_step inner (record { body = body; nesting = nesting; inside = inside }) around (steps_tree steps) at inside kind) (on total rest)
    ≡ inside_by total nesting inner steps at rest inside kind body around
unfolding walk_inside walk_fresh walk_from walk_closed refusal_walk
inside_at total nesting inner (TestOf branches) steps at rest body around (Word Then) = refl
inside_at total nesting inner (TestOf branches) steps at rest body around kind = refl
inside_at total nesting inner (ThenOf branches test) steps at rest body around (Word Elif) = refl
inside_at total nesting inner (ThenOf branches test) steps at rest body around (Word Else) = refl
inside_at total nesting inner (ThenOf branches test) steps at rest body around (Word Fi) = refl
inside_at total nesting inner (ThenOf branches test) steps at rest body around kind = refl
inside_at total nesting inner (ElseOf branches) steps at rest body around (Word Fi) = refl
inside_at total nesting inner (ElseOf branches) steps at rest body around kind = refl
inside_at total nesting inner (LoopOf name words) steps at rest body around (Word Done) = refl
inside_at total nesting inner (LoopOf name words) steps at rest body around kind = refl

inside_next : (total : ℕ) (nesting inner : Nesting) (inside : BodyOf)
    (steps : List (When × CommandTree)) (at : ℕ) (kind : ScriptTokenKind) (rest : List SpeltToken)
    → walk_inside nesting inside (walk_close total inner steps at kind rest)
    ≡ inside_by total nesting inner steps at rest inside kind
unfolding walk_inside walk_close
inside_next total nesting inner inside steps at kind rest = λ i. λ body around.
    inside_at total nesting inner inside steps at rest body around kind i

pub test_next : (total : ℕ) (nesting inner : Nesting) (branches : List (ScriptTree × ScriptTree))
    (steps : List (When × CommandTree)) (at : ℕ) (kind : ScriptTokenKind) (rest : List SpeltToken)
    → walk_inside nesting (TestOf branches) (walk_close total inner steps at kind rest)
    ≡ test_walk total nesting inner branches steps at rest kind
test_next total nesting inner branches steps at kind rest =
    inside_next total nesting inner (TestOf branches) steps at kind rest

pub then_next : (total : ℕ) (nesting inner : Nesting) (branches : List (ScriptTree × ScriptTree))
    (test : ScriptTree) (steps : List (When × CommandTree)) (at : ℕ) (kind : ScriptTokenKind)
    (rest : List SpeltToken)
    → walk_inside nesting (ThenOf branches test) (walk_close total inner steps at kind rest)
    ≡ then_walk total nesting inner branches test steps at rest kind
then_next total nesting inner branches test steps at kind rest =
    inside_next total nesting inner (ThenOf branches test) steps at kind rest

pub else_next : (total : ℕ) (nesting inner : Nesting) (branches : List (ScriptTree × ScriptTree))
    (steps : List (When × CommandTree)) (at : ℕ) (kind : ScriptTokenKind) (rest : List SpeltToken)
    → walk_inside nesting (ElseOf branches) (walk_close total inner steps at kind rest)
    ≡ else_walk total nesting inner branches steps at rest kind
else_next total nesting inner branches steps at kind rest =
    inside_next total nesting inner (ElseOf branches) steps at kind rest

pub loop_next : (total : ℕ) (nesting inner : Nesting) (name : List ℕ) (words : List (List Atom))
    (steps : List (When × CommandTree)) (at : ℕ) (kind : ScriptTokenKind) (rest : List SpeltToken)
    → walk_inside nesting (LoopOf name words) (walk_close total inner steps at kind rest)
    ≡ loop_walk total nesting inner name words steps at rest kind
loop_next total nesting inner name words steps at kind rest =
    inside_next total nesting inner (LoopOf name words) steps at kind rest

-- ---- before the body of a `for`

name_by : (total : ℕ) (outside inner : Nesting) (t : TokenAhead) (body : StepsSoFar)
    (around : List Enclosing) (name : Option (List ℕ))
    → walk_on (loop_name_step outside inner body around t name) (on total t.rest)
    ≡ loop_name_walk total outside inner t name body around
unfolding walk_from refusal_walk
name_by total outside inner t body around None = refl
name_by total outside inner t body around (Some name) = refl

pub name_next : (total : ℕ) (outside inner : Nesting) (tokens : List SpeltToken)
    → walk_from total inner (LoopName outside) tokens
    ≡ loop_name_walk total outside inner (ahead_in total tokens)
    (loop_name (ahead_in total tokens).word (ahead_in total tokens).kind)
unfolding walk_from walk_tokens ahead_in refusal_walk
name_next total outside inner [] = refl
name_next total outside inner (t ∷ later) = λ i. λ body around.
    name_by total outside inner (token_ahead t later) body around (loop_name t.word t.kind) i

pub name_refused : (total : ℕ) (outside inner : Nesting) (tokens : List SpeltToken) (t : TokenAhead)
    → t ≡ ahead_in total tokens → loop_name t.word t.kind ≡ None
    → walk_from total inner (LoopName outside) tokens
    ≡ refusal_walk (misplaced inner t.at t.kind)
name_refused total outside inner tokens t is none =
    name_next total outside inner tokens
    ∙ ap (λ (a : TokenAhead). loop_name_walk total outside inner a (loop_name a.word a.kind)) (sym is)
    ∙ ap (loop_name_walk total outside inner t) none

in_by : (total : ℕ) (inner : Nesting) (head : LoopHead) (word : List Atom) (at : ℕ)
    (rest : List SpeltToken) (body : StepsSoFar) (around : List Enclosing)
    (kind : ScriptTokenKind)
    → walk_on (loop_in_step head inner body around (record { kind = kind; word = word; at = at; rest = rest }) kind) (on total rest)
    ≡ in_walk total inner head (record { kind = kind; word = word; at = at; rest = rest }) body around
unfolding walk_from refusal_walk
in_by total inner head word at rest body around (Word In) = refl
in_by total inner head word at rest body around kind = refl

pub in_next : (total : ℕ) (inner : Nesting) (head : LoopHead) (tokens : List SpeltToken)
    → walk_from total inner (LoopIn head) tokens
    ≡ in_walk total inner head (ahead_in total tokens)
unfolding walk_from walk_tokens ahead_in refusal_walk
in_next total inner head [] = refl
in_next total inner head (t ∷ later) = λ i. λ body around.
    in_by total inner head t.word t.at later body around t.kind i

loop_words_by : (total : ℕ) (inner : Nesting) (head : LoopHead) (t : TokenAhead)
    (body : StepsSoFar) (around : List Enclosing) (kind : ScriptTokenKind)
    → walk_on (loop_words_step head inner body around t kind) (on total t.rest)
    ≡ loop_words_walk total inner head t kind body around
unfolding walk_from refusal_walk
loop_words_by total inner head t body around (Word keyword) = refl
loop_words_by total inner head t body around Semi = refl
loop_words_by total inner head t body around Line = refl
loop_words_by total inner head t body around kind = refl

pub loop_words_next : (total : ℕ) (inner : Nesting) (head : LoopHead) (tokens : List SpeltToken)
    → walk_from total inner (LoopWords head) tokens
    ≡ loop_words_walk total inner head (ahead_in total tokens) (ahead_in total tokens).kind
unfolding walk_from walk_tokens ahead_in refusal_walk
loop_words_next total inner head [] = refl
loop_words_next total inner head (t ∷ later) = λ i. λ body around.
    loop_words_by total inner head (token_ahead t later) body around t.kind i

do_by : (total : ℕ) (inner : Nesting) (head : LoopHead) (word : List Atom) (at : ℕ)
    (rest : List SpeltToken) (body : StepsSoFar) (around : List Enclosing)
    (kind : ScriptTokenKind)
    → walk_on (loop_do_step head inner body around (record { kind = kind; word = word; at = at; rest = rest }) kind) (on total rest)
    ≡ do_walk total inner head (record { kind = kind; word = word; at = at; rest = rest }) body around
unfolding walk_from walk_inside walk_fresh refusal_walk
do_by total inner head word at rest body around (Word Do) = refl
do_by total inner head word at rest body around Line = refl
do_by total inner head word at rest body around kind = refl

pub do_next : (total : ℕ) (inner : Nesting) (head : LoopHead) (tokens : List SpeltToken)
    → walk_from total inner (LoopDo head) tokens ≡ do_walk total inner head (ahead_in total tokens)
unfolding walk_from walk_tokens ahead_in refusal_walk
do_next total inner head [] = refl
do_next total inner head (t ∷ later) = λ i. λ body around.
    do_by total inner head t.word t.at later body around t.kind i

-- ---- refusals

pub inside_refusal : (nesting : Nesting) (inside : BodyOf) (e : ScriptError)
    → walk_inside nesting inside (refusal_inside e) ≡ refusal_walk e
unfolding walk_inside refusal_inside refusal_walk
inside_refusal nesting inside e = refl

pub due_refusal : (steps : List (When × CommandTree)) (due : When) (e : ScriptError)
    → walk_due steps due (refusal_walk e) ≡ refusal_inside e
unfolding walk_due refusal_inside refusal_walk
due_refusal steps due e = refl

unless_memory-map : {A B : Type 0} (f : A → B) (e : ScriptError) (walk : A)
    → unless_memory e (f walk) ≡ option_map f (unless_memory e walk)
unless_memory-map f refusal.TooLong walk = refl
unless_memory-map f refusal.NotText walk = refl
unless_memory-map f (refusal.Unclosed at) walk = refl
unless_memory-map f (refusal.Unexpected at) walk = refl
unless_memory-map f (refusal.TooDeep at) walk = refl
unless_memory-map f refusal.NoMemory walk = refl

pub inside_unless_memory : (nesting : Nesting) (inside : BodyOf) (e : ScriptError)
    (walk : OnwardInside)
    → unless_memory e (walk_inside nesting inside walk)
    ≡ option_map (walk_inside nesting inside) (unless_memory e walk)
inside_unless_memory nesting inside e walk = unless_memory-map (walk_inside nesting inside) e walk

pub due_unless_memory : (steps : List (When × CommandTree)) (due : When) (e : ScriptError)
    (walk : Onward)
    → unless_memory e (walk_due steps due walk)
    ≡ option_map (walk_due steps due) (unless_memory e walk)
due_unless_memory steps due e walk = unless_memory-map (walk_due steps due) e walk

-- ---- the whole text

pub script_fresh : (text : List ℕ)
    → script_in text
    ≡ walk_outermost (walk_fresh (length text) outermost (tokens_of (length text) text))
unfolding walk_outermost walk_fresh walk_from
script_fresh text = refl

outermost_by : (total : ℕ) (nesting : Nesting) (steps : List (When × CommandTree)) (at : ℕ)
    (rest : List SpeltToken) (kind : ScriptTokenKind)
    → walk_on (close_step nesting (body_of_steps steps) [] at kind) (on total rest)
    ≡ outermost_walk nesting steps at kind
outermost_by total nesting steps at rest End = refl
outermost_by total nesting steps at rest kind = refl

pub outermost_next : (total : ℕ) (nesting : Nesting) (steps : List (When × CommandTree)) (at : ℕ)
    (kind : ScriptTokenKind) (rest : List SpeltToken)
    → walk_outermost (walk_close total nesting steps at kind rest)
    ≡ outermost_walk nesting steps at kind
unfolding walk_outermost walk_close
outermost_next total nesting steps at kind rest = outermost_by total nesting steps at rest kind

pub outermost_refusal : (e : ScriptError) → walk_outermost (refusal_inside e) ≡ Err e
unfolding walk_outermost refusal_inside
outermost_refusal e = refl

pub outermost_unless_memory : (e : ScriptError) (walk : OnwardInside)
    → unless_memory e (walk_outermost walk) ≡ option_map walk_outermost (unless_memory e walk)
outermost_unless_memory e walk = unless_memory-map walk_outermost e walk

pub script_out : (s : Script) → script_tree s ≡ steps_tree (steps_in s)
script_out s = fold_out-Script (Option ScriptTree) CommandTree ChoiceTree CommandTree ScriptTree (ScriptTree × ScriptTree) (When × CommandTree) seen_otherwise seen_command seen_choice seen_loop seen_script seen_branch seen_step s
