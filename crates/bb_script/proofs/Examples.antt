-- Scripts worked through by computation.
use Rattle.std.proofs.Common.{◌≡◌, ℕ, List, [], ◌∷◌, ◌++◌, refl, codes, Ok, Err, Some, None, map, if◌then◌else◌}
use Rattle.std.specs.Str.{bytes_eq}
use Rattle.bb_script.specs.declared.error.ScriptError.TheVariants.{Unclosed, Unexpected, TooDeep}
use Rattle.bb_script.specs.declared.script.When.TheVariants.{Always, OnSuccess, OnFailure}
use Rattle.bb_script.specs.Fields.{all_fields}
use Rattle.bb_script.specs.Script.{script_in}
use Rattle.bb_script.specs.Tokens.{tokens}
use Rattle.bb_script.specs.Tree.{ScriptTree, CommandTree, no_steps, step, call, set, choose, repeat, no_else, otherwise, branch}
use Rattle.bb_script.specs.Walk.{walk_tokens}
use Rattle.bb_script.specs.Words.{Atom, Letter, Quote, Value, QuotedValue, Status}

abbrev plain : List ℕ → List Atom
plain = map Letter

nothing : script_in (codes "") ≡ Ok no_steps
unfolding walk_tokens tokens
nothing = refl

a_loop : script_in (codes "for a in 1 2; do echo $a; done") ≡ Ok
    (step Always (repeat (codes "a") (plain (codes "1") ∷ plain (codes "2") ∷ [])
    (step Always (call (plain (codes "echo") ∷ (Value (codes "a") ∷ []) ∷ [])) no_steps)) no_steps)
unfolding walk_tokens tokens
a_loop = refl

an_open_if : script_in (codes "if test a = a; then echo x") ≡ Err (Unclosed 0)
unfolding walk_tokens tokens
an_open_if = refl

an_open_quote : script_in (codes "echo \"a") ≡ Err (Unclosed 5)
unfolding walk_tokens tokens
an_open_quote = refl

a_bar : script_in (codes "a | b") ≡ Err (Unexpected 2)
unfolding walk_tokens tokens
a_bar = refl

too_deep : script_in (codes "if if if if if if if if if if if if if if if if if ") ≡ Err (TooDeep 48)
unfolding walk_tokens tokens
too_deep = refl

a_setting : script_in (codes "a='b c'$d && x || y") ≡ Ok
    (step Always (set (codes "a") (Quote ∷ plain (codes "b c") ++ Value (codes "d") ∷ []))
    (step OnSuccess (call (plain (codes "x") ∷ []))
    (step OnFailure (call (plain (codes "y") ∷ [])) no_steps)))
unfolding walk_tokens tokens
a_setting = refl

-- ---- more trees, by hand

one : CommandTree → ScriptTree
one command = step Always command no_steps

keywords_as_words : script_in (codes "echo if; 'if'; i\\f")
    ≡ Ok (step Always (call (plain (codes "echo") ∷ plain (codes "if") ∷ []))
    (step Always (call ((Quote ∷ plain (codes "if")) ∷ []))
    (step Always (call ((Letter 105 ∷ Quote ∷ Letter 102 ∷ []) ∷ [])) no_steps)))
unfolding walk_tokens tokens
keywords_as_words = refl

quotes : script_in (codes "a ''\"$b\"'$c'${d}e$?")
    ≡ Ok (one (call (plain (codes "a")
    ∷ (Quote ∷ Quote ∷ QuotedValue (codes "b") ∷ Quote ∷ plain (codes "$c")
    ++ Value (codes "d") ∷ Letter 101 ∷ Status ∷ []) ∷ [])))
unfolding walk_tokens tokens one
quotes = refl

an_if : script_in (codes "if a; then b; elif c; then d; else e; fi")
    ≡ Ok (one (choose (branch (one (call (plain (codes "a") ∷ []))) (one (call (plain (codes "b") ∷ [])))
    (branch (one (call (plain (codes "c") ∷ []))) (one (call (plain (codes "d") ∷ [])))
    (otherwise (one (call (plain (codes "e") ∷ []))))))))
unfolding walk_tokens tokens one
an_if = refl

an_empty_if : script_in (codes "if then fi")
    ≡ Ok (one (choose (branch no_steps no_steps no_else)))
unfolding walk_tokens tokens one
an_empty_if = refl

place_first : script_in (codes "fi \"a") ≡ Err (Unexpected 0)
unfolding walk_tokens tokens
place_first = refl

a_word_after_fi : script_in (codes "if a; then b; fi \"c") ≡ Err (Unexpected 17)
unfolding walk_tokens tokens
a_word_after_fi = refl

innermost_opener : script_in (codes "if a; then for b in c") ≡ Err (Unclosed 11)
unfolding walk_tokens tokens
innermost_opener = refl

a_cut_text : script_in (codes "if a\\") ≡ Err (Unclosed 0)
unfolding walk_tokens tokens
a_cut_text = refl

no_setting : script_in (codes "a=1 b") ≡ Ok (one (call (plain (codes "a=1") ∷ plain (codes "b") ∷ [])))
unfolding walk_tokens tokens one
no_setting = refl

-- ---- fields

-- `b` is two words with blanks around them, and other names are unset
by_name : List ℕ → List ℕ
by_name name = if bytes_eq name (codes "b") then codes " x  y " else []

split : all_fields by_name 0 ((Letter 97 ∷ Value (codes "b") ∷ Letter 99 ∷ []) ∷ [])
    ≡ codes "a" ∷ codes "x" ∷ codes "y" ∷ codes "c" ∷ []
unfolding by_name
split = refl

not_split : all_fields by_name 0 ((Quote ∷ QuotedValue (codes "b") ∷ []) ∷ [])
    ≡ codes " x  y " ∷ []
unfolding by_name
not_split = refl

empty_fields : all_fields by_name 7 ((Value (codes "u") ∷ []) ∷ (Quote ∷ []) ∷ (Letter 97 ∷ []) ∷ [])
    ≡ [] ∷ codes "a" ∷ []
unfolding by_name
empty_fields = refl
