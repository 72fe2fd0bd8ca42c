-- A script's tokens are walked one by one over the table of places, to the script or to the first
-- refusal.
use Rattle.std.specs.Prelude.{ℕ, List, [], ◌∷◌, None, Result, Ok, Err}
use Rattle.bb_script.specs.declared.error.ScriptError.{ScriptError}
use Rattle.bb_script.specs.declared.error.ScriptError.TheVariants.{Unexpected}
use Rattle.bb_script.specs.declared.token.Nesting.{Nesting}
use Rattle.bb_script.specs.declared.token_kind.ScriptTokenKind.TheVariants.{End}
use Rattle.bb_script.specs.Places.{Begin, Enclosing, TokenAhead, WalkPoint, WalkStep, Goes, Ends, Refuses, body_of_steps, step_at_place}
use Rattle.bb_script.specs.Tokens.{SpeltToken}
use Rattle.bb_script.specs.Tree.{ScriptTree}

abbrev pub ScriptResult : Type 0
ScriptResult = Result ScriptTree ScriptError

abbrev pub walk_on : WalkStep → (WalkPoint → List Enclosing → ScriptResult) → ScriptResult
walk_on (Goes point around) walk = walk point around
walk_on (Ends script) walk = Ok script
walk_on (Refuses e) walk = Err e

abbrev pub end_ahead : ℕ → TokenAhead
end_ahead total = record { kind = End; word = []; at = total; rest = [] }

abbrev pub token_ahead : SpeltToken → List SpeltToken → TokenAhead
token_ahead t later = record { kind = t.kind; word = t.word; at = t.at; rest = later }

-- the walk over the tokens of a text that ends at the offset `total`. The end is the last token
unfoldable pub walk_tokens : ℕ → List SpeltToken → WalkPoint → List Enclosing → ScriptResult
walk_tokens total [] point around =
    walk_on (step_at_place point.place point.nesting point.body around (end_ahead total))
    (λ point' around'. Err (Unexpected total))
walk_tokens total (t ∷ later) point around =
    walk_on (step_at_place point.place point.nesting point.body around (token_ahead t later))
    (λ point' around'. walk_tokens total later point' around')

abbrev pub outermost : Nesting
outermost = record { level = 0; opened = None }

abbrev pub walk_start : WalkPoint
walk_start = record { place = Begin; body = body_of_steps []; nesting = outermost }
