-- What a text is as a script: the script, or the first refusal.
use Rattle.std.specs.Prelude.{◌≡◌, ◌≢◌, ◌≤◌, ℕ, not, true, false, List, [], length, nat_lt, Result, Ok, Err, if◌then◌else◌}
use Rattle.std.specs.Str.{is_utf8}
use Rattle.bb_script.specs.declared.error.ScriptError.{ScriptError}
use Rattle.bb_script.specs.declared.error.ScriptError.TheVariants.{TooLong, NotText, NoMemory}
use Rattle.bb_script.specs.Tokens.{tokens_of}
use Rattle.bb_script.specs.Walk.{ScriptResult, walk_tokens, walk_start}

-- a text of any length
abbrev pub script_in : List ℕ → ScriptResult
script_in text = walk_tokens (length text) (tokens_of (length text) text) walk_start []

abbrev pub script_of : List ℕ → ScriptResult
script_of text =
    if nat_lt 65536 (length text) then Err TooLong
    else if not (is_utf8 text) then Err NotText
    else script_in text

-- a text is refused as it is expected, unless memory was refused
abbrev pub Refuses : {A : Type 0} → Result A ScriptError → ScriptError → Type 0
Refuses expected e = e ≢ NoMemory → expected ≡ Err e

-- it has the length that a script may have, and is UTF-8
pub record IsShortText (text : List ℕ) : Type 0 where
  pub short : length text ≤ 65536
  pub utf8 : is_utf8 text ≡ true

-- it has that length, and is none
pub record IsShortNoText (text : List ℕ) : Type 0 where
  pub short : length text ≤ 65536
  pub no_text : is_utf8 text ≡ false
