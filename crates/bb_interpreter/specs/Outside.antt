-- What stands outside of a script's language: variables that have values and take some, and
-- commands.
use Rattle.std.specs.Prelude.{ℕ, Bool, true, false, List, Option, Some, None}
use Rattle.std.specs.Option.{unwrap_or}
use Rattle.bb_interpreter.specs.declared.commands.Reply.{Reply}
use Rattle.bb_interpreter.specs.declared.commands.Reply.TheVariants.{Done, Started, Fault, NoMemory}
use Rattle.bb_interpreter.specs.declared.commands.SetReply.{SetReply}
use Rattle.bb_interpreter.specs.declared.commands.SetReply.TheVariants.{Unknown, Refused, Set}
use Rattle.bb_interpreter.specs.Variables.{own_value}

pub record Outside (C : Type 0) : Type 0 where
  -- the value of the variable of a name, or none where there is no such variable
  pub value_of : C → List ℕ → Option (List ℕ)
  -- where there is one: what is left once it is set, or none where it refuses the value
  pub set_by : C → List ℕ → List ℕ → Option (Option C)
  -- the names of commands
  pub is_command : List ℕ → Bool

-- what a call that sets a variable answers, and what it leaves
abbrev pub set_reply_of : {C : Type 0} → C → Option (Option C) → SetReply × C
set_reply_of outside None = (Unknown, outside)
set_reply_of outside (Some None) = (Refused, outside)
set_reply_of outside (Some (Some after)) = (Set, after)

-- the status of an assignment: a variable from outside may refuse its value
abbrev pub set_status : {C : Type 0} → Option (Option C) → ℕ
set_status None = 0
set_status (Some None) = 1
set_status (Some (Some after)) = 0

-- a command has ended, and a script may go on
abbrev pub is_done_reply : Reply → Bool
is_done_reply (Done status text) = true
is_done_reply (Started text) = false
is_done_reply Fault = false
is_done_reply NoMemory = false

-- the value of a variable, which is one from outside or the script's own
abbrev pub known_value : {C : Type 0} → Outside C → C → List (List ℕ × List ℕ) → List ℕ → List ℕ
known_value o outside own name = unwrap_or (o.value_of outside name) (own_value own name)
