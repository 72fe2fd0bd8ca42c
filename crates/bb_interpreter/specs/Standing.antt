-- Where a run of a script stands, and how it goes on.
use Rattle.std.specs.Prelude.{ℕ, ◌+◌, ◌-◌, Bool, true, false, List, nat_le, nat_lt, Option, Some, None, if◌then◌else◌}
use Rattle.bb_interpreter.specs.declared.commands.Reply.{Reply}
use Rattle.bb_interpreter.specs.declared.stop.ScriptStop.{ScriptStop}
use Rattle.bb_interpreter.specs.declared.stop.ScriptStop.TheVariants.{StepLimit, NoMemory}

-- what a command from outside answers, and what it leaves
pub record Answer (C D : Type 0) : Type 0 where
  pub reply : Reply
  pub outside : C
  pub device : D

-- a command from outside that was called, with what stood outside before it
pub record Act (C D : Type 0) : Type 0 where
  pub words : List (List ℕ)
  pub before : C
  pub on : D
  pub answer : Answer C D

pub record Standing (C D : Type 0) : Type 0 where
  pub outside : C
  pub device : D
  -- the script's own variables
  pub own : List (List ℕ × List ℕ)
  -- what was sent
  pub text : List ℕ
  -- the status of the last command
  pub status : ℕ
  -- how many commands and rounds there were
  pub count : ℕ
  -- the answers to the commands from outside that are still to come
  pub answers : List (Answer C D)
  -- how often memory is still granted; none: always
  pub grants : Option ℕ
  -- the commands from outside so far
  pub acts : List (Act C D)

pub data Course (C D : Type 0) : Type 0 where
  GoesOn : Standing C D → Course C D
  Stops : ScriptStop → Standing C D → Course C D

-- what a part of a script does where a run stands
abbrev pub Meaning : Type 0 → Type 0 → Type 0
Meaning C D = Standing C D → Course C D

-- what a command from outside does there, by its words
abbrev pub Asks : Type 0 → Type 0 → Type 0
Asks C D = List (List ℕ) → Meaning C D

-- and what comes after it
abbrev pub followed : {C D : Type 0} → Course C D → Meaning C D → Course C D
followed (GoesOn at) next = next at
followed (Stops stop at) next = Stops stop at

abbrev pub either : {C D : Type 0} → Bool → Meaning C D → Meaning C D → Meaning C D
either true one two at = one at
either false one two at = two at

abbrev pub with_status : {C D : Type 0} → ℕ → Meaning C D
with_status status at = GoesOn (record at { status = status })

-- a command or a round more, of which there are 10,000 at most
abbrev pub counts_one : {C D : Type 0} → Meaning C D
counts_one at =
    if nat_le 10000 at.count then Stops StepLimit at
    else GoesOn (record at { count = at.count + 1 })

-- memory is asked for
abbrev pub granted_by : {C D : Type 0} → Option ℕ → Meaning C D
granted_by None at = GoesOn at
granted_by (Some n) at =
    if nat_lt 0 n then GoesOn (record at { grants = Some (n - 1) }) else Stops NoMemory at

abbrev pub granted : {C D : Type 0} → Meaning C D
granted at = granted_by at.grants at
