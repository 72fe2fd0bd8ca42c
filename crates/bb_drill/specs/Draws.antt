-- What a drill draws. It follows from the drill's number and from how many sessions it has.
use Rattle.std.specs.Prelude.{ℕ, ◌+◌, ◌*◌, ◌/◌, ◌%◌, ◌^◌, ◌==◌, Bool, true, false, List, [], ◌∷◌, Option, Some, None, is_some, zero, suc, if◌then◌else◌}
use Rattle.std.specs.List.{count_by}
use Rattle.bb_flash.specs.declared.fault.Fill.{Fill}
use Rattle.bb_flash.specs.declared.fault.Fill.TheVariants.{Old, Half, Junk, Lost}
use Rattle.bb_drill.specs.declared.command.DrillCommand.{DrillCommand}
use Rattle.bb_drill.specs.declared.command.DrillCommand.TheVariants.{Priority, Boot, MarkGood, Show}
use Rattle.bb_drill.specs.declared.drawn.DrawnSession.{DrawnSession}
use Rattle.bb_drill.specs.declared.drawn.PlannedCut.{PlannedCut}

-- ---- numbers

-- the state after a draw; the first draw begins from the drill's number
unfoldable pub state_after : ℕ → ℕ
state_after x = (x * 6364136223846793005 + 1442695040888963407) % 2 ^ 64

-- the number below n of the draw that begins from a state
abbrev pub draw : ℕ → ℕ → ℕ
draw n x = state_after x / 2 ^ 33 % n

-- ---- what is drawn from a state, and the state after it

-- the command of a session by its number, and then the new priority where it sets one
abbrev pub command_by : ℕ → ℕ → DrillCommand × ℕ
command_by number x =
    if number == 0 then (Priority (draw 100 x), state_after x)
    else if number == 1 then (Boot, x)
    else if number == 2 then (MarkGood, x)
    else (Show, x)

unfoldable pub command_from : ℕ → DrillCommand × ℕ
command_from x = command_by (draw 4 x) (state_after x)

abbrev pub fill_by : ℕ → Fill
fill_by number =
    if number == 0 then Old else if number == 1 then Half else if number == 2 then Junk else Lost

-- a cut in one session of three: the flash call, counted from the session's first, and what the cut
-- leaves of it
unfoldable pub cut_from : ℕ → Option PlannedCut × ℕ
cut_from x =
    let called = state_after x in
    let filled = state_after called in
    if draw 3 x == 0
    then (Some (record { call = draw 40 called; fill = fill_by (draw 4 filled) }), state_after filled)
    else (None, called)

-- a decay after one session of eight: the copy, counted from 0
unfoldable pub decay_from : ℕ → Option ℕ × ℕ
decay_from x =
    let named = state_after x in
    if draw 8 x == 0 then (Some (draw 3 named), state_after named) else (None, named)

-- a session: its command, the cut in it and the decay after it
unfoldable pub session_from : ℕ → DrawnSession × ℕ
session_from x =
    let command = command_from x in
    let cut = cut_from command.1 in
    let decay = decay_from cut.1 in
    (record { command = command.0; cut = cut.0; decay = decay.0 }, decay.1)

-- so many sessions, in order
unfoldable pub draws_from : ℕ → ℕ → List DrawnSession
draws_from x zero = []
draws_from x (suc n) = (session_from x).0 ∷ draws_from (session_from x).1 n

-- the sessions of a drill
abbrev pub draws_of : ℕ → ℕ → List DrawnSession
draws_of number count = draws_from number count

-- ---- how many of them

-- a boot may make one start, and no other session makes any
abbrev pub may_start : DrillCommand → Bool
may_start (Priority value) = false
may_start Boot = true
may_start MarkGood = false
may_start Show = false

abbrev pub cuts_in : List DrawnSession → ℕ
cuts_in draws = count_by (λ drawn. is_some drawn.cut) draws

abbrev pub decays_in : List DrawnSession → ℕ
decays_in draws = count_by (λ drawn. is_some drawn.decay) draws

abbrev pub boots_in : List DrawnSession → ℕ
boots_in draws = count_by (λ drawn. may_start drawn.command) draws
