-- Steps that may refuse, one after another: the first refusal decides.
use Rattle.std.specs.Prelude.{◌≡◌, ◌≢◌, Result, Ok, Err}
use Rattle.std.specs.Borrow.{Bor}
use Rattle.bb_layout.specs.Results.{result_and_then}
use Rattle.bb_layout.specs.declared.layout_error.LayoutError.{LayoutError}
use Rattle.bb_layout.specs.declared.layout_error.LayoutError.TheVariants.{NoMemory}

-- the next step, on what this one gave
abbrev pub result_then : {A B : Type 0} → Result A LayoutError → (A → Result B LayoutError) → Result B LayoutError
result_then result next = result_and_then next result

-- what a step that takes memory answers: what is expected of it, or that memory was refused
abbrev pub StepGives : {A : Type 0} → Result A LayoutError → Result A LayoutError → Type 0
StepGives expected (Ok x) = expected ≡ Ok x
StepGives expected (Err e) = e ≢ NoMemory → expected ≡ Err e

-- the value after a reference that a step gives
abbrev pub result_copied : {A : Type 0} → Result (Bor A) LayoutError → Result A LayoutError
result_copied (Ok x) = Ok x.now
result_copied (Err e) = Err e
