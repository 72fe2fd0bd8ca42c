-- The lines that a script's refusals send, by computation.
use Rattle.std.proofs.Common.{◌≡◌, codes, refl}
use Rattle.std.specs.Fmt.{digits}
use Rattle.bb_script.specs.declared.error.ScriptError.TheVariants.{NotText, TooLong, Unclosed}
use Rattle.bb_plan.specs.declared.refusal.Refusal.TheVariants.{BadScript, ScriptFailed, StepLimit}
use Rattle.bb_tool.specs.Lines.{line_of}

script_lines : (line_of (BadScript (Unclosed 0)) ≡ codes "fault 12 BadScript Unclosed 0\n")
    × (line_of (BadScript TooLong) ≡ codes "fault 12 BadScript TooLong\n")
    × (line_of (BadScript NotText) ≡ codes "fault 12 BadScript NotText\n")
    × (line_of (ScriptFailed 127) ≡ codes "fault 15 ScriptFailed 127\n")
    × (line_of StepLimit ≡ codes "fault 16 StepLimit\n")
unfolding digits
script_lines = (refl, refl, refl, refl, refl)
