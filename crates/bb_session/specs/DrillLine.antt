-- The line that is sent of a drill.
use Rattle.std.specs.Prelude.{ℕ, List, ◌++◌, codes, decimal}
use Rattle.bb_drill.specs.declared.counts.DrillCounts.{DrillCounts}

-- each count after its name, in decimal
abbrev pub drill_line : DrillCounts → List ℕ
drill_line counts =
    codes "sessions " ++ decimal counts.sessions
    ++ codes " cuts " ++ decimal counts.cuts
    ++ codes " decays " ++ decimal counts.decays
    ++ codes " programs " ++ decimal counts.programs
    ++ codes " erases " ++ decimal counts.erases
    ++ codes " starts " ++ decimal counts.starts
    ++ codes " wrong " ++ decimal counts.wrong ++ codes "\n"
