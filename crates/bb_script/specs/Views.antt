-- What clauses see of a script that was read.
use Rattle.std.specs.Prelude.{ℕ, List, [], ◌∷◌, Option, Some, None, map}
use Rattle.bb_script.specs.declared.script.Assignment.{Assignment}
use Rattle.bb_script.specs.declared.script.Choice.{Choice}
use Rattle.bb_script.specs.declared.script.ForLoop.{ForLoop}
use Rattle.bb_script.specs.declared.script.Otherwise.{Otherwise}
use Rattle.bb_script.specs.declared.script.Script.{Script, out-Script}
use Rattle.bb_script.specs.declared.script.ScriptBranch.{ScriptBranch}
use Rattle.bb_script.specs.declared.script.ScriptCommand.{ScriptCommand}
use Rattle.bb_script.specs.declared.script.ScriptStep.{ScriptStep}
use Rattle.bb_script.specs.declared.script.When.{When}
use Rattle.bb_script.specs.declared.script.Otherwise.TheOpen.{Otherwise-F, ScriptCommand-F, Choice-F, ForLoop-F, Script-F, ScriptBranch-F, ScriptStep-F, Nothing, Else, Call, Set, If, For}
use Rattle.bb_script.specs.declared.script.Otherwise.TheFolds.{fold-Otherwise, fold-ScriptCommand, fold-Choice, fold-ForLoop, fold-Script, fold-ScriptBranch, fold-ScriptStep}
use Rattle.bb_script.specs.Tree.{ScriptTree, CommandTree, ChoiceTree, call, choose, repeat, steps_tree, choice_tree, set_command_of}
use Rattle.bb_script.specs.Words.{word_atoms}

-- ---- one of each, with what is in it seen already

abbrev pub seen_otherwise : Otherwise-F (Option ScriptTree) CommandTree ChoiceTree CommandTree ScriptTree (ScriptTree × ScriptTree) (When × CommandTree) → Option ScriptTree
seen_otherwise Nothing = None
seen_otherwise (Else steps) = Some steps

abbrev pub seen_command : ScriptCommand-F (Option ScriptTree) CommandTree ChoiceTree CommandTree ScriptTree (ScriptTree × ScriptTree) (When × CommandTree) → CommandTree
seen_command (Call words) = call (map word_atoms words.items)
seen_command (Set a) = set_command_of a.name_len (word_atoms a.word)
seen_command (If choice) = choose choice
seen_command (For loop) = loop

abbrev pub seen_choice : Choice-F (Option ScriptTree) CommandTree ChoiceTree CommandTree ScriptTree (ScriptTree × ScriptTree) (When × CommandTree) → ChoiceTree
seen_choice c = choice_tree c.branches.items c.other

abbrev pub seen_loop : ForLoop-F (Option ScriptTree) CommandTree ChoiceTree CommandTree ScriptTree (ScriptTree × ScriptTree) (When × CommandTree) → CommandTree
seen_loop l = repeat l.name.items (map word_atoms l.words.items) l.body

abbrev pub seen_script : Script-F (Option ScriptTree) CommandTree ChoiceTree CommandTree ScriptTree (ScriptTree × ScriptTree) (When × CommandTree) → ScriptTree
seen_script s = steps_tree s.steps.items

abbrev pub seen_branch : ScriptBranch-F (Option ScriptTree) CommandTree ChoiceTree CommandTree ScriptTree (ScriptTree × ScriptTree) (When × CommandTree) → ScriptTree × ScriptTree
seen_branch b = (b.test, b.body)

abbrev pub seen_step : ScriptStep-F (Option ScriptTree) CommandTree ChoiceTree CommandTree ScriptTree (ScriptTree × ScriptTree) (When × CommandTree) → When × CommandTree
seen_step s = (s.when, s.command)

-- ---- a script, and what it is made of

abbrev pub otherwise_tree : Otherwise → Option ScriptTree
otherwise_tree = fold-Otherwise (Option ScriptTree) CommandTree ChoiceTree CommandTree ScriptTree (ScriptTree × ScriptTree) (When × CommandTree) seen_otherwise seen_command seen_choice seen_loop seen_script seen_branch seen_step

abbrev pub command_tree : ScriptCommand → CommandTree
command_tree = fold-ScriptCommand (Option ScriptTree) CommandTree ChoiceTree CommandTree ScriptTree (ScriptTree × ScriptTree) (When × CommandTree) seen_otherwise seen_command seen_choice seen_loop seen_script seen_branch seen_step

abbrev pub if_tree : Choice → ChoiceTree
if_tree = fold-Choice (Option ScriptTree) CommandTree ChoiceTree CommandTree ScriptTree (ScriptTree × ScriptTree) (When × CommandTree) seen_otherwise seen_command seen_choice seen_loop seen_script seen_branch seen_step

abbrev pub loop_tree : ForLoop → CommandTree
loop_tree = fold-ForLoop (Option ScriptTree) CommandTree ChoiceTree CommandTree ScriptTree (ScriptTree × ScriptTree) (When × CommandTree) seen_otherwise seen_command seen_choice seen_loop seen_script seen_branch seen_step

abbrev pub script_tree : Script → ScriptTree
script_tree = fold-Script (Option ScriptTree) CommandTree ChoiceTree CommandTree ScriptTree (ScriptTree × ScriptTree) (When × CommandTree) seen_otherwise seen_command seen_choice seen_loop seen_script seen_branch seen_step

abbrev pub branch_pair : ScriptBranch → ScriptTree × ScriptTree
branch_pair = fold-ScriptBranch (Option ScriptTree) CommandTree ChoiceTree CommandTree ScriptTree (ScriptTree × ScriptTree) (When × CommandTree) seen_otherwise seen_command seen_choice seen_loop seen_script seen_branch seen_step

abbrev pub step_pair : ScriptStep → When × CommandTree
step_pair = fold-ScriptStep (Option ScriptTree) CommandTree ChoiceTree CommandTree ScriptTree (ScriptTree × ScriptTree) (When × CommandTree) seen_otherwise seen_command seen_choice seen_loop seen_script seen_branch seen_step

-- the steps of a script, as pairs
abbrev pub steps_in : Script → List (When × CommandTree)
steps_in s = map step_pair (out-Script s).steps.items
