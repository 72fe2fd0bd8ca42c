-- One level of a script.
use Rattle.std.proofs.Common.{◌≡◌, ℕ, ◌+◌, ◌<◌, ◌≤◌, List, [], ◌∷◌, map, Option, Some, None, add-one, ap, drop, drop-cons, get_or, length, suc, sym, ◌∙◌}
use Rattle.std.proofs.lemmas.List.{drop_all}
use Rattle.bb_script.specs.declared.script.Choice.{Choice, out-Choice}
use Rattle.bb_script.specs.declared.script.ForLoop.{ForLoop, out-ForLoop}
use Rattle.bb_script.specs.declared.script.Otherwise.{Otherwise}
use Rattle.bb_script.specs.declared.script.Otherwise.TheVariants.{Else, Nothing, rolls-Else, rolls-Nothing}
use Rattle.bb_script.specs.declared.script.Otherwise.TheFolds.{fold_out-Script, fold_out-ScriptStep, fold_out-ScriptBranch, fold_out-Choice, fold_out-ForLoop, fold-roll-Otherwise, fold-roll-ScriptCommand}
use Rattle.bb_script.specs.declared.script.Assignment.{Assignment}
use Rattle.bb_script.specs.declared.script.Script.{Script, out-Script}
use Rattle.bb_script.specs.declared.script.ScriptBranch.{ScriptBranch, out-ScriptBranch}
use Rattle.bb_script.specs.declared.script.ScriptCommand.{ScriptCommand}
use Rattle.bb_script.specs.declared.script.ScriptCommand.TheVariants.{Call, Set, If, For, rolls-Call, rolls-Set, rolls-If, rolls-For}
use Rattle.bb_script.specs.declared.script.ScriptStep.{ScriptStep, out-ScriptStep}
use Rattle.bb_script.specs.declared.script.When.{When}
use Rattle.bb_script.specs.Tree.{ScriptTree, CommandTree, ChoiceTree, call, choose, repeat, no_else, otherwise, choice_tree, set_command_of, steps_tree}
use Rattle.bb_script.specs.Views.{branch_pair, command_tree, if_tree, loop_tree, otherwise_tree, script_tree, seen_branch, seen_choice, seen_command, seen_loop, seen_otherwise, seen_script, seen_step, step_pair}
use Rattle.bb_script.specs.Words.{word_atoms}

pub script_out : (s : Script) → script_tree s ≡ steps_tree (map step_pair (out-Script s).steps.items)
script_out s = fold_out-Script (Option ScriptTree) CommandTree ChoiceTree CommandTree ScriptTree (ScriptTree × ScriptTree) (When × CommandTree) seen_otherwise seen_command seen_choice seen_loop seen_script seen_branch seen_step s

pub step_out : (s : ScriptStep) → step_pair s ≡ ((out-ScriptStep s).when, command_tree (out-ScriptStep s).command)
step_out s = fold_out-ScriptStep (Option ScriptTree) CommandTree ChoiceTree CommandTree ScriptTree (ScriptTree × ScriptTree) (When × CommandTree) seen_otherwise seen_command seen_choice seen_loop seen_script seen_branch seen_step s

pub branch_out : (b : ScriptBranch) → branch_pair b ≡ (script_tree (out-ScriptBranch b).test, script_tree (out-ScriptBranch b).body)
branch_out b = fold_out-ScriptBranch (Option ScriptTree) CommandTree ChoiceTree CommandTree ScriptTree (ScriptTree × ScriptTree) (When × CommandTree) seen_otherwise seen_command seen_choice seen_loop seen_script seen_branch seen_step b

pub choice_out : (c : Choice) → if_tree c ≡ choice_tree (map branch_pair (out-Choice c).branches.items) (otherwise_tree (out-Choice c).other)
choice_out c = fold_out-Choice (Option ScriptTree) CommandTree ChoiceTree CommandTree ScriptTree (ScriptTree × ScriptTree) (When × CommandTree) seen_otherwise seen_command seen_choice seen_loop seen_script seen_branch seen_step c

pub loop_out : (l : ForLoop) → loop_tree l ≡ repeat (out-ForLoop l).name.items (map word_atoms (out-ForLoop l).words.items) (script_tree (out-ForLoop l).body)
loop_out l = fold_out-ForLoop (Option ScriptTree) CommandTree ChoiceTree CommandTree ScriptTree (ScriptTree × ScriptTree) (When × CommandTree) seen_otherwise seen_command seen_choice seen_loop seen_script seen_branch seen_step l

pub next : {X Y : Type 0} (f : X → Y) (xs : List X) (i : ℕ) (x : X) → i < length xs → x ≡ get_or xs i x
    → map f (drop i xs) ≡ f x ∷ map f (drop (i + 1) xs)
next f xs i x h e = rw (add-one) (ap (map f) (drop-cons xs i x h) ∙ ap (λ y. f y ∷ map f (drop (suc i) xs)) (sym e))

pub next_item : {X : Type 0} (xs : List X) (i : ℕ) (x : X) → i < length xs → x ≡ get_or xs i x
    → drop i xs ≡ x ∷ drop (i + 1) xs
next_item xs i x h e = rw (add-one) (drop-cons xs i x h ∙ ap (λ y. y ∷ drop (suc i) xs) (sym e))

pub nothing_left : {X : Type 0} (xs : List X) (i : ℕ) → length xs ≤ i → drop i xs ≡ []
nothing_left xs i h = drop_all i xs h

else_of : (s : Script) → otherwise_tree (Else s) ≡ Some (script_tree s)
else_of s = ap otherwise_tree (sym (rolls-Else s)) ∙ fold-roll-Otherwise (Option ScriptTree) CommandTree ChoiceTree CommandTree ScriptTree (ScriptTree × ScriptTree) (When × CommandTree) seen_otherwise seen_command seen_choice seen_loop seen_script seen_branch seen_step _

nothing_of : otherwise_tree Nothing ≡ None
nothing_of = ap otherwise_tree (sym rolls-Nothing) ∙ fold-roll-Otherwise (Option ScriptTree) CommandTree ChoiceTree CommandTree ScriptTree (ScriptTree × ScriptTree) (When × CommandTree) seen_otherwise seen_command seen_choice seen_loop seen_script seen_branch seen_step _

pub else_seen : (o : Otherwise) (s : Script) → o ≡ Else s → choice_tree [] (otherwise_tree o) ≡ otherwise (script_tree s)
else_seen o s h = ap (λ (x : Otherwise). choice_tree [] (otherwise_tree x)) h ∙ ap (choice_tree []) (else_of s)

pub nothing_seen : (o : Otherwise) → o ≡ Nothing → choice_tree [] (otherwise_tree o) ≡ no_else
nothing_seen o h = ap (λ (x : Otherwise). choice_tree [] (otherwise_tree x)) h ∙ ap (choice_tree []) nothing_of

-- ---- commands

pub call_seen : (c : ScriptCommand) (words : _) → c ≡ Call words → command_tree c ≡ call (map word_atoms words.items)
call_seen c words h = ap command_tree (h ∙ sym (rolls-Call words)) ∙ fold-roll-ScriptCommand (Option ScriptTree) CommandTree ChoiceTree CommandTree ScriptTree (ScriptTree × ScriptTree) (When × CommandTree) seen_otherwise seen_command seen_choice seen_loop seen_script seen_branch seen_step _

pub set_seen : (c : ScriptCommand) (a : Assignment) → c ≡ Set a → command_tree c ≡ set_command_of a.name_len (word_atoms a.word)
set_seen c a h = ap command_tree (h ∙ sym (rolls-Set a)) ∙ fold-roll-ScriptCommand (Option ScriptTree) CommandTree ChoiceTree CommandTree ScriptTree (ScriptTree × ScriptTree) (When × CommandTree) seen_otherwise seen_command seen_choice seen_loop seen_script seen_branch seen_step _

pub if_seen : (c : ScriptCommand) (choice : Choice) → c ≡ If choice → command_tree c ≡ choose (if_tree choice)
if_seen c choice h = ap command_tree (h ∙ sym (rolls-If choice)) ∙ fold-roll-ScriptCommand (Option ScriptTree) CommandTree ChoiceTree CommandTree ScriptTree (ScriptTree × ScriptTree) (When × CommandTree) seen_otherwise seen_command seen_choice seen_loop seen_script seen_branch seen_step _

pub for_seen : (c : ScriptCommand) (l : ForLoop) → c ≡ For l → command_tree c ≡ loop_tree l
for_seen c l h = ap command_tree (h ∙ sym (rolls-For l)) ∙ fold-roll-ScriptCommand (Option ScriptTree) CommandTree ChoiceTree CommandTree ScriptTree (ScriptTree × ScriptTree) (When × CommandTree) seen_otherwise seen_command seen_choice seen_loop seen_script seen_branch seen_step _
