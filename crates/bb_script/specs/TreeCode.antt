-- A code for what clauses see of a script: what it is made of, written one after another, each
-- before what is in it. What was written is put together again from its end on.
use Rattle.std.specs.Prelude.{◌≡◌, refl, ℕ, Bool, true, false, List, [], ◌∷◌, ◌++◌, Option, Some, None, ◌⊎◌}
use Rattle.std.proofs.Common.{sym, ◌∙◌, ap, append_assoc, inl, inr, append-nil}
use Rattle.std.specs.Coded.{Coded, code_by, coded_ℕ, coded_bool, coded_list, coded_option, coded×, coded⊎}
use Rattle.bb_script.specs.declared.script.When.{When}
use Rattle.bb_script.specs.declared.script.When.TheVariants.{Always, OnSuccess, OnFailure}
use Rattle.bb_script.specs.Tree.{ScriptTree, no_steps, step, CommandTree, call, set, choose, repeat, ChoiceTree, no_else, otherwise, branch}
use Rattle.bb_script.specs.Words.{Atom, Letter, Quote, Value, QuotedValue, Status}

-- ---- a word

-- a letter, or else a quote, the status, or a variable's name and whether it is quoted
abbrev pub AtomParts : Type 0
AtomParts = ℕ ⊎ Option (Option (Bool × List ℕ))

abbrev pub atom_parts : Atom → AtomParts
atom_parts (Letter c) = inl c
atom_parts Quote = inr None
atom_parts Status = inr (Some None)
atom_parts (Value name) = inr (Some (Some (false, name)))
atom_parts (QuotedValue name) = inr (Some (Some (true, name)))

abbrev pub variable_atom : Bool → List ℕ → Atom
variable_atom false name = Value name
variable_atom true name = QuotedValue name

abbrev pub other_atom : Option (Option (Bool × List ℕ)) → Atom
other_atom None = Quote
other_atom (Some None) = Status
other_atom (Some (Some value)) = variable_atom value.0 value.1

abbrev pub parts_atom : AtomParts → Atom
parts_atom (inl c) = Letter c
parts_atom (inr other) = other_atom other

pub atom_again : (atom : Atom) → parts_atom (atom_parts atom) ≡ atom
atom_again (Letter c) = refl
atom_again Quote = refl
atom_again Status = refl
atom_again (Value name) = refl
atom_again (QuotedValue name) = refl

abbrev pub text_code : Coded (List ℕ)
text_code = coded_list coded_ℕ

abbrev pub atom_code : Coded Atom
atom_code =
    code_by AtomParts (coded⊎ coded_ℕ (coded_option (coded_option (coded× coded_bool text_code))))
    atom_parts parts_atom atom_again

abbrev pub word_code : Coded (List Atom)
word_code = coded_list atom_code

-- ---- when a step is run

abbrev pub when_parts : When → Option Bool
when_parts Always = None
when_parts OnSuccess = Some true
when_parts OnFailure = Some false

abbrev pub parts_when : Option Bool → When
parts_when None = Always
parts_when (Some true) = OnSuccess
parts_when (Some false) = OnFailure

pub when_again : (due : When) → parts_when (when_parts due) ≡ due
when_again Always = refl
when_again OnSuccess = refl
when_again OnFailure = refl

abbrev pub when_code : Coded When
when_code = code_by (Option Bool) (coded_option coded_bool) when_parts parts_when when_again

-- ---- what is written of a tree

-- of a command: its words; or an `if`; or a name, with the word that it is set to or the words of a
-- loop
abbrev pub CommandMark : Type 0
CommandMark = List (List Atom) ⊎ Option (List ℕ × (List Atom ⊎ List (List Atom)))

-- of steps: their end, or when the first is run; or of a command; or of a choice: its end, an
-- `else`, or a branch
abbrev pub TreeMark : Type 0
TreeMark = Option When ⊎ (CommandMark ⊎ Option Bool)

abbrev mutual
  pub steps_marks : ScriptTree → List TreeMark
  steps_marks no_steps = inl None ∷ []
  steps_marks (step due command later) =
      inl (Some due) ∷ command_marks command ++ steps_marks later

  pub command_marks : CommandTree → List TreeMark
  command_marks (call words) = inr (inl (inl words)) ∷ []
  command_marks (set name word) = inr (inl (inr (Some (name, inl word)))) ∷ []
  command_marks (choose choice) = inr (inl (inr None)) ∷ choice_marks choice
  command_marks (repeat name words body) =
      inr (inl (inr (Some (name, inr words)))) ∷ steps_marks body

  pub choice_marks : ChoiceTree → List TreeMark
  choice_marks no_else = inr (inr None) ∷ []
  choice_marks (otherwise steps) = inr (inr (Some false)) ∷ steps_marks steps
  choice_marks (branch test body later) =
      inr (inr (Some true)) ∷ steps_marks test ++ (steps_marks body ++ choice_marks later)

-- ---- the tree again

-- a part of a tree
pub data TreePart : Type 0 where
  Steps : ScriptTree → TreePart
  Command : CommandTree → TreePart
  Choices : ChoiceTree → TreePart

-- a name and what stands with it, before the parts that were put together
abbrev pub named_part : List ℕ → List Atom ⊎ List (List Atom) → List TreePart → List TreePart
named_part name (inl word) parts = Command (set name word) ∷ parts
named_part name (inr words) (Steps body ∷ parts) = Command (repeat name words body) ∷ parts
named_part name (inr words) _ = []

-- a mark before them
abbrev pub marked_part : TreeMark → List TreePart → List TreePart
marked_part (inl None) parts = Steps no_steps ∷ parts
marked_part (inl (Some due)) (Command command ∷ Steps later ∷ parts) =
    Steps (step due command later) ∷ parts
marked_part (inr (inl (inl words))) parts = Command (call words) ∷ parts
marked_part (inr (inl (inr None))) (Choices choice ∷ parts) = Command (choose choice) ∷ parts
marked_part (inr (inl (inr (Some named)))) parts = named_part named.0 named.1 parts
marked_part (inr (inr None)) parts = Choices no_else ∷ parts
marked_part (inr (inr (Some false))) (Steps steps ∷ parts) = Choices (otherwise steps) ∷ parts
marked_part (inr (inr (Some true))) (Steps test ∷ Steps body ∷ Choices later ∷ parts) =
    Choices (branch test body later) ∷ parts
marked_part _ _ = []

abbrev pub parts_of_marks : List TreeMark → List TreePart
parts_of_marks [] = []
parts_of_marks (mark ∷ marks) = marked_part mark (parts_of_marks marks)

abbrev pub first_steps : List TreePart → ScriptTree
first_steps (Steps steps ∷ parts) = steps
first_steps _ = no_steps

mutual
  steps_again : (steps : ScriptTree) (marks : List TreeMark)
      → parts_of_marks (steps_marks steps ++ marks) ≡ Steps steps ∷ parts_of_marks marks
  steps_again no_steps marks = refl
  steps_again (step due command later) marks =
      ap (λ l. marked_part (inl (Some due)) (parts_of_marks l))
      (append_assoc (command_marks command) (steps_marks later) marks)
      ∙ ap (marked_part (inl (Some due)))
      (command_again command (steps_marks later ++ marks)
      ∙ ap (λ l. Command command ∷ l) (steps_again later marks))

  command_again : (command : CommandTree) (marks : List TreeMark)
      → parts_of_marks (command_marks command ++ marks) ≡ Command command ∷ parts_of_marks marks
  command_again (call words) marks = refl
  command_again (set name word) marks = refl
  command_again (choose choice) marks =
      ap (marked_part (inr (inl (inr None)))) (choice_again choice marks)
  command_again (repeat name words body) marks =
      ap (named_part name (inr words)) (steps_again body marks)

  choice_again : (choice : ChoiceTree) (marks : List TreeMark)
      → parts_of_marks (choice_marks choice ++ marks) ≡ Choices choice ∷ parts_of_marks marks
  choice_again no_else marks = refl
  choice_again (otherwise steps) marks =
      ap (marked_part (inr (inr (Some false)))) (steps_again steps marks)
  choice_again (branch test body later) marks =
      ap (λ l. marked_part (inr (inr (Some true))) (parts_of_marks l))
      (append_assoc (steps_marks test) (steps_marks body ++ choice_marks later) marks
      ∙ ap (λ l. steps_marks test ++ l)
      (append_assoc (steps_marks body) (choice_marks later) marks))
      ∙ ap (marked_part (inr (inr (Some true))))
      (steps_again test (steps_marks body ++ (choice_marks later ++ marks))
      ∙ ap (λ l. Steps test ∷ l)
      (steps_again body (choice_marks later ++ marks)
      ∙ ap (λ l. Steps body ∷ l) (choice_again later marks)))

pub tree_again : (steps : ScriptTree) → first_steps (parts_of_marks (steps_marks steps)) ≡ steps
tree_again steps =
    ap (λ l. first_steps (parts_of_marks l)) (sym (append-nil (steps_marks steps)))
    ∙ ap first_steps (steps_again steps [])

-- ---- the code

abbrev pub command_mark_code : Coded CommandMark
command_mark_code =
    coded⊎ (coded_list word_code)
    (coded_option (coded× text_code (coded⊎ word_code (coded_list word_code))))

abbrev pub script_code : Coded ScriptTree
script_code =
    code_by (List TreeMark)
    (coded_list (coded⊎ (coded_option when_code) (coded⊎ command_mark_code (coded_option coded_bool))))
    steps_marks (λ marks. first_steps (parts_of_marks marks)) tree_again
