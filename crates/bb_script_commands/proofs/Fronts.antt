-- A script that is refused memory runs the first rounds of the one that is granted it.
use Rattle.std.proofs.Common.{◌≡◌, ℕ, List, [], ◌++◌, Option, None, ap, append-nil, inl, inr, refl, sym, ◌∙◌}
use Rattle.bb_interpreter.specs.Standing.{GoesOn, Stops}
use Rattle.bb_script.specs.Tree.{ScriptTree}
use Rattle.bb_shell.specs.Rounds.{RoundAnswer}
use Rattle.bb_script_commands.specs.Held.{Known}
use Rattle.bb_script_commands.specs.Playing.{ComeFirst, FrontLaw, script_played, unplayed}
use Rattle.bb_script_commands.proofs.Parts.{IsFront, Way, along, freed, steps_so, way_rounds}

freed_rounds : (way : Way) → way_rounds (along freed way) ≡ way_rounds way
freed_rounds (GoesOn at) = refl
freed_rounds (Stops why at) = refl

come_first : (one two : Way) → IsFront one two → ComeFirst (way_rounds one) (way_rounds two)
come_first one two (inl same) = record {
  later = [];
  is = ap (λ (w : Way). way_rounds w) same ∙ freed_rounds one ∙ sym (append-nil (way_rounds one));
}
come_first one two (inr starved) = record {
  later = starved.rest.more;
  is = starved.rest.is ∙ ap (λ l. l ++ starved.rest.more) (sym (ap (λ (w : Way). way_rounds w) starved.is));
}

pub front_law : FrontLaw
front_law script known answers grants =
    come_first (script_played script known answers grants) (script_played script known answers None)
    ((steps_so script).front (unplayed known answers grants))
