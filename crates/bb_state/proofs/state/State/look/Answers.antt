use Rattle.std.proofs.Common.{◌∙◌, ap, sym}
use Rattle.bb_state.specs.Keyed.{Keyed}
use Rattle.bb_state.proofs.state.State.look.Goals as goal

pub returns-clause-on : goal.returns-clause-on
returns-clause-on g c =
    let quiet = c.look.ensures.look.quiet in
    record {
      geometry = quiet.later.geometry ∙ c.requires.on.geometry ∙ ap (λ (k : Keyed). k.layout.geometry) (sym c.look.ensures.keyed);
      agrees = c.look.ensures.agrees;
      whole = quiet.whole;
    }
