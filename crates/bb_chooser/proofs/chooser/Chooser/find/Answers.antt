use Rattle.std.proofs.Common.{◌≡◌, ◌∙◌, ℕ, List, Option, Some, None, ap, sym}
use Rattle.std.specs.Option.{IfSome}
use Rattle.std.specs.Prelude.{◌<◌, length, position}
use Rattle.std.specs.Str.{bytes_eq}
use Rattle.bb_chooser.proofs.Places.{position_within}
use Rattle.bb_chooser.specs.Binding.{Binding}
use Rattle.bb_chooser.specs.Choosing.{target_place}
use Rattle.bb_chooser.proofs.chooser.Chooser.find.Goals as goal

pub returns-clause-value : goal.returns-clause-value
returns-clause-value c =
    c.target_place.ensures
    ∙ ap (position (λ t. bytes_eq t.target.name c.args.name.now)) (c.as_slice.ensures.value ∙ ap (λ (b : Binding). b.targets) c.self.view_is)

inside : (b : Binding) (name : List ℕ) (found : Option ℕ) → found ≡ target_place b name → IfSome found (λ target. target < length b.targets)
inside b name None is = tt
inside b name (Some target) is = position_within (λ t. bytes_eq t.target.name name) b.targets target (sym is)

pub returns-clause-inside : goal.returns-clause-inside
returns-clause-inside c = inside c.args.self.now c.args.name.now c.target_place.result (returns-clause-value c)
