use Rattle.std.proofs.Common.{◌≤◌, ◌++◌, ◌∷◌, [], List, ℕ, length, map, take, arith, sym, ap, ◌∙◌}
use Rattle.std.proofs.lemmas.List.{map-append, take_all}
use Rattle.std.specs.Str.{bytes_eq}
use Rattle.bb_layout.specs.Ranges.{some_pair}
use Rattle.bb_chooser.proofs.GivenSteps.{map-target_of, take_next}
use Rattle.bb_chooser.specs.GivenSoFar.{given_in}
use Rattle.bb_chooser.specs.Settings.{target_of}
use Rattle.bb_chooser.specs.declared.target.Target.{Target}
use Rattle.bb_chooser.proofs.given.GivenSoFar.targets.Goals as goal

pub loop-place-preserved : goal.loop-place-preserved
loop-place-preserved c =
    let f : List ℕ → Target = target_of (given_in c.args.self.now) in
    let names = c.in-Some.names in
    let i = c.loop-place.place in
    c.in_ok-push.ensures.items ∙ ap (λ (l : List Target). l ++ c.in_ok-target.field-0 ∷ []) c.loop-place.invariant
    ∙ ap (λ (t : Target). map f (take i names) ++ t ∷ []) c.in_ok-target.ensures
    ∙ sym (map-append f (take i names) (c.in-Some-get.name.now ∷ []))
    ∙ ap (map f) (sym (take_next names i c.in-Some-get.name.now (sym c.in-Some-get.ensures)))

pub returns-clause-differ : goal.returns-clause-differ
returns-clause-differ c =
    let given = given_in c.args.self.now in
    let names = c.in-Some.names in
    let past : length names ≤ c.loop-place.place = omega (arith, c.len-place-end.ensures.value, c.loop-place-test.false) in
    ap (λ (l : List Target). some_pair bytes_eq (map (λ t. t.name) l)) (c.loop-place.invariant ∙ ap (map (target_of given)) (take_all c.loop-place.place names past))
    ∙ ap (some_pair bytes_eq) (map-target_of given names) ∙ c.len-place-end.ensures.differ
