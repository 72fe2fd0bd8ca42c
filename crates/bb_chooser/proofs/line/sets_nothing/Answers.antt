use Rattle.std.proofs.Common.{rules, tests, ◌≡◌, ◌==◌, ℕ, Bor, Option, not, true, find, sym, ap, ◌∙◌}
use Rattle.std.proofs.lemmas.Iterator.{YieldsList-from_slice}
use Rattle.std.proofs.lemmas.Iterator.Search.{find_from_yields_List}
use Rattle.std.specs.Option.{option_map, option_map_or}
use Rattle.bb_chooser.specs.Lines.{is_blank}
use Rattle.bb_chooser.proofs.line.sets_nothing.Goals as goal

pub returns-in-Some : goal.returns-in-Some
returns-in-Some c =
    let v : Bor ℕ → ℕ = λ x. x.now in
    let e : option_map v c.find.result ≡ find (λ b. not (is_blank b)) c.args.line.now =
    find_from_yields_List (λ b. not (is_blank b)) _ _ _ c.find.ensures.ran (YieldsList-from_slice c.args.line.now cc) (λ x b q k. search (rules, tests)) in
    ap (λ (o : Option ℕ). option_map_or (λ b. b == 35) o true) (ap (option_map v) (sym c.in-Some.is) ∙ e)

pub returns-in-None : goal.returns-in-None
returns-in-None c =
    let v : Bor ℕ → ℕ = λ x. x.now in
    let e : option_map v c.find.result ≡ find (λ b. not (is_blank b)) c.args.line.now =
    find_from_yields_List (λ b. not (is_blank b)) _ _ _ c.find.ensures.ran (YieldsList-from_slice c.args.line.now cc) (λ x b q k. search (rules, tests)) in
    ap (λ (o : Option ℕ). option_map_or (λ b. b == 35) o true) (ap (option_map v) (sym c.in-None.is) ∙ e)
