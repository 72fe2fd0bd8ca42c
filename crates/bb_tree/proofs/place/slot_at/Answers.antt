use Rattle.std.proofs.Common.{rules, ◌≡◌, ◌∷◌, [], ◌≢◌, List, ℕ, length, refl, sym, ap, ◌∙◌, arith, lit<}
use Rattle.std.specs.Option.{option_and_then}
use Rattle.std.proofs.lemmas.Bool.{eqb-false}
use Rattle.std.proofs.lemmas.Str.Pattern.{strip_prefix_char}
use Rattle.std.proofs.lemmas.Option.{MatchOption-at_none, MatchOption-at_some}
use Rattle.bb_tree.specs.Paths.{path_names}
use Rattle.bb_tree.specs.Slots.{spine}
use Rattle.bb_tree.specs.Spine.{slot_led_to}
use Rattle.bb_tree.proofs.Spine.{walk_nil}
use Rattle.bb_tree.proofs.Naming.{names_none, names_behind_some}
use Rattle.bb_tree.proofs.place.slot_at.Goals as goal

pub returns-in_err-names : goal.returns-in_err-names
returns-in_err-names c =
    let path = c.args.path.now in
    let none = MatchOption-at_none _ _ c.in_err-names.was (strip_prefix_char 47 path c.strip_prefix.result c.strip_prefix.ensures.cases (lit< tt)) in
    c.from_residual.ensures ∙ ap (option_and_then (slot_led_to 1 (spine c.args.slots.now) 0)) (sym (names_none path none))

pub returns-then-is_empty : goal.returns-then-is_empty
returns-then-is_empty c =
    let path = c.args.path.now in
    let slash = MatchOption-at_some _ _ c.in_ok-names.names c.in_ok-names.was (strip_prefix_char 47 path c.strip_prefix.result c.strip_prefix.ensures.cases (lit< tt)) in
    let none : c.in_ok-names.names.now ≡ [] = nothing c.in_ok-names.names.now (search rules) in
    let walked = option_and_then (slot_led_to 1 (spine c.args.slots.now) 0) in
    sym (walk_nil 1 (spine c.args.slots.now) 0) ∙ ap (λ (l : List ℕ). walked (path_names (47 ∷ l))) (sym none) ∙ ap (λ (l : List ℕ). walked (path_names l)) (sym slash)
  where
    nothing : (l : List ℕ) → length l ≡ 0 → l ≡ []
    nothing [] e = refl
    nothing (x ∷ l) e = absurd (omega arith)

pub returns : goal.returns
returns c =
    let path = c.args.path.now in
    let slash = MatchOption-at_some _ _ c.in_ok-names.names c.in_ok-names.was (strip_prefix_char 47 path c.strip_prefix.result c.strip_prefix.ensures.cases (lit< tt)) in
    let some : c.in_ok-names.names.now ≢ [] = λ e. eqb-false _ _ (sym c.is_empty.ensures ∙ c.if-is_empty.false) (ap length e) in
    let walked = option_and_then (slot_led_to 1 (spine c.args.slots.now) 0) in
    c.slot_behind.ensures ∙ ap (slot_led_to 1 (spine c.args.slots.now) 0) (sym (names_behind_some c.in_ok-names.names.now some)) ∙ ap (λ (l : List ℕ). walked (path_names l)) (sym slash)
