use Rattle.std.proofs.Common.{rules, ◌≡◌, ◌∷◌, [], ◌≢◌, List, ℕ, length, sym, ap, ◌∙◌, lit<}
use Rattle.std.specs.Option.{option_and_then, option_map, option_copied}
use Rattle.std.proofs.lemmas.Bool.{eqb-false}
use Rattle.std.proofs.lemmas.Str.Pattern.{strip_prefix_char}
use Rattle.std.proofs.lemmas.Option.{MatchOption-at_none, MatchOption-at_some}
use Rattle.bb_tree.specs.NodeViews.{branch_of}
use Rattle.bb_tree.specs.Paths.{path_names, node_at}
use Rattle.bb_tree.proofs.Changing.{no_items}
use Rattle.bb_tree.proofs.Naming.{names_none, names_behind_some}
use Rattle.bb_tree.proofs.tree.Tree.find.Goals as goal

pub returns-in_err-names : goal.returns-in_err-names
returns-in_err-names c =
    let path = c.args.path.now in
    let root = branch_of c.args.self.now.root in
    let none = MatchOption-at_none _ _ c.in_err-names.was (strip_prefix_char 47 path c.strip_prefix.result c.strip_prefix.ensures.cases (lit< tt)) in
    ap (λ o. option_map branch_of (option_copied o)) c.from_residual.ensures ∙ ap (option_and_then (λ ns. node_at ns root)) (sym (names_none path none))

pub returns-then-is_empty : goal.returns-then-is_empty
returns-then-is_empty c =
    let path = c.args.path.now in
    let root = branch_of c.args.self.now.root in
    let slash = MatchOption-at_some _ _ c.in_ok-names.names c.in_ok-names.was (strip_prefix_char 47 path c.strip_prefix.result c.strip_prefix.ensures.cases (lit< tt)) in
    let none : c.in_ok-names.names.now ≡ [] = no_items c.in_ok-names.names.now (search rules) in
    let walked = option_and_then (λ ns. node_at ns root) in
    ap (λ (l : List ℕ). walked (path_names (47 ∷ l))) (sym none) ∙ ap (λ (l : List ℕ). walked (path_names l)) (sym slash)

pub returns : goal.returns
returns c =
    let path = c.args.path.now in
    let root = branch_of c.args.self.now.root in
    let slash = MatchOption-at_some _ _ c.in_ok-names.names c.in_ok-names.was (strip_prefix_char 47 path c.strip_prefix.result c.strip_prefix.ensures.cases (lit< tt)) in
    let some : c.in_ok-names.names.now ≢ [] = λ e. eqb-false _ _ (sym c.is_empty.ensures ∙ c.if-is_empty.false) (ap length e) in
    let walked = option_and_then (λ ns. node_at ns root) in
    c.find_behind.ensures ∙ ap (λ ns. node_at ns root) (sym (names_behind_some c.in_ok-names.names.now some)) ∙ ap (λ (l : List ℕ). walked (path_names l)) (sym slash)
