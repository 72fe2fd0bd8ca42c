use Rattle.std.proofs.Common.{◌≡◌, ◌++◌, ◌∷◌, [], List, ℕ, true, false, Option, Some, None, refl, sym, ap, ◌∙◌}
use Rattle.std.specs.Prelude.{not, if◌then◌else◌}
use Rattle.std.specs.Option.{option_copied, option_map_or, is_some}
use Rattle.std.specs.Str.{bytes_eq}
use Rattle.bb_tree.specs.Draft.{DraftValue, path_labelled, names_another}
use Rattle.bb_tree.specs.Slots.{slots_tree}
use Rattle.std.specs.Prelude.{Result, Err}
use Rattle.bb_tree.specs.declared.tree_error.TreeError.{TreeError}
use Rattle.bb_tree.specs.declared.tree_error.TreeError.TheVariants.{NoMemory, DuplicateLabel}
use Rattle.bb_tree.proofs.Nodes.{err_gives}
use Rattle.bb_tree.proofs.Changing.{lookup_entries, not_some}
use Rattle.bb_tree.proofs.draft.Draft.label.Goals as goal

pub returns-then-ne-clause-duplicate : goal.returns-then-ne-clause-duplicate
returns-then-ne-clause-duplicate c =
    let path = c.args.path.now in
    let known : path_labelled c.args.self.now.labels c.args.label.now ≡ Some c.in-Some.other.now =
    ap (λ (d : DraftValue). path_labelled d.labels c.args.label.now) (sym c.self.view_is)
    ∙ sym (c.get.ensures.value ∙ lookup_entries c.args.label.now c.self.inside.labels.entries)
    ∙ ap option_copied c.in-Some.is in
    let other : names_another c.args.self.now.labels c.args.label.now path ≡ true =
    ap (λ (o : Option (List ℕ)). option_map_or (λ p. not (bytes_eq p path)) o false) known
    ∙ ap (λ (n : List ℕ). not (bytes_eq n path)) (sym c.as_str.ensures) ∙ sym c.if-ne.ensures in
    (λ _. other, λ _. refl)

pub returns-in-Some-clause-ok : goal.returns-in-Some-clause-ok
returns-in-Some-clause-ok c =
    let known : path_labelled c.args.self.now.labels c.args.label.now ≡ Some c.in-Some.other.now =
    ap (λ (d : DraftValue). path_labelled d.labels c.args.label.now) (sym c.self.view_is)
    ∙ sym (c.get.ensures.value ∙ lookup_entries c.args.label.now c.self.inside.labels.entries)
    ∙ ap option_copied c.in-Some.is in
    let d = c.args.self.now in
    ap (λ (o : Option (List ℕ)). record {
      tree = d.tree;
      labels = if is_some o then d.labels else d.labels
          ++ (c.args.label.now, c.args.path.now) ∷ [];
      reserved = d.reserved;
    }) (sym known)

pub returns-in-Some-clause-duplicate : goal.returns-in-Some-clause-duplicate
returns-in-Some-clause-duplicate c =
    let path = c.args.path.now in
    let known : path_labelled c.args.self.now.labels c.args.label.now ≡ Some c.in-Some.other.now =
    ap (λ (d : DraftValue). path_labelled d.labels c.args.label.now) (sym c.self.view_is)
    ∙ sym (c.get.ensures.value ∙ lookup_entries c.args.label.now c.self.inside.labels.entries)
    ∙ ap option_copied c.in-Some.is in
    let same : names_another c.args.self.now.labels c.args.label.now path ≡ false =
    ap (λ (o : Option (List ℕ)). option_map_or (λ p. not (bytes_eq p path)) o false) known
    ∙ ap (λ (n : List ℕ). not (bytes_eq n path)) (sym c.as_str.ensures) ∙ sym c.if-ne.ensures in
    (λ e. cc, λ e. cc (same, e))

pub add_label-requires : goal.add_label-requires
add_label-requires c =
    sym (c.get.ensures.value ∙ lookup_entries c.args.label.now c.self.inside.labels.entries)
    ∙ ap option_copied (not_some c.get.result c.in_default.not-Some)

pub returns-in_err-add_label-clause-duplicate : goal.returns-in_err-add_label-clause-duplicate
returns-in_err-add_label-clause-duplicate c =
    let none : path_labelled c.args.self.now.labels c.args.label.now ≡ None =
    ap (λ (d : DraftValue). path_labelled d.labels c.args.label.now) (sym c.self.view_is)
    ∙ sym (c.get.ensures.value ∙ lookup_entries c.args.label.now c.self.inside.labels.entries)
    ∙ ap option_copied (not_some c.get.result c.in_default.not-Some) in
    let new : names_another c.args.self.now.labels c.args.label.now c.args.path.now ≡ false =
    ap (λ (o : Option (List ℕ)). option_map_or (λ p. not (bytes_eq p c.args.path.now)) o false) none
    in (
      λ e. absurd (two (sym (err_gives c.from_residual.result NoMemory c.from_residual.ensures.1)
          ∙ e)),
      λ e. cc (new, e),
    )
  where
    two : ◌≡◌ {A = Result (Unit {0}) TreeError} (Err NoMemory) (Err DuplicateLabel) → ⊥
    two e = cc

pub returns-clause-ok : goal.returns-clause-ok
returns-clause-ok c =
    let none : path_labelled c.args.self.now.labels c.args.label.now ≡ None =
    ap (λ (d : DraftValue). path_labelled d.labels c.args.label.now) (sym c.self.view_is)
    ∙ sym (c.get.ensures.value ∙ lookup_entries c.args.label.now c.self.inside.labels.entries)
    ∙ ap option_copied (not_some c.get.result c.in_default.not-Some) in
    let d = c.args.self.now in
    let i = c.self.inside in
    let with_labels : List (List ℕ × List ℕ) → DraftValue =
    λ l. record { tree = slots_tree i.slots.items; labels = l; reserved = i.reserved } in
    ap with_labels c.in_ok-add_label.ensures.ok
    ∙ ap (λ (x : DraftValue). record {
      tree = x.tree;
      labels = x.labels ++ (c.args.label.now, c.args.path.now) ∷ [];
      reserved = x.reserved;
    })
    c.self.view_is
    ∙ ap (λ (o : Option (List ℕ)). record {
      tree = d.tree;
      labels = if is_some o then d.labels else d.labels
          ++ (c.args.label.now, c.args.path.now) ∷ [];
      reserved = d.reserved;
    }) (sym none)

pub returns-clause-duplicate : goal.returns-clause-duplicate
returns-clause-duplicate c =
    let none : path_labelled c.args.self.now.labels c.args.label.now ≡ None =
    ap (λ (d : DraftValue). path_labelled d.labels c.args.label.now) (sym c.self.view_is)
    ∙ sym (c.get.ensures.value ∙ lookup_entries c.args.label.now c.self.inside.labels.entries)
    ∙ ap option_copied (not_some c.get.result c.in_default.not-Some) in
    let new : names_another c.args.self.now.labels c.args.label.now c.args.path.now ≡ false =
    ap (λ (o : Option (List ℕ)). option_map_or (λ p. not (bytes_eq p c.args.path.now)) o false) none
    in
    (λ e. cc, λ e. cc (new, e))
