-- A code for what a clause sees of a draft: the nodes written one after another, each followed by
-- the nodes in it and those beside it, and a mark where none follow.
use Rattle.std.specs.Prelude.{◌≡◌, refl, ℕ, Bool, true, false, List, [], ◌∷◌, ◌++◌, Option, Some, None, ◌⊎◌}
use Rattle.std.proofs.Common.{sym, ◌∙◌, ap, append_assoc, inl, inr, append-nil}
use Rattle.std.specs.Coded.{Coded, code_by, coded_ℕ, coded_bool, coded_list, coded_option, coded×, coded⊎}
use Rattle.bb_tree.specs.declared.part.Part.{Part}
use Rattle.bb_tree.specs.declared.part.Part.TheVariants.{Bytes, Cell, Path}
use Rattle.bb_tree.specs.Node.{Forest, empty, node, Branch}
use Rattle.bb_tree.specs.Draft.{DraftValue}

-- a node's name and properties, or the mark
abbrev pub Mark : Type 0 → Type 0
Mark V = Option (List ℕ × List (List ℕ × V))

module _ {V : Type 0} where
  abbrev pub marks : Forest V → List (Mark V)
  marks empty = None ∷ []
  marks (node n ps ks rest) = Some (n, ps) ∷ marks ks ++ marks rest

  abbrev pub join : List ℕ → List (List ℕ × V) → List (Forest V) → List (Forest V)
  join n ps [] = []
  join n ps (ks ∷ []) = []
  join n ps (ks ∷ rest ∷ more) = node n ps ks rest ∷ more

  abbrev pub forests : List (Mark V) → List (Forest V)
  forests [] = []
  forests (None ∷ ms) = empty ∷ forests ms
  forests (Some p ∷ ms) = join p.0 p.1 (forests ms)

  abbrev pub first : List (Forest V) → Forest V
  first [] = empty
  first (f ∷ fs) = f

  forests_marks : (f : Forest V) (ms : List (Mark V)) → forests (marks f ++ ms) ≡ f ∷ forests ms
  forests_marks empty ms = refl
  forests_marks (node n ps ks rest) ms =
      ap (λ l. join n ps (forests l)) (append_assoc (marks ks) (marks rest) ms)
      ∙ ap (join n ps) (forests_marks ks (marks rest ++ ms)
      ∙ ap (λ l. ks ∷ l) (forests_marks rest ms))

  pub first_forests : (f : Forest V) → first (forests (marks f)) ≡ f
  first_forests f =
      ap (λ l. first (forests l)) (sym (append-nil (marks f))) ∙ ap first (forests_marks f [])

  -- a node's name, and its properties
  abbrev pub props_code : Coded V → Coded (List ℕ × List (List ℕ × V))
  props_code v = coded× (coded_list coded_ℕ) (coded_list (coded× (coded_list coded_ℕ) v))

  abbrev pub forest_code : Coded V → Coded (Forest V)
  forest_code v =
      code_by (List (Mark V)) (coded_list (coded_option (props_code v)))
      marks (λ ms. first (forests ms)) first_forests

  abbrev pub branch_code : Coded V → Coded (Branch V)
  branch_code v =
      code_by (List ℕ × (List (List ℕ × V) × Forest V))
      (coded× (coded_list coded_ℕ)
      (coded× (coded_list (coded× (coded_list coded_ℕ) v)) (forest_code v)))
      (λ b. (b.name, (b.props, b.nodes)))
      (λ t. record { name = t.0; props = t.1.0; nodes = t.1.1 }) (λ _. refl)

-- a part as its bytes, or as whether it stands inside `< >`, its label and its offset
abbrev pub split : Part → List ℕ ⊎ (Bool × (List ℕ × ℕ))
split (Bytes b) = inl b
split (Cell l a) = inr (true, (l, a))
split (Path l a) = inr (false, (l, a))

abbrev pub reference : Bool → List ℕ → ℕ → Part
reference true l a = Cell l a
reference false l a = Path l a

abbrev pub seen_part : List ℕ ⊎ (Bool × (List ℕ × ℕ)) → Part
seen_part (inl b) = Bytes b
seen_part (inr r) = reference r.0 r.1.0 r.1.1

pub part_split : (p : Part) → seen_part (split p) ≡ p
part_split (Bytes b) = refl
part_split (Cell l a) = refl
part_split (Path l a) = refl

abbrev pub part_code : Coded Part
part_code =
    code_by (List ℕ ⊎ (Bool × (List ℕ × ℕ)))
    (coded⊎ (coded_list coded_ℕ) (coded× coded_bool (coded× (coded_list coded_ℕ) coded_ℕ)))
    split seen_part part_split

abbrev pub draft_code : Coded DraftValue
draft_code =
    code_by (Branch (List Part) × (List (List ℕ × List ℕ) × List (ℕ × ℕ)))
    (coded× (branch_code (coded_list part_code))
    (coded× (coded_list (coded× (coded_list coded_ℕ) (coded_list coded_ℕ)))
    (coded_list (coded× coded_ℕ coded_ℕ))))
    (λ d. (d.tree, (d.labels, d.reserved)))
    (λ t. record { tree = t.0; labels = t.1.0; reserved = t.1.1 }) (λ _. refl)
