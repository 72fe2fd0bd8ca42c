-- What a load takes of the copies, and what it leaves of them, as lists of what they pass.
use Rattle.std.proofs.Common.{◌≡◌, ℕ, Bool, List, [], ◌∷◌, Option, Some, None, is_some, unwrap_or, refl, sym, ap, subst, ◌∙◌, if◌then◌else◌}
use Rattle.std.specs.Option.{IfSome}
use Rattle.std.specs.Prelude.{All}
use Rattle.std.specs.List.{AllByRecursion}
use Rattle.std.proofs.lemmas.Bool.{cond_both}
use Rattle.std.proofs.lemmas.Option.{same_Some}
use Rattle.std.proofs.lemmas.List.Elements.{All-from_recursion}
use Rattle.bb_copies.specs.Saving.{KeepsUsed}
use Rattle.bb_copies.specs.StandsFor.{EachPassesOrNothing, IsAreaOrNone, SomeIsSpared, SomePasses, first_passed}
use Rattle.bb_copies.specs.Store.{used_after}
use Rattle.bb_copies.specs.declared.answers.Loaded.{Loaded}
use Rattle.bb_copies.specs.declared.answers.Loaded.TheVariants.{Copy, NoCopy}
use Rattle.bb_copies.proofs.Marks.{none_each}
use Rattle.bb_flash.specs.Device.{Device, content}
use Rattle.bb_flash.specs.Image.{Image}
use Rattle.bb_shell.proofs.Reached.{passes_some}
use Rattle.bb_state.specs.Keyed.{Keyed}
use Rattle.bb_shell.specs.Stages.{first_area}
use Rattle.bb_layout.specs.Convert.{convert}
use Rattle.bb_session.specs.Looking.{first_found, passed_in}
use Rattle.bb_session.specs.Session.{loaded_area}
use Rattle.bb_session.specs.Work.{IsLoadedArea, IsLoadedAs, area_taken}

pub found_first : (first area : List ℕ) (passed : List (Option (List ℕ))) → SomePasses passed →
    first_passed first passed ≡ area → Some area ≡ first_found passed
found_first first area [] some is = absurd cc
found_first first area (None ∷ passed) some is = found_first first area passed some is
found_first first area (Some other ∷ passed) some is = ap (λ x. Some x) (sym is)

pub found_none : (passed : List (Option (List ℕ))) → (SomePasses passed → ⊥) → None ≡ first_found passed
found_none [] none = refl
found_none (None ∷ passed) none = found_none passed none
found_none (Some area ∷ passed) none = absurd (none refl)

pub none_all : (passed : List (Option (List ℕ))) → (SomePasses passed → ⊥) → All (λ area. area ≡ None) passed
none_all passed none = All-from_recursion (λ area. area ≡ None) passed (by passed none)
  where
    by : (passed : List (Option (List ℕ))) → (SomePasses passed → ⊥) → AllByRecursion (λ area. area ≡ None) passed
    by [] none = tt
    by (None ∷ passed) none = (refl, by passed none)
    by (Some area ∷ passed) none = absurd (none refl)

-- the area of the first that passes, or the one of an empty device
pub found_or : (first : List ℕ) (passed : List (Option (List ℕ))) → unwrap_or (first_found passed) first ≡ first_passed first passed
found_or first [] = refl
found_or first (None ∷ passed) = found_or first passed
found_or first (Some area ∷ passed) = refl

-- what a load took is what the first copy passes that passes one
pub load_found : (keyed : Keyed) (area : List ℕ) (loaded : Loaded) (from to : Device) (x : Image) →
    IsLoadedArea keyed area loaded from to → content from ≡ Some x →
    area_taken area loaded ≡ first_found (passed_in keyed from.geometry.page x)
load_found keyed area (Copy used live len old) from to x found e =
    let entry = found.gives.entry x e in
    found_first first_area area (passed_in keyed from.geometry.page x) entry.some
    (entry.first first_area)
load_found keyed area NoCopy from to x found e =
    found_none (passed_in keyed from.geometry.page x) (found.gives.none x e)

-- and the table is what the layout reads of the area
pub load_area : (keyed : Keyed) (area : List ℕ) (loaded : Loaded) (from to : Device) →
    IsLoadedArea keyed area loaded from to → loaded_area keyed.layout (area_taken area loaded) ≡ convert keyed.layout area
load_area keyed area (Copy used live len old) from to found = refl
load_area keyed area NoCopy from to found = ap (convert keyed.layout) (sym found.says)

-- what a load left that answered Ok
pub record IsLeft (keyed : Keyed) (used : Option ℕ) (found : Option (List ℕ)) (before after : List (Option (List ℕ))) : Type 0 where
  pub each : EachPassesOrNothing (first_passed first_area before) after
  pub spares : SomeIsSpared before after
  pub uses : KeepsUsed used after
  pub table : convert keyed.layout (first_passed first_area before) ≡ loaded_area keyed.layout found

load_left : (keyed : Keyed) (area : List ℕ) (loaded : Loaded) (from to : Device) (x y : Image) → IsLoadedArea keyed area loaded from to →
    content from ≡ Some x → content to ≡ Some y →
    IsLeft keyed (used_after loaded) (area_taken area loaded) (passed_in keyed from.geometry.page x) (passed_in keyed from.geometry.page y)
load_left keyed area (Copy used live len old) from to x y found e f =
    let after = passed_in keyed from.geometry.page y in
    let first = (found.gives.entry x e).first first_area in
    let kept = found.gives.exit.kept y f in
    record {
      each = subst (λ a. EachPassesOrNothing a after) (sym first) kept.each;
      spares = λ some. passes_some after used area kept.passes;
      uses = ap is_some kept.passes;
      table = ap (convert keyed.layout) first;
    }
load_left keyed area NoCopy from to x y found e f =
    let is = sym (same_Some y x (sym f ∙ found.gives.content ∙ e)) in
    let none = found.gives.none x e in
    let before = passed_in keyed from.geometry.page x in
    let first = first_passed first_area before in
    subst (λ z. IsLeft keyed None None before (passed_in keyed from.geometry.page z)) is
    (record {
      each = All-from_recursion (IsAreaOrNone first) before (none_each first before none);
      spares = λ some. absurd (none some);
      uses = none;
      table =
          ap (convert keyed.layout)
          (sym (found_or first_area before) ∙ ap (λ o. unwrap_or o first_area) (sym (found_none before none)));
    })

pub loaded_left : (keyed : Keyed) (used : Option ℕ) (found : Option (List ℕ)) (from to : Device) (x y : Image) → IsLoadedAs keyed used from to found →
    content from ≡ Some x → content to ≡ Some y → (page : ℕ) → from.geometry.page ≡ page →
    IsLeft keyed used found (passed_in keyed page x) (passed_in keyed page y)
loaded_left keyed used found from to x y gave e f page at_page =
    subst (λ p. IsLeft keyed used found (passed_in keyed p x) (passed_in keyed p y)) at_page
    (subst (λ o. IsLeft keyed used o (passed_in keyed from.geometry.page x) (passed_in keyed from.geometry.page y)) (sym gave.taken)
    (subst
    (λ u. IsLeft keyed u (area_taken gave.area gave.loaded) (passed_in keyed from.geometry.page x) (passed_in keyed from.geometry.page y))
    (sym gave.used_is) (load_left keyed gave.area gave.loaded from to x y gave.gave e f)))

-- what is kept before the first save is what was loaded, if anything is
pub kept_has : (P : List ℕ → Type 0) (always : Bool) (table : List ℕ) → P table → IfSome (if always then None else Some table) P
kept_has P always table is = cond_both always None (Some table) (λ o. IfSome o P) (λ e. tt) (λ e. is)
