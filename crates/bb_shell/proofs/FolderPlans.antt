-- The plan of a target by the first entry of a folder.
use Rattle.std.proofs.Common.{◌≡◌, ◌≢◌, ◌++◌, ℕ, ◌+◌, ◌-◌, Bor, arith, ap₂, length-append, true, cond, List, [], ◌∷◌, length, take, Option, Some, None, Result, Ok, Err, IsOkAnd, refl, sym, ap, subst, ◌∙◌, inl, inr, slice_get}
use Rattle.std.proofs.Math.Seq.{take-append_seam}
use Rattle.std.proofs.lemmas.Bool.{cases_Bool}
use Rattle.std.proofs.lemmas.Bool.Decides.{Decides-eqb}
use Rattle.std.proofs.lemmas.Slice.Eq.{ends_is}
use Rattle.std.specs.List.{ends_with}
use Rattle.std.specs.Option.{ForSome, MatchOption, option_and_then, option_copied, option_map}
use Rattle.std.specs.Path.{slash}
use Rattle.std.specs.Prelude.{nat_eq}
use Rattle.std.specs.Result.{result_ok}
use Rattle.bb_base.specs.Folder.{FileMap, Folder, file_of}
use Rattle.bb_bls.specs.Entry.{entry_of}
use Rattle.bb_bls.specs.declared.entry.Entry.{Entry}
use Rattle.bb_flash.specs.declared.plan.Plan.{Plan}
use Rattle.bb_menu.proofs.First.{first_found, first_is_read}
use Rattle.bb_menu.specs.Menu.{IsMenuOf, IsMenuRead, item_of_text, items_of_folder, path_in_folder}
use Rattle.bb_menu.specs.Order.{named_entry}
use Rattle.bb_menu.specs.declared.fault.MenuFault.{MenuFault}
use Rattle.bb_menu.specs.declared.item.MenuItem.{MenuItem}
use Rattle.bb_shell.specs.Plans.{EntryAnswer, IsPlanRead, answer_in, entry_answer, first_file, folder_answer, folder_by, folder_named, plan_by, plan_with}
use Rattle.bb_shell.specs.declared.plan_fault.PlanFault.{PlanFault}

-- ---- which folder a setting names

no_folder_named : (setting : List ℕ) → ((front : List ℕ) → setting ≢ front ++ slash ∷ []) → folder_named setting ≡ None
no_folder_named setting none =
    elim (cases_Bool (ends_with nat_eq setting (slash ∷ []))) [
      | inl e ↦ absurd (none _ ((ends_is Decides-eqb setting (slash ∷ []) _ refl).0 e))
      | inr e ↦ ap (λ b. cond b (Some (take (length setting - 1) setting)) None) e
    ]

pub folder_as_named : (setting : List ℕ) (named : Option (Bor (List ℕ))) →
    MatchOption named ((front : List ℕ) → setting ≢ front ++ slash ∷ []) (λ dir. setting ≡ dir.now ++ slash ∷ []) →
    option_copied named ≡ folder_named setting
folder_as_named setting None none = sym (no_folder_named setting none)
folder_as_named setting (Some dir) is =
    let ends : ends_with nat_eq setting (slash ∷ []) ≡ true = (ends_is Decides-eqb setting (slash ∷ []) _ refl).1 dir.now is in
    let many : length setting ≡ length dir.now + 1 = ap length is ∙ length-append dir.now (slash ∷ []) in
    let short : length setting - 1 ≡ length dir.now = omega (arith, many) in
    let front : take (length setting - 1) setting ≡ dir.now = ap₂ take short is ∙ take-append_seam dir.now (slash ∷ []) in
    sym (ap (λ b. cond b (Some (take (length setting - 1) setting)) None) ends ∙ ap Some front)

-- ---- its plan

-- the first entry's file
folder_first : (files : FileMap) (dir : List ℕ) (menu : List MenuItem) → IsOkAnd (items_of_folder files dir) (λ found. IsMenuOf found menu) →
    folder_answer files dir ≡ first_file files dir (slice_get menu 0)
folder_first files dir menu h = by (items_of_folder files dir) h
  where
    by : (r : Result (List MenuItem) MenuFault) → IsOkAnd r (λ found. IsMenuOf found menu) →
        folder_by files dir r ≡ first_file files dir (slice_get menu 0)
    by (Ok found) is = ap (first_file files dir) (sym (first_found found menu is))
    by (Err fault) is = absurd is

-- an item and a plan of one text
record IsOfText (target : ℕ) (name : List ℕ) (text : Option (List ℕ)) (item : MenuItem) : Type 0 where
  named : name ≡ item.name
  planned : Some (plan_with target item.entry) ≡ plan_by target text

of_text : (target : ℕ) (name : List ℕ) (text : Option (List ℕ)) (item : MenuItem) → item_of_text name text ≡ Some item →
    IsOfText target name text item
of_text target name text item is = by (option_and_then (λ bytes. result_ok (entry_of bytes)) text) refl is
  where
    by : (entry : Option Entry) → option_and_then (λ bytes. result_ok (entry_of bytes)) text ≡ entry →
        option_map (named_entry name) entry ≡ Some item → IsOfText target name text item
    by None e is = absurd cc
    by (Some entry) e is =
        let same : named_entry name entry ≡ item = cc in
        record {
          named = ap (λ i. i.name) same;
          planned = ap (λ i. Some (plan_with target i.entry)) (sym same) ∙ ap (option_map (plan_with target)) (sym e);
        }

module _ (folder : Folder) (dir : List ℕ) (target : ℕ) (menu : List MenuItem) where
  abbrev AreMenu : Type 0
  AreMenu = ForSome folder.told (λ files. IsOkAnd (items_of_folder files dir) (λ found. IsMenuOf found menu))

  abbrev HasPlan : Option MenuItem → Type 0
  HasPlan first =
      IsPlanRead target (λ files. folder_answer files dir) folder (Ok (option_map (λ item. plan_with target item.entry) first))

  pub folder_read : AreMenu → IsMenuRead folder dir menu → HasPlan (slice_get menu 0)
  folder_read are read = by (slice_get menu 0) refl
    where
      by : (first : Option MenuItem) → slice_get menu 0 ≡ first → HasPlan first
      by None is = record {
        answer = Ok None;
        answered = λ files told. folder_first files dir menu (are files told) ∙ ap (first_file files dir) is;
        gives = λ known. refl;
      }
      by (Some item) is =
          let of = first_is_read folder dir menu read item is in
          let both = of_text target of.read.0 of.read.1 item of.gives in
          record {
            answer = Ok of.read.1;
            answered = λ files told.
                folder_first files dir menu (are files told) ∙ ap (first_file files dir) is
                ∙ ap (λ n. file_of files (path_in_folder dir n)) (sym both.named) ∙ of.told files told;
            gives = λ known. ap Ok both.planned;
          }

-- a folder that isn't there, or has a file that is too long
pub folder_fault : (folder : Folder) (dir : List ℕ) (fault : MenuFault) (answer : EntryAnswer) →
    ForSome folder.told (λ files. items_of_folder files dir ≡ Err fault) → ((files : FileMap) → folder_by files dir (Err fault) ≡ answer) →
    ForSome folder.told (λ files. folder_answer files dir ≡ answer)
folder_fault folder dir fault answer is gives files told = ap (folder_by files dir) (is files told) ∙ gives files

-- ---- by a setting

pub setting_read : (target : ℕ) (setting : List ℕ) (named : Option (List ℕ)) (before : Folder) (given : Result (Option Plan) PlanFault) →
    named ≡ folder_named setting → IsPlanRead target (λ files. answer_in files setting named) before given →
    IsPlanRead target (λ files. entry_answer files setting) before given
setting_read target setting named before given is read =
    subst (λ (o : Option (List ℕ)). IsPlanRead target (λ files. answer_in files setting o) before given) is read
