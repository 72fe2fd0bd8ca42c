-- How a history ends, by how its reading ended.
use Rattle.std.proofs.Common.{◌≡◌, ℕ, Bool, true, false, if◌then◌else◌, List, [], Option, Some, None, Result, Ok, Err, refl, sym, ap, subst, inl, inr}
use Rattle.std.specs.Option.{option_and_then, option_map_or}
use Rattle.std.proofs.lemmas.Bool.{false≢true}
use Rattle.std.proofs.lemmas.Option.{none-some, same_Some}
use Rattle.bb_copies.specs.declared.answers.CopyFault.TheVariants as copy_faults
use Rattle.bb_flash.specs.Device.{Device, content}
use Rattle.bb_flash.specs.Image.{Image}
use Rattle.bb_flash.specs.declared.region.Region.{Region}
use Rattle.bb_history.specs.History.{Adds, ReadsHistory, history_text}
use Rattle.bb_history.specs.declared.fault.HistoryFault.{HistoryFault}
use Rattle.bb_history.specs.declared.fault.HistoryFault.TheVariants as faults
use Rattle.bb_plan.specs.declared.plan.Work.TheVariants.{History}
use Rattle.bb_plan.specs.declared.refusal.Refusal.{Refusal}
use Rattle.bb_plan.specs.declared.refusal.Refusal.TheVariants as refusals
use Rattle.bb_session.specs.Acting.{listing}
use Rattle.bb_session.specs.Doing.{EndsWith}
use Rattle.bb_session.specs.Listing.{ReportsHistory}
use Rattle.bb_session.specs.Looking.{first_found, passed_in}
use Rattle.bb_session.specs.Session.{stopped_after}
use Rattle.bb_session.specs.Work.{IsWorkedOut}
use Rattle.bb_session.specs.declared.report.Report.{Report}
use Rattle.bb_session.proofs.Worked.{text_ends, worked_out}
use Rattle.bb_state.specs.Keyed.{Keyed}

module _ (keyed : Keyed) (from to : Device) where
  -- what the device holds, where it tells that
  abbrev Found : Option (List ℕ)
  Found = option_and_then (λ image. first_found (passed_in keyed from.geometry.page image)) (content from)

  abbrev Whole : List ℕ
  Whole = option_map_or (λ image. history_text keyed from.geometry.page image) (content from) []

  found_there : (image : Image) → content from ≡ Some image →
      Found ≡ first_found (passed_in keyed from.geometry.page image)
  found_there image held =
      ap (option_and_then (λ i. first_found (passed_in keyed from.geometry.page i))) held

  whole_there : (image : Image) → content from ≡ Some image →
      Whole ≡ history_text keyed from.geometry.page image
  whole_there image held =
      ap (λ (o : Option Image). option_map_or (λ i. history_text keyed from.geometry.page i) o []) held

  pub history_out : {T : Type 0} (text : List ℕ) (read : Result T HistoryFault) (given : Result Report Refusal) →
      ReadsHistory (history_text keyed from.geometry.page) from to [] text read →
      ReportsHistory text read given → IsWorkedOut keyed History from to given
  history_out text (Ok done) given reads is =
      worked_out keyed History from to (Ok Found) (listing text) given
      (record {
        looked = record {
          told = found_there;
          fails = tt;
          faults = reads.faults;
          read_faults = reads.read_faults;
          quiet = reads.quiet;
        };
        alone = refl;
        listed = reads.told;
      }) (text_ends text [] given (inl is))
  history_out text (Err faults.ReadFault) given reads is =
      worked_out keyed History from to (Err copy_faults.ReadFault) (listing text) given
      (record {
        looked = record {
          told = λ image told. tt;
          fails = refl;
          faults = reads.faults;
          read_faults = reads.read_faults;
          quiet = reads.quiet;
        };
        alone = refl;
        listed = reads.told;
      })
      (subst (EndsWith (stopped_after text refusals.ReadFault)) (sym is) (inl (refl, refl)))
  history_out text (Err faults.NoMemory) given reads is =
      inr (inl (record {
        load = Ok Found;
        answers = listing Whole;
        work = record {
          looked = record {
            told = found_there;
            fails = tt;
            faults = reads.faults;
            read_faults = reads.read_faults;
            quiet = reads.quiet;
          };
          alone = refl;
          listed = whole_there;
        };
        whole = tt;
        is = is;
      }))

-- the same reading of a text that is the same
pub reads_as : {T : Type 0} (one two : Image → List ℕ) (from to : Device) (old new : List ℕ) (given : Result T HistoryFault) →
    ((image : Image) → one image ≡ two image) → ReadsHistory one from to old new given →
    ReadsHistory two from to old new given
reads_as one two from to old new given same reads = record {
  told = λ image held.
      subst (λ (whole : List ℕ). Adds whole old new given) (same image) (reads.told image held);
  quiet = reads.quiet;
  faults = reads.faults;
  read_faults = reads.read_faults;
}

-- ---- where the copies stand

pub region_is : (there : Bool) (region given : Region) →
    Some given ≡ (if there then Some region else None) → given ≡ region
region_is true region given is = same_Some given region is
region_is false region given is = absurd (none-some given (sym is))

pub region_missing : (there : Bool) (region : Region) →
    None ≡ (if there then Some region else None) → there ≡ true → ⊥
region_missing true region is at = none-some region is
region_missing false region is at = false≢true at
