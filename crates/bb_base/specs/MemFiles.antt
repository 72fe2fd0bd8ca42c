-- What files in memory are, and what a call makes of them.
use Rattle.std.specs.Prelude.{ℕ, ◌==◌, Bool, List, map, Some, String, refl, if◌then◌else◌}
use Rattle.std.specs.Coded.{Coded, code_by, coded×, coded_list, coded_ℕ}
use Rattle.std.specs.FinMap.{code}
use Rattle.std.specs.List.{list_any}
use Rattle.std.specs.String.{string_bytes}
use Rattle.bb_base.specs.Faults.{one_more}
use Rattle.bb_base.specs.Folder.{FileMap, Folder}

-- the files, which calls are to fail, how many were made, and how many failed
pub record Stored : Type 0 where
  pub files : FileMap
  pub planned : List ℕ
  pub calls : ℕ
  pub faults : ℕ

-- a value of this type is kept as the tuple of its fields
abbrev pub stored_code : Coded Stored
stored_code =
    code_by (FileMap × (List ℕ × (ℕ × ℕ)))
    (coded× (code (coded_list coded_ℕ) (coded_list coded_ℕ))
    (coded× (coded_list coded_ℕ) (coded× coded_ℕ coded_ℕ)))
    (λ s. (s.files, (s.planned, (s.calls, s.faults))))
    (λ t. record { files = t.0; planned = t.1.0; calls = t.1.1.0; faults = t.1.1.1 })
    (λ _. refl)

-- entries whose names are texts, by the texts' bytes
abbrev pub by_bytes : {Y : Type 0} → List (String Y × List ℕ) → List (List ℕ × List ℕ)
by_bytes entries = map (λ e. (string_bytes e.0, e.1)) entries

-- all files are told
abbrev pub folder_of : Stored → Folder
folder_of stored = record { told = Some stored.files; faults = stored.faults }

-- the next call is planned to fail
abbrev pub refuses_next : Stored → Bool
refuses_next stored = list_any (λ n. n == stored.calls) stored.planned

-- a call counts, and where it is planned to fail its fault counts too
abbrev pub after_call : Stored → Stored
after_call stored =
    record stored {
      calls = one_more stored.calls;
      faults = if refuses_next stored then one_more stored.faults else stored.faults;
    }
