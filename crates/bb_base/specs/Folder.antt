-- What is known of files by name.
use Rattle.std.specs.Prelude.{◌≡◌, ℕ, Bool, true, false, List, [], ◌∷◌, ◌++◌, length, drop, nat_eq, nat_lt, filter_map, Option, Some, None, unwrap_or, option_and_then, Result, Ok, Err, if◌then◌else◌}
use Rattle.std.specs.Cmp.Lexicographic.{slice_cmp}
use Rattle.std.specs.FinMap.{FinMap, get, keys}
use Rattle.std.specs.List.{list_any, starts_with}
use Rattle.std.specs.Ordering.{nat_cmp}
use Rattle.std.specs.Path.{rsplit_once, slash}
use Rattle.std.specs.Str.{bytes_eq}
use Rattle.bb_base.specs.Faults.{counted}
use Rattle.bb_base.specs.declared.files.FileFail.{FileFail}
use Rattle.bb_base.specs.declared.files.FileFail.TheVariants.{Fault, TooLong, NoMemory}

-- the files: each name with its file's bytes, in rising order of the names' bytes
abbrev pub FileMap : Type 0
FileMap = FinMap (slice_cmp nat_cmp) (List ℕ)

-- the files, where they are told, and how often a call met a fault
pub record Folder : Type 0 where
  pub told : Option FileMap
  pub faults : ℕ

-- the most bytes that a file may have: one MiB (this project's profile)
abbrev pub file_limit : ℕ
file_limit = 1048576

-- what is read of a name: its file, or none where there is no such name; a file that is too long
-- isn't read
abbrev pub file_of : FileMap → List ℕ → Result (Option (List ℕ)) FileFail
file_of files name =
    if nat_lt file_limit (length (unwrap_or (get files name) []))
    then Err TooLong
    else Ok (get files name)

-- what a name is in a folder: what stands after its last `/`, where the folder's name stands
-- before it
abbrev pub name_in : List ℕ → List ℕ → Option (List ℕ)
name_in dir name =
    option_and_then (λ parts. if bytes_eq parts.0 dir then Some parts.1 else None)
    (rsplit_once slash name)

-- the names in a folder, in rising order of their bytes
abbrev pub names_in : FileMap → List ℕ → List (List ℕ)
names_in files dir = filter_map (name_in dir) (keys files)

-- a name begins with the folder's name and a `/`
abbrev pub is_under : List ℕ → List ℕ → Bool
is_under dir name = starts_with nat_eq name (dir ++ slash ∷ [])

-- a folder is there where some name is under it, be it in a folder of its own
abbrev pub has_folder : FileMap → List ℕ → Bool
has_folder files dir = list_any (is_under dir) (keys files)

-- the file that a call read which answered so: the bytes that came after the old ones, if there is
-- such a file
abbrev pub file_read : Bool → List ℕ → List ℕ → Option (List ℕ)
file_read there old new = if there then Some (drop (length old) new) else None

-- the call met a fault
abbrev pub is_fault : Result Bool FileFail → Bool
is_fault (Ok there) = false
is_fault (Err Fault) = true
is_fault (Err TooLong) = false
is_fault (Err NoMemory) = false

-- a fault is counted once, and no other answer changes the count
abbrev pub CountsFaults : Result Bool FileFail → Folder → Folder → Type 0
CountsFaults result before now = now.faults ≡ counted (is_fault result) before.faults
