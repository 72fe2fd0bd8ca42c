-- What was read of a folder so far. Only private contracts and proofs cite it.
use Rattle.std.specs.Prelude.{◌≡◌, ℕ, true, List, All, filter, map, Option, None, Err}
use Rattle.std.specs.Bool.{MatchBool}
use Rattle.std.specs.Option.{ForSome}
use Rattle.bb_base.specs.Folder.{Folder, file_of, has_folder, names_in}
use Rattle.bb_base.specs.declared.files.FileFail.TheVariants.{TooLong}
use Rattle.bb_menu.specs.Menu.{FileRead, IsReadOf, item_of_text, items_read, path_in_folder}
use Rattle.bb_menu.specs.Order.{is_menu_name}
use Rattle.bb_menu.specs.declared.item.MenuItem.{MenuItem}

-- an item, or none, comes of reading the file of this name
pub record IsItemRead (folder : Folder) (dir name : List ℕ) (item : Option MenuItem) : Type 0 where
  pub text : Option (List ℕ)
  pub gives : item ≡ item_of_text name text
  pub told : IsReadOf folder dir (name, text)

-- the same where the name may be one that no menu takes in
abbrev pub IsNameRead : Folder → List ℕ → List ℕ → Option MenuItem → Type 0
IsNameRead folder dir name item =
    MatchBool (is_menu_name name) (IsItemRead folder dir name item) (item ≡ None)

-- a menu takes in a file of this name, and it is too long, where the files are told
pub record IsLongFile (folder : Folder) (dir name : List ℕ) : Type 0 where
  pub named : is_menu_name name ≡ true
  pub told : ForSome folder.told (λ files. file_of files (path_in_folder dir name) ≡ Err TooLong)

-- these items come of reading the files of these names, as far as a menu takes them in
pub record AreItemsRead (folder : Folder) (dir : List ℕ) (names : List (List ℕ)) (items : List MenuItem)
    : Type 0 where
  pub reads : List FileRead
  pub named : map (λ r. r.0) reads ≡ filter is_menu_name names
  pub gives : items ≡ items_read reads
  pub told : All (IsReadOf folder dir) reads

-- these are the names in a folder, where the files are told
abbrev pub AreNamesOf : Folder → List ℕ → List (List ℕ) → Type 0
AreNamesOf folder dir names =
    ForSome folder.told (λ files. (has_folder files dir ≡ true) × (names ≡ names_in files dir))
