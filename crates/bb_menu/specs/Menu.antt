-- The menu of a folder: which of its files are read, which of these are entries, and in which order
-- they stand.
use Rattle.std.specs.Prelude.{◌≡◌, ℕ, ◌==◌, Bool, true, false, IsTrue, List, [], ◌∷◌, ◌++◌, All, filter, filter_map, length, option_map, Option, Some, None, Result, Ok, Err, if◌then◌else◌}
use Rattle.std.specs.List.{AllAdjacentBelow, flat_map, reduce}
use Rattle.std.specs.List.Sorted.{IsPermutation}
use Rattle.std.specs.Option.{ForSome, option_and_then}
use Rattle.std.specs.Ordering.{is_lt}
use Rattle.std.specs.Path.{slash}
use Rattle.std.specs.Result.{result_ok}
use Rattle.bb_base.specs.Folder.{FileMap, Folder, file_of, has_folder, names_in}
use Rattle.bb_base.specs.declared.files.FileFail.{FileFail}
use Rattle.bb_base.specs.declared.files.FileFail.TheVariants as file_fails
use Rattle.bb_bls.specs.Entry.{entry_of}
use Rattle.bb_bls.specs.declared.entry.Entry.{Entry}
use Rattle.bb_menu.specs.Order.{MenuBefore, is_menu_name, menu_cmp, named_entry}
use Rattle.bb_menu.specs.declared.fault.MenuFault.{MenuFault}
use Rattle.bb_menu.specs.declared.fault.MenuFault.TheVariants.{NoFolder, FileFault, FileTooLong, NoMemory}
use Rattle.bb_menu.specs.declared.item.MenuItem.{MenuItem}

-- ---- one file

-- under which name a file of a folder is read
abbrev pub path_in_folder : List ℕ → List ℕ → List ℕ
path_in_folder dir name = dir ++ slash ∷ name

-- the item of a file by its text: none where there is no text, or where that is no entry
abbrev pub item_of_text : List ℕ → Option (List ℕ) → Option MenuItem
item_of_text name text =
    option_map (named_entry name) (option_and_then (λ bytes. result_ok (entry_of bytes)) text)

-- the same by what reading the file gave, or why there is no menu
abbrev pub item_by : List ℕ → Result (Option (List ℕ)) FileFail → Result (Option MenuItem) MenuFault
item_by name (Ok text) = Ok (item_of_text name text)
item_by name (Err file_fails.Fault) = Err FileFault
item_by name (Err file_fails.TooLong) = Err FileTooLong
item_by name (Err file_fails.NoMemory) = Err NoMemory

-- ---- all files

-- in front of other items. What is no menu stays none
abbrev pub item_onto :
    Result (Option MenuItem) MenuFault → Result (List MenuItem) MenuFault → Result (List MenuItem) MenuFault
item_onto (Ok (Some item)) (Ok items) = Ok (item ∷ items)
item_onto (Ok (Some item)) (Err fault) = Err fault
item_onto (Ok None) items = items
item_onto (Err fault) items = Err fault

-- the items of the files with these names in a folder; the first that can't be read decides
abbrev pub items_in : FileMap → List ℕ → List (List ℕ) → Result (List MenuItem) MenuFault
items_in files dir [] = Ok []
items_in files dir (name ∷ names) =
    item_onto (item_by name (file_of files (path_in_folder dir name))) (items_in files dir names)

-- the items of a folder's menu, in the order of their names, or why there is no menu
abbrev pub items_of_folder : FileMap → List ℕ → Result (List MenuItem) MenuFault
items_of_folder files dir =
    if has_folder files dir
    then items_in files dir (filter is_menu_name (names_in files dir))
    else Err NoFolder

-- ---- the menu

-- each of the items that were found stands in the menu once and nothing else does, and each stands
-- in front of the next
pub record IsMenuOf (found menu : List MenuItem) : Type 0 where
  pub each_once : IsPermutation found menu
  pub ordered : AllAdjacentBelow MenuBefore menu (length menu)

-- that of two items which stands in front, and that of all items, if there is one
abbrev pub foremost : MenuItem → MenuItem → MenuItem
foremost a b = if is_lt (menu_cmp b a) then b else a

abbrev pub first_item : List MenuItem → Option MenuItem
first_item = reduce foremost

-- none stands in front of the one before it
abbrev pub IsArranged : List MenuItem → Type 0
IsArranged menu = AllAdjacentBelow (λ item next. ¬ MenuBefore next item) menu (length menu)

-- the menu with one item more, in front of the first that it stands in front of
abbrev pub menu_with : MenuItem → List MenuItem → List MenuItem
menu_with item [] = item ∷ []
menu_with item (next ∷ menu) =
    if is_lt (menu_cmp item next) then item ∷ next ∷ menu else next ∷ menu_with item menu

-- the menu of the items that were found: each is put in its place
abbrev pub menu_of : List MenuItem → List MenuItem
menu_of [] = []
menu_of (item ∷ found) = menu_with item (menu_of found)

-- the name of a file that was read, and its text, if there is such a file
abbrev pub FileRead : Type 0
FileRead = List ℕ × Option (List ℕ)

-- the items of what was read
abbrev pub items_read : List FileRead → List MenuItem
items_read reads = filter_map (λ r. item_of_text r.0 r.1) reads

-- where the files are told, this is one of the folder's
abbrev pub IsReadOf : Folder → List ℕ → FileRead → Type 0
IsReadOf folder dir r = ForSome folder.told (λ files. file_of files (path_in_folder dir r.0) ≡ Ok r.1)

-- Whatever the files are, a menu has what was read, each under a name that a menu takes in.
pub record IsMenuRead (folder : Folder) (dir : List ℕ) (menu : List MenuItem) : Type 0 where
  pub reads : List FileRead
  pub named : All (λ r. IsTrue (is_menu_name r.0)) reads
  pub told : All (IsReadOf folder dir) reads
  pub each_once : IsPermutation (items_read reads) menu
  pub arranged : IsArranged menu

-- the answer says that a call of the files met a fault
abbrev pub is_menu_fault : {X : Type 0} → Result X MenuFault → Bool
is_menu_fault (Ok menu) = false
is_menu_fault (Err NoFolder) = false
is_menu_fault (Err FileFault) = true
is_menu_fault (Err FileTooLong) = false
is_menu_fault (Err NoMemory) = false

-- ---- the text of a menu

-- what an entry is called: its title, or its kernel's file where the title is empty
abbrev pub menu_label : Entry → List ℕ
menu_label entry = if length entry.title == 0 then entry.linux else entry.title

-- a file's name, a space, what its entry is called, and LF
abbrev pub menu_line : MenuItem → List ℕ
menu_line item = item.name ++ 32 ∷ (menu_label item.entry ++ 10 ∷ [])

-- a line for each item, in order
abbrev pub menu_text : List MenuItem → List ℕ
menu_text menu = flat_map menu_line menu

-- the text of the menu of these items, or why there is none: a folder that isn't there has none
abbrev pub menu_answer_by :
    Result (List MenuItem) MenuFault → Result (Option (List ℕ)) FileFail
menu_answer_by (Ok found) = Ok (Some (menu_text (menu_of found)))
menu_answer_by (Err NoFolder) = Ok None
menu_answer_by (Err FileFault) = Err file_fails.Fault
menu_answer_by (Err FileTooLong) = Err file_fails.TooLong
menu_answer_by (Err NoMemory) = Err file_fails.NoMemory

-- the text of a folder's menu, none where there is no such folder, or why a file isn't read
abbrev pub menu_answer : FileMap → List ℕ → Result (Option (List ℕ)) FileFail
menu_answer files dir = menu_answer_by (items_of_folder files dir)

-- whatever the files are, a text is that of a menu that was read
pub record IsMenuTextRead (folder : Folder) (dir text : List ℕ) : Type 0 where
  pub menu : List MenuItem
  pub read : IsMenuRead folder dir menu
  pub gives : text ≡ menu_text menu
