-- What was read of a folder, and the menu that is made of it.
use Rattle.std.proofs.Common.{◌≡◌, ℕ, zero, suc, ◌+◌, ◌<◌, Bool, true, false, cond, if◌then◌else◌, IsTrue, List, [], ◌∷◌, ◌++◌, All, filter, get_or, length, map, take, Option, Some, None, Result, Ok, Err, IsOkAnd, Ordering, Less, Equal, Greater, refl, sym, ap, ap₂, subst, ◌∙◌, arith, slice_get}
use Rattle.std.proofs.lemmas.List.{append-nil, map-append}
use Rattle.std.proofs.lemmas.List.Elements.{All-append, All-cons, All-head, All-nil, All-tail, filter-append, filter_map-append, filter_passes}
use Rattle.std.proofs.lemmas.List.Kept.{IsStrictlySortedBy-filter}
use Rattle.std.proofs.lemmas.Map.Keys.{IsDistinct-IsPermutation, IsDistinct-from_sorted, apart_from_distinct}
use Rattle.std.proofs.lemmas.Option.{slice_get_read}
use Rattle.std.specs.Bool.{MatchBool}
use Rattle.std.specs.Cmp.{IsTotalOrder, eq_by_cmp_equiv, on_total}
use Rattle.std.specs.Cmp.Lexicographic.{nat_list_cmp_total}
use Rattle.std.specs.List.{AllAdjacentBelow, AllByRecursion, cons_option}
use Rattle.std.specs.List.Sorted.{IsPermutation, IsStrictlySortedBy}
use Rattle.std.specs.Option.{ForSome, option_and_then, option_map}
use Rattle.std.specs.Ordering.{eq_by_cmp, is_eq, on, ordering_reverse}
use Rattle.std.specs.Result.{result_ok}
use Rattle.bb_base.proofs.Names.{names_rise}
use Rattle.bb_base.specs.Folder.{FileMap, Folder, file_of, names_in}
use Rattle.bb_base.specs.declared.files.FileFail.TheVariants.{TooLong}
use Rattle.bb_bls.specs.Entry.{entry_of}
use Rattle.bb_bls.specs.declared.entry.Entry.{Entry}
use Rattle.bb_menu.proofs.Orders.{menu_total, tied_names}
use Rattle.bb_menu.specs.Menu.{FileRead, IsArranged, IsMenuOf, IsMenuRead, IsReadOf, item_by, item_of_text, item_onto, items_in, items_of_folder, items_read, path_in_folder}
use Rattle.bb_menu.specs.Order.{MenuBefore, is_menu_name, menu_cmp, named_entry}
use Rattle.bb_menu.specs.Reading.{AreItemsRead, AreNamesOf, IsItemRead, IsLongFile, IsNameRead}
use Rattle.bb_menu.specs.Version.{text_cmp}
use Rattle.bb_menu.specs.declared.fault.MenuFault.{MenuFault}
use Rattle.bb_menu.specs.declared.fault.MenuFault.TheVariants.{FileTooLong, NoFolder}
use Rattle.bb_menu.specs.declared.item.MenuItem.{MenuItem}

-- ---- the items of what was read are those of the files

abbrev pub IsFileText : FileMap → List ℕ → FileRead → Type 0
IsFileText files dir r = file_of files (path_in_folder dir r.0) ≡ Ok r.1

onto_items : (item : Option MenuItem) (items : List MenuItem) → item_onto (Ok item) (Ok items) ≡ Ok (cons_option item items)
onto_items (Some item) items = refl
onto_items None items = refl

onto_fault : (item : Option MenuItem) (fault : MenuFault) → item_onto (Ok item) (Err fault) ≡ Err fault
onto_fault (Some item) fault = refl
onto_fault None fault = refl

pub read_items_in : (files : FileMap) (dir : List ℕ) (reads : List FileRead) → All (IsFileText files dir) reads →
    items_in files dir (map (λ r. r.0) reads) ≡ Ok (items_read reads)
read_items_in files dir [] h = refl
read_items_in files dir (r ∷ reads) h =
    ap₂ (λ answer items. item_onto (item_by r.0 answer) items) (All-head (IsFileText files dir) r reads h)
    (read_items_in files dir reads (All-tail (IsFileText files dir) r reads h))
    ∙ onto_items (item_of_text r.0 r.1) (items_read reads)

-- after what was read comes a file that is too long
pub long_items_in : (files : FileMap) (dir name : List ℕ) (reads : List FileRead) (more : List (List ℕ)) → All (IsFileText files dir) reads →
    file_of files (path_in_folder dir name) ≡ Err TooLong → items_in files dir (map (λ r. r.0) reads ++ name ∷ more) ≡ Err FileTooLong
long_items_in files dir name [] more h long = ap (λ answer. item_onto (item_by name answer) (items_in files dir more)) long
long_items_in files dir name (r ∷ reads) more h long =
    ap₂ (λ answer items. item_onto (item_by r.0 answer) items) (All-head (IsFileText files dir) r reads h)
    (long_items_in files dir name reads more (All-tail (IsFileText files dir) r reads h) long)
    ∙ onto_fault (item_of_text r.0 r.1) FileTooLong

-- ---- one name more

filter_taken : (name : List ℕ) (names : List (List ℕ)) → is_menu_name name ≡ true →
    filter is_menu_name (name ∷ names) ≡ name ∷ filter is_menu_name names
filter_taken name names h = ap (λ b. cond b (name ∷ filter is_menu_name names) (filter is_menu_name names)) h

filter_passed : (name : List ℕ) (names : List (List ℕ)) → is_menu_name name ≡ false →
    filter is_menu_name (name ∷ names) ≡ filter is_menu_name names
filter_passed name names h = ap (λ b. cond b (name ∷ filter is_menu_name names) (filter is_menu_name names)) h

-- the name at a place, as it is gone through
pub name_there : (names items : List (List ℕ)) (i : ℕ) (item name : List ℕ) → items ≡ names → i < length items → item ≡ get_or items i item
    → name ≡ item → slice_get names i ≡ Some name
name_there names items i item name same inside is spelt =
    ap (λ (l : List (List ℕ)). slice_get l i) (sym same) ∙ slice_get_read items (length items) i item refl inside is
    ∙ ap (λ (n : List ℕ). Some n) (sym spelt)

-- the names up to a place, that name, and those after it
record IsSplit (names : List (List ℕ)) (place : ℕ) (name : List ℕ) : Type 0 where
  pub rest : List (List ℕ)
  pub whole : names ≡ take place names ++ name ∷ rest
  pub next : take (place + 1) names ≡ take place names ++ name ∷ []

split_at : (names : List (List ℕ)) (place : ℕ) (name : List ℕ) → slice_get names place ≡ Some name → IsSplit names place name
split_at [] place name h = absurd cc
split_at (x ∷ names) zero name h =
    let is : x ≡ name = cc in
    record {
      rest = names;
      whole = ap (λ n. n ∷ names) is;
      next = ap (λ n. n ∷ []) is;
    }
split_at (x ∷ names) (suc place) name h =
    let later = split_at names place name h in
    let one : suc place + 1 ≡ suc (place + 1) = omega arith in
    record {
      rest = later.rest;
      whole = ap (λ l. x ∷ l) later.whole;
      next = ap (λ n. take n (x ∷ names)) one ∙ ap (λ l. x ∷ l) later.next;
    }

module _ (before later : Folder) (same : later.told ≡ before.told) (dir : List ℕ) where
  read_before : (r : FileRead) → IsReadOf later dir r → IsReadOf before dir r
  read_before r h files told = h files (same ∙ told)

  -- the items of the names up to a place, and what that name gives
  items_by : (done : List (List ℕ)) (name : List ℕ) (item : Option MenuItem) (items : List MenuItem) →
      AreItemsRead before dir done items → IsNameRead later dir name item →
      AreItemsRead before dir (done ++ name ∷ []) (items ++ cons_option item [])
  items_by done name item items are read = by (is_menu_name name) refl read
    where
      by : (b : Bool) → is_menu_name name ≡ b → MatchBool b (IsItemRead later dir name item) (item ≡ None) →
          AreItemsRead before dir (done ++ name ∷ []) (items ++ cons_option item [])
      by true taken one =
          let r : FileRead = (name, one.text) in
          record {
            reads = are.reads ++ r ∷ [];
            named =
                map-append (λ x. x.0) are.reads (r ∷ [])
                ∙ ap₂ (λ a b. a ++ b) are.named (sym (filter_taken name [] taken)) ∙ sym (filter-append is_menu_name done (name ∷ []));
            gives =
                ap₂ (λ a b. a ++ cons_option b []) are.gives one.gives
                ∙ sym (filter_map-append (λ x. item_of_text x.0 x.1) are.reads (r ∷ []));
            told =
                All-append (IsReadOf before dir) are.reads (r ∷ []) are.told
                (All-cons (IsReadOf before dir) r [] (read_before r one.told) (All-nil (IsReadOf before dir)));
          }
      by false passed none = record {
        reads = are.reads;
        named =
            are.named ∙ sym (append-nil (filter is_menu_name done))
            ∙ ap (λ l. filter is_menu_name done ++ l) (sym (filter_passed name [] passed)) ∙ sym (filter-append is_menu_name done (name ∷ []));
        gives = ap (λ o. items ++ cons_option o []) none ∙ append-nil items ∙ are.gives;
        told = are.told;
      }

  module _ (names : List (List ℕ)) (place : ℕ) (name : List ℕ) (here : slice_get names place ≡ Some name) (items : List MenuItem)
      (are : AreItemsRead before dir (take place names) items) where
    pub item_added : (item : MenuItem) → IsNameRead later dir name (Some item) → AreItemsRead before dir (take (place + 1) names) (items ++ item ∷ [])
    item_added item read =
        subst (λ l. AreItemsRead before dir l (items ++ item ∷ [])) (sym (split_at names place name here).next)
        (items_by (take place names) name (Some item) items are read)

    pub item_missing : IsNameRead later dir name None → AreItemsRead before dir (take (place + 1) names) items
    item_missing read =
        subst (λ l. AreItemsRead before dir l items) (sym (split_at names place name here).next)
        (subst (λ l. AreItemsRead before dir (take place names ++ name ∷ []) l) (append-nil items) (items_by (take place names) name None items are read))

    pub item_too_long : IsLongFile later dir name → ForSome before.told (λ files. items_in files dir (filter is_menu_name names) ≡ Err FileTooLong)
    item_too_long long files told =
        let parts = split_at names place name here in
        ap (λ l. items_in files dir (filter is_menu_name l)) parts.whole
        ∙ ap (items_in files dir)
        (filter-append is_menu_name (take place names) (name ∷ parts.rest)
        ∙ ap₂ (λ a b. a ++ b) (sym are.named) (filter_taken name parts.rest long.named))
        ∙ long_items_in files dir name are.reads (filter is_menu_name parts.rest) (λ k d inside. are.told k d inside files told) (long.told files (same ∙ told))

pub are_before : (before later : Folder) → later.told ≡ before.told → (dir : List ℕ) (names : List (List ℕ)) (items : List MenuItem) →
    AreItemsRead later dir names items → AreItemsRead before dir names items
are_before before later same dir names items are = record {
  reads = are.reads;
  named = are.named;
  gives = are.gives;
  told = λ k d inside files told. are.told k d inside files (same ∙ told);
}

-- ---- the names of items rise

named_item : (name : List ℕ) (entry : Option Entry) (item : MenuItem) → option_map (named_entry name) entry ≡ Some item → item.name ≡ name
named_item name (Some entry) item h = let is : named_entry name entry ≡ item = cc in sym (ap (λ i. i.name) is)
named_item name None item h = absurd cc

item_named : (r : FileRead) (item : MenuItem) → item_of_text r.0 r.1 ≡ Some item → item.name ≡ r.0
item_named r item h = named_item r.0 (option_and_then (λ bytes. result_ok (entry_of bytes)) r.1) item h

abbrev pub name_cmp : MenuItem → MenuItem → Ordering
name_cmp = on (λ i. i.name) text_cmp

abbrev FollowsName : List ℕ → List ℕ → Type 0
FollowsName name next = text_cmp name next ≡ Less

abbrev FollowsItem : List ℕ → MenuItem → Type 0
FollowsItem name item = text_cmp name item.name ≡ Less

items_follow : (name : List ℕ) (reads : List FileRead) → AllByRecursion (FollowsName name) (map (λ r. r.0) reads) →
    AllByRecursion (FollowsItem name) (items_read reads)
items_follow name [] h = tt
items_follow name (r ∷ reads) h =
    let rest = items_follow name reads h.1 in
    elim (item_of_text r.0 r.1) as (λ o. item_of_text r.0 r.1 ≡ o → AllByRecursion (FollowsItem name) (cons_option o (items_read reads))) [
      | None ↦ λ _. rest
      | Some item ↦ λ is. (subst (FollowsName name) (sym (item_named r item is)) h.0, rest)
    ] refl

items_rise : (reads : List FileRead) → IsStrictlySortedBy text_cmp (map (λ r. r.0) reads) → IsStrictlySortedBy name_cmp (items_read reads)
unfolding IsStrictlySortedBy
items_rise [] h = tt
items_rise (r ∷ reads) h =
    elim (item_of_text r.0 r.1) as (λ o. item_of_text r.0 r.1 ≡ o → IsStrictlySortedBy name_cmp (cons_option o (items_read reads))) [
      | None ↦ λ _. items_rise reads h.1
      | Some item ↦ λ is. (
        subst (λ n. AllByRecursion (FollowsItem n) (items_read reads)) (sym (item_named r item is)) (items_follow r.0 reads h.0),
        items_rise reads h.1,
      )
    ] refl

-- ---- items with names of their own, none of which stands in front of the one before it

name_total : IsTotalOrder name_cmp
name_total = on_total (λ i. i.name) nat_list_cmp_total

same_name : (a b : MenuItem) → a.name ≡ b.name → eq_by_cmp name_cmp a b ≡ true
same_name a b h = ap (λ n. is_eq (text_cmp a.name n)) (sym h) ∙ (eq_by_cmp_equiv name_total).refl a

stands_before : (a b : MenuItem) → eq_by_cmp name_cmp a b ≡ false → ¬ MenuBefore b a → MenuBefore a b
stands_before a b apart arranged = by (menu_cmp a b) refl
  where
    back : (o : Ordering) → Greater ≡ ordering_reverse o → o ≡ Less
    back Less e = refl
    back Equal e = absurd cc
    back Greater e = absurd cc

    by : (o : Ordering) → menu_cmp a b ≡ o → MenuBefore a b
    by Less e = e
    by Equal e = absurd (let no : true ≡ false = sym (same_name a b (tied_names a b e)) ∙ apart in cc)
    by Greater e = absurd (arranged (back (menu_cmp b a) (sym e ∙ menu_total.antisymm a b)))

each_before : (items menu : List MenuItem) → IsStrictlySortedBy name_cmp items → IsPermutation items menu → IsArranged menu →
    AllAdjacentBelow MenuBefore menu (length menu)
each_before items menu rise moved arranged k d inside =
    let distinct = IsDistinct-IsPermutation (eq_by_cmp name_cmp) (eq_by_cmp_equiv name_total).symm items menu moved (IsDistinct-from_sorted name_cmp items rise) in
    stands_before (get_or menu k d) (get_or menu (k + 1) d) (apart_from_distinct (eq_by_cmp name_cmp) menu k (k + 1) d distinct (omega arith) inside)
    (arranged k d inside)

-- ---- the menu

module _ (folder : Folder) (dir : List ℕ) (names : List (List ℕ)) (items menu : List MenuItem) (are : AreItemsRead folder dir names items)
    (moved : IsPermutation items menu) (arranged : IsArranged menu) where
  pub menu_of_files : AreNamesOf folder dir names → ForSome folder.told (λ files. IsOkAnd (items_of_folder files dir) (λ found. IsMenuOf found menu))
  menu_of_files named files told =
      let here = named files told in
      let taken : filter is_menu_name (names_in files dir) ≡ map (λ r. r.0) are.reads = ap (filter is_menu_name) (sym here.1) ∙ sym are.named in
      let rise = subst (IsStrictlySortedBy text_cmp) taken (IsStrictlySortedBy-filter text_cmp is_menu_name (names_in files dir) (names_rise files dir)) in
      let found : items_of_folder files dir ≡ Ok items =
      ap (λ b. if b then items_in files dir (filter is_menu_name (names_in files dir)) else Err NoFolder) here.0
      ∙ ap (items_in files dir) taken ∙ read_items_in files dir are.reads (λ k d inside. are.told k d inside files told) ∙ ap Ok (sym are.gives) in
      subst (λ (r : Result (List MenuItem) MenuFault). IsOkAnd r (λ l. IsMenuOf l menu)) (sym found)
      (record {
        each_once = moved;
        ordered = each_before items menu (subst (IsStrictlySortedBy name_cmp) (sym are.gives) (items_rise are.reads rise)) moved arranged;
      })

  pub menu_of_reads : IsMenuRead folder dir menu
  menu_of_reads = record {
    reads = are.reads;
    named = unmapped are.reads (subst (All (λ n. IsTrue (is_menu_name n))) (sym are.named) (filter_passes is_menu_name names));
    told = are.told;
    each_once = subst (λ l. IsPermutation l menu) are.gives moved;
    arranged = arranged;
  }
    where
      unmapped : (reads : List FileRead) → All (λ n. IsTrue (is_menu_name n)) (map (λ r. r.0) reads) → All (λ r. IsTrue (is_menu_name r.0)) reads
      unmapped [] h = All-nil (λ r. IsTrue (is_menu_name r.0))
      unmapped (r ∷ reads) h =
          All-cons (λ x. IsTrue (is_menu_name x.0)) r reads
          (All-head (λ n. IsTrue (is_menu_name n)) r.0 (map (λ x. x.0) reads) h)
          (unmapped reads (All-tail (λ n. IsTrue (is_menu_name n)) r.0 (map (λ x. x.0) reads) h))
