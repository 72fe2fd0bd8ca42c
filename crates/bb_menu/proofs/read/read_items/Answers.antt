use Rattle.std.proofs.Common.{◌≡◌, ◌≤◌, ℕ, ◌+◌, List, ◌++◌, ◌∷◌, [], Err, Some, None, arith, length, rules, slice_get, subst, sym, take, ◌∙◌}
use Rattle.std.proofs.lemmas.List.{take_all}
use Rattle.bb_menu.proofs.Folders.{item_added, item_missing, item_too_long, name_there}
use Rattle.bb_menu.specs.Reading.{AreItemsRead, IsNameRead}
use Rattle.bb_menu.specs.declared.fault.MenuFault.TheVariants.{FileTooLong}
use Rattle.bb_menu.proofs.read.read_items.Goals as goal
use Rattle.bb_menu.proofs.read.read_items.Goals.{in-Some+in_ok-push, in_default}

pub returns-in_err-item-clause-too_long : goal.returns-in_err-item-clause-too_long
returns-in_err-item-clause-too_long g c h =
    let before = g.F.Files.folder c.args.files.now in
    let later = g.F.Files.folder c.loop-name.files in
    let name = c.as_str.result.now in
    let long : c.read_named.result ≡ Err FileTooLong = search rules in
    let there : slice_get c.args.names.now c.loop-name.name-index ≡ Some name =
    name_there c.args.names.now c.as_slice-name-items.result.now c.loop-name.name-index c.name-item.result name c.as_slice-name-items.ensures (omega arith)
    c.name-item.is c.as_str.ensures in
    item_too_long before later c.loop-name.invariant.told c.args.dir.now c.args.names.now c.loop-name.name-index name there
    c.loop-name.menu c.loop-name.invariant.read (c.read_named.ensures.too_long long)

pub loop-name-preserved : goal.loop-name-preserved
loop-name-preserved g c =
    let before = g.F.Files.folder c.args.files.now in
    let later = g.F.Files.folder c.loop-name.files in
    let dir = c.args.dir.now in
    let names = c.args.names.now in
    let place = c.loop-name.name-index in
    let name = c.as_str.result.now in
    let there : slice_get names place ≡ Some name =
    name_there names c.as_slice-name-items.result.now place c.name-item.result name c.as_slice-name-items.ensures (omega arith) c.name-item.is
    c.as_str.ensures in
    let told = c.read_named.ensures.told ∙ c.loop-name.invariant.told in
    let faults = c.in_ok-item.ensures.counts ∙ c.loop-name.invariant.faults in
    elim c.match-branch-2.branch [
      | in-Some+in_ok-push w ↦
          let item = w.in-Some.item in
          let added : c.match-branch-2.menu ≡ c.loop-name.menu ++ item ∷ [] = search rules in
          record {
            read =
                subst (AreItemsRead before dir (take (place + 1) names)) (sym added)
                (item_added before later c.loop-name.invariant.told dir names place name there c.loop-name.menu c.loop-name.invariant.read item
                (subst (IsNameRead later dir name) w.in-Some.is c.in_ok-item.ensures.ok));
            told = told;
            faults = faults;
          }
      | in_default w ↦
          let none : c.in_ok-item.field-0 ≡ None = search rules in
          record {
            read =
                subst (AreItemsRead before dir (take (place + 1) names)) (sym w.menu-is)
                (item_missing before later c.loop-name.invariant.told dir names place name there c.loop-name.menu c.loop-name.invariant.read
                (subst (IsNameRead later dir name) none c.in_ok-item.ensures.ok));
            told = told;
            faults = faults;
          }
    ]

pub returns-clause-ok : goal.returns-clause-ok
returns-clause-ok g c =
    let names = c.args.names.now in
    let ended : length names ≤ c.loop-name.name-index =
    subst (λ (l : List (List ℕ)). length l ≤ c.loop-name.name-index) c.as_slice-name-items.ensures c.loop-name-test.false in
    subst (λ (l : List (List ℕ)). AreItemsRead (g.F.Files.folder c.args.files.now) c.args.dir.now l c.loop-name.menu)
    (take_all c.loop-name.name-index names ended) c.loop-name.invariant.read
