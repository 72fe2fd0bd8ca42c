use Rattle.bb_menu.proofs.Folders.{are_before, menu_of_files, menu_of_reads}
use Rattle.bb_menu.proofs.read.read_menu.Goals as goal

pub returns-clause-ok : goal.returns-clause-ok
returns-clause-ok g c =
    let before = g.F.Files.folder c.args.files.now in
    let later = g.F.Files.folder c.read_names.new.files in
    let dir = c.args.dir.now in
    let names = c.in_ok-names.names in
    let are = are_before before later c.read_names.ensures.told dir names c.in_ok-menu.menu c.in_ok-menu.ensures.ok in
    menu_of_files before dir names c.in_ok-menu.menu c.arrange.new.self are c.arrange.ensures.each_once c.arrange.ensures.arranged c.in_ok-names.ensures.ok

pub returns-clause-read : goal.returns-clause-read
returns-clause-read g c =
    let before = g.F.Files.folder c.args.files.now in
    let later = g.F.Files.folder c.read_names.new.files in
    let dir = c.args.dir.now in
    let names = c.in_ok-names.names in
    let are = are_before before later c.read_names.ensures.told dir names c.in_ok-menu.menu c.in_ok-menu.ensures.ok in
    menu_of_reads before dir names c.in_ok-menu.menu c.arrange.new.self are c.arrange.ensures.each_once c.arrange.ensures.arranged
