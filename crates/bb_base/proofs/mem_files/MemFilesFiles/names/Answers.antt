use Rattle.std.proofs.Common.{◌≡◌, ◌++◌, false, rules, sym, ap, ◌∙◌, append-nil, arith}
use Rattle.std.proofs.lemmas.Grind.{common_steps}
use Rattle.bb_base.specs.Folder.{has_folder}
use Rattle.bb_base.proofs.Under.{no_names}
use Rattle.bb_base.proofs.mem_files.MemFilesFiles.names.Goals as goal

pub returns-else-there-clause-names : goal.returns-else-there-clause-names
returns-else-there-clause-names c = λ files told.
    let none : has_folder files c.args.dir.now ≡ false = search rules in
    sym (append-nil _) ∙ ap (λ names. c.args.out.now ++ names) (sym (no_names files c.args.dir.now none))

pub returns-in_ok-append-clause-appended : goal.returns-in_ok-append-clause-appended
returns-in_ok-append-clause-appended c = grind (arith, common_steps)

pub returns-else-there-clause-appended : goal.returns-else-there-clause-appended
returns-else-there-clause-appended c = grind (arith, common_steps)
