use Rattle.std.proofs.Common.{◌≡◌, take}
use Rattle.bb_menu.specs.Reading.{AreItemsRead}
use Rattle.bb_menu.proofs.read.read_items.Given as goal

-- the files of the names so far were read, without a fault
abbrev pub invariant-loop-name : goal.invariant-loop-name
invariant-loop-name g l = record {
  read : AreItemsRead (g.F.Files.folder l.fn.files) l.dir (take l.name-index l.names) l.menu;
  told : (g.F.Files.folder l.files).told ≡ (g.F.Files.folder l.fn.files).told;
  faults : (g.F.Files.folder l.files).faults ≡ (g.F.Files.folder l.fn.files).faults;
}
