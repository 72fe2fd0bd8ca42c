use Rattle.std.proofs.Common.{◌≡◌, map}
use Rattle.std.specs.List.{list_any}
use Rattle.std.specs.String.{string_bytes}
use Rattle.bb_base.specs.Folder.{has_folder, is_under}
use Rattle.bb_base.proofs.mem_files.MemFiles.has_folder.Given as goal

-- the names still to come settle the answer
abbrev pub invariant-loop-name : goal.invariant-loop-name
invariant-loop-name l = list_any (is_under l.dir) (map string_bytes l.name-iterator) ≡ has_folder l.self.files l.dir
