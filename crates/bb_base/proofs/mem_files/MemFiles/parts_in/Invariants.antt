use Rattle.std.proofs.Common.{◌≡◌, ◌++◌, map, filter_map}
use Rattle.std.specs.String.{string_bytes}
use Rattle.bb_base.specs.Folder.{name_in, names_in}
use Rattle.bb_base.proofs.mem_files.MemFiles.parts_in.Given as goal

-- what is gathered and what the names still to come give make the whole
abbrev pub invariant-loop-name : goal.invariant-loop-name
invariant-loop-name l = l.names ++ filter_map (name_in l.dir) (map string_bytes l.name-iterator) ≡ names_in l.self.files l.dir
