-- The files of a drill: a state in three erase blocks of a small flash, the settings of two
-- targets, and an entry for each of them.
use Rattle.std.specs.Prelude.{ℕ, List, [], ◌∷◌, ◌++◌, codes}
use Rattle.std.specs.FinMap as map
use Rattle.bb_base.specs.Folder.{FileMap}

-- a text of lines, each with its end
abbrev pub text_of_lines : List (List ℕ) → List ℕ
text_of_lines [] = []
text_of_lines (line ∷ lines) = line ++ codes "\n" ++ text_of_lines lines

-- ---- their names

abbrev pub board_name : List ℕ
board_name = codes "board.dts"

abbrev pub settings_name : List ℕ
settings_name = codes "set.txt"

-- ---- what they hold

-- the source of the board: two targets in a state of five numbers
unfoldable pub board_text : List ℕ
board_text =
    text_of_lines
    (codes "/dts-v1/;"
    ∷ codes "/memreserve/\t0x0000000010000000 0x0000000000004000;"
    ∷ codes "/ {"
    ∷ codes "\t#address-cells = <0x01>;"
    ∷ codes "\t#size-cells = <0x01>;"
    ∷ codes "\tmodel = \"board\";"
    ∷ codes "\taliases { state = \"/state\"; };"
    ∷ codes "\tflash@0 {"
    ∷ codes "\t\treg = <0x00 0x100000>;"
    ∷ codes "\t\tpartitions {"
    ∷ codes "\t\t\tcompatible = \"fixed-partitions\";"
    ∷ codes "\t\t\t#address-cells = <0x01>;"
    ∷ codes "\t\t\t#size-cells = <0x01>;"
    ∷ codes "\t\t\tpartition@20000 {"
    ∷ codes "\t\t\t\tlabel = \"state\";"
    ∷ codes "\t\t\t\treg = <0x0 0x300>;"
    ∷ codes "\t\t\t\tphandle = <0x01>;"
    ∷ codes "\t\t\t};"
    ∷ codes "\t\t};"
    ∷ codes "\t};"
    ∷ codes "\tstate {"
    ∷ codes "\t\tcompatible = \"barebox,state\";"
    ∷ codes "\t\tmagic = <0x4d433230>;"
    ∷ codes "\t\tbackend-type = \"raw\";"
    ∷ codes "\t\tbackend = <0x01>;"
    ∷ codes "\t\tbackend-stridesize = <0x40>;"
    ∷ codes "\t\tbootstate {"
    ∷ codes "\t\t\tsystem0 {"
    ∷ (codes "\t\t\t\tremaining_attempts@0 { reg = <0x00 0x04>; type = \"uint32\"; "
    ++ codes "default = <0x03>; };")
    ∷ (codes "\t\t\t\tpriority@4 { reg = <0x04 0x04>; type = \"uint32\"; "
    ++ codes "default = <0x14>; };")
    ∷ codes "\t\t\t};"
    ∷ codes "\t\t\tsystem1 {"
    ∷ (codes "\t\t\t\tremaining_attempts@8 { reg = <0x08 0x04>; type = \"uint32\"; "
    ++ codes "default = <0x03>; };")
    ∷ (codes "\t\t\t\tpriority@c { reg = <0x0c 0x04>; type = \"uint32\"; "
    ++ codes "default = <0x0a>; };")
    ∷ codes "\t\t\t};"
    ∷ codes "\t\t\tlast_chosen@10 { reg = <0x10 0x04>; type = \"uint32\"; };"
    ∷ codes "\t\t};"
    ∷ codes "\t};"
    ∷ codes "};"
    ∷ [])

-- the settings of bootchooser (barebox User Manual, Bootchooser)
unfoldable pub settings_text : List ℕ
settings_text =
    text_of_lines
    (codes "global.bootchooser.targets=\"system0 system1\""
    ∷ codes "global.bootchooser.state_prefix=state.bootstate"
    ∷ [])

-- the entry of each target (Boot Loader Specification)
unfoldable pub entry_text : List ℕ
entry_text =
    text_of_lines
    (codes "title Board"
    ∷ codes "linux /zImage"
    ∷ codes "options root=/dev/mmcblk0p1"
    ∷ codes "options rw"
    ∷ [])

-- all of them
unfoldable pub board_files : FileMap
board_files =
    map.insert
    (map.insert
    (map.insert (map.insert map.empty board_name board_text) settings_name settings_text)
    (codes "loader/entries/system0.conf") entry_text)
    (codes "loader/entries/system1.conf") entry_text
