-- Worked plan files, by computation alone.
use Rattle.std.proofs.Common.{◌≡◌, ℕ, List, [], ◌∷◌, ◌++◌, refl, codes}
use Rattle.std.specs.Fmt.{digits}
use Rattle.bbx.specs.PlanFile.{plan_text}

lf : List ℕ → List ℕ
lf line = line ++ 10 ∷ []

-- the worked entry has a kernel and options alone
worked_plan : plan_text (record {
  place = 1;
  linux = codes "/zImage";
  initrds = [];
  options = codes "root=/dev/mmcblk0p1 rw";
  devicetree = [];
}) ≡ lf (codes "place 1") ++ lf (codes "linux /zImage") ++ lf (codes "options root=/dev/mmcblk0p1 rw")
unfolding lf digits
worked_plan = refl

every_line : plan_text (record {
  place = 12;
  linux = codes "/l";
  initrds = codes "/i" ∷ codes "/j" ∷ [];
  options = codes "rw";
  devicetree = codes "/d";
}) ≡ lf (codes "place 12") ++ lf (codes "linux /l") ++ lf (codes "initrd /i") ++ lf (codes "initrd /j")
    ++ lf (codes "options rw") ++ lf (codes "devicetree /d")
unfolding lf digits
every_line = refl
