-- Worked entries, by computation alone, after the checks of length and of UTF-8.
use Rattle.std.proofs.Common.{◌≡◌, ℕ, List, [], ◌∷◌, ◌++◌, refl, codes, Ok, Err, Some, None}
use Rattle.bb_bls.specs.Entry.{entry_in, pair_of, pairs_of}
use Rattle.bb_bls.specs.declared.error.EntryError.TheVariants.{NoLinux}

lf : List ℕ → List ℕ
lf line = line ++ 10 ∷ []

-- the worked entry: options are joined by one space
worked_entry : entry_in (pairs_of (lf (codes "title Board") ++ lf (codes "linux /zImage") ++ lf (codes "options root=/dev/mmcblk0p1") ++ lf (codes "options rw"))) ≡ Ok (record {
  title = codes "Board";
  version = [];
  machine_id = [];
  sort_key = [];
  architecture = [];
  linux = codes "/zImage";
  options = codes "root=/dev/mmcblk0p1 rw";
  devicetree = [];
  initrds = [];
})
unfolding lf
worked_entry = refl

-- each key, the last of those that are repeated, each initrd, and what is passed over
every_key : entry_in (pairs_of (lf (codes "linux /a") ++ lf (codes "# linux /b") ++ lf (codes "#linux /c") ++ lf (codes "linux") ++ lf (codes "linux /d")
    ++ lf (codes "version 6.1") ++ lf (codes "machine-id 4098") ++ lf (codes "sort-key board") ++ lf (codes "architecture arm64")
    ++ lf (codes "devicetree /a.dtb") ++ lf (codes "initrd /i") ++ lf (codes "initrd /j") ++ lf (codes "efi /e") ++ codes "title A b")) ≡ Ok (record {
      title = codes "A b";
      version = codes "6.1";
      machine_id = codes "4098";
      sort_key = codes "board";
      architecture = codes "arm64";
      linux = codes "/d";
      options = [];
      devicetree = codes "/a.dtb";
      initrds = codes "/i" ∷ codes "/j" ∷ [];
    })
unfolding lf
every_key = refl

-- ---- lines

blanks_around : pair_of (9 ∷ codes " linux " ++ 9 ∷ codes " /z Image " ++ 9 ∷ []) ≡ Some (codes "linux", codes "/z Image")
blanks_around = refl

no_value : pair_of (codes "linux " ++ 9 ∷ []) ≡ None
no_value = refl

an_empty_line : pair_of [] ≡ None
an_empty_line = refl

blanks_alone : pair_of (codes " " ++ 9 ∷ []) ≡ None
blanks_alone = refl

-- a CR before a LF isn't the line's, one at the end of the text is
returns_at_ends : pairs_of (codes "a b" ++ 13 ∷ 10 ∷ codes "c d" ++ 13 ∷ []) ≡ (codes "a", codes "b") ∷ (codes "c", codes "d" ++ 13 ∷ []) ∷ []
returns_at_ends = refl

-- ---- refusals

nothing : entry_in (pairs_of []) ≡ Err NoLinux
nothing = refl

comments_alone : entry_in (pairs_of (codes "# linux /z")) ≡ Err NoLinux
comments_alone = refl
