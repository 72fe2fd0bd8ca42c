use Rattle.std.proofs.Common.{◌≡◌, List, ℕ, Bor, true, length, map, take}
use Rattle.std.specs.List.{list_all}
use Rattle.std.specs.Str.{is_utf8}
use Rattle.bb_layout.specs.Fields.{parts_of}
use Rattle.bb_layout.proofs.fields.texts.Given as goal

abbrev now : Bor (List ℕ) → List ℕ
now y = y.now

-- the strings so far are taken, and are UTF-8
abbrev pub invariant-loop-part : goal.invariant-loop-part
invariant-loop-part l = record {
  so_far : map now l.yielded ≡ take (length l.yielded) (parts_of l.front);
  taken : l.texts ≡ take (length l.yielded) (parts_of l.front);
  all : list_all is_utf8 (take (length l.yielded) (parts_of l.front)) ≡ true;
}
