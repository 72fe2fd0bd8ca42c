use Rattle.std.proofs.Common.{◌≡◌, List, ℕ, Bor, false, length, map, take}
use Rattle.std.specs.List.{list_any}
use Rattle.std.specs.Str.{bytes_eq}
use Rattle.bb_layout.specs.Fields.{parts_of}
use Rattle.bb_layout.proofs.fields.has_part.Given as goal

abbrev now : Bor (List ℕ) → List ℕ
now y = y.now

-- no string so far is the name
abbrev pub invariant-loop-part : goal.invariant-loop-part
invariant-loop-part l = record {
  so_far : map now l.yielded ≡ take (length l.yielded) (parts_of l.front);
  others : list_any (λ s. bytes_eq s l.name) (take (length l.yielded) (parts_of l.front)) ≡ false;
}
