use Rattle.std.proofs.Common.{◌≡◌, map}
use Rattle.std.specs.List.{range_with_len}
use Rattle.bb_state.specs.Kinds.{bucket_at}
use Rattle.bb_state.proofs.backing.buckets_of.Given as goal

-- the buckets of the copies so far
abbrev pub invariant-loop-copy : goal.invariant-loop-copy
invariant-loop-copy l = l.buckets ≡ map (bucket_at l.layout.geometry l.layout.storage l.layout.region l.most) (range_with_len 0 l.copy)
