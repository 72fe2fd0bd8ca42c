use Rattle.std.proofs.Common.{◌≡◌, ◌<◌, arith, bit_xor, get_or, length}
use Rattle.std.proofs.lemmas.Grind.{common_steps}
use Rattle.std.proofs.lemmas.List.Edits.{map_over_more}
use Rattle.bb_hmac.proofs.key.Key.masked_block.Goals as goal

pub loop-byte-preserved : goal.loop-byte-preserved
loop-byte-preserved c =
    let items = c.loop-byte.byte-items in
    let i = c.loop-byte.byte-index in
    let inside : i < length c.self.inside.block = grind (arith, common_steps) in
    let read : get_or items i 0 ≡ get_or items i (get_or items i 0) = grind (arith, common_steps) in
    map_over_more (λ byte. bit_xor byte c.args.pad) c.self.inside.block items i (get_or items i 0) inside c.loop-byte.invariant read
