use Rattle.std.proofs.Common.{◌≡◌, ◌<◌, ◌/◌, ◌%◌, ◌∙◌, ap, sym, arith, bit_and, slice_index_or}
use Rattle.std.specs.Int.Bits.{bit_xor}
use Rattle.std.proofs.lemmas.Nat.{and_mask}
use Rattle.bb_base.specs.Crc.{after_eight_bits}
use Rattle.bb_base.specs.declared.remainders.TheConstants.{REMAINDERS}
use Rattle.bb_base.proofs.Division.{table_at, after_byte-by_table}
use Rattle.bb_base.proofs.remainders.step.Goals as goal

-- the low byte's remainder is the table's, and the rest moves down
pub returns : goal.returns
returns c =
    let register = c.args.register in
    let byte = c.args.byte in
    let low : bit_and (bit_xor register c.from.result) 255 ≡ bit_xor register byte % 256 = and_mask (bit_xor register c.from.result) 8 ∙ ap (λ b. bit_xor register b % 256) c.from.ensures in
    let small : bit_xor register byte % 256 < 256 = omega arith in
    let found : c.remainder_of.result ≡ after_eight_bits (bit_xor register byte % 256) = c.remainder_of.ensures ∙ ap (λ i. slice_index_or REMAINDERS i 0) low ∙ table_at (bit_xor register byte % 256) small in
    ap (bit_xor (register / 256)) found ∙ sym (after_byte-by_table register byte (omega arith))
