use Rattle.std.proofs.Common.{◌≡◌, ◌/◌, arith, length, refl, take}
use Rattle.std.proofs.lemmas.List.{length-take-le}
use Rattle.bb_hmac.proofs.PairBytes.{decoded, decoded_into, length_pair_bytes, pair_bytes}
use Rattle.bb_hmac.proofs.key.write_bytes.Goals as goal

pub unwrap-requires : goal.unwrap-requires
unwrap-requires c =
    let digits = c.args.digits.now in
    let even = c.requires.spelt.even in
    let room = length-take-le (length digits / 2) c.args.out.now (omega arith) in
    let e = decoded_into digits (length (take (length digits / 2) c.args.out.now)) (omega (arith, room)) c.requires.spelt in
    let done = rw e at c.decode_to_slice.ensures.value in
    rw done.0 refl

pub returns : goal.returns
returns c =
    let digits = c.args.digits.now in
    let even = c.requires.spelt.even in
    let room = length-take-le (length digits / 2) c.args.out.now (omega arith) in
    let e = decoded_into digits (length (take (length digits / 2) c.args.out.now)) (omega (arith, room)) c.requires.spelt in
    let done = rw e at c.decode_to_slice.ensures.value in
    let count : length digits / 2 ≡ length (pair_bytes digits) = omega (arith, length_pair_bytes digits even) in
    rw (decoded digits c.requires.spelt, done.1, count) refl
