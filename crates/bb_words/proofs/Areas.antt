-- Areas from hexadecimal digits.
use Rattle.std.proofs.Common.{◌≡◌, ℕ, ◌*◌, List, Ok, length, arith}
use Rattle.hex.specs.Hex.{decode_of}
use Rattle.hex.proofs.HexLemmas.{decode_of-ok}

pub decoded_sized : (digits bytes : List ℕ) (n : ℕ) → length digits ≡ 2 * n → decode_of digits ≡ Ok bytes → length bytes ≡ n
decoded_sized digits bytes n twice decoded =
    let read = decode_of-ok digits bytes decoded in
    let same = read.2 in
    omega arith
