-- Worked values, by computation alone.
use Rattle.std.proofs.Common.{◌≡◌, [], ◌∷◌, ◌++◌, refl, codes, replicate, Ok, Err}
use Rattle.hex.specs.Hex.{decode_pairs, encode_lower, encode_with}
use Rattle.sha2.specs.Sha256.{compress, digest_bytes, first_words, hash_after, rounds, schedule, sha256}
use Rattle.bb_hmac.specs.Hmac.{hmac_of}
use Rattle.bb_hmac.specs.Key.{key_of}
use Rattle.bb_hmac.specs.declared.error.KeyError.TheVariants.{BadHex, Empty}

-- RFC 4231, section 4.3
code_under_jefe : encode_lower (hmac_of (codes "Jefe") (codes "what do ya want for nothing?")) ≡ codes "5bdcc146bf60754e6a042426089575c75a003f089d2739839dec58b964ec3843"
unfolding first_words schedule rounds compress hash_after digest_bytes sha256 encode_with
code_under_jefe = refl

-- section 4.7: a key of 131 bytes
code_under_a_long_key : encode_lower (hmac_of (replicate 131 0xaa) (codes "Test Using Larger Than Block-Size Key - Hash Key First")) ≡ codes "60e431591ee0b67f0d8a26aacbf5b77f8e0bc6213728c5140546040f0ee37f54"
unfolding first_words schedule rounds compress hash_after digest_bytes sha256 encode_with
code_under_a_long_key = refl

key_in_hexadecimal : key_of (codes "4a656665") ≡ Ok (codes "Jefe")
unfolding decode_pairs
key_in_hexadecimal = refl

blanks_at_the_end : key_of (codes "4A656665 " ++ 9 ∷ 13 ∷ 10 ∷ []) ≡ Ok (codes "Jefe")
unfolding decode_pairs
blanks_at_the_end = refl

nothing : key_of [] ≡ Err Empty
nothing = refl

blanks_alone : key_of (codes " " ++ 13 ∷ 10 ∷ []) ≡ Err Empty
blanks_alone = refl

an_odd_digit : key_of (codes "4a6") ≡ Err (BadHex 3)
an_odd_digit = refl

-- a byte that is no digit comes before an odd number, and a blank inside is none
a_blank_inside : key_of (codes "4a 65") ≡ Err (BadHex 2)
a_blank_inside = refl

a_blank_in_front : key_of (codes " 4a65") ≡ Err (BadHex 0)
a_blank_in_front = refl
