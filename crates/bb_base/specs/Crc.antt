-- CRC-32: the bits of the bytes, each byte's lowest first, are divided by the polynomial
-- x^32 + x^26 + x^23 + x^22 + x^16 + x^12 + x^11 + x^10 + x^8 + x^7 + x^5 + x^4 + x^2 + x + 1
-- (ISO 3309; RFC 1952, section 8). The register holds the remainder, its lowest bit being that of
-- x^31.
use Rattle.std.specs.Prelude.{◌≡◌, ℕ, ◌/◌, ◌%◌, ◌==◌, bit_xor, List, fold, if◌then◌else◌}

-- the register after one bit is divided off: the bit leaves it at the low end, and where it was 1,
-- the polynomial is taken off, which among remainders is an exclusive or
unfoldable pub after_bit : ℕ → ℕ
after_bit register = if register % 2 == 1 then bit_xor (register / 2) 0xedb88320 else register / 2

-- the register after eight bits are divided off
unfoldable pub after_eight_bits : ℕ → ℕ
after_eight_bits register =
    after_bit (after_bit (after_bit (after_bit
    (after_bit (after_bit (after_bit (after_bit register)))))))

-- the register after the next byte is added at the low end, and divided off
unfoldable pub after_byte : ℕ → ℕ → ℕ
after_byte register byte = after_eight_bits (bit_xor register byte)

-- The register begins with ones, which inverts the first 32 bits, and in the end the remainder is
-- inverted.
abbrev pub crc_of : List ℕ → ℕ
crc_of bytes = bit_xor (fold after_byte 0xffffffff bytes) 0xffffffff

-- these are all the bytes that a CRC with this register was fed
abbrev pub HasFed : ℕ → List ℕ → Type 0
HasFed register fed = register ≡ fold after_byte 0xffffffff fed
