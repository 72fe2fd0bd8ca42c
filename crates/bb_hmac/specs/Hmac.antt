-- HMAC (RFC 2104, section 2) with SHA-256 (FIPS 180-4), which hashes blocks of 64 bytes.
use Rattle.std.specs.Prelude.{ℕ, ◌-◌, List, ◌++◌, length, map, replicate, nat_lt, bit_xor, if◌then◌else◌}
use Rattle.sha2.specs.Sha256.{sha256}

-- a key of more than a block is hashed first
abbrev pub short_key : List ℕ → List ℕ
short_key key = if nat_lt 64 (length key) then sha256 key else key

-- zero bytes are appended up to the length of a block
abbrev pub filled_block : List ℕ → List ℕ
filled_block key = key ++ replicate (64 - length key) 0

-- the block that a key is used as
abbrev pub key_block : List ℕ → List ℕ
key_block key = filled_block (short_key key)

-- each byte of the key's block, exclusive or the byte of a pad
abbrev pub masked_block : ℕ → List ℕ → List ℕ
masked_block pad key = map (λ byte. bit_xor byte pad) (key_block key)

-- the byte of the inner pad
abbrev pub ipad : ℕ
ipad = 0x36

-- the byte of the outer pad
abbrev pub opad : ℕ
opad = 0x5c

-- the code of the text under the key
abbrev pub hmac_of : List ℕ → List ℕ → List ℕ
hmac_of key text = sha256 (masked_block opad key ++ sha256 (masked_block ipad key ++ text))
