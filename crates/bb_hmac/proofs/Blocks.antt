-- The block of a key.
use Rattle.std.proofs.Common.{◌≡◌, ℕ, ◌-◌, ◌<◌, ◌≤◌, List, ◌++◌, ap, arith, bit_xor, cond, drop, inl, inr, length, length-append, map, replicate, ◌∙◌}
use Rattle.std.proofs.lemmas.Bool.{cases_lt, le-ltb, lt-ltb}
use Rattle.std.proofs.lemmas.List.{append-nil, drop-replicate, length-replicate}
use Rattle.sha2.proofs.Facts256.{length-sha256}
use Rattle.sha2.specs.Sha256.{sha256}
use Rattle.bb_hmac.specs.Hmac.{key_block, filled_block, hmac_of, ipad, opad, short_key}

pub filled_from : (out key : List ℕ) → out ≡ key ++ drop (length key) (replicate 64 0)
    → out ≡ filled_block key
filled_from out key e = e ∙ ap (λ l. key ++ l) (drop-replicate (length key) 64 0)

pub filled_hash : (key : List ℕ) → filled_block (sha256 key) ≡ sha256 key ++ replicate 32 0
filled_hash key = ap (λ n. sha256 key ++ replicate (64 - n) 0) (length-sha256 key)

pub block_of_long : (key : List ℕ) → 64 < length key → key_block key ≡ filled_block (sha256 key)
block_of_long key long = ap (λ b. filled_block (cond b (sha256 key) key)) (lt-ltb 64 (length key) long)

short : (key : List ℕ) → length (short_key key) ≤ 64
short key = elim (cases_lt 64 (length key)) [
  | inl long ↦ rw (lt-ltb 64 (length key) long, length-sha256 key) (omega arith)
  | inr few ↦ rw (le-ltb 64 (length key) few) few
]

pub length_block_of : (key : List ℕ) → length (key_block key) ≡ 64
length_block_of key =
    let few = short key in
    omega (arith, length-append (short_key key) (replicate (64 - length (short_key key)) 0), length-replicate {A = ℕ} (64 - length (short_key key)) 0)

block_of_block : (key : List ℕ) → key_block (key_block key) ≡ key_block key
block_of_block key =
    let whole = length_block_of key in
    ap (λ b. filled_block (cond b (sha256 (key_block key)) (key_block key))) (le-ltb 64 (length (key_block key)) (omega arith))
    ∙ ap (λ n. key_block key ++ replicate (64 - n) 0) whole ∙ append-nil (key_block key)

pub hmac_of_block : (key text : List ℕ) → hmac_of (key_block key) text ≡ hmac_of key text
hmac_of_block key text = ap (λ block. sha256 (map (λ byte. bit_xor byte opad) block ++ sha256 (map (λ byte. bit_xor byte ipad) block ++ text))) (block_of_block key)
