-- The tokens of the structure block (Devicetree Specification v0.4, section 5.4).
--
--   1  FDT_BEGIN_NODE  the node's name, its zero byte, and filling up to whole words
--   2  FDT_END_NODE
--   3  FDT_PROP        the value's length, where the name begins in the strings block, the value,
--                      and filling
--   4  FDT_NOP
--   9  FDT_END
use Rattle.std.specs.Prelude.{ℕ, ◌+◌, ◌-◌, suc, zero, ◌==◌, Bool, ◌&&◌, List, [], ◌∷◌, length, take, drop, nat_lt, nat_le, Option, Some, None, Result, Ok, Err, option_and_then, if◌then◌else◌}
use Rattle.std.specs.List.{list_all, position_or_len}
use Rattle.bb_tree.specs.Blob.{whole_words}
use Rattle.bb_fdt.specs.declared.error.FdtError.{FdtError}
use Rattle.bb_fdt.specs.declared.error.FdtError.TheVariants.{BadToken}
use Rattle.bb_fdt.specs.declared.token_kind.TokenKind.{TokenKind}
use Rattle.bb_fdt.specs.declared.token_kind.TokenKind.TheVariants.{BeginNode, EndNode, Property, Nop, End}
use Rattle.bb_fdt.specs.declared.next_token.Found.{Found as FoundRead}
use Rattle.bb_fdt.specs.declared.token.Token.{Token as TokenRead}
use Rattle.bb_fdt.specs.Header.{header_word_at}

-- what stands before the first zero byte, if there is one
unfoldable pub up_to_zero : List ℕ → Option (List ℕ)
up_to_zero text =
    let n = position_or_len (λ c. c == 0) text in
    if nat_lt n (length text) then Some (take n text) else None

-- a byte of a name
abbrev pub is_name_byte : ℕ → Bool
is_name_byte c = nat_le 0x21 c && nat_le c 0x7E

-- the names of nodes and properties: some bytes, each from 0x21 to 0x7E
abbrev pub is_name : List ℕ → Bool
is_name name = nat_lt 0 (length name) && list_all is_name_byte name

-- the name that begins there in a strings block
unfoldable pub string_at : List ℕ → ℕ → Option (List ℕ)
string_at strings at =
    option_and_then (λ name. if is_name name then Some name else None)
    (up_to_zero (drop at strings))

-- a token: a node's name or a property's value, where a property's name begins in the strings
-- block, and how many bytes the token has after its first one
pub record Token : Type 0 where
  pub kind : TokenKind
  pub bytes : List ℕ
  pub name_at : ℕ
  pub behind : ℕ

-- a token as it was read, as clauses see it
abbrev pub token_seen : TokenRead → Token
token_seen t = record { kind = t.kind; bytes = t.bytes.now; name_at = t.name_at; behind = t.behind }

-- a token, where the text has all of its bytes
abbrev pub within : List ℕ → Token → Option Token
within text token = if nat_lt token.behind (length text) then Some token else None

-- a token that is one word alone, and those with a name and with a value
abbrev pub bare : TokenKind → Token
bare kind = record { kind = kind; bytes = []; name_at = 0; behind = 3 }

abbrev pub node_token : List ℕ → Token
node_token name =
    let behind = 3 + whole_words (length name + 1) in
    record { kind = BeginNode; bytes = name; name_at = 0; behind = behind }

abbrev pub prop_token : ℕ → ℕ → List ℕ → Token
prop_token len name_at rest =
    let behind = 11 + whole_words len in
    record { kind = Property; bytes = take len rest; name_at = name_at; behind = behind }

-- a text that begins with FDT_BEGIN_NODE
unfoldable pub node_at : List ℕ → Option Token
node_at text = option_and_then (λ name. within text (node_token name)) (up_to_zero (drop 4 text))

-- a text that begins with FDT_PROP
unfoldable pub prop_at : List ℕ → Option Token
prop_at text =
    if nat_lt (length text) 12
    then None
    else within text (prop_token (header_word_at 4 text) (header_word_at 8 text) (drop 12 text))

-- the token that a word begins
abbrev pub token_by : ℕ → List ℕ → Option Token
token_by word text =
    if word == 1 then node_at text else (
    if word == 2 then Some (bare EndNode) else (
    if word == 3 then prop_at text else (
    if word == 4 then Some (bare Nop) else (
    if word == 9 then Some (bare End) else None))))

-- the token that a text begins with, or none where the text ends within it or its first word names
-- none
unfoldable pub token_at : List ℕ → Option Token
token_at text = if nat_lt (length text) 4 then None else token_by (header_word_at 0 text) text

-- a token that was found: where it begins, and the text after it
pub record FoundToken : Type 0 where
  pub kind : TokenKind
  pub bytes : List ℕ
  pub name_at : ℕ
  pub at : ℕ
  pub rest : List ℕ

-- a token as it was found in a text, as clauses see it
abbrev pub found_seen : FoundRead → FoundToken
found_seen f = record {
  kind = f.kind;
  bytes = f.bytes.now;
  name_at = f.name_at;
  at = f.at;
  rest = f.rest.now;
}

-- a token as it was found, but for FDT_NOP, after which the next one is
abbrev pub found_by :
    ℕ → List ℕ → Token → TokenKind → (ℕ → Result FoundToken FdtError) → Result FoundToken FdtError
found_by at tail t Nop on = on t.behind
found_by at tail t kind on =
    let rest = drop t.behind tail in
    Ok (record { kind = kind; bytes = t.bytes; name_at = t.name_at; at = at; rest = rest })

abbrev pub found_at :
    ℕ → List ℕ → Option Token → (ℕ → Result FoundToken FdtError) → Result FoundToken FdtError
found_at at tail None on = Err (BadToken at)
found_at at tail (Some t) on = found_by at tail t t.kind on

-- the first token but FDT_NOP of a text that ends at the offset `end`, or the refusal. Its first
-- `skip` bytes belong to a token that is passed over
unfoldable pub first_token : ℕ → ℕ → List ℕ → Result FoundToken FdtError
first_token end skip [] = Err (BadToken end)
first_token end (suc skip) (b ∷ tail) = first_token end skip tail
first_token end zero (b ∷ tail) =
    found_at (end - length (b ∷ tail)) tail (token_at (b ∷ tail)) (λ n. first_token end n tail)
