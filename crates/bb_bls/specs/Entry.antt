-- Boot entries: the keys of Type #1 entries of the Boot Loader Specification (UAPI.1), each of
-- which stands at the front of a line, with its value after blanks. What is done with blanks, with
-- repeated keys and with lines that have no value is this project's profile.
use Rattle.std.specs.Prelude.{◌≡◌, ◌≢◌, ℕ, ◌-◌, ◌≤◌, ◌==◌, Bool, true, false, ◌||◌, not, List, [], codes, drop, filter_map, length, nat_lt, slice_get, take, take_while, unwrap_or, Option, Some, None, Result, Ok, Err, if◌then◌else◌}
use Rattle.std.specs.List.{join_with_byte, prefix_len, suffix_len}
use Rattle.std.specs.Str.{bytes_eq, is_utf8}
use Rattle.std.specs.Str.Lines.{lines}
use Rattle.bb_bls.specs.declared.entry.Entry.{Entry}
use Rattle.bb_bls.specs.declared.error.EntryError.{EntryError}
use Rattle.bb_bls.specs.declared.error.EntryError.TheVariants.{TooLong, NotText, NoLinux, NoMemory}

-- ---- a line

-- space and tab
abbrev pub is_blank : ℕ → Bool
is_blank c = c == 32 || c == 9

-- a text without the blanks in front
abbrev pub text_behind_blanks : List ℕ → List ℕ
text_behind_blanks text = drop (prefix_len is_blank text) text

-- and without those at its end
abbrev pub text_before_blanks : List ℕ → List ℕ
text_before_blanks text = take (length text - suffix_len is_blank text) text

-- what stands before the first blank
abbrev pub entry_key_in : List ℕ → List ℕ
entry_key_in text = take_while (λ c. not (is_blank c)) text

-- what follows the key and the blanks after it
abbrev pub entry_value_in : List ℕ → List ℕ
entry_value_in text = text_behind_blanks (drop (length (entry_key_in text)) text)

-- The key and the value of a line, where it has a value. An empty line has none, and where `#`
-- begins a line it belongs to the key, which is then none of those below.
abbrev pub pair_of : List ℕ → Option (List ℕ × List ℕ)
pair_of line =
    let text = text_before_blanks (text_behind_blanks line) in
    if length (entry_value_in text) == 0 then None else Some (entry_key_in text, entry_value_in text)

-- ---- a text

-- Each line ends in LF, and loses the CR before it. The last LF may be missing, and a CR at the end
-- is then the line's.
abbrev pub pairs_of : List ℕ → List (List ℕ × List ℕ)
pairs_of text = filter_map pair_of (lines text)

-- the values of a key, in order
abbrev pub values_of : List ℕ → List (List ℕ × List ℕ) → List (List ℕ)
values_of key pairs = filter_map (λ p. if bytes_eq p.0 key then Some p.1 else None) pairs

-- the value that counts of a key that may come once; one that isn't there is empty
abbrev pub last_of : List ℕ → List (List ℕ × List ℕ) → List ℕ
last_of key pairs =
    let values = values_of key pairs in unwrap_or (slice_get values (length values - 1)) []

-- an entry of these keys and values, with a kernel or without, and only with one
abbrev pub entry_with : List (List ℕ × List ℕ) → Entry
entry_with pairs = record {
  title = last_of (codes "title") pairs;
  version = last_of (codes "version") pairs;
  machine_id = last_of (codes "machine-id") pairs;
  sort_key = last_of (codes "sort-key") pairs;
  architecture = last_of (codes "architecture") pairs;
  linux = last_of (codes "linux") pairs;
  options = join_with_byte 32 (values_of (codes "options") pairs);
  devicetree = last_of (codes "devicetree") pairs;
  initrds = values_of (codes "initrd") pairs;
}

-- no kernel is named
abbrev pub lacks_linux : List (List ℕ × List ℕ) → Bool
lacks_linux pairs = length (values_of (codes "linux") pairs) == 0

abbrev pub entry_in : List (List ℕ × List ℕ) → Result Entry EntryError
entry_in pairs = if lacks_linux pairs then Err NoLinux else Ok (entry_with pairs)

-- the entry that a text is, or why it is none
abbrev pub entry_of : List ℕ → Result Entry EntryError
entry_of text =
    if nat_lt 65536 (length text) then Err TooLong
    else if not (is_utf8 text) then Err NotText
    else entry_in (pairs_of text)

-- a text is refused as it is expected, unless memory was refused
abbrev pub Refuses : {A : Type 0} → Result A EntryError → EntryError → Type 0
Refuses expected e = e ≢ NoMemory → expected ≡ Err e

-- it has the length that an entry may have, and is UTF-8
pub record IsShortText (text : List ℕ) : Type 0 where
  pub short : length text ≤ 65536
  pub utf8 : is_utf8 text ≡ true

-- it has that length, and is none
pub record IsShortNoText (text : List ℕ) : Type 0 where
  pub short : length text ≤ 65536
  pub no_text : is_utf8 text ≡ false
