-- Values and texts by computation.
use Rattle.std.proofs.Common.{◌≡◌, [], ◌∷◌, Ok, Err, codes, refl}
use Rattle.std.specs.Fmt.{digits}
use Rattle.bb_vars.specs.Mac.{pair_text, byte_of_pair}
use Rattle.bb_vars.specs.Table.{table_with}
use Rattle.bb_vars.specs.Value.{bytes_of, text_of}
use Rattle.bb_vars.specs.declared.kind.Kind.TheVariants.{Uint8, Uint32, Enum32, Mac, Chars}
use Rattle.bb_vars.specs.declared.value_error.ValueError.TheVariants.{NotNumber, TooLarge, NoSuchName, NotMac, TooLong, HasZeroByte}

uint8_last : bytes_of Uint8 (codes "255") ≡ Ok (255 ∷ [])
uint8_last = refl

uint8_past : bytes_of Uint8 (codes "256") ≡ Err TooLarge
uint8_past = refl

uint32_last : bytes_of Uint32 (codes "0xFFFFFFFF") ≡ Ok (255 ∷ 255 ∷ 255 ∷ 255 ∷ [])
uint32_last = refl

uint32_past : bytes_of Uint32 (codes "4294967296") ≡ Err TooLarge
uint32_past = refl

uint32_low_first : bytes_of Uint32 (codes "30") ≡ Ok (30 ∷ 0 ∷ 0 ∷ 0 ∷ [])
uint32_low_first = refl

no_number : bytes_of Uint32 (codes "-1") ≡ Err NotNumber
no_number = refl

backup_index : bytes_of (Enum32 (codes "primary" ∷ codes "backup" ∷ codes "backup" ∷ [])) (codes "backup") ≡ Ok (1 ∷ 0 ∷ 0 ∷ 0 ∷ [])
backup_index = refl

no_name : bytes_of (Enum32 (codes "primary" ∷ codes "backup" ∷ [])) (codes "spare") ≡ Err NoSuchName
no_name = refl

six_pairs : bytes_of Mac (codes "00:11:22:33:aB:55") ≡ Ok (0 ∷ 17 ∷ 34 ∷ 51 ∷ 171 ∷ 85 ∷ [])
unfolding byte_of_pair
six_pairs = refl

five_pairs : bytes_of Mac (codes "00:11:22:33:44") ≡ Err NotMac
five_pairs = refl

other_joints : bytes_of Mac (codes "00-11-22-33-44-55") ≡ Err NotMac
other_joints = refl

no_digit : bytes_of Mac (codes "zz:11:22:33:44:55") ≡ Err NotMac
unfolding byte_of_pair
no_digit = refl

string_filled : bytes_of (Chars 4) (codes "ab") ≡ Ok (97 ∷ 98 ∷ 0 ∷ 0 ∷ [])
string_filled = refl

string_long : bytes_of (Chars 4) (codes "abcde") ≡ Err TooLong
string_long = refl

long_before_zero : bytes_of (Chars 2) (97 ∷ 0 ∷ 98 ∷ []) ≡ Err TooLong
long_before_zero = refl

string_zero : bytes_of (Chars 4) (97 ∷ 0 ∷ []) ≡ Err HasZeroByte
string_zero = refl

number_text : text_of Uint32 (20 ∷ 1 ∷ 0 ∷ 0 ∷ []) ≡ codes "276"
unfolding digits
number_text = refl

name_text : text_of (Enum32 (codes "primary" ∷ codes "backup" ∷ [])) (1 ∷ 0 ∷ 0 ∷ 0 ∷ []) ≡ codes "backup"
name_text = refl

index_text : text_of (Enum32 (codes "primary" ∷ codes "backup" ∷ [])) (2 ∷ 0 ∷ 0 ∷ 0 ∷ []) ≡ codes "2"
unfolding digits
index_text = refl

mac_lower : text_of Mac (0 ∷ 17 ∷ 34 ∷ 51 ∷ 171 ∷ 85 ∷ []) ≡ codes "00:11:22:33:ab:55"
unfolding pair_text
mac_lower = refl

string_text : text_of (Chars 4) (97 ∷ 98 ∷ 0 ∷ 99 ∷ []) ≡ codes "ab"
string_text = refl

table_set : table_with (1 ∷ 2 ∷ 3 ∷ 4 ∷ []) 1 (9 ∷ 9 ∷ []) ≡ 1 ∷ 9 ∷ 9 ∷ 4 ∷ []
table_set = refl
