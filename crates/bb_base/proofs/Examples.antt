-- Worked values, by computation alone.
use Rattle.std.proofs.Common.{◌≡◌, [], ◌∷◌, true, false, refl, codes, filter_map, Ok, Err}
use Rattle.bb_base.specs.Crc.{crc_of, after_bit, after_eight_bits, after_byte}
use Rattle.std.specs.List.{list_any}
use Rattle.std.specs.Path.{rsplit_once}
use Rattle.bb_base.specs.Folder.{is_under, name_in}
use Rattle.bb_base.specs.Number.{number_of}
use Rattle.bb_base.specs.declared.number.NumberError.TheVariants.{NotNumber, TooLarge}

-- the check value that catalogues of CRCs give
crc_of_check_text : crc_of (codes "123456789") ≡ 0xcbf43926
unfolding after_byte after_eight_bits after_bit
crc_of_check_text = refl

crc_of_nothing : crc_of [] ≡ 0
crc_of_nothing = refl

hexadecimal_number : number_of (codes "0x12345678") ≡ Ok 305419896
hexadecimal_number = refl

greatest_number : number_of (codes "4294967295") ≡ Ok 4294967295
greatest_number = refl

number_past_the_greatest : number_of (codes "4294967296") ≡ Err TooLarge
number_past_the_greatest = refl

no_digit : number_of (codes "0x") ≡ Err NotNumber
no_digit = refl

-- a folder's own names, without those of a folder in it
names_of_a_folder : filter_map (name_in (codes "a")) (codes "a/b" ∷ codes "a/c/d" ∷ codes "a/e" ∷ []) ≡ codes "b" ∷ codes "e" ∷ []
unfolding rsplit_once
names_of_a_folder = refl

names_of_no_folder : filter_map (name_in (codes "z")) (codes "a/b" ∷ codes "a/c/d" ∷ codes "a/e" ∷ []) ≡ []
unfolding rsplit_once
names_of_no_folder = refl

-- a folder that holds folders alone is there, and has no names of its own
folder_of_folders : list_any (is_under (codes "a")) (codes "a/c/d" ∷ []) ≡ true
folder_of_folders = refl

names_of_a_folder_of_folders : filter_map (name_in (codes "a")) (codes "a/c/d" ∷ []) ≡ []
unfolding rsplit_once
names_of_a_folder_of_folders = refl

-- names that only begin alike, or end in the folder's name, are in no folder of that name
folder_of_longer_names : list_any (is_under (codes "a")) (codes "a" ∷ codes "ab/c" ∷ codes "b/a" ∷ []) ≡ false
folder_of_longer_names = refl
