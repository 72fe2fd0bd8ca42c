-- Worked versions and entries, by computation alone.
use Rattle.std.proofs.Common.{◌≡◌, ℕ, true, false, List, [], ◌∷◌, codes, refl, Equal, Greater}
use Rattle.bb_bls.specs.declared.entry.Entry.{Entry}
use Rattle.bb_menu.specs.Order.{MenuBefore, is_menu_name, menu_cmp, menu_stem, named_entry}
use Rattle.bb_menu.specs.Version.{VersionLess, tokens_after, version_cmp, version_tokens}
use Rattle.bb_menu.specs.Version.{Tilde, End, Hyphen, Caret, Dot, Letters, Digits}

-- ---- tokens

tokens : version_tokens (codes "1.02~rc_B^-9")
    ≡ Digits 1 ∷ Dot ∷ Digits 2 ∷ Tilde ∷ Letters (codes "rc") ∷ Letters (codes "B") ∷ Caret ∷ Hyphen ∷ Digits 9 ∷ End ∷ []
unfolding tokens_after
tokens = refl

no_token : version_tokens (codes "_ +") ≡ End ∷ []
unfolding tokens_after
no_token = refl

-- ---- versions that the Version Format Specification orders

candidate_first : VersionLess (codes "123~rc1-1") (codes "123")
unfolding tokens_after
candidate_first = refl

end_before_hyphen : VersionLess (codes "123") (codes "123-a")
unfolding tokens_after
end_before_hyphen = refl

letters_before_digits : VersionLess (codes "123-a.1") (codes "123-1")
unfolding tokens_after
letters_before_digits = refl

hyphen_before_caret : VersionLess (codes "123-1.1") (codes "123^post1")
unfolding tokens_after
hyphen_before_caret = refl

caret_before_dot : VersionLess (codes "123^post1") (codes "123.a-1")
unfolding tokens_after
caret_before_dot = refl

dot_before_letters : VersionLess (codes "123.1-1") (codes "123a-1")
unfolding tokens_after
dot_before_letters = refl

numbers : VersionLess (codes "b-1.9") (codes "b-1.10")
unfolding tokens_after
numbers = refl

empty_first : VersionLess [] (codes "0")
unfolding tokens_after
empty_first = refl

zeros : version_cmp (codes "1.01_") (codes "1.1") ≡ Equal
unfolding tokens_after
zeros = refl

-- this project's rule, where marks follow one another
marks : VersionLess (codes "a^-") (codes "a^.~")
unfolding tokens_after
marks = refl

-- ---- names

names : is_menu_name (codes "a.conf") ≡ true
names = refl

ending_alone : is_menu_name (codes ".conf") ≡ false
ending_alone = refl

other_ending : is_menu_name (codes "a.conf~") ≡ false
other_ending = refl

stem : menu_stem (codes "b-1.2.conf") ≡ codes "b-1.2"
stem = refl

-- ---- entries

with_keys : List ℕ → List ℕ → List ℕ → Entry
with_keys sort_key machine version = record {
  title = [];
  version = version;
  machine_id = machine;
  sort_key = sort_key;
  architecture = [];
  linux = codes "/zImage";
  options = [];
  devicetree = [];
  initrds = [];
}

-- a sort key comes first, whatever the names are
key_first : MenuBefore (named_entry (codes "a.conf") (with_keys (codes "m") [] [])) (named_entry (codes "z.conf") (with_keys [] [] []))
unfolding with_keys tokens_after
key_first = refl

-- machines rise and versions fall
machine_first : MenuBefore (named_entry (codes "a.conf") (with_keys (codes "m") (codes "1") (codes "1")))
    (named_entry (codes "a.conf") (with_keys (codes "m") (codes "2") (codes "2")))
unfolding with_keys tokens_after
machine_first = refl

newest_first : MenuBefore (named_entry (codes "a.conf") (with_keys (codes "m") [] (codes "10")))
    (named_entry (codes "b.conf") (with_keys (codes "m") [] (codes "9")))
unfolding with_keys tokens_after
newest_first = refl

-- without a key the version doesn't count, and names fall without their ending
names_fall : MenuBefore (named_entry (codes "a-1.conf") (with_keys [] [] (codes "1"))) (named_entry (codes "a.conf") (with_keys [] [] (codes "2")))
unfolding with_keys tokens_after
names_fall = refl

-- names that tie as versions rise by their bytes
bytes_last : menu_cmp (named_entry (codes "a-1.conf") (with_keys [] [] [])) (named_entry (codes "a-01.conf") (with_keys [] [] [])) ≡ Greater
unfolding with_keys tokens_after
bytes_last = refl
