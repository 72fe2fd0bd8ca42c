-- Blobs worked through by computation.
use Rattle.std.specs.Prelude.{◌≡◌, ℕ, refl, codes, Err, Ok, List, [], ◌∷◌, ◌++◌, take}
use Rattle.std.specs.List.{flat_map}
use Rattle.bb_tree.specs.Blob.{Devicetree, word, double_word, blob_text}
use Rattle.bb_tree.specs.Node.{empty, node, bare}
use Rattle.bb_fdt.specs.declared.error.FdtError.TheVariants.{NotBlob, Version, OutOfBounds, BadToken, BadName}
use Rattle.bb_fdt.specs.declared.error.Field.TheVariants.{Total, Struct, Strings, Reserve}
use Rattle.bb_fdt.specs.Header.{header_word_at}
use Rattle.bb_fdt.specs.Tokens.{token_at, node_at, prop_at, up_to_zero, string_at}
use Rattle.bb_fdt.specs.Walk.{walk}
use Rattle.bb_fdt.specs.Reading.{double_word_at, pairs_in, blob_of}

-- a header of these words (totalsize, off_dt_struct, off_dt_strings, off_mem_rsvmap,
-- last_comp_version, size_dt_strings, size_dt_struct), the pair of zeros, and these words after it
abbrev blob : ℕ → ℕ → ℕ → ℕ → ℕ → ℕ → ℕ → List ℕ → List ℕ
blob total struct_at strings_at reserve_at last strings_len struct_len words =
    flat_map word
    ((0xD00DFEED ∷ total ∷ struct_at ∷ strings_at ∷ reserve_at ∷ 17 ∷ last ∷ 0 ∷ strings_len
    ∷ struct_len ∷ [])
    ++ ((0 ∷ 0 ∷ 0 ∷ 0 ∷ []) ++ words))

-- FDT_BEGIN_NODE, no name, FDT_END_NODE, FDT_END
abbrev bare_words : List ℕ
bare_words = 1 ∷ 0 ∷ 2 ∷ 9 ∷ []

abbrev bare_tree : Devicetree
bare_tree = record { root = bare []; reserved = [] }

-- the blob of the bare tree, 72 bytes
bare_blob : blob_text bare_tree ≡ blob 72 56 72 40 16 0 16 bare_words
unfolding word double_word header_word_at double_word_at pairs_in walk token_at node_at prop_at up_to_zero
    string_at blob_text
bare_blob = refl

bare_is_read : blob_of (blob 72 56 72 40 16 0 16 bare_words) ≡ Ok bare_tree
unfolding word double_word header_word_at double_word_at pairs_in walk token_at node_at prop_at up_to_zero
    string_at
bare_is_read = refl

cut_to_71 : blob_of (take 71 (blob 72 56 72 40 16 0 16 bare_words)) ≡ Err (OutOfBounds Total)
unfolding word double_word header_word_at double_word_at pairs_in walk token_at node_at prop_at up_to_zero
    string_at
cut_to_71 = refl

cut_to_39 : blob_of (take 39 (blob 72 56 72 40 16 0 16 bare_words)) ≡ Err NotBlob
unfolding word double_word header_word_at double_word_at pairs_in walk token_at node_at prop_at up_to_zero
    string_at
cut_to_39 = refl

a_byte_behind : blob_of (blob 72 56 72 40 16 0 16 bare_words ++ 0xFF ∷ []) ≡ Ok bare_tree
unfolding word double_word header_word_at double_word_at pairs_in walk token_at node_at prop_at up_to_zero
    string_at
a_byte_behind = refl

longer_than_the_bytes : blob_of (blob 0x49 56 72 40 16 0 16 bare_words) ≡ Err (OutOfBounds Total)
unfolding word double_word header_word_at double_word_at pairs_in walk token_at node_at prop_at up_to_zero
    string_at
longer_than_the_bytes = refl

shorter_than_the_header : blob_of (blob 39 56 72 40 16 0 16 bare_words) ≡ Err (OutOfBounds Total)
unfolding word double_word header_word_at double_word_at pairs_in walk token_at node_at prop_at up_to_zero
    string_at
shorter_than_the_header = refl

for_version_18 : blob_of (blob 72 56 72 40 18 0 16 bare_words) ≡ Err Version
unfolding word double_word header_word_at double_word_at pairs_in walk token_at node_at prop_at up_to_zero
    string_at
for_version_18 = refl

for_version_17 : blob_of (blob 72 56 72 40 17 0 16 bare_words) ≡ Ok bare_tree
unfolding word double_word header_word_at double_word_at pairs_in walk token_at node_at prop_at up_to_zero
    string_at
for_version_17 = refl

cut_in_the_structure : blob_of (blob 72 56 72 40 16 0 4 bare_words) ≡ Err (BadToken 56)
unfolding word double_word header_word_at double_word_at pairs_in walk token_at node_at prop_at up_to_zero
    string_at
cut_in_the_structure = refl

cut_between_tokens : blob_of (blob 72 56 72 40 16 0 8 bare_words) ≡ Err (BadToken 64)
unfolding word double_word header_word_at double_word_at pairs_in walk token_at node_at prop_at up_to_zero
    string_at
cut_between_tokens = refl

reserved_at_4 : blob_of (blob 72 56 72 0x2c 16 0 16 bare_words) ≡ Err (OutOfBounds Reserve)
unfolding word double_word header_word_at double_word_at pairs_in walk token_at node_at prop_at up_to_zero
    string_at
reserved_at_4 = refl

reserved_without_an_end : blob_of (blob 72 56 72 48 16 0 16 bare_words) ≡ Err (OutOfBounds Reserve)
unfolding word double_word header_word_at double_word_at pairs_in walk token_at node_at prop_at up_to_zero
    string_at
reserved_without_an_end = refl

structure_at_2 : blob_of (blob 72 58 72 40 16 0 12 bare_words) ≡ Err (OutOfBounds Struct)
unfolding word double_word header_word_at double_word_at pairs_in walk token_at node_at prop_at up_to_zero
    string_at
structure_at_2 = refl

structure_past_the_end : blob_of (blob 72 56 72 40 16 0 20 bare_words) ≡ Err (OutOfBounds Struct)
unfolding word double_word header_word_at double_word_at pairs_in walk token_at node_at prop_at up_to_zero
    string_at
structure_past_the_end = refl

structure_before_strings : blob_of (blob 72 56 72 40 16 1 20 bare_words) ≡ Err (OutOfBounds Struct)
unfolding word double_word header_word_at double_word_at pairs_in walk token_at node_at prop_at up_to_zero
    string_at
structure_before_strings = refl

strings_past_the_end : blob_of (blob 72 56 72 40 16 1 16 bare_words) ≡ Err (OutOfBounds Strings)
unfolding word double_word header_word_at double_word_at pairs_in walk token_at node_at prop_at up_to_zero
    string_at
strings_past_the_end = refl

a_nop_in_front : blob_of (blob 76 56 76 40 16 0 20 (4 ∷ bare_words)) ≡ Ok bare_tree
unfolding word double_word header_word_at double_word_at pairs_in walk token_at node_at prop_at up_to_zero
    string_at
a_nop_in_front = refl

nops_everywhere : blob_of (blob 84 56 84 40 16 0 28 (1 ∷ 0 ∷ 4 ∷ 2 ∷ 4 ∷ 9 ∷ 5 ∷ [])) ≡ Ok bare_tree
unfolding word double_word header_word_at double_word_at pairs_in walk token_at node_at prop_at up_to_zero
    string_at
nops_everywhere = refl

a_token_unknown : blob_of (blob 72 56 72 40 16 0 16 (1 ∷ 0 ∷ 5 ∷ 9 ∷ [])) ≡ Err (BadToken 64)
unfolding word double_word header_word_at double_word_at pairs_in walk token_at node_at prop_at up_to_zero
    string_at
a_token_unknown = refl

two_roots : blob_of (blob 84 56 84 40 16 0 28 (1 ∷ 0 ∷ 2 ∷ 1 ∷ 0 ∷ 2 ∷ 9 ∷ [])) ≡ Err (BadToken 68)
unfolding word double_word header_word_at double_word_at pairs_in walk token_at node_at prop_at up_to_zero
    string_at
two_roots = refl

a_node_without_a_name : blob_of (blob 84 56 84 40 16 0 28 (1 ∷ 0 ∷ 1 ∷ 0 ∷ 2 ∷ 2 ∷ 9 ∷ []))
    ≡ Err (BadName 64)
unfolding word double_word header_word_at double_word_at pairs_in walk token_at node_at prop_at up_to_zero
    string_at
a_node_without_a_name = refl

a_root_with_a_name : blob_of (blob 72 56 72 40 16 0 16 (1 ∷ 0x61ff2000 ∷ 2 ∷ 9 ∷ [])) ≡ Ok bare_tree
unfolding word double_word header_word_at double_word_at pairs_in walk token_at node_at prop_at up_to_zero
    string_at
a_root_with_a_name = refl

-- filling has any value
a_property : blob_of (blob 92 56 88 40 16 2 32 (1 ∷ 0 ∷ 3 ∷ 1 ∷ 0 ∷ 0xab123456 ∷ 2 ∷ 9 ∷ 0x70000000
    ∷ [])) ≡ Ok (record {
      root = record {
        name = [];
        props = (codes "p", 0xab ∷ []) ∷ [];
        nodes = empty;
      };
      reserved = [];
    })
unfolding word double_word header_word_at double_word_at pairs_in walk token_at node_at prop_at up_to_zero
    string_at
a_property = refl

a_property_that_ends_in_its_filling : blob_of
    (blob 92 56 88 40 16 2 21 (1 ∷ 0 ∷ 3 ∷ 1 ∷ 0 ∷ 0xab123456 ∷ 2 ∷ 9 ∷ 0x70000000 ∷ []))
    ≡ Err (BadToken 64)
unfolding word double_word header_word_at double_word_at pairs_in walk token_at node_at prop_at up_to_zero
    string_at
a_property_that_ends_in_its_filling = refl

a_name_at_the_strings_end : blob_of (blob 92 56 88 40 16 2 32 (1 ∷ 0 ∷ 3 ∷ 1 ∷ 2 ∷ 0xab123456 ∷ 2
    ∷ 9 ∷ 0x70000000 ∷ [])) ≡ Err (BadName 64)
unfolding word double_word header_word_at double_word_at pairs_in walk token_at node_at prop_at up_to_zero
    string_at
a_name_at_the_strings_end = refl

a_name_without_an_end : blob_of (blob 92 56 88 40 16 1 32 (1 ∷ 0 ∷ 3 ∷ 1 ∷ 0 ∷ 0xab123456 ∷ 2 ∷ 9
    ∷ 0x70000000 ∷ [])) ≡ Err (BadName 64)
unfolding word double_word header_word_at double_word_at pairs_in walk token_at node_at prop_at up_to_zero
    string_at
a_name_without_an_end = refl

an_empty_name : blob_of (blob 92 56 88 40 16 2 32 (1 ∷ 0 ∷ 3 ∷ 1 ∷ 1 ∷ 0xab123456 ∷ 2 ∷ 9
    ∷ 0x70000000 ∷ [])) ≡ Err (BadName 64)
unfolding word double_word header_word_at double_word_at pairs_in walk token_at node_at prop_at up_to_zero
    string_at
an_empty_name = refl

a_name_with_a_space : blob_of (blob 92 56 88 40 16 2 32 (1 ∷ 0 ∷ 3 ∷ 1 ∷ 0 ∷ 0xab123456 ∷ 2 ∷ 9
    ∷ 0x20000000 ∷ [])) ≡ Err (BadName 64)
unfolding word double_word header_word_at double_word_at pairs_in walk token_at node_at prop_at up_to_zero
    string_at
a_name_with_a_space = refl

-- what dtc 1.6.1 makes of `/memreserve/ 0x10000000 0x4000; / { a = [01 02 03 04 05]; b; n@1 { b =
-- "x"; a = <7>; m { }; }; };`
abbrev dtc_words : List ℕ
dtc_words =
    0xd00dfeed ∷ 0xb4 ∷ 0x48 ∷ 0xb0 ∷ 0x28 ∷ 0x11 ∷ 0x10 ∷ 0 ∷ 4 ∷ 0x68 ∷ 0 ∷ 0x10000000 ∷ 0
    ∷ 0x4000 ∷ 0 ∷ 0 ∷ 0 ∷ 0 ∷ 1 ∷ 0 ∷ 3 ∷ 5 ∷ 0 ∷ 0x1020304 ∷ 0x5000000 ∷ 3 ∷ 0 ∷ 2 ∷ 1
    ∷ 0x6e403100 ∷ 3 ∷ 2 ∷ 2 ∷ 0x78000000 ∷ 3 ∷ 4 ∷ 0 ∷ 7 ∷ 1 ∷ 0x6d000000 ∷ 2 ∷ 2 ∷ 2 ∷ 9
    ∷ 0x61006200 ∷ []

abbrev dtc_tree : Devicetree
dtc_tree = record {
  root = record {
    name = [];
    props = (codes "a", 1 ∷ 2 ∷ 3 ∷ 4 ∷ 5 ∷ []) ∷ (codes "b", []) ∷ [];
    nodes = node (codes "n@1") ((codes "b", 0x78 ∷ 0 ∷ []) ∷ (codes "a", 0 ∷ 0 ∷ 0 ∷ 7 ∷ []) ∷ [])
        (node (codes "m") [] empty empty) empty;
  };
  reserved = (0x10000000, 0x4000) ∷ [];
}

dtc_blob : blob_text dtc_tree ≡ flat_map word dtc_words
unfolding word double_word header_word_at double_word_at pairs_in walk token_at node_at prop_at up_to_zero
    string_at blob_text
dtc_blob = refl

dtc_is_read : blob_of (flat_map word dtc_words) ≡ Ok dtc_tree
unfolding word double_word header_word_at double_word_at pairs_in walk token_at node_at prop_at up_to_zero
    string_at
dtc_is_read = refl
