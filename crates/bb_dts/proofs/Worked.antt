-- Sources worked through by computation.
use Rattle.std.specs.Prelude.{◌≡◌, refl, codes, Err, Ok, [], ◌∷◌}
use Rattle.bb_tree.specs.Node.{empty, node}
use Rattle.bb_dts.specs.declared.error.DtsError.TheVariants.{BadToken, Unexpected, NumberTooLarge, LeftOut, TooDeep, DuplicateLabel, DuplicatePhandle, NoSuchLabel}
use Rattle.bb_dts.specs.Source.{source_of}
use Rattle.bb_dts.specs.Strings.{string_len, escape_of, quoted_bytes}
use Rattle.bb_dts.specs.Tokens.{token_at, slash_at, name_at, reference_at, number_token, value_token, comment_len, word_of}
use Rattle.bb_dts.specs.Walk.{walk}
use Rattle.bb_dts.proofs.SourceLemmas.{source_of-ascii}

nothing : source_of (codes "") ≡ Err (Unexpected 0)
unfolding walk token_at slash_at name_at reference_at number_token value_token comment_len word_of
    string_len escape_of quoted_bytes
nothing = source_of-ascii (codes "") refl

blanks_alone : source_of (codes "   ") ≡ Err (Unexpected 3)
unfolding walk token_at slash_at name_at reference_at number_token value_token comment_len word_of
    string_len escape_of quoted_bytes
blanks_alone = source_of-ascii (codes "   ") refl

version_alone : source_of (codes "/dts-v1/") ≡ Err (Unexpected 8)
unfolding walk token_at slash_at name_at reference_at number_token value_token comment_len word_of
    string_len escape_of quoted_bytes
version_alone = source_of-ascii (codes "/dts-v1/") refl

no_body : source_of (codes "/dts-v1/;") ≡ Err (Unexpected 9)
unfolding walk token_at slash_at name_at reference_at number_token value_token comment_len word_of
    string_len escape_of quoted_bytes
no_body = source_of-ascii (codes "/dts-v1/;") refl

unclosed_comment : source_of (codes "/dts-v1/; /* x") ≡ Err (BadToken 10)
unfolding walk token_at slash_at name_at reference_at number_token value_token comment_len word_of
    string_len escape_of quoted_bytes
unclosed_comment = source_of-ascii (codes "/dts-v1/; /* x") refl

unclosed_string : source_of (codes "/dts-v1/; / { a = \"x") ≡ Err (BadToken 18)
unfolding walk token_at slash_at name_at reference_at number_token value_token comment_len word_of
    string_len escape_of quoted_bytes
unclosed_string = source_of-ascii (codes "/dts-v1/; / { a = \"x") refl

two_nodes_of_one_label : source_of (codes "/dts-v1/; / { x: a { }; x: b { }; };")
    ≡ Err (DuplicateLabel 24)
unfolding walk token_at slash_at name_at reference_at number_token value_token comment_len word_of
    string_len escape_of quoted_bytes
two_nodes_of_one_label = source_of-ascii (codes "/dts-v1/; / { x: a { }; x: b { }; };") refl

unknown_label : source_of (codes "/dts-v1/; / { b = <&x>; };") ≡ Err (NoSuchLabel 19)
unfolding walk token_at slash_at name_at reference_at number_token value_token comment_len word_of
    string_len escape_of quoted_bytes
unknown_label = source_of-ascii (codes "/dts-v1/; / { b = <&x>; };") refl

property_behind_a_node : source_of (codes "/dts-v1/; / { a { }; b; };") ≡ Err (Unexpected 22)
unfolding walk token_at slash_at name_at reference_at number_token value_token comment_len word_of
    string_len escape_of quoted_bytes
property_behind_a_node = source_of-ascii (codes "/dts-v1/; / { a { }; b; };") refl

an_expression : source_of (codes "/dts-v1/; / { a = <(1)>; };") ≡ Err (LeftOut 19)
unfolding walk token_at slash_at name_at reference_at number_token value_token comment_len word_of
    string_len escape_of quoted_bytes
an_expression = source_of-ascii (codes "/dts-v1/; / { a = <(1)>; };") refl

a_directive : source_of (codes "/dts-v1/; / { #include a; };") ≡ Err (LeftOut 14)
unfolding walk token_at slash_at name_at reference_at number_token value_token comment_len word_of
    string_len escape_of quoted_bytes
a_directive = source_of-ascii (codes "/dts-v1/; / { #include a; };") refl

a_cell_of_33_bits : source_of (codes "/dts-v1/; / { a = <4294967296>; };") ≡ Err (NumberTooLarge 19)
unfolding walk token_at slash_at name_at reference_at number_token value_token comment_len word_of
    string_len escape_of quoted_bytes
a_cell_of_33_bits = source_of-ascii (codes "/dts-v1/; / { a = <4294967296>; };") refl

a_reserve_of_65_bits : source_of (codes "/dts-v1/; /memreserve/ 0 18446744073709551616; / { };")
    ≡ Err (NumberTooLarge 25)
unfolding walk token_at slash_at name_at reference_at number_token value_token comment_len word_of
    string_len escape_of quoted_bytes
a_reserve_of_65_bits =
    source_of-ascii (codes "/dts-v1/; /memreserve/ 0 18446744073709551616; / { };") refl

a_wrong_octal_digit : source_of (codes "/dts-v1/; / { a = <08>; };") ≡ Err (BadToken 19)
unfolding walk token_at slash_at name_at reference_at number_token value_token comment_len word_of
    string_len escape_of quoted_bytes
a_wrong_octal_digit = source_of-ascii (codes "/dts-v1/; / { a = <08>; };") refl

an_upper_hexadecimal : source_of (codes "/dts-v1/; / { a = <0X1>; };") ≡ Err (BadToken 19)
unfolding walk token_at slash_at name_at reference_at number_token value_token comment_len word_of
    string_len escape_of quoted_bytes
an_upper_hexadecimal = source_of-ascii (codes "/dts-v1/; / { a = <0X1>; };") refl

an_escape_above_255 : source_of (codes "/dts-v1/; / { a = \"\\400\"; };") ≡ Err (BadToken 18)
unfolding walk token_at slash_at name_at reference_at number_token value_token comment_len word_of
    string_len escape_of quoted_bytes
an_escape_above_255 = source_of-ascii (codes "/dts-v1/; / { a = \"\\400\"; };") refl

a_reference_as_a_phandle : source_of (codes "/dts-v1/; / { a { phandle = <&b>; }; };")
    ≡ Err (Unexpected 29)
unfolding walk token_at slash_at name_at reference_at number_token value_token comment_len word_of
    string_len escape_of quoted_bytes
a_reference_as_a_phandle = source_of-ascii (codes "/dts-v1/; / { a { phandle = <&b>; }; };") refl

two_nodes_of_one_phandle : source_of (codes
    "/dts-v1/; / { a { phandle = <1>; }; b { phandle = <1>; }; };") ≡ Err (DuplicatePhandle 60)
unfolding walk token_at slash_at name_at reference_at number_token value_token comment_len word_of
    string_len escape_of quoted_bytes
two_nodes_of_one_phandle =
    source_of-ascii (codes "/dts-v1/; / { a { phandle = <1>; }; b { phandle = <1>; }; };") refl

level_33 : source_of (codes
    "/dts-v1/; / {a{a{a{a{a{a{a{a{a{a{a{a{a{a{a{a{a{a{a{a{a{a{a{a{a{a{a{a{a{a{a{a{a")
    ≡ Err (TooDeep 76)
unfolding walk token_at slash_at name_at reference_at number_token value_token comment_len word_of
    string_len escape_of quoted_bytes
level_33 =
    source_of-ascii (codes
    "/dts-v1/; / {a{a{a{a{a{a{a{a{a{a{a{a{a{a{a{a{a{a{a{a{a{a{a{a{a{a{a{a{a{a{a{a{a") refl

a_reference_gives_a_phandle : source_of (codes "/dts-v1/; / { b = <&x>; x: a { }; };")
    ≡ Ok (record {
      root = record {
        name = [];
        props = (codes "b", 0 ∷ 0 ∷ 0 ∷ 1 ∷ []) ∷ [];
        nodes = node (codes "a") ((codes "phandle", 0 ∷ 0 ∷ 0 ∷ 1 ∷ []) ∷ []) empty empty;
      };
      reserved = [];
    })
unfolding walk token_at slash_at name_at reference_at number_token value_token comment_len word_of
    string_len escape_of quoted_bytes
a_reference_gives_a_phandle = source_of-ascii (codes "/dts-v1/; / { b = <&x>; x: a { }; };") refl

bodies_are_merged : source_of (codes "/dts-v1/; / { a = \"p\"; c; }; / { a = \"q\"; b; };")
    ≡ Ok (record {
      root = record {
        name = [];
        props = (codes "a", 0x71 ∷ 0 ∷ []) ∷ (codes "c", []) ∷ (codes "b", []) ∷ [];
        nodes = empty;
      };
      reserved = [];
    })
unfolding walk token_at slash_at name_at reference_at number_token value_token comment_len word_of
    string_len escape_of quoted_bytes
bodies_are_merged =
    source_of-ascii (codes "/dts-v1/; / { a = \"p\"; c; }; / { a = \"q\"; b; };") refl

reserves_and_values : source_of (codes
    "/dts-v1/; /memreserve/ 0x10 010; / { a = [0a 1B], <07 0x8U>; };")
    ≡ Ok (record {
      root = record {
        name = [];
        props = (codes "a", 0x0a ∷ 0x1b ∷ 0 ∷ 0 ∷ 0 ∷ 7 ∷ 0 ∷ 0 ∷ 0 ∷ 8 ∷ []) ∷ [];
        nodes = empty;
      };
      reserved = (16, 8) ∷ [];
    })
unfolding walk token_at slash_at name_at reference_at number_token value_token comment_len word_of
    string_len escape_of quoted_bytes
reserves_and_values =
    source_of-ascii (codes "/dts-v1/; /memreserve/ 0x10 010; / { a = [0a 1B], <07 0x8U>; };") refl
