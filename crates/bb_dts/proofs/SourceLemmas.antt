-- From the walk to the tree.
use Rattle.std.proofs.Common.{◌≡◌, ℕ, Bool, true, false, ◌&&◌, List, [], ◌∷◌, length, arith, Ok, Err, refl, ap, ◌∙◌}
use Rattle.std.specs.Char.{is_ascii}
use Rattle.std.specs.List.{list_all}
use Rattle.std.specs.Str.{IsUtf8, IsAscii, is_utf8}
use Rattle.std.specs.Str.Lossy.{utf8_valid_len}
use Rattle.std.proofs.lemmas.Bool.{false≢true}
use Rattle.std.proofs.lemmas.Bool.Decides.{nat_tests}
use Rattle.std.proofs.lemmas.Str.{IsUtf8-from_is_utf8, is_utf8-from_IsUtf8, IsUtf8-from_ascii}
use Rattle.std.proofs.lemmas.Str.Ascii.{IsAscii-nil, IsAscii-cons}
use Rattle.bb_tree.specs.Draft.{DraftValue, empty_draft}
use Rattle.bb_dts.specs.declared.error.DtsError.{DtsError}
use Rattle.bb_dts.specs.declared.error.DtsError.TheVariants as refusal
use Rattle.bb_dts.specs.declared.label.Level.TheVariants.{AtHead}
use Rattle.bb_dts.specs.Descent.{Onward, walk_from, refusal_walk, labels_walk_from, unless_memory}
use Rattle.bb_dts.specs.Outermost.{outcome_of, outcome_from_labels}
use Rattle.bb_dts.specs.Source.{source_of, tree_of}
use Rattle.bb_dts.specs.Walk.{WalkResult, root, start, walk, walk_of}

tree_of-outcome_of : (total : ℕ) (w : WalkResult)
    → tree_of total w ≡ outcome_of total empty_draft.tree empty_draft.reserved w
tree_of-outcome_of total (Ok s) = refl
tree_of-outcome_of total (Err e) = refl

walk_of-walk_from : (text : List ℕ) → walk_of text ≡ walk_from (length text) start text []
unfolding walk_from
walk_of-walk_from text = refl

tree_of-walk_of : (text : List ℕ)
    → tree_of (length text) (walk_of text)
    ≡ outcome_of (length text) empty_draft.tree empty_draft.reserved
    (walk_from (length text) start text [])
tree_of-walk_of text = tree_of-outcome_of (length text) (walk_of text)
    ∙ ap (outcome_of (length text) empty_draft.tree empty_draft.reserved) (walk_of-walk_from text)

-- a refusal before the outermost level
pub start_refused : (total : ℕ) (text : List ℕ) (e : DtsError) → total ≡ length text
    → walk_from total start text ≡ refusal_walk e → tree_of (length text) (walk_of text) ≡ Err e
unfolding refusal_walk
start_refused total text e whole refuses =
    let here : walk_from (length text) start text ≡ refusal_walk e = cc in
    tree_of-walk_of text
    ∙ ap (λ (w : Onward). outcome_of (length text) empty_draft.tree empty_draft.reserved (w []))
    here

-- the source of a text is what its outermost level comes to
pub start_read : (total : ℕ) (text rest : List ℕ) (draft : DraftValue) → total ≡ length text
    → draft ≡ empty_draft
    → walk_from total start text ≡ labels_walk_from total AtHead [] rest [] root
    → tree_of (length text) (walk_of text) ≡ outcome_from_labels total AtHead draft rest
start_read total text rest draft whole none reads =
    rw (whole, none) (tree_of-walk_of text
    ∙ ap (λ (w : Onward). outcome_of (length text) empty_draft.tree empty_draft.reserved (w []))
    (rw whole at reads))

-- a refusal that isn't one of memory is the text's
pub unless_memory-told : {A : Type 0} (e : DtsError) (walk walk' : A) → (e ≡ refusal.NoMemory → ⊥)
    → unless_memory e walk ≡ unless_memory e walk' → walk ≡ walk'
unless_memory-told (refusal.NotText at) walk walk' told same = cc
unless_memory-told (refusal.BadToken at) walk walk' told same = cc
unless_memory-told (refusal.Unexpected at) walk walk' told same = cc
unless_memory-told (refusal.NumberTooLarge at) walk walk' told same = cc
unless_memory-told (refusal.LeftOut at) walk walk' told same = cc
unless_memory-told (refusal.TooDeep at) walk walk' told same = cc
unless_memory-told (refusal.DuplicateLabel at) walk walk' told same = cc
unless_memory-told (refusal.DuplicatePhandle at) walk walk' told same = cc
unless_memory-told (refusal.NoSuchLabel at) walk walk' told same = cc
unless_memory-told refusal.NoMemory walk walk' told same = absurd (told refl)

pub source_of-text : (text : List ℕ) → IsUtf8 text
    → source_of text ≡ tree_of (length text) (walk_of text)
unfolding source_of
source_of-text text is = rw (is_utf8-from_IsUtf8 text is) refl

not_utf8 : (text : List ℕ) → (IsUtf8 text → ⊥) → (b : Bool) → is_utf8 text ≡ b
    → is_utf8 text ≡ false
not_utf8 text none true is = absurd (none (IsUtf8-from_is_utf8 text is))
not_utf8 text none false is = is

pub source_of-no_text : (text : List ℕ) → (IsUtf8 text → ⊥)
    → source_of text ≡ Err (refusal.NotText (utf8_valid_len text))
unfolding source_of
source_of-no_text text none = rw (not_utf8 text none (is_utf8 text) refl) refl

ascii-here : (c : ℕ) (cs : List ℕ) → (list_all is_ascii cs ≡ true → IsAscii cs) → (b : Bool)
    → is_ascii c ≡ b → (b && list_all is_ascii cs) ≡ true → IsAscii (c ∷ cs)
ascii-here c cs behind true is all = IsAscii-cons c cs (grind (arith, nat_tests)) (behind all)
ascii-here c cs behind false is all = absurd (false≢true all)

all_ascii : (text : List ℕ) → list_all is_ascii text ≡ true → IsAscii text
all_ascii [] all = IsAscii-nil
all_ascii (c ∷ cs) all = ascii-here c cs (all_ascii cs) (is_ascii c) refl all

-- the source of a text in ASCII
pub source_of-ascii : (text : List ℕ) → list_all is_ascii text ≡ true
    → source_of text ≡ tree_of (length text) (walk_of text)
source_of-ascii text all = source_of-text text (IsUtf8-from_ascii text (all_ascii text all))
