-- The tree of a source, or why there is none.
use Rattle.std.specs.Prelude.{ℕ, List, [], Result, Ok, Err, length, fold, if◌then◌else◌}
use Rattle.std.specs.Str.{is_utf8}
use Rattle.std.specs.Str.Lossy.{utf8_valid_len}
use Rattle.bb_tree.specs.declared.tree_error.TreeError.{TreeError}
use Rattle.bb_tree.specs.declared.tree_error.TreeError.TheVariants as tree_refusal
use Rattle.bb_tree.specs.Blob.{Devicetree}
use Rattle.bb_tree.specs.Draft.{DraftValue}
use Rattle.bb_tree.specs.Merge.{merged}
use Rattle.bb_tree.specs.Node.{Branch, bare}
use Rattle.bb_tree.specs.Resolve.{resolved}
use Rattle.bb_dts.specs.declared.error.DtsError.{DtsError}
use Rattle.bb_dts.specs.declared.error.DtsError.TheVariants as refusal
use Rattle.bb_dts.specs.Walk.{Source, WalkResult, walk_of}

-- the bodies merged one after another into an empty root
abbrev pub draft_of_source : Source → DraftValue
draft_of_source s = record {
  tree = fold (λ tree body. merged tree body.0 body.1) (bare []) s.bodies;
  labels = s.labels;
  reserved = s.reserved;
}

-- what is refused once the whole tree is there. The text has `total` bytes
abbrev pub refused_last : ℕ → TreeError → DtsError
refused_last total tree_refusal.DuplicateLabel = refusal.DuplicateLabel total
refused_last total tree_refusal.DuplicatePhandle = refusal.DuplicatePhandle total
refused_last total (tree_refusal.NoSuchLabel at) = refusal.NoSuchLabel at
refused_last total tree_refusal.NoMemory = refusal.NoMemory

-- the tree with this root and these reserved pairs, or the refusal
abbrev pub tree_or_refusal :
    ℕ → List (ℕ × ℕ) → Result (Branch (List ℕ)) TreeError → Result Devicetree DtsError
tree_or_refusal total reserved (Ok root) = Ok (record { root = root; reserved = reserved })
tree_or_refusal total reserved (Err e) = Err (refused_last total e)

-- the references of the merged bodies resolved
abbrev pub tree_of : ℕ → WalkResult → Result Devicetree DtsError
tree_of total (Ok s) = tree_or_refusal total s.reserved (resolved (draft_of_source s))
tree_of total (Err e) = Err e

-- the tree of a text that is UTF-8, or the first refusal
abbrev pub tree_of_text : List ℕ → Result Devicetree DtsError
tree_of_text text = tree_of (length text) (walk_of text)

-- the tree of a text, or the first refusal: a text that isn't UTF-8 is refused at the first
-- sequence that is ill-formed
unfoldable pub source_of : List ℕ → Result Devicetree DtsError
source_of text =
    if is_utf8 text
    then tree_of_text text
    else Err (refusal.NotText (utf8_valid_len text))
