-- The walk at the outermost level, with what is merged so far.
use Rattle.std.specs.Prelude.{◌≡◌, ℕ, ◌<◌, ◌^◌, length, Bool, true, false, List, [], ◌++◌, fold, nat_lt, Option, Some, None, Result, Ok, Err, if◌then◌else◌}
use Rattle.bb_tree.specs.declared.part.Part.{Part}
use Rattle.bb_tree.specs.Blob.{Devicetree}
use Rattle.bb_tree.specs.Depth.{depth_limit}
use Rattle.bb_tree.specs.Draft.{DraftValue, Labels, draft_with_pair, path_labelled}
use Rattle.bb_tree.specs.Merge.{merged}
use Rattle.bb_tree.specs.Node.{Branch}
use Rattle.bb_tree.specs.Resolve.{resolved}
use Rattle.bb_dts.specs.declared.error.DtsError.{DtsError}
use Rattle.bb_dts.specs.declared.error.DtsError.TheVariants as refusal
use Rattle.bb_dts.specs.declared.token_kind.TokenKind.{TokenKind}
use Rattle.bb_dts.specs.declared.token_kind.TokenKind.TheVariants.{DtsV1, Memreserve, Slash, OpenBrace, Semicolon, Reference, Label, Number, End}
use Rattle.bb_dts.specs.declared.label.Level.{Level}
use Rattle.bb_dts.specs.declared.label.Level.TheVariants.{AtHead, AtTop, AtProps}
use Rattle.bb_dts.specs.declared.label.Waiting.{Waiting}
use Rattle.bb_dts.specs.declared.outermost.Next.{Next}
use Rattle.bb_dts.specs.declared.outermost.Next.TheVariants.{IsHead, IsTop, IsDone}
use Rattle.bb_dts.specs.Tokens.{FoundToken}
use Rattle.bb_dts.specs.Places.{Version, Address, Length, ReserveEnd, Open}
use Rattle.bb_dts.specs.Walk.{Around, Body, WalkState, Source, WalkResult, number_below, state_at, root, body_at, stem_of, level_of, label_all}
use Rattle.bb_dts.specs.Source.{tree_or_refusal}
use Rattle.bb_dts.specs.Descent.{walk_from, labels_walk_from, labels_walk_at, refusal_walk}

-- the tree so far with the bodies that are still to come
abbrev pub draft_with_source : Branch (List Part) → List (ℕ × ℕ) → Source → DraftValue
draft_with_source tree reserved s = record {
  tree = fold (λ done body. merged done body.0 body.1) tree s.bodies;
  labels = s.labels;
  reserved = reserved ++ s.reserved;
}

-- the tree of a draft with its references resolved
abbrev pub tree_of_draft : ℕ → DraftValue → Result Devicetree DtsError
tree_of_draft total draft = tree_or_refusal total draft.reserved (resolved draft)

-- what comes of a source in the end
abbrev pub outcome_of :
    ℕ → Branch (List Part) → List (ℕ × ℕ) → WalkResult → Result Devicetree DtsError
outcome_of total tree reserved (Ok s) = tree_of_draft total (draft_with_source tree reserved s)
outcome_of total tree reserved (Err e) = Err e

-- the end that the walk leads to, from a state at the outermost level on
unfoldable pub outcome_from :
    ℕ → Branch (List Part) → List (ℕ × ℕ) → WalkState → List ℕ → Result Devicetree DtsError
outcome_from total tree reserved s text = outcome_of total tree reserved (walk_from total s text [])

-- the end from where labels may begin
abbrev pub outcome_from_labels : ℕ → Level → DraftValue → List ℕ → Result Devicetree DtsError
outcome_from_labels total level draft text =
    outcome_of total draft.tree draft.reserved
    (labels_walk_from total level [] text draft.labels root [])

-- the end after labels, where a token was found
unfoldable pub outcome_at_token :
    ℕ → Level → List Waiting → FoundToken → DraftValue → Result Devicetree DtsError
outcome_at_token total level waiting found draft =
    outcome_of total draft.tree draft.reserved
    (labels_walk_at total level waiting found draft.labels root [])

-- before the `{` of a body
abbrev pub open_state : List Waiting → Labels → Body → WalkState
open_state waiting labels body = record (state_at Open labels body) { waiting = waiting }

-- in a reserve whose address was read
abbrev pub length_state : ℕ → Labels → WalkState
length_state address labels = record (state_at Length labels root) { address = address }

-- the end from the `{` of a body on
abbrev pub outcome_at_body :
    ℕ → List Waiting → Body → DraftValue → List ℕ → Result Devicetree DtsError
outcome_at_body total waiting body draft text =
    outcome_from total draft.tree draft.reserved (open_state waiting draft.labels body) text

-- a number with the text after it
abbrev pub number_and : List ℕ → Result ℕ DtsError → Result (ℕ × List ℕ) DtsError
number_and rest (Ok n) = Ok (n, rest)
number_and rest (Err e) = Err e

-- a token as a number of a reserve
abbrev pub reserved_token : FoundToken → TokenKind → Result (ℕ × List ℕ) DtsError
reserved_token found Number = number_and found.rest (number_below (2 ^ 64) found.word found.at)
reserved_token found _ = Err (refusal.Unexpected found.at)

-- a number of a reserve, and the text after it
abbrev pub reserved_of : Result FoundToken DtsError → Result (ℕ × List ℕ) DtsError
reserved_of (Ok found) = reserved_token found found.kind
reserved_of (Err e) = Err e

-- the text after a token that is a `;`
abbrev pub semicolon_token : FoundToken → TokenKind → Result (List ℕ) DtsError
semicolon_token found Semicolon = Ok found.rest
semicolon_token found _ = Err (refusal.Unexpected found.at)

-- the text after a `;`
abbrev pub semicolon_of : Result FoundToken DtsError → Result (List ℕ) DtsError
semicolon_of (Ok found) = semicolon_token found found.kind
semicolon_of (Err e) = Err e

-- the end after a reserve's address
abbrev pub outcome_after_address :
    ℕ → DraftValue → Result (ℕ × List ℕ) DtsError → Result Devicetree DtsError
outcome_after_address total draft (Ok p) =
    outcome_from total draft.tree draft.reserved (length_state p.0 draft.labels) p.1
outcome_after_address total draft (Err e) = Err e

-- the end after a reserve's length
abbrev pub outcome_after_length :
    ℕ → ℕ → DraftValue → Result (ℕ × List ℕ) DtsError → Result Devicetree DtsError
outcome_after_length total address draft (Ok p) =
    outcome_from total draft.tree (draft_with_pair draft address p.0).reserved
    (state_at ReserveEnd draft.labels root) p.1
outcome_after_length total address draft (Err e) = Err e

-- the end after the `;` of a reserve or a body
abbrev pub outcome_after_semicolon :
    ℕ → Level → DraftValue → Result (List ℕ) DtsError → Result Devicetree DtsError
outcome_after_semicolon total level draft (Ok rest) = outcome_from_labels total level draft rest
outcome_after_semicolon total level draft (Err e) = Err e

-- where a path leads: its node's path as a body has it, and the node's level
abbrev pub led_to : Option (List ℕ) → Option (List ℕ × ℕ)
led_to None = None
led_to (Some path) = Some (stem_of path, level_of (stem_of path))

-- what comes of a step at the outermost level
abbrev pub outcome_after_step : ℕ → DraftValue → Next → Result Devicetree DtsError
outcome_after_step total draft (IsHead rest) = outcome_from_labels total AtHead draft rest.now
outcome_after_step total draft (IsTop rest) = outcome_from_labels total AtTop draft rest.now
outcome_after_step total draft IsDone = tree_of_draft total draft

-- how many bytes are still to be read
abbrev pub rest_len : Next → ℕ
rest_len (IsHead rest) = length rest.now
rest_len (IsTop rest) = length rest.now
rest_len IsDone = 0

-- a reserve comes before all bodies
abbrev pub StaysAtHead : Bool → Next → Type 0
StaysAtHead at_top (IsHead rest) = at_top ≡ false
StaysAtHead at_top (IsTop rest) = Unit {0}
StaysAtHead at_top IsDone = Unit {0}

-- what is still to be read has fewer bytes than that
abbrev pub IsShorter : Next → ℕ → Type 0
IsShorter (IsHead rest) len = length rest.now < len
IsShorter (IsTop rest) len = length rest.now < len
IsShorter IsDone len = Unit {0}

-- where labels may begin at the outermost level
abbrev pub outer_level : Bool → Level
outer_level at_top = if at_top then AtTop else AtHead

-- the end after a reference whose label stands for a path, or for none
abbrev pub outcome_at_label :
    ℕ → List Waiting → DraftValue → FoundToken → Option (List ℕ) → Result Devicetree DtsError
outcome_at_label total waiting draft found (Some path) =
    let body = body_at (stem_of path) (level_of (stem_of path)) in
    outcome_at_body total waiting body draft found.rest
outcome_at_label total waiting draft found None = Err (refusal.NoSuchLabel found.at)

-- the end after labels, by the token that follows them
abbrev pub outcome_by_token :
    ℕ → Bool → List Waiting → DraftValue → FoundToken → TokenKind → Result Devicetree DtsError
outcome_by_token total at_top waiting draft found Slash =
    outcome_at_body total waiting root draft found.rest
outcome_by_token total at_top waiting draft found Reference =
    outcome_at_label total waiting draft found (path_labelled draft.labels found.word)
outcome_by_token total at_top waiting draft found Label =
    outcome_at_token total (outer_level at_top) waiting found draft
outcome_by_token total false waiting draft found Memreserve =
    outcome_from total draft.tree draft.reserved (state_at Address draft.labels root) found.rest
outcome_by_token total true [] draft found End = tree_of_draft total draft
outcome_by_token total at_top waiting draft found _ = Err (refusal.Unexpected found.at)

-- the end after the `{` of a body whose labels are given
abbrev pub outcome_in_body : ℕ → Body → DraftValue → ℕ → List ℕ → Result Devicetree DtsError
outcome_in_body total body draft at rest =
    if nat_lt depth_limit body.level
    then Err (refusal.TooDeep at)
    else
    outcome_of total draft.tree draft.reserved
    (labels_walk_from total AtProps [] rest draft.labels body [])

-- the same with labels that may be refused
abbrev pub outcome_by_labels :
    ℕ → Body → DraftValue → ℕ → List ℕ → Result Labels DtsError → Result Devicetree DtsError
outcome_by_labels total body draft at rest (Err e) = Err e
outcome_by_labels total body draft at rest (Ok labels) =
    outcome_in_body total body (record draft { labels = labels }) at rest

-- the end where a token was found in the place of the `{` of a body
abbrev pub outcome_at_open :
    ℕ → List Waiting → Body → DraftValue → FoundToken → TokenKind → Result Devicetree DtsError
outcome_at_open total waiting body draft found OpenBrace =
    outcome_by_labels total body draft found.at found.rest
    (label_all body.path waiting draft.labels)
outcome_at_open total waiting body draft found _ = Err (refusal.Unexpected found.at)

abbrev pub outcome_by_open :
    ℕ → List Waiting → Body → DraftValue → Result FoundToken DtsError → Result Devicetree DtsError
outcome_by_open total waiting body draft (Ok found) =
    outcome_at_open total waiting body draft found found.kind
outcome_by_open total waiting body draft (Err e) = Err e

-- the walk where a token was found after `/dts-v1/`
abbrev pub version_walk_at_token : ℕ → FoundToken → TokenKind → List Around → WalkResult
version_walk_at_token total found Semicolon = labels_walk_from total AtHead [] found.rest [] root
version_walk_at_token total found _ = refusal_walk (refusal.Unexpected found.at)

abbrev pub version_walk_by_token : ℕ → Result FoundToken DtsError → List Around → WalkResult
version_walk_by_token total (Ok found) = version_walk_at_token total found found.kind
version_walk_by_token total (Err e) = refusal_walk e

-- the walk where a token was found at the beginning
abbrev pub start_walk_at_token : ℕ → FoundToken → TokenKind → List Around → WalkResult
start_walk_at_token total found DtsV1 = walk_from total (state_at Version [] root) found.rest
start_walk_at_token total found _ = refusal_walk (refusal.Unexpected found.at)

abbrev pub start_walk_by_token : ℕ → Result FoundToken DtsError → List Around → WalkResult
start_walk_by_token total (Ok found) = start_walk_at_token total found found.kind
start_walk_by_token total (Err e) = refusal_walk e
