-- The walk at the outermost level.
use Rattle.std.proofs.Common.{◌≡◌, ℕ, ◌^◌, ◌≤◌, Bool, true, false, cond, List, [], ◌∷◌, ◌++◌, length, nat_lt, Option, Some, None, Result, Ok, Err, option_and_then, is_some, refl, ap, sym, ◌∙◌, arith, append_assoc, append-nil}
use Rattle.std.proofs.lemmas.Bool.{false≢true}
use Rattle.bb_tree.specs.declared.part.Part.{Part}
use Rattle.bb_tree.specs.Depth.{depth_limit}
use Rattle.bb_tree.specs.Draft.{DraftValue, Labels, draft_with_pair, path_labelled}
use Rattle.std.specs.Option.{option_map_or}
use Rattle.std.specs.Str.{bytes_eq}
use Rattle.bb_tree.specs.Merge.{merged, merging, reached, in_child}
use Rattle.bb_tree.specs.Node.{Branch, Forest, empty, node, grow}
use Rattle.bb_tree.specs.Paths.{path_names, node_at, child_of, found}
use Rattle.bb_dts.specs.declared.error.DtsError.{DtsError}
use Rattle.bb_dts.specs.declared.error.DtsError.TheVariants as refusal
use Rattle.bb_dts.specs.declared.token_kind.TokenKind.{TokenKind}
use Rattle.bb_dts.specs.declared.token_kind.TokenKind.TheVariants.{DtsV1, Memreserve, Slash, OpenBrace, Semicolon, Reference, Number, End}
use Rattle.bb_dts.specs.declared.token_kind.Mode.TheVariants.{Directives, Numbers}
use Rattle.bb_dts.specs.declared.label.Level.{Level}
use Rattle.bb_dts.specs.declared.label.Level.TheVariants.{AtHead, AtTop, AtProps}
use Rattle.bb_dts.specs.declared.label.Waiting.{Waiting}
use Rattle.bb_dts.specs.declared.outermost.Next.{Next}
use Rattle.bb_dts.specs.declared.outermost.Next.TheVariants.{IsHead, IsTop, IsDone}
use Rattle.bb_dts.specs.Tokens.{FoundToken, first_token}
use Rattle.bb_dts.specs.Places.{Version, Address, ReserveEnd, Open, Props, TopClose, mode_of}
use Rattle.bb_tree.specs.Blob.{Devicetree}
use Rattle.bb_dts.specs.Walk.{WalkState, Refuses, Goes, Reserves, WalkResult, Around, Body, walk_after, state_at, node_of, open_body, path_text, label_all, number_below, reserve_step, reference_step, root, start, with_body, with_pair}
use Rattle.bb_dts.specs.Descent.{walk_from, refusal_walk, walk_at_token, walk_by_token, walk_after_body, labels_walk_from, labels_walk_at, waiting_at, Onward, unless_memory}
use Rattle.bb_dts.specs.Outermost.{outcome_of, outcome_from, outcome_at_token, outcome_at_body, open_state, length_state, number_and, reserved_token, reserved_of, outcome_after_address, outcome_after_length, semicolon_token, semicolon_of, outcome_after_semicolon, outer_level, outcome_at_label, outcome_by_token, outcome_by_labels, outcome_at_open, outcome_by_open, version_walk_at_token, version_walk_by_token, start_walk_at_token, start_walk_by_token, tree_of_draft, IsShorter}
use Rattle.bb_dts.proofs.BodyLemmas.{unless_memory_of}
use Rattle.bb_dts.proofs.WalkLemmas.{walk_from_step}

-- a token at the outermost level, or a refusal
abbrev pub outer_token : ℕ → Branch (List Part) → List (ℕ × ℕ) → WalkState → Result FoundToken DtsError
    → Result Devicetree DtsError
outer_token total tree reserved s (Ok found) =
    outcome_of total tree reserved (walk_at_token total s found [])
outer_token total tree reserved s (Err e) = Err e

outcome_found : (total : ℕ) (tree : Branch (List Part)) (reserved : List (ℕ × ℕ)) (s : WalkState)
    (found : Result FoundToken DtsError)
    → outcome_of total tree reserved (walk_by_token total s found [])
    ≡ outer_token total tree reserved s found
unfolding refusal_walk
outcome_found total tree reserved s (Ok f) = refl
outcome_found total tree reserved s (Err e) = refl

outcome_step : (total : ℕ) (tree : Branch (List Part)) (reserved : List (ℕ × ℕ)) (s : WalkState)
    (text : List ℕ)
    → outcome_from total tree reserved s text
    ≡ outer_token total tree reserved s (first_token (mode_of s.place) total 0 text)
unfolding outcome_from
outcome_step total tree reserved s text =
    ap (λ (w : List Around → WalkResult). outcome_of total tree reserved (w []))
    (walk_from_step total s text)
    ∙ outcome_found total tree reserved s (first_token (mode_of s.place) total 0 text)

-- reserves

reads_address : (total : ℕ) (draft : DraftValue) (rest : List ℕ) (number : Result ℕ DtsError)
    → outcome_of total draft.tree draft.reserved
    (walk_after (reserve_step number (λ n. Goes (length_state n draft.labels)))
    (λ s'. walk_from total s' rest) []) ≡ outcome_after_address total draft (number_and rest number)
unfolding outcome_from
reads_address total draft rest (Ok n) = refl
reads_address total draft rest (Err e) = refl

address_found : (total : ℕ) (draft : DraftValue) (kind : TokenKind) (word : List ℕ) (at : ℕ)
    (rest : List ℕ)
    → outcome_of total draft.tree draft.reserved
    (walk_at_token total (state_at Address draft.labels root)
    (record { kind = kind; word = word; at = at; rest = rest }) [])
    ≡ outcome_after_address total draft (reserved_token (record {
      kind = kind;
      word = word;
      at = at;
      rest = rest;
    }) kind)
unfolding walk_at_token
address_found total draft Number word at rest =
    reads_address total draft rest (number_below (2 ^ 64) word at)
address_found total draft _ word at rest = refl

address_of : (total : ℕ) (draft : DraftValue) (found : Result FoundToken DtsError)
    → outer_token total draft.tree draft.reserved (state_at Address draft.labels root) found
    ≡ outcome_after_address total draft (reserved_of found)
address_of total draft (Ok f) = address_found total draft f.kind f.word f.at f.rest
address_of total draft (Err e) = refl

pub address_step : (total : ℕ) (draft : DraftValue) (text : List ℕ)
    → outcome_from total draft.tree draft.reserved (state_at Address draft.labels root) text
    ≡ outcome_after_address total draft (reserved_of (first_token Numbers total 0 text))
address_step total draft text =
    outcome_step total draft.tree draft.reserved (state_at Address draft.labels root) text
    ∙ address_of total draft (first_token Numbers total 0 text)

outcome_of_pair : (total : ℕ) (tree : Branch (List Part)) (reserved : List (ℕ × ℕ))
    (address length : ℕ) (w : WalkResult)
    → outcome_of total tree reserved (with_pair address length w)
    ≡ outcome_of total tree (reserved ++ (address, length) ∷ []) w
outcome_of_pair total tree reserved address length (Ok s) = rw append_assoc refl
outcome_of_pair total tree reserved address length (Err e) = refl

reads_length : (total address : ℕ) (draft : DraftValue) (rest : List ℕ) (number : Result ℕ DtsError)
    → outcome_of total draft.tree draft.reserved
    (walk_after (reserve_step number (λ n. Reserves address n (state_at ReserveEnd draft.labels root)))
    (λ s'. walk_from total s' rest) [])
    ≡ outcome_after_length total address draft (number_and rest number)
unfolding outcome_from
reads_length total address draft rest (Ok n) =
    outcome_of_pair total draft.tree draft.reserved address n
    (walk_from total (state_at ReserveEnd draft.labels root) rest [])
reads_length total address draft rest (Err e) = refl

length_found : (total address : ℕ) (draft : DraftValue) (kind : TokenKind) (word : List ℕ) (at : ℕ)
    (rest : List ℕ)
    → outcome_of total draft.tree draft.reserved
    (walk_at_token total (length_state address draft.labels)
    (record { kind = kind; word = word; at = at; rest = rest }) [])
    ≡ outcome_after_length total address draft
    (reserved_token (record { kind = kind; word = word; at = at; rest = rest }) kind)
unfolding walk_at_token
length_found total address draft Number word at rest =
    reads_length total address draft rest (number_below (2 ^ 64) word at)
length_found total address draft _ word at rest = refl

length_of : (total address : ℕ) (draft : DraftValue) (found : Result FoundToken DtsError)
    → outer_token total draft.tree draft.reserved (length_state address draft.labels) found
    ≡ outcome_after_length total address draft (reserved_of found)
length_of total address draft (Ok f) = length_found total address draft f.kind f.word f.at f.rest
length_of total address draft (Err e) = refl

pub length_step : (total address : ℕ) (draft : DraftValue) (text : List ℕ)
    → outcome_from total draft.tree draft.reserved (length_state address draft.labels) text
    ≡ outcome_after_length total address draft (reserved_of (first_token Numbers total 0 text))
length_step total address draft text =
    outcome_step total draft.tree draft.reserved (length_state address draft.labels) text
    ∙ length_of total address draft (first_token Numbers total 0 text)

reserve_end_found : (total : ℕ) (draft : DraftValue) (kind : TokenKind) (word : List ℕ) (at : ℕ)
    (rest : List ℕ)
    → outcome_of total draft.tree draft.reserved
    (walk_at_token total (state_at ReserveEnd draft.labels root)
    (record { kind = kind; word = word; at = at; rest = rest }) [])
    ≡ outcome_after_semicolon total AtHead draft
    (semicolon_token (record { kind = kind; word = word; at = at; rest = rest }) kind)
unfolding walk_at_token labels_walk_from
reserve_end_found total draft Semicolon word at rest = refl
reserve_end_found total draft _ word at rest = refl

reserve_end_of : (total : ℕ) (draft : DraftValue) (found : Result FoundToken DtsError)
    → outer_token total draft.tree draft.reserved (state_at ReserveEnd draft.labels root) found
    ≡ outcome_after_semicolon total AtHead draft (semicolon_of found)
reserve_end_of total draft (Ok f) = reserve_end_found total draft f.kind f.word f.at f.rest
reserve_end_of total draft (Err e) = refl

pub reserve_end_step : (total : ℕ) (draft : DraftValue) (text : List ℕ)
    → outcome_from total draft.tree draft.reserved (state_at ReserveEnd draft.labels root) text
    ≡ outcome_after_semicolon total AtHead draft (semicolon_of (first_token Numbers total 0 text))
reserve_end_step total draft text =
    outcome_step total draft.tree draft.reserved (state_at ReserveEnd draft.labels root) text
    ∙ reserve_end_of total draft (first_token Numbers total 0 text)

-- bodies

top_close_found : (total : ℕ) (draft : DraftValue) (kind : TokenKind) (word : List ℕ) (at : ℕ)
    (rest : List ℕ)
    → outcome_of total draft.tree draft.reserved
    (walk_at_token total (state_at TopClose draft.labels root)
    (record { kind = kind; word = word; at = at; rest = rest }) [])
    ≡ outcome_after_semicolon total AtTop draft
    (semicolon_token (record { kind = kind; word = word; at = at; rest = rest }) kind)
unfolding walk_at_token labels_walk_from
top_close_found total draft Semicolon word at rest = refl
top_close_found total draft _ word at rest = refl

top_close_of : (total : ℕ) (draft : DraftValue) (found : Result FoundToken DtsError)
    → outer_token total draft.tree draft.reserved (state_at TopClose draft.labels root) found
    ≡ outcome_after_semicolon total AtTop draft (semicolon_of found)
top_close_of total draft (Ok f) = top_close_found total draft f.kind f.word f.at f.rest
top_close_of total draft (Err e) = refl

pub top_close_step : (total : ℕ) (draft : DraftValue) (text : List ℕ)
    → outcome_from total draft.tree draft.reserved (state_at TopClose draft.labels root) text
    ≡ outcome_after_semicolon total AtTop draft (semicolon_of (first_token Directives total 0 text))
top_close_step total draft text =
    outcome_step total draft.tree draft.reserved (state_at TopClose draft.labels root) text
    ∙ top_close_of total draft (first_token Directives total 0 text)

outcome_of_body : (total : ℕ) (tree : Branch (List Part)) (reserved : List (ℕ × ℕ)) (path : List ℕ)
    (body : Branch (List Part)) (w : WalkResult)
    → outcome_of total tree reserved (with_body path body w)
    ≡ outcome_of total (merged tree path body) reserved w
outcome_of_body total tree reserved path body (Ok s) = refl
outcome_of_body total tree reserved path body (Err e) = refl

-- a body at the outermost level is merged
pub outcome_after_body : (total : ℕ) (tree : Branch (List Part)) (reserved : List (ℕ × ℕ))
    (labels : Labels) (body : Body) (rest : List ℕ)
    → outcome_of total tree reserved (walk_after_body total labels body rest [])
    ≡ outcome_from total (merged tree (path_text body.path) (node_of [] body)) reserved
    (state_at TopClose labels root) rest
unfolding walk_after_body outcome_from
outcome_after_body total tree reserved labels body rest =
    outcome_of_body total tree reserved (path_text body.path) (node_of [] body)
    (walk_from total (state_at TopClose labels root) rest [])

opens : (total : ℕ) (body : Body) (draft : DraftValue) (at : ℕ) (rest : List ℕ)
    (labels : Result Labels DtsError)
    → outcome_of total draft.tree draft.reserved
    (walk_after (open_body body at Goes labels) (λ s'. walk_from total s' rest) [])
    ≡ outcome_by_labels total body draft at rest labels
unfolding labels_walk_from
opens total body draft at rest (Err e) = refl
opens total body draft at rest (Ok labels) = by_level (nat_lt depth_limit body.level)
  where
    by_level : (b : Bool)
        → outcome_of total draft.tree draft.reserved
        (walk_after (cond b (Refuses (refusal.TooDeep at)) (Goes (state_at Props labels body)))
        (λ s'. walk_from total s' rest) [])
        ≡ cond b (Err (refusal.TooDeep at))
        (outcome_of total draft.tree draft.reserved
        (labels_walk_from total AtProps [] rest labels body []))
    by_level true = refl
    by_level false = refl

open_found : (total : ℕ) (waiting : List Waiting) (body : Body) (draft : DraftValue)
    (kind : TokenKind) (word : List ℕ) (at : ℕ) (rest : List ℕ)
    → outcome_of total draft.tree draft.reserved
    (walk_at_token total (open_state waiting draft.labels body)
    (record { kind = kind; word = word; at = at; rest = rest }) [])
    ≡ outcome_at_open total waiting body draft
    (record { kind = kind; word = word; at = at; rest = rest }) kind
unfolding walk_at_token
open_found total waiting body draft OpenBrace word at rest =
    opens total body draft at rest (label_all body.path waiting draft.labels)
open_found total waiting body draft _ word at rest = refl

open_of : (total : ℕ) (waiting : List Waiting) (body : Body) (draft : DraftValue)
    (found : Result FoundToken DtsError)
    → outer_token total draft.tree draft.reserved (open_state waiting draft.labels body) found
    ≡ outcome_by_open total waiting body draft found
open_of total waiting body draft (Ok f) =
    open_found total waiting body draft f.kind f.word f.at f.rest
open_of total waiting body draft (Err e) = refl

pub open_step : (total : ℕ) (waiting : List Waiting) (body : Body) (draft : DraftValue)
    (text : List ℕ)
    → outcome_at_body total waiting body draft text
    ≡ outcome_by_open total waiting body draft (first_token Directives total 0 text)
open_step total waiting body draft text =
    outcome_step total draft.tree draft.reserved (open_state waiting draft.labels body) text
    ∙ open_of total waiting body draft (first_token Directives total 0 text)

-- after labels

reopens : (total : ℕ) (level : Level) (waiting : List Waiting) (draft : DraftValue) (word : List ℕ)
    (at : ℕ) (rest : List ℕ) (path : Option (List ℕ))
    → outcome_of total draft.tree draft.reserved
    (walk_after (reference_step (record (waiting_at level waiting draft.labels root) { place = Open })
    at path) (λ s'. walk_from total s' rest) [])
    ≡ outcome_at_label total waiting draft
    (record { kind = Reference; word = word; at = at; rest = rest }) path
unfolding outcome_from
reopens total level waiting draft word at rest (Some path) = refl
reopens total level waiting draft word at rest None = refl

ends_here : (total : ℕ) (draft : DraftValue)
    → tree_of_draft total (record {
      tree = draft.tree;
      labels = draft.labels;
      reserved = draft.reserved ++ [];
    }) ≡ tree_of_draft total draft
ends_here total draft = rw append-nil refl

top_found : (total : ℕ) (at_top : Bool) (waiting : List Waiting) (draft : DraftValue)
    (kind : TokenKind) (word : List ℕ) (at : ℕ) (rest : List ℕ)
    → outcome_at_token total (outer_level at_top) waiting
    (record { kind = kind; word = word; at = at; rest = rest }) draft
    ≡ outcome_by_token total at_top waiting draft
    (record { kind = kind; word = word; at = at; rest = rest }) kind
unfolding outcome_at_token labels_walk_at walk_at_token outcome_from
top_found total false waiting draft Slash word at rest = refl
top_found total false waiting draft Reference word at rest =
    reopens total AtHead waiting draft word at rest (path_labelled draft.labels word)
top_found total false waiting draft Memreserve word at rest = refl
top_found total false waiting draft _ word at rest = refl
top_found total true [] draft Slash word at rest = refl
top_found total true [] draft Reference word at rest =
    reopens total AtTop [] draft word at rest (path_labelled draft.labels word)
top_found total true [] draft End word at rest = ends_here total draft
top_found total true [] draft _ word at rest = refl
top_found total true (w ∷ ws) draft Slash word at rest = refl
top_found total true (w ∷ ws) draft Reference word at rest =
    reopens total AtTop (w ∷ ws) draft word at rest (path_labelled draft.labels word)
top_found total true (w ∷ ws) draft _ word at rest = refl

pub top_step : (total : ℕ) (at_top : Bool) (waiting : List Waiting) (found : FoundToken)
    (draft : DraftValue)
    → outcome_at_token total (outer_level at_top) waiting found draft
    ≡ outcome_by_token total at_top waiting draft found found.kind
top_step total at_top waiting found draft =
    top_found total at_top waiting draft found.kind found.word found.at found.rest

-- the beginning

version_found : (total : ℕ) (kind : TokenKind) (word : List ℕ) (at : ℕ) (rest : List ℕ)
    → walk_at_token total (state_at Version [] root)
    (record { kind = kind; word = word; at = at; rest = rest })
    ≡ version_walk_at_token total (record { kind = kind; word = word; at = at; rest = rest }) kind
unfolding walk_at_token labels_walk_from refusal_walk
version_found total Semicolon word at rest = refl
version_found total _ word at rest = refl

version_of : (total : ℕ) (found : Result FoundToken DtsError)
    → walk_by_token total (state_at Version [] root) found ≡ version_walk_by_token total found
version_of total (Ok f) = version_found total f.kind f.word f.at f.rest
version_of total (Err e) = refl

pub version_step : (total : ℕ) (text : List ℕ)
    → walk_from total (state_at Version [] root) text
    ≡ version_walk_by_token total (first_token Directives total 0 text)
version_step total text = walk_from_step total (state_at Version [] root) text
    ∙ version_of total (first_token Directives total 0 text)

start_found : (total : ℕ) (kind : TokenKind) (word : List ℕ) (at : ℕ) (rest : List ℕ)
    → walk_at_token total start (record { kind = kind; word = word; at = at; rest = rest })
    ≡ start_walk_at_token total (record { kind = kind; word = word; at = at; rest = rest }) kind
unfolding walk_at_token refusal_walk
start_found total DtsV1 word at rest = refl
start_found total _ word at rest = refl

start_of : (total : ℕ) (found : Result FoundToken DtsError)
    → walk_by_token total start found ≡ start_walk_by_token total found
start_of total (Ok f) = start_found total f.kind f.word f.at f.rest
start_of total (Err e) = refl

pub start_step : (total : ℕ) (text : List ℕ)
    → walk_from total start text ≡ start_walk_by_token total (first_token Directives total 0 text)
start_step total text = walk_from_step total start text
    ∙ start_of total (first_token Directives total 0 text)

-- a reserve that was read, up to its `;`
pub reserve_read : (total : ℕ) (draft : DraftValue) (text behind_address behind_length : List ℕ)
    (address length : ℕ)
    → reserved_of (first_token Numbers total 0 text) ≡ Ok (address, behind_address)
    → reserved_of (first_token Numbers total 0 behind_address) ≡ Ok (length, behind_length)
    → outcome_from total draft.tree draft.reserved (state_at Address draft.labels root) text
    ≡ outcome_after_semicolon total AtHead (draft_with_pair draft address length)
    (semicolon_of (first_token Numbers total 0 behind_length))
reserve_read total draft text behind_address behind_length address length reads_address
    reads_length =
    address_step total draft text ∙ (ap (outcome_after_address total draft) reads_address
    ∙ (length_step total address draft behind_address
    ∙ (ap (outcome_after_length total address draft) reads_length
    ∙ reserve_end_step total (draft_with_pair draft address length) behind_length)))

-- what refuses the walk refuses the source
pub outcome_refusal : (total : ℕ) (tree : Branch (List Part)) (reserved : List (ℕ × ℕ))
    (e : DtsError) (walk : Onward) → unless_memory e walk ≡ unless_memory e (refusal_walk e)
    → unless_memory e (outcome_of total tree reserved (walk [])) ≡ unless_memory e (Err e)
unfolding refusal_walk
outcome_refusal total tree reserved e walk same =
    unless_memory_of (λ (w : Onward). outcome_of total tree reserved (w [])) e walk (refusal_walk e)
    same

pub outcome_at_token_is : (total : ℕ) (level : Level) (waiting : List Waiting) (found : FoundToken)
    (draft : DraftValue)
    → outcome_of total draft.tree draft.reserved
    (labels_walk_at total level waiting found draft.labels root [])
    ≡ outcome_at_token total level waiting found draft
unfolding outcome_at_token
outcome_at_token_is total level waiting found draft = refl

-- a body is merged nowhere where its node isn't there

at_name : (name n : List ℕ) (find : Branch (List Part) → Option (Branch (List Part)))
    (change : Branch (List Part) → Branch (List Part))
    → ((b : Branch (List Part)) → find b ≡ None → change b ≡ b)
    → (ps : List (List ℕ × List Part)) (ks rest : Forest (List Part))
    → (option_and_then find (child_of name rest) ≡ None → in_child name change rest ≡ rest)
    → (b : Bool) → option_and_then find (cond b (Some (record {
      name = n;
      props = ps;
      nodes = ks;
    })) (child_of name rest)) ≡ None
    → cond b (grow (change (record { name = n; props = ps; nodes = ks })) rest)
    (node n ps ks (in_child name change rest)) ≡ node n ps ks rest
at_name name n find change stays ps ks rest walk_after true gone =
    ap (λ (b : Branch (List Part)). grow b rest)
    (stays (record { name = n; props = ps; nodes = ks }) gone)
at_name name n find change stays ps ks rest walk_after false gone = ap (node n ps ks) (walk_after gone)

in_child_missing : (name : List ℕ) (find : Branch (List Part) → Option (Branch (List Part)))
    (change : Branch (List Part) → Branch (List Part))
    → ((b : Branch (List Part)) → find b ≡ None → change b ≡ b) → (nodes : Forest (List Part))
    → option_and_then find (child_of name nodes) ≡ None → in_child name change nodes ≡ nodes
in_child_missing name find change stays empty missing = refl
in_child_missing name find change stays (node n ps ks rest) missing =
    at_name name n find change stays ps ks rest (in_child_missing name find change stays rest)
    (bytes_eq name n) missing

reached_missing : (names : List (List ℕ)) (change : Branch (List Part) → Branch (List Part))
    (b : Branch (List Part)) → node_at names b ≡ None → reached names change b ≡ b
reached_missing [] change b missing = cc
reached_missing (n ∷ ns) change b missing =
    ap (λ nodes. record b { nodes = nodes })
    (in_child_missing n (node_at ns) (reached ns change) (reached_missing ns change) b.nodes
    missing)

names_missing : (names : Option (List (List ℕ))) (body tree : Branch (List Part))
    → option_and_then (λ ns. node_at ns tree) names ≡ None
    → option_map_or (λ ns. reached ns (merging body) tree) names tree ≡ tree
names_missing None body tree missing = refl
names_missing (Some ns) body tree missing = reached_missing ns (merging body) tree missing

pub merged_missing : (tree : Branch (List Part)) (path : List ℕ) (body : Branch (List Part))
    → found path tree ≡ None → merged tree path body ≡ tree
merged_missing tree path body missing = names_missing (path_names path) body tree missing

pub none_found : {A : Type 0} (o : Option A) → is_some o ≡ false → o ≡ None
none_found None is = refl
none_found (Some x) is = absurd (false≢true (sym is))

pub IsShorter-weaker : (next : Next) (m n : ℕ) → m ≤ n → IsShorter next m → IsShorter next n
IsShorter-weaker (IsHead rest) m n le shorter = omega arith
IsShorter-weaker (IsTop rest) m n le shorter = omega arith
IsShorter-weaker IsDone m n le shorter = tt
