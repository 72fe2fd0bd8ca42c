-- The walk, one token at a time.
use Rattle.std.proofs.Common.{◌≡◌, ℕ, ◌-◌, suc, zero, List, [], ◌∷◌, length, take, drop, Result, Ok, Err, refl, ap, ◌∙◌}
use Rattle.bb_dts.specs.declared.error.DtsError.{DtsError}
use Rattle.bb_dts.specs.declared.token_kind.TokenKind.{TokenKind}
use Rattle.bb_dts.specs.declared.token_kind.TokenKind.TheVariants.{Semicolon, Less, Greater, OpenBracket, CloseBracket, Comma, Quoted, Reference, Number, Byte, End}
use Rattle.bb_dts.specs.declared.token_kind.Lexed.{Lexed}
use Rattle.bb_dts.specs.declared.token_kind.Lexed.TheVariants.{Blank, Token, BadToken, LeftOut}
use Rattle.bb_dts.specs.declared.token_kind.Mode.TheVariants.{Values, Numbers, Pairs}
use Rattle.bb_dts.specs.declared.property.Property.{Property}
use Rattle.bb_dts.specs.Tokens.{FoundToken, first_token, token_at, word_of, found_at}
use Rattle.bb_dts.specs.Places.{Place, Start, Version, Head, Address, Length, ReserveEnd, Top, TopLabel, Open, Props, PropsLabel, PropName, Value, Cells, Bytes, After, Close, TopClose, Nodes, NodesLabel, NodeName, follows, mode_of}
use Rattle.bb_dts.specs.Walk.{WalkState, walk, begins, walk_after, step, step_to, with_next_value, joined_parts, value_step}
use Rattle.bb_dts.specs.Descent.{Onward, walk_from, refusal_walk, walk_at_token, walk_by_token, OnwardValue, value_walk_from, value_refusal_walk, walk_after_value, value_walk_after_step, value_walk_by_token, value_walk_to, value_walk_behind, value_walk_at_end, walk_after_prop}

walk-skip : (total skip : ℕ) (text : List ℕ) → walk total skip text ≡ walk total 0 (drop skip text)
unfolding walk
walk-skip total zero [] = refl
walk-skip total zero (c ∷ tail) = refl
walk-skip total (suc skip) [] = refl
walk-skip total (suc skip) (c ∷ tail) = walk-skip total skip tail

-- nothing comes after the end of the text
ends : (p : Place) (s : WalkState) (total : ℕ) (on on' : WalkState → Onward)
    → walk_after (step_to p End [] total s (follows p End)) on
    ≡ walk_after (step_to p End [] total s (follows p End)) on'
ends Start s total on on' = refl
ends Version s total on on' = refl
ends Head s total on on' = refl
ends Address s total on on' = refl
ends Length s total on on' = refl
ends ReserveEnd s total on on' = refl
ends Top s total on on' = refl
ends TopLabel s total on on' = refl
ends Open s total on on' = refl
ends Props s total on on' = refl
ends PropsLabel s total on on' = refl
ends PropName s total on on' = refl
ends Value s total on on' = refl
ends Cells s total on on' = refl
ends Bytes s total on on' = refl
ends After s total on on' = refl
ends Close s total on on' = refl
ends TopClose s total on on' = refl
ends Nodes s total on on' = refl
ends NodesLabel s total on on' = refl
ends NodeName s total on on' = refl

walk-begins : (total : ℕ) (c : ℕ) (tail : List ℕ) (s : WalkState) (lexed : Lexed)
    → ((n : ℕ)
    → walk total n tail s ≡ walk_by_token total s (first_token (mode_of s.place) total n tail))
    → begins s (total - length (c ∷ tail)) c tail lexed (λ n. walk total n tail)
    ≡ walk_by_token total s (found_at (total - length (c
    ∷ tail)) c tail lexed (λ n. first_token (mode_of s.place) total n tail))
unfolding walk_at_token walk_from refusal_walk
walk-begins total c tail s (Blank n) behind_blanks = behind_blanks n
walk-begins total c tail s (Token kind n) behind_blanks =
    ap (λ on. walk_after (step s kind (word_of kind (c ∷ take n tail)) (total - length (c ∷ tail))) on)
    (walk-skip total n tail)
walk-begins total c tail s BadToken behind_blanks = refl
walk-begins total c tail s LeftOut behind_blanks = refl

walk-token : (total skip : ℕ) (text : List ℕ) (s : WalkState)
    → walk total skip text s ≡ walk_by_token total s (first_token (mode_of s.place) total skip text)
unfolding walk first_token walk_at_token walk_from
walk-token total skip [] s = ends s.place s total (λ _ _. Ok (record {
  bodies = [];
  labels = [];
  reserved = [];
})) (λ s'. walk total 0 [] s')
walk-token total (suc skip) (c ∷ tail) s = walk-token total skip tail s
walk-token total zero (c ∷ tail) s = walk-begins total c tail s (token_at (mode_of s.place) (c
    ∷ tail)) (λ n. walk-token total n tail s)

-- the walk goes on by its first token
pub walk_from_step : (total : ℕ) (s : WalkState) (text : List ℕ)
    → walk_from total s text ≡ walk_by_token total s (first_token (mode_of s.place) total 0 text)
unfolding walk_from
walk_from_step total s text = walk-token total 0 text s

-- values

pointwise : {f g : OnwardValue} → ((s : WalkState) → f s ≡ g s) → f ≡ g
pointwise h = λ i s. h s i

on_value : (total : ℕ) (place : Place) (rest : List ℕ) (s : WalkState) (before : Property)
    (named : Result Property DtsError) → walk_after (with_next_value (record s {
      place = place;
      named = before;
    }) named) (λ s'. walk_from total s' rest)
    ≡ value_walk_after_step total place rest named s
unfolding value_walk_from value_refusal_walk refusal_walk
on_value total place rest s before (Ok named) = refl
on_value total place rest s before (Err e) = refl

in_value : (total : ℕ) (named : Property) (s : WalkState) (kind : TokenKind) (word : List ℕ) (at : ℕ)
    (rest : List ℕ) → walk_after (step_to Value kind word at (record s {
      place = Value;
      named = named;
    }) (follows Value kind)) (λ s'. walk_from total s' rest)
    ≡ value_walk_to total Value named (record { kind = kind; word = word; at = at; rest = rest })
    (follows Value kind) s
unfolding value_walk_from value_refusal_walk refusal_walk
in_value total named s Quoted word at rest =
    on_value total After rest s named (value_step Value Quoted word at named)
in_value total named s Reference word at rest =
    on_value total After rest s named (value_step Value Reference word at named)
in_value total named s Less word at rest =
    on_value total Cells rest s named (value_step Value Less word at named)
in_value total named s OpenBracket word at rest =
    on_value total Bytes rest s named (value_step Value OpenBracket word at named)
in_value total named s _ word at rest = refl

in_cells : (total : ℕ) (named : Property) (s : WalkState) (kind : TokenKind) (word : List ℕ) (at : ℕ)
    (rest : List ℕ) → walk_after (step_to Cells kind word at (record s {
      place = Cells;
      named = named;
    }) (follows Cells kind)) (λ s'. walk_from total s' rest)
    ≡ value_walk_to total Cells named (record { kind = kind; word = word; at = at; rest = rest })
    (follows Cells kind) s
unfolding value_walk_from value_refusal_walk refusal_walk
in_cells total named s Number word at rest =
    on_value total Cells rest s named (value_step Cells Number word at named)
in_cells total named s Reference word at rest =
    on_value total Cells rest s named (value_step Cells Reference word at named)
in_cells total named s Greater word at rest =
    on_value total After rest s named (value_step Cells Greater word at named)
in_cells total named s _ word at rest = refl

in_bytes : (total : ℕ) (named : Property) (s : WalkState) (kind : TokenKind) (word : List ℕ) (at : ℕ)
    (rest : List ℕ) → walk_after (step_to Bytes kind word at (record s {
      place = Bytes;
      named = named;
    }) (follows Bytes kind)) (λ s'. walk_from total s' rest)
    ≡ value_walk_to total Bytes named (record { kind = kind; word = word; at = at; rest = rest })
    (follows Bytes kind) s
unfolding value_walk_from value_refusal_walk refusal_walk
in_bytes total named s Byte word at rest =
    on_value total Bytes rest s named (value_step Bytes Byte word at named)
in_bytes total named s CloseBracket word at rest =
    on_value total After rest s named (value_step Bytes CloseBracket word at named)
in_bytes total named s _ word at rest = refl

after_value : (total : ℕ) (named : Property) (s : WalkState) (kind : TokenKind) (word : List ℕ) (at : ℕ)
    (rest : List ℕ) → walk_after (step_to After kind word at (record s {
      place = After;
      named = named;
    }) (follows After kind)) (λ s'. walk_from total s' rest)
    ≡ value_walk_behind total named (record { kind = kind; word = word; at = at; rest = rest }) kind
    s
unfolding value_walk_from value_refusal_walk walk_after_value refusal_walk
after_value total named s Comma word at rest = refl
after_value total named s Semicolon word at rest = refl
after_value total named s _ word at rest = refl

value_found : (total : ℕ) (named : Property) (s : WalkState) (found : Result FoundToken DtsError)
    → walk_by_token total (record s { place = Value; named = named }) found
    ≡ value_walk_by_token total Value named found s
unfolding walk_at_token value_refusal_walk
value_found total named s (Ok f) = in_value total named s f.kind f.word f.at f.rest
value_found total named s (Err e) = refl

cells_found : (total : ℕ) (named : Property) (s : WalkState) (found : Result FoundToken DtsError)
    → walk_by_token total (record s { place = Cells; named = named }) found
    ≡ value_walk_by_token total Cells named found s
unfolding walk_at_token value_refusal_walk
cells_found total named s (Ok f) = in_cells total named s f.kind f.word f.at f.rest
cells_found total named s (Err e) = refl

bytes_found : (total : ℕ) (named : Property) (s : WalkState) (found : Result FoundToken DtsError)
    → walk_by_token total (record s { place = Bytes; named = named }) found
    ≡ value_walk_by_token total Bytes named found s
unfolding walk_at_token value_refusal_walk
bytes_found total named s (Ok f) = in_bytes total named s f.kind f.word f.at f.rest
bytes_found total named s (Err e) = refl

after_found : (total : ℕ) (named : Property) (s : WalkState) (found : Result FoundToken DtsError)
    → walk_by_token total (record s { place = After; named = named }) found
    ≡ value_walk_at_end total named found s
unfolding walk_at_token value_refusal_walk
after_found total named s (Ok f) = after_value total named s f.kind f.word f.at f.rest
after_found total named s (Err e) = refl

-- a walk in a value goes on by its first token
pub value_walk_from_value : (total : ℕ) (named : Property) (text : List ℕ)
    → value_walk_from total Value named text
    ≡ value_walk_by_token total Value named (first_token Values total 0 text)
unfolding value_walk_from
value_walk_from_value total named text =
    pointwise (λ s. walk_from_step total (record s { place = Value; named = named }) text
    ∙ value_found total named s (first_token Values total 0 text))

pub value_walk_from_cells : (total : ℕ) (named : Property) (text : List ℕ)
    → value_walk_from total Cells named text
    ≡ value_walk_by_token total Cells named (first_token Numbers total 0 text)
unfolding value_walk_from
value_walk_from_cells total named text =
    pointwise (λ s. walk_from_step total (record s { place = Cells; named = named }) text
    ∙ cells_found total named s (first_token Numbers total 0 text))

pub value_walk_from_bytes : (total : ℕ) (named : Property) (text : List ℕ)
    → value_walk_from total Bytes named text
    ≡ value_walk_by_token total Bytes named (first_token Pairs total 0 text)
unfolding value_walk_from
value_walk_from_bytes total named text =
    pointwise (λ s. walk_from_step total (record s { place = Bytes; named = named }) text
    ∙ bytes_found total named s (first_token Pairs total 0 text))

pub value_walk_from_after : (total : ℕ) (named : Property) (text : List ℕ)
    → value_walk_from total After named text
    ≡ value_walk_at_end total named (first_token Values total 0 text)
unfolding value_walk_from
value_walk_from_after total named text =
    pointwise (λ s. walk_from_step total (record s { place = After; named = named }) text
    ∙ after_found total named s (first_token Values total 0 text))

pub walk_after_value_is : (total : ℕ) (named : Property) (rest : List ℕ)
    → walk_after_value total named rest ≡ walk_after_prop total named.name (joined_parts named) rest
unfolding walk_after_value walk_after_prop
walk_after_value_is total named rest = refl
