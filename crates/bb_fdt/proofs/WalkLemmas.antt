-- The walk, one token at a time.
use Rattle.std.proofs.Common.{◌≡◌, ◌≢◌, ℕ, ◌-◌, suc, zero, List, [], ◌∷◌, ◌++◌, length, drop, Option, Some, None, Result, Ok, Err, IfOk, refl, ap, sym, ◌∙◌}
use Rattle.std.specs.Option.{option_map}
use Rattle.std.proofs.lemmas.List.{map-append}
use Rattle.bb_tree.specs.Node.{Branch}
use Rattle.bb_tree.specs.declared.prop.Prop.{Prop}
use Rattle.bb_tree.specs.declared.node.NodeList.{NodeList}
use Rattle.bb_fdt.specs.declared.error.FdtError.{FdtError}
use Rattle.bb_fdt.specs.declared.error.FdtError.TheVariants as refusal
use Rattle.bb_fdt.specs.declared.token_kind.TokenKind.{TokenKind}
use Rattle.bb_fdt.specs.declared.token_kind.TokenKind.TheVariants.{BeginNode, EndNode, Property, Nop, End}
use Rattle.bb_fdt.specs.Tokens.{FoundToken, Token, first_token, token_at, found_by, found_at}
use Rattle.bb_fdt.specs.Walk.{Open, Place, Before, Inside, Behind, walk, walk_over_token, walk_after, does, with_prop, with_node, child_name, prop_name, child_step, prop_step}
use Rattle.bb_fdt.proofs.TokenLemmas.{first_token-other}
use Rattle.bb_fdt.specs.Descent.{Onward, walk_from, refusal_walk, walk_at_token, walk_by_token, walk_inside, walk_after_node, walk_into_node, walk_after_prop, item_walk_at_token, item_walk_by_token, root_walk_at_token, root_walk_by_token, end_walk_at_token, end_walk_by_token, open_of, unless_memory}

walk-skip : (strings : List ℕ) (end skip : ℕ) (text : List ℕ)
    → walk strings end skip text ≡ walk strings end 0 (drop skip text)
unfolding walk
walk-skip strings end zero [] = refl
walk-skip strings end zero (b ∷ tail) = refl
walk-skip strings end (suc skip) [] = refl
walk-skip strings end (suc skip) (b ∷ tail) = walk-skip strings end skip tail

-- FDT_NOP leaves the place as it is
nop : (strings : List ℕ) (at : ℕ) (place : Place) (bytes : List ℕ) (name_at : ℕ)
    (on : Place → Onward) → walk_after (does strings at place bytes name_at Nop) on ≡ on place
nop strings at Before bytes name_at on = refl
nop strings at (Inside o) bytes name_at on = refl
nop strings at (Behind root) bytes name_at on = refl

takes_by : (strings : List ℕ) (end at : ℕ) (tail : List ℕ) (place : Place) (t : Token)
    (kind : TokenKind)
    → ((n : ℕ)
    → walk strings end n tail place ≡ walk_by_token strings end place (first_token end n tail))
    → walk_after (does strings at place t.bytes t.name_at kind) (walk strings end t.behind tail)
    ≡ walk_by_token strings end place (found_by at tail t kind (λ n. first_token end n tail))
unfolding walk_at_token walk_from
takes_by strings end at tail place t Nop onward =
    nop strings at place t.bytes t.name_at (walk strings end t.behind tail) ∙ onward t.behind
takes_by strings end at tail place t BeginNode onward =
    ap (λ on. walk_after (does strings at place t.bytes t.name_at BeginNode) on)
    (walk-skip strings end t.behind tail)
takes_by strings end at tail place t EndNode onward =
    ap (λ on. walk_after (does strings at place t.bytes t.name_at EndNode) on)
    (walk-skip strings end t.behind tail)
takes_by strings end at tail place t Property onward =
    ap (λ on. walk_after (does strings at place t.bytes t.name_at Property) on)
    (walk-skip strings end t.behind tail)
takes_by strings end at tail place t End onward =
    ap (λ on. walk_after (does strings at place t.bytes t.name_at End) on)
    (walk-skip strings end t.behind tail)

takes : (strings : List ℕ) (end at : ℕ) (tail : List ℕ) (place : Place) (t : Option Token)
    → ((n : ℕ)
    → walk strings end n tail place ≡ walk_by_token strings end place (first_token end n tail))
    → walk_over_token strings at place t (λ n. walk strings end n tail)
    ≡ walk_by_token strings end place (found_at at tail t (λ n. first_token end n tail))
unfolding refusal_walk
takes strings end at tail place None onward = refl
takes strings end at tail place (Some t) onward = takes_by strings end at tail place t t.kind onward

walk-token : (strings : List ℕ) (end skip : ℕ) (text : List ℕ) (place : Place)
    → walk strings end skip text place ≡ walk_by_token strings end place (first_token end skip text)
unfolding walk first_token refusal_walk
walk-token strings end skip [] place = refl
walk-token strings end (suc skip) (b ∷ tail) place = walk-token strings end skip tail place
walk-token strings end zero (b ∷ tail) place =
    takes strings end (end - length (b ∷ tail)) tail place (token_at (b ∷ tail))
    (λ n. walk-token strings end n tail place)

-- the walk goes on by its first token
pub walk_from_step : (strings : List ℕ) (end : ℕ) (place : Place) (text : List ℕ)
    → walk_from strings end place text ≡ walk_by_token strings end place (first_token end 0 text)
unfolding walk_from
walk_from_step strings end place text = walk-token strings end 0 text place

enters : (strings : List ℕ) (end : ℕ) (o : Open) (rest : List ℕ) (name : Result (List ℕ) FdtError)
    → walk_after (child_step o name) (λ p. walk_from strings end p rest)
    ≡ walk_into_node strings end o rest name
unfolding walk_inside refusal_walk
enters strings end o rest (Ok name) = refl
enters strings end o rest (Err e) = refl

has : (strings : List ℕ) (end : ℕ) (o : Open) (value rest : List ℕ)
    (name : Result (List ℕ) FdtError)
    → walk_after (prop_step o value name) (λ p. walk_from strings end p rest)
    ≡ walk_after_prop strings end o value rest name
unfolding refusal_walk
has strings end o value rest (Ok name) = refl
has strings end o value rest (Err e) = refl

item_found : (strings : List ℕ) (end : ℕ) (o : Open) (f : FoundToken) (kind : TokenKind) → kind ≢ Nop
    → walk_after (does strings f.at (Inside o) f.bytes f.name_at kind)
    (λ p. walk_from strings end p f.rest) ≡ item_walk_at_token strings end o f kind
unfolding refusal_walk walk_after_node
item_found strings end o f BeginNode other =
    enters strings end o f.rest (child_name f.at o.level f.bytes)
item_found strings end o f Property other =
    has strings end o f.bytes f.rest (prop_name f.at strings f.name_at)
item_found strings end o f EndNode other = refl
item_found strings end o f Nop other = absurd (other refl)
item_found strings end o f End other = refl

item_on_found : (strings : List ℕ) (end : ℕ) (o : Open) (found : Result FoundToken FdtError)
    → IfOk found (λ f. f.kind ≢ Nop)
    → walk_by_token strings end (Inside o) found ≡ item_walk_by_token strings end o found
unfolding walk_at_token
item_on_found strings end o (Ok f) other = item_found strings end o f f.kind other
item_on_found strings end o (Err e) other = refl

-- a walk in a node goes on by its first token
pub item_step : (strings : List ℕ) (end : ℕ) (o : Open) (text : List ℕ)
    → walk_from strings end (Inside o) text
    ≡ item_walk_by_token strings end o (first_token end 0 text)
item_step strings end o text = walk_from_step strings end (Inside o) text
    ∙ item_on_found strings end o (first_token end 0 text) (first_token-other end 0 text)

root_found : (strings : List ℕ) (end : ℕ) (f : FoundToken) (kind : TokenKind) → kind ≢ Nop
    → walk_after (does strings f.at Before f.bytes f.name_at kind) (λ p. walk_from strings end p f.rest)
    [] ≡ root_walk_at_token strings end f kind
root_found strings end f BeginNode other = refl
root_found strings end f Nop other = absurd (other refl)
root_found strings end f EndNode other = refl
root_found strings end f Property other = refl
root_found strings end f End other = refl

root_on_found : (strings : List ℕ) (end : ℕ) (found : Result FoundToken FdtError)
    → IfOk found (λ f. f.kind ≢ Nop)
    → walk_by_token strings end Before found [] ≡ root_walk_by_token strings end found
unfolding walk_at_token refusal_walk
root_on_found strings end (Ok f) other = root_found strings end f f.kind other
root_on_found strings end (Err e) other = refl

-- the walk before the root goes on by its first token
pub root_step : (strings : List ℕ) (end : ℕ) (text : List ℕ)
    → walk_from strings end Before text [] ≡ root_walk_by_token strings end (first_token end 0 text)
root_step strings end text = ap (λ (w : Onward). w []) (walk_from_step strings end Before text)
    ∙ root_on_found strings end (first_token end 0 text) (first_token-other end 0 text)

end_found : (strings : List ℕ) (end : ℕ) (root : Branch (List ℕ)) (f : FoundToken) (kind : TokenKind)
    → kind ≢ Nop
    → walk_after (does strings f.at (Behind root) f.bytes f.name_at kind)
    (λ p. walk_from strings end p f.rest) [] ≡ end_walk_at_token root f kind
end_found strings end root f BeginNode other = refl
end_found strings end root f Nop other = absurd (other refl)
end_found strings end root f EndNode other = refl
end_found strings end root f Property other = refl
end_found strings end root f End other = refl

end_on_found : (strings : List ℕ) (end : ℕ) (root : Branch (List ℕ)) (found : Result FoundToken FdtError)
    → IfOk found (λ f. f.kind ≢ Nop)
    → walk_by_token strings end (Behind root) found [] ≡ end_walk_by_token root found
unfolding walk_at_token refusal_walk
end_on_found strings end root (Ok f) other = end_found strings end root f f.kind other
end_on_found strings end root (Err e) other = refl

-- the walk where the root was closed goes on by its first token
pub end_step : (strings : List ℕ) (end : ℕ) (root : Branch (List ℕ)) (rest : List ℕ)
    → walk_after_node strings end root rest [] ≡ end_walk_by_token root (first_token end 0 rest)
unfolding walk_after_node
end_step strings end root rest =
    ap (λ (w : Onward). w []) (walk_from_step strings end (Behind root) rest)
    ∙ end_on_found strings end root (first_token end 0 rest) (first_token-other end 0 rest)

-- a node that is closed joins the one around it
pub inside_after_node : (strings : List ℕ) (end : ℕ) (o : Open) (branch : Branch (List ℕ))
    (rest : List ℕ)
    → walk_inside o (walk_after_node strings end branch rest)
    ≡ walk_from strings end (Inside (with_node o branch)) rest
unfolding walk_inside walk_after_node
inside_after_node strings end o branch rest = refl

pub inside_refusal_walk : (o : Open) (e : FdtError)
    → walk_inside o (refusal_walk e) ≡ refusal_walk e
unfolding walk_inside refusal_walk
inside_refusal_walk o e = refl

unless_memory_map : {A B : Type 0} (f : A → B) (e : FdtError) (walk : A)
    → unless_memory e (f walk) ≡ option_map f (unless_memory e walk)
unless_memory_map f refusal.NotBlob walk = refl
unless_memory_map f refusal.Version walk = refl
unless_memory_map f (refusal.OutOfBounds field) walk = refl
unless_memory_map f (refusal.BadToken at) walk = refl
unless_memory_map f (refusal.BadName at) walk = refl
unless_memory_map f (refusal.TooDeep at) walk = refl
unless_memory_map f refusal.NoMemory walk = refl

-- what refuses a walk refuses all that is made of it
pub spoken_of : {A B : Type 0} (f : A → B) (e : FdtError) (walk refusal_walk : A)
    → unless_memory e walk ≡ unless_memory e refusal_walk
    → unless_memory e (f walk) ≡ unless_memory e (f refusal_walk)
spoken_of f e walk refusal_walk same = unless_memory_map f e walk
    ∙ (ap (λ o. option_map f o) same ∙ sym (unless_memory_map f e refusal_walk))

pub inside_unless_memory : (o : Open) (e : FdtError) (walk : Onward)
    → unless_memory e (walk_inside o walk) ≡ option_map (walk_inside o) (unless_memory e walk)
inside_unless_memory o e walk = unless_memory_map (walk_inside o) e walk

pub root_spoken : (e : FdtError) (walk : Onward)
    → unless_memory e walk ≡ unless_memory e (refusal_walk e)
    → unless_memory e (walk []) ≡ unless_memory e (Err e)
unfolding refusal_walk
root_spoken e walk same = spoken_of (λ (w : Onward). w []) e walk (refusal_walk e) same

-- a property that is read joins the node
pub open_with_prop : (level : ℕ) (name : List ℕ) (props more : List Prop) (nodes : NodeList)
    (prop : Prop) → more ≡ props ++ prop ∷ []
    → open_of level name more nodes
    ≡ with_prop (open_of level name props nodes) prop.name prop.value
open_with_prop level name props more nodes prop is = rw is (simp map-append)
