-- The first token of a text, token by token.
use Rattle.std.proofs.Common.{◌≡◌, ◌≢◌, ℕ, ◌+◌, ◌-◌, ◌<◌, suc, zero, List, [], ◌∷◌, length, drop, Option, Some, None, Result, Ok, Err, IfOk, refl, arith}
use Rattle.bb_fdt.specs.declared.error.FdtError.{FdtError}
use Rattle.bb_fdt.specs.declared.error.FdtError.TheVariants.{BadToken}
use Rattle.bb_fdt.specs.declared.token_kind.TokenKind.{TokenKind}
use Rattle.bb_fdt.specs.declared.token_kind.TokenKind.TheVariants.{BeginNode, EndNode, Property, Nop, End}
use Rattle.bb_fdt.specs.Tokens.{FoundToken, Token, first_token, token_at, found_by, found_at}

pub first_token-skip : (end skip : ℕ) (text : List ℕ)
    → first_token end skip text ≡ first_token end 0 (drop skip text)
unfolding first_token
first_token-skip end zero [] = refl
first_token-skip end zero (b ∷ tail) = refl
first_token-skip end (suc skip) [] = refl
first_token-skip end (suc skip) (b ∷ tail) = first_token-skip end skip tail

-- what comes of the token that a text begins with
abbrev pub here_by : ℕ → List ℕ → Token → TokenKind → Result FoundToken FdtError
here_by end text t Nop = first_token end 0 (drop (t.behind + 1) text)
here_by end text t kind = Ok (record {
  kind = kind;
  bytes = t.bytes;
  name_at = t.name_at;
  at = end - length text;
  rest = drop (t.behind + 1) text;
})

abbrev pub here : ℕ → List ℕ → Option Token → Result FoundToken FdtError
here end text None = Err (BadToken (end - length text))
here end text (Some t) = here_by end text t t.kind

found_here : (end b : ℕ) (tail : List ℕ) (t : Token) (kind : TokenKind)
    → found_by (end - length (b ∷ tail)) tail t kind (λ n. first_token end n tail)
    ≡ here_by end (b ∷ tail) t kind
found_here end b tail t Nop = let more : t.behind + 1 ≡ suc t.behind = omega arith in
    rw more (first_token-skip end t.behind tail)
found_here end b tail t _ = let more : t.behind + 1 ≡ suc t.behind = omega arith in rw more refl

at_here : (end b : ℕ) (tail : List ℕ) (t : Option Token)
    → found_at (end - length (b ∷ tail)) tail t (λ n. first_token end n tail)
    ≡ here end (b ∷ tail) t
at_here end b tail None = refl
at_here end b tail (Some t) = found_here end b tail t t.kind

pub first_token-here : (end : ℕ) (text : List ℕ) → 0 < length text
    → first_token end 0 text ≡ here end text (token_at text)
unfolding first_token
first_token-here end [] some = absurd (omega arith)
first_token-here end (b ∷ tail) some = at_here end b tail (token_at (b ∷ tail))

pub first_token-none : (end : ℕ) (text : List ℕ) → length text ≡ 0
    → first_token end 0 text ≡ Err (BadToken end)
unfolding first_token
first_token-none end [] none = refl
first_token-none end (b ∷ tail) none = absurd (omega arith)

-- another token than FDT_NOP
pub here-other : (end : ℕ) (text : List ℕ) (t : Token) (kind : TokenKind) → kind ≢ Nop
    → here_by end text t kind ≡ Ok (record {
      kind = kind;
      bytes = t.bytes;
      name_at = t.name_at;
      at = end - length text;
      rest = drop (t.behind + 1) text;
    })
here-other end text t Nop other = absurd (other refl)
here-other end text t _ other = refl

-- what is found isn't FDT_NOP
other_by : (at : ℕ) (tail : List ℕ) (t : Token) (kind : TokenKind) (on : ℕ → Result FoundToken FdtError)
    → ((n : ℕ) → IfOk (on n) (λ f. f.kind ≢ Nop))
    → IfOk (found_by at tail t kind on) (λ f. f.kind ≢ Nop)
other_by at tail t Nop on onward = onward t.behind
other_by at tail t BeginNode on onward = λ e. cc
other_by at tail t EndNode on onward = λ e. cc
other_by at tail t Property on onward = λ e. cc
other_by at tail t End on onward = λ e. cc

other_at : (at : ℕ) (tail : List ℕ) (t : Option Token) (on : ℕ → Result FoundToken FdtError)
    → ((n : ℕ) → IfOk (on n) (λ f. f.kind ≢ Nop)) → IfOk (found_at at tail t on) (λ f. f.kind ≢ Nop)
other_at at tail None on onward = tt
other_at at tail (Some t) on onward = other_by at tail t t.kind on onward

pub first_token-other : (end skip : ℕ) (text : List ℕ)
    → IfOk (first_token end skip text) (λ f. f.kind ≢ Nop)
unfolding first_token
first_token-other end skip [] = tt
first_token-other end (suc skip) (b ∷ tail) = first_token-other end skip tail
first_token-other end zero (b ∷ tail) = other_at (end - length (b ∷ tail)) tail (token_at (b
    ∷ tail)) (λ n. first_token end n tail) (λ n. first_token-other end n tail)
