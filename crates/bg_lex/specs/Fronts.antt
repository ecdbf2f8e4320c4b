-- What stands at the front of bytes.
use Rattle.std.specs.Prelude.{◌≡◌, ℕ, List, [], ◌∷◌, ◌++◌, length, Option, Some, None, true, false, Result, Ok, Err}
use Rattle.bg_base.specs.declared.pos.Pos.{Pos}
use Rattle.bg_text.specs.declared.token.Kind.{Kind}
use Rattle.bg_text.specs.Pieces.{Piece, Layout, Token, piece_of}
use Rattle.bg_text.specs.Text.{IsLongest, Stands, begins_ident, is_number}
use Rattle.bg_text.specs.Tokens.{Tok}
use Rattle.bg_lex.specs.declared.error.Fault.{Fault}
use Rattle.bg_lex.specs.declared.front.Front.{Front}
use Rattle.bg_lex.specs.Faults.{fault_of}

-- a token of this kind, or layout
abbrev pub piece_for : Option Kind → Piece
piece_for None = Layout
piece_for (Some k) = Token k

-- no identifier byte stands behind a number
abbrev pub EndsWell : Option Kind → List ℕ → Type 0
EndsWell None after = Unit {0}
EndsWell (Some k) after = is_number k ≡ true → begins_ident after ≡ false

-- The longest piece in front has n bytes, and is layout or a token of this kind that stands in a token list.
pub record Found (bytes : List ℕ) (kind : Option Kind) (n : ℕ) : Type 0 where
  pub text : List ℕ
  pub after : List ℕ
  pub cut : bytes ≡ text ++ after
  pub len : length text ≡ n
  pub is_piece : piece_of text ≡ Some (piece_for kind)
  pub longest : IsLongest text bytes
  pub ends : EndsWell kind after

-- the second list is the first and the token of this kind, text and position, or the first where there is no kind
abbrev pub Adds : Option Kind → Pos → List ℕ → List Tok → List Tok → Type 0
Adds None at text ts us = us ≡ ts
Adds (Some k) at text ts us = (t : Tok) × (t.kind ≡ k) × (t.text ≡ text) × (t.pos ≡ at) × (us ≡ ts ++ t ∷ [])

-- what stands in front, or the fault that stands there
abbrev pub IsFront : List ℕ → Result Front Fault → Type 0
IsFront bytes (Ok front) = Found bytes front.kind front.len
IsFront bytes (Err fault) = Stands bytes (fault_of fault)
