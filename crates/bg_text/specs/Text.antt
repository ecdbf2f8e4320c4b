-- The tokens of a text.
use Rattle.std.specs.Prelude.{◌≡◌, ◌≢◌, ℕ, ◌+◌, ◌≤◌, List, [], ◌∷◌, ◌++◌, length, Bool, true, false, Option, Some, None, ◌==◌, if◌then◌else◌, codes, ◌&&◌}
use Rattle.bg_base.specs.declared.pos.Pos.{Pos}
use Rattle.bg_text.specs.declared.token.Kind.{Kind}
use Rattle.bg_text.specs.declared.token.Kind.TheVariants as kinds
use Rattle.bg_text.specs.Tokens.{Tok}
use Rattle.bg_text.specs.Pieces.{Piece, Layout, Token, Reserved, TooBig, piece_of, is_ident}

-- the bytes are a piece
abbrev pub IsPiece : List ℕ → Type 0
IsPiece bytes = (p : Piece) × (piece_of bytes ≡ Some p)

-- no longer piece stands at the front of the bytes
abbrev pub IsLongest : List ℕ → List ℕ → Type 0
IsLongest piece bytes = (q r : List ℕ) → bytes ≡ q ++ r → IsPiece q → length q ≤ length piece

-- The bytes up to the rest are these pieces, each the longest at its place.
abbrev pub Cut : List (List ℕ) → List ℕ → List ℕ → Type 0
Cut [] bytes rest = bytes ≡ rest
Cut (p ∷ ps) bytes rest = (after : List ℕ) × (bytes ≡ p ++ after) × IsPiece p × IsLongest p bytes × Cut ps after rest

abbrev pub after_byte : ℕ → Pos → Pos
after_byte b pos = if b == 10 then record { line = pos.line + 1; column = 1 } else record { line = pos.line; column = pos.column + 1 }

abbrev pub after_bytes : List ℕ → Pos → Pos
after_bytes [] pos = pos
after_bytes (b ∷ bs) pos = after_bytes bs (after_byte b pos)

abbrev pub after_pieces : List (List ℕ) → Pos → Pos
after_pieces [] pos = pos
after_pieces (p ∷ ps) pos = after_pieces ps (after_bytes p pos)

abbrev pub begins_ident : List ℕ → Bool
begins_ident [] = false
begins_ident (b ∷ bs) = is_ident b

-- whether an identifier byte follows: the first of the next piece, or of the rest
abbrev pub starts_ident : List (List ℕ) → List ℕ → Bool
starts_ident [] rest = begins_ident rest
starts_ident (p ∷ ps) rest = begins_ident p

abbrev pub is_number : Kind → Bool
is_number (kinds.Number z) = true
is_number _ = false

abbrev pub HaveBy : Pos → List ℕ → Bool → Option Piece → (List Tok → Type 0) → List Tok → Type 0
HaveBy pos p ident (Some Layout) More ts = More ts
HaveBy pos p ident (Some (Token k)) More ts =
    (t : Tok) × (rest : List Tok) × (ts ≡ t ∷ rest) × (t.kind ≡ k) × (t.text ≡ p) × (t.pos ≡ pos) × (is_number k ≡ true → ident ≡ false) × More rest
HaveBy pos p ident (Some (Reserved name)) More ts = ⊥
HaveBy pos p ident (Some TooBig) More ts = ⊥
HaveBy pos p ident None More ts = ⊥

-- the pieces up to the rest, the first at this position, have these tokens, and nothing that stands in no token list
abbrev pub Have : Pos → List (List ℕ) → List ℕ → List Tok → Type 0
Have pos [] rest ts = ts ≡ []
Have pos (p ∷ ps) rest ts = HaveBy pos p (starts_ident ps rest) (piece_of p) (Have (after_bytes p pos) ps rest) ts

abbrev pub start : Pos
start = record { line = 1; column = 1 }

-- the text holds these tokens
abbrev pub Text : List ℕ → List Tok → Type 0
Text bytes tokens = (ps : List (List ℕ)) × Cut ps bytes [] × Have start ps [] tokens

pub data Fault : Type 0 where
  BadByte : Fault
  OpenComment : Fault
  NumberTooBig : Fault
  Unsupported : List ℕ → Fault

abbrev pub opens_comment : List ℕ → Bool
opens_comment (b ∷ c ∷ bs) = b == 47 && c == 42
opens_comment _ = false

-- the piece, with these bytes behind it, stands in no token list
abbrev pub Bad : Option Piece → List ℕ → Fault → Type 0
Bad (Some (Token k)) after fault = (is_number k ≡ true) × (begins_ident after ≡ true) × (fault ≡ Unsupported (codes "number"))
Bad (Some TooBig) after fault = fault ≡ (if begins_ident after then Unsupported (codes "number") else NumberTooBig)
Bad (Some (Reserved name)) after fault = fault ≡ Unsupported name
Bad _ after fault = ⊥

-- At the front of these bytes stands a fault: a comment that isn't closed, a longest piece that stands in no token list,
-- or no piece.
abbrev pub Stands : List ℕ → Fault → Type 0
Stands bytes OpenComment = (opens_comment bytes ≡ true) × ((q r : List ℕ) → bytes ≡ q ++ r → piece_of q ≢ Some Layout)
Stands bytes BadByte = (bytes ≢ []) × ((q r : List ℕ) → bytes ≡ q ++ r → IsPiece q → ⊥)
Stands bytes fault = ((opens_comment bytes ≡ true) → (q : List ℕ) × (r : List ℕ) × (bytes ≡ q ++ r) × (piece_of q ≡ Some Layout)) × ((p : List ℕ) × (after : List ℕ) × (bytes ≡ p ++ after) × IsLongest p bytes × Bad (piece_of p) after fault)

-- the first fault by position
abbrev pub Refused : List ℕ → Pos → Fault → Type 0
Refused bytes pos fault = (ps : List (List ℕ)) × (rest : List ℕ) × (ts : List Tok) × Cut ps bytes rest × Have start ps rest ts × (pos ≡ after_pieces ps start) × Stands rest fault
