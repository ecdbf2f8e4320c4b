-- Tokens without where they lie in memory.
use Rattle.std.specs.Prelude.{◌≡◌, ℕ, List, map, Some}
use Rattle.bg_base.specs.declared.pos.Pos.{Pos}
use Rattle.bg_text.specs.declared.token.Kind.{Kind}
use Rattle.bg_text.specs.declared.token.Token.{Token}
use Rattle.bg_text.specs.Pieces.{piece_of}
use Rattle.bg_text.specs.Pieces as piece

-- a token: its kind is what its text is
pub record Tok : Type 0 where
  pub kind : Kind
  pub text : List ℕ
  pub pos : Pos
  pub is_token : piece_of text ≡ Some (piece.Token kind)

abbrev pub view : Token → Tok
view t = record { kind = t.kind; text = t.text.now; pos = t.pos; is_token = t.is_token }

abbrev pub views : List Token → List Tok
views = map view
