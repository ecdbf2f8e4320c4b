-- Tokens, positions apart.
use Rattle.std.specs.Prelude.{List, map}
use Rattle.bg_text.specs.Tokens.{Tok}
use Rattle.bg_expr.specs.Bare.{nowhere}

-- the token, at no place
abbrev pub put_nowhere : Tok → Tok
put_nowhere t = record { kind = t.kind; text = t.text; pos = nowhere; is_token = t.is_token }

-- the tokens, at no place
abbrev pub all_nowhere : List Tok → List Tok
all_nowhere = map put_nowhere
