-- Where functions with a body are applied.
use Rattle.std.specs.Prelude.{Bool, false, ◌||◌, is_some, List, Some, None}
use Rattle.bg_base.specs.declared.pos.Pos.{Pos}
use Rattle.bg_text.specs.declared.expr.InfixSign.{InfixSign}
use Rattle.bg_ast.specs.Resolved as r
use Rattle.bg_ast.specs.Views.{Behind}
use Rattle.bg_opened.specs.Changed.{bodies_in}

module _ (fs : List r.Fun) where
  abbrev mutual
    -- a function with a body is applied in the expression
    pub applies_some : r.Ex → Bool
    applies_some (r.Number p z) = false
    applies_some (r.Truth p b) = false
    applies_some (r.Constant p k) = false
    applies_some (r.Read p x) = false
    applies_some (r.Apply p f es) = is_some (bodies_in fs f) || some_among es
    applies_some (r.Old p e) = applies_some e
    applies_some (r.Parens p e) = applies_some e
    applies_some (r.Prefix signs e) = applies_some e
    applies_some (r.Postfix e bs) = applies_some e || some_behind bs
    applies_some (r.Chain e ls) = applies_some e || some_along ls

    pub some_among : r.Exs → Bool
    some_among r.NoMore = false
    some_among (r.More e es) = applies_some e || some_among es

    pub some_behind : r.Brackets → Bool
    some_behind r.NoBracket = false
    some_behind (r.Select p es bs) = some_among es || some_behind bs
    some_behind (r.Update p es e bs) = (some_among es || applies_some e) || some_behind bs

    pub some_along : r.Links → Bool
    some_along r.NoLink = false
    some_along (r.Link p sign e ls) = applies_some e || some_along ls

  -- in one bracket
  abbrev pub applies_within : Behind → Bool
  applies_within (p, es, None) = some_among es
  applies_within (p, es, Some e) = some_among es || applies_some e

  -- in one link
  abbrev pub applies_at : Pos × InfixSign × r.Ex → Bool
  applies_at l = applies_some l.2
