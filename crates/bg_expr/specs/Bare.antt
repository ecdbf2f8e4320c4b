-- Expressions, positions apart.
use Rattle.std.specs.Prelude.{map}
use Rattle.bg_base.specs.declared.pos.Pos.{Pos}
use Rattle.bg_text.specs.declared.expr.TreePrefix.{TreePrefix}
use Rattle.bg_text.specs.Trees.{Ex, Number, Truth, Named, Apply, Old, Parens, Prefix, Postfix, Chain, Exs, NoMore, More, Brackets, NoBracket, Select, Update, Links, NoLink, Link}

abbrev pub nowhere : Pos
nowhere = record { line = 0; column = 0 }

abbrev pub bare_sign : TreePrefix → TreePrefix
bare_sign s = record { pos = nowhere; sign = s.sign }

abbrev mutual
  -- the expression without its positions
  pub bare : Ex → Ex
  bare (Number p z) = Number nowhere z
  bare (Truth p b) = Truth nowhere b
  bare (Named p x) = Named nowhere x
  bare (Apply p x es) = Apply nowhere x (bare_list es)
  bare (Old p e) = Old nowhere (bare e)
  bare (Parens p e) = Parens nowhere (bare e)
  bare (Prefix signs e) = Prefix (map bare_sign signs) (bare e)
  bare (Postfix e bs) = Postfix (bare e) (bare_brackets bs)
  bare (Chain e links) = Chain (bare e) (bare_links links)

  pub bare_list : Exs → Exs
  bare_list NoMore = NoMore
  bare_list (More e es) = More (bare e) (bare_list es)

  pub bare_brackets : Brackets → Brackets
  bare_brackets NoBracket = NoBracket
  bare_brackets (Select p es bs) = Select nowhere (bare_list es) (bare_brackets bs)
  bare_brackets (Update p es e bs) = Update nowhere (bare_list es) (bare e) (bare_brackets bs)

  pub bare_links : Links → Links
  bare_links NoLink = NoLink
  bare_links (Link p s e links) = Link nowhere s (bare e) (bare_links links)
