-- How many nodes an expression has: a row of signs, of brackets or of operands is of one node.
use Rattle.std.specs.Prelude.{ℕ, ◌+◌}
use Rattle.bg_text.specs.Trees.{Ex, Number, Truth, Named, Apply, Old, Parens, Prefix, Postfix, Chain, Exs, NoMore, More, Brackets, NoBracket, Select, Update, Links, NoLink, Link}

abbrev mutual
  pub ex_nodes : Ex → ℕ
  ex_nodes (Number p z) = 1
  ex_nodes (Truth p b) = 1
  ex_nodes (Named p name) = 1
  ex_nodes (Apply p name es) = 1 + exs_nodes es
  ex_nodes (Old p e) = 1 + ex_nodes e
  ex_nodes (Parens p e) = 1 + ex_nodes e
  ex_nodes (Prefix signs e) = 1 + ex_nodes e
  ex_nodes (Postfix e bs) = 1 + ex_nodes e + bracket_nodes bs
  ex_nodes (Chain e links) = 1 + ex_nodes e + link_nodes links

  pub exs_nodes : Exs → ℕ
  exs_nodes NoMore = 0
  exs_nodes (More e es) = ex_nodes e + exs_nodes es

  pub bracket_nodes : Brackets → ℕ
  bracket_nodes NoBracket = 0
  bracket_nodes (Select p es bs) = exs_nodes es + bracket_nodes bs
  bracket_nodes (Update p es e bs) = exs_nodes es + ex_nodes e + bracket_nodes bs

  pub link_nodes : Links → ℕ
  link_nodes NoLink = 0
  link_nodes (Link p s e links) = ex_nodes e + link_nodes links
