-- Chains of functions with a body, each used in the body of the next.
use Rattle.std.specs.Prelude.{ℕ, zero, suc, max, List, length, Option, Some, None}
use Rattle.bg_ast.specs.Resolved.{Ex, Exs, NoMore, More, Apply, Old, Parens, Prefix, Postfix, Chain, Brackets, NoBracket, Select, Update, Links, NoLink, Link, Fun, Program}
use Rattle.bg_opened.specs.Changed.{bodies_in}

-- the most bodies that may stand in one chain
abbrev pub most_bodies : ℕ
most_bodies = 16

module _ (deep : ℕ → ℕ) where
  abbrev mutual
    -- the longest chain that ends with a function that an expression applies, where these are the longest that end with each function
    pub deepest : Ex → ℕ
    deepest (Apply p f es) = max (deep f) (deepest_of es)
    deepest (Old p e) = deepest e
    deepest (Parens p e) = deepest e
    deepest (Prefix signs e) = deepest e
    deepest (Postfix e bs) = max (deepest e) (deepest_behind bs)
    deepest (Chain e ls) = max (deepest e) (deepest_linked ls)
    deepest _ = 0

    pub deepest_of : Exs → ℕ
    deepest_of NoMore = 0
    deepest_of (More e es) = max (deepest e) (deepest_of es)

    pub deepest_behind : Brackets → ℕ
    deepest_behind NoBracket = 0
    deepest_behind (Select p es bs) = max (deepest_of es) (deepest_behind bs)
    deepest_behind (Update p es e bs) = max (max (deepest_of es) (deepest e)) (deepest_behind bs)

    pub deepest_linked : Links → ℕ
    deepest_linked NoLink = 0
    deepest_linked (Link p sign e ls) = max (deepest e) (deepest_linked ls)

  -- one more than what the body uses; none without a body
  abbrev pub through : Option Ex → ℕ
  through None = 0
  through (Some e) = suc (deepest e)

-- the longest chain, of at most so many bodies, that ends with a function
abbrev pub chain_to : List Fun → ℕ → ℕ → ℕ
chain_to fs zero f = 0
chain_to fs (suc most) f = through (chain_to fs most) (bodies_in fs f)

abbrev pub greatest_below : (ℕ → ℕ) → ℕ → ℕ
greatest_below deep zero = 0
greatest_below deep (suc n) = max (deep n) (greatest_below deep n)

-- the longest chain; without recursion none has a function twice
abbrev pub longest_chain : Program → ℕ
longest_chain p = greatest_below (chain_to p.functions (length p.functions)) (length p.functions)
