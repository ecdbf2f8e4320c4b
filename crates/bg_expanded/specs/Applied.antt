-- The functions that expressions apply.
use Rattle.std.specs.Prelude.{ℕ, nat_lt, if◌then◌else◌, List, [], ◌∷◌, ◌++◌, length, map, Option, Some, None}
use Rattle.bg_ast.specs.Resolved.{Ex, Exs, NoMore, More, Apply, Old, Parens, Prefix, Postfix, Chain, Brackets, NoBracket, Select, Update, Links, NoLink, Link, Fun}
use Rattle.bg_ast.specs.Views.{Behind}
use Rattle.bg_graph.specs.Graphs.{Graph}

module _ (n : ℕ) where
  -- a number, if it is below n
  abbrev pub if_below : ℕ → List ℕ
  if_below f = if nat_lt f n then f ∷ [] else []

  abbrev mutual
    -- the functions below n that an expression applies
    pub applied_in : Ex → List ℕ
    applied_in (Apply p f es) = if_below f ++ applied_in_all es
    applied_in (Old p e) = applied_in e
    applied_in (Parens p e) = applied_in e
    applied_in (Prefix signs e) = applied_in e
    applied_in (Postfix e bs) = applied_in e ++ applied_behind bs
    applied_in (Chain e ls) = applied_in e ++ applied_linked ls
    applied_in _ = []

    pub applied_in_all : Exs → List ℕ
    applied_in_all NoMore = []
    applied_in_all (More e es) = applied_in e ++ applied_in_all es

    pub applied_behind : Brackets → List ℕ
    applied_behind NoBracket = []
    applied_behind (Select p es bs) = applied_in_all es ++ applied_behind bs
    applied_behind (Update p es e bs) = (applied_in_all es ++ applied_in e) ++ applied_behind bs

    pub applied_linked : Links → List ℕ
    applied_linked NoLink = []
    applied_linked (Link p sign e ls) = applied_in e ++ applied_linked ls

  -- those of one bracket
  abbrev pub applied_in_bracket : Behind → List ℕ
  applied_in_bracket (p, es, None) = applied_in_all es
  applied_in_bracket (p, es, Some e) = applied_in_all es ++ applied_in e

  -- those of a body, if there is one
  abbrev pub applied_by : Option Ex → List ℕ
  applied_by None = []
  applied_by (Some e) = applied_in e

-- for each function those of them that its body applies
abbrev pub applied_graph : List Fun → Graph
applied_graph fs = map (λ f. applied_by (length fs) f.body) fs
