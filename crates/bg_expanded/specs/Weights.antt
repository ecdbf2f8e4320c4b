-- How many nodes an expression has, where its parameters and the functions that it applies count so many.
use Rattle.std.specs.Prelude.{ℕ, zero, suc, ◌+◌, List, [], ◌∷◌, get_or, Option, Some, None}
use Rattle.bg_ast.specs.Syntax.{Var, Global, Local}
use Rattle.bg_ast.specs.Resolved.{Ex, Exs, NoMore, More, Number, Truth, Constant, Read, Apply, Old, Parens, Prefix, Postfix, Chain, Brackets, NoBracket, Select, Update, Links, NoLink, Link, Fun}
use Rattle.bg_ast.specs.Views.{Behind}
use Rattle.bg_opened.specs.Changed.{bodies_in}

abbrev pub total : List ℕ → ℕ
total [] = 0
total (n ∷ ns) = n + total ns

-- an application's nodes, by its function and the nodes of its arguments
abbrev pub Weigher : Type 0
Weigher = ℕ → List ℕ → ℕ

-- a parameter past the list is one node
abbrev pub weight_of_read : List ℕ → Var → ℕ
weight_of_read params (Global x) = 1
weight_of_read params (Local j) = get_or params j 1

module _ (app : Weigher) (params : List ℕ) where
  abbrev mutual
    pub weight : Ex → ℕ
    weight (Number p z) = 1
    weight (Truth p b) = 1
    weight (Constant p k) = 1
    weight (Read p x) = weight_of_read params x
    weight (Apply p f es) = app f (weights es)
    weight (Old p e) = suc (weight e)
    weight (Parens p e) = weight e
    weight (Prefix signs e) = suc (weight e)
    weight (Postfix e bs) = suc (weight e + weight_behind bs)
    weight (Chain e ls) = suc (weight e + weight_linked ls)

    pub weights : Exs → List ℕ
    weights NoMore = []
    weights (More e es) = weight e ∷ weights es

    pub weight_behind : Brackets → ℕ
    weight_behind NoBracket = 0
    weight_behind (Select p es bs) = total (weights es) + weight_behind bs
    weight_behind (Update p es e bs) = (total (weights es) + weight e) + weight_behind bs

    pub weight_linked : Links → ℕ
    weight_linked NoLink = 0
    weight_linked (Link p sign e ls) = weight e + weight_linked ls

  -- one bracket
  abbrev pub weight_of_bracket : Behind → ℕ
  weight_of_bracket (p, es, None) = total (weights es)
  weight_of_bracket (p, es, Some e) = total (weights es) + weight e

-- an application as it stands
abbrev pub plain : List ℕ → ℕ
plain ws = suc (total ws)

-- an application of a function with this body, or without one
abbrev pub weigh_body : Weigher → Option Ex → List ℕ → ℕ
weigh_body app None ws = plain ws
weigh_body app (Some b) ws = weight app ws b

-- an application in which bodies are put in so deep
abbrev pub opened_weigher : List Fun → ℕ → Weigher
opened_weigher fs zero f ws = plain ws
opened_weigher fs (suc depth) f ws = weigh_body (opened_weigher fs depth) (bodies_in fs f) ws
