-- How many places an implementation has, and how many expression nodes.
use Rattle.std.specs.Prelude.{ℕ, suc, ◌+◌, ◌-◌, ◌^◌, min, nat_lt, if◌then◌else◌, List, [], ◌∷◌, length, map, Option, Some, None, get_or, Bool, false, ◌||◌}
use Rattle.bg_base.specs.declared.pos.Pos.{Pos}
use Rattle.bg_ast.specs.Resolved.{Ex, Number, Truth, Constant, Read, Apply, Old, Parens, Prefix, Postfix, Chain, Exs, NoMore, More, Brackets, NoBracket, Select, Update, Links, NoLink, Link, Clause, Guard, Star, Test, Target, St, Assert, Assume, Assign, Invoke, If, While, Sts, NoSt, Then, Arms, NoArm, Arm, Proc, Impl, Program}
use Rattle.bg_ast.specs.Views.{Behind}
use Rattle.bg_places.specs.Placed.{placed_impl}

-- the most places that an implementation may have
abbrev pub most_places : ℕ
most_places = 65535

-- the most expression nodes that it may have, with the clauses of what it calls
abbrev pub most_expanded : ℕ
most_expanded = 1000000

-- a number of nodes, as far as one is too many
abbrev pub capped : ℕ → ℕ
capped n = min (most_expanded + 1) n

-- the number of places of an implementation, whatever its own number, as far as 64 bits tell it
abbrev pub place_count : List Proc → Impl → ℕ
place_count qs i = min (2 ^ 64 - 1) (length (placed_impl qs 0 i))

abbrev mutual
  -- the nodes of an expression: a chain, a row of prefix signs and a row of brackets are one and their parts, parentheses none
  pub nodes : Ex → ℕ
  nodes (Number p z) = 1
  nodes (Truth p b) = 1
  nodes (Constant p k) = 1
  nodes (Read p x) = 1
  nodes (Apply p f es) = suc (nodes_of es)
  nodes (Old p e) = suc (nodes e)
  nodes (Parens p e) = nodes e
  nodes (Prefix signs e) = suc (nodes e)
  nodes (Postfix e bs) = suc (nodes e + nodes_behind bs)
  nodes (Chain e ls) = suc (nodes e + nodes_linked ls)

  pub nodes_of : Exs → ℕ
  nodes_of NoMore = 0
  nodes_of (More e es) = nodes e + nodes_of es

  pub nodes_behind : Brackets → ℕ
  nodes_behind NoBracket = 0
  nodes_behind (Select p es bs) = nodes_of es + nodes_behind bs
  nodes_behind (Update p es e bs) = (nodes_of es + nodes e) + nodes_behind bs

  pub nodes_linked : Links → ℕ
  nodes_linked NoLink = 0
  nodes_linked (Link p sign e ls) = nodes e + nodes_linked ls

-- the nodes of one bracket
abbrev pub bracket_nodes : Behind → ℕ
bracket_nodes (p, es, None) = nodes_of es
bracket_nodes (p, es, Some e) = nodes_of es + nodes e

-- the nodes of what clauses say
abbrev pub clause_nodes : List Clause → ℕ
clause_nodes [] = 0
clause_nodes (k ∷ ks) = nodes k.says + clause_nodes ks

-- the nodes of the clauses of a procedure
abbrev pub spec_nodes : Proc → ℕ
spec_nodes q = clause_nodes q.requires_ + clause_nodes q.ensures_

abbrev pub guard_nodes : Guard → ℕ
guard_nodes Star = 0
guard_nodes (Test e) = nodes e

-- the nodes of the indices of the brackets of a left side, and of several
abbrev pub index_nodes : List (Pos × Exs) → ℕ
index_nodes [] = 0
index_nodes (b ∷ bs) = nodes_of b.1 + index_nodes bs

abbrev pub target_nodes : List Target → ℕ
target_nodes [] = 0
target_nodes (t ∷ ts) = index_nodes t.brackets + target_nodes ts

abbrev mutual
  -- the nodes of a statement, where the procedures' clauses have so many: at a call those of its arguments and of the callee's clauses
  pub st_nodes : List ℕ → St → ℕ
  st_nodes sizes (Assert k) = nodes k.says
  st_nodes sizes (Assume e) = nodes e
  st_nodes sizes (Assign p ts es) = target_nodes ts + nodes_of es
  st_nodes sizes (Invoke k) = nodes_of k.args + get_or sizes k.procedure 0
  st_nodes sizes (If n arms otherwise) = arms_nodes sizes arms + sts_nodes sizes otherwise
  st_nodes sizes (While n p g is body) = guard_nodes g + (clause_nodes is + sts_nodes sizes body)
  st_nodes sizes _ = 0

  pub sts_nodes : List ℕ → Sts → ℕ
  sts_nodes sizes NoSt = 0
  sts_nodes sizes (Then a b) = st_nodes sizes a + sts_nodes sizes b

  pub arms_nodes : List ℕ → Arms → ℕ
  arms_nodes sizes NoArm = 0
  arms_nodes sizes (Arm g body arms) = guard_nodes g + (sts_nodes sizes body + arms_nodes sizes arms)

-- the nodes of an implementation: those of its body, and of its procedure's clauses
abbrev pub expanded_count : List ℕ → Impl → ℕ
expanded_count sizes i = sts_nodes sizes i.body + get_or sizes i.procedure 0

-- the same of each implementation, in the order of the text
abbrev pub place_counts : Program → List ℕ
place_counts p = map (place_count p.procedures) p.implementations

abbrev pub expanded_counts : Program → List ℕ
expanded_counts p = map (expanded_count (map spec_nodes p.procedures)) p.implementations

-- the first of these numbers that is greater than the limit
abbrev pub first_above : ℕ → List ℕ → Option ℕ
first_above limit [] = None
first_above limit (n ∷ ns) = if nat_lt limit n then Some n else first_above limit ns

-- whether one of them is
abbrev pub is_any_above : ℕ → List ℕ → Bool
is_any_above limit [] = false
is_any_above limit (n ∷ ns) = nat_lt limit n || is_any_above limit ns
