-- Functions with their ranks, and what is known of the chains that end with them.
use Rattle.std.specs.Prelude.{ℕ, suc, ◌^◌, ◌-◌, min, max, List, [], ◌∷◌, map, get_or, Option, Some, None}
use Rattle.bg_ast.specs.Resolved.{Ex, Fun}
use Rattle.bg_opened.specs.Changed.{bodies_in}
use Rattle.bg_graph.specs.Graphs.{Graph, targets}
use Rattle.bg_expanded.specs.declared.ranked.Ranked.{Ranked}

-- functions with these ranks, numbered from here on
abbrev pub ranked_from : ℕ → List ℕ → List Ranked
ranked_from n [] = []
ranked_from n (r ∷ rs) = record { rank = r; function = n } ∷ ranked_from (suc n) rs

-- the greatest of a list, or 0
abbrev pub greatest_of : List ℕ → ℕ
greatest_of [] = 0
greatest_of (n ∷ ns) = max n (greatest_of ns)

-- the greatest that a table has for these functions
abbrev pub greatest_at : List ℕ → List ℕ → ℕ
greatest_at deep row = greatest_of (map (λ f. get_or deep f 0) row)

abbrev pub over : Option Ex → ℕ → ℕ
over None n = 0
over (Some e) n = min (suc n) (2 ^ 64 - 1)

-- the longest chain that ends with a function, as far as 64 bits tell it, where a table has those of the functions that its body applies
abbrev pub chain_at : List Fun → Graph → List ℕ → ℕ → ℕ
chain_at fs g deep f = over (bodies_in fs f) (greatest_at deep (targets g f))
