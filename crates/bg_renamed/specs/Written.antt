-- What a variable is assigned, over incarnations.
use Rattle.std.specs.Prelude.{List, [], ◌∷◌, Option, None}
use Rattle.bg_base.specs.declared.pos.Pos.{Pos}
use Rattle.bg_ast.specs.Syntax as s
use Rattle.bg_ast.specs.Resolved as r
use Rattle.bg_ast.specs.Meaning as m
use Rattle.bg_passive.specs.Incarnations.{Env, renames}
use Rattle.bg_renamed.specs.Renamed.{renames_r}

-- a bracket of a left side, as one that selects
abbrev pub renamed_select : Env → Pos × r.Exs → Pos × r.Exs × Option r.Ex
renamed_select v b = (b.0, renames_r b.1 v, None)

-- what is behind these brackets
abbrev pub selected : Env → s.Ex → List (Pos × r.Exs) → s.Ex
selected v x [] = x
selected v x (b ∷ bs) = selected v (s.Select x (renames (m.exs_of b.1) v)) bs
