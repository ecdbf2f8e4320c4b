-- Targets with brackets: the map before each bracket, with its index.
use Rattle.std.specs.Prelude.{List, [], ◌∷◌}
use Rattle.bg_base.specs.declared.pos.Pos.{Pos}
use Rattle.bg_ast.specs.Resolved as r
use Rattle.bg_ast.specs.Meaning.{exs_of}
use Rattle.bg_scalar.specs.Worths.{Seen, WorthOf, Listed, selected, updated, worths}
use Rattle.bg_scalar.specs.Lists.{listed}
use Rattle.bg_scalar.specs.Views.{found_in}
use Rattle.bg_replay.specs.declared.values.Level.{Level}

abbrev pub level_of : Level → WorthOf × Listed
level_of l = (found_in l.map, listed l.index)

-- behind a map, in order
abbrev pub levels : WorthOf → List (Pos × r.Exs) → Seen → List (WorthOf × Listed)
levels a [] s = []
levels a (b ∷ bs) s = (a, worths (exs_of b.1) s) ∷ levels (selected a (worths (exs_of b.1) s)) bs s

-- the first map, where the innermost has this new value
abbrev pub put_back : List (WorthOf × Listed) → WorthOf → WorthOf
put_back [] b = b
put_back (l ∷ ls) b = updated l.0 l.1 (put_back ls b)
