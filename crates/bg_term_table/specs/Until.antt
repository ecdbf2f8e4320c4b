-- Links before the next `==>`.
use Rattle.std.specs.Prelude.{ℕ, zero, suc, if◌then◌else◌, List, [], ◌∷◌}
use Rattle.bg_ast.specs.declared.resolved.Link.{Link}
use Rattle.bg_term_table.specs.Chains.{is_implies}

-- how many links stand before the next `==>`
abbrev pub until_implies : List Link → ℕ
until_implies [] = zero
until_implies (l ∷ ls) = if is_implies l.sign then zero else suc (until_implies ls)
