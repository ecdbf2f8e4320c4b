use Rattle.std.proofs.Common.{◌≡◌, ◌+◌, ℕ, ℤ, map, take, Vec}
use Rattle.std.specs.declared.alloc.Global.{Global}
use Rattle.bg_formula.specs.Atoms.{view_linear}
use Rattle.bg_atoms.specs.Tables.{known_at, literal_by}
use Rattle.bg_ahead.proofs.known.known.Given as goal

abbrev pub invariant-loop-a : goal.invariant-loop-a
invariant-loop-a l =
    ((k : Vec (ℕ × ℤ) Global × ℤ) → known_at l.made (k.0.items, k.1) ≡ literal_by (k.0.items, k.1) l.first (map view_linear (take l.a-index l.rows)))
    × (l.atom ≡ l.first + l.a-index)
