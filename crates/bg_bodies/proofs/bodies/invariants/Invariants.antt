use Rattle.std.proofs.Common.{◌≡◌, ◌+◌, ◌++◌, map, flat_map, drop, length}
use Rattle.bg_text.specs.Views as v
use Rattle.bg_ast.specs.Views.{clause_of}
use Rattle.bg_names.specs.Faults.{better}
use Rattle.bg_names.specs.Clauses.{clause_faults, named_clauses}
use Rattle.bg_names.specs.Views.{inside_of, first_of}
use Rattle.bg_bodies.proofs.bodies.invariants.Given as goal

abbrev pub invariant-loop-k : goal.invariant-loop-k
invariant-loop-k l =
    let s = (inside_of l.inside).scope in
    (map clause_of l.made.items ++ named_clauses s l.walk.next (map v.clause_of (drop l.k-index l.ks)) ≡ named_clauses s l.fn.walk.next (map v.clause_of l.ks))
    × (better (first_of l.walk.notes) (flat_map (λ k. clause_faults s (v.clause_of k)) (drop l.k-index l.ks)) ≡ better (first_of l.fn.walk.notes) (flat_map (λ k. clause_faults s (v.clause_of k)) l.ks))
    × (l.walk.next + length (drop l.k-index l.ks) ≡ l.fn.walk.next + length l.ks)
    × (l.walk.ahead ≡ l.fn.walk.ahead)
    × (l.walk.blocks ≡ l.fn.walk.blocks)
