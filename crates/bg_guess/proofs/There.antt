-- A procedure that is there, and one that is not.
use Rattle.std.proofs.Common.{◌≡◌, ℕ, zero, suc, ◌<◌, ◌≤◌, List, [], ◌∷◌, length, map, Some, None, slice_get, ap, refl, sym, arith}
use Rattle.std.specs.Prelude.{get_or}
use Rattle.bg_ast.specs.declared.resolved.Procedure.{Procedure}
use Rattle.bg_ast.specs.Views.{proc_of}

pub none_there : (qs : List Procedure) (k : ℕ) → length qs ≤ k → slice_get (map proc_of qs) k ≡ None
none_there [] k h = refl
none_there (q ∷ qs) zero h = absurd (omega arith)
none_there (q ∷ qs) (suc k) h = none_there qs k (omega arith)

pub one_there : (qs : List Procedure) (k : ℕ) (q : Procedure) → k < length qs → q ≡ get_or qs k q → slice_get (map proc_of qs) k ≡ Some (proc_of q)
one_there [] k q h e = absurd (omega arith)
one_there (x ∷ qs) zero q h e = ap (λ p. Some (proc_of p)) (sym e)
one_there (x ∷ qs) (suc k) q h e = one_there qs k q (omega arith) e

pub ruleset procedure_forms = (none_there, one_there)
