-- What a procedure that is there modifies, and one that is not.
use Rattle.std.proofs.Common.{◌≡◌, ℕ, zero, suc, ◌<◌, ◌≤◌, List, [], ◌∷◌, length, map, slice_get, ap, refl, sym, arith}
use Rattle.std.specs.Prelude.{get_or}
use Rattle.bg_ast.specs.Syntax.{Global}
use Rattle.bg_ast.specs.declared.resolved.Procedure.{Procedure}
use Rattle.bg_ast.specs.Views.{proc_of}
use Rattle.bg_changes.specs.Marks.{modifies_of}

pub modifies-None : (qs : List Procedure) (k : ℕ) → length qs ≤ k → modifies_of (slice_get (map proc_of qs) k) ≡ []
modifies-None [] k h = refl
modifies-None (q ∷ qs) zero h = absurd (omega arith)
modifies-None (q ∷ qs) (suc k) h = modifies-None qs k (omega arith)

pub modifies-Some : (qs : List Procedure) (k : ℕ) (q : Procedure) → k < length qs → q ≡ get_or qs k q → modifies_of (slice_get (map proc_of qs) k) ≡ map Global q.modifies.items
modifies-Some [] k q h e = absurd (omega arith)
modifies-Some (x ∷ qs) zero q h e = ap (λ p. map Global p.modifies.items) (sym e)
modifies-Some (x ∷ qs) (suc k) q h e = modifies-Some qs k q (omega arith) e

pub ruleset modifies_forms = (modifies-None, modifies-Some)
