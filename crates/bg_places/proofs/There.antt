-- The clauses of a procedure that is there, and of one that is not.
use Rattle.std.proofs.Common.{◌≡◌, ℕ, zero, suc, ◌<◌, ◌≤◌, List, [], ◌∷◌, length, map, slice_get, ap, refl, sym, arith}
use Rattle.std.specs.Prelude.{get_or}
use Rattle.bg_ast.specs.declared.resolved.Procedure.{Procedure}
use Rattle.bg_ast.specs.Views.{proc_of, clause_of}
use Rattle.bg_places.specs.Placed.{requires_of, ensures_of}

pub requires-None : (qs : List Procedure) (k : ℕ) → length qs ≤ k → requires_of (slice_get (map proc_of qs) k) ≡ []
requires-None [] k h = refl
requires-None (q ∷ qs) zero h = absurd (omega arith)
requires-None (q ∷ qs) (suc k) h = requires-None qs k (omega arith)

pub requires-Some : (qs : List Procedure) (k : ℕ) (q : Procedure) → k < length qs → q ≡ get_or qs k q → requires_of (slice_get (map proc_of qs) k) ≡ map clause_of q.requires_.items
requires-Some [] k q h e = absurd (omega arith)
requires-Some (x ∷ qs) zero q h e = ap (λ p. map clause_of p.requires_.items) (sym e)
requires-Some (x ∷ qs) (suc k) q h e = requires-Some qs k q (omega arith) e

pub ensures-None : (qs : List Procedure) (k : ℕ) → length qs ≤ k → ensures_of (slice_get (map proc_of qs) k) ≡ []
ensures-None [] k h = refl
ensures-None (q ∷ qs) zero h = absurd (omega arith)
ensures-None (q ∷ qs) (suc k) h = ensures-None qs k (omega arith)

pub ensures-Some : (qs : List Procedure) (k : ℕ) (q : Procedure) → k < length qs → q ≡ get_or qs k q → ensures_of (slice_get (map proc_of qs) k) ≡ map clause_of q.ensures_.items
ensures-Some [] k q h e = absurd (omega arith)
ensures-Some (x ∷ qs) zero q h e = ap (λ p. map clause_of p.ensures_.items) (sym e)
ensures-Some (x ∷ qs) (suc k) q h e = ensures-Some qs k q (omega arith) e

pub ruleset procedure_forms = (requires-None, requires-Some, ensures-None, ensures-Some)
