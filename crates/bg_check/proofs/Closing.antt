-- Certificates of a place's clauses that a search finds.
use Rattle.std.proofs.Common.{◌≡◌, ℕ, ℤ, Bool, true, List, Option, Some, None}
use Rattle.bg_ast.specs.Syntax.{Prog}
use Rattle.bg_ast.specs.Execution.{Place}
use Rattle.bg_block_types.specs.Typed.{incarnations_in}
use Rattle.bg_formula.specs.Formulas.{Formula}
use Rattle.bg_cert.specs.declared.cert.Cert.{Cert}
use Rattle.bg_cert.proofs.Sound.{table_agrees}
use Rattle.bg_tree.specs.declared.outcome.Budget.{Budget}
use Rattle.bg_search.specs.declared.checked.Searched.TheVariants.{Closed}
use Rattle.bg_search.specs.Searched.{IsSearched}
use Rattle.bg_numbered.specs.Lines.{Line, are_there}
use Rattle.bg_termed.specs.Termed.{terms_in}
use Rattle.bg_task.specs.Cuts.{HasOwnClauses}
use Rattle.bg_check.specs.Found.{IsShownBehind}

-- the certificate of a search, whether it is kept or not
pub closed_shown : (p : Prog) (set : ℕ → Bool) (t : Place) (es : List Line) (f : Formula) (is : HasOwnClauses p t es f) → are_there (incarnations_in p t.implementation is.clauses.implementation is.clauses.procedure) (terms_in p t.implementation is.clauses.implementation is.clauses.procedure) es ≡ true → (targets : ℕ → ℤ) (budget : Budget) (o : Option Cert) → IsSearched targets f set budget (Closed o) → IsShownBehind p set t es o
closed_shown p set t es f is there targets budget (Some cert) h =
    record { formula = f; is = is; there = there; agree = table_agrees cert.table.items; accepted = h }
closed_shown p set t es f is there targets budget None h =
    record { cert = h.cert; certificate = record { formula = f; is = is; there = there; agree = h.agree; accepted = h.accepted } }
