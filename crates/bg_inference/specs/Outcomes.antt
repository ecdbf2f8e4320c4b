-- When what an inference of a program with constants, functions and axioms comes to is true of it.
use Rattle.std.specs.Prelude.{◌≡◌, ℕ, Bool, length, map, is_some}
use Rattle.bg_ast.specs.Resolved as r
use Rattle.bg_ast.specs.Meaning.{meaning_of}
use Rattle.bg_ast.specs.Views.{program_of}
use Rattle.bg_tree.specs.declared.outcome.Budget.{Budget}
use Rattle.bg_check.specs.Verdicts.{IsRight}
use Rattle.bg_houdini.specs.Outcomes as houdini
use Rattle.bg_opened.specs.Written.{opened_program}
use Rattle.bg_opened.specs.Axioms.{axiom_program, axiom_place}
use Rattle.bg_expanded.specs.Chains.{most_bodies}
use Rattle.bg_inference.specs.declared.outcome.Outcome.{Outcome}

-- whether a function has a body
abbrev pub has_body : r.Fun → Bool
has_body f = is_some f.body

-- the program without constants, axioms and bodies of functions that is judged in its place
abbrev pub judged_program : r.Program → r.Program
judged_program p = opened_program most_bodies p

-- It is that of the opened program, and tells which functions had a body; the verdict on the one place of the axioms' own program is
-- right, and the rest is true of the opened program, where certificates and causes are kept or not
pub record IsTrueOutcome (keeps : Bool) (budget : Budget) (p : r.Program) (o : Outcome) : Type 0 where
  pub opened : program_of o.opened ≡ judged_program p
  pub globals : o.globals ≡ length p.globals
  pub bodies : o.bodies.items ≡ map has_body p.functions
  pub set : ℕ → Bool
  pub axioms : IsRight budget (axiom_program most_bodies (meaning_of p)) set axiom_place o.axioms
  pub judged : houdini.IsTrueOutcome keeps budget (judged_program p) o.judged
