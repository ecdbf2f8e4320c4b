-- What the checker of a program is made of.
use Rattle.std.specs.Prelude.{◌≡◌, ℕ, ◌+◌, ◌<◌, ◌≤◌, true, false, List, Option, Some, map, length, slice_get}
use Rattle.bg_ast.specs.Syntax.{Prog}
use Rattle.bg_ast.specs.Resolved as r
use Rattle.bg_ast.specs.Meaning.{meaning_of}
use Rattle.bg_ast.specs.Views.{program_of}
use Rattle.bg_sense.specs.Typed.{IsTyped}
use Rattle.bg_sense.specs.Resolved.{IsResolved}
use Rattle.bg_core.specs.Inductive.{Candidates, Subset}
use Rattle.bg_tree.specs.declared.outcome.Budget.{Budget}
use Rattle.bg_fits.specs.Valued.{is_over_values}
use Rattle.bg_places.specs.Placed.{place_in}
use Rattle.bg_places.specs.Views.{placed_in}
use Rattle.bg_task.specs.declared.prepared.Prepared.{Prepared}
use Rattle.bg_task.specs.Prepared.{IsPrepared}
use Rattle.bg_houdini.specs.declared.judging.Judging.{Judging}
use Rattle.bg_check.specs.declared.proof.Proof.{Proof}
use Rattle.bg_houdini.specs.declared.reason.Reason.{Reason}
use Rattle.bg_houdini.specs.Tasks.{tasks_of, candidate_of}
use Rattle.bg_houdini.specs.Checks.{TaskFails, IsTaskShown, TaskFinds}

-- the first implementations, prepared
pub record ArePrepared (p : r.Program) (count : ℕ) (ws : List Prepared) : Type 0 where
  pub count_is : length ws ≡ count
  pub each : (k : ℕ) (w : Prepared) → slice_get ws k ≡ Some w → IsPrepared p k w

-- so many implementations, the first of which has this number, prepared
pub record IsPortion (p : r.Program) (first count : ℕ) (ws : List Prepared) : Type 0 where
  pub count_is : length ws ≡ count
  pub each : (k : ℕ) (w : Prepared) → slice_get ws k ≡ Some w → IsPrepared p (first + k) w

-- implementations of the program, the first of which has this number, prepared
pub record ArePreparedFrom (p : r.Program) (first : ℕ) (ws : List Prepared) : Type 0 where
  pub inside : first + length ws ≤ length p.implementations
  pub each : (k : ℕ) (w : Prepared) → slice_get ws k ≡ Some w → IsPrepared p (first + k) w

-- what the checker's program means
abbrev pub program_in : Judging → r.Program
program_in j = program_of j.program.now

abbrev pub meaning_in : Judging → Prog
meaning_in j = meaning_of (program_in j)

-- what a checker owes of the tasks: each has a candidate of the program; what fails under a set fails under each subset that has the
-- task's candidate; what passes by some candidates fails under no set that has them; and what refutes a task shows that it fails
pub record Owes (budget : Budget) (p : Prog) : Type 0 where
  pub below : (k : ℕ) → k < length (tasks_of p) → candidate_of p k < p.candidates
  pub shrinks : (k : ℕ) (set sub : Candidates) → Subset sub set → sub (candidate_of p k) ≡ true → TaskFails p k set → TaskFails p k sub
  pub passing : (k : ℕ) (used set : Candidates) (proof : Option Proof) → IsTaskShown p k used proof → Subset used set → TaskFails p k set → ⊥
  pub failing : (k : ℕ) (set : Candidates) (reason : Reason) → TaskFinds budget p k set false reason → TaskFails p k set

-- a typed program over values with numbers of its own, each implementation prepared, the tasks in order, and how
-- many candidates there are; with what is owed, which is so for each such program
pub record IsJudging (j : Judging) : Type 0 where
  pub typed : IsTyped (meaning_in j)
  pub scalars : is_over_values (meaning_in j) ≡ true
  pub resolved : IsResolved (meaning_in j)
  pub prepared : ArePrepared (program_in j) (length (program_in j).implementations) j.prepared.items
  pub tasks_are : map place_in (placed_in j.tasks.items) ≡ tasks_of (meaning_in j)
  pub few : length j.tasks.items < 4294967296
  pub candidates_are : j.candidates ≡ (meaning_in j).candidates
  pub owed : Owes j.effort.budget (meaning_in j)
