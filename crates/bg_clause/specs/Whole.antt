-- The clauses of blocks: the entry block isn't well for the target.
use Rattle.std.specs.Prelude.{ℕ, ◌+◌, ◌-◌, Bool, List, ◌++◌, length, map, Option, Some, None, Result, Ok, Err}
use Rattle.bg_base.specs.declared.exact.OutOfRange.{OutOfRange}
use Rattle.bg_ast.specs.Execution.{Spot}
use Rattle.bg_sense.specs.Variables.{count_from}
use Rattle.bg_formula.specs.Atoms.{AtomOf, IsTruth}
use Rattle.bg_formula.specs.Formulas.{Formula}
use Rattle.bg_formed.specs.Formed.{FormBlock}
use Rattle.bg_formed.specs.Used.{refused}
use Rattle.bg_clause.specs.Tables.{table, marked}
use Rattle.bg_clause.specs.Told.{entry_told}

-- atoms: n truth variables, the rows, the marked candidates, and those that the blocks need
abbrev pub formula : ℕ → List Bool → ℕ → List AtomOf → Spot → List FormBlock → Formula
formula n ms terms rows t bs =
    let k = n + length rows in
    let cs = table k ms in
    let s = entry_told cs t (k + marked ms) bs in
    record {
      terms = terms;
      atoms = map IsTruth (count_from 0 n) ++ (rows ++ map IsTruth (count_from k (s.next - k)));
      clauses = s.clauses;
      candidates = cs;
    }

abbrev pub clauses_by : Option OutOfRange → Formula → Result Formula OutOfRange
clauses_by None f = Ok f
clauses_by (Some e) f = Err e

-- the clauses, or the first operation that leaves the range in a form that they use
abbrev pub clauses_of : ℕ → List Bool → ℕ → List AtomOf → Spot → List FormBlock → Result Formula OutOfRange
clauses_of n ms terms rows t bs = clauses_by (refused t bs) (formula n ms terms rows t bs)
