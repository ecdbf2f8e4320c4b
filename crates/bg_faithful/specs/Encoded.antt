-- Blocks of forms with their rows that say what passive blocks say.
use Rattle.std.specs.Prelude.{◌≡◌, ℕ, ◌+◌, ℤ, Bool, true, List, length}
use Rattle.bg_sense.specs.Eval.{Scope}
use Rattle.bg_passive.specs.Passive.{PassiveBlock}
use Rattle.bg_formula.specs.Atoms.{AtomOf}
use Rattle.bg_formula.specs.Formulas.{rows_below}
use Rattle.bg_formula.specs.Meaning.{AtomsAgree}
use Rattle.bg_formed.specs.Agree.{AreRows, RowsAgree}
use Rattle.bg_formed.specs.Formed.{FormBlock, blocks_below}
use Rattle.bg_formed.specs.Said.{SaidBlocks}
use Rattle.bg_forms.specs.Worth.{bools_at}
use Rattle.bg_linear.specs.declared.scalar.Sort.{Sort}
use Rattle.bg_linear.specs.Sorts.{HoldScalars}
use Rattle.bg_atoms.specs.Ranks.{rank, truths}

-- blocks of forms over atoms: the truth incarnations, which are so many, and the rows, over so many terms; and which candidates may
-- guard commands
pub record Encoding : Type 0 where
  pub first : ℕ
  pub terms : ℕ
  pub rows : List AtomOf
  pub blocks : List FormBlock
  pub named : List Bool

-- the blocks of forms say what passive blocks over incarnations of these sorts say, where truth incarnations are worth what their
-- atoms are, and atoms of rows what the rows are; and what names an atom or a term names one that is there
pub record Encodes (sorts : List Sort) (candidates : ℕ) (blocks : List PassiveBlock) (a : Encoding) : Type 0 where
  pub first : a.first ≡ truths sorts
  pub terms : a.terms ≡ length sorts
  pub said : (numbers : ℕ → ℤ) (truth : ℕ → Bool) (c : Scope) → RowsAgree numbers truth a.first a.rows → HoldScalars sorts numbers (λ j. truth (rank sorts j)) c.frame → SaidBlocks truth c blocks a.blocks
  pub below : blocks_below (a.first + length a.rows) (bools_at a.named) a.blocks ≡ true
  pub count : length a.named ≡ candidates
  pub rows : AreRows a.rows
  pub denials : AtomsAgree a.rows
  pub inside : rows_below a.terms a.rows ≡ true
