-- The clauses of a place: those of its implementation's own blocks of forms, of which no more is left than counts for it.
use Rattle.std.specs.Prelude.{◌≡◌, ℕ, true, List, replicate}
use Rattle.bg_ast.specs.Syntax.{Proc, Impl, Prog}
use Rattle.bg_ast.specs.Execution.{Spot, Place}
use Rattle.bg_formula.specs.Formulas.{Formula}
use Rattle.bg_slice.specs.Slices.{sliced, sliced_rows, guards_in}
use Rattle.bg_atoms.specs.Listed.{rows_of}
use Rattle.bg_atoms.specs.Encoded.{blocks_over}
use Rattle.bg_faithful.specs.Encoded.{Encoding}
use Rattle.bg_numbered.specs.Lines.{Line}
use Rattle.bg_termed.specs.Lined.{IsLinedEncoding, lined_behind, lined_sorts}
use Rattle.bg_termed.specs.Clauses.{HasClauses}

-- the blocks of forms of the implementation with this number, which is one of this procedure: exactly those of its flat blocks behind
-- these lines, over their rows. Each candidate may guard a command
pub record IsOwn (p : Prog) (k : ℕ) (m : Impl) (q : Proc) (lines : List Line) (a : Encoding) : Type 0 where
  pub encodes : IsLinedEncoding p k m q lines a
  pub rows : a.rows ≡ rows_of (lined_sorts p k m q lines) (lined_behind p k m q lines)
  pub blocks : a.blocks ≡ blocks_over (lined_sorts p k m q lines) a.first a.rows (lined_behind p k m q lines)
  pub named : a.named ≡ replicate p.candidates true

-- the same blocks of forms, in which only commands that count for the target say something, with the rows and the candidates that they
-- name
pub record IsCut (candidates : ℕ) (t : Spot) (whole cut : Encoding) : Type 0 where
  pub first : cut.first ≡ whole.first
  pub terms : cut.terms ≡ whole.terms
  pub rows : cut.rows ≡ sliced_rows whole.first (sliced t whole.blocks) whole.rows
  pub blocks : cut.blocks ≡ sliced t whole.blocks
  pub named : cut.named ≡ guards_in candidates (sliced t whole.blocks)

-- the clauses of a place behind these lines: those of its implementation's own blocks of forms, cut down to what counts for the place
pub record HasOwnClauses (p : Prog) (t : Place) (lines : List Line) (f : Formula) : Type 0 where
  pub clauses : HasClauses p t lines f
  pub whole : Encoding
  pub is_own : IsOwn p t.implementation clauses.implementation clauses.procedure lines whole
  pub is_cut : IsCut p.candidates t.spot whole clauses.encoding
