-- The clauses of places behind lines.
use Rattle.std.specs.Prelude.{◌≡◌, List, Some, Ok, slice_get}
use Rattle.bg_ast.specs.Syntax.{Proc, Impl, Prog}
use Rattle.bg_ast.specs.Execution.{Place}
use Rattle.bg_sense.specs.Variables.{procedure_of}
use Rattle.bg_formula.specs.Formulas.{Formula}
use Rattle.bg_clause.specs.Whole.{clauses_of}
use Rattle.bg_faithful.specs.Encoded.{Encoding}
use Rattle.bg_numbered.specs.Lines.{Line}
use Rattle.bg_termed.specs.Lined.{IsLinedEncoding}

-- the clauses of a place behind these lines: those of an encoding of its implementation
pub record HasClauses (p : Prog) (t : Place) (lines : List Line) (f : Formula) : Type 0 where
  pub implementation : Impl
  pub procedure : Proc
  pub is_there : slice_get p.implementations t.implementation ≡ Some implementation
  pub is_its : procedure_of p implementation.procedure ≡ Some procedure
  pub encoding : Encoding
  pub is_encoding : IsLinedEncoding p t.implementation implementation procedure lines encoding
  pub clauses : clauses_of encoding.first encoding.named encoding.terms encoding.rows t.spot encoding.blocks ≡ Ok f
