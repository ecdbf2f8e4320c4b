-- Rows of relations that are there.
use Rattle.std.proofs.Common.{◌≡◌, Bool, true, false, List, [], ◌∷◌}
use Rattle.std.specs.Prelude.{Result, Ok, Err}
use Rattle.bg_base.specs.declared.exact.OutOfRange.{OutOfRange}
use Rattle.bg_ast.specs.Syntax.{Ex, Not, Negative, Binary}
use Rattle.bg_passive.specs.Passive.{PassiveCmd, Edge, PassiveBlock}
use Rattle.bg_rows.specs.Rows.{is_empty}
use Rattle.bg_formula.specs.Atoms.{AtomOf, IsTruth, IsRow}
use Rattle.bg_linear.specs.declared.scalar.Sort.{Sort}
use Rattle.bg_linear.specs.Relations.{relation}
use Rattle.bg_atoms.specs.Over.{relates_numbers}
use Rattle.bg_atoms.specs.Sources.{expression_of}
use Rattle.bg_atoms.specs.Listed.{is_there}

-- each row that has entries is among these, or its denial is
abbrev pub AllThere : List AtomOf → List AtomOf → Type 0
AllThere rows [] = Unit {0}
AllThere rows (IsTruth x ∷ rs) = AllThere rows rs
AllThere rows (IsRow r d ∷ rs) = (is_empty r.entries ≡ false → is_there r rows ≡ true) × AllThere rows rs

abbrev pub RelationThere : List AtomOf → Result (List AtomOf) OutOfRange → Type 0
RelationThere rows (Ok rs) = AllThere rows rs
RelationThere rows (Err o) = Unit {0}

abbrev pub OneOf : Bool → Type 0 → Type 0 → Type 0
OneOf true A B = A
OneOf false A B = B

module _ (sorts : List Sort) (rows : List AtomOf) where
  -- the rows of an expression's relations of numbers
  abbrev pub ExThere : Ex → Type 0
  ExThere (Not e) = ExThere e
  ExThere (Negative e) = ExThere e
  ExThere (Binary op a b) = OneOf (relates_numbers sorts op a b) (RelationThere rows (relation op a b)) (ExThere a × ExThere b)
  ExThere _ = Unit {0}

  abbrev pub CmdsThere : List PassiveCmd → Type 0
  CmdsThere [] = Unit {0}
  CmdsThere (k ∷ ks) = ExThere (expression_of k) × CmdsThere ks

  abbrev pub EdgesThere : List Edge → Type 0
  EdgesThere [] = Unit {0}
  EdgesThere (e ∷ es) = CmdsThere e.cmds × EdgesThere es

  abbrev pub BlocksThere : List PassiveBlock → Type 0
  BlocksThere [] = Unit {0}
  BlocksThere (b ∷ bs) = (CmdsThere b.cmds × EdgesThere b.next) × BlocksThere bs
