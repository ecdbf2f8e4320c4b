-- Passive blocks made flat.
use Rattle.std.specs.Prelude.{List, length}
use Rattle.bg_ast.specs.Values.{Ty}
use Rattle.bg_ast.specs.Syntax.{Fun}
use Rattle.bg_passive.specs.Passive.{PassiveBlock}
use Rattle.bg_terms.specs.Terms.{Term}
use Rattle.bg_terms.specs.Typed.{types_with}
use Rattle.bg_flat.specs.Blocks.{FlatBlocks}
use Rattle.bg_numbered.specs.Fair.{FairTerms}
use Rattle.bg_numbered.specs.Lines.{HaveIndices}

-- flat blocks over incarnations of these types and these terms
pub record AreFlattened (fs : List Fun) (incs : List Ty) (source : List PassiveBlock) (ts : List Term) (made : List PassiveBlock) : Type 0 where
  pub terms : FairTerms fs incs ts
  pub indexed : HaveIndices ts
  pub blocks : FlatBlocks (types_with incs ts) (length incs) ts source made
