-- What lines are read over.
use Rattle.std.specs.Prelude.{◌≡◌, List, map}
use Rattle.bg_ast.specs.Values.{Ty}
use Rattle.bg_ast.specs.Syntax.{Fun}
use Rattle.bg_kinds.specs.Views.{ref_in}
use Rattle.bg_terms.specs.Terms.{Term}
use Rattle.bg_term_table.specs.Views.{result_ty, terms_in}
use Rattle.bg_task.specs.declared.growing.Grown.{Grown}

-- these are the types of incarnations and the terms, in a program with these functions
pub record IsOver (fs : List Fun) (incs : List Ty) (ts : List Term) (x : Grown) : Type 0 where
  pub incarnations : map ref_in x.incarnations.now ≡ incs
  pub results : map ref_in x.results.items ≡ map result_ty fs
  pub terms : terms_in fs x.terms.items ≡ ts
