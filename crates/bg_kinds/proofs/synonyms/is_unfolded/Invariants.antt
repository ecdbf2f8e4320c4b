use Rattle.std.proofs.Common.{◌≡◌, ℕ, ◌<◌, map, Some, slice_get}
use Rattle.bg_ast.specs.Values.{UserTy}
use Rattle.bg_ast.specs.Views.{type_name_of}
use Rattle.bg_kinds.specs.Kinds.{kind_in, named_by, synonym_or}
use Rattle.bg_kinds.specs.KindViews.{kinds_in}
use Rattle.bg_kinds.proofs.synonyms.is_unfolded.Given as goal

abbrev pub invariant-loop-k : goal.invariant-loop-k
invariant-loop-k l = (j : ℕ) → j < l.k → named_by (kinds_in l.named) j ≡ synonym_or (Some (UserTy j)) (kind_in (named_by (kinds_in l.named))) (slice_get (map type_name_of l.ds) j)
