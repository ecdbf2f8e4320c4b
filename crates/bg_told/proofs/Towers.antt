-- Types that are no maps have no index types, and are their own results.
use Rattle.std.proofs.Common.{◌≡◌, [], refl}
use Rattle.bg_ast.specs.Values.{result_of}
use Rattle.bg_kinds.specs.declared.kinds.Base.{Base}
use Rattle.bg_kinds.specs.declared.kinds.Base.TheVariants.{Int, Bool, User}
use Rattle.bg_kinds.specs.Views.{base_of}
use Rattle.bg_told.specs.ValueTexts.{index_types}

pub base_index : (b : Base) → index_types (base_of b) ≡ []
base_index Int = refl
base_index Bool = refl
base_index (User t) = refl

pub base_result : (b : Base) → result_of (base_of b) ≡ base_of b
base_result Int = refl
base_result Bool = refl
base_result (User t) = refl
