-- How the code's tables are read.
use Rattle.std.specs.Prelude.{ℕ, List, map}
use Rattle.bg_text.specs.Trees as t
use Rattle.bg_text.specs.Views.{sts_from, st_of, arms_from, arm_view}
use Rattle.bg_names.specs.declared.walk.Walk.{Walk}
use Rattle.bg_text.specs.declared.tree.TreeStmt.{TreeStmt}
use Rattle.bg_text.specs.declared.tree.TreeArm.{TreeArm}
use Rattle.bg_names.specs.Views.{stacked}

abbrev pub ahead_of : Walk → List ℕ
ahead_of w = stacked w.ahead.items

-- statements and arms of the code's trees
abbrev pub tree_sts : List TreeStmt → t.Sts
tree_sts ss = sts_from (map st_of ss)

abbrev pub tree_arms : List TreeArm → t.Arms
tree_arms arms = arms_from (map arm_view arms)
