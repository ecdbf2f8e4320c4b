-- The labels of each form of a statement, at the lists that the code meets.
use Rattle.std.proofs.Common.{◌≡◌, ℕ, ◌+◌, ◌<◌, List, ◌∷◌, ◌++◌, length, get_or, drop, sym, ap, ◌∙◌, append_assoc, Vec, Global}
use Rattle.bg_base.specs.declared.pos.Pos.{Pos}
use Rattle.bg_text.specs.declared.tree.TreeClause.{TreeClause}
use Rattle.bg_text.specs.declared.tree.TreeGuard.{TreeGuard}
use Rattle.bg_text.specs.declared.tree.TreeArm.{TreeArm}
use Rattle.bg_text.specs.declared.tree.TreeStmt.{TreeStmt}
use Rattle.bg_text.specs.declared.tree.TreeStmt.TheVariants as stmt
use Rattle.bg_text.specs.Trees as t
use Rattle.bg_text.specs.Views.{st_of}
use Rattle.bg_text.proofs.Lists as w
use Rattle.bg_names.proofs.Firsts.{drop_item}
use Rattle.bg_bodies.specs.Bodies.{st_labels, sts_labels, arms_labels}
use Rattle.bg_bodies.specs.Views.{tree_sts, tree_arms}

pub labels-If : (p : Pos) (arms : Vec TreeArm Global) → st_labels (st_of (stmt.If p arms)) ≡ arms_labels (tree_arms arms.items)
labels-If p arms = ap st_labels (w.st_of-If p arms)

pub labels-IfElse : (p : Pos) (arms : Vec TreeArm Global) (ss : Vec TreeStmt Global) → st_labels (st_of (stmt.IfElse p arms ss)) ≡ arms_labels (tree_arms arms.items) ++ sts_labels (tree_sts ss.items)
labels-IfElse p arms ss = ap st_labels (w.st_of-IfElse p arms ss)

pub labels-While : (p : Pos) (g : TreeGuard) (ks : Vec TreeClause Global) (ss : Vec TreeStmt Global) → st_labels (st_of (stmt.While p g ks ss)) ≡ sts_labels (tree_sts ss.items)
labels-While p g ks ss = ap st_labels (w.st_of-While p g ks ss)

-- labels that are added, one item of a list further
pub labels_step : {A : Type 0} (f : List A → List t.Id) (one old new : List t.Id) (xs : List A) (i : ℕ) (x : A) (whole : List t.Id) → i < length xs → x ≡ get_or xs i x → f (x ∷ drop (i + 1) xs) ≡ one ++ f (drop (i + 1) xs) → old ++ f (drop i xs) ≡ whole → new ≡ old ++ one → new ++ f (drop (i + 1) xs) ≡ whole
labels_step f one old new xs i x whole h at shape known e =
    let rest = f (drop (i + 1) xs) in
    ap (λ l. l ++ rest) e
    ∙ append_assoc old one rest
    ∙ ap (λ l. old ++ l) (sym shape)
    ∙ ap (λ l. old ++ f l) (sym (drop_item xs i x h at))
    ∙ known

pub ruleset label_forms = (labels-If, labels-IfElse, labels-While)
