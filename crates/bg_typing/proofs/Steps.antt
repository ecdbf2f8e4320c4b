-- Statements that hold lists, and brackets behind variables.
use Rattle.std.proofs.Common.{◌≡◌, ℕ, List, ◌∷◌, ◌++◌, map, Option, sym, ap, ◌∙◌, append_assoc, Vec, Global}
use Rattle.bg_base.specs.declared.pos.Pos.{Pos}
use Rattle.bg_ast.specs.declared.resolved.Arm.{Arm}
use Rattle.bg_ast.specs.declared.resolved.Clause.{Clause}
use Rattle.bg_ast.specs.declared.resolved.Guard.{Guard}
use Rattle.bg_ast.specs.declared.resolved.Stmt.{Stmt}
use Rattle.bg_ast.specs.declared.resolved.Stmt.TheVariants as stmt
use Rattle.bg_ast.specs.Resolved as r
use Rattle.bg_ast.specs.Views.{st_of, sts_in, arms_from, arm_view, guard_of, clause_of}
use Rattle.bg_ast.proofs.Lists.{st_of-If, st_of-While}
use Rattle.bg_kinds.specs.Faults.{Fault, first_of}
use Rattle.bg_typing.specs.Sides.{Scope, Side, select_side, select_faults}
use Rattle.bg_typing.specs.Exprs.{judge_all, sides_of, faults_of}
use Rattle.bg_typing.specs.Stmts.{indexed, st_faults, sts_faults, arms_faults, guard_faults, clauses_faults}
use Rattle.bg_kinds.proofs.Firsts.{first_of_append}
use Rattle.bg_kinds.proofs.Loops.{both}

-- a bracket behind a variable that is assigned
pub indexed_side : (g : Scope) (m n : Side) (p : Pos) (is : r.Exs) (es : List Side) (bs rest : List (Pos × r.Exs)) → bs ≡ (p, is) ∷ rest → es ≡ sides_of (judge_all g is) → n ≡ select_side p m es → (indexed g n rest).side ≡ (indexed g m bs).side
indexed_side g m n p is es bs rest h e k =
    ap (λ n. (indexed g n rest).side) (k ∙ ap (select_side p m) e) ∙ ap (λ bs. (indexed g m bs).side) (sym h)

pub indexed_best : (g : Scope) (m n : Side) (p : Pos) (is : r.Exs) (es : List Side) (bs rest : List (Pos × r.Exs)) (b0 b1 b2 : Option Fault) → bs ≡ (p, is) ∷ rest → es ≡ sides_of (judge_all g is) → n ≡ select_side p m es → b1 ≡ first_of b0 (faults_of (judge_all g is)) → b2 ≡ first_of b1 (select_faults p m es) → first_of b2 (indexed g n rest).faults ≡ first_of b0 (indexed g m bs).faults
indexed_best g m n p is es bs rest b0 b1 b2 h e k i j =
    let inner = faults_of (judge_all g is) in
    let own = select_faults p m (sides_of (judge_all g is)) in
    let n' = select_side p m (sides_of (judge_all g is)) in
    let b = j ∙ (ap (λ es. first_of b1 (select_faults p m es)) e ∙ (ap (λ b. first_of b own) i ∙ sym (first_of_append b0 inner own))) in
    ap (λ n. first_of b2 (indexed g n rest).faults) (k ∙ ap (select_side p m) e)
    ∙ (ap (λ b. first_of b (indexed g n' rest).faults) b
    ∙ (sym (first_of_append b0 (inner ++ own) (indexed g n' rest).faults) ∙ ap (λ bs. first_of b0 (indexed g m bs).faults) (sym h)))

-- statements that hold lists
pub if_best : (g : Scope) (s : Stmt) (n : ℕ) (arms : Vec Arm Global) (ss : Vec Stmt Global) (xs : List Arm) (ys : List Stmt) (b0 b1 b2 : Option Fault) → s ≡ stmt.If n arms ss → xs ≡ arms.items → ys ≡ ss.items → b1 ≡ first_of b0 (arms_faults g (arms_from (map arm_view xs))) → b2 ≡ first_of b1 (sts_faults g (sts_in ys)) → b2 ≡ first_of b0 (st_faults g (st_of s))
if_best g s n arms ss xs ys b0 b1 b2 h x y i j =
    let faults : List Arm → List Stmt → List Fault = λ xs ys. arms_faults g (arms_from (map arm_view xs)) ++ sts_faults g (sts_in ys) in
    both b0 b1 b2 (arms_faults g (arms_from (map arm_view xs))) (sts_faults g (sts_in ys)) i j
    ∙ (ap (λ xs. first_of b0 (faults xs ys)) x
    ∙ (ap (λ ys. first_of b0 (faults arms.items ys)) y
    ∙ ap (λ s. first_of b0 (st_faults g s)) (sym (ap st_of h ∙ st_of-If n arms ss))))

pub while_best : (g : Scope) (s : Stmt) (n : ℕ) (q : Pos) (guard : Guard) (cs : Vec Clause Global) (ss : Vec Stmt Global) (xs : List Clause) (ys : List Stmt) (b0 b1 b2 b3 : Option Fault) → s ≡ stmt.While n q guard cs ss → xs ≡ cs.items → ys ≡ ss.items → b1 ≡ first_of b0 (guard_faults g (guard_of guard)) → b2 ≡ first_of b1 (clauses_faults g (map clause_of xs)) → b3 ≡ first_of b2 (sts_faults g (sts_in ys)) → b3 ≡ first_of b0 (st_faults g (st_of s))
while_best g s n q guard cs ss xs ys b0 b1 b2 b3 h x y i j k =
    let rest : List Clause → List Stmt → List Fault = λ xs ys. clauses_faults g (map clause_of xs) ++ sts_faults g (sts_in ys) in
    let faults : List Clause → List Stmt → List Fault = λ xs ys. guard_faults g (guard_of guard) ++ rest xs ys in
    both b0 b1 b3 (guard_faults g (guard_of guard)) (rest xs ys) i (both b1 b2 b3 (clauses_faults g (map clause_of xs)) (sts_faults g (sts_in ys)) j k)
    ∙ (ap (λ xs. first_of b0 (faults xs ys)) x
    ∙ (ap (λ ys. first_of b0 (faults cs.items ys)) y
    ∙ ap (λ s. first_of b0 (st_faults g s)) (sym (ap st_of h ∙ st_of-While n q guard cs ss))))

pub arms_step : (g : Scope) (x : Arm) (rest : List Arm) → arms_faults g (arms_from (map arm_view (x ∷ rest))) ≡ (guard_faults g (arm_view x).0 ++ sts_faults g (arm_view x).1) ++ arms_faults g (arms_from (map arm_view rest))
arms_step g x rest = sym (append_assoc (guard_faults g (arm_view x).0) (sts_faults g (arm_view x).1) (arms_faults g (arms_from (map arm_view rest))))
