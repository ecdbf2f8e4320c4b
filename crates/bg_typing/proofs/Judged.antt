-- What the code finds of each form of an expression is what is defined of it.
use Rattle.std.proofs.Common.{◌≡◌, ℕ, List, ◌++◌, map, Option, Some, None, slice_get, sym, ap, ◌∙◌, Vec, Box, Global}
use Rattle.bg_base.specs.declared.pos.Pos.{Pos}
use Rattle.bg_text.specs.declared.expr.TreePrefix.{TreePrefix}
use Rattle.bg_ast.specs.declared.resolved.Expr.{Expr}
use Rattle.bg_ast.specs.declared.resolved.Expr.TheVariants as expr
use Rattle.bg_ast.specs.declared.resolved.Bracket.{Bracket}
use Rattle.bg_ast.specs.declared.resolved.Bracket.TheVariants as bracket
use Rattle.bg_ast.specs.declared.resolved.Link.{Link}
use Rattle.bg_ast.specs.Resolved as r
use Rattle.bg_ast.specs.Views.{ex_of, exs_in, brackets_of, bracket_view, links_of, link_view}
use Rattle.bg_kinds.specs.Faults.{Fault, first_of}
use Rattle.bg_typing.specs.Sides.{Scope, Side, Judged, apply_side, apply_faults, signed, select_side, select_faults, update_side, update_faults}
use Rattle.bg_typing.specs.Exprs.{judge, judge_all, sides_of, faults_of, behind, chained, bracket_side, bracket_faults}
use Rattle.bg_kinds.proofs.Loops.{both}
use Rattle.bg_typing.proofs.Forms.{judged_apply, judged_postfix, judged_chain, viewed_select, viewed_update}

abbrev all_in : Scope → List Expr → List Judged
all_in g xs = judge_all g (exs_in xs)

pub apply_best : (g : Scope) (e : Expr) (p : Pos) (f : ℕ) (args : Vec Expr Global) (xs : List Expr) (es : List Side) (b0 b1 b2 : Option Fault) → e ≡ expr.Apply p f args → xs ≡ args.items → es ≡ sides_of (all_in g xs) → b1 ≡ first_of b0 (faults_of (all_in g xs)) → b2 ≡ first_of b1 (apply_faults p (slice_get g.functions f) es) → b2 ≡ first_of b0 (judge g (ex_of e)).faults
apply_best g e p f args xs es b0 b1 b2 h x s k m =
    let faults : List Expr → List Fault = λ l. faults_of (all_in g l) ++ apply_faults p (slice_get g.functions f) (sides_of (all_in g l)) in
    both b0 b1 b2 (faults_of (all_in g xs)) (apply_faults p (slice_get g.functions f) (sides_of (all_in g xs))) k (m ∙ ap (λ l. first_of b1 (apply_faults p (slice_get g.functions f) l)) s)
    ∙ (ap (λ l. first_of b0 (faults l)) x ∙ ap (λ j. first_of b0 j.faults) (sym (judged_apply g e p f args h)))

pub apply_one : (g : Scope) (e : Expr) (p : Pos) (f : ℕ) (args : Vec Expr Global) (xs : List Expr) (es : List Side) (a : Side) → e ≡ expr.Apply p f args → xs ≡ args.items → es ≡ sides_of (all_in g xs) → a ≡ apply_side p (slice_get g.functions f) es → a ≡ (judge g (ex_of e)).side
apply_one g e p f args xs es a h x s k =
    k
    ∙ (ap (apply_side p (slice_get g.functions f)) s
    ∙ (ap (λ l. apply_side p (slice_get g.functions f) (sides_of (all_in g l))) x ∙ ap (λ j. j.side) (sym (judged_apply g e p f args h))))

pub prefix_best : (g : Scope) (e : Expr) (signs : Vec TreePrefix Global) (m : Box Expr Global) (x : Expr) (ys : List TreePrefix) (a : Side) (b0 b1 b2 : Option Fault) → e ≡ expr.Prefix signs m → x ≡ m.value → ys ≡ signs.items → a ≡ (judge g (ex_of x)).side → b1 ≡ first_of b0 (judge g (ex_of x)).faults → b2 ≡ first_of b1 (signed ys a).faults → b2 ≡ first_of b0 (judge g (ex_of e)).faults
prefix_best g e signs m x ys a b0 b1 b2 h i y s k n =
    let rest : Expr → List TreePrefix → Judged = λ x ys. signed ys (judge g (ex_of x)).side in
    both b0 b1 b2 (judge g (ex_of x)).faults (rest x ys).faults k (n ∙ ap (λ a. first_of b1 (signed ys a).faults) s)
    ∙ (ap (λ x. first_of b0 ((judge g (ex_of x)).faults ++ (rest x ys).faults)) i
    ∙ (ap (λ ys. first_of b0 ((judge g (ex_of m.value)).faults ++ (rest m.value ys).faults)) y
    ∙ ap (λ e. first_of b0 (judge g (ex_of e)).faults) (sym h)))

pub prefix_one : (g : Scope) (e : Expr) (signs : Vec TreePrefix Global) (m : Box Expr Global) (x : Expr) (ys : List TreePrefix) (a c : Side) → e ≡ expr.Prefix signs m → x ≡ m.value → ys ≡ signs.items → a ≡ (judge g (ex_of x)).side → c ≡ (signed ys a).side → c ≡ (judge g (ex_of e)).side
prefix_one g e signs m x ys a c h i y s k =
    k
    ∙ (ap (λ a. (signed ys a).side) s
    ∙ (ap (λ x. (signed ys (judge g (ex_of x)).side).side) i
    ∙ (ap (λ ys. (signed ys (judge g (ex_of m.value)).side).side) y
    ∙ ap (λ e. (judge g (ex_of e)).side) (sym h))))

pub postfix_best : (g : Scope) (e : Expr) (m : Box Expr Global) (bs : Vec Bracket Global) (x : Expr) (ys : List Bracket) (a : Side) (b0 b1 b2 : Option Fault) → e ≡ expr.Postfix m bs → x ≡ m.value → ys ≡ bs.items → a ≡ (judge g (ex_of x)).side → b1 ≡ first_of b0 (judge g (ex_of x)).faults → b2 ≡ first_of b1 (behind g a (brackets_of (map bracket_view ys))).faults → b2 ≡ first_of b0 (judge g (ex_of e)).faults
postfix_best g e m bs x ys a b0 b1 b2 h i y s k n =
    let rest : Expr → List Bracket → Judged = λ x ys. behind g (judge g (ex_of x)).side (brackets_of (map bracket_view ys)) in
    both b0 b1 b2 (judge g (ex_of x)).faults (rest x ys).faults k (n ∙ ap (λ a. first_of b1 (behind g a (brackets_of (map bracket_view ys))).faults) s)
    ∙ (ap (λ x. first_of b0 ((judge g (ex_of x)).faults ++ (rest x ys).faults)) i
    ∙ (ap (λ ys. first_of b0 ((judge g (ex_of m.value)).faults ++ (rest m.value ys).faults)) y
    ∙ ap (λ j. first_of b0 j.faults) (sym (judged_postfix g e m bs h))))

pub postfix_one : (g : Scope) (e : Expr) (m : Box Expr Global) (bs : Vec Bracket Global) (x : Expr) (ys : List Bracket) (a c : Side) → e ≡ expr.Postfix m bs → x ≡ m.value → ys ≡ bs.items → a ≡ (judge g (ex_of x)).side → c ≡ (behind g a (brackets_of (map bracket_view ys))).side → c ≡ (judge g (ex_of e)).side
postfix_one g e m bs x ys a c h i y s k =
    k
    ∙ (ap (λ a. (behind g a (brackets_of (map bracket_view ys))).side) s
    ∙ (ap (λ x. (behind g (judge g (ex_of x)).side (brackets_of (map bracket_view ys))).side) i
    ∙ (ap (λ ys. (behind g (judge g (ex_of m.value)).side (brackets_of (map bracket_view ys))).side) y
    ∙ ap (λ j. j.side) (sym (judged_postfix g e m bs h)))))

pub chain_best : (g : Scope) (e : Expr) (m : Box Expr Global) (bs : Vec Link Global) (x : Expr) (ys : List Link) (a : Side) (b0 b1 b2 : Option Fault) → e ≡ expr.Chain m bs → x ≡ m.value → ys ≡ bs.items → a ≡ (judge g (ex_of x)).side → b1 ≡ first_of b0 (judge g (ex_of x)).faults → b2 ≡ first_of b1 (chained g a (links_of (map link_view ys))).faults → b2 ≡ first_of b0 (judge g (ex_of e)).faults
chain_best g e m bs x ys a b0 b1 b2 h i y s k n =
    let rest : Expr → List Link → Judged = λ x ys. chained g (judge g (ex_of x)).side (links_of (map link_view ys)) in
    both b0 b1 b2 (judge g (ex_of x)).faults (rest x ys).faults k (n ∙ ap (λ a. first_of b1 (chained g a (links_of (map link_view ys))).faults) s)
    ∙ (ap (λ x. first_of b0 ((judge g (ex_of x)).faults ++ (rest x ys).faults)) i
    ∙ (ap (λ ys. first_of b0 ((judge g (ex_of m.value)).faults ++ (rest m.value ys).faults)) y
    ∙ ap (λ j. first_of b0 j.faults) (sym (judged_chain g e m bs h))))

pub chain_one : (g : Scope) (e : Expr) (m : Box Expr Global) (bs : Vec Link Global) (x : Expr) (ys : List Link) (a c : Side) → e ≡ expr.Chain m bs → x ≡ m.value → ys ≡ bs.items → a ≡ (judge g (ex_of x)).side → c ≡ (chained g a (links_of (map link_view ys))).side → c ≡ (judge g (ex_of e)).side
chain_one g e m bs x ys a c h i y s k =
    k
    ∙ (ap (λ a. (chained g a (links_of (map link_view ys))).side) s
    ∙ (ap (λ x. (chained g (judge g (ex_of x)).side (links_of (map link_view ys))).side) i
    ∙ (ap (λ ys. (chained g (judge g (ex_of m.value)).side (links_of (map link_view ys))).side) y
    ∙ ap (λ j. j.side) (sym (judged_chain g e m bs h)))))

-- a bracket, as it is read
abbrev side_by : Scope → Side → Pos × r.Exs × Option r.Ex → Side
side_by g m v = bracket_side g m v.0 v.1 v.2

abbrev faults_by : Scope → Side → Pos × r.Exs × Option r.Ex → List Fault
faults_by g m v = bracket_faults g m v.0 v.1 v.2

pub select_best : (g : Scope) (m : Side) (b : Bracket) (p : Pos) (v : Vec Expr Global) (xs : List Expr) (es : List Side) (b0 b1 b2 : Option Fault) → b ≡ bracket.Select p v → xs ≡ v.items → es ≡ sides_of (all_in g xs) → b1 ≡ first_of b0 (faults_of (all_in g xs)) → b2 ≡ first_of b1 (select_faults p m es) → b2 ≡ first_of b0 (faults_by g m (bracket_view b))
select_best g m b p v xs es b0 b1 b2 h x s k n =
    both b0 b1 b2 (faults_of (all_in g xs)) (select_faults p m (sides_of (all_in g xs))) k (n ∙ ap (λ l. first_of b1 (select_faults p m l)) s)
    ∙ (ap (λ l. first_of b0 (bracket_faults g m p (exs_in l) None)) x ∙ ap (λ v. first_of b0 (faults_by g m v)) (sym (viewed_select b p v h)))

pub select_one : (g : Scope) (m : Side) (b : Bracket) (p : Pos) (v : Vec Expr Global) (xs : List Expr) (es : List Side) (a : Side) → b ≡ bracket.Select p v → xs ≡ v.items → es ≡ sides_of (all_in g xs) → a ≡ select_side p m es → a ≡ side_by g m (bracket_view b)
select_one g m b p v xs es a h x s k =
    k
    ∙ (ap (select_side p m) s
    ∙ (ap (λ l. bracket_side g m p (exs_in l) None) x ∙ ap (side_by g m) (sym (viewed_select b p v h))))

pub update_best : (g : Scope) (m : Side) (b : Bracket) (p : Pos) (v : Vec Expr Global) (e : Expr) (xs : List Expr) (es : List Side) (a : Side) (b0 b1 b2 b3 : Option Fault) → b ≡ bracket.Update p v e → xs ≡ v.items → es ≡ sides_of (all_in g xs) → b1 ≡ first_of b0 (faults_of (all_in g xs)) → a ≡ (judge g (ex_of e)).side → b2 ≡ first_of b1 (judge g (ex_of e)).faults → b3 ≡ first_of b2 (update_faults p m es a) → b3 ≡ first_of b0 (faults_by g m (bracket_view b))
update_best g m b p v e xs es a b0 b1 b2 b3 h x s k i j n =
    let own = update_faults p m (sides_of (all_in g xs)) (judge g (ex_of e)).side in
    let last = n ∙ (ap (λ l. first_of b2 (update_faults p m l a)) s ∙ ap (λ a. first_of b2 (update_faults p m (sides_of (all_in g xs)) a)) i) in
    both b0 b1 b3 (faults_of (all_in g xs)) ((judge g (ex_of e)).faults ++ own) k (both b1 b2 b3 (judge g (ex_of e)).faults own j last)
    ∙ (ap (λ l. first_of b0 (bracket_faults g m p (exs_in l) (Some (ex_of e)))) x ∙ ap (λ v. first_of b0 (faults_by g m v)) (sym (viewed_update b p v e h)))

pub update_one : (g : Scope) (m : Side) (b : Bracket) (p : Pos) (v : Vec Expr Global) (e : Expr) (xs : List Expr) (es : List Side) (a c : Side) → b ≡ bracket.Update p v e → xs ≡ v.items → es ≡ sides_of (all_in g xs) → a ≡ (judge g (ex_of e)).side → c ≡ update_side p m es a → c ≡ side_by g m (bracket_view b)
update_one g m b p v e xs es a c h x s i k =
    k
    ∙ (ap (λ l. update_side p m l a) s
    ∙ (ap (update_side p m (sides_of (all_in g xs))) i
    ∙ (ap (λ l. bracket_side g m p (exs_in l) (Some (ex_of e))) x ∙ ap (side_by g m) (sym (viewed_update b p v e h)))))
