-- How each form of a statement is opened, at the lists that the code meets.
use Rattle.std.proofs.Common.{◌≡◌, ℕ, List, [], ◌∷◌, map, refl, sym, ap, ◌∙◌, Vec, Global}
use Rattle.bg_base.specs.declared.pos.Pos.{Pos}
use Rattle.bg_ast.specs.declared.resolved.Expr.{Expr}
use Rattle.bg_ast.specs.declared.resolved.Clause.{Clause}
use Rattle.bg_ast.specs.declared.resolved.Guard.{Guard}
use Rattle.bg_ast.specs.declared.resolved.Placed.{Placed}
use Rattle.bg_ast.specs.declared.resolved.Target.{Target}
use Rattle.bg_ast.specs.declared.resolved.Call.{Call}
use Rattle.bg_ast.specs.declared.resolved.Arm.{Arm}
use Rattle.bg_ast.specs.declared.resolved.Stmt.{Stmt}
use Rattle.bg_ast.specs.declared.resolved.Stmt.TheVariants as stmt
use Rattle.bg_ast.specs.Resolved as r
use Rattle.bg_ast.specs.Views as u
use Rattle.bg_ast.proofs.Lists as z
use Rattle.bg_opened.specs.Written as w
use Rattle.bg_opening.proofs.Forms.{both}

module _ (o : r.Ex → r.Ex) where
  exs-opened : (es : List r.Ex) → w.all_opened o (u.exs_of es) ≡ u.exs_of (map o es)
  exs-opened [] = refl
  exs-opened (e ∷ es) = ap (r.More (o e)) (exs-opened es)

  sts-opened : (ss : List r.St) → w.opened_sts o (u.sts_from ss) ≡ u.sts_from (map (w.opened_st o) ss)
  sts-opened [] = refl
  sts-opened (s ∷ ss) = ap (r.Then (w.opened_st o s)) (sts-opened ss)

  arms-opened : (arms : List u.Armed) → w.opened_arms o (u.arms_from arms) ≡ u.arms_from (map (w.opened_arm o) arms)
  arms-opened [] = refl
  arms-opened (a ∷ arms) = ap (r.Arm (w.opened_guard o a.0) (w.opened_sts o a.1)) (arms-opened arms)

  -- what is made of a list is what is made of it
  pub exs-are : (es xs : List Expr) → map u.ex_of xs ≡ map o (map u.ex_of es) → u.exs_in xs ≡ w.all_opened o (u.exs_in es)
  exs-are es xs h = ap u.exs_of h ∙ sym (exs-opened (map u.ex_of es))

  pub sts-are : (ss xs : List Stmt) → map u.st_of xs ≡ map (w.opened_st o) (map u.st_of ss) → u.sts_in xs ≡ w.opened_sts o (u.sts_in ss)
  sts-are ss xs h = ap u.sts_from h ∙ sym (sts-opened (map u.st_of ss))

  arms-are : (arms xs : List Arm) → map u.arm_view xs ≡ map (w.opened_arm o) (map u.arm_view arms) → u.arms_from (map u.arm_view xs) ≡ w.opened_arms o (u.arms_from (map u.arm_view arms))
  arms-are arms xs h = ap u.arms_from h ∙ sym (arms-opened (map u.arm_view arms))

  pub call-is : (k : Call) (args : Vec Expr Global) (takes : Vec Placed Global) → map u.ex_of args.items ≡ map o (map u.ex_of k.args.items) → takes.items ≡ k.takes.items → u.call_of (record k { args = args; takes = takes }) ≡ w.opened_call o (u.call_of k)
  call-is k args takes h is =
      both (λ es xs. record { pos = k.pos; site = k.site; name_pos = k.name_pos; procedure = k.procedure; args = es; takes = xs }) (exs-are k.args.items args.items h) (ap (map u.placed_of) is)

  pub stmt-Assign : (p : Pos) (ts : Vec Target Global) (es : Vec Expr Global) (made : Vec Target Global) (xs : Vec Expr Global) → map u.target_of made.items ≡ map (w.opened_target o) (map u.target_of ts.items) → map u.ex_of xs.items ≡ map o (map u.ex_of es.items) → u.st_of (stmt.Assign p made xs) ≡ w.opened_st o (u.st_of (stmt.Assign p ts es))
  stmt-Assign p ts es made xs h k = both (r.Assign p) h (exs-are es.items xs.items k)

  pub stmt-If : (n : ℕ) (arms : Vec Arm Global) (ss : Vec Stmt Global) (made : Vec Arm Global) (xs : Vec Stmt Global) → map u.arm_view made.items ≡ map (w.opened_arm o) (map u.arm_view arms.items) → map u.st_of xs.items ≡ map (w.opened_st o) (map u.st_of ss.items) → u.st_of (stmt.If n made xs) ≡ w.opened_st o (u.st_of (stmt.If n arms ss))
  stmt-If n arms ss made xs h k =
      z.st_of-If n made xs
      ∙ both (r.If n) (arms-are arms.items made.items h) (sts-are ss.items xs.items k)
      ∙ sym (ap (w.opened_st o) (z.st_of-If n arms ss))

  pub stmt-While : (n : ℕ) (p : Pos) (g : Guard) (is : Vec Clause Global) (ss : Vec Stmt Global) (x : Guard) (made : Vec Clause Global) (xs : Vec Stmt Global) → u.guard_of x ≡ w.opened_guard o (u.guard_of g) → map u.clause_of made.items ≡ map (w.opened_clause o) (map u.clause_of is.items) → map u.st_of xs.items ≡ map (w.opened_st o) (map u.st_of ss.items) → u.st_of (stmt.While n p x made xs) ≡ w.opened_st o (u.st_of (stmt.While n p g is ss))
  stmt-While n p g is ss x made xs a h k =
      z.st_of-While n p x made xs
      ∙ ap (λ y. r.While n p y (map u.clause_of made.items) (u.sts_in xs.items)) a
      ∙ both (r.While n p (w.opened_guard o (u.guard_of g))) h (sts-are ss.items xs.items k)
      ∙ sym (ap (w.opened_st o) (z.st_of-While n p g is ss))
