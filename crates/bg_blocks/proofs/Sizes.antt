-- How large statements are: what falls where code goes into them.
use Rattle.std.proofs.Common.{◌≡◌, ℕ, zero, suc, ◌+◌, ◌<◌, List, [], ◌∷◌, length, map, sym, ap, ◌∙◌, arith, Vec, Global}
use Rattle.std.specs.Prelude.{get_or}
use Rattle.bg_base.specs.declared.pos.Pos.{Pos}
use Rattle.bg_ast.specs.Resolved as r
use Rattle.bg_ast.specs.Views.{st_of, sts_in, arms_from, arm_view}
use Rattle.bg_ast.specs.declared.resolved.Arm.{Arm}
use Rattle.bg_ast.specs.declared.resolved.Clause.{Clause}
use Rattle.bg_ast.specs.declared.resolved.Guard.{Guard}
use Rattle.bg_ast.specs.declared.resolved.Stmt.{Stmt}
use Rattle.bg_ast.specs.declared.resolved.Stmt.TheVariants as stmt
use Rattle.bg_ast.proofs.Lists as w

abbrev mutual
  pub size_st : r.St → ℕ
  size_st (r.If n arms otherwise) = suc (size_arms arms + size_sts otherwise)
  size_st (r.While n p g is body) = suc (size_sts body)
  size_st _ = 1

  pub size_sts : r.Sts → ℕ
  size_sts r.NoSt = 0
  size_sts (r.Then a b) = suc (size_st a + size_sts b)

  pub size_arms : r.Arms → ℕ
  size_arms r.NoArm = 0
  size_arms (r.Arm g body arms) = suc (size_sts body + size_arms arms)

pub size_at : (ss : List Stmt) (j : ℕ) (a : Stmt) → j < length ss → a ≡ get_or ss j a → size_st (st_of a) < size_sts (sts_in ss)
size_at [] j a h e = absurd (omega (arith, h))
size_at (x ∷ ss) zero a h e = let same = ap (λ y. size_st (st_of y)) e in omega (arith, same)
size_at (x ∷ ss) (suc j) a h e = let rest = size_at ss j a (omega (arith, h)) e in omega (arith, rest)

pub size_arm : (arms : List Arm) (j : ℕ) (a : Arm) → j < length arms → a ≡ get_or arms j a → size_sts (sts_in a.body.items) < size_arms (arms_from (map arm_view arms))
size_arm [] j a h e = absurd (omega (arith, h))
size_arm (x ∷ arms) zero a h e = let same = ap (λ y. size_sts (sts_in y.body.items)) e in omega (arith, same)
size_arm (x ∷ arms) (suc j) a h e = let rest = size_arm arms j a (omega (arith, h)) e in omega (arith, rest)

pub size_If : (a : Stmt) (n : ℕ) (arms : Vec Arm Global) (ss : Vec Stmt Global) (ks : List Arm) (bs : List Stmt) → a ≡ stmt.If n arms ss → ks ≡ arms.items → bs ≡ ss.items → size_st (st_of a) ≡ suc (size_arms (arms_from (map arm_view ks)) + size_sts (sts_in bs))
size_If a n arms ss ks bs is h k =
    ap (λ x. size_st (st_of x)) is
    ∙ (ap size_st (w.st_of-If n arms ss)
    ∙ (ap (λ l. suc (size_arms (arms_from (map arm_view l)) + size_sts (sts_in ss.items))) (sym h)
    ∙ ap (λ l. suc (size_arms (arms_from (map arm_view ks)) + size_sts (sts_in l))) (sym k)))

pub size_While : (a : Stmt) (n : ℕ) (q : Pos) (g : Guard) (cs : Vec Clause Global) (ss : Vec Stmt Global) (bs : List Stmt) → a ≡ stmt.While n q g cs ss → bs ≡ ss.items → size_st (st_of a) ≡ suc (size_sts (sts_in bs))
size_While a n q g cs ss bs is k =
    ap (λ x. size_st (st_of x)) is
    ∙ (ap size_st (w.st_of-While n q g cs ss)
    ∙ ap (λ l. suc (size_sts (sts_in l))) (sym k))
