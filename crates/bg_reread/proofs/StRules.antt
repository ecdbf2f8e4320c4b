-- Statements are ones of the grammar where they are without their positions.
use Rattle.std.proofs.Common.{◌≡◌, ◌≢◌, false}
use Rattle.bg_base.specs.declared.pos.Pos.{Pos}
use Rattle.bg_text.specs.Trees.{Exs, Clause, Guard, Star, Test, Target, St, Label, Assert, Assume, Havoc, Assign, Invoke, If, IfElse, While, Break, Goto, Return, Sts, NoSt, Then, Arms, NoArm, Arm}
use Rattle.bg_text.specs.Types.{All}
use Rattle.bg_text.specs.Statements.{IsClause, IsPlain, IsGuard, IsBracket, IsSt, AreSts, AreArms}
use Rattle.bg_reread.specs.Bare.{bare_id, bare_clause, bare_guard, bare_bracket, bare_target, bare_st, bare_sts, bare_arms}
use Rattle.bg_reread.proofs.Same.{Same, itself, both, three, four, some_same, all_same}
use Rattle.bg_reread.proofs.ExRules.{ex_same, some_exs, list_same}
use Rattle.bg_reread.proofs.TypeRules.{attrs_same}

pub clause_same : (c : Clause) → Same (IsClause (bare_clause c)) (IsClause c)
clause_same c = both (attrs_same c.attrs) (ex_same c.says)

plain_same : (c : Clause) → Same (IsPlain (bare_clause c)) (IsPlain c)
plain_same c = both (itself (c.is_free ≡ false)) (clause_same c)

guard_same : (g : Guard) → Same (IsGuard (bare_guard g)) (IsGuard g)
guard_same (Star p) = itself (Unit {0})
guard_same (Test e) = ex_same e

bracket_same : (b : Pos × Exs) → Same (IsBracket (bare_bracket b)) (IsBracket b)
bracket_same b = both (some_exs b.1) (list_same b.1)

target_same : (t : Target) → Same (All IsBracket (bare_target t).brackets) (All IsBracket t.brackets)
target_same t = all_same IsBracket bare_bracket bracket_same t.brackets

some_arms : (as' : Arms) → Same (bare_arms as' ≢ NoArm) (as' ≢ NoArm)
some_arms NoArm = itself (NoArm ≢ NoArm)
some_arms (Arm g ss arms) = record { there = λ h. λ c. cc; back = λ h. λ c. cc }

mutual
  st_same : (s : St) → Same (IsSt (bare_st s)) (IsSt s)
  st_same (Label x) = itself (Unit {0})
  st_same (Assert c) = plain_same c
  st_same (Assume c) = plain_same c
  st_same (Havoc p xs) = some_same bare_id xs
  st_same (Assign p ts es) = four (some_same bare_target ts) (all_same (λ t. All IsBracket t.brackets) bare_target target_same ts) (some_exs es) (list_same es)
  st_same (Invoke c) = both (attrs_same c.attrs) (list_same c.args)
  st_same (If p arms) = both (some_arms arms) (arms_same arms)
  st_same (IfElse p arms ss) = three (some_arms arms) (arms_same arms) (sts_same ss)
  st_same (While p g cs ss) = three (guard_same g) (all_same IsClause bare_clause clause_same cs) (sts_same ss)
  st_same (Break p x) = itself (Unit {0})
  st_same (Goto p xs) = some_same bare_id xs
  st_same (Return p) = itself (Unit {0})

  pub sts_same : (ss : Sts) → Same (AreSts (bare_sts ss)) (AreSts ss)
  sts_same NoSt = itself (Unit {0})
  sts_same (Then s ss) = both (st_same s) (sts_same ss)

  arms_same : (as' : Arms) → Same (AreArms (bare_arms as')) (AreArms as')
  arms_same NoArm = itself (Unit {0})
  arms_same (Arm g ss arms) = three (guard_same g) (sts_same ss) (arms_same arms)
