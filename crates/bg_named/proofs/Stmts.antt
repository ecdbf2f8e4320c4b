-- Statements without faults of names are named.
use Rattle.std.proofs.Common.{◌≡◌, ℕ, suc, ◌+◌, Bool, true, false, List, [], ◌∷◌, ◌++◌, length, refl, sym, subst}
use Rattle.std.specs.Prelude.{flat_map}
use Rattle.bg_text.specs.Trees as t
use Rattle.bg_text.specs.Statements.{IsSt, AreSts, AreArms}
use Rattle.bg_ast.specs.Resolved as r
use Rattle.bg_ast.specs.Meaning.{sts_of}
use Rattle.bg_names.specs.Clauses.{clause_faults}
use Rattle.bg_names.specs.Inside.{Inside, entered}
use Rattle.bg_bodies.specs.Bodies.{guard_faults, named_guard, labels_in, before_next, st_faults, sts_faults, arms_faults, arm_count, arms_count, st_count, sts_count, named_st, named_sts, named_arms}
use Rattle.bg_sense.specs.Typed.{Around, sig_around, labels_of}
use Rattle.bg_typed.specs.Bodies.{IsNamedGuard, IsNamedStatement, AreNamedStatements, AreNamedArms}
use Rattle.bg_named.specs.Covers.{CoversBody}
use Rattle.bg_named.proofs.ExprsBits.{never, split_nil}
use Rattle.bg_named.proofs.Exprs.{named_expression}
use Rattle.bg_named.proofs.Clauses.{clause_named, clauses_named}
use Rattle.bg_named.proofs.StmtsCalls.{changed_all, call_named, assign_named}
use Rattle.bg_named.proofs.StmtsLabels.{AreAround, all_allowed, one_more, block_entered, loop_entered, break_leaves, labels_stand}

guard_named : (b : Inside) (w : Around) → CoversBody b w → (g : t.Guard) → guard_faults b g ≡ [] → IsNamedGuard (sig_around w) (named_guard b g)
guard_named b w c (t.Star p) f = tt
guard_named b w c (t.Test e) f = named_expression b.scope (sig_around w) e c.names f

mutual
  st_named : (b : Inside) (w : Around) → CoversBody b w → (inside ahead : List ℕ) (in_loop : Bool) (n loop : ℕ) (around before : List ℕ) (blocks : List (ℕ × ℕ)) → AreAround inside in_loop loop around blocks → (s : t.St) → IsSt s → st_faults b ahead in_loop around before s ≡ [] → IsNamedStatement w inside ahead (named_st b n loop blocks before s)
  st_named b w c inside ahead in_loop n loop around before blocks h (t.Label x) i f = tt
  st_named b w c inside ahead in_loop n loop around before blocks h (t.Assert k) i f = (i.0, clause_named b.scope (sig_around w) n k c.names f)
  st_named b w c inside ahead in_loop n loop around before blocks h (t.Assume k) i f = named_expression b.scope (sig_around w) k.says c.names f
  st_named b w c inside ahead in_loop n loop around before blocks h (t.Havoc p xs) i f = changed_all b w c xs f
  st_named b w c inside ahead in_loop n loop around before blocks h (t.Assign p ts es) i f = assign_named b w c ts es f
  st_named b w c inside ahead in_loop n loop around before blocks h (t.Invoke k) i f = call_named b w c n k f
  st_named b w c inside ahead in_loop n loop around before blocks h (t.If p arms) i f =
      let in_arm = block_entered inside in_loop loop around before blocks n h in
      arms_named b w c inside ahead in_loop (n + arm_count arms) loop (before ++ around) (entered before n blocks) n in_arm arms (λ e. absurd (i.0 e)) r.NoSt (λ outer a. tt) i.1 f
  st_named b w c inside ahead in_loop n loop around before blocks h (t.IfElse p arms ss) i f =
      let in_arm = block_entered inside in_loop loop around before blocks n h in
      let parts = split_nil (arms_faults b ahead in_loop (before ++ around) arms) (sts_faults b ahead in_loop (before ++ around) [] ss) f in
      let m = n + arm_count arms + arms_count arms in
      let blocks' = entered before n blocks in
      arms_named b w c inside ahead in_loop (n + arm_count arms) loop (before ++ around) blocks' n in_arm arms (λ e. absurd (i.0 e)) (named_sts b m loop blocks' [] ss) (λ outer a. sts_named b w c outer ahead in_loop m loop (before ++ around) [] blocks' a ss i.2 parts.1) i.1 parts.0
  st_named b w c inside ahead in_loop n loop around before blocks h (t.While p g is ss) i f =
      let parts = split_nil (guard_faults b g ++ flat_map (clause_faults b.scope) is) (sts_faults b ahead true (before ++ around) [] ss) f in
      let inner = split_nil (guard_faults b g) (flat_map (clause_faults b.scope) is) parts.0 in
      let in_body = loop_entered inside in_loop loop around before blocks n h in
      (guard_named b w c g inner.0, clauses_named b.scope (sig_around w) (n + 1) is c.names inner.1, sts_named b w c (n ∷ inside) ahead true (n + 1 + length is) n (before ++ around) [] (entered before n blocks) in_body ss i.2 parts.1)
  st_named b w c inside ahead in_loop n loop around before blocks h (t.Break p x) i f = break_leaves b inside in_loop loop around blocks p x h f
  st_named b w c inside ahead in_loop n loop around before blocks h (t.Goto p xs) i f = all_allowed b ahead xs f
  st_named b w c inside ahead in_loop n loop around before blocks h (t.Return p) i f = tt

  sts_named : (b : Inside) (w : Around) → CoversBody b w → (inside ahead : List ℕ) (in_loop : Bool) (n loop : ℕ) (around before : List ℕ) (blocks : List (ℕ × ℕ)) → AreAround inside in_loop loop around blocks → (ss : t.Sts) → AreSts ss → sts_faults b ahead in_loop around before ss ≡ [] → AreNamedStatements w inside ahead (named_sts b n loop blocks before ss)
  sts_named b w c inside ahead in_loop n loop around before blocks h t.NoSt i f = tt
  sts_named b w c inside ahead in_loop n loop around before blocks h (t.Then s ss) i f =
      let parts = split_nil (st_faults b (labels_in b ss ++ ahead) in_loop around before s) (sts_faults b ahead in_loop around (before_next b before s) ss) f in
      let rest = named_sts b (n + st_count s) loop blocks (before_next b before s) ss in
      let same : labels_in b ss ≡ labels_of (sts_of rest) = sym (labels_stand b (n + st_count s) loop blocks (before_next b before s) ss i.1) in (
        subst (λ (ls : List ℕ). IsNamedStatement w inside (ls ++ ahead) (named_st b n loop blocks before s)) same (st_named b w c inside (labels_in b ss ++ ahead) in_loop n loop around before blocks h s i.0 parts.0),
        sts_named b w c inside ahead in_loop (n + st_count s) loop around (before_next b before s) blocks h ss i.1 parts.1,
      )

  -- the arms from the one with the number k on, inside these and, where there is an arm, inside k; behind them what is named
  -- wherever what is around it is
  arms_named : (b : Inside) (w : Around) → CoversBody b w → (inside ahead : List ℕ) (in_loop : Bool) (n loop : ℕ) (around : List ℕ) (blocks : List (ℕ × ℕ)) (k : ℕ) → AreAround (k ∷ inside) in_loop loop around blocks → (arms : t.Arms) → (arms ≡ t.NoArm → AreAround inside in_loop loop around blocks) → (other : r.Sts) → ((outer : List ℕ) → AreAround outer in_loop loop around blocks → AreNamedStatements w outer ahead other) → AreArms arms → arms_faults b ahead in_loop around arms ≡ [] → AreNamedArms w inside ahead k (named_arms b n loop blocks arms) (λ outer. AreNamedStatements w outer ahead other)
  arms_named b w c inside ahead in_loop n loop around blocks k h t.NoArm none other last i f = last inside (none refl)
  arms_named b w c inside ahead in_loop n loop around blocks k h (t.Arm g ss arms) none other last i f =
      let parts = split_nil (guard_faults b g ++ sts_faults b ahead in_loop around [] ss) (arms_faults b ahead in_loop around arms) f in
      let inner = split_nil (guard_faults b g) (sts_faults b ahead in_loop around [] ss) parts.0 in (
        guard_named b w c g inner.0,
        sts_named b w c (k ∷ inside) ahead in_loop n loop around [] blocks h ss i.1 inner.1,
        arms_named b w c (k ∷ inside) ahead in_loop (n + sts_count ss) loop around blocks (suc k) (one_more (k ∷ inside) in_loop loop around blocks (suc k) h) arms (λ e. h) other last i.2 parts.1,
      )

pub named_statements : (b : Inside) (w : Around) (n : ℕ) (ss : t.Sts) → CoversBody b w → AreSts ss → sts_faults b [] false [] [] ss ≡ [] → AreNamedStatements w [] [] (named_sts b n 0 [] [] ss)
named_statements b w n ss c i f =
    sts_named b w c [] [] false n 0 [] [] [] (record { innermost = λ e. never e; labelled = λ k e. never e }) ss i f
