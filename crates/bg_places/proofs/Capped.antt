-- Numbers of nodes exceed the limit or not, whether the procedures' sizes are capped or not.
use Rattle.std.proofs.Common.{◌≡◌, ℕ, zero, suc, ◌+◌, List, [], ◌∷◌, map, get_or, refl, arith}
use Rattle.std.specs.Prelude.{nat_lt}
use Rattle.bg_ast.specs.Resolved as r
use Rattle.bg_places.specs.Counts.{most_expanded, capped, nodes_of, guard_nodes, clause_nodes, st_nodes, sts_nodes, arms_nodes, expanded_count, is_any_above}

-- two sums
sum : (a b c d : ℕ) → capped a ≡ capped c → capped b ≡ capped d → capped (a + b) ≡ capped (c + d)
sum a b c d h k = omega (arith, h, k)

at : (ns : List ℕ) (k : ℕ) → capped (get_or (map capped ns) k 0) ≡ capped (get_or ns k 0)
at [] k = refl
at (n ∷ ns) zero = omega arith
at (n ∷ ns) (suc k) = at ns k

mutual
  st : (ns : List ℕ) (a : r.St) → capped (st_nodes (map capped ns) a) ≡ capped (st_nodes ns a)
  st ns (r.Label l) = refl
  st ns (r.Assert k) = refl
  st ns (r.Assume e) = refl
  st ns (r.Havoc xs) = refl
  st ns (r.Assign q ts es) = refl
  st ns (r.Invoke k) = sum (nodes_of k.args) _ (nodes_of k.args) _ refl (at ns k.procedure)
  st ns (r.If n arms otherwise) = sum (arms_nodes (map capped ns) arms) _ (arms_nodes ns arms) _ (arms_in ns arms) (sts ns otherwise)
  st ns (r.While n q g is body) =
      sum (guard_nodes g) _ (guard_nodes g) _ refl (sum (clause_nodes is) _ (clause_nodes is) _ refl (sts ns body))
  st ns (r.Break n) = refl
  st ns (r.Goto ls) = refl
  st ns r.Return = refl

  sts : (ns : List ℕ) (ss : r.Sts) → capped (sts_nodes (map capped ns) ss) ≡ capped (sts_nodes ns ss)
  sts ns r.NoSt = refl
  sts ns (r.Then a b) = sum (st_nodes (map capped ns) a) _ (st_nodes ns a) _ (st ns a) (sts ns b)

  arms_in : (ns : List ℕ) (arms : r.Arms) → capped (arms_nodes (map capped ns) arms) ≡ capped (arms_nodes ns arms)
  arms_in ns r.NoArm = refl
  arms_in ns (r.Arm g body arms) =
      sum (guard_nodes g) _ (guard_nodes g) _ refl (sum (sts_nodes (map capped ns) body) _ (sts_nodes ns body) _ (sts ns body) (arms_in ns arms))

-- a capped number exceeds the limit where the number does
over : (a b : ℕ) → capped a ≡ capped b → nat_lt most_expanded a ≡ nat_lt most_expanded b
over a b h = grind (arith, h)

impl : (ns : List ℕ) (i : r.Impl) → nat_lt most_expanded (expanded_count (map capped ns) i) ≡ nat_lt most_expanded (expanded_count ns i)
impl ns i =
    over (expanded_count (map capped ns) i) (expanded_count ns i)
    (sum (sts_nodes (map capped ns) i.body) _ (sts_nodes ns i.body) _ (sts ns i.body) (at ns i.procedure))

pub capped_are_above : (ns : List ℕ) (is : List r.Impl) → is_any_above most_expanded (map (expanded_count (map capped ns)) is) ≡ is_any_above most_expanded (map (expanded_count ns) is)
capped_are_above ns [] = refl
capped_are_above ns (i ∷ is) = rw (impl ns i, capped_are_above ns is) refl
