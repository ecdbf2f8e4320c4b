-- The numbers of a body: each of those that it takes stands at one clause, call, loop or conditional.
use Rattle.std.proofs.Common.{◌≡◌, ℕ, suc, ◌+◌, List, [], ◌∷◌, ◌++◌, map, length, sym, ap, ◌∙◌, arith, nat_eq}
use Rattle.std.proofs.lemmas.List.{map-append}
use Rattle.bg_text.specs.Trees as t
use Rattle.bg_ast.specs.Syntax as s
use Rattle.bg_ast.specs.Meaning.{clause_of, guard_of, st_of, sts_of, arms_of}
use Rattle.bg_names.specs.Spaces.{Scope}
use Rattle.bg_names.specs.Clauses.{named_clauses}
use Rattle.bg_names.specs.Inside.{Inside, entered}
use Rattle.bg_bodies.specs.Bodies.{before_next, arm_count, arms_count, st_count, sts_count, named_guard, named_st, named_sts, named_arms}
use Rattle.bg_sense.specs.Resolved.{clauses_in, calls_in, branches_in}
use Rattle.bg_meant.proofs.Times.{one_if, times, times_append, within, within_none, within_one, within_join}

abbrev pub id_of : s.Clause → ℕ
id_of k = k.id

-- how often a number stands in a statement
abbrev pub total : ℕ → s.St → ℕ
total x a = times x (map id_of (clauses_in a)) + (times x (calls_in a) + times x (branches_in a))

ids_append : (x : ℕ) (ks ls : List s.Clause) → times x (map id_of (ks ++ ls)) ≡ times x (map id_of ks) + times x (map id_of ls)
ids_append x ks ls = ap (times x) (map-append id_of ks ls) ∙ times_append x (map id_of ks) (map id_of ls)

then_total : (x : ℕ) (a c : s.St) → total x (s.Then a c) ≡ total x a + total x c
then_total x a c =
    let k = ids_append x (clauses_in a) (clauses_in c) in
    let l = times_append x (calls_in a) (calls_in c) in
    let m = times_append x (branches_in a) (branches_in c) in
    omega (arith, k, l, m)

if_total : (x n : ℕ) (g : s.Guard) (a c : s.St) → total x (s.If n g a c) ≡ one_if (nat_eq n x) + (total x a + total x c)
if_total x n g a c =
    let k = ids_append x (clauses_in a) (clauses_in c) in
    let l = times_append x (calls_in a) (calls_in c) in
    let m = times_append x (branches_in a) (branches_in c) in
    omega (arith, k, l, m)

while_total : (x n : ℕ) (g : s.Guard) (is : List s.Clause) (a : s.St) → total x (s.While n g is a) ≡ one_if (nat_eq n x) + (times x (map id_of is) + total x a)
while_total x n g is a =
    let k = ids_append x is (clauses_in a) in
    omega (arith, k)

pub clauses_total : (x : ℕ) (g : Scope) (n : ℕ) (ks : List t.Clause) → times x (map id_of (map clause_of (named_clauses g n ks))) ≡ within n (length ks) x
clauses_total x g n [] = sym (within_none n x)
clauses_total x g n (k ∷ ks) =
    let rest = clauses_total x g (n + 1) ks in
    let one = within_one n x in
    let join = within_join n 1 (length ks) x in
    let same : within n (suc (length ks)) x ≡ within n (1 + length ks) x = ap (λ (c : ℕ). within n c x) (omega arith) in
    omega (arith, rest, one, join, same)

mutual
  st_total : (x : ℕ) (b : Inside) (n loop : ℕ) (blocks : List (ℕ × ℕ)) (before : List ℕ) (a : t.St) → total x (st_of (named_st b n loop blocks before a)) ≡ within n (st_count a) x
  st_total x b n loop blocks before (t.Label y) = sym (within_none n x)
  st_total x b n loop blocks before (t.Assert k) = let one = within_one n x in omega (arith, one)
  st_total x b n loop blocks before (t.Assume k) = sym (within_none n x)
  st_total x b n loop blocks before (t.Havoc p xs) = sym (within_none n x)
  st_total x b n loop blocks before (t.Assign p ts es) = sym (within_none n x)
  st_total x b n loop blocks before (t.Invoke c) = let one = within_one n x in omega (arith, one)
  st_total x b n loop blocks before (t.If p arms) =
      let m = n + arm_count arms in
      let inner = arms_total x b n m loop (entered before n blocks) arms s.Skip in
      let join = within_join n (arm_count arms) (arms_count arms) x in
      omega (arith, inner, join)
  st_total x b n loop blocks before (t.IfElse p arms ss) =
      let m = n + arm_count arms in
      let k = n + arm_count arms + arms_count arms in
      let other = sts_of (named_sts b k loop (entered before n blocks) [] ss) in
      let inner = arms_total x b n m loop (entered before n blocks) arms other in
      let last = sts_total x b k loop (entered before n blocks) [] ss in
      let join = within_join n (arm_count arms) (arms_count arms) x in
      let more = within_join n (arm_count arms + arms_count arms) (sts_count ss) x in
      let same : within (n + (arm_count arms + arms_count arms)) (sts_count ss) x ≡ within k (sts_count ss) x = ap (λ (c : ℕ). within c (sts_count ss) x) (omega arith) in
      omega (arith, inner, last, join, more, same)
  st_total x b n loop blocks before (t.While p g is ss) =
      let body = sts_of (named_sts b (n + 1 + length is) n (entered before n blocks) [] ss) in
      let parts = while_total x n (guard_of (named_guard b g)) (map clause_of (named_clauses b.scope (n + 1) is)) body in
      let one = within_one n x in
      let clauses = clauses_total x b.scope (n + 1) is in
      let last = sts_total x b (n + 1 + length is) n (entered before n blocks) [] ss in
      let join = within_join n 1 (length is) x in
      let more = within_join n (1 + length is) (sts_count ss) x in
      let same : within (n + (1 + length is)) (sts_count ss) x ≡ within (n + 1 + length is) (sts_count ss) x = ap (λ (c : ℕ). within c (sts_count ss) x) (omega arith) in
      omega (arith, parts, one, clauses, last, join, more, same)
  st_total x b n loop blocks before (t.Break p y) = sym (within_none n x)
  st_total x b n loop blocks before (t.Goto p xs) = sym (within_none n x)
  st_total x b n loop blocks before (t.Return p) = sym (within_none n x)

  sts_total : (x : ℕ) (b : Inside) (n loop : ℕ) (blocks : List (ℕ × ℕ)) (before : List ℕ) (ss : t.Sts) → total x (sts_of (named_sts b n loop blocks before ss)) ≡ within n (sts_count ss) x
  sts_total x b n loop blocks before t.NoSt = sym (within_none n x)
  sts_total x b n loop blocks before (t.Then a ss) =
      let parts = then_total x (st_of (named_st b n loop blocks before a)) (sts_of (named_sts b (n + st_count a) loop blocks (before_next b before a) ss)) in
      let first = st_total x b n loop blocks before a in
      let rest = sts_total x b (n + st_count a) loop blocks (before_next b before a) ss in
      let join = within_join n (st_count a) (sts_count ss) x in
      omega (arith, parts, first, rest, join)

  arms_total : (x : ℕ) (b : Inside) (m n loop : ℕ) (blocks : List (ℕ × ℕ)) (arms : t.Arms) (other : s.St) → total x (arms_of m (named_arms b n loop blocks arms) other) ≡ (within m (arm_count arms) x + within n (arms_count arms) x) + total x other
  arms_total x b m n loop blocks t.NoArm other =
      let p = within_none m x in
      let q = within_none n x in
      omega (arith, p, q)
  arms_total x b m n loop blocks (t.Arm g ss arms) other =
      let body = sts_of (named_sts b n loop blocks [] ss) in
      let rest = arms_of (suc m) (named_arms b (n + sts_count ss) loop blocks arms) other in
      let parts = if_total x m (guard_of (named_guard b g)) body rest in
      let one = within_one m x in
      let first = sts_total x b n loop blocks [] ss in
      let more = arms_total x b (suc m) (n + sts_count ss) loop blocks arms other in
      let own = within_join m 1 (arm_count arms) x in
      let same : within (suc m) (arm_count arms) x ≡ within (m + 1) (arm_count arms) x = ap (λ (c : ℕ). within c (arm_count arms) x) (omega arith) in
      let inner = within_join n (sts_count ss) (arms_count arms) x in
      omega (arith, parts, one, first, more, own, same, inner)

pub body_total : (x : ℕ) (b : Inside) (n : ℕ) (ss : t.Sts) → total x (sts_of (named_sts b n 0 [] [] ss)) ≡ within n (sts_count ss) x
body_total x b n ss = sts_total x b n 0 [] [] ss
