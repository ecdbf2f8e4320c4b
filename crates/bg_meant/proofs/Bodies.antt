-- What a body calls is there, and the candidates that guard its clauses are the program's.
use Rattle.std.proofs.Common.{◌≡◌, ℕ, suc, ◌+◌, ◌<◌, Bool, true, false, List, [], ◌∷◌, ◌++◌, map, length, Option, Some, None, refl, sym, subst}
use Rattle.std.specs.Prelude.{flat_map}
use Rattle.bg_text.specs.declared.expr.InfixSign.TheVariants as sign
use Rattle.bg_text.specs.Trees as t
use Rattle.bg_text.specs.Types.{All as Each}
use Rattle.bg_ast.specs.Syntax as s
use Rattle.bg_ast.specs.Meaning.{clause_of, st_of, sts_of, arms_of}
use Rattle.bg_names.specs.declared.scope.Meaning.{Meaning}
use Rattle.bg_names.specs.declared.scope.Meaning.TheVariants as means
use Rattle.bg_names.specs.Spaces.{Scope, meaning, place, or_zero, use_faults, repeats}
use Rattle.bg_names.specs.Exprs.{exs_faults}
use Rattle.bg_names.specs.Clauses.{bare, candidate_in, candidate_of, with_rest, guard_in, guard_unless, guarding, named_clause, named_clauses, clause_faults}
use Rattle.bg_names.specs.Inside.{Inside, entered, id_faults}
use Rattle.bg_bodies.specs.Bodies.{before_next, callee_faults, call_faults, guard_faults, labels_in, st_faults, sts_faults, arms_faults, arm_count, arms_count, st_count, sts_count, named_st, named_sts, named_arms}
use Rattle.bg_sense.specs.Resolved.{clauses_in, called_in, HasCandidate}
use Rattle.bg_named.proofs.SpacesOnce.{empty_parts}
use Rattle.bg_named.proofs.SpacesPlaces.{place_is, used}
use Rattle.bg_named.proofs.SpacesEntries.{each_append}

-- ---- candidates

-- a scope in which names mean the first so many candidates
abbrev pub NamesCandidates : ℕ → Scope → Type 0
NamesCandidates c g = (x : List ℕ) (k : ℕ) → meaning g x ≡ means.Candidate k → k < c

abbrev Below : ℕ → Option ℕ → Type 0
Below c None = Unit {0}
Below c (Some k) = k < c

below_in : (c : ℕ) (m : Meaning) → ((k : ℕ) → m ≡ means.Candidate k → k < c) → Below c (candidate_in m)
below_in c means.Nothing h = tt
below_in c (means.Constant k) h = tt
below_in c (means.Candidate k) h = h k refl
below_in c (means.Global k) h = tt
below_in c (means.Local k) h = tt

below_of : (c : ℕ) (g : Scope) → NamesCandidates c g → (e : t.Ex) → Below c (candidate_of g e)
below_of c g h (t.Named p x) = below_in c (meaning g x) (h x)
below_of c g h _ = tt

below_rest : (c : ℕ) (e : t.Ex) (ls : t.Links) (o : Option ℕ) → Below c o → Below c (guarding (with_rest e ls o))
below_rest c e ls None h = tt
below_rest c e ls (Some k) h = h

below_guard : (c : ℕ) (g : Scope) → NamesCandidates c g → (e : t.Ex) → Below c (guarding (guard_in g e))
below_guard c g h (t.Chain a (t.Link p sign.Implies e ls)) = below_rest c e ls (candidate_of g (bare a)) (below_of c g h (bare a))
below_guard c g h _ = tt

-- the clause's candidate is the program's, and guards a checked clause
abbrev pub IsGuarded : ℕ → s.Clause → Type 0
IsGuarded c k = HasCandidate c k.candidate k

pub clause_guarded : (c : ℕ) (g : Scope) → NamesCandidates c g → (n : ℕ) (k : t.Clause) → IsGuarded c (clause_of (named_clause g n k))
clause_guarded c g h n k = by k.is_free refl
  where
    at : (o : Option ℕ) → Below c o → k.is_free ≡ false → HasCandidate c o (clause_of (named_clause g n k))
    at None b f = tt
    at (Some j) b f = (b, f)

    by : (free : Bool) → k.is_free ≡ free → IsGuarded c (clause_of (named_clause g n k))
    by true e = subst (λ (f : Bool). HasCandidate c (guarding (guard_unless f g k.says)) (clause_of (named_clause g n k))) (sym e) tt
    by false e =
        subst
        (λ (f : Bool). HasCandidate c (guarding (guard_unless f g k.says)) (clause_of (named_clause g n k)))
        (sym e)
        (at (guarding (guard_in g (bare k.says))) (below_guard c g h (bare k.says)) e)

pub clauses_guarded : (c : ℕ) (g : Scope) → NamesCandidates c g → (n : ℕ) (ks : List t.Clause) → Each (IsGuarded c) (map clause_of (named_clauses g n ks))
clauses_guarded c g h n [] = tt
clauses_guarded c g h n (k ∷ ks) = (clause_guarded c g h n k, clauses_guarded c g h (n + 1) ks)

mutual
  st_guarded : (c : ℕ) (b : Inside) → NamesCandidates c b.scope → (n loop : ℕ) (blocks : List (ℕ × ℕ)) (before : List ℕ) (a : t.St) → Each (IsGuarded c) (clauses_in (st_of (named_st b n loop blocks before a)))
  st_guarded c b h n loop blocks before (t.Label y) = tt
  st_guarded c b h n loop blocks before (t.Assert k) = (clause_guarded c b.scope h n k, tt)
  st_guarded c b h n loop blocks before (t.Assume k) = tt
  st_guarded c b h n loop blocks before (t.Havoc p xs) = tt
  st_guarded c b h n loop blocks before (t.Assign p ts es) = tt
  st_guarded c b h n loop blocks before (t.Invoke k) = tt
  st_guarded c b h n loop blocks before (t.If p arms) =
      arms_guarded c b h n (n + arm_count arms) loop (entered before n blocks) arms s.Skip tt
  st_guarded c b h n loop blocks before (t.IfElse p arms ss) =
      let k = n + arm_count arms + arms_count arms in
      arms_guarded c b h n (n + arm_count arms) loop (entered before n blocks) arms (sts_of (named_sts b k loop (entered before n blocks) [] ss)) (sts_guarded c b h k loop (entered before n blocks) [] ss)
  st_guarded c b h n loop blocks before (t.While p g is ss) =
      each_append
      (IsGuarded c)
      (map clause_of (named_clauses b.scope (n + 1) is))
      (clauses_in (sts_of (named_sts b (n + 1 + length is) n (entered before n blocks) [] ss)))
      (clauses_guarded c b.scope h (n + 1) is)
      (sts_guarded c b h (n + 1 + length is) n (entered before n blocks) [] ss)
  st_guarded c b h n loop blocks before (t.Break p y) = tt
  st_guarded c b h n loop blocks before (t.Goto p xs) = tt
  st_guarded c b h n loop blocks before (t.Return p) = tt

  sts_guarded : (c : ℕ) (b : Inside) → NamesCandidates c b.scope → (n loop : ℕ) (blocks : List (ℕ × ℕ)) (before : List ℕ) (ss : t.Sts) → Each (IsGuarded c) (clauses_in (sts_of (named_sts b n loop blocks before ss)))
  sts_guarded c b h n loop blocks before t.NoSt = tt
  sts_guarded c b h n loop blocks before (t.Then a ss) =
      each_append
      (IsGuarded c)
      (clauses_in (st_of (named_st b n loop blocks before a)))
      (clauses_in (sts_of (named_sts b (n + st_count a) loop blocks (before_next b before a) ss)))
      (st_guarded c b h n loop blocks before a)
      (sts_guarded c b h (n + st_count a) loop blocks (before_next b before a) ss)

  arms_guarded : (c : ℕ) (b : Inside) → NamesCandidates c b.scope → (m n loop : ℕ) (blocks : List (ℕ × ℕ)) (arms : t.Arms) (other : s.St) → Each (IsGuarded c) (clauses_in other) → Each (IsGuarded c) (clauses_in (arms_of m (named_arms b n loop blocks arms) other))
  arms_guarded c b h m n loop blocks t.NoArm other o = o
  arms_guarded c b h m n loop blocks (t.Arm g ss arms) other o =
      each_append
      (IsGuarded c)
      (clauses_in (sts_of (named_sts b n loop blocks [] ss)))
      (clauses_in (arms_of (suc m) (named_arms b (n + sts_count ss) loop blocks arms) other))
      (sts_guarded c b h n loop blocks [] ss)
      (arms_guarded c b h (suc m) (n + sts_count ss) loop blocks arms other o)

-- ---- procedures that are called

abbrev pub IsBelow : ℕ → ℕ → Type 0
IsBelow c k = k < c

call_there : (b : Inside) (k : t.Call) → call_faults b k ≡ [] → or_zero (place b.procedures k.procedure.text) < length b.procedures
call_there b k f =
    let last = empty_parts (((repeats [] k.takes ++ flat_map (id_faults b) k.takes) ++ use_faults b.procedures k.procedure) ++ callee_faults b k.procedure) (exs_faults b.scope k.args) f in
    let more = empty_parts ((repeats [] k.takes ++ flat_map (id_faults b) k.takes) ++ use_faults b.procedures k.procedure) (callee_faults b k.procedure) last.0 in
    let one = empty_parts (repeats [] k.takes ++ flat_map (id_faults b) k.takes) (use_faults b.procedures k.procedure) more.0 in
    let at = used b.procedures k.procedure one.1 in
    let small = (place_is b.procedures k.procedure.text at.0 at.1).small in
    subst (λ (o : Option ℕ). or_zero o < length b.procedures) (sym at.1) small

mutual
  st_there : (b : Inside) (ahead : List ℕ) (in_loop : Bool) (around before : List ℕ) (n loop : ℕ) (blocks : List (ℕ × ℕ)) (a : t.St) → st_faults b ahead in_loop around before a ≡ [] → Each (IsBelow (length b.procedures)) (called_in (st_of (named_st b n loop blocks before a)))
  st_there b ahead in_loop around before n loop blocks (t.Label y) f = tt
  st_there b ahead in_loop around before n loop blocks (t.Assert k) f = tt
  st_there b ahead in_loop around before n loop blocks (t.Assume k) f = tt
  st_there b ahead in_loop around before n loop blocks (t.Havoc p xs) f = tt
  st_there b ahead in_loop around before n loop blocks (t.Assign p ts es) f = tt
  st_there b ahead in_loop around before n loop blocks (t.Invoke k) f = (call_there b k f, tt)
  st_there b ahead in_loop around before n loop blocks (t.If p arms) f =
      arms_there b ahead in_loop (before ++ around) n (n + arm_count arms) loop (entered before n blocks) arms s.Skip tt f
  st_there b ahead in_loop around before n loop blocks (t.IfElse p arms ss) f =
      let parts = empty_parts (arms_faults b ahead in_loop (before ++ around) arms) (sts_faults b ahead in_loop (before ++ around) [] ss) f in
      let k = n + arm_count arms + arms_count arms in
      arms_there b ahead in_loop (before ++ around) n (n + arm_count arms) loop (entered before n blocks) arms (sts_of (named_sts b k loop (entered before n blocks) [] ss)) (sts_there b ahead in_loop (before ++ around) [] k loop (entered before n blocks) ss parts.1) parts.0
  st_there b ahead in_loop around before n loop blocks (t.While p g is ss) f =
      let parts = empty_parts (guard_faults b g ++ flat_map (clause_faults b.scope) is) (sts_faults b ahead true (before ++ around) [] ss) f in
      sts_there b ahead true (before ++ around) [] (n + 1 + length is) n (entered before n blocks) ss parts.1
  st_there b ahead in_loop around before n loop blocks (t.Break p y) f = tt
  st_there b ahead in_loop around before n loop blocks (t.Goto p xs) f = tt
  st_there b ahead in_loop around before n loop blocks (t.Return p) f = tt

  sts_there : (b : Inside) (ahead : List ℕ) (in_loop : Bool) (around before : List ℕ) (n loop : ℕ) (blocks : List (ℕ × ℕ)) (ss : t.Sts) → sts_faults b ahead in_loop around before ss ≡ [] → Each (IsBelow (length b.procedures)) (called_in (sts_of (named_sts b n loop blocks before ss)))
  sts_there b ahead in_loop around before n loop blocks t.NoSt f = tt
  sts_there b ahead in_loop around before n loop blocks (t.Then a ss) f =
      let parts = empty_parts (st_faults b (labels_in b ss ++ ahead) in_loop around before a) (sts_faults b ahead in_loop around (before_next b before a) ss) f in
      each_append
      (IsBelow (length b.procedures))
      (called_in (st_of (named_st b n loop blocks before a)))
      (called_in (sts_of (named_sts b (n + st_count a) loop blocks (before_next b before a) ss)))
      (st_there b (labels_in b ss ++ ahead) in_loop around before n loop blocks a parts.0)
      (sts_there b ahead in_loop around (before_next b before a) (n + st_count a) loop blocks ss parts.1)

  arms_there : (b : Inside) (ahead : List ℕ) (in_loop : Bool) (around : List ℕ) (m n loop : ℕ) (blocks : List (ℕ × ℕ)) (arms : t.Arms) (other : s.St) → Each (IsBelow (length b.procedures)) (called_in other) → arms_faults b ahead in_loop around arms ≡ [] → Each (IsBelow (length b.procedures)) (called_in (arms_of m (named_arms b n loop blocks arms) other))
  arms_there b ahead in_loop around m n loop blocks t.NoArm other o f = o
  arms_there b ahead in_loop around m n loop blocks (t.Arm g ss arms) other o f =
      let parts = empty_parts (guard_faults b g ++ sts_faults b ahead in_loop around [] ss) (arms_faults b ahead in_loop around arms) f in
      let inner = empty_parts (guard_faults b g) (sts_faults b ahead in_loop around [] ss) parts.0 in
      each_append
      (IsBelow (length b.procedures))
      (called_in (sts_of (named_sts b n loop blocks [] ss)))
      (called_in (arms_of (suc m) (named_arms b (n + sts_count ss) loop blocks arms) other))
      (sts_there b ahead in_loop around [] n loop blocks ss inner.1)
      (arms_there b ahead in_loop around (suc m) (n + sts_count ss) loop blocks arms other o parts.1)

pub body_there : (b : Inside) (n : ℕ) (ss : t.Sts) → sts_faults b [] false [] [] ss ≡ [] → Each (IsBelow (length b.procedures)) (called_in (sts_of (named_sts b n 0 [] [] ss)))
body_there b n ss f = sts_there b [] false [] [] n 0 [] ss f

pub body_guarded : (c : ℕ) (b : Inside) → NamesCandidates c b.scope → (n : ℕ) (ss : t.Sts) → Each (IsGuarded c) (clauses_in (sts_of (named_sts b n 0 [] [] ss)))
body_guarded c b h n ss = sts_guarded c b h n 0 [] [] ss
