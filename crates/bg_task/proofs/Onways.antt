-- The first operation that leaves the range, of those that count for a target, lies on a way to it.
use Rattle.std.proofs.Common.{◌≡◌, ℕ, zero, suc, Bool, true, false, ◌||◌, if◌then◌else◌, List, [], ◌∷◌, ◌++◌, map, Option, Some, None, Result, Ok, Err, slice_get, refl, sym, ap, ◌∙◌, subst, append_assoc, inl, inr, ⊎_elim}
use Rattle.std.specs.Prelude.{◌⊎◌}
use Rattle.std.specs.List.{list_any}
use Rattle.bg_base.specs.declared.exact.OutOfRange.{OutOfRange}
use Rattle.bg_ast.specs.Execution.{Spot}
use Rattle.bg_ast.specs.Syntax.{Ex, Not, Binary}
use Rattle.bg_sense.proofs.Bools.{and_left, and_right}
use Rattle.bg_passive.specs.Passive.{PassiveCmd, Claims, Supposes, Edge, PassiveBlock, spot_eq}
use Rattle.bg_formula.specs.Atoms.{AtomOf}
use Rattle.bg_formed.specs.Formed.{FormCmd, FormEdge}
use Rattle.bg_formed.specs.Used.{Use, refusal_of, first_of, use_cmds, use_later, use_edges, uses, refused}
use Rattle.bg_linear.specs.declared.scalar.Sort.{Sort}
use Rattle.bg_linear.specs.Relations.{relation, relates}
use Rattle.bg_linear.specs.Sorts.{kind_ex, is_number}
use Rattle.bg_atoms.specs.Over.{relates_numbers, refusal, first_refused, says_unless, over, says_over}
use Rattle.bg_atoms.specs.Parts.{HasRelation, here, on_left, on_right, denied}
use Rattle.bg_atoms.specs.Sources.{expression_of}
use Rattle.bg_atoms.specs.Encoded.{cmd_over, edge_over, blocks_over}
use Rattle.bg_task.specs.Ways.{way_at, onward, ways, is_check, LiesOnWay}

-- ---- an expression that has no form has a relation for which there is none

of_relation : (r : Result (List AtomOf) OutOfRange) (o : OutOfRange) → refusal r ≡ Some o → r ≡ Err o
of_relation (Ok rs) o h = absurd (let bad : ⊥ = cc in bad)
of_relation (Err x) o h = let same : x ≡ o = cc in ap Err same

has_relation : (sorts : List Sort) (o : OutOfRange) (e : Ex) → first_refused sorts e ≡ Some o → HasRelation sorts (λ op a b. relation op a b ≡ Err o) e
has_relation sorts o (Not e) h = denied e (has_relation sorts o e h)
has_relation sorts o (Binary op a b) h =
    by (relates_numbers sorts op a b) refl (has_relation sorts o a) (has_relation sorts o b) h
  where
    of_parts : (x y : Option OutOfRange) → (x ≡ Some o → HasRelation sorts (λ op a b. relation op a b ≡ Err o) a) → (y ≡ Some o → HasRelation sorts (λ op a b. relation op a b ≡ Err o) b) → first_of x y ≡ Some o → HasRelation sorts (λ op a b. relation op a b ≡ Err o) (Binary op a b)
    of_parts (Some x) y f g k = on_left op a b (f k)
    of_parts None y f g k = on_right op a b (g k)

    by : (z : Bool) → relates_numbers sorts op a b ≡ z → (first_refused sorts a ≡ Some o → HasRelation sorts (λ op a b. relation op a b ≡ Err o) a) → (first_refused sorts b ≡ Some o → HasRelation sorts (λ op a b. relation op a b ≡ Err o) b) → (if z then refusal (relation op a b) else first_of (first_refused sorts a) (first_refused sorts b)) ≡ Some o → HasRelation sorts (λ op a b. relation op a b ≡ Err o) (Binary op a b)
    by true e f g k =
        let both = and_right (relates op) _ e in
        here op a b (and_left (relates op) _ e) (and_left (is_number (kind_ex sorts a)) (is_number (kind_ex sorts b)) both) (and_right (is_number (kind_ex sorts a)) (is_number (kind_ex sorts b)) both) (of_relation (relation op a b) o k)
    by false e f g k = of_parts (first_refused sorts a) (first_refused sorts b) f g k
has_relation sorts o _ h = absurd (let bad : ⊥ = cc in bad)

-- ---- tests along lists

or_true : (b : Bool) → (b || true) ≡ true
or_true true = refl
or_true false = refl

or_so : (a b : Bool) → (a || b) ≡ true → (a ≡ true) ⊎ (b ≡ true)
or_so true b h = inl refl
or_so false b h = inr h

any_left : {A : Type 0} (p : A → Bool) (xs ys : List A) → list_any p xs ≡ true → list_any p (xs ++ ys) ≡ true
any_left p [] ys h = absurd (let bad : ⊥ = cc in bad)
any_left p (x ∷ xs) ys h = by (p x) (any_left p xs ys) h
  where
    by : (b : Bool) → (list_any p xs ≡ true → list_any p (xs ++ ys) ≡ true) → (b || list_any p xs) ≡ true → (b || list_any p (xs ++ ys)) ≡ true
    by true more k = refl
    by false more k = more k

any_right : {A : Type 0} (p : A → Bool) (xs ys : List A) → list_any p ys ≡ true → list_any p (xs ++ ys) ≡ true
any_right p [] ys h = h
any_right p (x ∷ xs) ys h = ap (λ b. p x || b) (any_right p xs ys h) ∙ or_true (p x)

module _ (sorts : List Sort) (n : ℕ) (rows : List AtomOf) (t : Spot) (o : OutOfRange) where
  abbrev F : List PassiveCmd → List FormCmd
  F ks = map (cmd_over sorts n rows) ks

  abbrev G : List Edge → List FormEdge
  G es = map (edge_over sorts n rows) es

  abbrev Leaves : PassiveCmd → Type 0
  Leaves k = HasRelation sorts (λ op a b. relation op a b ≡ Err o) (expression_of k)

  abbrev checked : List PassiveCmd → Bool
  checked ks = list_any (is_check t) ks

  leaves : (e : Ex) → refusal_of (says_over sorts n rows e) ≡ Some o → HasRelation sorts (λ op a b. relation op a b ≡ Err o) e
  leaves e h = by (first_refused sorts e) refl h
    where
      by : (x : Option OutOfRange) → first_refused sorts e ≡ x → refusal_of (says_unless x (over sorts n rows e)) ≡ Some o → HasRelation sorts (λ op a b. relation op a b ≡ Err o) e
      by None k r = absurd (let bad : ⊥ = cc in bad)
      by (Some x) k r = has_relation sorts o e (k ∙ r)

  -- ---- commands

  abbrev counted : Ex → Use → Use
  counted e v = record { reached = true; refusal = first_of (refusal_of (says_over sorts n rows e)) v.refusal }

  past : (e : Ex) (v : Use) (z : Bool) → v.reached ≡ z → (if z then counted e v else v).reached ≡ true → v.reached ≡ true
  past e v true a k = a
  past e v false a k = k

  reached_cmds : (ks : List PassiveCmd) (u : Use) → (use_cmds t (F ks) u).reached ≡ true → (checked ks ≡ true) ⊎ (u.reached ≡ true)
  reached_cmds [] u h = inr h
  reached_cmds (Claims s b e ∷ ks) u h = by (spot_eq s t) (reached_cmds ks u) h
    where
      by : (z : Bool) → ((use_cmds t (F ks) u).reached ≡ true → (checked ks ≡ true) ⊎ (u.reached ≡ true)) → (if z then counted e (use_cmds t (F ks) u) else (if (use_cmds t (F ks) u).reached then counted e (use_cmds t (F ks) u) else use_cmds t (F ks) u)).reached ≡ true → ((z || checked ks) ≡ true) ⊎ (u.reached ≡ true)
      by true more k = inl refl
      by false more k = more (past e (use_cmds t (F ks) u) (use_cmds t (F ks) u).reached refl k)
  reached_cmds (Supposes b e ∷ ks) u h =
      reached_cmds ks u (past e (use_cmds t (F ks) u) (use_cmds t (F ks) u).reached refl h)

  -- the operation stands in one of these commands, from which the check is reached, or will be behind all of them
  record Stands (ks : List PassiveCmd) (reached : Bool) : Type 0 where
    front : List PassiveCmd
    command : PassiveCmd
    behind : List PassiveCmd
    is : ks ≡ front ++ (command ∷ behind)
    leaves : Leaves command
    reaches : (checked (command ∷ behind) ≡ true) ⊎ (reached ≡ true)

  further : (k : PassiveCmd) (ks : List PassiveCmd) (z : Bool) → Stands ks z → Stands (k ∷ ks) z
  further k ks z h =
      record { front = k ∷ h.front; command = h.command; behind = h.behind; is = ap (λ xs. k ∷ xs) h.is; leaves = h.leaves; reaches = h.reaches }

  first : (k : PassiveCmd) (ks : List PassiveCmd) (z : Bool) → Leaves k → (checked (k ∷ ks) ≡ true) ⊎ (z ≡ true) → Stands (k ∷ ks) z
  first k ks z l r = record { front = []; command = k; behind = ks; is = refl; leaves = l; reaches = r }

  behind_of : (k : PassiveCmd) (ks : List PassiveCmd) (z : Bool) (w : Type 0) → Stands ks z ⊎ w → Stands (k ∷ ks) z ⊎ w
  behind_of k ks z w (inl x) = inl (further k ks z x)
  behind_of k ks z w (inr x) = inr x

  either_of : (x y : Option OutOfRange) → first_of x y ≡ Some o → (x ≡ Some o) ⊎ (y ≡ Some o)
  either_of None y h = inr h
  either_of (Some x) y h = inl h

  -- one command in front: it is there, or what is behind it
  in_front_of : (k : PassiveCmd) (e : Ex) (ks : List PassiveCmd) (v : Use) (z : Bool) (w : Type 0) → expression_of k ≡ e → ((checked (k ∷ ks) ≡ true) ⊎ (z ≡ true)) → (v.refusal ≡ Some o → Stands ks z ⊎ w) → (counted e v).refusal ≡ Some o → Stands (k ∷ ks) z ⊎ w
  in_front_of k e ks v z w is r more h =
      ⊎_elim
      (λ x. inl (first k ks z (subst (HasRelation sorts (λ op a b. relation op a b ≡ Err o)) (sym is) (leaves e x)) r))
      (λ x. behind_of k ks z w (more x))
      (either_of (refusal_of (says_over sorts n rows e)) v.refusal h)

  refused_cmds : (ks : List PassiveCmd) (u : Use) → (use_cmds t (F ks) u).refusal ≡ Some o → Stands ks u.reached ⊎ (u.refusal ≡ Some o)
  refused_cmds [] u h = inr h
  refused_cmds (Claims s b e ∷ ks) u h =
      by (spot_eq s t) (use_cmds t (F ks) u).reached refl refl (refused_cmds ks u) h
    where
      by : (y z : Bool) → spot_eq s t ≡ y → (use_cmds t (F ks) u).reached ≡ z → ((use_cmds t (F ks) u).refusal ≡ Some o → Stands ks u.reached ⊎ (u.refusal ≡ Some o)) → (if y then counted e (use_cmds t (F ks) u) else (if z then counted e (use_cmds t (F ks) u) else use_cmds t (F ks) u)).refusal ≡ Some o → Stands (Claims s b e ∷ ks) u.reached ⊎ (u.refusal ≡ Some o)
      by true z a r more k =
          in_front_of (Claims s b e) e ks (use_cmds t (F ks) u) u.reached (u.refusal ≡ Some o) refl (inl (ap (λ x. x || checked ks) a)) more k
      by false true a r more k =
          in_front_of (Claims s b e) e ks (use_cmds t (F ks) u) u.reached (u.refusal ≡ Some o) refl (⊎_elim (λ x. inl (any_right (is_check t) (Claims s b e ∷ []) ks x)) (λ x. inr x) (reached_cmds ks u r)) more k
      by false false a r more k = behind_of (Claims s b e) ks u.reached (u.refusal ≡ Some o) (more k)
  refused_cmds (Supposes b e ∷ ks) u h = by (use_cmds t (F ks) u).reached refl (refused_cmds ks u) h
    where
      by : (z : Bool) → (use_cmds t (F ks) u).reached ≡ z → ((use_cmds t (F ks) u).refusal ≡ Some o → Stands ks u.reached ⊎ (u.refusal ≡ Some o)) → (if z then counted e (use_cmds t (F ks) u) else use_cmds t (F ks) u).refusal ≡ Some o → Stands (Supposes b e ∷ ks) u.reached ⊎ (u.refusal ≡ Some o)
      by true r more k =
          in_front_of (Supposes b e) e ks (use_cmds t (F ks) u) u.reached (u.refusal ≡ Some o) refl (reached_cmds ks u r) more k
      by false r more k = behind_of (Supposes b e) ks u.reached (u.refusal ≡ Some o) (more k)

  -- ---- blocks

  abbrev from : List PassiveBlock → ℕ → List ℕ → List PassiveCmd
  from bs k js = way_at (slice_get (ways bs) k) js

  abbrev used : List PassiveBlock → ℕ → Use
  used bs k = use_later (uses t (blocks_over sorts n rows bs)) k

  abbrev Reaches : (List ℕ → List PassiveCmd) → Type 0
  Reaches w = (js : List ℕ) × (checked (w js) ≡ true)

  -- on one of these ways the operation stands before the check
  record Lies (w : List ℕ → List PassiveCmd) : Type 0 where
    edges : List ℕ
    stands : Stands (w edges) false

  -- what stands in front of a way
  lies_behind : (ks rest : List PassiveCmd) → Stands rest false → Stands (ks ++ rest) false
  lies_behind [] rest h = h
  lies_behind (k ∷ ks) rest h = further k (ks ++ rest) false (lies_behind ks rest h)

  lies_before : (ks rest : List PassiveCmd) (z : Bool) → Stands ks z → (z ≡ true → checked rest ≡ true) → Stands (ks ++ rest) false
  lies_before ks rest z h r =
      record {
        front = h.front;
        command = h.command;
        behind = h.behind ++ rest;
        is = ap (λ xs. xs ++ rest) h.is ∙ append_assoc h.front (h.command ∷ h.behind) rest;
        leaves = h.leaves;
        reaches = inl (⊎_elim (any_left (is_check t) (h.command ∷ h.behind) rest) (λ x. any_right (is_check t) (h.command ∷ h.behind) rest (r x)) h.reaches);
      }

  module _ (bs : List PassiveBlock) (reaches : (k : ℕ) → (used bs k).reached ≡ true → Reaches (from bs k)) where
    abbrev L : List Use
    L = uses t (blocks_over sorts n rows bs)

    -- the way along one of these edges
    abbrev next : List Edge → List ℕ → List PassiveCmd
    next es js = onward (ways bs) es js

    one_on : (e : Edge) (es : List Edge) → Reaches (next es) → Reaches (next (e ∷ es))
    one_on e es r = by r.0 r.1
      where
        by : (js : List ℕ) → checked (next es js) ≡ true → Reaches (next (e ∷ es))
        by [] k = absurd (let bad : ⊥ = cc in bad)
        by (j ∷ js) k = (suc j ∷ js, k)

    reached_edges : (es : List Edge) → (use_edges t L (G es)).reached ≡ true → Reaches (next es)
    reached_edges [] h = absurd (let bad : ⊥ = cc in bad)
    reached_edges (e ∷ es) h =
        ⊎_elim
        (λ x. ⊎_elim
        (λ y. (0 ∷ [], any_left (is_check t) e.cmds (from bs e.to []) y))
        (λ y. let z = reaches e.to y in (0 ∷ z.0, any_right (is_check t) e.cmds (from bs e.to z.0) z.1))
        (reached_cmds e.cmds (used bs e.to) x))
        (λ x. one_on e es (reached_edges es x))
        (or_so (use_cmds t (F e.cmds) (used bs e.to)).reached (use_edges t L (G es)).reached h)

    reached_block : (b : PassiveBlock) → (use_cmds t (F b.cmds) (use_edges t L (G b.next))).reached ≡ true → Reaches (λ js. b.cmds ++ next b.next js)
    reached_block b h =
        ⊎_elim
        (λ x. ([], any_left (is_check t) b.cmds (next b.next []) x))
        (λ x. let z = reached_edges b.next x in (z.0, any_right (is_check t) b.cmds (next b.next z.0) z.1))
        (reached_cmds b.cmds (use_edges t L (G b.next)) h)

    module _ (lies : (k : ℕ) → (used bs k).refusal ≡ Some o → Lies (from bs k)) where
      lies_on : (e : Edge) (es : List Edge) → Lies (next es) → Lies (next (e ∷ es))
      lies_on e es h = by h.edges h.stands
        where
          none : (k : PassiveCmd) (xs ys : List PassiveCmd) → [] ≡ xs ++ (k ∷ ys) → ⊥
          none k [] ys z = let bad : ⊥ = cc in bad
          none k (x ∷ xs) ys z = let bad : ⊥ = cc in bad

          by : (js : List ℕ) → Stands (next es js) false → Lies (next (e ∷ es))
          by [] s = absurd (none s.command s.front s.behind s.is)
          by (j ∷ js) s = record { edges = suc j ∷ js; stands = s }

      refused_edges : (es : List Edge) → (use_edges t L (G es)).refusal ≡ Some o → Lies (next es)
      refused_edges [] h = absurd (let bad : ⊥ = cc in bad)
      refused_edges (e ∷ es) h =
          ⊎_elim
          (λ x. ⊎_elim (at_edge (used bs e.to).reached refl) behind (refused_cmds e.cmds (used bs e.to) x))
          (λ x. lies_on e es (refused_edges es x))
          (either_of (use_cmds t (F e.cmds) (used bs e.to)).refusal (use_edges t L (G es)).refusal h)
        where
          at_edge : (z : Bool) → (used bs e.to).reached ≡ z → Stands e.cmds z → Lies (next (e ∷ es))
          at_edge true a s =
              let r = reaches e.to a in
              record { edges = 0 ∷ r.0; stands = lies_before e.cmds (from bs e.to r.0) true s (λ x. r.1) }
          at_edge false a s =
              record { edges = 0 ∷ []; stands = lies_before e.cmds (from bs e.to []) false s (λ x. absurd (let bad : ⊥ = cc in bad)) }

          behind : (used bs e.to).refusal ≡ Some o → Lies (next (e ∷ es))
          behind x =
              let r = lies e.to x in
              record { edges = 0 ∷ r.edges; stands = lies_behind e.cmds (from bs e.to r.edges) r.stands }

      refused_block : (b : PassiveBlock) → (use_cmds t (F b.cmds) (use_edges t L (G b.next))).refusal ≡ Some o → Lies (λ js. b.cmds ++ next b.next js)
      refused_block b h =
          ⊎_elim (at_block (use_edges t L (G b.next)).reached refl) behind (refused_cmds b.cmds (use_edges t L (G b.next)) h)
        where
          at_block : (z : Bool) → (use_edges t L (G b.next)).reached ≡ z → Stands b.cmds z → Lies (λ js. b.cmds ++ next b.next js)
          at_block true a s =
              let r = reached_edges b.next a in
              record { edges = r.0; stands = lies_before b.cmds (next b.next r.0) true s (λ x. r.1) }
          at_block false a s =
              record { edges = []; stands = lies_before b.cmds (next b.next []) false s (λ x. absurd (let bad : ⊥ = cc in bad)) }

          behind : (use_edges t L (G b.next)).refusal ≡ Some o → Lies (λ js. b.cmds ++ next b.next js)
          behind x =
              let r = refused_edges b.next x in
              record { edges = r.edges; stands = lies_behind b.cmds (next b.next r.edges) r.stands }

  reached_from : (bs : List PassiveBlock) (k : ℕ) → (used bs k).reached ≡ true → Reaches (from bs k)
  reached_from [] k h = absurd (let bad : ⊥ = cc in bad)
  reached_from (b ∷ bs) (suc k) h = reached_from bs k h
  reached_from (b ∷ bs) zero h = reached_block bs (reached_from bs) b h

  refused_from : (bs : List PassiveBlock) (k : ℕ) → (used bs k).refusal ≡ Some o → Lies (from bs k)
  refused_from [] k h = absurd (let bad : ⊥ = cc in bad)
  refused_from (b ∷ bs) (suc k) h = refused_from bs k h
  refused_from (b ∷ bs) zero h = refused_block bs (reached_from bs) (refused_from bs) b h

  pub lies_on_way : (bs : List PassiveBlock) → refused t (blocks_over sorts n rows bs) ≡ Some o → LiesOnWay sorts bs t o
  lies_on_way bs h =
      let x = refused_from bs 0 h in
      record {
        edges = x.edges;
        front = x.stands.front;
        command = x.stands.command;
        behind = x.stands.behind;
        is_way = x.stands.is;
        leaves = x.stands.leaves;
        reaches = ⊎_elim (λ y. y) (λ y. absurd (let bad : ⊥ = cc in bad)) x.stands.reaches;
      }
