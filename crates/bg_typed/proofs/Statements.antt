-- Statements without faults are typed.
use Rattle.std.proofs.Common.{◌≡◌, ℕ, zero, suc, Bool, true, false, ◌&&◌, if◌then◌else◌, nat_eq, List, [], ◌∷◌, ◌++◌, length, map, Option, Some, slice_get, refl, ap, ◌∙◌, subst, arith}
use Rattle.std.proofs.lemmas.Bool.{eqb-true}
use Rattle.std.proofs.lemmas.Option.{slice_get-map}
use Rattle.std.specs.Option.{option_map}
use Rattle.std.specs.Prelude.{All}
use Rattle.bg_base.specs.declared.pos.Pos.{Pos}
use Rattle.bg_ast.specs.Syntax as x
use Rattle.bg_ast.specs.Resolved as r
use Rattle.bg_ast.specs.Meaning as m
use Rattle.bg_sense.specs.Types.{types_of}
use Rattle.bg_sense.specs.Typing.{Sig}
use Rattle.bg_sense.specs.Typed.{Around, IsFormula, IsGuard, IsTypedCall, IsTypedStatement, sig_around, labels_of}
use Rattle.bg_kinds.specs.Faults.{Fault, Arity, is_none}
use Rattle.bg_typing.specs.Sides.{Scope, Shape, are_typed, matched_faults}
use Rattle.bg_typing.specs.Exprs.{judge_all, sides_of, faults_of}
use Rattle.bg_typing.specs.Stmts.{truth_faults, clauses_faults, guard_faults, placed_sides, targets, kinds_of, sides_faults, assign_faults, takes_faults, results_faults, own_call_faults, call_faults, st_faults, sts_faults, arms_faults}
use Rattle.bg_typed.specs.Bodies.{AreNamedClauses, IsNamedGuard, IsNamedCall, AreNamedSides, IsNamedStatement, AreNamedStatements, AreNamedArms, procedure_kinds, MatchesAround}
use Rattle.bg_typed.proofs.Bits.{never, split_none, matched_none}
use Rattle.bg_typed.proofs.Good.{matched_types, are_linear}
use Rattle.bg_typed.proofs.Judged.{good_exs}
use Rattle.bg_typed.proofs.Matched.{agrees}
use Rattle.bg_typed.proofs.Typings.{and_both, found, have_exs, is_formula}
use Rattle.bg_typed.proofs.Assigned.{Written, targets_have, written_all, takes_have, takes_typed}

guard_typed : (g : Scope) (w : Around) → MatchesAround g w → (a : r.Guard) → IsNamedGuard (sig_around w) a → is_none (guard_faults g a) ≡ true → IsGuard (sig_around w) (m.guard_of a)
guard_typed g w h r.Star i n = tt
guard_typed g w h (r.Test e) i n = is_formula g (sig_around w) e h.names i n

assign_typed : (g : Scope) (w : Around) → MatchesAround g w → (p : Pos) (ts : List r.Target) (es : r.Exs) → AreNamedSides w ts es → is_none (assign_faults g p (targets g ts) (judge_all g es)) ≡ true → Written w ts es
assign_typed g w h p ts es i n =
    let s = sig_around w in
    let left = sides_of (targets g ts) in
    let right = sides_of (judge_all g es) in
    let parts = split_none (faults_of (targets g ts)) (faults_of (judge_all g es) ++ sides_faults p left right) n in
    let inner = split_none (faults_of (judge_all g es)) (sides_faults p left right) parts.1 in
    let places = targets_have g w h.names ts i.targets parts.0 in
    let values = have_exs g s h.names es i.values inner.0 in
    let own = found (are_typed left && are_typed right) (matched_faults p (kinds_of left) right) (and_both (are_typed left) (are_typed right) places values) inner.1 in
    let both = matched_none p (kinds_of left) right own in
    written_all g w h.names ts es i.targets parts.0 (good_exs g s (agrees g s h.names) es inner.0) values both.0 both.1

by_number : (b : Bool) (fs : List Fault) (f : Fault) → is_none (if b then fs else f ∷ []) ≡ true → (b ≡ true) × (is_none fs ≡ true)
by_number true fs f h = (refl, h)
by_number false fs f h = never h

call_typed : (g : Scope) (w : Around) → MatchesAround g w → (k : r.Call) → IsNamedCall w k → is_none (call_faults g k) ≡ true → IsTypedCall w (m.call_of k)
call_typed g w h k i n =
    let s = sig_around w in
    let q = i.procedure in
    let args = sides_of (judge_all g k.args) in
    let takes = placed_sides g k.takes in
    let shape : slice_get g.procedures k.procedure ≡ Some (procedure_kinds q) = ap (λ (l : List Shape). slice_get l k.procedure) h.procedures ∙ (slice_get-map procedure_kinds w.program.procedures k.procedure ∙ ap (option_map procedure_kinds) i.is_there) in
    let parts = split_none (faults_of (judge_all g k.args)) (own_call_faults k.name_pos (slice_get g.procedures k.procedure) args takes) n in
    let none = subst (λ (o : Option Shape). is_none (own_call_faults k.name_pos o args takes) ≡ true) shape parts.1 in
    let typed = have_exs g s h.names k.args i.args parts.0 in
    let own = found (are_typed args && are_typed takes) (matched_faults k.name_pos (map Some (types_of q.params)) args ++ results_faults k.name_pos takes (map Some (types_of q.results))) (and_both (are_typed args) (are_typed takes) typed (takes_have g w h.names k.takes i.takes)) none in
    let each = split_none (matched_faults k.name_pos (map Some (types_of q.params)) args) (results_faults k.name_pos takes (map Some (types_of q.results))) own in
    let good = good_exs g s (agrees g s h.names) k.args parts.0 in
    let results = by_number (nat_eq (length takes) (length (map Some (types_of q.results)))) (takes_faults takes (map Some (types_of q.results))) (Arity k.name_pos) each.1 in
    let same = takes_typed g w h.names k.takes (types_of q.results) i.takes (eqb-true (length takes) (length (map Some (types_of q.results))) results.0) results.1 in
    (q, (i.is_there, (matched_types s k.name_pos args (m.exs_of k.args) (types_of q.params) good typed each.0, (are_linear s args (m.exs_of k.args) good typed, (same, (i.apart, (i.changed, i.modified_)))))))

abbrev AllFormulas : Sig → List x.Clause → Type 0
AllFormulas s [] = Unit {0}
AllFormulas s (k ∷ ks) = IsFormula s k.says × AllFormulas s ks

all_formulas : (s : Sig) (ks : List x.Clause) → AllFormulas s ks → All (λ k. IsFormula s k.says) ks
all_formulas s [] h i d l = absurd (omega (arith, l))
all_formulas s (k ∷ ks) h zero d l = h.0
all_formulas s (k ∷ ks) h (suc i) d l = all_formulas s ks h.1 i d (omega (arith, l))

each_formula : (g : Scope) (w : Around) → MatchesAround g w → (ks : List r.Clause) → AreNamedClauses (sig_around w) ks → is_none (clauses_faults g ks) ≡ true → AllFormulas (sig_around w) (map m.clause_of ks)
each_formula g w h [] i n = tt
each_formula g w h (k ∷ ks) i n =
    let parts = split_none (truth_faults g k.says) (clauses_faults g ks) n in
    (is_formula g (sig_around w) k.says h.names i.0 parts.0, each_formula g w h ks i.1 parts.1)

invariants_typed : (g : Scope) (w : Around) → MatchesAround g w → (ks : List r.Clause) → AreNamedClauses (sig_around w) ks → is_none (clauses_faults g ks) ≡ true → All (λ k. IsFormula (sig_around w) k.says) (map m.clause_of ks)
invariants_typed g w h ks i n = all_formulas (sig_around w) (map m.clause_of ks) (each_formula g w h ks i n)

mutual
  st_typed : (g : Scope) (w : Around) → MatchesAround g w → (inside before : List ℕ) (a : r.St) → IsNamedStatement w inside before a → is_none (st_faults g a) ≡ true → IsTypedStatement w inside before (m.st_of a)
  st_typed g w h inside before (r.Label l) i n = tt
  st_typed g w h inside before (r.Assert k) i n = (i.0, is_formula g (sig_around w) k.says h.names i.1 n)
  st_typed g w h inside before (r.Assume e) i n = is_formula g (sig_around w) e h.names i n
  st_typed g w h inside before (r.Havoc xs) i n = i
  st_typed g w h inside before (r.Assign p ts es) i n =
      let written = assign_typed g w h p ts es i n in
      (i.apart, i.changed, written.0, written.1)
  st_typed g w h inside before (r.Invoke k) i n = call_typed g w h k i n
  st_typed g w h inside before (r.If k arms otherwise) i n =
      let parts = split_none (arms_faults g arms) (sts_faults g otherwise) n in
      arms_typed g w h inside before k arms otherwise (λ around j. sts_typed g w h around before otherwise j parts.1) i parts.0
  st_typed g w h inside before (r.While k p guard is body) i n =
      let parts = split_none (guard_faults g guard) (clauses_faults g is ++ sts_faults g body) n in
      let inner = split_none (clauses_faults g is) (sts_faults g body) parts.1 in
      (guard_typed g w h guard i.0 parts.0, invariants_typed g w h is i.1 inner.0, sts_typed g w h (k ∷ inside) before body i.2 inner.1)
  st_typed g w h inside before (r.Break k) i n = i
  st_typed g w h inside before (r.Goto ls) i n = i
  st_typed g w h inside before r.Return i n = tt

  pub sts_typed : (g : Scope) (w : Around) → MatchesAround g w → (inside before : List ℕ) (a : r.Sts) → AreNamedStatements w inside before a → is_none (sts_faults g a) ≡ true → IsTypedStatement w inside before (m.sts_of a)
  sts_typed g w h inside before r.NoSt i n = tt
  sts_typed g w h inside before (r.Then a b) i n =
      let parts = split_none (st_faults g a) (sts_faults g b) n in
      (st_typed g w h inside (labels_of (m.sts_of b) ++ before) a i.0 parts.0, sts_typed g w h inside before b i.1 parts.1)

  arms_typed : (g : Scope) (w : Around) → MatchesAround g w → (inside before : List ℕ) (k : ℕ) (arms : r.Arms) (other : r.Sts) → ((around : List ℕ) → AreNamedStatements w around before other → IsTypedStatement w around before (m.sts_of other)) → AreNamedArms w inside before k arms (λ around. AreNamedStatements w around before other) → is_none (arms_faults g arms) ≡ true → IsTypedStatement w inside before (m.arms_of k arms (m.sts_of other))
  arms_typed g w h inside before k r.NoArm other f i n = f inside i
  arms_typed g w h inside before k (r.Arm guard body arms) other f i n =
      let parts = split_none (guard_faults g guard) (sts_faults g body ++ arms_faults g arms) n in
      let inner = split_none (sts_faults g body) (arms_faults g arms) parts.1 in
      (guard_typed g w h guard i.0 parts.0, sts_typed g w h (k ∷ inside) before body i.1 inner.0, arms_typed g w h (k ∷ inside) before (suc k) arms other f i.2 inner.1)

pub typed_body : (g : Scope) (w : Around) (a : r.Sts) → MatchesAround g w → AreNamedStatements w [] [] a → sts_faults g a ≡ [] → IsTypedStatement w [] [] (m.sts_of a)
typed_body g w a h i n = sts_typed g w h [] [] a i (ap is_none n)
