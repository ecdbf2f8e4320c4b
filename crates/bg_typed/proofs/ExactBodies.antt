-- Statements that are typed, each assignment of which has as many right sides as left ones, have no fault.
use Rattle.std.proofs.Common.{◌≡◌, ℕ, zero, suc, ◌⊎◌, inl, inr, Bool, true, false, ◌&&◌, if◌then◌else◌, List, [], ◌∷◌, ◌++◌, length, map, Option, Some, None, refl, sym, ap, ◌∙◌, arith}
use Rattle.std.specs.Prelude.{slice_get, All}
use Rattle.std.proofs.lemmas.Bool.{eq-eqb}
use Rattle.bg_base.specs.declared.pos.Pos.{Pos}
use Rattle.bg_ast.specs.Values as v
use Rattle.bg_ast.specs.Syntax as s
use Rattle.bg_ast.specs.Resolved as r
use Rattle.bg_ast.specs.Meaning.{ex_of, exs_of, clause_of, guard_of, variable_of, written, values_of, st_of, sts_of, arms_of}
use Rattle.bg_sense.specs.Variables.{type_in, decl_in}
use Rattle.bg_sense.specs.Types.{types_of}
use Rattle.bg_sense.specs.Typing.{key_ty, HasType, HaveTypes, types_in}
use Rattle.bg_sense.specs.Typed.{IsLinear, AreLinear, IsFormula, IsGuard, Around, sig_around, labels_of, IsTypedStatement}
use Rattle.bg_kinds.specs.Faults.{Fault, Arity}
use Rattle.bg_kinds.specs.Kinds.{Kind}
use Rattle.bg_typing.specs.Sides as d
use Rattle.bg_typing.specs.Sides.{Scope, Shape, Side, Judged, variable_kind, are_typed, matched_faults, pair_faults, select_side, select_faults, wanting}
use Rattle.bg_typing.specs.Exprs.{sides_of, faults_of, judge, judge_all}
use Rattle.bg_typing.specs.Stmts.{truth_faults, clauses_faults, guard_faults, placed_side, placed_sides, indexed, target, targets, kinds_of, sides_faults, assign_faults, take_faults, takes_faults, results_faults, own_call_faults, st_faults, sts_faults, arms_faults}
use Rattle.bg_typed.specs.Covering.{GivesAround}
use Rattle.bg_typed.specs.Rules.{count, IsEven, AreEven, AreEvenArms}
use Rattle.bg_typed.proofs.Exact.{both_none, no_want, kind_in, all_match, select_fine, typed_fine, typed_all}

pub all_head : {A : Type 0} (P : A → Type 0) (x : A) (xs : List A) → All P (x ∷ xs) → P x
all_head P x xs h = h zero x (omega arith)

pub all_tail : {A : Type 0} (P : A → Type 0) (x : A) (xs : List A) → All P (x ∷ xs) → All P xs
all_tail P x xs h = λ k e l. h (suc k) e (omega (arith, l))

if_fine : (b : Bool) (fs : List Fault) → (b ≡ true → fs ≡ []) → (if b then fs else []) ≡ []
if_fine true fs e = e refl
if_fine false fs e = refl

module _ (g : Scope) (w : Around) (gives : GivesAround g w) where
  truth_fine : (e : r.Ex) → IsFormula (sig_around w) (ex_of e) → truth_faults g e ≡ []
  truth_fine e h =
      let t = typed_fine g (sig_around w) e v.BoolTy gives.names h.0 h.1 in
      both_none (judge g e).faults (pair_faults (Some v.BoolTy) (judge g e).side) t.0 (no_want v.BoolTy (judge g e).side t.1)

  guard_fine : (x : r.Guard) → IsGuard (sig_around w) (guard_of x) → guard_faults g x ≡ []
  guard_fine r.Star h = refl
  guard_fine (r.Test e) h = truth_fine e h

  clauses_fine : (ks : List r.Clause) → All (λ k. IsFormula (sig_around w) k.says) (map clause_of ks) → clauses_faults g ks ≡ []
  clauses_fine [] h = refl
  clauses_fine (k ∷ ks) h =
      both_none
      (truth_faults g k.says)
      (clauses_faults g ks)
      (truth_fine k.says (all_head (λ c. IsFormula (sig_around w) c.says) (clause_of k) (map clause_of ks) h))
      (clauses_fine ks (all_tail (λ c. IsFormula (sig_around w) c.says) (clause_of k) (map clause_of ks) h))

  -- ---- assignments

  -- what a right side owes: it has the type of the left side, where that has one
  abbrev Fits : Judged → s.Ex → Type 0
  Fits j y =
      (j.faults ≡ []) × (((u : v.Ty) × (j.side.kind ≡ Some u) × HasType y (sig_around w) u × IsLinear y) ⊎ ((j.side.kind ≡ None) × ((u : v.Ty) × HasType y (sig_around w) u) × IsLinear y))

  indexed_fine : (bs : List (Pos × r.Exs)) (x y : s.Ex) (a : Side) (t : v.Ty) → ((u : v.Ty) → HasType x (sig_around w) u → a.kind ≡ Some u) → a.kind ≡ Some t → HasType (written x bs y) (sig_around w) t → IsLinear (written x bs y) → Fits (indexed g a bs) y
  indexed_fine [] x y a t k e h l = (refl, inl (t, e, h, l))
  indexed_fine (b ∷ bs) x y a t k e h l =
      let as_ = sides_of (judge_all g b.1) in
      let ks = h.0 in
      let u = h.1.0 in
      let parts = typed_all g (sig_around w) b.1 (map key_ty ks) gives.names h.1.3 l.1 in
      let own = select_fine b.0 a as_ ks u (k (v.MapTy ks u) h.1.2) parts.1 in
      let inner = indexed_fine bs (s.Select x (exs_of b.1)) y (select_side b.0 a as_) u (λ z q. (select_fine b.0 a as_ q.0 z (k (v.MapTy q.0 z) q.1) (typed_all g (sig_around w) b.1 (map key_ty q.0) gives.names q.2 l.1).1).1) own.1 h.1.4 l.2 in
      (both_none (faults_of (judge_all g b.1) ++ select_faults b.0 a as_) (indexed g (select_side b.0 a as_) bs).faults (both_none (faults_of (judge_all g b.1)) (select_faults b.0 a as_) parts.0 own.0) inner.0, inner.1)

  read_knows : (x : s.Var) (u : v.Ty) → HasType (s.Read x) (sig_around w) u → variable_kind g x ≡ Some u
  read_knows (s.Global k) u h = gives.names.globals k u h
  read_knows (s.Local k) u h = gives.names.frame k u h

  target_fine : (x : r.Target) (y : s.Ex) → HasType (written (s.Read x.placed.variable) x.brackets y) (sig_around w) (type_in (decl_in w.program w.variables x.placed.variable)) → IsLinear (written (s.Read x.placed.variable) x.brackets y) → Fits (target g x) y
  target_fine x y h l = by (gives.variables x.placed.variable) x.brackets h l
    where
      by : (variable_kind g x.placed.variable ≡ Some (type_in (decl_in w.program w.variables x.placed.variable))) ⊎ (variable_kind g x.placed.variable ≡ None) → (bs : List (Pos × r.Exs)) → HasType (written (s.Read x.placed.variable) bs y) (sig_around w) (type_in (decl_in w.program w.variables x.placed.variable)) → IsLinear (written (s.Read x.placed.variable) bs y) → Fits (indexed g (placed_side g x.placed) bs) y
      by (inl e) bs h l =
          indexed_fine bs (s.Read x.placed.variable) y (placed_side g x.placed) (type_in (decl_in w.program w.variables x.placed.variable)) (read_knows x.placed.variable) e h l
      by (inr e) [] h l = (refl, inr (e, (type_in (decl_in w.program w.variables x.placed.variable), h), l))
      by (inr e) (b ∷ bs) h l =
          absurd (let n : None ≡ Some (v.MapTy h.0 h.1.0) = sym e ∙ read_knows x.placed.variable (v.MapTy h.0 h.1.0) h.1.2 in let bad : ⊥ = cc in bad)

  -- left and right sides
  record SidesFine (ts es : List Judged) : Type 0 where
    left : faults_of ts ≡ []
    right : faults_of es ≡ []
    same : are_typed (sides_of ts) ≡ true → (us : List v.Ty) × (map kind_in (sides_of ts) ≡ map Some us) × (map kind_in (sides_of es) ≡ map Some us)

  more_fine : (t e : Judged) (ts es : List Judged) (y : r.Ex) → e ≡ judge g y → Fits t (ex_of y) → SidesFine ts es → SidesFine (t ∷ ts) (e ∷ es)
  more_fine t e ts es y q f rest = by f.1
    where
      by : ((u : v.Ty) × (t.side.kind ≡ Some u) × HasType (ex_of y) (sig_around w) u × IsLinear (ex_of y)) ⊎ ((t.side.kind ≡ None) × ((u : v.Ty) × HasType (ex_of y) (sig_around w) u) × IsLinear (ex_of y)) → SidesFine (t ∷ ts) (e ∷ es)
      by (inl h) =
          let z = typed_fine g (sig_around w) y h.0 gives.names h.2 h.3 in
          record {
            left = both_none t.faults (faults_of ts) f.0 rest.left;
            right = both_none e.faults (faults_of es) (ap (λ (j : Judged). j.faults) q ∙ z.0) rest.right;
            same = λ b.
                let n : are_typed (sides_of ts) ≡ true = sym (ap (λ (k : Kind). d.is_typed_kind k && are_typed (sides_of ts)) h.1) ∙ b in
                let o = rest.same n in (
                  h.0 ∷ o.0,
                  ap (λ (k : Kind). k ∷ map kind_in (sides_of ts)) h.1 ∙ ap (λ (ks : List Kind). Some h.0 ∷ ks) o.1,
                  ap (λ (j : Judged). j.side.kind ∷ map kind_in (sides_of es)) q ∙ (ap (λ (k : Kind). k ∷ map kind_in (sides_of es)) z.1 ∙ ap (λ (ks : List Kind). Some h.0 ∷ ks) o.2),
                );
          }
      by (inr h) =
          let z = typed_fine g (sig_around w) y h.1.0 gives.names h.1.1 h.2 in
          record {
            left = both_none t.faults (faults_of ts) f.0 rest.left;
            right = both_none e.faults (faults_of es) (ap (λ (j : Judged). j.faults) q ∙ z.0) rest.right;
            same = λ b. absurd (let n : false ≡ true = sym (ap (λ (k : Kind). d.is_typed_kind k && are_typed (sides_of ts)) h.0) ∙ b in let bad : ⊥ = cc in bad);
          }

  sides_fine : (ts : List r.Target) (es : r.Exs) → count es ≡ length ts → HaveTypes (values_of ts es) (sig_around w) (types_in w.program w.variables (map (λ t. t.placed.variable) ts)) → AreLinear (values_of ts es) → SidesFine (targets g ts) (judge_all g es)
  sides_fine [] r.NoMore c h l = record { left = refl; right = refl; same = λ b. ([], refl, refl) }
  sides_fine [] (r.More e es) c h l = absurd (let bad : ⊥ = omega (arith, c) in bad)
  sides_fine (t ∷ ts) r.NoMore c h l = absurd (let bad : ⊥ = omega (arith, c) in bad)
  sides_fine (t ∷ ts) (r.More e es) c h l =
      let f = target_fine t (ex_of e) h.0 l.0 in
      let rest = sides_fine ts es (omega (arith, c)) h.1 l.1 in
      more_fine (target g t) (judge g e) (targets g ts) (judge_all g es) e refl f rest

  kinds_are : (as_ : List Side) → kinds_of as_ ≡ map kind_in as_
  kinds_are [] = refl
  kinds_are (a ∷ as_) = ap (λ (ks : List Kind). a.kind ∷ ks) (kinds_are as_)

  assign_fine : (p : Pos) (ts : List r.Target) (es : r.Exs) → SidesFine (targets g ts) (judge_all g es) → assign_faults g p (targets g ts) (judge_all g es) ≡ []
  assign_fine p ts es f =
      let as_ = sides_of (targets g ts) in
      let bs = sides_of (judge_all g es) in
      both_none (faults_of (targets g ts)) (faults_of (judge_all g es) ++ sides_faults p as_ bs) f.left (both_none (faults_of (judge_all g es)) (sides_faults p as_ bs) f.right (own (are_typed as_) refl))
    where
      own : (b : Bool) → are_typed (sides_of (targets g ts)) ≡ b → sides_faults p (sides_of (targets g ts)) (sides_of (judge_all g es)) ≡ []
      own false e =
          ap (λ (z : Bool). if z && are_typed (sides_of (judge_all g es)) then matched_faults p (kinds_of (sides_of (targets g ts))) (sides_of (judge_all g es)) else []) e
      own true e =
          let o = f.same e in
          if_fine
          (are_typed (sides_of (targets g ts)) && are_typed (sides_of (judge_all g es)))
          (matched_faults p (kinds_of (sides_of (targets g ts))) (sides_of (judge_all g es)))
          (λ q. ap (λ (ks : List Kind). matched_faults p ks (sides_of (judge_all g es))) (kinds_are (sides_of (targets g ts)) ∙ o.1) ∙ all_match p o.0 (sides_of (judge_all g es)) o.2)

  -- ---- calls

  take_fine : (x : r.Placed) (t : v.Ty) → type_in (decl_in w.program w.variables x.variable) ≡ t → take_faults (placed_side g x) (Some t) ≡ []
  take_fine x t e = by (gives.variables x.variable)
    where
      by : (variable_kind g x.variable ≡ Some (type_in (decl_in w.program w.variables x.variable))) ⊎ (variable_kind g x.variable ≡ None) → take_faults (placed_side g x) (Some t) ≡ []
      by (inl k) =
          ap (λ (z : Kind). pair_faults z (record { start = x.pos; kind = Some t; is_constant = false })) (k ∙ ap Some e)
          ∙ no_want t (record { start = x.pos; kind = Some t; is_constant = false }) refl
      by (inr k) = ap (λ (z : Kind). pair_faults z (record { start = x.pos; kind = Some t; is_constant = false })) k

  takes_fine : (xs : List r.Placed) (ts : List v.Ty) → types_in w.program w.variables (map variable_of xs) ≡ ts → (takes_faults (placed_sides g xs) (map Some ts) ≡ []) × (length (placed_sides g xs) ≡ length (map Some ts))
  takes_fine [] [] e = (refl, refl)
  takes_fine [] (t ∷ ts) e = absurd (let bad : ⊥ = cc in bad)
  takes_fine (x ∷ xs) [] e = absurd (let bad : ⊥ = cc in bad)
  takes_fine (x ∷ xs) (t ∷ ts) e =
      let first : type_in (decl_in w.program w.variables x.variable) ≡ t = cc in
      let rest : types_in w.program w.variables (map variable_of xs) ≡ ts = cc in
      let f = takes_fine xs ts rest in
      (both_none (take_faults (placed_side g x) (Some t)) (takes_faults (placed_sides g xs) (map Some ts)) (take_fine x t first) f.0, ap suc f.1)

  results_fine : (p : Pos) (xs : List r.Placed) (ts : List v.Ty) → types_in w.program w.variables (map variable_of xs) ≡ ts → results_faults p (placed_sides g xs) (map Some ts) ≡ []
  results_fine p xs ts e =
      let f = takes_fine xs ts e in
      ap (λ (b : Bool). if b then takes_faults (placed_sides g xs) (map Some ts) else Arity p ∷ []) (eq-eqb (length (placed_sides g xs)) (length (map Some ts)) f.1) ∙ f.0

  own_fine : (p : Pos) (o : Option Shape) (shape : Shape) (ps rs : List v.Ty) (as_ : List Side) (xs : List r.Placed) → o ≡ Some shape → shape.params ≡ map Some ps → shape.results ≡ map Some rs → map kind_in as_ ≡ map Some ps → types_in w.program w.variables (map variable_of xs) ≡ rs → own_call_faults p o as_ (placed_sides g xs) ≡ []
  own_fine p o shape ps rs as_ xs e f k h q =
      ap (λ (z : Option Shape). own_call_faults p z as_ (placed_sides g xs)) e
      ∙ if_fine
      (are_typed as_ && are_typed (placed_sides g xs))
      (matched_faults p shape.params as_ ++ results_faults p (placed_sides g xs) shape.results)
      (λ b. both_none (matched_faults p shape.params as_) (results_faults p (placed_sides g xs) shape.results) (ap (λ (ks : List Kind). matched_faults p ks as_) f ∙ all_match p ps as_ h) (ap (results_faults p (placed_sides g xs)) k ∙ results_fine p xs rs q))

  -- ---- statements

  mutual
    st_fine : (inside before : List ℕ) (a : r.St) → IsTypedStatement w inside before (st_of a) → IsEven a → st_faults g a ≡ []
    st_fine inside before (r.Label k) h e = refl
    st_fine inside before (r.Assert k) h e = truth_fine k.says h.1
    st_fine inside before (r.Assume x) h e = truth_fine x h
    st_fine inside before (r.Havoc xs) h e = refl
    st_fine inside before (r.Assign p ts es) h e = assign_fine p ts es (sides_fine ts es e h.2 h.3)
    st_fine inside before (r.Invoke k) h e =
        let shape = gives.procedures k.procedure h.0 h.1.0 in
        let args = typed_all g (sig_around w) k.args (types_of h.0.params) gives.names h.1.1.0 h.1.1.1.0 in
        both_none
        (faults_of (judge_all g k.args))
        (own_call_faults k.name_pos (slice_get g.procedures k.procedure) (sides_of (judge_all g k.args)) (placed_sides g k.takes))
        args.0
        (own_fine k.name_pos (slice_get g.procedures k.procedure) shape.shape (types_of h.0.params) (types_of h.0.results) (sides_of (judge_all g k.args)) k.takes shape.is_there shape.params shape.results args.1 h.1.1.1.1.0)
    st_fine inside before (r.If n arms otherwise) h e =
        let q = arms_fine inside before n arms (sts_of otherwise) h e.0 in
        both_none (arms_faults g arms) (sts_faults g otherwise) q.0 (sts_fine q.1.0 before otherwise q.1.1 e.1)
    st_fine inside before (r.While n p x is body) h e =
        both_none
        (guard_faults g x)
        (clauses_faults g is ++ sts_faults g body)
        (guard_fine x h.0)
        (both_none (clauses_faults g is) (sts_faults g body) (clauses_fine is h.1) (sts_fine (n ∷ inside) before body h.2 e))
    st_fine inside before (r.Break n) h e = refl
    st_fine inside before (r.Goto ls) h e = refl
    st_fine inside before r.Return h e = refl

    sts_fine : (inside before : List ℕ) (a : r.Sts) → IsTypedStatement w inside before (sts_of a) → AreEven a → sts_faults g a ≡ []
    sts_fine inside before r.NoSt h e = refl
    sts_fine inside before (r.Then a b) h e =
        both_none (st_faults g a) (sts_faults g b) (st_fine inside (labels_of (sts_of b) ++ before) a h.0 e.0) (sts_fine inside before b h.1 e.1)

    arms_fine : (inside before : List ℕ) (n : ℕ) (arms : r.Arms) (other : s.St) → IsTypedStatement w inside before (arms_of n arms other) → AreEvenArms arms → (arms_faults g arms ≡ []) × ((outer : List ℕ) × IsTypedStatement w outer before other)
    arms_fine inside before n r.NoArm other h e = (refl, (inside, h))
    arms_fine inside before n (r.Arm x body arms) other h e =
        let rest = arms_fine (n ∷ inside) before (suc n) arms other h.2 e.1 in
        (both_none (guard_faults g x) (sts_faults g body ++ arms_faults g arms) (guard_fine x h.0) (both_none (sts_faults g body) (arms_faults g arms) (sts_fine (n ∷ inside) before body h.1 e.0) rest.0), rest.1)

pub body_fine : (g : Scope) (w : Around) (a : r.Sts) → GivesAround g w → IsTypedStatement w [] [] (sts_of a) → AreEven a → sts_faults g a ≡ []
body_fine g w a gives h e = sts_fine g w gives [] [] a h e

pub formula_fine : (g : Scope) (w : Around) (e : r.Ex) → GivesAround g w → IsFormula (sig_around w) (ex_of e) → truth_faults g e ≡ []
formula_fine g w e gives h = truth_fine g w gives e h
