-- Left sides of assignments, and results of calls.
use Rattle.std.proofs.Common.{◌≡◌, ℕ, zero, suc, true, false, ◌&&◌, List, [], ◌∷◌, ◌++◌, length, map, Some, None, slice_get, refl, sym, ap, ◌∙◌, subst, arith}
use Rattle.bg_base.specs.declared.pos.Pos.{Pos}
use Rattle.bg_ast.specs.Values as v
use Rattle.bg_ast.specs.Syntax as x
use Rattle.bg_ast.specs.Resolved as r
use Rattle.bg_ast.specs.Meaning as m
use Rattle.bg_sense.specs.Variables.{type_in, decl_in}
use Rattle.bg_sense.specs.Types.{types_of}
use Rattle.bg_sense.specs.Typing.{Sig, key_ty, VarHasType, HasType, HaveTypes, types_in}
use Rattle.bg_sense.specs.Typed.{IsLinear, AreLinear, Around, sig_around}
use Rattle.bg_kinds.specs.Faults.{is_none}
use Rattle.bg_kinds.specs.Kinds.{Kind}
use Rattle.bg_typing.specs.Sides.{Scope, Side, is_typed_kind, are_typed, pair_faults, pairs_faults, matched_faults, key_kinds, select_kind_at, select_faults, select_side}
use Rattle.bg_typing.specs.Exprs.{judge, judge_all, sides_of, faults_of}
use Rattle.bg_typing.specs.Stmts.{placed_side, placed_sides, indexed, target, targets, kinds_of, take_faults, takes_faults}
use Rattle.bg_typed.specs.Naming.{Matches}
use Rattle.bg_typed.specs.Bodies.{AreNamedIndices, AreNamedTargets, AreVariables, target_variable}
use Rattle.bg_typed.proofs.Bits.{never, nothing, and_left, and_right, split_none, kind_if_some, some_same, wanted_kind, typed_some}
use Rattle.bg_typed.proofs.Good.{Good, AllGood, are_linear}
use Rattle.bg_typed.proofs.Nodes.{keyed, no_map, good_select}
use Rattle.bg_typed.proofs.Judged.{good_exs, variable_typed}
use Rattle.bg_typed.proofs.Matched.{agrees}
use Rattle.bg_typed.proofs.Typings.{and_both, select_has, variable_has, have_exs}

-- a bracket with a type is one of a map
pub record IsMap (s : Sig) (xs : x.Exs) (t w : v.Ty) : Type 0 where
  pub keys : List v.KeyType
  pub map_type : t ≡ v.MapTy keys w
  pub typed : HaveTypes xs s (map key_ty keys)

is_map : (s : Sig) (start p : Pos) (as_ : List Side) (xs : x.Exs) (t w : v.Ty) → AllGood s as_ xs → select_kind_at start p as_ (Some t) ≡ Some w → IsMap s xs t w
is_map s start p as_ xs v.IntTy w g e = absurd (no_map (are_typed as_) (kind_if_some _ _ w e).0)
is_map s start p as_ xs v.BoolTy w g e = absurd (no_map (are_typed as_) (kind_if_some _ _ w e).0)
is_map s start p as_ xs (v.UserTy i) w g e = absurd (no_map (are_typed as_) (kind_if_some _ _ w e).0)
is_map s start p as_ xs (v.MapTy ks u) w g e =
    let both = kind_if_some (are_typed as_ && is_none (matched_faults p (key_kinds ks) as_)) (Some u) w e in
    record {
      keys = ks;
      map_type = ap (v.MapTy ks) (some_same u w both.1);
      typed = keyed s p as_ xs ks g (and_left (are_typed as_) _ both.0) (and_right (are_typed as_) _ both.0);
    }

selected_map : (s : Sig) (start p : Pos) (as_ : List Side) (xs : x.Exs) (k : Kind) (t w : v.Ty) → k ≡ Some t → AllGood s as_ xs → select_kind_at start p as_ k ≡ Some w → IsMap s xs t w
selected_map s start p as_ xs k t w h g e =
    is_map s start p as_ xs t w g (ap (select_kind_at start p as_) (sym h) ∙ e)

-- brackets behind a variable have a type
indexed_has : (g : Scope) (s : Sig) → Matches g s → (a : Side) (bs : List (Pos × r.Exs)) → AreNamedIndices s bs → is_typed_kind a.kind ≡ true → is_none (indexed g a bs).faults ≡ true → is_typed_kind (indexed g a bs).side.kind ≡ true
indexed_has g s h a [] i t n = t
indexed_has g s h a (b ∷ bs) i t n =
    let sides = sides_of (judge_all g b.1) in
    let own = select_faults b.0 a sides in
    let parts = split_none (faults_of (judge_all g b.1) ++ own) (indexed g (select_side b.0 a sides) bs).faults n in
    let inner = split_none (faults_of (judge_all g b.1)) own parts.0 in
    indexed_has g s h (select_side b.0 a sides) bs i.1 (select_has a.start b.0 sides a.kind t (have_exs g s h b.1 i.0 inner.0) inner.1) parts.1

abbrev Is : Sig → x.Ex → v.Ty → Type 0
Is s e t = HasType e s t × IsLinear e

-- what is written to a variable has its type, where the value has the type of the place
written_is : (g : Scope) (s : Sig) → Matches g s → (a : Side) (y : x.Ex) (bs : List (Pos × r.Exs)) (z : x.Ex) (t u : v.Ty) → Good s a y → AreNamedIndices s bs → a.kind ≡ Some t → is_none (indexed g a bs).faults ≡ true → (indexed g a bs).side.kind ≡ Some u → Is s z u → Is s (m.written y bs z) t
written_is g s h a y [] z t u i j k n e f = subst (λ (t : v.Ty). Is s z t) (some_same u t (sym e ∙ k)) f
written_is g s h a y (b ∷ bs) z t u i j k n e f =
    let sides = sides_of (judge_all g b.1) in
    let own = select_faults b.0 a sides in
    let next = select_side b.0 a sides in
    let parts = split_none (faults_of (judge_all g b.1) ++ own) (indexed g next bs).faults n in
    let inner = split_none (faults_of (judge_all g b.1)) own parts.0 in
    let all = good_exs g s (agrees g s h) b.1 inner.0 in
    let a_typed : is_typed_kind a.kind ≡ true = ap is_typed_kind k in
    let are = have_exs g s h b.1 j.0 inner.0 in
    let has = typed_some next.kind (select_has a.start b.0 sides a.kind a_typed are inner.1) in
    let is = selected_map s a.start b.0 sides (m.exs_of b.1) a.kind t has.0 k all has.1 in
    let good = good_select s b.0 a y sides (m.exs_of b.1) i all in
    let value = written_is g s h next (x.Select y (m.exs_of b.1)) bs z has.0 u good j.1 has.1 parts.1 e f in (
      (is.keys, (has.0, is.map_type, i.typed (v.MapTy is.keys has.0) (k ∙ ap Some is.map_type), is.typed, value.0)),
      (i.linear t k, are_linear s sides (m.exs_of b.1) all are, value.1),
    )

-- a variable's type is that of its declaration
type_at : (ds : List x.Decl) (k : ℕ) (t : v.Ty) → slice_get (types_of ds) k ≡ Some t → type_in (slice_get ds k) ≡ t
type_at [] k t e = nothing t e
type_at (d ∷ ds) zero t e = some_same d.ty t e
type_at (d ∷ ds) (suc k) t e = type_at ds k t e

declared_type : (w : Around) (y : x.Var) (t : v.Ty) → VarHasType (sig_around w) y t → type_in (decl_in w.program w.variables y) ≡ t
declared_type w (x.Global k) t e = type_at w.program.globals k t e
declared_type w (x.Local k) t e = type_at w.variables k t e

variable_good : (g : Scope) (w : Around) → Matches g (sig_around w) → (a : r.Placed) → Good (sig_around w) (placed_side g a) (x.Read a.variable)
variable_good g w h a =
    record {
      typed = λ t e. variable_typed g (sig_around w) (agrees g (sig_around w) h) a.variable t e;
      linear = λ t e. tt;
      constant = λ e. never e;
    }

-- a pair of sides that fit
pub fitting : (k l : Kind) (b : Side) (u : v.Ty) → k ≡ Some u → b.kind ≡ l → is_typed_kind l ≡ true → is_none (pair_faults k b) ≡ true → l ≡ Some u
fitting None l b u h e t n = nothing u h
fitting (Some t') l b u h e t n =
    let kind = wanted_kind b.start t' b.kind (ap is_typed_kind e ∙ t) n in
    sym e ∙ (kind ∙ h)

pub targets_have : (g : Scope) (w : Around) → Matches g (sig_around w) → (ts : List r.Target) → AreNamedTargets (sig_around w) ts → is_none (faults_of (targets g ts)) ≡ true → are_typed (sides_of (targets g ts)) ≡ true
targets_have g w h [] i n = refl
targets_have g w h (t ∷ ts) i n =
    let parts = split_none (target g t).faults (faults_of (targets g ts)) n in
    let one = indexed_has g (sig_around w) h (placed_side g t.placed) t.brackets i.1 (variable_has g (sig_around w) h t.placed.variable i.0) parts.0 in
    and_both (is_typed_kind (target g t).side.kind) _ one (targets_have g w h ts i.2 parts.1)

abbrev pub Written : Around → List r.Target → r.Exs → Type 0
Written w ts es =
    HaveTypes (m.values_of ts es) (sig_around w) (types_in w.program w.variables (map target_variable ts)) × AreLinear (m.values_of ts es)

pub written_all : (g : Scope) (w : Around) → Matches g (sig_around w) → (ts : List r.Target) (es : r.Exs) → AreNamedTargets (sig_around w) ts → is_none (faults_of (targets g ts)) ≡ true → AllGood (sig_around w) (sides_of (judge_all g es)) (m.exs_of es) → are_typed (sides_of (judge_all g es)) ≡ true → length (sides_of (judge_all g es)) ≡ length (kinds_of (sides_of (targets g ts))) → is_none (pairs_faults (kinds_of (sides_of (targets g ts))) (sides_of (judge_all g es))) ≡ true → Written w ts es
written_all g w h [] es i n a t l f = (refl, tt)
written_all g w h (c ∷ ts) r.NoMore i n a t l f = absurd (omega (arith, l))
written_all g w h (c ∷ ts) (r.More e es) i n a t l f =
    let s = sig_around w in
    let parts = split_none (target g c).faults (faults_of (targets g ts)) n in
    let pairs = split_none (pair_faults (target g c).side.kind (judge g e).side) (pairs_faults (kinds_of (sides_of (targets g ts))) (sides_of (judge_all g es))) f in
    let place = variable_has g s h c.placed.variable i.0 in
    let at = typed_some (placed_side g c.placed).kind place in
    let end = typed_some (target g c).side.kind (indexed_has g s h (placed_side g c.placed) c.brackets i.1 place parts.0) in
    let is_typed = and_left (is_typed_kind (judge g e).side.kind) (are_typed (sides_of (judge_all g es))) t in
    let kind = fitting (target g c).side.kind (judge g e).side.kind (judge g e).side end.0 end.1 refl is_typed pairs.0 in
    let good = variable_good g w h c.placed in
    let value : HasType (m.ex_of e) s end.0 × IsLinear (m.ex_of e) = (a.0.typed end.0 kind, a.0.linear end.0 kind) in
    let one = written_is g s h (placed_side g c.placed) (x.Read c.placed.variable) c.brackets (m.ex_of e) at.0 end.0 good i.1 at.1 parts.0 end.1 value in
    let declared = declared_type w c.placed.variable at.0 (good.typed at.0 at.1) in
    let long : length (sides_of (judge_all g es)) ≡ length (kinds_of (sides_of (targets g ts))) = omega (arith, l) in
    let rest = written_all g w h ts es i.2 parts.1 a.1 (and_right (is_typed_kind (judge g e).side.kind) (are_typed (sides_of (judge_all g es))) t) long pairs.1 in
    let first = subst (λ (t : v.Ty). HasType (m.written (x.Read c.placed.variable) c.brackets (m.ex_of e)) s t) (sym declared) one.0 in
    ((first, rest.0), (one.1, rest.1))

-- results of a call
pub takes_have : (g : Scope) (w : Around) → Matches g (sig_around w) → (xs : List r.Placed) → AreVariables (sig_around w) xs → are_typed (placed_sides g xs) ≡ true
takes_have g w h [] i = refl
takes_have g w h (y ∷ xs) i =
    and_both (is_typed_kind (placed_side g y).kind) _ (variable_has g (sig_around w) h y.variable i.0) (takes_have g w h xs i.1)

pub takes_typed : (g : Scope) (w : Around) → Matches g (sig_around w) → (xs : List r.Placed) (ts : List v.Ty) → AreVariables (sig_around w) xs → length (placed_sides g xs) ≡ length (map Some ts) → is_none (takes_faults (placed_sides g xs) (map Some ts)) ≡ true → types_in w.program w.variables (map m.variable_of xs) ≡ ts
takes_typed g w h [] [] i l n = refl
takes_typed g w h [] (t ∷ ts) i l n = absurd (omega (arith, l))
takes_typed g w h (y ∷ xs) [] i l n = absurd (omega (arith, l))
takes_typed g w h (y ∷ xs) (t ∷ ts) i l n =
    let s = sig_around w in
    let side = placed_side g y in
    let parts = split_none (take_faults side (Some t)) (takes_faults (placed_sides g xs) (map Some ts)) n in
    let at = typed_some side.kind (variable_has g s h y.variable i.0) in
    let kind : Some t ≡ Some at.0 = fitting side.kind (Some t) (record { start = side.start; kind = Some t; is_constant = false }) at.0 at.1 refl refl parts.0 in
    let declared = declared_type w y.variable at.0 ((variable_good g w h y).typed at.0 at.1) in
    let long : length (placed_sides g xs) ≡ length (map Some ts) = omega (arith, l) in
    let rest = takes_typed g w h xs ts i.1 long parts.1 in
    ap (λ (u : v.Ty). u ∷ types_in w.program w.variables (map m.variable_of xs)) (declared ∙ sym (some_same t at.0 kind)) ∙ ap (λ (us : List v.Ty). t ∷ us) rest
