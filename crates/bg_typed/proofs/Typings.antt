-- An expression without faults, each name of which is declared, has a type.
use Rattle.std.proofs.Common.{◌≡◌, ℕ, Bool, true, false, ◌&&◌, if◌then◌else◌, List, [], ◌∷◌, ◌++◌, map, Option, Some, None, slice_get, refl, sym, ap, ◌∙◌, subst}
use Rattle.bg_base.specs.declared.pos.Pos.{Pos}
use Rattle.bg_text.specs.declared.expr.InfixSign.{InfixSign}
use Rattle.bg_text.specs.declared.expr.InfixSign.TheVariants as op
use Rattle.bg_text.specs.declared.expr.TreePrefix.{TreePrefix}
use Rattle.bg_ast.specs.Values as v
use Rattle.bg_ast.specs.Syntax as x
use Rattle.bg_ast.specs.Resolved as r
use Rattle.bg_ast.specs.Meaning as m
use Rattle.bg_sense.specs.Typing.{Sig}
use Rattle.bg_sense.specs.Typed.{IsFormula}
use Rattle.bg_kinds.specs.Faults.{Fault, Wants, is_none}
use Rattle.bg_kinds.specs.Kinds.{Kind}
use Rattle.bg_typing.specs.Sides.{Shape, Scope, Side, kind_if, is_typed_kind, kind_at, variable_kind, are_typed, wanting, matched_faults, sign_wants, sign_gives, two_faults, product_fault, infix_faults_at, infix_faults, infix_kind_at, infix_side, prefix_type, signed, indices_faults_at, select_faults_at, select_kind_at, select_faults, select_side, update_faults_in, update_faults_at, update_kind_at, update_faults, update_side, apply_kind, apply_faults}
use Rattle.bg_typing.specs.Exprs.{judge, judge_all, sides_of, faults_of, behind, chained}
use Rattle.bg_typing.specs.Stmts.{truth_faults}
use Rattle.bg_typed.specs.Naming.{IsVariable, IsNamed, AreNamed, AreNamedBrackets, AreNamedLinks, function_kinds, Matches}
use Rattle.bg_typed.proofs.Bits.{never, split_none, wanted_kind}
use Rattle.bg_typed.proofs.Matched.{kind_there, shape_there, agrees}
use Rattle.bg_typed.proofs.Judged.{good_ex}

pub and_both : (a b : Bool) → a ≡ true → b ≡ true → (a && b) ≡ true
and_both true b h k = k
and_both false b h k = h

kind_if_typed : (b : Bool) (k : Kind) → b ≡ true → is_typed_kind k ≡ true → is_typed_kind (kind_if b k) ≡ true
kind_if_typed true k h t = t
kind_if_typed false k h t = never h

-- faults that are looked for
pub found : (b : Bool) (fs : List Fault) → b ≡ true → is_none (if b then fs else []) ≡ true → is_none fs ≡ true
found true fs h n = n
found false fs h n = never h

pub select_has : (start p : Pos) (es : List Side) (k : Kind) → is_typed_kind k ≡ true → are_typed es ≡ true → is_none (select_faults_at start p es k) ≡ true → is_typed_kind (select_kind_at start p es k) ≡ true
select_has start p es None h t n = never h
select_has start p es (Some u) h t n =
    kind_if_typed (are_typed es && is_none (indices_faults_at start p es u)) (Some (v.result_of u)) (and_both (are_typed es) _ t (found (are_typed es) (indices_faults_at start p es u) t n)) refl

update_has : (start p : Pos) (es : List Side) (e : Side) (k : Kind) → is_typed_kind k ≡ true → are_typed es ≡ true → is_typed_kind e.kind ≡ true → is_none (update_faults_at start p es e k) ≡ true → is_typed_kind (update_kind_at start p es e k) ≡ true
update_has start p es e None h t i n = never h
update_has start p es e (Some u) h t i n =
    let parts = and_both (are_typed es) (is_typed_kind e.kind) t i in
    kind_if_typed ((are_typed es && is_typed_kind e.kind) && is_none (update_faults_in start p es e u)) (Some u) (and_both (are_typed es && is_typed_kind e.kind) _ parts (found (are_typed es && is_typed_kind e.kind) (update_faults_in start p es e u) parts n)) refl

apply_has : (p : Pos) (f : Shape) (es : List Side) → is_typed_kind (kind_at f.results 0) ≡ true → are_typed es ≡ true → is_none (apply_faults p (Some f) es) ≡ true → is_typed_kind (apply_kind p (Some f) es) ≡ true
apply_has p f es h t n =
    kind_if_typed (are_typed es && is_none (matched_faults p f.params es)) (kind_at f.results 0) (and_both (are_typed es) _ t (found (are_typed es) (matched_faults p f.params es) t n)) h

infix_has_at : (sign : InfixSign) (p : Pos) (a b : Side) (k l : Kind) → is_typed_kind k ≡ true → is_typed_kind l ≡ true → is_none (infix_faults_at sign p a b k l) ≡ true → is_typed_kind (infix_kind_at sign a b k l) ≡ true
infix_has_at sign p a b None l h i n = never h
infix_has_at sign p a b (Some u) None h i n = never i
infix_has_at sign p a b (Some u) (Some w) h i n =
    kind_if_typed (is_none (two_faults (sign_wants sign) a.start b.start u w)) (Some (sign_gives sign)) (split_none (two_faults (sign_wants sign) a.start b.start u w) (product_fault sign p a.is_constant b.is_constant) n).0 refl

infix_has : (sign : InfixSign) (p : Pos) (a b : Side) → is_typed_kind a.kind ≡ true → is_typed_kind b.kind ≡ true → is_none (infix_faults sign p a b) ≡ true → is_typed_kind (infix_side sign a b).kind ≡ true
infix_has sign p a b h i n = infix_has_at sign p a b a.kind b.kind h i n

signed_has : (xs : List TreePrefix) (a : Side) → is_typed_kind a.kind ≡ true → is_none (signed xs a).faults ≡ true → is_typed_kind (signed xs a).side.kind ≡ true
signed_has [] a h n = h
signed_has (x ∷ xs) a h n =
    let side = (signed xs a).side in
    let parts = split_none (signed xs a).faults (wanting (Wants (prefix_type x.sign)) side) n in
    kind_if_typed (is_typed_kind side.kind && is_none (wanting (Wants (prefix_type x.sign)) side)) (Some (prefix_type x.sign)) (and_both (is_typed_kind side.kind) _ (signed_has xs a h parts.0) parts.1) refl

table_has : (g : List Kind) (ts : List v.Ty) (k : ℕ) → g ≡ map Some ts → is_typed_kind (kind_at (map Some ts) k) ≡ true → is_typed_kind (kind_at g k) ≡ true
table_has g ts k e h = subst (λ (l : List Kind). is_typed_kind (kind_at l k) ≡ true) (sym e) h

pub variable_has : (g : Scope) (s : Sig) → Matches g s → (y : x.Var) → IsVariable s y → is_typed_kind (variable_kind g y) ≡ true
variable_has g s h (x.Global k) i = table_has g.globals s.globals k h.globals (kind_there s.globals k i)
variable_has g s h (x.Local k) i = table_has g.frame s.frame k h.frame (kind_there s.frame k i)

called_has : (p : Pos) (o : Option Shape) (fn : x.Fun) (es : List Side) → o ≡ Some (function_kinds fn) → are_typed es ≡ true → is_none (apply_faults p o es) ≡ true → is_typed_kind (apply_kind p o es) ≡ true
called_has p o fn es e t n =
    subst (λ (o : Option Shape). is_typed_kind (apply_kind p o es) ≡ true) (sym e)
    (apply_has p (function_kinds fn) es refl t (subst (λ (o : Option Shape). is_none (apply_faults p o es) ≡ true) e n))

mutual
  pub has_ex : (g : Scope) (s : Sig) → Matches g s → (e : r.Ex) → IsNamed s e → is_none (judge g e).faults ≡ true → is_typed_kind (judge g e).side.kind ≡ true
  has_ex g s h (r.Number p z) i n = refl
  has_ex g s h (r.Truth p b) i n = refl
  has_ex g s h (r.Constant p k) i n = table_has g.constants s.constants k h.constants (kind_there s.constants k i)
  has_ex g s h (r.Read p y) i n = variable_has g s h y i
  has_ex g s h (r.Apply p f es) i n =
      let sides = sides_of (judge_all g es) in
      let parts = split_none (faults_of (judge_all g es)) (apply_faults p (slice_get g.functions f) sides) n in
      let shape = shape_there s.functions f i.0 in
      called_has p (slice_get g.functions f) shape.0 sides (ap (λ (l : List Shape). slice_get l f) h.functions ∙ shape.1) (have_exs g s h es i.1 parts.0) parts.1
  has_ex g s h (r.Old p e) i n = has_ex g s h e i n
  has_ex g s h (r.Parens p e) i n = has_ex g s h e i n
  has_ex g s h (r.Prefix signs e) i n =
      let parts = split_none (judge g e).faults (signed signs (judge g e).side).faults n in
      signed_has signs (judge g e).side (has_ex g s h e i parts.0) parts.1
  has_ex g s h (r.Postfix e bs) i n =
      let parts = split_none (judge g e).faults (behind g (judge g e).side bs).faults n in
      has_behind g s h (judge g e).side bs i.1 (has_ex g s h e i.0 parts.0) parts.1
  has_ex g s h (r.Chain e ls) i n =
      let parts = split_none (judge g e).faults (chained g (judge g e).side ls).faults n in
      has_links g s h (judge g e).side ls i.1 (has_ex g s h e i.0 parts.0) parts.1

  pub have_exs : (g : Scope) (s : Sig) → Matches g s → (es : r.Exs) → AreNamed s es → is_none (faults_of (judge_all g es)) ≡ true → are_typed (sides_of (judge_all g es)) ≡ true
  have_exs g s h r.NoMore i n = refl
  have_exs g s h (r.More e es) i n =
      let parts = split_none (judge g e).faults (faults_of (judge_all g es)) n in
      and_both (is_typed_kind (judge g e).side.kind) _ (has_ex g s h e i.0 parts.0) (have_exs g s h es i.1 parts.1)

  has_behind : (g : Scope) (s : Sig) → Matches g s → (a : Side) (bs : r.Brackets) → AreNamedBrackets s bs → is_typed_kind a.kind ≡ true → is_none (behind g a bs).faults ≡ true → is_typed_kind (behind g a bs).side.kind ≡ true
  has_behind g s h a r.NoBracket i t n = t
  has_behind g s h a (r.Select p es bs) i t n =
      let sides = sides_of (judge_all g es) in
      let own = select_faults p a sides in
      let parts = split_none (faults_of (judge_all g es) ++ own) (behind g (select_side p a sides) bs).faults n in
      let inner = split_none (faults_of (judge_all g es)) own parts.0 in
      has_behind g s h (select_side p a sides) bs i.1 (select_has a.start p sides a.kind t (have_exs g s h es i.0 inner.0) inner.1) parts.1
  has_behind g s h a (r.Update p es e bs) i t n =
      let sides = sides_of (judge_all g es) in
      let value = (judge g e).side in
      let own = update_faults p a sides value in
      let parts = split_none (faults_of (judge_all g es) ++ ((judge g e).faults ++ own)) (behind g (update_side p a sides value) bs).faults n in
      let inner = split_none (faults_of (judge_all g es)) ((judge g e).faults ++ own) parts.0 in
      let last = split_none (judge g e).faults own inner.1 in
      has_behind g s h (update_side p a sides value) bs i.2 (update_has a.start p sides value a.kind t (have_exs g s h es i.0 inner.0) (has_ex g s h e i.1 last.0) last.1) parts.1

  has_links : (g : Scope) (s : Sig) → Matches g s → (a : Side) (ls : r.Links) → AreNamedLinks s ls → is_typed_kind a.kind ≡ true → is_none (chained g a ls).faults ≡ true → is_typed_kind (chained g a ls).side.kind ≡ true
  has_links g s h a r.NoLink i t n = t
  has_links g s h a (r.Link p op.Implies e ls) i t n =
      let rest = chained g (judge g e).side ls in
      let parts = split_none (judge g e).faults (rest.faults ++ infix_faults op.Implies p a rest.side) n in
      let last = split_none rest.faults (infix_faults op.Implies p a rest.side) parts.1 in
      infix_has op.Implies p a rest.side t (has_links g s h (judge g e).side ls i.1 (has_ex g s h e i.0 parts.0) last.0) last.1
  has_links g s h a (r.Link p sign e ls) i t n =
      let b = (judge g e).side in
      let parts = split_none ((judge g e).faults ++ infix_faults sign p a b) (chained g (infix_side sign a b) ls).faults n in
      let inner = split_none (judge g e).faults (infix_faults sign p a b) parts.0 in
      has_links g s h (infix_side sign a b) ls i.1 (infix_has sign p a b t (has_ex g s h e i.0 inner.0) inner.1) parts.1

-- what is wanted to be a truth value is a formula
pub is_formula : (g : Scope) (s : Sig) (e : r.Ex) → Matches g s → IsNamed s e → is_none (truth_faults g e) ≡ true → IsFormula s (m.ex_of e)
is_formula g s e h i n =
    let side = (judge g e).side in
    let parts = split_none (judge g e).faults (wanting (Wants v.BoolTy) side) n in
    let kind = wanted_kind side.start v.BoolTy side.kind (has_ex g s h e i parts.0) parts.1 in
    let good = good_ex g s (agrees g s h) e parts.0 in
    (good.typed v.BoolTy kind, good.linear v.BoolTy kind)

pub formula : (g : Scope) (s : Sig) (e : r.Ex) → Matches g s → IsNamed s e → truth_faults g e ≡ [] → IsFormula s (m.ex_of e)
formula g s e h i n = is_formula g s e h i (ap is_none n)
