-- An expression without faults is good.
use Rattle.std.proofs.Common.{◌≡◌, true, false, [], ◌++◌, Some, slice_get, sym, ap}
use Rattle.bg_base.specs.declared.pos.Pos.{Pos}
use Rattle.bg_text.specs.declared.expr.InfixSign.TheVariants as op
use Rattle.bg_ast.specs.Values as v
use Rattle.bg_ast.specs.Syntax as x
use Rattle.bg_ast.specs.Resolved as r
use Rattle.bg_ast.specs.Meaning as m
use Rattle.bg_sense.specs.Typing.{Sig, VarHasType, HasType}
use Rattle.bg_sense.specs.Typed.{IsLinear}
use Rattle.bg_kinds.specs.Faults.{is_none}
use Rattle.bg_typing.specs.Sides.{Scope, Side, variable_kind, signed, infix_side, infix_faults, select_side, select_faults, update_side, update_faults, apply_faults}
use Rattle.bg_typing.specs.Exprs.{judge, judge_all, sides_of, faults_of, behind, chained}
use Rattle.bg_typed.specs.Agreement.{Agrees}
use Rattle.bg_typed.proofs.Bits.{never, some_same, split_none}
use Rattle.bg_typed.proofs.Good.{Good, AllGood}
use Rattle.bg_typed.proofs.Nodes.{good_select, good_update, good_apply, good_signed}
use Rattle.bg_typed.proofs.Infix.{good_infix}

pub variable_typed : (g : Scope) (s : Sig) → Agrees g s → (y : x.Var) (t : v.Ty) → variable_kind g y ≡ Some t → VarHasType s y t
variable_typed g s h (x.Global k) t e = h.globals k t e
variable_typed g s h (x.Local k) t e = h.frame k t e

-- a good side is as good wherever it begins
begun : (s : Sig) (a : Side) (e : x.Ex) (p : Pos) → Good s a e → Good s (record { start = p; kind = a.kind; is_constant = a.is_constant }) e
begun s a e p g = record { typed = g.typed; linear = g.linear; constant = g.constant }

in_old : (s : Sig) (a : Side) (e : x.Ex) (p : Pos) → Good s a e → Good s (record { start = p; kind = a.kind; is_constant = false }) (x.Old e)
in_old s a e p g = record { typed = g.typed; linear = g.linear; constant = λ c. never c }

mutual
  pub good_ex : (g : Scope) (s : Sig) → Agrees g s → (e : r.Ex) → is_none (judge g e).faults ≡ true → Good s (judge g e).side (m.ex_of e)
  good_ex g s h (r.Number p z) n = record { typed = λ t e. sym (some_same v.IntTy t e); linear = λ t e. tt; constant = λ e. tt }
  good_ex g s h (r.Truth p b) n = record { typed = λ t e. sym (some_same v.BoolTy t e); linear = λ t e. tt; constant = λ e. never e }
  good_ex g s h (r.Constant p k) n = record { typed = λ t e. h.constants k t e; linear = λ t e. tt; constant = λ e. never e }
  good_ex g s h (r.Read p y) n = record { typed = λ t e. variable_typed g s h y t e; linear = λ t e. tt; constant = λ e. never e }
  good_ex g s h (r.Apply p f es) n =
      let parts = split_none (faults_of (judge_all g es)) (apply_faults p (slice_get g.functions f) (sides_of (judge_all g es))) n in
      good_apply s p f (slice_get g.functions f) (sides_of (judge_all g es)) (m.exs_of es) (λ l e. h.functions f l e) (good_exs g s h es parts.0)
  good_ex g s h (r.Old p e) n = in_old s (judge g e).side (m.ex_of e) p (good_ex g s h e n)
  good_ex g s h (r.Parens p e) n = begun s (judge g e).side (m.ex_of e) p (good_ex g s h e n)
  good_ex g s h (r.Prefix signs e) n =
      let parts = split_none (judge g e).faults (signed signs (judge g e).side).faults n in
      good_signed s signs (judge g e).side (m.ex_of e) (good_ex g s h e parts.0)
  good_ex g s h (r.Postfix e bs) n =
      let parts = split_none (judge g e).faults (behind g (judge g e).side bs).faults n in
      good_behind g s h (judge g e).side (m.ex_of e) bs (good_ex g s h e parts.0) parts.1
  good_ex g s h (r.Chain e ls) n =
      let parts = split_none (judge g e).faults (chained g (judge g e).side ls).faults n in
      good_links g s h (judge g e).side (m.ex_of e) ls (good_ex g s h e parts.0) parts.1

  pub good_exs : (g : Scope) (s : Sig) → Agrees g s → (es : r.Exs) → is_none (faults_of (judge_all g es)) ≡ true → AllGood s (sides_of (judge_all g es)) (m.exs_of es)
  good_exs g s h r.NoMore n = tt
  good_exs g s h (r.More e es) n =
      let parts = split_none (judge g e).faults (faults_of (judge_all g es)) n in
      (good_ex g s h e parts.0, good_exs g s h es parts.1)

  good_behind : (g : Scope) (s : Sig) → Agrees g s → (a : Side) (y : x.Ex) (bs : r.Brackets) → Good s a y → is_none (behind g a bs).faults ≡ true → Good s (behind g a bs).side (m.behind y bs)
  good_behind g s h a y r.NoBracket i n = i
  good_behind g s h a y (r.Select p es bs) i n =
      let sides = sides_of (judge_all g es) in
      let own = select_faults p a sides in
      let parts = split_none (faults_of (judge_all g es) ++ own) (behind g (select_side p a sides) bs).faults n in
      let inner = split_none (faults_of (judge_all g es)) own parts.0 in
      good_behind g s h (select_side p a sides) (x.Select y (m.exs_of es)) bs (good_select s p a y sides (m.exs_of es) i (good_exs g s h es inner.0)) parts.1
  good_behind g s h a y (r.Update p es e bs) i n =
      let sides = sides_of (judge_all g es) in
      let value = (judge g e).side in
      let own = update_faults p a sides value in
      let parts = split_none (faults_of (judge_all g es) ++ ((judge g e).faults ++ own)) (behind g (update_side p a sides value) bs).faults n in
      let inner = split_none (faults_of (judge_all g es)) ((judge g e).faults ++ own) parts.0 in
      let last = split_none (judge g e).faults own inner.1 in
      good_behind g s h (update_side p a sides value) (x.Update y (m.exs_of es) (m.ex_of e)) bs (good_update s p a y sides (m.exs_of es) value (m.ex_of e) i (good_exs g s h es inner.0) (good_ex g s h e last.0)) parts.1

  good_links : (g : Scope) (s : Sig) → Agrees g s → (a : Side) (y : x.Ex) (ls : r.Links) → Good s a y → is_none (chained g a ls).faults ≡ true → Good s (chained g a ls).side (m.chained y ls)
  good_links g s h a y r.NoLink i n = i
  good_links g s h a y (r.Link p op.Implies e ls) i n =
      let rest = chained g (judge g e).side ls in
      let parts = split_none (judge g e).faults (rest.faults ++ infix_faults op.Implies p a rest.side) n in
      let last = split_none rest.faults (infix_faults op.Implies p a rest.side) parts.1 in
      good_infix s op.Implies p a rest.side y (m.chained (m.ex_of e) ls) i (good_links g s h (judge g e).side (m.ex_of e) ls (good_ex g s h e parts.0) last.0) last.1
  good_links g s h a y (r.Link p sign e ls) i n =
      let b = (judge g e).side in
      let parts = split_none ((judge g e).faults ++ infix_faults sign p a b) (chained g (infix_side sign a b) ls).faults n in
      let inner = split_none (judge g e).faults (infix_faults sign p a b) parts.0 in
      good_links g s h (infix_side sign a b) (m.infix_of sign y (m.ex_of e)) ls (good_infix s sign p a b y (m.ex_of e) i (good_ex g s h e inner.0) inner.1) parts.1

pub typed_without_faults : (g : Scope) (s : Sig) (e : r.Ex) (t : v.Ty) → Agrees g s → (judge g e).faults ≡ [] → (judge g e).side.kind ≡ Some t → HasType (m.ex_of e) s t × IsLinear (m.ex_of e)
typed_without_faults g s e t h n k =
    let good = good_ex g s h e (ap is_none n) in
    (good.typed t k, good.linear t k)
