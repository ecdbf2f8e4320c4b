-- The blocks of a typed body are typed.
use Rattle.std.proofs.Common.{◌≡◌, ℕ, Bool, true, false, List, [], ◌∷◌, ◌++◌, map, Option, Some, None, refl, sym, ap, ◌∙◌, subst}
use Rattle.bg_ast.specs.Values.{Ty}
use Rattle.bg_ast.specs.Syntax.{Proc, Impl, Var, Global, Local, Call, St, Skip, Then, Label, Assert, Assume, Havoc, Assign, Invoke, If, While, Break, Goto, Return}
use Rattle.bg_sense.specs.Context.{Ctx}
use Rattle.bg_sense.specs.Variables.{type_in, decl_of, procedure_of}
use Rattle.bg_sense.specs.Typing.{Sig, HaveTypes, sig_of, types_at, CallHasType, IsTypedSt}
use Rattle.bg_flow.specs.Core.{Cmd, Suppose, Core, Nil, Seq, Mark, Do, To, Choose, Loop, calls_of, desugar, frame_decls, routine_of}
use Rattle.bg_flow.specs.Blocks.{Block, Coded, led, closed, skipped, turned, code, at_end, blocks_of}
use Rattle.bg_passive.specs.Incarnations.{ty_of, AreTypedCmds, AreTypedBlocks}

module _ (g : Sig) (tys : Var → Ty) where
  abbrev TypedCore : Core → Type 0
  TypedCore (Seq a b) = TypedCore a × TypedCore b
  TypedCore (Do ks) = AreTypedCmds g tys ks
  TypedCore (Choose e a b) = TypedCore a × TypedCore b
  TypedCore (Loop h e a) = TypedCore a
  TypedCore _ = Unit {0}

  cmds_append : (ks ls : List Cmd) → AreTypedCmds g tys ks → AreTypedCmds g tys ls → AreTypedCmds g tys (ks ++ ls)
  cmds_append [] ls a b = b
  cmds_append (k ∷ ks) ls a b = (a.0, cmds_append ks ls a.1 b)

  led_typed : (o : Bool) (ks : List Cmd) (bs : List Block) → AreTypedCmds g tys ks → AreTypedBlocks g tys bs → AreTypedBlocks g tys (led o ks bs)
  led_typed false ks bs h k = (h, k)
  led_typed true ks [] h k = (h, tt)
  led_typed true ks (b ∷ bs) h k = (cmds_append ks b.cmds h k.0, k.1)

  code_typed : (s : Core) (t : Coded) → TypedCore s → AreTypedBlocks g tys t.blocks → AreTypedBlocks g tys (code s t).blocks
  code_typed Nil t h k = k
  code_typed (Seq a b) t h k = code_typed a (code b t) h.0 (code_typed b t h.1 k)
  code_typed (Mark p) t h k = k
  code_typed (Do ks) t h k = led_typed t.takes_in ks t.blocks h k
  code_typed (To ps) t h k = (tt, k)
  code_typed (Choose e a b) t h k =
      (tt, code_typed a (skipped t (code b (closed t))) h.0 (tt, code_typed b (closed t) h.1 k))
  code_typed (Loop hd e a) t h k =
      ((tt, (tt, (tt, (tt, tt)))), code_typed a (turned hd t) h ((tt, (tt, tt)), k))

module _ (c : Ctx) where
  abbrev tys : Var → Ty
  tys = ty_of c.program c.variables

  types_same : (xs : List Var) → types_at c xs ≡ map tys xs
  types_same [] = refl
  types_same (Global x ∷ xs) = ap (λ l. type_in (decl_of c (Global x)) ∷ l) (types_same xs)
  types_same (Local x ∷ xs) = ap (λ l. type_in (decl_of c (Local x)) ∷ l) (types_same xs)

  calls_typed : (o : Option Proc) (k : Call) → CallHasType c.program c.variables o k.args k.takes → AreTypedCmds (sig_of c) tys (calls_of c.program o k)
  calls_typed None k h = tt
  calls_typed (Some q) k h = ((h.0, sym (types_same k.takes) ∙ h.1), tt)

  desugar_typed : (s : St) → IsTypedSt c s → TypedCore (sig_of c) tys (desugar c.program c.variables s)
  desugar_typed Skip h = tt
  desugar_typed (Then a b) h = (desugar_typed a h.0, desugar_typed b h.1)
  desugar_typed (Label l) h = tt
  desugar_typed (Assert k) h = (tt, tt)
  desugar_typed (Assume e) h = (tt, tt)
  desugar_typed (Havoc xs) h = (tt, (tt, tt))
  desugar_typed (Assign xs es) h = (subst (HaveTypes es (sig_of c)) (types_same xs) h.1, tt)
  desugar_typed (Invoke k) h = calls_typed (procedure_of c.program k.procedure) k h.1
  desugar_typed (If n e a b) h = ((desugar_typed a h.0, desugar_typed b h.1), tt)
  desugar_typed (While n e is a) h = (desugar_typed a h, tt)
  desugar_typed (Break n) h = tt
  desugar_typed (Goto ls) h = tt
  desugar_typed Return h = tt

  pub blocks_typed : (m : Impl) (q : Proc) (number : ℕ) → c.variables ≡ frame_decls m q → IsTypedSt c m.body → AreTypedBlocks (sig_of c) tys (blocks_of (routine_of c.program number m q))
  blocks_typed m q number e h =
      let r = routine_of c.program number m q in
      let body = subst (λ ds. TypedCore (sig_of c) tys (desugar c.program ds m.body)) e (desugar_typed m.body h) in
      led_typed (sig_of c) tys (code r.body (at_end r.wanted)).takes_in (Suppose r.given ∷ []) (code r.body (at_end r.wanted)).blocks (tt, tt)
      (code_typed (sig_of c) tys r.body (at_end r.wanted) body ((tt, tt), tt))
