-- Typed code of a program without constants holds none.
use Rattle.std.proofs.Common.{◌≡◌, ℕ, true, List, [], ◌∷◌, ◌++◌, map, Some, None, refl, ap}
use Rattle.std.specs.Prelude.{◌&&◌, slice_get}
use Rattle.bg_ast.specs.Values.{Ty, IntTy, BoolTy, MapTy}
use Rattle.bg_ast.specs.Syntax.{Op, And, Or, Implies, Iff, Equal, Unequal, Less, AtMost, Greater, AtLeast, Plus, Minus, Times, Ex, Number, Fact, Constant, Read, Not, Negative, Binary, Apply, Select, Update, Old, Exs, NoMore, More, Star, Test, Decl, Prog}
use Rattle.bg_sense.specs.Types.{types_of, const_types}
use Rattle.bg_sense.specs.Typing.{Sig, key_ty, OpHasType, HasType, HaveTypes}
use Rattle.bg_sense.proofs.Bools.{both, and_left, and_right}
use Rattle.bg_flow.specs.Core.{Demand, Saying, Plan, Cmd, Check, Suppose, Forget, Put, Perform, Finish}
use Rattle.bg_flow.specs.Blocks.{Exit, Leap, Either, Block}
use Rattle.bg_passive.specs.Incarnations.{ty_of}
use Rattle.bg_block_types.specs.TypedFlow.{sig_with, sig_here, DemandsAreTyped, SayingsAreTyped, PlanIsTyped, CmdIsTyped, CmdsAreTyped, ExitIsTyped, CodeIsTyped}
use Rattle.bg_fits.specs.Valued as fits
use Rattle.bg_fits.specs.Valued.{is_empty, decls_pass, is_value_type, is_over_values}
use Rattle.bg_scalar.specs.Typed.{is_valued, are_valued}
use Rattle.bg_replay.specs.Over.{over_demands, over_sayings, over_plan, over_cmd, over_exit, over_cmds, over_blocks}

-- an operator's sides have types
sides : (o : Op) (a b : Ty → Type 0) (t : Ty) → OpHasType o a b t → ((u : Ty) × a u) × ((u : Ty) × b u)
sides And a b t h = ((BoolTy, h.1), (BoolTy, h.2))
sides Or a b t h = ((BoolTy, h.1), (BoolTy, h.2))
sides Implies a b t h = ((BoolTy, h.1), (BoolTy, h.2))
sides Iff a b t h = ((BoolTy, h.1), (BoolTy, h.2))
sides Equal a b t h = ((h.1.0, h.1.1), (h.1.0, h.1.2))
sides Unequal a b t h = ((h.1.0, h.1.1), (h.1.0, h.1.2))
sides Less a b t h = ((IntTy, h.1), (IntTy, h.2))
sides AtMost a b t h = ((IntTy, h.1), (IntTy, h.2))
sides Greater a b t h = ((IntTy, h.1), (IntTy, h.2))
sides AtLeast a b t h = ((IntTy, h.1), (IntTy, h.2))
sides Plus a b t h = ((IntTy, h.1), (IntTy, h.2))
sides Minus a b t h = ((IntTy, h.1), (IntTy, h.2))
sides Times a b t h = ((IntTy, h.1), (IntTy, h.2))

nothing_at : {A B : Type 0} (xs : List A) (k : ℕ) (x : A) → xs ≡ [] → slice_get xs k ≡ Some x → B
nothing_at [] k x none h = absurd (let bad : None ≡ Some x = h in cc)
nothing_at (y ∷ ys) k x none h = absurd (let bad : y ∷ ys ≡ [] = none in cc)

module _ (g : Sig) (none : g.constants ≡ []) where
  mutual
    typed_valued : (e : Ex) (t : Ty) → HasType e g t → is_valued e ≡ true
    typed_valued (Number z) t h = refl
    typed_valued (Fact b) t h = refl
    typed_valued (Constant c) t h = nothing_at g.constants c t none h
    typed_valued (Read x) t h = refl
    typed_valued (Not e) t h = typed_valued e BoolTy h.1
    typed_valued (Negative e) t h = typed_valued e IntTy h.1
    typed_valued (Binary o a b) t h =
        let z = sides o (HasType a g) (HasType b g) t h in
        both (is_valued a) (is_valued b) (typed_valued a z.0.0 z.0.1) (typed_valued b z.1.0 z.1.1)
    typed_valued (Apply f es) t h = exs_valued es h.0.params h.3
    typed_valued (Select a es) t h =
        both (is_valued a) (are_valued es) (typed_valued a (MapTy h.0 t) h.1) (exs_valued es (map key_ty h.0) h.2)
    typed_valued (Update a es e) t h =
        both (is_valued a) (are_valued es && is_valued e) (typed_valued a (MapTy h.0 h.1.0) h.1.2) (both (are_valued es) (is_valued e) (exs_valued es (map key_ty h.0) h.1.3) (typed_valued e h.1.0 h.1.4))
    typed_valued (Old e) t h = typed_valued e t h

    exs_valued : (es : Exs) (ts : List Ty) → HaveTypes es g ts → are_valued es ≡ true
    exs_valued NoMore ts h = refl
    exs_valued (More e es) [] h = absurd h
    exs_valued (More e es) (t ∷ ts) h =
        both (is_valued e) (are_valued es) (typed_valued e t h.0) (exs_valued es ts h.1)

  demands_valued : (ds : List Demand) → DemandsAreTyped g ds → over_demands ds ≡ true
  demands_valued [] h = refl
  demands_valued (d ∷ ds) h =
      both (is_valued d.says) (over_demands ds) (typed_valued d.says BoolTy h.0.0) (demands_valued ds h.1)

  sayings_valued : (ds : List Saying) → SayingsAreTyped g ds → over_sayings ds ≡ true
  sayings_valued [] h = refl
  sayings_valued (d ∷ ds) h =
      both (is_valued d.says) (over_sayings ds) (typed_valued d.says BoolTy h.0.0) (sayings_valued ds h.1)

module _ (p : Prog) (ds : List Decl) (constants : p.constants ≡ []) where
  here : const_types p.constants ≡ []
  here = ap const_types constants

  plan_valued : (k : Plan) → PlanIsTyped p ds k → over_plan k ≡ true
  plan_valued k h =
      both (are_valued k.args) _ (exs_valued (sig_here p ds) here k.args (types_of k.params) h.0.0)
      (both (over_demands k.needs) (over_sayings k.gives) (demands_valued (sig_with p (types_of p.globals) (types_of k.params)) here k.needs h.1.0) (sayings_valued (sig_with p (types_of p.globals) (types_of k.params ++ types_of k.results)) here k.gives h.1.1.0))

  cmd_valued : (k : Cmd) → CmdIsTyped p ds k → over_cmd k ≡ true
  cmd_valued (Check qs) h = demands_valued (sig_here p ds) here qs h
  cmd_valued (Suppose qs) h = sayings_valued (sig_here p ds) here qs h
  cmd_valued (Forget xs) h = refl
  cmd_valued (Put xs es) h = exs_valued (sig_here p ds) here es (map (ty_of p ds) xs) h.0
  cmd_valued (Perform k) h = plan_valued k h
  cmd_valued Finish h = refl

  cmds_valued : (ks : List Cmd) → CmdsAreTyped p ds ks → over_cmds ks ≡ true
  cmds_valued [] h = refl
  cmds_valued (k ∷ ks) h = both (over_cmd k) (over_cmds ks) (cmd_valued k h.0) (cmds_valued ks h.1)

  exit_valued : (x : Exit) → ExitIsTyped p ds x → over_exit x ≡ true
  exit_valued (Leap ks) h = refl
  exit_valued (Either Star on off) h = refl
  exit_valued (Either (Test e) on off) h = typed_valued (sig_here p ds) here e BoolTy h.0

  code_valued : (bs : List Block) → CodeIsTyped p ds bs → over_blocks bs ≡ true
  code_valued [] h = refl
  code_valued (b ∷ bs) h =
      both (over_cmds b.cmds) _ (cmds_valued b.cmds h.0.0)
      (both (over_exit b.exit) (over_blocks bs) (exit_valued b.exit h.0.1) (code_valued bs h.1))

empty_is : {A : Type 0} (xs : List A) → is_empty xs ≡ true → xs ≡ []
empty_is [] h = refl
empty_is (x ∷ xs) h = absurd (let bad : ⊥ = cc in bad)

-- of a program over values
pub typed_code_is_valued : (p : Prog) (ds : List Decl) → is_over_values p ≡ true → (bs : List Block) → CodeIsTyped p ds bs → over_blocks bs ≡ true
typed_code_is_valued p ds o bs h =
    let o1 = and_right (decls_pass is_value_type (fits.any_ex) p.globals) _ o in
    code_valued p ds (empty_is p.constants (and_left (is_empty p.constants) _ o1)) bs h
