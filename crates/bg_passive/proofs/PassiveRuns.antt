-- Induction runs and walks through passive blocks fail alike.
use Rattle.std.proofs.Common.{◌≡◌, ℕ, zero, suc, Bool, true, List, [], ◌∷◌, ◌++◌, length, map, Some, refl, sym, ap, ◌∙◌, subst}
use Rattle.std.specs.Prelude.{◌↔◌, slice_get}
use Rattle.bg_ast.specs.Values.{Val, Ty, is_of}
use Rattle.bg_ast.specs.Syntax.{Var, Global, Local, Exs, Prog, Proc, Impl, Decl}
use Rattle.bg_ast.specs.Execution.{Interp, Choice, Spot, State}
use Rattle.bg_sense.specs.Eval.{evs, value_at, default_for}
use Rattle.bg_sense.specs.Flow.{World, Failed}
use Rattle.bg_sense.specs.Context.{Turning, Cut, Ctx, scope}
use Rattle.bg_sense.specs.Variables.{type_in, decl_of, count_from, procedure_of}
use Rattle.bg_sense.specs.Run.{context, start, induction_run}
use Rattle.bg_sense.specs.Types.{are_of, types_of}
use Rattle.bg_sense.specs.Interps.{IsInterp}
use Rattle.bg_sense.specs.Claims.{IsState, frame_of, frame_with}
use Rattle.bg_sense.proofs.Keeping.{AreTyped}
use Rattle.bg_sense.specs.Typing.{AreTypedBodies, IsTypedSt, HaveTypes, sig_of}
use Rattle.bg_flow.specs.Core.{frame_decls, routine_of}
use Rattle.bg_flow.specs.Blocks.{Block, at_table, table, blocks_of}
use Rattle.bg_passive.specs.Passive.{walk_at, walks, SomeWalk}
use Rattle.bg_passive.specs.Incarnations.{Arrival, passives, ty_of, entry_env, incarnations, EnvBelow, FitsBlocks, MakesPassive, first_state, passive_scope, ValuesFrom}
use Rattle.bg_passive.specs.ReadBack.{choices_at, walk_choices}
use Rattle.bg_sense.proofs.Bools.{and_left, and_right, both}
use Rattle.bg_sense.proofs.TypedRuns.{default_typed, evs_typed, suits}
use Rattle.bg_flow.proofs.BlockRuns.{blocks_same}
use Rattle.bg_passive.proofs.PassiveTyped.{blocks_typed}
use Rattle.bg_passive.proofs.Renaming.{Met, met_agree}
use Rattle.bg_passive.proofs.PassiveForward.{blocks_found}
use Rattle.bg_passive.proofs.PassiveBackward.{blocks_back}

are_append : (ts us : List Ty) (vs ws : List Val) → are_of ts vs ≡ true → are_of us ws ≡ true → are_of (ts ++ us) (vs ++ ws) ≡ true
are_append [] us [] ws e f = f
are_append [] us (v ∷ vs) ws e f = absurd (let bad : ⊥ = cc in bad)
are_append (t ∷ ts) us [] ws e f = absurd (let bad : ⊥ = cc in bad)
are_append (t ∷ ts) us (v ∷ vs) ws e f =
    both (is_of t v) (are_of (ts ++ us) (vs ++ ws)) (and_left (is_of t v) (are_of ts vs) e) (are_append ts us vs ws (and_right (is_of t v) (are_of ts vs) e) f)

defaults_typed : (ts : List Ty) → are_of ts (map default_for ts) ≡ true
defaults_typed [] = refl
defaults_typed (t ∷ ts) = both (is_of t (default_for t)) (are_of ts (map default_for ts)) (default_typed t) (defaults_typed ts)

shift : (a : Val) (V : List Val) (k n : ℕ) → map (value_at (a ∷ V)) (count_from (suc k) n) ≡ map (value_at V) (count_from k n)
shift a V k zero = refl
shift a V k (suc n) = ap (λ l. value_at V k ∷ l) (shift a V (suc k) n)

-- the first ones of a list of values
firsts : (ds : List Decl) (vs W : List Val) → are_of (types_of ds) vs ≡ true → map (value_at (vs ++ W)) (count_from 0 (length ds)) ≡ vs
firsts [] [] W e = refl
firsts [] (v ∷ vs) W e = absurd (let bad : ⊥ = cc in bad)
firsts (d ∷ ds) [] W e = absurd (let bad : ⊥ = cc in bad)
firsts (d ∷ ds) (v ∷ vs) W e =
    ap (λ l. v ∷ l) (shift v (vs ++ W) 0 (length ds) ∙ firsts ds vs W (and_right (is_of d.ty v) (are_of (types_of ds) vs) e))

-- those behind the first ones
nexts : (ds : List Decl) (vs W : List Val) (n : ℕ) → are_of (types_of ds) vs ≡ true → map (value_at (vs ++ W)) (count_from (length ds) n) ≡ map (value_at W) (count_from 0 n)
nexts [] [] W n e = refl
nexts [] (v ∷ vs) W n e = absurd (let bad : ⊥ = cc in bad)
nexts (d ∷ ds) [] W n e = absurd (let bad : ⊥ = cc in bad)
nexts (d ∷ ds) (v ∷ vs) W n e =
    shift v (vs ++ W) (length ds) n ∙ nexts ds vs W n (and_right (is_of d.ty v) (are_of (types_of ds) vs) e)

-- the first arrival has incarnations that were given out before
first_below : (incs : List Ty) (tys : Var → Ty) (a : Arrival) (later : List Arrival) (bs : List Block) → FitsBlocks incs tys (a ∷ later) bs → EnvBelow a.next a.env
first_below incs tys a later [] f = absurd f
first_below incs tys a later (b ∷ bs) f = f.0

module _ (p : Prog) (set : ℕ → Bool) (i : Interp) (k : ℕ) (m : Impl) (q : Proc) (s : State) (em : slice_get p.implementations k ≡ Some m) (eq : procedure_of p m.procedure ≡ Some q) where
  abbrev ds : List Decl
  ds = frame_decls m q

  abbrev c : Ctx
  c = context Cut p set i k m q s

  same : (x : Var) → ty_of p ds x ≡ type_in (decl_of c x)
  same (Global x) = refl
  same (Local x) = refl

  module _ (others : List Ty) (t : Spot) where
    first_met : (V : List Val) → first_state p ds V ≡ s → Met c V (entry_env p ds) s.globals s.frame
    first_met V e = (ap (λ x. x.globals) e, ap (λ x. x.frame) e, ap (λ x. x.globals) e)

    met_first : (V : List Val) → Met c V (entry_env p ds) s.globals s.frame → first_state p ds V ≡ s
    met_first V m =
        ap (λ g. state_with g (map (value_at V) (count_from (length p.globals) (length ds)))) m.0 ∙ ap (state_with s.globals) m.1
      where
        state_with : List Val → List Val → State
        state_with g r = record { globals = g; frame = r }

    abbrev incs : List Ty
    incs = incarnations p ds others

    abbrev blocks : List Block
    blocks = blocks_of (routine_of p k m q)

    backward : (later : List Arrival) → MakesPassive p ds others later blocks → (V : List Val) → ValuesFrom p ds others s V → (walk : List ℕ) → walk_at (slice_get (walks set t (passive_scope p i V) (passives later blocks)) 0) walk ≡ true → induction_run p set i k s (choices_at (slice_get (walk_choices V later blocks) 0) walk) ≡ Failed t
    backward [] f V v walk x = absurd f.0
    backward (a ∷ later) f V v walk x =
        let metA : Met c V a.env s.globals s.frame = subst (λ u. Met c V u s.globals s.frame) (sym f.0) (first_met V v.first) in
        sym (blocks_same p set i k m q s (choices_at (slice_get (walk_choices V (a ∷ later) blocks) 0) walk) em eq)
        ∙ blocks_back incs c t (ty_of p ds) same V v.typed blocks (a ∷ later) f.1 0 (start s [] 0) metA walk x

    module _ (bodies : AreTypedBodies p) (typed : IsTypedSt (context Turning p set i k m q s) m.body) (typed_interp : IsInterp p i) (state : IsState p k s) where
      frame_typed : are_of (types_of ds) s.frame ≡ true
      frame_typed =
          let frame : frame_of p (slice_get p.implementations k) ≡ ds = ap (frame_of p) em ∙ ap (λ x. frame_with x m) eq in
          subst (λ l. are_of (types_of l) s.frame ≡ true) frame state.frame

      args_typed : (es : Exs) (ts : List Ty) (w : World) → HaveTypes es (sig_of c) ts → AreTyped c w.globals w.frame → are_of ts (evs es (scope c w)) ≡ true
      args_typed es ts w h ty =
          evs_typed es (sig_of c) ts (scope c w) h (suits c typed_interp.constants typed_interp.tables bodies state.globals w ty)

      forward : (later : List Arrival) → MakesPassive p ds others later blocks → (cs : List Choice) → induction_run p set i k s cs ≡ Failed t → (V : List Val) × (ValuesFrom p ds others s V × SomeWalk set t (passive_scope p i V) (passives later blocks) 0)
      forward [] f cs x = absurd f.0
      forward (a ∷ later) f cs x =
          let V0 = s.globals ++ (s.frame ++ map default_for others) in
          let typed0 = are_append (types_of p.globals) (types_of ds ++ others) s.globals (s.frame ++ map default_for others) state.globals (are_append (types_of ds) others s.frame (map default_for others) frame_typed (defaults_typed others)) in
          let w = start s cs 0 in
          let g0 = firsts p.globals s.globals (s.frame ++ map default_for others) state.globals in
          let r0 = nexts p.globals s.globals (s.frame ++ map default_for others) (length ds) state.globals ∙ firsts ds s.frame (map default_for others) frame_typed in
          let met0 : Met c V0 (entry_env p ds) s.globals s.frame = (g0, r0, g0) in
          let metA : Met c V0 a.env s.globals s.frame = subst (λ v. Met c V0 v s.globals s.frame) (sym f.0) met0 in
          let tb = blocks_typed (context Turning p set i k m q s) m q k refl typed in
          let run : at_table (table c [] blocks) 0 w ≡ Failed t = blocks_same p set i k m q s cs em eq ∙ x in
          let found = blocks_found incs c t (sig_of c) (ty_of p ds) same args_typed blocks (a ∷ later) f.1 tb 0 w V0 metA (state.globals, frame_typed) typed0 run in
          let V = found.0 in
          let metV : Met c V a.env s.globals s.frame = met_agree c a.next V0 V a.env s.globals s.frame (first_below incs (ty_of p ds) a later blocks f.1) found.1.0 metA in
          (V, (record { typed = found.1.1.0; first = met_first V (subst (λ v. Met c V v s.globals s.frame) f.0 metV) }, found.1.1.1))

pub passive_same : (p : Prog) (set : ℕ → Bool) (i : Interp) (k : ℕ) (m : Impl) (q : Proc) (s : State) (t : Spot) (others : List Ty) (later : List Arrival) → slice_get p.implementations k ≡ Some m → procedure_of p m.procedure ≡ Some q → AreTypedBodies p → IsTypedSt (context Turning p set i k m q s) m.body → IsInterp p i → IsState p k s → MakesPassive p (frame_decls m q) others later (blocks_of (routine_of p k m q)) → ((cs : List Choice) × (induction_run p set i k s cs ≡ Failed t)) ↔ ((V : List Val) × (ValuesFrom p (frame_decls m q) others s V × SomeWalk set t (passive_scope p i V) (passives later (blocks_of (routine_of p k m q))) 0))
passive_same p set i k m q s t others later em eq bodies typed meets state f =
    (λ x. forward p set i k m q s em eq others t bodies typed meets state later f x.0 x.1, λ x. (choices_at (slice_get (walk_choices x.0 later (blocks_of (routine_of p k m q))) 0) x.1.1.0, backward p set i k m q s em eq others t later f x.0 x.1.0 x.1.1.0 x.1.1.1))

pub read_back : (p : Prog) (set : ℕ → Bool) (i : Interp) (k : ℕ) (m : Impl) (q : Proc) (s : State) (t : Spot) (others : List Ty) (later : List Arrival) → slice_get p.implementations k ≡ Some m → procedure_of p m.procedure ≡ Some q → MakesPassive p (frame_decls m q) others later (blocks_of (routine_of p k m q)) → (V : List Val) → ValuesFrom p (frame_decls m q) others s V → (walk : List ℕ) → walk_at (slice_get (walks set t (passive_scope p i V) (passives later (blocks_of (routine_of p k m q)))) 0) walk ≡ true → induction_run p set i k s (choices_at (slice_get (walk_choices V later (blocks_of (routine_of p k m q))) 0) walk) ≡ Failed t
read_back p set i k m q s t others later em eq f V v walk x = backward p set i k m q s em eq others t later f V v walk x
