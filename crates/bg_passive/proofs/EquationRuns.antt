-- Induction runs fail exactly where the equations deny the entry.
use Rattle.std.proofs.Common.{◌≡◌, ℕ, Bool, true, false, List, Some}
use Rattle.std.specs.Prelude.{◌↔◌, slice_get}
use Rattle.bg_ast.specs.Values.{Val, Ty}
use Rattle.bg_ast.specs.Syntax.{Prog, Proc, Impl}
use Rattle.bg_ast.specs.Execution.{Interp, Choice, Spot, State}
use Rattle.bg_sense.specs.Flow.{Failed}
use Rattle.bg_sense.specs.Context.{Turning}
use Rattle.bg_sense.specs.Variables.{procedure_of}
use Rattle.bg_sense.specs.Run.{context, induction_run}
use Rattle.bg_sense.specs.Interps.{IsInterp}
use Rattle.bg_sense.specs.Claims.{IsState, EachAt}
use Rattle.bg_sense.specs.Places.{places}
use Rattle.bg_sense.specs.Typing.{AreTypedBodies, IsTypedSt}
use Rattle.bg_flow.specs.Core.{frame_decls, routine_of}
use Rattle.bg_flow.specs.Blocks.{blocks_of}
use Rattle.bg_passive.specs.Equations.{is_well, equations}
use Rattle.bg_passive.specs.Incarnations.{Arrival, passives, MakesPassive, passive_scope, ValuesFrom}
use Rattle.bg_passive.specs.ReadBack.{choices_at, walk_choices}
use Rattle.bg_sense.proofs.Unions.{smaller}
use Rattle.bg_passive.proofs.DeniedWalks.{denied_where_walked}
use Rattle.bg_passive.proofs.PassiveRuns.{passive_same, read_back}

-- a failing run gives values and truth values under which the equations deny the entry
pub equations_there : (p : Prog) (set : ℕ → Bool) (i : Interp) (k : ℕ) (m : Impl) (q : Proc) (s : State) (t : Spot) (others : List Ty) (later : List Arrival) → slice_get p.implementations k ≡ Some m → procedure_of p m.procedure ≡ Some q → AreTypedBodies p → IsTypedSt (context Turning p set i k m q s) m.body → IsInterp p i → IsState p k s → MakesPassive p (frame_decls m q) others later (blocks_of (routine_of p k m q)) → ((cs : List Choice) × (induction_run p set i k s cs ≡ Failed t)) → ((V : List Val) × (ValuesFrom p (frame_decls m q) others s V × ((truths : ℕ → Bool) × (((b : ℕ) → set b ≡ true → truths b ≡ true) × (is_well (slice_get (equations truths t (passive_scope p i V) (passives later (blocks_of (routine_of p k m q)))) 0) ≡ false)))))
equations_there p set i k m q s t others later em eq bodies typed meets state f x =
    let g = (passive_same p set i k m q s t others later em eq bodies typed meets state f).0 x in
    (g.0, (g.1.0, (set, (λ b e. e, (denied_where_walked set t (passive_scope p i g.0) (passives later (blocks_of (routine_of p k m q))) 0).1 g.1.1))))

-- the equations for one target do not depend on the set, which adds units alone
pub equations_same : (p : Prog) (set : ℕ → Bool) (i : Interp) (k : ℕ) (m : Impl) (q : Proc) (s : State) (t : Spot) (others : List Ty) (later : List Arrival) → slice_get p.implementations k ≡ Some m → procedure_of p m.procedure ≡ Some q → AreTypedBodies p → IsTypedSt (context Turning p set i k m q s) m.body → IsInterp p i → IsState p k s → EachAt t set (places p) → MakesPassive p (frame_decls m q) others later (blocks_of (routine_of p k m q)) → ((cs : List Choice) × (induction_run p set i k s cs ≡ Failed t)) ↔ ((V : List Val) × (ValuesFrom p (frame_decls m q) others s V × ((truths : ℕ → Bool) × (((b : ℕ) → set b ≡ true → truths b ≡ true) × (is_well (slice_get (equations truths t (passive_scope p i V) (passives later (blocks_of (routine_of p k m q)))) 0) ≡ false)))))
equations_same p set i k m q s t others later em eq bodies typed meets state each f =
    (equations_there p set i k m q s t others later em eq bodies typed meets state f, back)
  where
    back : ((V : List Val) × (ValuesFrom p (frame_decls m q) others s V × ((truths : ℕ → Bool) × (((b : ℕ) → set b ≡ true → truths b ≡ true) × (is_well (slice_get (equations truths t (passive_scope p i V) (passives later (blocks_of (routine_of p k m q)))) 0) ≡ false))))) → ((cs : List Choice) × (induction_run p set i k s cs ≡ Failed t))
    back x =
        let truths = x.1.1.0 in
        let walk = (denied_where_walked truths t (passive_scope p i x.0) (passives later (blocks_of (routine_of p k m q))) 0).0 x.1.1.1.1 in
        let cs = choices_at (slice_get (walk_choices x.0 later (blocks_of (routine_of p k m q))) 0) walk.0 in
        (cs, smaller p truths set i k s cs t x.1.1.1.0 each (read_back p truths i k m q s t others later em eq f x.0 x.1.0 walk.0 walk.1))
