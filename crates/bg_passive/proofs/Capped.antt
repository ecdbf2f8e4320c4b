-- A typed implementation whose equations deny nothing is safe.
use Rattle.std.proofs.Common.{◌≡◌, ℕ, Bool, true, false, List, Some, sym, ap, ◌∙◌}
use Rattle.std.specs.Prelude.{slice_get, Contains}
use Rattle.bg_ast.specs.Values.{Val}
use Rattle.bg_ast.specs.Syntax.{Prog, Proc, Impl}
use Rattle.bg_ast.specs.Execution.{Interp, State, Place}
use Rattle.bg_sense.specs.Clauses.{is_kept}
use Rattle.bg_sense.specs.Flow.{Failed}
use Rattle.bg_sense.specs.Context.{Turning}
use Rattle.bg_sense.specs.Variables.{procedure_of}
use Rattle.bg_sense.specs.Run.{context}
use Rattle.bg_sense.specs.Places.{places}
use Rattle.bg_sense.specs.Interps.{Meets}
use Rattle.bg_sense.specs.Claims.{IsState, Safe}
use Rattle.bg_sense.specs.Typing.{AreTypedBodies, IsTypedSt}
use Rattle.bg_flow.specs.Core.{still, frame_decls, routine_of}
use Rattle.bg_flow.specs.Blocks.{blocks_of}
use Rattle.bg_passive.specs.Equations.{is_well, equations}
use Rattle.bg_passive.specs.Incarnations.{passives, passive_scope, ValuesFrom}
use Rattle.bg_passive.specs.Arrivals.{arrived}
use Rattle.bg_sense.proofs.Sound.{safe_from_cut}
use Rattle.bg_sense.proofs.OnlyPlaces.{induction_fails_at_places}
use Rattle.bg_passive.proofs.Arriving.{arrived_fit}
use Rattle.bg_passive.proofs.EquationRuns.{equations_there}

pub capped : (p : Prog) (set : ℕ → Bool) (k : ℕ) (m : Impl) (q : Proc) → slice_get p.implementations k ≡ Some m → procedure_of p m.procedure ≡ Some q → AreTypedBodies p → IsTypedSt (still p (frame_decls m q)) m.body → ((t : Place) (i : Interp) (s : State) (values : List Val) (truths : ℕ → Bool) → Contains (places p) t → t.implementation ≡ k → is_kept set t.candidate ≡ true → Meets p i → IsState p k s → ValuesFrom p (frame_decls m q) (arrived p (frame_decls m q) (blocks_of (routine_of p k m q))).made s values → ((b : ℕ) → set b ≡ true → truths b ≡ true) → is_well (slice_get (equations truths t.spot (passive_scope p i values) (passives (arrived p (frame_decls m q) (blocks_of (routine_of p k m q))).arrivals (blocks_of (routine_of p k m q)))) 0) ≡ false → ⊥) → Safe p set k
capped p set k m q em eq bodies typed none =
    let ds = frame_decls m q in
    let bs = blocks_of (routine_of p k m q) in
    let a = arrived p ds bs in
    let here : (i : Interp) (s : State) → IsTypedSt (context Turning p set i k m q s) m.body = λ i s. typed in
    safe_from_cut p set k m q em eq bodies here (λ i s cs spot meets state e.
    let u = induction_fails_at_places p set i k m q s cs spot em eq e in
    let x = equations_there p set i k m q s u.0.spot a.made a.arrivals em eq bodies (here i s) meets.interp state (arrived_fit p set i k m q s (here i s)) (cs, e ∙ ap Failed (sym u.1.1.0)) in
    none u.0 i s x.0 x.1.1.0 u.1.0 u.1.1.1.0 u.1.1.1.1 meets state x.1.0 x.1.1.1.0 x.1.1.1.1)
