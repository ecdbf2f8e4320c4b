-- Ways on from a block, form by form.
use Rattle.std.proofs.Common.{◌≡◌, ◌<◌, ◌≤◌, ℕ, zero, suc, List, [], ◌∷◌, ◌++◌, length, map, drop, refl, sym, ap, arith}
use Rattle.std.specs.Prelude.{slice_get, get_or}
use Rattle.bg_flow.specs.Blocks.{Leap}
use Rattle.bg_passive.specs.Incarnations.{Env, Arrival, joins, join_env, edge_to, edges}
use Rattle.bg_incarnate.specs.declared.arrived.Arrived.{Arrived}
use Rattle.bg_incarnate.specs.Views.{held_env}
use Rattle.bg_incarnate.specs.Arrived.{arrival_of}

pub joins_none : (is : List ℕ) → joins is [] ≡ []
joins_none [] = refl
joins_none (i ∷ is) = refl

-- no incarnation is left to join
pub joins_past : (is js : List ℕ) (k : ℕ) → length js ≤ k → joins is (drop k js) ≡ []
joins_past is [] zero h = joins_none is
joins_past is [] (suc k) h = joins_none is
joins_past is (j ∷ js) zero h = absurd (omega (arith, h))
joins_past is (j ∷ js) (suc k) h = joins_past is js k (omega (arith, h))

pub arrival-None : (v : Env) (later : List Arrived) (k : ℕ) → length later ≤ k → join_env v (slice_get (map arrival_of later) k) ≡ []
arrival-None v [] k h = refl
arrival-None v (a ∷ later) zero h = absurd (omega (arith, h))
arrival-None v (a ∷ later) (suc k) h = arrival-None v later k (omega (arith, h))

pub arrival-Some : (v : Env) (later : List Arrived) (k : ℕ) (a : Arrived) → k < length later → a ≡ get_or later k a → join_env v (slice_get (map arrival_of later) k) ≡ joins v.globals (held_env a.held).globals ++ joins v.frame (held_env a.held).frame
arrival-Some v [] k a h e = absurd (omega (arith, h))
arrival-Some v (b ∷ later) zero a h e = ap (λ (c : Arrived). joins v.globals (held_env c.held).globals ++ joins v.frame (held_env c.held).frame) (sym e)
arrival-Some v (b ∷ later) (suc k) a h e = arrival-Some v later k a (omega (arith, h)) e

pub ruleset join_forms = (joins_past, joins_none, arrival-None, arrival-Some)

-- the ways of a jump that names blocks
pub edges_leap : (v : Env) (later : List Arrival) (ks : List ℕ) → 0 < length ks → edges v later (Leap ks) ≡ map (edge_to v later []) ks
edges_leap v later [] h = absurd (omega (arith, h))
edges_leap v later (k ∷ ks) h = refl
