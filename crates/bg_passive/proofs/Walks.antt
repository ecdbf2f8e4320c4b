-- Walks through passive commands, and what rests on where they lead.
use Rattle.std.proofs.Common.{◌≡◌, ℕ, Bool, true, false, List, [], ◌∷◌, ◌++◌, Option, Some, None, refl}
use Rattle.std.specs.Prelude.{◌||◌, not, if◌then◌else◌}
use Rattle.bg_ast.specs.Values.{truth_of}
use Rattle.bg_sense.specs.Eval.{Scope, ev}
use Rattle.bg_sense.specs.Flow.{World, Failed, Blocked, Flow, Next, Over, and_then}
use Rattle.bg_ast.specs.Execution.{Spot}
use Rattle.bg_sense.specs.Clauses.{ensure, suppose, is_kept}
use Rattle.bg_passive.specs.Passive.{PassiveCmd, Claims, Supposes, spot_eq, is_absent, Walked, On, Stopped, Hit, walk_cmds, walk_on}

-- the walk hits the target, or goes on to where this holds
abbrev pub Hits : Walked → Type 0 → Type 0
Hits On R = R
Hits Stopped R = ⊥
Hits Hit R = Unit {0}

pub hits_map : (p : Walked) (R S : Type 0) → (R → S) → Hits p R → Hits p S
hits_map On R S f h = f h
hits_map Stopped R S f h = h
hits_map Hit R S f h = h

pub hits_walk : (p : Walked) (f : List ℕ → Bool) → Hits p ((choices : List ℕ) × (f choices ≡ true)) → (choices : List ℕ) × (walk_on p f choices ≡ true)
hits_walk On f h = h
hits_walk Stopped f h = absurd h
hits_walk Hit f h = ([], refl)

pub walk_hits : (p : Walked) (f : List ℕ → Bool) (choices : List ℕ) → walk_on p f choices ≡ true → Hits p (f choices ≡ true)
walk_hits On f choices h = h
walk_hits Stopped f choices h = absurd (let bad : ⊥ = cc in bad)
walk_hits Hit f choices h = tt

hits_claim : (x y : Bool) (p q : Walked) (R S : Type 0) → (Hits p R → Hits q S) → Hits (if x then p else (if y then Hit else Stopped)) R → Hits (if x then q else (if y then Hit else Stopped)) S
hits_claim true y p q R S f h = f h
hits_claim false true p q R S f h = h
hits_claim false false p q R S f h = h

hits_suppose : (x : Bool) (p q : Walked) (R S : Type 0) → (Hits p R → Hits q S) → Hits (if x then p else Stopped) R → Hits (if x then q else Stopped) S
hits_suppose true p q R S f h = f h
hits_suppose false p q R S f h = h

module _ (set : ℕ → Bool) (t : Spot) (c : Scope) where
  pub split_walk : (xs ys : List PassiveCmd) (R : Type 0) → Hits (walk_cmds set t c (xs ++ ys)) R → Hits (walk_cmds set t c xs) (Hits (walk_cmds set t c ys) R)
  split_walk [] ys R h = h
  split_walk (Claims s b e ∷ xs) ys R h =
      hits_claim (is_absent set b || truth_of (ev e c)) (spot_eq s t) (walk_cmds set t c (xs ++ ys)) (walk_cmds set t c xs) R (Hits (walk_cmds set t c ys) R) (split_walk xs ys R) h
  split_walk (Supposes b e ∷ xs) ys R h =
      hits_suppose (is_absent set b || truth_of (ev e c)) (walk_cmds set t c (xs ++ ys)) (walk_cmds set t c xs) R (Hits (walk_cmds set t c ys) R) (split_walk xs ys R) h

  pub join_walk : (xs ys : List PassiveCmd) (R : Type 0) → Hits (walk_cmds set t c xs) (Hits (walk_cmds set t c ys) R) → Hits (walk_cmds set t c (xs ++ ys)) R
  join_walk [] ys R h = h
  join_walk (Claims s b e ∷ xs) ys R h =
      hits_claim (is_absent set b || truth_of (ev e c)) (spot_eq s t) (walk_cmds set t c xs) (walk_cmds set t c (xs ++ ys)) (Hits (walk_cmds set t c ys) R) R (join_walk xs ys R) h
  join_walk (Supposes b e ∷ xs) ys R h =
      hits_suppose (is_absent set b || truth_of (ev e c)) (walk_cmds set t c xs) (walk_cmds set t c (xs ++ ys)) (Hits (walk_cmds set t c ys) R) R (join_walk xs ys R) h

-- one check or one assumption, by one test
pub checked : (set : ℕ → Bool) (b : Option ℕ) (truth : Bool) (s : Spot) (w : World) (K : World → Flow) → and_then (if is_kept set b then ensure truth s w else Next w) K ≡ (if is_absent set b || truth then K w else Over (Failed s))
checked set None true s w K = refl
checked set None false s w K = refl
checked set (Some b) truth s w K = by_member (set b) truth
  where
    by_member : (x y : Bool) → and_then (if x then ensure y s w else Next w) K ≡ (if not x || y then K w else Over (Failed s))
    by_member true true = refl
    by_member true false = refl
    by_member false y = refl

pub supposed : (set : ℕ → Bool) (b : Option ℕ) (truth : Bool) (w : World) (K : World → Flow) → and_then (if is_kept set b then suppose truth w else Next w) K ≡ (if is_absent set b || truth then K w else Over Blocked)
supposed set None true w K = refl
supposed set None false w K = refl
supposed set (Some b) truth w K = by_member (set b) truth
  where
    by_member : (x y : Bool) → and_then (if x then suppose y w else Next w) K ≡ (if not x || y then K w else Over Blocked)
    by_member true true = refl
    by_member true false = refl
    by_member false y = refl
