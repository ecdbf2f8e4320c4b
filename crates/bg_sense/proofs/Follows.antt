-- What the source run does, the induction run can do by choices of its own.
use Rattle.std.proofs.Common.{◌≡◌, ℕ, zero, suc, Bool, true, false, List, [], ◌∷◌, ◌++◌, length, refl, ap, ◌∙◌, inl, inr, append_assoc}
use Rattle.std.specs.Prelude.{◌⊎◌, if◌then◌else◌, ◌==◌, nat_lt}
use Rattle.bg_ast.specs.Values.{Val, Ty, is_of, truth_of}
use Rattle.bg_ast.specs.Syntax.{Var, Global, Local, Ex, Clause, Guard, Star, Test, Decl}
use Rattle.bg_ast.specs.Execution.{Choice, Branch, Chosen, Spot}
use Rattle.bg_sense.specs.Eval.{Scope, ev}
use Rattle.bg_sense.specs.Flow.{World, Failed, BadChoice, Point, Flow, Next, Jumps, Over, and_then, point_eq, land}
use Rattle.bg_sense.specs.Context.{Turning, Ctx, spend, step, scope}
use Rattle.bg_sense.specs.Clauses.{ensure, suppose, is_checked, check, check_all, suppose_that, suppose_all}
use Rattle.bg_sense.specs.Variables.{put, put_all, type_in, decl_of}
use Rattle.bg_sense.specs.Choices.{choose_from, choose, branch_from, branch, forget_all, choose_all, decide}
use Rattle.bg_sense.specs.Statements.{label_at, jump}
use Rattle.bg_sense.proofs.Stays.{turning, cutting}

-- a moment of the induction run, which counts no steps
abbrev pub at : List Val → List Val → List Choice → World
at g r cs = record { globals = g; frame = r; choices = cs; left = 0 }

-- the same outcome, with these choices left
abbrev pub shown : Flow → List Choice → Flow
shown (Next w) cs = Next (at w.globals w.frame cs)
shown (Jumps p w) cs = Jumps p (at w.globals w.frame cs)
shown (Over a) cs = Over a

-- an execution that is over without a failure
abbrev pub Silent : Flow → Type 0
Silent (Over (Failed t)) = ⊥
Silent (Over _) = Unit {0}
Silent _ = ⊥

-- by some choices F comes from these values to this outcome, and leaves the choices behind them
abbrev pub Shows : (World → Flow) → List Val → List Val → Flow → Type 0
Shows F g r f = (cs : List Choice) × ((rest : List Choice) → F (at g r (cs ++ rest)) ≡ shown f rest)

abbrev pub Follows : (World → Flow) → List Val → List Val → Flow → Type 0
Follows F g r f = Silent f ⊎ Shows F g r f

-- the same from where an execution stands
abbrev pub FollowsAt : (World → Flow) → World → Flow → Type 0
FollowsAt F w f = Follows F w.globals w.frame f

pub and_then_follows : (F : World → Flow) (g r : List Val) (f : Flow) (K k : World → Flow) → Follows F g r f → ((w : World) → f ≡ Next w → FollowsAt K w (k w)) → Follows (λ v. and_then (F v) K) g r (and_then f k)
and_then_follows F g r (Next w) K k (inl h) next = absurd h
and_then_follows F g r (Jumps p w) K k (inl h) next = absurd h
and_then_follows F g r (Over a) K k (inl h) next = inl h
and_then_follows F g r (Next w) K k (inr h) next = on (next w refl)
  where
    on : FollowsAt K w (k w) → Follows (λ v. and_then (F v) K) g r (k w)
    on (inl s) = inl s
    on (inr s) =
        inr (h.0 ++ s.0, λ rest. ap (λ l. and_then (F (at g r l)) K) (append_assoc h.0 s.0 rest) ∙ ap (λ x. and_then x K) (h.1 (s.0 ++ rest)) ∙ s.1 rest)
and_then_follows F g r (Jumps p w) K k (inr h) next = inr (h.0, λ rest. ap (λ x. and_then x K) (h.1 rest))
and_then_follows F g r (Over a) K k (inr h) next = inr (h.0, λ rest. ap (λ x. and_then x K) (h.1 rest))

-- one choice first
pub first_follows : (F G : World → Flow) (g r : List Val) (f : Flow) (x : Choice) → ((rest : List Choice) → F (at g r (x ∷ rest)) ≡ G (at g r rest)) → Follows G g r f → Follows F g r f
first_follows F G g r f x e (inl s) = inl s
first_follows F G g r f x e (inr s) = inr (x ∷ s.0, λ rest. e (s.0 ++ rest) ∙ s.1 rest)

-- another function that does the same
pub same_follows : (F G : World → Flow) (g r : List Val) (f : Flow) → ((cs : List Choice) → F (at g r cs) ≡ G (at g r cs)) → Follows G g r f → Follows F g r f
same_follows F G g r f e (inl s) = inl s
same_follows F G g r f e (inr s) = inr (s.0, λ rest. e (s.0 ++ rest) ∙ s.1 rest)

pub if_follows : (b : Bool) (F G : World → Flow) (g r : List Val) (f h : Flow) → Follows F g r f → Follows G g r h → Follows (λ v. if b then F v else G v) g r (if b then f else h)
if_follows true F G g r f h x y = x
if_follows false F G g r f h x y = y

spend_follows : (n : ℕ) (w : World) → FollowsAt Next w (spend n w)
spend_follows zero w = inl tt
spend_follows (suc n) w = inr ([], λ rest. refl)

pub step_follows : (w : World) → FollowsAt Next w (step Turning w)
step_follows w = spend_follows w.left w

ensure_follows : (b : Bool) (s : Spot) (w : World) → FollowsAt (ensure b s) w (ensure b s w)
ensure_follows true s w = inr ([], λ rest. refl)
ensure_follows false s w = inr ([], λ rest. refl)

suppose_follows : (b : Bool) (w : World) → FollowsAt (suppose b) w (suppose b w)
suppose_follows true w = inr ([], λ rest. refl)
suppose_follows false w = inl tt

-- both runs see the same names, which do not depend on choices and steps
abbrev pub Alike : (World → Scope) → (World → Scope) → Type 0
Alike sees sees' = (w : World) (cs : List Choice) → sees' (at w.globals w.frame cs) ≡ sees w

pub check_follows : (c : Ctx) (spot : ℕ → Spot) (sees sees' : World → Scope) → Alike sees sees' → (k : Clause) (w : World) → FollowsAt (check (cutting c) spot sees' k) w (check (turning c) spot sees k w)
check_follows c spot sees sees' alike k w =
    if_follows
    (is_checked c.set k)
    (λ v. and_then (Next v) (λ u. ensure (truth_of (ev k.says (sees' u))) (spot k.id) u))
    Next
    w.globals
    w.frame
    (and_then (step Turning w) (λ u. ensure (truth_of (ev k.says (sees u))) (spot k.id) u))
    (Next w)
    (and_then_follows
    Next
    w.globals
    w.frame
    (step Turning w)
    (λ u. ensure (truth_of (ev k.says (sees' u))) (spot k.id) u)
    (λ u. ensure (truth_of (ev k.says (sees u))) (spot k.id) u)
    (step_follows w)
    (λ u e. same_follows
    (λ v. ensure (truth_of (ev k.says (sees' v))) (spot k.id) v)
    (ensure (truth_of (ev k.says (sees u))) (spot k.id))
    u.globals
    u.frame
    (ensure (truth_of (ev k.says (sees u))) (spot k.id) u)
    (λ cs. ap (λ x. ensure (truth_of (ev k.says x)) (spot k.id) (at u.globals u.frame cs)) (alike u cs))
    (ensure_follows (truth_of (ev k.says (sees u))) (spot k.id) u)))
    (inr ([], λ rest. refl))

pub check_all_follows : (c : Ctx) (spot : ℕ → Spot) (sees sees' : World → Scope) → Alike sees sees' → (ks : List Clause) (w : World) → FollowsAt (check_all (cutting c) spot sees' ks) w (check_all (turning c) spot sees ks w)
check_all_follows c spot sees sees' alike [] w = inr ([], λ rest. refl)
check_all_follows c spot sees sees' alike (k ∷ ks) w =
    and_then_follows
    (check (cutting c) spot sees' k)
    w.globals
    w.frame
    (check (turning c) spot sees k w)
    (check_all (cutting c) spot sees' ks)
    (check_all (turning c) spot sees ks)
    (check_follows c spot sees sees' alike k w)
    (λ u e. check_all_follows c spot sees sees' alike ks u)

pub suppose_that_follows : (c : Ctx) (sees sees' : World → Scope) → Alike sees sees' → (e : Ex) (w : World) → FollowsAt (suppose_that (cutting c) sees' e) w (suppose_that (turning c) sees e w)
suppose_that_follows c sees sees' alike e w =
    and_then_follows
    Next
    w.globals
    w.frame
    (step Turning w)
    (λ u. suppose (truth_of (ev e (sees' u))) u)
    (λ u. suppose (truth_of (ev e (sees u))) u)
    (step_follows w)
    (λ u q. same_follows
    (λ v. suppose (truth_of (ev e (sees' v))) v)
    (suppose (truth_of (ev e (sees u))))
    u.globals
    u.frame
    (suppose (truth_of (ev e (sees u))) u)
    (λ cs. ap (λ x. suppose (truth_of (ev e x)) (at u.globals u.frame cs)) (alike u cs))
    (suppose_follows (truth_of (ev e (sees u))) u))

pub suppose_all_follows : (c : Ctx) (sees sees' : World → Scope) → Alike sees sees' → (es : List Ex) (w : World) → FollowsAt (suppose_all (cutting c) sees' es) w (suppose_all (turning c) sees es w)
suppose_all_follows c sees sees' alike [] w = inr ([], λ rest. refl)
suppose_all_follows c sees sees' alike (e ∷ es) w =
    and_then_follows
    (suppose_that (cutting c) sees' e)
    w.globals
    w.frame
    (suppose_that (turning c) sees e w)
    (suppose_all (cutting c) sees' es)
    (suppose_all (turning c) sees es)
    (suppose_that_follows c sees sees' alike e w)
    (λ u q. suppose_all_follows c sees sees' alike es u)

choose_if_follows : (b : Bool) (F : World → Flow) (G : World → Flow) (g r : List Val) (f : Flow) (v : Val) (t : Ty) → is_of t v ≡ b → ((rest : List Choice) → F (at g r (Chosen v ∷ rest)) ≡ (if is_of t v then G (at g r rest) else Over BadChoice)) → Follows G g r f → Follows F g r (if b then f else Over BadChoice)
choose_if_follows true F G g r f v t e h x =
    first_follows F G g r f (Chosen v) (λ rest. h rest ∙ ap (λ b. if b then G (at g r rest) else Over BadChoice) e) x
choose_if_follows false F G g r f v t e h x = inl tt

choose_from_follows : (cs : List Choice) (t : Ty) (w : World) (K k : Val → World → Flow) → ((v : Val) (u : World) → FollowsAt (K v) u (k v u)) → FollowsAt (λ u. choose t u K) w (choose_from cs t w k)
choose_from_follows [] t w K k h = inl tt
choose_from_follows (Branch n ∷ cs) t w K k h = inl tt
choose_from_follows (Chosen v ∷ cs) t w K k h =
    choose_if_follows
    (is_of t v)
    (λ u. choose t u K)
    (K v)
    w.globals
    w.frame
    (k v (record w { choices = cs }))
    v
    t
    refl
    (λ rest. refl)
    (h v (record w { choices = cs }))

branch_if_follows : (b : Bool) (F : World → Flow) (G : World → Flow) (g r : List Val) (f : Flow) (j n : ℕ) → nat_lt j n ≡ b → ((rest : List Choice) → F (at g r (Branch j ∷ rest)) ≡ (if nat_lt j n then G (at g r rest) else Over BadChoice)) → Follows G g r f → Follows F g r (if b then f else Over BadChoice)
branch_if_follows true F G g r f j n e h x =
    first_follows F G g r f (Branch j) (λ rest. h rest ∙ ap (λ b. if b then G (at g r rest) else Over BadChoice) e) x
branch_if_follows false F G g r f j n e h x = inl tt

branch_from_follows : (cs : List Choice) (n : ℕ) (w : World) (K k : ℕ → World → Flow) → ((j : ℕ) (u : World) → FollowsAt (K j) u (k j u)) → FollowsAt (λ u. branch n u K) w (branch_from cs n w k)
branch_from_follows [] n w K k h = inl tt
branch_from_follows (Chosen v ∷ cs) n w K k h = inl tt
branch_from_follows (Branch j ∷ cs) n w K k h =
    branch_if_follows
    (nat_lt j n)
    (λ u. branch n u K)
    (K j)
    w.globals
    w.frame
    (k j (record w { choices = cs }))
    j
    n
    refl
    (λ rest. refl)
    (h j (record w { choices = cs }))

-- a write changes neither choices nor steps
pub put_at : (x : Var) (v : Val) (w : World) (cs : List Choice) → put x v (at w.globals w.frame cs) ≡ at (put x v w).globals (put x v w).frame cs
put_at (Global x) v w cs = refl
put_at (Local x) v w cs = refl

pub put_all_at : (xs : List Var) (vs : List Val) (w : World) (cs : List Choice) → put_all xs vs (at w.globals w.frame cs) ≡ at (put_all xs vs w).globals (put_all xs vs w).frame cs
put_all_at [] vs w cs = refl
put_all_at (x ∷ xs) [] w cs = refl
put_all_at (x ∷ xs) (v ∷ vs) w cs = ap (put_all xs vs) (put_at x v w cs) ∙ put_all_at xs vs (put x v w) cs

pub forget_all_follows : (c : Ctx) (xs : List Var) (w : World) → FollowsAt (forget_all (cutting c) xs) w (forget_all (turning c) xs w)
forget_all_follows c [] w = inr ([], λ rest. refl)
forget_all_follows c (x ∷ xs) w =
    choose_from_follows
    w.choices
    (type_in (decl_of (turning c) x))
    w
    (λ v u. forget_all (cutting c) xs (put x v u))
    (λ v u. forget_all (turning c) xs (put x v u))
    (λ v u. same_follows
    (λ t. forget_all (cutting c) xs (put x v t))
    (λ t. forget_all (cutting c) xs (at (put x v u).globals (put x v u).frame t.choices))
    u.globals
    u.frame
    (forget_all (turning c) xs (put x v u))
    (λ cs. ap (forget_all (cutting c) xs) (put_at x v u cs))
    (moved (put x v u) u.globals u.frame (forget_all_follows c xs (put x v u))))
  where
    moved : (w : World) (g r : List Val) → FollowsAt (forget_all (cutting c) xs) w (forget_all (turning c) xs w) → Follows (λ t. forget_all (cutting c) xs (at w.globals w.frame t.choices)) g r (forget_all (turning c) xs w)
    moved w g r (inl s) = inl s
    moved w g r (inr s) = inr (s.0, s.1)

pub choose_all_follows : (ds : List Decl) (w : World) (K k : List Val → World → Flow) → ((vs : List Val) (u : World) → FollowsAt (K vs) u (k vs u)) → FollowsAt (λ u. choose_all ds u K) w (choose_all ds w k)
choose_all_follows [] w K k h = h [] w
choose_all_follows (d ∷ ds) w K k h =
    choose_from_follows
    w.choices
    d.ty
    w
    (λ v u. choose_all ds u (λ vs x. K (v ∷ vs) x))
    (λ v u. choose_all ds u (λ vs x. k (v ∷ vs) x))
    (λ v u. choose_all_follows ds u (λ vs x. K (v ∷ vs) x) (λ vs x. k (v ∷ vs) x) (λ vs x. h (v ∷ vs) x))

pub decide_follows : (c : Ctx) (g : Guard) (w : World) (K k L l : World → Flow) → ((u : World) → FollowsAt K u (k u)) → ((u : World) → FollowsAt L u (l u)) → FollowsAt (λ u. decide (cutting c) g u K L) w (decide (turning c) g w k l)
decide_follows c Star w K k L l on off =
    branch_from_follows
    w.choices
    2
    w
    (λ j u. if j == 0 then K u else L u)
    (λ j u. if j == 0 then k u else l u)
    (λ j u. if_follows (j == 0) K L u.globals u.frame (k u) (l u) (on u) (off u))
decide_follows c (Test e) w K k L l on off =
    same_follows
    (λ u. decide (cutting c) (Test e) u K L)
    (λ u. if truth_of (ev e (scope (turning c) w)) then K u else L u)
    w.globals
    w.frame
    (decide (turning c) (Test e) w k l)
    (λ cs. refl)
    (if_follows (truth_of (ev e (scope (turning c) w))) K L w.globals w.frame (k w) (l w) (on w) (off w))

land_shown : (b : Bool) (q : Point) (w : World) (cs : List Choice) → (if b then Next (at w.globals w.frame cs) else Jumps q (at w.globals w.frame cs)) ≡ shown (if b then Next w else Jumps q w) cs
land_shown true q w cs = refl
land_shown false q w cs = refl

pub land_follows : (p : Point) (F : World → Flow) (g r : List Val) (f : Flow) → Follows F g r f → Follows (λ v. land p (F v)) g r (land p f)
land_follows p F g r (Next w) (inl h) = absurd h
land_follows p F g r (Jumps q w) (inl h) = absurd h
land_follows p F g r (Over a) (inl h) = inl h
land_follows p F g r (Next w) (inr h) = inr (h.0, λ rest. ap (land p) (h.1 rest))
land_follows p F g r (Jumps q w) (inr h) =
    inr (h.0, λ rest. ap (land p) (h.1 rest) ∙ land_shown (point_eq p q) q w rest)
land_follows p F g r (Over a) (inr h) = inr (h.0, λ rest. ap (land p) (h.1 rest))

pub jump_follows : (ls : List ℕ) (w : World) → FollowsAt (jump ls) w (jump ls w)
jump_follows [] w = inr ([], λ rest. refl)
jump_follows (l ∷ []) w = inr ([], λ rest. refl)
jump_follows (l ∷ m ∷ ls) w =
    branch_from_follows
    w.choices
    (suc (suc (length ls)))
    w
    (λ k u. Jumps (label_at (l ∷ m ∷ ls) k) u)
    (λ k u. Jumps (label_at (l ∷ m ∷ ls) k) u)
    (λ k u. inr ([], λ rest. refl))
