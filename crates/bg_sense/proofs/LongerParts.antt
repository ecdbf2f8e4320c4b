-- Parts of an execution that is over stay over, however many more steps they are given.
use Rattle.std.proofs.Common.{◌≡◌, ℕ, zero, suc, Bool, true, false, List, [], ◌∷◌, refl, sym, ap, ◌∙◌, subst, inl, inr}
use Rattle.std.specs.Prelude.{◌⊎◌, if◌then◌else◌, ◌==◌, nat_lt}
use Rattle.bg_ast.specs.Values.{Val, Ty, is_of, truth_of}
use Rattle.bg_ast.specs.Syntax.{Var, Global, Local, Ex, Clause, Guard, Star, Test, Decl}
use Rattle.bg_ast.specs.Execution.{Choice, Branch, Chosen, Spot}
use Rattle.bg_sense.specs.Eval.{Scope, ev}
use Rattle.bg_sense.specs.Flow.{World, Going, BadChoice, Point, Flow, Next, Jumps, Over, and_then, point_eq, land}
use Rattle.bg_sense.specs.Context.{Loops, Turning, Cut, Ctx, spend, step, scope}
use Rattle.bg_sense.specs.Clauses.{ensure, suppose, is_checked, check, check_all, suppose_that, suppose_all}
use Rattle.bg_sense.specs.Variables.{put, put_all, type_in, decl_of}
use Rattle.bg_sense.specs.Choices.{choose_from, branch_from, forget_all, choose_all, decide}

-- the same moment with one more step left
abbrev pub more : World → World
more w = record { globals = w.globals; frame = w.frame; choices = w.choices; left = suc w.left }

abbrev pub more_flow : Flow → Flow
more_flow (Next w) = Next (more w)
more_flow (Jumps p w) = Jumps p (more w)
more_flow (Over a) = Over a

-- the second is the first with one more step left, unless the first has run out of steps
abbrev pub Longer : Flow → Flow → Type 0
Longer f g = (f ≡ Over Going) ⊎ (g ≡ more_flow f)

pub and_then_longer : (f g : Flow) (k l : World → Flow) → Longer f g → ((w : World) → Longer (k w) (l (more w))) → Longer (and_then f k) (and_then g l)
and_then_longer f g k l (inl e) h = inl (ap (λ x. and_then x k) e)
and_then_longer (Next w) g k l (inr e) h = subst (λ x. Longer (k w) (and_then x l)) (sym e) (h w)
and_then_longer (Jumps p w) g k l (inr e) h = inr (ap (λ x. and_then x l) e)
and_then_longer (Over a) g k l (inr e) h = inr (ap (λ x. and_then x l) e)

pub if_longer : (b : Bool) (f g h k : Flow) → Longer f g → Longer h k → Longer (if b then f else h) (if b then g else k)
if_longer true f g h k x y = x
if_longer false f g h k x y = y

pub spend_longer : (n : ℕ) (w : World) → n ≡ w.left → Longer (spend n w) (spend (suc n) (more w))
spend_longer zero w e = inl refl
spend_longer (suc n) w e = inr refl

pub step_longer : (l : Loops) (w : World) → Longer (step l w) (step l (more w))
step_longer Turning w = spend_longer w.left w refl
step_longer Cut w = inr refl

pub land_jump : (b : Bool) (q : Point) (w : World) → (if b then Next (more w) else Jumps q (more w)) ≡ more_flow (if b then Next w else Jumps q w)
land_jump true q w = refl
land_jump false q w = refl

pub land_longer : (p : Point) (f g : Flow) → Longer f g → Longer (land p f) (land p g)
land_longer p f g (inl e) = inl (ap (land p) e)
land_longer p (Next w) g (inr e) = inr (ap (land p) e)
land_longer p (Jumps q w) g (inr e) = inr (ap (land p) e ∙ land_jump (point_eq p q) q w)
land_longer p (Over a) g (inr e) = inr (ap (land p) e)

pub ensure_longer : (b : Bool) (s : Spot) (w : World) → Longer (ensure b s w) (ensure b s (more w))
ensure_longer true s w = inr refl
ensure_longer false s w = inr refl

pub suppose_longer : (b : Bool) (w : World) → Longer (suppose b w) (suppose b (more w))
suppose_longer true w = inr refl
suppose_longer false w = inr refl

-- what names mean does not depend on the steps that are left
abbrev pub Blind : (World → Scope) → Type 0
Blind sees = (w : World) → sees (more w) ≡ sees w

pub check_longer : (c : Ctx) (spot : ℕ → Spot) (sees : World → Scope) → Blind sees → (k : Clause) (w : World) → Longer (check c spot sees k w) (check c spot sees k (more w))
check_longer c spot sees blind k w =
    if_longer
    (is_checked c.set k)
    (and_then (step c.loops w) (λ v. ensure (truth_of (ev k.says (sees v))) (spot k.id) v))
    (and_then (step c.loops (more w)) (λ v. ensure (truth_of (ev k.says (sees v))) (spot k.id) v))
    (Next w)
    (Next (more w))
    (and_then_longer
    (step c.loops w)
    (step c.loops (more w))
    (λ v. ensure (truth_of (ev k.says (sees v))) (spot k.id) v)
    (λ v. ensure (truth_of (ev k.says (sees v))) (spot k.id) v)
    (step_longer c.loops w)
    (λ v. subst (λ x. Longer (ensure (truth_of (ev k.says (sees v))) (spot k.id) v) (ensure (truth_of (ev k.says x)) (spot k.id) (more v))) (sym (blind v)) (ensure_longer (truth_of (ev k.says (sees v))) (spot k.id) v)))
    (inr refl)

pub check_all_longer : (c : Ctx) (spot : ℕ → Spot) (sees : World → Scope) → Blind sees → (ks : List Clause) (w : World) → Longer (check_all c spot sees ks w) (check_all c spot sees ks (more w))
check_all_longer c spot sees blind [] w = inr refl
check_all_longer c spot sees blind (k ∷ ks) w =
    and_then_longer
    (check c spot sees k w)
    (check c spot sees k (more w))
    (check_all c spot sees ks)
    (check_all c spot sees ks)
    (check_longer c spot sees blind k w)
    (check_all_longer c spot sees blind ks)

pub suppose_that_longer : (c : Ctx) (sees : World → Scope) → Blind sees → (e : Ex) (w : World) → Longer (suppose_that c sees e w) (suppose_that c sees e (more w))
suppose_that_longer c sees blind e w =
    and_then_longer
    (step c.loops w)
    (step c.loops (more w))
    (λ v. suppose (truth_of (ev e (sees v))) v)
    (λ v. suppose (truth_of (ev e (sees v))) v)
    (step_longer c.loops w)
    (λ v. subst (λ x. Longer (suppose (truth_of (ev e (sees v))) v) (suppose (truth_of (ev e x)) (more v))) (sym (blind v)) (suppose_longer (truth_of (ev e (sees v))) v))

pub suppose_all_longer : (c : Ctx) (sees : World → Scope) → Blind sees → (es : List Ex) (w : World) → Longer (suppose_all c sees es w) (suppose_all c sees es (more w))
suppose_all_longer c sees blind [] w = inr refl
suppose_all_longer c sees blind (e ∷ es) w =
    and_then_longer
    (suppose_that c sees e w)
    (suppose_that c sees e (more w))
    (suppose_all c sees es)
    (suppose_all c sees es)
    (suppose_that_longer c sees blind e w)
    (suppose_all_longer c sees blind es)

pub choose_from_longer : (cs : List Choice) (t : Ty) (w : World) (k l : Val → World → Flow) → ((v : Val) (u : World) → Longer (k v u) (l v (more u))) → Longer (choose_from cs t w k) (choose_from cs t (more w) l)
choose_from_longer [] t w k l h = inr refl
choose_from_longer (Branch n ∷ cs) t w k l h = inr refl
choose_from_longer (Chosen v ∷ cs) t w k l h =
    if_longer
    (is_of t v)
    (k v (record w { choices = cs }))
    (l v (record (more w) { choices = cs }))
    (Over BadChoice)
    (Over BadChoice)
    (h v (record w { choices = cs }))
    (inr refl)

pub branch_from_longer : (cs : List Choice) (n : ℕ) (w : World) (k l : ℕ → World → Flow) → ((j : ℕ) (u : World) → Longer (k j u) (l j (more u))) → Longer (branch_from cs n w k) (branch_from cs n (more w) l)
branch_from_longer [] n w k l h = inr refl
branch_from_longer (Chosen v ∷ cs) n w k l h = inr refl
branch_from_longer (Branch j ∷ cs) n w k l h =
    if_longer
    (nat_lt j n)
    (k j (record w { choices = cs }))
    (l j (record (more w) { choices = cs }))
    (Over BadChoice)
    (Over BadChoice)
    (h j (record w { choices = cs }))
    (inr refl)

pub put_more : (x : Var) (v : Val) (w : World) → put x v (more w) ≡ more (put x v w)
put_more (Global x) v w = refl
put_more (Local x) v w = refl

pub put_all_more : (xs : List Var) (vs : List Val) (w : World) → put_all xs vs (more w) ≡ more (put_all xs vs w)
put_all_more [] vs w = refl
put_all_more (x ∷ xs) [] w = refl
put_all_more (x ∷ xs) (v ∷ vs) w = ap (put_all xs vs) (put_more x v w) ∙ put_all_more xs vs (put x v w)

pub forget_all_longer : (c : Ctx) (xs : List Var) (w : World) → Longer (forget_all c xs w) (forget_all c xs (more w))
forget_all_longer c [] w = inr refl
forget_all_longer c (x ∷ xs) w =
    choose_from_longer
    w.choices
    (type_in (decl_of c x))
    w
    (λ v u. forget_all c xs (put x v u))
    (λ v u. forget_all c xs (put x v u))
    (λ v u. subst (λ y. Longer (forget_all c xs (put x v u)) (forget_all c xs y)) (sym (put_more x v u)) (forget_all_longer c xs (put x v u)))

pub choose_all_longer : (ds : List Decl) (w : World) (k l : List Val → World → Flow) → ((vs : List Val) (u : World) → Longer (k vs u) (l vs (more u))) → Longer (choose_all ds w k) (choose_all ds (more w) l)
choose_all_longer [] w k l h = h [] w
choose_all_longer (d ∷ ds) w k l h =
    choose_from_longer
    w.choices
    d.ty
    w
    (λ v u. choose_all ds u (λ vs x. k (v ∷ vs) x))
    (λ v u. choose_all ds u (λ vs x. l (v ∷ vs) x))
    (λ v u. choose_all_longer ds u (λ vs x. k (v ∷ vs) x) (λ vs x. l (v ∷ vs) x) (λ vs x. h (v ∷ vs) x))

pub decide_longer : (c : Ctx) (g : Guard) (w : World) (k l m n : World → Flow) → ((u : World) → Longer (k u) (l (more u))) → ((u : World) → Longer (m u) (n (more u))) → Longer (decide c g w k m) (decide c g (more w) l n)
decide_longer c Star w k l m n on off =
    branch_from_longer
    w.choices
    2
    w
    (λ j u. if j == 0 then k u else m u)
    (λ j u. if j == 0 then l u else n u)
    (λ j u. if_longer (j == 0) (k u) (l (more u)) (m u) (n (more u)) (on u) (off u))
decide_longer c (Test e) w k l m n on off =
    if_longer (truth_of (ev e (scope c w))) (k w) (l (more w)) (m w) (n (more w)) (on w) (off w)

-- a body that keeps the relation
