-- What holds of each path of the search: each decision may be made, no atom has both signs, each bound is of a term that is there.
use Rattle.std.proofs.Common.{◌≡◌, ℕ, ◌<◌, Bool, true, false, not, ◌&&◌, ◌||◌, ◌==◌, List, [], ◌∷◌, ◌++◌, ℤ, length, refl, sym, subst, append-nil, append_assoc, arith}
use Rattle.std.specs.Prelude.{nat_lt}
use Rattle.std.proofs.lemmas.Bool.Decides.{nat_tests}
use Rattle.bg_formula.specs.Formulas.{Formula}
use Rattle.bg_formula.specs.Meaning.{same}
use Rattle.bg_formula.specs.declared.atom.Literal.{Literal}
use Rattle.bg_cert.specs.declared.cert.Decision.{Decision}
use Rattle.bg_cert.specs.declared.cert.Decision.TheVariants.{Atom, AtMost}
use Rattle.bg_cert.specs.declared.walk.Walk.{Walk}
use Rattle.bg_cert.specs.Paths.{PathOf, is_decision, decides, with_decision}
use Rattle.bg_cert.specs.Certs.{root}
use Rattle.bg_cert.specs.Causes.{is_decided, may_split, units_of}
use Rattle.bg_cert.specs.Walks.{stack_of, path_of, others_of, decided_on}
use Rattle.bg_cert.proofs.Follow.{and_of}
use Rattle.bg_cert.proofs.Untouched.{decides_snoc}
use Rattle.bg_pick.proofs.Opens.{split_or}
use Rattle.bg_pick.proofs.Below.{split_and}
use Rattle.bg_pick.proofs.Bounded.{decides_bound}
use Rattle.bg_tree.specs.declared.part.Kept.{Kept}
use Rattle.bg_tree.specs.Once.{IsOnce, bounds_in}
use Rattle.bg_tree.specs.Ways.{IsSplit, IsBound, HasGap, MayDecide, IsWay, ArePaths}

plain : (x y p q : Bool) → (x && y) ≡ false → ((x || (false && p)) && (y || (false && q))) ≡ false
plain true true p q h = absurd (cc)
plain true false p q h = refl
plain false y p q h = refl

one_sign : (s : Bool) → ((false || (true && same true s)) && (false || (true && same false s))) ≡ false
one_sign true = refl
one_sign false = refl

once_more : (ds : List Decision) (a : ℕ) (s : Bool) → is_decided a ds ≡ false → IsOnce ds → IsOnce (ds ++ (Atom a s ∷ []))
once_more ds a s f o b =
    rw (decides_snoc b true ds (Atom a s), decides_snoc b false ds (Atom a s)) (by_same (b == a) refl)
  where
    free : (decides a true ds ≡ false) × (decides a false ds ≡ false)
    free = split_or (decides a true ds) (decides a false ds) f

    by_same : (t : Bool) → (b == a) ≡ t → ((decides b true ds || is_decision b true (Atom a s)) && (decides b false ds || is_decision b false (Atom a s))) ≡ false
    by_same true e =
        let q : b ≡ a = grind (arith, nat_tests) in
        let x : decides b true ds ≡ false = rw q free.0 in
        let y : decides b false ds ≡ false = rw q free.1 in
        rw (x, y, e) (one_sign s)
    by_same false e = rw e (plain (decides b true ds) (decides b false ds) (same true s) (same false s) (o b))

once_bound : (ds : List Decision) (x : ℕ) (k : ℤ) (s : Bool) → IsOnce ds → IsOnce (ds ++ (AtMost x k s ∷ []))
once_bound ds x k s o b = rw (decides_bound b true ds x k s, decides_bound b false ds x k s) (o b)

pub below_by : (n a : ℕ) (ds : List Decision) (cs : List (List Literal)) → may_split n a ds cs ≡ true → a < n
below_by n a ds cs m = let s = (split_and (nat_lt a n) _ m).0 in grind (arith, nat_tests)

undecided_by : (n a : ℕ) (ds : List Decision) (cs : List (List Literal)) → may_split n a ds cs ≡ true → is_decided a ds ≡ false
undecided_by n a ds cs m =
    let s = split_and (nat_lt a n) _ m in
    is_not (is_decided a ds) (split_and (not (is_decided a ds)) _ s.1).0
  where
    is_not : (b : Bool) → not b ≡ true → b ≡ false
    is_not true h = absurd (cc)
    is_not false h = refl

-- ---- a way

-- a way goes on by a decision that may be made at its end
way_on : (targets : ℕ → ℤ) (f : Formula) (set : ℕ → Bool) (bs ds : List Decision) (d : Decision) → IsWay targets f set (path_of f bs) ds → MayDecide targets f set (path_of f (bs ++ ds)) d → IsWay targets f set (path_of f bs) (ds ++ (d ∷ []))
way_on targets f set bs [] d w m = (subst (λ (es : List Decision). MayDecide targets f set (path_of f es) d) (append-nil bs) m, tt)
way_on targets f set bs (e ∷ ds) d w m =
    (w.0, way_on targets f set (bs ++ (e ∷ [])) ds d w.1 (subst (λ (es : List Decision). MayDecide targets f set (path_of f es) d) (sym (append_assoc bs (e ∷ []) ds)) m))

pub way_more : (targets : ℕ → ℤ) (f : Formula) (set : ℕ → Bool) (ds : List Decision) (d : Decision) → IsWay targets f set (root f) ds → MayDecide targets f set (path_of f ds) d → IsWay targets f set (root f) (ds ++ (d ∷ []))
way_more targets f set ds d w m = way_on targets f set [] ds d w m

once_by : (targets : ℕ → ℤ) (f : Formula) (set : ℕ → Bool) (bs : List Decision) (d : Decision) → MayDecide targets f set (path_of f bs) d → IsOnce bs → IsOnce (bs ++ (d ∷ []))
once_by targets f set bs (Atom a s) m o = once_more bs a s (undecided_by (length f.atoms) a bs (f.clauses ++ units_of f set) m.rule) o
once_by targets f set bs (AtMost x k s) m o = once_bound bs x k s o

once_on : (targets : ℕ → ℤ) (f : Formula) (set : ℕ → Bool) (bs ds : List Decision) → IsWay targets f set (path_of f bs) ds → IsOnce bs → IsOnce (bs ++ ds)
once_on targets f set bs [] w o = subst IsOnce (sym (append-nil bs)) o
once_on targets f set bs (d ∷ ds) w o =
    subst IsOnce (append_assoc bs (d ∷ []) ds) (once_on targets f set (bs ++ (d ∷ [])) ds w.1 (once_by targets f set bs d w.0 o))

-- no atom has both signs on a way
pub way_once : (targets : ℕ → ℤ) (f : Formula) (set : ℕ → Bool) (ds : List Decision) → IsWay targets f set (root f) ds → IsOnce ds
way_once targets f set ds w = once_on targets f set [] ds w (λ a. refl)

low_test : (x n : ℕ) → x < n → nat_lt x n ≡ true
low_test x n l = grind (arith, nat_tests)

-- each bound on a way is of a term that is there
pub way_bounds : (targets : ℕ → ℤ) (f : Formula) (set : ℕ → Bool) (p : PathOf) (ds : List Decision) → IsWay targets f set p ds → bounds_in f.terms ds ≡ true
way_bounds targets f set p [] w = refl
way_bounds targets f set p (Atom a s ∷ ds) w = way_bounds targets f set (with_decision p (Atom a s)) ds w.1
way_bounds targets f set p (AtMost x k s ∷ ds) w =
    and_of (nat_lt x f.terms) (bounds_in f.terms ds) (low_test x f.terms (subst (λ (y : ℕ). y < f.terms) w.0.variable w.0.bound.there)) (way_bounds targets f set (with_decision p (AtMost x k s)) ds w.1)

-- ---- all open paths

pub paths_first : (targets : ℕ → ℤ) (f : Formula) (set : ℕ → Bool) (w : Walk) → stack_of f w ≡ path_of f [] ∷ [] → ArePaths targets f set (stack_of f w)
paths_first targets f set w e = rw e (tt, tt)

pub paths_open : (targets : ℕ → ℤ) (f : Formula) (set : ℕ → Bool) (w : Walk) → w.is_open ≡ true → ArePaths targets f set (stack_of f w) → IsWay targets f set (root f) (decided_on w) × ArePaths targets f set (others_of f w)
paths_open targets f set w o h = rw o at h

pub open_bounds : (targets : ℕ → ℤ) (f : Formula) (set : ℕ → Bool) (w : Walk) → w.is_open ≡ true → ArePaths targets f set (stack_of f w) → bounds_in f.terms (decided_on w) ≡ true
open_bounds targets f set w o h = way_bounds targets f set (root f) (decided_on w) (paths_open targets f set w o h).0

pub paths_closed : (targets : ℕ → ℤ) (f : Formula) (set : ℕ → Bool) (old new : Walk) → old.is_open ≡ true → stack_of f new ≡ others_of f old → ArePaths targets f set (stack_of f old) → ArePaths targets f set (stack_of f new)
paths_closed targets f set old new o s h = rw s ((paths_open targets f set old o h).1)

pub paths_split : (targets : ℕ → ℤ) (f : Formula) (set : ℕ → Bool) (old new : Walk) (a : ℕ) → old.is_open ≡ true → IsSplit f set (path_of f (decided_on old)) a → stack_of f new ≡ path_of f (decided_on old ++ (Atom a true ∷ [])) ∷ path_of f (decided_on old ++ (Atom a false ∷ [])) ∷ others_of f old → ArePaths targets f set (stack_of f old) → ArePaths targets f set (stack_of f new)
paths_split targets f set old new a o m s h =
    let g = paths_open targets f set old o h in
    rw s (way_more targets f set (decided_on old) (Atom a true) g.0 m, (way_more targets f set (decided_on old) (Atom a false) g.0 m, g.1))

pub paths_bound : (targets : ℕ → ℤ) (f : Formula) (set : ℕ → Bool) (old new : Walk) (k : Kept) → old.is_open ≡ true → IsBound targets f set (path_of f (decided_on old)) k → stack_of f new ≡ path_of f (decided_on old ++ (AtMost k.gap.variable k.gap.below true ∷ [])) ∷ path_of f (decided_on old ++ (AtMost k.gap.variable k.gap.below false ∷ [])) ∷ others_of f old → ArePaths targets f set (stack_of f old) → ArePaths targets f set (stack_of f new)
paths_bound targets f set old new k o m s h =
    let g = paths_open targets f set old o h in
    rw s (way_more targets f set (decided_on old) (AtMost k.gap.variable k.gap.below true) g.0 gap, (way_more targets f set (decided_on old) (AtMost k.gap.variable k.gap.below false) g.0 gap, g.1))
  where
    gap : HasGap targets f set (path_of f (decided_on old)) k.gap.variable k.gap.below
    gap = record { kept = k; bound = m; variable = refl; below = refl }
