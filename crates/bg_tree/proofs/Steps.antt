-- What each step of the search tells of the trees that begin with it.
use Rattle.std.proofs.Common.{◌≡◌, ℕ, zero, suc, ◌+◌, ◌-◌, ◌<◌, ◌⊎◌, inl, inr, Bool, true, false, ◌&&◌, List, [], ◌∷◌, ◌++◌, ℤ, length, reverse, refl, sym, ap, subst, ◌∙◌, arith}
use Rattle.std.specs.Prelude.{nat_lt}
use Rattle.std.proofs.lemmas.Bool.Decides.{nat_tests}
use Rattle.bg_formula.specs.Formulas.{Formula}
use Rattle.bg_formula.specs.Atoms.{AtomOf, at}
use Rattle.bg_cert.specs.declared.cert.Node.{Node}
use Rattle.bg_cert.specs.declared.cert.Node.TheVariants.{Split, Bound as BoundNode, Cut, Lemma, Clause, Unit as UnitNode, Known, Rows}
use Rattle.bg_cert.specs.declared.cert.Decision.{Decision}
use Rattle.bg_cert.specs.declared.cert.Decision.TheVariants.{Atom, AtMost}
use Rattle.bg_cert.specs.Paths.{PathOf}
use Rattle.bg_cert.specs.Certs.{NodeOf, Splits, Bounds, node_of, is_there, closes, accepts}
use Rattle.bg_cert.specs.Causes.{any_false, units_of}
use Rattle.bg_cert.specs.Walks.{no_instance, stack_of, path_of, others_of, IsWalk, paths_open, decided_on, atoms_on}
use Rattle.bg_pick.specs.Picks.{MaySplit}
use Rattle.bg_pick.proofs.Bounded.{bound_fine}
use Rattle.bg_tree.specs.declared.part.Kept.{Kept}
use Rattle.bg_tree.specs.declared.part.Part.{Part}
use Rattle.bg_tree.specs.declared.part.Part.TheVariants.{Open, Plain, Bound}
use Rattle.bg_tree.specs.declared.step.Search.{Search}
use Rattle.bg_tree.specs.declared.book.Head.{Head}
use Rattle.bg_tree.specs.declared.book.Head.TheVariants.{First, Next, Paid, Due}
use Rattle.bg_tree.specs.declared.book.Book.{Book}
use Rattle.bg_tree.specs.Counts.{cost, passed, counted}
use Rattle.bg_tree.specs.Books.{beside, waits, besides, one, value, IsOwed, HeadOwed, AllOwed, HasRoom, is_late, is_paid, Passes}
use Rattle.bg_tree.specs.Trees.{IsBound, AreTrees, inner_of, IsSpent, KeepsCount, IsSame, Moves}
use Rattle.bg_tree.proofs.Books.{waits_snoc, owes, owes_value}
use Rattle.bg_tree.proofs.Paths.{below_by, paths_closed, paths_split, paths_bound}

-- ---- the count

pub open_book : (f : Formula) (set : ℕ → Bool) (s : Search) → KeepsCount f set s → s.walk.is_open ≡ true → HeadOwed f set (path_of f (decided_on s.walk)) s.book.head × (AllOwed f set (others_of f s.walk) (reverse s.book.owed.items) × HasRoom s.book.head (reverse s.book.owed.items) s.book.left)
open_book f set s k o = let b = k.book in rw o at b

pub not_due : (f : Formula) (set : ℕ → Bool) (p : PathOf) (h : Head) → HeadOwed f set p h → any_false p.decided (p.clauses ++ units_of f set) ≡ false → h ≡ Due → ⊥
not_due f set p First o e d = cc
not_due f set p Next o e d = cc
not_due f set p Paid o e d = cc
not_due f set p Due o e d = let z = sym e ∙ o in cc

pub fine_not_due : (f : Formula) (set : ℕ → Bool) (s : Search) → KeepsCount f set s → s.walk.is_open ≡ true → any_false (decided_on s.walk) (f.clauses ++ units_of f set) ≡ false → s.book.head ≡ Due → ⊥
fine_not_due f set s k o e d = not_due f set (path_of f (decided_on s.walk)) s.book.head (open_book f set s k o).0 e d

head_late : (f : Formula) (set : ℕ → Bool) (s : Search) → KeepsCount f set s → s.walk.is_open ≡ true → s.seen ≡ true → is_late s.book.head ≡ true
head_late f set s k o e = let l = k.late e in rw o at l

late_due : (h : Head) → is_late h ≡ true → is_paid h ≡ false → h ≡ Due
late_due First l p = absurd (cc)
late_due Next l p = absurd (cc)
late_due Paid l p = absurd (cc)
late_due Due l p = refl

-- once a leaf was left open, a path that isn't paid for is due to be closed
pub is_due : (f : Formula) (set : ℕ → Bool) (s : Search) → KeepsCount f set s → s.walk.is_open ≡ true → (s.seen && is_paid s.book.head) ≡ false → s.seen ≡ true → s.book.head ≡ Due
is_due f set s k o n e = late_due s.book.head (head_late f set s k o e) (let z = rw e at n in z)

-- so where nothing is false and it isn't paid for, no leaf was left open
pub unseen : (f : Formula) (set : ℕ → Bool) (s : Search) → KeepsCount f set s → s.walk.is_open ≡ true → (s.seen && is_paid s.book.head) ≡ false → any_false (decided_on s.walk) (f.clauses ++ units_of f set) ≡ false → s.seen ≡ false
unseen f set s k o n e = by_seen s.seen refl
  where
    by_seen : (b : Bool) → s.seen ≡ b → b ≡ false
    by_seen false q = refl
    by_seen true q = absurd (fine_not_due f set s k o e (is_due f set s k o n q))

paid_false : (f : Formula) (set : ℕ → Bool) (p : PathOf) (h : Head) → HeadOwed f set p h → is_paid h ≡ true → any_false p.decided (p.clauses ++ units_of f set) ≡ false
paid_false f set p First o e = absurd (cc)
paid_false f set p Next o e = absurd (cc)
paid_false f set p Paid o e = o
paid_false f set p Due o e = absurd (cc)

both_so : (a b : Bool) → (a && b) ≡ true → (a ≡ true) × (b ≡ true)
both_so true b h = (refl, h)
both_so false b h = absurd (cc)

pub paid_fine : (f : Formula) (set : ℕ → Bool) (s : Search) → KeepsCount f set s → s.walk.is_open ≡ true → (s.seen && is_paid s.book.head) ≡ true → any_false (decided_on s.walk) (f.clauses ++ units_of f set) ≡ false
paid_fine f set s k o e = paid_false f set (path_of f (decided_on s.walk)) s.book.head (open_book f set s k o).0 (both_so s.seen (is_paid s.book.head) e).1

pub seen_spent : (f : Formula) (set : ℕ → Bool) (s : Search) → KeepsCount f set s → (s.seen && is_paid s.book.head) ≡ true → IsSpent s
seen_spent f set s k e = k.spent (both_so s.seen (is_paid s.book.head) e).0

same_spent : (old new : Search) → new.book.left ≡ old.book.left → new.inner ≡ old.inner → IsSpent old → IsSpent new
same_spent old new l i (inl z) = inl (l ∙ z)
same_spent old new l i (inr z) = inr (i ∙ z)

kept_after : (f : Formula) (set : ℕ → Bool) (old new : Search) (c : Bool) → old.walk.is_open ≡ true → stack_of f new.walk ≡ others_of f old.walk → Passes old.book c new.book → KeepsCount f set old → (new.seen ≡ true → IsSpent new) → (new.seen ≡ true → (is_late old.book.head ≡ true) ⊎ (c ≡ false)) → KeepsCount f set new
kept_after f set old new c o s p k q l =
    let a = (open_book f set old k o).1.0 in
    record {
      book = rw s (p.stack f set (others_of f old.walk) a).0;
      small = let x = p.counts in let y = k.small in omega (arith, x, y);
      spent = q;
      late = λ e. rw s (p.late f set (others_of f old.walk) a (l e));
    }

-- ---- a leaf whose claim holds

plus_none : (n : ℕ) → n ≡ n + 0
plus_none n = omega arith

leaf_tree : (targets : ℕ → ℤ) (f : Formula) (set : ℕ → Bool) (n : ℕ) (seen : Bool) (trail : List Decision) (ps : List PathOf) (node : Node) (rest : List Part) → closes f set (path_of f trail) (node_of node) ≡ true → AreTrees targets f set n seen ps rest → AreTrees targets f set n seen (path_of f trail ∷ ps) (Plain node ∷ rest)
leaf_tree targets f set n seen trail ps (Clause c) rest h t = (h, t)
leaf_tree targets f set n seen trail ps (UnitNode c) rest h t = (h, t)
leaf_tree targets f set n seen trail ps (Rows ss) rest h t = (h, t)
leaf_tree targets f set n seen trail ps (Split a) rest h t = absurd (cc)
leaf_tree targets f set n seen trail ps (BoundNode x k) rest h t = absurd (cc)
leaf_tree targets f set n seen trail ps (Cut r) rest h t = absurd (cc)
leaf_tree targets f set n seen trail ps (Lemma ls) rest h t = absurd (cc)
leaf_tree targets f set n seen trail ps (Known i) rest h t = (h, t)

leaf_accepts : (f : Formula) (set : ℕ → Bool) (trail : List Decision) (ps : List PathOf) (node : Node) (rest : List NodeOf) → closes f set (path_of f trail) (node_of node) ≡ true → accepts f set no_instance (path_of f trail ∷ ps) (node_of node ∷ rest) ≡ accepts f set no_instance ps rest
leaf_accepts f set trail ps (Clause c) rest h = rw h refl
leaf_accepts f set trail ps (UnitNode c) rest h = rw h refl
leaf_accepts f set trail ps (Rows ss) rest h = rw h refl
leaf_accepts f set trail ps (Split a) rest h = absurd (cc)
leaf_accepts f set trail ps (BoundNode x k) rest h = absurd (cc)
leaf_accepts f set trail ps (Cut r) rest h = absurd (cc)
leaf_accepts f set trail ps (Lemma ls) rest h = absurd (cc)
leaf_accepts f set trail ps (Known i) rest h = absurd (cc)

leaf_inner : (f : Formula) (set : ℕ → Bool) (p : PathOf) (node : Node) → closes f set p (node_of node) ≡ true → inner_of (Plain node) ≡ 0
leaf_inner f set p (Clause c) h = refl
leaf_inner f set p (UnitNode c) h = refl
leaf_inner f set p (Rows ss) h = refl
leaf_inner f set p (Split a) h = absurd (cc)
leaf_inner f set p (BoundNode x k) h = absurd (cc)
leaf_inner f set p (Cut r) h = absurd (cc)
leaf_inner f set p (Lemma ls) h = absurd (cc)
leaf_inner f set p (Known i) h = refl

leaf_counts : (f : Formula) (set : ℕ → Bool) (p : PathOf) (ps qs : List PathOf) (old new : Book) (node : Node) (rest : List Part) → closes f set p (node_of node) ≡ true → cost (beside old.head) true + value new ≡ value old → passed (beside old.head) true (waits old.owed.items) ≡ besides qs new → counted (besides (p ∷ ps) old) (Plain node ∷ rest) + value new ≡ counted (besides qs new) rest + value old
leaf_counts f set p ps qs old new (Clause c) rest h v e = rw e (omega (arith, v))
leaf_counts f set p ps qs old new (UnitNode c) rest h v e = rw e (omega (arith, v))
leaf_counts f set p ps qs old new (Rows ss) rest h v e = rw e (omega (arith, v))
leaf_counts f set p ps qs old new (Split a) rest h v e = absurd (cc)
leaf_counts f set p ps qs old new (BoundNode x k) rest h v e = absurd (cc)
leaf_counts f set p ps qs old new (Cut r) rest h v e = absurd (cc)
leaf_counts f set p ps qs old new (Lemma ls) rest h v e = absurd (cc)
leaf_counts f set p ps qs old new (Known i) rest h v e = rw e (omega (arith, v))

pub leaf_moves : (targets : ℕ → ℤ) (f : Formula) (set : ℕ → Bool) (old new : Search) (node : Node) → IsWalk new.walk → atoms_on new.walk ≡ atoms_on old.walk → old.walk.is_open ≡ true → closes f set (path_of f (decided_on old.walk)) (node_of node) ≡ true → new.parts.items ≡ old.parts.items ++ (Plain node ∷ []) → stack_of f new.walk ≡ others_of f old.walk → new.inner ≡ old.inner → new.seen ≡ old.seen → paths_open new.walk < paths_open old.walk → KeepsCount f set old → (old.seen ≡ true → old.book.head ≡ Due) → Passes old.book true new.book → Moves targets f set old new
leaf_moves targets f set old new node w z o h p s l e r k d q =
    record {
      walks = w;
      sized = z;
      part = Plain node;
      made = p;
      tells = λ n rest. rw (o, e, s, leaf_inner f set (path_of f (decided_on old.walk)) node h) (λ t. leaf_tree targets f set (n + 0) old.seen (decided_on old.walk) (others_of f old.walk) node rest h (subst (λ (m : ℕ). AreTrees targets f set m old.seen (others_of f old.walk) rest) (plus_none n) t));
      inner = rw (leaf_inner f set (path_of f (decided_on old.walk)) node h) (omega (arith, l));
      counts = λ rest. rw (o, s) (leaf_counts f set (path_of f (decided_on old.walk)) (others_of f old.walk) (others_of f old.walk) old.book new.book node rest h q.counts (q.stack f set (others_of f old.walk) (open_book f set old k o).1.0).1);
      whole = λ g. (sym e ∙ g, λ rest. rw (o, s) (leaf_accepts f set (decided_on old.walk) (others_of f old.walk) node rest h));
      paths = paths_closed targets f set old.walk new.walk o s;
      smaller = omega (arith, l, r);
      kept = kept_after f set old new true o s q k (λ g. same_spent old new (q.same (inl (d (sym e ∙ g)))) l (k.spent (sym e ∙ g))) (λ g. inl (head_late f set old k o (sym e ∙ g)));
    }

-- ---- an open leaf

open_tree : (targets : ℕ → ℤ) (f : Formula) (set : ℕ → Bool) (n : ℕ) (seen : Bool) (trail : List Decision) (ps : List PathOf) (rest : List Part) → any_false trail (f.clauses ++ units_of f set) ≡ false → AreTrees targets f set n true ps rest → AreTrees targets f set n seen (path_of f trail ∷ ps) (Open ∷ rest)
open_tree targets f set n seen trail ps rest h t = (h, t)

pub open_moves : (targets : ℕ → ℤ) (f : Formula) (set : ℕ → Bool) (old new : Search) → IsWalk new.walk → atoms_on new.walk ≡ atoms_on old.walk → old.walk.is_open ≡ true → any_false (decided_on old.walk) (f.clauses ++ units_of f set) ≡ false → new.parts.items ≡ old.parts.items ++ (Open ∷ []) → stack_of f new.walk ≡ others_of f old.walk → new.inner ≡ old.inner → new.seen ≡ true → IsSpent old → paths_open new.walk < paths_open old.walk → KeepsCount f set old → Passes old.book false new.book → Moves targets f set old new
open_moves targets f set old new w q o h p s l e z r k b =
    record {
      walks = w;
      sized = q;
      part = Open;
      made = p;
      tells = λ n rest. rw (o, e, s) (λ t. open_tree targets f set (n + 0) old.seen (decided_on old.walk) (others_of f old.walk) rest h (subst (λ (m : ℕ). AreTrees targets f set m true (others_of f old.walk) rest) (plus_none n) t));
      inner = omega (arith, l);
      counts = λ rest. rw (o, s) (let v = b.counts in rw (b.stack f set (others_of f old.walk) (open_book f set old k o).1.0).1 (omega (arith, v)));
      whole = λ g. absurd (let y = sym e ∙ g in cc);
      paths = paths_closed targets f set old.walk new.walk o s;
      smaller = omega (arith, l, r);
      kept = kept_after f set old new false o s b k (λ g. same_spent old new (b.same (inr refl)) l z) (λ g. inr refl);
    }

-- ---- a split

one_off : (n : ℕ) → n ≡ (n + 1) - 1
one_off n = omega arith

some_more : (n : ℕ) → 0 < n + 1
some_more n = omega arith

split_tree : (targets : ℕ → ℤ) (f : Formula) (set : ℕ → Bool) (n : ℕ) (seen : Bool) (trail : List Decision) (ps : List PathOf) (a : ℕ) (rest : List Part) → MaySplit f set trail a → AreTrees targets f set n seen (path_of f (trail ++ (Atom a true ∷ [])) ∷ path_of f (trail ++ (Atom a false ∷ [])) ∷ ps) rest → AreTrees targets f set (n + 1) seen (path_of f trail ∷ ps) (Plain (Split a) ∷ rest)
split_tree targets f set n seen trail ps a rest m t = (record { fine = m.fine; rule = m.rule }, some_more n, subst (λ (k : ℕ). AreTrees targets f set k seen (path_of f (trail ++ (Atom a true ∷ [])) ∷ path_of f (trail ++ (Atom a false ∷ [])) ∷ ps) rest) (one_off n) t)

there : (xs : List AtomOf) (a : ℕ) → a < length xs → is_there (at xs a) ≡ true
there [] a h = absurd (omega arith)
there (x ∷ xs) zero h = refl
there (x ∷ xs) (suc a) h = there xs a (omega arith)

split_accepts : (f : Formula) (set : ℕ → Bool) (trail : List Decision) (ps : List PathOf) (a : ℕ) (rest : List NodeOf) → a < length f.atoms → accepts f set no_instance (path_of f trail ∷ ps) (Splits a ∷ rest) ≡ accepts f set no_instance (path_of f (trail ++ (Atom a true ∷ [])) ∷ path_of f (trail ++ (Atom a false ∷ [])) ∷ ps) rest
split_accepts f set trail ps a rest h = rw (there f.atoms a h) refl

still_unseen : (f : Formula) (set : ℕ → Bool) (s : Search) → KeepsCount f set s → 0 < s.book.left → 0 < s.inner → s.seen ≡ true → ⊥
still_unseen f set s k l i e = by_spent (k.spent e)
  where
    by_spent : IsSpent s → ⊥
    by_spent (inl z) = omega (arith, l, z)
    by_spent (inr z) = omega (arith, i, z)

kept_split : (f : Formula) (set : ℕ → Bool) (old new : Search) (p q : PathOf) (b : Bool) → old.walk.is_open ≡ true → stack_of f new.walk ≡ p ∷ q ∷ others_of f old.walk → any_false (decided_on old.walk) (f.clauses ++ units_of f set) ≡ false → KeepsCount f set old → 0 < old.book.left → 0 < old.inner → new.seen ≡ old.seen → new.book.owed.items ≡ old.book.owed.items ++ (b ∷ []) → new.book.head ≡ First → new.book.left + one b ≡ old.book.left → IsOwed f set q b → KeepsCount f set new
kept_split f set old new p q b o s h k l i e w g r u =
    record {
      book = rw s (owes f set p q (others_of f old.walk) old.book new.book b w g r l u (open_book f set old k o).1.0);
      small = let x = owes_value old.book new.book b w g r (fine_not_due f set old k o h) in let y = k.small in omega (arith, x, y);
      spent = λ z. absurd (still_unseen f set old k l i (sym e ∙ z));
      late = λ z. absurd (still_unseen f set old k l i (sym e ∙ z));
    }

more_inner : (n m : ℕ) → m ≡ n - 1 → 0 < n → m + 1 ≡ n
more_inner n m e l = omega (arith, e, l)

pub split_moves : (targets : ℕ → ℤ) (f : Formula) (set : ℕ → Bool) (old new : Search) (a : ℕ) → IsWalk new.walk → atoms_on new.walk ≡ atoms_on old.walk → old.walk.is_open ≡ true → MaySplit f set (decided_on old.walk) a → new.parts.items ≡ old.parts.items ++ (Plain (Split a) ∷ []) → stack_of f new.walk ≡ path_of f (decided_on old.walk ++ (Atom a true ∷ [])) ∷ path_of f (decided_on old.walk ++ (Atom a false ∷ [])) ∷ others_of f old.walk → new.inner ≡ old.inner - 1 → 0 < old.inner → new.seen ≡ old.seen → paths_open new.walk ≡ paths_open old.walk + 1 → (t : Bool) → KeepsCount f set old → 0 < old.book.left → new.book.owed.items ≡ old.book.owed.items ++ (t ∷ []) → new.book.head ≡ First → new.book.left + one t ≡ old.book.left → IsOwed f set (path_of f (decided_on old.walk ++ (Atom a false ∷ []))) t → Moves targets f set old new
split_moves targets f set old new a w z o m p s l b e r t k j x y v u =
    record {
      walks = w;
      sized = z;
      part = Plain (Split a);
      made = p;
      tells = λ n rest. rw (o, e, s) (split_tree targets f set n old.seen (decided_on old.walk) (others_of f old.walk) a rest m);
      inner = more_inner old.inner new.inner l b;
      counts = λ rest. rw (o, s, x, y, waits_snoc old.book.owed.items t) (let c = owes_value old.book new.book t x y v (fine_not_due f set old k o m.fine) in let d = rw (x, y) at c in omega (arith, c, d));
      whole = λ g. (sym e ∙ g, λ rest. rw (o, s) (split_accepts f set (decided_on old.walk) (others_of f old.walk) a rest (below_by (length f.atoms) a (decided_on old.walk) (f.clauses ++ units_of f set) m.rule)));
      paths = paths_split targets f set old.walk new.walk a o (record { fine = m.fine; rule = m.rule }) s;
      smaller = omega (arith, l, b, r);
      kept = kept_split f set old new (path_of f (decided_on old.walk ++ (Atom a true ∷ []))) (path_of f (decided_on old.walk ++ (Atom a false ∷ []))) t o s m.fine k j b e x y v u;
    }

-- ---- a bound

bound_tree : (targets : ℕ → ℤ) (f : Formula) (set : ℕ → Bool) (n : ℕ) (seen : Bool) (trail : List Decision) (ps : List PathOf) (k : Kept) (rest : List Part) → IsBound targets f set (path_of f trail) k → AreTrees targets f set n seen (path_of f (trail ++ (AtMost k.gap.variable k.gap.below true ∷ [])) ∷ path_of f (trail ++ (AtMost k.gap.variable k.gap.below false ∷ [])) ∷ ps) rest → AreTrees targets f set (n + 1) seen (path_of f trail ∷ ps) (Bound k ∷ rest)
bound_tree targets f set n seen trail ps k rest m t = (m, some_more n, subst (λ (j : ℕ). AreTrees targets f set j seen (path_of f (trail ++ (AtMost k.gap.variable k.gap.below true ∷ [])) ∷ path_of f (trail ++ (AtMost k.gap.variable k.gap.below false ∷ [])) ∷ ps) rest) (one_off n) t)

low_test : (x n : ℕ) → x < n → nat_lt x n ≡ true
low_test x n l = grind (arith, nat_tests)

bound_accepts : (f : Formula) (set : ℕ → Bool) (trail : List Decision) (ps : List PathOf) (x : ℕ) (k : ℤ) (rest : List NodeOf) → x < f.terms → accepts f set no_instance (path_of f trail ∷ ps) (Bounds x k ∷ rest) ≡ accepts f set no_instance (path_of f (trail ++ (AtMost x k true ∷ [])) ∷ path_of f (trail ++ (AtMost x k false ∷ [])) ∷ ps) rest
bound_accepts f set trail ps x k rest h = rw (low_test x f.terms h) refl

pub bound_moves : (targets : ℕ → ℤ) (f : Formula) (set : ℕ → Bool) (old new : Search) (k : Kept) → IsWalk new.walk → atoms_on new.walk ≡ atoms_on old.walk → old.walk.is_open ≡ true → IsBound targets f set (path_of f (decided_on old.walk)) k → new.parts.items ≡ old.parts.items ++ (Bound k ∷ []) → stack_of f new.walk ≡ path_of f (decided_on old.walk ++ (AtMost k.gap.variable k.gap.below true ∷ [])) ∷ path_of f (decided_on old.walk ++ (AtMost k.gap.variable k.gap.below false ∷ [])) ∷ others_of f old.walk → new.inner ≡ old.inner - 1 → 0 < old.inner → new.seen ≡ old.seen → paths_open new.walk ≡ paths_open old.walk + 1 → KeepsCount f set old → 0 < old.book.left → new.book.owed.items ≡ old.book.owed.items ++ (true ∷ []) → new.book.head ≡ First → new.book.left + one true ≡ old.book.left → Moves targets f set old new
bound_moves targets f set old new k w z o m p s l b e r c j x y v =
    record {
      walks = w;
      sized = z;
      part = Bound k;
      made = p;
      tells = λ n rest. rw (o, e, s) (bound_tree targets f set n old.seen (decided_on old.walk) (others_of f old.walk) k rest m);
      inner = more_inner old.inner new.inner l b;
      counts = λ rest. rw (o, s, x, y, waits_snoc old.book.owed.items true) (let q = owes_value old.book new.book true x y v (fine_not_due f set old c o m.fine) in let d = rw (x, y) at q in omega (arith, q, d));
      whole = λ g. (sym e ∙ g, λ rest. rw (o, s) (bound_accepts f set (decided_on old.walk) (others_of f old.walk) k.gap.variable k.gap.below rest m.there));
      paths = paths_bound targets f set old.walk new.walk k o m s;
      smaller = omega (arith, l, b, r);
      kept = kept_split f set old new (path_of f (decided_on old.walk ++ (AtMost k.gap.variable k.gap.below true ∷ []))) (path_of f (decided_on old.walk ++ (AtMost k.gap.variable k.gap.below false ∷ []))) true o s m.fine c j b e x y v (bound_fine f set (decided_on old.walk) k.gap.variable k.gap.below false m.fine);
    }

-- ---- a look

same_stack : (f : Formula) (old new : Search) → IsSame old new → stack_of f new.walk ≡ stack_of f old.walk
same_stack f old new s = rw (s.is_open, s.decided, s.waiting) refl

pub same_kept : (f : Formula) (set : ℕ → Bool) (old new : Search) → IsSame old new → KeepsCount f set old → KeepsCount f set new
same_kept f set old new s k =
    record {
      book = rw (same_stack f old new s, s.book) k.book;
      small = rw s.book k.small;
      spent = λ e. same_spent old new (ap (λ (b : Book). b.left) s.book) s.inner (k.spent (sym s.seen ∙ e));
      late = λ e. rw (same_stack f old new s, s.book) (k.late (sym s.seen ∙ e));
    }

pub same_moves : (targets : ℕ → ℤ) (f : Formula) (set : ℕ → Bool) (old mid new : Search) → IsSame old mid → Moves targets f set mid new → Moves targets f set old new
same_moves targets f set old mid new s m =
    record {
      walks = m.walks;
      sized = m.sized ∙ s.sized;
      part = m.part;
      made = rw (← s.parts) m.made;
      tells = λ n rest t. let h = m.tells n rest t in rw (same_stack f old mid s, s.seen) at h;
      inner = m.inner ∙ s.inner;
      counts = λ rest. let h = m.counts rest in rw (same_stack f old mid s, s.book) at h;
      whole = λ g. let h = m.whole g in (sym s.seen ∙ h.0, λ rest. let x = h.1 rest in rw (same_stack f old mid s) at x);
      paths = λ h. m.paths (rw (same_stack f old mid s) h);
      smaller = let h = m.smaller in rw (s.inner, s.waiting, s.is_open) at h;
      kept = m.kept;
    }
