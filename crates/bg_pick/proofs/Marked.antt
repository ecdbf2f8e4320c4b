-- Marks that move along a path's rows.
use Rattle.std.proofs.Common.{◌≡◌, ℕ, zero, suc, ◌+◌, ◌<◌, ◌≤◌, Bool, true, false, List, length, refl, sym, ap, ◌∙◌, arith}
use Rattle.std.specs.Prelude.{Option, Some, None, nat_lt}
use Rattle.std.proofs.lemmas.Bool.Decides.{nat_tests}
use Rattle.bg_formula.specs.declared.atom.Literal.{Literal}
use Rattle.bg_formula.specs.Atoms.{at}
use Rattle.bg_formula.specs.Formulas.{Formula}
use Rattle.bg_cert.specs.declared.cert.Decision.{Decision}
use Rattle.bg_cert.specs.Paths.{names_false}
use Rattle.bg_cert.specs.Causes.{is_decided, has_true, any_false, any_open, all_decided}
use Rattle.bg_cert.proofs.Places.{at_missing}
use Rattle.bg_pick.specs.declared.hint.Hint.{Hint}
use Rattle.bg_pick.specs.declared.index.Index.{Index}
use Rattle.bg_pick.specs.declared.mark.Mark.{Mark}
use Rattle.bg_pick.specs.Picks.{some_left}
use Rattle.bg_pick.specs.Index.{clause_at}
use Rattle.bg_pick.specs.Marks.{unit_at, one_at, row_at, NoneFalse, NoUnit, AllPassed, IsFirstUnit, TrueBelow, DecidedBelow, IsMark}
use Rattle.bg_pick.proofs.Places.{at_low}
use Rattle.bg_pick.proofs.Lists.{false_in, none_open}
use Rattle.bg_pick.proofs.Units.{no_unit}
use Rattle.bg_pick.proofs.Opens.{not_open}

-- ---- one step of each loop

abbrev pub FalseBelow : Formula → (ℕ → Bool) → List Decision → List Hint → ℕ → Type 0
FalseBelow f set ds xs n = (k : ℕ) (x : Hint) → k < n → at xs k ≡ Some x → names_false ds (clause_at f set x) ≡ false

same_hint : (xs : List Hint) (k n : ℕ) (x y : Hint) → k ≡ n → at xs k ≡ Some x → at xs n ≡ Some y → x ≡ y
same_hint xs k n x y e g h = let q : Some x ≡ Some y = sym g ∙ ap (at xs) e ∙ h in cc

pub false_next : (f : Formula) (set : ℕ → Bool) (ds : List Decision) (xs : List Hint) (n : ℕ) (y : Hint) → at xs n ≡ Some y → names_false ds (clause_at f set y) ≡ false → FalseBelow f set ds xs n → FalseBelow f set ds xs (n + 1)
false_next f set ds xs n y e h b k x l g = by_lt (nat_lt k n) refl
  where
    by_lt : (t : Bool) → nat_lt k n ≡ t → names_false ds (clause_at f set x) ≡ false
    by_lt true q = b k x (grind (arith, nat_tests)) g
    by_lt false q = let r : k ≡ n = grind (arith, nat_tests) in rw (same_hint xs k n x y r g e) h

pub false_all : (f : Formula) (set : ℕ → Bool) (ds : List Decision) (xs : List Hint) (n : ℕ) → length xs ≤ n → FalseBelow f set ds xs n → NoneFalse f set ds xs
false_all f set ds xs n l b x h = let k = at_low xs h.0 x h.1 in b h.0 x (omega arith) h.1

no_unit_at : (ds : List Decision) (o : Option (List Literal)) → one_at ds o ≡ None → unit_at ds o ≡ false
no_unit_at ds None h = refl
no_unit_at ds (Some c) h = no_unit ds c h

pub unit_next : (f : Formula) (set : ℕ → Bool) (ds : List Decision) (xs : List Hint) (m n : ℕ) (y : Hint) → at xs n ≡ Some y → one_at ds (clause_at f set y) ≡ None → NoUnit f set ds xs m n → NoUnit f set ds xs m (n + 1)
unit_next f set ds xs m n y e h b k x low l g = by_lt (nat_lt k n) refl
  where
    by_lt : (t : Bool) → nat_lt k n ≡ t → unit_at ds (clause_at f set x) ≡ false
    by_lt true q = b k x low (grind (arith, nat_tests)) g
    by_lt false q =
        let r : k ≡ n = grind (arith, nat_tests) in
        rw (same_hint xs k n x y r g e) (no_unit_at ds (clause_at f set y) h)

pub true_next : (ds : List Decision) (cs : List (List Literal)) (n : ℕ) (d : List Literal) → any_false ds cs ≡ false → at cs n ≡ Some d → some_left ds d ≡ None → TrueBelow ds cs n → TrueBelow ds cs (n + 1)
true_next ds cs n d f e h b k c l g = by_lt (nat_lt k n) refl
  where
    by_lt : (t : Bool) → nat_lt k n ≡ t → has_true ds c ≡ true
    by_lt true q = b k c (grind (arith, nat_tests)) g
    by_lt false q =
        let r : k ≡ n = grind (arith, nat_tests) in
        let s : Some c ≡ Some d = sym g ∙ ap (at cs) r ∙ e in
        let u : c ≡ d = cc in
        rw u (not_open ds d (false_in ds cs n d e f) h)

pub true_all : (ds : List Decision) (cs : List (List Literal)) (n : ℕ) → length cs ≤ n → TrueBelow ds cs n → any_open ds cs ≡ false
true_all ds cs n l b = none_open ds cs (λ k c e. let s = at_low cs k c e in b k c (omega arith) e)

pub decided_next : (ds : List Decision) (n : ℕ) → is_decided n ds ≡ true → DecidedBelow ds n → DecidedBelow ds (n + 1)
decided_next ds n h b a l = by_lt (nat_lt a n) refl
  where
    by_lt : (t : Bool) → nat_lt a n ≡ t → is_decided a ds ≡ true
    by_lt true q = b a (grind (arith, nat_tests))
    by_lt false q = let r : a ≡ n = grind (arith, nat_tests) in rw r h

pub decided_all : (ds : List Decision) (n : ℕ) → DecidedBelow ds n → all_decided n ds ≡ true
decided_all ds zero b = refl
decided_all ds (suc n) b =
    rw (b n (omega arith)) (decided_all ds n (λ a l. b a (omega arith)))

-- ---- the mark moves

pub mark_there : (f : Formula) (set : ℕ → Bool) (i : Index) (ds : List Decision) (m : Mark) (k a : ℕ) → m.row ≤ length ds → IsMark f set i ds m → IsFirstUnit f set ds (row_at i ds m.row) m.place k a → IsMark f set i ds (record m { place = k })
mark_there f set i ds m k a l h u =
    record {
      units = λ x e. let w = h.units x e in record {
        row = w.row;
        place = w.place;
        there = w.there;
        low = w.low;
        from = λ q. by_lt x e w.place (nat_lt w.place k) refl (let t = w.there in rw (sym q) at t) (w.from q);
      };
      low = h.low;
      first = λ q. absurd (omega arith);
      opens = h.opens;
      frees = h.frees;
    }
  where
    by_lt : (x : Hint) → unit_at ds (clause_at f set x) ≡ true → (j : ℕ) (t : Bool) → nat_lt j k ≡ t → at (row_at i ds m.row) j ≡ Some x → m.place ≤ j → k ≤ j
    by_lt x e j true q g s = absurd (let z = u.before j x s (grind (arith, nat_tests)) g in cc)
    by_lt x e j false q g s = grind (arith, nat_tests)

pub mark_next : (f : Formula) (set : ℕ → Bool) (i : Index) (ds : List Decision) (m : Mark) → m.row ≤ length ds → IsMark f set i ds m → NoUnit f set ds (row_at i ds m.row) m.place (length (row_at i ds m.row)) → IsMark f set i ds (record m { row = m.row + 1; place = 0 })
mark_next f set i ds m l h n =
    record {
      units = λ x e. let w = h.units x e in record {
        row = w.row;
        place = w.place;
        there = w.there;
        low = by_lt x e w.row w.place (nat_lt m.row w.row) refl w.there w.low w.from;
        from = λ q. omega arith;
      };
      low = omega arith;
      first = λ q. refl;
      opens = h.opens;
      frees = h.frees;
    }
  where
    by_lt : (x : Hint) → unit_at ds (clause_at f set x) ≡ true → (g j : ℕ) (t : Bool) → nat_lt m.row g ≡ t → at (row_at i ds g) j ≡ Some x → m.row ≤ g → (m.row ≡ g → m.place ≤ j) → m.row + 1 ≤ g
    by_lt x e g j true q r s v = grind (arith, nat_tests)
    by_lt x e g j false q r s v =
        let w : m.row ≡ g = grind (arith, nat_tests) in
        let z : at (row_at i ds m.row) j ≡ Some x = rw w r in
        absurd (let y = n j x (v w) (at_low (row_at i ds m.row) j x z) z in cc)

-- behind the last row there is none
pub all_passed : (f : Formula) (set : ℕ → Bool) (i : Index) (ds : List Decision) (m : Mark) → length ds < m.row → IsMark f set i ds m → AllPassed f set ds
all_passed f set i ds m l h x = by_unit (unit_at ds (clause_at f set x)) refl
  where
    empty : (g j : ℕ) → length ds < g → at (row_at i ds g) j ≡ Some x → ⊥
    empty zero j e g = omega arith
    empty (suc g) j e r = let z : at ds g ≡ None = at_missing ds g (omega arith) in let y = rw z at r in cc

    by_unit : (b : Bool) → unit_at ds (clause_at f set x) ≡ b → b ≡ false
    by_unit false e = refl
    by_unit true e =
        let w = h.units x e in absurd (empty w.row w.place (let v = w.low in omega arith) w.there)
