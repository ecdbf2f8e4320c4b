-- Numbers that are put into lists.
use Rattle.std.proofs.Common.{◌≡◌, ℕ, zero, suc, ◌+◌, ◌<◌, Bool, true, false, ◌||◌, List, [], ◌∷◌, ◌++◌, length, take, get_or, pos, nat_eq, cond, subst, refl, sym, ◌∙◌, arith, inl, inr, Vec, Global}
use Rattle.std.specs.Prelude.{Some, None, slice_set, slice_index_or}
use Rattle.std.specs.Ordering.{nat_cmp, is_eq}
use Rattle.std.specs.declared.cmp.Ordering.{Ordering}
use Rattle.std.specs.declared.cmp.Ordering.TheVariants.{Less, Equal, Greater}
use Rattle.std.proofs.lemmas.Map.Lookups.{exact_unsigned}
use Rattle.std.proofs.lemmas.Bool.{or_cases, eqb-true}
use Rattle.std.proofs.lemmas.List.{take_more}
use Rattle.bg_rows.specs.declared.entry.Entry.{Entry}
use Rattle.bg_rows.specs.Entries.{mentions}
use Rattle.std.specs.BTreeMap.{BTreeMap, get}
use Rattle.bg_elim.specs.declared.columns.Columns.{Columns}
use Rattle.bg_elim.specs.Kept.{is_in}
use Rattle.bg_elim.specs.Columns.{numbers_at, Keeps, Stands}
use Rattle.bg_elim.proofs.Orders.{in_more, in_last}

pub pushed : (ls : List (Vec ℕ Global)) (p : ℕ) (w v : Vec ℕ Global) (n : ℕ) → p < length ls → w.items ≡ v.items ++ (n ∷ []) → is_in n (numbers_at (slice_set ls p w) p) ≡ true
pushed [] p w v n l e = absurd (omega arith)
pushed (u ∷ ls) zero w v n l e = rw e (in_last v.items n)
pushed (u ∷ ls) (suc p) w v n l e = pushed ls p w v n (omega arith) e

pub kept : (ls : List (Vec ℕ Global)) (p q : ℕ) (w v : Vec ℕ Global) (n m : ℕ) → v ≡ slice_index_or ls p v → w.items ≡ v.items ++ (n ∷ []) → is_in m (numbers_at ls q) ≡ true → is_in m (numbers_at (slice_set ls p w) q) ≡ true
kept [] p q w v n m e f h = h
kept (u ∷ ls) zero zero w v n m e f h = rw f (in_more m v.items n (rw e h))
kept (u ∷ ls) zero (suc q) w v n m e f h = h
kept (u ∷ ls) (suc p) zero w v n m e f h = h
kept (u ∷ ls) (suc p) (suc q) w v n m e f h = kept ls p q w v n m e f h

pub keeps_more : (ls : List (Vec ℕ Global)) (v : Vec ℕ Global) → Keeps ls (ls ++ (v ∷ []))
keeps_more [] v p n h = absurd (cc)
keeps_more (u ∷ ls) v zero n h = h
keeps_more (u ∷ ls) v (suc p) n h = keeps_more ls v p n h

-- ---- the columns

pub stands_even : (cs : Columns) (lists : Vec (Vec ℕ Global) Global) (y m : ℕ) → Keeps cs.even.items lists.items → Stands cs y m → Stands (record cs { even = lists }) y m
stands_even cs lists y m k s = record { place = s.place; found = s.found; inside = elim s.inside [ inl i ↦ inl (k s.place m i) | inr i ↦ inr i ] }

pub stands_odd : (cs : Columns) (lists : Vec (Vec ℕ Global) Global) (y m : ℕ) → Keeps cs.odd.items lists.items → Stands cs y m → Stands (record cs { odd = lists }) y m
stands_odd cs lists y m k s = record { place = s.place; found = s.found; inside = elim s.inside [ inl i ↦ inl i | inr i ↦ inr (k s.place m i) ] }

-- other places that keep those that are there, and other counts
pub stands_placed : (cs new : Columns) (y m : ℕ) → ((x q : ℕ) → get nat_cmp cs.places x ≡ Some q → get nat_cmp new.places x ≡ Some q) → new.even ≡ cs.even → new.odd ≡ cs.odd → Stands cs y m → Stands new y m
stands_placed cs new y m k e o s = record { place = s.place; found = k y s.place s.found; inside = rw (e, o) s.inside }

-- ---- places

equal_is : (o : Ordering) → is_eq o ≡ true → o ≡ Equal
equal_is Less h = absurd (cc)
equal_is Equal h = refl
equal_is Greater h = absurd (cc)

-- a variable that had no place gets one, and each other one keeps its own
pub place_kept : (old new : BTreeMap ℕ ℕ) (x p y q : ℕ) → get nat_cmp old x ≡ None → get nat_cmp new y ≡ cond (is_eq (nat_cmp x y)) (Some p) (get nat_cmp old y) → get nat_cmp old y ≡ Some q → get nat_cmp new y ≡ Some q
place_kept old new x p y q none e h = e ∙ by_test (is_eq (nat_cmp x y)) refl
  where
    by_test : (b : Bool) → is_eq (nat_cmp x y) ≡ b → cond b (Some p) (get nat_cmp old y) ≡ Some q
    by_test true f =
        let same : x ≡ y = exact_unsigned x y (equal_is (nat_cmp x y) f) in
        let gone : get nat_cmp old y ≡ None = subst (λ (z : ℕ). get nat_cmp old z ≡ None) same none in
        absurd (cc (gone, h))
    by_test false f = h

-- ---- a row's entries, one after the other

mentions_last : (y : ℕ) (ts : List Entry) (t : Entry) → mentions y (ts ++ (t ∷ [])) ≡ (mentions y ts || nat_eq t.variable y)
mentions_last y [] t = or_false (nat_eq t.variable y)
  where
    or_false : (b : Bool) → (b || false) ≡ b
    or_false true = refl
    or_false false = refl
mentions_last y (u ∷ ts) t = by_test (nat_eq u.variable y) (mentions_last y ts t)
  where
    by_test : (b : Bool) → mentions y (ts ++ (t ∷ [])) ≡ (mentions y ts || nat_eq t.variable y) → (b || mentions y (ts ++ (t ∷ []))) ≡ ((b || mentions y ts) || nat_eq t.variable y)
    by_test true h = refl
    by_test false h = h

abbrev pub nothing : Entry
nothing = record { variable = 0; by = pos 0 }

pub named_more : (start mid new : Columns) (ts : List Entry) (k y n p : ℕ) → k < length ts → ((x q : ℕ) → get nat_cmp start.places x ≡ Some q → get nat_cmp mid.places x ≡ Some q) → mid.even ≡ start.even → mid.odd ≡ start.odd → ((x : ℕ) → mentions x (take k ts) ≡ true → Stands start x n) → ((x m : ℕ) → Stands mid x m → Stands new x m) → ((x : ℕ) → get nat_cmp mid.places x ≡ Some p → Stands new x n) → get nat_cmp mid.places (get_or ts k nothing).variable ≡ Some p → mentions y (take (k + 1) ts) ≡ true → Stands new y n
named_more start mid new ts k y n p lt keeps e o before grows here found h =
    elim (or_cases (mentions y (take k ts)) _ (sym (mentions_last y (take k ts) (get_or ts k nothing)) ∙ rw (take_more ts k nothing lt) at h)) [
      | inl m ↦ grows y n (stands_placed start mid y n keeps e o (before y m))
      | inr m ↦
          let same : (get_or ts k nothing).variable ≡ y = eqb-true (get_or ts k nothing).variable y m in
          here y (subst (λ (z : ℕ). get nat_cmp mid.places z ≡ Some p) same found)
    ]
