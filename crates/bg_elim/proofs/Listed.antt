-- Rows are found in the columns of their variables.
use Rattle.std.proofs.Common.{◌≡◌, ℕ, ◌<◌, Bool, true, false, ◌&&◌, ◌||◌, List, [], ◌∷◌, ◌++◌, length, map, set, ◌⊎◌, inl, inr, refl, sym, ap, ◌∙◌, arith, nat_eq, subst, cond, Vec, Global}
use Rattle.std.specs.Prelude.{Option, Some, None, pos, ◌<ℤ◌, not}
use Rattle.std.specs.Ordering.{nat_cmp}
use Rattle.std.specs.BTreeMap.{get}
use Rattle.std.proofs.lemmas.Bool.{and_parts, eqb-true}
use Rattle.std.proofs.lemmas.Int.{ints}
use Rattle.std.proofs.lemmas.List.{length-map}
use Rattle.bg_rows.specs.declared.row.Row.{Row}
use Rattle.bg_rows.specs.Entries.{mentions, coefficient}
use Rattle.bg_rows.specs.Rows.{RowOf, row_of}
use Rattle.bg_rows.specs.Steps.{row_at}
use Rattle.bg_rows.proofs.Normal.{no_coefficient}
use Rattle.bg_elim.specs.declared.columns.Columns.{Columns}
use Rattle.bg_elim.specs.declared.work.Side.{Side}
use Rattle.bg_elim.specs.declared.work.Side.TheVariants.{Above, Below}
use Rattle.bg_elim.specs.declared.work.Work.{Work}
use Rattle.bg_elim.specs.Kept.{is_in}
use Rattle.bg_elim.specs.Columns.{numbers_at, Stands}
use Rattle.bg_elim.specs.declared.work.Stand.{Stand}
use Rattle.bg_elim.specs.Work.{work_of, is_live, is_nearer, on_side, IsIndexed, IsMore, IsSide}
use Rattle.bg_elim.proofs.Lists.{stands_placed}
use Rattle.bg_elim.proofs.Live.{live_is, live_set, live_last, live_below, row_there}
use Rattle.bg_elim.proofs.Orders.{at_more}

-- ---- the lists at a place

pub in_found : (cs : Columns) (x n p : ℕ) → get nat_cmp cs.places x ≡ Some p → Stands cs x n → (is_in n (numbers_at cs.even.items p) ≡ true) ⊎ (is_in n (numbers_at cs.odd.items p) ≡ true)
in_found cs x n p f s =
    let e : s.place ≡ p = cc (s.found, f) in
    subst (λ (z : ℕ). (is_in n (numbers_at cs.even.items z) ≡ true) ⊎ (is_in n (numbers_at cs.odd.items z) ≡ true)) e s.inside

pub turned : {A B : Type 0} → A ⊎ B → B ⊎ A
turned (inl a) = inr a
turned (inr b) = inl b

-- ---- the sides

-- a row on a side of a variable mentions it
on_mentions : (side : Side) (x : ℕ) (r : RowOf) → on_side side x (Some r) ≡ true → mentions x r.entries ≡ true
on_mentions side x r h = by_test (mentions x r.entries) refl
  where
    not_zero : (side : Side) → coefficient x r.entries ≡ pos 0 → on_side side x (Some r) ≡ true → ⊥
    not_zero Above z k = absurd (let a : pos 0 <ℤ coefficient x r.entries = grind (arith, ints) in omega (arith, ints, a, z))
    not_zero Below z k = absurd (let a : coefficient x r.entries <ℤ pos 0 = grind (arith, ints) in omega (arith, ints, a, z))

    by_test : (b : Bool) → mentions x r.entries ≡ b → b ≡ true
    by_test true e = refl
    by_test false e = absurd (not_zero side (no_coefficient x r.entries e) h)

listed_on : (w : Work) (side : Side) (x n : ℕ) (o : Option RowOf) → row_at (map row_of w.rows.items) n ≡ o → IsIndexed w → is_live w.live.items n ≡ true → on_side side x o ≡ true → Stands w.columns x n
listed_on w side x n None at i l s = absurd (cc)
listed_on w side x n (Some r) at i l s = i.listed n r x l at (on_mentions side x r s)

pub stands_on : (w : Work) (side : Side) (x n : ℕ) → IsIndexed w → (is_live w.live.items n && on_side side x (row_at (work_of w).rows n)) ≡ true → Stands w.columns x n
stands_on w side x n i h = let p = and_parts (is_live w.live.items n) _ h in listed_on w side x n (row_at (map row_of w.rows.items) n) refl i p.0 p.1

-- ---- two lists that together have all rows of a variable

pub side_from : (w : Work) (side : Side) (x : ℕ) (first second made both : List ℕ) → IsIndexed w → IsMore w side x first [] made → IsMore w side x second made both → ((n : ℕ) → Stands w.columns x n → (is_in n first ≡ true) ⊎ (is_in n second ≡ true)) → IsSide (work_of w) side x both
side_from w side x first second made both i a b all n =
    b n ∙ ap (λ z. z || (is_in n second && (is_live w.live.items n && on_side side x (row_at (work_of w).rows n)))) (a n)
    ∙ by_on (is_live w.live.items n && on_side side x (row_at (work_of w).rows n)) refl
    ∙ ap (λ z. z && on_side side x (row_at (work_of w).rows n)) (sym (live_is w.live.items n))
  where
    or_true : (b : Bool) → (b || true) ≡ true
    or_true true = refl
    or_true false = refl

    none : (f s : Bool) → ((f && false) || (s && false)) ≡ false
    none true true = refl
    none true false = refl
    none false true = refl
    none false false = refl

    some : (f s : Bool) → (f ≡ true) ⊎ (s ≡ true) → ((f && true) || (s && true)) ≡ true
    some true s (inl e) = refl
    some false s (inl e) = absurd (cc)
    some f true (inr e) = or_true (f && true)
    some f false (inr e) = absurd (cc)

    by_on : (o : Bool) → (is_live w.live.items n && on_side side x (row_at (work_of w).rows n)) ≡ o → ((is_in n first && o) || (is_in n second && o)) ≡ o
    by_on true e = some (is_in n first) (is_in n second) (all n (stands_on w side x n i e))
    by_on false e = none (is_in n first) (is_in n second)

-- the rows of even turns and then those of odd ones, or the other way round
pub side_even : (w : Work) (side : Side) (x p : ℕ) (even odd start made both : List ℕ) → IsIndexed w → get nat_cmp w.columns.places x ≡ Some p → even ≡ numbers_at w.columns.even.items p → odd ≡ numbers_at w.columns.odd.items p → start ≡ [] → IsMore w side x even start made → IsMore w side x odd made both → IsSide (work_of w) side x both
side_even w side x p even odd start made both i f e o s a b =
    side_from w side x even odd made both i (subst (λ (z : List ℕ). IsMore w side x even z made) s a) b (λ n h. rw (e, o) (in_found w.columns x n p f h))

pub side_odd : (w : Work) (side : Side) (x p : ℕ) (even odd start made both : List ℕ) → IsIndexed w → get nat_cmp w.columns.places x ≡ Some p → even ≡ numbers_at w.columns.even.items p → odd ≡ numbers_at w.columns.odd.items p → start ≡ [] → IsMore w side x odd start made → IsMore w side x even made both → IsSide (work_of w) side x both
side_odd w side x p even odd start made both i f e o s a b =
    side_from w side x odd even made both i (subst (λ (z : List ℕ). IsMore w side x odd z made) s a) b (λ n h. turned (rw (e, o) (in_found w.columns x n p f h)))

pub side_none : (w : Work) (side : Side) (x : ℕ) → IsIndexed w → ((n : ℕ) → Stands w.columns x n → ⊥) → IsSide (work_of w) side x []
side_none w side x i none n =
    by_on (is_live w.live.items n && on_side side x (row_at (work_of w).rows n)) refl
    ∙ ap (λ z. z && on_side side x (row_at (work_of w).rows n)) (sym (live_is w.live.items n))
  where
    by_on : (o : Bool) → (is_live w.live.items n && on_side side x (row_at (work_of w).rows n)) ≡ o → false ≡ o
    by_on true e = absurd (none n (stands_on w side x n i e))
    by_on false e = refl

-- ---- a row that is paired from now on

pub join_listed : (rows : List RowOf) (cols new : Columns) (old left bs : List Bool) (m : ℕ) (stand : Stand) (q : RowOf) → row_at rows m ≡ Some q → ((n : ℕ) (r : RowOf) (x : ℕ) → is_live old n ≡ true → row_at rows n ≡ Some r → mentions x r.entries ≡ true → Stands cols x n) → ((y n : ℕ) → Stands cols y n → Stands new y n) → ((y : ℕ) → mentions y q.entries ≡ true → Stands new y m) → m < length left → ((n : ℕ) → is_live left n ≡ (is_live old n && not (is_nearer n stand))) → bs ≡ set left m true → (n : ℕ) (r : RowOf) (x : ℕ) → is_live bs n ≡ true → row_at rows n ≡ Some r → mentions x r.entries ≡ true → Stands new x n
join_listed rows cols new old left bs m stand q at i keeps there lt l e n r x h g men = by_test (nat_eq n m) refl
  where
    by_test : (b : Bool) → nat_eq n m ≡ b → Stands new x n
    by_test true f =
        let same : n ≡ m = eqb-true n m f in
        let here : row_at rows m ≡ Some r = subst (λ (z : ℕ). row_at rows z ≡ Some r) same g in
        let is : r ≡ q = cc (here, at) in
        subst (λ (z : ℕ). Stands new x z) (sym same) (there x (subst (λ (z : RowOf). mentions x z.entries ≡ true) is men))
    by_test false f =
        let s : cond (nat_eq n m) true (is_live left n) ≡ true = sym (ap (λ (z : List Bool). is_live z n) e ∙ live_set left m n true lt) ∙ h in
        let k : is_live left n ≡ true = rw f at s in
        keeps x n (i n r x (and_parts (is_live old n) _ (sym (l n) ∙ k)).0 g men)

-- a row that is kept, and isn't paired yet
pub push_listed : (w : Work) (r : RowOf) (rows : List RowOf) (live : List Bool) → IsIndexed w → rows ≡ map row_of w.rows.items ++ (r ∷ []) → live ≡ w.live.items ++ (false ∷ []) → (n : ℕ) (q : RowOf) (x : ℕ) → is_live live n ≡ true → row_at rows n ≡ Some q → mentions x q.entries ≡ true → Stands w.columns x n
push_listed w r rows live i e f n q x l at men =
    let old : is_live w.live.items n ≡ true = sym (live_last w.live.items n) ∙ ap (λ (z : List Bool). is_live z n) (sym f) ∙ l in
    let lt : n < length w.rows.items = let k = live_below w.live.items n old in omega (arith, k, i.sized) in
    let here : row_at (map row_of w.rows.items ++ (r ∷ [])) n ≡ Some q = subst (λ (z : List RowOf). row_at z n ≡ Some q) e at in
    let there = row_there (map row_of w.rows.items) n (rw length-map lt) in
    let same : there.0 ≡ q = cc (at_more (map row_of w.rows.items) r n there.0 there.1, here) in
    i.listed n q x old (subst (λ (z : RowOf). row_at (map row_of w.rows.items) n ≡ Some z) same there.1) men

-- ---- rows that go

pub out_listed : (w made : Work) (mid : List Bool) (us ls : List ℕ) → IsIndexed w → made.at ≡ w.at → made.rows ≡ w.rows → made.columns.places ≡ w.columns.places → made.columns.even ≡ w.columns.even → made.columns.odd ≡ w.columns.odd → length made.live.items ≡ length w.live.items → ((q : ℕ) → is_live made.live.items q ≡ (is_live mid q && not (is_in q ls))) → ((q : ℕ) → is_live mid q ≡ (is_live w.live.items q && not (is_in q us))) → IsIndexed made
out_listed w made mid us ls i at rows places even odd sized b a = record {
  keys = λ k. rw (at, rows) (i.keys k);
  sized = sized ∙ i.sized ∙ ap (λ (z : Vec Row Global). length z.items) (sym rows);
  listed = λ n r x l h m.
      let mid_is = (and_parts (is_live mid n) _ (sym (b n) ∙ l)).0 in
      let old = (and_parts (is_live w.live.items n) _ (sym (a n) ∙ mid_is)).0 in
      let s = i.listed n r x old (subst (λ (z : Vec Row Global). row_at (map row_of z.items) n ≡ Some r) rows h) m in
      stands_placed w.columns made.columns x n (λ y q g. rw places g) even odd s;
}
