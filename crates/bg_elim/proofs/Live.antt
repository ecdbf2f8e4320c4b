-- Marks of rows, and the numbers that are marked.
use Rattle.std.proofs.Common.{◌≡◌, ℕ, zero, suc, ◌+◌, ◌<◌, ◌≤◌, Bool, true, false, not, ◌&&◌, ◌||◌, List, [], ◌∷◌, ◌++◌, length, set, ℤ, pos, negsuc, refl, sym, ap, ◌∙◌, arith, nat_eq, cond}
use Rattle.std.specs.Prelude.{Option, Some, int_lt}
use Rattle.std.proofs.lemmas.Bool.{eqb-true, eq-eqb}
use Rattle.std.proofs.lemmas.Int.{ints}
use Rattle.std.proofs.lemmas.List.{get_or-set_other}
use Rattle.std.proofs.lemmas.Grind.{get_or-set_at}
use Rattle.bg_rows.specs.Entries.{is_zero, coefficient}
use Rattle.bg_rows.specs.Rows.{RowOf}
use Rattle.bg_rows.specs.Steps.{row_at}
use Rattle.bg_elim.specs.declared.order.Reason.{Reason}
use Rattle.bg_elim.specs.declared.work.Stand.{Stand}
use Rattle.bg_elim.specs.declared.work.Stand.TheVariants.{Alone, Implied, Nearer}
use Rattle.bg_elim.specs.declared.work.Side.TheVariants.{Above, Below}
use Rattle.bg_elim.specs.Kept.{is_in}
use Rattle.bg_elim.specs.Work.{WorkOf, is_live, marked, is_nearer, on_side, off_side, with_row, IsSide}

-- ---- the numbers

marked_low : (q n : ℕ) (bs : List Bool) → q < n → is_in q (marked n bs) ≡ false
marked_low q n [] h = refl
marked_low q n (b ∷ bs) h = by_mark b (marked_low q (suc n) bs (omega arith)) (unequal (nat_eq q n) refl)
  where
    unequal : (d : Bool) → nat_eq q n ≡ d → nat_eq q n ≡ false
    unequal true e = absurd (let same : q ≡ n = eqb-true q n e in omega (arith, same, h))
    unequal false e = e

    by_mark : (b : Bool) → is_in q (marked (suc n) bs) ≡ false → nat_eq q n ≡ false → is_in q (cond b (n ∷ marked (suc n) bs) (marked (suc n) bs)) ≡ false
    by_mark true h e = rw (e, h) refl
    by_mark false h e = h

marked_at : (q k n : ℕ) (bs : List Bool) → q ≡ n + k → is_in q (marked n bs) ≡ is_live bs k
marked_at q k n [] e = refl
marked_at q zero n (true ∷ bs) e =
    let same : q ≡ n = omega (arith, e) in
    rw (eq-eqb q n same) refl
marked_at q zero n (false ∷ bs) e = marked_low q (suc n) bs (omega (arith, e))
marked_at q (suc k) n (b ∷ bs) e = by_mark b (marked_at q k (suc n) bs (omega (arith, e))) (unequal (nat_eq q n) refl)
  where
    unequal : (d : Bool) → nat_eq q n ≡ d → nat_eq q n ≡ false
    unequal true f = absurd (let same : q ≡ n = eqb-true q n f in omega (arith, same, e))
    unequal false f = f

    by_mark : (b : Bool) → is_in q (marked (suc n) bs) ≡ is_live bs k → nat_eq q n ≡ false → is_in q (cond b (n ∷ marked (suc n) bs) (marked (suc n) bs)) ≡ is_live bs k
    by_mark true h f = rw f h
    by_mark false h f = h

pub live_is : (bs : List Bool) (q : ℕ) → is_in q (marked 0 bs) ≡ is_live bs q
live_is bs q = marked_at q q 0 bs (omega arith)

pub marked_last : (n : ℕ) (bs : List Bool) → marked n (bs ++ (false ∷ [])) ≡ marked n bs
marked_last n [] = refl
marked_last n (true ∷ bs) = ap (λ (z : List ℕ). n ∷ z) (marked_last (suc n) bs)
marked_last n (false ∷ bs) = marked_last (suc n) bs

pub live_last : (bs : List Bool) (q : ℕ) → is_live (bs ++ (false ∷ [])) q ≡ is_live bs q
live_last bs q = sym (live_is (bs ++ (false ∷ [])) q) ∙ ap (is_in q) (marked_last 0 bs) ∙ live_is bs q

pub live_below : (bs : List Bool) (q : ℕ) → is_live bs q ≡ true → q < length bs
live_below [] q h = absurd (cc)
live_below (b ∷ bs) zero h = omega arith
live_below (b ∷ bs) (suc q) h = let k = live_below bs q h in omega (arith, k)

pub pushed_work : (w : WorkOf) (r : RowOf) (reason : Reason) (reasons : List Reason) (rows : List RowOf) (live : List ℕ) → reasons ≡ w.reasons ++ (reason ∷ []) → rows ≡ w.rows ++ (r ∷ []) → live ≡ w.live → record w { reasons = reasons; rows = rows; live = live } ≡ with_row w r reason
pushed_work w r reason reasons rows live p q s = rw (p, q, s) refl

-- ---- a mark that is set or taken away

and_false : (b : Bool) → (b && false) ≡ false
and_false true = refl
and_false false = refl

and_true : (b : Bool) → (b && true) ≡ b
and_true true = refl
and_true false = refl

apart : (a b : ℕ) → nat_eq a b ≡ false → a ≡ b → ⊥
apart a b e same = let f = eq-eqb a b same in absurd (cc)

pub live_set : (bs : List Bool) (m q : ℕ) (b : Bool) → m < length bs → is_live (set bs m b) q ≡ cond (nat_eq q m) b (is_live bs q)
live_set bs m q b h = by_test (nat_eq q m) refl
  where
    by_test : (d : Bool) → nat_eq q m ≡ d → is_live (set bs m b) q ≡ cond d b (is_live bs q)
    by_test true e = get_or-set_at bs m q b false (eqb-true q m e) h
    by_test false e = get_or-set_other bs m q b false (apart q m e)

-- a number goes
pub live_out : (bs new : List Bool) (m q : ℕ) → m < length bs → new ≡ set bs m false → is_live new q ≡ (is_live bs q && not (nat_eq q m))
live_out bs new m q h e = ap (λ (z : List Bool). is_live z q) e ∙ live_set bs m q false h ∙ by_test (nat_eq q m)
  where
    by_test : (d : Bool) → cond d false (is_live bs q) ≡ (is_live bs q && not d)
    by_test true = sym (and_false (is_live bs q))
    by_test false = sym (and_true (is_live bs q))

-- one that wasn't there goes
pub live_past : (bs : List Bool) (m q : ℕ) → length bs ≤ m → is_live bs q ≡ (is_live bs q && not (nat_eq q m))
live_past bs m q h = by_live (is_live bs q) refl (nat_eq q m) refl
  where
    by_live : (b : Bool) → is_live bs q ≡ b → (d : Bool) → nat_eq q m ≡ d → b ≡ (b && not d)
    by_live true e true f = absurd (let k = live_below bs q e in let same : q ≡ m = eqb-true q m f in omega (arith, k, same, h))
    by_live true e false f = refl
    by_live false e d f = refl

-- one more number goes
pub out_more : (a b c d : Bool) → a ≡ (b && not c) → (a && not d) ≡ (b && not (c || d))
out_more a b true d h = rw h (still b)
  where
    still : (b : Bool) → ((b && false) && not d) ≡ (b && false)
    still true = refl
    still false = refl
out_more a b false d h = rw h (ap (λ z. z && not d) (and_true b))

pub nearer_is : (stand : Stand) (q : ℕ) → is_nearer q stand ≡ true → stand ≡ Nearer q
nearer_is Alone q h = absurd (cc)
nearer_is (Implied n) q h = absurd (cc)
nearer_is (Nearer n) q h = ap Nearer (sym (eqb-true q n h))

pub joined_is : (old left new : List Bool) (m q : ℕ) (stand : Stand) → m < length left → is_live left q ≡ (is_live old q && not (is_nearer q stand)) → new ≡ set left m true → is_in q (marked 0 new) ≡ (nat_eq q m || (is_in q (marked 0 old) && not (is_nearer q stand)))
joined_is old left new m q stand h l e = live_is new q ∙ ap (λ (z : List Bool). is_live z q) e ∙ live_set left m q true h ∙ by_test (nat_eq q m)
  where
    by_test : (d : Bool) → cond d true (is_live left q) ≡ (d || (is_in q (marked 0 old) && not (is_nearer q stand)))
    by_test true = refl
    by_test false = l ∙ ap (λ z. z && not (is_nearer q stand)) (sym (live_is old q))

-- ---- what is left without both sides of a variable

sides_split : (c : ℤ) → (not (int_lt (pos 0) c) && not (int_lt c (pos 0))) ≡ is_zero c
sides_split (pos zero) = refl
sides_split (pos (suc n)) =
    let a : int_lt (pos 0) (pos (suc n)) ≡ true = grind (arith, ints) in
    let z : is_zero (pos (suc n)) ≡ false = grind arith in
    rw (a, z) refl
sides_split (negsuc n) = refl

pub row_there : (rows : List RowOf) (n : ℕ) → n < length rows → (r : RowOf) × (row_at rows n ≡ Some r)
row_there [] n h = absurd (omega arith)
row_there (r ∷ rows) zero h = (r, refl)
row_there (r ∷ rows) (suc n) h = row_there rows n (omega arith)

pub rest_is : (w : WorkOf) (x : ℕ) (ups lows rest : List ℕ) → ((n : ℕ) → is_in n w.live ≡ true → n < length w.rows) → IsSide w Above x ups → IsSide w Below x lows → ((n : ℕ) → is_in n rest ≡ ((is_in n w.live && not (is_in n ups)) && not (is_in n lows))) → (n : ℕ) → is_in n rest ≡ (is_in n w.live && off_side x (row_at w.rows n))
rest_is w x ups lows rest sized su sl s n = s n ∙ rw (su n, sl n) (by_live (is_in n w.live) refl)
  where
    by_row : (o : Option RowOf) → (r : RowOf) → o ≡ Some r → ((true && not (true && on_side Above x o)) && not (true && on_side Below x o)) ≡ (true && off_side x o)
    by_row o r e = rw e (sides_split (coefficient x r.entries))

    by_live : (b : Bool) → is_in n w.live ≡ b → ((b && not (b && on_side Above x (row_at w.rows n))) && not (b && on_side Below x (row_at w.rows n))) ≡ (b && off_side x (row_at w.rows n))
    by_live true e = let r = row_there w.rows n (sized n e) in by_row (row_at w.rows n) r.0 r.1
    by_live false e = refl

-- two lists of numbers go
pub left_is : (live mid last : List Bool) (ups lows us ls : List ℕ) → us ≡ ups → ls ≡ lows → ((q : ℕ) → is_live mid q ≡ (is_live live q && not (is_in q us))) → ((q : ℕ) → is_live last q ≡ (is_live mid q && not (is_in q ls))) → (n : ℕ) → is_in n (marked 0 last) ≡ ((is_in n (marked 0 live) && not (is_in n ups)) && not (is_in n lows))
left_is live mid last ups lows us ls e f a b n =
    live_is last n ∙ b n ∙ ap (λ z. z && not (is_in n ls)) (a n)
    ∙ ap (λ z. (z && not (is_in n us)) && not (is_in n ls)) (sym (live_is live n))
    ∙ ap (λ (z : List ℕ). (is_in n (marked 0 live) && not (is_in n z)) && not (is_in n ls)) e
    ∙ ap (λ (z : List ℕ). (is_in n (marked 0 live) && not (is_in n ups)) && not (is_in n z)) f
