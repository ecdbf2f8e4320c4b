-- The start of an elimination.
use Rattle.std.proofs.Common.{◌≡◌, ℕ, suc, ◌+◌, ◌<◌, true, List, [], ◌∷◌, length, map, get_or, ◌⊎◌, inl, inr, refl, sym, ap, ◌∙◌, subst, below_more}
use Rattle.std.specs.Prelude.{Some, None}
use Rattle.bg_rows.specs.declared.row.Row.{Row}
use Rattle.bg_rows.specs.Rows.{RowOf, row_of, tightened}
use Rattle.bg_rows.specs.Steps.{row_at}
use Rattle.bg_elim.specs.Kept.{is_true_row, Among, AllKept}
use Rattle.bg_elim.specs.Work.{WorkOf, free, Placed, StaysPlaced, IsThere, AllInside, KeepsRows}
use Rattle.bg_elim.proofs.Places.{at_map}

pub given_at : (given : List Row) (j : ℕ) (r : Row) → j < length given → r ≡ get_or given j r → row_at (map row_of given) j ≡ Some (row_of r)
given_at given j r h e = at_map row_of given j r h ∙ ap (λ (z : Row). Some (row_of z)) (sym e)

pub no_row : (rows : List Row) (n : ℕ) (r : RowOf) → rows ≡ [] → row_at (map row_of rows) n ≡ Some r → ⊥
no_row rows n r e h =
    let g : None ≡ Some r = subst (λ (z : List Row). row_at (map row_of z) n ≡ Some r) e h in
    absurd (cc)

pub there_more : (w made : WorkOf) (r : RowOf) → KeepsRows w made → IsThere r w → IsThere r made
there_more w made r k (inl t) = inl t
there_more w made r k (inr a) = inr (a.0, k a.0 r a.1)

pub there_below : (given : List RowOf) (made : WorkOf) (j : ℕ) (s : RowOf) → row_at given j ≡ Some s → ((n : ℕ) (r : RowOf) → n < j → row_at given n ≡ Some r → IsThere r made) → IsThere s made → (n : ℕ) (r : RowOf) → n < j + 1 → row_at given n ≡ Some r → IsThere r made
there_below given made j s at f g n r lt h =
    below_more (λ n. (r : RowOf) → row_at given n ≡ Some r → IsThere r made) j (λ n lt r h. f n r lt h) (λ r h. let e : s ≡ r = cc in subst (λ (z : RowOf). IsThere z made) e g) n lt r h

pub start_placed : (given : List RowOf) (w made : WorkOf) (j : ℕ) (r : RowOf) → w.order ≡ [] → row_at given j ≡ Some r → StaysPlaced w r made → ((all : List ℕ) → AllInside all given → Placed all [] w) → (all : List ℕ) → AllInside all given → Placed all [] made
start_placed given w made j r o at s p all h =
    let f : free w.order r ≡ true = rw o refl in
    (s all [] (p all h) (h j r at) f).0

pub all_kept : (given : List RowOf) (w : WorkOf) → ((n : ℕ) (r : RowOf) → row_at given n ≡ Some r → IsThere r w) → AllKept given w.rows
all_kept [] w h = tt
all_kept (g ∷ given) w h = (by_cases (h 0 g refl), all_kept given w (λ n r e. h (suc n) r e))
  where
    by_cases : IsThere g w → (is_true_row g ≡ true) ⊎ (Among g w.rows ⊎ Among (tightened g) w.rows)
    by_cases (inl t) = inl t
    by_cases (inr a) = inr (inl a)
