-- Rows picked one by one.
use Rattle.std.proofs.Common.{◌≡◌, ℕ, zero, suc, ◌+◌, ◌<◌, ◌≤◌, List, [], ◌∷◌, ◌++◌, length, take, get_or, refl, ap, ◌∙◌, arith, subst}
use Rattle.std.specs.Prelude.{Option, Some, None}
use Rattle.std.proofs.lemmas.List.{take_more}
use Rattle.bg_rows.specs.Rows.{RowOf}
use Rattle.bg_rows.specs.Steps.{row_at}
use Rattle.bg_formula.specs.Atoms.{AtomOf}
use Rattle.bg_cert.specs.declared.cert.Decision.{Decision}
use Rattle.bg_cert.specs.Paths.{row_of_decision, in_front, rows_on}
use Rattle.bg_conflict.specs.Picked.{ArePicked}

-- ---- one more given row, or none

at_front : (given more : List RowOf) (n : ℕ) (r : RowOf) → row_at given n ≡ Some r → row_at (given ++ more) n ≡ Some r
at_front [] more n r h = absurd (cc)
at_front (q ∷ given) more zero r h = h
at_front (q ∷ given) more (suc n) r h = at_front given more n r h

pub picked_more : (given more : List RowOf) (ns : List ℕ) (rs : List RowOf) → ArePicked given ns rs → ArePicked (given ++ more) ns rs
picked_more given more [] [] p = tt
picked_more given more [] (r ∷ rs) p = absurd p
picked_more given more (n ∷ ns) [] p = absurd p
picked_more given more (n ∷ ns) (r ∷ rs) p = (at_front given more n r p.0, picked_more given more ns rs p.1)

-- a row behind those picked
push_picked : (given : List RowOf) (ns : List ℕ) (rs : List RowOf) (n : ℕ) (r : RowOf) → row_at given n ≡ Some r → ArePicked given ns rs → ArePicked given (ns ++ (n ∷ [])) (rs ++ (r ∷ []))
push_picked given [] [] n r h p = (h, tt)
push_picked given [] (q ∷ rs) n r h p = absurd p
push_picked given (m ∷ ns) [] n r h p = absurd p
push_picked given (m ∷ ns) (q ∷ rs) n r h p = (p.0, push_picked given ns rs n r h p.1)

at_last : (given : List RowOf) (r : RowOf) (n : ℕ) → length given ≡ n → row_at (given ++ (r ∷ [])) n ≡ Some r
at_last [] r zero h = refl
at_last [] r (suc n) h = absurd (omega arith)
at_last (q ∷ given) r zero h = absurd (omega arith)
at_last (q ∷ given) r (suc n) h = at_last given r n (omega arith)

-- the last given row is picked
pub picked_last : (given : List RowOf) (x : Option RowOf) (r : RowOf) (n : ℕ) (ns : List ℕ) (rs : List RowOf) → Some r ≡ x → length given ≡ n → ArePicked given ns rs → ArePicked (given ++ in_front x []) (ns ++ (n ∷ [])) (rs ++ (r ∷ []))
picked_last given x r n ns rs e h p =
    subst (λ (y : Option RowOf). ArePicked (given ++ in_front y []) (ns ++ (n ∷ [])) (rs ++ (r ∷ []))) e
    (push_picked (given ++ (r ∷ [])) ns rs n r (at_last given r n h) (picked_more given (r ∷ []) ns rs p))

-- ---- how many rows there are

pub one_at_most : (x : Option RowOf) → length (in_front x []) ≤ 1
one_at_most None = omega arith
one_at_most (Some r) = omega arith

-- ---- one more decision

rows_last : (atoms : List AtomOf) (ds : List Decision) (d : Decision) → rows_on atoms (ds ++ (d ∷ [])) ≡ rows_on atoms ds ++ in_front (row_of_decision atoms d) []
rows_last atoms [] d = refl
rows_last atoms (e ∷ ds) d = by_row (row_of_decision atoms e) (rows_last atoms ds d)
  where
    by_row : (x : Option RowOf) → rows_on atoms (ds ++ (d ∷ [])) ≡ rows_on atoms ds ++ in_front (row_of_decision atoms d) [] → in_front x (rows_on atoms (ds ++ (d ∷ []))) ≡ in_front x (rows_on atoms ds) ++ in_front (row_of_decision atoms d) []
    by_row None h = h
    by_row (Some r) h = ap (λ z. r ∷ z) h

pub rows_more : (atoms : List AtomOf) (ds : List Decision) (i : ℕ) (d : Decision) → i < length ds → rows_on atoms (take (i + 1) ds) ≡ rows_on atoms (take i ds) ++ in_front (row_of_decision atoms (get_or ds i d)) []
rows_more atoms ds i d lt = ap (rows_on atoms) (take_more ds i d lt) ∙ rows_last atoms (take i ds) (get_or ds i d)
