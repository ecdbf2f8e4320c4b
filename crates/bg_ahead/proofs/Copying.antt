-- Rows put behind others, one by one, with where their atoms go.
use Rattle.std.proofs.Common.{◌≡◌, ◌<◌, ◌+◌, ℕ, zero, suc, Bool, List, [], ◌∷◌, ◌++◌, length, map, drop, get_or, sym, ap, ◌∙◌, arith, append_assoc}
use Rattle.std.proofs.lemmas.List.{drop_more, map-append}
use Rattle.std.specs.Prelude.{Some, None, is_some, if◌then◌else◌}
use Rattle.bg_rows.specs.Rows.{row_of}
use Rattle.bg_formula.specs.declared.atom.Literal.{Literal}
use Rattle.bg_formula.specs.declared.atom.Linear.{Linear}
use Rattle.bg_formula.specs.Atoms.{AtomOf, view_linear}
use Rattle.bg_atoms.specs.Literals.{literal_of}
use Rattle.bg_ahead.specs.Rows.{fresh, itself, placed, places, stays}
use Rattle.bg_ahead.proofs.Places.{there_literal}

-- ---- atoms that stay

stays_suc : (a n : ℕ) → stays a (suc n) ≡ stays a n ++ itself (a + n) ∷ []
stays_suc a zero = let same : a ≡ a + 0 = omega arith in ap (λ x. itself x ∷ []) same
stays_suc a (suc n) =
    let same : suc a + n ≡ a + suc n = omega arith in
    ap (λ l. itself a ∷ l) (stays_suc (suc a) n ∙ ap (λ x. stays (suc a) n ++ itself x ∷ []) same)

pub one_stays : (n : ℕ) (made new : List Literal) → made ≡ stays 0 n → new ≡ made ++ itself n ∷ [] → new ≡ stays 0 (n + 1)
one_stays n made new is push =
    let same : suc n ≡ n + 1 = omega arith in
    let from : n ≡ 0 + n = omega arith in
    push ∙ ap (λ l. l ++ itself n ∷ []) is ∙ ap (λ x. stays 0 n ++ itself x ∷ []) from ∙ sym (stays_suc 0 n) ∙ ap (stays 0) same

-- ---- rows of which these are left

module _ (m : ℕ) (front : List AtomOf) (rows : List Linear) (i : ℕ) (a : Linear) (lt : i < length rows) (is : a ≡ get_or rows i a) where
  abbrev rest : List AtomOf
  rest = map view_linear (drop (i + 1) rows)

  split : map view_linear (drop i rows) ≡ view_linear a ∷ rest
  split = ap (map view_linear) (drop_more rows i a lt) ∙ ap (λ z. view_linear z ∷ rest) (sym is)

  abbrev fresh_by : Bool → List AtomOf
  fresh_by b = if b then fresh front rest else view_linear a ∷ fresh front rest

  -- a row that has a literal
  pub rows_there : (l : Literal) (made whole : List AtomOf) → literal_of (row_of a.row) m front ≡ Some l → made ++ fresh front (map view_linear (drop i rows)) ≡ whole → made ++ fresh front rest ≡ whole
  rows_there l made whole found h =
      let first : fresh front (map view_linear (drop i rows)) ≡ fresh front rest = ap (fresh front) split ∙ ap fresh_by (there_literal (row_of a.row) m front ∙ ap is_some found) in
      ap (λ l. made ++ l) (sym first) ∙ h

  pub goes_there : (l : Literal) (k : ℕ) (made new whole : List Literal) → literal_of (row_of a.row) m front ≡ Some l → new ≡ made ++ l ∷ [] → made ++ places m front (map view_linear (drop i rows)) k ≡ whole → new ++ places m front rest k ≡ whole
  goes_there l k made new whole found push h =
      let first : places m front (map view_linear (drop i rows)) k ≡ l ∷ places m front rest k = ap (λ z. places m front z k) split ∙ ap (λ o. placed o k (places m front rest)) found in
      ap (λ z. z ++ places m front rest k) push ∙ append_assoc made (l ∷ []) (places m front rest k) ∙ ap (λ z. made ++ z) (sym first) ∙ h

  -- a row that has none
  pub rows_new : (made new : List Linear) (x : Linear) (whole : List AtomOf) → literal_of (row_of a.row) m front ≡ None → view_linear x ≡ view_linear a → new ≡ made ++ x ∷ [] → map view_linear made ++ fresh front (map view_linear (drop i rows)) ≡ whole → map view_linear new ++ fresh front rest ≡ whole
  rows_new made new x whole none same push h =
      let first : fresh front (map view_linear (drop i rows)) ≡ view_linear a ∷ fresh front rest = ap (fresh front) split ∙ ap fresh_by (there_literal (row_of a.row) m front ∙ ap is_some none) in
      ap (λ z. map view_linear z ++ fresh front rest) push
      ∙ ap (λ z. z ++ fresh front rest) (map-append view_linear made (x ∷ []))
      ∙ append_assoc (map view_linear made) (view_linear x ∷ []) (fresh front rest)
      ∙ ap (λ z. map view_linear made ++ z ∷ fresh front rest) same
      ∙ ap (λ z. map view_linear made ++ z) (sym first)
      ∙ h

  pub goes_new : (k next : ℕ) (made new whole : List Literal) → literal_of (row_of a.row) m front ≡ None → new ≡ made ++ itself k ∷ [] → next ≡ k + 1 → made ++ places m front (map view_linear (drop i rows)) k ≡ whole → new ++ places m front rest next ≡ whole
  goes_new k next made new whole none push step h =
      let first : places m front (map view_linear (drop i rows)) k ≡ itself k ∷ places m front rest (suc k) = ap (λ z. places m front z k) split ∙ ap (λ o. placed o k (places m front rest)) none in
      let on : next ≡ suc k = omega arith in
      ap (λ z. z ++ places m front rest next) push
      ∙ append_assoc made (itself k ∷ []) (places m front rest next)
      ∙ ap (λ z. made ++ itself k ∷ places m front rest z) on
      ∙ ap (λ z. made ++ z) (sym first)
      ∙ h
