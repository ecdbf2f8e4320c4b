-- What a place comes to.
use Rattle.std.proofs.Common.{◌≡◌, ℕ, zero, suc, ◌+◌, ◌<◌, ◌≤◌, Bool, true, false, List, [], ◌∷◌, length, map, get_or, refl, sym, ap, ◌∙◌, subst, ◌⊎◌, inl, inr, arith}
use Rattle.std.specs.Prelude.{Option, Some, None, Result, Ok, Err, IfOk, slice_get, ◌||◌}
use Rattle.std.specs.declared.alloc.AllocError.{AllocError}
use Rattle.std.specs.List.{list_all}
use Rattle.bg_text.specs.Trees.{Id}
use Rattle.bg_ast.specs.Syntax.{Prog}
use Rattle.bg_ast.specs.Resolved as r
use Rattle.bg_ast.specs.Meaning.{meaning_of}
use Rattle.bg_ast.specs.Execution.{Place}
use Rattle.bg_sense.specs.Clauses.{is_kept}
use Rattle.bg_sense.proofs.Bools.{and_left, and_right}
use Rattle.bg_formula.specs.Formulas.{Formula}
use Rattle.bg_places.specs.Placed.{Placed, placed_impl}
use Rattle.bg_places.specs.Views.{placed_of, placed_in}
use Rattle.bg_places.specs.declared.place.Place as code
use Rattle.bg_places.specs.declared.place.Spot.TheVariants as spot
use Rattle.bg_numbered.specs.Lines.{Line}
use Rattle.bg_task.specs.Cuts.{HasOwnClauses}
use Rattle.bg_task.specs.declared.prepared.Prepared.{Prepared}
use Rattle.bg_task.specs.Prepared.{IsPrepared}
use Rattle.bg_task.proofs.Numbered.{OfNumber, number_impl}
use Rattle.bg_certtext.specs.declared.text.Section.{Section}
use Rattle.bg_certtext.specs.Views.{SectionOf, section_of}
use Rattle.bg_certtext.specs.Spellable as s
use Rattle.bg_accept.specs.Sections.{accepts_section, section_at}
use Rattle.bg_accept.specs.Lines.{NamesLines}
use Rattle.bg_accept.specs.Accepted.{places_of, places_at, IsShown, IsBare, IsRequired}
use Rattle.bg_accept.specs.Tables.{any_needed}
use Rattle.bg_accept.specs.Reading.{IsSettledBehind, IsSettled, IsSettledBy, IsFine, AreShownTo, AreShownOf, IsBareOf}
use Rattle.bg_accept.proofs.Whole.{last_or_before}

-- ---- a section's rows are spelled

pub spelled_rows : (ss : List Section) (n : ℕ) (d : Section) → list_all s.is_section (map section_of ss) ≡ true → n < length ss → list_all s.is_row (section_of (get_or ss n d)).table ≡ true
spelled_rows [] n d h l = absurd (omega arith)
spelled_rows (x ∷ ss) zero d h l =
    let t = section_of x in
    let a = and_left (s.is_section t) (list_all s.is_section (map section_of ss)) h in
    let b = and_right (s.is_number t.implementation) _ a in
    let q = and_right (s.is_number t.place) _ b in
    let e = and_right (list_all s.is_stated t.stated) _ q in
    let f = and_right (s.is_number (length t.table)) _ e in
    and_left (list_all s.is_row t.table) _ f
spelled_rows (x ∷ ss) (suc n) d h l = spelled_rows ss n d (and_right (s.is_section (section_of x)) _ h) (omega arith)

-- ---- one place

pub settled : (p : Prog) (set : ℕ → Bool) (names : List Id) (t : SectionOf) (u : Place) (es : List Line) (f : Formula) → HasOwnClauses p u es f → (o : Result Bool AllocError) → IfOk o (λ said. said ≡ accepts_section f set names t) → IfOk o (IsSettledBehind p set names t u es)
settled p set names t u es f h (Ok true) e = (f, (h, sym e))
settled p set names t u es f h (Ok false) e = inl (f, (h, sym e))
settled p set names t u es f h (Err x) e = e

-- the same behind the lines that the section names
pub settled_so : (p : Prog) (set : ℕ → Bool) (names : List Id) (t : SectionOf) (u : Place) (es : List Line) → NamesLines p u t.stated (Some es) → (o : Result Bool AllocError) → IfOk o (IsSettledBehind p set names t u es) → IfOk o (IsSettled p set names t u)
settled_so p set names t u es n (Ok true) h = (es, (n, h))
settled_so p set names t u es n (Ok false) h = inr (es, (n, h))
settled_so p set names t u es n (Err x) h = h

pub settled_there : (p : Prog) (set : ℕ → Bool) (names : List Id) (o : Option SectionOf) (t : SectionOf) (u : Place) (x : Result Bool AllocError) → o ≡ Some t → IfOk x (IsSettled p set names t u) → IfOk x (IsSettledBy p set names o u)
settled_there p set names o t u x e h = subst (λ y. IfOk x (IsSettledBy p set names y u)) (sym e) h

-- ---- the places of an implementation

-- what code sees where there is no place
abbrev pub no_place : code.Place
no_place = record { implementation = 0; spot = spot.Assert 0; candidate = None; pos = record { line = 0; column = 0 }; call = None }

module _ (p : r.Program) (set : ℕ → Bool) (ss : List SectionOf) where
  shown_by : (names : List Id) (k i : ℕ) (o : Option SectionOf) (u : Place) → u.implementation ≡ k → o ≡ section_at k i ss → IsSettledBy (meaning_of p) set names o u true → IsShown (meaning_of p) set names ss i u
  shown_by names k i None u n e h = absurd (let bad : ⊥ = cc in bad)
  shown_by names k i (Some t) u n e h =
      record { section = t; is_its = ap (λ j. section_at j i ss) n ∙ sym e; lines = h.0; names_them = h.1.0; formula = h.1.1.0; is = h.1.1.1.0; accepted = h.1.1.1.1 }

  bare_by : (names : List Id) (k i : ℕ) (o : Option SectionOf) (u : Place) → u.implementation ≡ k → o ≡ section_at k i ss → IsSettledBy (meaning_of p) set names o u false → IsBare (meaning_of p) set names ss i u
  bare_by names k i None u n e h = inl (ap (λ j. section_at j i ss) n ∙ sym e)
  bare_by names k i (Some t) u n e (inl h) =
      inr (inl (record { section = t; is_its = ap (λ j. section_at j i ss) n ∙ sym e; names_none = h }))
  bare_by names k i (Some t) u n e (inr h) = behind h.1.1
    where
      behind : IsSettledBehind (meaning_of p) set names t u h.0 false → IsBare (meaning_of p) set names ss i u
      behind (inl g) =
          inr (inr (inl (record { section = t; is_its = ap (λ j. section_at j i ss) n ∙ sym e; lines = h.0; names_them = h.1.0; formula = g.0; is = g.1.0; refused = g.1.1 })))
      behind (inr g) =
          inr (inr (inr (record { section = t; is_its = ap (λ j. section_at j i ss) n ∙ sym e; lines = h.0; names_them = h.1.0; operation = g.0; is = g.1 })))

  number_at_place : (k i : ℕ) (a : Placed) → slice_get (places_at p k) i ≡ Some a → a.place.implementation ≡ k
  number_at_place k i a e = by_impl (slice_get p.implementations k) e
    where
      of_number : (xs : List Placed) (j : ℕ) → OfNumber k xs → slice_get xs j ≡ Some a → a.place.implementation ≡ k
      of_number [] j h g = absurd (let bad : ⊥ = cc in bad)
      of_number (x ∷ xs) zero h g = let is : x ≡ a = cc in ap (λ y. y.place.implementation) (sym is) ∙ h.0
      of_number (x ∷ xs) (suc j) h g = of_number xs j h.1 g

      by_impl : (m : Option r.Impl) → slice_get (places_of p k m) i ≡ Some a → a.place.implementation ≡ k
      by_impl None g = absurd (let bad : ⊥ = cc in bad)
      by_impl (Some m) g = of_number (placed_impl p.procedures k m) i (number_impl p.procedures k m) g

  pub place_number : (k i : ℕ) (a : Placed) → IsRequired p set k i a → a.place.implementation ≡ k
  place_number k i a h = number_at_place k i a h.there

  placed_here : (ps : List code.Place) (i : ℕ) (d : code.Place) → i < length ps → slice_get (placed_in ps) i ≡ Some (placed_of (get_or ps i d))
  placed_here [] i d l = absurd (omega arith)
  placed_here (x ∷ ps) zero d l = refl
  placed_here (x ∷ ps) (suc i) d l = placed_here ps i d (omega arith)

  -- the place with this number
  pub here_at : (k : ℕ) (ps : List code.Place) (i : ℕ) (d : code.Place) → placed_in ps ≡ places_at p k → i < length ps → slice_get (places_at p k) i ≡ Some (placed_of (get_or ps i d))
  here_at k ps i d e l = sym (ap (λ xs. slice_get xs i) e) ∙ placed_here ps i d l

  pub number_here : (k : ℕ) (ps : List code.Place) (i : ℕ) (d : code.Place) → placed_in ps ≡ places_at p k → i < length ps → (get_or ps i d).implementation ≡ k
  number_here k ps i d e l = number_at_place k i (placed_of (get_or ps i d)) (here_at k ps i d e l)

  pub prepared_here : (k : ℕ) (ps : List code.Place) (i : ℕ) (d : code.Place) (w : Prepared) → placed_in ps ≡ places_at p k → i < length ps → IsPrepared p k w → IsPrepared p (get_or ps i d).implementation w
  prepared_here k ps i d w e l h = subst (λ j. IsPrepared p j w) (sym (number_here k ps i d e l)) h

  pub one_shown : (k : ℕ) (ps : List code.Place) (i : ℕ) (d : code.Place) (o : Option SectionOf) → placed_in ps ≡ places_at p k → i < length ps → o ≡ section_at k i ss → IsFine (meaning_of p) set p.candidates o (placed_of (get_or ps i d)).place true → AreShownTo p set ss k i → AreShownTo p set ss k (i + 1)
  one_shown k ps i d o e l s fine h j a lt q = by (last_or_before j i lt)
    where
      by : (j < i) ⊎ (j ≡ i) → IsShown (meaning_of p) set p.candidates ss j a.place
      by (inl b) = h j a b q
      by (inr b) =
          let g : Some a ≡ Some (placed_of (get_or ps i d)) = sym q.there ∙ (ap (slice_get (places_at p k)) b ∙ here_at k ps i d e l) in
          let same : a ≡ placed_of (get_or ps i d) = cc in
          let f = subst (λ (y : Placed). IsFine (meaning_of p) set p.candidates o y.place true) (sym same) fine in
          shown_by p.candidates k j o a.place (place_number k j a q) (s ∙ ap (λ n. section_at k n ss) (sym b)) (f q.kept)

  pub one_bare : (k : ℕ) (ps : List code.Place) (i : ℕ) (d : code.Place) (o : Option SectionOf) → placed_in ps ≡ places_at p k → i < length ps → o ≡ section_at k i ss → IsFine (meaning_of p) set p.candidates o (placed_of (get_or ps i d)).place false → AreShownTo p set ss k i → IsBareOf p set ss k (placed_of (get_or ps i d))
  one_bare k ps i d o e l s fine h =
      let at = here_at k ps i d e l in
      record {
        number = i;
        required = record { there = at; kept = fine.0 };
        bare = bare_by p.candidates k i o (placed_of (get_or ps i d)).place (number_at_place k i (placed_of (get_or ps i d)) at) s fine.1;
        before = h;
      }

  within : (k : ℕ) (ps : List Placed) (i : ℕ) (a : Placed) → slice_get ps i ≡ Some a → i < length ps
  within k [] i a e = absurd (let bad : ⊥ = cc in bad)
  within k (x ∷ ps) zero a e = omega arith
  within k (x ∷ ps) (suc i) a e = let l = within k ps i a e in omega (arith, l)

  pub all_shown : (k : ℕ) (ps : List code.Place) (n : ℕ) → placed_in ps ≡ places_at p k → length ps ≤ n → AreShownTo p set ss k n → AreShownOf p set ss k
  all_shown k ps n e l h i a q =
      let w = within k (placed_in ps) i a (ap (λ xs. slice_get xs i) e ∙ q.there) in
      let m = long ps in
      h i a (omega (arith, w, m, l)) q
    where
      long : (xs : List code.Place) → length (placed_in xs) ≡ length xs
      long [] = refl
      long (x ∷ xs) = ap suc (long xs)

  -- no place needs a section
  pub none_needed : (k : ℕ) (ps : List code.Place) → placed_in ps ≡ places_at p k → any_needed set (placed_in ps) ≡ false → AreShownOf p set ss k
  none_needed k ps e h i a q = absurd (no (placed_in ps) i h (ap (λ xs. slice_get xs i) e ∙ q.there))
    where
      either : (b c : Bool) → (b || c) ≡ false → (b ≡ false) × (c ≡ false)
      either true c g = absurd (let bad : ⊥ = cc in bad)
      either false c g = (refl, g)

      no : (xs : List Placed) (j : ℕ) → any_needed set xs ≡ false → slice_get xs j ≡ Some a → ⊥
      no [] j g f = cc
      no (x ∷ xs) zero g f =
          let is : x ≡ a = cc in
          let b = (either (is_kept set x.place.candidate) (any_needed set xs) g).0 in
          let c : is_kept set x.place.candidate ≡ true = ap (λ y. is_kept set y.place.candidate) is ∙ q.kept in
          cc
      no (x ∷ xs) (suc j) g f = no xs j (either (is_kept set x.place.candidate) (any_needed set xs) g).1 f
