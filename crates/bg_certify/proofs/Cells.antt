-- The certificates that a true outcome has for places are right.
use Rattle.std.proofs.Common.{◌≡◌, ℕ, zero, suc, ◌+◌, Bool, true, false, List, [], ◌∷◌, ◌++◌, length, map, Option, Some, None, refl, sym, ap, ◌∙◌, subst, inl, inr, cond, arith}
use Rattle.std.specs.Prelude.{◌⊎◌, is_some, is_none, slice_get, filter, Contains, drop, if◌then◌else◌}
use Rattle.std.specs.List.{list_all}
use Rattle.bg_ast.specs.Syntax.{Prog}
use Rattle.bg_ast.specs.Resolved as r
use Rattle.bg_ast.specs.Meaning.{meaning_of}
use Rattle.bg_ast.specs.Execution.{Place}
use Rattle.bg_sense.specs.Clauses.{is_kept}
use Rattle.bg_sense.proofs.Bools.{and_left, and_right}
use Rattle.bg_check.specs.declared.proof.Proof.{Proof}
use Rattle.bg_term_table.specs.Lines.{lines_of}
use Rattle.bg_places.specs.Placed.{Placed, place_in, placed_impl, placed_from}
use Rattle.bg_rounds.specs.declared.checker.Kept.{Kept}
use Rattle.bg_sound.specs.Told.{is_ordinary}
use Rattle.bg_task.specs.Certified.{HasCertificate}
use Rattle.bg_tree.specs.declared.outcome.Budget.{Budget}
use Rattle.bg_check.specs.declared.verdict.Verdict.{Verdict}
use Rattle.bg_check.specs.declared.verdict.Verdict.TheVariants.{Proved, Refuted, Unknown, Left}
use Rattle.bg_check.specs.declared.verdict.Judged.{Judged}
use Rattle.bg_check.specs.Verdicts.{IsRight, has_all, have_all, placed_at, AreRightAt, AreRightFrom, is_proved}
use Rattle.bg_houdini.specs.Tasks.{has_candidate, number_or}
use Rattle.bg_certify.specs.Found.{Shown, shown_of, cert_kept, cert_proved, cert_for, kept_behind, judged_behind, certs_for, kept_after, certs_from}
use Rattle.bg_certify.proofs.Order.{cert_at, certs_at}

-- ---- what a place has

-- the place has this certificate, of its clauses under the set
pub record HasIt (p : Prog) (set : ℕ → Bool) (t : Place) (z : Option ℕ) (x : Option Shown) : Type 0 where
  pub cert : Shown
  pub is : x ≡ Some cert
  pub kept : is_kept set z ≡ true
  pub right : HasCertificate p set t (lines_of cert.lines) cert.cert

-- the place has a verdict that it isn't proved
pub record HasNone (whole : List Judged) (a : Placed) (x : Option Shown) : Type 0 where
  pub none : x ≡ None
  pub verdict : Judged
  pub one : Contains whole verdict
  pub its : placed_at verdict ≡ a
  pub unproved : is_proved verdict.verdict ≡ false

abbrev pub Cell : Prog → (ℕ → Bool) → List Judged → Placed → Option ℕ → Option Shown → Type 0
Cell p set whole a z x = ((x ≡ None) × (is_kept set z ≡ false)) ⊎ (HasIt p set a.place z x ⊎ HasNone whole a x)

-- each place has what it is to have
abbrev pub AreCells : Prog → (ℕ → Bool) → List Judged → List Placed → List (Option Shown) → Type 0
AreCells p set whole [] [] = Unit {0}
AreCells p set whole [] (c ∷ cs) = ⊥
AreCells p set whole (a ∷ xs) [] = ⊥
AreCells p set whole (a ∷ xs) (c ∷ cs) = Cell p set whole a a.place.candidate c × AreCells p set whole xs cs

-- ---- what is kept

-- the first that is kept is a certificate of the place, where its candidate is in the set
abbrev KeptOn : Prog → (ℕ → Bool) → Option ℕ → Place → List (Option (Kept (Option Proof))) → Type 0
KeptOn p set None t ks = Unit {0}
KeptOn p set (Some b) t ks = set b ≡ true → (c : Shown) × ((cert_kept (slice_get ks 0) ≡ Some c) × HasCertificate p set t (lines_of c.lines) c.cert)

abbrev pub AreKept : Prog → (ℕ → Bool) → List (Option (Kept (Option Proof))) → List Placed → Type 0
AreKept p set ks [] = Unit {0}
AreKept p set ks (a ∷ xs) = KeptOn p set a.place.candidate a.place ks × AreKept p set (kept_behind a.place.candidate ks) xs

kept_split : (p : Prog) (set : ℕ → Bool) (xs ys : List Placed) (ks : List (Option (Kept (Option Proof)))) → AreKept p set ks (xs ++ ys) → AreKept p set ks xs × AreKept p set (kept_after ks xs) ys
kept_split p set [] ys ks h = (tt, h)
kept_split p set (a ∷ xs) ys ks h = let w = kept_split p set xs ys (kept_behind a.place.candidate ks) h.1 in ((h.0, w.0), w.1)

get_behind : {X : Type 0} (xs : List X) (t : ℕ) → slice_get (drop 1 xs) t ≡ slice_get xs (suc t)
get_behind [] t = refl
get_behind (x ∷ xs) t = refl

-- each task of a candidate in the set has a certificate that is kept
abbrev pub TasksKept : Prog → (ℕ → Bool) → List (Option (Kept (Option Proof))) → List Place → Type 0
TasksKept p set ks tasks =
    (t : ℕ) (task : Place) → slice_get tasks t ≡ Some task → set (number_or task.candidate) ≡ true → (c : Shown) × ((cert_kept (slice_get ks t) ≡ Some c) × HasCertificate p set task (lines_of c.lines) c.cert)

pub kept_from : (p : Prog) (set : ℕ → Bool) (xs : List Placed) (ks : List (Option (Kept (Option Proof)))) → TasksKept p set ks (filter has_candidate (map place_in xs)) → AreKept p set ks xs
kept_from p set [] ks h = tt
kept_from p set (a ∷ xs) ks h = let w = by a.place.candidate refl h in (w.0, kept_from p set xs (kept_behind a.place.candidate ks) w.1)
  where
    F : List Place
    F = filter has_candidate (map place_in xs)

    by : (z : Option ℕ) → a.place.candidate ≡ z → TasksKept p set ks (cond (is_some z) (a.place ∷ filter has_candidate (map place_in xs)) (filter has_candidate (map place_in xs))) →
        KeptOn p set z a.place ks × TasksKept p set (kept_behind z ks) (filter has_candidate (map place_in xs))
    by None e f = (tt, f)
    by (Some b) e f = (
      λ s. f 0 a.place refl (ap (λ (y : Option ℕ). set (number_or y)) e ∙ s),
      λ t task at s. let w = f (suc t) task at s in (w.0, (ap cert_kept (get_behind ks t) ∙ w.1.0, w.1.1)),
    )

-- ---- the places of an implementation

first_in : (j : Judged) (js : List Judged) → Contains (j ∷ js) j
first_in j js = (0, omega arith, refl)

later_in : (j : Judged) (js : List Judged) (i : Judged) → Contains js i → Contains (j ∷ js) i
later_in j js i h = (suc h.0, omega (arith, h.1), h.2)

record Step (budget : Budget) (p : Prog) (set : ℕ → Bool) (whole : List Judged) (ks : List (Option (Kept (Option Proof)))) (js : List Judged) (a : Placed) (xs : List Placed) (z : Option ℕ) : Type 0 where
  cell : Cell p set whole a z (cert_for set ks js z)
  places : map placed_at (judged_behind z js) ≡ filter is_ordinary xs
  right : AreRightAt budget p set (judged_behind z js)
  shown : have_all (judged_behind z js) ≡ true
  within : (i : Judged) → Contains (judged_behind z js) i → Contains whole i

module _ (budget : Budget) (p : Prog) (set : ℕ → Bool) (whole : List Judged) where
  kept_cell : (ks : List (Option (Kept (Option Proof)))) (a : Placed) (b : ℕ) (t : Bool) → set b ≡ t → KeptOn p set (Some b) a.place ks → Cell p set whole a (Some b) (if t then cert_kept (slice_get ks 0) else None)
  kept_cell ks a b true e k = let w = k e in inr (inl (record { cert = w.0; is = w.1.0; kept = e; right = w.1.1 }))
  kept_cell ks a b false e k = inl (refl, e)

  judged_cell : (a : Placed) (j : Judged) (v : Verdict) → j.verdict ≡ v → placed_at j ≡ a → IsRight budget p set (placed_at j).place v → has_all v ≡ true → Contains whole j → Cell p set whole a None (cert_proved v)
  judged_cell a j (Proved (Some proof)) e f g s w =
      inr
      (inl (record { cert = shown_of proof; is = refl; kept = refl; right = subst (λ (x : Placed). HasCertificate p set x.place (lines_of proof.lines.items) proof.cert) f g }))
  judged_cell a j (Proved None) e f g s w = absurd (let h : false ≡ true = s in cc)
  judged_cell a j (Refuted cex) e f g s w =
      inr (inr (record { none = refl; verdict = j; one = w; its = f; unproved = ap is_proved e }))
  judged_cell a j (Unknown rounds cause) e f g s w =
      inr (inr (record { none = refl; verdict = j; one = w; its = f; unproved = ap is_proved e }))
  judged_cell a j (Left kept) e f g s w = absurd (let h : false ≡ true = s in cc)

  step : (ks : List (Option (Kept (Option Proof)))) (js : List Judged) (a : Placed) (xs : List Placed) (z : Option ℕ) → KeptOn p set z a.place ks →
      map placed_at js ≡ cond (is_none z) (a ∷ filter is_ordinary xs) (filter is_ordinary xs) → AreRightAt budget p set js → have_all js ≡ true → ((i : Judged) → Contains js i → Contains whole i) →
      Step budget p set whole ks js a xs z
  step ks js a xs (Some b) k e g s w = record { cell = kept_cell ks a b (set b) refl k; places = e; right = g; shown = s; within = w }
  step ks [] a xs None k e g s w = absurd (let f : [] ≡ a ∷ filter is_ordinary xs = e in cc)
  step ks (j ∷ js) a xs None k e g s w =
      let f : placed_at j ∷ map placed_at js ≡ a ∷ filter is_ordinary xs = e in
      let here : placed_at j ≡ a = cc in
      let rest : map placed_at js ≡ filter is_ordinary xs = cc in
      record {
        cell = judged_cell a j j.verdict refl here g.0 (and_left (has_all j.verdict) (have_all js) s) (w j (first_in j js));
        places = rest;
        right = g.1;
        shown = and_right (has_all j.verdict) (have_all js) s;
        within = λ i h. w i (later_in j js i h);
      }

  cells : (xs : List Placed) (ks : List (Option (Kept (Option Proof)))) (js : List Judged) → AreKept p set ks xs → map placed_at js ≡ filter is_ordinary xs → AreRightAt budget p set js → have_all js ≡ true →
      ((i : Judged) → Contains js i → Contains whole i) → AreCells p set whole xs (certs_for set ks js xs)
  cells [] ks js k e g s w = tt
  cells (a ∷ xs) ks js k e g s w =
      let n = step ks js a xs a.place.candidate k.0 e g s w in
      (n.cell, cells xs (kept_behind a.place.candidate ks) (judged_behind a.place.candidate js) k.1 n.places n.right n.shown n.within)

cell_at : (p : Prog) (set : ℕ → Bool) (whole : List Judged) (xs : List Placed) (cs : List (Option Shown)) (i : ℕ) (a : Placed) → AreCells p set whole xs cs → slice_get xs i ≡ Some a → Cell p set whole a a.place.candidate (cert_at cs i)
cell_at p set whole [] cs i a h e = absurd (let f : None ≡ Some a = e in cc)
cell_at p set whole (x ∷ xs) [] i a h e = absurd h
cell_at p set whole (x ∷ xs) (c ∷ cs) zero a h e =
    let f : x ≡ a = cc in subst (λ (y : Placed). Cell p set whole y y.place.candidate c) f h.0
cell_at p set whole (x ∷ xs) (c ∷ cs) (suc i) a h e = cell_at p set whole xs cs i a h.1 e

-- a place with a certificate is there, and its candidate is in the set
pub record IsKept (set : ℕ → Bool) (xs : List Placed) (i : ℕ) : Type 0 where
  pub placed : Placed
  pub there : slice_get xs i ≡ Some placed
  pub kept : is_kept set placed.place.candidate ≡ true

is_its : (p : Prog) (set : ℕ → Bool) (whole : List Judged) (xs : List Placed) (a : Placed) (x : Option Shown) (c : Shown) → Cell p set whole a a.place.candidate x → x ≡ Some c → is_kept set a.place.candidate ≡ true
is_its p set whole xs a x c (inl h) e = absurd (let f : None ≡ Some c = sym h.0 ∙ e in cc)
is_its p set whole xs a x c (inr (inl h)) e = h.kept
is_its p set whole xs a x c (inr (inr h)) e = absurd (let f : None ≡ Some c = sym h.none ∙ e in cc)

kept_at : (p : Prog) (set : ℕ → Bool) (whole : List Judged) (xs : List Placed) (cs : List (Option Shown)) (i : ℕ) (c : Shown) → AreCells p set whole xs cs → cert_at cs i ≡ Some c → IsKept set xs i
kept_at p set whole [] [] i c h e = absurd (let f : None ≡ Some c = e in cc)
kept_at p set whole [] (x ∷ cs) i c h e = absurd h
kept_at p set whole (a ∷ xs) [] i c h e = absurd h
kept_at p set whole (a ∷ xs) (x ∷ cs) zero c h e = record { placed = a; there = refl; kept = is_its p set whole xs a x c h.0 e }
kept_at p set whole (a ∷ xs) (x ∷ cs) (suc i) c h e =
    let w = kept_at p set whole xs cs i c h.1 e in record { placed = w.placed; there = w.there; kept = w.kept }

-- ---- the implementations of a program

-- what the places of implementation k have, which is number n of these
pub record ImplCells (p : Prog) (set : ℕ → Bool) (qs : List r.Proc) (k n : ℕ) (m : r.Impl) (jss : List (List Judged)) (css : List (List (Option Shown))) : Type 0 where
  pub verdicts : List Judged
  pub there : slice_get jss n ≡ Some verdicts
  pub ordinary : map placed_at verdicts ≡ filter is_ordinary (placed_impl qs k m)
  pub cells : AreCells p set verdicts (placed_impl qs k m) (certs_at css n)

module _ (budget : Budget) (p : r.Program) (set : ℕ → Bool) where
  pub impl_at : (k : ℕ) (ms : List r.Impl) (jss : List (List Judged)) (ks : List (Option (Kept (Option Proof)))) →
      AreKept (meaning_of p) set ks (placed_from p.procedures k ms) → AreRightFrom budget p set k ms jss → list_all have_all jss ≡ true → (n j : ℕ) (m : r.Impl) → j ≡ k + n → slice_get ms n ≡ Some m →
      ImplCells (meaning_of p) set p.procedures j n m jss (certs_from p.procedures set ks k ms jss)
  impl_at k [] jss ks h g s n j m e at = absurd (let f : None ≡ Some m = at in cc)
  impl_at k (i ∷ ms) [] ks h g s n j m e at = absurd g
  impl_at k (i ∷ ms) (js ∷ jss) ks h g s zero j m e at =
      let same : k ≡ j = omega arith in
      let its : i ≡ m = cc in
      let split = kept_split (meaning_of p) set (placed_impl p.procedures k i) (placed_from p.procedures (suc k) ms) ks h in
      record {
        verdicts = js;
        there = refl;
        ordinary =
            subst (λ (x : ℕ). map placed_at js ≡ filter is_ordinary (placed_impl p.procedures x m)) same
            (subst (λ (y : r.Impl). map placed_at js ≡ filter is_ordinary (placed_impl p.procedures k y)) its g.0.places);
        cells =
            subst (λ (x : ℕ). AreCells (meaning_of p) set js (placed_impl p.procedures x m) (certs_for set ks js (placed_impl p.procedures k i))) same
            (subst (λ (y : r.Impl). AreCells (meaning_of p) set js (placed_impl p.procedures k y) (certs_for set ks js (placed_impl p.procedures k i))) its
            (cells budget (meaning_of p) set js (placed_impl p.procedures k i) ks js split.0 g.0.places g.0.right (and_left (have_all js) (list_all have_all jss) s) (λ x c. c)));
      }
  impl_at k (i ∷ ms) (js ∷ jss) ks h g s (suc n) j m e at =
      let split = kept_split (meaning_of p) set (placed_impl p.procedures k i) (placed_from p.procedures (suc k) ms) ks h in
      let w = impl_at (suc k) ms jss (kept_after ks (placed_impl p.procedures k i)) split.1 g.1 (and_right (have_all js) (list_all have_all jss) s) n j m (omega arith) at in
      record { verdicts = w.verdicts; there = w.there; ordinary = w.ordinary; cells = w.cells }

  pub counts : (k : ℕ) (ms : List r.Impl) (jss : List (List Judged)) → AreRightFrom budget p set k ms jss → length jss ≡ length ms
  counts k [] [] g = refl
  counts k [] (js ∷ jss) g = absurd g
  counts k (m ∷ ms) [] g = absurd g
  counts k (m ∷ ms) (js ∷ jss) g = let e = counts (suc k) ms jss g.1 in ap (λ (n : ℕ). suc n) e

-- a certificate is one of an implementation that is there
pub impl_of : (qs : List r.Proc) (set : ℕ → Bool) (ks : List (Option (Kept (Option Proof)))) (k : ℕ) (ms : List r.Impl) (jss : List (List Judged)) (n i : ℕ) (c : Shown) →
    cert_at (certs_at (certs_from qs set ks k ms jss) n) i ≡ Some c → (m : r.Impl) × (slice_get ms n ≡ Some m)
impl_of qs set ks k [] jss n i c e = absurd (let f : None ≡ Some c = e in cc)
impl_of qs set ks k (m ∷ ms) [] n i c e = absurd (let f : None ≡ Some c = e in cc)
impl_of qs set ks k (m ∷ ms) (js ∷ jss) zero i c e = (m, refl)
impl_of qs set ks k (m ∷ ms) (js ∷ jss) (suc n) i c e = impl_of qs set (kept_after ks (placed_impl qs k m)) (suc k) ms jss n i c e

module _ (p : Prog) (set : ℕ → Bool) where
  pub cell_of : (qs : List r.Proc) (k : ℕ) (m : r.Impl) (n i : ℕ) (a : Placed) (jss : List (List Judged)) (css : List (List (Option Shown))) (w : ImplCells p set qs k n m jss css) →
      slice_get (placed_impl qs k m) i ≡ Some a → Cell p set w.verdicts a a.place.candidate (cert_at (certs_at css n) i)
  cell_of qs k m n i a jss css w e = cell_at p set w.verdicts (placed_impl qs k m) (certs_at css n) i a w.cells e

  pub kept_of : (qs : List r.Proc) (k : ℕ) (m : r.Impl) (n i : ℕ) (c : Shown) (jss : List (List Judged)) (css : List (List (Option Shown))) (w : ImplCells p set qs k n m jss css) →
      cert_at (certs_at css n) i ≡ Some c → IsKept set (placed_impl qs k m) i
  kept_of qs k m n i c jss css w e = kept_at p set w.verdicts (placed_impl qs k m) (certs_at css n) i c w.cells e
