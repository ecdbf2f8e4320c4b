-- From one state of what is told to the next.
use Rattle.std.proofs.Common.{◌≡◌, ℕ, zero, suc, ◌+◌, ◌<◌, ◌≤◌, Bool, true, false, List, [], ◌∷◌, length, get_or, Option, Some, None, refl, sym, ap, ◌∙◌, subst, arith, inl, inr, ⊎_elim}
use Rattle.std.specs.Prelude.{slice_get, ◌⊎◌, if◌then◌else◌}
use Rattle.bg_ast.specs.Values.{Ty}
use Rattle.bg_ast.specs.Syntax.{Fun}
use Rattle.bg_terms.specs.Terms.{Updates, Term}
use Rattle.bg_terms.specs.Instances.{accesses}
use Rattle.bg_terms.proofs.Heads.{Accesses, accessing, kinds_refl}
use Rattle.bg_term_table.specs.Views.{terms_in}
use Rattle.bg_scalar.specs.declared.scalar.Scalar.{Scalar}
use Rattle.bg_wanted.specs.declared.looked.Looked.{Looked}
use Rattle.bg_wanted.specs.declared.looked.Update.{Update}
use Rattle.bg_wanted.specs.declared.wants.Wants.{Wants}
use Rattle.bg_wanted.specs.Rows.{RowOf}
use Rattle.bg_wanted.specs.Selects.{MapOf, map_in, is_from, places_at, places_of, HasSelects}
use Rattle.bg_wanted.specs.Updates.{AreSettled}
use Rattle.bg_wanted.specs.Telling.{AreTold, Fits}
use Rattle.bg_wanted.specs.Asked.{looked_rows, IsLooked, Goes, IsOf, IsAgreedAt, AreAgreed, IsSelectOf, IsFirst, IsUnseen, IsAsked, map_read_in, IsRightRow, AreRight}
use Rattle.bg_wanted.proofs.Settlement.{UpdateAt, update_at, select_at}
use Rattle.bg_wanted.proofs.Asking.{select_parts, agreed_all, old_agreed, unseen_at}
use Rattle.bg_wanted.proofs.Mapping.{map_is}
use Rattle.bg_wanted.proofs.Fitting.{own_fits, update_fits, map_fits}

module _ (l : Looked) where
  -- nothing more is told
  pub goes_same : (w : Wants) (P : Type 0) → ((fs : List Fun) (incs : List Ty) (values : List Scalar) → IsLooked fs incs values l → P) → Goes l w w P
  goes_same w P h fs incs values looked state = (state, (λ e. e, λ e. h fs incs values looked))

  -- something is told, as the rows aren't settled
  pub goes_told : (old now : Wants) (P : Type 0) → (now.made.items ≡ [] → ⊥) → ((fs : List Fun) (incs : List Ty) (values : List Scalar) → IsLooked fs incs values l → AreTold incs (terms_in fs l.terms.now) old [] → AreTold incs (terms_in fs l.terms.now) now []) → ((fs : List Fun) (incs : List Ty) (values : List Scalar) → IsLooked fs incs values l → AreSettled (looked_rows l) → ⊥) → Goes l old now P
  goes_told old now P some told reason fs incs values looked state =
      (record { told = told fs incs values looked state.told; reason = λ e. reason fs incs values looked }, (λ e. absurd (some e), λ e. absurd (some e)))

  -- one step after the other
  pub goes_then : (a b c : Wants) (P Q R : Type 0) → (P → Q → R) → Goes l a b P → Goes l b c Q → Goes l a c R
  goes_then a b c P Q R both f g fs incs values looked state =
      let x = f fs incs values looked state in
      let y = g fs incs values looked x.0 in
      (y.0, (λ e. x.1.0 (y.1.0 e), λ e. both (x.1.1 (y.1.0 e)) (y.1.1 e)))

  pub goes_on : (a b : Wants) (P Q : Type 0) → (P → Q) → Goes l a b P → Goes l a b Q
  goes_on a b P Q on f fs incs values looked state =
      let x = f fs incs values looked state in
      (x.0, (x.1.0, λ e. on (x.1.1 e)))

below : {A : Type 0} (xs : List A) (a : ℕ) (x : A) → slice_get xs a ≡ Some x → a < length xs
below [] a x e = absurd (let bad : ⊥ = cc in bad)
below (y ∷ xs) zero x e = omega arith
below (y ∷ xs) (suc a) x e = let h = below xs a x e in omega (arith, h)

module _ (fs : List Fun) (incs : List Ty) (values : List Scalar) (l : Looked) (looked : IsLooked fs incs values l) (u : Update) (is : IsOf (looked_rows l) u) where
  abbrev ts : List Term
  ts = terms_in fs l.terms.now

  its : UpdateAt values (length incs) (terms_in fs l.terms.now) (looked_rows l) looked.rows u.number u.maps
  its =
      update_at values (length incs) ts (looked_rows l) looked.rows u.number u.maps is.row is.is_there is.its_class

  -- its select at its index fits, and comes in
  pub here_fits : (map : ℕ) → map ≡ l.count + u.number → Fits incs (terms_in fs l.terms.now) map u.number
  here_fits map e =
      subst (λ m. Fits incs ts m u.number) (let c = looked.count in let q : length incs + u.number ≡ map = omega (arith, c, e) in q)
      (own_fits fs incs ts looked.terms looked.indexed u.number its.term its.keys its.gives its.is_there its.head)

  pub update_below : u.number < length (terms_in fs l.terms.now)
  update_below = below ts u.number its.term its.is_there

  -- what is asked of it and of a select of maps of its type
  pub asked : (x : Scalar) (a : ℕ) → IsSelectOf l u x a → IsAsked fs incs l u.number a
  asked x a s =
      let parts = select_parts (looked_rows l) s.0.class s.0.args u.maps x s.1.1 in
      let y = select_at values (length incs) ts (looked_rows l) looked.rows u.number u.maps its a s.0 s.1.0 parts.1.0 in
      record {
        count = looked.count;
        terms = looked.terms;
        indexed = looked.indexed;
        update = its.term;
        select = y.0;
        is_there = its.is_there;
        other = y.1.0;
        accesses =
            ap (λ h. accesses h y.0.head) its.head
            ∙ (ap (accesses (Updates its.keys its.gives)) y.1.1 ∙ kinds_refl its.keys its.gives);
      }

-- ---- what fits

module _ (fs : List Fun) (incs : List Ty) (l : Looked) (u a : ℕ) (asked : IsAsked fs incs l u a) where
  heads : Accesses asked.update.head asked.select.head
  heads = accessing asked.update.head asked.select.head asked.accesses

  pub fits_update : (m : ℕ) → m ≡ l.count + u → Fits incs (terms_in fs l.terms.now) m a
  fits_update m e =
      subst (λ k. Fits incs (terms_in fs l.terms.now) k a) (let c = asked.count in let q : length incs + u ≡ m = omega (arith, c, e) in q)
      (update_fits fs incs (terms_in fs l.terms.now) asked.terms asked.indexed u asked.update heads.keys heads.result asked.is_there heads.update a asked.select asked.other heads.select)

  pub fits_map : (m : ℕ) → map_read_in (slice_get (terms_in fs l.terms.now) u) ≡ Some m → Fits incs (terms_in fs l.terms.now) m a
  fits_map m e =
      map_fits fs incs (terms_in fs l.terms.now) asked.terms asked.indexed u asked.update heads.keys heads.result asked.is_there heads.update a asked.select asked.other heads.select m e

  pub asked_below : (u < length (terms_in fs l.terms.now)) × (a < length (terms_in fs l.terms.now))
  asked_below =
      (below (terms_in fs l.terms.now) u asked.update asked.is_there, below (terms_in fs l.terms.now) a asked.select asked.other)

-- ---- the selects from a map

abbrev pub AtOf : List RowOf → MapOf → ℕ → Type 0
AtOf rs k a = (r : RowOf) × ((slice_get rs a ≡ Some r) × (map_in r.class r.args ≡ Some k))

from_is : (k : MapOf) (o : Option MapOf) → is_from k o ≡ true → o ≡ Some k
from_is k None h = absurd (let bad : ⊥ = cc in bad)
from_is k (Some l) h = ap (λ (m : MapOf). Some m) (sym (map_is k l h))

placed_back : (k : MapOf) (b : ℕ) (rs : List RowOf) (j a : ℕ) → slice_get (places_of k b rs) j ≡ Some a → (i : ℕ) × ((a ≡ b + i) × AtOf rs k i)
placed_back k b [] j a e = absurd (let bad : ⊥ = cc in bad)
placed_back k b (r ∷ rs) j a e = on (placed_back k (suc b) rs) (is_from k (map_in r.class r.args)) refl j e
  where
    later : ((j a : ℕ) → slice_get (places_of k (suc b) rs) j ≡ Some a → (i : ℕ) × ((a ≡ suc b + i) × AtOf rs k i)) → (j : ℕ) → slice_get (places_of k (suc b) rs) j ≡ Some a → (i : ℕ) × ((a ≡ b + i) × AtOf (r ∷ rs) k i)
    later back j e =
        let w = back j a e in
        let at = w.1.0 in
        (suc w.0, (omega (arith, at), w.1.1))

    on : ((j a : ℕ) → slice_get (places_of k (suc b) rs) j ≡ Some a → (i : ℕ) × ((a ≡ suc b + i) × AtOf rs k i)) → (c : Bool) → is_from k (map_in r.class r.args) ≡ c → (j : ℕ) → slice_get (if c then b ∷ places_of k (suc b) rs else places_of k (suc b) rs) j ≡ Some a → (i : ℕ) × ((a ≡ b + i) × AtOf (r ∷ rs) k i)
    on back true h zero e =
        let same : b ≡ a = cc in
        (zero, (omega (arith, same), (r, (refl, from_is k (map_in r.class r.args) h))))
    on back true h (suc j) e = later back j e
    on back false h j e = later back j e

-- the places that a table has are those of selects
pub select_there : (l : Looked) (u : Update) (x : Scalar) (ps : List ℕ) → HasSelects l.selects.now (looked_rows l) → ps ≡ places_at l.selects.now (u.maps, x) → (j a : ℕ) → slice_get ps j ≡ Some a → IsSelectOf l u x a
select_there l u x ps has e j a h =
    let w = placed_back (u.maps, x) 0 (looked_rows l) j a (ap (λ qs. slice_get qs j) (sym (e ∙ has (u.maps, x))) ∙ h) in
    let at = w.1.0 in
    let same : w.0 ≡ a = omega (arith, at) in
    subst (IsSelectOf l u x) same w.1.1

pub at_item : (ps : List ℕ) (i : ℕ) → i < length ps → slice_get ps i ≡ Some (get_or ps i 0)
at_item [] i h = absurd (omega (arith, h))
at_item (p ∷ ps) zero h = refl
at_item (p ∷ ps) (suc i) h = at_item ps i (omega (arith, h))

-- so it is of each of these places so far
abbrev pub EachSoFar : List ℕ → ℕ → (ℕ → Type 0) → Type 0
EachSoFar ps i P = (j a : ℕ) → j < i → slice_get ps j ≡ Some a → P a

pub none_so_far : (ps : List ℕ) (P : ℕ → Type 0) → EachSoFar ps 0 P
none_so_far ps P j a h e = absurd (omega (arith, h))

pub one_further : (ps : List ℕ) (i : ℕ) (P : ℕ → Type 0) → i < length ps → EachSoFar ps i P → P (get_or ps i 0) → EachSoFar ps (i + 1) P
one_further ps i P lt so p j a h e = ⊎_elim (λ k. so j a k e) here (which j h)
  where
    which : (j : ℕ) → j < i + 1 → (j < i) ⊎ (j ≡ i)
    which j h = lt_or j i (omega (arith, h))
      where
        lt_or : (a b : ℕ) → a < suc b → (a < b) ⊎ (a ≡ b)
        lt_or zero zero h = inr refl
        lt_or zero (suc b) h = inl (omega arith)
        lt_or (suc a) zero h = absurd (omega (arith, h))
        lt_or (suc a) (suc b) h =
            ⊎_elim (λ l. inl (omega (arith, l))) (λ e. inr (ap suc e)) (lt_or a b (omega (arith, h)))

    here : j ≡ i → P a
    here q =
        let two : Some (get_or ps i 0) ≡ Some a = sym (at_item ps i lt) ∙ (ap (slice_get ps) (sym q) ∙ e) in
        let same : get_or ps i 0 ≡ a = cc in
        subst P same p

pub so_all : (ps : List ℕ) (i : ℕ) (P : ℕ → Type 0) → length ps ≤ i → EachSoFar ps i P → (j a : ℕ) → slice_get ps j ≡ Some a → P a
so_all ps i P end so j a e = so j a (let h = below ps j a e in omega (arith, h, end)) e

abbrev pub NewAt : Looked → Update → ℕ → Type 0
NewAt l u a = IsFirst (looked_rows l) a → IsAgreedAt (looked_rows l) u a

abbrev pub OldAt : Looked → Update → ℕ → Type 0
OldAt l u a = IsFirst (looked_rows l) a → IsUnseen l u a → IsAgreedAt (looked_rows l) u a

pub news_agreed : (l : Looked) (u : Update) (ps : List ℕ) → HasSelects l.selects.now (looked_rows l) → ps ≡ places_at l.selects.now (u.maps, u.value) → ((j a : ℕ) → slice_get ps j ≡ Some a → NewAt l u a) → AreAgreed l u u.value
news_agreed l u ps has e each =
    agreed_all (looked_rows l) u u.value (λ a inn first. each inn.0 a (ap (λ qs. slice_get qs inn.0) (e ∙ has (u.maps, u.value)) ∙ inn.1) first)

pub olds_agreed : (l : Looked) (u : Update) (ps : List ℕ) → HasSelects l.selects.now (looked_rows l) → ps ≡ places_at l.selects.now (u.maps, u.before) → ((j a : ℕ) → slice_get ps j ≡ Some a → OldAt l u a) → AreAgreed l u u.value → AreAgreed l u u.before
olds_agreed l u ps has e each news =
    agreed_all (looked_rows l) u u.before
    (λ a inn first r f.
    old_agreed (looked_rows l) u news r
    (λ unseen. each inn.0 a (ap (λ qs. slice_get qs inn.0) (e ∙ has (u.maps, u.before)) ∙ inn.1) first (unseen_at l u u.before a r f unseen) r f))

-- ---- all rows

abbrev pub RightSoFar : Looked → ℕ → Type 0
RightSoFar l i = (a : ℕ) (r : RowOf) → a < i → slice_get (looked_rows l) a ≡ Some r → IsRightRow (looked_rows l) r

pub right_none_yet : (l : Looked) → RightSoFar l 0
right_none_yet l a r h e = absurd (omega (arith, h))

pub right_further : (l : Looked) (i : ℕ) (r : RowOf) → slice_get (looked_rows l) i ≡ Some r → RightSoFar l i → IsRightRow (looked_rows l) r → RightSoFar l (i + 1)
right_further l i r there so right a q h e = ⊎_elim (λ k. so a q k e) here (lt_or a i (omega (arith, h)))
  where
    lt_or : (a b : ℕ) → a < suc b → (a < b) ⊎ (a ≡ b)
    lt_or zero zero h = inr refl
    lt_or zero (suc b) h = inl (omega arith)
    lt_or (suc a) zero h = absurd (omega (arith, h))
    lt_or (suc a) (suc b) h =
        ⊎_elim (λ l. inl (omega (arith, l))) (λ e. inr (ap suc e)) (lt_or a b (omega (arith, h)))

    here : a ≡ i → IsRightRow (looked_rows l) q
    here k =
        let two : Some r ≡ Some q = sym there ∙ (ap (slice_get (looked_rows l)) (sym k) ∙ e) in
        let same : r ≡ q = cc in
        subst (IsRightRow (looked_rows l)) same right

pub right_all : (l : Looked) (i : ℕ) → length (looked_rows l) ≤ i → RightSoFar l i → AreRight (looked_rows l)
right_all l i end so u m r e c = so u r (let h = below (looked_rows l) u r e in omega (arith, h, end)) e m c
