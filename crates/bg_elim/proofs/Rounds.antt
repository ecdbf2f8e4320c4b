-- What one round of an elimination keeps.
use Rattle.std.proofs.Common.{◌≡◌, ℕ, zero, suc, Bool, true, false, not, ◌&&◌, ◌||◌, List, [], ◌∷◌, ◌++◌, length, ℤ, pos, ◌≤ℤ◌, ◌<ℤ◌, ◌⊎◌, inl, inr, refl, sym, ap, ◌∙◌, arith, cond, nat_eq, subst}
use Rattle.std.specs.Prelude.{int_lt, ◌==◌, Option, Some, Ok, int_le}
use Rattle.std.proofs.lemmas.Bool.{and_parts, and_from, not-true, or_cases, eqb-true, eq-eqb}
use Rattle.std.specs.Ordering.{int_eq}
use Rattle.std.proofs.lemmas.Int.{ints}
use Rattle.bg_rows.specs.Entries.{total, mentions, coefficient}
use Rattle.bg_rows.specs.declared.entry.Entry.{Entry}
use Rattle.bg_base.specs.Exact.{floor_quotient}
use Rattle.bg_rows.specs.Rows.{RowOf, Meets, IsNormal, is_empty, is_false, gcd_from, divided, tightened, eliminated}
use Rattle.bg_rows.proofs.Divisors.{not_zero}
use Rattle.bg_elim.specs.declared.order.Reason.TheVariants.{Tightened}
use Rattle.bg_elim.specs.declared.work.Stand.{Stand}
use Rattle.bg_elim.specs.declared.work.Stand.TheVariants.{Alone, Implied, Nearer}
use Rattle.bg_elim.specs.Work.{StaysSound, StaysPlaced, IsStand, is_nearer}
use Rattle.bg_elim.proofs.Live.{nearer_is}
use Rattle.bg_elim.proofs.Places.{entries_eq_is}
use Rattle.bg_rows.specs.Steps.{row_at}
use Rattle.bg_rows.proofs.Normal.{no_coefficient}
use Rattle.bg_rows.proofs.Agree.{eliminated_agrees}
use Rattle.bg_elim.specs.declared.order.Reason.{Reason}
use Rattle.bg_elim.specs.Kept.{is_in, none_before, only_behind, reason_row, is_new, entries_eq, entries_in, is_true_row, MeetBehind, PairAgrees}
use Rattle.bg_elim.specs.Work.{WorkOf, free, Covers, Holds, Covered, Placed, Grows, Extends, IsPair, PairReady, with_row, KeptAs, IsPlace}
use Rattle.bg_elim.proofs.Orders.{in_more, is_in_last, free_none, free_last, before_grows, before_last, made_kept, made_last, at_more, at_back, fine_last, different_last}
use Rattle.bg_elim.proofs.Covers.{covers_same, covers_itself, covers_on, covers_tightened, covers_meets, covers_mentions, covers_free}

-- ---- rows that are kept are sound

pub holds_row : (given : List RowOf) (w : WorkOf) (r : RowOf) (reason : Reason) → Holds given w → reason_row given w.order w.rows reason ≡ Some r → is_false r ≡ false → is_new r w.rows ≡ true → Holds given (with_row w r reason)
holds_row given w r reason h e f n = record {
  made = made_last given w.order [] w.reasons w.rows reason r h.made e;
  fine = fine_last w.rows r h.fine f;
  different = different_last w.rows r h.different n;
}

pub holds_kept : (given : List RowOf) (w made : WorkOf) (r : RowOf) (reason : Reason) → KeptAs w r reason made → Holds given w → reason_row given w.order w.rows reason ≡ Some r → is_false r ≡ false → Holds given made
holds_kept given w made r reason (inl k) h e f = subst (Holds given) (sym k) h
holds_kept given w made r reason (inr k) h e f = subst (Holds given) (sym k.0) (holds_row given w r reason h e f k.1)

pub grows_itself : (w : WorkOf) → Grows w w
grows_itself w = record { order = refl; stays = λ n r h. h; back = λ n r h. inl h }

pub grows_on : (a b c : WorkOf) → Grows a b → Grows b c → Grows a c
grows_on a b c x y = record {
  order = y.order ∙ x.order;
  stays = λ n r h. y.stays n r (x.stays n r h);
  back = λ n r h. elim (y.back n r h) [ inl g ↦ x.back n r g | inr f ↦ inr (subst (λ (o : List ℕ). free o r ≡ true) x.order f) ];
}

pub grows_row : (w : WorkOf) (r : RowOf) (reason : Reason) → free w.order r ≡ true → Grows w (with_row w r reason)
grows_row w r reason f = record {
  order = refl;
  stays = λ n s h. at_more w.rows r n s h;
  back = λ n s h. at_back w.rows r n s h (λ g. inl g) (λ e. inr (subst (λ (z : RowOf). free w.order z ≡ true) (sym e) f));
}

-- ---- rows that come in hold no variable of the order, and t covers them

pub record Fits (all order : List ℕ) (t r : RowOf) : Type 0 where
  pub free : free order r ≡ true
  pub normal : IsNormal r
  pub inside : entries_in all r.entries ≡ true
  pub covers : Covers t r

pub record Added (all : List ℕ) (t : RowOf) (w made : WorkOf) : Type 0 where
  pub grows : Grows w made
  pub back : (n : ℕ) (r : RowOf) → row_at made.rows n ≡ Some r → (row_at w.rows n ≡ Some r) ⊎ Fits all w.order t r
  pub live : (n : ℕ) → is_in n w.live ≡ true → (is_in n made.live ≡ true) ⊎ ((r : RowOf) → row_at w.rows n ≡ Some r → Covers t r)
  pub lives : (n : ℕ) → is_in n made.live ≡ true → (is_in n w.live ≡ true) ⊎ (row_at made.rows n ≡ Some t)

pub added_itself : (all : List ℕ) (t : RowOf) (w : WorkOf) → Added all t w w
added_itself all t w = record { grows = grows_itself w; back = λ n r h. inl h; live = λ n h. inl h; lives = λ n h. inl h }

pub added_row : (all : List ℕ) (t : RowOf) (w : WorkOf) (r : RowOf) (reason : Reason) → Fits all w.order t r → Added all t w (with_row w r reason)
added_row all t w r reason f = record {
  grows = grows_row w r reason f.free;
  back = λ n s h. at_back w.rows r n s h (λ g. inl g) (λ e. inr (subst (Fits all w.order t) (sym e) f));
  live = λ n h. inl h;
  lives = λ n h. inl h;
}

pub added_kept : (all : List ℕ) (t : RowOf) (w made : WorkOf) (r : RowOf) (reason : Reason) → KeptAs w r reason made → Fits all w.order t r → Added all t w made
added_kept all t w made r reason (inl k) f = subst (Added all t w) (sym k) (added_itself all t w)
added_kept all t w made r reason (inr k) f = subst (Added all t w) (sym k.0) (added_row all t w r reason f)

pub added_on : (all : List ℕ) (t : RowOf) (a b c : WorkOf) → Added all t a b → Added all t b c → Added all t a c
added_on all t a b c x y = record {
  grows = grows_on a b c x.grows y.grows;
  back = λ n r h. elim (y.back n r h) [ inl g ↦ x.back n r g | inr f ↦ inr (subst (λ (o : List ℕ). Fits all o t r) x.grows.order f) ];
  live = λ n h. elim (x.live n h) [
    | inl g ↦ elim (y.live n g) [
      | inl i ↦ inl i
      | inr f ↦ inr (λ r e. f r (x.grows.stays n r e))
    ]
    | inr f ↦ inr f
  ];
  lives = λ n h. elim (y.lives n h) [
    | inl g ↦ elim (x.lives n g) [ inl i ↦ inl i | inr i ↦ inr (y.grows.stays n t i) ]
    | inr g ↦ inr g
  ];
}

-- ---- what is placed stays placed

pub covered_on : (w : WorkOf) (t r : RowOf) → Covers t r → Covered w t → Covered w r
covered_on w t r h c = record { number = c.number; row = c.row; there = c.there; lives = c.lives; covers = covers_on c.row t r c.covers h }

covered_more : (all : List ℕ) (t : RowOf) (w made : WorkOf) (r : RowOf) → Added all t w made → Covered made t → Covered w r → Covered made r
covered_more all t w made r a k c =
    elim (a.live c.number c.lives) [
      | inl l ↦ record { number = c.number; row = c.row; there = a.grows.stays c.number c.row c.there; lives = l; covers = c.covers }
      | inr f ↦ covered_on made c.row r c.covers (covered_on made t c.row (f c.row c.there) k)
    ]

meet_less : (v : ℕ → ℤ) (x : ℕ) (w made : WorkOf) → Grows w made → MeetBehind v made.order x made.rows → MeetBehind v w.order x w.rows
meet_less v x w made g m r a o = m r (a.0, g.stays a.0 r a.1) (subst (λ (z : List ℕ). only_behind z x r ≡ true) (sym g.order) o)

pub no_bound : (order : List ℕ) (x : ℕ) (r : RowOf) → is_in x order ≡ true → free order r ≡ true → coefficient x r.entries ≡ pos 0
no_bound order x r i f = no_coefficient x r.entries (free_none x order r f i)

pub placed_added : (all ready : List ℕ) (t : RowOf) (w made : WorkOf) → Placed all ready w → Added all t w made → free w.order t ≡ true → Covered made t → Placed all ready made
placed_added all ready t w made p a ft c = record {
  normal = λ n r h. elim (a.back n r h) [ inl g ↦ p.normal n r g | inr f ↦ f.normal ];
  inside = λ n r h. elim (a.back n r h) [ inl g ↦ p.inside n r g | inr f ↦ f.inside ];
  done = λ x h. rw a.grows.order (p.done x h);
  living = λ n h. elim (a.lives n h) [
    | inl g ↦ (let l = p.living n g in (l.0, a.grows.stays n l.0 l.1, rw a.grows.order l.2))
    | inr g ↦ (t, g, rw a.grows.order ft)
  ];
  cover = λ n r h f. elim (a.back n r h) [
    | inl g ↦ covered_more all t w made r a c (p.cover n r g (rw a.grows.order at f))
    | inr g ↦ covered_on made t r g.covers c
  ];
  agree = λ v x h m up low au al nu nl pu pl.
      let o : is_in x w.order ≡ true = p.done x h in
      elim (a.back au.0 up au.1) [
        | inl gu ↦ elim (a.back al.0 low al.1) [
          | inl gl ↦ p.agree v x h (meet_less v x w made a.grows m) up low (au.0, gu) (al.0, gl) (rw a.grows.order at nu) (rw a.grows.order at nl) pu pl
          | inr fl ↦ absurd (let z = no_bound w.order x low o fl.free in omega (arith, ints, z, pl))
        ]
        | inr fu ↦ absurd (let z = no_bound w.order x up o fu.free in omega (arith, ints, z, pu))
      ];
}

-- ---- a pair

-- a row without entries is met where its bound is at least 0
pub true_met : (v : ℕ → ℤ) (r : RowOf) → is_true_row r ≡ true → Meets v r
true_met v r h = by_entries r.entries (and_parts (is_empty r.entries) _ h)
  where
    by_entries : (ts : List Entry) → (is_empty ts ≡ true) × (int_le (pos 0) r.bound ≡ true) → total v ts ≤ℤ r.bound
    by_entries [] p = grind (arith, ints, p.1)
    by_entries (t ∷ ts) p = absurd (let q = p.0 in cc)

-- the values meet what a live row covers
behind_met : (v : ℕ → ℤ) (all ready done : List ℕ) (x : ℕ) (w : WorkOf) (e : RowOf) → w.order ≡ done ++ (x ∷ []) → is_in x done ≡ false → Placed all ready w → free w.order e ≡ true → Covered w e → MeetBehind v w.order x w.rows → Meets v e
behind_met v all ready done x w e o n p f c m =
    let nc = p.normal c.number c.row c.there in
    let fc : free (done ++ (x ∷ [])) c.row ≡ true = rw o at (covers_free w.order c.row e nc c.covers f) in
    let parts = and_parts (free done c.row) _ (rw free_last at fc) in
    let b : none_before (done ++ (x ∷ [])) x c.row ≡ true = before_last done x c.row n ∙ parts.0 in
    let g : only_behind w.order x c.row ≡ true = rw o (and_from (none_before (done ++ (x ∷ [])) x c.row) _ b parts.1) in
    covers_meets v c.row e c.covers (m c.row (c.number, c.there) g)

pub pair_met : (all ready done : List ℕ) (x : ℕ) (w : WorkOf) (u l e : RowOf) → w.order ≡ done ++ (x ∷ []) → is_in x done ≡ false → Placed all ready w → free w.order e ≡ true → (is_true_row e ≡ true) ⊎ Covered w e → pos 0 <ℤ coefficient x u.entries → coefficient x l.entries <ℤ pos 0 → eliminated u l x ≡ Ok e → (v : ℕ → ℤ) → MeetBehind v w.order x w.rows → PairAgrees v x u l
pair_met all ready done x w u l e o n p f c pu pl h v m =
    let met : Meets v e = elim c [ inl t ↦ true_met v e t | inr k ↦ behind_met v all ready done x w e o n p f k m ] in
    eliminated_agrees v u l e x pu pl h met

pub pair_grows : (w made : WorkOf) (x i j : ℕ) → Grows w made → PairReady w x i j → PairReady made x i j
pair_grows w made x i j g p = (p.0, p.1, g.stays i p.0 p.2, g.stays j p.1 p.3, λ v m. p.4 v (meet_less v x w made g m))

pub is_pair_grows : (w made : WorkOf) (x i j : ℕ) → Grows w made → IsPair w x i j → IsPair made x i j
is_pair_grows w made x i j g p = record {
  up = p.up;
  low = p.low;
  first = g.stays i p.up p.first;
  second = g.stays j p.low p.second;
  above = p.above;
  below = p.below;
  no_first = rw g.order p.no_first;
  no_second = rw g.order p.no_second;
}

-- ---- the start of a round

abbrev pub next_round : WorkOf → ℕ → List ℕ → WorkOf
next_round w x rest = record w { order = w.order ++ (x ∷ []); live = rest }

pub holds_next : (given : List RowOf) (w : WorkOf) (x : ℕ) (rest : List ℕ) → Holds given w → Holds given (next_round w x rest)
holds_next given w x rest h = record { made = made_kept given w.order x [] w.reasons w.rows h.made; fine = h.fine; different = h.different }

meet_shorter : (v : ℕ → ℤ) (order : List ℕ) (x y : ℕ) (rows : List RowOf) → is_in y order ≡ true → MeetBehind v (order ++ (x ∷ [])) y rows → MeetBehind v order y rows
meet_shorter v order x y rows i m r a o = m r a (rw (before_grows order y x r i) o)

pub placed_next : (all : List ℕ) (w : WorkOf) (x : ℕ) (rest : List ℕ) → Placed all w.order w → ((n : ℕ) → is_in n rest ≡ true → (is_in n w.live ≡ true) × ((r : RowOf) → row_at w.rows n ≡ Some r → coefficient x r.entries ≡ pos 0)) → ((n : ℕ) (r : RowOf) → is_in n w.live ≡ true → row_at w.rows n ≡ Some r → coefficient x r.entries ≡ pos 0 → is_in n rest ≡ true) → ((r : RowOf) → IsNormal r → coefficient x r.entries ≡ pos 0 → mentions x r.entries ≡ false) → Placed all w.order (next_round w x rest)
placed_next all w x rest p into out none = record {
  normal = p.normal;
  inside = p.inside;
  done = λ y h. in_more y w.order x h;
  living = λ n h.
      let i = into n h in
      let l = p.living n i.0 in
      (l.0, l.1, free_last w.order x l.0 ∙ and_from (free w.order l.0) _ l.2 (ap not (none l.0 (p.normal n l.0 l.1) (i.1 l.0 l.1))));
  cover = λ n r h f.
      let parts = and_parts (free w.order r) _ (rw (free_last w.order x r) at f) in
      let c = p.cover n r h parts.0 in
      let m = covers_mentions x c.row r (p.normal c.number c.row c.there) c.covers (not-true _ parts.1) in
      record {
        number = c.number;
        row = c.row;
        there = c.there;
        lives = out c.number c.row c.lives c.there (no_coefficient x c.row.entries m);
        covers = c.covers;
      };
  agree = λ v y h m up low au al nu nl pu pl.
      p.agree v y h (meet_shorter v w.order x y w.rows h m) up low au al (rw (before_grows w.order y x up h) at nu) (rw (before_grows w.order y x low h) at nl) pu pl;
}

-- ---- a row that is taken in

fine_parts : (ts : List Entry) (b : ℤ) → is_false (record { entries = ts; bound = b }) ≡ false → is_false (tightened (record { entries = ts; bound = b })) ≡ false
fine_parts [] b h = h
fine_parts (t ∷ ts) b h = by_divisor (gcd_from 0 (t ∷ ts))
  where
    by_divisor : (g : ℕ) → is_false (cond (nat_eq g 0) (record { entries = t ∷ ts; bound = b }) (record { entries = divided g (t ∷ ts); bound = floor_quotient b g })) ≡ false
    by_divisor zero = h
    by_divisor (suc g) = rw (not_zero g) refl

fine_tightened : (r : RowOf) → is_false r ≡ false → is_false (tightened r) ≡ false
fine_tightened r h = fine_parts r.entries r.bound h

pub holds_live : (given : List RowOf) (w : WorkOf) (live : List ℕ) → Holds given w → Holds given (record w { live = live })
holds_live given w live h = record { made = h.made; fine = h.fine; different = h.different }

pub settled_sound : (w a b : WorkOf) (r t : RowOf) (reason : Reason) (n : ℕ) → t ≡ tightened r → is_false r ≡ false → KeptAs w r reason a → row_at a.rows n ≡ Some r → KeptAs a t (Tightened n) b → StaysSound w r reason b
settled_sound w a b r t reason n e f k at l given h made =
    let ha = holds_kept given w a r reason k h made f in
    let row : reason_row given a.order a.rows (Tightened n) ≡ Some t = rw (at, e) refl in
    let ft : is_false t ≡ false = ap is_false e ∙ fine_tightened r f in
    holds_kept given a b t (Tightened n) l ha row ft

-- ---- variables of rows

pub entries_none : (all : List ℕ) (y : ℕ) (ts : List Entry) → entries_in all ts ≡ true → is_in y all ≡ false → mentions y ts ≡ false
entries_none all y [] h n = refl
entries_none all y (t ∷ ts) h n =
    let p = and_parts (is_in t.variable all) _ h in
    by_test (t.variable == y) refl (entries_none all y ts p.1 n) p.0
  where
    by_test : (b : Bool) → (t.variable == y) ≡ b → mentions y ts ≡ false → is_in t.variable all ≡ true → (b || mentions y ts) ≡ false
    by_test true e m i = let same : t.variable ≡ y = eqb-true t.variable y e in absurd (let j = rw same at i in cc)
    by_test false e m i = m

pub entries_from : (all : List ℕ) (ts : List Entry) → ((y : ℕ) → is_in y all ≡ false → mentions y ts ≡ false) → entries_in all ts ≡ true
entries_from all [] h = refl
entries_from all (t ∷ ts) h =
    and_from (is_in t.variable all) _ (here (is_in t.variable all) refl) (entries_from all ts (λ y n. tail y (t.variable == y) (h y n)))
  where
    here : (b : Bool) → is_in t.variable all ≡ b → b ≡ true
    here true e = refl
    here false e =
        let m : (true || mentions t.variable ts) ≡ false = subst (λ (b : Bool). (b || mentions t.variable ts) ≡ false) (eq-eqb t.variable t.variable refl) (h t.variable e) in
        absurd (cc)

    tail : (y : ℕ) (b : Bool) → (b || mentions y ts) ≡ false → mentions y ts ≡ false
    tail y true g = absurd (cc)
    tail y false g = g

covers_inside : (all : List ℕ) (a b : RowOf) → IsNormal a → Covers a b → entries_in all b.entries ≡ true → entries_in all a.entries ≡ true
covers_inside all a b n c h = entries_from all a.entries (λ y i. covers_mentions y a b n c (entries_none all y b.entries h i))

-- ---- a row and its tightening, kept and paired from then on

pub in_last_cases : (n m : ℕ) (ys : List ℕ) → is_in n (ys ++ (m ∷ [])) ≡ true → (is_in n ys ≡ true) ⊎ (n ≡ m)
in_last_cases n m ys h =
    elim (or_cases (is_in n ys) (nat_eq n m) (rw is_in_last at h)) [ inl g ↦ inl g | inr g ↦ inr (eqb-true n m g) ]

stand_grows : (w made : WorkOf) (t : RowOf) (stand : Stand) → Grows w made → IsStand w t stand → IsStand made t stand
stand_grows w made t Alone g h = tt
stand_grows w made t (Implied n) g h = (h.0, g.stays n h.0 h.1, h.2, h.3)
stand_grows w made t (Nearer n) g h = (h.0, g.stays n h.0 h.1, h.2, h.3)

-- the row that goes is implied by the one that comes
stand_covers : (w : WorkOf) (t : RowOf) (stand : Stand) (n : ℕ) → IsStand w t stand → stand ≡ Nearer n → (r : RowOf) → row_at w.rows n ≡ Some r → Covers t r
stand_covers w t stand n h e r at =
    let p = subst (IsStand w t) e h in
    let same : p.0 ≡ r = cc (p.1, at) in
    subst (Covers t) same (covers_same t p.0 (sym p.2) p.3)

-- what stays of the live numbers, and one more
abbrev pub Joins : WorkOf → ℕ → Stand → List ℕ → Type 0
Joins w m stand live = (q : ℕ) → is_in q live ≡ (nat_eq q m || (is_in q w.live && not (is_nearer q stand)))

pub added_live : (all : List ℕ) (t : RowOf) (w : WorkOf) (stand : Stand) (m : ℕ) (live : List ℕ) → row_at w.rows m ≡ Some t → IsStand w t stand → Joins w m stand live → Added all t w (record w { live = live })
added_live all t w stand m live h is j = record {
  grows = record { order = refl; stays = λ n r g. g; back = λ n r g. inl g };
  back = λ n r g. inl g;
  live = λ n g. stays n (is_nearer n stand) refl g;
  lives = λ n g. elim (or_cases (nat_eq n m) _ (sym (j n) ∙ g)) [
    | inl e ↦ inr (rw (eqb-true n m e) h)
    | inr a ↦ inl (and_parts (is_in n w.live) _ a).0
  ];
}
  where
    or_true : (b : Bool) → (b || true) ≡ true
    or_true true = refl
    or_true false = refl

    stays : (n : ℕ) (b : Bool) → is_nearer n stand ≡ b → is_in n w.live ≡ true → (is_in n live ≡ true) ⊎ ((r : RowOf) → row_at w.rows n ≡ Some r → Covers t r)
    stays n true e g = inr (stand_covers w t stand n is (nearer_is stand n e))
    stays n false e g = inl (j n ∙ rw (g, e) (or_true (nat_eq n m)))

joins_itself : (w : WorkOf) (m : ℕ) (stand : Stand) (live : List ℕ) → Joins w m stand live → is_in m live ≡ true
joins_itself w m stand live j = j m ∙ rw (eq-eqb m m refl) refl

live_stays : (w a : WorkOf) (r : RowOf) (reason : Reason) → KeptAs w r reason a → (t : RowOf) → Covered w t → Covered a t
live_stays w a r reason (inl k) t c = subst (λ (z : WorkOf). Covered z t) (sym k) c
live_stays w a r reason (inr k) t c =
    subst (λ (z : WorkOf). Covered z t) (sym k.0)
    (record { number = c.number; row = c.row; there = at_more w.rows r c.number c.row c.there; lives = c.lives; covers = c.covers })

-- a row and its tightening come in, with what holds of both
record Comes (all : List ℕ) (w a b : WorkOf) (r t : RowOf) : Type 0 where
  pub covers : Covers t r
  pub free : free w.order t ≡ true
  pub first : Added all t w a
  pub second : Added all t a b

comes : (all : List ℕ) (w a b : WorkOf) (r t : RowOf) (reason : Reason) (n : ℕ) → t ≡ tightened r → IsNormal r → IsNormal t → KeptAs w r reason a → KeptAs a t (Tightened n) b → entries_in all r.entries ≡ true → free w.order r ≡ true → Comes all w a b r t
comes all w a b r t reason n e nr nt k l inside fr =
    let cov : Covers t r = rw e (covers_tightened r) in
    let ft = covers_free w.order t r nt cov fr in
    let fits : Fits all w.order t r = record { free = fr; normal = nr; inside = inside; covers = cov } in
    let tight : Fits all w.order t t = record { free = ft; normal = nt; inside = covers_inside all t r nt cov inside; covers = covers_itself t } in
    let x = added_kept all t w a r reason k fits in
    let y = added_kept all t a b t (Tightened n) l (subst (λ (o : List ℕ). Fits all o t t) (sym x.grows.order) tight) in
    record { covers = cov; free = ft; first = x; second = y }

pub settled_placed : (w a b : WorkOf) (r t : RowOf) (reason : Reason) (n m : ℕ) (stand : Stand) (live : List ℕ) → t ≡ tightened r → IsNormal r → IsNormal t → KeptAs w r reason a → KeptAs a t (Tightened n) b → row_at b.rows m ≡ Some t → IsStand w t stand → Joins b m stand live → StaysPlaced w r (record b { live = live })
settled_placed w a b r t reason n m stand live e nr nt k l at is j all ready p inside fr =
    let made = record b { live = live } in
    let i = comes all w a b r t reason n e nr nt k l inside fr in
    let g = grows_on w a b i.first.grows i.second.grows in
    let z = added_live all t b stand m live at (stand_grows w b t stand g is) j in
    let ad = added_on all t w a made i.first (added_on all t a b made i.second z) in
    let c : Covered made t = record { number = m; row = t; there = at; lives = joins_itself b m stand live j; covers = covers_itself t } in
    (placed_added all ready t w made p ad i.free c, inr (covered_on made t r i.covers c), ad.grows)

-- a row that a kept one implies, kept and not paired
pub aside_placed : (w a : WorkOf) (r t : RowOf) (reason : Reason) (n : ℕ) (stand : Stand) → t ≡ tightened r → IsNormal r → IsNormal t → KeptAs w r reason a → IsStand w t stand → stand ≡ Implied n → StaysPlaced w r a
aside_placed w a r t reason n stand e nr nt k is same all ready p inside fr =
    let h = subst (IsStand w t) same is in
    let cov : Covers t r = rw e (covers_tightened r) in
    let ft = covers_free w.order t r nt cov fr in
    let fits : Fits all w.order t r = record { free = fr; normal = nr; inside = inside; covers = cov } in
    let x = added_kept all t w a r reason k fits in
    let by : Covers h.0 t = covers_same h.0 t h.2 h.3 in
    let c : Covered w t = covered_on w h.0 t by (p.cover n h.0 h.1 (covers_free w.order h.0 t (p.normal n h.0 h.1) by ft)) in
    let ca = live_stays w a r reason k t c in
    (placed_added all ready t w a p x ft ca, inr (covered_on a t r cov ca), x.grows)

pub place_some : (budget : ℕ) (r : RowOf) (w : WorkOf) (o : Option ℕ) (n : ℕ) → IsPlace budget r w o → o ≡ Some n → row_at w.rows n ≡ Some r
place_some budget r w o n h e = subst (IsPlace budget r w) e h

pub unequal : (a b : List Entry) → (length a ≡ length b → ⊥) → false ≡ entries_eq a b
unequal [] [] h = absurd (h refl)
unequal [] (u ∷ us) h = refl
unequal (t ∷ ts) [] h = refl
unequal (t ∷ ts) (u ∷ us) h = by_tests (t.variable == u.variable) (int_eq t.by u.by) (unequal ts us (λ e. h (ap suc e)))
  where
    by_tests : (a b : Bool) → false ≡ entries_eq ts us → false ≡ (a && (b && entries_eq ts us))
    by_tests true true g = g
    by_tests true false g = refl
    by_tests false b g = refl

-- ---- a row that a kept one implies

pub implied_placed : (w : WorkOf) (r t s : RowOf) (n : ℕ) → t ≡ tightened r → IsNormal t → row_at w.rows n ≡ Some s → s.entries ≡ t.entries → s.bound ≤ℤ t.bound → StaysPlaced w r w
implied_placed w r t s n e nt at es bs all ready p inside fr =
    let cov : Covers t r = rw e (covers_tightened r) in
    let by : Covers s r = covers_on s t r (covers_same s t es bs) cov in
    let ns = p.normal n s at in
    let c = p.cover n s at (covers_free w.order s r ns by fr) in
    (p, inr (covered_on w s r by c), grows_itself w)

pub implied_from : (w : WorkOf) (r s : RowOf) (n : ℕ) → row_at w.rows n ≡ Some s → entries_eq s.entries r.entries ≡ true → s.bound ≤ℤ r.bound → IsStand w r (Implied n)
implied_from w r s n at h b = (s, at, entries_eq_is s.entries r.entries h, b)

pub nearer_from : (w : WorkOf) (r s : RowOf) (n : ℕ) → row_at w.rows n ≡ Some s → entries_eq s.entries r.entries ≡ true → r.bound ≤ℤ s.bound → IsStand w r (Nearer n)
nearer_from w r s n at h b = (s, at, entries_eq_is s.entries r.entries h, b)

-- ---- always true

empty_is : (ts : List Entry) → length ts ≡ 0 → ts ≡ []
empty_is [] h = refl
empty_is (t ∷ ts) h = absurd (omega arith)

pub true_from : (r : RowOf) → is_false r ≡ false → is_empty r.entries ≡ true → is_true_row r ≡ true
true_from r f e =
    let g : (true && int_lt r.bound (pos 0)) ≡ false = subst (λ (b : Bool). (b && int_lt r.bound (pos 0)) ≡ false) e f in
    and_from (is_empty r.entries) _ e (grind (arith, ints, g))

pub stays_kept : (w made : WorkOf) (r : RowOf) (reason : Reason) (n : ℕ) (s : RowOf) → KeptAs w r reason made → row_at w.rows n ≡ Some s → row_at made.rows n ≡ Some s
stays_kept w made r reason n s (inl k) h = rw k h
stays_kept w made r reason n s (inr k) h = rw k.0 (at_more w.rows r n s h)

pub implied_taken : (w : WorkOf) (r t : RowOf) (stand : Stand) (n : ℕ) → t ≡ tightened r → IsNormal t → IsStand w t stand → stand ≡ Implied n → StaysPlaced w r w
implied_taken w r t stand n e nt h is = let p = subst (IsStand w t) is h in implied_placed w r t p.0 n e nt p.1 p.2 p.3

pub extends_itself : (w : WorkOf) → Extends w w
extends_itself w = record { order = refl; stays = λ n r h. h }

pub extends_on : (a b c : WorkOf) → Extends a b → Extends b c → Extends a c
extends_on a b c x y = record { order = y.order ∙ x.order; stays = λ n r h. y.stays n r (x.stays n r h) }

pub extends_kept : (w made : WorkOf) (r : RowOf) (reason : Reason) → KeptAs w r reason made → Extends w made
extends_kept w made r reason (inl k) = subst (Extends w) (sym k) (extends_itself w)
extends_kept w made r reason (inr k) =
    let e : Extends w (with_row w r reason) = record { order = refl; stays = λ n s h. at_more w.rows r n s h } in
    subst (Extends w) (sym k.0) e

pub extends_live : (w made : WorkOf) (live : List ℕ) → Extends w made → Extends w (record made { live = live })
extends_live w made live e = record { order = e.order; stays = e.stays }
