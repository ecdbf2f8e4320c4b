-- Spans that grow row by row.
use Rattle.std.proofs.Common.{◌≡◌, ℕ, zero, suc, ◌+◌, ◌<◌, Bool, true, false, List, ℤ, pos, negsuc, ◌<ℤ◌, ◌⊎◌, inl, inr, refl, sym, ◌∙◌, arith, subst, below_more}
use Rattle.std.specs.Prelude.{Option, Some, Ok, is_ok}
use Rattle.std.proofs.lemmas.Bool.{and_parts, or_cases}
use Rattle.std.proofs.lemmas.Int.{ints}
use Rattle.bg_base.specs.declared.exact.OutOfRange.{OutOfRange}
use Rattle.bg_rows.specs.Entries.{is_zero, coefficient}
use Rattle.bg_rows.specs.Rows.{RowOf}
use Rattle.bg_rows.specs.Steps.{row_at}
use Rattle.bg_elim.specs.Kept.{none_before}
use Rattle.bg_point.specs.declared.span.Span.{Span}
use Rattle.bg_point.specs.declared.span.Mark.{Mark}
use Rattle.bg_point.specs.Points.{bounds_above, bounds_below, binds, refused_at, limit}
use Rattle.bg_point.specs.Spans.{AtMost, AtLeast, MarksAbove, MarksBelow, IsSpan, IsWidened, mark_of}

pub above_is : (order : List ℕ) (x : ℕ) (r : RowOf) → bounds_above order x r ≡ true → pos 0 <ℤ coefficient x r.entries
above_is order x r h = let p = and_parts (none_before order x r) _ h in grind (arith, ints, p.1)

pub below_is : (order : List ℕ) (x : ℕ) (r : RowOf) → bounds_below order x r ≡ true → coefficient x r.entries <ℤ pos 0
below_is order x r h = let p = and_parts (none_before order x r) _ h in grind (arith, ints, p.1)

not_zero_above : (c : ℤ) → pos 0 <ℤ c → is_zero c ≡ false
not_zero_above (pos zero) h = absurd (omega (arith, ints))
not_zero_above (pos (suc n)) h = grind arith
not_zero_above (negsuc n) h = refl

not_zero_below : (c : ℤ) → c <ℤ pos 0 → is_zero c ≡ false
not_zero_below (pos n) h = absurd (omega (arith, ints))
not_zero_below (negsuc n) h = refl

pub above_not_zero : (order : List ℕ) (x : ℕ) (r : RowOf) → bounds_above order x r ≡ true → is_zero (coefficient x r.entries) ≡ false
above_not_zero order x r h = not_zero_above (coefficient x r.entries) (above_is order x r h)

pub below_not_zero : (order : List ℕ) (x : ℕ) (r : RowOf) → bounds_below order x r ≡ true → is_zero (coefficient x r.entries) ≡ false
below_not_zero order x r h = not_zero_below (coefficient x r.entries) (below_is order x r h)

-- not from both sides
pub not_both : (order : List ℕ) (x : ℕ) (r : RowOf) → bounds_above order x r ≡ true → bounds_below order x r ≡ false
not_both order x r h = by_test (bounds_below order x r) refl
  where
    by_test : (b : Bool) → bounds_below order x r ≡ b → b ≡ false
    by_test true e = absurd (let a = above_is order x r h in let b = below_is order x r e in omega (arith, ints))
    by_test false e = refl

-- ---- one more row

up_below : (order : List ℕ) (rows : List RowOf) (v : ℕ → ℤ) (x n : ℕ) (r : RowOf) (span made : Span) → row_at rows n ≡ Some r → IsSpan order rows v x n span → IsWidened order v x r n span made → (m : ℕ) (q : RowOf) → m < n + 1 → row_at rows m ≡ Some q → bounds_above order x q ≡ true → (b : ℤ) × (limit v x q ≡ Ok b) × AtMost made.up b
up_below order rows v x n r span made at s w m q lt h a =
    below_more (λ m. (q : RowOf) → row_at rows m ≡ Some q → bounds_above order x q ≡ true → (b : ℤ) × (limit v x q ≡ Ok b) × AtMost made.up b) n old new m lt q h a
  where
    kept : (t : Bool) → bounds_above order x r ≡ t → (b : ℤ) → AtMost span.up b → AtMost made.up b
    kept true e b k = (w.up e).2.2 b k
    kept false e b k = subst (λ (o : Option Mark). AtMost o b) (sym (w.up_else e)) k

    old : (m : ℕ) → m < n → (q : RowOf) → row_at rows m ≡ Some q → bounds_above order x q ≡ true → (b : ℤ) × (limit v x q ≡ Ok b) × AtMost made.up b
    old m lt q h a = let o = s.ups m q lt h a in (o.0, o.1, kept (bounds_above order x r) refl o.0 o.2)

    new : (q : RowOf) → row_at rows n ≡ Some q → bounds_above order x q ≡ true → (b : ℤ) × (limit v x q ≡ Ok b) × AtMost made.up b
    new q h a =
        let e : r ≡ q = cc in
        subst (λ (z : RowOf). bounds_above order x z ≡ true → (b : ℤ) × (limit v x z ≡ Ok b) × AtMost made.up b) e (λ t. let o = w.up t in (o.0, o.1, o.2.1)) a

low_below : (order : List ℕ) (rows : List RowOf) (v : ℕ → ℤ) (x n : ℕ) (r : RowOf) (span made : Span) → row_at rows n ≡ Some r → IsSpan order rows v x n span → IsWidened order v x r n span made → (m : ℕ) (q : RowOf) → m < n + 1 → row_at rows m ≡ Some q → bounds_below order x q ≡ true → (b : ℤ) × (limit v x q ≡ Ok b) × AtLeast made.low b
low_below order rows v x n r span made at s w m q lt h a =
    below_more (λ m. (q : RowOf) → row_at rows m ≡ Some q → bounds_below order x q ≡ true → (b : ℤ) × (limit v x q ≡ Ok b) × AtLeast made.low b) n old new m lt q h a
  where
    kept : (t : Bool) → bounds_below order x r ≡ t → (b : ℤ) → AtLeast span.low b → AtLeast made.low b
    kept true e b k = (w.low e).2.2 b k
    kept false e b k = subst (λ (o : Option Mark). AtLeast o b) (sym (w.low_else e)) k

    old : (m : ℕ) → m < n → (q : RowOf) → row_at rows m ≡ Some q → bounds_below order x q ≡ true → (b : ℤ) × (limit v x q ≡ Ok b) × AtLeast made.low b
    old m lt q h a = let o = s.lows m q lt h a in (o.0, o.1, kept (bounds_below order x r) refl o.0 o.2)

    new : (q : RowOf) → row_at rows n ≡ Some q → bounds_below order x q ≡ true → (b : ℤ) × (limit v x q ≡ Ok b) × AtLeast made.low b
    new q h a =
        let e : r ≡ q = cc in
        subst (λ (z : RowOf). bounds_below order x z ≡ true → (b : ℤ) × (limit v x z ≡ Ok b) × AtLeast made.low b) e (λ t. let o = w.low t in (o.0, o.1, o.2.1)) a

pub span_step : (order : List ℕ) (rows : List RowOf) (v : ℕ → ℤ) (x n : ℕ) (r : RowOf) (span made : Span) → row_at rows n ≡ Some r → IsSpan order rows v x n span → IsWidened order v x r n span made → IsSpan order rows v x (n + 1) made
span_step order rows v x n r span made at s w = record {
  ups = up_below order rows v x n r span made at s w;
  lows = low_below order rows v x n r span made at s w;
  up = λ m e. up_mark (bounds_above order x r) refl m e;
  low = λ m e. low_mark (bounds_below order x r) refl m e;
}
  where
    from_either : (m : Mark) → made.up ≡ Some m → bounds_above order x r ≡ true → (b : ℤ) → limit v x r ≡ Ok b → (made.up ≡ span.up) ⊎ (made.up ≡ Some (mark_of b n)) → MarksAbove order v x rows m
    from_either m e t b l (inl k) = s.up m (sym k ∙ e)
    from_either m e t b l (inr k) = let is : mark_of b n ≡ m = cc in subst (MarksAbove order v x rows) is (r, at, t, l)

    up_mark : (t : Bool) → bounds_above order x r ≡ t → (m : Mark) → made.up ≡ Some m → MarksAbove order v x rows m
    up_mark true t m e = let o = w.up t in from_either m e t o.0 o.1 o.2.0
    up_mark false t m e = s.up m (sym (w.up_else t) ∙ e)

    from_either_low : (m : Mark) → made.low ≡ Some m → bounds_below order x r ≡ true → (b : ℤ) → limit v x r ≡ Ok b → (made.low ≡ span.low) ⊎ (made.low ≡ Some (mark_of b n)) → MarksBelow order v x rows m
    from_either_low m e t b l (inl k) = s.low m (sym k ∙ e)
    from_either_low m e t b l (inr k) = let is : mark_of b n ≡ m = cc in subst (MarksBelow order v x rows) is (r, at, t, l)

    low_mark : (t : Bool) → bounds_below order x r ≡ t → (m : Mark) → made.low ≡ Some m → MarksBelow order v x rows m
    low_mark true t m e = let o = w.low t in from_either_low m e t o.0 o.1 o.2.0
    low_mark false t m e = s.low m (sym (w.low_else t) ∙ e)

-- all bounding rows of a span have a limit
pub span_ok : (order : List ℕ) (rows : List RowOf) (v : ℕ → ℤ) (x n : ℕ) (span : Span) → IsSpan order rows v x n span → (m : ℕ) (r : RowOf) → m < n → row_at rows m ≡ Some r → binds order x r ≡ true → is_ok (limit v x r) ≡ true
span_ok order rows v x n span s m r lt h b = by_side (or_cases (bounds_above order x r) (bounds_below order x r) b)
  where
    by_side : (bounds_above order x r ≡ true) ⊎ (bounds_below order x r ≡ true) → is_ok (limit v x r) ≡ true
    by_side (inl a) = let o = s.ups m r lt h a in rw o.1 refl
    by_side (inr a) = let o = s.lows m r lt h a in rw o.1 refl

pub refused_from : (v : ℕ → ℤ) (order : List ℕ) (x : ℕ) (e : OutOfRange) (o : Option RowOf) (r : RowOf) → o ≡ Some r → refused_at v order x e (Some r) → refused_at v order x e o
refused_from v order x e o r at h = subst (λ (z : Option RowOf). refused_at v order x e z) (sym at) h
