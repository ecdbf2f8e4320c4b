-- Tables that are read row by row.
use Rattle.std.proofs.Common.{◌≡◌, ◌⊎◌, inl, inr, ⊎_elim, ℕ, zero, suc, ◌+◌, ◌<◌, ◌≤◌, ◌==◌, Bool, true, ◌&&◌, List, [], ◌∷◌, ◌++◌, length, map, drop, Option, Some, None, codes, refl, ap, sym, subst, ◌∙◌, append_assoc, arith}
use Rattle.std.proofs.lemmas.Bool.{eqb-true}
use Rattle.std.proofs.lemmas.List.{length-append}
use Rattle.std.specs.List.{list_all}
use Rattle.bg_certtext.specs.Views.{ValueOf}
use Rattle.bg_certtext.specs.Spellable.{is_value}
use Rattle.bg_certtext.specs.Texts.{row_text, default_text, value_text}
use Rattle.bg_certtext.specs.Rows.{Row, rows_text}
use Rattle.bg_certtext.specs.Machine.{then_, behind, Got, either, RowsOf, default_from, row_from, rows_from}
use Rattle.bg_certtext.proofs.ReadsOptions.{then_made, if_made, same_some, all_of}

-- ---- bytes that stand in front

pub behind_back : (ks bs r : List ℕ) → behind ks bs ≡ Some r → bs ≡ ks ++ r
behind_back [] bs r h = same_some bs r h
behind_back (k ∷ ks) [] r h = absurd (cc)
behind_back (k ∷ ks) (b ∷ bs) r h =
    ⊎_elim (λ p. ap (λ (c : ℕ). c ∷ bs) (eqb-true b k p.0) ∙ ap (λ (cs : List ℕ). k ∷ cs) (behind_back ks bs r p.1)) (λ p. absurd (cc p.1)) (if_made (b == k) (behind ks bs) None r h)

pub behind_length : (ks bs r : List ℕ) → behind ks bs ≡ Some r → length bs ≡ length ks + length r
behind_length ks bs r h = ap length (behind_back ks bs r h) ∙ length-append ks r

-- bytes end in front of what is looked for
pub behind_ends : (ks bs : List ℕ) (i : ℕ) → i < length ks → length bs < 1 → behind (drop i ks) bs ≡ None
behind_ends [] bs i l h = absurd (omega (arith, l))
behind_ends (k ∷ ks) [] zero l h = refl
behind_ends (k ∷ ks) (b ∷ bs) zero l h = absurd (omega (arith, h))
behind_ends (k ∷ ks) bs (suc i) l h = behind_ends ks bs i (omega (arith, l)) h

-- ---- options

pub either_made : {A B : Type 0} (o : Option A) (f : A → Option B) (other : Option B) (y : B) → either o f other ≡ Some y → ((x : A) × (o ≡ Some x) × (f x ≡ Some y)) ⊎ ((o ≡ None) × (other ≡ Some y))
either_made None f other y h = inr (refl, h)
either_made (Some x) f other y h = inl (x, refl, h)

pub either_alike : {A B : Type 0} (o : Option A) (f g : A → B) (x y : B) → ((a : A) → o ≡ Some a → f a ≡ g a) → x ≡ y → either o f x ≡ either o g y
either_alike None f g x y h e = e
either_alike (Some a) f g x y h e = h a refl

pub then_alike : {A B : Type 0} (o : Option A) (f g : A → Option B) → ((a : A) → o ≡ Some a → f a ≡ g a) → then_ o f ≡ then_ o g
then_alike None f g h = refl
then_alike (Some a) f g h = h a refl

-- ---- readers

-- what is read is a text of this kind, in front of what stands behind it
abbrev pub Cuts : {A : Type 0} → (List ℕ → Got A) → (A → List ℕ) → (A → Bool) → Type 0
Cuts {A = A} f text good = (bs : List ℕ) (p : A × List ℕ) → f bs ≡ Some p → (bs ≡ text p.0 ++ p.1) × (good p.0 ≡ true)

pub shorter : {A : Type 0} (f : List ℕ → Got A) (text : A → List ℕ) (good : A → Bool) → Cuts f text good → (bs : List ℕ) (p : A × List ℕ) → f bs ≡ Some p → length p.1 ≤ length bs
shorter f text good cut bs p h =
    let e : length bs ≡ length (text p.0) + length p.1 = ap length (cut bs p h).0 ∙ length-append (text p.0) p.1 in
    omega (arith, e)

-- rows stay rows where more stands behind them
pub row_joined : (k v x y : List ℕ) → row_text k v (x ++ y) ≡ row_text k v x ++ y
row_joined k v x y =
    ap (λ (z : List ℕ). k ++ (codes " := " ++ z)) (sym (append_assoc v (codes ", " ++ x) y))
    ∙ sym (append_assoc k (codes " := " ++ (v ++ (codes ", " ++ x))) y)

pub default_joined : (v y : List ℕ) → codes "else " ++ (v ++ (codes "]" ++ y)) ≡ default_text v ++ y
default_joined v y = ap (λ (z : List ℕ). codes "else " ++ z) (sym (append_assoc v (codes "]") y))

module _ {K : Type 0} (key : List ℕ → Got K) (kt : K → List ℕ) (kg : K → Bool) (cut_key : Cuts key kt kg) where
  abbrev pub row_of : K × ValueOf → Row
  row_of e = (kt e.0, value_text e.1)

  abbrev pub is_good : K × ValueOf → Bool
  is_good e = kg e.0 && is_value e.1

  abbrev pub text_of : List (K × ValueOf) → ValueOf → List ℕ
  text_of es d = rows_text (map row_of es) (value_text d)

  abbrev pub IsRow : List ℕ → (K × ValueOf) × List ℕ → Type 0
  IsRow bs e = (bs ≡ row_text (kt e.0.0) (value_text e.0.1) e.1) × (is_good e.0 ≡ true)

  abbrev pub AreRows : List ℕ → RowsOf K → Type 0
  AreRows bs s = (bs ≡ text_of s.entries s.default ++ s.rest) × (list_all is_good s.entries ≡ true) × (is_value s.default ≡ true)

  module _ (value : List ℕ → Got ValueOf) (cut_value : Cuts value value_text is_value) where
    pub row_back : (bs : List ℕ) (e : (K × ValueOf) × List ℕ) → row_from key value bs ≡ Some e → IsRow bs e
    row_back bs e h =
        let (k, hk, h1) = then_made (key bs) _ e h in
        let (r, hr, h2) = then_made (behind (codes " := ") k.1) _ e h1 in
        let (v, hv, h3) = then_made (value r) _ e h2 in
        let (s, hs, h4) = then_made (behind (codes ", ") v.1) _ e h3 in
        let made : (K × ValueOf) × List ℕ = ((k.0, v.0), s) in
        let ck = cut_key bs k hk in
        let cv = cut_value r v hv in
        subst (IsRow bs) (same_some made e h4) (
          ck.0 ∙ ap (λ (x : List ℕ). kt k.0 ++ x) (behind_back (codes " := ") k.1 r hr ∙ ap (λ (x : List ℕ). codes " := " ++ x) (cv.0 ∙ ap (λ (x : List ℕ). value_text v.0 ++ x) (behind_back (codes ", ") v.1 s hs))),
          all_of (kg k.0) (is_value v.0) ck.1 cv.1,
        )

    pub row_short : (bs : List ℕ) (e : (K × ValueOf) × List ℕ) → row_from key value bs ≡ Some e → length e.1 < length bs
    row_short bs e h =
        let k = kt e.0.0 in
        let v = value_text e.0.1 in
        let is : length bs ≡ length k + length (codes " := " ++ (v ++ (codes ", " ++ e.1))) = ap length (row_back bs e h).0 ∙ length-append k (codes " := " ++ (v ++ (codes ", " ++ e.1))) in
        let more : length (v ++ (codes ", " ++ e.1)) ≡ length v + length (codes ", " ++ e.1) = length-append v (codes ", " ++ e.1) in
        omega (arith, is, more)

    pub default_back : (bs r : List ℕ) (s : RowsOf K) → behind (codes "else ") bs ≡ Some r → default_from key value r ≡ Some s → AreRows bs s
    default_back bs r s hr h =
        let (d, hd, h1) = then_made (value r) _ s h in
        let (q, hq, h2) = then_made (behind (codes "]") d.1) _ s h1 in
        let made : RowsOf K = record { entries = []; default = d.0; rest = q } in
        let cd = cut_value r d hd in
        subst (AreRows bs) (same_some made s h2)
        (behind_back (codes "else ") bs r hr ∙ ap (λ (x : List ℕ). codes "else " ++ x) (cd.0 ∙ ap (λ (x : List ℕ). value_text d.0 ++ x) (behind_back (codes "]") d.1 q hq)) ∙ default_joined (value_text d.0) q, refl, cd.1)

    pub rows_back : (n : ℕ) (bs : List ℕ) (s : RowsOf K) → rows_from key value n bs ≡ Some s → AreRows bs s
    rows_back zero bs s h = absurd (cc)
    rows_back (suc n) bs s h =
        ⊎_elim (λ p. default_back bs p.0 s p.1 p.2)
        (λ p.
        let (e, he, h1) = then_made (row_from key value bs) _ s p.1 in
        let (t, ht, h2) = then_made (rows_from key value n e.1) _ s h1 in
        let more : RowsOf K = record t { entries = e.0 ∷ t.entries } in
        let r = row_back bs e he in
        let q = rows_back n e.1 t ht in
        subst (AreRows bs) (same_some more s h2)
        (r.0 ∙ ap (row_text (kt e.0.0) (value_text e.0.1)) q.0 ∙ row_joined (kt e.0.0) (value_text e.0.1) (text_of t.entries t.default) t.rest, all_of (is_good e.0) (list_all is_good t.entries) r.1 q.1, q.2))
        (either_made (behind (codes "else ") bs) (default_from key value) _ s h)

    -- ---- enough rows are enough

    module _ (other : List ℕ → Got ValueOf) (most : ℕ) (same : (cs : List ℕ) → length cs < most → value cs ≡ other cs) where
      row_alike : (bs : List ℕ) → length bs < most → row_from key value bs ≡ row_from key other bs
      row_alike bs l =
          then_alike (key bs) _ _
          (λ k hk. then_alike (behind (codes " := ") k.1) _ _
          (λ r hr.
          let short : length k.1 ≤ length bs = shorter key kt kg cut_key bs k hk in
          let less : length k.1 ≡ 4 + length r = behind_length (codes " := ") k.1 r hr in
          ap (λ (o : Got ValueOf). then_ o (λ v. then_ (behind (codes ", ") v.1) (λ s. let made : (K × ValueOf) × List ℕ = ((k.0, v.0), s) in Some made))) (same r (omega (arith, l, short, less)))))

      pub rows_alike : (n m : ℕ) (bs : List ℕ) → length bs < most → length bs < n → length bs < m → rows_from key value n bs ≡ rows_from key other m bs
      rows_alike zero m bs l a b = absurd (omega (arith, a))
      rows_alike (suc n) zero bs l a b = absurd (omega (arith, b))
      rows_alike (suc n) (suc m) bs l a b =
          either_alike (behind (codes "else ") bs) (default_from key value) (default_from key other) _ _
          (λ r hr.
          let less : length bs ≡ 5 + length r = behind_length (codes "else ") bs r hr in
          ap (λ (o : Got ValueOf). then_ o (λ d. then_ (behind (codes "]") d.1) (λ q. let made : RowsOf K = record { entries = []; default = d.0; rest = q } in Some made))) (same r (omega (arith, l, less))))
          (then_alike (row_from key value bs) _ _
          (λ e he.
          let less : length e.1 < length bs = row_short bs e he in
          ap (λ (o : Option (RowsOf K)). then_ o (λ t. let more : RowsOf K = record t { entries = e.0 ∷ t.entries } in Some more)) (rows_alike n m e.1 (omega (arith, l, less)) (omega (arith, a, less)) (omega (arith, b, less))))
          ∙ ap (λ (o : Got (K × ValueOf)). then_ o (λ e. then_ (rows_from key other m e.1) (λ t. let more : RowsOf K = record t { entries = e.0 ∷ t.entries } in Some more))) (row_alike bs l))
