-- Literals, terms and rows are read back from their words, and their words are theirs.
use Rattle.std.proofs.Common.{◌≡◌, ℕ, ◌+◌, Bool, true, false, not, ◌&&◌, nat_le, if◌then◌else◌, List, [], ◌∷◌, flat_map, map, Option, Some, None, ℤ, codes, bytes_eq, refl, sym, ap, subst, arith}
use Rattle.std.specs.List.{list_all}
use Rattle.std.specs.Fmt.{decimal, signed_decimal}
use Rattle.bg_base.specs.Exact.{fits}
use Rattle.bg_cert.specs.declared.cert.Named.{Named}
use Rattle.bg_cert.specs.declared.cert.Named.TheVariants.{OfAtom, OfRow}
use Rattle.bg_certtext.specs.declared.text.Term.{Term}
use Rattle.bg_certtext.specs.Views.{RowOf}
use Rattle.bg_certtext.specs.Spellable.{is_number, is_factor, is_zero, is_literal, are_terms, is_row}
use Rattle.bg_certtext.specs.Texts.{literal_word, term_words, row_words}
use Rattle.bg_certtext.specs.Words.{natural, integer}
use Rattle.bg_certtext.specs.Machine.{then_, when, signed_in, literal_in, literals_in, term_in, terms_in, row_behind, row_in}
use Rattle.bg_certtext.proofs.ReadsOptions.{then_made, when_made, same_some, both, all_of}
use Rattle.bg_certtext.proofs.ReadsNumbers.{natural_back, natural_read, integer_back, integer_read, not_first}
use Rattle.bg_certtext.proofs.ReadsWords.{literal_back, same_word}

-- ---- literals

abbrev pub AreLiterals : List (List ℕ) → List Named → Type 0
AreLiterals ws ls = (ws ≡ map literal_word ls) × (list_all is_literal ls ≡ true)

pub literals_back : (ws : List (List ℕ)) (ls : List Named) → literals_in ws ≡ Some ls → AreLiterals ws ls
literals_back [] ls h = subst (AreLiterals []) (same_some [] ls h) (refl, refl)
literals_back (w ∷ ws) ls h =
    let (l, e, k) = then_made (literal_in w) (λ (l : Named). then_ (literals_in ws) (λ ls. Some (l ∷ ls))) ls h in
    let (more, f, g) = then_made (literals_in ws) (λ (ls : List Named). Some (l ∷ ls)) ls k in
    let p = literal_back w l e in
    let q = literals_back ws more f in
    subst (AreLiterals (w ∷ ws)) (same_some (l ∷ more) ls g) (let spelt : w ∷ ws ≡ literal_word l ∷ map literal_word more = cc (p.0, q.0) in spelt, all_of (is_literal l) (list_all is_literal more) p.1 q.1)

atom_read : (w : List ℕ) (a : ℕ) (s : Bool) → natural w ≡ Some a → signed_in s w ≡ Some (OfAtom a s)
atom_read [] a s h = absurd (cc)
atom_read (b ∷ bs) a s h = rw (not_first 35 b a bs (omega arith) h, h) refl

pub literal_read : (l : Named) → is_literal l ≡ true → literal_in (literal_word l) ≡ Some l
literal_read (OfAtom a true) h = atom_read (decimal a) a true (natural_read a h)
literal_read (OfAtom a false) h = atom_read (decimal a) a false (natural_read a h)
literal_read (OfRow r true) h = ap (λ (o : Option ℕ). then_ o (λ r. Some (OfRow r true))) (natural_read r h)
literal_read (OfRow r false) h = ap (λ (o : Option ℕ). then_ o (λ r. Some (OfRow r false))) (natural_read r h)

pub literals_read : (ls : List Named) → list_all is_literal ls ≡ true → literals_in (map literal_word ls) ≡ Some ls
literals_read [] h = refl
literals_read (l ∷ ls) h =
    let p = both (is_literal l) (list_all is_literal ls) h in
    rw (literal_read l p.0, literals_read ls p.1) refl

-- ---- terms

abbrev IsTerm : ℕ → List ℕ → List ℕ → Term → Type 0
IsTerm low a b t = (a ≡ decimal t.term) × (b ≡ signed_decimal t.by) × (nat_le low t.term ≡ true) × (is_number t.term ≡ true) × (is_factor t.by ≡ true)

term_back : (low : ℕ) (a b : List ℕ) (t : Term) → term_in low a b ≡ Some t → IsTerm low a b t
term_back low a b t h =
    let (n, e, k) = then_made (natural a) (λ (n : ℕ). then_ (integer b) (λ k. when (nat_le low n && is_factor k) (record { term = n; by = k }))) t h in
    let (z, f, g) = then_made (integer b) (λ (z : ℤ). when (nat_le low n && is_factor z) (record { term = n; by = z })) t k in
    let p = natural_back a n e in
    let q = integer_back b z f in
    let r = when_made (nat_le low n && is_factor z) (let made : Term = record { term = n; by = z } in made) t g in
    let s = both (nat_le low n) (is_factor z) r.0 in
    subst (IsTerm low a b) r.1 (p.0, q.0, s.0, p.1, s.1)

term_read : (low : ℕ) (t : Term) → nat_le low t.term ≡ true → is_number t.term ≡ true → is_factor t.by ≡ true → term_in low (decimal t.term) (signed_decimal t.by) ≡ Some t
term_read low t h k f =
    let p = both (not (is_zero t.by)) _ f in
    let fit = both (fits t.by) _ p.1 in
    rw (natural_read t.term k, integer_read t.by fit.0, h, f) refl

abbrev pub AreTerms : ℕ → List (List ℕ) → List Term → Type 0
AreTerms low ws ts = (ws ≡ flat_map term_words ts) × (are_terms low ts ≡ true)

pub terms_back : (low : ℕ) (ws : List (List ℕ)) (ts : List Term) → terms_in low ws ≡ Some ts → AreTerms low ws ts
terms_back low [] ts h = subst (AreTerms low []) (same_some [] ts h) (refl, refl)
terms_back low (a ∷ []) ts h = absurd (cc)
terms_back low (a ∷ b ∷ ws) ts h =
    let (t, e, k) = then_made (term_in low a b) (λ (t : Term). then_ (terms_in (t.term + 1) ws) (λ ts. Some (t ∷ ts))) ts h in
    let (more, f, g) = then_made (terms_in (t.term + 1) ws) (λ (ts : List Term). Some (t ∷ ts)) ts k in
    let p = term_back low a b t e in
    let q = terms_back (t.term + 1) ws more f in
    subst (AreTerms low (a ∷ b ∷ ws)) (same_some (t ∷ more) ts g) (
      let spelt : a ∷ b ∷ ws ≡ decimal t.term ∷ signed_decimal t.by ∷ flat_map term_words more = cc (p.0, p.1, q.0) in spelt,
      let fine : are_terms low (t ∷ more) ≡ true = rw (p.2, p.3, p.4, q.1) refl in fine,
    )

pub terms_read : (low : ℕ) (ts : List Term) → are_terms low ts ≡ true → terms_in low (flat_map term_words ts) ≡ Some ts
terms_read low [] h = refl
terms_read low (t ∷ ts) h =
    let p = both (nat_le low t.term) _ h in
    let q = both (is_number t.term) _ p.1 in
    let r = both (is_factor t.by) _ q.1 in
    rw (term_read low t p.0 q.0 r.0, terms_read (t.term + 1) ts r.1) refl

-- ---- rows

abbrev pub IsRowLine : List (List ℕ) → RowOf → Type 0
IsRowLine ws r = (ws ≡ row_words r) × (is_row r ≡ true)

row_part : (c : List ℕ) (ws : List (List ℕ)) (r : RowOf) → row_behind (c ∷ ws) ≡ Some r → IsRowLine (codes "row" ∷ c ∷ ws) r
row_part c ws r h =
    let (z, e, k) = then_made (integer c) (λ (z : ℤ). then_ (terms_in 0 ws) (λ ts. Some (record { bound = z; terms = ts }))) r h in
    let (ts, f, g) = then_made (terms_in 0 ws) (λ (ts : List Term). Some (record { bound = z; terms = ts })) r k in
    let p = integer_back c z e in
    let q = terms_back 0 ws ts f in
    let made : RowOf = record { bound = z; terms = ts } in
    subst (IsRowLine (codes "row" ∷ c ∷ ws)) (same_some made r g) (
      let spelt : codes "row" ∷ c ∷ ws ≡ codes "row" ∷ signed_decimal z ∷ flat_map term_words ts = cc (p.0, q.0) in spelt,
      all_of (fits z) (are_terms 0 ts) p.1 q.1,
    )

pub row_back : (ws : List (List ℕ)) (r : RowOf) → row_in ws ≡ Some r → IsRowLine ws r
row_back [] r h = absurd (cc)
row_back (key ∷ ws) r h = by key ws r (bytes_eq key (codes "row")) refl h
  where
    by : (key : List ℕ) (ws : List (List ℕ)) (r : RowOf) (t : Bool) → bytes_eq key (codes "row") ≡ t → (if t then row_behind ws else None) ≡ Some r → IsRowLine (key ∷ ws) r
    by key ws r false e h = absurd (cc)
    by key [] r true e h = absurd (cc)
    by key (c ∷ ws) r true e h = subst (λ (k : List ℕ). IsRowLine (k ∷ c ∷ ws) r) (sym (same_word key (codes "row") e)) (row_part c ws r h)

pub row_read : (r : RowOf) → is_row r ≡ true → row_in (row_words r) ≡ Some r
row_read r h = let p = both (fits r.bound) (are_terms 0 r.terms) h in rw (integer_read r.bound p.0, terms_read 0 r.terms p.1) refl
