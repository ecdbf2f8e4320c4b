-- Reading rows, part by part.
use Rattle.std.proofs.Common.{◌≡◌, ℕ, zero, suc, List, [], ◌∷◌, ◌++◌, Option, Some, None, refl, sym, ap, ◌∙◌, append_assoc, append-nil}
use Rattle.bg_base.specs.declared.pos.Pos.{Pos}
use Rattle.bg_text.specs.declared.token.Kind.{Kind}
use Rattle.bg_text.specs.declared.token.Kind.TheVariants as kinds
use Rattle.bg_text.specs.Tokens.{Tok}
use Rattle.bg_reader.specs.declared.refusal.Refusal.{Refusal}
use Rattle.bg_reader.specs.declared.refusal.Refusal.TheVariants as refusal
use Rattle.bg_reader.specs.Reading.{Read, Got, Bad, Deep, Out, Reader, with_read, peek, a_sign, joined, Refuses}
use Rattle.bg_grammar.specs.Rules.{rows, after, commas_at, chain_at}

joined_more : {A : Type 0} (front : List A) (a : A) (r : Read (List A)) → joined front (with_read (λ (v : A × List A). v.0 ∷ v.1) (with_read (λ vs. (a, vs)) r)) ≡ joined (front ++ a ∷ []) r
joined_more front a (Got vs x) = ap (λ l. Got l x) (sym (append_assoc front (a ∷ []) vs))
joined_more front a (Bad x) = refl
joined_more front a (Deep x) = refl
joined_more front a Out = refl

pub joined_none : {A : Type 0} (r : Read (List A)) → joined [] r ≡ r
joined_none (Got vs x) = refl
joined_none (Bad x) = refl
joined_none (Deep x) = refl
joined_none Out = refl

module _ {A B : Type 0} (g : Tok → Option B) (P : Reader A) (front : List A) (ts : List Tok) (w : Read (List A)) where
  pub rows_end : (m : ℕ) → joined front (rows g P m ts) ≡ w → peek g ts ≡ None → w ≡ Got front ts
  rows_end zero h e = sym h ∙ rw (e, append-nil) refl
  rows_end (suc m) h e = sym h ∙ rw (e, append-nil) refl

  pub rows_step : (m n : ℕ) (b : B × List Tok) (a : A) (y : List Tok) → m ≡ suc n → joined front (rows g P m ts) ≡ w → peek g ts ≡ Some b → P ts ≡ Got a y → joined (front ++ a ∷ []) (rows g P n y) ≡ w
  rows_step m n b a y e h k p = sym (rw (e, k, p) (joined_more front a (rows g P n y))) ∙ h

  pub rows_refused : (m n : ℕ) (b : B × List Tok) (from : ℕ → List Tok) (x : Refusal) → m ≡ suc n → joined front (rows g P m ts) ≡ w → peek g ts ≡ Some b → Refuses from x (P ts) → Refuses from x w
  rows_refused m n b from (refusal.Syntax i) e h k r = sym h ∙ rw (e, k, r) refl
  rows_refused m n b from (refusal.TooDeep i) e h k r = sym h ∙ rw (e, k, r) refl
  rows_refused m n b from refusal.Memory e h k r = tt

-- with commas
module _ {A : Type 0} (P : Reader A) (ts : List Tok) where
  pub commas_first : (n : ℕ) (a : A) (x : List Tok) → P ts ≡ Got a x → joined (a ∷ []) (rows (a_sign kinds.Comma) (after kinds.Comma P) n x) ≡ commas_at P n ts
  commas_first n a x h = rw h (sym (joined_more [] a (rows (a_sign kinds.Comma) (after kinds.Comma P) n x)) ∙ joined_none _)

  pub commas_refused : (n : ℕ) (from : ℕ → List Tok) (x : Refusal) → Refuses from x (P ts) → Refuses from x (commas_at P n ts)
  commas_refused n from (refusal.Syntax i) h = rw h refl
  commas_refused n from (refusal.TooDeep i) h = rw h refl
  commas_refused n from refusal.Memory h = tt

module _ {A : Type 0} (P : Reader A) (front : List A) (ts : List Tok) (w : Read (List A)) where
  pub comma_step : (m n : ℕ) (p : Pos) (x : List Tok) (a : A) (y : List Tok) → m ≡ suc n → joined front (rows (a_sign kinds.Comma) (after kinds.Comma P) m ts) ≡ w → peek (a_sign kinds.Comma) ts ≡ Some (p, x) → P x ≡ Got a y → joined (front ++ a ∷ []) (rows (a_sign kinds.Comma) (after kinds.Comma P) n y) ≡ w
  comma_step m n p x a y e h k q = rows_step (a_sign kinds.Comma) (after kinds.Comma P) front ts w m n (p, x) a y e h k (rw (k, q) refl)

  pub comma_refused : (m n : ℕ) (p : Pos) (x : List Tok) (from : ℕ → List Tok) (r : Refusal) → m ≡ suc n → joined front (rows (a_sign kinds.Comma) (after kinds.Comma P) m ts) ≡ w → peek (a_sign kinds.Comma) ts ≡ Some (p, x) → Refuses from r (P x) → Refuses from r w
  comma_refused m n p x from (refusal.Syntax i) e h k q = sym h ∙ rw (e, k, q) refl
  comma_refused m n p x from (refusal.TooDeep i) e h k q = sym h ∙ rw (e, k, q) refl
  comma_refused m n p x from refusal.Memory e h k q = tt

-- chains
abbrev pub chained : {A B : Type 0} → List A → Read (List A × Option B) → Read (List A × Option B)
chained front r = with_read (λ v. (front ++ v.0, v.1)) r

chained_more : {A B : Type 0} (front : List A) (a : A) (r : Read (List A × Option B)) → chained front (with_read (λ (v : A × (List A × Option B)). (v.0 ∷ v.1.0, v.1.1)) (with_read (λ vs. (a, vs)) r)) ≡ chained (front ++ a ∷ []) r
chained_more front a (Got vs x) = ap (λ l. Got (l, vs.1) x) (sym (append_assoc front (a ∷ []) vs.0))
chained_more front a (Bad x) = refl
chained_more front a (Deep x) = refl
chained_more front a Out = refl

pub chained_none : {A B : Type 0} (r : Read (List A × Option B)) → chained [] r ≡ r
chained_none (Got vs x) = refl
chained_none (Bad x) = refl
chained_none (Deep x) = refl
chained_none Out = refl

module _ {A B : Type 0} (k j : Kind) (P : Reader A) (Q : Reader B) (front : List A) (ts : List Tok) (w : Read (List A × Option B)) where
  pub chain_end : (m : ℕ) → chained front (chain_at k j P Q m ts) ≡ w → peek (a_sign k) ts ≡ None → w ≡ Got (front, None) ts
  chain_end zero h e = sym h ∙ rw (e, append-nil) refl
  chain_end (suc m) h e = sym h ∙ rw (e, append-nil) refl

  module _ (m n : ℕ) (p : Pos) (x : List Tok) (e : m ≡ suc n) (h : chained front (chain_at k j P Q m ts) ≡ w) (is : peek (a_sign k) ts ≡ Some (p, x)) where
    pub chain_last : (b : B) (y : List Tok) → peek (a_sign j) x ≡ None → Q x ≡ Got b y → w ≡ Got (front, Some b) y
    chain_last b y i q = sym h ∙ rw (e, is, i, q, append-nil) refl

    pub chain_last_refused : (from : ℕ → List Tok) (r : Refusal) → peek (a_sign j) x ≡ None → Refuses from r (Q x) → Refuses from r w
    chain_last_refused from (refusal.Syntax c) i q = sym h ∙ rw (e, is, i, q) refl
    chain_last_refused from (refusal.TooDeep c) i q = sym h ∙ rw (e, is, i, q) refl
    chain_last_refused from refusal.Memory i q = tt

    pub chain_step : (o : Pos) (z : List Tok) (a : A) (y : List Tok) → peek (a_sign j) x ≡ Some (o, z) → P z ≡ Got a y → chained (front ++ a ∷ []) (chain_at k j P Q n y) ≡ w
    chain_step o z a y i q = sym (rw (e, is, i, q) (turned (chain_at k j P Q n y))) ∙ h
      where
        turned : (r : Read (List A × Option B)) → chained front (with_read (λ (v : Pos × (List A × Option B)). v.1) (with_read (λ c. (p, c)) (with_read (λ (v : A × (List A × Option B)). (v.0 ∷ v.1.0, v.1.1)) (with_read (λ vs. (a, vs)) r)))) ≡ chained (front ++ a ∷ []) r
        turned (Got vs x) = ap (λ l. Got (l, vs.1) x) (sym (append_assoc front (a ∷ []) vs.0))
        turned (Bad x) = refl
        turned (Deep x) = refl
        turned Out = refl

    pub chain_refused : (o : Pos) (z : List Tok) (from : ℕ → List Tok) (r : Refusal) → peek (a_sign j) x ≡ Some (o, z) → Refuses from r (P z) → Refuses from r w
    chain_refused o z from (refusal.Syntax c) i q = sym h ∙ rw (e, is, i, q) refl
    chain_refused o z from (refusal.TooDeep c) i q = sym h ∙ rw (e, is, i, q) refl
    chain_refused o z from refusal.Memory i q = tt
