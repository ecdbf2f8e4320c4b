-- Reading parts in a row, one after the other.
use Rattle.std.proofs.Common.{◌≡◌, ℕ, zero, suc, List, [], ◌∷◌, ◌++◌, Option, Some, None, refl, sym, ap, append_assoc, append-nil}
use Rattle.bg_text.specs.Tokens.{Tok}
use Rattle.bg_reader.specs.Reading.{Read, Got, Bad, Deep, Out, Reader, with_read, peek, many, joined}

joined_more : {A : Type 0} (front : List A) (a : A) (r : Read (List A)) → joined front (with_read (λ (v : A × List A). v.0 ∷ v.1) (with_read (λ vs. (a, vs)) r)) ≡ joined (front ++ a ∷ []) r
joined_more front a (Got vs x) = ap (λ l. Got l x) (sym (append_assoc front (a ∷ []) vs))
joined_more front a (Bad x) = refl
joined_more front a (Deep x) = refl
joined_more front a Out = refl

pub joined_none : {A : Type 0} (r : Read (List A)) → joined [] r ≡ r
joined_none (Got vs x) = refl
joined_none (Bad x) = refl
joined_none (Deep x) = refl
joined_none Out = refl

module _ {A B : Type 0} (g : Tok → Option B) (P : B → Reader A) (front : List A) (ts : List Tok) where
  pub many_more : (n m : ℕ) (b : B) (x : List Tok) (a : A) (y : List Tok) → m ≡ suc n → peek g ts ≡ Some (b, x) → P b x ≡ Got a y → joined front (many g P m ts) ≡ joined (front ++ a ∷ []) (many g P n y)
  many_more n m b x a y e h k = rw (e, h, k) (joined_more front a (many g P n y))

  pub many_bad : (n m : ℕ) (b : B) (x : List Tok) (y : List Tok) → m ≡ suc n → peek g ts ≡ Some (b, x) → P b x ≡ Bad y → joined front (many g P m ts) ≡ Bad y
  many_bad n m b x y e h k = rw (e, h, k) refl

  pub many_deep : (n m : ℕ) (b : B) (x : List Tok) (y : List Tok) → m ≡ suc n → peek g ts ≡ Some (b, x) → P b x ≡ Deep y → joined front (many g P m ts) ≡ Deep y
  many_deep n m b x y e h k = rw (e, h, k) refl

  pub many_stop : (m : ℕ) → peek g ts ≡ None → joined front (many g P m ts) ≡ Got front ts
  many_stop zero h = rw (h, append-nil) refl
  many_stop (suc m) h = rw (h, append-nil) refl
