-- What a reader refuses has no spelling, and what it reads has one.
use Rattle.std.proofs.Common.{◌≡◌, ℕ, ◌≤◌, List, [], ◌∷◌, ◌++◌, length, Bool, refl, sym, ◌∙◌, subst, arith, append-nil}
use Rattle.bg_text.specs.Tokens.{Tok}
use Rattle.bg_reader.specs.Reading.{Read, Got, Bad, Deep, Out, Reader}
use Rattle.bg_reader.specs.Exact.{Took, Missed, Reads, Good}

module _ {A : Type 0} (n d : ℕ) (F : Tok → Bool) (L : A → List Tok → Type 0) (P : Reader A) (p : Good n d F L P) where
  -- what is spelled by all tokens is read, if anything is
  whole : (v : A) (front : List Tok) → L v front → Reads n d v front [] (P front)
  whole v front l = subst (λ ts. Reads n d v front [] (P ts)) (append-nil front) (p.full v front [] l tt)

  module _ (ts x : List Tok) (m : Missed L P ts x) where
    -- no spelling goes on with the refused token
    pub no_spelling_goes_on : (t : Tok) (rest : List Tok) → x ≡ t ∷ rest → (v : A) (more : List Tok) → L v (m.front ++ t ∷ more) → ⊥
    no_spelling_goes_on t rest e v more l = subst (Reads n d v (m.front ++ t ∷ more) []) (m.again (t ∷ more) (rw e refl)) (whole v (m.front ++ t ∷ more) l)

    -- and the tokens before it are none
    pub no_spelling_ends : (v : A) → L v m.front → ⊥
    no_spelling_ends v l = subst (Reads n d v m.front []) (m.again [] tt) (p.full v m.front [] l tt)

  -- no spelling goes on from what was read
  pub reads_all : (ts : List Tok) (w : A) (x : List Tok) (k : Took L P ts w x) (t : Tok) (rest : List Tok) → x ≡ t ∷ rest → (v : A) (more : List Tok) → L v (k.front ++ t ∷ more) → ⊥
  reads_all ts w x k t rest e v more l = let h = subst (Reads n d v (k.front ++ t ∷ more) []) (k.again (t ∷ more) (rw e refl)) (whole v (k.front ++ t ∷ more) l) in let q : t ∷ more ≡ [] = h.1 in absurd cc

  one_value : (v w : A) (front : List Tok) → length front ≤ n → length front ≤ d → (r : Read A) → Reads n d v front [] r → Reads n d w front [] r → v ≡ w
  one_value v w front parts depth (Got a y) h k = sym h.0 ∙ k.0
  one_value v w front parts depth (Bad y) h k = absurd h
  one_value v w front parts depth (Deep y) h k = absurd (omega (arith, h, depth))
  one_value v w front parts depth Out h k = absurd (omega (arith, h, parts))

  -- one spelling has one value
  pub spells_one : (v w : A) (front : List Tok) → length front ≤ n → length front ≤ d → L v front → L w front → v ≡ w
  spells_one v w front parts depth h k = one_value v w front parts depth (P front) (whole v front h) (whole w front k)

  read_whole : (v : A) (front : List Tok) → length front ≤ n → length front ≤ d → (r : Read A) → Reads n d v front [] r → r ≡ Got v []
  read_whole v front parts depth (Got a y) h = rw (h.0, h.1) refl
  read_whole v front parts depth (Bad y) h = absurd h
  read_whole v front parts depth (Deep y) h = absurd (omega (arith, h, depth))
  read_whole v front parts depth Out h = absurd (omega (arith, h, parts))

  -- what is spelled is read
  pub reads_spelling : (v : A) (front : List Tok) → length front ≤ n → length front ≤ d → L v front → P front ≡ Got v []
  reads_spelling v front parts depth l = read_whole v front parts depth (P front) (whole v front l)
