-- What the answers of an exact reader say, and that they exclude one another.
use Rattle.std.proofs.Common.{◌≡◌, ℕ, ◌≤◌, length, arith, append-nil, List, [], ◌∷◌, ◌++◌, Bool, Some, refl, sym, ap, ◌∙◌, subst, append_assoc, ◌⊎◌, inl, inr}
use Rattle.std.proofs.lemmas.List.{append_cancel_left, append_cancel_right}
use Rattle.bg_text.specs.Tokens.{Tok}
use Rattle.bg_text.specs.Brackets.{Turn, Opens, Shuts, Neither, turn, left_by, left}
use Rattle.bg_reader.specs.Reading.{Read, Got, Bad, Deep, Out, Reader}
use Rattle.bg_reader.specs.Exact.{Took, Missed, Sank, Fine, Reads, Good, NestBy, Nests}
use Rattle.bg_reader.specs.Told.{GoesOn, IsRead, IsRefused, IsTooDeep}
use Rattle.bg_reader.proofs.Exact.{no_spelling_goes_on, no_spelling_ends, reads_all}
use Rattle.bg_reader.proofs.Nests.{left_more}

same : (ts a b x : List Tok) → ts ≡ a ++ x → ts ≡ b ++ x → a ≡ b
same ts a b x h k = append_cancel_right a b x (sym h ∙ k)

head_is : (x : List Tok) (t u : Tok) (r s : List Tok) → x ≡ t ∷ r → x ≡ u ∷ s → turn u.kind ≡ Opens → turn t.kind ≡ Opens
head_is x t u r s h k o = let e : t ∷ r ≡ u ∷ s = sym h ∙ k in let q : t ≡ u = cc in rw q o

-- behind a front that leaves none to open no bracket opens
none_left : (front : List Tok) (d e : ℕ) (t : Tok) (r : List Tok) → left front d ≡ Some 0 → turn t.kind ≡ Opens → left (front ++ t ∷ r) d ≡ Some e → ⊥
none_left front d e t r h o k = let q : left (t ∷ r) 0 ≡ Some e = sym (left_more front (t ∷ r) d 0 h) ∙ k in by (turn t.kind) o q
  where
    by : (w : Turn) → w ≡ Opens → left_by w 0 (left r) ≡ Some e → ⊥
    by Opens h k = absurd cc
    by Shuts h k = absurd cc
    by Neither h k = absurd cc

module _ {A : Type 0} (n d : ℕ) (F : Tok → Bool) (L : A → List Tok → Type 0) (P : Reader A) (g : Good n d F L P) (nests : Nests d d P) (ts : List Tok) where
  pub is_read : (v : A) (x : List Tok) → P ts ≡ Got v x → IsRead L d ts v x
  is_read v x h =
      let k : Took L P ts v x = subst (Fine n L P ts) h (g.fine ts) in
      let m : NestBy d d ts (Got v x) = subst (NestBy d d ts) h (nests ts) in
      record { front = k.front; cut = k.cut; spells = k.spells; shallow = subst (λ f. left f d ≡ Some d) (same ts m.0 k.front x m.1 k.cut) m.2; longest = λ t more q s. reads_all n d F L P g ts v x k t more q s.0 s.1 s.2 }

  pub is_refused : (x : List Tok) → P ts ≡ Bad x → IsRefused L d ts x
  is_refused x h =
      let k : Missed L P ts x = subst (Fine n L P ts) h (g.fine ts) in
      let m : NestBy {A = A} d d ts (Bad x) = subst (NestBy d d ts) h (nests ts) in
      record { front = k.front; cut = k.cut; begins = k.begins; shallow = (m.1, subst (λ f. left f d ≡ Some m.1) (same ts m.0 k.front x m.2 k.cut) m.3); unfinished = no_spelling_ends n d F L P g ts x k; stops = λ t more q s. no_spelling_goes_on n d F L P g ts x k t more q s.0 s.1 s.2 }

  pub is_too_deep : (x : List Tok) → P ts ≡ Deep x → IsTooDeep L d ts x
  is_too_deep x h =
      let k : Sank L ts x = subst (Fine n L P ts) h (g.fine ts) in
      let m : NestBy {A = A} d d ts (Deep x) = subst (NestBy d d ts) h (nests ts) in
      record { front = k.front; bracket = k.bracket; behind = k.rest; here = k.here; cut = k.cut; goes = (k.begins.0, k.begins.1, subst (L k.begins.0) (append_assoc k.front (k.bracket ∷ []) k.begins.1) k.begins.2); opens = head_is x k.bracket m.1 k.rest m.2 k.here m.4 m.5; full = subst (λ f. left f d ≡ Some 0) (same ts m.0 k.front x m.3 k.cut) m.6 }

  shallow_read : (v : A) (o : ℕ) → length ts ≤ n → left ts d ≡ Some o → (r : Read A) → Reads n d v ts [] r → NestBy d d ts r → r ≡ Got v []
  shallow_read v o parts shallow (Got w y) h k = rw (h.0, h.1) refl
  shallow_read v o parts shallow (Bad y) h k = absurd h
  shallow_read v o parts shallow (Deep y) h k = absurd (none_left k.0 d o k.1 k.2 k.6 k.5 (subst (λ z. left z d ≡ Some o) (k.3 ∙ ap (λ z. k.0 ++ z) k.4) shallow))
  shallow_read v o parts shallow Out h k = absurd (omega (arith, h, parts))

  -- what is spelled, with no bracket too many, is read
  pub reads_shallow : (v : A) (o : ℕ) → L v ts → length ts ≤ n → left ts d ≡ Some o → P ts ≡ Got v []
  reads_shallow v o l parts shallow = shallow_read v o parts shallow (P ts) (subst (λ z. Reads n d v ts [] (P z)) (append-nil ts) (g.full v ts [] l tt)) (nests ts)

-- the same of a language with as many spellings, of values that are twins
module _ {A : Type 0} (L M : A → List Tok → Type 0) (into : (v : A) (ts : List Tok) → L v ts → M v ts) (out : (v : A) (ts : List Tok) → M v ts → (w : A) × L w ts) (d : ℕ) (ts : List Tok) where
  goes_out : (front : List Tok) (t : Tok) → GoesOn M front t → GoesOn L front t
  goes_out front t h = let w = out h.0 (front ++ t ∷ h.1) h.2 in (w.0, h.1, w.1)

  pub read_as : (v : A) (x : List Tok) → IsRead L d ts v x → IsRead M d ts v x
  read_as v x h = record { front = h.front; cut = h.cut; spells = into v h.front h.spells; shallow = h.shallow; longest = λ t more q s. h.longest t more q (goes_out h.front t s) }

  pub refused_as : (x : List Tok) → IsRefused L d ts x → IsRefused M d ts x
  refused_as x h = record { front = h.front; cut = h.cut; begins = (h.begins.0, h.begins.1, into h.begins.0 _ h.begins.2); shallow = h.shallow; unfinished = λ v s. (let w = out v h.front s in h.unfinished w.0 w.1); stops = λ t more q s. h.stops t more q (goes_out h.front t s) }

  pub deep_as : (x : List Tok) → IsTooDeep L d ts x → IsTooDeep M d ts x
  deep_as x h = record { front = h.front; bracket = h.bracket; behind = h.behind; here = h.here; cut = h.cut; goes = (h.goes.0, h.goes.1, into h.goes.0 _ h.goes.2); opens = h.opens; full = h.full }

-- a goes on from b, where y stands behind b
abbrev Longer : List Tok → List Tok → List Tok → Type 0
Longer a b y = (t : Tok) × (r : List Tok) × (more : List Tok) × (a ≡ b ++ t ∷ r) × (y ≡ t ∷ more)

compare : (a b x y : List Tok) → a ++ x ≡ b ++ y → (a ≡ b) ⊎ (Longer a b y ⊎ Longer b a x)
compare [] [] x y h = inl refl
compare [] (u ∷ b) x y h = inr (inr (u, b, b ++ y, refl, h))
compare (t ∷ a) [] x y h = inr (inl (t, a, a ++ x, refl, sym h))
compare (t ∷ a) (u ∷ b) x y h = by (compare a b x y rest)
  where
    rest : a ++ x ≡ b ++ y
    rest = cc

    first : t ≡ u
    first = cc

    by : (a ≡ b) ⊎ (Longer a b y ⊎ Longer b a x) → (t ∷ a ≡ u ∷ b) ⊎ (Longer (t ∷ a) (u ∷ b) y ⊎ Longer (u ∷ b) (t ∷ a) x)
    by (inl e) = inl (rw (first, e) refl)
    by (inr (inl l)) = inr (inl (l.0, l.1, l.2, rw (first, l.3) refl, l.4))
    by (inr (inr l)) = inr (inr (l.0, l.1, l.2, rw (sym first, l.3) refl, l.4))

module _ {A : Type 0} (L : A → List Tok → Type 0) (d : ℕ) (ts : List Tok) where
  goes : (v : A) (more a b : List Tok) (t : Tok) (r : List Tok) → L v (a ++ more) → a ≡ b ++ t ∷ r → GoesOn L b t
  goes v more a b t r l e = (v, r ++ more, subst (L v) (ap (λ z. z ++ more) e ∙ append_assoc b (t ∷ r) more) l)

  ends : (v : A) (a b : List Tok) (t : Tok) (r : List Tok) → L v a → a ≡ b ++ t ∷ r → GoesOn L b t
  ends v a b t r l e = (v, r, subst (L v) e l)

  rests : (a b x y : List Tok) → a ≡ b → ts ≡ a ++ x → ts ≡ b ++ y → x ≡ y
  rests a b x y q h k = append_cancel_left b x y (ap (λ z. z ++ x) (sym q) ∙ sym h ∙ k)

  -- what is read isn't refused
  pub read_not_refused : (v : A) (x y : List Tok) → IsRead L d ts v x → IsRefused L d ts y → ⊥
  read_not_refused v x y r f = by (compare r.front f.front x y (sym r.cut ∙ f.cut))
    where
      by : (r.front ≡ f.front) ⊎ (Longer r.front f.front y ⊎ Longer f.front r.front x) → ⊥
      by (inl q) = f.unfinished v (subst (L v) q r.spells)
      by (inr (inl l)) = f.stops l.0 l.2 l.4 (ends v r.front f.front l.0 l.1 r.spells l.3)
      by (inr (inr l)) = r.longest l.0 l.2 l.4 (goes f.begins.0 f.begins.1 f.front r.front l.0 l.1 f.begins.2 l.3)

  -- nor is it too deep
  pub read_not_deep : (v : A) (x y : List Tok) → IsRead L d ts v x → IsTooDeep L d ts y → ⊥
  read_not_deep v x y r f = by (compare r.front f.front x y (sym r.cut ∙ f.cut))
    where
      by : (r.front ≡ f.front) ⊎ (Longer r.front f.front y ⊎ Longer f.front r.front x) → ⊥
      by (inl q) = r.longest f.bracket f.behind (rests r.front f.front x y q r.cut f.cut ∙ f.here) (subst (λ z. GoesOn L z f.bracket) (sym q) f.goes)
      by (inr (inl l)) =
          let e : l.0 ∷ l.2 ≡ f.bracket ∷ f.behind = sym l.4 ∙ f.here in
          let q : l.0 ≡ f.bracket = cc in
          none_left f.front d d l.0 l.1 f.full (rw q f.opens) (subst (λ z. left z d ≡ Some d) l.3 r.shallow)
      by (inr (inr l)) = r.longest l.0 l.2 l.4 (goes f.goes.0 (f.bracket ∷ f.goes.1) f.front r.front l.0 l.1 f.goes.2 l.3)

  -- and what is refused isn't too deep
  pub refused_not_deep : (x y : List Tok) → IsRefused L d ts x → IsTooDeep L d ts y → ⊥
  refused_not_deep x y r f = by (compare r.front f.front x y (sym r.cut ∙ f.cut))
    where
      by : (r.front ≡ f.front) ⊎ (Longer r.front f.front y ⊎ Longer f.front r.front x) → ⊥
      by (inl q) = r.stops f.bracket f.behind (rests r.front f.front x y q r.cut f.cut ∙ f.here) (subst (λ z. GoesOn L z f.bracket) (sym q) f.goes)
      by (inr (inl l)) =
          let e : l.0 ∷ l.2 ≡ f.bracket ∷ f.behind = sym l.4 ∙ f.here in
          let q : l.0 ≡ f.bracket = cc in
          none_left f.front d r.shallow.0 l.0 l.1 f.full (rw q f.opens) (subst (λ z. left z d ≡ Some r.shallow.0) l.3 r.shallow.1)
      by (inr (inr l)) = r.stops l.0 l.2 l.4 (goes f.goes.0 (f.bracket ∷ f.goes.1) f.front r.front l.0 l.1 f.goes.2 l.3)

  -- what is read ends in one place
  pub one_front : (v w : A) (x y : List Tok) (r : IsRead L d ts v x) (f : IsRead L d ts w y) → r.front ≡ f.front
  one_front v w x y r f = by (compare r.front f.front x y (sym r.cut ∙ f.cut))
    where
      by : (r.front ≡ f.front) ⊎ (Longer r.front f.front y ⊎ Longer f.front r.front x) → r.front ≡ f.front
      by (inl q) = q
      by (inr (inl l)) = absurd (f.longest l.0 l.2 l.4 (ends v r.front f.front l.0 l.1 r.spells l.3))
      by (inr (inr l)) = absurd (r.longest l.0 l.2 l.4 (ends w f.front r.front l.0 l.1 f.spells l.3))

  pub one_rest : (v w : A) (x y : List Tok) → IsRead L d ts v x → IsRead L d ts w y → x ≡ y
  one_rest v w x y r f = rests r.front f.front x y (one_front v w x y r f) r.cut f.cut

  -- one place is refused
  pub one_refusal : (x y : List Tok) → IsRefused L d ts x → IsRefused L d ts y → x ≡ y
  one_refusal x y r f = by (compare r.front f.front x y (sym r.cut ∙ f.cut))
    where
      by : (r.front ≡ f.front) ⊎ (Longer r.front f.front y ⊎ Longer f.front r.front x) → x ≡ y
      by (inl q) = rests r.front f.front x y q r.cut f.cut
      by (inr (inl l)) = absurd (f.stops l.0 l.2 l.4 (goes r.begins.0 r.begins.1 r.front f.front l.0 l.1 r.begins.2 l.3))
      by (inr (inr l)) = absurd (r.stops l.0 l.2 l.4 (goes f.begins.0 f.begins.1 f.front r.front l.0 l.1 f.begins.2 l.3))

  -- and one bracket is the first that is one too many
  pub one_depth : (x y : List Tok) → IsTooDeep L d ts x → IsTooDeep L d ts y → x ≡ y
  one_depth x y r f = by (compare r.front f.front x y (sym r.cut ∙ f.cut))
    where
      by : (r.front ≡ f.front) ⊎ (Longer r.front f.front y ⊎ Longer f.front r.front x) → x ≡ y
      by (inl q) = rests r.front f.front x y q r.cut f.cut
      by (inr (inl l)) =
          let e : l.0 ∷ l.2 ≡ f.bracket ∷ f.behind = sym l.4 ∙ f.here in
          let q : l.0 ≡ f.bracket = cc in
          absurd (none_left f.front d 0 l.0 l.1 f.full (rw q f.opens) (subst (λ z. left z d ≡ Some 0) l.3 r.full))
      by (inr (inr l)) =
          let e : l.0 ∷ l.2 ≡ r.bracket ∷ r.behind = sym l.4 ∙ r.here in
          let q : l.0 ≡ r.bracket = cc in
          absurd (none_left r.front d 0 l.0 l.1 r.full (rw q r.opens) (subst (λ z. left z d ≡ Some 0) l.3 f.full))
