-- Exact readers put together: from exact parts come exact readers.
use Rattle.std.proofs.Common.{◌≡◌, ℕ, zero, suc, ◌≤◌, List, [], ◌∷◌, ◌++◌, length, Bool, true, Option, Some, None, refl, sym, ap, ◌∙◌, subst, arith, inl, inr, append_assoc, length-append}
use Rattle.bg_text.specs.Tokens.{Tok}
use Rattle.bg_reader.specs.Exact.{Like, Passes, Begins, Took, Fine, Reads, Good, One, Both, Empty, Free, Picks, Branch, Many}
use Rattle.bg_reader.specs.Reading.{Read, Got, Bad, Deep, Out, Reader, with_read, and_read, both, peeked, branch_on, one, branch, sink, sunk, must, nothing, many}

pub like_front : (front x y : List Tok) → Like x y → Like (front ++ x) (front ++ y)
like_front [] x y h = h
like_front (t ∷ front) x y h = refl

-- one token
module _ {A : Type 0} (n d : ℕ) (F : Tok → Bool) (f : Tok → Option A) (t : Tok) (v : A) (ok : f t ≡ Some v) where
  pub one_fine : (u : Tok) (ts : List Tok) (o : Option A) → f u ≡ o → Fine n (One f) (one f) (u ∷ ts) (branch_on (peeked o ts) Got (Bad (u ∷ ts)))
  one_fine u ts (Some a) h = record {
    front = u ∷ [];
    cut = refl;
    spells = (u, refl, h);
    again = λ y l. rw h refl;
  }
  one_fine u ts None h = record {
    front = [];
    cut = refl;
    begins = (v, t ∷ [], (t, refl, ok));
    again = again u ts h;
  }
    where
      again : (u : Tok) (ts : List Tok) → f u ≡ None → (y : List Tok) → Like (u ∷ ts) y → one f y ≡ Bad y
      again u ts h [] l = refl
      again u ts h (w ∷ y) l = rw (sym l, h) refl

  pub one_all : (ts : List Tok) → Fine n (One f) (one f) ts (one f ts)
  one_all [] = record {
    front = [];
    cut = refl;
    begins = (v, t ∷ [], (t, refl, ok));
    again = λ y l. again y l;
  }
    where
      again : (y : List Tok) → Like [] y → one f y ≡ Bad y
      again [] l = refl
      again (w ∷ y) l = absurd l
  one_all (u ∷ ts) = one_fine u ts (f u) refl

  pub one_good : Good n d F (One f) (one f)
  one_good = record {
    fine = one_all;
    full = λ w front x l p. rw (l.1, l.2) (refl, refl);
    some = (v, t ∷ [], (t, refl, ok));
  }

-- a part and then another
reads_with : {B C : Type 0} (n d : ℕ) (g : B → C) (b : B) (front0 front x : List Tok) (r : Read B) → Reads n d b front x r → Reads n d (g b) (front0 ++ front) x (with_read g r)
reads_with n d g b front0 front x (Got w y) h = (ap g h.0, h.1)
reads_with n d g b front0 front x (Bad y) h = h
reads_with n d g b front0 front x (Deep y) h = omega (arith, length-append front0 front, h)
reads_with n d g b front0 front x Out h = omega (arith, length-append front0 front, h)

module _ {A B : Type 0} (n d : ℕ) (F G : Tok → Bool) (L : A → List Tok → Type 0) (M : B → List Tok → Type 0) (P : Reader A) (Q : Reader B) (p : Good n d F L P) (q : Good n d G M Q) (meets : (b : B) (front x : List Tok) → M b front → Passes G x → Passes F (front ++ x)) where
  both_got : (ts : List Tok) (a : A) (x : List Tok) → Took L P ts a x → (r : Read B) → Fine n M Q x r → Fine n (Both L M) (both P Q) ts (with_read (λ b. (a, b)) r)
  both_got ts a x h (Got b y) k = record {
    front = h.front ++ k.front;
    cut = h.cut ∙ ap (λ l. h.front ++ l) k.cut ∙ sym (append_assoc h.front k.front y);
    spells = (h.front, k.front, refl, h.spells, k.spells);
    again = λ z l. rw (append_assoc h.front k.front z, h.again (k.front ++ z) (subst (λ u. Like u (k.front ++ z)) (sym k.cut) (like_front k.front y z l)), k.again z l) refl;
  }
  both_got ts a x h (Bad y) k = record {
    front = h.front ++ k.front;
    cut = h.cut ∙ ap (λ l. h.front ++ l) k.cut ∙ sym (append_assoc h.front k.front y);
    begins = ((a, k.begins.0), k.begins.1, (h.front, k.front ++ k.begins.1, append_assoc h.front k.front k.begins.1, h.spells, k.begins.2));
    again = λ z l. rw (append_assoc h.front k.front z, h.again (k.front ++ z) (subst (λ u. Like u (k.front ++ z)) (sym k.cut) (like_front k.front y z l)), k.again z l) refl;
  }
  both_got ts a x h (Deep y) k = record {
    front = h.front ++ k.front;
    bracket = k.bracket;
    rest = k.rest;
    here = k.here;
    cut = h.cut ∙ ap (λ l. h.front ++ l) k.cut ∙ sym (append_assoc h.front k.front y);
    begins = ((a, k.begins.0), k.begins.1, (h.front, (k.front ++ k.bracket ∷ []) ++ k.begins.1, ap (λ l. l ++ k.begins.1) (append_assoc h.front k.front (k.bracket ∷ [])) ∙ append_assoc h.front (k.front ++ k.bracket ∷ []) k.begins.1, h.spells, k.begins.2));
  }
  both_got ts a x h Out k = let e : length ts ≡ length (h.front ++ x) = ap length h.cut in omega (arith, e, length-append h.front x, k)

  both_fine : (ts : List Tok) (r : Read A) → Fine n L P ts r → Fine n (Both L M) (both P Q) ts (and_read r (λ a x. with_read (λ b. (a, b)) (Q x)))
  both_fine ts (Got a x) h = both_got ts a x h (Q x) (q.fine x)
  both_fine ts (Bad x) h = record {
    front = h.front;
    cut = h.cut;
    begins = ((h.begins.0, q.some.0), h.begins.1 ++ q.some.1, (h.front ++ h.begins.1, q.some.1, sym (append_assoc h.front h.begins.1 q.some.1), h.begins.2, q.some.2));
    again = λ y l. rw (h.again y l) refl;
  }
  both_fine ts (Deep x) h = record {
    front = h.front;
    bracket = h.bracket;
    rest = h.rest;
    here = h.here;
    cut = h.cut;
    begins = ((h.begins.0, q.some.0), h.begins.1 ++ q.some.1, ((h.front ++ h.bracket ∷ []) ++ h.begins.1, q.some.1, sym (append_assoc (h.front ++ h.bracket ∷ []) h.begins.1 q.some.1), h.begins.2, q.some.2));
  }
  both_fine ts Out h = h

  both_reads : (a : A) (b : B) (front more x : List Tok) (r : Read A) → Reads n d a front (more ++ x) r → Reads n d b more x (Q (more ++ x)) → Reads {A = A × B} n d (a, b) (front ++ more) x (and_read r (λ a x. with_read (λ b. (a, b)) (Q x)))
  both_reads a b front more x (Got w y) h k = rw (h.0, h.1) (reads_with n d (λ c. (a, c)) b front more x (Q (more ++ x)) k)
  both_reads a b front more x (Bad y) h k = absurd h
  both_reads a b front more x (Deep y) h k = omega (arith, length-append front more, h)
  both_reads a b front more x Out h k = omega (arith, length-append front more, h)

  pub both_good : Good n d G (Both L M) (both P Q)
  both_good = record {
    fine = λ ts. both_fine ts (P ts) (p.fine ts);
    full = λ v front x l o. rw (l.2, append_assoc l.0 l.1 x) (both_reads v.0 v.1 l.0 l.1 x (P (l.0 ++ (l.1 ++ x))) (p.full v.0 l.0 (l.1 ++ x) l.3 (meets v.1 l.1 x l.4 o)) (q.full v.1 l.1 x l.4 o));
    some = ((p.some.0, q.some.0), p.some.1 ++ q.some.1, (p.some.1, q.some.1, refl, p.some.2, q.some.2));
  }

-- nothing
pub nothing_good : {A : Type 0} (n d : ℕ) (F : Tok → Bool) (a : A) → Good n d F (λ v ts. (v ≡ a) × (ts ≡ [])) (nothing a)
nothing_good n d F a = record {
  fine = λ ts. record { front = []; cut = refl; spells = (refl, refl); again = λ y l. refl };
  full = λ v front x l o. rw l.1 (sym l.0, refl);
  some = (a, [], (refl, refl));
}

free_like : {B : Type 0} (g : Tok → Option B) (front x y : List Tok) → Free g (front ++ x) → Like x y → Free g (front ++ y)
free_like g [] x [] h l = tt
free_like g [] [] (u ∷ y) h l = absurd l
free_like g [] (t ∷ x) (u ∷ y) h l = rw (sym l) h
free_like g (t ∷ front) x y h l = h

branch_free : {A B : Type 0} (g : Tok → Option B) (P : B → Reader A) (Q : Reader A) (ts : List Tok) → Free g ts → branch g P Q ts ≡ Q ts
branch_free g P Q [] h = refl
branch_free g P Q (t ∷ ts) h = rw h refl

module _ {A B : Type 0} (n d : ℕ) (G : Tok → Bool) (g : Tok → Option B) (L : B → A → List Tok → Type 0) (M : A → List Tok → Type 0) (Q : Reader A) (q : Good n d G M Q) (free : (v : A) (front x : List Tok) → M v front → Passes G x → Free g (front ++ x)) where
  module _ (P : B → Reader A) where
    free_fine : (ts : List Tok) → Free g ts → (r : Read A) → Fine n M Q ts r → Fine n (Branch g L M) (branch g P Q) ts r
    free_fine ts h (Got v x) k = record {
      front = k.front;
      cut = k.cut;
      spells = inr k.spells;
      again = λ y l. branch_free g P Q (k.front ++ y) (free_like g k.front x y (subst (Free g) k.cut h) l) ∙ k.again y l;
    }
    free_fine ts h (Bad x) k = record {
      front = k.front;
      cut = k.cut;
      begins = (k.begins.0, k.begins.1, inr k.begins.2);
      again = λ y l. branch_free g P Q (k.front ++ y) (free_like g k.front x y (subst (Free g) k.cut h) l) ∙ k.again y l;
    }
    free_fine ts h (Deep x) k = record {
      front = k.front;
      bracket = k.bracket;
      rest = k.rest;
      here = k.here;
      cut = k.cut;
      begins = (k.begins.0, k.begins.1, inr k.begins.2);
    }
    free_fine ts h Out k = k

  module _ (m e : ℕ) (F : Tok → Bool) (P : B → Reader A) (p : (b : B) → Picks g b → Good m e F (L b) (P b)) (parts : n ≤ suc m) (depth : d ≤ suc e) (goes : (t : Tok) → G t ≡ true → F t ≡ true) where
    took_fine : (t : Tok) (ts : List Tok) (b : B) → g t ≡ Some b → (r : Read A) → Fine m (L b) (P b) ts r → Fine n (Branch g L M) (branch g P Q) (t ∷ ts) r
    took_fine t ts b h (Got v x) k = record {
      front = t ∷ k.front;
      cut = ap (λ l. t ∷ l) k.cut;
      spells = inl (t, k.front, b, refl, h, k.spells);
      again = λ y l. rw (h, k.again y l) refl;
    }
    took_fine t ts b h (Bad x) k = record {
      front = t ∷ k.front;
      cut = ap (λ l. t ∷ l) k.cut;
      begins = (k.begins.0, k.begins.1, inl (t, k.front ++ k.begins.1, b, refl, h, k.begins.2));
      again = λ y l. rw (h, k.again y l) refl;
    }
    took_fine t ts b h (Deep x) k = record {
      front = t ∷ k.front;
      bracket = k.bracket;
      rest = k.rest;
      here = k.here;
      cut = ap (λ l. t ∷ l) k.cut;
      begins = (k.begins.0, k.begins.1, inl (t, (k.front ++ k.bracket ∷ []) ++ k.begins.1, b, refl, h, k.begins.2));
    }
    took_fine t ts b h Out k = omega (arith, k, parts)

    first_fine : (t : Tok) (ts : List Tok) (o : Option B) → g t ≡ o → Fine n (Branch g L M) (branch g P Q) (t ∷ ts) (branch_on (peeked o ts) P (Q (t ∷ ts)))
    first_fine t ts (Some b) h = took_fine t ts b h (P b ts) ((p b (t, h)).fine ts)
    first_fine t ts None h = free_fine P (t ∷ ts) h (Q (t ∷ ts)) (q.fine (t ∷ ts))

    branch_fine : (ts : List Tok) → Fine n (Branch g L M) (branch g P Q) ts (branch g P Q ts)
    branch_fine [] = free_fine P [] tt (Q []) (q.fine [])
    branch_fine (t ∷ ts) = first_fine t ts (g t) refl

    passes_goes : (x : List Tok) → Passes G x → Passes F x
    passes_goes [] h = tt
    passes_goes (t ∷ x) h = goes t h

    took_reads : (t : Tok) (v : A) (more x : List Tok) (r : Read A) → Reads m e v more x r → Reads n d v (t ∷ more) x r
    took_reads t v more x (Got w y) h = h
    took_reads t v more x (Bad y) h = h
    took_reads t v more x (Deep y) h = omega (arith, h, depth)
    took_reads t v more x Out h = omega (arith, h, parts)

    branch_full : (v : A) (front x : List Tok) → Branch g L M v front → Passes G x → Reads n d v front x (branch g P Q (front ++ x))
    branch_full v front x (inl l) o = rw (l.3, l.4) (took_reads l.0 v l.1 x (P l.2 (l.1 ++ x)) ((p l.2 (l.0, l.4)).full v l.1 x l.5 (passes_goes x o)))
    branch_full v front x (inr l) o = subst (Reads n d v front x) (sym (branch_free g P Q (front ++ x) (free v front x l o))) (q.full v front x l o)

    pub branch_good : Good n d G (Branch g L M) (branch g P Q)
    branch_good = record {
      fine = branch_fine;
      full = branch_full;
      some = (q.some.0, q.some.1, inr q.some.2);
    }

  -- a bracket that is one too many
  module _ (none : d ≡ 0) (some : (b : B) → Picks g b → Begins (L b) []) where
    sink_free : (ts : List Tok) → Free g ts → sink g Q ts ≡ Q ts
    sink_free [] h = refl
    sink_free (t ∷ ts) h = rw h refl

    sunk_fine : (ts : List Tok) → Free g ts → (r : Read A) → Fine n M Q ts r → Fine n (Branch g L M) (sink g Q) ts r
    sunk_fine ts h (Got v x) k = record {
      front = k.front;
      cut = k.cut;
      spells = inr k.spells;
      again = λ y l. sink_free (k.front ++ y) (free_like g k.front x y (subst (Free g) k.cut h) l) ∙ k.again y l;
    }
    sunk_fine ts h (Bad x) k = record {
      front = k.front;
      cut = k.cut;
      begins = (k.begins.0, k.begins.1, inr k.begins.2);
      again = λ y l. sink_free (k.front ++ y) (free_like g k.front x y (subst (Free g) k.cut h) l) ∙ k.again y l;
    }
    sunk_fine ts h (Deep x) k = record {
      front = k.front;
      bracket = k.bracket;
      rest = k.rest;
      here = k.here;
      cut = k.cut;
      begins = (k.begins.0, k.begins.1, inr k.begins.2);
    }
    sunk_fine ts h Out k = k

    sink_first : (t : Tok) (ts : List Tok) (o : Option B) → g t ≡ o → Fine n (Branch g L M) (sink g Q) (t ∷ ts) (branch_on (peeked o ts) (λ b rest. Deep (t ∷ ts)) (Q (t ∷ ts)))
    sink_first t ts (Some b) h = record {
      front = [];
      bracket = t;
      rest = ts;
      here = refl;
      cut = refl;
      begins = ((some b (t, h)).0, (some b (t, h)).1, inl (t, (some b (t, h)).1, b, refl, h, (some b (t, h)).2));
    }
    sink_first t ts None h = sunk_fine (t ∷ ts) h (Q (t ∷ ts)) (q.fine (t ∷ ts))

    sink_fine : (ts : List Tok) → Fine n (Branch g L M) (sink g Q) ts (sink g Q ts)
    sink_fine [] = sunk_fine [] tt (Q []) (q.fine [])
    sink_fine (t ∷ ts) = sink_first t ts (g t) refl

    sink_full : (v : A) (front x : List Tok) → Branch g L M v front → Passes G x → Reads n d v front x (sink g Q (front ++ x))
    sink_full v front x (inl l) o = rw (l.3, l.4, none) (omega arith)
    sink_full v front x (inr l) o = subst (Reads n d v front x) (sym (sink_free (front ++ x) (free v front x l o))) (q.full v front x l o)

    pub sink_good : Good n d G (Branch g L M) (sink g Q)
    sink_good = record {
      fine = sink_fine;
      full = sink_full;
      some = (q.some.0, q.some.1, inr q.some.2);
    }

-- read as something else
module _ {A C : Type 0} (n d : ℕ) (F : Tok → Bool) (L : A → List Tok → Type 0) (M : C → List Tok → Type 0) (P : Reader A) (f : A → C) (p : Good n d F L P) (into : (v : A) (ts : List Tok) → L v ts → M (f v) ts) (out : (w : C) (ts : List Tok) → M w ts → (v : A) × (f v ≡ w) × L v ts) where
  via_fine : (ts : List Tok) (r : Read A) → Fine n L P ts r → Fine n M (λ ts. with_read f (P ts)) ts (with_read f r)
  via_fine ts (Got v x) k = record {
    front = k.front;
    cut = k.cut;
    spells = into v k.front k.spells;
    again = λ y l. rw (k.again y l) refl;
  }
  via_fine ts (Bad x) k = record {
    front = k.front;
    cut = k.cut;
    begins = (f k.begins.0, k.begins.1, into k.begins.0 (k.front ++ k.begins.1) k.begins.2);
    again = λ y l. rw (k.again y l) refl;
  }
  via_fine ts (Deep x) k = record {
    front = k.front;
    bracket = k.bracket;
    rest = k.rest;
    here = k.here;
    cut = k.cut;
    begins = (f k.begins.0, k.begins.1, into k.begins.0 _ k.begins.2);
  }
  via_fine ts Out k = k

  pub via_good : Good n d F M (λ ts. with_read f (P ts))
  via_good = record {
    fine = λ ts. via_fine ts (P ts) (p.fine ts);
    full = λ w front x l o. let h = out w front l in subst (λ c. Reads n d c front x (with_read f (P (front ++ x)))) h.1 (reads_with n d f h.0 [] front x (P (front ++ x)) (p.full h.0 front x h.2 o));
    some = (f p.some.0, p.some.1, into p.some.0 p.some.1 p.some.2);
  }

-- fewer parts, fewer brackets, fewer tokens behind
module _ {A : Type 0} (n d m e : ℕ) (F G : Tok → Bool) (L : A → List Tok → Type 0) (P : Reader A) (p : Good m e F L P) (parts : n ≤ m) (depth : d ≤ e) (goes : (t : Tok) → G t ≡ true → F t ≡ true) where
  fewer_fine : (ts : List Tok) (r : Read A) → Fine m L P ts r → Fine n L P ts r
  fewer_fine ts (Got v x) k = k
  fewer_fine ts (Bad x) k = k
  fewer_fine ts (Deep x) k = k
  fewer_fine ts Out k = omega (arith, k, parts)

  fewer_reads : (v : A) (front x : List Tok) (r : Read A) → Reads m e v front x r → Reads n d v front x r
  fewer_reads v front x (Got w y) h = h
  fewer_reads v front x (Bad y) h = h
  fewer_reads v front x (Deep y) h = omega (arith, h, depth)
  fewer_reads v front x Out h = omega (arith, h, parts)

  fewer_passes : (x : List Tok) → Passes G x → Passes F x
  fewer_passes [] h = tt
  fewer_passes (t ∷ x) h = goes t h

  pub fewer_good : Good n d G L P
  fewer_good = record {
    fine = λ ts. fewer_fine ts (P ts) (p.fine ts);
    full = λ v front x l o. fewer_reads v front x (P (front ++ x)) (p.full v front x l (fewer_passes x o));
    some = p.some;
  }

-- the same language, said otherwise
module _ {A : Type 0} (n d : ℕ) (F : Tok → Bool) (L M : A → List Tok → Type 0) (P : Reader A) (p : Good n d F L P) (into : (v : A) (ts : List Tok) → L v ts → M v ts) (out : (v : A) (ts : List Tok) → M v ts → L v ts) where
  same_fine : (ts : List Tok) (r : Read A) → Fine n L P ts r → Fine n M P ts r
  same_fine ts (Got v x) k = record { front = k.front; cut = k.cut; spells = into v k.front k.spells; again = k.again }
  same_fine ts (Bad x) k = record { front = k.front; cut = k.cut; begins = (k.begins.0, k.begins.1, into k.begins.0 _ k.begins.2); again = k.again }
  same_fine ts (Deep x) k = record {
    front = k.front;
    bracket = k.bracket;
    rest = k.rest;
    here = k.here;
    cut = k.cut;
    begins = (k.begins.0, k.begins.1, into k.begins.0 _ k.begins.2);
  }
  same_fine ts Out k = k

  pub same_good : Good n d F M P
  same_good = record {
    fine = λ ts. same_fine ts (P ts) (p.fine ts);
    full = λ v front x l o. p.full v front x (out v front l) o;
    some = (p.some.0, p.some.1, into p.some.0 p.some.1 p.some.2);
  }

-- parts in a row, of which there is one
abbrev pub Next : {A B : Type 0} → (Tok → Option B) → (B → A → List Tok → Type 0) → B → List A → List Tok → Type 0
Next g L b [] ts = ⊥
Next g L b (v ∷ vs) ts = Both (L b) (Many g L) (v, vs) ts

module _ {A B : Type 0} (g : Tok → Option B) (L : B → A → List Tok → Type 0) where
  many_into : (vs : List A) (ts : List Tok) → Branch g (Next g L) (Empty []) vs ts → Many g L vs ts
  many_into [] ts (inl h) = absurd h.5
  many_into [] ts (inr h) = h.1
  many_into (v ∷ vs) ts (inl h) = (h.0, h.1, h.2, h.3, h.4, h.5)
  many_into (v ∷ vs) ts (inr h) = let e : v ∷ vs ≡ [] = h.0 in absurd cc

  many_out : (vs : List A) (ts : List Tok) → Many g L vs ts → Branch g (Next g L) (Empty []) vs ts
  many_out [] ts h = inr (refl, h)
  many_out (v ∷ vs) ts h = inl (h.0, h.1, h.2, h.3, h.4, h.5)

  next_into : (b : B) (v : A × List A) (ts : List Tok) → Both (L b) (Many g L) v ts → Next g L b (v.0 ∷ v.1) ts
  next_into b v ts h = h

  next_out : (b : B) (w : List A) (ts : List Tok) → Next g L b w ts → (v : A × List A) × (v.0 ∷ v.1 ≡ w) × Both (L b) (Many g L) v ts
  next_out b [] ts h = absurd h
  next_out b (v ∷ vs) ts h = ((v, vs), refl, h)

empty_free : {B : Type 0} (g : Tok → Option B) (F : Tok → Bool) (rest : (t : Tok) → F t ≡ true → g t ≡ None) (x : List Tok) → Passes F x → Free g x
empty_free g F rest [] h = tt
empty_free g F rest (t ∷ x) h = rest t h

module _ {A B : Type 0} (g : Tok → Option B) (L : B → A → List Tok → Type 0) (m d e : ℕ) (in_d : e ≤ d) (depth : d ≤ suc e) (F G : Tok → Bool) (P : B → Reader A) (p : (b : B) → Picks g b → Good m e G (L b) (P b)) (goes : (t : Tok) → F t ≡ true → G t ≡ true) (again : (t : Tok) (b : B) → g t ≡ Some b → G t ≡ true) (rest : (t : Tok) → F t ≡ true → g t ≡ None) where
  zero_first : (t : Tok) (ts : List Tok) (o : Option B) → g t ≡ o → Fine zero (Many g L) (many g P zero) (t ∷ ts) (branch_on (peeked o ts) (λ b x. Out) (nothing [] (t ∷ ts)))
  zero_first t ts (Some b) h = omega arith
  zero_first t ts None h = record { front = []; cut = refl; spells = refl; again = λ y l. branch_free g (λ b x. Out) (nothing []) y (free_like g [] (t ∷ ts) y h l) }

  zero_fine : (ts : List Tok) → Fine zero (Many g L) (many g P zero) ts (many g P zero ts)
  zero_fine [] = record { front = []; cut = refl; spells = refl; again = λ y l. branch_free g (λ b x. Out) (nothing []) y (free_like g [] [] y tt l) }
  zero_fine (t ∷ ts) = zero_first t ts (g t) refl

  zero_full : (vs : List A) (front x : List Tok) → Many g L vs front → Passes F x → Reads zero d vs front x (many g P zero (front ++ x))
  zero_full [] front x l o = rw (l, branch_free {A = List A} g (λ b x. Out) (nothing []) x (empty_free g F rest x o)) (refl, refl)
  zero_full (v ∷ vs) front x l o = rw (l.3, l.4) (omega arith)

  many_passes : (vs : List A) (front x : List Tok) → Many g L vs front → Passes F x → Passes G (front ++ x)
  many_passes [] front [] l o = rw l tt
  many_passes [] front (t ∷ x) l o = rw l (goes t o)
  many_passes (v ∷ vs) front x l o = rw l.3 (again l.0 l.2 l.4)

  pub many_good : (n : ℕ) → n ≤ m → Good n d F (Many g L) (many g P n)
  many_good zero le = record {
    fine = zero_fine;
    full = zero_full;
    some = ([], [], refl);
  }
  many_good (suc n) le =
      same_good (suc n) d F (Branch g (Next g L) (Empty [])) (Many g L) (many g P (suc n))
      (branch_good (suc n) d F g (Next g L) (Empty []) (nothing []) (nothing_good (suc n) d F []) (λ v front x h o. rw h.1 (empty_free g F rest x o)) n e F (λ b ts. with_read (λ v. v.0 ∷ v.1) (both (P b) (many g P n) ts))
      (λ b k. via_good n e F (Both (L b) (Many g L)) (Next g L b) (both (P b) (many g P n)) (λ v. v.0 ∷ v.1)
      (both_good n e G F (L b) (Many g L) (P b) (many g P n) (fewer_good n e m e G G (L b) (P b) (p b k) (omega (arith, le)) (omega arith) (λ t h. h)) (fewer_good n e n d F F (Many g L) (many g P n) (many_good n (omega (arith, le))) (omega arith) in_d (λ t h. h)) many_passes)
      (next_into g L b) (next_out g L b))
      (omega arith) depth (λ t h. h))
      (many_into g L) (many_out g L)

-- a bracket that is one too many, where it must stand
module _ {A B : Type 0} (n : ℕ) (F : Tok → Bool) (g : Tok → Option B) (L : A → List Tok → Type 0) (t : Tok) (b : B) (ok : g t ≡ Some b) (some : Begins L []) where
  sunk_first : (u : Tok) (ts : List Tok) (o : Option B) → g u ≡ o → Fine {A = B × A} n (Both (One g) L) (sunk g) (u ∷ ts) (branch_on (peeked o ts) (λ b x. Deep (u ∷ ts)) (Bad (u ∷ ts)))
  sunk_first u ts (Some c) h = record {
    front = [];
    bracket = u;
    rest = ts;
    here = refl;
    cut = refl;
    begins = ((c, some.0), some.1, (u ∷ [], some.1, refl, (u, refl, h), some.2));
  }
  sunk_first u ts None h = record {
    front = [];
    cut = refl;
    begins = ((b, some.0), t ∷ some.1, (t ∷ [], some.1, refl, (t, refl, ok), some.2));
    again = again u ts h;
  }
    where
      again : (u : Tok) (ts : List Tok) → g u ≡ None → (y : List Tok) → Like (u ∷ ts) y → sunk {A = B × A} g y ≡ Bad y
      again u ts h [] l = refl
      again u ts h (w ∷ y) l = rw (sym l, h) refl

  sunk_all : (ts : List Tok) → Fine {A = B × A} n (Both (One g) L) (sunk g) ts (sunk g ts)
  sunk_all [] = record {
    front = [];
    cut = refl;
    begins = ((b, some.0), t ∷ some.1, (t ∷ [], some.1, refl, (t, refl, ok), some.2));
    again = λ y l. again y l;
  }
    where
      again : (y : List Tok) → Like [] y → sunk {A = B × A} g y ≡ Bad y
      again [] l = refl
      again (w ∷ y) l = absurd l
  sunk_all (u ∷ ts) = sunk_first u ts (g u) refl

  sunk_full : (v : B × A) (front x : List Tok) → Both (One g) L v front → Passes F x → Reads {A = B × A} n zero v front x (sunk g (front ++ x))
  sunk_full v front x l o = rw (l.2, l.3.1, l.3.2) (omega arith)

  pub sunk_good : Good {A = B × A} n zero F (Both (One g) L) (sunk g)
  sunk_good = record {
    fine = sunk_all;
    full = sunk_full;
    some = ((b, some.0), t ∷ some.1, (t ∷ [], some.1, refl, (t, refl, ok), some.2));
  }

-- a token that must stand, and the rest
module _ {A B : Type 0} (n d m e : ℕ) (F : Tok → Bool) (g : Tok → Option B) (L : A → List Tok → Type 0) (P : Reader A) (p : Good m e F L P) (parts : n ≤ suc m) (depth : d ≤ suc e) (t : Tok) (b : B) (ok : g t ≡ Some b) where
  must_took : (u : Tok) (ts : List Tok) (c : B) → g u ≡ Some c → (r : Read A) → Fine m L P ts r → Fine {A = B × A} n (Both (One g) L) (must g P) (u ∷ ts) (with_read (λ a. (c, a)) r)
  must_took u ts c h (Got v x) k = record {
    front = u ∷ k.front;
    cut = ap (λ l. u ∷ l) k.cut;
    spells = (u ∷ [], k.front, refl, (u, refl, h), k.spells);
    again = λ y l. rw (h, k.again y l) refl;
  }
  must_took u ts c h (Bad x) k = record {
    front = u ∷ k.front;
    cut = ap (λ l. u ∷ l) k.cut;
    begins = ((c, k.begins.0), k.begins.1, (u ∷ [], k.front ++ k.begins.1, refl, (u, refl, h), k.begins.2));
    again = λ y l. rw (h, k.again y l) refl;
  }
  must_took u ts c h (Deep x) k = record {
    front = u ∷ k.front;
    bracket = k.bracket;
    rest = k.rest;
    here = k.here;
    cut = ap (λ l. u ∷ l) k.cut;
    begins = ((c, k.begins.0), k.begins.1, (u ∷ [], (k.front ++ k.bracket ∷ []) ++ k.begins.1, refl, (u, refl, h), k.begins.2));
  }
  must_took u ts c h Out k = omega (arith, k, parts)

  must_first : (u : Tok) (ts : List Tok) (o : Option B) → g u ≡ o → Fine {A = B × A} n (Both (One g) L) (must g P) (u ∷ ts) (branch_on (peeked o ts) (λ b x. with_read (λ a. (b, a)) (P x)) (Bad (u ∷ ts)))
  must_first u ts (Some c) h = must_took u ts c h (P ts) (p.fine ts)
  must_first u ts None h = record {
    front = [];
    cut = refl;
    begins = ((b, p.some.0), t ∷ p.some.1, (t ∷ [], p.some.1, refl, (t, refl, ok), p.some.2));
    again = again u ts h;
  }
    where
      again : (u : Tok) (ts : List Tok) → g u ≡ None → (y : List Tok) → Like (u ∷ ts) y → must g P y ≡ Bad y
      again u ts h [] l = refl
      again u ts h (w ∷ y) l = rw (sym l, h) refl

  must_all : (ts : List Tok) → Fine {A = B × A} n (Both (One g) L) (must g P) ts (must g P ts)
  must_all [] = record {
    front = [];
    cut = refl;
    begins = ((b, p.some.0), t ∷ p.some.1, (t ∷ [], p.some.1, refl, (t, refl, ok), p.some.2));
    again = λ y l. again y l;
  }
    where
      again : (y : List Tok) → Like [] y → must g P y ≡ Bad y
      again [] l = refl
      again (w ∷ y) l = absurd l
  must_all (u ∷ ts) = must_first u ts (g u) refl

  must_reads : (u : Tok) (c : B) (v : A) (more x : List Tok) (r : Read A) → Reads m e v more x r → Reads {A = B × A} n d (c, v) (u ∷ more) x (with_read (λ a. (c, a)) r)
  must_reads u c v more x (Got w y) h = (ap (λ a. (c, a)) h.0, h.1)
  must_reads u c v more x (Bad y) h = h
  must_reads u c v more x (Deep y) h = omega (arith, h, depth)
  must_reads u c v more x Out h = omega (arith, h, parts)

  must_full : (v : B × A) (front x : List Tok) → Both (One g) L v front → Passes F x → Reads {A = B × A} n d v front x (must g P (front ++ x))
  must_full v front x l o = rw (l.2, l.3.1, l.3.2) (must_reads l.3.0 v.0 v.1 l.1 x (P (l.1 ++ x)) (p.full v.1 l.1 x l.4 o))

  pub must_good : Good {A = B × A} n d F (Both (One g) L) (must g P)
  must_good = record {
    fine = must_all;
    full = must_full;
    some = ((b, p.some.0), t ∷ p.some.1, (t ∷ [], p.some.1, refl, (t, refl, ok), p.some.2));
  }
