-- Choices and rows of exact readers are exact.
use Rattle.std.proofs.Common.{◌≡◌, ℕ, zero, suc, ◌<◌, List, [], ◌∷◌, ◌++◌, length, Bool, Option, Some, None, refl, sym, ap, ◌∙◌, subst, arith, ◌⊎◌, inl, inr, append_assoc, length-append}
use Rattle.bg_text.specs.Tokens.{Tok}
use Rattle.bg_reader.specs.Reading.{Read, Got, Bad, Deep, Out, Reader, with_read, and_read, both, peek, peeked, nothing}
use Rattle.bg_reader.specs.Exact.{Like, Passes, Begins, Took, Missed, Fine, Reads, Good, Both, Free, NestBy, Nests}
use Rattle.bg_reader.proofs.Good.{both_good, fewer_good}
use Rattle.bg_reader.proofs.Exact.{no_spelling_goes_on}
use Rattle.bg_reader.proofs.Nests.{nest_with, nest_both, nest_nothing}
use Rattle.bg_grammar.specs.Rules.{choose_on, choose, rows}

free_like : {B : Type 0} (g : Tok → Option B) (front x y : List Tok) → Free g (front ++ x) → Like x y → Free g (front ++ y)
free_like g [] x [] h l = tt
free_like g [] [] (u ∷ y) h l = absurd l
free_like g [] (t ∷ x) (u ∷ y) h l = rw (sym l) h
free_like g (t ∷ front) x y h l = h

choose_free : {A B : Type 0} (g : Tok → Option B) (P Q : Reader A) (ts : List Tok) → Free g ts → choose g P Q ts ≡ Q ts
choose_free g P Q [] h = refl
choose_free g P Q (t ∷ ts) h = rw h refl

-- the front begins with a token that g takes
abbrev pub Headed : {B : Type 0} → (Tok → Option B) → List Tok → Type 0
Headed {B} g front = (t : Tok) × (more : List Tok) × (b : B) × (front ≡ t ∷ more) × (g t ≡ Some b)

choose_takes : {A B : Type 0} (g : Tok → Option B) (P Q : Reader A) (front y : List Tok) → Headed g front → choose g P Q (front ++ y) ≡ P (front ++ y)
choose_takes g P Q front y h = rw (h.3, h.4) refl

module _ {A B : Type 0} (n d : ℕ) (F : Tok → Bool) (g : Tok → Option B) (L M : A → List Tok → Type 0) (P Q : Reader A) (p : Good n d F L P) (q : Good n d F M Q) (starts : (v : A) (front : List Tok) → L v front → Headed g front) (ready : (t : Tok) (b : B) → g t ≡ Some b → Begins L (t ∷ [])) (free : (v : A) (front x : List Tok) → M v front → Passes F x → Free g (front ++ x)) where
  abbrev pub Or : A → List Tok → Type 0
  Or v ts = L v ts ⊎ M v ts

  free_fine : (ts : List Tok) → Free g ts → (r : Read A) → Fine n M Q ts r → Fine n Or (choose g P Q) ts r
  free_fine ts h (Got v x) k = record {
    front = k.front;
    cut = k.cut;
    spells = inr k.spells;
    again = λ y l. choose_free g P Q (k.front ++ y) (free_like g k.front x y (subst (Free g) k.cut h) l) ∙ k.again y l;
  }
  free_fine ts h (Bad x) k = record {
    front = k.front;
    cut = k.cut;
    begins = (k.begins.0, k.begins.1, inr k.begins.2);
    again = λ y l. choose_free g P Q (k.front ++ y) (free_like g k.front x y (subst (Free g) k.cut h) l) ∙ k.again y l;
  }
  free_fine ts h (Deep x) k = record {
    front = k.front;
    bracket = k.bracket;
    rest = k.rest;
    here = k.here;
    cut = k.cut;
    begins = (k.begins.0, k.begins.1, inr k.begins.2);
  }
  free_fine ts h Out k = k

  -- what P refuses isn't its first token
  headed : (t : Tok) (ts x front : List Tok) (b : B) → g t ≡ Some b → (k : Missed L P (t ∷ ts) x) → k.front ≡ front → Headed g front
  headed t ts x [] b h k e =
      let m = ready t b h in
      let q : x ≡ t ∷ ts = sym (k.cut ∙ ap (λ f. f ++ x) e) in
      absurd (no_spelling_goes_on n d F L P p (t ∷ ts) x k t ts q m.0 m.1 (subst (λ f. L m.0 (f ++ t ∷ m.1)) (sym e) m.2))
  headed t ts x (u ∷ front) b h k e =
      let c : t ∷ ts ≡ u ∷ front ++ x = k.cut ∙ ap (λ f. f ++ x) e in
      let same : t ≡ u = cc in
      (u, front, b, refl, subst (λ w. g w ≡ Some b) same h)

  took_fine : (t : Tok) (ts : List Tok) (b : B) → g t ≡ Some b → (r : Read A) → Fine n L P (t ∷ ts) r → Fine n Or (choose g P Q) (t ∷ ts) r
  took_fine t ts b h (Got v x) k = record {
    front = k.front;
    cut = k.cut;
    spells = inl k.spells;
    again = λ y l. choose_takes g P Q k.front y (starts v k.front k.spells) ∙ k.again y l;
  }
  took_fine t ts b h (Bad x) k = record {
    front = k.front;
    cut = k.cut;
    begins = (k.begins.0, k.begins.1, inl k.begins.2);
    again = λ y l. choose_takes g P Q k.front y (headed t ts x k.front b h k refl) ∙ k.again y l;
  }
  took_fine t ts b h (Deep x) k = record {
    front = k.front;
    bracket = k.bracket;
    rest = k.rest;
    here = k.here;
    cut = k.cut;
    begins = (k.begins.0, k.begins.1, inl k.begins.2);
  }
  took_fine t ts b h Out k = k

  first_fine : (t : Tok) (ts : List Tok) (o : Option B) → g t ≡ o → Fine n Or (choose g P Q) (t ∷ ts) (choose_on (peeked o ts) (P (t ∷ ts)) (Q (t ∷ ts)))
  first_fine t ts (Some b) h = took_fine t ts b h (P (t ∷ ts)) (p.fine (t ∷ ts))
  first_fine t ts None h = free_fine (t ∷ ts) h (Q (t ∷ ts)) (q.fine (t ∷ ts))

  choose_fine : (ts : List Tok) → Fine n Or (choose g P Q) ts (choose g P Q ts)
  choose_fine [] = free_fine [] tt (Q []) (q.fine [])
  choose_fine (t ∷ ts) = first_fine t ts (g t) refl

  choose_full : (v : A) (front x : List Tok) → Or v front → Passes F x → Reads n d v front x (choose g P Q (front ++ x))
  choose_full v front x (inl l) o = subst (Reads n d v front x) (sym (choose_takes g P Q front x (starts v front l))) (p.full v front x l o)
  choose_full v front x (inr l) o = subst (Reads n d v front x) (sym (choose_free g P Q (front ++ x) (free v front x l o))) (q.full v front x l o)

  pub choose_good : Good n d F Or (choose g P Q)
  choose_good = record {
    fine = choose_fine;
    full = choose_full;
    some = (q.some.0, q.some.1, inr q.some.2);
  }

-- with a part that isn't empty before it, a list may have a part more
module _ {A B : Type 0} (n d : ℕ) (F G : Tok → Bool) (L : A → List Tok → Type 0) (M : B → List Tok → Type 0) (P : Reader A) (Q : Reader B) (p : Good (suc n) d F L P) (q : Good n d G M Q) (meets : (b : B) (front x : List Tok) → M b front → Passes G x → Passes F (front ++ x)) (some : (v : A) (front : List Tok) → L v front → 0 < length front) where
  low : Good n d G (Both L M) (both P Q)
  low = both_good n d F G L M P Q (fewer_good n d (suc n) d F F L P p (omega arith) (omega arith) (λ t h. h)) q meets

  up_got : (ts : List Tok) (a : A) (x : List Tok) → Took L P ts a x → (s : Read B) → Fine n M Q x s → Fine n (Both L M) (both P Q) ts (with_read (λ b. (a, b)) s) → Fine (suc n) (Both L M) (both P Q) ts (with_read (λ b. (a, b)) s)
  up_got ts a x h (Got b y) k f = f
  up_got ts a x h (Bad y) k f = f
  up_got ts a x h (Deep y) k f = f
  up_got ts a x h Out k f = let e : length ts ≡ length (h.front ++ x) = ap length h.cut in let o : 0 < length h.front = some a h.front h.spells in omega (arith, e, length-append h.front x, k, o)

  up_fine : (ts : List Tok) (r : Read A) → Fine (suc n) L P ts r → Fine n (Both L M) (both P Q) ts (and_read r (λ a x. with_read (λ b. (a, b)) (Q x))) → Fine (suc n) (Both L M) (both P Q) ts (and_read r (λ a x. with_read (λ b. (a, b)) (Q x)))
  up_fine ts (Got a x) h f = up_got ts a x h (Q x) (q.fine x) f
  up_fine ts (Bad x) h f = f
  up_fine ts (Deep x) h f = f
  up_fine ts Out h f = h

  more_reads : (a : A) (b : B) (front more x : List Tok) → 0 < length front → (r : Read B) → Reads n d b more x r → Reads {A = A × B} (suc n) d (a, b) (front ++ more) x (with_read (λ c. (a, c)) r)
  more_reads a b front more x o (Got w y) h = (ap (λ c. (a, c)) h.0, h.1)
  more_reads a b front more x o (Bad y) h = h
  more_reads a b front more x o (Deep y) h = omega (arith, length-append front more, h)
  more_reads a b front more x o Out h = omega (arith, length-append front more, h, o)

  up_reads : (a : A) (b : B) (front more x : List Tok) → 0 < length front → (r : Read A) → Reads (suc n) d a front (more ++ x) r → Reads n d b more x (Q (more ++ x)) → Reads {A = A × B} (suc n) d (a, b) (front ++ more) x (and_read r (λ a x. with_read (λ b. (a, b)) (Q x)))
  up_reads a b front more x o (Got w y) h k = rw (h.0, h.1) (more_reads a b front more x o (Q (more ++ x)) k)
  up_reads a b front more x o (Bad y) h k = absurd h
  up_reads a b front more x o (Deep y) h k = omega (arith, length-append front more, h)
  up_reads a b front more x o Out h k = omega (arith, length-append front more, h)

  pub grown_good : Good (suc n) d G (Both L M) (both P Q)
  grown_good = record {
    fine = λ ts. up_fine ts (P ts) (p.fine ts) (low.fine ts);
    full = λ v front x l o. rw (l.2, append_assoc l.0 l.1 x) (up_reads v.0 v.1 l.0 l.1 x (some v.0 l.0 l.3) (P (l.0 ++ (l.1 ++ x))) (p.full v.0 l.0 (l.1 ++ x) l.3 (meets v.1 l.1 x l.4 o)) (q.full v.1 l.1 x l.4 o));
    some = low.some;
  }

-- brackets counted
nest_on : {A B : Type 0} (d o : ℕ) (ts : List Tok) (p q : Read A) (w : Option B) → NestBy d o ts p → NestBy d o ts q → NestBy d o ts (choose_on w p q)
nest_on d o ts p q (Some b) h k = h
nest_on d o ts p q None h k = k

pub nest_choose : {A B : Type 0} (d o : ℕ) (g : Tok → Option B) (P Q : Reader A) → Nests d o P → Nests d o Q → Nests d o (choose g P Q)
nest_choose d o g P Q p q ts = nest_on d o ts (P ts) (Q ts) (peek g ts) (p ts) (q ts)

pub nest_rows : {A B : Type 0} (d : ℕ) (g : Tok → Option B) (P : Reader A) (n : ℕ) → Nests d d P → Nests d d (rows g P n)
nest_rows {A} d g P zero p = nest_choose d d g (λ ts. Out) (nothing []) (λ ts. tt) (nest_nothing {A = List A} d [])
nest_rows {A} d g P (suc n) p = nest_choose d d g (λ ts. with_read (λ v. v.0 ∷ v.1) (both P (rows g P n) ts)) (nothing []) (λ ts. nest_with d d ts (λ v. v.0 ∷ v.1) (both P (rows g P n) ts) (nest_both d d d P (rows g P n) p (nest_rows d g P n p) ts)) (nest_nothing {A = List A} d [])
