-- Rules: readers of what their values spell, with all that is needed to put them together.
use Rattle.std.proofs.Common.{append_assoc, ◌≡◌, ◌≢◌, ℕ, zero, suc, ◌<◌, ◌≤◌, List, [], ◌∷◌, ◌++◌, length, map, Bool, true, false, Option, Some, None, refl, sym, ap, ◌∙◌, subst, arith, ◌⊎◌, inl, inr, length-append}
use Rattle.std.proofs.lemmas.List.{map-append}
use Rattle.std.specs.Prelude.{◌&&◌, ◌||◌, not}
use Rattle.bg_base.specs.declared.pos.Pos.{Pos}
use Rattle.bg_text.specs.declared.token.Kind.{Kind}
use Rattle.bg_text.specs.declared.token.Kind.TheVariants as kinds
use Rattle.bg_text.specs.Tokens.{Tok}
use Rattle.bg_text.specs.Marks.{Mark, sign, sign_at, Is, Fits, Words, unplaced, each, commas, after_commas, if_there}
use Rattle.bg_text.specs.Types.{All, IfThere}
use Rattle.bg_text.specs.Brackets.{Opens, turn, left_by, left}
use Rattle.bg_reader.specs.Kinds.{is_kind}
use Rattle.bg_reader.specs.Reading.{Got, Out, Reader, with_read, both, peeked, one, must, sunk, nothing, if_true, a_sign, a_text}
use Rattle.bg_reader.specs.Exact.{Passes, Begins, Free, Good, One, Both, Empty, Fine, Reads, Like, Nests, Step}
use Rattle.bg_reader.proofs.Samples.{is_single, kind_is, is_itself, sample}
use Rattle.bg_reader.proofs.Fits.{fits_append, fits_split, fits_none, fits_first, sign_some, sign_back, text_some, text_back, sign_good, text_good, step_sign, step_text, opens_sign, sample_sign}
use Rattle.bg_reader.proofs.Good.{both_good, nothing_good, via_good, same_good, fewer_good, sunk_good, must_good}
use Rattle.bg_reader.proofs.Nests.{nest_with, nest_both, nest_nothing, nest_one, nest_must, nest_sunk}
use Rattle.bg_grammar.specs.Sets.{is_in, within, apart}
use Rattle.bg_grammar.specs.Rules.{a_kind, choose_on, choose, rows, after, before, commas_at, opened, enclosed, inside, shut, list_closed, text_at, chain_at}
use Rattle.bg_grammar.proofs.Sets.{and_true, within_is, apart_is, apart_none, apart_one, within_self, within_left, within_right, in_left, in_right, in_either}
use Rattle.bg_grammar.proofs.Choose.{Headed, choose_good, grown_good, nest_choose, nest_rows}

abbrev pub nowhere : Pos
nowhere = record { line = 0; column = 0 }

abbrev pub Spelled : {A : Type 0} → (A → Type 0) → (A → List Mark) → A → List Tok → Type 0
Spelled I m v ts = I v × Fits ts (m v)

abbrev pub of : List Kind → Tok → Bool
of F t = is_in F t.kind

-- the marks begin with a kind of S, or there are none
abbrev pub Starts : List Kind → Bool → List Mark → Type 0
Starts S e [] = e ≡ true
Starts S e (k ∷ ms) = is_in S k.kind ≡ true

-- what has the words of at most d tokens has a twin with their positions
abbrev pub Twin : {A : Type 0} → ℕ → (A → Type 0) → (A → List Mark) → Type 0
Twin {A} d I m = (v : A) (ts : List Tok) → length ts ≤ d → I v → Words ts (m v) → (w : A) × I w × Fits ts (m w)

-- the parts are no longer than the whole
pub left_fits : (d : ℕ) (ts a b : List Tok) → ts ≡ a ++ b → length ts ≤ d → length a ≤ d
left_fits d ts a b e le = let q : length ts ≡ length (a ++ b) = ap length e in omega (arith, q, length-append a b, le)

pub right_fits : (d : ℕ) (ts a b : List Tok) → ts ≡ a ++ b → length ts ≤ d → length b ≤ d
right_fits d ts a b e le = let q : length ts ≡ length (a ++ b) = ap length e in omega (arith, q, length-append a b, le)

-- The values I are spelled by m; a spelling ends before a kind of F, begins with one of S, or is empty if e says so;
-- with each kind of H one begins; d brackets may be opened before and o behind.
pub record Rule {A : Type 0} (n d o : ℕ) (F S H : List Kind) (e : Bool) (I : A → Type 0) (m : A → List Mark) (P : Reader A) : Type 0 where
  pub good : Good n d (of F) (Spelled I m) P
  pub nests : Nests d o P
  pub first : (v : A) → I v → Starts S e (m v)
  pub heads : (t : Tok) → is_in H t.kind ≡ true → Begins (Spelled I m) (t ∷ [])
  pub twin : Twin d I m

-- words
pub words_split : (ts : List Tok) (ms ns : List Mark) → Words ts (ms ++ ns) → (a b : List Tok) × (ts ≡ a ++ b) × Words a ms × Words b ns
words_split ts ms ns h = fits_split ts (map unplaced ms) (map unplaced ns) (subst (Fits ts) (map-append unplaced ms ns) h)

pub words_first : (ts : List Tok) (m : Mark) (ms : List Mark) → Words ts (m ∷ ms) → (t : Tok) × (more : List Tok) × (ts ≡ t ∷ more) × Is t (unplaced m) × Words more ms
words_first ts m ms h = fits_first ts (unplaced m) (map unplaced ms) h

pub fits_at : (ts us : List Tok) (ms : List Mark) → ts ≡ us → Fits us ms → Fits ts ms
fits_at ts us ms e h = subst (λ l. Fits l ms) (sym e) h

pub passes_all : (x : List Tok) → Passes (λ _. true) x
passes_all [] = tt
passes_all (t ∷ x) = refl

-- what may come behind is what ends it
abbrev pub meet : List Kind → Bool → List Kind → List Kind → Bool
meet S e F G = within S F && (not e || within G F)

or_else : (e b : Bool) → (not e || b) ≡ true → e ≡ true → b ≡ true
or_else true b h k = h
or_else false b h k = absurd cc

pub starts_pass : (S F G : List Kind) (e : Bool) → meet S e F G ≡ true → (ms : List Mark) (front x : List Tok) → Starts S e ms → Fits front ms → Passes (of G) x → Passes (of F) (front ++ x)
starts_pass S F G e ok [] [] [] s f o = tt
starts_pass S F G e ok [] [] (t ∷ x) s f o = let w = and_true (within S F) (not e || within G F) ok in within_is G F t.kind (or_else e (within G F) w.1 s) o
starts_pass S F G e ok [] (t ∷ front) x s f o = absurd f
starts_pass S F G e ok (k ∷ ms) [] x s f o = absurd f
starts_pass S F G e ok (k ∷ ms) (t ∷ front) x s f o = let w = and_true (within S F) (not e || within G F) ok in rw f.0.0 (within_is S F k.kind w.0 s)

abbrev pub firsts : Bool → List Kind → List Kind → List Kind
firsts true S T = S ++ T
firsts false S T = S

starts_append : (S T : List Kind) (e f : Bool) (ms ns : List Mark) → Starts S e ms → Starts T f ns → Starts (firsts e S T) (e && f) (ms ++ ns)
starts_append S T true f [] [] h k = k
starts_append S T false f [] ns h k = absurd cc
starts_append S T true f [] (n ∷ ns) h k = in_right S T n.kind k
starts_append S T true f (m ∷ ms) ns h k = in_left S T m.kind h
starts_append S T false f (m ∷ ms) ns h k = h

-- a sign, with its position
module _ (n d o : ℕ) (F : List Kind) (k : Kind) (single : is_single k ≡ true) where
  pub sign_rule : left_by (turn k) d (left []) ≡ Some o → Rule n d o F (k ∷ []) (k ∷ []) false (λ (p : Pos). Unit {0}) (λ p. sign_at p k ∷ []) (one (a_sign k))
  sign_rule step = record {
    good = same_good n d (of F) (One (a_sign k)) (Spelled (λ p. Unit {0}) (λ p. sign_at p k ∷ [])) (one (a_sign k)) (sign_good k single n d (of F) nowhere) into out;
    nests = nest_one (a_sign k) d o (step_sign k single d o step);
    first = λ p i. rw (is_itself k) refl;
    heads = λ t h. (t.pos, [], (tt, ((kind_of t h, tt, refl), tt)));
    twin = twin;
  }
    where
      kind_of : (t : Tok) → is_in (k ∷ []) t.kind ≡ true → t.kind ≡ k
      kind_of t h = kind_is k t.kind single (by (is_kind k t.kind) h)
        where
          by : (b : Bool) → (b || false) ≡ true → b ≡ true
          by true h = refl
          by false h = absurd cc

      into : (p : Pos) (ts : List Tok) → One (a_sign k) p ts → Spelled (λ p. Unit {0}) (λ p. sign_at p k ∷ []) p ts
      into p ts l = let w = sign_some k single l.0 p l.2 in let f : Fits (l.0 ∷ []) (sign_at p k ∷ []) = ((w.0, tt, w.1), tt) in (tt, rw l.1 f)

      out : (p : Pos) (ts : List Tok) → Spelled (λ p. Unit {0}) (λ p. sign_at p k ∷ []) p ts → One (a_sign k) p ts
      out p ts h = let f = fits_first ts (sign_at p k) [] h.1 in (f.0, f.2 ∙ ap (λ l. f.0 ∷ l) (fits_none f.1 f.4), sign_back k single f.0 f.3.0 ∙ ap (λ (q : Pos). Some q) f.3.2)

      twin : (p : Pos) (ts : List Tok) → length ts ≤ d → Unit {0} → Words ts (sign_at p k ∷ []) → (q : Pos) × Unit {0} × Fits ts (sign_at q k ∷ [])
      twin p ts le i h = let f = words_first ts (sign_at p k) [] h in let g : Fits (f.0 ∷ []) (sign_at f.0.pos k ∷ []) = ((f.3.0, tt, refl), tt) in (f.0.pos, tt, fits_at ts _ _ (f.2 ∙ ap (λ l. f.0 ∷ l) (fits_none f.1 f.4)) g)

  abbrev mark : Pos × List ℕ → List Mark
  mark b = record { kind = k; text = Some b.1; pos = Some b.0 } ∷ []

  -- a token with its text and its position
  pub text_rule : left_by (turn k) d (left []) ≡ Some o → Rule n d o F (k ∷ []) (k ∷ []) false (λ (b : Pos × List ℕ). Unit {0}) (λ b. record { kind = k; text = Some b.1; pos = Some b.0 } ∷ []) (one (a_text k))
  text_rule step = record {
    good = same_good n d (of F) (One (a_text k)) (Spelled (λ b. Unit {0}) mark) (one (a_text k)) (text_good k single n d (of F) nowhere) into out;
    nests = nest_one (a_text k) d o (step_text k single d o step);
    first = λ p i. rw (is_itself k) refl;
    heads = λ t h. ((t.pos, t.text), [], (tt, ((kind_of t h, refl, refl), tt)));
    twin = twin;
  }
    where
      kind_of : (t : Tok) → is_in (k ∷ []) t.kind ≡ true → t.kind ≡ k
      kind_of t h = kind_is k t.kind single (by (is_kind k t.kind) h)
        where
          by : (b : Bool) → (b || false) ≡ true → b ≡ true
          by true h = refl
          by false h = absurd cc

      into : (b : Pos × List ℕ) (ts : List Tok) → One (a_text k) b ts → Spelled (λ b. Unit {0}) mark b ts
      into b ts l = let w = text_some k single l.0 b l.2 in let f : Fits (l.0 ∷ []) (mark b) = ((w.0, w.1, w.2), tt) in (tt, rw l.1 f)

      out : (b : Pos × List ℕ) (ts : List Tok) → Spelled (λ b. Unit {0}) mark b ts → One (a_text k) b ts
      out b ts h = let f = fits_first ts (record { kind = k; text = Some b.1; pos = Some b.0 }) [] h.1 in (f.0, f.2 ∙ ap (λ l. f.0 ∷ l) (fits_none f.1 f.4), text_back k single f.0 b.0 b.1 f.3.0 f.3.1 f.3.2)

      twin : (b : Pos × List ℕ) (ts : List Tok) → length ts ≤ d → Unit {0} → Words ts (mark b) → (q : Pos × List ℕ) × Unit {0} × Fits ts (mark q)
      twin b ts le i h = let f = words_first ts (record { kind = k; text = Some b.1; pos = Some b.0 }) [] h in let g : Fits (f.0 ∷ []) (mark (f.0.pos, b.1)) = ((f.3.0, f.3.1, refl), tt) in ((f.0.pos, b.1), tt, fits_at ts _ _ (f.2 ∙ ap (λ l. f.0 ∷ l) (fits_none f.1 f.4)) g)

-- nothing
pub nothing_rule : {A : Type 0} (n d : ℕ) (F : List Kind) (a : A) (m : A → List Mark) → m a ≡ [] → Rule n d d F [] [] true (λ v. v ≡ a) m (nothing a)
nothing_rule {A} n d F a m none = record {
  good = same_good n d (of F) (Empty a) (Spelled (λ v. v ≡ a) m) (nothing a) (nothing_good n d (of F) a) into out;
  nests = nest_nothing d a;
  first = λ v i. subst (λ w. Starts [] true (m w)) (sym i) (subst (Starts [] true) (sym none) refl);
  heads = λ t h. absurd cc;
  twin = λ v ts le i h. (a, refl, twin v ts i h);
}
  where
    into : (v : A) (ts : List Tok) → Empty a v ts → Spelled (λ v. v ≡ a) m v ts
    into v ts h = (h.0, rw (h.1, h.0, none) tt)

    out : (v : A) (ts : List Tok) → Spelled (λ v. v ≡ a) m v ts → Empty a v ts
    out v ts h = (h.0, fits_none ts (subst (Fits ts) (ap m h.0 ∙ none) h.1))

    twin : (v : A) (ts : List Tok) → v ≡ a → Words ts (m v) → Fits ts (m a)
    twin v ts i h = let k : Words ts [] = subst (Words ts) (ap m i ∙ none) h in rw (fits_none ts k, none) tt

-- a part and then another
module _ {A B : Type 0} {n d o : ℕ} {F G S T H K : List Kind} {e f : Bool} {I : A → Type 0} {J : B → Type 0} {m : A → List Mark} {k : B → List Mark} {P : Reader A} {Q : Reader B} (p : Rule n d d F S H e I m P) (q : Rule n d o G T K f J k Q) (ok : meet T f F G ≡ true) where
  abbrev Two : A × B → Type 0
  Two v = I v.0 × J v.1

  abbrev two : A × B → List Mark
  two v = m v.0 ++ k v.1

  meets : (b : B) (front x : List Tok) → Spelled J k b front → Passes (of G) x → Passes (of F) (front ++ x)
  meets b front x l o = starts_pass T F G f ok (k b) front x (q.first b l.0) l.1 o

  two_into : (v : A × B) (ts : List Tok) → Both (Spelled I m) (Spelled J k) v ts → Spelled Two two v ts
  two_into v ts l = ((l.3.0, l.4.0), rw l.2 (fits_append l.0 l.1 (m v.0) (k v.1) l.3.1 l.4.1))

  two_out : (v : A × B) (ts : List Tok) → Spelled Two two v ts → Both (Spelled I m) (Spelled J k) v ts
  two_out v ts h = let c = fits_split ts (m v.0) (k v.1) h.1 in (c.0, c.1, c.2, (h.0.0, c.3), (h.0.1, c.4))

  two_heads : (t : Tok) → is_in H t.kind ≡ true → Begins (Spelled Two two) (t ∷ [])
  two_heads t h = let a = p.heads t h in let b = q.good.some in ((a.0, b.0), a.1 ++ b.1, ((a.2.0, b.2.0), fits_append (t ∷ a.1) b.1 (m a.0) (k b.0) a.2.1 b.2.1))

  two_twin : Twin d Two two
  two_twin v ts le i h =
      let c = words_split ts (m v.0) (k v.1) h in
      let a = p.twin v.0 c.0 (left_fits d ts c.0 c.1 c.2 le) i.0 c.3 in
      let b = q.twin v.1 c.1 (right_fits d ts c.0 c.1 c.2 le) i.1 c.4 in
      ((a.0, b.0), (a.1, b.1), subst (λ z. Fits z (m a.0 ++ k b.0)) (sym c.2) (fits_append c.0 c.1 (m a.0) (k b.0) a.2 b.2))

  pub both_rule : Rule n d o G (firsts e S T) H (e && f) Two two (both P Q)
  both_rule = record {
    good = same_good n d (of G) (Both (Spelled I m) (Spelled J k)) (Spelled Two two) (both P Q) (both_good n d (of F) (of G) (Spelled I m) (Spelled J k) P Q p.good q.good meets) two_into two_out;
    nests = nest_both d d o P Q p.nests q.nests;
    first = λ v i. starts_append S T e f (m v.0) (k v.1) (p.first v.0 i.0) (q.first v.1 i.1);
    heads = two_heads;
    twin = two_twin;
  }

-- the same, where the first part isn't empty and the second a list with a part less
starts_some : (S : List Kind) (ms : List Mark) (front : List Tok) → Starts S false ms → Fits front ms → 0 < length front
starts_some S [] front s f = absurd cc
starts_some S (k ∷ ms) [] s f = absurd f
starts_some S (k ∷ ms) (t ∷ front) s f = omega arith

module _ {A B : Type 0} {n d o : ℕ} {F G S T H K : List Kind} {f : Bool} {I : A → Type 0} {J : B → Type 0} {m : A → List Mark} {k : B → List Mark} {P : Reader A} {Q : Reader B} (p : Rule (suc n) d d F S H false I m P) (q : Rule n d o G T K f J k Q) (ok : meet T f F G ≡ true) where
  low : Rule n d d F S H false I m P
  low = record { good = fewer_good n d (suc n) d (of F) (of F) (Spelled I m) P p.good (omega arith) (omega arith) (λ t h. h); nests = p.nests; first = p.first; heads = p.heads; twin = p.twin }

  pub grown_rule : Rule (suc n) d o G S H false (λ (v : A × B). I v.0 × J v.1) (λ v. m v.0 ++ k v.1) (both P Q)
  grown_rule =
      let r = both_rule low q ok in
      record {
        good = same_good (suc n) d (of G) (Both (Spelled I m) (Spelled J k)) (Spelled (λ (v : A × B). I v.0 × J v.1) (λ v. m v.0 ++ k v.1)) (both P Q) (grown_good n d (of F) (of G) (Spelled I m) (Spelled J k) P Q p.good q.good (meets low q ok) (λ v front l. starts_some S (m v) front (p.first v l.0) l.1)) (two_into low q ok) (two_out low q ok);
        nests = r.nests;
        first = r.first;
        heads = r.heads;
        twin = r.twin;
      }

-- read as something else
abbrev pub Image : {A C : Type 0} → (A → C) → (A → Type 0) → C → Type 0
Image {A} c I w = (v : A) × (c v ≡ w) × I v

module _ {A C : Type 0} {n d o : ℕ} {F S H : List Kind} {e : Bool} {I : A → Type 0} {m : A → List Mark} {P : Reader A} (p : Rule n d o F S H e I m P) (c : A → C) (k : C → List Mark) (same : (v : A) → I v → k (c v) ≡ m v) where
  image_into : (v : A) (ts : List Tok) → Spelled I m v ts → Spelled (Image c I) k (c v) ts
  image_into v ts h = ((v, refl, h.0), subst (Fits ts) (sym (same v h.0)) h.1)

  image_out : (w : C) (ts : List Tok) → Spelled (Image c I) k w ts → (v : A) × (c v ≡ w) × Spelled I m v ts
  image_out w ts h = (h.0.0, h.0.1, (h.0.2, subst (Fits ts) (ap k (sym h.0.1) ∙ same h.0.0 h.0.2) h.1))

  image_twin : Twin d (Image c I) k
  image_twin w ts le i h = let a = p.twin i.0 ts le i.2 (subst (Words ts) (ap k (sym i.1) ∙ same i.0 i.2) h) in (c a.0, (a.0, refl, a.1), subst (Fits ts) (sym (same a.0 a.1)) a.2)

  pub image_rule : Rule n d o F S H e (Image c I) k (λ ts. with_read c (P ts))
  image_rule = record {
    good = via_good n d (of F) (Spelled I m) (Spelled (Image c I) k) P c p.good image_into image_out;
    nests = λ ts. nest_with d o ts c (P ts) (p.nests ts);
    first = λ w i. subst (Starts S e) (sym (ap k (sym i.1) ∙ same i.0 i.2)) (p.first i.0 i.2);
    heads = λ t h. (let a = p.heads t h in (c a.0, a.1, image_into a.0 (t ∷ a.1) a.2));
    twin = image_twin;
  }

-- the same values, said otherwise
pub iff_rule : {A : Type 0} {n d o : ℕ} {F S H : List Kind} {e : Bool} {I : A → Type 0} {m : A → List Mark} {P : Reader A} → Rule n d o F S H e I m P → (J : A → Type 0) → ((v : A) → I v → J v) → ((v : A) → J v → I v) → Rule n d o F S H e J m P
iff_rule {A} {n} {d} {o} {F} {S} {H} {e} {I} {m} {P} p J to back = record {
  good = same_good n d (of F) (Spelled I m) (Spelled J m) P p.good (λ v ts h. (to v h.0, h.1)) (λ v ts h. (back v h.0, h.1));
  nests = p.nests;
  first = λ v j. p.first v (back v j);
  heads = λ t h. (let a = p.heads t h in (a.0, a.1, (to a.0 a.2.0, a.2.1)));
  twin = λ v ts le j h. (let a = p.twin v ts le (back v j) h in (a.0, to a.0 a.1, a.2));
}

-- and both at once
pub via_rule : {A C : Type 0} {n d o : ℕ} {F S H : List Kind} {e : Bool} {I : A → Type 0} {m : A → List Mark} {P : Reader A} → Rule n d o F S H e I m P → (c : A → C) (J : C → Type 0) (k : C → List Mark) → ((v : A) → I v → k (c v) ≡ m v) → ((v : A) → I v → J (c v)) → ((w : C) → J w → (v : A) × (c v ≡ w) × I v) → Rule n d o F S H e J k (λ ts. with_read c (P ts))
via_rule p c J k same to back = iff_rule (image_rule p c k same) J (λ w i. subst J i.1 (to i.0 i.2)) back

-- which kinds a test takes
pub record Picker {B : Type 0} (g : Tok → Option B) (K : List Kind) : Type 0 where
  pub picks : (t : Tok) (b : B) → g t ≡ Some b → is_in K t.kind ≡ true
  pub takes : (t : Tok) → is_in K t.kind ≡ true → (b : B) × (g t ≡ Some b)
  pub skips : (t : Tok) → is_in K t.kind ≡ false → g t ≡ None

if_some : {A : Type 0} (b : Bool) (a c : A) → if_true b a ≡ Some c → b ≡ true
if_some true a c h = refl
if_some false a c h = absurd cc

pub kind_picker : (K : List Kind) → Picker (a_kind K) K
kind_picker K = record { picks = λ t b h. if_some (is_in K t.kind) t.pos b h; takes = λ t h. (t.pos, rw h refl); skips = λ t h. rw h refl }

or_none : (b : Bool) → (b || false) ≡ b
or_none true = refl
or_none false = refl

pub sign_picker : (k : Kind) → Picker (a_sign k) (k ∷ [])
sign_picker k = record {
  picks = λ t b h. or_none (is_kind k t.kind) ∙ if_some (is_kind k t.kind) t.pos b h;
  takes = λ t h. (t.pos, (let e : is_kind k t.kind ≡ true = sym (or_none (is_kind k t.kind)) ∙ h in rw e refl));
  skips = λ t h. (let e : is_kind k t.kind ≡ false = sym (or_none (is_kind k t.kind)) ∙ h in rw e refl);
}

pub text_picker : (k : Kind) → Picker (a_text k) (k ∷ [])
text_picker k = record {
  picks = λ t b h. or_none (is_kind k t.kind) ∙ if_some (is_kind k t.kind) (t.pos, t.text) b h;
  takes = λ t h. ((t.pos, t.text), (let e : is_kind k t.kind ≡ true = sym (or_none (is_kind k t.kind)) ∙ h in rw e refl));
  skips = λ t h. (let e : is_kind k t.kind ≡ false = sym (or_none (is_kind k t.kind)) ∙ h in rw e refl);
}

-- what the test takes, it takes of the first alone
abbrev pub parts_ways : List Kind → List Kind → List Kind → List Kind → Bool → List Kind → Bool
parts_ways K H S T f F = within K H && (within S K && (apart K T && (not f || apart K F)))

headed : {B : Type 0} (g : Tok → Option B) (K S : List Kind) → Picker g K → within S K ≡ true → (ms : List Mark) (front : List Tok) → Starts S false ms → Fits front ms → Headed g front
headed g K S pick ok [] front s f = absurd cc
headed g K S pick ok (m ∷ ms) [] s f = absurd f
headed g K S pick ok (m ∷ ms) (t ∷ front) s f = let b = pick.takes t (rw f.0.0 (within_is S K m.kind ok s)) in (t, front, b.0, refl, b.1)

freed : {B : Type 0} (g : Tok → Option B) (K T F : List Kind) (f : Bool) → Picker g K → apart K T ≡ true → (not f || apart K F) ≡ true → (ms : List Mark) (front x : List Tok) → Starts T f ms → Fits front ms → Passes (of F) x → Free g (front ++ x)
freed g K T F f pick ok end [] [] [] s h o = tt
freed g K T F f pick ok end [] [] (t ∷ x) s h o = pick.skips t (apart_is K F t.kind (or_else f (apart K F) end s) o)
freed g K T F f pick ok end [] (t ∷ front) x s h o = absurd h
freed g K T F f pick ok end (m ∷ ms) [] x s h o = absurd h
freed g K T F f pick ok end (m ∷ ms) (t ∷ front) x s h o = pick.skips t (apart_is K T t.kind ok (rw h.0.0 s))

module _ {A B : Type 0} {n d o : ℕ} {F S T H L : List Kind} {f : Bool} {I J : A → Type 0} {m : A → List Mark} {P Q : Reader A} (g : Tok → Option B) (K : List Kind) (pick : Picker g K) (p : Rule n d o F S H false I m P) (q : Rule n d o F T L f J m Q) (ok : parts_ways K H S T f F ≡ true) where
  abbrev OneOf : A → Type 0
  OneOf v = I v ⊎ J v

  of_k : within K H ≡ true
  of_k = (and_true (within K H) _ ok).0

  of_s : within S K ≡ true
  of_s = (and_true (within S K) _ (and_true (within K H) _ ok).1).0

  of_t : apart K T ≡ true
  of_t = (and_true (apart K T) _ (and_true (within S K) _ (and_true (within K H) _ ok).1).1).0

  of_f : (not f || apart K F) ≡ true
  of_f = (and_true (apart K T) _ (and_true (within S K) _ (and_true (within K H) _ ok).1).1).1

  or_into : (v : A) (ts : List Tok) → Spelled I m v ts ⊎ Spelled J m v ts → Spelled OneOf m v ts
  or_into v ts (inl h) = (inl h.0, h.1)
  or_into v ts (inr h) = (inr h.0, h.1)

  or_by : (v : A) (ts : List Tok) → OneOf v → Fits ts (m v) → Spelled I m v ts ⊎ Spelled J m v ts
  or_by v ts (inl i) h = inl (i, h)
  or_by v ts (inr i) h = inr (i, h)

  or_first : (v : A) → OneOf v → Starts (S ++ T) f (m v)
  or_first v i = by (m v) (alike i)
    where
      alike : OneOf v → Starts S false (m v) ⊎ Starts T f (m v)
      alike (inl i) = inl (p.first v i)
      alike (inr j) = inr (q.first v j)

      by : (ms : List Mark) → Starts S false ms ⊎ Starts T f ms → Starts (S ++ T) f ms
      by [] (inl h) = absurd cc
      by [] (inr h) = h
      by (k ∷ ms) (inl h) = in_left S T k.kind h
      by (k ∷ ms) (inr h) = in_right S T k.kind h

  or_heads : (t : Tok) → is_in (H ++ L) t.kind ≡ true → Begins (Spelled OneOf m) (t ∷ [])
  or_heads t h = in_either H L t.kind h (λ k. (let a = p.heads t k in (a.0, a.1, (inl a.2.0, a.2.1)))) (λ k. (let a = q.heads t k in (a.0, a.1, (inr a.2.0, a.2.1))))

  or_twin : Twin d OneOf m
  or_twin v ts le (inl i) h = let a = p.twin v ts le i h in (a.0, inl a.1, a.2)
  or_twin v ts le (inr i) h = let a = q.twin v ts le i h in (a.0, inr a.1, a.2)

  pub choose_rule : Rule n d o F (S ++ T) (H ++ L) f OneOf m (choose g P Q)
  choose_rule = record {
    good = same_good n d (of F) (λ v ts. Spelled I m v ts ⊎ Spelled J m v ts) (Spelled OneOf m) (choose g P Q) (choose_good n d (of F) g (Spelled I m) (Spelled J m) P Q p.good q.good (λ v front l. headed g K S pick of_s (m v) front (p.first v l.0) l.1) (λ t b h. p.heads t (within_is K H t.kind of_k (pick.picks t b h))) (λ v front x l o. freed g K T F f pick of_t of_f (m v) front x (q.first v l.0) l.1 o)) or_into (λ v ts h. or_by v ts h.0 h.1);
    nests = nest_choose d o g P Q p.nests q.nests;
    first = or_first;
    heads = or_heads;
    twin = or_twin;
  }

-- fewer parts, fewer tokens behind
pub less_rule : {A : Type 0} {n d o : ℕ} {F S H : List Kind} {e : Bool} {I : A → Type 0} {m : A → List Mark} {P : Reader A} → Rule n d o F S H e I m P → (k : ℕ) → k ≤ n → (G : List Kind) → within G F ≡ true → Rule k d o G S H e I m P
less_rule {A} {n} {d} {o} {F} {S} {H} {e} {I} {m} {P} p k le G ok = record {
  good = fewer_good k d n d (of F) (of G) (Spelled I m) P p.good le (omega arith) (λ t h. within_is G F t.kind ok h);
  nests = p.nests;
  first = p.first;
  heads = p.heads;
  twin = p.twin;
}

starts_more : (S : List Kind) (ms ns : List Mark) → Starts S false ms → Starts S false (ms ++ ns)
starts_more S [] ns h = absurd cc
starts_more S (k ∷ ms) ns h = h

starts_true : (S : List Kind) (ms : List Mark) → Starts S false ms → Starts S true ms
starts_true S [] h = absurd cc
starts_true S (k ∷ ms) h = h

-- parts in a row
abbrev pub row_ok : List Kind → List Kind → List Kind → List Kind → List Kind → Bool
row_ok K H S F G = within K H && (within S K && (apart K G && (within S F && within G F)))

module _ {A B : Type 0} {N d : ℕ} {F S H : List Kind} {I : A → Type 0} {m : A → List Mark} {P : Reader A} (g : Tok → Option B) (K : List Kind) (pick : Picker g K) (p : Rule N d d F S H false I m P) (G : List Kind) (ok : row_ok K H S F G ≡ true) where
  r_h : within K H ≡ true
  r_h = (and_true (within K H) _ ok).0

  r_1 : (within S K && (apart K G && (within S F && within G F))) ≡ true
  r_1 = (and_true (within K H) _ ok).1

  r_2 : (apart K G && (within S F && within G F)) ≡ true
  r_2 = (and_true (within S K) _ r_1).1

  r_3 : (within S F && within G F) ≡ true
  r_3 = (and_true (apart K G) _ r_2).1

  both_true : (a b : Bool) → a ≡ true → b ≡ true → (a && b) ≡ true
  both_true true b h k = k
  both_true false b h k = absurd cc

  r_meet : meet S true F G ≡ true
  r_meet = r_3

  r_ways : parts_ways K H S [] true G ≡ true
  r_ways = both_true (within K H) _ r_h (both_true (within S K) _ (and_true (within S K) _ r_1).0 (both_true (apart K []) _ (apart_none K) (and_true (apart K G) _ r_2).0))

  all_back : (vs : List A) → All I vs → (Image (λ (v : A × List A). v.0 ∷ v.1) (λ v. I v.0 × All I v.1) vs) ⊎ (vs ≡ [])
  all_back [] h = inr refl
  all_back (v ∷ vs) h = inl ((v, vs), refl, h)

  all_to : (vs : List A) → (Image (λ (v : A × List A). v.0 ∷ v.1) (λ v. I v.0 × All I v.1) vs) ⊎ (vs ≡ []) → All I vs
  all_to vs (inl h) = subst (All I) h.1 h.2
  all_to vs (inr h) = subst (All I) (sym h) tt

  zero_first : (t : Tok) (ts : List Tok) (o : Option B) → g t ≡ o → Fine zero (Spelled (All I) (each m)) (rows g P zero) (t ∷ ts) (choose_on (peeked o ts) Out (nothing [] (t ∷ ts)))
  zero_first t ts (Some b) h = omega arith
  zero_first t ts None h = record { front = []; cut = refl; spells = (tt, tt); again = again t ts h }
    where
      again : (t : Tok) (ts : List Tok) → g t ≡ None → (y : List Tok) → Like (t ∷ ts) y → rows g P zero y ≡ Got [] y
      again t ts h [] l = refl
      again t ts h (u ∷ y) l = rw (sym l, h) refl

  zero_fine : (ts : List Tok) → Fine zero (Spelled (All I) (each m)) (rows g P zero) ts (rows g P zero ts)
  zero_fine [] = record { front = []; cut = refl; spells = (tt, tt); again = again }
    where
      again : (y : List Tok) → Like [] y → rows g P zero y ≡ Got [] y
      again [] l = refl
      again (u ∷ y) l = absurd l
  zero_fine (t ∷ ts) = zero_first t ts (g t) refl

  zero_full : (vs : List A) (front x : List Tok) → Spelled (All I) (each m) vs front → Passes (of G) x → Reads zero d vs front x (rows g P zero (front ++ x))
  zero_full [] front [] l o = rw (fits_none front l.1) (refl, refl)
  zero_full [] front (t ∷ x) l o = rw (fits_none front l.1, pick.skips t (apart_is K G t.kind (and_true (apart K G) _ r_2).0 o)) (refl, refl)
  zero_full (v ∷ vs) front x l o =
      let h = headed g K S pick (and_true (within S K) _ r_1).0 (m v ++ each m vs) front (starts_more S (m v) (each m vs) (p.first v l.0.0)) l.1 in
      rw (h.3, h.4) (omega arith)

  rows_first : (vs : List A) → All I vs → Starts S true (each m vs)
  rows_first [] i = refl
  rows_first (v ∷ vs) i = starts_true S (m v ++ each m vs) (starts_more S (m v) (each m vs) (p.first v i.0))

  rows_twin : Twin d (All I) (each m)
  rows_twin [] ts le i h = ([], tt, h)
  rows_twin (v ∷ vs) ts le i h =
      let c = words_split ts (m v) (each m vs) h in
      let a = p.twin v c.0 (left_fits d ts c.0 c.1 c.2 le) i.0 c.3 in
      let b = rows_twin vs c.1 (right_fits d ts c.0 c.1 c.2 le) i.1 c.4 in
      (a.0 ∷ b.0, (a.1, b.1), subst (λ z. Fits z (m a.0 ++ each m b.0)) (sym c.2) (fits_append c.0 c.1 (m a.0) (each m b.0) a.2 b.2))

  pub rows_rule : (n : ℕ) → n ≤ N → Rule n d d G S [] true (All I) (each m) (rows g P n)
  rows_rule zero le = record {
    good = record { fine = zero_fine; full = zero_full; some = ([], [], (tt, tt)) };
    nests = nest_rows d g P zero p.nests;
    first = rows_first;
    heads = λ t h. absurd cc;
    twin = rows_twin;
  }
  rows_rule (suc n) le =
      let part : Rule (suc n) d d F S H false I m P = less_rule p (suc n) le F (within_self F) in
      let rest = rows_rule n (omega (arith, le)) in
      let whole = image_rule (grown_rule part rest r_meet) (λ (v : A × List A). v.0 ∷ v.1) (each m) (λ v i. refl) in
      let either = iff_rule (choose_rule g K pick whole (nothing_rule (suc n) d G [] (each m) refl) r_ways) (All I) all_to all_back in
      record { good = either.good; nests = nest_rows d g P (suc n) p.nests; first = rows_first; heads = λ t h. absurd cc; twin = rows_twin }

-- a sign before, without its position
module _ {A : Type 0} {n d o : ℕ} {F S H : List Kind} {e : Bool} {P : Reader (Pos × A)} (I : A → Type 0) (m : A → List Mark) (k : Kind) (p : Rule n d o F S H e (λ v. I v.1) (λ (v : Pos × A). sign_at v.0 k ∷ m v.1) P) where
  un_into : (v : Pos × A) (ts : List Tok) → Spelled (λ v. I v.1) (λ (v : Pos × A). sign_at v.0 k ∷ m v.1) v ts → Spelled I (λ v. sign k ∷ m v) v.1 ts
  un_into v ts h = let f = fits_first ts (sign_at v.0 k) (m v.1) h.1 in let g : Fits (f.0 ∷ f.1) (sign k ∷ m v.1) = ((f.3.0, tt, tt), f.4) in (h.0, rw f.2 g)

  un_out : (w : A) (ts : List Tok) → Spelled I (λ v. sign k ∷ m v) w ts → (v : Pos × A) × (v.1 ≡ w) × Spelled (λ v. I v.1) (λ (v : Pos × A). sign_at v.0 k ∷ m v.1) v ts
  un_out w ts h = let f = fits_first ts (sign k) (m w) h.1 in let g : Fits (f.0 ∷ f.1) (sign_at f.0.pos k ∷ m w) = ((f.3.0, tt, refl), f.4) in ((f.0.pos, w), refl, (h.0, fits_at ts _ _ f.2 g))

  un_twin : Twin d I (λ v. sign k ∷ m v)
  un_twin w ts le i h =
      let a = p.twin (nowhere, w) ts le i h in
      (a.0.1, a.1, (un_into a.0 ts (a.1, a.2)).1)

  pub unplaced_rule : Rule n d o F S H e I (λ v. sign k ∷ m v) (λ ts. with_read (λ v. v.1) (P ts))
  unplaced_rule = record {
    good = via_good n d (of F) (Spelled (λ v. I v.1) (λ (v : Pos × A). sign_at v.0 k ∷ m v.1)) (Spelled I (λ v. sign k ∷ m v)) P (λ v. v.1) p.good un_into un_out;
    nests = λ ts. nest_with d o ts (λ v. v.1) (P ts) (p.nests ts);
    first = λ w i. p.first (nowhere, w) i;
    heads = λ t h. (let a = p.heads t h in (a.0.1, a.1, un_into a.0 (t ∷ a.1) a.2));
    twin = un_twin;
  }

-- a sign and what stands behind it, with its position or without
pub at_rule : {A : Type 0} {n d o : ℕ} {F S H : List Kind} {e : Bool} {I : A → Type 0} {m : A → List Mark} {P : Reader A} (k : Kind) (single : is_single k ≡ true) (step : left_by (turn k) d (left []) ≡ Some d) → Rule n d o F S H e I m P → Rule n d o F (k ∷ []) (k ∷ []) false (λ v. I v.1) (λ (v : Pos × A). sign_at v.0 k ∷ m v.1) (both (one (a_sign k)) P)
at_rule {A} {n} {d} {o} {F} {S} {H} {e} {I} {m} {P} k single step p =
    iff_rule (both_rule (sign_rule n d d (S ++ F) k single step) p (meets_all S e F)) (λ v. I v.1) (λ v h. h.1) (λ v h. (tt, h))
  where
    meets_all : (S : List Kind) (e : Bool) (F : List Kind) → meet S e (S ++ F) F ≡ true
    meets_all S true F = rw (within_left S F, within_right S F) refl
    meets_all S false F = rw (within_left S F) refl

pub after_rule : {A : Type 0} {n d o : ℕ} {F S H : List Kind} {e : Bool} {I : A → Type 0} {m : A → List Mark} {P : Reader A} (k : Kind) (single : is_single k ≡ true) (step : left_by (turn k) d (left []) ≡ Some d) → Rule n d o F S H e I m P → Rule n d o F (k ∷ []) (k ∷ []) false I (λ v. sign k ∷ m v) (after k P)
after_rule {I = I} {m = m} k single step p = unplaced_rule I m k (at_rule k single step p)

-- a sign behind, without its position
module _ {A : Type 0} {n d : ℕ} {F S H : List Kind} {e : Bool} {I : A → Type 0} {m : A → List Mark} {P : Reader A} (o : ℕ) (G : List Kind) (k : Kind) (single : is_single k ≡ true) (step : left_by (turn k) d (left []) ≡ Some o) (p : Rule n d d F S H e I m P) (ok : is_in F k ≡ true) where
  be_meet : meet (k ∷ []) false F G ≡ true
  be_meet = rw ok refl

  be_both : Rule n d o G (firsts e S (k ∷ [])) H (e && false) (λ (v : A × Pos). I v.0 × Unit {0}) (λ v. m v.0 ++ sign_at v.1 k ∷ []) (both P (one (a_sign k)))
  be_both = both_rule p (sign_rule n d o G k single step) be_meet

  be_into : (v : A × Pos) (ts : List Tok) → Spelled (λ (v : A × Pos). I v.0 × Unit {0}) (λ v. m v.0 ++ sign_at v.1 k ∷ []) v ts → Spelled I (λ v. m v ++ sign k ∷ []) v.0 ts
  be_into v ts h =
      let c = fits_split ts (m v.0) (sign_at v.1 k ∷ []) h.1 in
      let f = fits_first c.1 (sign_at v.1 k) [] c.4 in
      let g : Fits (f.0 ∷ f.1) (sign k ∷ []) = ((f.3.0, tt, tt), f.4) in
      (h.0.0, fits_at ts _ _ (c.2 ∙ ap (λ l. c.0 ++ l) f.2) (fits_append c.0 (f.0 ∷ f.1) (m v.0) (sign k ∷ []) c.3 g))

  be_out : (w : A) (ts : List Tok) → Spelled I (λ v. m v ++ sign k ∷ []) w ts → (v : A × Pos) × (v.0 ≡ w) × Spelled (λ (v : A × Pos). I v.0 × Unit {0}) (λ v. m v.0 ++ sign_at v.1 k ∷ []) v ts
  be_out w ts h =
      let c = fits_split ts (m w) (sign k ∷ []) h.1 in
      let f = fits_first c.1 (sign k) [] c.4 in
      let g : Fits (f.0 ∷ f.1) (sign_at f.0.pos k ∷ []) = ((f.3.0, tt, refl), f.4) in
      ((w, f.0.pos), refl, ((h.0, tt), fits_at ts _ _ (c.2 ∙ ap (λ l. c.0 ++ l) f.2) (fits_append c.0 (f.0 ∷ f.1) (m w) (sign_at f.0.pos k ∷ []) c.3 g)))

  be_words : (w : A) (ts : List Tok) → Words ts (m w ++ sign k ∷ []) → Words ts (m w ++ sign_at nowhere k ∷ [])
  be_words w ts h = subst (Fits ts) (map-append unplaced (m w) (sign k ∷ []) ∙ sym (map-append unplaced (m w) (sign_at nowhere k ∷ []))) h

  be_starts : (ms : List Mark) (p : Pos) (T : List Kind) (f : Bool) → Starts T f (ms ++ sign_at p k ∷ []) → Starts T f (ms ++ sign k ∷ [])
  be_starts [] p T f h = h
  be_starts (m ∷ ms) p T f h = h

  pub before_rule : Rule n d o G (firsts e S (k ∷ [])) H (e && false) I (λ v. m v ++ sign k ∷ []) (before P k)
  before_rule = record {
    good = via_good n d (of G) (Spelled (λ (v : A × Pos). I v.0 × Unit {0}) (λ v. m v.0 ++ sign_at v.1 k ∷ [])) (Spelled I (λ v. m v ++ sign k ∷ [])) (both P (one (a_sign k))) (λ v. v.0) be_both.good be_into be_out;
    nests = λ ts. nest_with d o ts (λ v. v.0) (both P (one (a_sign k)) ts) (be_both.nests ts);
    first = λ w i. be_starts (m w) nowhere (firsts e S (k ∷ [])) (e && false) (be_both.first (w, nowhere) (i, tt));
    heads = λ t h. (let a = be_both.heads t h in (a.0.0, a.1, be_into a.0 (t ∷ a.1) a.2));
    twin = λ w ts le i h. (let a = be_both.twin (w, nowhere) ts le (i, tt) (be_words w ts h) in (a.0.0, a.1.0, (be_into a.0 ts (a.1, a.2)).1));
  }

-- parts with commas between them
module _ {A : Type 0} {n d : ℕ} {F S H : List Kind} {I : A → Type 0} {m : A → List Mark} {P : Reader A} (p : Rule n d d F S H false I m P) (G : List Kind) (ok : (is_in F kinds.Comma && (not (is_in G kinds.Comma) && within G F)) ≡ true) where
  c_in : is_in F kinds.Comma ≡ true
  c_in = (and_true (is_in F kinds.Comma) _ ok).0

  c_out : apart (kinds.Comma ∷ []) G ≡ true
  c_out = rw ((and_true (not (is_in G kinds.Comma)) _ (and_true (is_in F kinds.Comma) _ ok).1).0) refl

  c_within : within G F ≡ true
  c_within = (and_true (not (is_in G kinds.Comma)) _ (and_true (is_in F kinds.Comma) _ ok).1).1

  c_row : row_ok (kinds.Comma ∷ []) (kinds.Comma ∷ []) (kinds.Comma ∷ []) F G ≡ true
  c_row = rw (c_out, c_in, c_within) refl

  more_same : (vs : List A) → each (λ v. sign kinds.Comma ∷ m v) vs ≡ after_commas m vs
  more_same [] = refl
  more_same (v ∷ vs) = ap (λ l. sign kinds.Comma ∷ m v ++ l) (more_same vs)

  pub commas_rule : Rule n d d G S H false (λ vs. (vs ≢ []) × All I vs) (commas m) (commas_at P n)
  commas_rule =
      let more = rows_rule (a_sign kinds.Comma) (kinds.Comma ∷ []) (sign_picker kinds.Comma) (after_rule kinds.Comma refl refl p) G c_row n (omega arith) in
      via_rule (both_rule p more (rw (c_in, c_within) refl)) (λ (v : A × List A). v.0 ∷ v.1) (λ vs. (vs ≢ []) × All I vs) (commas m)
      (λ v i. ap (λ l. m v.0 ++ l) (sym (more_same v.1))) (λ v i. (λ c. cc, i)) back
    where
      back : (vs : List A) → (vs ≢ []) × All I vs → (v : A × List A) × (v.0 ∷ v.1 ≡ vs) × (I v.0 × All I v.1)
      back [] h = absurd (h.0 refl)
      back (v ∷ vs) h = ((v, vs), refl, (h.1.0, h.1.1))

-- a sign that stands for a value
pub shut_rule : {A : Type 0} (n d o : ℕ) (F : List Kind) (k : Kind) (single : is_single k ≡ true) (step : left_by (turn k) d (left []) ≡ Some o) (a : A) (m : A → List Mark) → m a ≡ sign k ∷ [] → Rule n d o F (k ∷ []) (k ∷ []) false (λ v. v ≡ a) m (shut k a)
shut_rule {A} n d o F k single step a m same =
    let p = sign_rule n d o F k single step in
    record {
      good = via_good n d (of F) (Spelled (λ p. Unit {0}) (λ p. sign_at p k ∷ [])) (Spelled (λ v. v ≡ a) m) (one (a_sign k)) (λ _. a) p.good into out;
      nests = λ ts. nest_with d o ts (λ _. a) (one (a_sign k) ts) (p.nests ts);
      first = λ v i. subst (λ l. Starts (k ∷ []) false l) (sym (ap m i ∙ same)) (rw (is_itself k) refl);
      heads = λ t h. (let b = p.heads t h in (a, b.1, into b.0 (t ∷ b.1) b.2));
      twin = λ v ts le i h. (let b = p.twin nowhere ts le tt (subst (Words ts) (ap m i ∙ same) h) in (a, refl, (into b.0 ts (b.1, b.2)).1));
    }
  where
    into : (p : Pos) (ts : List Tok) → Spelled (λ p. Unit {0}) (λ p. sign_at p k ∷ []) p ts → Spelled (λ v. v ≡ a) m a ts
    into p ts h = let f = fits_first ts (sign_at p k) [] h.1 in let g : Fits (f.0 ∷ f.1) (sign k ∷ []) = ((f.3.0, tt, tt), f.4) in (refl, subst (Fits ts) (sym same) (fits_at ts _ _ f.2 g))

    out : (w : A) (ts : List Tok) → Spelled (λ v. v ≡ a) m w ts → (p : Pos) × (a ≡ w) × Spelled (λ p. Unit {0}) (λ p. sign_at p k ∷ []) p ts
    out w ts h = let f = fits_first ts (sign k) [] (subst (Fits ts) (ap m h.0 ∙ same) h.1) in let g : Fits (f.0 ∷ f.1) (sign_at f.0.pos k ∷ []) = ((f.3.0, tt, refl), f.4) in (f.0.pos, sym h.0, (tt, fits_at ts _ _ f.2 g))

-- a token with its text, without its position
pub string_rule : (n d : ℕ) (F : List Kind) (k : Kind) (single : is_single k ≡ true) (step : left_by (turn k) d (left []) ≡ Some d) → Rule n d d F (k ∷ []) (k ∷ []) false (λ (x : List ℕ). Unit {0}) (λ x. record { kind = k; text = Some x; pos = None } ∷ []) (text_at k)
string_rule n d F k single step =
    let p = text_rule n d d F k single step in
    record {
      good = via_good n d (of F) (Spelled (λ (b : Pos × List ℕ). Unit {0}) (λ b. record { kind = k; text = Some b.1; pos = Some b.0 } ∷ [])) (Spelled (λ (x : List ℕ). Unit {0}) (λ x. record { kind = k; text = Some x; pos = None } ∷ [])) (one (a_text k)) (λ b. b.1) p.good into out;
      nests = λ ts. nest_with d d ts (λ b. b.1) (one (a_text k) ts) (p.nests ts);
      first = λ v i. rw (is_itself k) refl;
      heads = λ t h. (let b = p.heads t h in (b.0.1, b.1, into b.0 (t ∷ b.1) b.2));
      twin = λ v ts le i h. (let b = p.twin (nowhere, v) ts le tt h in (b.0.1, tt, (into b.0 ts (b.1, b.2)).1));
    }
  where
    into : (b : Pos × List ℕ) (ts : List Tok) → Spelled (λ (b : Pos × List ℕ). Unit {0}) (λ b. record { kind = k; text = Some b.1; pos = Some b.0 } ∷ []) b ts → Spelled (λ (x : List ℕ). Unit {0}) (λ x. record { kind = k; text = Some x; pos = None } ∷ []) b.1 ts
    into b ts h = let f = fits_first ts (record { kind = k; text = Some b.1; pos = Some b.0 }) [] h.1 in let g : Fits (f.0 ∷ f.1) (record { kind = k; text = Some b.1; pos = None } ∷ []) = ((f.3.0, f.3.1, tt), f.4) in (tt, fits_at ts _ _ f.2 g)

    out : (w : List ℕ) (ts : List Tok) → Spelled (λ (x : List ℕ). Unit {0}) (λ x. record { kind = k; text = Some x; pos = None } ∷ []) w ts → (b : Pos × List ℕ) × (b.1 ≡ w) × Spelled (λ (b : Pos × List ℕ). Unit {0}) (λ b. record { kind = k; text = Some b.1; pos = Some b.0 } ∷ []) b ts
    out w ts h = let f = fits_first ts (record { kind = k; text = Some w; pos = None }) [] h.1 in let g : Fits (f.0 ∷ f.1) (record { kind = k; text = Some w; pos = Some f.0.pos } ∷ []) = ((f.3.0, f.3.1, refl), f.4) in ((f.0.pos, w), refl, (tt, fits_at ts _ _ f.2 g))

-- a list or none, and the closing sign
module _ {A : Type 0} {n d : ℕ} {F S H : List Kind} {I : A → Type 0} {m : A → List Mark} {P : Reader A} (o : ℕ) (G : List Kind) (k : Kind) (single : is_single k ≡ true) (step : left_by (turn k) d (left []) ≡ Some o) (p : Rule n d d F S H false I m P) (ok : (is_in F kinds.Comma && (is_in F k && (not (is_in (k ∷ []) kinds.Comma) && not (is_in S k)))) ≡ true) where
  abbrev closed_marks : List A → List Mark
  closed_marks vs = commas m vs ++ sign k ∷ []

  l_comma : is_in F kinds.Comma ≡ true
  l_comma = (and_true (is_in F kinds.Comma) _ ok).0

  l_k : is_in F k ≡ true
  l_k = (and_true (is_in F k) _ (and_true (is_in F kinds.Comma) _ ok).1).0

  l_not : not (is_in (k ∷ []) kinds.Comma) ≡ true
  l_not = (and_true _ _ (and_true (is_in F k) _ (and_true (is_in F kinds.Comma) _ ok).1).1).0

  l_first : not (is_in S k) ≡ true
  l_first = (and_true _ _ (and_true (is_in F k) _ (and_true (is_in F kinds.Comma) _ ok).1).1).1

  l_list : Rule n d d (k ∷ []) S H false (λ vs. (vs ≢ []) × All I vs) (commas m) (commas_at P n)
  l_list = commas_rule p (k ∷ []) (rw (l_comma, l_not, l_k) refl)

  l_some : Rule n d o G S H false (λ vs. (vs ≢ []) × All I vs) closed_marks (before (commas_at P n) k)
  l_some = before_rule o G k single step l_list (rw (is_itself k) refl)

  l_ok : parts_ways (k ∷ []) (k ∷ []) (k ∷ []) S false G ≡ true
  l_ok = rw (is_itself k, apart_one S k l_first) refl

  closed_to : (vs : List A) → (vs ≡ []) ⊎ ((vs ≢ []) × All I vs) → All I vs
  closed_to vs (inl h) = subst (All I) (sym h) tt
  closed_to vs (inr h) = h.1

  closed_back : (vs : List A) → All I vs → (vs ≡ []) ⊎ ((vs ≢ []) × All I vs)
  closed_back [] h = inl refl
  closed_back (v ∷ vs) h = inr ((λ c. cc), h)

  pub list_closed_rule : Rule n d o G (k ∷ S) (k ∷ H) false (All I) closed_marks (list_closed k P n)
  list_closed_rule = iff_rule (choose_rule (a_sign k) (k ∷ []) (sign_picker k) (shut_rule n d o G k single step [] closed_marks refl) l_some l_ok) (All I) closed_to closed_back

-- behind an opening sign, where a bracket more may be opened or not; what is read there closes it
pub data Behind {A : Type 0} (n d : ℕ) (F : List Kind) (I : A → Type 0) (m : A → List Mark) : Option (Reader A) → Type 0 where
  NoRoom : d ≡ 0 → Begins (Spelled I m) [] → Behind n d F I m None
  Rooms : {S H : List Kind} {e : Bool} {P : Reader A} (b : ℕ) → d ≡ suc b → Rule n b (suc b) F S H e I m P → Behind n d F I m (Some P)

module _ {A : Type 0} (I : A → Type 0) (m : A → List Mark) (F : List Kind) (k : Kind) (single : is_single k ≡ true) (opens : turn k ≡ Opens) where
  abbrev braced : Pos × A → List Mark
  braced v = sign_at v.0 k ∷ m v.1

  abbrev InOne : Pos × A → Type 0
  InOne v = I v.1

  en_into : (v : Pos × A) (ts : List Tok) → Both (One (a_sign k)) (Spelled I m) v ts → Spelled InOne braced v ts
  en_into v ts l = let w = sign_some k single l.3.0 v.0 l.3.2 in let f : Fits (l.3.0 ∷ l.1) (braced v) = ((w.0, tt, w.1), l.4.1) in (l.4.0, fits_at ts _ _ (l.2 ∙ ap (λ z. z ++ l.1) l.3.1) f)

  en_out : (v : Pos × A) (ts : List Tok) → Spelled InOne braced v ts → Both (One (a_sign k)) (Spelled I m) v ts
  en_out v ts h = let f = fits_first ts (sign_at v.0 k) (m v.1) h.1 in (f.0 ∷ [], f.1, f.2, (f.0, refl, sign_back k single f.0 f.3.0 ∙ ap (λ (q : Pos). Some q) f.3.2), (h.0, f.4))

  en_heads : Begins (Spelled I m) [] → (t : Tok) → is_in (k ∷ []) t.kind ≡ true → Begins (Spelled InOne braced) (t ∷ [])
  en_heads s t h = ((t.pos, s.0), s.1, (s.2.0, ((kind_is k t.kind single (sym (or_none (is_kind k t.kind)) ∙ h), tt, refl), s.2.1)))

  room_twin : (b : ℕ) → Twin b I m → Twin (suc b) InOne braced
  room_twin b p v ts le i h =
      let f = words_first ts (sign_at v.0 k) (m v.1) h in
      let q : length ts ≡ length (f.0 ∷ f.1) = ap length f.2 in
      let a = p v.1 f.1 (omega (arith, q, le)) i f.4 in
      let g : Fits (f.0 ∷ f.1) (braced (f.0.pos, a.0)) = ((f.3.0, tt, refl), a.2) in
      ((f.0.pos, a.0), a.1, fits_at ts _ _ f.2 g)

  no_twin : Twin 0 InOne braced
  no_twin v ts le i h =
      let f = words_first ts (sign_at v.0 k) (m v.1) h in
      let q : length ts ≡ length (f.0 ∷ f.1) = ap length f.2 in
      absurd (omega (arith, q, le))

  sample_ok : a_sign k (sample k single nowhere) ≡ Some nowhere
  sample_ok = sample_sign k single nowhere

  opening : (b : ℕ) → Step (a_sign k) (suc b) b
  opening b = step_sign k single (suc b) b (rw opens refl)

  pub opened_rule : {n d : ℕ} {R : Option (Reader A)} → Behind n d F I m R → Rule n d d F (k ∷ []) (k ∷ []) false InOne braced (opened k R)
  opened_rule {n} {d} (NoRoom zero_d some) =
      subst (λ j. Rule n j j F (k ∷ []) (k ∷ []) false InOne braced (sunk (a_sign k))) (sym zero_d)
      record {
        good = same_good n 0 (of F) (Both (One (a_sign k)) (Spelled I m)) (Spelled InOne braced) (sunk (a_sign k)) (sunk_good n (of F) (a_sign k) (Spelled I m) (sample k single nowhere) nowhere sample_ok some) en_into en_out;
        nests = nest_sunk (Pos × A) Pos (a_sign k) 0 (opens_sign k single opens);
        first = λ v i. rw (is_itself k) refl;
        heads = en_heads some;
        twin = no_twin;
      }
  opened_rule {n} {d} (Rooms {P = P} b e q) =
      subst (λ j. Rule n j j F (k ∷ []) (k ∷ []) false InOne braced (must (a_sign k) P)) (sym e)
      record {
        good = same_good n (suc b) (of F) (Both (One (a_sign k)) (Spelled I m)) (Spelled InOne braced) (must (a_sign k) P) (must_good n (suc b) n b (of F) (a_sign k) (Spelled I m) P q.good (omega arith) (omega arith) (sample k single nowhere) nowhere sample_ok) en_into en_out;
        nests = nest_must (a_sign k) (suc b) b (suc b) P (opening b) q.nests;
        first = λ v i. rw (is_itself k) refl;
        heads = en_heads q.good.some;
        twin = room_twin b q.twin;
      }

  -- without the position of the opening sign
  pub behind_rule : {n d : ℕ} {R : Option (Reader A)} → Behind n d F I m R → Rule n d d F (k ∷ []) (k ∷ []) false I (λ v. sign k ∷ m v) (λ ts. with_read (λ v. v.1) (opened k R ts))
  behind_rule w = unplaced_rule I m k (opened_rule w)

-- in brackets of a kind, where a bracket more may be opened or not
pub data Within {A : Type 0} (n d : ℕ) (c : Kind) (I : A → Type 0) (m : A → List Mark) : Option (Reader A) → Type 0 where
  Full : d ≡ 0 → Begins (Spelled I m) [] → Within n d c I m None
  Room : {F S H : List Kind} {e : Bool} {P : Reader A} (b : ℕ) → d ≡ suc b → is_in F c ≡ true → Rule n b b F S H e I m P → Within n d c I m (Some P)

module _ {A : Type 0} (I : A → Type 0) (m : A → List Mark) (F : List Kind) (k c : Kind) (single : is_single k ≡ true) (single_c : is_single c ≡ true) (opens : turn k ≡ Opens) (closes : (b : ℕ) → left_by (turn c) b (left []) ≡ Some (suc b)) where
  shut_some : Begins (Spelled I m) [] → Begins (Spelled I (λ v. m v ++ sign c ∷ [])) []
  shut_some h = let t = sample c single_c nowhere in let f : Fits (t ∷ []) (sign c ∷ []) = ((refl, tt, tt), tt) in (h.0, h.1 ++ t ∷ [], (h.2.0, fits_append h.1 (t ∷ []) (m h.0) (sign c ∷ []) h.2.1 f))

  pub enclosed_rule : {n d : ℕ} {R : Option (Reader A)} → Within n d c I m R → Rule n d d F (k ∷ []) (k ∷ []) false (λ v. I v.1) (λ v. sign_at v.0 k ∷ m v.1 ++ sign c ∷ []) (enclosed k c R)
  enclosed_rule (Full z some) = opened_rule I (λ v. m v ++ sign c ∷ []) F k single opens (NoRoom z (shut_some some))
  enclosed_rule (Room b e ok p) = opened_rule I (λ v. m v ++ sign c ∷ []) F k single opens (Rooms b e (before_rule (suc b) F c single_c (closes b) p ok))

  -- without the position of the opening sign
  pub inside_rule : {n d : ℕ} {R : Option (Reader A)} → Within n d c I m R → Rule n d d F (k ∷ []) (k ∷ []) false I (λ v. sign k ∷ m v ++ sign c ∷ []) (inside k c R)
  inside_rule w = unplaced_rule I (λ v. m v ++ sign c ∷ []) k (enclosed_rule w)

-- the same marks, written otherwise
pub marks_rule : {A : Type 0} {n d o : ℕ} {F S H : List Kind} {e : Bool} {I : A → Type 0} {m : A → List Mark} {P : Reader A} → Rule n d o F S H e I m P → (k : A → List Mark) → ((v : A) → I v → k v ≡ m v) → Rule n d o F S H e I k P
marks_rule {A} {n} {d} {o} {F} {S} {H} {e} {I} {m} {P} p k same = record {
  good = same_good n d (of F) (Spelled I m) (Spelled I k) P p.good into (λ v ts h. (h.0, subst (Fits ts) (same v h.0) h.1));
  nests = p.nests;
  first = λ v i. subst (Starts S e) (sym (same v i)) (p.first v i);
  heads = λ t h. (let a = p.heads t h in (a.0, a.1, into a.0 (t ∷ a.1) a.2));
  twin = λ v ts le i h. (let a = p.twin v ts le i (subst (Words ts) (same v i) h) in (a.0, a.1, subst (Fits ts) (sym (same a.0 a.1)) a.2));
}
  where
    into : (v : A) (ts : List Tok) → Spelled I m v ts → Spelled I k v ts
    into v ts h = (h.0, subst (Fits ts) (sym (same v h.0)) h.1)

-- chains
abbrev pub chain_ok : Kind → Kind → List Kind → List Kind → List Kind → List Kind → Bool
chain_ok k j S T F G = is_in F k && (within G F && (not (is_in G k) && not (is_in T j)))

module _ {A B : Type 0} {N d : ℕ} {F S H T K : List Kind} {I : A → Type 0} {J : B → Type 0} {m : A → List Mark} {q : B → List Mark} {P : Reader A} {Q : Reader B} (k j : Kind) (single : is_single k ≡ true) (single_j : is_single j ≡ true) (step : left_by (turn k) d (left []) ≡ Some d) (step_j : left_by (turn j) d (left []) ≡ Some d) (G : List Kind) (p : Rule N d d F S H false I m P) (r : Rule N d d G T K false J q Q) (ok : chain_ok k j S T F G ≡ true) where
  abbrev Chained : List A × Option B → Type 0
  Chained v = All I v.0 × IfThere J v.1

  abbrev chain_marks : List A × Option B → List Mark
  chain_marks v = each (λ a. sign k ∷ sign j ∷ m a) v.0 ++ if_there (λ b. sign k ∷ q b) v.1

  ch_k : is_in F k ≡ true
  ch_k = (and_true (is_in F k) _ ok).0

  ch_g : within G F ≡ true
  ch_g = (and_true (within G F) _ (and_true (is_in F k) _ ok).1).0

  ch_not : not (is_in G k) ≡ true
  ch_not = (and_true (not (is_in G k)) _ (and_true (within G F) _ (and_true (is_in F k) _ ok).1).1).0

  ch_j : not (is_in T j) ≡ true
  ch_j = (and_true (not (is_in G k)) _ (and_true (within G F) _ (and_true (is_in F k) _ ok).1).1).1

  ch_first : (v : List A × Option B) → Chained v → Starts (k ∷ []) true (chain_marks v)
  ch_first v i = by v.0 v.1
    where
      by : (vs : List A) (o : Option B) → Starts (k ∷ []) true (chain_marks (vs, o))
      by [] None = refl
      by [] (Some b) = rw (is_itself k) refl
      by (a ∷ vs) o = rw (is_itself k) refl

  ch_last_twin : (o : Option B) (ts : List Tok) → length ts ≤ d → IfThere J o → Words ts (if_there (λ b. sign k ∷ q b) o) → (u : Option B) × IfThere J u × Fits ts (if_there (λ b. sign k ∷ q b) u)
  ch_last_twin None ts le i h = (None, tt, h)
  ch_last_twin (Some b) ts le i h =
      let f = words_first ts (sign k) (q b) h in
      let e : length ts ≡ length (f.0 ∷ f.1) = ap length f.2 in
      let a = r.twin b f.1 (omega (arith, e, le)) i f.4 in
      let g : Fits (f.0 ∷ f.1) (sign k ∷ q a.0) = ((f.3.0, tt, tt), a.2) in
      (Some a.0, a.1, fits_at ts _ _ f.2 g)

  ch_by_twin : (vs : List A) (o : Option B) (ts : List Tok) → length ts ≤ d → All I vs → IfThere J o → Words ts (chain_marks (vs, o)) → (w : List A × Option B) × Chained w × Fits ts (chain_marks w)
  ch_by_twin [] o ts le i l h = let a = ch_last_twin o ts le l h in (([], a.0), (tt, a.1), a.2)
  ch_by_twin (a ∷ vs) o ts le i l h =
      let f = words_first ts (sign k) (sign j ∷ (m a ++ each (λ a. sign k ∷ sign j ∷ m a) vs) ++ if_there (λ b. sign k ∷ q b) o) h in
      let g = words_first f.1 (sign j) ((m a ++ each (λ a. sign k ∷ sign j ∷ m a) vs) ++ if_there (λ b. sign k ∷ q b) o) f.4 in
      let c = words_split g.1 (m a) (each (λ a. sign k ∷ sign j ∷ m a) vs ++ if_there (λ b. sign k ∷ q b) o) (subst (Words g.1) (append_assoc (m a) (each (λ a. sign k ∷ sign j ∷ m a) vs) (if_there (λ b. sign k ∷ q b) o)) g.4) in
      let e : length ts ≡ length (f.0 ∷ g.0 ∷ c.0 ++ c.1) = ap length (f.2 ∙ ap (λ l. f.0 ∷ l) (g.2 ∙ ap (λ l. g.0 ∷ l) c.2)) in
      let x = p.twin a c.0 (omega (arith, e, le, length-append c.0 c.1)) i.0 c.3 in
      let y = ch_by_twin vs o c.1 (omega (arith, e, le, length-append c.0 c.1)) i.1 l c.4 in
      let z : Fits (f.0 ∷ g.0 ∷ c.0 ++ c.1) (sign k ∷ sign j ∷ m x.0 ++ chain_marks y.0) = ((f.3.0, tt, tt), ((g.3.0, tt, tt), fits_append c.0 c.1 (m x.0) (chain_marks y.0) x.2 y.2)) in
      ((x.0 ∷ y.0.0, y.0.1), ((x.1, y.1.0), y.1.1), fits_at ts _ _ (f.2 ∙ ap (λ l. f.0 ∷ l) (g.2 ∙ ap (λ l. g.0 ∷ l) c.2)) (subst (λ l. Fits (f.0 ∷ g.0 ∷ c.0 ++ c.1) (sign k ∷ sign j ∷ l)) (sym (append_assoc (m x.0) (each (λ a. sign k ∷ sign j ∷ m a) y.0.0) (if_there (λ b. sign k ∷ q b) y.0.1))) z))

  ch_twin : Twin d Chained chain_marks
  ch_twin v ts le i h = ch_by_twin v.0 v.1 ts le i.0 i.1 h

  ch_zero_first : (t : Tok) (ts : List Tok) (o : Option Pos) → a_sign k t ≡ o → Fine zero (Spelled Chained chain_marks) (chain_at k j P Q zero) (t ∷ ts) (choose_on (peeked o ts) Out (nothing ([], None) (t ∷ ts)))
  ch_zero_first t ts (Some b) h = omega arith
  ch_zero_first t ts None h = record { front = []; cut = refl; spells = ((tt, tt), tt); again = again t ts h }
    where
      again : (t : Tok) (ts : List Tok) → a_sign k t ≡ None → (y : List Tok) → Like (t ∷ ts) y → chain_at k j P Q zero y ≡ Got ([], None) y
      again t ts h [] l = refl
      again t ts h (u ∷ y) l = rw (sym l, h) refl

  ch_zero_fine : (ts : List Tok) → Fine zero (Spelled Chained chain_marks) (chain_at k j P Q zero) ts (chain_at k j P Q zero ts)
  ch_zero_fine [] = record { front = []; cut = refl; spells = ((tt, tt), tt); again = again }
    where
      again : (y : List Tok) → Like [] y → chain_at k j P Q zero y ≡ Got ([], None) y
      again [] l = refl
      again (u ∷ y) l = absurd l
  ch_zero_fine (t ∷ ts) = ch_zero_first t ts (a_sign k t) refl

  ch_skip : (t : Tok) → is_in G t.kind ≡ true → a_sign k t ≡ None
  ch_skip t o = (sign_picker k).skips t (apart_is (k ∷ []) G t.kind (rw ch_not refl) o)

  ch_zero_some : (front x : List Tok) (ms : List Mark) (v : List A × Option B) → Fits front (sign k ∷ ms) → Reads zero d v front x (chain_at k j P Q zero (front ++ x))
  ch_zero_some front x ms v h = let f = fits_first front (sign k) ms h in rw (f.2, sign_back k single f.0 f.3.0) (omega arith)

  ch_zero_by : (vs : List A) (o : Option B) (front x : List Tok) → Spelled Chained chain_marks (vs, o) front → Passes (of G) x → Reads zero d (vs, o) front x (chain_at k j P Q zero (front ++ x))
  ch_zero_by [] None front [] l o = rw (fits_none front l.1) (refl, refl)
  ch_zero_by [] None front (t ∷ x) l o = rw (fits_none front l.1, ch_skip t o) (refl, refl)
  ch_zero_by [] (Some b) front x l o = ch_zero_some front x (q b) ([], Some b) l.1
  ch_zero_by (a ∷ vs) b front x l o = ch_zero_some front x (sign j ∷ (m a ++ each (λ a. sign k ∷ sign j ∷ m a) vs) ++ if_there (λ b. sign k ∷ q b) b) (a ∷ vs, b) l.1

  -- what stands behind the first sign
  abbrev Behind_ : List A × Option B → Type 0
  Behind_ v = Image (λ (v : A × (List A × Option B)). (v.0 ∷ v.1.0, v.1.1)) (λ v. I v.0 × Chained v.1) v ⊎ Image (λ (b : B). ([], Some b)) J v

  abbrev behind_marks : List A → Option B → List Mark
  behind_marks [] None = []
  behind_marks [] (Some b) = q b
  behind_marks (a ∷ vs) o = sign j ∷ m a ++ chain_marks (vs, o)

  ch_to : (v : List A × Option B) → Behind_ v ⊎ (v ≡ ([], None)) → Chained v
  ch_to v (inl (inl i)) = subst Chained i.1 ((i.2.0, i.2.1.0), i.2.1.1)
  ch_to v (inl (inr i)) = subst Chained i.1 (tt, i.2)
  ch_to v (inr i) = subst Chained (sym i) (tt, tt)

  ch_back_by : (vs : List A) (o : Option B) → All I vs → IfThere J o → Behind_ (vs, o) ⊎ (◌≡◌ {A = List A × Option B} (vs, o) ([], None))
  ch_back_by [] None i l = inr refl
  ch_back_by [] (Some b) i l = inl (inr (b, refl, l))
  ch_back_by (a ∷ vs) o i l = inl (inl ((a, (vs, o)), refl, (i.0, (i.1, l))))

  ch_same : (v : List A × Option B) → Behind_ v → chain_marks v ≡ sign k ∷ behind_marks v.0 v.1
  ch_same v (inl i) = subst (λ (w : List A × Option B). chain_marks w ≡ sign k ∷ behind_marks w.0 w.1) i.1 (ap (λ l. sign k ∷ sign j ∷ l) (append_assoc (m i.0.0) (each (λ a. sign k ∷ sign j ∷ m a) i.0.1.0) (if_there (λ b. sign k ∷ q b) i.0.1.1)))
  ch_same v (inr i) = subst (λ (w : List A × Option B). chain_marks w ≡ sign k ∷ behind_marks w.0 w.1) i.1 refl

  ch_meet : meet (k ∷ []) true F G ≡ true
  ch_meet = rw (ch_k, ch_g) refl

  ch_ways : parts_ways (j ∷ []) (j ∷ []) (j ∷ []) T false G ≡ true
  ch_ways = rw (is_itself j, apart_one T j ch_j) refl

  ch_ways_k : parts_ways (k ∷ []) (k ∷ []) (k ∷ []) [] true G ≡ true
  ch_ways_k = rw (is_itself k, ch_not) refl

  pub chain_rule : (n : ℕ) → n ≤ N → Rule n d d G (k ∷ []) [] true Chained chain_marks (chain_at k j P Q n)
  chain_rule zero le = record {
    good = record { fine = ch_zero_fine; full = λ v front x l o. ch_zero_by v.0 v.1 front x l o; some = (([], None), [], ((tt, tt), tt)) };
    nests = nest_choose d d (a_sign k) (λ ts. Out) (nothing ([], None)) (λ ts. tt) (nest_nothing {A = List A × Option B} d ([], None));
    first = ch_first;
    heads = λ t h. absurd cc;
    twin = ch_twin;
  }
  chain_rule (suc n) le =
      let part = after_rule j single_j step_j (less_rule p (suc n) le F (within_self F)) in
      let rest = chain_rule n (omega (arith, le)) in
      let more = image_rule (grown_rule part rest ch_meet) (λ (v : A × (List A × Option B)). (v.0 ∷ v.1.0, v.1.1)) (λ v. behind_marks v.0 v.1) (λ v i. refl) in
      let last = image_rule (less_rule r (suc n) le G (within_self G)) (λ (b : B). ([], Some b)) (λ v. behind_marks v.0 v.1) (λ v i. refl) in
      let behind = marks_rule (after_rule k single step (choose_rule (a_sign j) (j ∷ []) (sign_picker j) more last ch_ways)) chain_marks ch_same in
      let whole = iff_rule (choose_rule (a_sign k) (k ∷ []) (sign_picker k) behind (nothing_rule (suc n) d G ([], None) chain_marks refl) ch_ways_k) Chained ch_to (λ v i. ch_back_by v.0 v.1 i.0 i.1) in
      record { good = whole.good; nests = whole.nests; first = ch_first; heads = λ t h. absurd cc; twin = ch_twin }
