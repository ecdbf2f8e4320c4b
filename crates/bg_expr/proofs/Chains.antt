-- Chains, rows of prefix signs, lists with commas.
use Rattle.std.proofs.Common.{◌≡◌, ℕ, suc, ◌≤◌, List, [], ◌∷◌, ◌++◌, Bool, true, false, Some, refl, sym, ap, subst, arith, eqb, append-nil, ◌⊎◌, inl, inr, eq-eqb}
use Rattle.std.proofs.lemmas.Bool.{eqb-true}
use Rattle.std.proofs.lemmas.Bool.Decides.{nat_tests}
use Rattle.bg_base.specs.declared.pos.Pos.{Pos}
use Rattle.bg_text.specs.Tokens.{Tok}
use Rattle.bg_text.specs.declared.expr.InfixSign.{InfixSign}
use Rattle.bg_text.specs.Trees.{Ex, Number, Truth, Named, Apply, Old, Parens, Prefix, Postfix, Chain, Links, NoLink, Link}
use Rattle.bg_reader.specs.Reading.{Reader, both, nothing, many}
use Rattle.bg_text.specs.Marks.{sign_at, Is, Fits}
use Rattle.bg_text.specs.Spelling.{infix_kind, ex_marks, link_marks, grade, goes_on, level, IsEx, GoOn, SpellsAt}
use Rattle.bg_text.specs.Views.{links_of}
use Rattle.bg_expr.specs.Exprs.{first_sign, next_sign, Operand, chain_of, operand, links_by, links_at, chain_at}
use Rattle.bg_reader.specs.Exact.{Passes, Free, Both, Branch, Many, Empty, Good}
use Rattle.bg_reader.proofs.Good.{both_good, nothing_good, branch_good, via_good, same_good, many_good}
use Rattle.bg_reader.proofs.Fits.{fits_append, fits_split, fits_none, fits_first}
use Rattle.bg_expr.specs.Ends.{ends}
use Rattle.bg_expr.proofs.Signs.{infix_back, same_grade, ends_more, infix_ends, first_is, first_none, next_is, next_none}

abbrev pub Operands : ℕ → Pos × InfixSign → Operand → List Tok → Type 0
Operands k b v ts = (v.0 ≡ b.0) × (v.1 ≡ b.1) × SpellsAt (suc k) v.2 ts

-- what stands behind the sign of a first link
abbrev pub By : ℕ → Pos × InfixSign → Links → List Tok → Type 0
By k b NoLink ts = ⊥
By k b (Link p s e links) ts = (p ≡ b.0) × (s ≡ b.1) × (grade s ≡ k) × IsEx e × (suc k ≤ level e) × GoOn s links × Fits ts (ex_marks e ++ link_marks links)

abbrev pub Tail : ℕ → Links → List Tok → Type 0
Tail k NoLink ts = ts ≡ []
Tail k (Link p s e links) ts = (grade s ≡ k) × IsEx e × (suc k ≤ level e) × GoOn s links × Fits ts (link_marks (Link p s e links))

sign_is_mark : (t : Tok) (p : Pos) (s : InfixSign) → t.kind ≡ infix_kind s → t.pos ≡ p → Is t (sign_at p (infix_kind s))
sign_is_mark t p s h k = (h, tt, k)

module _ (n d k : ℕ) (P : Reader Ex) (p : Good n d (ends (suc k)) (SpellsAt (suc k)) P) (low : k ≤ 5) where
  operand_good : (b : Pos × InfixSign) → Good n d (ends (suc k)) (Operands k b) (operand P b)
  operand_good b = via_good n d (ends (suc k)) (SpellsAt (suc k)) (Operands k b) P (λ e. (b.0, b.1, e)) p (λ v ts l. (refl, refl, l)) (λ w ts l. (w.2, rw (sym l.0, sym l.1) refl, l.2))

  -- the links behind the first
  rest_into : (s : InfixSign) → grade s ≡ k → (vs : List Operand) (ts : List Tok) → Many (next_sign s) (Operands k) vs ts → GoOn s (links_of vs) × Fits ts (link_marks (links_of vs))
  rest_into s g [] ts h = rw h (tt, tt)
  rest_into s g (v ∷ vs) ts h =
      let w = next_is s h.0 h.2 h.4 in
      let r = rest_into s g vs h.5.1 h.5.4 in
      let o = h.5.3 in
      let goes : goes_on s v.1 ≡ true = subst (λ r. goes_on s r ≡ true) (sym o.1) w.2 in
      let at : Is h.0 (sign_at v.0 (infix_kind v.1)) = rw (o.0, o.1) (sign_is_mark h.0 h.2.0 h.2.1 w.0 w.1) in
      let fits : Fits (h.0 ∷ h.5.0 ++ h.5.1) (link_marks (links_of (v ∷ vs))) = (at, fits_append h.5.0 h.5.1 (ex_marks v.2) (link_marks (links_of vs)) o.2.2 r.1) in
      ((goes, o.2.0, omega (arith, o.2.1, g), r.0), rw (h.3, h.5.2) fits)

  rest_out : (s : InfixSign) → grade s ≡ k → (links : Links) (ts : List Tok) → GoOn s links → Fits ts (link_marks links) → (vs : List Operand) × (links_of vs ≡ links) × Many (next_sign s) (Operands k) vs ts
  rest_out s g NoLink ts go h = ([], refl, fits_none ts h)
  rest_out s g (Link q r e links) ts go h =
      let f = fits_first ts (sign_at q (infix_kind r)) (ex_marks e ++ link_marks links) h in
      let c = fits_split f.1 (ex_marks e) (link_marks links) f.4 in
      let more = rest_out s g links c.1 go.3 c.4 in
      let took : next_sign s f.0 ≡ Some (q, r) = rw (f.3.0, infix_back r, go.0, f.3.2) refl in
      ((q, r, e) ∷ more.0, ap (Link q r e) more.1, (f.0, f.1, (q, r), f.2, took, (c.0, c.1, c.2, (refl, refl, (go.1, omega (arith, go.2, g), c.3)), more.2)))

  many_signs : (s : InfixSign) → grade s ≡ k → Good n d (ends k) (Many (next_sign s) (Operands k)) (many (next_sign s) (operand P) n)
  many_signs s g = many_good (next_sign s) (Operands k) n d d (omega arith) (omega arith) (ends k) (ends (suc k)) (operand P) (λ b h. operand_good b) (λ t h. ends_more k (suc k) t (omega arith) h)
      (λ t b h. let w = next_is s t b h in infix_ends (suc k) b.1 t w.0 (let q = same_grade s b.1 w.2 in omega (arith, q, g)))
      (λ t h. next_none s t (subst (λ j. ends j t ≡ true) (sym g) h)) n (omega arith)

  tail_passes : (s : InfixSign) → grade s ≡ k → (vs : List Operand) (front x : List Tok) → Many (next_sign s) (Operands k) vs front → Passes (ends k) x → Passes (ends (suc k)) (front ++ x)
  tail_passes s g [] front [] l o = rw l tt
  tail_passes s g [] front (t ∷ x) l o = rw l (ends_more k (suc k) t (omega arith) o)
  tail_passes s g (v ∷ vs) front x l o = let w = next_is s l.0 l.2 l.4 in rw l.3 (infix_ends (suc k) l.2.1 l.0 w.0 (let q = same_grade s l.2.1 w.2 in omega (arith, q, g)))

  by_good : (b : Pos × InfixSign) → grade b.1 ≡ k → Good n d (ends k) (By k b) (links_by n P b)
  by_good b g = via_good n d (ends k) (Both (SpellsAt (suc k)) (Many (next_sign b.1) (Operands k))) (By k b) (both P (many (next_sign b.1) (operand P) n)) (λ v. Link b.0 b.1 v.0 (links_of v.1))
      (both_good n d (ends (suc k)) (ends k) (SpellsAt (suc k)) (Many (next_sign b.1) (Operands k)) P (many (next_sign b.1) (operand P) n) p (many_signs b.1 g) (tail_passes b.1 g))
      (λ v ts l. let r = rest_into b.1 g v.1 l.1 l.4 in (refl, refl, g, l.3.0, l.3.1, r.0, rw l.2 (fits_append l.0 l.1 (ex_marks v.0) (link_marks (links_of v.1)) l.3.2 r.1)))
      out
    where
      out : (w : Links) (ts : List Tok) → By k b w ts → (v : Ex × List Operand) × (Link b.0 b.1 v.0 (links_of v.1) ≡ w) × Both (SpellsAt (suc k)) (Many (next_sign b.1) (Operands k)) v ts
      out NoLink ts l = absurd l
      out (Link q s e links) ts l =
          let c = fits_split ts (ex_marks e) (link_marks links) l.6 in
          let r = rest_out b.1 g links c.1 (subst (λ j. GoOn j links) l.1 l.5) c.4 in
          ((e, r.0), rw (l.0, l.1, r.1) refl, (c.0, c.1, c.2, (l.3, l.4, c.3), r.2))

  tail_into : (links : Links) (ts : List Tok) → Branch (first_sign k) (By k) (Empty NoLink) links ts → Tail k links ts
  tail_into NoLink ts (inl h) = absurd h.5
  tail_into NoLink ts (inr h) = h.1
  tail_into (Link q s e links) ts (inl h) =
      let w = first_is k h.0 h.2 h.4 in
      let b = h.5 in
      let at : Is h.0 (sign_at q (infix_kind s)) = rw (b.0, b.1) (sign_is_mark h.0 h.2.0 h.2.1 w.0 w.1) in
      let fits : Fits (h.0 ∷ h.1) (link_marks (Link q s e links)) = (at, b.6) in
      (b.2, b.3, b.4, b.5, rw h.3 fits)
  tail_into (Link q s e links) ts (inr h) = let c : Link q s e links ≡ NoLink = h.0 in absurd cc

  tail_out : (links : Links) (ts : List Tok) → Tail k links ts → Branch (first_sign k) (By k) (Empty NoLink) links ts
  tail_out NoLink ts h = inr (refl, h)
  tail_out (Link q s e links) ts h =
      let f = fits_first ts (sign_at q (infix_kind s)) (ex_marks e ++ link_marks links) h.4 in
      let same : eqb (grade s) k ≡ true = rw h.0 (eq-eqb k k refl) in
      let took : first_sign k f.0 ≡ Some (q, s) = rw (f.3.0, infix_back s, same, f.3.2) refl in
      inl (f.0, f.1, (q, s), f.2, took, (refl, refl, h.0, h.1, h.2, h.3, f.4))

  tail_good : Good n d (ends k) (Tail k) (links_at n k P)
  tail_good = same_good n d (ends k) (Branch (first_sign k) (By k) (Empty NoLink)) (Tail k) (links_at n k P)
      (branch_good n d (ends k) (first_sign k) (By k) (Empty NoLink) (nothing NoLink) (nothing_good n d (ends k) NoLink) free n d (ends k) (links_by n P) (λ b w. by_good b (let f = first_is k w.0 b w.1 in f.2)) (omega arith) (omega arith) (λ t h. h))
      tail_into tail_out
    where
      off : (x : List Tok) → Passes (ends k) x → Free (first_sign k) x
      off [] h = tt
      off (t ∷ x) h = first_none k t h

      free : (v : Links) (front x : List Tok) → Empty NoLink v front → Passes (ends k) x → Free (first_sign k) (front ++ x)
      free v front x l o = rw l.1 (off x o)

  links_pass : (v : Links) (front x : List Tok) → Tail k v front → Passes (ends k) x → Passes (ends (suc k)) (front ++ x)
  links_pass NoLink front [] l o = rw l tt
  links_pass NoLink front (t ∷ x) l o = rw l (ends_more k (suc k) t (omega arith) o)
  links_pass (Link q s e links) front x l o =
      let f = fits_first front (sign_at q (infix_kind s)) (ex_marks e ++ link_marks links) l.4 in
      rw f.2 (infix_ends (suc k) s f.0 f.3.0 (omega (arith, l.0)))

  chain_into : (e : Ex) (links : Links) (ts : List Tok) → Both (SpellsAt (suc k)) (Tail k) (e, links) ts → SpellsAt k (chain_of e links) ts
  chain_into e NoLink ts h = (h.3.0, omega (arith, h.3.1), rw (h.2, h.4, append-nil) h.3.2)
  chain_into e (Link q s f links) ts h = ((h.3.0, (omega (arith, h.3.1, h.4.0), h.4.1, omega (arith, h.4.2, h.4.0), h.4.3)), omega (arith, h.4.0), rw h.2 (fits_append h.0 h.1 (ex_marks e) (link_marks (Link q s f links)) h.3.2 h.4.4))

  Parts : Ex → List Tok → Type 0
  Parts w ts = (v : Ex × Links) × (chain_of v.0 v.1 ≡ w) × Both (SpellsAt (suc k)) (Tail k) v ts

  alone : (w : Ex) (ts : List Tok) → SpellsAt (suc k) w ts → Parts w ts
  unfolding Parts
  alone w ts h = ((w, NoLink), refl, (ts, [], sym (append-nil ts), h, refl))

  apart : (g : ℕ) → k ≤ g → (g ≡ k) ⊎ (suc k ≤ g)
  apart g h = by (eqb g k) refl
    where
      by : (b : Bool) → eqb g k ≡ b → (g ≡ k) ⊎ (suc k ≤ g)
      by true e = inl (eqb-true g k e)
      by false e = inr (grind (arith, nat_tests))

  chain_out : (w : Ex) (ts : List Tok) → SpellsAt k w ts → Parts w ts
  unfolding Parts
  chain_out (Chain e NoLink) ts h = absurd h.0.1
  chain_out (Chain e (Link q s f links)) ts h = by (apart (grade s) h.1)
    where
      by : (grade s ≡ k) ⊎ (suc k ≤ grade s) → Parts (Chain e (Link q s f links)) ts
      by (inl g) = let c = fits_split ts (ex_marks e) (link_marks (Link q s f links)) h.2 in ((e, Link q s f links), refl, (c.0, c.1, c.2, (h.0.0, omega (arith, h.0.1.0, g), c.3), (g, h.0.1.1, omega (arith, h.0.1.2, g), h.0.1.3, c.4)))
      by (inr g) = alone (Chain e (Link q s f links)) ts (h.0, g, h.2)
  chain_out (Number q z) ts h = alone (Number q z) ts (h.0, omega (arith, low), h.2)
  chain_out (Truth q b) ts h = alone (Truth q b) ts (h.0, omega (arith, low), h.2)
  chain_out (Named q x) ts h = alone (Named q x) ts (h.0, omega (arith, low), h.2)
  chain_out (Apply q x es) ts h = alone (Apply q x es) ts (h.0, omega (arith, low), h.2)
  chain_out (Old q e) ts h = alone (Old q e) ts (h.0, omega (arith, low), h.2)
  chain_out (Parens q e) ts h = alone (Parens q e) ts (h.0, omega (arith, low), h.2)
  chain_out (Prefix signs e) ts h = alone (Prefix signs e) ts (h.0, omega (arith, low), h.2)
  chain_out (Postfix e bs) ts h = alone (Postfix e bs) ts (h.0, omega (arith, low), h.2)

  pub chain_good : Good n d (ends k) (SpellsAt k) (chain_at n k P)
  unfolding Parts chain_at
  chain_good = via_good n d (ends k) (Both (SpellsAt (suc k)) (Tail k)) (SpellsAt k) (both P (links_at n k P)) (λ v. chain_of v.0 v.1)
      (both_good n d (ends (suc k)) (ends k) (SpellsAt (suc k)) (Tail k) P (links_at n k P) p tail_good links_pass)
      (λ v ts l. chain_into v.0 v.1 ts l) chain_out
