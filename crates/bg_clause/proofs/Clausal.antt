-- A clause says what its literals say, each of them once.
use Rattle.std.proofs.Common.{◌≡◌, ℕ, Bool, true, false, List, [], ◌∷◌, refl, sym, ap, ◌∙◌, eqb-true}
use Rattle.std.specs.Prelude.{not, ◌&&◌, ◌||◌, if◌then◌else◌, ◌==◌, nat_lt}
use Rattle.bg_formula.specs.declared.atom.Literal.{Literal}
use Rattle.bg_formula.specs.Formulas.{literals_below, clauses_below}
use Rattle.bg_formula.specs.Meaning.{same}
use Rattle.bg_forms.specs.Forms.{literal_in, opposite}
use Rattle.bg_clause.specs.Emitted.{literal_eq, is_among, clashes, distinct, clause_of}
use Rattle.bg_forms.proofs.Meaning.{same_not, and_left, and_right}
use Rattle.bg_formed.proofs.Below.{and_both}

abbrev pub any_in : (ℕ → Bool) → List Literal → Bool
any_in t [] = false
any_in t (l ∷ ls) = literal_in t l || any_in t ls

abbrev pub all_in : (ℕ → Bool) → List (List Literal) → Bool
all_in t [] = true
all_in t (c ∷ cs) = any_in t c && all_in t cs

pub same_signs : (a b : Bool) → same a b ≡ true → a ≡ b
same_signs true true e = refl
same_signs true false e = sym e
same_signs false true e = e
same_signs false false e = refl

or_cases : (a b c : Bool) → (a || b) ≡ true → (a ≡ true → c ≡ true) → (b ≡ true → c ≡ true) → c ≡ true
or_cases true b c e f g = f refl
or_cases false b c e f g = g e

or_left : (a b : Bool) → a ≡ true → (a || b) ≡ true
or_left true b e = refl
or_left false b e = absurd (let bad : ⊥ = cc in bad)

or_right : (a b : Bool) → b ≡ true → (a || b) ≡ true
or_right true b e = refl
or_right false b e = e

or_known : (a b : Bool) → (a ≡ true → b ≡ true) → b ≡ (a || b)
or_known true b h = h refl
or_known false b h = refl

or_other : (a b : Bool) → (not a ≡ true → b ≡ true) → (a || b) ≡ true
or_other true b h = refl
or_other false b h = h refl

plain_and : (a : Bool) → (a && true) ≡ a
plain_and true = refl
plain_and false = refl

module _ (t : ℕ → Bool) where
  same_literal : (k l : Literal) → literal_eq k l ≡ true → literal_in t l ≡ literal_in t k
  same_literal k l e =
      let atoms : k.atom ≡ l.atom = eqb-true k.atom l.atom (and_left (k.atom == l.atom) (same k.sign l.sign) e) in
      let signs = same_signs k.sign l.sign (and_right (k.atom == l.atom) (same k.sign l.sign) e) in
      rw (atoms, signs) refl

  -- a true literal that is among others makes them true
  among_true : (ls : List Literal) (l : Literal) → is_among ls l ≡ true → literal_in t l ≡ true → any_in t ls ≡ true
  among_true [] l e q = absurd (let bad : ⊥ = cc in bad)
  among_true (k ∷ ls) l e q =
      or_cases (literal_eq k l) (is_among ls l) (any_in t (k ∷ ls)) e (λ p. or_left (literal_in t k) (any_in t ls) (sym (same_literal k l p) ∙ q)) (λ p. or_right (literal_in t k) (any_in t ls) (among_true ls l p q))

  one_kept : (x : Bool) (l : Literal) (ls : List Literal) → (x ≡ true → literal_in t l ≡ true → any_in t ls ≡ true) → any_in t (distinct ls) ≡ any_in t ls → any_in t (if x then distinct ls else l ∷ distinct ls) ≡ (literal_in t l || any_in t ls)
  one_kept true l ls h k = k ∙ or_known (literal_in t l) (any_in t ls) (h refl)
  one_kept false l ls h k = ap (λ x. literal_in t l || x) k

  distinct_true : (ls : List Literal) → any_in t (distinct ls) ≡ any_in t ls
  distinct_true [] = refl
  distinct_true (l ∷ ls) = one_kept (is_among ls l) l ls (among_true ls l) (distinct_true ls)

  clash_true : (ls : List Literal) → clashes ls ≡ true → any_in t ls ≡ true
  clash_true [] e = absurd (let bad : ⊥ = cc in bad)
  clash_true (l ∷ ls) e =
      or_cases (is_among ls (opposite l)) (clashes ls) (any_in t (l ∷ ls)) e (λ p. or_other (literal_in t l) (any_in t ls) (λ q. among_true ls (opposite l) p (same_not (t l.atom) l.sign ∙ q))) (λ p. or_right (literal_in t l) (any_in t ls) (clash_true ls p))

  clause_by : (x : Bool) (ls : List Literal) → (x ≡ true → any_in t ls ≡ true) → all_in t (if x then [] else distinct ls ∷ []) ≡ any_in t ls
  clause_by true ls h = sym (h refl)
  clause_by false ls h = plain_and (any_in t (distinct ls)) ∙ distinct_true ls

  pub clause_true : (ls : List Literal) → all_in t (clause_of ls) ≡ any_in t ls
  clause_true ls = clause_by (clashes ls) ls (clash_true ls)

module _ (n : ℕ) where
  one_below : (x : Bool) (l : Literal) (ls : List Literal) → nat_lt l.atom n ≡ true → literals_below n (distinct ls) ≡ true → literals_below n (if x then distinct ls else l ∷ distinct ls) ≡ true
  one_below true l ls p q = q
  one_below false l ls p q = and_both (nat_lt l.atom n) (literals_below n (distinct ls)) p q

  distinct_below : (ls : List Literal) → literals_below n ls ≡ true → literals_below n (distinct ls) ≡ true
  distinct_below [] p = refl
  distinct_below (l ∷ ls) p =
      one_below (is_among ls l) l ls (and_left (nat_lt l.atom n) (literals_below n ls) p) (distinct_below ls (and_right (nat_lt l.atom n) (literals_below n ls) p))

  by_below : (x : Bool) (ls : List Literal) → literals_below n ls ≡ true → clauses_below n (if x then [] else distinct ls ∷ []) ≡ true
  by_below true ls p = refl
  by_below false ls p = and_both (literals_below n (distinct ls)) true (distinct_below ls p) refl

  pub clause_below : (ls : List Literal) → literals_below n ls ≡ true → clauses_below n (clause_of ls) ≡ true
  clause_below ls p = by_below (clashes ls) ls p
