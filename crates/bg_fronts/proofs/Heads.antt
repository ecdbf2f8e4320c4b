-- Heads that are one, and terms that are there.
use Rattle.std.proofs.Common.{◌≡◌, ℕ, zero, suc, ◌<◌, ◌≤◌, Bool, true, false, List, [], ◌∷◌, length, get_or, map, Option, Some, None, refl, sym, ap, ◌∙◌, arith}
use Rattle.std.specs.Prelude.{if◌then◌else◌, slice_get}
use Rattle.bg_ast.specs.Syntax.{Ex, Fact, Binary, Implies, Fun}
use Rattle.bg_terms.specs.Terms.{Term, head_eq}
use Rattle.bg_terms.specs.Instances.{term, equal, all_equal, congruent}
use Rattle.bg_term_table.specs.declared.table.Term as kept
use Rattle.bg_term_table.specs.Views.{head_of, term_of, terms_in}

module _ (fs : List Fun) (n a b : ℕ) (s t : kept.Term) where
  abbrev says : Ex
  says = Binary Implies (all_equal (term_of fs s).args (term_of fs t).args) (equal (term n a) (term n b))

  -- nothing is said of terms whose heads differ
  pub says_nothing : head_eq (head_of s.head) (head_of t.head) ≡ false → Fact true ≡ congruent n a b (Some (term_of fs s)) (Some (term_of fs t))
  says_nothing h = sym (ap (λ c. if c then says else Fact true) h)

  pub says_equal : head_eq (head_of s.head) (head_of t.head) ≡ true → says ≡ congruent n a b (Some (term_of fs s)) (Some (term_of fs t))
  says_equal h =
      sym (ap (λ c. if c then says else Fact true) h)

-- ---- terms that are there

map_none : {A B : Type 0} (f : A → B) (xs : List A) (i : ℕ) → length xs ≤ i → slice_get (map f xs) i ≡ None
map_none f [] i h = refl
map_none f (x ∷ xs) zero h = absurd (omega (arith, h))
map_none f (x ∷ xs) (suc i) h = map_none f xs i (omega (arith, h))

map_some : {A B : Type 0} (f : A → B) (xs : List A) (i : ℕ) (x : A) → i < length xs → x ≡ get_or xs i x → slice_get (map f xs) i ≡ Some (f x)
map_some f [] i x h e = absurd (omega (arith, h))
map_some f (y ∷ xs) zero x h e = ap (λ z. Some (f z)) (sym e)
map_some f (y ∷ xs) (suc i) x h e = map_some f xs i x (omega (arith, h)) e

module _ (fs : List Fun) (n a b : ℕ) (ts : List kept.Term) where
  abbrev here : ℕ → Option Term
  here i = slice_get (terms_in fs ts) i

  pub first_missing : length ts ≤ a → Fact true ≡ congruent n a b (here a) (here b)
  first_missing h = sym (ap (λ o. congruent n a b o (here b)) (map_none (term_of fs) ts a h))

  pub both_there : (o : Option Term) (s : kept.Term) → here b ≡ o → a < length ts → s ≡ get_or ts a s → congruent n a b (Some (term_of fs s)) o ≡ congruent n a b (here a) (here b)
  both_there o s e lt is =
      sym (ap (λ p. congruent n a b p (here b)) (map_some (term_of fs) ts a s lt is) ∙ ap (congruent n a b (Some (term_of fs s))) e)

  pub second_missing : (s : kept.Term) → a < length ts → s ≡ get_or ts a s → length ts ≤ b → Fact true ≡ congruent n a b (here a) (here b)
  second_missing s lt is h = both_there None s (map_none (term_of fs) ts b h) lt is

  pub terms_there : (s t : kept.Term) → a < length ts → s ≡ get_or ts a s → b < length ts → t ≡ get_or ts b t → congruent n a b (Some (term_of fs s)) (Some (term_of fs t)) ≡ congruent n a b (here a) (here b)
  terms_there s t lt is less its = both_there (Some (term_of fs t)) s (map_some (term_of fs) ts b t less its) lt is
