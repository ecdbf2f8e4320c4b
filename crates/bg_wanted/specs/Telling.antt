-- Lines that are told so far at a leaf.
use Rattle.std.specs.Prelude.{◌≡◌, ◌⊎◌, ℕ, ◌<◌, ◌≤◌, Bool, true, false, ◌||◌, ◌==◌, List, [], ◌∷◌, length, Some, Option}
use Rattle.std.specs.BTreeMap.{BTreeMap, get_by}
use Rattle.std.specs.Ordering.{nat_cmp, ordering_then}
use Rattle.bg_ast.specs.Values.{Ty}
use Rattle.bg_terms.specs.Terms.{Term}
use Rattle.bg_term_table.specs.Lines.{lines_of}
use Rattle.bg_numbered.specs.Lines.{after_lines, are_there, instances_in, is_within, picked, is_any}
use Rattle.bg_wanted.specs.declared.wants.Wants.{Wants}
use Rattle.bg_wanted.specs.Wanting.{Each, are_naming}

-- the term that was brought for a map and a term
abbrev pub brought_for : BTreeMap (ℕ × ℕ) ℕ → ℕ × ℕ → Option ℕ
brought_for m k = get_by (λ y. ordering_then (nat_cmp k.0 y.0) (nat_cmp k.1 y.1)) m

abbrev pub is_among : ℕ → List ℕ → Bool
is_among a [] = false
is_among a (b ∷ bs) = a == b || is_among a bs

-- a map has a select at the index of a term
abbrev pub Fits : List Ty → List Term → (a_map a_term : ℕ) → Type 0
Fits incs ts m a = is_any (picked incs ts m a) ≡ true

-- what lines bring is there and named by their instances, but for these terms; each instance is of a term that comes in
pub record AreTold (incs : List Ty) (ts : List Term) (w : Wants) (loose : List ℕ) : Type 0 where
  pub there : are_there incs ts (lines_of w.made.items) ≡ true
  pub count : w.next ≡ length (after_lines incs ts (lines_of w.made.items))
  pub fresh : Each (λ e. is_within (length ts) e ≡ false) (instances_in (lines_of w.made.items))
  pub used :
      (a : ℕ) → length ts ≤ a → a < w.next →
      (are_naming (length incs) (after_lines incs ts (lines_of w.made.items)) a (instances_in (lines_of w.made.items)) ≡ true) ⊎ (is_among a loose ≡ true)
  pub picks : (k : ℕ × ℕ) (p : ℕ) → brought_for w.picked k ≡ Some p → (length ts ≤ p) × (p < w.next)
