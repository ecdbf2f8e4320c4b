-- What names mean in the scopes of a program without faults of names is declared.
use Rattle.std.proofs.Common.{◌≡◌, ℕ, ◌<◌, ◌≤◌, Bool, true, false, List, map, length, Option, Some, None, refl, ap, subst, arith}
use Rattle.std.proofs.lemmas.List.{length-map}
use Rattle.bg_text.specs.Trees as t
use Rattle.bg_ast.specs.Resolved as r
use Rattle.bg_names.specs.Spaces.{Scope, place, value_at, seen, in_frame, meaning}
use Rattle.bg_names.specs.declared.scope.Meaning.{Meaning}
use Rattle.bg_names.specs.declared.scope.Meaning.TheVariants as means
use Rattle.bg_spaces.specs.Declarations.{Spaces, scope_in}
use Rattle.bg_sense.specs.Typing.{Sig}
use Rattle.bg_named.specs.Covers.{Covers}
use Rattle.bg_named.specs.Numbers.{IsNumber, IsMeant, HasNumbers, constant_id, declared_id, function_id}
use Rattle.bg_named.proofs.SpacesPlaces.{place_is}
use Rattle.bg_named.proofs.SpacesNumbers.{get_small}

seen_constant : (b : Bool) (m : Meaning) (k : ℕ) → seen b m ≡ means.Constant k → m ≡ means.Constant k
seen_constant true m k h = h
seen_constant false (means.Global j) k h = absurd (let bad : means.Nothing ≡ means.Constant k = h in cc)
seen_constant false means.Nothing k h = h
seen_constant false (means.Constant j) k h = h
seen_constant false (means.Candidate j) k h = h
seen_constant false (means.Local j) k h = h

seen_global : (b : Bool) (m : Meaning) (k : ℕ) → seen b m ≡ means.Global k → (m ≡ means.Global k) × (b ≡ true)
seen_global true m k h = (h, refl)
seen_global false (means.Global j) k h = absurd (let bad : means.Nothing ≡ means.Global k = h in cc)
seen_global false means.Nothing k h = absurd (let bad : means.Nothing ≡ means.Global k = h in cc)
seen_global false (means.Constant j) k h = absurd (let bad : means.Constant j ≡ means.Global k = h in cc)
seen_global false (means.Candidate j) k h = absurd (let bad : means.Candidate j ≡ means.Global k = h in cc)
seen_global false (means.Local j) k h = absurd (let bad : means.Local j ≡ means.Global k = h in cc)

seen_local : (b : Bool) (m : Meaning) (k : ℕ) → seen b m ≡ means.Local k → m ≡ means.Local k
seen_local true m k h = h
seen_local false (means.Global j) k h = absurd (let bad : means.Nothing ≡ means.Local k = h in cc)
seen_local false means.Nothing k h = h
seen_local false (means.Constant j) k h = h
seen_local false (means.Candidate j) k h = h
seen_local false (means.Local j) k h = h

-- what the space of values says of a name
abbrev value_of : Scope → List ℕ → Meaning
value_of s x = value_at s.meanings (place s.values x)

pub meaning_constant : (s : Scope) (x : List ℕ) (k : ℕ) → meaning s x ≡ means.Constant k → value_at s.meanings (place s.values x) ≡ means.Constant k
unfolding meaning
meaning_constant s x k h = by (place s.frame x) h
  where
    by : (o : Option ℕ) → in_frame o (seen s.sees_globals (value_of s x)) ≡ means.Constant k → value_of s x ≡ means.Constant k
    by None e = seen_constant s.sees_globals (value_of s x) k e
    by (Some j) e = absurd (let bad : means.Local j ≡ means.Constant k = e in cc)

pub meaning_global : (s : Scope) (x : List ℕ) (k : ℕ) → meaning s x ≡ means.Global k → (value_at s.meanings (place s.values x) ≡ means.Global k) × (s.sees_globals ≡ true)
unfolding meaning
meaning_global s x k h = by (place s.frame x) h
  where
    by : (o : Option ℕ) → in_frame o (seen s.sees_globals (value_of s x)) ≡ means.Global k → (value_of s x ≡ means.Global k) × (s.sees_globals ≡ true)
    by None e = seen_global s.sees_globals (value_of s x) k e
    by (Some j) e = absurd (let bad : means.Local j ≡ means.Global k = e in cc)

pub meaning_local : (s : Scope) (x : List ℕ) (k : ℕ) → ((j : ℕ) → value_at s.meanings (place s.values x) ≡ means.Local j → ⊥) → meaning s x ≡ means.Local k → place s.frame x ≡ Some k
unfolding meaning
meaning_local s x k never_local h = by (place s.frame x) h
  where
    by : (o : Option ℕ) → in_frame o (seen s.sees_globals (value_of s x)) ≡ means.Local k → o ≡ Some k
    by None e = absurd (never_local k (seen_local s.sees_globals (value_of s x) k e))
    by (Some j) e = let whole : means.Local j ≡ means.Local k = e in let same : j ≡ k = cc in ap (λ (n : ℕ). Some n) same

-- a signature has what a program declares, and a frame's names
pub record Holds (p : r.Program) (frame : List (List ℕ)) (sees : Bool) (sig : Sig) : Type 0 where
  pub constants : length sig.constants ≡ length p.constants
  pub globals : sees ≡ true → length sig.globals ≡ length p.globals
  pub names : length frame ≤ length sig.frame
  pub functions : length sig.functions ≡ length p.functions

pub never_local : (g : Spaces) (p : r.Program) → HasNumbers g p → (x : List ℕ) (k : ℕ) → value_at g.meanings (place g.values x) ≡ means.Local k → ⊥
never_local g p h x k e = subst (λ (m : Meaning). IsMeant g.values p x m) e (h.values x)

pub global_is : (g : Spaces) (p : r.Program) → HasNumbers g p → (frame : List (List ℕ)) (sees old : Bool) (x : List ℕ) (k : ℕ) → meaning (scope_in g frame sees old) x ≡ means.Global k → IsNumber (map declared_id p.globals) x k
global_is g p h frame sees old x k e = subst (λ (m : Meaning). IsMeant g.values p x m) (meaning_global (scope_in g frame sees old) x k e).0 (h.values x)

number_small : {A : Type 0} (name : A → t.Id) (xs : List A) (x : List ℕ) (k : ℕ) → IsNumber (map name xs) x k → k < length xs
number_small name xs x k h =
    let small = get_small (map name xs) k h.0 h.1 in
    let long = length-map xs name in
    omega (arith, small, long)

pub covers : (g : Spaces) (p : r.Program) → HasNumbers g p → (frame : List (List ℕ)) (sees old : Bool) (sig : Sig) → Holds p frame sees sig → Covers (scope_in g frame sees old) sig
covers g p n frame sees old sig h =
    let s = scope_in g frame sees old in
    record {
      constants = λ x k e.
          (let small = number_small constant_id p.constants x k (subst (λ (m : Meaning). IsMeant g.values p x m) (meaning_constant s x k e) (n.values x)) in
          let long = h.constants in
          omega (arith, small, long));
      globals = λ x k e.
          (let small = number_small declared_id p.globals x k (global_is g p n frame sees old x k e) in
          let long = h.globals (meaning_global s x k e).1 in
          omega (arith, small, long));
      frame = λ x k e.
          (let small = (place_is frame x k (meaning_local s x k (never_local g p n x) e)).small in
          let long = h.names in
          omega (arith, small, long));
      functions = λ x k e.
          (let small = number_small function_id p.functions x k (n.functions x k e) in
          let long = h.functions in
          omega (arith, small, long));
    }
