-- Variables that a body changes: they are declared, may be changed, and no two names of a list mean the same one.
use Rattle.std.proofs.Common.{◌≡◌, ℕ, ◌<◌, ◌≤◌, Bool, true, false, List, [], ◌∷◌, ◌++◌, length, map, Some, get_or, refl, sym, ap, ◌∙◌, subst, arith, inl, inr}
use Rattle.std.specs.Prelude.{◌||◌, not, nat_lt, if◌then◌else◌, flat_map, Contains}
use Rattle.std.specs.Str.{bytes_eq}
use Rattle.std.proofs.lemmas.Bool.{ltb-false, not-true}
use Rattle.std.proofs.lemmas.List.Folds.{list_any-append}
use Rattle.std.proofs.lemmas.List.Quantifiers.{position-Some}
use Rattle.std.proofs.lemmas.Slice.Eq.{bytes_eq-Decides}
use Rattle.bg_text.specs.Trees as t
use Rattle.bg_ast.specs.Syntax.{Var, Global, Local, Decl}
use Rattle.bg_names.specs.declared.error.FaultKind.TheVariants as kinds
use Rattle.bg_names.specs.declared.scope.Meaning.{Meaning}
use Rattle.bg_names.specs.declared.scope.Meaning.TheVariants as means
use Rattle.bg_names.specs.Faults.{fault, unless}
use Rattle.bg_names.specs.Spaces.{has_name, with_name, repeats, place, meaning}
use Rattle.bg_names.specs.Inside.{Inside, has_number, change_faults, id_faults, variable_as, placed}
use Rattle.bg_sense.specs.Types.{types_of}
use Rattle.bg_sense.specs.Variables.{is_among, count_from, globals_of, modified}
use Rattle.bg_sense.specs.Typed.{Around, MayChange, AreApart, sig_around}
use Rattle.bg_sense.proofs.Members.{In, contained, member}
use Rattle.bg_typed.specs.Naming.{IsVariable}
use Rattle.bg_named.specs.Covers.{CoversBody}
use Rattle.bg_named.proofs.ExprsBits.{never, faulty, split_nil, holds}
use Rattle.bg_named.proofs.StmtsMembers.{in_map, in_mapped, in_filter, in_counted, in_numbers, or_left, or_right, among_globals, each_nil}

pub as_many : (ds : List Decl) → length (types_of ds) ≡ length ds
as_many [] = refl
as_many (d ∷ ds) = let r = as_many ds in omega (arith, r)

-- a declared global that the procedure's list names is one that it modifies
pub may_change_global : (b : Inside) (w : Around) → CoversBody b w → (k : ℕ) → k < length w.program.globals → has_number b.modifies k ≡ true → Contains (modified w.program w.procedure) (Global k)
may_change_global b w c k l h =
    let listed : In w.procedure.modifies k = subst (λ (ks : List ℕ). In ks k) c.modifies (in_numbers b.modifies k h) in
    let counted : In (count_from 0 (length w.program.globals)) k = in_counted k 0 (length w.program.globals) (omega arith) (omega (arith, l)) in
    contained
    (modified w.program w.procedure)
    (Global k)
    (in_filter (is_among (map Global w.procedure.modifies)) (globals_of w.program) (Global k) (in_map Global _ k counted) (among_globals w.procedure.modifies k listed))

not_below : (k n : ℕ) → not (nat_lt k n) ≡ true → n ≤ k
not_below k n h = ltb-false k n (not-true (nat_lt k n) h)

pub may_change : (b : Inside) (w : Around) → CoversBody b w → (x : t.Id) → id_faults b x ≡ [] → MayChange w (placed b x).variable
may_change b w c x n = by (meaning b.scope x.text) refl n
  where
    by : (m : Meaning) → meaning b.scope x.text ≡ m → change_faults b x m ≡ [] → MayChange w (variable_as m)
    by means.Nothing e n = faulty (fault kinds.UnknownName x.pos x.text) [] n
    by (means.Constant k) e n = faulty (fault kinds.AssignsInput x.pos x.text) [] n
    by (means.Candidate k) e n = faulty (fault kinds.AssignsInput x.pos x.text) [] n
    by (means.Local k) e n =
        let far : b.inputs ≤ k = not_below k b.inputs (holds (not (nat_lt k b.inputs)) (fault kinds.AssignsInput x.pos x.text) n) in
        let same = c.inputs in
        let near = c.names.frame x.text k e in
        let many = as_many w.variables in
        (omega (arith, far, same), omega (arith, near, many))
    by (means.Global k) e n =
        let there = c.names.globals x.text k e in
        let many = as_many w.program.globals in
        may_change_global b w c k (omega (arith, there, many)) (holds (has_number b.modifies k) (fault kinds.NotModified x.pos x.text) n)

pub is_declared : (b : Inside) (w : Around) → CoversBody b w → (x : t.Id) → id_faults b x ≡ [] → IsVariable (sig_around w) (placed b x).variable
is_declared b w c x n = by (meaning b.scope x.text) refl n
  where
    by : (m : Meaning) → meaning b.scope x.text ≡ m → change_faults b x m ≡ [] → IsVariable (sig_around w) (variable_as m)
    by means.Nothing e n = faulty (fault kinds.UnknownName x.pos x.text) [] n
    by (means.Constant k) e n = faulty (fault kinds.AssignsInput x.pos x.text) [] n
    by (means.Candidate k) e n = faulty (fault kinds.AssignsInput x.pos x.text) [] n
    by (means.Local k) e n = c.names.frame x.text k e
    by (means.Global k) e n = c.names.globals x.text k e

-- two names with one place are one name
one_place : (names : List (List ℕ)) (x y : List ℕ) (k : ℕ) → place names x ≡ Some k → place names y ≡ Some k → x ≡ y
unfolding place
one_place names x y k h i =
    let first = (bytes_eq-Decides x (get_or names k [])).0 (position-Some (bytes_eq x) names k [] h).1 in
    let second = (bytes_eq-Decides y (get_or names k [])).0 (position-Some (bytes_eq y) names k [] i).1 in
    first ∙ sym second

module _ (b : Inside) (w : Around) (c : CoversBody b w) (x y : t.Id) where
  one_meaning : (m n : Meaning) → meaning b.scope x.text ≡ m → meaning b.scope y.text ≡ n → change_faults b x m ≡ [] → change_faults b y n ≡ [] → variable_as m ≡ variable_as n → x.text ≡ y.text
  one_meaning means.Nothing n e f h i v = faulty (fault kinds.UnknownName x.pos x.text) [] h
  one_meaning (means.Constant k) n e f h i v = faulty (fault kinds.AssignsInput x.pos x.text) [] h
  one_meaning (means.Candidate k) n e f h i v = faulty (fault kinds.AssignsInput x.pos x.text) [] h
  one_meaning (means.Local k) means.Nothing e f h i v = faulty (fault kinds.UnknownName y.pos y.text) [] i
  one_meaning (means.Local k) (means.Constant l) e f h i v = faulty (fault kinds.AssignsInput y.pos y.text) [] i
  one_meaning (means.Local k) (means.Candidate l) e f h i v = faulty (fault kinds.AssignsInput y.pos y.text) [] i
  one_meaning (means.Local k) (means.Local l) e f h i v =
      let vars : Local k ≡ Local l = v in
      let same : k ≡ l = cc in
      one_place b.scope.frame x.text y.text k (c.places x.text k e) (c.places y.text l f ∙ ap Some (sym same))
  one_meaning (means.Local k) (means.Global l) e f h i v =
      let vars : Local k ≡ Global l = v in absurd (let bad : ⊥ = cc in bad)
  one_meaning (means.Global k) means.Nothing e f h i v = faulty (fault kinds.UnknownName y.pos y.text) [] i
  one_meaning (means.Global k) (means.Constant l) e f h i v = faulty (fault kinds.AssignsInput y.pos y.text) [] i
  one_meaning (means.Global k) (means.Candidate l) e f h i v = faulty (fault kinds.AssignsInput y.pos y.text) [] i
  one_meaning (means.Global k) (means.Local l) e f h i v =
      let vars : Global k ≡ Local l = v in absurd (let bad : ⊥ = cc in bad)
  one_meaning (means.Global k) (means.Global l) e f h i v =
      let vars : Global k ≡ Global l = v in
      let same : k ≡ l = cc in
      c.apart x.text y.text k e (f ∙ ap means.Global (sym same))

  -- two names of one variable that a body changes are one name
  pub one_name : id_faults b x ≡ [] → id_faults b y ≡ [] → (placed b x).variable ≡ (placed b y).variable → x.text ≡ y.text
  one_name h i v = one_meaning (meaning b.scope x.text) (meaning b.scope y.text) refl refl h i v

with_same : (names : List (List ℕ)) (x : List ℕ) → has_name (with_name names x) x ≡ true
unfolding with_name
with_same names x = by (has_name names x) refl
  where
    here : (y : List ℕ) → bytes_eq x y ≡ true → has_name (y ∷ []) x ≡ true
    here y e = ap (λ (a : Bool). a || false) e

    by : (a : Bool) → has_name names x ≡ a → has_name (if a then names else names ++ x ∷ []) x ≡ true
    by true e = e
    by false e = list_any-append (bytes_eq x) names (x ∷ []) ∙ or_right (has_name names x) (has_name (x ∷ []) x) (here x ((bytes_eq-Decides x x).1 refl))

with_kept : (names : List (List ℕ)) (x y : List ℕ) → has_name names y ≡ true → has_name (with_name names x) y ≡ true
unfolding with_name
with_kept names x y h = by (has_name names x)
  where
    by : (a : Bool) → has_name (if a then names else names ++ x ∷ []) y ≡ true
    by true = h
    by false = list_any-append (bytes_eq y) names (x ∷ []) ∙ or_left (has_name names y) (has_name (x ∷ []) y) h

-- where no name is repeated, none is one of those before
new_names : (names : List (List ℕ)) (xs : List t.Id) (y : List ℕ) → has_name names y ≡ true → repeats names xs ≡ [] → (x : t.Id) → In xs x → x.text ≡ y → ⊥
new_names names [] y h n x i e = i
new_names names (z ∷ zs) y h n x (inl s) e =
    let parts = split_nil (unless (not (has_name names z.text)) (fault kinds.Duplicate z.pos z.text)) (repeats (with_name names z.text) zs) n in
    let new : has_name names z.text ≡ false = not-true (has_name names z.text) (holds (not (has_name names z.text)) (fault kinds.Duplicate z.pos z.text) parts.0) in
    let same : z.text ≡ y = ap (λ (i : t.Id). i.text) s ∙ e in
    never (sym new ∙ (ap (has_name names) same ∙ h))
new_names names (z ∷ zs) y h n x (inr i) e =
    let parts = split_nil (unless (not (has_name names z.text)) (fault kinds.Duplicate z.pos z.text)) (repeats (with_name names z.text) zs) n in
    new_names (with_name names z.text) zs y (with_kept names z.text y h) parts.1 x i e

-- the variables that names mean
abbrev pub variables : Inside → List t.Id → List Var
variables b xs = map (λ (x : t.Id). (placed b x).variable) xs

pub variables_apart : (b : Inside) (w : Around) → CoversBody b w → (names : List (List ℕ)) (xs : List t.Id) → repeats names xs ≡ [] → flat_map (id_faults b) xs ≡ [] → AreApart (variables b xs)
variables_apart b w c names [] n f = tt
variables_apart b w c names (x ∷ xs) n f =
    let faults = split_nil (id_faults b x) (flat_map (id_faults b) xs) f in
    let parts = split_nil (unless (not (has_name names x.text)) (fault kinds.Duplicate x.pos x.text)) (repeats (with_name names x.text) xs) n in
    (other faults parts.1, variables_apart b w c (with_name names x.text) xs parts.1 faults.1)
  where
    other : (id_faults b x ≡ []) × (flat_map (id_faults b) xs ≡ []) → repeats (with_name names x.text) xs ≡ [] → Contains (variables b xs) (placed b x).variable → ⊥
    other faults rest h =
        let at = in_mapped (λ (y : t.Id). (placed b y).variable) xs (placed b x).variable (member (variables b xs) (placed b x).variable h) in
        new_names (with_name names x.text) xs x.text (with_same names x.text) rest at.0 at.2 (one_name b w c at.0 x (each_nil (id_faults b) xs faults.1 at.0 at.2) faults.0 at.1)

pub may_change_all : (b : Inside) (w : Around) → CoversBody b w → (xs : List t.Id) → flat_map (id_faults b) xs ≡ [] → (v : Var) → In (variables b xs) v → MayChange w v
may_change_all b w c xs f v i =
    let at = in_mapped (λ (y : t.Id). (placed b y).variable) xs v i in
    subst (MayChange w) at.1 (may_change b w c at.0 (each_nil (id_faults b) xs f at.0 at.2))
