-- Values that are assigned, and values behind others.
use Rattle.std.proofs.Common.{◌≡◌, ◌≤◌, ◌<◌, ◌+◌, ℕ, zero, suc, List, [], ◌∷◌, ◌++◌, map, length, drop, Option, Some, None, refl, sym, ap, ◌∙◌, arith, append_assoc, get_or, add-one, drop-cons}
use Rattle.bg_ast.specs.Values.{Val, Ty}
use Rattle.bg_ast.specs.Execution as run
use Rattle.bg_ast.specs.Syntax as s
use Rattle.bg_ast.specs.Resolved as r
use Rattle.bg_ast.specs.Meaning as m
use Rattle.bg_ast.specs.Views as view
use Rattle.bg_ast.specs.Views.{exs_in, target_of}
use Rattle.bg_ast.specs.declared.resolved.Expr.{Expr}
use Rattle.bg_ast.specs.declared.resolved.Target.{Target}
use Rattle.bg_kinds.specs.declared.kinds.ValueType.{ValueType}
use Rattle.bg_kinds.specs.Views.{ref_in}
use Rattle.bg_scalar.specs.Worths.{Seen, WorthOf, Is, worth}
use Rattle.bg_scalar.specs.Lists.{Listed, cons, worths, onto}
use Rattle.bg_scalar.specs.Values.{value_of}
use Rattle.bg_scalar.specs.Views.{vals_in, lent_in, worth_in}
use Rattle.bg_scalar.specs.Choices.{choice_of}
use Rattle.bg_scalar.specs.declared.choice.Choice.{Choice}
use Rattle.bg_scalar.specs.declared.value.Value.{Value}
use Rattle.bg_scalar.specs.declared.held.Lent.{Lent}
use Rattle.bg_scalar.specs.declared.held.Worth.{Worth}
use Rattle.bg_scalar.specs.declared.held.Worth.TheVariants as code
use Rattle.bg_scalar.proofs.Listing.{onto_one, onto_none}
use Rattle.bg_replay.specs.Acts.{taken, behind_one, append_o, cons_o, chosen}

pub values_none : (ts : List r.Target) → m.values_of ts r.NoMore ≡ s.NoMore
values_none [] = refl
values_none (t ∷ ts) = refl

-- no value is left to assign
pub values_past : (ts : List r.Target) (es : List Expr) (i : ℕ) → length es ≤ i → m.values_of ts (exs_in (drop i es)) ≡ s.NoMore
values_past ts [] zero h = values_none ts
values_past ts [] (suc i) h = values_none ts
values_past ts (e ∷ es) zero h = absurd (omega (arith, h))
values_past ts (e ∷ es) (suc i) h = values_past ts es i (omega (arith, h))

item : {A : Type 0} (xs : List A) (i : ℕ) (x : A) → i < length xs → x ≡ get_or xs i x → drop i xs ≡ x ∷ drop (i + 1) xs
item xs i x l at = rw (add-one, drop-cons xs i x l) (ap (λ y. y ∷ drop (suc i) xs) (sym at))

-- the value of the code's expression, where it is assigned to this target
abbrev pub assigned_worth : Target → Expr → Seen → WorthOf
assigned_worth t e v =
    worth (m.written (s.Read (target_of t).placed.variable) (target_of t).brackets (m.ex_of (view.ex_of e))) v

-- one more value that is assigned
pub value_step : (ts : List Target) (es : List Expr) (i : ℕ) (t : Target) (e : Expr) (v : Seen) (made new : List Value) (l : Lent) (x : Value) (a : Worth) (whole : Listed) → i < length ts → i < length es → t ≡ get_or ts i t → e ≡ get_or es i e → worth_in a ≡ assigned_worth t e v → a ≡ code.Is l → value_of x ≡ lent_in l → new ≡ made ++ x ∷ [] → onto (vals_in made) (worths (m.values_of (map target_of (drop i ts)) (exs_in (drop i es))) v) ≡ whole → onto (vals_in new) (worths (m.values_of (map target_of (drop (i + 1) ts)) (exs_in (drop (i + 1) es))) v) ≡ whole
value_step ts es i t e v made new y x a whole lt le at_t at_e h k own m' known =
    let us = drop (i + 1) ts in
    let fs = drop (i + 1) es in
    let rest = worths (m.values_of (map target_of us) (exs_in fs)) v in
    ap (λ ys. onto (vals_in ys) rest) m'
    ∙ (onto_one made x rest
    ∙ (ap (λ b. onto (vals_in made) (cons b rest)) (ap Is own ∙ (sym (ap worth_in k) ∙ h))
    ∙ (ap (λ xs. onto (vals_in made) (worths (m.values_of (map target_of xs) (exs_in (e ∷ fs))) v)) (sym (item ts i t lt at_t))
    ∙ (ap (λ xs. onto (vals_in made) (worths (m.values_of (map target_of (drop i ts)) (exs_in xs)) v)) (sym (item es i e le at_e)) ∙ known))))

-- one more value behind those that are there
vals_one : (xs : List Value) (x : Value) → vals_in (xs ++ x ∷ []) ≡ vals_in xs ++ value_of x ∷ []
vals_one [] x = refl
vals_one (y ∷ ys) x = ap (λ (l : List Val). value_of y ∷ l) (vals_one ys x)

pub append_one : (xs : List Value) (x : Value) (o : Option (List Val)) → append_o (vals_in (xs ++ x ∷ [])) o ≡ append_o (vals_in xs) (cons_o (Some (value_of x)) o)
append_one xs x None = refl
append_one xs x (Some ys) =
    ap Some (ap (λ (l : List Val). l ++ ys) (vals_one xs x) ∙ append_assoc (vals_in xs) (value_of x ∷ []) ys)

pub append_none : (o : Option (List Val)) → append_o [] o ≡ o
append_none None = refl
append_none (Some xs) = refl

pub ruleset append_forms = (append_one, append_none)

one_from : (hs : List ValueType) (i : ℕ) (t : ValueType) (u : Ty) (cs : List run.Choice) → i < length hs → t ≡ get_or hs i t → u ≡ ref_in t → chosen (map ref_in (drop i hs)) cs ≡ cons_o (taken u cs) (chosen (map ref_in (drop (i + 1) hs)) (behind_one cs))
one_from hs i t u cs l at is =
    let rest = map ref_in (drop (i + 1) hs) in
    ap (λ (l : List ValueType). chosen (map ref_in l) cs) (item hs i t l at)
    ∙ ap (λ (v : Ty). cons_o (taken v cs) (chosen rest (behind_one cs))) (sym is)

-- no choice is left for a variable
pub none_left : (made : List Value) (hs : List ValueType) (i : ℕ) (t : ValueType) (cs : List Choice) (all : Option (List Val)) → i < length hs → t ≡ get_or hs i t → length cs ≡ 0 → append_o (vals_in made) (chosen (map ref_in (drop i hs)) (map choice_of cs)) ≡ all → None ≡ all
none_left made hs i t [] all l at e h =
    sym (ap (append_o (vals_in made)) (one_from hs i t (ref_in t) [] l at refl)) ∙ h
none_left made hs i t (c ∷ cs) all l at e h = absurd (omega (arith, e))

-- a variable doesn't take the choice
pub none_taken : (made : List Value) (hs : List ValueType) (i : ℕ) (t : ValueType) (u : Ty) (c : Choice) (cs : List Choice) (all : Option (List Val)) → i < length hs → t ≡ get_or hs i t → u ≡ ref_in t → taken u (choice_of c ∷ map choice_of cs) ≡ None → append_o (vals_in made) (chosen (map ref_in (drop i hs)) (map choice_of (c ∷ cs))) ≡ all → None ≡ all
none_taken made hs i t u c cs all l at is e h =
    sym (ap (append_o (vals_in made)) (one_from hs i t u (map choice_of (c ∷ cs)) l at is ∙ ap (λ (o : Option Val). cons_o o (chosen (map ref_in (drop (i + 1) hs)) (map choice_of cs))) e)) ∙ h

-- a variable takes the choice
pub one_taken : (made more : List Value) (hs : List ValueType) (i : ℕ) (t : ValueType) (u : Ty) (c : Choice) (cs : List Choice) (y x : Value) (all : Option (List Val)) → i < length hs → t ≡ get_or hs i t → u ≡ ref_in t → taken u (choice_of c ∷ map choice_of cs) ≡ Some (value_of y) → value_of x ≡ value_of y → more ≡ made ++ x ∷ [] → append_o (vals_in made) (chosen (map ref_in (drop i hs)) (map choice_of (c ∷ cs))) ≡ all → append_o (vals_in more) (chosen (map ref_in (drop (i + 1) hs)) (map choice_of cs)) ≡ all
one_taken made more hs i t u c cs y x all l at is e own f h =
    let rest = chosen (map ref_in (drop (i + 1) hs)) (map choice_of cs) in
    ap (λ ys. append_o (vals_in ys) rest) f
    ∙ (append_one made x rest
    ∙ (sym (ap (append_o (vals_in made)) (one_from hs i t u (map choice_of (c ∷ cs)) l at is ∙ ap (λ (o : Option Val). cons_o o rest) (e ∙ ap Some (sym own)))) ∙ h))

pub ruleset value_forms = (values_past, values_none, onto_one, onto_none)
