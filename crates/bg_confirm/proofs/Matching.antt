-- Names and values of constants, as the code compares them.
use Rattle.std.proofs.Common.{◌≡◌, ℕ, Bool, true, false, List, [], ◌∷◌, map, refl, sym, ap, ◌∙◌}
use Rattle.std.specs.Prelude.{◌&&◌}
use Rattle.std.proofs.lemmas.Slice.Eq.{bytes_eq-Decides}
use Rattle.bg_ast.specs.Resolved as r
use Rattle.bg_ast.specs.Views.{const_of}
use Rattle.bg_ast.specs.declared.resolved.Constant.{Constant}
use Rattle.bg_sense.proofs.Bools.{both, and_left, and_right}
use Rattle.bg_ast.specs.Values.{Ty}
use Rattle.bg_certtext.specs.declared.text.Given.{Given}
use Rattle.bg_certtext.specs.Views.{given_of}
use Rattle.bg_confirm.specs.Pairs.{each_fits}
use Rattle.bg_confirm.specs.Named.{same_name, given_fits}
use Rattle.bg_confirm.specs.Typed.{values_fit}

-- ---- names

abbrev pub given_names : List Given → List (List ℕ)
given_names gs = map (λ g. g.name) (map given_of gs)

abbrev pub constant_names : List Constant → List (List ℕ)
constant_names cs = map (λ c. c.name.text) (map const_of cs)

pub named : (cs : List Constant) (gs : List Given) → each_fits same_name cs gs ≡ true → given_names gs ≡ constant_names cs
named [] [] h = refl
named [] (g ∷ gs) h = absurd (let b : ⊥ = cc in b)
named (c ∷ cs) [] h = absurd (let b : ⊥ = cc in b)
named (c ∷ cs) (g ∷ gs) h =
    let e = (bytes_eq-Decides c.name.text.items g.name.now).0 (and_left (same_name c g) (each_fits same_name cs gs) h) in
    let r = named cs gs (and_right (same_name c g) (each_fits same_name cs gs) h) in
    rw (e, r) refl

pub names_fit : (cs : List Constant) (gs : List Given) → given_names gs ≡ constant_names cs → each_fits same_name cs gs ≡ true
names_fit [] [] h = refl
names_fit [] (g ∷ gs) h = absurd (let b : ⊥ = cc in b)
names_fit (c ∷ cs) [] h = absurd (let b : ⊥ = cc in b)
names_fit (c ∷ cs) (g ∷ gs) h =
    let e : g.name.now ≡ c.name.text.items = cc in
    let r : given_names gs ≡ constant_names cs = cc in
    both (same_name c g) (each_fits same_name cs gs) ((bytes_eq-Decides c.name.text.items g.name.now).1 (sym e)) (names_fit cs gs r)

-- ---- values

pub values_alike : (types : List r.TypeName) (hs : List Ty) (gs : List Given) → each_fits (given_fits types) hs gs ≡ values_fit types hs (map (λ g. g.value) (map given_of gs))
values_alike types [] [] = refl
values_alike types [] (g ∷ gs) = refl
values_alike types (h ∷ hs) [] = refl
values_alike types (h ∷ hs) (g ∷ gs) = ap (λ (b : Bool). given_fits types h g && b) (values_alike types hs gs)

-- ---- tests of the code

pub true_false : true ≡ false → ⊥
true_false e = let b : ⊥ = cc in b

-- where what is asked isn't so
pub not_so : (P : Type 0) → (P → ⊥) → (false ≡ true → P) × (P → false ≡ true)
not_so P n = (λ b. absurd (true_false (sym b)), λ h. absurd (n h))

-- what the code finds of names
pub named_by : (cs ds : List Constant) (gs : List Given) (b : Bool) → ds ≡ cs → b ≡ each_fits same_name ds gs → b ≡ true → given_names gs ≡ constant_names cs
named_by cs ds gs b e s t =
    named cs gs (sym (ap (λ (l : List Constant). each_fits same_name l gs) e) ∙ (sym s ∙ t))

pub unnamed_by : (cs ds : List Constant) (gs : List Given) (b : Bool) → ds ≡ cs → b ≡ each_fits same_name ds gs → b ≡ false → given_names gs ≡ constant_names cs → ⊥
unnamed_by cs ds gs b e s f h =
    true_false (sym (s ∙ (ap (λ (l : List Constant). each_fits same_name l gs) e ∙ names_fit cs gs h)) ∙ f)

-- and of values
pub typed_by : (us types : List r.TypeName) (hs its : List Ty) (gs all : List Given) (b : Bool) → us ≡ types → hs ≡ its → gs ≡ all → b ≡ each_fits (given_fits us) hs gs → b ≡ values_fit types its (map (λ g. g.value) (map given_of all))
typed_by us types hs its gs all b d e f s =
    s ∙ (values_alike us hs gs
    ∙ (ap (λ (l : List r.TypeName). values_fit l hs (map (λ g. g.value) (map given_of gs))) d
    ∙ (ap (λ (l : List Ty). values_fit types l (map (λ g. g.value) (map given_of gs))) e
    ∙ ap (λ (l : List Given). values_fit types its (map (λ g. g.value) (map given_of l))) f)))
