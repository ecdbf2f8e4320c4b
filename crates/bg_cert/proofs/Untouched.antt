-- A decision changes only clauses in which its atom stands.
use Rattle.std.proofs.Common.{◌≡◌, ℕ, Bool, true, false, not, ◌&&◌, ◌||◌, ◌==◌, cond, List, [], ◌∷◌, ◌++◌, refl, sym, ap, ◌∙◌}
use Rattle.bg_formula.specs.declared.atom.Literal.{Literal}
use Rattle.bg_cert.specs.declared.cert.Decision.{Decision}
use Rattle.bg_cert.specs.declared.cert.Decision.TheVariants.{Atom}
use Rattle.bg_cert.specs.Paths.{is_decision, decides, clause_false}
use Rattle.bg_cert.specs.Causes.{is_decided, has_true, undecided, is_one, is_among, is_unit}

or_assoc : (a b c : Bool) → ((a || b) || c) ≡ (a || (b || c))
or_assoc true b c = refl
or_assoc false b c = refl

or_false : (a : Bool) → (a || false) ≡ a
or_false true = refl
or_false false = refl

pub decides_snoc : (b : ℕ) (t : Bool) (ds : List Decision) (d : Decision) → decides b t (ds ++ (d ∷ [])) ≡ (decides b t ds || is_decision b t d)
decides_snoc b t [] d = or_false (is_decision b t d)
decides_snoc b t (e ∷ ds) d = ap (λ x. is_decision b t e || x) (decides_snoc b t ds d) ∙ sym (or_assoc (is_decision b t e) (decides b t ds) (is_decision b t d))

-- the decision speaks of no other atom
other : (b a : ℕ) (t s : Bool) → (b == a) ≡ false → is_decision b t (Atom a s) ≡ false
other b a t s h = rw h refl

pub decides_other : (b a : ℕ) (t s : Bool) (ds : List Decision) → (b == a) ≡ false → decides b t (ds ++ (Atom a s ∷ [])) ≡ decides b t ds
decides_other b a t s ds h = decides_snoc b t ds (Atom a s) ∙ ap (λ x. decides b t ds || x) (other b a t s h) ∙ or_false (decides b t ds)

neither : (a b : Bool) → (a || b) ≡ false → (a ≡ false) × (b ≡ false)
neither true b h = absurd (cc)
neither false b h = (refl, h)

pub false_untouched : (a : ℕ) (s : Bool) (ds : List Decision) (c : List Literal) → is_among a c ≡ false → clause_false (ds ++ (Atom a s ∷ [])) c ≡ clause_false ds c
false_untouched a s ds [] h = refl
false_untouched a s ds (l ∷ ls) h =
    let n = neither (l.atom == a) (is_among a ls) h in
    ap (λ x. x && clause_false (ds ++ (Atom a s ∷ [])) ls) (decides_other l.atom a (not l.sign) s ds n.0)
    ∙ ap (λ x. decides l.atom (not l.sign) ds && x) (false_untouched a s ds ls n.1)

pub true_untouched : (a : ℕ) (s : Bool) (ds : List Decision) (c : List Literal) → is_among a c ≡ false → has_true (ds ++ (Atom a s ∷ [])) c ≡ has_true ds c
true_untouched a s ds [] h = refl
true_untouched a s ds (l ∷ ls) h =
    let n = neither (l.atom == a) (is_among a ls) h in
    ap (λ x. x || has_true (ds ++ (Atom a s ∷ [])) ls) (decides_other l.atom a l.sign s ds n.0)
    ∙ ap (λ x. decides l.atom l.sign ds || x) (true_untouched a s ds ls n.1)

pub undecided_untouched : (a : ℕ) (s : Bool) (ds : List Decision) (c : List Literal) → is_among a c ≡ false → undecided (ds ++ (Atom a s ∷ [])) c ≡ undecided ds c
undecided_untouched a s ds [] h = refl
undecided_untouched a s ds (l ∷ ls) h =
    let n = neither (l.atom == a) (is_among a ls) h in
    let e : is_decided l.atom (ds ++ (Atom a s ∷ [])) ≡ is_decided l.atom ds =
    ap (λ x. x || decides l.atom false (ds ++ (Atom a s ∷ []))) (decides_other l.atom a true s ds n.0)
    ∙ ap (λ x. decides l.atom true ds || x) (decides_other l.atom a false s ds n.0) in
    ap (λ x. cond x (undecided (ds ++ (Atom a s ∷ [])) ls) (l ∷ undecided (ds ++ (Atom a s ∷ [])) ls)) e
    ∙ ap (λ us. cond (is_decided l.atom ds) us (l ∷ us)) (undecided_untouched a s ds ls n.1)

-- so only a clause with the atom can become a unit
pub unit_untouched : (a : ℕ) (s : Bool) (ds : List Decision) (c : List Literal) → is_among a c ≡ false → is_unit (ds ++ (Atom a s ∷ [])) c ≡ is_unit ds c
unit_untouched a s ds c h =
    ap (λ x. not x && is_one (undecided (ds ++ (Atom a s ∷ [])) c)) (true_untouched a s ds c h)
    ∙ ap (λ us. not (has_true ds c) && is_one us) (undecided_untouched a s ds c h)
