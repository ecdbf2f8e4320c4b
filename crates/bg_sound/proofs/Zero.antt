-- What status 0 says.
use Rattle.std.proofs.Common.{◌≡◌, ℕ, zero, suc, ◌+◌, Bool, true, false, ◌||◌, List, [], ◌∷◌, Some, slice_get, if◌then◌else◌, refl, sym, ap, ◌∙◌, subst, arith}
use Rattle.std.specs.List.{list_any}
use Rattle.bg_ast.specs.Syntax.{Prog}
use Rattle.bg_ast.specs.Resolved as r
use Rattle.bg_ast.specs.Meaning.{meaning_of}
use Rattle.bg_ast.specs.Execution.{Interp}
use Rattle.bg_sense.specs.Claims.{Meets, Safe}
use Rattle.bg_sound.specs.Told.{Axioms, Consistent, Contradictory, Undecided, Judged, Outcome, SomeRefuted, SomeUnknown, AllProved, retained, word_of, is_contradictory, is_undecided, has_refuted, has_unknown, status_of}
use Rattle.bg_sound.specs.Sound.{AreAxioms, AreTrueFrom, IsSound}

or_none : (a b : Bool) → (a || b) ≡ false → (a ≡ false) × (b ≡ false)
or_none true b h = absurd (let bad : true ≡ false = h in cc)
or_none false b h = (refl, h)

abbrev status_by : Bool → Bool → ℕ
status_by a b = if a then 1 else if b then 2 else 0

both_false : (a b : Bool) → status_by a b ≡ 0 → (a ≡ false) × (b ≡ false)
both_false true b h = absurd (let no : ⊥ = omega (arith, h) in no)
both_false false true h = absurd (let no : ⊥ = omega (arith, h) in no)
both_false false false h = (refl, refl)

consistent : (p : Prog) (a : Axioms) → is_contradictory a ≡ false → is_undecided a ≡ false → AreAxioms p a → (i : Interp) × Meets p i
consistent p Consistent c u h = h
consistent p Contradictory c u h = absurd (let bad : true ≡ false = c in cc)
consistent p (Undecided why) c u h = absurd (let bad : true ≡ false = u in cc)

proved : (js : List Judged) → has_refuted js ≡ false → has_unknown js ≡ false → word_of js ≡ AllProved
proved js a b =
    ap (λ (x : Bool). if x then SomeRefuted else if has_unknown js then SomeUnknown else AllProved) a
    ∙ ap (λ (x : Bool). if x then SomeUnknown else AllProved) b

safe_from : (p : r.Program) (set : ℕ → Bool) (k : ℕ) (ms : List r.Impl) (os : List (List Judged)) → AreTrueFrom p set k ms os → list_any has_refuted os ≡ false → list_any has_unknown os ≡ false → (j : ℕ) (m : r.Impl) → slice_get ms j ≡ Some m → Safe (meaning_of p) set (k + j)
safe_from p set k [] os t a b j m e = absurd (let bad : ⊥ = cc in bad)
safe_from p set k (i ∷ ms) [] t a b j m e = absurd t
safe_from p set k (i ∷ ms) (js ∷ os) t a b zero m e =
    let x = or_none (has_refuted js) (list_any has_refuted os) a in
    let y = or_none (has_unknown js) (list_any has_unknown os) b in
    let z : k + 0 ≡ k = omega arith in
    subst (Safe (meaning_of p) set) (sym z) (t.0.safe (proved js x.0 y.0))
safe_from p set k (i ∷ ms) (js ∷ os) t a b (suc j) m e =
    let x = or_none (has_refuted js) (list_any has_refuted os) a in
    let y = or_none (has_unknown js) (list_any has_unknown os) b in
    let z : suc k + j ≡ k + suc j = omega arith in
    subst (Safe (meaning_of p) set) z (safe_from p set (suc k) ms os t.1 x.1 y.1 j m e)

pub zero_is_safe : (p : r.Program) (o : Outcome) → IsSound p o → status_of o ≡ 0 → ((i : Interp) × Meets (meaning_of p) i) × ((k : ℕ) (m : r.Impl) → slice_get p.implementations k ≡ Some m → Safe (meaning_of p) (retained o) k)
zero_is_safe p o s h =
    let w = both_false (is_contradictory o.axioms || list_any has_refuted o.implementations) (is_undecided o.axioms || list_any has_unknown o.implementations) h in
    let a = or_none (is_contradictory o.axioms) (list_any has_refuted o.implementations) w.0 in
    let b = or_none (is_undecided o.axioms) (list_any has_unknown o.implementations) w.1 in
    (consistent (meaning_of p) o.axioms a.0 b.0 s.axioms, λ k m e. (let z : 0 + k ≡ k = omega arith in subst (Safe (meaning_of p) (retained o)) z (safe_from p (retained o) 0 p.implementations o.implementations s.implementations a.1 b.1 k m e)))
