-- A decision makes only clauses false, or units, in which its other literal stands.
use Rattle.std.proofs.Common.{◌≡◌, ℕ, Bool, true, false, not, ◌&&◌, ◌||◌, ◌==◌, List, [], ◌∷◌, ◌++◌, refl, sym, ap, ◌∙◌}
use Rattle.bg_formula.specs.declared.atom.Literal.{Literal}
use Rattle.bg_formula.specs.Meaning.{same}
use Rattle.bg_cert.specs.declared.cert.Decision.{Decision}
use Rattle.bg_cert.specs.declared.cert.Decision.TheVariants.{Atom}
use Rattle.bg_cert.specs.Paths.{is_decision, decides, clause_false}
use Rattle.bg_cert.specs.Causes.{is_decided, has_true, undecided, is_one, is_among, is_unit}
use Rattle.bg_cert.proofs.Follow.{and_of, or_left, or_right}
use Rattle.bg_cert.proofs.Untouched.{decides_snoc, unit_untouched}
use Rattle.bg_pick.specs.Index.{stands}
use Rattle.bg_pick.proofs.Below.{split_and}
use Rattle.bg_pick.proofs.Opens.{split_or}

flip : (x s : Bool) → same (not x) s ≡ same x (not s)
flip true true = refl
flip true false = refl
flip false true = refl
flip false false = refl

first_of_two : (a b : Bool) → (a || b) ≡ true → b ≡ false → a ≡ true
first_of_two true b h k = refl
first_of_two false b h k = absurd (cc)

decided_before : (b : ℕ) (t : Bool) (a : ℕ) (s : Bool) (ds : List Decision) → decides b t (ds ++ (Atom a s ∷ [])) ≡ true → is_decision b t (Atom a s) ≡ false → decides b t ds ≡ true
decided_before b t a s ds h k = first_of_two (decides b t ds) (is_decision b t (Atom a s)) (sym (decides_snoc b t ds (Atom a s)) ∙ h) k

pub false_stays : (a : ℕ) (s : Bool) (ds : List Decision) (c : List Literal) → stands a (not s) c ≡ false → clause_false (ds ++ (Atom a s ∷ [])) c ≡ true → clause_false ds c ≡ true
false_stays a s ds [] h k = refl
false_stays a s ds (l ∷ ls) h k =
    let n = split_or (l.atom == a && same l.sign (not s)) (stands a (not s) ls) h in
    let p = split_and (decides l.atom (not l.sign) (ds ++ (Atom a s ∷ []))) (clause_false (ds ++ (Atom a s ∷ [])) ls) k in
    and_of (decides l.atom (not l.sign) ds) (clause_false ds ls) (decided_before l.atom (not l.sign) a s ds p.0 (ap (λ x. l.atom == a && x) (flip l.sign s) ∙ n.0)) (false_stays a s ds ls n.1 p.1)

-- ---- a unit

no_stand : (a : ℕ) (s : Bool) (ds : List Decision) (c : List Literal) → has_true (ds ++ (Atom a s ∷ [])) c ≡ false → stands a s c ≡ false
no_stand a s ds [] h = refl
no_stand a s ds (l ∷ ls) h =
    let n = split_or (decides l.atom l.sign (ds ++ (Atom a s ∷ []))) (has_true (ds ++ (Atom a s ∷ [])) ls) h in
    let p = split_or (decides l.atom l.sign ds) (is_decision l.atom l.sign (Atom a s)) (sym (decides_snoc l.atom l.sign ds (Atom a s)) ∙ n.0) in
    or_no (l.atom == a && same l.sign s) (stands a s ls) p.1 (no_stand a s ds ls n.1)
  where
    or_no : (x y : Bool) → x ≡ false → y ≡ false → (x || y) ≡ false
    or_no true y e g = absurd (cc)
    or_no false y e g = g

neither_sign : (e x s : Bool) → (e && same x s) ≡ false → (e && same x (not s)) ≡ false → e ≡ false
neither_sign false x s h k = refl
neither_sign true true true h k = absurd (cc)
neither_sign true true false h k = absurd (cc)
neither_sign true false true h k = absurd (cc)
neither_sign true false false h k = absurd (cc)

none_among : (a : ℕ) (s : Bool) (c : List Literal) → stands a s c ≡ false → stands a (not s) c ≡ false → is_among a c ≡ false
none_among a s [] h k = refl
none_among a s (l ∷ ls) h k =
    let n = split_or (l.atom == a && same l.sign s) (stands a s ls) h in
    let p = split_or (l.atom == a && same l.sign (not s)) (stands a (not s) ls) k in
    or_no (l.atom == a) (is_among a ls) (neither_sign (l.atom == a) l.sign s n.0 p.0) (none_among a s ls n.1 p.1)
  where
    or_no : (x y : Bool) → x ≡ false → y ≡ false → (x || y) ≡ false
    or_no true y e g = absurd (cc)
    or_no false y e g = g

pub unit_stays : (a : ℕ) (s : Bool) (ds : List Decision) (c : List Literal) → stands a (not s) c ≡ false → is_unit (ds ++ (Atom a s ∷ [])) c ≡ true → is_unit ds c ≡ true
unit_stays a s ds c h k =
    let p = split_and (not (has_true (ds ++ (Atom a s ∷ [])) c)) (is_one (undecided (ds ++ (Atom a s ∷ [])) c)) k in
    sym (unit_untouched a s ds c (none_among a s c (no_stand a s ds c (is_no (has_true (ds ++ (Atom a s ∷ [])) c) p.0)) h)) ∙ k
  where
    is_no : (b : Bool) → not b ≡ true → b ≡ false
    is_no true e = absurd (cc)
    is_no false e = refl

-- ---- what stays true

pub decides_more : (b : ℕ) (t : Bool) (ds : List Decision) (d : Decision) → decides b t ds ≡ true → decides b t (ds ++ (d ∷ [])) ≡ true
decides_more b t ds d h = decides_snoc b t ds d ∙ or_left (decides b t ds) (is_decision b t d) h

pub true_more : (ds : List Decision) (d : Decision) (c : List Literal) → has_true ds c ≡ true → has_true (ds ++ (d ∷ [])) c ≡ true
true_more ds d [] h = absurd (cc)
true_more ds d (l ∷ ls) h =
    by_first (λ g. true_more ds d ls g) (decides l.atom l.sign ds) refl h
  where
    by_first : (has_true ds ls ≡ true → has_true (ds ++ (d ∷ [])) ls ≡ true) → (x : Bool) → decides l.atom l.sign ds ≡ x → (x || has_true ds ls) ≡ true → (decides l.atom l.sign (ds ++ (d ∷ [])) || has_true (ds ++ (d ∷ [])) ls) ≡ true
    by_first r true e g = or_left (decides l.atom l.sign (ds ++ (d ∷ []))) (has_true (ds ++ (d ∷ [])) ls) (decides_more l.atom l.sign ds d e)
    by_first r false e g = or_right (decides l.atom l.sign (ds ++ (d ∷ []))) (has_true (ds ++ (d ∷ [])) ls) (r g)

pub decided_more : (a : ℕ) (ds : List Decision) (d : Decision) → is_decided a ds ≡ true → is_decided a (ds ++ (d ∷ [])) ≡ true
decided_more a ds d h = by_first (decides a true ds) refl h
  where
    by_first : (x : Bool) → decides a true ds ≡ x → (x || decides a false ds) ≡ true → (decides a true (ds ++ (d ∷ [])) || decides a false (ds ++ (d ∷ []))) ≡ true
    by_first true e g = or_left (decides a true (ds ++ (d ∷ []))) (decides a false (ds ++ (d ∷ []))) (decides_more a true ds d e)
    by_first false e g = or_right (decides a true (ds ++ (d ∷ []))) (decides a false (ds ++ (d ∷ []))) (decides_more a false ds d g)
