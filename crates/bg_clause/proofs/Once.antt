-- Literals gone through from the last one back.
use Rattle.std.proofs.Common.{◌≡◌, ℕ, Bool, true, false, List, [], ◌∷◌, ◌++◌, reverse, Option, Some, None, refl, sym, ap, subst, ◌∙◌, eqb-true, append_assoc}
use Rattle.std.specs.Prelude.{not, ◌||◌, ◌&&◌, ◌==◌, if◌then◌else◌}
use Rattle.bg_formula.specs.declared.atom.Literal.{Literal}
use Rattle.bg_formula.specs.Meaning.{same}
use Rattle.bg_sense.proofs.Bools.{or_left, or_right}
use Rattle.bg_forms.specs.Forms.{opposite}
use Rattle.bg_forms.proofs.Meaning.{not_not}
use Rattle.bg_clause.specs.Emitted.{is_among, clashes}
use Rattle.std.proofs.lemmas.List.{reverse-append}
use mathlib.Core.Bool.{beq}
use Rattle.bg_clause.specs.Signs.{sign_among, IsOnceBy}

-- whether the sign of an atom is this one
abbrev pub says : Option Bool → Bool → Bool
says None s = false
says (Some b) s = same b s

literal_is : (k l : Literal) → k.atom ≡ l.atom → k.sign ≡ l.sign → k ≡ l
literal_is k l h e = ap (λ a. made a k.sign) h ∙ ap (made l.atom) e
  where
    made : ℕ → Bool → Literal
    made a s = record { atom = a; sign = s }

denied_sign : (a b : Bool) → same a b ≡ false → not a ≡ b
denied_sign true true h = absurd (let bad : ⊥ = cc in bad)
denied_sign true false h = refl
denied_sign false true h = refl
denied_sign false false h = absurd (let bad : ⊥ = cc in bad)

-- where none stands beside its denial, the sign of an atom tells which literal of it is there
pub among : (ls : List Literal) (l : Literal) → clashes ls ≡ false → is_among ls l ≡ says (sign_among ls l.atom) l.sign
among [] l h = refl
among (d ∷ ds) l h =
    by (d.atom == l.atom) refl (among ds l (or_right (is_among ds (opposite d)) (clashes ds) h))
  where
    own : (s : Bool) → same d.sign l.sign ≡ s → d.atom ≡ l.atom → (s || is_among ds l) ≡ s
    own true e a = refl
    own false e a =
        subst (λ k. is_among ds k ≡ false) (literal_is (opposite d) l a (denied_sign d.sign l.sign e)) (or_left (is_among ds (opposite d)) (clashes ds) h)

    by : (b : Bool) → (d.atom == l.atom) ≡ b → is_among ds l ≡ says (sign_among ds l.atom) l.sign → ((b && same d.sign l.sign) || is_among ds l) ≡ says (if b then Some d.sign else sign_among ds l.atom) l.sign
    by true e more = own (same d.sign l.sign) refl (eqb-true d.atom l.atom e)
    by false e more = more

pub clash_behind : (xs ys : List Literal) → clashes ys ≡ true → clashes (xs ++ ys) ≡ true
clash_behind [] ys h = h
clash_behind (x ∷ xs) ys h = or_true (is_among (xs ++ ys) (opposite x)) (clash_behind xs ys h)
  where
    or_true : (a : Bool) {b : Bool} → b ≡ true → (a || b) ≡ true
    or_true true h = refl
    or_true false h = h

-- an atom that has no sign, or this one
pub absent : (ls : List Literal) (l : Literal) (o : Option Bool) → clashes ls ≡ false → sign_among ls l.atom ≡ o → is_among ls l ≡ says o l.sign
absent ls l o h e = among ls l h ∙ ap (λ x. says x l.sign) e

pub keep_new : (f g : ℕ → Option Bool) (k n : List Literal) (l : Literal) (ls : List Literal) → IsOnceBy f k ls → f l.atom ≡ None → n ≡ k ++ l ∷ [] → ((a : ℕ) → g a ≡ (if l.atom == a then Some l.sign else f a)) → (true ≡ not (is_among ls (opposite l))) × (true ≡ true → IsOnceBy g n (l ∷ ls))
keep_new f g k n l ls h free kept signs =
    let none = sym (h.known l.atom) ∙ free in
    let here = absent ls l None h.apart none in
    let there = absent ls (opposite l) None h.apart none in (
      ap not (sym there),
      λ _. record {
        apart = rw (there) h.apart;
        once = ap reverse kept ∙ (reverse-append k (l ∷ []) ∙ (ap (λ x. l ∷ x) h.once ∙ rw (here) refl));
        known = λ a. signs a ∙ ap (λ x. if l.atom == a then Some l.sign else x) (h.known a);
      },
    )

same_signs : (a b : Bool) → beq a b ≡ not (same a (not b))
same_signs true true = refl
same_signs true false = refl
same_signs false true = refl
same_signs false false = refl

same_is : (a b : Bool) → beq a b ≡ true → a ≡ b
same_is true true h = refl
same_is true false h = absurd (let bad : ⊥ = cc in bad)
same_is false true h = absurd (let bad : ⊥ = cc in bad)
same_is false false h = refl

same_own : (a : Bool) → same a a ≡ true
same_own true = refl
same_own false = refl

same_denied : (a : Bool) → same a (not a) ≡ false
same_denied true = refl
same_denied false = refl

-- the sign that an atom has is known already
known_old : (ls : List Literal) (l : Literal) (b : Bool) (a : ℕ) → (l.atom == a) ≡ b → sign_among ls l.atom ≡ Some l.sign → sign_among ls a ≡ (if b then Some l.sign else sign_among ls a)
known_old ls l true a e h = subst (λ n. sign_among ls n ≡ Some l.sign) (eqb-true l.atom a e) h
known_old ls l false a e h = refl

pub keep_old : (f : ℕ → Option Bool) (k : List Literal) (l : Literal) (ls : List Literal) (s : Bool) → IsOnceBy f k ls → f l.atom ≡ Some s → (beq s l.sign ≡ not (is_among ls (opposite l))) × (beq s l.sign ≡ true → IsOnceBy f k (l ∷ ls))
keep_old f k l ls s h is =
    let some = sym (h.known l.atom) ∙ is in
    let there = absent ls (opposite l) (Some s) h.apart some in (
      same_signs s l.sign ∙ ap not (sym there),
      λ e.
          let equal = same_is s l.sign e in
          let own = some ∙ ap (λ x. Some x) equal in
          let here = absent ls l (Some l.sign) h.apart own ∙ same_own l.sign in
          let away = absent ls (opposite l) (Some l.sign) h.apart own ∙ same_denied l.sign in
          record {
            apart = rw (away) h.apart;
            once = h.once ∙ rw (here) refl;
            known = λ a. h.known a ∙ known_old ls l (l.atom == a) a refl own;
          },
    )

behind : (xs : List Literal) (l : Literal) (a : ℕ) → sign_among xs l.atom ≡ None → sign_among (xs ++ l ∷ []) a ≡ (if l.atom == a then Some l.sign else sign_among xs a)
behind [] l a free = refl
behind (x ∷ xs) l a free = by (x.atom == a) refl (x.atom == l.atom) refl free (λ h. behind xs l a h)
  where
    apart : x.atom ≡ a → (x.atom == l.atom) ≡ false → (d : Bool) → (l.atom == a) ≡ d → Some x.sign ≡ (if d then Some l.sign else Some x.sign)
    apart e f false g = refl
    apart e f true g = absurd (let same : x.atom ≡ l.atom = e ∙ sym (eqb-true l.atom a g) in let bad : ⊥ = cc in bad)

    by : (b : Bool) → (x.atom == a) ≡ b → (c : Bool) → (x.atom == l.atom) ≡ c → (if c then Some x.sign else sign_among xs l.atom) ≡ None → (sign_among xs l.atom ≡ None → sign_among (xs ++ l ∷ []) a ≡ (if l.atom == a then Some l.sign else sign_among xs a)) → (if b then Some x.sign else sign_among (xs ++ l ∷ []) a) ≡ (if l.atom == a then Some l.sign else (if b then Some x.sign else sign_among xs a))
    by b e true f h more = absurd (let bad : ⊥ = cc in bad)
    by false e false f h more = more h
    by true e false f h more = apart (eqb-true x.atom a e) f (l.atom == a) refl

-- one literal more behind others, whose atom has no sign among them
pub sign_behind : (xs : List Literal) (l : Literal) (n : List Literal) → sign_among xs l.atom ≡ None → n ≡ xs ++ l ∷ [] → (a : ℕ) → sign_among n a ≡ (if l.atom == a then Some l.sign else sign_among xs a)
sign_behind xs l n free e a = ap (λ x. sign_among x a) e ∙ behind xs l a free

-- a literal whose denial was gone through
pub clash_at : (b : Bool) (xs : List Literal) (l : Literal) (done ls left : List Literal) → left ≡ xs ++ l ∷ [] → left ++ done ≡ ls → b ≡ not (is_among done (opposite l)) → not b ≡ true → clashes ls ≡ true
clash_at b xs l done ls left cut whole e h =
    let there : is_among done (opposite l) ≡ true = sym (not_not (is_among done (opposite l))) ∙ (ap not (sym e) ∙ h) in
    let all : xs ++ (l ∷ done) ≡ ls = sym (append_assoc xs (l ∷ []) done) ∙ (ap (λ x. x ++ done) (sym cut) ∙ whole) in
    subst (λ x. clashes x ≡ true) all (clash_behind xs (l ∷ done) (ap (λ x. x || clashes done) there))
