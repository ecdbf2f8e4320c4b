-- How clauses are added, behind those that are there.
use Rattle.std.proofs.Common.{◌≡◌, ℕ, ◌+◌, ◌<◌, ◌≤◌, suc, Bool, true, false, List, [], ◌∷◌, ◌++◌, append_assoc, append-nil, refl, sym, ap, ◌∙◌, subst, arith}
use Rattle.std.specs.Prelude.{not, ◌==◌, Some}
use Rattle.std.proofs.lemmas.Option.{none-some, same_Some}
use Rattle.std.proofs.lemmas.Bool.Decides.{nat_tests}
use Rattle.bg_formula.specs.declared.atom.Literal.{Literal}
use Rattle.bg_formula.specs.Meaning.{same}
use Rattle.bg_forms.specs.Forms.{Form, Plain, Is, NotSo, Both, Same, opposite}
use Rattle.bg_clause.specs.Emitted.{clause_of, after_as, emitted_as}
use Rattle.bg_clause.specs.Lends.{literal_in_form}
use Rattle.bg_clause.specs.Waiting.{Waits, Says, IsLeft, emitted_all, after_all, size_all}

abbrev pub Clauses : Type 0
Clauses = List (List Literal)

-- clauses are added in front of those that wait
pub some_added : (out new rest cs : Clauses) → new ≡ out ++ cs → new ++ rest ≡ out ++ (cs ++ rest)
some_added out new rest cs h = rw h (append_assoc out cs rest)

same_self : (b : Bool) → same b b ≡ true
same_self true = refl
same_self false = refl

-- a literal and its denial are no clause
pub denied_beside : (l : Literal) → clause_of (l ∷ opposite l ∷ []) ≡ []
denied_beside l =
    let here : (l.atom == l.atom) ≡ true = grind (arith, nat_tests) in
    rw (here, same_self (not l.sign)) refl

pub ruleset emit_forms = (some_added, append_assoc, denied_beside)

-- ---- of a form y is left of x, where clauses were added

-- a literal alone has its clause
pub literal_said : (ls : List Literal) (l : Literal) (old new : Clauses) → new ≡ old ++ clause_of (ls ++ l ∷ []) → (n : ℕ) → new ++ emitted_as true ls (Plain true) n ≡ old ++ emitted_as true ls (Is l) n
literal_said ls l old new e n = append-nil new ∙ e

-- what comes behind it
pub framed : (ls : List Literal) (x y : Form) (old new : Clauses) (behind : ℕ → Clauses) → ((n : ℕ) → new ++ emitted_as true ls y n ≡ old ++ emitted_as true ls x n) → ((n : ℕ) → after_as true y n ≡ after_as true x n) → (n : ℕ) → new ++ (emitted_as true ls y n ++ behind (after_as true y n)) ≡ old ++ (emitted_as true ls x n ++ behind (after_as true x n))
framed ls x y old new behind e a n =
    sym (append_assoc new (emitted_as true ls y n) (behind (after_as true y n)))
    ∙ (ap (λ k. k ++ behind (after_as true y n)) (e n)
    ∙ (ap (λ j. (old ++ emitted_as true ls x n) ++ behind j) (a n)
    ∙ append_assoc old (emitted_as true ls x n) (behind (after_as true x n))))

-- a form that is a literal
pub literal_is : (f : Form) (l : Literal) → literal_in_form f ≡ Some l → f ≡ Is l
literal_is (Plain b) l e = absurd (none-some l e)
literal_is (Is k) l e = ap Is (same_Some k l e)
literal_is (NotSo f) l e = absurd (none-some l e)
literal_is (Both f g) l e = absurd (none-some l e)
literal_is (Same f g) l e = absurd (none-some l e)

pub left_same : (ls : List Literal) (x y : Form) (cs : Clauses) → y ≡ x → IsLeft ls x y cs cs
left_same ls x y cs e = subst (λ f. IsLeft ls x f cs cs) (sym e) (record { clauses = λ n. refl; more = λ n. refl; smaller = omega arith })

pub left_then : (ls : List Literal) (x y z : Form) (old mid new : Clauses) → IsLeft ls x y old mid → IsLeft ls y z mid new → IsLeft ls x z old new
left_then ls x y z old mid new a b =
    record {
      clauses = λ n. b.clauses n ∙ a.clauses n;
      more = λ n. b.more n ∙ a.more n;
      smaller = let h = a.smaller in let k = b.smaller in omega (arith, h, k);
    }

-- a literal
pub left_literal : (ls ms : List Literal) (x : Form) (l : Literal) (old new : Clauses) → x ≡ Is l → ms ≡ ls → new ≡ old ++ clause_of (ms ++ l ∷ []) → IsLeft ls x (Plain true) old new
left_literal ls ms x l old new is same e =
    subst (λ f. IsLeft ls f (Plain true) old new) (sym is)
    (record {
      clauses = literal_said ls l old new (e ∙ ap (λ k. old ++ clause_of (k ++ l ∷ [])) same);
      more = λ n. refl;
      smaller = omega arith;
    })

-- what is behind it
pub left_behind : (ls : List Literal) (x y g : Form) (old new : Clauses) → IsLeft ls x y old new → IsLeft ls (Both x g) (Both y g) old new
left_behind ls x y g old new h =
    record {
      clauses = framed ls x y old new (emitted_as true ls g) h.clauses h.more;
      more = λ n. ap (after_as true g) (h.more n);
      smaller = let k = h.smaller in omega (arith, k);
    }

-- where nothing is left of what stands in front
pub left_second : (ls : List Literal) (x g : Form) (old new : Clauses) → IsLeft ls x (Plain true) old new → IsLeft ls (Both x g) g old new
left_second ls x g old new h =
    let k = left_behind ls x (Plain true) g old new h in
    record { clauses = k.clauses; more = k.more; smaller = let m = k.smaller in omega (arith, m) }

-- what waits behind others
module _ (ls ms : List Literal) (x y : Form) (old new : Clauses) (h : IsLeft ls x y old new) (same : ms ≡ ls) (ws us vs : List Waits) (back : us ≡ ws) (waits : vs ≡ Says true ms y ∷ us) where
  by_ls : vs ≡ Says true ls y ∷ ws
  by_ls = waits ∙ (ap (λ l. Says true l y ∷ us) same ∙ ap (λ l. Says true ls y ∷ l) back)

  pub left_clauses : (n : ℕ) → new ++ emitted_all vs n ≡ old ++ emitted_all (Says true ls x ∷ ws) n
  left_clauses n = ap (λ l. new ++ emitted_all l n) by_ls ∙ framed ls x y old new (emitted_all ws) h.clauses h.more n

  pub left_more : (n : ℕ) → after_all vs n ≡ after_all (Says true ls x ∷ ws) n
  left_more n = ap (λ l. after_all l n) by_ls ∙ ap (after_all ws) (h.more n)

  pub left_smaller : size_all vs ≤ size_all (Says true ls x ∷ ws)
  left_smaller = let e = ap size_all by_ls in let k = h.smaller in omega (arith, e, k)

-- where nothing is left no more waits
module _ (ls : List Literal) (x y : Form) (old new : Clauses) (h : IsLeft ls x y old new) (none : y ≡ Plain true) (ws vs : List Waits) (back : vs ≡ ws) where
  said : IsLeft ls x (Plain true) old new
  said = subst (λ f. IsLeft ls x f old new) none h

  pub said_clauses : (n : ℕ) → new ++ emitted_all vs n ≡ old ++ emitted_all (Says true ls x ∷ ws) n
  said_clauses n =
      ap (λ l. new ++ emitted_all l n) back ∙ framed ls x (Plain true) old new (emitted_all ws) said.clauses said.more n

  pub said_more : (n : ℕ) → after_all vs n ≡ after_all (Says true ls x ∷ ws) n
  said_more n = ap (λ l. after_all l n) back ∙ ap (after_all ws) (said.more n)

  pub said_smaller : size_all vs ≤ size_all (Says true ls x ∷ ws)
  said_smaller = let e = ap size_all back in omega (arith, e)

-- a literal in front of a form of a block
pub left_row : (ls ms : List Literal) (x g h rest : Form) (l : Literal) (old new : Clauses) → x ≡ Both g h → literal_in_form g ≡ Some l → rest ≡ h → ms ≡ ls → new ≡ old ++ clause_of (ms ++ l ∷ []) → IsLeft ls x rest old new
left_row ls ms x g h rest l old new is first behind same e =
    subst (λ f. IsLeft ls f rest old new) (sym is)
    (subst (λ f. IsLeft ls (Both g h) f old new) (sym behind)
    (left_second ls g h old new (left_literal ls ms g l old new (literal_is g l first) same e)))

-- the form in a leaf, where so much was left before
pub left_alone : (ls ms : List Literal) (x y z rest : Form) (old mid new : Clauses) → IsLeft ls x y old mid → z ≡ y → ms ≡ ls → IsLeft ms z rest mid new → IsLeft ls x rest old new
left_alone ls ms x y z rest old mid new a is same b =
    left_then ls x y rest old mid new a
    (subst (λ f. IsLeft ls f rest mid new) is (subst (λ l. IsLeft l z rest mid new) same b))

-- the same, in front of another form
pub left_before : (ls ms : List Literal) (x y z g rest : Form) (old mid new : Clauses) → IsLeft ls x y old mid → Both z g ≡ y → ms ≡ ls → IsLeft ms z rest mid new → IsLeft ls x (Both rest g) old new
left_before ls ms x y z g rest old mid new a is same b =
    left_then ls x y (Both rest g) old mid new a
    (subst (λ f. IsLeft ls f (Both rest g) mid new) is (left_behind ls z rest g mid new (subst (λ l. IsLeft l z rest mid new) same b)))

-- two forms that wait
module _ (ls ms : List Literal) (x y g : Form) (old new : Clauses) (h : IsLeft ls x (Both y g) old new) (same : ms ≡ ls) (ws us vs : List Waits) (back : us ≡ ws) (waits : vs ≡ Says true ms y ∷ Says true ms g ∷ us) where
  two_by_ls : vs ≡ Says true ls y ∷ Says true ls g ∷ ws
  two_by_ls =
      waits ∙ (ap (λ l. Says true l y ∷ Says true l g ∷ us) same ∙ ap (λ l. Says true ls y ∷ Says true ls g ∷ l) back)

  pub two_clauses : (n : ℕ) → new ++ emitted_all vs n ≡ old ++ emitted_all (Says true ls x ∷ ws) n
  two_clauses n =
      ap (λ l. new ++ emitted_all l n) two_by_ls
      ∙ (ap (λ l. new ++ l) (sym (append_assoc (emitted_as true ls y n) (emitted_as true ls g (after_as true y n)) (emitted_all ws (after_as true g (after_as true y n)))))
      ∙ framed ls x (Both y g) old new (emitted_all ws) h.clauses h.more n)

  pub two_more : (n : ℕ) → after_all vs n ≡ after_all (Says true ls x ∷ ws) n
  two_more n = ap (λ l. after_all l n) two_by_ls ∙ ap (after_all ws) (h.more n)

  pub two_smaller : size_all vs ≤ size_all (Says true ls x ∷ ws)
  two_smaller = let e = ap size_all two_by_ls in let k = h.smaller in omega (arith, e, k)

-- a denied literal in front of what is denied
pub not_both_literal : (ls : List Literal) (f g : Form) (l : Literal) (n : ℕ) → literal_in_form f ≡ Some l → emitted_as false (ls ++ opposite l ∷ []) g n ≡ emitted_as false ls (Both f g) n
not_both_literal ls f g l n e =
    subst (λ x. emitted_as false (ls ++ opposite l ∷ []) g n ≡ emitted_as false ls (Both x g) n) (sym (literal_is f l e))
    (sym (ap (λ k. k ++ emitted_as false (ls ++ opposite l ∷ []) g n) (denied_beside l)))

pub not_both_after : (f g : Form) (l : Literal) (n : ℕ) → literal_in_form f ≡ Some l → after_as false g n ≡ after_as false (Both f g) n
not_both_after f g l n e =
    subst (λ x. after_as false g n ≡ after_as false (Both x g) n) (sym (literal_is f l e)) refl

-- where nothing is left in front
pub left_past : (ls : List Literal) (x y g : Form) (old new : Clauses) → IsLeft ls x (Both y g) old new → y ≡ Plain true → IsLeft ls x g old new
left_past ls x y g old new h none =
    let k = subst (λ f. IsLeft ls x (Both f g) old new) none h in
    record { clauses = k.clauses; more = k.more; smaller = let m = k.smaller in omega (arith, m) }

-- the form in a leaf
pub left_first : (ls : List Literal) (x z rest : Form) (old new : Clauses) → z ≡ x → IsLeft ls z rest old new → IsLeft ls x rest old new
left_first ls x z rest old new is h = subst (λ f. IsLeft ls f rest old new) is h
