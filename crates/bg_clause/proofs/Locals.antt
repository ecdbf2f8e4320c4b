-- What forms and clauses are worth depends on their atoms alone.
use Rattle.std.proofs.Common.{◌≡◌, ℕ, zero, suc, ◌+◌, Bool, true, false, List, [], ◌∷◌, ◌++◌, map, refl, sym, ap, ◌∙◌, arith}
use Rattle.std.specs.Prelude.{not, nat_lt}
use Rattle.std.specs.Prelude.{◌&&◌, ◌||◌, slice_get, Option, Some, None}
use Rattle.bg_ast.specs.Execution.{Spot}
use Rattle.bg_passive.specs.Passive.{is_absent}
use Rattle.bg_passive.specs.Equations.{is_well}
use Rattle.bg_formed.specs.Formed.{Says, FormCmd, Asks, Takes, FormEdge, FormBlock, said, is_of, cmds_below, edges_below, blocks_below}
use Rattle.bg_formed.specs.Wells.{is_met, form_equation, all_form_well, form_equations}
use Rattle.bg_formula.specs.declared.atom.Literal.{Literal}
use Rattle.bg_formula.specs.Formulas.{literals_below, clauses_below, units_below}
use Rattle.bg_formula.specs.Meaning.{same}
use Rattle.bg_forms.specs.Forms.{Form, Plain, Is, NotSo, Both, Same, form_true}
use Rattle.bg_forms.proofs.Meaning.{and_left, and_right}
use Rattle.bg_clause.specs.Tables.{there_in}
use Rattle.bg_clause.proofs.Clausal.{any_in, all_in}
use Rattle.bg_clause.proofs.Defining.{Named, own, deep}
use Rattle.bg_clause.proofs.Emitting.{parts, parts_as}
use Rattle.bg_clause.proofs.Failing.{wells}
use Rattle.bg_formed.specs.Formed.{form_below}
use Rattle.bg_formed.proofs.Below.{forms_below, and_both}
use Rattle.bg_clause.proofs.Valuing.{behind, front, behind_first, behind_past}

-- the same truth values below n
abbrev pub Agree : ℕ → (ℕ → Bool) → (ℕ → Bool) → Type 0
Agree n t u = (j : ℕ) → nat_lt j n ≡ true → t j ≡ u j

module _ (n : ℕ) where
  append_below : (fs gs : List Form) → forms_below n fs ≡ true → forms_below n gs ≡ true → forms_below n (fs ++ gs) ≡ true
  append_below [] gs p q = q
  append_below (f ∷ fs) gs p q =
      and_both (form_below n f) (forms_below n (fs ++ gs)) (and_left (form_below n f) (forms_below n fs) p) (append_below fs gs (and_right (form_below n f) (forms_below n fs) p) q)

  own_below : (f : Form) → form_below n f ≡ true → forms_below n (own f) ≡ true
  own_below (Plain b) p = refl
  own_below (Is l) p = refl
  own_below (NotSo f) p = and_both (form_below n f) true p refl
  own_below (Both f g) p = and_both (form_below n (Both f g)) true p refl
  own_below (Same f g) p = and_both (form_below n (Same f g)) true p refl

  two_below : (f g : Form) → form_below n f ≡ true → form_below n g ≡ true → forms_below n (deep f) ≡ true → forms_below n (deep g) ≡ true → forms_below n (own f ++ (own g ++ (deep f ++ deep g))) ≡ true
  two_below f g p q r s =
      append_below (own f) (own g ++ (deep f ++ deep g)) (own_below f p) (append_below (own g) (deep f ++ deep g) (own_below g q) (append_below (deep f) (deep g) r s))

  deep_below : (f : Form) → form_below n f ≡ true → forms_below n (deep f) ≡ true
  deep_below (Plain b) p = refl
  deep_below (Is l) p = refl
  deep_below (NotSo f) p = deep_below f p
  deep_below (Both f g) p =
      let first = and_left (form_below n f) (form_below n g) p in
      let second = and_right (form_below n f) (form_below n g) p in
      two_below f g first second (deep_below f first) (deep_below g second)
  deep_below (Same f g) p =
      let first = and_left (form_below n f) (form_below n g) p in
      let second = and_right (form_below n f) (form_below n g) p in
      two_below f g first second (deep_below f first) (deep_below g second)

  as_below : (f : Form) (s : Bool) → form_below n f ≡ true → forms_below n (parts_as s f) ≡ true
  as_below (Plain b) s p = refl
  as_below (Is l) s p = refl
  as_below (NotSo f) s p = as_below f (not s) p
  as_below (Both f g) true p =
      append_below (parts_as true f) (parts_as true g) (as_below f true (and_left (form_below n f) (form_below n g) p)) (as_below g true (and_right (form_below n f) (form_below n g) p))
  as_below (Both f g) false p =
      let first = and_left (form_below n f) (form_below n g) p in
      append_below (own f) (parts_as false f ++ parts_as false g) (own_below f first) (append_below (parts_as false f) (parts_as false g) (as_below f false first) (as_below g false (and_right (form_below n f) (form_below n g) p)))
  as_below (Same f g) s p = deep_below (Same f g) p

  pub parts_below : (f : Form) → form_below n f ≡ true → forms_below n (parts f) ≡ true
  parts_below f p = as_below f true p

  module _ (t u : ℕ → Bool) (agree : Agree n t u) where
    pub local : (f : Form) → form_below n f ≡ true → form_true t f ≡ form_true u f
    local (Plain b) p = refl
    local (Is l) p = ap (λ x. same x l.sign) (agree l.atom p)
    local (NotSo f) p = ap not (local f p)
    local (Both f g) p =
        rw (local f (and_left (form_below n f) (form_below n g) p), local g (and_right (form_below n f) (form_below n g) p)) refl
    local (Same f g) p =
        rw (local f (and_left (form_below n f) (form_below n g) p), local g (and_right (form_below n f) (form_below n g) p)) refl

    pub local_wells : (fs : List Form) → forms_below n fs ≡ true → wells t fs ≡ wells u fs
    local_wells [] p = refl
    local_wells (f ∷ fs) p =
        rw (local f (and_left (form_below n f) (forms_below n fs) p), local_wells fs (and_right (form_below n f) (forms_below n fs) p)) refl

    local_clause : (ls : List Literal) → literals_below n ls ≡ true → any_in t ls ≡ any_in u ls
    local_clause [] p = refl
    local_clause (l ∷ ls) p =
        rw (agree l.atom (and_left (nat_lt l.atom n) (literals_below n ls) p), local_clause ls (and_right (nat_lt l.atom n) (literals_below n ls) p)) refl

    pub local_clauses : (cs : List (List Literal)) → clauses_below n cs ≡ true → all_in t cs ≡ all_in u cs
    local_clauses [] p = refl
    local_clauses (c ∷ cs) p =
        rw (local_clause c (and_left (literals_below n c) (clauses_below n cs) p), local_clauses cs (and_right (literals_below n c) (clauses_below n cs) p)) refl

    -- names with these values name the forms
    named_front : (fs : List Form) (a : ℕ) (g : ℕ → Bool) → forms_below n fs ≡ true → ((j x : ℕ) → x ≡ a + j → t x ≡ front (map (form_true u) fs) g j) → Named t a fs
    named_front [] a g p h = tt
    named_front (f ∷ fs) a g p h =
        (h 0 a (omega arith) ∙ sym (local f (and_left (form_below n f) (forms_below n fs) p)), named_front fs (suc a) g (and_right (form_below n f) (forms_below n fs) p) (λ j x e. h (suc j) x (omega (arith, e))))

-- truth values that agree below n, and from there on are those of forms over what is below n
pub extended : (n : ℕ) (u : ℕ → Bool) (fs : List Form) → forms_below n fs ≡ true → (t : ℕ → Bool) × (Agree n t u × Named t n fs)
extended n u fs p =
    let g : ℕ → Bool = λ j. false in
    let t : ℕ → Bool = behind n u (front (map (form_true u) fs) g) in
    let agree : Agree n t u = λ j e. behind_first n u (front (map (form_true u) fs) g) j e in
    (t, (agree, named_front n t u agree fs n g p (λ j x e. behind_past n u (front (map (form_true u) fs) g) j x e)))

-- whether a candidate is there depends on its atom alone
pub there_local : (n : ℕ) (t u : ℕ → Bool) → Agree n t u → (cs : List (Option ℕ)) → units_below n cs ≡ true → (b : ℕ) → there_in cs t b ≡ there_in cs u b
there_local n t u agree [] p b = refl
there_local n t u agree (None ∷ cs) p zero = refl
there_local n t u agree (None ∷ cs) p (suc b) = there_local n t u agree cs p b
there_local n t u agree (Some a ∷ cs) p zero = agree a (and_left (nat_lt a n) (units_below n cs) p)
there_local n t u agree (Some a ∷ cs) p (suc b) = there_local n t u agree cs (and_right (nat_lt a n) (units_below n cs) p) b

-- equations depend on the atoms that are named alone
module _ (n : ℕ) (these : ℕ → Bool) (t u : ℕ → Bool) (agree : Agree n t u) (set : ℕ → Bool) (target : Spot) where
  met_local : (b : Option ℕ) (r : Says) → form_below n (said r) ≡ true → is_met set t b r ≡ is_met set u b r
  met_local b r p = ap (λ x. is_absent set b || x) (local n t u agree (said r) p)

  pub equation_local : (ks : List FormCmd) (rest : Bool) → cmds_below n these ks ≡ true → form_equation set target t ks rest ≡ form_equation set target u ks rest
  equation_local [] rest p = refl
  equation_local (Asks s b r ∷ ks) rest p =
      let more = and_right (is_of these b) (form_below n (said r) && cmds_below n these ks) p in
      rw (met_local b r (and_left (form_below n (said r)) (cmds_below n these ks) more), equation_local ks rest (and_right (form_below n (said r)) (cmds_below n these ks) more)) refl
  equation_local (Takes b r ∷ ks) rest p =
      let more = and_right (is_of these b) (form_below n (said r) && cmds_below n these ks) p in
      rw (met_local b r (and_left (form_below n (said r)) (cmds_below n these ks) more), equation_local ks rest (and_right (form_below n (said r)) (cmds_below n these ks) more)) refl

  pub edges_local : (later : List Bool) (es : List FormEdge) → edges_below n these es ≡ true → all_form_well set target t later es ≡ all_form_well set target u later es
  edges_local later [] p = refl
  edges_local later (e ∷ es) p =
      rw (equation_local e.cmds (is_well (slice_get later e.to)) (and_left (cmds_below n these e.cmds) (edges_below n these es) p), edges_local later es (and_right (cmds_below n these e.cmds) (edges_below n these es) p)) refl

  pub blocks_local : (bs : List FormBlock) → blocks_below n these bs ≡ true → form_equations set target t bs ≡ form_equations set target u bs
  blocks_local [] p = refl
  blocks_local (b ∷ bs) p =
      let more = and_right (cmds_below n these b.cmds) (edges_below n these b.next && blocks_below n these bs) p in
      let rest = blocks_local bs (and_right (edges_below n these b.next) (blocks_below n these bs) more) in
      let later = form_equations set target u bs in
      let fe = and_left (edges_below n these b.next) (blocks_below n these bs) more in
      let fk = and_left (cmds_below n these b.cmds) (edges_below n these b.next && blocks_below n these bs) p in
      ap (λ l. form_equation set target t b.cmds (all_form_well set target t l b.next) ∷ l) rest
      ∙ ap (λ x. x ∷ later) (equation_local b.cmds (all_form_well set target t later b.next) fk ∙ ap (form_equation set target u b.cmds) (edges_local later b.next fe))
