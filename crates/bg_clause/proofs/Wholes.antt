-- The clauses name atoms that are there.
use Rattle.std.proofs.Common.{◌≡◌, ℕ, zero, suc, ◌+◌, ◌-◌, ◌≤◌, Bool, true, false, List, [], ◌∷◌, ◌++◌, length, map, refl, sym, ap, subst, ◌∙◌, arith}
use Rattle.std.specs.Prelude.{not, ◌&&◌, if◌then◌else◌, nat_lt, Option, Some}
use Rattle.std.proofs.lemmas.Bool.Decides.{nat_tests}
use Rattle.std.proofs.lemmas.List.{length-append}
use Rattle.bg_ast.specs.Execution.{Spot}
use Rattle.bg_sense.specs.Variables.{count_from}
use Rattle.bg_formula.specs.declared.atom.Literal.{Literal}
use Rattle.bg_formula.specs.Atoms.{AtomOf, IsTruth, at}
use Rattle.bg_formula.specs.Formulas.{literals_below, clauses_below, units_below, rows_below, atom_below, is_whole}
use Rattle.bg_formula.specs.Meaning.{Valuation, atom_true, same, signed, literal_true, clause_true, clauses_true}
use Rattle.bg_forms.specs.Forms.{Form, Plain, Is, NotSo, Both, Same, literal_in, opposite}
use Rattle.bg_forms.specs.Worth.{bools_at}
use Rattle.bg_formed.specs.Formed.{FormBlock, cmds_below, edges_below, blocks_below}
use Rattle.bg_clause.specs.Tables.{table, marked, atom_in}
use Rattle.bg_clause.specs.Failing.{fail_block}
use Rattle.bg_clause.specs.Emitted.{denies, name_of, next_of, after_defined, after_as, after, clause_of, signed_as, equal_clauses, both_clauses, same_clauses, defined, emitted_as, emitted}
use Rattle.bg_clause.specs.Told.{Told, nothing, is_short, told_by, told, with_entry, entry_told}
use Rattle.bg_clause.specs.Whole.{formula}
use Rattle.bg_clause.specs.Valued.{worth_in}
use Rattle.bg_forms.proofs.Meaning.{none_below, below_suc, and_left, and_right}
use Rattle.bg_clause.proofs.Clausal.{any_in, all_in, clause_below}
use Rattle.bg_formed.specs.Formed.{form_below}
use Rattle.bg_formed.proofs.Below.{forms_below, and_both}
use Rattle.bg_clause.proofs.Below.{blocks_lower, block_below}
use Rattle.bg_clause.proofs.Tables.{table_below, table_inside}

next_more : (f : Form) (n : ℕ) → n ≤ next_of f n
next_more (Plain b) n = omega arith
next_more (Is l) n = omega arith
next_more (NotSo f) n = omega arith
next_more (Both f g) n = omega arith
next_more (Same f g) n = omega arith

defined_more : (f : Form) (n : ℕ) → n ≤ after_defined f n
defined_more (Plain b) n = omega arith
defined_more (Is l) n = omega arith
defined_more (NotSo f) n = defined_more f n
defined_more (Both f g) n =
    let a = next_of g (next_of f n) in
    omega (arith, next_more f n, next_more g (next_of f n), defined_more f a, defined_more g (after_defined f a))
defined_more (Same f g) n =
    let a = next_of g (next_of f n) in
    omega (arith, next_more f n, next_more g (next_of f n), defined_more f a, defined_more g (after_defined f a))

as_more : (f : Form) (s : Bool) (n : ℕ) → n ≤ after_as s f n
as_more (Plain b) s n = omega arith
as_more (Is l) s n = omega arith
as_more (NotSo f) s n = as_more f (not s) n
as_more (Both f g) true n = omega (arith, as_more f true n, as_more g true (after_as true f n))
as_more (Both f g) false n =
    omega (arith, next_more f n, as_more f false (next_of f n), as_more g false (after_as false f (next_of f n)))
as_more (Same f g) s n = defined_more (Same f g) n

pub after_more : (f : Form) (n : ℕ) → n ≤ after f n
after_more f n = as_more f true n

append_below : (n : ℕ) (xs ys : List (List Literal)) → clauses_below n xs ≡ true → clauses_below n ys ≡ true → clauses_below n (xs ++ ys) ≡ true
append_below n [] ys p q = q
append_below n (x ∷ xs) ys p q =
    and_both (literals_below n x) (clauses_below n (xs ++ ys)) (and_left (literals_below n x) (clauses_below n xs) p) (append_below n xs ys (and_right (literals_below n x) (clauses_below n xs) p) q)

one_below : (a n : ℕ) → suc a ≤ n → nat_lt a n ≡ true
one_below a n le = grind (arith, nat_tests)

last_below : (n : ℕ) (ls : List Literal) (l : Literal) → literals_below n ls ≡ true → nat_lt l.atom n ≡ true → literals_below n (ls ++ l ∷ []) ≡ true
last_below n [] l p q = and_both (nat_lt l.atom n) true q refl
last_below n (k ∷ ls) l p q =
    and_both (nat_lt k.atom n) (literals_below n (ls ++ l ∷ [])) (and_left (nat_lt k.atom n) (literals_below n ls) p) (last_below n ls l (and_right (nat_lt k.atom n) (literals_below n ls) p) q)

module _ (n : ℕ) where
  signed_below : (s : Bool) (l : Literal) → nat_lt l.atom n ≡ true → nat_lt (signed_as s l).atom n ≡ true
  signed_below true l p = p
  signed_below false l p = p

  two_below : (ls : List Literal) (k l : Literal) → literals_below n ls ≡ true → nat_lt k.atom n ≡ true → nat_lt l.atom n ≡ true → literals_below n (ls ++ k ∷ l ∷ []) ≡ true
  two_below [] k l p q r =
      and_both (nat_lt k.atom n) (nat_lt l.atom n && true) q (and_both (nat_lt l.atom n) true r refl)
  two_below (j ∷ ls) k l p q r =
      and_both (nat_lt j.atom n) (literals_below n (ls ++ k ∷ l ∷ [])) (and_left (nat_lt j.atom n) (literals_below n ls) p) (two_below ls k l (and_right (nat_lt j.atom n) (literals_below n ls) p) q r)

  equal_below : (ls : List Literal) (k l : Literal) → literals_below n ls ≡ true → nat_lt k.atom n ≡ true → nat_lt l.atom n ≡ true → clauses_below n (equal_clauses ls k l) ≡ true
  equal_below ls k l p q r =
      append_below n (clause_of (ls ++ opposite k ∷ l ∷ [])) (clause_of (ls ++ k ∷ opposite l ∷ [])) (clause_below n (ls ++ opposite k ∷ l ∷ []) (two_below ls (opposite k) l p q r)) (clause_below n (ls ++ k ∷ opposite l ∷ []) (two_below ls k (opposite l) p q r))

  one_literal : (k : Literal) → nat_lt k.atom n ≡ true → literals_below n (k ∷ []) ≡ true
  one_literal k p = and_both (nat_lt k.atom n) true p refl

  both_below : (k l m : Literal) → nat_lt k.atom n ≡ true → nat_lt l.atom n ≡ true → nat_lt m.atom n ≡ true → clauses_below n (both_clauses k l m) ≡ true
  both_below k l m p q r =
      let xs = clause_of (opposite k ∷ l ∷ []) in
      let ys = clause_of (opposite k ∷ m ∷ []) in
      let zs = clause_of (k ∷ opposite l ∷ opposite m ∷ []) in
      append_below n xs (ys ++ zs) (clause_below n (opposite k ∷ l ∷ []) (two_below [] (opposite k) l refl p q)) (append_below n ys zs (clause_below n (opposite k ∷ m ∷ []) (two_below [] (opposite k) m refl p r)) (clause_below n (k ∷ opposite l ∷ opposite m ∷ []) (two_below (k ∷ []) (opposite l) (opposite m) (one_literal k p) q r)))

  same_below : (k l m : Literal) → nat_lt k.atom n ≡ true → nat_lt l.atom n ≡ true → nat_lt m.atom n ≡ true → clauses_below n (same_clauses k l m) ≡ true
  same_below k l m p q r =
      append_below n (equal_clauses (opposite k ∷ []) l m) (equal_clauses (k ∷ []) l (opposite m)) (equal_below (opposite k ∷ []) l m (one_literal (opposite k) p) q r) (equal_below (k ∷ []) l (opposite m) (one_literal k p) q r)

  name_below : (f : Form) (k : ℕ) → form_below n f ≡ true → next_of f k ≤ n → nat_lt (name_of f k).atom n ≡ true
  name_below (Plain b) k p le = one_below k n le
  name_below (Is l) k p le = p
  name_below (NotSo f) k p le = one_below k n le
  name_below (Both f g) k p le = one_below k n le
  name_below (Same f g) k p le = one_below k n le

  defined_below : (f : Form) (x : Literal) (k : ℕ) → nat_lt x.atom n ≡ true → form_below n f ≡ true → after_defined f k ≤ n → clauses_below n (defined x f k) ≡ true
  defined_below (Plain b) x k p q le =
      clause_below n (signed_as b x ∷ []) (one_literal (signed_as b x) (signed_below b x p))
  defined_below (Is l) x k p q le = equal_below [] x l refl p q
  defined_below (NotSo f) x k p q le = defined_below f (opposite x) k p q le
  defined_below (Both f g) x k p q le =
      let a = next_of g (next_of f k) in
      let first = and_left (form_below n f) (form_below n g) q in
      let second = and_right (form_below n f) (form_below n g) q in
      let fore : after_defined f a ≤ n = omega (arith, le, defined_more g (after_defined f a)) in
      let near : a ≤ n = omega (arith, fore, defined_more f a) in
      let l = name_below f k first (omega (arith, near, next_more g (next_of f k))) in
      let m = name_below g (next_of f k) second near in
      let xs = defined (name_of f k) f a in
      let ys = defined (name_of g (next_of f k)) g (after_defined f a) in
      append_below n (both_clauses x (name_of f k) (name_of g (next_of f k))) (xs ++ ys) (both_below x (name_of f k) (name_of g (next_of f k)) p l m) (append_below n xs ys (defined_below f (name_of f k) a l first fore) (defined_below g (name_of g (next_of f k)) (after_defined f a) m second le))
  defined_below (Same f g) x k p q le =
      let a = next_of g (next_of f k) in
      let first = and_left (form_below n f) (form_below n g) q in
      let second = and_right (form_below n f) (form_below n g) q in
      let fore : after_defined f a ≤ n = omega (arith, le, defined_more g (after_defined f a)) in
      let near : a ≤ n = omega (arith, fore, defined_more f a) in
      let l = name_below f k first (omega (arith, near, next_more g (next_of f k))) in
      let m = name_below g (next_of f k) second near in
      let xs = defined (name_of f k) f a in
      let ys = defined (name_of g (next_of f k)) g (after_defined f a) in
      append_below n (same_clauses x (name_of f k) (name_of g (next_of f k))) (xs ++ ys) (same_below x (name_of f k) (name_of g (next_of f k)) p l m) (append_below n xs ys (defined_below f (name_of f k) a l first fore) (defined_below g (name_of g (next_of f k)) (after_defined f a) m second le))

  plain_below : (x : Bool) (ls : List Literal) → literals_below n ls ≡ true → clauses_below n (if x then [] else clause_of ls) ≡ true
  plain_below true ls p = refl
  plain_below false ls p = clause_below n ls p

  as_below : (f : Form) (s : Bool) (ls : List Literal) (k : ℕ) → literals_below n ls ≡ true → form_below n f ≡ true → after_as s f k ≤ n → clauses_below n (emitted_as s ls f k) ≡ true
  as_below (Plain b) s ls k p q le = plain_below (same b s) ls p
  as_below (Is l) s ls k p q le =
      clause_below n (ls ++ signed_as s l ∷ []) (last_below n ls (signed_as s l) p (signed_below s l q))
  as_below (NotSo f) s ls k p q le = as_below f (not s) ls k p q le
  as_below (Both f g) true ls k p q le =
      let m = after_as true f k in
      append_below n (emitted_as true ls f k) (emitted_as true ls g m) (as_below f true ls k p (and_left (form_below n f) (form_below n g) q) (omega (arith, le, as_more g true m))) (as_below g true ls m p (and_right (form_below n f) (form_below n g) q) le)
  as_below (Both f g) false ls k p q le =
      let m = after_as false f (next_of f k) in
      let x = name_of f k in
      let first = and_left (form_below n f) (form_below n g) q in
      let fore : m ≤ n = omega (arith, le, as_more g false m) in
      let name = name_below f k first (omega (arith, fore, as_more f false (next_of f k))) in
      append_below n (emitted_as false (x ∷ []) f (next_of f k)) (emitted_as false (ls ++ opposite x ∷ []) g m) (as_below f false (x ∷ []) (next_of f k) (one_literal x name) first fore) (as_below g false (ls ++ opposite x ∷ []) m (last_below n ls (opposite x) p name) (and_right (form_below n f) (form_below n g) q) le)
  as_below (Same f g) s ls k p q le =
      let a = next_of g (next_of f k) in
      let first = and_left (form_below n f) (form_below n g) q in
      let second = and_right (form_below n f) (form_below n g) q in
      let fore : after_defined f a ≤ n = omega (arith, le, defined_more g (after_defined f a)) in
      let near : a ≤ n = omega (arith, fore, defined_more f a) in
      let l = name_below f k first (omega (arith, near, next_more g (next_of f k))) in
      let m = name_below g (next_of f k) second near in
      let y = name_of g (next_of f k) in
      let xs = defined (name_of f k) f a in
      let ys = defined y g (after_defined f a) in
      append_below n (equal_clauses ls (name_of f k) (signed_as s y)) (xs ++ ys) (equal_below ls (name_of f k) (signed_as s y) p l (signed_below s y m)) (append_below n xs ys (defined_below f (name_of f k) a l first fore) (defined_below g y (after_defined f a) m second le))

  emitted_below : (f : Form) (ls : List Literal) (k : ℕ) → literals_below n ls ≡ true → form_below n f ≡ true → after f k ≤ n → clauses_below n (emitted ls f k) ≡ true
  emitted_below f ls k p q le = as_below f true ls k p q le

  told_by_below : (x : Bool) (f : Form) (s : Told) → form_below n f ≡ true → forms_below n s.fails ≡ true → clauses_below n s.clauses ≡ true → (told_by x f s).next ≤ n → (forms_below n (told_by x f s).fails ≡ true) × (clauses_below n (told_by x f s).clauses ≡ true)
  told_by_below true f s p q r le = (and_both (form_below n f) (forms_below n s.fails) p q, r)
  told_by_below false f s p q r le =
      let name : nat_lt s.next n ≡ true = one_below s.next n (omega (arith, le, after_more f (suc s.next))) in
      (and_both (nat_lt s.next n) (forms_below n s.fails) name q, append_below n s.clauses (emitted (denies s.next ∷ []) f (suc s.next)) r (emitted_below f (denies s.next ∷ []) (suc s.next) (and_both (nat_lt s.next n) true name refl) p le))

told_by_more : (x : Bool) (f : Form) (s : Told) → s.next ≤ (told_by x f s).next
told_by_more true f s = omega arith
told_by_more false f s = omega (arith, after_more f (suc s.next))

module _ (cs : List (Option ℕ)) (t : Spot) (a : ℕ) where
  pub told_more : (bs : List FormBlock) → a ≤ (told cs t (nothing a) bs).next
  told_more [] = omega arith
  told_more (b ∷ bs) =
      let s = told cs t (nothing a) bs in
      let f = fail_block cs t s.fails b in
      omega (arith, told_more bs, told_by_more (is_short f) f s)

  module _ (these : ℕ → Bool) (units : units_below a cs ≡ true) (n : ℕ) where
    pub told_below : (bs : List FormBlock) → blocks_below a these bs ≡ true → (told cs t (nothing a) bs).next ≤ n → (forms_below n (told cs t (nothing a) bs).fails ≡ true) × (clauses_below n (told cs t (nothing a) bs).clauses ≡ true)
    told_below [] fits le = (refl, refl)
    told_below (b ∷ bs) fits le =
        let s = told cs t (nothing a) bs in
        let f = fail_block cs t s.fails b in
        let more = and_right (cmds_below a these b.cmds) (edges_below a these b.next && blocks_below a these bs) fits in
        let step = told_by_more (is_short f) f s in
        let first = told_more bs in
        let rest = told_below bs (and_right (edges_below a these b.next) (blocks_below a these bs) more) (omega (arith, le, step)) in
        told_by_below n (is_short f) f s (block_below n a cs these units (omega (arith, first, step, le)) t s.fails b (and_left (cmds_below a these b.cmds) (edges_below a these b.next && blocks_below a these bs) fits) (and_left (edges_below a these b.next) (blocks_below a these bs) more) rest.0) rest.0 rest.1 le

    pub first_below : (b : FormBlock) (bs : List FormBlock) → blocks_below a these (b ∷ bs) ≡ true → (told cs t (nothing a) bs).next ≤ n → form_below n (fail_block cs t (told cs t (nothing a) bs).fails b) ≡ true
    first_below b bs fits le =
        let s = told cs t (nothing a) bs in
        let more = and_right (cmds_below a these b.cmds) (edges_below a these b.next && blocks_below a these bs) fits in
        let rest = told_below bs (and_right (edges_below a these b.next) (blocks_below a these bs) more) le in
        block_below n a cs these units (omega (arith, told_more bs, le)) t s.fails b (and_left (cmds_below a these b.cmds) (edges_below a these b.next && blocks_below a these bs) fits) (and_left (edges_below a these b.next) (blocks_below a these bs) more) rest.0

  with_below : (f : Form) (s : Told) → let n = after f s.next in form_below n f ≡ true → clauses_below n s.clauses ≡ true → clauses_below n (with_entry f s).clauses ≡ true
  with_below f s p q =
      let n = after f s.next in
      append_below n s.clauses (emitted [] f s.next) q (emitted_below n f [] s.next refl p (omega arith))

  pub entry_below : (these : ℕ → Bool) → units_below a cs ≡ true → (bs : List FormBlock) → blocks_below a these bs ≡ true → clauses_below (entry_told cs t a bs).next (entry_told cs t a bs).clauses ≡ true
  entry_below these units [] fits = refl
  entry_below these units (b ∷ bs) fits =
      let s = told cs t (nothing a) bs in
      let f = fail_block cs t s.fails b in
      let le = after_more f s.next in
      let more = and_right (cmds_below a these b.cmds) (edges_below a these b.next && blocks_below a these bs) fits in
      with_below f s (first_below these units (after f s.next) b bs fits le) (told_below these units (after f s.next) bs (and_right (edges_below a these b.next) (blocks_below a these bs) more) le).1

  pub entry_more : (bs : List FormBlock) → a ≤ (entry_told cs t a bs).next
  entry_more [] = omega arith
  entry_more (b ∷ bs) =
      let s = told cs t (nothing a) bs in omega (arith, told_more bs, after_more (fail_block cs t s.fails b) s.next)

how_many_atoms : (k n : ℕ) → length (map IsTruth (count_from k n)) ≡ n
how_many_atoms k zero = refl
how_many_atoms k (suc n) = ap suc (how_many_atoms (suc k) n)

-- ---- atoms of two lists

-- truth variables are no rows
no_rows : (n : ℕ) (xs : List ℕ) → rows_below n (map IsTruth xs) ≡ true
no_rows n [] = refl
no_rows n (x ∷ xs) = no_rows n xs

rows_append : (n : ℕ) (xs ys : List AtomOf) → rows_below n xs ≡ true → rows_below n ys ≡ true → rows_below n (xs ++ ys) ≡ true
rows_append n [] ys p q = q
rows_append n (x ∷ xs) ys p q =
    and_both (atom_below n x) (rows_below n (xs ++ ys)) (and_left (atom_below n x) (rows_below n xs) p) (rows_append n xs ys (and_right (atom_below n x) (rows_below n xs) p) q)

at_first : {A : Type 0} (xs ys : List A) (j : ℕ) → nat_lt j (length xs) ≡ true → at (xs ++ ys) j ≡ at xs j
at_first [] ys j p = absurd (none_below j p)
at_first (x ∷ xs) ys zero p = refl
at_first (x ∷ xs) ys (suc j) p = at_first xs ys j (sym (below_suc j (length xs)) ∙ p)

at_behind : {A : Type 0} (xs ys : List A) (i j : ℕ) → j ≡ length xs + i → at (xs ++ ys) j ≡ at ys i
at_behind [] ys i j e = ap (at ys) (omega (arith, e))
at_behind (x ∷ xs) ys i zero e = absurd (omega (arith, e))
at_behind (x ∷ xs) ys i (suc j) e = at_behind xs ys i j (omega (arith, e))

is_there : {A : Type 0} (xs : List A) (j : ℕ) → nat_lt j (length xs) ≡ true → (x : A) × (at xs j ≡ Some x)
is_there [] j p = absurd (none_below j p)
is_there (x ∷ xs) zero p = (x, refl)
is_there (x ∷ xs) (suc j) p = is_there xs j (sym (below_suc j (length xs)) ∙ p)

-- an atom that is there is the truth variable of its number
at_count : (k n j x : ℕ) → x ≡ k + j → nat_lt j n ≡ true → at (map IsTruth (count_from k n)) j ≡ Some (IsTruth x)
at_count k zero j x e p = absurd (none_below j p)
at_count k (suc n) zero x e p = ap (λ y. Some (IsTruth y)) (omega (arith, e))
at_count k (suc n) (suc j) x e p = at_count (suc k) n j x (omega (arith, e)) (sym (below_suc j n) ∙ p)

-- ---- what clauses are worth

same_twice : (b s : Bool) → same b s ≡ same (same b true) s
same_twice true s = refl
same_twice false s = refl

module _ (v : Valuation) (atoms : List AtomOf) where
  literal_same : (l : Literal) → nat_lt l.atom (length atoms) ≡ true → literal_true v atoms l ≡ literal_in (worth_in v atoms) l
  literal_same l p =
      let t = is_there atoms l.atom p in
      ap (λ o. signed v o l.sign) t.1 ∙ same_twice (atom_true v t.0) l.sign ∙ ap (λ o. same (signed v o true) l.sign) (sym t.1)

  clause_same : (ls : List Literal) → literals_below (length atoms) ls ≡ true → clause_true v atoms ls ≡ any_in (worth_in v atoms) ls
  clause_same [] p = refl
  clause_same (l ∷ ls) p =
      rw (literal_same l (and_left (nat_lt l.atom (length atoms)) (literals_below (length atoms) ls) p), clause_same ls (and_right (nat_lt l.atom (length atoms)) (literals_below (length atoms) ls) p)) refl

  pub clauses_same : (cs : List (List Literal)) → clauses_below (length atoms) cs ≡ true → clauses_true v atoms cs ≡ all_in (worth_in v atoms) cs
  clauses_same [] p = refl
  clauses_same (c ∷ cs) p =
      rw (clause_same c (and_left (literals_below (length atoms) c) (clauses_below (length atoms) cs) p), clauses_same cs (and_right (literals_below (length atoms) c) (clauses_below (length atoms) cs) p)) refl

-- ---- the atoms of a formula

module _ (n terms : ℕ) (ms : List Bool) (rows : List AtomOf) (t : Spot) (bs : List FormBlock) where
  abbrev k : ℕ
  k = n + length rows

  abbrev cs : List (Option ℕ)
  cs = table k ms

  abbrev s : Told
  s = entry_told cs t (k + marked ms) bs

  abbrev first : List AtomOf
  first = map IsTruth (count_from 0 n)

  abbrev last : List AtomOf
  last = map IsTruth (count_from k (s.next - k))

  abbrev pub atoms_of : List AtomOf
  atoms_of = first ++ (rows ++ last)

  pub many : length atoms_of ≡ s.next
  many =
      let x = length-append first (rows ++ last) in
      let y = length-append rows last in
      let f = how_many_atoms 0 n in
      let l = how_many_atoms k (s.next - k) in
      let e = entry_more cs t (k + marked ms) bs in
      omega (arith, x, y, f, l, e)

  pub at_truth : (j : ℕ) → nat_lt j n ≡ true → at atoms_of j ≡ Some (IsTruth j)
  at_truth j p =
      at_first first (rows ++ last) j (subst (λ i. nat_lt j i ≡ true) (sym (how_many_atoms 0 n)) p) ∙ at_count 0 n j j (omega arith) p

  pub at_row : (j x : ℕ) → x ≡ n + j → nat_lt j (length rows) ≡ true → at atoms_of x ≡ at rows j
  at_row j x e p =
      at_behind first (rows ++ last) j x (let f = how_many_atoms 0 n in omega (arith, f, e)) ∙ at_first rows last j p

  pub at_name : (j x : ℕ) → x ≡ k + j → nat_lt x s.next ≡ true → at atoms_of x ≡ Some (IsTruth x)
  at_name j x e p =
      at_behind first (rows ++ last) (length rows + j) x (let f = how_many_atoms 0 n in omega (arith, f, e))
      ∙ at_behind rows last j (length rows + j) refl ∙ at_count k (s.next - k) j x e (moved j x p e)
    where
      moved : (j x : ℕ) → nat_lt x s.next ≡ true → x ≡ k + j → nat_lt j (s.next - k) ≡ true
      moved j x p e = grind (arith, nat_tests)

  pub at_unit : (b x : ℕ) → atom_in cs b ≡ Some x → at atoms_of x ≡ Some (IsTruth x)
  at_unit b x e =
      let i = table_inside k ms b x e in
      let more = entry_more cs t (k + marked ms) bs in
      at_name i.0 x i.1.0 (one_below x s.next (let j = i.1.0 in let lt = i.1.1 in omega (arith, j, lt, more)))

  pub units_there : units_below (k + marked ms) cs ≡ true
  units_there = table_below (k + marked ms) k ms (omega arith)

  -- what the clauses name is there
  named_there : blocks_below k (bools_at ms) bs ≡ true → clauses_below s.next s.clauses ≡ true
  named_there fits =
      entry_below cs t (k + marked ms) (bools_at ms) units_there bs (blocks_lower k (k + marked ms) (bools_at ms) (omega arith) bs fits)

  pub worth_clauses : (v : Valuation) → blocks_below k (bools_at ms) bs ≡ true → clauses_true v atoms_of s.clauses ≡ all_in (worth_in v atoms_of) s.clauses
  worth_clauses v fits =
      clauses_same v atoms_of s.clauses (subst (λ i. clauses_below i s.clauses ≡ true) (sym many) (named_there fits))

  -- the formula is whole
  pub formula_whole : blocks_below k (bools_at ms) bs ≡ true → rows_below terms rows ≡ true → is_whole (formula n ms terms rows t bs) ≡ true
  formula_whole fits there =
      let all = rows_append terms first (rows ++ last) (no_rows terms (count_from 0 n)) (rows_append terms rows last there (no_rows terms (count_from k (s.next - k)))) in
      let named = and_both (units_below s.next cs) (rows_below terms atoms_of) (table_below s.next k ms (let e = entry_more cs t (k + marked ms) bs in omega (arith, e))) all in
      let both = and_both (clauses_below s.next s.clauses) (units_below s.next cs && rows_below terms atoms_of) (named_there fits) named in
      subst (λ x. (clauses_below x s.clauses && (units_below x cs && rows_below terms atoms_of)) ≡ true) (sym many) both
