-- Forms of failure name atoms that are there.
use Rattle.std.proofs.Common.{◌≡◌, ℕ, zero, suc, ◌≤◌, Bool, true, false, List, [], ◌∷◌, refl}
use Rattle.std.specs.Prelude.{◌&&◌, if◌then◌else◌, nat_lt, Option, Some, None}
use Rattle.bg_ast.specs.Execution.{Spot}
use Rattle.bg_passive.specs.Passive.{spot_eq}
use Rattle.bg_formula.specs.Formulas.{units_below}
use Rattle.bg_forms.specs.Forms.{Form, Plain, Is, NotSo, Both, Same, both_of, any_of, denied}
use Rattle.bg_formed.specs.Formed.{Says, FormCmd, Asks, Takes, FormEdge, FormBlock, said, form_below, is_of, cmds_below, edges_below, blocks_below}
use Rattle.bg_clause.specs.Tables.{atom_in}
use Rattle.bg_clause.specs.Failing.{is_true_atom, is_there, is_not_there, fail_cmds, fail_later, fail_edges, fail_block}
use Rattle.bg_formed.proofs.Below.{and_left, and_right, and_both, forms_below, denied_below, both_below, any_below, lower}

-- below a number, and so below a larger one
form_lower : (a n : ℕ) → a ≤ n → (f : Form) → form_below a f ≡ true → form_below n f ≡ true
form_lower a n le (Plain b) p = refl
form_lower a n le (Is l) p = lower l.atom a n le p
form_lower a n le (NotSo f) p = form_lower a n le f p
form_lower a n le (Both f g) p =
    and_both (form_below n f) (form_below n g) (form_lower a n le f (and_left (form_below a f) (form_below a g) p)) (form_lower a n le g (and_right (form_below a f) (form_below a g) p))
form_lower a n le (Same f g) p =
    and_both (form_below n f) (form_below n g) (form_lower a n le f (and_left (form_below a f) (form_below a g) p)) (form_lower a n le g (and_right (form_below a f) (form_below a g) p))

-- so with commands, edges and blocks
front_lower : (a n : ℕ) → a ≤ n → (x : Bool) (f : Form) (p q : Bool) → (p ≡ true → q ≡ true) → (x && (form_below a f && p)) ≡ true → (x && (form_below n f && q)) ≡ true
front_lower a n le x f p q h e =
    let more = and_right x (form_below a f && p) e in
    and_both x (form_below n f && q) (and_left x (form_below a f && p) e) (and_both (form_below n f) q (form_lower a n le f (and_left (form_below a f) p more)) (h (and_right (form_below a f) p more)))

cmds_lower : (a n : ℕ) (these : ℕ → Bool) → a ≤ n → (ks : List FormCmd) → cmds_below a these ks ≡ true → cmds_below n these ks ≡ true
cmds_lower a n these le [] p = refl
cmds_lower a n these le (Asks s b r ∷ ks) p =
    front_lower a n le (is_of these b) (said r) (cmds_below a these ks) (cmds_below n these ks) (cmds_lower a n these le ks) p
cmds_lower a n these le (Takes b r ∷ ks) p =
    front_lower a n le (is_of these b) (said r) (cmds_below a these ks) (cmds_below n these ks) (cmds_lower a n these le ks) p

edges_lower : (a n : ℕ) (these : ℕ → Bool) → a ≤ n → (es : List FormEdge) → edges_below a these es ≡ true → edges_below n these es ≡ true
edges_lower a n these le [] p = refl
edges_lower a n these le (e ∷ es) p =
    and_both (cmds_below n these e.cmds) (edges_below n these es) (cmds_lower a n these le e.cmds (and_left (cmds_below a these e.cmds) (edges_below a these es) p)) (edges_lower a n these le es (and_right (cmds_below a these e.cmds) (edges_below a these es) p))

pub blocks_lower : (a n : ℕ) (these : ℕ → Bool) → a ≤ n → (bs : List FormBlock) → blocks_below a these bs ≡ true → blocks_below n these bs ≡ true
blocks_lower a n these le [] p = refl
blocks_lower a n these le (b ∷ bs) p =
    let more = and_right (cmds_below a these b.cmds) (edges_below a these b.next && blocks_below a these bs) p in
    and_both (cmds_below n these b.cmds) (edges_below n these b.next && blocks_below n these bs) (cmds_lower a n these le b.cmds (and_left (cmds_below a these b.cmds) (edges_below a these b.next && blocks_below a these bs) p)) (and_both (edges_below n these b.next) (blocks_below n these bs) (edges_lower a n these le b.next (and_left (edges_below a these b.next) (blocks_below a these bs) more)) (blocks_lower a n these le bs (and_right (edges_below a these b.next) (blocks_below a these bs) more)))

-- a candidate's atom is one that is there
unit_below : (n : ℕ) (cs : List (Option ℕ)) → units_below n cs ≡ true → (b : ℕ) → form_below n (is_true_atom (atom_in cs b)) ≡ true
unit_below n [] p b = refl
unit_below n (None ∷ cs) p zero = refl
unit_below n (None ∷ cs) p (suc b) = unit_below n cs p b
unit_below n (Some a ∷ cs) p zero = and_left (nat_lt a n) (units_below n cs) p
unit_below n (Some a ∷ cs) p (suc b) = unit_below n cs (and_right (nat_lt a n) (units_below n cs) p) b

-- n names below a number, those of candidates below a
module _ (n a : ℕ) (cs : List (Option ℕ)) (these : ℕ → Bool) (units : units_below a cs ≡ true) (le : a ≤ n) (t : Spot) where
  there_below : (b : Option ℕ) → is_of these b ≡ true → form_below n (is_there cs b) ≡ true
  there_below None fits = refl
  there_below (Some b) fits = form_lower a n le (is_true_atom (atom_in cs b)) (unit_below a cs units b)

  wider : (f : Form) → form_below a f ≡ true → form_below n f ≡ true
  wider f p = form_lower a n le f p

  suppose_below : (b : Option ℕ) (r : Says) (f : Form) → is_of these b ≡ true → form_below a (said r) ≡ true → form_below n f ≡ true → form_below n (both_of (any_of (is_not_there cs b) (said r)) f) ≡ true
  suppose_below b r f fb fe q =
      both_below n (any_of (is_not_there cs b) (said r)) f (any_below n (is_not_there cs b) (said r) (denied_below n (is_there cs b) (there_below b fb)) (wider (said r) fe)) q

  claims_below : (x : Bool) (b : Option ℕ) (r : Says) (f : Form) → is_of these b ≡ true → form_below a (said r) ≡ true → form_below n f ≡ true → form_below n (if x then any_of (both_of (is_there cs b) (denied (said r))) f else both_of (any_of (is_not_there cs b) (said r)) f) ≡ true
  claims_below true b r f fb fe q =
      any_below n (both_of (is_there cs b) (denied (said r))) f (both_below n (is_there cs b) (denied (said r)) (there_below b fb) (denied_below n (said r) (wider (said r) fe))) q
  claims_below false b r f fb fe q = suppose_below b r f fb fe q

  fail_below : (ks : List FormCmd) (rest : Form) → cmds_below a these ks ≡ true → form_below n rest ≡ true → form_below n (fail_cmds cs t ks rest) ≡ true
  fail_below [] rest fits q = q
  fail_below (Asks s b r ∷ ks) rest fits q =
      let more = and_right (is_of these b) (form_below a (said r) && cmds_below a these ks) fits in
      claims_below (spot_eq s t) b r (fail_cmds cs t ks rest) (and_left (is_of these b) (form_below a (said r) && cmds_below a these ks) fits) (and_left (form_below a (said r)) (cmds_below a these ks) more) (fail_below ks rest (and_right (form_below a (said r)) (cmds_below a these ks) more) q)
  fail_below (Takes b r ∷ ks) rest fits q =
      let more = and_right (is_of these b) (form_below a (said r) && cmds_below a these ks) fits in
      suppose_below b r (fail_cmds cs t ks rest) (and_left (is_of these b) (form_below a (said r) && cmds_below a these ks) fits) (and_left (form_below a (said r)) (cmds_below a these ks) more) (fail_below ks rest (and_right (form_below a (said r)) (cmds_below a these ks) more) q)

  later_below : (later : List Form) (j : ℕ) → forms_below n later ≡ true → form_below n (fail_later later j) ≡ true
  later_below [] j below = refl
  later_below (f ∷ fs) zero below = and_left (form_below n f) (forms_below n fs) below
  later_below (f ∷ fs) (suc j) below = later_below fs j (and_right (form_below n f) (forms_below n fs) below)

  ways_below : (later : List Form) (es : List FormEdge) → edges_below a these es ≡ true → forms_below n later ≡ true → form_below n (fail_edges cs t later es) ≡ true
  ways_below later [] fits below = refl
  ways_below later (e ∷ es) fits below =
      any_below n (fail_cmds cs t e.cmds (fail_later later e.to)) (fail_edges cs t later es) (fail_below e.cmds (fail_later later e.to) (and_left (cmds_below a these e.cmds) (edges_below a these es) fits) (later_below later e.to below)) (ways_below later es (and_right (cmds_below a these e.cmds) (edges_below a these es) fits) below)

  pub block_below : (later : List Form) (b : FormBlock) → cmds_below a these b.cmds ≡ true → edges_below a these b.next ≡ true → forms_below n later ≡ true → form_below n (fail_block cs t later b) ≡ true
  block_below later b fk fe below =
      fail_below b.cmds (fail_edges cs t later b.next) fk (ways_below later b.next fe below)
