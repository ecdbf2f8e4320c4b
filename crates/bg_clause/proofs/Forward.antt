-- Where the equations deny the entry, truth values of all atoms make the clauses true.
use Rattle.std.proofs.Common.{◌≡◌, ℕ, suc, ◌≤◌, Bool, true, false, List, [], ◌∷◌, refl, sym, ap, ◌∙◌, arith}
use Rattle.std.specs.Prelude.{not, ◌&&◌, slice_get, Option}
use Rattle.bg_ast.specs.Execution.{Spot}
use Rattle.bg_passive.specs.Equations.{is_well}
use Rattle.bg_formed.specs.Wells.{form_equation, all_form_well, form_equations}
use Rattle.bg_formula.specs.Formulas.{clauses_below, units_below}
use Rattle.bg_forms.specs.Forms.{Form, form_true, is_true}
use Rattle.bg_formed.specs.Formed.{FormBlock, cmds_below, edges_below, blocks_below}
use Rattle.bg_clause.specs.Tables.{there_in}
use Rattle.bg_clause.specs.Failing.{fail_block}
use Rattle.bg_clause.specs.Emitted.{denies, emitted}
use Rattle.bg_clause.specs.Told.{Told, nothing, is_short, told_by, told, with_entry, entry_told}
use Rattle.bg_forms.proofs.Meaning.{not_not, same_true, and_left, and_right}
use Rattle.bg_clause.proofs.Failing.{wells, block_true}
use Rattle.bg_clause.proofs.Clausal.{all_in}
use Rattle.bg_clause.proofs.Defining.{all_append}
use Rattle.bg_clause.proofs.Emitting.{parts, emitted_complete, named_implied}
use Rattle.bg_formed.specs.Formed.{form_below}
use Rattle.bg_formed.proofs.Below.{forms_below, and_both, lower}
use Rattle.bg_clause.proofs.Locals.{Agree, parts_below, local, local_wells, local_clauses, extended, there_local, equation_local, edges_local}
use Rattle.bg_clause.proofs.Wholes.{told_more, told_below, first_below}

-- truth values that agree with others below a, make what is told true, and have these values for the blocks
abbrev pub Met : ℕ → (ℕ → Bool) → Told → List Bool → Type 0
Met a t s ws = (u : ℕ → Bool) × (Agree a u t × ((all_in u s.clauses ≡ true) × (wells u s.fails ≡ ws)))

agree_more : (a n : ℕ) (t u v : ℕ → Bool) → a ≤ n → Agree n v u → Agree a u t → Agree a v t
agree_more a n t u v le p q j e = p j (lower j a n le e) ∙ q j e

two_wells : (x y : Bool) (xs ys : List Bool) → x ≡ y → xs ≡ ys → x ∷ xs ≡ y ∷ ys
two_wells x y xs ys h k = rw (h, k) refl

-- one more block in front, where its form is true exactly where w is not
met_by : (x : Bool) (a : ℕ) (t : ℕ → Bool) (f : Form) (s : Told) (w : Bool) (ws : List Bool) → a ≤ s.next → form_below s.next f ≡ true → forms_below s.next s.fails ≡ true → clauses_below s.next s.clauses ≡ true → (m : Met a t s ws) → not (form_true m.0 f) ≡ w → Met a t (told_by x f s) (w ∷ ws)
met_by true a t f s w ws le p q r m h =
    (m.0, (m.1.0, (m.1.1.0, two_wells (not (form_true m.0 f)) w (wells m.0 s.fails) ws h m.1.1.1)))
met_by false a t f s w ws le p q r m h =
    let k = s.next in
    let u = m.0 in
    let more = extended k u (f ∷ parts f) (and_both (form_below k f) (forms_below k (parts f)) p (parts_below k f p)) in
    let v = more.0 in
    let agree : Agree k v u = more.1.0 in
    let named = more.1.1 in
    let first = local_clauses k v u agree s.clauses r ∙ m.1.1.0 in
    let second = named_implied v k f (suc k) named.0 named.1 in
    let here : not (form_true v (is_true k)) ≡ w = ap not (same_true (v k) ∙ named.0 ∙ local k v u agree f p) ∙ h in
    (v, (agree_more a k t u v le agree m.1.0, (all_append v s.clauses (emitted (denies k ∷ []) f (suc k)) first second, two_wells (not (form_true v (is_true k))) w (wells v s.fails) ws here (local_wells k v u agree s.fails q ∙ m.1.1.1))))

-- truth values for the atoms of the blocks, from those of the first ones
module _ (cs : List (Option ℕ)) (these : ℕ → Bool) (target : Spot) (a : ℕ) (units : units_below a cs ≡ true) (t set : ℕ → Bool) (there : (b : ℕ) → these b ≡ true → there_in cs t b ≡ set b) where
  candidates : (u : ℕ → Bool) → Agree a u t → (b : ℕ) → these b ≡ true → there_in cs u b ≡ set b
  candidates u agree b e = there_local a u t agree cs units b ∙ there b e

  -- equations depend on the atoms that are named alone
  well_block : (u : ℕ → Bool) (later : List Form) (es : List Bool) (b : FormBlock) → Agree a u t → wells u later ≡ es → cmds_below a these b.cmds ≡ true → edges_below a these b.next ≡ true → not (form_true u (fail_block cs target later b)) ≡ form_equation set target t b.cmds (all_form_well set target t es b.next)
  well_block u later es b agree same fk fe =
      ap not (block_true cs these a target u set (candidates u agree) later b fk fe)
      ∙ not_not (form_equation set target u b.cmds (all_form_well set target u (wells u later) b.next))
      ∙ ap (λ l. form_equation set target u b.cmds (all_form_well set target u l b.next)) same
      ∙ equation_local a these u t agree set target b.cmds (all_form_well set target u es b.next) fk
      ∙ ap (form_equation set target t b.cmds) (edges_local a these u t agree set target es b.next fe)

  blocks_met : (bs : List FormBlock) → blocks_below a these bs ≡ true → Met a t (told cs target (nothing a) bs) (form_equations set target t bs)
  blocks_met [] fits = (t, ((λ j e. refl), (refl, refl)))
  blocks_met (b ∷ bs) fits =
      let s = told cs target (nothing a) bs in
      let f = fail_block cs target s.fails b in
      let es = form_equations set target t bs in
      let fk = and_left (cmds_below a these b.cmds) (edges_below a these b.next && blocks_below a these bs) fits in
      let more = and_right (cmds_below a these b.cmds) (edges_below a these b.next && blocks_below a these bs) fits in
      let rest = and_right (edges_below a these b.next) (blocks_below a these bs) more in
      let met = blocks_met bs rest in
      let below = told_below cs target a these units s.next bs rest (omega arith) in
      met_by (is_short f) a t f s (form_equation set target t b.cmds (all_form_well set target t es b.next)) es (told_more cs target a bs) (first_below cs target a these units s.next b bs fits (omega arith)) below.0 below.1 met (well_block met.0 s.fails es b met.1.0 met.1.1.1 fk (and_left (edges_below a these b.next) (blocks_below a these bs) more))

  entry_with : (f : Form) (s : Told) (ws : List Bool) → a ≤ s.next → form_below s.next f ≡ true → clauses_below s.next s.clauses ≡ true → (d : Met a t s ws) → form_true d.0 f ≡ true → (u : ℕ → Bool) × (Agree a u t × (all_in u (with_entry f s).clauses ≡ true))
  entry_with f s ws le p r d h =
      let k = s.next in
      let u = d.0 in
      let more = extended k u (parts f) (parts_below k f p) in
      let v = more.0 in
      let agree : Agree k v u = more.1.0 in
      (v, (agree_more a k t u v le agree d.1.0, all_append v s.clauses (emitted [] f k) (local_clauses k v u agree s.clauses r ∙ d.1.1.0) (emitted_complete v f [] k more.1.1 (local k v u agree f p ∙ h))))

  pub entry_met : (bs : List FormBlock) → blocks_below a these bs ≡ true → is_well (slice_get (form_equations set target t bs) 0) ≡ false → (u : ℕ → Bool) × (Agree a u t × (all_in u (entry_told cs target a bs).clauses ≡ true))
  entry_met [] fits q = absurd (let bad : ⊥ = cc in bad)
  entry_met (b ∷ bs) fits q =
      let s = told cs target (nothing a) bs in
      let f = fail_block cs target s.fails b in
      let es = form_equations set target t bs in
      let fk = and_left (cmds_below a these b.cmds) (edges_below a these b.next && blocks_below a these bs) fits in
      let more = and_right (cmds_below a these b.cmds) (edges_below a these b.next && blocks_below a these bs) fits in
      let rest = and_right (edges_below a these b.next) (blocks_below a these bs) more in
      let met = blocks_met bs rest in
      let below = told_below cs target a these units s.next bs rest (omega arith) in
      let well = well_block met.0 s.fails es b met.1.0 met.1.1.1 fk (and_left (edges_below a these b.next) (blocks_below a these bs) more) in
      entry_with f s es (told_more cs target a bs) (first_below cs target a these units s.next b bs fits (omega arith)) below.1 met (sym (not_not (form_true met.0 f)) ∙ ap not (well ∙ q))
