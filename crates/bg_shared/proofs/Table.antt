-- Each step of the table keeps its rule.
use Rattle.std.proofs.Common.{◌≡◌, ℕ, zero, suc, ◌+◌, ◌-◌, ◌*◌, ◌/◌, ◌%◌, ◌^◌, ◌<◌, ◌≤◌, ◌≢◌, ◌⊎◌, min, Bool, true, false, not, ◌&&◌, eqb, ltb, List, [], ◌∷◌, ◌++◌, get_or, set, map, length, sym, refl, ap, ◌∙◌, subst, inl, inr, ⊎_elim, arith, true≢false, mod-eq_of_lt, lt_of_not-le, Option, Some, None, bit_and, length-set, get_or-set_same, get_or-set_other, eq-eqb, ne_eqb, add-one}
use mathlib.Core.Logic.{dite}
use mathlib.Core.Option.{none, some, some-injective, some-ne-none}
use native.Mathlib.Decide.{ℕ_discrete}
use lib.ListN.{get_elem?}
use lib.Seq.{map-set}
use mathlib.Core.List.{map-append}
use Rattle.bg_base.specs.Totals.{total}
use Rattle.bg_base.proofs.Totals.{total-set, total-snoc, total-le, total-two}
use Rattle.atomic_table.specs.Table.{State, Me, Act, Valid, step, keeps, stepped, carried_after, Allows, Splits, Joins}
use Rattle.atomic_table.proofs.Lists.{at_map, set_else, at_set, at_snoc, set_again}
use Rattle.bg_shared.specs.declared.view.View.{View}
use Rattle.bg_words.specs.declared.machine.Seen.{Seen}
use Rattle.bg_base.specs.declared.ids.CandId.{CandId}
use Rattle.bg_words.specs.Sets.{has, present, bit, mask}
use Rattle.bg_words.specs.Steps.{newcomer, looked, cleared, joined}
use Rattle.bg_shared.specs.Views.{spent, looking, drawing, clearing, forking, forked, joining}
use Rattle.bg_words.specs.Rule.{Kept}
use Rattle.bg_shared.specs.Table.{seens, leading, Afford, Budget, Ruled, Looks, Draws, Clears, Matches}
use Rattle.bg_words.proofs.Bits.{mask_same, present_after}
use Rattle.bg_words.proofs.Keeps as rule

abbrev St : Type 0
St = State (Unit {0}) View

abbrev Seated : Type 0
Seated = Me (Unit {0}) View

-- the seats' knowledge after one seat's step
kept_set : (n next : ℕ) (p : ℕ → Bool) (views : List View) (i : ℕ) (w : View) → Kept n next p (set (seens views) i w.seen) → Kept n next p (seens (set views i w))
kept_set n next p views i w k = subst (Kept n next p) (sym (map-set (λ (v : View). v.seen) views i w)) k

seen_at : (views : List View) (i : ℕ) (v : View) → get_elem? views i ≡ some v → get_elem? (seens views) i ≡ some v.seen
seen_at views i v at = at_map (λ (v : View). v.seen) views i v at

leading_set : (views : List View) (i : ℕ) (v w : View) → get_elem? views i ≡ some v → w.first ≡ v.first → leading (set views i w) ≡ leading views
leading_set [] i v w at e = refl
leading_set (x ∷ xs) zero v w at e = e ∙ ap (λ (u : View). u.first) (sym (some-injective x v at))
leading_set (x ∷ xs) (suc i) v w at e = refl

leading_snoc : (views : List View) (i : ℕ) (v w : View) → get_elem? views i ≡ some v → leading (views ++ w ∷ []) ≡ leading views
leading_snoc [] i v w at = absurd (some-ne-none v (sym at))
leading_snoc (x ∷ xs) i v w at = refl

at_again : (views : List View) (i : ℕ) (v w : View) → get_elem? views i ≡ some v → get_elem? (set views i w) i ≡ some w
at_again [] i v w at = absurd (some-ne-none v (sym at))
at_again (x ∷ xs) zero v w at = refl
at_again (x ∷ xs) (suc i) v w at = at_again xs i v w at

-- one seat is changed
budget_set : (n seats next next' : ℕ) (views : List View) (i : ℕ) (v w : View) → Budget n seats next views → get_elem? views i ≡ some v → w.parts ≡ v.parts → w.right ≡ v.right → w.first ≡ v.first → next' + v.draws ≤ next + w.draws → Afford n w → Budget n seats next' (set views i w)
budget_set n seats next next' views i v w b at p r f d a = record {
  one = let s = total-set (λ u. u.first) views i v w at in let q = b.one in omega arith;
  lead = leading_set views i v w at f ∙ b.lead;
  parts = let s = total-set (λ u. u.parts + u.right) views i v w at in let q = b.parts in omega arith;
  drawn = let s = total-set (λ u. u.draws) views i v w at in let q = b.drawn in omega arith;
  each = λ j u e. ⊎_elim (λ (t : (j ≡ i) × (w ≡ u)). subst (Afford n) t.1 a) (λ (t : (j ≢ i) × (get_elem? views j ≡ some u)). b.each j u t.1) (at_set views i j w u e);
}

total-scale : {V : Type 0} (f : V → ℕ) (k : ℕ) (l : List V) → total (λ v. f v * k) l ≡ total f l * k
total-scale f k [] = omega arith
total-scale f k (x ∷ xs) = let r = total-scale f k xs in omega arith

-- the counter stays far below its end
pub few : (n seats next : ℕ) (views : List View) → Budget n seats next views → next ≤ seats * 4294967296
few n seats next views b = let s = total-scale (λ (v : View). v.parts + v.right) 4294967296 views in
    let le = total-le (λ v. v.draws) (λ v. (v.parts + v.right) * 4294967296) views (λ i v at. each_few n v (b.each i v at)) in
    let q = b.drawn in let m : total (λ (v : View). v.parts + v.right) views * 4294967296 ≡ seats * 4294967296 = ap (λ (x : ℕ). x * 4294967296) b.parts in omega arith
  where
    each_few : (n : ℕ) (v : View) → Afford n v → v.draws ≤ (v.parts + v.right) * 4294967296
    each_few n v a = dite (ℕ_discrete v.parts 0) (λ z. let q = (a.idle z).0 in omega arith) (λ nz. let q = a.draws (omega arith) in let o = a.own in omega arith)

found_is : (s : St) (next : ℕ) (ws : List ℕ) → s.words ≡ next ∷ ws → (i : ℕ) → get_or s.words i 0 ≡ get_or (next ∷ ws) i 0
found_is s next ws e i = ap (λ (l : List ℕ). get_or l i 0) e

-- a load
pub looks : (n seats slots id j : ℕ) (me : Seated) → me.0.live ≡ true → me.0.seen.pending ≡ None → (j ≡ 0) ⊎ (j ≡ me.0.seen.loaded) →
    Allows (Ruled n seats) slots id me (suc j) (λ m. m) (Looks (step slots (suc j) 0 0 none) me)
looks n seats slots id j me live idle turn s h _ at _ = let next : ℕ = h.0 in let ws : List ℕ = h.1 in let k = h.4 in let b = h.5 in let v : View = me.0 in
    let x : ℕ = get_or s.words (suc j) 0 in let is : x ≡ get_or ws j 0 = found_is s next ws h.2 (suc j) in
    let w : View = looking v j (λ c. bit x (c % 64)) in let a = b.each id v at in let is_n = a.cands live in let at' = seen_at s.views id v at in (
      w,
      keeps,
      tt,
      (
        next,
        ws,
        (ap (λ (l : List ℕ). set l (suc j) (get_or l (suc j) 0)) h.2 ∙ ap (λ (l : List ℕ). next ∷ l) (same ws j)),
        h.3,
        kept_set n next (present ws) s.views id w (subst (λ (m : ℕ). Kept n next (present ws) (set (seens s.views) id (looked m v.seen j (λ c. bit x (c % 64))))) (sym is_n) (rule.loads n next (present ws) (seens s.views) k id v.seen at' j (λ c. bit x (c % 64)) idle turn (λ c lt here. ap (λ (y : ℕ). bit y (c % 64)) (is ∙ ap (λ (q : ℕ). get_or ws q 0) (sym here))))),
        budget_set n seats next next s.views id v w b at refl refl refl (omega arith) record { cands = a.cands; own = a.own; draws = a.draws; idle = a.idle },
      ),
      (refl, λ c here gone. ap (λ (y : ℕ). bit y (c % 64)) (is ∙ ap (λ (q : ℕ). get_or ws q 0) (sym here)) ∙ ((k.each id v.seen at').gone c gone).1),
    )
  where
    same : (ws : List ℕ) (j : ℕ) → set ws j (get_or ws j 0) ≡ ws
    same [] j = refl
    same (y ∷ ys) zero = refl
    same (y ∷ ys) (suc j) = ap (λ (l : List ℕ). y ∷ l) (same ys j)

-- the same, where the word's number is a sum
pub looks_at : (n seats slots id j : ℕ) (me : Seated) → me.0.live ≡ true → me.0.seen.pending ≡ None → (j ≡ 0) ⊎ (j ≡ me.0.seen.loaded) →
    Allows (Ruled n seats) slots id me (j + 1) (λ m. m) (Looks (step slots (j + 1) 0 0 none) me)
looks_at n seats slots id j me live idle turn = subst (λ (i : ℕ). Allows (Ruled n seats) slots id me i (λ m. m) (Looks (step slots i 0 0 none) me)) (sym (add-one j)) (looks n seats slots id j me live idle turn)

-- a draw
pub draws : (n seats slots id : ℕ) (me : Seated) → seats ≤ 1024 → n ≤ 64 * me.0.seen.loaded → me.0.seen.pending ≡ None → me.0.own < 4294967296 → 0 < me.0.parts →
    Allows (Ruled n seats) slots id me 0 (λ m. (m + 1) % 2 ^ 64) (Draws (step slots 0 1 0 none) me)
draws n seats slots id me bound whole idle room part s h _ at _ = let next : ℕ = h.0 in let ws : List ℕ = h.1 in let k = h.4 in let b = h.5 in let v : View = me.0 in
    let low = few n seats next s.views b in let up : seats * 4294967296 ≤ 1024 * 4294967296 = Rattle.std.proofs.Common.mul-le-mul_right 4294967296 bound in
    let wraps_not : (next + 1) % 2 ^ 64 ≡ next + 1 = mod-eq_of_lt (omega arith) in let a = b.each id v at in let w : View = drawing v next in let at'' = seen_at s.views id v at in
    let F : ℕ → Type 0 = λ m. (w : View) × (a : Act (Unit {0})) × Valid s.homes me.1 a × Ruled n seats (stepped s 0 ((m + 1) % 2 ^ 64) id me.1 w a) × Draws (step slots 0 1 0 none) me m (w, carried_after me.1 a) in
    subst F (sym (found_is s next ws h.2 0)) (
      w,
      keeps,
      tt,
      (
        next + 1,
        ws,
        (ap (λ (l : List ℕ). set l 0 ((next + 1) % 2 ^ 64)) h.2 ∙ ap (λ (m : ℕ). m ∷ ws) wraps_not),
        h.3,
        kept_set n (next + 1) (present ws) s.views id w (rule.draws n next (present ws) (seens s.views) k id v.seen at'' whole idle),
        budget_set n seats next (next + 1) s.views id v w b at refl refl refl (omega arith) record { cands = a.cands; own = omega arith; draws = λ z. let q = a.draws z in omega arith; idle = λ z. absurd (omega arith) },
      ),
      (refl, λ q e at'. ((k.each id v.seen at'').entries q e at').low.number),
    )

-- a clearing
pub clears : (n seats slots id m c : ℕ) (me : Seated) → me.0.live ≡ true → me.0.seen.pending ≡ Some m → c < n → has me.0.seen.snapshot c ≡ true →
    Allows (Ruled n seats) slots id me (suc (c / 64)) (λ x. bit_and x (mask c)) (Clears (step slots (suc (c / 64)) (mask c) 0 none) me)
clears n seats slots id m c me live pend small inside s h _ at _ = let next : ℕ = h.0 in let ws : List ℕ = h.1 in let k = h.4 in let b = h.5 in let v : View = me.0 in
    let x : ℕ = get_or ws (c / 64) 0 in let is : get_or s.words (suc (c / 64)) 0 ≡ x = found_is s next ws h.2 (suc (c / 64)) in
    let w : View = clearing v m c (bit x (c % 64)) in let a = b.each id v at in let is_n = a.cands live in let at' = seen_at s.views id v at in let wide : c / 64 < length ws = let z = h.3 in omega arith in
    let F : ℕ → Type 0 = λ y. (w : View) × (a : Act (Unit {0})) × Valid s.homes me.1 a × Ruled n seats (stepped s (suc (c / 64)) (bit_and y (mask c)) id me.1 w a) × Clears (step slots (suc (c / 64)) (mask c) 0 none) me y (w, carried_after me.1 a) in
    subst F (sym is) (
      w,
      keeps,
      tt,
      (
        next,
        set ws (c / 64) (bit_and x (mask c)),
        ap (λ (l : List ℕ). set l (suc (c / 64)) (bit_and x (mask c))) h.2,
        (length-set ws (c / 64) (bit_and x (mask c)) ∙ h.3),
        rule.kept_same n next (λ d. present ws d && not (eqb d c)) (present (set ws (c / 64) (bit_and x (mask c)))) (seens (set s.views id w)) (present_after ws c wide)
            (kept_set n next (λ d. present ws d && not (eqb d c)) s.views id w (subst (λ (y : ℕ). Kept n next (λ d. present ws d && not (eqb d c)) (set (seens s.views) id (cleared y v.seen m c (bit x (c % 64))))) (sym is_n) (rule.clears n next (present ws) (seens s.views) k id v.seen at' m c pend small inside))),
        budget_set n seats next next s.views id v w b at refl refl refl (omega arith) record { cands = a.cands; own = a.own; draws = a.draws; idle = λ z. absurd (rule.some≢none m (sym pend ∙ (a.idle z).2)) },
      ),
      (λ m' c' pend' there same. let low = mask_same c c' same in let is_m : m ≡ m' = same_some m m' (sym pend ∙ pend') in let high : c / 64 ≡ c' / 64 = omega arith in let is_c : c ≡ c' = omega arith in
          λ i. (clearing v (is_m i) (is_c i) (bit x (is_c i % 64)), me.1)),
    )
  where
    same_some : (a b : ℕ) → Some a ≡ Some b → a ≡ b
    same_some a b e = cc

pub clears_at : (n seats slots id m c : ℕ) (me : Seated) → me.0.live ≡ true → me.0.seen.pending ≡ Some m → c < n → has me.0.seen.snapshot c ≡ true →
    Allows (Ruled n seats) slots id me (c / 64 + 1) (λ x. bit_and x (mask c)) (Clears (step slots (c / 64 + 1) (mask c) 0 none) me)
clears_at n seats slots id m c me live pend small inside = subst (λ (i : ℕ). Allows (Ruled n seats) slots id me i (λ x. bit_and x (mask c)) (Clears (step slots i (mask c) 0 none) me)) (sym (add-one (c / 64))) (clears n seats slots id m c me live pend small inside)

-- a seat is cut off
pub forks : (n seats id : ℕ) (v : View) → v.live ≡ true → 0 < v.right → Splits (Ruled n seats) id v (forking v) (forked v)
forks n seats id v live may s h at = let next : ℕ = h.0 in let ws : List ℕ = h.1 in let b = h.5 in let a = b.each id v at in let views : List View = s.views in let at' = seen_at views id v at in let is_n = a.cands live in (
  next,
  ws,
  h.2,
  h.3,
  subst (Kept n next (present ws)) (sym (map-append (λ (v : View). v.seen) (set views id (forking v)) (forked v ∷ []) ∙ ap (λ (l : List Seen). l ++ newcomer v.seen.missing ∷ []) (map-set (λ (v : View). v.seen) views id (forking v) ∙ set_again (seens views) id v.seen at')))
      (rule.forks n next (present ws) (seens views) id v.seen h.4 at'),
  record {
    parts = let x = total-set (λ u. u.parts + u.right) views id v (forking v) at in let y = total-snoc (λ u. u.parts + u.right) (set views id (forking v)) (forked v) in let q = b.parts in omega arith;
    one = let x = total-set (λ u. u.first) views id v (forking v) at in let y = total-snoc (λ u. u.first) (set views id (forking v)) (forked v) in let q = b.one in omega arith;
    lead = leading_snoc (set views id (forking v)) id (forking v) (forked v) (at_again views id v (forking v) at) ∙ (leading_set views id v (forking v) at refl ∙ b.lead);
    drawn = let x = total-set (λ u. u.draws) views id v (forking v) at in let y = total-snoc (λ u. u.draws) (set views id (forking v)) (forked v) in let q = b.drawn in omega arith;
    each = λ j u e. ⊎_elim
        (λ (old : get_elem? (set views id (forking v)) j ≡ some u). ⊎_elim
        (λ (t : (j ≡ id) × (forking v ≡ u)). subst (Afford n) t.1 record { cands = a.cands; own = a.own; draws = a.draws; idle = a.idle })
        (λ (t : (j ≢ id) × (get_elem? views j ≡ some u)). b.each j u t.1)
        (at_set views id j (forking v) u old))
        (λ (new : forked v ≡ u). subst (Afford n) new record { cands = λ _. is_n; own = omega arith; draws = λ _. omega arith; idle = λ z. absurd (omega arith) })
        (at_snoc (set views id (forking v)) (forked v) u j e);
  },
)

-- a seat is joined
pub joins : (n seats id other : ℕ) (v w : View) → v.live ≡ true → 0 < v.parts → v.first ≡ 1 → Joins (Ruled n seats) id v other w (joining v w) spent
joins n seats id other v w live has_part is_first s h at apart there = let next : ℕ = h.0 in let ws : List ℕ = h.1 in let b = h.5 in let views : List View = s.views in let g : View = joining v w in
    let was : get_elem? views other ≡ some w = ⊎_elim (λ (t : (other ≡ id) × (g ≡ w)). absurd (apart t.0)) (λ (t : (other ≢ id) × (get_elem? views other ≡ some w)). t.1) (at_set views id other g w there) in
    let other_first : w.first ≡ 0 = (let two = total-two (λ u. u.first) views id other v w at was (λ e. apart (sym e)) in let q = b.one in omega arith) in
    let a = b.each id v at in let a' = b.each other w was in let is_n = a.cands live in let at_v = seen_at views id v at in let at_w = seen_at views other w was in (
      next,
      ws,
      h.2,
      h.3,
      subst (Kept n next (present ws)) (sym (map-set (λ (v : View). v.seen) (set views id g) other spent ∙ ap (λ (l : List Seen). set l other (newcomer [])) (map-set (λ (v : View). v.seen) views id g)))
          (subst (λ (y : ℕ). Kept n next (present ws) (set (set (seens views) id (joined y v.seen w.seen)) other (newcomer []))) (sym is_n)
          (rule.merges n next (present ws) (seens views) id v.seen other w.seen h.4 at_v apart at_w (set_else (seens views) id other (joined n v.seen w.seen) apart ∙ at_w))),
      record {
        parts = let x = total-set (λ u. u.parts + u.right) views id v g at in let y = total-set (λ u. u.parts + u.right) (set views id g) other w spent there in let q = b.parts in omega arith;
        one = let x = total-set (λ u. u.first) views id v g at in let y = total-set (λ u. u.first) (set views id g) other w spent there in let q = b.one in omega arith;
        lead = leading_set (set views id g) other w spent there (sym other_first) ∙ (leading_set views id v g at refl ∙ b.lead);
        drawn = let x = total-set (λ u. u.draws) views id v g at in let y = total-set (λ u. u.draws) (set views id g) other w spent there in let q = b.drawn in omega arith;
        each = λ j u e. ⊎_elim
            (λ (t : (j ≡ other) × (spent ≡ u)). subst (Afford n) t.1 record { cands = λ z. absurd (true≢false (sym z)); own = omega arith; draws = λ z. absurd (omega arith); idle = λ _. (refl, refl, refl) })
            (λ (t : (j ≢ other) × (get_elem? (set views id g) j ≡ some u)). ⊎_elim
            (λ (q : (j ≡ id) × (g ≡ u)). subst (Afford n) q.1 record {
              cands = a.cands;
              own = a.own;
              draws = λ z. let x = a.draws has_part in let o = a'.own in dite (ℕ_discrete w.parts 0) (λ zero_parts. let i = (a'.idle zero_parts).0 in omega arith) (λ nz. let y = a'.draws (omega arith) in omega arith);
              idle = λ z. absurd (omega arith);
            })
            (λ (q : (j ≢ id) × (get_elem? views j ≡ some u)). b.each j u q.1)
            (at_set views id j g u t.1))
            (at_set (set views id g) other j spent u e);
      },
    )

pub matches_same : (v v' : View) (p : Option (ℕ × CandId)) → v'.seen.pending ≡ v.seen.pending → v'.cands ≡ v.cands → v'.seen.snapshot ≡ v.seen.snapshot → Matches v p → Matches v' p
matches_same v v' p a b s m = (
  (λ e. a ∙ m.0 e),
  (λ number c e. let q = m.1 number c e in let small = q.1 in (a ∙ q.0, (let lt : c.0 < v'.cands = omega arith in lt), ap (λ (t : List Bool). has t c.0) s ∙ q.2)),
)
