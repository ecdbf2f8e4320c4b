-- Statements mean statements exactly where they have no fault of names.
use Rattle.std.proofs.Common.{◌≡◌, ℕ, ◌+◌, ◌≤◌, Bool, true, false, List, [], ◌∷◌, ◌++◌, map, flat_map, length, Option, Some, None, cond, refl, sym, ap, ◌∙◌, inl, inr}
use Rattle.std.specs.Prelude.{not, nat_eq, nat_lt, find, Contains}
use Rattle.std.proofs.lemmas.Bool.{ltb-false, not-true, le-ltb, eq-eqb}
use Rattle.bg_base.specs.declared.pos.Pos.{Pos}
use Rattle.bg_text.specs.Trees as t
use Rattle.bg_ast.specs.Syntax as s
use Rattle.bg_ast.specs.Resolved as r
use Rattle.bg_names.specs.declared.error.FaultKind.TheVariants as kinds
use Rattle.bg_names.specs.declared.scope.Meaning.{Meaning}
use Rattle.bg_names.specs.declared.scope.Meaning.TheVariants as means
use Rattle.bg_names.specs.Faults.{fault, unless}
use Rattle.bg_names.specs.Spaces.{Scope, meaning, place, or_zero, use_faults, repeats}
use Rattle.bg_names.specs.Exprs.{exs_faults, named_ex, named_exs}
use Rattle.bg_names.specs.Clauses.{says_of, clause_faults, named_clause, named_clauses}
use Rattle.bg_names.specs.Inside.{Inside, has_number, change_faults, id_faults, variable_as, placed, index_faults, target_faults, named_index, named_target, block_of, entered}
use Rattle.bg_bodies.specs.Bodies.{target_name, changes_at, callee_faults, missing_fault, call_faults, named_call, guard_faults, named_guard, has_label, jump_faults, label_number, labels_in, before_next, break_word, break_faults, st_faults, sts_faults, arms_faults, arm_count, st_count, sts_count, arms_count, break_as, named_st, named_sts, named_arms}
use Rattle.bg_sense.proofs.Members.{In, contained, member}
use Rattle.bg_named.proofs.ExprsBits.{never, faulty, holds}
use Rattle.bg_named.proofs.SpacesOnce.{empty_parts}
use Rattle.bg_named.proofs.SpacesPlaces.{used}
use Rattle.bg_named.proofs.StmtsMembers.{in_numbers, none_passes, or_left, or_right}
use Rattle.bg_meant.specs.Statements.{MeansClause, MeanClauses, MayChange, MeansChanged, MeansIndex, MeansTarget, MeansCall, MeansGuard, JumpsTo, label_in, Breaks, MeansSt, MeanSts, MeanArms}
use Rattle.bg_meant.proofs.Meanings.{both, no_use, means_fine, faultless_means, all_means_fine, faultless_all}
use Rattle.bg_meant.proofs.Once.{match_fine, match_mean, once_fine, once_mean}

-- ---- clauses

pub clause_fine : (g : Scope) (n : ℕ) (k : t.Clause) (c : r.Clause) → MeansClause g n k c → (clause_faults g k ≡ []) × (named_clause g n k ≡ c)
clause_fine g n k c h =
    let w = means_fine g (says_of g k) c.says h.says in
    (w.0, rw (h.pos, h.id, h.is_free, h.candidate, sym w.1) refl)

pub clause_means : (g : Scope) (n : ℕ) (k : t.Clause) → clause_faults g k ≡ [] → MeansClause g n k (named_clause g n k)
clause_means g n k h = record { pos = refl; id = refl; is_free = refl; candidate = refl; says = faultless_means g (says_of g k) h }

pub clauses_fine : (g : Scope) (n : ℕ) (ks : List t.Clause) (cs : List r.Clause) → MeanClauses g n ks cs → (flat_map (clause_faults g) ks ≡ []) × (named_clauses g n ks ≡ cs)
clauses_fine g n [] [] h = (refl, refl)
clauses_fine g n [] (c ∷ cs) h = absurd h
clauses_fine g n (k ∷ ks) [] h = absurd h
clauses_fine g n (k ∷ ks) (c ∷ cs) h =
    let w = clause_fine g n k c h.0 in
    let v = clauses_fine g (n + 1) ks cs h.1 in
    (both (clause_faults g k) (flat_map (clause_faults g) ks) w.0 v.0, ap (λ (x : r.Clause). x ∷ named_clauses g (n + 1) ks) w.1 ∙ ap (λ (l : List r.Clause). c ∷ l) v.1)

pub clauses_mean : (g : Scope) (n : ℕ) (ks : List t.Clause) → flat_map (clause_faults g) ks ≡ [] → MeanClauses g n ks (named_clauses g n ks)
clauses_mean g n [] h = tt
clauses_mean g n (k ∷ ks) h =
    let w = empty_parts (clause_faults g k) (flat_map (clause_faults g) ks) h in
    (clause_means g n k w.0, clauses_mean g (n + 1) ks w.1)

-- ---- variables that are changed

numbers_in : (ks : List ℕ) (k : ℕ) → In ks k → has_number ks k ≡ true
numbers_in [] k h = absurd h
numbers_in (x ∷ xs) k (inl e) = or_left (nat_eq k x) (has_number xs k) (eq-eqb k x (sym e))
numbers_in (x ∷ xs) k (inr h) = or_right (nat_eq k x) (has_number xs k) (numbers_in xs k h)

not_less : (k n : ℕ) → n ≤ k → not (nat_lt k n) ≡ true
not_less k n h = ap not (le-ltb k n h)

not_below : (k n : ℕ) → not (nat_lt k n) ≡ true → n ≤ k
not_below k n h = ltb-false k n (not-true (nat_lt k n) h)

abbrev placed_as : Pos → s.Var → r.Placed
placed_as p v = record { pos = p; variable = v }

same_placed : (p : Pos) (v : s.Var) (y : r.Placed) → y.pos ≡ p → y.variable ≡ v → placed_as p v ≡ y
same_placed p v y e f = ap (λ (q : Pos). placed_as q v) (sym e) ∙ ap (placed_as y.pos) (sym f)

change_fine : (b : Inside) (x : t.Id) (y : r.Placed) (m : Meaning) → y.pos ≡ x.pos → MayChange b m y.variable → (change_faults b x m ≡ []) × (placed_as x.pos (variable_as m) ≡ y)
change_fine b x y (means.Local k) p h =
    (ap (λ (z : Bool). unless z (fault kinds.AssignsInput x.pos x.text)) (not_less k b.inputs h.0), same_placed x.pos (s.Local k) y p h.1)
change_fine b x y (means.Global k) p h =
    (ap (λ (z : Bool). unless z (fault kinds.NotModified x.pos x.text)) (numbers_in b.modifies k (member b.modifies k h.0)), same_placed x.pos (s.Global k) y p h.1)
change_fine b x y (means.Constant k) p h = absurd h
change_fine b x y (means.Candidate k) p h = absurd h
change_fine b x y means.Nothing p h = absurd h

change_means : (b : Inside) (x : t.Id) (m : Meaning) → change_faults b x m ≡ [] → MayChange b m (variable_as m)
change_means b x (means.Local k) h = (not_below k b.inputs (holds (not (nat_lt k b.inputs)) (fault kinds.AssignsInput x.pos x.text) h), refl)
change_means b x (means.Global k) h = (contained b.modifies k (in_numbers b.modifies k (holds (has_number b.modifies k) (fault kinds.NotModified x.pos x.text) h)), refl)
change_means b x (means.Constant k) h = faulty (fault kinds.AssignsInput x.pos x.text) [] h
change_means b x (means.Candidate k) h = faulty (fault kinds.AssignsInput x.pos x.text) [] h
change_means b x means.Nothing h = faulty (fault kinds.UnknownName x.pos x.text) [] h

id_fine : (b : Inside) (x : t.Id) (y : r.Placed) → MeansChanged b x y → (id_faults b x ≡ []) × (placed b x ≡ y)
id_fine b x y h = change_fine b x y (meaning b.scope x.text) h.0 h.1

id_means : (b : Inside) (x : t.Id) → id_faults b x ≡ [] → MeansChanged b x (placed b x)
id_means b x h = (refl, change_means b x (meaning b.scope x.text) h)

index_fine : (b : Inside) (i : Pos × t.Exs) (j : Pos × r.Exs) → MeansIndex b i j → (index_faults b i ≡ []) × (named_index b i ≡ j)
index_fine b i j h =
    let w = all_means_fine b.scope i.1 j.1 h.1 in
    (w.0, ap (λ (p : Pos). (p, named_exs b.scope i.1)) (sym h.0) ∙ ap (λ (es : r.Exs). (j.0, es)) w.1)

index_means : (b : Inside) (i : Pos × t.Exs) → index_faults b i ≡ [] → MeansIndex b i (named_index b i)
index_means b i h = (refl, faultless_all b.scope i.1 h)

abbrev target_as : r.Placed → List (Pos × r.Exs) → r.Target
target_as p is = record { placed = p; brackets = is }

target_fine : (b : Inside) (x : t.Target) (y : r.Target) → MeansTarget b x y → (target_faults b x ≡ []) × (named_target b x ≡ y)
target_fine b x y h =
    let w = id_fine b x.name y.placed h.changed in
    let v = match_fine (MeansIndex b) (index_faults b) (named_index b) (index_fine b) x.brackets y.brackets h.brackets in
    (both (id_faults b x.name) (flat_map (index_faults b) x.brackets) w.0 v.0, ap (λ (p : r.Placed). target_as p (map (named_index b) x.brackets)) w.1 ∙ ap (target_as y.placed) v.1)

target_means : (b : Inside) (x : t.Target) → target_faults b x ≡ [] → MeansTarget b x (named_target b x)
target_means b x h =
    let w = empty_parts (id_faults b x.name) (flat_map (index_faults b) x.brackets) h in
    record { changed = id_means b x.name w.0; brackets = match_mean (MeansIndex b) (index_faults b) (named_index b) (index_means b) x.brackets w.1 }

-- ---- calls

none_found : (p : ℕ → Bool) (ks : List ℕ) → ((k : ℕ) → In ks k → p k ≡ false) → find p ks ≡ None
none_found p [] h = refl
none_found p (x ∷ xs) h = ap (λ (a : Bool). cond a (Some x) (find p xs)) (h x (inl refl)) ∙ none_found p xs (λ k i. h k (inr i))

none_missing : (globals : List (List ℕ)) (p : Pos) (o : Option ℕ) → missing_fault globals p o ≡ [] → o ≡ None
none_missing globals p None h = refl
none_missing globals p (Some k) h = faulty _ [] h

abbrev unlisted : Inside → ℕ → Bool
unlisted b k = not (has_number b.modifies k)

callee_fine : (b : Inside) (x : t.Id) (k : ℕ) → place b.procedures x.text ≡ Some k → ((j : ℕ) → Contains (changes_at b.changes (Some k)) j → Contains b.modifies j) → callee_faults b x ≡ []
callee_fine b x k e h =
    ap (λ (o : Option ℕ). missing_fault b.globals x.pos (find (unlisted b) (changes_at b.changes o))) e
    ∙ ap (missing_fault b.globals x.pos) (none_found (unlisted b) (changes_at b.changes (Some k)) is_listed)
  where
    is_listed : (j : ℕ) → In (changes_at b.changes (Some k)) j → unlisted b j ≡ false
    is_listed j i = ap not (numbers_in b.modifies j (member b.modifies j (h j (contained (changes_at b.changes (Some k)) j i))))

listed : (b : Bool) → not b ≡ false → b ≡ true
listed true h = refl
listed false h = never (sym h)

callee_means : (b : Inside) (x : t.Id) (k : ℕ) → place b.procedures x.text ≡ Some k → callee_faults b x ≡ [] → (j : ℕ) → Contains (changes_at b.changes (Some k)) j → Contains b.modifies j
callee_means b x k e h j c =
    let none = none_missing b.globals x.pos (find (unlisted b) (changes_at b.changes (Some k))) (ap (λ (o : Option ℕ). missing_fault b.globals x.pos (find (unlisted b) (changes_at b.changes o))) (sym e) ∙ h) in
    let no = none_passes (unlisted b) (changes_at b.changes (Some k)) none j (member (changes_at b.changes (Some k)) j c) in
    contained b.modifies j (in_numbers b.modifies j (listed (has_number b.modifies j) no))

call_fine : (b : Inside) (n : ℕ) (k : t.Call) (c : r.Call) → MeansCall b n k c → (call_faults b k ≡ []) × (named_call b n k ≡ c)
call_fine b n k c h =
    let takes = match_fine (MeansChanged b) (id_faults b) (placed b) (id_fine b) k.takes c.takes h.takes in
    let args = all_means_fine b.scope k.args c.args h.args in
    let at : or_zero (place b.procedures k.procedure.text) ≡ c.procedure = ap or_zero h.procedure in (
      both
          (((repeats [] k.takes ++ flat_map (id_faults b) k.takes) ++ use_faults b.procedures k.procedure) ++ callee_faults b k.procedure)
          (exs_faults b.scope k.args)
          (both
          ((repeats [] k.takes ++ flat_map (id_faults b) k.takes) ++ use_faults b.procedures k.procedure)
          (callee_faults b k.procedure)
          (both
          (repeats [] k.takes ++ flat_map (id_faults b) k.takes)
          (use_faults b.procedures k.procedure)
          (both (repeats [] k.takes) (flat_map (id_faults b) k.takes) (once_fine k.takes h.once) takes.0)
          (no_use b.procedures k.procedure.pos k.procedure.text c.procedure h.procedure))
          (callee_fine b k.procedure c.procedure h.procedure h.modifies))
          args.0,
      rw (h.pos, h.site, h.name_pos, sym at, sym takes.1, sym args.1) refl,
    )

call_means : (b : Inside) (n : ℕ) (k : t.Call) → call_faults b k ≡ [] → MeansCall b n k (named_call b n k)
call_means b n k h =
    let last = empty_parts (((repeats [] k.takes ++ flat_map (id_faults b) k.takes) ++ use_faults b.procedures k.procedure) ++ callee_faults b k.procedure) (exs_faults b.scope k.args) h in
    let more = empty_parts ((repeats [] k.takes ++ flat_map (id_faults b) k.takes) ++ use_faults b.procedures k.procedure) (callee_faults b k.procedure) last.0 in
    let one = empty_parts (repeats [] k.takes ++ flat_map (id_faults b) k.takes) (use_faults b.procedures k.procedure) more.0 in
    let two = empty_parts (repeats [] k.takes) (flat_map (id_faults b) k.takes) one.0 in
    let at = used b.procedures k.procedure one.1 in
    let is_zero : place b.procedures k.procedure.text ≡ Some (or_zero (place b.procedures k.procedure.text)) = at.1 ∙ ap (λ (o : Option ℕ). Some (or_zero o)) (sym at.1) in
    record {
      pos = refl;
      site = refl;
      name_pos = refl;
      procedure = is_zero;
      modifies = callee_means b k.procedure (or_zero (place b.procedures k.procedure.text)) is_zero more.1;
      args = faultless_all b.scope k.args last.1;
      once = once_mean k.takes two.0;
      takes = match_mean (MeansChanged b) (id_faults b) (placed b) (id_means b) k.takes two.1;
    }

-- ---- guards and jumps

guard_fine : (b : Inside) (g : t.Guard) (h : r.Guard) → MeansGuard b g h → (guard_faults b g ≡ []) × (named_guard b g ≡ h)
guard_fine b (t.Star p) h m = (refl, sym m)
guard_fine b (t.Test a) h m = let w = means_fine b.scope a m.0 m.1 in (w.0, ap r.Test w.1 ∙ sym m.2)

guard_means : (b : Inside) (g : t.Guard) → guard_faults b g ≡ [] → MeansGuard b g (named_guard b g)
guard_means b (t.Star p) h = refl
guard_means b (t.Test a) h = (named_ex b.scope a, faultless_means b.scope a h, refl)

jump_fine : (b : Inside) (allowed : List ℕ) (x : t.Id) (k : ℕ) → JumpsTo b allowed x k → (jump_faults b allowed x ≡ []) × (label_number b x ≡ k)
jump_fine b allowed x k h = (
  both
      (use_faults b.labels x)
      (unless (has_label allowed (place b.labels x.text)) (fault kinds.BadTarget x.pos x.text))
      (no_use b.labels x.pos x.text k h.0)
      (ap (λ (o : Option ℕ). unless (has_label allowed o) (fault kinds.BadTarget x.pos x.text)) h.0
      ∙ ap (λ (z : Bool). unless z (fault kinds.BadTarget x.pos x.text)) (numbers_in allowed k (member allowed k h.1))),
  ap or_zero h.0,
)

jump_means : (b : Inside) (allowed : List ℕ) (x : t.Id) → jump_faults b allowed x ≡ [] → JumpsTo b allowed x (label_number b x)
jump_means b allowed x h =
    let parts = empty_parts (use_faults b.labels x) (unless (has_label allowed (place b.labels x.text)) (fault kinds.BadTarget x.pos x.text)) h in
    let at = used b.labels x parts.0 in
    let is_zero : place b.labels x.text ≡ Some (label_number b x) = at.1 ∙ ap (λ (o : Option ℕ). Some (or_zero o)) (sym at.1) in
    let has = holds (has_label allowed (place b.labels x.text)) (fault kinds.BadTarget x.pos x.text) parts.1 in
    (is_zero, contained allowed (label_number b x) (in_numbers allowed (label_number b x) (ap (has_label allowed) (sym is_zero) ∙ has)))

abbrev pub is_inside : Option ℕ → Bool
is_inside None = false
is_inside (Some n) = true

break_fine : (b : Inside) (loop : Option ℕ) (blocks : List (ℕ × ℕ)) (p : Pos) (x : Option t.Id) (n : ℕ) → Breaks b loop blocks x n → (break_faults b (is_inside loop) (map label_in blocks) p x ≡ []) × (break_as b (or_zero loop) blocks x ≡ n)
break_fine b loop blocks p None n h =
    (ap (λ (o : Option ℕ). unless (is_inside o) (fault kinds.BadTarget p break_word)) h, ap or_zero h)
break_fine b loop blocks p (Some x) n h =
    let w = jump_fine b (map label_in blocks) x h.0 h.1 in
    (w.0, ap (block_of blocks) w.1 ∙ sym h.2)

break_means : (b : Inside) (loop : Option ℕ) (blocks : List (ℕ × ℕ)) (p : Pos) (x : Option t.Id) → break_faults b (is_inside loop) (map label_in blocks) p x ≡ [] → Breaks b loop blocks x (break_as b (or_zero loop) blocks x)
break_means b None blocks p None h = faulty (fault kinds.BadTarget p break_word) [] h
break_means b (Some n) blocks p None h = refl
break_means b loop blocks p (Some x) h = (label_number b x, jump_means b (map label_in blocks) x h, refl)

-- ---- statements

entered_labels : (before : List ℕ) (n : ℕ) (blocks : List (ℕ × ℕ)) → map label_in (entered before n blocks) ≡ before ++ map label_in blocks
entered_labels [] n blocks = refl
entered_labels (l ∷ ls) n blocks = ap (λ (m : List ℕ). l ∷ m) (entered_labels ls n blocks)

module _ (b : Inside) where
  mutual
    st_fine : (ahead : List ℕ) (loop : Option ℕ) (blocks : List (ℕ × ℕ)) (around before : List ℕ) (n : ℕ) (a : t.St) (e : r.St) → map label_in blocks ≡ around → MeansSt b ahead loop blocks before n a e → (st_faults b ahead (is_inside loop) around before a ≡ []) × (named_st b n (or_zero loop) blocks before a ≡ e)
    st_fine ahead loop blocks around before n (t.Label x) e q h = (refl, sym h)
    st_fine ahead loop blocks around before n (t.Assert k) e q h =
        let w = clause_fine b.scope n k h.0 h.1 in (w.0, ap r.Assert w.1 ∙ sym h.2)
    st_fine ahead loop blocks around before n (t.Assume k) e q h =
        let w = means_fine b.scope k.says h.0 h.1 in (w.0, ap r.Assume w.1 ∙ sym h.2)
    st_fine ahead loop blocks around before n (t.Havoc p xs) e q h =
        let w = match_fine (MeansChanged b) (id_faults b) (placed b) (id_fine b) xs h.0 h.1 in (w.0, ap r.Havoc w.1 ∙ sym h.2)
    st_fine ahead loop blocks around before n (t.Assign p ts es) e q h =
        let w = match_fine (MeansTarget b) (target_faults b) (named_target b) (target_fine b) ts h.0 h.1.2 in
        let v = all_means_fine b.scope es h.1.0 h.1.3 in (
          both
              (repeats [] (map target_name ts) ++ flat_map (target_faults b) ts)
              (exs_faults b.scope es)
              (both (repeats [] (map target_name ts)) (flat_map (target_faults b) ts) (once_fine (map target_name ts) h.1.1) w.0)
              v.0,
          ap (λ (us : List r.Target). r.Assign p us (named_exs b.scope es)) w.1 ∙ (ap (r.Assign p h.0) v.1 ∙ sym h.1.4),
        )
    st_fine ahead loop blocks around before n (t.Invoke k) e q h =
        let w = call_fine b n k h.0 h.1 in (w.0, ap r.Invoke w.1 ∙ sym h.2)
    st_fine ahead loop blocks around before n (t.If p arms) e q h =
        let w = arms_fine ahead loop (entered before n blocks) (before ++ around) (n + arm_count arms) arms h.0 (entered_labels before n blocks ∙ ap (λ (l : List ℕ). before ++ l) q) h.1 in
        (w.0, ap (λ (x : r.Arms). r.If n x r.NoSt) w.1 ∙ sym h.2)
    st_fine ahead loop blocks around before n (t.IfElse p arms ss) e q h =
        let around_is = entered_labels before n blocks ∙ ap (λ (l : List ℕ). before ++ l) q in
        let w = arms_fine ahead loop (entered before n blocks) (before ++ around) (n + arm_count arms) arms h.0 around_is h.1.1 in
        let v = sts_fine ahead loop (entered before n blocks) (before ++ around) [] (n + arm_count arms + arms_count arms) ss h.1.0 around_is h.1.2 in (
          both (arms_faults b ahead (is_inside loop) (before ++ around) arms) (sts_faults b ahead (is_inside loop) (before ++ around) [] ss) w.0 v.0,
          ap (λ (x : r.Arms). r.If n x (named_sts b (n + arm_count arms + arms_count arms) (or_zero loop) (entered before n blocks) [] ss)) w.1 ∙ (ap (r.If n h.0) v.1 ∙ sym h.1.3),
        )
    st_fine ahead loop blocks around before n (t.While p g is ss) e q h =
        let w = guard_fine b g h.0 h.1.1.1 in
        let v = clauses_fine b.scope (n + 1) is h.1.0 h.1.1.2 in
        let u = sts_fine ahead (Some n) (entered before n blocks) (before ++ around) [] (n + 1 + length is) ss h.1.1.0 (entered_labels before n blocks ∙ ap (λ (l : List ℕ). before ++ l) q) h.1.1.3 in (
          both
              (guard_faults b g ++ flat_map (clause_faults b.scope) is)
              (sts_faults b ahead true (before ++ around) [] ss)
              (both (guard_faults b g) (flat_map (clause_faults b.scope) is) w.0 v.0)
              u.0,
          ap (λ (x : r.Guard). r.While n p x (named_clauses b.scope (n + 1) is) (named_sts b (n + 1 + length is) n (entered before n blocks) [] ss)) w.1
              ∙ (ap (λ (x : List r.Clause). r.While n p h.0 x (named_sts b (n + 1 + length is) n (entered before n blocks) [] ss)) v.1 ∙ (ap (r.While n p h.0 h.1.0) u.1 ∙ sym h.1.1.4)),
        )
    st_fine ahead loop blocks around before n (t.Break p x) e q h =
        let w = break_fine b loop blocks p x h.0 h.1 in
        (ap (λ (l : List ℕ). break_faults b (is_inside loop) l p x) (sym q) ∙ w.0, ap r.Break w.1 ∙ sym h.2)
    st_fine ahead loop blocks around before n (t.Goto p xs) e q h =
        let w = match_fine (JumpsTo b ahead) (jump_faults b ahead) (label_number b) (jump_fine b ahead) xs h.0 h.1 in
        (w.0, ap r.Goto w.1 ∙ sym h.2)
    st_fine ahead loop blocks around before n (t.Return p) e q h = (refl, sym h)

    sts_fine : (ahead : List ℕ) (loop : Option ℕ) (blocks : List (ℕ × ℕ)) (around before : List ℕ) (n : ℕ) (ss : t.Sts) (es : r.Sts) → map label_in blocks ≡ around → MeanSts b ahead loop blocks before n ss es → (sts_faults b ahead (is_inside loop) around before ss ≡ []) × (named_sts b n (or_zero loop) blocks before ss ≡ es)
    sts_fine ahead loop blocks around before n t.NoSt es q h = (refl, sym h)
    sts_fine ahead loop blocks around before n (t.Then a ss) es q h =
        let w = st_fine (labels_in b ss ++ ahead) loop blocks around before n a h.0 q h.1.1 in
        let v = sts_fine ahead loop blocks around (before_next b before a) (n + st_count a) ss h.1.0 q h.1.2 in (
          both (st_faults b (labels_in b ss ++ ahead) (is_inside loop) around before a) (sts_faults b ahead (is_inside loop) around (before_next b before a) ss) w.0 v.0,
          ap (λ (x : r.St). r.Then x (named_sts b (n + st_count a) (or_zero loop) blocks (before_next b before a) ss)) w.1 ∙ (ap (r.Then h.0) v.1 ∙ sym h.1.3),
        )

    arms_fine : (ahead : List ℕ) (loop : Option ℕ) (blocks : List (ℕ × ℕ)) (around : List ℕ) (n : ℕ) (arms : t.Arms) (es : r.Arms) → map label_in blocks ≡ around → MeanArms b ahead loop blocks n arms es → (arms_faults b ahead (is_inside loop) around arms ≡ []) × (named_arms b n (or_zero loop) blocks arms ≡ es)
    arms_fine ahead loop blocks around n t.NoArm es q h = (refl, sym h)
    arms_fine ahead loop blocks around n (t.Arm g ss arms) es q h =
        let w = guard_fine b g h.0 h.1.1.1 in
        let v = sts_fine ahead loop blocks around [] n ss h.1.0 q h.1.1.2 in
        let u = arms_fine ahead loop blocks around (n + sts_count ss) arms h.1.1.0 q h.1.1.3 in (
          both
              (guard_faults b g ++ sts_faults b ahead (is_inside loop) around [] ss)
              (arms_faults b ahead (is_inside loop) around arms)
              (both (guard_faults b g) (sts_faults b ahead (is_inside loop) around [] ss) w.0 v.0)
              u.0,
          ap (λ (x : r.Guard). r.Arm x (named_sts b n (or_zero loop) blocks [] ss) (named_arms b (n + sts_count ss) (or_zero loop) blocks arms)) w.1
              ∙ (ap (λ (x : r.Sts). r.Arm h.0 x (named_arms b (n + sts_count ss) (or_zero loop) blocks arms)) v.1 ∙ (ap (r.Arm h.0 h.1.0) u.1 ∙ sym h.1.1.4)),
        )

  mutual
    st_means : (ahead : List ℕ) (loop : Option ℕ) (blocks : List (ℕ × ℕ)) (around before : List ℕ) (n : ℕ) (a : t.St) → map label_in blocks ≡ around → st_faults b ahead (is_inside loop) around before a ≡ [] → MeansSt b ahead loop blocks before n a (named_st b n (or_zero loop) blocks before a)
    st_means ahead loop blocks around before n (t.Label x) q h = refl
    st_means ahead loop blocks around before n (t.Assert k) q h = (named_clause b.scope n k, clause_means b.scope n k h, refl)
    st_means ahead loop blocks around before n (t.Assume k) q h = (named_ex b.scope k.says, faultless_means b.scope k.says h, refl)
    st_means ahead loop blocks around before n (t.Havoc p xs) q h =
        (map (placed b) xs, match_mean (MeansChanged b) (id_faults b) (placed b) (id_means b) xs h, refl)
    st_means ahead loop blocks around before n (t.Assign p ts es) q h =
        let w = empty_parts (repeats [] (map target_name ts) ++ flat_map (target_faults b) ts) (exs_faults b.scope es) h in
        let v = empty_parts (repeats [] (map target_name ts)) (flat_map (target_faults b) ts) w.0 in
        (map (named_target b) ts, (named_exs b.scope es, once_mean (map target_name ts) v.0, match_mean (MeansTarget b) (target_faults b) (named_target b) (target_means b) ts v.1, faultless_all b.scope es w.1, refl))
    st_means ahead loop blocks around before n (t.Invoke k) q h = (named_call b n k, call_means b n k h, refl)
    st_means ahead loop blocks around before n (t.If p arms) q h =
        (named_arms b (n + arm_count arms) (or_zero loop) (entered before n blocks) arms, arms_mean ahead loop (entered before n blocks) (before ++ around) (n + arm_count arms) arms (entered_labels before n blocks ∙ ap (λ (l : List ℕ). before ++ l) q) h, refl)
    st_means ahead loop blocks around before n (t.IfElse p arms ss) q h =
        let around_is = entered_labels before n blocks ∙ ap (λ (l : List ℕ). before ++ l) q in
        let w = empty_parts (arms_faults b ahead (is_inside loop) (before ++ around) arms) (sts_faults b ahead (is_inside loop) (before ++ around) [] ss) h in
        (named_arms b (n + arm_count arms) (or_zero loop) (entered before n blocks) arms, (named_sts b (n + arm_count arms + arms_count arms) (or_zero loop) (entered before n blocks) [] ss, arms_mean ahead loop (entered before n blocks) (before ++ around) (n + arm_count arms) arms around_is w.0, sts_mean ahead loop (entered before n blocks) (before ++ around) [] (n + arm_count arms + arms_count arms) ss around_is w.1, refl))
    st_means ahead loop blocks around before n (t.While p g is ss) q h =
        let w = empty_parts (guard_faults b g ++ flat_map (clause_faults b.scope) is) (sts_faults b ahead true (before ++ around) [] ss) h in
        let v = empty_parts (guard_faults b g) (flat_map (clause_faults b.scope) is) w.0 in
        (named_guard b g, (named_clauses b.scope (n + 1) is, (named_sts b (n + 1 + length is) n (entered before n blocks) [] ss, guard_means b g v.0, clauses_mean b.scope (n + 1) is v.1, sts_mean ahead (Some n) (entered before n blocks) (before ++ around) [] (n + 1 + length is) ss (entered_labels before n blocks ∙ ap (λ (l : List ℕ). before ++ l) q) w.1, refl)))
    st_means ahead loop blocks around before n (t.Break p x) q h =
        (break_as b (or_zero loop) blocks x, break_means b loop blocks p x (ap (λ (l : List ℕ). break_faults b (is_inside loop) l p x) q ∙ h), refl)
    st_means ahead loop blocks around before n (t.Goto p xs) q h =
        (map (label_number b) xs, match_mean (JumpsTo b ahead) (jump_faults b ahead) (label_number b) (jump_means b ahead) xs h, refl)
    st_means ahead loop blocks around before n (t.Return p) q h = refl

    sts_mean : (ahead : List ℕ) (loop : Option ℕ) (blocks : List (ℕ × ℕ)) (around before : List ℕ) (n : ℕ) (ss : t.Sts) → map label_in blocks ≡ around → sts_faults b ahead (is_inside loop) around before ss ≡ [] → MeanSts b ahead loop blocks before n ss (named_sts b n (or_zero loop) blocks before ss)
    sts_mean ahead loop blocks around before n t.NoSt q h = refl
    sts_mean ahead loop blocks around before n (t.Then a ss) q h =
        let w = empty_parts (st_faults b (labels_in b ss ++ ahead) (is_inside loop) around before a) (sts_faults b ahead (is_inside loop) around (before_next b before a) ss) h in
        (named_st b n (or_zero loop) blocks before a, (named_sts b (n + st_count a) (or_zero loop) blocks (before_next b before a) ss, st_means (labels_in b ss ++ ahead) loop blocks around before n a q w.0, sts_mean ahead loop blocks around (before_next b before a) (n + st_count a) ss q w.1, refl))

    arms_mean : (ahead : List ℕ) (loop : Option ℕ) (blocks : List (ℕ × ℕ)) (around : List ℕ) (n : ℕ) (arms : t.Arms) → map label_in blocks ≡ around → arms_faults b ahead (is_inside loop) around arms ≡ [] → MeanArms b ahead loop blocks n arms (named_arms b n (or_zero loop) blocks arms)
    arms_mean ahead loop blocks around n t.NoArm q h = refl
    arms_mean ahead loop blocks around n (t.Arm g ss arms) q h =
        let w = empty_parts (guard_faults b g ++ sts_faults b ahead (is_inside loop) around [] ss) (arms_faults b ahead (is_inside loop) around arms) h in
        let v = empty_parts (guard_faults b g) (sts_faults b ahead (is_inside loop) around [] ss) w.0 in
        (named_guard b g, (named_sts b n (or_zero loop) blocks [] ss, (named_arms b (n + sts_count ss) (or_zero loop) blocks arms, guard_means b g v.0, sts_mean ahead loop blocks around [] n ss q v.1, arms_mean ahead loop blocks around (n + sts_count ss) arms q w.1, refl)))

-- a body's statements
pub body_fine : (b : Inside) (n : ℕ) (ss : t.Sts) (es : r.Sts) → MeanSts b [] None [] [] n ss es → (sts_faults b [] false [] [] ss ≡ []) × (named_sts b n 0 [] [] ss ≡ es)
body_fine b n ss es h = sts_fine b [] None [] [] [] n ss es refl h

pub body_means : (b : Inside) (n : ℕ) (ss : t.Sts) → sts_faults b [] false [] [] ss ≡ [] → MeanSts b [] None [] [] n ss (named_sts b n 0 [] [] ss)
body_means b n ss h = sts_mean b [] None [] [] [] n ss refl h
