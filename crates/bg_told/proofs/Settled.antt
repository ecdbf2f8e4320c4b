-- What is told of two true outcomes in which nothing is unknown is the same, but for counterexamples.
use Rattle.std.proofs.Common.{◌≡◌, ℕ, suc, Bool, true, false, not, ◌&&◌, if◌then◌else◌, nat_lt, ◌==◌, List, [], ◌∷◌, map, Option, Some, None, refl, sym, ap, ◌∙◌, subst, All, length}
use Rattle.std.specs.List.{list_all}
use Rattle.std.proofs.lemmas.Bool.{and_parts}
use Rattle.std.proofs.lemmas.List.Elements.{All-nil, All-cons, All-head, All-tail}
use mathlib.Core.Path.{fun_ext}
use Rattle.bg_ast.specs.Syntax.{Prog}
use Rattle.bg_ast.specs.Resolved as r
use Rattle.bg_ast.specs.Meaning.{meaning_of}
use Rattle.bg_ast.specs.Execution.{Place}
use Rattle.bg_places.specs.Placed.{Placed}
use Rattle.bg_words.specs.Sets.{Numbers, has}
use Rattle.bg_tree.specs.declared.outcome.Budget.{Budget}
use Rattle.bg_rounds.specs.declared.keeper.Removal.{Removal}
use Rattle.bg_rounds.specs.Removals.{RightRemoval}
use Rattle.bg_rounds.specs.Outcomes.{NoneUnknown}
use Rattle.bg_sound.specs.Told as t
use Rattle.bg_sound.specs.Told.{Verdict, Proved, Refuted, Unknown, Judged, placed_at, is_unknown, are_settled}
use Rattle.bg_sound.specs.Sound.{AreAxioms, IsTrueAt, AreTrueAt, AreTrueFrom, IsSound}
use Rattle.bg_check.specs.declared.verdict.Cause.{Cause}
use Rattle.bg_houdini.specs.declared.reason.Reason.{Reason}
use Rattle.bg_houdini.specs.declared.reason.Reason.TheVariants as reason
use Rattle.bg_inference.specs.declared.outcome.Outcome.{Outcome}
use Rattle.bg_houdini.specs.Tasks.{tasks_of, candidate_of}
use Rattle.bg_houdini.specs.Checks.{IsReason, TaskFinds}
use Rattle.bg_inference.specs.Outcomes.{judged_program, IsTrueOutcome}
use Rattle.bg_inference.specs.Told.{outcome_of}
use Rattle.bg_houdini.specs.Told.{is_checked, earlier, first_of, fate_for, fate_by, fate, each_below, are_known}
use Rattle.bg_told.specs.Settled.{is_settled, bare_verdict, bare, without_counterexamples, verdict_lines}
use Rattle.bg_told.specs.Report.{result_text}

-- ---- places

-- a place that is proved in one isn't refuted in the other
same_verdict : (p : Prog) (set : ℕ → Bool) (a b : Place) (v w : Verdict) → a ≡ b → IsTrueAt p set a v → IsTrueAt p set b w → not (is_unknown v) ≡ true → not (is_unknown w) ≡ true → bare_verdict v ≡ bare_verdict w
same_verdict p set a b Proved Proved e f g m n = refl
same_verdict p set a b (Refuted i s ts cs) (Refuted j u us ds) e f g m n = refl
same_verdict p set a b Proved (Refuted j u us ds) e f g m n =
    absurd (subst (λ (x : Place). IsTrueAt p set x Proved) e f j u ds g.0)
same_verdict p set a b (Refuted i s ts cs) Proved e f g m n =
    absurd (g i s cs (subst (λ (x : Place). IsTrueAt p set x (Refuted i s ts cs)) e f).0)
same_verdict p set a b (Unknown why) w e f g m n = absurd (let bad : false ≡ true = m in cc)
same_verdict p set a b Proved (Unknown why) e f g m n = absurd (let bad : false ≡ true = n in cc)
same_verdict p set a b (Refuted i s ts cs) (Unknown why) e f g m n = absurd (let bad : false ≡ true = n in cc)

abbrev settled : List Judged → Bool
settled js = list_all (λ j. not (is_unknown j.verdict)) js

abbrev first_or : Placed → List Placed → Placed
first_or d [] = d
first_or d (x ∷ xs) = x

abbrev behind : List Placed → List Placed
behind [] = []
behind (x ∷ xs) = xs

same_places : (p : Prog) (set : ℕ → Bool) (js ks : List Judged) → map placed_at js ≡ map placed_at ks → AreTrueAt p set js → AreTrueAt p set ks → settled js ≡ true → settled ks ≡ true → map bare js ≡ map bare ks
same_places p set [] [] e f g m n = refl
same_places p set [] (k ∷ ks) e f g m n = absurd (let bad : [] ≡ placed_at k ∷ map placed_at ks = e in cc)
same_places p set (j ∷ js) [] e f g m n = absurd (let bad : placed_at j ∷ map placed_at js ≡ [] = e in cc)
same_places p set (j ∷ js) (k ∷ ks) e f g m n =
    let here : j.placed ≡ k.placed = ap (first_or j.placed) e in
    let a = and_parts (not (is_unknown j.verdict)) (settled js) m in
    let b = and_parts (not (is_unknown k.verdict)) (settled ks) n in
    let one = same_verdict p set j.placed.place k.placed.place j.verdict k.verdict (ap (λ (q : Placed). q.place) here) f.0 g.0 a.0 b.0 in
    let more = same_places p set js ks (ap behind e) f.1 g.1 a.1 b.1 in
    ap (λ (q : Placed). record { placed = q; verdict = bare_verdict j.verdict } ∷ map bare js) here
    ∙ ap (λ (v : Verdict). record { placed = k.placed; verdict = v } ∷ map bare js) one
    ∙ ap (λ (us : List Judged). bare k ∷ us) more

same_from : (p : r.Program) (set : ℕ → Bool) (k : ℕ) (ms : List r.Impl) (os qs : List (List Judged)) → AreTrueFrom p set k ms os → AreTrueFrom p set k ms qs → are_settled os ≡ true → are_settled qs ≡ true → map (map bare) os ≡ map (map bare) qs
same_from p set k [] [] [] f g m n = refl
same_from p set k [] [] (ks ∷ qs) f g m n = absurd g
same_from p set k [] (js ∷ os) qs f g m n = absurd f
same_from p set k (i ∷ is) [] qs f g m n = absurd f
same_from p set k (i ∷ is) (js ∷ os) [] f g m n = absurd g
same_from p set k (i ∷ is) (js ∷ os) (ks ∷ qs) f g m n =
    let a = and_parts (settled js) (are_settled os) m in
    let b = and_parts (settled ks) (are_settled qs) n in
    ap (λ (us : List Judged). us ∷ map (map bare) os) (same_places (meaning_of p) set js ks (f.0.places ∙ sym g.0.places) f.0.right g.0.right a.0 b.0)
    ∙ ap (λ (us : List (List Judged)). map bare ks ∷ us) (same_from p set (suc k) is os qs f.1 g.1 a.1 b.1)

-- ---- candidates

known : (b : Bool) → not b ≡ true → b ≡ false
known true h = absurd (let bad : false ≡ true = h in cc)
known false h = refl

none_unknown : (ds : List (Removal Reason)) → are_known ds ≡ true → All (λ d. d.unknown ≡ false) ds
none_unknown [] e = All-nil (λ (d : Removal Reason). d.unknown ≡ false)
none_unknown (d ∷ ds) e =
    let h = and_parts (not d.unknown) (are_known ds) e in
    All-cons (λ (x : Removal Reason). x.unknown ≡ false) d ds (known d.unknown h.0) (none_unknown ds h.1)

module _ (budget : Budget) (p : Prog) (words : ℕ → Cause → t.Why) where
  -- what isn't left unknown is refuted
  reason_is : (set : ℕ → Bool) (at : Place) (u : Bool) (d : Reason) → u ≡ false → IsReason budget p set at u d → fate_for words d ≡ t.Dropped
  reason_is set at false (reason.Refuted cex) e h = refl
  reason_is set at false (reason.Unknown rounds cause) e h = absurd h
  reason_is set at false (reason.Left kept) e h = absurd h
  reason_is set at true d e h = absurd (let bad : true ≡ false = e in cc)

  abbrev IsRight : Removal Reason → Type 0
  IsRight d = RightRemoval (length (tasks_of p)) (candidate_of p) (TaskFinds budget p) d

  earlier_is : (d : Removal Reason) (m : Option (Removal Reason)) → fate_for words d.told ≡ t.Dropped → fate_by words m ≡ t.Dropped → fate_for words (earlier d m).told ≡ t.Dropped
  earlier_is d None here rest = here
  earlier_is d (Some e) here rest = on (nat_lt e.number d.number)
    where
      on : (b : Bool) → fate_for words (if b then e else d).told ≡ t.Dropped
      on true = rest
      on false = here

  first_is : (x : Bool) (d : Removal Reason) (m : Option (Removal Reason)) → fate_for words d.told ≡ t.Dropped → fate_by words m ≡ t.Dropped → fate_by words (if x then Some (earlier d m) else m) ≡ t.Dropped
  first_is true d m here rest = earlier_is d m here rest
  first_is false d m here rest = rest

  -- each candidate that went was dropped, and not for a cause
  dropped : (b : ℕ) (ds : List (Removal Reason)) → are_known ds ≡ true → All IsRight ds → fate_by words (first_of b ds) ≡ t.Dropped
  dropped b [] e h = refl
  dropped b (d ∷ ds) e h =
      let both = and_parts (not d.unknown) (are_known ds) e in
      let found = (All-head IsRight d ds h).found in
      let here = reason_is (has d.snapshot) found.task d.unknown d.told (known d.unknown both.0) found.so in
      first_is (d.cand.0 == b) d (first_of b ds) here (dropped b ds both.1 (All-tail IsRight d ds h))

-- ---- axioms

-- an interpretation meets the program, or none does
same_axioms : (p : Prog) (a b : t.Axioms) → AreAxioms p a → AreAxioms p b → not (t.is_undecided a) ≡ true → not (t.is_undecided b) ≡ true → a ≡ b
same_axioms p t.Consistent t.Consistent f g m n = refl
same_axioms p t.Contradictory t.Contradictory f g m n = refl
same_axioms p t.Consistent t.Contradictory f g m n = absurd (g f.0 f.1)
same_axioms p t.Contradictory t.Consistent f g m n = absurd (f g.0 g.1)
same_axioms p (t.Undecided why) b f g m n = absurd (let bad : false ≡ true = m in cc)
same_axioms p a (t.Undecided why) f g m n = absurd (let bad : false ≡ true = n in cc)

-- ---- the whole

-- what is settled, part by part
pub record AreSettled (o : t.Outcome) : Type 0 where
  pub axioms : not (t.is_undecided o.axioms) ≡ true
  pub greatest : o.is_greatest ≡ true
  pub places : are_settled o.implementations ≡ true

pub parts : (o : t.Outcome) → is_settled o ≡ true → AreSettled o
parts o h =
    let a = and_parts (not (t.is_undecided o.axioms)) (o.is_greatest && are_settled o.implementations) h in
    let b = and_parts o.is_greatest (are_settled o.implementations) a.1 in
    record { axioms = a.0; greatest = b.0; places = b.1 }

module _ (keeps keeping : Bool) (budget other : Budget) (p : r.Program) (o q : Outcome) (words : ℕ → Cause → t.Why) where
  abbrev P : Prog
  P = meaning_of p

  abbrev Q : Prog
  Q = meaning_of (judged_program p)

  abbrev told : Outcome → t.Outcome
  told u = outcome_of words P u

  abbrev gone : Outcome → List (Removal Reason)
  gone u = u.judged.inferred.removals.items

  fates_agree : IsTrueOutcome keeps budget p o → IsTrueOutcome keeping other p q → AreSettled (told o) → AreSettled (told q) → o.judged.inferred.retained ≡ q.judged.inferred.retained → (told o).fates ≡ (told q).fates
  fates_agree x y m n same = ap (each_below P.candidates) (fun_ext each)
    where
      at : (b : ℕ) → fate_by words (first_of b (gone o)) ≡ fate_by words (first_of b (gone q))
      at b =
          dropped budget Q words b (gone o) m.greatest x.judged.inferred.right
          ∙ sym (dropped other Q words b (gone q) n.greatest y.judged.inferred.right)

      each : (b : ℕ) → fate words P o.judged b ≡ fate words P q.judged b
      each b =
          ap (λ (set : Numbers). if has set b then (if is_checked P b then t.Retained else t.Unchecked) else fate_by words (first_of b (gone o))) same
          ∙ ap (λ (f : t.Fate). if has q.judged.inferred.retained b then (if is_checked P b then t.Retained else t.Unchecked) else f) (at b)

  told_agree : IsTrueOutcome keeps budget p o → IsTrueOutcome keeping other p q → IsSound p (told o) → IsSound p (told q) → AreSettled (told o) → AreSettled (told q) → o.judged.inferred.retained ≡ q.judged.inferred.retained → ((c : ℕ) → t.retained (told o) c ≡ t.retained (told q) c)
      → without_counterexamples (told o) ≡ without_counterexamples (told q)
  told_agree x y f g m n same sets =
      let set : t.retained (told q) ≡ t.retained (told o) = sym (fun_ext sets) in
      let places = same_from p (t.retained (told o)) 0 p.implementations (told o).implementations (told q).implementations f.implementations
      (subst (λ (s : ℕ → Bool). AreTrueFrom p s 0 p.implementations (told q).implementations) set g.implementations) m.places n.places in
      ap (λ (a : t.Axioms). record { axioms = a; fates = (told o).fates; is_greatest = (told o).is_greatest; implementations = map (map bare) (told o).implementations }) (same_axioms P (told o).axioms (told q).axioms f.axioms g.axioms m.axioms n.axioms)
      ∙ ap (λ (fates : List t.Fate). record { axioms = (told q).axioms; fates = fates; is_greatest = (told o).is_greatest; implementations = map (map bare) (told o).implementations }) (fates_agree x y m n same)
      ∙ ap (λ (greatest : Bool). record { axioms = (told q).axioms; fates = (told q).fates; is_greatest = greatest; implementations = map (map bare) (told o).implementations }) (m.greatest ∙ sym n.greatest)
      ∙ ap (λ (js : List (List Judged)). record { axioms = (told q).axioms; fates = (told q).fates; is_greatest = (told q).is_greatest; implementations = js }) places

  pub lines_agree : IsTrueOutcome keeps budget p o → IsTrueOutcome keeping other p q → IsSound p (told o) → IsSound p (told q) → AreSettled (told o) → AreSettled (told q) → (NoneUnknown o.judged.inferred → NoneUnknown q.judged.inferred → o.judged.inferred.retained ≡ q.judged.inferred.retained)
      → ((told o).is_greatest ≡ true → (told q).is_greatest ≡ true → (c : ℕ) → t.retained (told o) c ≡ t.retained (told q) c) → verdict_lines p (told o) ≡ verdict_lines p (told q)
  lines_agree x y f g m n lists sets =
      ap (result_text p) (told_agree x y f g m n (lists (none_unknown (gone o) m.greatest) (none_unknown (gone q) n.greatest)) (sets m.greatest n.greatest))
