-- What a run without the last choice tells of the run.
use Rattle.std.proofs.Common.{◌≡◌, ℕ, suc, ◌-◌, ◌<◌, Bool, true, List, [], ◌∷◌, ◌++◌, length, take, map, Some, Vec, Global, refl, sym, ap, ◌∙◌, subst, inl, inr, ⊎_elim, arith, length-append}
use Rattle.std.specs.Prelude.{◌⊎◌, slice_get}
use Rattle.std.proofs.lemmas.List.{length-map, map-append, take-map}
use Rattle.bg_ast.specs.Syntax as s
use Rattle.bg_ast.specs.Resolved as r
use Rattle.bg_ast.specs.Meaning.{meaning_of}
use Rattle.bg_ast.specs.Execution.{Interp, Place}
use Rattle.bg_ast.specs.Execution as run
use Rattle.bg_ast.specs.Values.{Ty}
use Rattle.bg_sense.specs.Flow.{Answer, Failed, BadChoice}
use Rattle.bg_sense.specs.Run.{induction_run}
use Rattle.bg_sense.specs.Claims.{Fails}
use Rattle.bg_sense.proofs.Bools.{both, and_left, and_right}
use Rattle.bg_kinds.specs.declared.kinds.ValueType.{ValueType}
use Rattle.bg_kinds.specs.Views.{ref_in}
use Rattle.bg_sound.specs.Chosen.{choice_is_of, choices_are_of}
use Rattle.bg_cert.specs.Walks.{has}
use Rattle.bg_blocks.specs.declared.block.Block.{Block}
use Rattle.bg_places.specs.Views.{spot_of}
use Rattle.bg_places.specs.declared.place.Spot as places
use Rattle.bg_terms.specs.Flat.{HaveNoBodies}
use Rattle.bg_scalar.specs.Choices.{choice_of, state_of}
use Rattle.bg_scalar.specs.Views.{tables_in, vals_in}
use Rattle.bg_scalar.specs.declared.table.Table.{Table}
use Rattle.bg_scalar.specs.declared.choice.Choice.{Choice}
use Rattle.bg_scalar.specs.declared.value.Value.{Value}
use Rattle.bg_replay.specs.Said.{Stops}
use Rattle.bg_replay.specs.Views.{said_by}
use Rattle.bg_replay.specs.Endings.{IsReplay}
use Rattle.bg_replay.specs.declared.ending.Ending.{Ending}
use Rattle.bg_replay.specs.declared.ending.Ending.TheVariants as ends
use Rattle.bg_model.specs.Interps.{interp_of}
use Rattle.bg_model.specs.declared.failure.Counterexample.{Counterexample}
use Rattle.bg_task.specs.declared.prepared.Prepared.{Prepared}
use Rattle.bg_task.specs.Prepared.{IsPrepared}
use Rattle.bg_check.specs.Verdicts.{IsUsed, HasTypes}
use Rattle.bg_check.specs.Dropped.{FailsWithin}
use Rattle.bg_check.proofs.LawTypes.{ReplayLaw}
use Rattle.bg_check.proofs.Refutes.{set_same}
use Rattle.bg_check.proofs.Replaying.{runs_to}
use Rattle.bg_check.proofs.Trimming.{shorter}

abbrev interp_with : Vec Table Global → Interp
interp_with v = record { constants = []; tables = tables_in v.items }

-- ---- lists with one more behind

not_none : {A : Type 0} (xs : List A) (x : A) → [] ≡ xs ++ (x ∷ []) → ⊥
not_none [] x h = let bad : ⊥ = cc in bad
not_none (y ∷ xs) x h = let bad : ⊥ = cc in bad

fronts_same : {A : Type 0} (xs ys : List A) (x y : A) → xs ++ (x ∷ []) ≡ ys ++ (y ∷ []) → xs ≡ ys
fronts_same [] [] x y h = refl
fronts_same [] (b ∷ ys) x y h = absurd (not_none ys y (let rest : [] ≡ ys ++ (y ∷ []) = cc in rest))
fronts_same (a ∷ xs) [] x y h = absurd (not_none xs x (let rest : [] ≡ xs ++ (x ∷ []) = cc in rest))
fronts_same (a ∷ xs) (b ∷ ys) x y h =
    let rest = fronts_same xs ys x y (let more : xs ++ (x ∷ []) ≡ ys ++ (y ∷ []) = cc in more) in
    let first : a ≡ b = cc in
    ap (λ z. z ∷ xs) first ∙ ap (λ zs. b ∷ zs) rest

-- ---- types of choices

fronts_typed : (cs : List run.Choice) (c : run.Choice) (ts : List Ty) → choices_are_of ts (cs ++ (c ∷ [])) ≡ true → choices_are_of (take (length cs) ts) cs ≡ true
fronts_typed [] c ts h = refl
fronts_typed (d ∷ cs) c [] h = absurd (let bad : ⊥ = cc in bad)
fronts_typed (d ∷ cs) c (t ∷ ts) h =
    both (choice_is_of t d) (choices_are_of (take (length cs) ts) cs) (and_left (choice_is_of t d) (choices_are_of ts (cs ++ (c ∷ []))) h) (fronts_typed cs c ts (and_right (choice_is_of t d) (choices_are_of ts (cs ++ (c ∷ []))) h))

as_many : (ts : List Ty) (cs : List run.Choice) → choices_are_of ts cs ≡ true → length ts ≡ length cs
as_many [] [] h = refl
as_many [] (c ∷ cs) h = absurd (let bad : ⊥ = cc in bad)
as_many (t ∷ ts) [] h = absurd (let bad : ⊥ = cc in bad)
as_many (t ∷ ts) (c ∷ cs) h =
    ap (λ n. suc n) (as_many ts cs (and_right (choice_is_of t c) (choices_are_of ts cs) h))

-- the types without the last one are as many as the choices without the last one
pub kinds_left : (old : Counterexample) (cs : List Choice) (last : Choice) (n : ℕ) (new : List ValueType) → old.choices.items ≡ cs ++ (last ∷ []) → HasTypes old → n ≡ length old.kinds.items → new ≡ take (n - 1) old.kinds.items → new ≡ take (length cs) old.kinds.items
kinds_left old cs last n new cut types long is =
    let a = as_many (map ref_in old.kinds.items) (map choice_of old.choices.items) types in
    let b = length-map old.kinds.items ref_in in
    let d = length-map old.choices.items choice_of in
    let e = ap length cut in
    let g = length-append cs (last ∷ []) in
    let one : n - 1 ≡ length cs = omega (arith, long, a, b, d, e, g) in
    is ∙ ap (λ k. take k old.kinds.items) one

-- choices without the last one are of the types without the last one
types_left : (old : Counterexample) (cs : List Choice) (last : Choice) → old.choices.items ≡ cs ++ (last ∷ []) → HasTypes old → (new : Counterexample) → new.kinds.items ≡ take (length cs) old.kinds.items → new.choices.items ≡ cs → HasTypes new
types_left old cs last cut types new ek ec =
    let all = map ref_in old.kinds.items in
    let these = map choice_of cs in
    let whole : map choice_of old.choices.items ≡ these ++ (choice_of last ∷ []) = ap (map choice_of) cut ∙ map-append choice_of cs (last ∷ []) in
    let typed = fronts_typed these (choice_of last) all (subst (λ xs. choices_are_of all xs ≡ true) whole types) in
    let kinds : map ref_in new.kinds.items ≡ take (length these) all = ap (map ref_in) ek ∙ (sym (take-map ref_in (length cs) old.kinds.items) ∙ ap (λ k. take k all) (sym (length-map cs choice_of))) in
    subst (λ xs. choices_are_of (map ref_in new.kinds.items) (map choice_of xs) ≡ true) (sym ec) (subst (λ ts. choices_are_of ts these ≡ true) (sym kinds) typed)

-- where there are no choices, none is left over
pub none_left : (p : s.Prog) (set : ℕ → Bool) (t : Place) (cex : Counterexample) → cex.choices.items ≡ [] → IsUsed p set t cex
none_left p set t cex h front last cut =
    absurd (not_none front last (ap (map choice_of) (sym h) ∙ cut))

module _ (law : ReplayLaw) (p : r.Program) (none : HaveNoBodies (meaning_of p).functions) (set : List Bool) (t : Place) (old : Counterexample) (w : Prepared) (h : IsPrepared p t.implementation w) (cs : List Choice) (last : Choice) (ending : Ending) (cut : old.choices.items ≡ cs ++ (last ∷ [])) (fails : FailsWithin (meaning_of p) (has set) t old) (replay : IsReplay p w.blocks.items set t.implementation h.implementation h.procedure (tables_in old.tables.items) (vals_in old.globals.items) (vals_in old.frame.items) (map choice_of cs) ending) where
  either : (said_by ending ≡ Stops BadChoice) ⊎ (said_by ending ≡ Stops (Failed t.spot))
  either =
      shorter p set t old h.implementation h.procedure w.blocks.items cs last ending h.impl_there h.proc_there h.blocks cut fails.1.0 replay

  answers : (x : Answer) → said_by ending ≡ Stops x → induction_run (meaning_of p) (has set) (interp_of old) t.implementation (state_of (vals_in old.globals.items) (vals_in old.frame.items)) (map choice_of cs) ≡ x
  answers x k =
      subst (λ u. induction_run (meaning_of p) u (interp_of old) t.implementation (state_of (vals_in old.globals.items) (vals_in old.frame.items)) (map choice_of cs) ≡ x) (set_same set)
      (law p set (interp_of old) t.implementation h.implementation h.procedure w.blocks.items (tables_in old.tables.items) (vals_in old.globals.items) (vals_in old.frame.items) (map choice_of cs) ending none refl h.impl_there h.proc_there h.blocks replay x k)

  -- it fails at the same check
  at_check : (x : places.Spot) → ending ≡ ends.Failed x → said_by ending ≡ Stops (Failed t.spot)
  at_check x k =
      ⊎_elim (λ b. absurd (let bad : Stops BadChoice ≡ Stops (Failed (spot_of x)) = sym b ∙ ap said_by k in let worse : ⊥ = cc in worse)) (λ f. f) either

  -- or it lacks a choice
  lacks : ((x : places.Spot) → ending ≡ ends.Failed x → ⊥) → said_by ending ≡ Stops BadChoice
  lacks n = by ending either n
    where
      by : (x : Ending) → (said_by x ≡ Stops BadChoice) ⊎ (said_by x ≡ Stops (Failed t.spot)) → ((y : places.Spot) → x ≡ ends.Failed y → ⊥) → said_by x ≡ Stops BadChoice
      by x (inl b) k = b
      by ends.Ended (inr f) k = absurd (let bad : ⊥ = cc in bad)
      by ends.Blocked (inr f) k = absurd (let bad : ⊥ = cc in bad)
      by (ends.Failed y) (inr f) k = absurd (k y refl)
      by ends.BadChoice (inr f) k = refl
      by (ends.OutOfRange o) (inr f) k = absurd (let bad : ⊥ = cc in bad)
      by ends.NoValues (inr f) k = absurd (let bad : ⊥ = cc in bad)

  pub is_used : ((x : places.Spot) → ending ≡ ends.Failed x → ⊥) → IsUsed (meaning_of p) (has set) t old
  is_used n front z split =
      let all : map choice_of cs ++ (choice_of last ∷ []) ≡ front ++ (z ∷ []) = sym (ap (map choice_of) cut ∙ map-append choice_of cs (last ∷ [])) ∙ split in
      let same : map choice_of cs ≡ front = fronts_same (map choice_of cs) front (choice_of last) z all in
      subst (λ x. induction_run (meaning_of p) (has set) (interp_of old) t.implementation (state_of (vals_in old.globals.items) (vals_in old.frame.items)) x ≡ BadChoice) same
      (answers BadChoice (lacks n))

  pub fails_still : (x : places.Spot) → ending ≡ ends.Failed x → (new : Counterexample) → new.tables ≡ old.tables → new.globals.items ≡ old.globals.items → new.frame.items ≡ old.frame.items → new.kinds.items ≡ take (length cs) old.kinds.items → new.choices.items ≡ cs → FailsWithin (meaning_of p) (has set) t new
  fails_still x k new et eg ef ek ec =
      let told = at_check x k in
      let here : Fails (meaning_of p) (has set) t (interp_of old) (state_of (vals_in old.globals.items) (vals_in old.frame.items)) (map choice_of cs) = record { meets = fails.0.meets; state = fails.0.state; fails = answers (Failed t.spot) told } in
      let a = subst (λ g. Fails (meaning_of p) (has set) t (interp_of old) (state_of (vals_in g) (vals_in old.frame.items)) (map choice_of cs)) (sym eg) here in
      let b = subst (λ f. Fails (meaning_of p) (has set) t (interp_of old) (state_of (vals_in new.globals.items) (vals_in f)) (map choice_of cs)) (sym ef) a in
      let c = subst (λ x. Fails (meaning_of p) (has set) t (interp_of old) (state_of (vals_in new.globals.items) (vals_in new.frame.items)) (map choice_of x)) (sym ec) b in
      let d = subst (λ v. Fails (meaning_of p) (has set) t (interp_with v) (state_of (vals_in new.globals.items) (vals_in new.frame.items)) (map choice_of new.choices.items)) (sym et) c in
      let r0 = subst (λ v. IsReplay p w.blocks.items set t.implementation h.implementation h.procedure (tables_in v.items) (vals_in old.globals.items) (vals_in old.frame.items) (map choice_of cs) ending) (sym et) replay in
      let r1 = subst (λ g. IsReplay p w.blocks.items set t.implementation h.implementation h.procedure (tables_in new.tables.items) (vals_in g) (vals_in old.frame.items) (map choice_of cs) ending) (sym eg) r0 in
      let r2 = subst (λ f. IsReplay p w.blocks.items set t.implementation h.implementation h.procedure (tables_in new.tables.items) (vals_in new.globals.items) (vals_in f) (map choice_of cs) ending) (sym ef) r1 in
      let r3 = subst (λ x. IsReplay p w.blocks.items set t.implementation h.implementation h.procedure (tables_in new.tables.items) (vals_in new.globals.items) (vals_in new.frame.items) (map choice_of x) ending) (sym ec) r2 in
      (d, (runs_to p t.implementation h.implementation h.procedure h.impl_there h.proc_there set t.spot t.candidate w.blocks.items new ending (Stops (Failed t.spot)) h.blocks r3 told, types_left old cs last cut fails.1.1 new ek ec))

-- ---- what is made of the ending

take_front : {A : Type 0} (cs : List A) (last : A) → take (length cs) (cs ++ (last ∷ [])) ≡ cs
take_front [] last = refl
take_front (c ∷ cs) last = ap (λ xs. c ∷ xs) (take_front cs last)

-- where the last is taken off
pub popped : {A : Type 0} (xs cs new : List A) (last : A) (n : ℕ) → xs ≡ cs ++ (last ∷ []) → n ≡ length xs → new ≡ take (n - 1) xs → new ≡ cs
popped xs cs new last n cut long is =
    let one : n - 1 ≡ length cs = omega (arith, long, ap length cut, length-append cs (last ∷ [])) in
    is ∙ (ap (λ k. take k xs) one ∙ (ap (take (length cs)) cut ∙ take_front cs last))

pub fewer : {A : Type 0} (xs cs new : List A) (last : A) → xs ≡ cs ++ (last ∷ []) → new ≡ cs → length new < length xs
fewer xs cs new last cut is = omega (arith, ap length cut, length-append cs (last ∷ []), ap length is)

module _ (law : ReplayLaw) (p : r.Program) (none : HaveNoBodies (meaning_of p).functions) (set : List Bool) (t : Place) (old : Counterexample) (w : Prepared) (h : IsPrepared p t.implementation w) (bs : List Block) (ts : List Table) (gs fs : List Value) (xs cs : List Choice) (last : Choice) (ending : Ending) (eb : bs ≡ w.blocks.items) (et : ts ≡ old.tables.items) (eg : gs ≡ old.globals.items) (ef : fs ≡ old.frame.items) (ec : xs ≡ old.choices.items) (cut : xs ≡ cs ++ (last ∷ [])) (fails : FailsWithin (meaning_of p) (has set) t old) (replay : (m : r.Impl) (q : r.Proc) → slice_get p.implementations t.implementation ≡ Some m → slice_get p.procedures m.procedure ≡ Some q → IsReplay p bs set t.implementation m q (tables_in ts) (vals_in gs) (vals_in fs) (map choice_of cs) ending) where
  the_replay : IsReplay p w.blocks.items set t.implementation h.implementation h.procedure (tables_in old.tables.items) (vals_in old.globals.items) (vals_in old.frame.items) (map choice_of cs) ending
  the_replay =
      let r0 = replay h.implementation h.procedure h.impl_there h.proc_there in
      let r1 = subst (λ x. IsReplay p x set t.implementation h.implementation h.procedure (tables_in ts) (vals_in gs) (vals_in fs) (map choice_of cs) ending) eb r0 in
      let r2 = subst (λ x. IsReplay p w.blocks.items set t.implementation h.implementation h.procedure (tables_in x) (vals_in gs) (vals_in fs) (map choice_of cs) ending) et r1 in
      let r3 = subst (λ x. IsReplay p w.blocks.items set t.implementation h.implementation h.procedure (tables_in old.tables.items) (vals_in x) (vals_in fs) (map choice_of cs) ending) eg r2 in
      subst (λ x. IsReplay p w.blocks.items set t.implementation h.implementation h.procedure (tables_in old.tables.items) (vals_in old.globals.items) (vals_in x) (map choice_of cs) ending) ef r3

  pub used_here : ((x : places.Spot) → ending ≡ ends.Failed x → ⊥) → IsUsed (meaning_of p) (has set) t old
  used_here n = is_used law p none set t old w h cs last ending (sym ec ∙ cut) fails the_replay n

  pub still_here : (x : places.Spot) → ending ≡ ends.Failed x → (new : Counterexample) → new.tables ≡ old.tables → new.globals.items ≡ old.globals.items → new.frame.items ≡ old.frame.items → new.kinds.items ≡ take (length cs) old.kinds.items → new.choices.items ≡ cs → FailsWithin (meaning_of p) (has set) t new
  still_here x k new nt ng nf nk nc =
      fails_still law p none set t old w h cs last ending (sym ec ∙ cut) fails the_replay x k new nt ng nf nk nc
