-- What is told on the way along updates.
use Rattle.std.proofs.Common.{◌≡◌, ℕ, ◌+◌, ◌<◌, Bool, true, false, List, [], ◌∷◌, ◌++◌, length, Some, refl, sym, ap, ◌∙◌, subst, arith, inl, inr, ⊎_elim}
use Rattle.std.specs.Prelude.{slice_get, ◌||◌, ◌==◌, ◌⊎◌}
use Rattle.bg_ast.specs.Values.{Val, Ty, truth_of}
use Rattle.bg_ast.specs.Syntax.{Fun}
use Rattle.bg_sense.specs.Eval.{ev}
use Rattle.bg_sense.proofs.Bools.{both}
use Rattle.bg_terms.specs.Terms.{Term, over}
use Rattle.bg_terms.specs.Typed.{types_with}
use Rattle.bg_terms.specs.Closed.{IsFinished}
use Rattle.bg_terms.specs.Instances.{Instance, instance_ex}
use Rattle.bg_numbered.specs.Lines.{after_line, after_lines, said_by, instances_in, is_there, are_there, is_within}
use Rattle.bg_numbered.proofs.Lines.{lines_grow}
use Rattle.bg_term_table.specs.declared.line.Line as code
use Rattle.bg_term_table.specs.declared.line.Line.TheVariants as line
use Rattle.bg_term_table.specs.Lines.{line_of, lines_of}
use Rattle.bg_term_table.specs.Views.{terms_in}
use Rattle.bg_wanted.specs.Scalars.{scalars_in}
use Rattle.bg_wanted.specs.declared.looked.Update.{Update}
use Rattle.bg_wanted.specs.declared.false_here.Selected.{Selected}
use Rattle.bg_wanted.specs.declared.way.Sighted.{Sighted}
use Rattle.bg_wanted.specs.declared.way.Way.{Way}
use Rattle.bg_wanted.specs.declared.wants.Wants.{Wants}
use Rattle.bg_wanted.specs.Rows.{rows_of}
use Rattle.bg_wanted.specs.Wanting.{Each, IsWanted, are_naming, names, IsWanting}
use Rattle.bg_wanted.specs.Telling.{AreTold, Fits, is_among}
use Rattle.bg_wanted.specs.Asked.{IsOf, map_read_in}
use Rattle.bg_wanted.specs.Chased.{IsSelectAt, IsNewLost, IsOldLost, IsPairLost, IsLost, IsSighted, AreLost, IsWay, Comes}
use Rattle.bg_wanted.proofs.Growth.{each_more, or_right}
use Rattle.bg_wanted.proofs.Tells.{told_loose, below_next}
use Rattle.bg_wanted.proofs.Fitting.{map_fits}
use Rattle.bg_wanted.proofs.Wantings.{told_wanted}
use Rattle.bg_wanted.proofs.Chasing.{below, updating, selecting, new_lost, old_lost, pair_lost}

or_keep : (c d : Bool) → (c || false) ≡ true → (c || d) ≡ true
or_keep true d h = refl
or_keep false d h = absurd (let bad : ⊥ = cc in bad)

-- one more, behind the last, is loose
told_last : (incs : List Ty) (ts : List Term) (w : Wants) (r s : ℕ) → AreTold incs ts w (r ∷ []) → AreTold incs ts w (r ∷ s ∷ [])
told_last incs ts w r s told =
    record {
      there = told.there;
      count = told.count;
      fresh = told.fresh;
      used = λ a low high. ⊎_elim (λ h. inl h) (λ h. inr (or_keep (a == r) (is_among a (s ∷ [])) h)) (told.used a low high);
      picks = told.picks;
    }

-- ---- steps

module _ (fs : List Fun) (incs : List Ty) (x : Sighted) where
  abbrev ts : List Term
  ts = terms_in fs x.terms.now

  -- a select at another index comes in with one that is there or comes in
  pub both_told : (w : Way) (s r : ℕ) → Comes fs incs x w r → AreLost fs incs x w.lost.items × ((r < w.wants.next) × AreTold incs (terms_in fs x.terms.now) w.wants (r ∷ s ∷ []))
  both_told w s r (inl h) =
      (h.1.0, (below_next incs ts w.wants [] r h.1.1 h.0, told_loose incs ts w.wants (s ∷ []) r (told_loose incs ts w.wants [] s h.1.1)))
  both_told w s r (inr h) = (h.1.1.0, (h.1.0, told_last incs ts w.wants r s h.1.1.1))

  -- what is there didn't come in
  pub known_way : (w : Way) (r : ℕ) → Comes fs incs x w r → r < length (terms_in fs x.terms.now) → IsWay fs incs x w []
  known_way w r (inl h) lt = h.1
  known_way w r (inr h) lt = absurd (let low = h.0 in omega (arith, low, lt))

  module _ (si : IsSighted fs incs x) where
    pub update_below : (u : Update) → IsOf (rows_of x.rows.now) u → u.number < length (terms_in fs x.terms.now)
    update_below u is =
        let up = updating x.values.now incs ts (rows_of x.rows.now) si.rows u is in
        below ts u.number up.at.term up.at.is_there

    pub way_fits : (u : Update) → IsOf (rows_of x.rows.now) u → (y : Selected) → IsSelectAt (rows_of x.rows.now) y → y.maps ≡ u.maps → (m : ℕ) → map_read_in (slice_get (terms_in fs x.terms.now) u.number) ≡ Some m → Fits incs (terms_in fs x.terms.now) m y.number
    way_fits u is y at maps m e =
        let up = updating x.values.now incs ts (rows_of x.rows.now) si.rows u is in
        let it = selecting x.values.now incs ts (rows_of x.rows.now) si.rows u up y at maps in
        map_fits fs incs ts si.terms si.indexed u.number up.at.term up.at.keys up.at.gives up.at.is_there up.at.head y.number it.term it.is_there it.head m e

    lost_more : (l : code.Line) (old now : List code.Line) → IsLost (scalars_in x.values.now) (length incs) (terms_in fs x.terms.now) l → now ≡ old ++ l ∷ [] → AreLost fs incs x old → AreLost fs incs x now
    lost_more l old now h push so =
        subst (AreLost fs incs x) (sym push) (each_more (IsLost (scalars_in x.values.now) (length incs) ts) old (l ∷ []) so (h, tt))

    pub new_more : (u a : ℕ) (old now : List code.Line) → IsNewLost (rows_of x.rows.now) u a → now ≡ old ++ line.AtIndex u a ∷ [] → AreLost fs incs x old → AreLost fs incs x now
    new_more u a old now h push so =
        lost_more (line.AtIndex u a) old now (new_lost x.values.now incs ts (rows_of x.rows.now) si.rows u a h) push so

    pub old_more : (u a c : ℕ) (old now : List code.Line) → IsOldLost (rows_of x.rows.now) u a c → now ≡ old ++ line.Elsewhere u a c ∷ [] → AreLost fs incs x old → AreLost fs incs x now
    old_more u a c old now h push so =
        lost_more (line.Elsewhere u a c) old now (old_lost x.values.now incs ts (rows_of x.rows.now) si.rows u a c h) push so

    pub pair_more : (a b : ℕ) (old now : List code.Line) → IsPairLost (rows_of x.rows.now) a b → now ≡ old ++ line.Congruent a b ∷ [] → AreLost fs incs x old → AreLost fs incs x now
    pair_more a b old now h push so =
        lost_more (line.Congruent a b) old now (pair_lost x.values.now incs ts (rows_of x.rows.now) si.rows a b h) push so

-- ---- all that is told

none_behind : {A : Type 0} (xs : List A) → xs ++ [] ≡ xs
none_behind [] = refl
none_behind (x ∷ xs) = ap (λ l. x ∷ l) (none_behind xs)

module _ (incs : List Ty) (ts : List Term) (s : List Val) where
  abbrev Lost : code.Line → Type 0
  Lost l = IsLost s (length incs) ts l

  after_one : (l : code.Line) → Lost l → after_line incs ts (line_of l) ≡ ts
  after_one l w = ap (after_line incs ts) w.is ∙ none_behind ts

  after_all : (ls made : List code.Line) → Each Lost ls → after_lines incs ts (lines_of (ls ++ made)) ≡ after_lines incs ts (lines_of made)
  after_all [] made h = refl
  after_all (l ∷ ls) made h =
      ap (λ us. after_lines incs us (lines_of (ls ++ made))) (after_one l h.0) ∙ after_all ls made h.1

  there_all : (ls made : List code.Line) → Each Lost ls → are_there incs ts (lines_of made) ≡ true → are_there incs ts (lines_of (ls ++ made)) ≡ true
  there_all [] made h k = k
  there_all (l ∷ ls) made h k =
      both (is_there incs ts (line_of l)) (are_there incs (after_line incs ts (line_of l)) (lines_of (ls ++ made)))
      (ap (is_there incs ts) h.0.is ∙ h.0.within)
      (ap (λ us. are_there incs us (lines_of (ls ++ made))) (after_one l h.0) ∙ there_all ls made h.1 k)

  said : (l : code.Line) (w : Lost l) → said_by (line_of l) ≡ w.says ∷ []
  said l w = ap said_by w.is

  some_said : (w : Wants) (ls : List code.Line) → Each Lost ls → AreTold incs ts w [] → (ls ++ w.made.items ≡ [] → ⊥) → (IsFinished s (length incs) ts (types_with incs ts) → ⊥) → 0 < length (instances_in (lines_of (ls ++ w.made.items)))
  some_said w [] h told some unfinished = (told_wanted incs ts s w told some unfinished).some
  some_said w (l ∷ ls) h told some unfinished =
      subst (λ es. 0 < length (es ++ instances_in (lines_of (ls ++ w.made.items)))) (sym (said l h.0)) (omega arith)

  all_fresh : (us : List Term) (es : List Instance) → Each (λ e. is_within (length ts) e ≡ false) es → Each (IsWanted s (length incs) ts us) es
  all_fresh us [] h = tt
  all_fresh us (e ∷ es) h = (inr h.0, all_fresh us es h.1)

  wanted_all : (us vs : List Term) → us ≡ ts ++ vs → (ls made : List code.Line) → Each Lost ls → Each (IsWanted s (length incs) ts us) (instances_in (lines_of made)) → Each (IsWanted s (length incs) ts us) (instances_in (lines_of (ls ++ made)))
  wanted_all us vs e [] made h k = k
  wanted_all us vs e (l ∷ ls) made h k =
      subst (λ es. Each (IsWanted s (length incs) ts us) (es ++ instances_in (lines_of (ls ++ made)))) (sym (said l h.0))
      (inl (subst (λ ws. truth_of (ev (instance_ex (length incs) ws h.0.says) (over s)) ≡ false) (sym e) (h.0.wrong vs)), wanted_all us vs e ls made h.1 k)

  naming_behind : (us : List Term) (a : ℕ) (ds es : List Instance) → are_naming (length incs) us a es ≡ true → are_naming (length incs) us a (ds ++ es) ≡ true
  naming_behind us a [] es h = h
  naming_behind us a (d ∷ ds) es h =
      or_right (names (length incs) us a d) (are_naming (length incs) us a (ds ++ es)) (naming_behind us a ds es h)

  naming_all : (us : List Term) (a : ℕ) (ls made : List code.Line) → are_naming (length incs) us a (instances_in (lines_of made)) ≡ true → are_naming (length incs) us a (instances_in (lines_of (ls ++ made))) ≡ true
  naming_all us a [] made h = h
  naming_all us a (l ∷ ls) made h =
      naming_behind us a (said_by (line_of l)) (instances_in (lines_of (ls ++ made))) (naming_all us a ls made h)

  all_wanted : (w : Wants) (ls : List code.Line) → Each Lost ls → AreTold incs ts w [] → (ls ++ w.made.items ≡ [] → ⊥) → (IsFinished s (length incs) ts (types_with incs ts) → ⊥) → IsWanting incs ts s (lines_of (ls ++ w.made.items))
  all_wanted w ls h told some unfinished =
      record {
        there = there_all ls w.made.items h told.there;
        some = some_said w ls h told some unfinished;
        wanted =
            subst (λ us. Each (IsWanted s (length incs) ts us) (instances_in (lines_of (ls ++ w.made.items)))) (sym after)
            (wanted_all us grown.0 grown.1 ls w.made.items h (all_fresh us (instances_in (lines_of w.made.items)) told.fresh));
        used =
            λ a low high.
            let lt : a < w.next = let c = told.count in let size : length (after_lines incs ts (lines_of (ls ++ w.made.items))) ≡ length (after_lines incs ts (lines_of w.made.items)) = ap length after in omega (arith, c, size, high) in
            subst (λ ws. are_naming (length incs) ws a (instances_in (lines_of (ls ++ w.made.items))) ≡ true) (sym after)
            (naming_all us a ls w.made.items (⊎_elim (λ k. k) (λ k. absurd (let bad : ⊥ = cc in bad)) (told.used a low lt)));
        unfinished = unfinished;
      }
    where
      us : List Term
      us = after_lines incs ts (lines_of w.made.items)

      after : after_lines incs ts (lines_of (ls ++ w.made.items)) ≡ after_lines incs ts (lines_of w.made.items)
      after = after_all ls w.made.items h

      grown : (vs : List Term) × (after_lines incs ts (lines_of w.made.items) ≡ ts ++ vs)
      grown = let g = lines_grow incs ts (lines_of w.made.items) in (g.0, g.1)

  -- what is false, and what comes in behind it, is wanted, where there is any and the leaf isn't finished
  pub chase_wanted : (w : Wants) (ls now : List code.Line) → Each (IsLost s (length incs) ts) ls → AreTold incs ts w [] → now ≡ ls ++ w.made.items → (now ≡ [] → ⊥) → (IsFinished s (length incs) ts (types_with incs ts) → ⊥) → IsWanting incs ts s (lines_of now)
  chase_wanted w ls now h told is some unfinished =
      subst (λ l. IsWanting incs ts s (lines_of l)) (sym is) (all_wanted w ls h told (λ e. some (is ∙ e)) unfinished)
