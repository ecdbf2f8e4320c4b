-- Lines that are wanted.
use Rattle.std.proofs.Common.{◌≡◌, ℕ, ◌<◌, ◌≤◌, true, false, List, [], ◌∷◌, ◌++◌, length, refl, sym, ap, ◌∙◌, subst, arith, inl, inr, ⊎_elim}
use Rattle.std.specs.Prelude.{◌⊎◌}
use Rattle.bg_ast.specs.Values.{Val, Ty}
use Rattle.bg_sense.proofs.Bools.{and_left}
use Rattle.bg_terms.specs.Terms.{Term}
use Rattle.bg_terms.specs.Typed.{types_with}
use Rattle.bg_terms.specs.Closed.{IsFinished}
use Rattle.bg_terms.specs.Instances.{Instance}
use Rattle.bg_numbered.specs.Lines.{Line, Pick, Names, Says, picked, named, is_any, is_there, are_there, after_line, after_lines, instances_in, is_within}
use Rattle.bg_numbered.proofs.Lines.{lines_grow}
use Rattle.bg_term_table.specs.declared.line.Line as code
use Rattle.bg_term_table.specs.Lines.{line_of, lines_of}
use Rattle.bg_wanted.specs.declared.wants.Wants.{Wants}
use Rattle.bg_wanted.specs.Wanting.{Each, IsWanted, are_naming, IsWanting}
use Rattle.bg_wanted.specs.Telling.{AreTold}
use Rattle.bg_wanted.proofs.Growth.{length_behind}

all_new : (s : List Val) (n : ℕ) (ts us : List Term) (es : List Instance) → Each (λ e. is_within (length ts) e ≡ false) es → Each (IsWanted s n ts us) es
all_new s n ts us [] h = tt
all_new s n ts us (e ∷ es) h = (inr h.0, all_new s n ts us es h.1)

-- a line brings a term or says an instance, if it is there
module _ (incs : List Ty) where
  some_any : (us : List Term) → is_any us ≡ true → 0 < length us
  some_any [] h = absurd (let bad : ⊥ = cc in bad)
  some_any (u ∷ us) h = omega arith

  longer : (ts : List Term) (l : Line) (ls : List Line) (us : List Term) → after_line incs ts l ≡ ts ++ us → 0 < length us → length ts < length (after_lines incs ts (l ∷ ls))
  longer ts l ls us e h =
      let g = lines_grow incs (after_line incs ts l) ls in
      let x = ap length g.1 ∙ length_behind (after_line incs ts l) g.0 in
      let y = ap length e ∙ length_behind ts us in
      omega (arith, x, y, h)

  first_says : (ts : List Term) (l : Line) (ls : List Line) → is_there incs ts l ≡ true → (length ts < length (after_lines incs ts (l ∷ ls))) ⊎ (0 < length (instances_in (l ∷ ls)))
  first_says ts (Pick m a) ls h = inl (longer ts (Pick m a) ls (picked incs ts m a) refl (some_any (picked incs ts m a) h))
  first_says ts (Names m o) ls h = inl (longer ts (Names m o) ls (named incs ts m o) refl (some_any (named incs ts m o) h))
  first_says ts (Says e) ls h = inr (omega arith)

  some_instance : (n : ℕ) (us : List Term) (a : ℕ) (es : List Instance) → are_naming n us a es ≡ true → 0 < length es
  some_instance n us a [] h = absurd (let bad : ⊥ = cc in bad)
  some_instance n us a (e ∷ es) h = omega arith

  -- lines that are told are wanted, where there are any and the leaf isn't finished
  pub told_wanted : (ts : List Term) (s : List Val) (w : Wants) → AreTold incs ts w [] → (w.made.items ≡ [] → ⊥) → (IsFinished s (length incs) ts (types_with incs ts) → ⊥) → IsWanting incs ts s (lines_of w.made.items)
  told_wanted ts s w told some unfinished =
      record {
        there = told.there;
        some = by w.made.items refl;
        wanted = all_new s (length incs) ts (after_lines incs ts (lines_of w.made.items)) (instances_in (lines_of w.made.items)) told.fresh;
        used = λ a low high. named a low high;
        unfinished = unfinished;
      }
    where
      named : (a : ℕ) → length ts ≤ a → a < length (after_lines incs ts (lines_of w.made.items)) → are_naming (length incs) (after_lines incs ts (lines_of w.made.items)) a (instances_in (lines_of w.made.items)) ≡ true
      named a low high =
          ⊎_elim (λ h. h) (λ h. absurd (let bad : ⊥ = cc in bad)) (told.used a low (let c = told.count in omega (arith, c, high)))

      by : (ls : List code.Line) → w.made.items ≡ ls → 0 < length (instances_in (lines_of w.made.items))
      by [] e = absurd (some e)
      by (l ∷ ls) e =
          let there = and_left (is_there incs ts (line_of l)) (are_there incs (after_line incs ts (line_of l)) (lines_of ls)) (sym (ap (λ k. are_there incs ts (lines_of k)) e) ∙ told.there) in
          ⊎_elim
          (λ h. some_instance (length incs) (after_lines incs ts (lines_of w.made.items)) (length ts) (instances_in (lines_of w.made.items)) (named (length ts) (omega arith) (subst (λ k. length ts < length (after_lines incs ts (lines_of k))) (sym e) h)))
          (λ h. subst (λ k. 0 < length (instances_in (lines_of k))) (sym e) h)
          (first_says ts (line_of l) (lines_of ls) there)
