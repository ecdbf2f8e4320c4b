-- Lines that name what is there, one after the other.
use Rattle.std.proofs.Common.{◌≡◌, ℕ, ◌+◌, ◌<◌, ◌≤◌, true, List, [], ◌∷◌, length, drop, get_or, refl, sym, ap, subst, ◌∙◌}
use Rattle.std.proofs.lemmas.List.{drop_more, drop_all}
use Rattle.bg_ast.specs.Values.{Ty}
use Rattle.bg_ast.specs.Syntax.{Fun}
use Rattle.bg_sense.proofs.Bools.{both}
use Rattle.bg_terms.specs.Terms.{Term}
use Rattle.bg_numbered.specs.Lines.{is_there, are_there, after_line}
use Rattle.bg_term_table.specs.Lines.{line_of, lines_of}
use Rattle.bg_term_table.specs.declared.line.Line.{Line}
use Rattle.bg_task.specs.Grown.{IsOver}
use Rattle.bg_task.specs.declared.growing.Grown.{Grown}

module _ (fs : List Fun) (incs : List Ty) (ts : List Term) (ls : List Line) where
  -- the lines before this one name what is there, and brought these terms
  pub record Reached (g : Grown) (i : ℕ) : Type 0 where
    pub terms : List Term
    pub over : IsOver fs incs terms g
    pub left : are_there incs terms (lines_of (drop i ls)) ≡ true → are_there incs ts (lines_of ls) ≡ true

  pub reached_none : (g : Grown) → IsOver fs incs ts g → Reached g 0
  reached_none g h = record { terms = ts; over = h; left = λ e. e }

  pub reached_more : (g k : Grown) (i : ℕ) (d : Line) → i < length ls → Reached g i → ((us : List Term) → IsOver fs incs us g → is_there incs us (line_of (get_or ls i d)) ≡ true) → ((us : List Term) → IsOver fs incs us g → IsOver fs incs (after_line incs us (line_of (get_or ls i d))) k) → Reached k (i + 1)
  reached_more g k i d here so is behind =
      let us = so.terms in
      let l = line_of (get_or ls i d) in
      let next = after_line incs us l in
      record {
        terms = next;
        over = behind us so.over;
        left =
            λ e.
            so.left
            (ap (λ xs. are_there incs us (lines_of xs)) (drop_more ls i d here)
            ∙ both (is_there incs us l) (are_there incs next (lines_of (drop (i + 1) ls))) (is us so.over) e);
      }

  pub reached_all : (g : Grown) (i : ℕ) → length ls ≤ i → Reached g i → are_there incs ts (lines_of ls) ≡ true
  reached_all g i end so = so.left (ap (λ xs. are_there incs so.terms (lines_of xs)) (drop_all i ls end))
