-- Rounds, one after the other.
use Rattle.std.proofs.Common.{◌≡◌, ℕ, ◌-◌, Bool, true, List, [], ◌∷◌, ◌++◌, length, Some, refl, sym, ap, ◌∙◌, subst, arith, append-nil, append_assoc, length-append}
use Rattle.std.specs.Prelude.{slice_get}
use Rattle.std.proofs.lemmas.List.{map-append}
use Rattle.bg_ast.specs.Values.{Ty}
use Rattle.bg_ast.specs.Syntax.{Proc, Impl, Prog}
use Rattle.bg_ast.specs.Resolved as r
use Rattle.bg_ast.specs.Meaning.{meaning_of}
use Rattle.bg_ast.specs.Execution.{Place}
use Rattle.bg_sense.specs.Variables.{procedure_of}
use Rattle.bg_sense.proofs.Bools.{and_left, and_right, both}
use Rattle.bg_block_types.specs.Typed.{incarnations_in}
use Rattle.bg_tree.specs.declared.outcome.Budget.{Budget}
use Rattle.bg_terms.specs.Terms.{Term}
use Rattle.bg_numbered.specs.Lines.{Line, is_there, are_there, after_line, after_lines}
use Rattle.bg_term_table.specs.Lines.{line_of, lines_of}
use Rattle.bg_term_table.specs.declared.line.Line as code
use Rattle.bg_termed.specs.Lined.{lined_terms}
use Rattle.bg_task.specs.declared.prepared.Prepared.{Prepared}
use Rattle.bg_task.specs.Lines.{AreThere}
use Rattle.bg_task.specs.Prepared.{IsPrepared}
use Rattle.bg_task.proofs.Prepares.{impl, proc, impl_at, proc_at}
use Rattle.bg_check.specs.declared.verdict.Cause.{Cause}
use Rattle.bg_check.specs.declared.verdict.Round.{Round}
use Rattle.bg_check.specs.declared.verdict.Verdict.TheVariants.{Unknown}
use Rattle.bg_check.specs.declared.rounds.Stand.{Stand}
use Rattle.bg_check.specs.Rounds.{IsRound, brought, AreRounds}
use Rattle.bg_check.specs.Stands.{StandsAt, IsMore}
use Rattle.bg_check.specs.Verdicts.{IsUnknown, IsRight}

-- ---- lines that are there, behind others

there_more : (incs : List Ty) (ts : List Term) (ls ms : List Line) → are_there incs ts ls ≡ true → are_there incs (after_lines incs ts ls) ms ≡ true → are_there incs ts (ls ++ ms) ≡ true
there_more incs ts [] ms h g = g
there_more incs ts (l ∷ ls) ms h g =
    both (is_there incs ts l) (are_there incs (after_line incs ts l) (ls ++ ms)) (and_left (is_there incs ts l) (are_there incs (after_line incs ts l) ls) h)
    (there_more incs (after_line incs ts l) ls ms (and_right (is_there incs ts l) (are_there incs (after_line incs ts l) ls) h) g)

-- an implementation has its incarnations and terms, wherever it is told
same_there : (p : Prog) (k : ℕ) (m n : Impl) (q r : Proc) (ls ms : List Line) → slice_get p.implementations k ≡ Some m → procedure_of p m.procedure ≡ Some q → slice_get p.implementations k ≡ Some n → procedure_of p n.procedure ≡ Some r → are_there (incarnations_in p k n r) (lined_terms p k n r ls) ms ≡ true → are_there (incarnations_in p k m q) (lined_terms p k m q ls) ms ≡ true
same_there p k m n q r ls ms a b c d h =
    let x : Some n ≡ Some m = sym c ∙ a in
    let im : n ≡ m = cc in
    let y : Some r ≡ Some q = sym d ∙ (ap (λ i. procedure_of p i.procedure) im ∙ b) in
    let pr : r ≡ q = cc in
    subst (λ i. are_there (incarnations_in p k i q) (lined_terms p k i q ls) ms ≡ true) im (subst (λ j. are_there (incarnations_in p k n j) (lined_terms p k n j ls) ms ≡ true) pr h)

-- lines that name what is there behind others
pub there_behind : (p : r.Program) (k : ℕ) (w : Prepared) (ls ms : List Line) → AreThere p k w ls → ((u : IsPrepared p k w) → are_there (incarnations_in (meaning_of p) k (impl p k w u) (proc p k w u)) (lined_terms (meaning_of p) k (impl p k w u) (proc p k w u) ls) ms ≡ true) → AreThere p k w (ls ++ ms)
there_behind p k w ls ms h g u = there_more _ _ ls ms (h u) (g u)

-- those of a round are
pub round_there : (p : r.Program) (set : ℕ → Bool) (t : Place) (w : Prepared) (ls : List Line) (r : Round) → AreThere p t.implementation w ls → IsRound (meaning_of p) set t ls r → AreThere p t.implementation w (ls ++ lines_of r.lines.items)
round_there p set t w ls r h g =
    let k = t.implementation in
    there_behind p k w ls (lines_of r.lines.items) h
    (λ u. same_there (meaning_of p) k (impl p k w u) g.is.clauses.implementation (proc p k w u) g.is.clauses.procedure ls (lines_of r.lines.items) (impl_at p k w u) (proc_at p k w u) g.is.clauses.is_there g.is.clauses.is_its g.wanting.there)

-- lines behind others, as the code has them
pub more_there : (p : r.Program) (k : ℕ) (w : Prepared) (old more new : List code.Line) → AreThere p k w (lines_of old ++ lines_of more) → new ≡ old ++ more → AreThere p k w (lines_of new)
more_there p k w old more new h e = subst (AreThere p k w) (sym (ap lines_of e ∙ map-append line_of old more)) h

-- the first ones are
pub first_there : (p : r.Program) (k : ℕ) (w : Prepared) → AreThere p k w []
first_there p k w u = refl

-- ---- one more round

brought_more : (rs : List Round) (r : Round) → brought (rs ++ (r ∷ [])) ≡ brought rs ++ lines_of r.lines.items
brought_more [] r = append-nil (lines_of r.lines.items)
brought_more (x ∷ rs) r =
    ap (λ es. lines_of x.lines.items ++ es) (brought_more rs r)
    ∙ sym (append_assoc (lines_of x.lines.items) (brought rs) (lines_of r.lines.items))

rounds_more : (p : Prog) (set : ℕ → Bool) (t : Place) (before : List Line) (rs : List Round) (r : Round) → AreRounds p set t before rs → IsRound p set t (before ++ brought rs) r → AreRounds p set t before (rs ++ (r ∷ []))
rounds_more p set t before [] r h g = (subst (λ es. IsRound p set t es r) (append-nil before) g, tt)
rounds_more p set t before (x ∷ rs) r h g =
    (h.0, rounds_more p set t (before ++ lines_of x.lines.items) rs r h.1 (subst (λ es. IsRound p set t es r) (sym (append_assoc before (lines_of x.lines.items) (brought rs))) g))

pub stand_more : (p : r.Program) (set : ℕ → Bool) (t : Place) (w : Prepared) (budget : Budget) (old new : Stand) (r : Round) → StandsAt p set t w budget old → IsRound (meaning_of p) set t (lines_of old.lines.items) r → IsMore old r new → StandsAt p set t w budget new
stand_more p set t w budget old new r h g more =
    let k = t.implementation in
    let olds = lines_of old.lines.items in
    let news = lines_of r.lines.items in
    let all : lines_of new.lines.items ≡ olds ++ news = ap lines_of more.lines ∙ map-append line_of old.lines.items r.lines.items in
    let a = ap (λ rs. length rs) more.rounds in
    let b = length-append old.rounds.items (r ∷ []) in
    let c = h.left in
    let d = more.left in
    record {
      rounds = subst (AreRounds (meaning_of p) set t []) (sym more.rounds) (rounds_more (meaning_of p) set t [] old.rounds.items r h.rounds (subst (λ es. IsRound (meaning_of p) set t es r) h.lines g));
      lines =
          all
          ∙ (ap (λ es. es ++ news) h.lines
          ∙ (sym (brought_more old.rounds.items r) ∙ ap brought (sym more.rounds)));
      there =
          subst (AreThere p k w) (sym all)
          (round_there p set t w olds r h.there g);
      left = omega (arith, a, b, c, d);
    }

-- ---- the end

pub unknown_right : (p : r.Program) (set : ℕ → Bool) (t : Place) (w : Prepared) (budget : Budget) (s : Stand) (cause : Cause) → StandsAt p set t w budget s → IsUnknown (record budget { nodes = s.left }) (meaning_of p) set t (lines_of s.lines.items) cause → IsRight budget (meaning_of p) set t (Unknown s.rounds cause)
unknown_right p set t w budget s cause h g =
    let e = h.left in
    let left : s.left ≡ budget.nodes - length s.rounds.items = omega (arith, e) in
    let x = subst (λ es. IsUnknown (record budget { nodes = s.left }) (meaning_of p) set t es cause) h.lines g in
    (omega (arith, e), (h.rounds, subst (λ k. IsUnknown (record budget { nodes = k }) (meaning_of p) set t (brought s.rounds.items) cause) left x))

-- at first there is no round
pub none_yet : (p : r.Program) (set : ℕ → Bool) (t : Place) (w : Prepared) (budget : Budget) (s : Stand) → s.rounds.items ≡ [] → s.lines.items ≡ [] → s.left ≡ budget.nodes → StandsAt p set t w budget s
none_yet p set t w budget s a b c =
    let l = ap (λ rs. length rs) a in
    record {
      rounds = subst (AreRounds (meaning_of p) set t []) (sym a) tt;
      lines = ap lines_of b ∙ ap brought (sym a);
      there = subst (λ es. AreThere p t.implementation w (lines_of es)) (sym b) (λ u. refl);
      left = omega (arith, l, c);
    }
