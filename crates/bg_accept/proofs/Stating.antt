-- The lines of a section's terms and instances, one after the other.
use Rattle.std.proofs.Common.{◌≡◌, ℕ, ◌+◌, ◌<◌, ◌≤◌, Bool, true, false, List, [], ◌∷◌, ◌++◌, length, drop, get_or, refl, sym, ap, subst, ◌∙◌, append_assoc, append-nil, arith}
use Rattle.std.specs.Prelude.{Option, Some, None, if◌then◌else◌}
use Rattle.std.proofs.lemmas.List.{drop_all, drop_more, map-append}
use Rattle.bg_ast.specs.Values.{Ty}
use Rattle.bg_ast.specs.Syntax.{Fun}
use Rattle.bg_ast.specs.Resolved as r
use Rattle.bg_ast.specs.Meaning.{meaning_of}
use Rattle.bg_ast.specs.Execution.{Spot}
use Rattle.bg_sense.proofs.Bools.{both}
use Rattle.bg_block_types.specs.Typed.{incarnations_in}
use Rattle.bg_terms.specs.Terms.{Term}
use Rattle.bg_numbered.specs.Lines.{Line, is_there, are_there, after_line}
use Rattle.bg_term_table.specs.Lines.{line_of, lines_of}
use Rattle.bg_term_table.specs.declared.line.Line as code
use Rattle.bg_termed.specs.Termed.{terms_in}
use Rattle.bg_task.specs.Prepared.{IsPrepared}
use Rattle.bg_task.specs.Grown.{IsOver}
use Rattle.bg_task.specs.declared.growing.Grown.{Grown}
use Rattle.bg_task.specs.declared.prepared.Prepared.{Prepared}
use Rattle.bg_task.proofs.Prepares.{impl, proc, impl_at, proc_at}
use Rattle.bg_certtext.specs.declared.text.Stated.{Stated}
use Rattle.bg_accept.specs.Lines.{then_, line_said, if_there, line_in, lines_in, NamesLines}

-- ---- one after the other

-- lines behind others
abbrev pub front : List Line → Option (List Line) → Option (List Line)
front es None = None
front es (Some fs) = Some (es ++ fs)

front_put : (es : List Line) (e : Line) (o : Option (List Line)) → front es (then_ o (λ fs. Some (e ∷ fs))) ≡ front (es ++ e ∷ []) o
front_put es e None = refl
front_put es e (Some fs) = ap (λ (gs : List Line). Some gs) (sym (append_assoc es (e ∷ []) fs))

none_in_front : (o : Option (List Line)) → front [] o ≡ o
none_in_front None = refl
none_in_front (Some fs) = refl

pub no_stated : (incs : List Ty) (ts : List Term) (ss : List Stated) (made : List code.Line) → length ss ≡ 0 → made ≡ [] → Some (lines_of made) ≡ lines_in incs ts ss
no_stated incs ts [] made h e = ap (λ es. Some (lines_of es)) e
no_stated incs ts (s ∷ ss) made h e = absurd (omega (arith, h))

module _ (fs : List Fun) (incs : List Ty) where
  -- a line, and those behind it
  abbrev rest_of : List Term → List Stated → Line → Option (List Line)
  rest_of ts ss l = then_ (lines_in incs (after_line incs ts l) ss) (λ ls. Some (l ∷ ls))

  said_more : (ts : List Term) (es : List Line) (s : Stated) (ss : List Stated) (e : Line) → line_in incs ts s ≡ Some e → front es (lines_in incs ts (s ∷ ss)) ≡ front (es ++ e ∷ []) (lines_in incs (after_line incs ts e) ss)
  said_more ts es s ss e h =
      ap (λ o. front es (then_ o (rest_of ts ss))) h ∙ front_put es e (lines_in incs (after_line incs ts e) ss)

  said_none : (ts : List Term) (es : List Line) (s : Stated) (ss : List Stated) → line_in incs ts s ≡ None → front es (lines_in incs ts (s ∷ ss)) ≡ None
  said_none ts es s ss h = ap (λ o. front es (then_ o (rest_of ts ss))) h

  -- so many lines were read, over terms that are there by now
  pub record Reached (ts : List Term) (ss : List Stated) (g : Grown) (made : List code.Line) (i : ℕ) : Type 0 where
    pub terms : List Term
    pub over : IsOver fs incs terms g
    pub left : front (lines_of made) (lines_in incs terms (drop i ss)) ≡ lines_in incs ts ss

  pub reached_none_yet : (ts : List Term) (ss : List Stated) (g : Grown) (made : List code.Line) → made ≡ [] → IsOver fs incs ts g → Reached ts ss g made 0
  reached_none_yet ts ss g made e h =
      record { terms = ts; over = h; left = ap (λ es. front (lines_of es) (lines_in incs ts ss)) e ∙ none_in_front (lines_in incs ts ss) }

  -- one more line
  pub reached_more : (ts : List Term) (ss : List Stated) (g k : Grown) (made new : List code.Line) (i : ℕ) (d : Stated) (e : code.Line) → i < length ss → new ≡ made ++ e ∷ [] → Reached ts ss g made i → ((us : List Term) → IsOver fs incs us g → Some (line_of e) ≡ line_in incs us (get_or ss i d)) → ((us : List Term) → IsOver fs incs us g → IsOver fs incs (after_line incs us (line_of e)) k) → Reached ts ss k new (i + 1)
  reached_more ts ss g k made new i d e here pushed so is behind =
      let us = so.terms in
      let next = after_line incs us (line_of e) in
      record {
        terms = next;
        over = behind us so.over;
        left =
            ap (λ (gs : List Line). front gs (lines_in incs next (drop (i + 1) ss))) (ap lines_of pushed ∙ map-append line_of made (e ∷ []))
            ∙ sym (said_more us (lines_of made) (get_or ss i d) (drop (i + 1) ss) (line_of e) (sym (is us so.over)))
            ∙ sym (ap (λ (xs : List Stated). front (lines_of made) (lines_in incs us xs)) (drop_more ss i d here))
            ∙ so.left;
      }

  -- a line that names what isn't there
  pub reached_none : (ts : List Term) (ss : List Stated) (g : Grown) (made : List code.Line) (i : ℕ) (d : Stated) → i < length ss → Reached ts ss g made i → ((us : List Term) → IsOver fs incs us g → None ≡ line_in incs us (get_or ss i d)) → None ≡ lines_in incs ts ss
  reached_none ts ss g made i d here so is =
      sym (said_none so.terms (lines_of made) (get_or ss i d) (drop (i + 1) ss) (sym (is so.terms so.over)))
      ∙ sym (ap (λ (xs : List Stated). front (lines_of made) (lines_in incs so.terms xs)) (drop_more ss i d here))
      ∙ so.left

  -- no line is left
  pub reached_done : (ts : List Term) (ss : List Stated) (g : Grown) (made : List code.Line) (i : ℕ) → length ss ≤ i → Reached ts ss g made i → Some (lines_of made) ≡ lines_in incs ts ss
  reached_done ts ss g made i end so =
      ap (λ (gs : List Line). Some gs) (sym (append-nil (lines_of made)))
      ∙ sym (ap (λ (xs : List Stated). front (lines_of made) (lines_in incs so.terms xs)) (drop_all i ss end))
      ∙ so.left

-- ---- what is named is there

then_made : {A B : Type 0} (o : Option A) (f : A → Option B) (y : B) → then_ o f ≡ Some y → (x : A) × ((o ≡ Some x) × (f x ≡ Some y))
then_made None f y h = absurd (let bad : ⊥ = cc in bad)
then_made (Some x) f y h = (x, (refl, h))

line_there : (incs : List Ty) (ts : List Term) (s : Stated) (l : Line) → line_in incs ts s ≡ Some l → is_there incs ts l ≡ true
line_there incs ts s l h =
    let p = then_made (line_said s) (if_there incs ts) l h in
    by p.0 (is_there incs ts p.0) refl p.1.1
  where
    by : (m : Line) (b : Bool) → is_there incs ts m ≡ b → (if b then Some m else None) ≡ Some l → is_there incs ts l ≡ true
    by m true e g = let same : m ≡ l = cc in ap (is_there incs ts) (sym same) ∙ e
    by m false e g = absurd (let bad : ⊥ = cc in bad)

pub named_there : (incs : List Ty) (ts : List Term) (ss : List Stated) (ls : List Line) → lines_in incs ts ss ≡ Some ls → are_there incs ts ls ≡ true
named_there incs ts [] ls h = let same : [] ≡ ls = cc in subst (λ xs. are_there incs ts xs ≡ true) same refl
named_there incs ts (s ∷ ss) ls h =
    let p = then_made (line_in incs ts s) (λ (l : Line). then_ (lines_in incs (after_line incs ts l) ss) (λ xs. Some (l ∷ xs))) ls h in
    let q = then_made (lines_in incs (after_line incs ts p.0) ss) (λ (xs : List Line). Some (p.0 ∷ xs)) ls p.1.1 in
    let same : p.0 ∷ q.0 ≡ ls = let k = q.1.1 in cc in
    subst (λ xs. are_there incs ts xs ≡ true) same
    (both (is_there incs ts p.0) (are_there incs (after_line incs ts p.0) q.0) (line_there incs ts s p.0 p.1.0) (named_there incs (after_line incs ts p.0) ss q.0 q.1.0))

-- ---- what lines name at a place of a prepared implementation

pub names_here : (p : r.Program) (k : ℕ) (w : Prepared) (h : IsPrepared p k w) (spot : Spot) (candidate : Option ℕ) (ss : List Stated) (o : Option (List Line)) → lines_in (incarnations_in (meaning_of p) k (impl p k w h) (proc p k w h)) (terms_in (meaning_of p) k (impl p k w h) (proc p k w h)) ss ≡ o → NamesLines (meaning_of p) (record { implementation = k; spot = spot; candidate = candidate }) ss o
names_here p k w h spot candidate ss o e =
    record { implementation = impl p k w h; procedure = proc p k w h; is_there = impl_at p k w h; is_its = proc_at p k w h; named = e }
