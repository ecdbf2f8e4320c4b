-- Passes over an expression where no function with a body is applied.
use Rattle.std.proofs.Common.{◌≡◌, ℕ, zero, suc, false, ◌||◌, is_some, List, [], Option, Some, None, refl, ap, ◌∙◌}
use Rattle.std.proofs.lemmas.Bool.{true≢false, or_parts}
use Rattle.bg_ast.specs.Resolved as r
use Rattle.bg_opened.specs.Changed.{applied, bodies_in, changed, all_changed, brackets_changed, links_changed, opening, opened_within}
use Rattle.bg_opening.specs.Applied.{applies_some, some_among, some_behind, some_along}
use Rattle.bg_opening.proofs.Turns.{same_more, same_select, same_update, same_postfix, same_chain, same_link}

is_none : (o : Option r.Ex) → is_some o ≡ false → o ≡ None
is_none None h = refl
is_none (Some e) h = absurd (true≢false h)

module _ (g : ℕ) (fs : List r.Fun) where
  mutual
    -- no body is put in
    pub unapplied : (e : r.Ex) → applies_some fs e ≡ false → changed (opening g fs) e ≡ changed (opening g []) e
    unapplied (r.Number p z) h = refl
    unapplied (r.Truth p b) h = refl
    unapplied (r.Constant p k) h = refl
    unapplied (r.Read p x) h = refl
    unapplied (r.Apply p f es) h =
        let k = or_parts _ _ h in
        ap (λ o. applied o p f (all_changed (opening g fs) es)) (is_none (bodies_in fs f) k.0)
        ∙ ap (r.Apply p f) (all_unapplied es k.1)
    unapplied (r.Old p e) h = ap (r.Old p) (unapplied e h)
    unapplied (r.Parens p e) h = ap (r.Parens p) (unapplied e h)
    unapplied (r.Prefix signs e) h = ap (r.Prefix signs) (unapplied e h)
    unapplied (r.Postfix e bs) h =
        let k = or_parts _ _ h in
        same_postfix _ _ _ _ (unapplied e k.0) (brackets_unapplied bs k.1)
    unapplied (r.Chain e ls) h =
        let k = or_parts _ _ h in
        same_chain _ _ _ _ (unapplied e k.0) (links_unapplied ls k.1)

    all_unapplied : (es : r.Exs) → some_among fs es ≡ false → all_changed (opening g fs) es ≡ all_changed (opening g []) es
    all_unapplied r.NoMore h = refl
    all_unapplied (r.More e es) h =
        let k = or_parts _ _ h in
        same_more _ _ _ _ (unapplied e k.0) (all_unapplied es k.1)

    brackets_unapplied : (bs : r.Brackets) → some_behind fs bs ≡ false → brackets_changed (opening g fs) bs ≡ brackets_changed (opening g []) bs
    brackets_unapplied r.NoBracket h = refl
    brackets_unapplied (r.Select p es bs) h =
        let k = or_parts _ _ h in
        same_select p _ _ _ _ (all_unapplied es k.0) (brackets_unapplied bs k.1)
    brackets_unapplied (r.Update p es e bs) h =
        let k = or_parts _ _ h in
        let j = or_parts _ _ k.0 in
        same_update p _ _ _ _ _ _ (all_unapplied es j.0) (unapplied e j.1) (brackets_unapplied bs k.1)

    links_unapplied : (ls : r.Links) → some_along fs ls ≡ false → links_changed (opening g fs) ls ≡ links_changed (opening g []) ls
    links_unapplied r.NoLink h = refl
    links_unapplied (r.Link p sign e ls) h =
        let k = or_parts _ _ h in
        same_link p sign _ _ _ _ (unapplied e k.0) (links_unapplied ls k.1)

  mutual
    -- a pass behind the last one changes nothing
    settled : (e : r.Ex) → applies_some fs e ≡ false → changed (opening g fs) (changed (opening g []) e) ≡ changed (opening g []) e
    settled (r.Number p z) h = refl
    settled (r.Truth p b) h = refl
    settled (r.Constant p k) h = refl
    settled (r.Read p x) h = refl
    settled (r.Apply p f es) h =
        let k = or_parts _ _ h in
        ap (λ o. applied o p f (all_changed (opening g fs) (all_changed (opening g []) es))) (is_none (bodies_in fs f) k.0)
        ∙ ap (r.Apply p f) (all_settled es k.1)
    settled (r.Old p e) h = ap (r.Old p) (settled e h)
    settled (r.Parens p e) h = ap (r.Parens p) (settled e h)
    settled (r.Prefix signs e) h = ap (r.Prefix signs) (settled e h)
    settled (r.Postfix e bs) h =
        let k = or_parts _ _ h in
        same_postfix _ _ _ _ (settled e k.0) (brackets_settled bs k.1)
    settled (r.Chain e ls) h =
        let k = or_parts _ _ h in
        same_chain _ _ _ _ (settled e k.0) (links_settled ls k.1)

    all_settled : (es : r.Exs) → some_among fs es ≡ false → all_changed (opening g fs) (all_changed (opening g []) es) ≡ all_changed (opening g []) es
    all_settled r.NoMore h = refl
    all_settled (r.More e es) h =
        let k = or_parts _ _ h in
        same_more _ _ _ _ (settled e k.0) (all_settled es k.1)

    brackets_settled : (bs : r.Brackets) → some_behind fs bs ≡ false → brackets_changed (opening g fs) (brackets_changed (opening g []) bs) ≡ brackets_changed (opening g []) bs
    brackets_settled r.NoBracket h = refl
    brackets_settled (r.Select p es bs) h =
        let k = or_parts _ _ h in
        same_select p _ _ _ _ (all_settled es k.0) (brackets_settled bs k.1)
    brackets_settled (r.Update p es e bs) h =
        let k = or_parts _ _ h in
        let j = or_parts _ _ k.0 in
        same_update p _ _ _ _ _ _ (all_settled es j.0) (settled e j.1) (brackets_settled bs k.1)

    links_settled : (ls : r.Links) → some_along fs ls ≡ false → links_changed (opening g fs) (links_changed (opening g []) ls) ≡ links_changed (opening g []) ls
    links_settled r.NoLink h = refl
    links_settled (r.Link p sign e ls) h =
        let k = or_parts _ _ h in
        same_link p sign _ _ _ _ (settled e k.0) (links_settled ls k.1)

mutual
  -- no body is there where there are no functions
  none_applied : (e : r.Ex) → applies_some [] e ≡ false
  none_applied (r.Number p z) = refl
  none_applied (r.Truth p b) = refl
  none_applied (r.Constant p k) = refl
  none_applied (r.Read p x) = refl
  none_applied (r.Apply p f es) = none_among es
  none_applied (r.Old p e) = none_applied e
  none_applied (r.Parens p e) = none_applied e
  none_applied (r.Prefix signs e) = none_applied e
  none_applied (r.Postfix e bs) = ap (λ b. b || some_behind [] bs) (none_applied e) ∙ none_behind bs
  none_applied (r.Chain e ls) = ap (λ b. b || some_along [] ls) (none_applied e) ∙ none_along ls

  none_among : (es : r.Exs) → some_among [] es ≡ false
  none_among r.NoMore = refl
  none_among (r.More e es) = ap (λ b. b || some_among [] es) (none_applied e) ∙ none_among es

  none_behind : (bs : r.Brackets) → some_behind [] bs ≡ false
  none_behind r.NoBracket = refl
  none_behind (r.Select p es bs) = ap (λ b. b || some_behind [] bs) (none_among es) ∙ none_behind bs
  none_behind (r.Update p es e bs) =
      ap (λ b. (b || applies_some [] e) || some_behind [] bs) (none_among es)
      ∙ ap (λ b. b || some_behind [] bs) (none_applied e)
      ∙ none_behind bs

  none_along : (ls : r.Links) → some_along [] ls ≡ false
  none_along r.NoLink = refl
  none_along (r.Link p sign e ls) = ap (λ b. b || some_along [] ls) (none_applied e) ∙ none_along ls

-- nor do more of them
stays : (depth g : ℕ) (fs : List r.Fun) (x : r.Ex) → changed (opening g fs) x ≡ x → changed (opening g []) x ≡ x → opened_within depth g fs x ≡ x
stays zero g fs x h k = k
stays (suc depth) g fs x h k = ap (opened_within depth g fs) h ∙ stays depth g fs x h k

-- the last pass is the only one
pub only_pass : (depth g : ℕ) (fs : List r.Fun) (e : r.Ex) → applies_some fs e ≡ false → opened_within depth g fs e ≡ changed (opening g []) e
only_pass zero g fs e h = refl
only_pass (suc depth) g fs e h =
    ap (opened_within depth g fs) (unapplied g fs e h)
    ∙ stays depth g fs (changed (opening g []) e) (settled g fs e h) (settled g [] e (none_applied e))
