-- A tree whose words the tokens are has a twin whose positions are theirs.
use Rattle.std.proofs.Common.{◌≡◌, ◌≢◌, suc, ◌≤◌, ◌<◌, List, [], ◌∷◌, ◌++◌, map, length, None, refl, sym, ap, ◌∙◌, subst, arith}
use Rattle.bg_text.specs.declared.token.Kind.TheVariants as kinds
use Rattle.bg_text.specs.Tokens.{Tok}
use Rattle.bg_text.specs.declared.expr.InfixSign.{InfixSign}
use Rattle.bg_text.specs.declared.expr.TreePrefix.{TreePrefix}
use Rattle.bg_text.specs.Trees.{Ex, Number, Truth, Named, Apply, Old, Parens, Prefix, Postfix, Chain, Exs, NoMore, More, Brackets, NoBracket, Select, Update, Links, NoLink, Link}
use Rattle.bg_text.specs.Marks.{Mark, sign, sign_at, name_at, Fits}
use Rattle.bg_text.specs.Spelling.{truth_kind, infix_kind, prefix_mark, ex_marks, list_marks, more_marks, bracket_marks, link_marks, grade, level, IsEx, AreExs, AreBrackets, GoOn}
use Rattle.bg_text.specs.Marks.{Words}
use Rattle.bg_expr.specs.Bare.{bare, bare_list, bare_brackets, bare_links, bare_sign, nowhere}
use Rattle.bg_reader.proofs.Fits.{fits_append, fits_none, fits_at, words_split, words_first}
use Rattle.bg_expr.proofs.Whole.{one_expression}

signs_placed : (signs : List TreePrefix) (ts : List Tok) → Words ts (map prefix_mark signs) → (rs : List TreePrefix) × (map bare_sign rs ≡ map bare_sign signs) × (length rs ≡ length signs) × Fits ts (map prefix_mark rs)
signs_placed [] ts h = ([], refl, refl, h)
signs_placed (s ∷ signs) ts h =
    let f = words_first ts (prefix_mark s) (map prefix_mark signs) h in
    let r = signs_placed signs f.1 f.4 in
    let fits : Fits (f.0 ∷ f.1) (map prefix_mark (record { pos = f.0.pos; sign = s.sign } ∷ r.0)) = ((f.3.0, tt, refl), r.3) in
    (record { pos = f.0.pos; sign = s.sign } ∷ r.0, ap (λ l. bare_sign s ∷ l) r.1, ap suc r.2, fits_at ts _ _ f.2 fits)

some_signs : (a b : List TreePrefix) → length a ≡ length b → b ≢ [] → a ≢ []
some_signs a [] e h = absurd (h refl)
some_signs [] (s ∷ b) e h = absurd cc
some_signs (s ∷ a) (t ∷ b) e h = λ c. cc

abbrev pub Twin : Ex → List Tok → Type 0
Twin e ts = (f : Ex) × (bare f ≡ bare e) × IsEx f × (level f ≡ level e) × Fits ts (ex_marks f)

some_list : (a b : Exs) → bare_list a ≡ bare_list b → b ≢ NoMore → a ≢ NoMore
some_list a NoMore e h = absurd (h refl)
some_list NoMore (More x b) e h = absurd cc
some_list (More y a) (More x b) e h = λ c. cc

closing_is : (ts : List Tok) (m : Mark) → m.pos ≡ None → Words ts (m ∷ []) → Fits ts (m ∷ [])
closing_is ts m n h = let f = words_first ts m [] h in let fits : Fits (f.0 ∷ []) (m ∷ []) = ((f.3.0, f.3.1, rw n tt), tt) in fits_at ts _ _ (f.2 ∙ ap (λ l. f.0 ∷ l) (fits_none f.1 f.4)) fits

mutual
  pub placed : (e : Ex) (ts : List Tok) → IsEx e → Words ts (ex_marks e) → Twin e ts
  placed (Number p z) ts i h = let f = words_first ts (sign_at p (kinds.Number z)) [] h in let fits : Fits (f.0 ∷ []) (ex_marks (Number f.0.pos z)) = ((f.3.0, tt, refl), tt) in (Number f.0.pos z, refl, tt, refl, fits_at ts _ _ (f.2 ∙ ap (λ l. f.0 ∷ l) (fits_none f.1 f.4)) fits)
  placed (Truth p b) ts i h = let f = words_first ts (sign_at p (truth_kind b)) [] h in let fits : Fits (f.0 ∷ []) (ex_marks (Truth f.0.pos b)) = ((f.3.0, tt, refl), tt) in (Truth f.0.pos b, refl, tt, refl, fits_at ts _ _ (f.2 ∙ ap (λ l. f.0 ∷ l) (fits_none f.1 f.4)) fits)
  placed (Named p x) ts i h = let f = words_first ts (name_at p x) [] h in let fits : Fits (f.0 ∷ []) (ex_marks (Named f.0.pos x)) = ((f.3.0, f.3.1, refl), tt) in (Named f.0.pos x, refl, tt, refl, fits_at ts _ _ (f.2 ∙ ap (λ l. f.0 ∷ l) (fits_none f.1 f.4)) fits)
  placed (Apply p x es) ts i h =
      let f = words_first ts (name_at p x) (sign kinds.Open ∷ list_marks es ++ sign kinds.Close ∷ []) h in
      let o = words_first f.1 (sign kinds.Open) (list_marks es ++ sign kinds.Close ∷ []) f.4 in
      let c = words_split o.1 (list_marks es) (sign kinds.Close ∷ []) o.4 in
      let r = placed_list es c.0 i c.3 in
      let fits : Fits (f.0 ∷ o.0 ∷ c.0 ++ c.1) (ex_marks (Apply f.0.pos x r.0)) = ((f.3.0, f.3.1, refl), ((o.3.0, tt, tt), fits_append c.0 c.1 (list_marks r.0) (sign kinds.Close ∷ []) r.3 (closing_is c.1 (sign kinds.Close) refl c.4))) in
      (Apply f.0.pos x r.0, ap (Apply nowhere x) r.1, r.2, refl, fits_at ts _ _ (f.2 ∙ ap (λ l. f.0 ∷ l) (o.2 ∙ ap (λ l. o.0 ∷ l) c.2)) fits)
  placed (Old p e) ts i h =
      let f = words_first ts (sign_at p kinds.Old) (sign kinds.Open ∷ ex_marks e ++ sign kinds.Close ∷ []) h in
      let o = words_first f.1 (sign kinds.Open) (ex_marks e ++ sign kinds.Close ∷ []) f.4 in
      let c = words_split o.1 (ex_marks e) (sign kinds.Close ∷ []) o.4 in
      let r = placed e c.0 i c.3 in
      let fits : Fits (f.0 ∷ o.0 ∷ c.0 ++ c.1) (ex_marks (Old f.0.pos r.0)) = ((f.3.0, tt, refl), ((o.3.0, tt, tt), fits_append c.0 c.1 (ex_marks r.0) (sign kinds.Close ∷ []) r.4 (closing_is c.1 (sign kinds.Close) refl c.4))) in
      (Old f.0.pos r.0, ap (Old nowhere) r.1, r.2, refl, fits_at ts _ _ (f.2 ∙ ap (λ l. f.0 ∷ l) (o.2 ∙ ap (λ l. o.0 ∷ l) c.2)) fits)
  placed (Parens p e) ts i h =
      let f = words_first ts (sign_at p kinds.Open) (ex_marks e ++ sign kinds.Close ∷ []) h in
      let c = words_split f.1 (ex_marks e) (sign kinds.Close ∷ []) f.4 in
      let r = placed e c.0 i c.3 in
      let fits : Fits (f.0 ∷ c.0 ++ c.1) (ex_marks (Parens f.0.pos r.0)) = ((f.3.0, tt, refl), fits_append c.0 c.1 (ex_marks r.0) (sign kinds.Close ∷ []) r.4 (closing_is c.1 (sign kinds.Close) refl c.4)) in
      (Parens f.0.pos r.0, ap (Parens nowhere) r.1, r.2, refl, fits_at ts _ _ (f.2 ∙ ap (λ l. f.0 ∷ l) c.2) fits)
  placed (Prefix signs e) ts i h =
      let c = words_split ts (map prefix_mark signs) (ex_marks e) h in
      let s = signs_placed signs c.0 c.3 in
      let r = placed e c.1 i.1 c.4 in
      (Prefix s.0 r.0, rw (s.1, r.1) refl, (some_signs s.0 signs s.2 i.0, r.2, subst (λ k. 7 ≤ k) (sym r.3) i.2), refl, fits_at ts _ _ c.2 (fits_append c.0 c.1 (map prefix_mark s.0) (ex_marks r.0) s.3 r.4))
  placed (Postfix e bs) ts i h =
      let c = words_split ts (ex_marks e) (bracket_marks bs) h in
      let r = placed e c.0 i.1 c.3 in
      let b = placed_brackets bs c.1 i.3 c.4 in
      (Postfix r.0 b.0, rw (r.1, b.1) refl, (b.2 i.0, r.2, subst (λ k. 8 ≤ k) (sym r.3) i.2, b.3), refl, fits_at ts _ _ c.2 (fits_append c.0 c.1 (ex_marks r.0) (bracket_marks b.0) r.4 b.4))
  placed (Chain e NoLink) ts i h = absurd i.1
  placed (Chain e (Link p s f links)) ts i h =
      let c = words_split ts (ex_marks e) (link_marks (Link p s f links)) h in
      let r = placed e c.0 i.0 c.3 in
      let w = words_first c.1 (sign_at p (infix_kind s)) (ex_marks f ++ link_marks links) c.4 in
      let d = words_split w.1 (ex_marks f) (link_marks links) w.4 in
      let q = placed f d.0 i.1.1 d.3 in
      let m = placed_links s links d.1 i.1.3 d.4 in
      let fits : Fits (w.0 ∷ d.0 ++ d.1) (link_marks (Link w.0.pos s q.0 m.0)) = ((w.3.0, tt, refl), fits_append d.0 d.1 (ex_marks q.0) (link_marks m.0) q.4 m.3) in
      (Chain r.0 (Link w.0.pos s q.0 m.0), rw (r.1, q.1, m.1) refl, (r.2, (subst (λ k. grade s < k) (sym r.3) i.1.0, q.2, subst (λ k. grade s < k) (sym q.3) i.1.2, m.2)), refl, fits_at ts _ _ (c.2 ∙ ap (λ l. c.0 ++ l) (w.2 ∙ ap (λ l. w.0 ∷ l) d.2)) (fits_append c.0 (w.0 ∷ d.0 ++ d.1) (ex_marks r.0) (link_marks (Link w.0.pos s q.0 m.0)) r.4 fits))

  placed_list : (es : Exs) (ts : List Tok) → AreExs es → Words ts (list_marks es) → (fs : Exs) × (bare_list fs ≡ bare_list es) × AreExs fs × Fits ts (list_marks fs)
  placed_list NoMore ts i h = (NoMore, refl, tt, h)
  placed_list (More e es) ts i h =
      let c = words_split ts (ex_marks e) (more_marks es) h in
      let r = placed e c.0 i.0 c.3 in
      let m = placed_more es c.1 i.1 c.4 in
      (More r.0 m.0, rw (r.1, m.1) refl, (r.2, m.2), fits_at ts _ _ c.2 (fits_append c.0 c.1 (ex_marks r.0) (more_marks m.0) r.4 m.3))

  placed_more : (es : Exs) (ts : List Tok) → AreExs es → Words ts (more_marks es) → (fs : Exs) × (bare_list fs ≡ bare_list es) × AreExs fs × Fits ts (more_marks fs)
  placed_more NoMore ts i h = (NoMore, refl, tt, h)
  placed_more (More e es) ts i h =
      let f = words_first ts (sign kinds.Comma) (ex_marks e ++ more_marks es) h in
      let c = words_split f.1 (ex_marks e) (more_marks es) f.4 in
      let r = placed e c.0 i.0 c.3 in
      let m = placed_more es c.1 i.1 c.4 in
      let fits : Fits (f.0 ∷ c.0 ++ c.1) (more_marks (More r.0 m.0)) = ((f.3.0, tt, tt), fits_append c.0 c.1 (ex_marks r.0) (more_marks m.0) r.4 m.3) in
      (More r.0 m.0, rw (r.1, m.1) refl, (r.2, m.2), fits_at ts _ _ (f.2 ∙ ap (λ l. f.0 ∷ l) c.2) fits)

  placed_brackets : (bs : Brackets) (ts : List Tok) → AreBrackets bs → Words ts (bracket_marks bs) → (cs : Brackets) × (bare_brackets cs ≡ bare_brackets bs) × ((bs ≢ NoBracket) → cs ≢ NoBracket) × AreBrackets cs × Fits ts (bracket_marks cs)
  placed_brackets NoBracket ts i h = (NoBracket, refl, λ k. k, tt, h)
  placed_brackets (Select p es bs) ts i h =
      let f = words_first ts (sign_at p kinds.OpenBracket) (list_marks es ++ sign kinds.CloseBracket ∷ bracket_marks bs) h in
      let c = words_split f.1 (list_marks es) (sign kinds.CloseBracket ∷ bracket_marks bs) f.4 in
      let g = words_first c.1 (sign kinds.CloseBracket) (bracket_marks bs) c.4 in
      let r = placed_list es c.0 i.1 c.3 in
      let m = placed_brackets bs g.1 i.2 g.4 in
      let tail : Fits (g.0 ∷ g.1) (sign kinds.CloseBracket ∷ bracket_marks m.0) = ((g.3.0, tt, tt), m.4) in
      let fits : Fits (f.0 ∷ c.0 ++ g.0 ∷ g.1) (bracket_marks (Select f.0.pos r.0 m.0)) = ((f.3.0, tt, refl), fits_append c.0 (g.0 ∷ g.1) (list_marks r.0) (sign kinds.CloseBracket ∷ bracket_marks m.0) r.3 tail) in
      (Select f.0.pos r.0 m.0, rw (r.1, m.1) refl, λ k. λ c. cc, (some_list r.0 es r.1 i.0, r.2, m.3), fits_at ts _ _ (f.2 ∙ ap (λ l. f.0 ∷ l) (c.2 ∙ ap (λ l. c.0 ++ l) g.2)) fits)
  placed_brackets (Update p es e bs) ts i h =
      let f = words_first ts (sign_at p kinds.OpenBracket) (list_marks es ++ sign kinds.Becomes ∷ ex_marks e ++ sign kinds.CloseBracket ∷ bracket_marks bs) h in
      let d = words_split f.1 (list_marks es ++ sign kinds.Becomes ∷ ex_marks e) (sign kinds.CloseBracket ∷ bracket_marks bs) f.4 in
      let c = words_split d.0 (list_marks es) (sign kinds.Becomes ∷ ex_marks e) d.3 in
      let b = words_first c.1 (sign kinds.Becomes) (ex_marks e) c.4 in
      let g = words_first d.1 (sign kinds.CloseBracket) (bracket_marks bs) d.4 in
      let r = placed_list es c.0 i.1 c.3 in
      let v = placed e b.1 i.2 b.4 in
      let m = placed_brackets bs g.1 i.3 g.4 in
      let value : Fits (b.0 ∷ b.1) (sign kinds.Becomes ∷ ex_marks v.0) = ((b.3.0, tt, tt), v.4) in
      let tail : Fits (g.0 ∷ g.1) (sign kinds.CloseBracket ∷ bracket_marks m.0) = ((g.3.0, tt, tt), m.4) in
      let front = fits_append c.0 (b.0 ∷ b.1) (list_marks r.0) (sign kinds.Becomes ∷ ex_marks v.0) r.3 value in
      let fits : Fits (f.0 ∷ (c.0 ++ b.0 ∷ b.1) ++ g.0 ∷ g.1) (bracket_marks (Update f.0.pos r.0 v.0 m.0)) = ((f.3.0, tt, refl), fits_append (c.0 ++ b.0 ∷ b.1) (g.0 ∷ g.1) (list_marks r.0 ++ sign kinds.Becomes ∷ ex_marks v.0) (sign kinds.CloseBracket ∷ bracket_marks m.0) front tail) in
      (Update f.0.pos r.0 v.0 m.0, rw (r.1, v.1, m.1) refl, λ k. λ c. cc, (some_list r.0 es r.1 i.0, r.2, v.2, m.3), fits_at ts _ _ (f.2 ∙ ap (λ l. f.0 ∷ l) (d.2 ∙ ap (λ l. l ++ d.1) (c.2 ∙ ap (λ l. c.0 ++ l) b.2) ∙ ap (λ l. (c.0 ++ b.0 ∷ b.1) ++ l) g.2)) fits)

  placed_links : (s : InfixSign) (links : Links) (ts : List Tok) → GoOn s links → Words ts (link_marks links) → (ms : Links) × (bare_links ms ≡ bare_links links) × GoOn s ms × Fits ts (link_marks ms)
  placed_links s NoLink ts i h = (NoLink, refl, tt, h)
  placed_links s (Link p r e links) ts i h =
      let w = words_first ts (sign_at p (infix_kind r)) (ex_marks e ++ link_marks links) h in
      let d = words_split w.1 (ex_marks e) (link_marks links) w.4 in
      let q = placed e d.0 i.1 d.3 in
      let m = placed_links s links d.1 i.3 d.4 in
      let fits : Fits (w.0 ∷ d.0 ++ d.1) (link_marks (Link w.0.pos r q.0 m.0)) = ((w.3.0, tt, refl), fits_append d.0 d.1 (ex_marks q.0) (link_marks m.0) q.4 m.3) in
      (Link w.0.pos r q.0 m.0, rw (q.1, m.1) refl, (i.0, q.2, subst (λ k. grade s < k) (sym q.3) i.2, m.2), fits_at ts _ _ (w.2 ∙ ap (λ l. w.0 ∷ l) d.2) fits)

-- two expressions with the same words are equal, positions apart
pub same_words : (e f : Ex) (ts : List Tok) → IsEx e → IsEx f → Words ts (ex_marks e) → Words ts (ex_marks f) → bare e ≡ bare f
same_words e f ts i k h j =
    let a = placed e ts i h in
    let b = placed f ts k j in
    sym a.1 ∙ ap bare (one_expression a.0 b.0 ts (a.2, omega arith, a.4) (b.2, omega arith, b.4)) ∙ b.1
