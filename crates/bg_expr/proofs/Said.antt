-- What reading an expression says of the tokens.
use Rattle.std.proofs.Common.{◌≡◌, ◌-◌, ℕ, ◌≤◌, List, [], ◌∷◌, ◌++◌, length, drop, arith, refl, sym, ap, ◌∙◌, subst, length-append, length-drop, suc}
use Rattle.std.proofs.lemmas.List.{append_cancel_right}
use Rattle.bg_text.specs.declared.token.Token.{Token}
use Rattle.bg_text.specs.Tokens.{Tok, views}
use Rattle.bg_text.specs.Trees.{Ex}
use Rattle.bg_text.specs.Marks.{Fits}
use Rattle.bg_text.specs.Spelling.{ex_marks, Spells, SpellsAt}
use Rattle.bg_reader.specs.Reading.{Read, Got, Bad, Deep, Refuses}
use Rattle.bg_reader.specs.declared.refusal.Refusal.{Refusal}
use Rattle.bg_reader.specs.declared.refusal.Refusal.TheVariants as refusal
use Rattle.bg_reader.specs.Exact.{Took, Fine}
use Rattle.bg_reader.specs.Told.{IsRead, IsRefused, IsTooDeep}
use Rattle.bg_reader.proofs.Fits.{fits_words}
use Rattle.bg_reader.proofs.Told.{is_read, is_refused, is_too_deep, read_as, refused_as, deep_as, one_rest}
use Rattle.bg_expr.specs.Bare.{bare}
use Rattle.bg_expr.specs.Ends.{ends}
use Rattle.bg_expr.specs.Exprs.{expr_at}
use Rattle.bg_expr.specs.Places.{HasPlaces}
use Rattle.bg_expr.specs.Nodes.{ex_nodes}
use Rattle.bg_expr.proofs.Small.{few_nodes}
use Rattle.bg_expr.proofs.Atoms.{expr_good}
use Rattle.bg_expr.proofs.NestsOf.{expr_nests}
use Rattle.bg_expr.proofs.Placed.{placed, same_words}
use Rattle.bg_expr.proofs.Whole.{one_expression}

pub forget : (k : ℕ) (e : Ex) (ts : List Tok) → SpellsAt k e ts → Spells k e ts
forget k e ts h = (h.0, h.1, fits_words ts (ex_marks e) h.2)

-- what is spelled has a twin with the tokens' positions
pub twin : (k : ℕ) (e : Ex) (ts : List Tok) → Spells k e ts → (f : Ex) × (bare f ≡ bare e) × SpellsAt k f ts
twin k e ts h = let t = placed e ts h.0 h.2 in (t.0, t.1, (t.2, subst (λ l. k ≤ l) (sym t.3) h.1, t.4))

out : (e : Ex) (ts : List Tok) → Spells 0 e ts → (f : Ex) × SpellsAt 0 f ts
out e ts h = let t = twin 0 e ts h in (t.0, t.2)

module _ (n d : ℕ) (ts : List Tok) where
  pub reads : (e : Ex) (x : List Tok) → expr_at n d ts ≡ Got e x → IsRead (Spells 0) d ts e x
  reads e x h = read_as (SpellsAt 0) (Spells 0) (forget 0) out d ts e x (is_read n d (ends 0) (SpellsAt 0) (expr_at n d) (expr_good n d) (expr_nests n d) ts e x h)

  pub places : (e : Ex) (x : List Tok) → expr_at n d ts ≡ Got e x → HasPlaces ts e x
  places e x h = let k : Took (SpellsAt 0) (expr_at n d) ts e x = subst (Fine n (SpellsAt 0) (expr_at n d) ts) h ((expr_good n d).fine ts) in (k.front, k.cut, k.spells.2)

  pub refuses : (x : List Tok) → expr_at n d ts ≡ Bad x → IsRefused (Spells 0) d ts x
  refuses x h = refused_as (SpellsAt 0) (Spells 0) (forget 0) out d ts x (is_refused n d (ends 0) (SpellsAt 0) (expr_at n d) (expr_good n d) (expr_nests n d) ts x h)

  pub sinks : (x : List Tok) → expr_at n d ts ≡ Deep x → IsTooDeep (Spells 0) d ts x
  sinks x h = deep_as (SpellsAt 0) (Spells 0) (forget 0) out d ts x (is_too_deep n d (ends 0) (SpellsAt 0) (expr_at n d) (expr_good n d) (expr_nests n d) ts x h)

-- what a refusal of a kind says, where it stands for the place j as well
module _ (from : ℕ → List Tok) (e : Refusal) (r : Read Ex) (i j : ℕ) (same : from j ≡ from i) where
  pub syntax_is : e ≡ refusal.Syntax i → Refuses from e r → r ≡ Bad (from j)
  syntax_is q h = subst (λ e. Refuses from e r) q h ∙ ap (λ l. Bad l) (sym same)

  pub deep_is : e ≡ refusal.TooDeep i → Refuses from e r → r ≡ Deep (from j)
  deep_is q h = subst (λ e. Refuses from e r) q h ∙ ap (λ l. Deep l) (sym same)

-- an answer names no place before the first
length_views : (ts : List Token) → length (views ts) ≡ length ts
length_views [] = refl
length_views (t ∷ ts) = ap suc (length_views ts)

pub not_before : (ts : List Token) (from i : ℕ) (front : List Tok) → from ≤ length ts → i ≤ length ts → views (drop from ts) ≡ front ++ views (drop i ts) → from ≤ i
not_before ts from i front a b h =
    let e : length (views (drop from ts)) ≡ length (front ++ views (drop i ts)) = ap length h in
    omega (arith, e, a, b, length-append front (views (drop i ts)), length_views (drop from ts), length_views (drop i ts), length-drop from ts, length-drop i ts)

pub not_many : (d : ℕ) (ts : List Token) (from i : ℕ) (e : Ex) → from ≤ length ts → i ≤ length ts → IsRead (Spells 0) d (views (drop from ts)) e (views (drop i ts)) → ex_nodes e ≤ i - from
not_many d ts from i e a b r =
    let h : length (views (drop from ts)) ≡ length (r.front ++ views (drop i ts)) = ap length r.cut in
    omega (arith, h, a, b, few_nodes 0 e r.front r.spells, length-append r.front (views (drop i ts)), length_views (drop from ts), length_views (drop i ts), length-drop from ts, length-drop i ts)

-- what is read is one expression, positions apart, and one with the tokens' positions
module _ (d : ℕ) (ts : List Tok) where
  pub one_tree : (e f : Ex) (x y : List Tok) → IsRead (Spells 0) d ts e x → IsRead (Spells 0) d ts f y → bare e ≡ bare f
  one_tree e f x y r s =
      let q = one_rest (Spells 0) d ts e f x y r s in
      let same : r.front ≡ s.front = append_cancel_right r.front s.front y (ap (λ z. r.front ++ z) (sym q) ∙ sym r.cut ∙ s.cut) in
      let l : Spells 0 e s.front = subst (Spells 0 e) same r.spells in
      same_words e f s.front l.0 s.spells.0 l.2 s.spells.2

  pub one_placed : (e f : Ex) (x y : List Tok) → IsRead (Spells 0) d ts e x → IsRead (Spells 0) d ts f y → HasPlaces ts e x → HasPlaces ts f y → e ≡ f
  one_placed e f x y r s p o =
      let q = one_rest (Spells 0) d ts e f x y r s in
      let same : p.0 ≡ o.0 = append_cancel_right p.0 o.0 y (ap (λ z. p.0 ++ z) (sym q) ∙ sym p.1 ∙ o.1) in
      one_expression e f o.0 (r.spells.0, r.spells.1, subst (λ z. Fits z (ex_marks e)) same p.2) (s.spells.0, s.spells.1, o.2)
