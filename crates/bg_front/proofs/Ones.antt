-- A text has one tree, or one refusal.
use Rattle.std.proofs.Common.{◌≡◌, ℕ, List, refl, sym, ap, ◌∙◌, subst}
use Rattle.bg_base.specs.declared.pos.Pos.{Pos}
use Rattle.bg_text.specs.Text.{Text, Refused}
use Rattle.bg_text.specs.Text as text
use Rattle.bg_text.specs.Tokens.{Tok}
use Rattle.bg_text.specs.Trees.{Decl}
use Rattle.bg_text.specs.Declarations.{SpellsTree, SpellsTreeAt}
use Rattle.bg_reader.specs.Told.{IsTooDeep}
use Rattle.bg_parse.specs.Programs.{IsProgram, IsStopped}
use Rattle.bg_front.specs.Refusals.{Refusal, TooLong, Bytes, Syntax, Nesting, Names, Types, Implementations, Candidates, Places, Bodies, Expanded}
use Rattle.bg_front.specs.Trees.{IsTreeOf, HasNoTree, position_of, end_of}

-- what is known of tokens and trees
pub record Known : Type 0 where
  pub texts : (bytes : List ℕ) (ts us : List Tok) → Text bytes ts → Text bytes us → ts ≡ us
  pub refusals : (bytes : List ℕ) (a b : Pos) (f g : text.Fault) → Refused bytes a f → Refused bytes b g → (a ≡ b) × (f ≡ g)
  pub apart : (bytes : List ℕ) (ts : List Tok) (at : Pos) (fault : text.Fault) → Text bytes ts → Refused bytes at fault → ⊥
  pub trees : (ds es : List Decl) (ts : List Tok) → SpellsTreeAt ds ts → SpellsTreeAt es ts → ds ≡ es
  pub no_stop : (d : ℕ) (ts x : List Tok) (ds : List Decl) → IsProgram d ts ds → IsStopped d ts x → ⊥
  pub no_deep : (d : ℕ) (ts x : List Tok) (ds : List Decl) → IsProgram d ts ds → IsTooDeep SpellsTree d ts x → ⊥
  pub stop_deep : (d : ℕ) (ts x y : List Tok) → IsStopped d ts x → IsTooDeep SpellsTree d ts y → ⊥
  pub stops : (d : ℕ) (ts x y : List Tok) → IsStopped d ts x → IsStopped d ts y → x ≡ y

pub one_tree : Known → (bytes : List ℕ) (ts us : List Tok) (ds es : List Decl) → IsTreeOf bytes ts ds → IsTreeOf bytes us es → (ts ≡ us) × (ds ≡ es)
one_tree k bytes ts us ds es a b =
    let e : ts ≡ us = k.texts bytes ts us a.0 b.0 in
    (e, k.trees ds es us (subst (λ (x : List Tok). SpellsTreeAt ds x) e a.1.places) b.1.places)

pub not_both : Known → (bytes : List ℕ) (ts : List Tok) (ds : List Decl) (r : Refusal) → IsTreeOf bytes ts ds → HasNoTree bytes r → ⊥
not_both k bytes ts ds (Bytes p f) a b = k.apart bytes ts p f a.0 b
not_both k bytes ts ds (Syntax p) a b =
    k.no_stop 200 ts b.1 ds a.1 (subst (λ (x : List Tok). IsStopped 200 x b.1) (k.texts bytes b.0 ts b.2 a.0) b.3)
not_both k bytes ts ds Nesting a b =
    k.no_deep 200 ts b.1 ds a.1 (subst (λ (x : List Tok). IsTooDeep SpellsTree 200 x b.1) (k.texts bytes b.0 ts b.2 a.0) b.3)
not_both k bytes ts ds TooLong a b = b
not_both k bytes ts ds (Names f) a b = b
not_both k bytes ts ds (Types xs f) a b = b
not_both k bytes ts ds (Implementations n) a b = b
not_both k bytes ts ds (Candidates n) a b = b
not_both k bytes ts ds (Places n) a b = b
not_both k bytes ts ds (Bodies n) a b = b
not_both k bytes ts ds Expanded a b = b

pub one_refusal : Known → (bytes : List ℕ) (r s : Refusal) → HasNoTree bytes r → HasNoTree bytes s → r ≡ s
one_refusal k bytes (Bytes p f) (Bytes q g) a b =
    let both : (p ≡ q) × (f ≡ g) = k.refusals bytes p q f g a b in
    ap (λ (x : Pos). Bytes x f) both.0 ∙ ap (λ (x : text.Fault). Bytes q x) both.1
one_refusal k bytes (Bytes p f) (Syntax q) a b = absurd (k.apart bytes b.0 p f b.2 a)
one_refusal k bytes (Bytes p f) Nesting a b = absurd (k.apart bytes b.0 p f b.2 a)
one_refusal k bytes (Syntax p) (Bytes q g) a b = absurd (k.apart bytes a.0 q g a.2 b)
one_refusal k bytes (Syntax p) (Syntax q) a b =
    let e : b.0 ≡ a.0 = k.texts bytes b.0 a.0 b.2 a.2 in
    let x : a.1 ≡ b.1 = k.stops 200 a.0 a.1 b.1 a.3 (subst (λ (y : List Tok). IsStopped 200 y b.1) e b.3) in
    ap (λ (y : Pos). Syntax y) (a.4 ∙ ap (position_of (end_of bytes)) x ∙ sym b.4)
one_refusal k bytes (Syntax p) Nesting a b =
    absurd (k.stop_deep 200 a.0 a.1 b.1 a.3 (subst (λ (y : List Tok). IsTooDeep SpellsTree 200 y b.1) (k.texts bytes b.0 a.0 b.2 a.2) b.3))
one_refusal k bytes Nesting (Bytes q g) a b = absurd (k.apart bytes a.0 q g a.2 b)
one_refusal k bytes Nesting (Syntax q) a b =
    absurd (k.stop_deep 200 b.0 b.1 a.1 b.3 (subst (λ (y : List Tok). IsTooDeep SpellsTree 200 y a.1) (k.texts bytes a.0 b.0 a.2 b.2) a.3))
one_refusal k bytes Nesting Nesting a b = refl
one_refusal k bytes TooLong s a b = absurd a
one_refusal k bytes (Names f) s a b = absurd a
one_refusal k bytes (Types xs f) s a b = absurd a
one_refusal k bytes (Implementations m) s a b = absurd a
one_refusal k bytes (Candidates m) s a b = absurd a
one_refusal k bytes (Places m) s a b = absurd a
one_refusal k bytes (Bodies m) s a b = absurd a
one_refusal k bytes Expanded s a b = absurd a
one_refusal k bytes (Bytes p f) TooLong a b = absurd b
one_refusal k bytes (Bytes p f) (Names g) a b = absurd b
one_refusal k bytes (Bytes p f) (Types ys g) a b = absurd b
one_refusal k bytes (Bytes p f) (Implementations n) a b = absurd b
one_refusal k bytes (Bytes p f) (Candidates n) a b = absurd b
one_refusal k bytes (Bytes p f) (Places n) a b = absurd b
one_refusal k bytes (Bytes p f) (Bodies n) a b = absurd b
one_refusal k bytes (Bytes p f) Expanded a b = absurd b
one_refusal k bytes (Syntax p) TooLong a b = absurd b
one_refusal k bytes (Syntax p) (Names g) a b = absurd b
one_refusal k bytes (Syntax p) (Types ys g) a b = absurd b
one_refusal k bytes (Syntax p) (Implementations n) a b = absurd b
one_refusal k bytes (Syntax p) (Candidates n) a b = absurd b
one_refusal k bytes (Syntax p) (Places n) a b = absurd b
one_refusal k bytes (Syntax p) (Bodies n) a b = absurd b
one_refusal k bytes (Syntax p) Expanded a b = absurd b
one_refusal k bytes Nesting TooLong a b = absurd b
one_refusal k bytes Nesting (Names g) a b = absurd b
one_refusal k bytes Nesting (Types ys g) a b = absurd b
one_refusal k bytes Nesting (Implementations n) a b = absurd b
one_refusal k bytes Nesting (Candidates n) a b = absurd b
one_refusal k bytes Nesting (Places n) a b = absurd b
one_refusal k bytes Nesting (Bodies n) a b = absurd b
one_refusal k bytes Nesting Expanded a b = absurd b
