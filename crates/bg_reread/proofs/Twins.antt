-- Programs with the same tokens are the same, positions apart, and so is what is read of a printed one.
use Rattle.std.proofs.Common.{◌≡◌, ℕ, List, [], ◌∷◌, refl, ◌∙◌, subst, append-nil}
use Rattle.bg_base.specs.declared.pos.Pos.{Pos}
use Rattle.bg_text.specs.Text as text
use Rattle.bg_text.specs.Text.{Text, Refused}
use Rattle.bg_text.specs.Tokens.{Tok}
use Rattle.bg_text.specs.Trees.{Decl}
use Rattle.bg_text.specs.Declarations.{SpellsTree, SpellsTreeAt}
use Rattle.bg_parse.specs.Programs.{IsProgram, IsStopped}
use Rattle.bg_print.specs.Printed.{printed}
use Rattle.bg_reread.specs.Bare.{bare_decls}
use Rattle.bg_reread.specs.Nowhere.{all_nowhere}
use Rattle.bg_reread.proofs.Kept.{bare_placed}
use Rattle.bg_reread.proofs.Nesting.{Answered, answered}

-- the tokens, at no place, have one program, and each program's bare form is that
pub twins : ((ds es : List Decl) (ts : List Tok) → SpellsTreeAt ds ts → SpellsTreeAt es ts → ds ≡ es) → (ds es : List Decl) (ts : List Tok) → SpellsTree ds ts → SpellsTree es ts → bare_decls ds ≡ bare_decls es
twins one ds es ts h k = one (bare_decls ds) (bare_decls es) (all_nowhere ts) (bare_placed ds ts h) (bare_placed es ts k)

-- what is known of texts and trees
pub record Known : Type 0 where
  pub texts : (bytes : List ℕ) (ts us : List Tok) → Text bytes ts → Text bytes us → ts ≡ us
  pub apart : (bytes : List ℕ) (ts : List Tok) (at : Pos) (fault : text.Fault) → Text bytes ts → Refused bytes at fault → ⊥
  pub prints : (ds : List Decl) (ts : List Tok) → SpellsTree ds ts → (us : List Tok) × Text (printed ds) us × SpellsTree ds us
  pub alike : (ds es : List Decl) (ts : List Tok) → SpellsTree ds ts → SpellsTree es ts → bare_decls ds ≡ bare_decls es
  pub twin : (ds : List Decl) (ts : List Tok) → SpellsTree ds ts → (es : List Decl) × SpellsTreeAt es ts
  pub words : (ds : List Decl) (ts : List Tok) → SpellsTreeAt ds ts → SpellsTree ds ts

module _ (k : Known) (ds : List Decl) (ts : List Tok) (h : SpellsTree ds ts) where
  pub reread : (us : List Tok) × Text (printed ds) us × SpellsTree ds us × ((es : List Decl) → SpellsTree es us → bare_decls es ≡ bare_decls ds)
  reread = let p = k.prints ds ts h in (p.0, p.1, p.2, λ es s. k.alike es ds p.0 s p.2)

  pub bytes_stand : (at : Pos) (fault : text.Fault) → Refused (printed ds) at fault → ⊥
  bytes_stand at fault r = let p = k.prints ds ts h in k.apart (printed ds) p.0 at fault p.1 r

  module _ (us : List Tok) (holds : Text (printed ds) us) where
    spelled : SpellsTree ds us
    spelled = let p = k.prints ds ts h in subst (SpellsTree ds) (k.texts (printed ds) p.0 us p.1 holds) p.2

    pub read_again : (d : ℕ) (es : List Decl) → IsProgram d us es → bare_decls es ≡ bare_decls ds
    read_again d es p = k.alike es ds us p.spells spelled

    pub tokens_stand : (d : ℕ) (rest : List Tok) → IsStopped d us rest → ⊥
    tokens_stand d [] s = s.unfinished refl ds (subst (SpellsTree ds) (s.cut ∙ append-nil s.front) spelled)
    tokens_stand d (t ∷ more) s = s.stops t more refl (ds, more, subst (SpellsTree ds) s.cut spelled)

    pub read_or_deep : (d : ℕ) → Answered d us
    read_or_deep d = answered k.twin k.words d ds us spelled
