-- What guesses say, at the lists that the code meets.
use Rattle.std.proofs.Common.{◌≡◌, List, [], ◌∷◌, length, map, refl, ap, sym, ◌∙◌, arith, Vec, Box, Global}
use Rattle.std.specs.Prelude.{get_or}
use Rattle.bg_text.specs.declared.expr.TreeExpr.{TreeExpr}
use Rattle.bg_text.specs.declared.expr.TreeExpr.TheVariants as expr
use Rattle.bg_text.specs.declared.expr.TreeLink.{TreeLink}
use Rattle.bg_text.specs.Trees as t
use Rattle.bg_text.specs.Views as v
use Rattle.bg_text.proofs.Lists as w
use Rattle.bg_ast.specs.declared.resolved.Expr.{Expr}
use Rattle.bg_ast.specs.declared.resolved.Expr.TheVariants as made
use Rattle.bg_ast.specs.declared.resolved.Link.{Link}
use Rattle.bg_ast.specs.Views as u
use Rattle.bg_ast.proofs.Lists as z
use Rattle.bg_names.proofs.Forms.{both}
use Rattle.bg_keep.specs.Guesses.{Names, atom, operand, behind, relation}

module _ (f : Names) where
  pub relation_is : (e : Expr) (x : Box Expr Global) (ls : Vec Link Global) (y : Box TreeExpr Global) (ms : Vec TreeLink Global) (first : TreeExpr) → e ≡ made.Chain x ls → v.ex_of first ≡ atom f (u.ex_of x.value) → y.value ≡ first → v.links_of (map v.link_view ms.items) ≡ behind f (u.links_of (map u.link_view ls.items)) → v.ex_of (expr.Chain y ms) ≡ relation f (u.ex_of e)
  relation_is e x ls y ms first is one value two =
      w.ex_of-Chain y ms
      ∙ both t.Chain (ap v.ex_of value ∙ one) two
      ∙ sym (ap (relation f) (z.ex_of-Chain x ls))
      ∙ sym (ap (λ a. relation f (u.ex_of a)) is)

  pub behind_one : (ls : List Link) (l : Link) (e : TreeExpr) → length ls ≡ 1 → l ≡ get_or ls 0 l → v.ex_of e ≡ operand f (u.ex_of l.operand) → t.Link l.pos l.sign (v.ex_of e) t.NoLink ≡ behind f (u.links_of (map u.link_view ls))
  behind_one [] l e one at is = absurd (omega (arith, one))
  behind_one (a ∷ []) l e one at is = ap (λ x. t.Link l.pos l.sign x t.NoLink) is ∙ ap (λ (x : Link). t.Link x.pos x.sign (operand f (u.ex_of x.operand)) t.NoLink) at
  behind_one (a ∷ b ∷ ls) l e one at is = absurd (omega (arith, one))

  pub behind_none : (ls : List Link) → (length ls ≡ 1 → ⊥) → t.NoLink ≡ behind f (u.links_of (map u.link_view ls))
  behind_none [] none = refl
  behind_none (a ∷ []) none = absurd (none refl)
  behind_none (a ∷ b ∷ ls) none = refl
