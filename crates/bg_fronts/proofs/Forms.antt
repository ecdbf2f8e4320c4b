-- Chains of two.
use Rattle.std.proofs.Common.{◌≡◌, List, [], ◌∷◌, ◌++◌, map, refl, ap, ◌∙◌, Vec, Box, Global}
use Rattle.bg_base.specs.declared.pos.Pos.{Pos}
use Rattle.bg_text.specs.declared.expr.InfixSign.{InfixSign}
use Rattle.bg_text.specs.declared.expr.InfixSign.TheVariants as op
use Rattle.bg_ast.specs.declared.resolved.Expr.{Expr}
use Rattle.bg_ast.specs.declared.resolved.Expr.TheVariants as expr
use Rattle.bg_ast.specs.declared.resolved.Link.{Link}
use Rattle.bg_ast.specs.Resolved as r
use Rattle.bg_ast.specs.Meaning as m
use Rattle.bg_ast.specs.Views as u
use Rattle.bg_ast.proofs.Lists as z
use Rattle.bg_term_table.specs.Views.{meaning}
use Rattle.bg_fronts.specs.Two.{two}

one_link : (ls old : List Link) (l : Link) → ls ≡ old ++ l ∷ [] → old ≡ [] → map u.link_view ls ≡ u.link_view l ∷ []
one_link ls old l h k = rw (h, k) refl

chained_two : (p : Pos) (g : InfixSign) (a : _) (b : r.Ex) → m.chained a (r.Link p g b r.NoLink) ≡ two g a (m.ex_of b)
chained_two p op.Iff a b = refl
chained_two p op.Implies a b = refl
chained_two p op.Explies a b = refl
chained_two p op.And a b = refl
chained_two p op.Or a b = refl
chained_two p op.Equal a b = refl
chained_two p op.Unequal a b = refl
chained_two p op.Less a b = refl
chained_two p op.AtMost a b = refl
chained_two p op.Greater a b = refl
chained_two p op.AtLeast a b = refl
chained_two p op.Plus a b = refl
chained_two p op.Minus a b = refl
chained_two p op.Times a b = refl

pub chain_is : (b : Box Expr Global) (ls : Vec Link Global) (old : List Link) (l : Link) → ls.items ≡ old ++ l ∷ [] → old ≡ [] → meaning (expr.Chain b ls) ≡ two l.sign (meaning b.value) (meaning l.operand)
chain_is b ls old l is none =
    ap m.ex_of (z.ex_of-Chain b ls ∙ ap (λ ms. r.Chain (u.ex_of b.value) (u.links_of ms)) (one_link ls.items old l is none))
    ∙ chained_two l.pos l.sign (meaning b.value) (u.ex_of l.operand)
