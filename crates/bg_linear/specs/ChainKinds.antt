-- The kinds of chains and of rows of signs, as the code meets them.
use Rattle.std.specs.Prelude.{Bool, true, ◌&&◌, if◌then◌else◌, List, [], ◌∷◌, Option, Some, None}
use Rattle.bg_text.specs.declared.expr.InfixSign.{InfixSign}
use Rattle.bg_text.specs.declared.expr.InfixSign.TheVariants as op
use Rattle.bg_text.specs.declared.expr.PrefixSign.{PrefixSign}
use Rattle.bg_text.specs.declared.expr.PrefixSign.TheVariants as prefix
use Rattle.bg_text.specs.declared.expr.TreePrefix.{TreePrefix}
use Rattle.bg_ast.specs.Resolved as r
use Rattle.bg_ast.specs.Meaning as m
use Rattle.bg_linear.specs.declared.scalar.Sort.{Sort}
use Rattle.bg_linear.specs.declared.scalar.Kind.{Kind}
use Rattle.bg_linear.specs.Chains.{is_implies}
use Rattle.bg_linear.specs.Sorts.{is_truth, number_only, truth_if, both_truths, related_kind, equal_kind, sum_kind, product_kind, kind_ex}

-- two kinds with a sign between them
abbrev pub sign_kind : InfixSign → Option Kind → Option Kind → Option Kind
sign_kind op.Iff a b = both_truths a b
sign_kind op.Implies a b = both_truths a b
sign_kind op.Explies a b = both_truths b a
sign_kind op.And a b = both_truths a b
sign_kind op.Or a b = both_truths a b
sign_kind op.Equal a b = equal_kind a b
sign_kind op.Unequal a b = equal_kind a b
sign_kind op.Less a b = related_kind a b
sign_kind op.AtMost a b = related_kind a b
sign_kind op.Greater a b = related_kind a b
sign_kind op.AtLeast a b = related_kind a b
sign_kind op.Plus a b = sum_kind a b
sign_kind op.Minus a b = sum_kind a b
sign_kind op.Times a b = product_kind a b

-- a chain, where its first operand has this kind
abbrev pub chain_kinds : List Sort → Option Kind → r.Links → Option Kind
chain_kinds sorts k r.NoLink = k
chain_kinds sorts k (r.Link p sign e ls) =
    if is_implies sign then both_truths k (chain_kinds sorts (kind_ex sorts (m.ex_of e)) ls)
    else chain_kinds sorts (sign_kind sign k (kind_ex sorts (m.ex_of e))) ls

-- what stands before implications waits for what is on their right: whether all of it is truth values
abbrev pub folded : Option Bool → Option Kind → Option Kind
folded None k = k
folded (Some all) k = truth_if (all && is_truth k)

abbrev pub all_so_far : Option Bool → Bool
all_so_far None = true
all_so_far (Some all) = all

-- what waits behind one more sign, and the kind on its right
abbrev pub next_waiting : InfixSign → Option Bool → Option Kind → Option Bool
next_waiting sign w a = if is_implies sign then Some (all_so_far w && is_truth a) else w

abbrev pub next_kind : InfixSign → Option Kind → Option Kind → Option Kind
next_kind sign a b = if is_implies sign then b else sign_kind sign a b

abbrev pub prefix_kind : PrefixSign → Option Kind → Option Kind
prefix_kind prefix.Not k = truth_if (is_truth k)
prefix_kind prefix.Minus k = number_only k

abbrev pub signed_kind : List TreePrefix → Option Kind → Option Kind
signed_kind [] k = k
signed_kind (x ∷ xs) k = prefix_kind x.sign (signed_kind xs k)
