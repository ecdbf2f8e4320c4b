-- Two unique constants that differ, and the whole of an opened program, part by part.
use Rattle.std.proofs.Common.{◌≡◌, ℕ, List, [], ◌∷◌, ◌++◌, length, map, refl, ap, ◌∙◌, Vec, Box, Global}
use Rattle.bg_ast.specs.declared.resolved.Expr.{Expr}
use Rattle.bg_ast.specs.declared.resolved.Expr.TheVariants as expr
use Rattle.bg_ast.specs.declared.resolved.Link.{Link}
use Rattle.bg_text.specs.declared.expr.InfixSign.TheVariants as op
use Rattle.bg_text.specs.Trees.{Id}
use Rattle.bg_ast.specs.Resolved as r
use Rattle.bg_ast.specs.Views.{ex_of, link_view, links_of}
use Rattle.bg_ast.proofs.Lists as z
use Rattle.bg_opened.specs.Changed.{opened_within}
use Rattle.bg_opened.specs.Written as w

abbrev unequal_to : ℕ → Link
unequal_to j = record { pos = w.nowhere; sign = op.Unequal; operand = expr.Constant w.nowhere j }

pub apart_is : (first : Box Expr Global) (links : Vec Link Global) (old : List Link) (k j : ℕ) → first.value ≡ expr.Constant w.nowhere k → old ≡ [] → links.items ≡ old ++ unequal_to j ∷ [] → ex_of (expr.Chain first links) ≡ w.apart (k, j)
apart_is first links old k j f e l =
    z.ex_of-Chain first links
    ∙ ap (λ x. r.Chain (ex_of x) (links_of (map link_view links.items))) f
    ∙ ap (λ ls. r.Chain (r.Constant w.nowhere k) (links_of (map link_view ls))) (l ∙ ap (λ ls. ls ++ unequal_to j ∷ []) e)

same_parts : (ts : List r.TypeName) (ns : List Id) (cs ds : List r.Const) (gs hs : List r.Declared) (fs es : List r.Fun) (as' bs : List r.Ex) (qs ps : List r.Proc) (ms is : List r.Impl) → cs ≡ ds → gs ≡ hs → fs ≡ es → as' ≡ bs → qs ≡ ps → ms ≡ is → record { types = ts; constants = cs; candidates = ns; globals = gs; functions = fs; axioms = as'; procedures = qs; implementations = ms } ≡ (let p : r.Program = record { types = ts; constants = ds; candidates = ns; globals = hs; functions = es; axioms = bs; procedures = ps; implementations = is } in p)
same_parts ts ns cs ds gs hs fs es as' bs qs ps ms is a b c d e f = rw (a, b, c, d, e, f) refl

pub whole_is : (depth n : ℕ) (p : r.Program) (fs : List r.Fun) (told : List r.Ex) (cs : List r.Const) (gs : List r.Declared) (es : List r.Fun) (as' : List r.Ex) (qs : List r.Proc) (ms : List r.Impl) → n ≡ length p.globals → fs ≡ p.functions → told ≡ w.claims p → cs ≡ [] → es ≡ map w.bodiless p.functions → as' ≡ [] → gs ≡ p.globals ++ map w.global_for p.constants → qs ≡ map (w.opened_proc (opened_within depth n fs)) p.procedures → ms ≡ map (w.opened_impl (opened_within depth n fs) told) p.implementations → record { types = p.types; constants = cs; candidates = p.candidates; globals = gs; functions = es; axioms = as'; procedures = qs; implementations = ms } ≡ w.opened_program depth p
whole_is depth n p fs told cs gs es as' qs ms many funs claims no_constants functions no_axioms globals procs impls =
    same_parts p.types p.candidates cs [] gs _ es _ as' [] qs _ ms _ no_constants globals functions no_axioms
    (procs ∙ ap (λ (k : ℕ). map (w.opened_proc (opened_within depth k fs)) p.procedures) many ∙ ap (λ (l : List r.Fun). map (w.opened_proc (opened_within depth (length p.globals) l)) p.procedures) funs)
    (impls ∙ ap (λ (k : ℕ). map (w.opened_impl (opened_within depth k fs) told) p.implementations) many ∙ ap (λ (l : List r.Fun). map (w.opened_impl (opened_within depth (length p.globals) l) told) p.implementations) funs ∙ ap (λ (l : List r.Ex). map (w.opened_impl (w.opened_in depth p) l) p.implementations) claims)
