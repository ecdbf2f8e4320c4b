use Rattle.std.proofs.Common.{◌≡◌, ◌+◌, ◌∙◌, true, length, refl, sym, ap, arith}
use Rattle.bg_formula.specs.Atoms.{atom_of}
use Rattle.bg_formula.specs.Formulas.{formula_of}
use Rattle.bg_cert.specs.Walks.{has}
use Rattle.bg_cert.specs.Certs.{lemma_of, node_of}
use Rattle.bg_cert.specs.Written.{is_lemma}
use Rattle.bg_cert.proofs.Literals.{length_map}
use Rattle.bg_cert.proofs.Tells.{map_ok, leaf_told, lemma_told}
use Rattle.bg_cert.proofs.check.step.Goals as goal

pub returns-in-Lemma-clause-told : goal.returns-in-Lemma-clause-told
returns-in-Lemma-clause-told c =
    let f = formula_of c.args.f.now in
    let n : c.len-in-Lemma.result ≡ length f.atoms = let m = length_map atom_of c.args.f.now.atoms.items in let o = c.args.f.now.atoms.ok in omega (arith, c.len-in-Lemma.ensures, m, o) in
    let l : lemma_of c.len-in-Lemma.result c.deref.result.now ≡ lemma_of (length f.atoms) c.in-Lemma.lemma.items = ap (λ m. lemma_of m c.deref.result.now) n ∙ ap (lemma_of (length f.atoms)) c.deref.ensures.value in
    lemma_told f (has c.args.set.now) c.args.cert.now c.args.tour.now c.learn.new.tour c.args.here.node.now c.in-Lemma.lemma (lemma_of c.len-in-Lemma.result c.deref.result.now) c.args.here.k c.learn.result c.in-Lemma.is l c.requires.is_open c.requires.is_node (c.requires.sized ∙ ap (λ m. m + length c.args.cert.now.table.items) (sym (length_map atom_of c.args.f.now.atoms.items))) c.learn.ensures.there c.learn.ensures.stack

pub returns-in-Clause-clause-told : goal.returns-in-Clause-clause-told
returns-in-Clause-clause-told c = let i = c.in-Clause.is in
    leaf_told (formula_of c.args.f.now) (has c.args.set.now) c.args.cert.now c.args.tour.now c.leaf.new.tour c.args.here.node.now c.leaf.result c.requires.is_open (rw i refl) c.leaf.ensures.told

pub returns-in-Unit-clause-told : goal.returns-in-Unit-clause-told
returns-in-Unit-clause-told c = let i = c.in-Unit.is in
    leaf_told (formula_of c.args.f.now) (has c.args.set.now) c.args.cert.now c.args.tour.now c.leaf-in-Unit.new.tour c.args.here.node.now c.leaf-in-Unit.result c.requires.is_open (rw i refl) c.leaf-in-Unit.ensures.told

pub returns-in-Known-clause-told : goal.returns-in-Known-clause-told
returns-in-Known-clause-told c = let i = c.in-Known.is in
    leaf_told (formula_of c.args.f.now) (has c.args.set.now) c.args.cert.now c.args.tour.now c.leaf-in-Known.new.tour c.args.here.node.now c.leaf-in-Known.result c.requires.is_open (rw i refl) c.leaf-in-Known.ensures.told

pub returns-in-Rows-clause-told : goal.returns-in-Rows-clause-told
returns-in-Rows-clause-told c = let i = c.in-Rows.is in
    leaf_told (formula_of c.args.f.now) (has c.args.set.now) c.args.cert.now c.args.tour.now c.leaf-in-Rows.new.tour c.args.here.node.now c.leaf-in-Rows.result c.requires.is_open (rw i refl) c.leaf-in-Rows.ensures.told

pub returns-in_ok-both_ways-in-Split-clause-known : goal.returns-in_ok-both_ways-in-Split-clause-known
returns-in_ok-both_ways-in-Split-clause-known c t m l h = c.in_ok-both_ways-in-Split.ensures.known m h

pub returns-in_ok-both_ways-in-Cut-clause-known : goal.returns-in_ok-both_ways-in-Cut-clause-known
returns-in_ok-both_ways-in-Cut-clause-known c t m l h = c.in_ok-both_ways-in-Cut.ensures.known m h

pub returns-in_ok-both_ways-in-Bound-clause-known : goal.returns-in_ok-both_ways-in-Bound-clause-known
returns-in_ok-both_ways-in-Bound-clause-known c t m l h = c.in_ok-both_ways-in-Bound.ensures.known m h

pub returns-in-Lemma-clause-known : goal.returns-in-Lemma-clause-known
returns-in-Lemma-clause-known c =
    let i : is_lemma (node_of c.args.here.node.now) ≡ true = ap (λ n. is_lemma (node_of n)) c.in-Lemma.is in
    map_ok _ _ c.learn.result (λ yes g t m l h. g t m (l i) h) c.learn.ensures.known

pub returns-in-Clause-clause-known : goal.returns-in-Clause-clause-known
returns-in-Clause-clause-known c = map_ok _ _ c.leaf.result (λ yes g t m l h. g t m h) c.leaf.ensures.known

pub returns-in-Unit-clause-known : goal.returns-in-Unit-clause-known
returns-in-Unit-clause-known c = map_ok _ _ c.leaf-in-Unit.result (λ yes g t m l h. g t m h) c.leaf-in-Unit.ensures.known

pub returns-in-Known-clause-known : goal.returns-in-Known-clause-known
returns-in-Known-clause-known c = map_ok _ _ c.leaf-in-Known.result (λ yes g t m l h. g t m h) c.leaf-in-Known.ensures.known

pub returns-in-Rows-clause-known : goal.returns-in-Rows-clause-known
returns-in-Rows-clause-known c = map_ok _ _ c.leaf-in-Rows.result (λ yes g t m l h. g t m h) c.leaf-in-Rows.ensures.known
