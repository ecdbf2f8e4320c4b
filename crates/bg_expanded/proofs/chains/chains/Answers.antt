use Rattle.std.proofs.Common.{◌≡◌, ℕ, List, ◌+◌, map, length, get_or, set, sym, ap, ◌∙◌, subst, arith}
use Rattle.std.specs.List.Sorted.{IsPermutation, IsNonDecreasingBy}
use Rattle.std.proofs.lemmas.List.{length-map, length-set}
use Rattle.bg_ast.specs.Views.{fun_of}
use Rattle.bg_graph.specs.Graphs.{Graph, IsRanking}
use Rattle.bg_expanded.specs.Chains.{chain_to}
use Rattle.bg_expanded.specs.Applied.{applied_graph}
use Rattle.bg_expanded.specs.Ranked.{ranked_from, chain_at}
use Rattle.bg_expanded.specs.declared.ranked.Ranked.{Ranked}
use Rattle.bg_expanded.proofs.Table.{Ready, ready_at, ready_all}
use Rattle.bg_expanded.proofs.chains.chains.Goals as goal

pub loop-ranked-preserved : goal.loop-ranked-preserved
loop-ranked-preserved c =
    let functions = c.args.functions.now in
    let fs = map fun_of functions in
    let ranks = c.args.ranks.now in
    let order = c.deref-ranked-items.result.now in
    let ranking : IsRanking (applied_graph fs) ranks = (let P : Graph → Type 0 = λ g. IsRanking g ranks in subst P c.requires.edges c.requires.falls) in
    let same : IsPermutation (ranked_from 0 ranks) order = (let P : List Ranked → Type 0 = λ rs. IsPermutation (ranked_from 0 ranks) rs in subst P (sym c.deref-ranked-items.ensures.value) c.in_ok-order.ensures.same) in
    let rising : IsNonDecreasingBy (λ (r : Ranked). r.rank) order = (let P : List Ranked → Type 0 = λ rs. IsNonDecreasingBy (λ (r : Ranked). r.rank) rs in subst P (sym c.deref-ranked-items.ensures.value) c.in_ok-order.ensures.rising) in
    let n = length-map functions fun_of in
    let deep = c.loop-ranked.deep.items in
    let i = c.loop-ranked.ranked-index in
    let d : Ranked = record { rank = 0; function = 0 } in
    let f = (get_or order i d).function in
    let new : c.set_deep.new.deep.items ≡ set deep f (chain_at fs (applied_graph fs) deep f) =
    c.set_deep.ensures ∙ ap (λ (v : ℕ). set deep f v) (c.chain_at-n.ensures ∙ (ap (λ (g : Graph). chain_at fs g c.deref.result.now f) c.requires.edges ∙ ap (λ (l : List ℕ). chain_at fs (applied_graph fs) l f) c.deref.ensures.value)) in
    let P : List ℕ → Type 0 = λ l. Ready fs ranks order l (i + 1) in
    record {
      long = ap length new ∙ (length-set deep f (chain_at fs (applied_graph fs) deep f) ∙ c.loop-ranked.invariant.long);
      ready = subst P (sym new) (ready_at fs ranks order (omega (arith, c.requires.few)) ranking same rising deep i d (omega (arith, c.loop-ranked.invariant.long)) c.loop-ranked-test.true c.loop-ranked.invariant.ready);
    }

pub returns-clause-is : goal.returns-clause-is
returns-clause-is c f h =
    let functions = c.args.functions.now in
    let fs = map fun_of functions in
    let ranks = c.args.ranks.now in
    let order = c.deref-ranked-items.result.now in
    let ranking : IsRanking (applied_graph fs) ranks = (let P : Graph → Type 0 = λ g. IsRanking g ranks in subst P c.requires.edges c.requires.falls) in
    let same : IsPermutation (ranked_from 0 ranks) order = (let P : List Ranked → Type 0 = λ rs. IsPermutation (ranked_from 0 ranks) rs in subst P (sym c.deref-ranked-items.ensures.value) c.in_ok-order.ensures.same) in
    let rising : IsNonDecreasingBy (λ (r : Ranked). r.rank) order = (let P : List Ranked → Type 0 = λ rs. IsNonDecreasingBy (λ (r : Ranked). r.rank) rs in subst P (sym c.deref-ranked-items.ensures.value) c.in_ok-order.ensures.rising) in
    let n = length-map functions fun_of in
    let deep = c.loop-ranked.deep.items in
    let all : Ready fs ranks order deep (length order) = (λ k d l. c.loop-ranked.invariant.ready k d (omega (arith, c.loop-ranked-test.false))) in
    ready_all fs ranks order (omega (arith, c.requires.few)) ranking same rising deep all f (omega arith) ∙ ap (λ (m : ℕ). chain_to fs m f) n
