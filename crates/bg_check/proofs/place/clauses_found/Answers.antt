use Rattle.std.proofs.Common.{◌≡◌, true, subst, ℤ, List, ◌∙◌}
use Rattle.std.proofs.lemmas.Result.{IfOk-weaker}
use Rattle.bg_tree.specs.Ends.{IsLeaf}
use Rattle.bg_point.specs.Points.{target_of}
use Rattle.bg_text.specs.Views.{option_of}
use Rattle.bg_ast.specs.Meaning.{meaning_of}
use Rattle.bg_ast.specs.Views.{program_of, candidate_of}
use Rattle.bg_cert.specs.Walks.{has}
use Rattle.bg_formula.specs.Formulas.{formula_of}
use Rattle.bg_places.specs.Views.{placed_of, spot_of}
use Rattle.bg_tree.specs.Trees.{IsCause}
use Rattle.bg_search.specs.Searched.{IsSearched, has_cert}
use Rattle.bg_term_table.specs.Lines.{lines_of}
use Rattle.bg_termed.specs.Lined.{lined_sorts, lined_behind}
use Rattle.bg_task.specs.Slices.{encoding_in}
use Rattle.bg_task.proofs.Prepares.{impl, proc, clauses_here}
use Rattle.bg_check.proofs.Closing.{closed_shown}
use Rattle.bg_check.proofs.Placing.{at_left}
use Rattle.bg_check.proofs.place.clauses_found.Goals as goal

pub search-requires : goal.search-requires
search-requires c =
    let p = program_of c.args.question.program.now in
    let n = c.args.question.place.now.implementation in
    let w = c.args.question.prepared.now in
    let h = c.requires.prepared in
    let es = lines_of c.args.lines.now in
    c.clauses_of_encodings_are_whole.ensures (lined_sorts (meaning_of p) n (impl p n w h) (proc p n w h) es) (meaning_of p).candidates (lined_behind (meaning_of p) n (impl p n w h) (proc p n w h) es) (encoding_in c.args.cut.now) (spot_of c.args.question.place.now.spot) (formula_of c.args.f.now) (c.requires.slice.encoding h) c.requires.clauses

pub returns-in-Closed-clause-kept : goal.returns-in-Closed-clause-kept
returns-in-Closed-clause-kept c keeps =
    subst (λ s. has_cert s ≡ true) c.in-Closed.is (c.in_ok-cert.ensures.kept keeps)

pub returns-in-Closed-clause-found : goal.returns-in-Closed-clause-found
returns-in-Closed-clause-found c =
    let p = program_of c.args.question.program.now in
    let n = c.args.question.place.now.implementation in
    let w = c.args.question.prepared.now in
    let es = lines_of c.args.lines.now in
    let f = formula_of c.args.f.now in
    let set = has c.args.question.set.now in
    let is = clauses_here p n w c.requires.prepared es (spot_of c.args.question.place.now.spot) (option_of candidate_of c.args.question.place.now.candidate) c.args.cut.now f c.requires.slice c.requires.clauses in
    closed_shown (meaning_of p) set (placed_of c.args.question.place.now).place es f is (c.requires.there c.requires.prepared) (target_of c.deref.result.now) c.args.left.budget c.in-Closed.cert
    (subst (IsSearched (target_of c.deref.result.now) f set c.args.left.budget) c.in-Closed.is c.in_ok-cert.ensures.searched)

pub returns-in-Unknown-clause-found : goal.returns-in-Unknown-clause-found
returns-in-Unknown-clause-found c =
    record {
      formula = formula_of c.args.f.now;
      is = clauses_here (program_of c.args.question.program.now) c.args.question.place.now.implementation c.args.question.prepared.now c.requires.prepared (lines_of c.args.lines.now) (spot_of c.args.question.place.now.spot) (option_of candidate_of c.args.question.place.now.candidate) c.args.cut.now (formula_of c.args.f.now) c.requires.slice c.requires.clauses;
      cause = subst (λ (zs : List ℤ). IsCause (target_of zs) (formula_of c.args.f.now) (has c.args.question.set.now) c.args.left.budget c.in-Unknown.why) (c.deref.ensures.value ∙ c.requires.prepared.targets) (subst (IsSearched (target_of c.deref.result.now) (formula_of c.args.f.now) (has c.args.question.set.now) c.args.left.budget) c.in-Unknown.is c.in_ok-cert.ensures.searched);
    }

pub leaf_found-requires-clause-leaf : goal.leaf_found-requires-clause-leaf
leaf_found-requires-clause-leaf c =
    subst (λ (zs : List ℤ). IsLeaf (target_of zs) (formula_of c.args.f.now) (has c.args.question.set.now) c.in-Leaf.leaf) c.deref.ensures.value (subst (IsSearched (target_of c.deref.result.now) (formula_of c.args.f.now) (has c.args.question.set.now) c.args.left.budget) c.in-Leaf.is c.in_ok-cert.ensures.searched)

pub returns-in-Leaf-clause-kept : goal.returns-in-Leaf-clause-kept
returns-in-Leaf-clause-kept c =
    IfOk-weaker c.leaf_found.result _ _ (λ found h keeps. h) c.leaf_found.ensures.kept

pub returns-in-Leaf-clause-found : goal.returns-in-Leaf-clause-found
returns-in-Leaf-clause-found c =
    at_left c.args.left.budget (meaning_of (program_of c.args.question.program.now)) (has c.args.question.set.now) (placed_of c.args.question.place.now).place (lines_of c.args.lines.now) c.leaf_found.result c.leaf_found.ensures.found
