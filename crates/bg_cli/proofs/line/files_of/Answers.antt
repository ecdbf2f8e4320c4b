use Rattle.std.proofs.Common.{sym, ap, ◌∙◌, map, codes, ℕ, List, Bor}
use Rattle.std.proofs.lemmas.Result.{IfOk-weaker}
use Rattle.clap.specs.Words.{found_of, rows_of}
use Rattle.clap.specs.Walk.{all_of}
use Rattle.clap.proofs.WalkLemmas.{raw_values-rows}
use Rattle.bg_cli.proofs.Finds.{files_here, files_none}
use Rattle.bg_cli.proofs.line.files_of.Goals as goal

pub returns-in-Some : goal.returns-in-Some
returns-in-Some c =
    let there = files_here c.get_strs.result (all_of (codes "FILE") (rows_of (found_of c.args.verify.now))) c.in-Some.files (c.get_strs.ensures ∙ raw_values-rows (found_of c.args.verify.now) (codes "FILE")) (sym c.in-Some.is) in
    IfOk-weaker c.to_vec.result _ _ (λ v h. ap (map (λ (f : Bor (List ℕ)). f.now)) (h (λ x y k. k)) ∙ there) c.to_vec.ensures.items_if_clones_equal

pub returns-in-None : goal.returns-in-None
returns-in-None c =
    ap (map (λ (f : Bor (List ℕ)). f.now)) c.new.ensures.items
    ∙ files_none c.get_strs.result (all_of (codes "FILE") (rows_of (found_of c.args.verify.now))) (c.get_strs.ensures ∙ raw_values-rows (found_of c.args.verify.now) (codes "FILE")) (sym c.in-None.is)
