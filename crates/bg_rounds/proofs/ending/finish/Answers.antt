use Rattle.std.proofs.Common.{◌≡◌, ℕ, ◌<◌, ◌↔◌, false, List, map, sym, ap, ◌∙◌, subst}
use Rattle.bg_words.specs.declared.machine.Entry.{Entry}
use Rattle.bg_words.specs.Sets.{Numbers, has, IsSubset}
use Rattle.bg_words.specs.History.{Dropped, Ordered}
use Rattle.bg_rounds.specs.Removals.{entry_of}
use Rattle.bg_rounds.proofs.Keeping.{finished_set}
use Rattle.bg_rounds.proofs.ending.finish.Goals as goal

pub returns : goal.returns
returns g c = let r = c.requires in let e = c.finish.ensures in let n = c.args.shared.cands in let d = c.args.keeper in
    let same : c.finish.new.set ≡ d.set = finished_set c.args.shared d c.finish.new.set r.sits r.shows e.count e.retained e.missing in record {
      count = e.count ∙ (r.sits.count ∙ r.cands);
      ordered = subst (λ (m : ℕ). Ordered m (map entry_of d.removals.items)) r.cands (subst (λ (es : List Entry). Ordered n es) (sym r.sits.entries) e.ordered);
      right = r.right;
      kept = r.shelved;
      retained = λ x lt. subst (λ (es : List Entry). (has c.finish.new.set x ≡ false) ↔ Dropped es x) (sym r.sits.entries) (e.retained x (subst (λ (m : ℕ). x < m) (sym r.cands) lt));
      certificates = λ t lt here. let h = r.closed t lt (ap (λ (s : Numbers). has s (g.C.Checker.cand c.args.checker.now t)) (sym same) ∙ here) in
          (h.0, h.1, r.shelved.right t h.0 h.1, subst (λ (s : Numbers). IsSubset h.0.used s) (sym same) h.2);
    }
