use Rattle.std.proofs.Common.{◌≡◌, ◌++◌, ℕ, List, codes, map, flat_map, length, sym, ap, ◌∙◌, subst, append_assoc}
use Rattle.std.specs.List.Sorted.{IsPermutation}
use Rattle.std.proofs.lemmas.List.{length-map}
use Rattle.bg_ast.specs.Meaning.{meaning_of, named_of, decl_of}
use Rattle.bg_places.specs.Placed.{Placed}
use Rattle.bg_places.specs.Views.{placed_in}
use Rattle.bg_rounds.specs.declared.keeper.Removal.{Removal}
use Rattle.bg_houdini.specs.declared.reason.Reason.{Reason}
use Rattle.bg_check.specs.Kept.{why_of}
use Rattle.bg_check.specs.Outcomes.{verdict_of}
use Rattle.bg_lines.specs.Lines.{line}
use Rattle.bg_told.specs.Sheets.{Outer, Sheet, sheet_of}
use Rattle.bg_told.specs.Entries.{told_gone, outer_in, sheet_in, split_verdict}
use Rattle.bg_told.specs.History.{guarded, gone_text, interpretation_text, axioms_found}
use Rattle.bg_told.proofs.Order.{entry, same_told, rising_told}
use Rattle.bg_told.proofs.Sheet.{outer_same, sheet_same, guarded_same}
use Rattle.bg_told.proofs.Fitting.{program_fits}
use Rattle.bg_told.proofs.Gone.{all_same, axioms_same}
use Rattle.bg_told.proofs.history.history_text.Goals as goal

pub returns : goal.returns
returns c = λ p h.
    let o = c.args.outcome.now in
    let refs = c.in_ok-sorted.sorted.items in
    let s = sheet_of p in
    let same : sheet_in o ≡ s = sheet_same p o h in
    let tasks : placed_in c.in_ok-tasks.tasks.items ≡ guarded p = c.in_ok-tasks.ensures ∙ ap guarded h.0 ∙ guarded_same p in
    let count : length (sheet_in o).outer.globals ≡ length (meaning_of p).globals = ap (λ (x : Sheet). length x.outer.globals) same ∙ sym (length-map p.globals (decl_of (named_of p.types))) in
    let outer : outer_in c.declared_in.result ≡ s.outer = outer_same c.declared_in.result (sheet_in o) c.declared_in.ensures.types c.declared_in.ensures.constants c.declared_in.ensures.functions c.declared_in.ensures.globals ∙ ap (λ (x : Sheet). x.outer) same in
    let n = length (meaning_of p).globals in
    let text = λ (t : Sheet) (gs : List Placed) (k : ℕ) (u : Outer). line (codes "history:") ++ (flat_map (gone_text t) (map (told_gone gs k) refs) ++ interpretation_text u (split_verdict 0 (verdict_of why_of o.axioms))) in
    let put : c.put_interpretation.new.out.items ≡ text (sheet_in o) (placed_in c.in_ok-tasks.tasks.items) (length (sheet_in o).outer.globals) (outer_in c.declared_in.result) = rw (c.in_ok-put_interpretation.ensures, c.in_ok-put_all_gone.ensures, c.deref-2.ensures.value, c.deref-3.ensures.value, c.in_ok-extend_from_slice.ensures.items, c.new-out.ensures.items) (simp append_assoc) in
    let made : c.put_interpretation.new.out.items ≡ line (codes "history:") ++ (flat_map (gone_text s) (map (told_gone (guarded p) n) refs) ++ interpretation_text s.outer (axioms_found why_of p o)) =
    put
    ∙ ap (λ t. text t (placed_in c.in_ok-tasks.tasks.items) (length (sheet_in o).outer.globals) (outer_in c.declared_in.result)) same
    ∙ ap (λ gs. text s gs (length (sheet_in o).outer.globals) (outer_in c.declared_in.result)) tasks
    ∙ ap (λ k. text s (guarded p) k (outer_in c.declared_in.result)) count
    ∙ ap (λ u. text s (guarded p) n u) outer
    ∙ ap (λ (x : List ℕ). line (codes "history:") ++ (flat_map (gone_text s) (map (told_gone (guarded p) n) refs) ++ x)) (axioms_same s.outer p o (program_fits p)) in
    record {
      entries = map (entry p) refs;
      same = same_told p o.judged.inferred.removals.items refs (subst (λ (ds : List (Removal Reason)). IsPermutation ds (map (λ d. d.now) refs)) c.deref.ensures.value c.in_ok-sorted.ensures.same);
      rising = rising_told p refs c.in_ok-sorted.ensures.rising;
      is = made ∙ ap (λ (x : List ℕ). line (codes "history:") ++ (x ++ interpretation_text s.outer (axioms_found why_of p o))) (all_same s p (program_fits p) refs);
    }
