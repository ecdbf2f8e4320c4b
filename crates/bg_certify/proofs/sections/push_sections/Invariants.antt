use Rattle.std.proofs.Common.{◌≡◌, ◌++◌, map, drop}
use Rattle.bg_text.specs.Views.{id_of}
use Rattle.bg_words.specs.Sets.{has}
use Rattle.bg_places.specs.Views.{placed_in}
use Rattle.bg_certtext.specs.Views.{section_of}
use Rattle.bg_certify.specs.Spelled.{row}
use Rattle.bg_certify.specs.Found.{certs_for, kept_after}
use Rattle.bg_certify.proofs.sections.push_sections.Given as goal

abbrev pub invariant-loop-i : goal.invariant-loop-i
invariant-loop-i l =
    let names = map id_of l.program.candidates.items in
    let set = has l.outcome.inferred.retained in
    let ks = l.outcome.inferred.kept.items in
    record {
      made :
          map section_of l.made.items ++ row names l.k l.i (certs_for set (drop l.next ks) (drop l.ordinary l.judged) (drop l.i (placed_in l.places.items)))
          ≡ map section_of l.initial.made.items ++ row names l.k 0 (certs_for set (drop l.task ks) l.judged (placed_in l.places.items));
      next : kept_after (drop l.next ks) (drop l.i (placed_in l.places.items)) ≡ kept_after (drop l.task ks) (placed_in l.places.items);
    }
