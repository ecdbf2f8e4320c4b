use Rattle.std.proofs.Common.{List, [], map, ℕ, Bor, arith, sym, ap, ◌∙◌}
use Rattle.std.proofs.lemmas.List.{map_push}
use Rattle.bg_certtext.specs.Views.{part_of}
use Rattle.bg_certtext.specs.Machine.{index_in}
use Rattle.bg_certtext.proofs.KeyValues.{values_more, values_none, values_done}
use Rattle.bg_certtext.proofs.keys.index_in.Goals as goal

pub loop-word-preserved : goal.loop-word-preserved
loop-word-preserved c =
    values_more (λ (w : Bor (List ℕ)). w.now) (record { ref_ptr = (0, 0); now = [] }) (map part_of c.loop-word.made.items) (map part_of c.push.new.self.items) c.loop-word.word-index c.args.words.now (part_of c.in-Some.part) (index_in (map (λ w. w.now) c.args.words.now)) (omega arith) (ap (map part_of) c.in_ok-push.ensures.items ∙ map_push part_of c.loop-word.made.items c.in-Some.part) (sym c.in-Some.ensures) c.loop-word.invariant

pub returns-in_default : goal.returns-in_default
returns-in_default c =
    values_none (λ (w : Bor (List ℕ)). w.now) (record { ref_ptr = (0, 0); now = [] }) (map part_of c.loop-word.made.items) c.loop-word.word-index c.args.words.now (index_in (map (λ w. w.now) c.args.words.now)) (omega arith) (sym c.in_default.ensures) c.loop-word.invariant

pub returns : goal.returns
returns c =
    values_done (λ (w : Bor (List ℕ)). w.now) (map part_of c.loop-word.made.items) c.loop-word.word-index c.args.words.now (index_in (map (λ w. w.now) c.args.words.now)) (omega arith) c.loop-word.invariant
