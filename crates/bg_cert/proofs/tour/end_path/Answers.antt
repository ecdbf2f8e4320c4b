use Rattle.std.proofs.Common.{◌∙◌, ◌++◌, ◌∷◌, [], ap, sym}
use Rattle.bg_cert.specs.Tours.{decided_by, learned_by}
use Rattle.bg_cert.proofs.Turns.{closed_tour, closed_stack, taken_fits}
use Rattle.bg_cert.proofs.tour.end_path.Goals as goal

pub take_turn-requires : goal.take_turn-requires
take_turn-requires c =
    let t = taken_fits c.args.tour.now c.pop.new.self.items c.in-Some.w c.requires.is_tour c.in-Some.ensures.items in
    record { fits = rw c.undo_to.ensures.sized t }

pub returns-in_ok-take_turn-in-Some-clause-tours : goal.returns-in_ok-take_turn-in-Some-clause-tours
returns-in_ok-take_turn-in-Some-clause-tours c =
    let w = c.in-Some.w in
    let e = c.in_ok-take_turn-in-Some.ensures in
    closed_tour c.args.tour.now _ w c.requires.is_tour (c.in-Some.ensures.items ∙ ap (λ t. t ++ (w ∷ [])) (sym e.waiting)) (e.sized ∙ c.undo_to.ensures.sized) (e.decided ∙ ap (λ t. t ++ decided_by w.turn) c.undo_to.ensures.undone) (e.known ∙ ap (λ t. t ++ learned_by w.turn) c.truncate.ensures.items)

pub returns-in_ok-take_turn-in-Some-clause-stack : goal.returns-in_ok-take_turn-in-Some-clause-stack
returns-in_ok-take_turn-in-Some-clause-stack c path =
    let w = c.in-Some.w in
    let e = c.in_ok-take_turn-in-Some.ensures in
    closed_stack c.args.tour.now c.take_turn.new.tour w c.requires.is_tour (c.in-Some.ensures.items ∙ ap (λ t. t ++ (w ∷ [])) (sym e.waiting)) (e.decided ∙ ap (λ t. t ++ decided_by w.turn) c.undo_to.ensures.undone) (e.known ∙ ap (λ t. t ++ learned_by w.turn) c.truncate.ensures.items) (e.open ∙ c.requires.is_open) path
