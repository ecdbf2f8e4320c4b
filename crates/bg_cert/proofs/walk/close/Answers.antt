use Rattle.std.proofs.Common.{◌∙◌, ◌++◌, ◌∷◌, [], ap}
use Rattle.bg_cert.proofs.Stacks.{closed_walk, closed_stack, taken_fits}
use Rattle.bg_cert.proofs.walk.close.Goals as goal

pub decide-requires : goal.decide-requires
decide-requires c =
    let t = taken_fits c.args.walk.now c.pop.new.self.items c.in-Some.w c.requires.is_walk c.in-Some.ensures.items in
    rw c.undo_to.ensures.sized t

pub returns-in_ok-decide-in-Some-clause-walks : goal.returns-in_ok-decide-in-Some-clause-walks
returns-in_ok-decide-in-Some-clause-walks c =
    closed_walk c.args.walk.now _ c.in-Some.w c.requires.is_walk c.in-Some.ensures.items (c.in_ok-decide-in-Some.ensures.sized ∙ c.undo_to.ensures.sized) (c.in_ok-decide-in-Some.ensures.decided ∙ ap (λ t. t ++ (c.in-Some.w.last ∷ [])) c.undo_to.ensures.undone)

pub returns-in_ok-decide-in-Some-clause-stack : goal.returns-in_ok-decide-in-Some-clause-stack
returns-in_ok-decide-in-Some-clause-stack c f =
    closed_stack c.args.walk.now (record { trail = c.decide.new.trail; waiting = c.pop.new.self; is_open = c.args.walk.now.is_open }) c.in-Some.w c.requires.is_walk c.in-Some.ensures.items (c.in_ok-decide-in-Some.ensures.decided ∙ ap (λ t. t ++ (c.in-Some.w.last ∷ [])) c.undo_to.ensures.undone) c.requires.is_open f
