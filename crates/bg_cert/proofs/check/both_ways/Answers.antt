use Rattle.std.proofs.Common.{◌∙◌, ◌++◌, ◌∷◌, [], ap}
use Rattle.bg_cert.specs.declared.tour.Turn.TheVariants.{Decides}
use Rattle.bg_cert.proofs.Turns.{opened_tour, decided_both}
use Rattle.bg_cert.proofs.check.both_ways.Goals as goal

pub returns-clause-tours : goal.returns-clause-tours
returns-clause-tours c =
    let e = c.in_ok-wait.ensures in
    opened_tour c.args.tour.now _ (Decides c.args.second) (c.args.first ∷ []) c.requires.is_tour c.requires.fits_second (c.in_ok-decide.ensures.sized ∙ e.sized) e.waits (c.in_ok-decide.ensures.decided ∙ ap (λ t. t ++ (c.args.first ∷ [])) e.decided) e.known

pub returns-clause-stack : goal.returns-clause-stack
returns-clause-stack c path =
    let e = c.in_ok-wait.ensures in
    decided_both c.args.tour.now (record { trail = c.decide.new.trail; lemmas = c.wait.new.tour.lemmas; waiting = c.wait.new.tour.waiting; is_open = c.wait.new.tour.is_open }) c.args.first c.args.second c.requires.is_tour e.waits (c.in_ok-decide.ensures.decided ∙ ap (λ t. t ++ (c.args.first ∷ [])) e.decided) e.known (e.open ∙ c.requires.is_open) path
