use Rattle.std.proofs.Common.{◌∙◌, ◌++◌, ap}
use Rattle.bg_cert.specs.Paths.{denials}
use Rattle.bg_cert.specs.Certs.{lemma_of}
use Rattle.bg_cert.specs.declared.tour.Turn.TheVariants.{Learns}
use Rattle.bg_cert.proofs.Tells.{map_ok}
use Rattle.bg_cert.proofs.Turns.{opened_tour, learned_one}
use Rattle.bg_cert.proofs.check.learn.Goals as goal

pub returns-clause-tours : goal.returns-clause-tours
returns-clause-tours c =
    let e = c.in_ok-wait.ensures in
    let more = denials (lemma_of c.args.atoms c.args.lemma.now) in
    map_ok _ _ c.deny_all.result (λ yes d t. opened_tour c.args.tour.now _ (Learns c.args.k) more c.requires.is_tour tt (c.deny_all.ensures.sized ∙ e.sized) e.waits (d t ∙ ap (λ u. u ++ more) e.decided) e.known) c.deny_all.ensures.denied

pub returns-clause-stack : goal.returns-clause-stack
returns-clause-stack c =
    let e = c.in_ok-wait.ensures in
    let more = denials (lemma_of c.args.atoms c.args.lemma.now) in
    map_ok _ _ c.deny_all.result (λ yes d t path. learned_one c.args.tour.now (record { trail = c.deny_all.new.trail; lemmas = c.wait.new.tour.lemmas; waiting = c.wait.new.tour.waiting; is_open = c.wait.new.tour.is_open }) more c.args.k c.requires.is_tour e.waits (d t ∙ ap (λ u. u ++ more) e.decided) e.known (e.open ∙ c.requires.is_open) path) c.deny_all.ensures.denied
