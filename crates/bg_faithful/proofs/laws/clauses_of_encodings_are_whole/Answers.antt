use Rattle.bg_faithful.proofs.laws.clauses_of_encodings_are_whole.Goals as goal

pub returns : goal.returns
returns c sorts candidates blocks a target f is made =
    c.atoms_of_clauses.ensures.whole a.first a.terms a.named a.rows target a.blocks f made is.below is.inside
