use Rattle.bg_terms.proofs.Flattened.{flat_means}
use Rattle.bg_terms.proofs.laws.flat_expressions_say_the_same.Goals as goal

pub returns : goal.returns
returns c i n depth fs ts w values e x none model first h = flat_means i n depth fs none ts w values model first e x h
