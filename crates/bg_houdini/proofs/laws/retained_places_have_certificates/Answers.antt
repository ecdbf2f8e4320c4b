use Rattle.bg_houdini.proofs.Means.{place_certified}
use Rattle.bg_houdini.proofs.laws.retained_places_have_certificates.Goals as goal

pub returns : goal.returns
returns c = λ keeps budget p o t b truth there is here. place_certified keeps budget p o truth t b there is here
