use Rattle.bg_houdini.proofs.Means.{place_kept}
use Rattle.bg_houdini.proofs.laws.retained_places_keep_certificates.Goals as goal

pub returns : goal.returns
returns c = λ budget p o t b truth there is here. place_kept budget p o truth t b there is here
