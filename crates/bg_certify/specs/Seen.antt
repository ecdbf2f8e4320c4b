-- How the code's certificates of places are read.
use Rattle.bg_certify.specs.declared.found.Found.{Found}
use Rattle.bg_certify.specs.Found.{Shown}

abbrev pub seen_as : Found → Shown
seen_as f = record { lines = f.lines.now; cert = f.cert.now }
