-- How the code's record of use is read.
use Rattle.bg_formed.specs.declared.used.Use as code
use Rattle.bg_formed.specs.Used.{Use}

abbrev pub use_of : code.Use → Use
use_of u = record { reached = u.reached; refusal = u.refusal }
