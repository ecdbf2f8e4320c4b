-- What a search that may keep certificates claims.
use Rattle.std.specs.Prelude.{ℕ, ℤ, Bool, true, false, Some, None}
use Rattle.bg_formula.specs.Formulas.{Formula}
use Rattle.bg_cert.specs.Certs.{Accepts, cert_of}
use Rattle.bg_cert.specs.Walks.{no_instance}
use Rattle.bg_cert.specs.Written.{IsClosed}
use Rattle.bg_tree.specs.declared.outcome.Budget.{Budget}
use Rattle.bg_tree.specs.Ends.{IsLeaf}
use Rattle.bg_tree.specs.Trees.{IsCause}
use Rattle.bg_search.specs.declared.checked.Searched.{Searched}
use Rattle.bg_search.specs.declared.checked.Searched.TheVariants.{Closed, Leaf, Unknown}

-- what each answer of the search claims: where its certificate isn't kept, that there is one
abbrev pub IsSearched : (ℕ → ℤ) → Formula → (ℕ → Bool) → Budget → Searched → Type 0
IsSearched targets f set budget (Closed (Some cert)) = Accepts f set no_instance (cert_of cert)
IsSearched targets f set budget (Closed None) = IsClosed f set
IsSearched targets f set budget (Leaf leaf) = IsLeaf targets f set leaf
IsSearched targets f set budget (Unknown why) = IsCause targets f set budget why

-- the certificate is there, where the answer claims one
abbrev pub has_cert : Searched → Bool
has_cert (Closed (Some cert)) = true
has_cert (Closed None) = false
has_cert (Leaf leaf) = true
has_cert (Unknown why) = true
