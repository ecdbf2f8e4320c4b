-- The order of what terms are looked up by.
use Rattle.std.specs.declared.cmp.Ordering.{Ordering}
use Rattle.bg_term_table.specs.declared.kind.Kind.{Kind}
use Rattle.bg_term_table.specs.contracts.kind.KindOrd.TheImpl.{ghosts}

abbrev pub kind_cmp : Kind → Kind → Ordering
kind_cmp x y = ghosts.cmp x y
