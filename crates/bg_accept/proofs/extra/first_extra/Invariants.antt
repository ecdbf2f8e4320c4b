use Rattle.std.proofs.Common.{◌≡◌, map, drop}
use Rattle.std.specs.Prelude.{None}
use Rattle.bg_text.specs.Views.{option_of}
use Rattle.bg_cert.specs.Walks.{has}
use Rattle.bg_certtext.specs.Views.{section_of}
use Rattle.bg_accept.specs.Sections.{extra_behind}
use Rattle.bg_accept.specs.Tables.{referred, is_required_in}
use Rattle.bg_accept.proofs.extra.first_extra.Given as goal

abbrev pub invariant-loop-section : goal.invariant-loop-section
invariant-loop-section l =
    extra_behind (is_required_in (has l.set) l.all) (option_of referred l.before) (map section_of (drop l.section-index l.sections))
    ≡ extra_behind (is_required_in (has l.set) l.all) None (map section_of l.sections)
