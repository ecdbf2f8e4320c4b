-- The faults of bodies, where the types of declarations are given.
use Rattle.std.specs.Prelude.{false, List, [], ◌∷◌, ◌++◌, length, drop, Option, Some, None, slice_get}
use Rattle.bg_ast.specs.Resolved as r
use Rattle.bg_kinds.specs.Faults.{Fault}
use Rattle.bg_kinds.specs.Kinds.{Kind}
use Rattle.bg_typing.specs.Sides.{Scope, Shape, Side, matched_faults}
use Rattle.bg_typing.specs.Stmts.{clauses_faults, sts_faults}
use Rattle.bg_types.specs.Programs.{with_frame, body_faults}

abbrev pub bodies_by : Scope → List Shape → List r.Fun → List Fault
bodies_by g [] fs = []
bodies_by g (s ∷ ss) [] = []
bodies_by g (s ∷ ss) (f ∷ fs) = body_faults g s f.body ++ bodies_by g ss fs

abbrev pub specification_by : Scope → Shape → List Kind → r.Proc → List Fault
specification_by g s frame q =
    clauses_faults (with_frame g s.params) q.requires_ ++ clauses_faults (with_frame g frame) q.ensures_

abbrev pub specifications_by : Scope → List Shape → List (List Kind) → List r.Proc → List Fault
specifications_by g [] frames qs = []
specifications_by g (s ∷ ss) [] qs = []
specifications_by g (s ∷ ss) (f ∷ fs) [] = []
specifications_by g (s ∷ ss) (f ∷ fs) (q ∷ qs) = specification_by g s f q ++ specifications_by g ss fs qs

abbrev pub sides_by : List r.Declared → List Kind → List Side
sides_by [] ks = []
sides_by (d ∷ ds) [] = []
sides_by (d ∷ ds) (k ∷ ks) = record { start = d.name.pos; kind = k; is_constant = false } ∷ sides_by ds ks

abbrev pub matching_by : Option Shape → List Kind → r.Impl → List Fault
matching_by None frame m = []
matching_by (Some q) frame m =
    matched_faults m.name.pos q.params (sides_by m.params frame)
    ++ matched_faults m.name.pos q.results (sides_by m.results (drop (length m.params) frame))

abbrev pub implementation_by : Scope → List Kind → r.Impl → List Fault
implementation_by g frame m =
    matching_by (slice_get g.procedures m.procedure) frame m ++ sts_faults (with_frame g frame) m.body

abbrev pub implementations_by : Scope → List (List Kind) → List r.Impl → List Fault
implementations_by g [] ms = []
implementations_by g (f ∷ fs) [] = []
implementations_by g (f ∷ fs) (m ∷ ms) = implementation_by g f m ++ implementations_by g fs ms
