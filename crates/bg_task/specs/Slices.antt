-- What of an implementation's blocks of forms counts for a place.
use Rattle.std.specs.Prelude.{◌≡◌, ℕ, Bool, List, map}
use Rattle.bg_ast.specs.Resolved as r
use Rattle.bg_ast.specs.Meaning.{meaning_of, named_of, impl_of, proc_of}
use Rattle.bg_ast.specs.Execution.{Spot}
use Rattle.bg_passive.specs.Passive.{PassiveBlock}
use Rattle.bg_places.specs.Views.{spot_of}
use Rattle.bg_formula.specs.Atoms.{view_linear}
use Rattle.bg_formed.specs.Used.{refused}
use Rattle.bg_formed.specs.Views.{blocks_of}
use Rattle.bg_slice.specs.Slices.{sliced}
use Rattle.bg_slice.specs.Marks.{marked_rows}
use Rattle.bg_linear.specs.declared.scalar.Sort.{Sort}
use Rattle.bg_atoms.specs.declared.product.Atoms.{Atoms}
use Rattle.bg_faithful.specs.Encoded.{Encoding, Encodes}
use Rattle.bg_numbered.specs.Lines.{Line}
use Rattle.bg_termed.specs.Lined.{IsLinedEncoding}
use Rattle.bg_task.specs.declared.cut.Cut.{Cut}
use Rattle.bg_task.specs.declared.cut.Whole.{Whole}
use Rattle.bg_task.specs.declared.cut.Whole.TheVariants.{Lent, Own}
use Rattle.bg_task.specs.declared.prepared.Prepared.{Prepared}
use Rattle.bg_task.specs.Prepared.{IsPrepared, encoding_over}
use Rattle.bg_task.specs.Cuts.{IsOwn, IsCut}

-- the blocks of forms of which what counts is told
abbrev pub whole_in : Whole → Atoms
whole_in (Lent a) = a.now
whole_in (Own a) = a

-- what is left of them for a target, as data, where these rows are named and these candidates guard commands
abbrev pub encoding_by : Atoms → Spot → List Bool → List Bool → Encoding
encoding_by a t rows named =
    record {
      first = a.first;
      terms = a.terms;
      rows = marked_rows rows (map view_linear a.rows.items);
      blocks = sliced t (blocks_of a.blocks);
      named = named;
    }

-- what is left for a place, as data
abbrev pub encoding_in : Cut → Encoding
encoding_in c = encoding_by (whole_in c.whole) (spot_of c.spot) c.rows.items c.named.items

-- what is left of blocks of forms for a target, by these marks of rows and candidates, encodes what they do; the same operation that leaves
-- the range counts, if any
pub record IsSliceBy (candidates : ℕ) (whole : Atoms) (t : Spot) (rows named : List Bool) : Type 0 where
  pub encodes : (sorts : List Sort) (blocks : List PassiveBlock) → Encodes sorts candidates blocks (encoding_over candidates whole) → Encodes sorts candidates blocks (encoding_by whole t rows named)
  pub cut : IsCut candidates t (encoding_over candidates whole) (encoding_by whole t rows named)
  pub refusals : refused t (encoding_by whole t rows named).blocks ≡ refused t (encoding_over candidates whole).blocks

-- blocks of forms that encode the implementation with this number behind these lines, as its own ones do, cut down to what counts for
-- the target; the same operation that leaves the range counts, if any
pub record IsSliceFor (p : r.Program) (number : ℕ) (w : Prepared) (lines : List Line) (t : Spot) (c : Cut) : Type 0 where
  pub whole : Encoding
  pub own : (h : IsPrepared p number w) → IsOwn (meaning_of p) number (impl_of (named_of p.types) h.implementation) (proc_of (named_of p.types) h.procedure) lines whole
  pub encoding : (h : IsPrepared p number w) → IsLinedEncoding (meaning_of p) number (impl_of (named_of p.types) h.implementation) (proc_of (named_of p.types) h.procedure) lines (encoding_in c)
  pub cut : IsCut (meaning_of p).candidates t whole (encoding_in c)
  pub refusals : refused t (encoding_in c).blocks ≡ refused t whole.blocks
  pub spot : spot_of c.spot ≡ t
