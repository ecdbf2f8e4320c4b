-- What is made once of each implementation.
use Rattle.std.specs.Prelude.{◌≡◌, ℕ, Bool, true, List, [], ◌∷◌, ◌++◌, Some, map, length, replicate, slice_get}
use Rattle.bg_ast.specs.Values.{Ty}
use Rattle.bg_ast.specs.Resolved as r
use Rattle.bg_ast.specs.Meaning.{meaning_of, named_of, impl_of, proc_of}
use Rattle.bg_kinds.specs.Views.{ref_in}
use Rattle.bg_formula.specs.Atoms.{view_linear}
use Rattle.bg_formed.specs.Views.{blocks_of}
use Rattle.bg_blocks.specs.Views.{block_of}
use Rattle.bg_blocks.specs.EmittedViews.{frame_of}
use Rattle.bg_blocks.specs.Whole.{AreBlocks}
use Rattle.bg_blocks.specs.declared.block.Block.{Block}
use Rattle.bg_places.specs.Placed.{Placed}
use Rattle.bg_passive.specs.Arrivals.{arrived}
use Rattle.bg_incarnate.specs.Walked.{next_in}
use Rattle.bg_incarnate.specs.Views.{passive_block_of}
use Rattle.bg_atoms.specs.declared.product.Atoms.{Atoms}
use Rattle.bg_faithful.specs.Encoded.{Encoding}
use Rattle.bg_flatten.specs.Plain.{are_mapless}
use Rattle.bg_term_table.specs.declared.table.Term as kept
use Rattle.bg_term_table.specs.Views as table
use Rattle.bg_termed.specs.Termed.{count_in, terms_in, flats_in, types_in, sorts_in}
use Rattle.bg_task.specs.Cuts.{IsOwn}
use Rattle.bg_task.specs.Targets.{targets_in}
use Rattle.bg_task.specs.declared.prepared.Prepared.{Prepared}

-- the first new incarnation at each arrival, where blocks of a program are made passive in this frame
abbrev pub firsts_of : r.Program → List r.Declared → List Block → List ℕ
firsts_of p rs bs = map next_in (arrived (meaning_of p) (frame_of p rs) (map (block_of p) bs)).arrivals

-- what atoms are, as data, where these candidates may guard commands
abbrev pub encoding_of : List Bool → Atoms → Encoding
encoding_of named a =
    record { first = a.first; terms = a.terms; rows = map view_linear a.rows.items; blocks = blocks_of a.blocks; named = named }

-- where each of so many candidates may
abbrev pub encoding_over : ℕ → Atoms → Encoding
encoding_over candidates a = encoding_of (replicate candidates true) a

-- the variables of a frame
abbrev pub frame_declared : r.Impl → r.Proc → List r.Declared
frame_declared m q = q.params ++ (q.results ++ m.locals)

-- there are no terms, and no maps: no line names what is there
abbrev pub IsBare : List kept.Term → List Ty → Type 0
IsBare ts tys = (ts ≡ []) × (are_mapless tys ≡ true)

-- the blocks of the implementation with this number, the first new incarnations at their arrivals, how many incarnations there are, its
-- terms, its flat blocks where it has terms or maps, the types of incarnations and terms, the sorts of what stands for these, the blocks of forms
-- behind no line, and the targets of incarnations and terms
pub record IsPrepared (p : r.Program) (number : ℕ) (w : Prepared) : Type 0 where
  pub implementation : r.Impl
  pub procedure : r.Proc
  pub impl_there : slice_get p.implementations number ≡ Some implementation
  pub proc_there : slice_get p.procedures implementation.procedure ≡ Some procedure
  pub frame : w.frame ≡ length (frame_declared implementation procedure)
  pub blocks : AreBlocks p number implementation procedure w.blocks.items
  pub firsts : w.firsts.items ≡ firsts_of p (frame_declared implementation procedure) w.blocks.items
  pub count : w.count ≡ count_in (meaning_of p) number (impl_of (named_of p.types) implementation) (proc_of (named_of p.types) procedure)
  pub terms : table.terms_in (meaning_of p).functions w.terms.items ≡ terms_in (meaning_of p) number (impl_of (named_of p.types) implementation) (proc_of (named_of p.types) procedure)
  pub flats : (IsBare w.terms.items (map ref_in w.kinds.items) → ⊥) → map passive_block_of w.flats.items ≡ flats_in (meaning_of p) number (impl_of (named_of p.types) implementation) (proc_of (named_of p.types) procedure)
  pub kinds : map ref_in w.kinds.items ≡ types_in (meaning_of p) number (impl_of (named_of p.types) implementation) (proc_of (named_of p.types) procedure)
  pub sorts : w.sorts.items ≡ sorts_in (meaning_of p) number (impl_of (named_of p.types) implementation) (proc_of (named_of p.types) procedure)
  pub own : IsOwn (meaning_of p) number (impl_of (named_of p.types) implementation) (proc_of (named_of p.types) procedure) [] (encoding_over (meaning_of p).candidates w.atoms)
  pub targets : w.targets.items ≡ targets_in (meaning_of p) number (impl_of (named_of p.types) implementation) (proc_of (named_of p.types) procedure)

-- each is a place of the implementation that is prepared
abbrev pub ArePrepared : r.Program → Prepared → List Placed → Type 0
ArePrepared p w [] = Unit {0}
ArePrepared p w (a ∷ xs) = IsPrepared p a.place.implementation w × ArePrepared p w xs
