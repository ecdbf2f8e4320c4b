-- What is made of an implementation of a typed program.
use Rattle.std.proofs.Common.{◌≡◌, ℕ, zero, suc, ◌<◌, List, [], ◌∷◌, ◌++◌, length, map, Option, Some, None, Err, refl, sym, ap, ◌∙◌, subst, arith}
use Rattle.std.specs.Prelude.{ℤ, Bool, true, ◌+◌, nat_lt, replicate, slice_get, option_map, All, IfSome}
use Rattle.std.proofs.lemmas.List.Elements.{All-head, All-tail}
use Rattle.std.proofs.lemmas.Option.{slice_get-map}
use Rattle.std.proofs.lemmas.List.{length-map, map-append}
use Rattle.bg_ast.specs.Values.{Ty}
use Rattle.bg_ast.specs.Syntax as s
use Rattle.bg_ast.specs.Resolved as r
use Rattle.bg_ast.specs.Meaning.{meaning_of, named_of, decl_of, impl_of, proc_of}
use Rattle.bg_ast.specs.Execution.{Spot}
use Rattle.bg_base.specs.declared.exact.OutOfRange.{OutOfRange}
use Rattle.bg_sense.specs.Eval.{Scope}
use Rattle.bg_formula.specs.Atoms.{AtomOf}
use Rattle.bg_formula.specs.Formulas.{Formula, rows_below}
use Rattle.bg_formula.specs.Meaning.{AtomsAgree}
use Rattle.bg_formed.specs.Agree.{AreRows, RowsAgree}
use Rattle.bg_formed.specs.Said.{SaidBlocks}
use Rattle.bg_formed.specs.Views.{blocks_of}
use Rattle.bg_formed.specs.Formed.{FormBlock, blocks_below}
use Rattle.bg_formed.specs.Used.{refused}
use Rattle.bg_clause.specs.Whole.{formula, clauses_by, clauses_of}
use Rattle.bg_linear.specs.Sorts.{HoldScalars}
use Rattle.bg_atoms.specs.Ranks.{rank, truths}
use Rattle.bg_atoms.specs.Made.{rows_in}
use Rattle.bg_atoms.specs.declared.product.Atoms.{Atoms}
use Rattle.bg_atoms.specs.Listed.{rows_of}
use Rattle.bg_atoms.specs.Encoded.{blocks_over}
use Rattle.bg_sense.specs.Variables.{procedure_of}
use Rattle.bg_sense.specs.Typed.{IsTypedImpl, IsTyped}
use Rattle.bg_sense.specs.Types.{types_of}
use Rattle.bg_kinds.specs.declared.kinds.ValueType.{ValueType}
use Rattle.bg_kinds.specs.Views.{ref_in}
use Rattle.bg_flow.specs.Core.{frame_decls}
use Rattle.bg_flow.specs.Blocks as f
use Rattle.bg_passive.specs.Passive.{PassiveBlock}
use Rattle.bg_passive.specs.Incarnations.{passives, incarnations}
use Rattle.bg_passive.specs.Arrivals.{arrived}
use Rattle.bg_blocks.specs.Views.{block_of}
use Rattle.bg_blocks.specs.Whole.{AreBlocks}
use Rattle.bg_blocks.specs.declared.block.Block.{Block}
use Rattle.bg_blocks.specs.EmittedViews.{frame_of}
use Rattle.bg_incarnate.specs.Even.{BlocksEven}
use Rattle.bg_incarnate.specs.Views.{passive_block_of, incarnations_of, incarnations_at}
use Rattle.bg_incarnate.specs.declared.blocks.Passive.{Passive}
use Rattle.bg_incarnate.specs.Walked.{next_in}
use Rattle.bg_block_types.specs.Typed.{blocks_in, arrivals_in, incarnations_in, passives_in}
use Rattle.bg_fits.specs.Valued.{is_over_values}
use Rattle.bg_linear.specs.declared.scalar.Sort.{Sort}
use Rattle.bg_sorts.specs.Passive.{ArrivesAt}
use Rattle.bg_atoms.specs.Sorted.{blocks_sorted}
use Rattle.bg_faithful.specs.Encoded.{Encodes}
use Rattle.bg_numbered.specs.Lines.{Line}
use Rattle.bg_flat.specs.Blocks.{in_front}
use Rattle.bg_termed.specs.Termed.{count_in}
use Rattle.bg_termed.specs.Lined.{lined_behind, lined_sorts}
use Rattle.bg_task.specs.declared.cut.Cut.{Cut}
use Rattle.bg_task.specs.declared.prepared.Prepared.{Prepared}
use Rattle.bg_task.specs.Prepared.{IsPrepared, encoding_over, frame_declared, firsts_of}
use Rattle.bg_task.specs.Certified.{HasOutside}
use Rattle.bg_task.specs.Cuts.{IsOwn, HasOwnClauses}
use Rattle.bg_task.specs.Slices.{IsSliceFor, encoding_in}
use Rattle.bg_task.specs.Made.{ClausesOf}
use Rattle.bg_task.proofs.LawTypes.{EvenLaw, SortLaw}
use Rattle.bg_task.proofs.Slices.{each_before}

all_at : {A : Type 0} (P : A → Type 0) (xs : List A) (k : ℕ) (x : A) → All P xs → slice_get xs k ≡ Some x → P x
all_at P [] k x h e = absurd (let bad : ⊥ = cc in bad)
all_at P (y ∷ ys) zero x h e = let same : y ≡ x = cc in subst P same (All-head P y ys h)
all_at P (y ∷ ys) (suc k) x h e = all_at P ys k x (All-tail P y ys h) e

-- an implementation and its procedure
pub record There (p : r.Program) (n : ℕ) : Type 0 where
  pub implementation : r.Impl
  pub procedure : r.Proc
  pub impl_there : slice_get p.implementations n ≡ Some implementation
  pub proc_there : slice_get p.procedures implementation.procedure ≡ Some procedure

get_some : {A : Type 0} (xs : List A) (n : ℕ) → n < length xs → (x : A) × (slice_get xs n ≡ Some x)
get_some [] n l = absurd (omega arith)
get_some (x ∷ xs) zero l = (x, refl)
get_some (x ∷ xs) (suc n) l = get_some xs n (omega arith)

mapped : {A B : Type 0} (g : A → B) (o : Option A) (b : B) → option_map g o ≡ Some b → (a : A) × (o ≡ Some a)
mapped g None b e = absurd (let bad : ⊥ = cc in bad)
mapped g (Some a) b e = (a, refl)

pub there : (p : r.Program) (n : ℕ) → n < length p.implementations → IsTyped (meaning_of p) → There p n
there p n l t =
    let named = named_of p.types in
    let x = get_some p.implementations n l in
    let e = slice_get-map (impl_of named) p.implementations n ∙ ap (option_map (impl_of named)) x.1 in
    let one = all_at (IsTypedImpl (meaning_of p)) (meaning_of p).implementations n (impl_of named x.0) t.implementations e in
    let y = mapped (proc_of named) (slice_get p.procedures x.0.procedure) one.procedure (sym (slice_get-map (proc_of named) p.procedures x.0.procedure) ∙ one.is_there) in
    record { implementation = x.0; procedure = y.0; impl_there = x.1; proc_there = y.1 }

-- blocks of a program made passive, in this frame
pub record IsPassive (p : r.Program) (rs : List r.Declared) (bs : List Block) (w : Passive) : Type 0 where
  pub blocks : map passive_block_of w.blocks.items ≡ passives (arrived (meaning_of p) (frame_of p rs) (map (block_of p) bs)).arrivals (map (block_of p) bs)
  pub firsts : w.firsts.items ≡ firsts_of p rs bs

-- what was prepared, on the meaning of the program
module _ (p : r.Program) (n : ℕ) (w : Prepared) (h : IsPrepared p n w) where
  abbrev named : ℕ → Ty
  named = named_of p.types

  abbrev pub impl : s.Impl
  impl = impl_of named h.implementation

  abbrev pub proc : s.Proc
  proc = proc_of named h.procedure

  pub impl_at : slice_get (meaning_of p).implementations n ≡ Some impl
  impl_at = slice_get-map (impl_of named) p.implementations n ∙ ap (option_map (impl_of named)) h.impl_there

  pub proc_at : procedure_of (meaning_of p) impl.procedure ≡ Some proc
  proc_at =
      slice_get-map (proc_of named) p.procedures h.implementation.procedure ∙ ap (option_map (proc_of named)) h.proc_there

  abbrev rs : List r.Declared
  rs = frame_declared h.implementation h.procedure

  frame_is : frame_of p rs ≡ frame_decls impl proc
  frame_is =
      map-append (decl_of named) h.procedure.params (h.procedure.results ++ h.implementation.locals)
      ∙ ap (λ l. map (decl_of named) h.procedure.params ++ l) (map-append (decl_of named) h.procedure.results h.implementation.locals)

  pub frame_long : length (frame_decls impl proc) ≡ w.frame
  frame_long = sym (ap (λ l. length l) frame_is) ∙ (length-map rs (decl_of named) ∙ sym h.frame)

  abbrev bs : List f.Block
  bs = map (block_of p) w.blocks.items

  pub blocks_are : bs ≡ blocks_in (meaning_of p) n impl proc
  blocks_are = h.blocks

  pub firsts_are : w.firsts.items ≡ map next_in (arrivals_in (meaning_of p) n impl proc).arrivals
  firsts_are =
      h.firsts
      ∙ (ap (λ ds. map next_in (arrived (meaning_of p) ds bs).arrivals) frame_is
      ∙ ap (λ l. map next_in (arrived (meaning_of p) (frame_decls impl proc) l).arrivals) blocks_are)

  -- an operation that leaves the range, of those that count for a place
  pub outside_here : (es : List Line) (spot : Spot) (candidate : Option ℕ) (x : Cut) (o : OutOfRange) (named : List Bool) (rows : List AtomOf) (forms : List FormBlock) → IsSliceFor p n w es spot x → forms ≡ (encoding_in x).blocks → clauses_of (encoding_in x).first named (encoding_in x).terms rows spot forms ≡ Err o → HasOutside (meaning_of p) (record { implementation = n; spot = spot; candidate = candidate }) es o
  outside_here es spot candidate x o named rows forms cut b e =
      record {
        implementation = impl;
        procedure = proc;
        is_there = impl_at;
        is_its = proc_at;
        encoding = cut.whole;
        is_own = cut.own h;
        is_refused = sym cut.refusals ∙ (ap (refused spot) (sym b) ∙ by (refused spot forms) refl e);
      }
    where
      by : (y : Option OutOfRange) → refused spot forms ≡ y → clauses_by y (formula (encoding_in x).first named (encoding_in x).terms rows spot forms) ≡ Err o → refused spot forms ≡ Some o
      by None g k = absurd (let bad : ⊥ = cc in bad)
      by (Some y) g k = let same : y ≡ o = cc in g ∙ ap Some same

  -- the clauses of a place
  abbrev pub clauses_here : (es : List Line) (spot : Spot) (candidate : Option ℕ) (x : Cut) (f : Formula) → IsSliceFor p n w es spot x → ClausesOf x (record { implementation = n; spot = spot; candidate = candidate }) f → HasOwnClauses (meaning_of p) (record { implementation = n; spot = spot; candidate = candidate }) es f
  clauses_here es spot candidate x f cut e =
      record {
        clauses = record { implementation = impl; procedure = proc; is_there = impl_at; is_its = proc_at; encoding = encoding_in x; is_encoding = cut.encoding h; clauses = e };
        whole = cut.whole;
        is_own = cut.own h;
        is_cut = cut.cut;
      }

-- ---- what is made of passive blocks

replicated : (n : ℕ) → length (replicate n true) ≡ n
replicated zero = refl
replicated (suc n) = ap (λ k. suc k) (replicated n)

-- what is answered encodes the blocks
pub encodes_some : (ss : List Sort) (k : ℕ) (bs : List PassiveBlock) (o : Option Atoms) (a : Atoms) → o ≡ Some a → IfSome o (λ x. x.first ≡ truths ss) → IfSome o (λ x. x.terms ≡ length ss) → IfSome o (λ x. (numbers : ℕ → ℤ) (truth : ℕ → Bool) (c : Scope) → RowsAgree numbers truth x.first (rows_in x.rows) → HoldScalars ss numbers (λ j. truth (rank ss j)) c.frame → SaidBlocks truth c bs (blocks_of x.blocks)) → IfSome o (λ x. blocks_below (x.first + length (rows_in x.rows)) (λ b. nat_lt b k) (blocks_of x.blocks) ≡ true) → IfSome o (λ x. AreRows (rows_in x.rows)) → IfSome o (λ x. AtomsAgree (rows_in x.rows)) → IfSome o (λ x. rows_below x.terms (rows_in x.rows) ≡ true) → Encodes ss k bs (encoding_over k a)
encodes_some ss k bs None a e first terms said below rows denials inside = absurd (let bad : ⊥ = cc in bad)
encodes_some ss k bs (Some x) a e first terms said below rows denials inside =
    let same : x ≡ a = cc in
    let each = subst (λ (these : ℕ → Bool). blocks_below (x.first + length (rows_in x.rows)) these (blocks_of x.blocks) ≡ true) (sym (each_before k)) below in
    subst (λ y. Encodes ss k bs (encoding_over k y)) same (record { first = first; terms = terms; said = said; below = each; count = replicated k; rows = rows; denials = denials; inside = inside })

pub exact_some : (ss : List Sort) (bs : List PassiveBlock) (o : Option Atoms) (a : Atoms) → o ≡ Some a → IfSome o (λ x. blocks_of x.blocks ≡ blocks_over ss x.first (rows_in x.rows) bs) → blocks_of a.blocks ≡ blocks_over ss a.first (rows_in a.rows) bs
exact_some ss bs None a e h = absurd (let bad : ⊥ = cc in bad)
exact_some ss bs (Some x) a e h = let same : x ≡ a = cc in subst (λ y. blocks_of y.blocks ≡ blocks_over ss y.first (rows_in y.rows) bs) same h

pub listed_some : (ss : List Sort) (bs : List PassiveBlock) (o : Option Atoms) (a : Atoms) → o ≡ Some a → IfSome o (λ x. rows_in x.rows ≡ rows_of ss bs) → rows_in a.rows ≡ rows_of ss bs
listed_some ss bs None a e h = absurd (let bad : ⊥ = cc in bad)
listed_some ss bs (Some x) a e h = let same : x ≡ a = cc in subst (λ y. rows_in y.rows ≡ rows_of ss bs) same h

-- with the sorts, the number of candidates and the passive blocks of the implementation
pub own_here : (p : s.Prog) (n : ℕ) (m : s.Impl) (q : s.Proc) (es : List Line) (ss : List Sort) (k : ℕ) (bs : List PassiveBlock) (a : Atoms) → ss ≡ lined_sorts p n m q es → k ≡ p.candidates → bs ≡ lined_behind p n m q es → Encodes ss k bs (encoding_over k a) → blocks_of a.blocks ≡ blocks_over ss a.first (rows_in a.rows) bs → rows_in a.rows ≡ rows_of ss bs → IsOwn p n m q es (encoding_over p.candidates a)
own_here p n m q es ss k bs a sorts count passives encodes exact listed =
    let x = subst (λ l. Encodes l k bs (encoding_over k a)) sorts encodes in
    let y = subst (λ c. Encodes (lined_sorts p n m q es) c bs (encoding_over c a)) count x in
    record {
      encodes = subst (λ l. Encodes (lined_sorts p n m q es) p.candidates l (encoding_over p.candidates a)) passives y;
      blocks = exact ∙ ap (λ l. blocks_over l a.first (rows_in a.rows) bs) sorts ∙ ap (blocks_over (lined_sorts p n m q es) a.first (rows_in a.rows)) passives;
      named = refl;
      rows = listed ∙ ap (λ l. rows_of l bs) sorts ∙ ap (rows_of (lined_sorts p n m q es)) passives;
    }

-- sorts of the blocks behind lines
pub sorted_own : SortLaw → (p : s.Prog) (n : ℕ) (m : s.Impl) (q : s.Proc) (es : List Line) → IsTyped p → is_over_values p ≡ true → slice_get p.implementations n ≡ Some m → procedure_of p m.procedure ≡ Some q → (ss : List Sort) (k : ℕ) (bs : List PassiveBlock) → ss ≡ lined_sorts p n m q es → k ≡ p.candidates → bs ≡ lined_behind p n m q es → blocks_sorted ss k bs ≡ true
sorted_own law p n m q es t o im pr ss k bs sorts count passives =
    ap (λ x. blocks_sorted x k bs) sorts
    ∙ (ap (λ x. blocks_sorted (lined_sorts p n m q es) x bs) count
    ∙ (ap (λ x. blocks_sorted (lined_sorts p n m q es) p.candidates x) passives ∙ law p n m q t o im pr es))

pub none_in_front : (xs : List PassiveBlock) → in_front [] xs ≡ xs
none_in_front [] = refl
none_in_front (x ∷ xs) = refl

-- ---- how an implementation is prepared

types_many : (ds : List s.Decl) → length (types_of ds) ≡ length ds
types_many [] = refl
types_many (d ∷ ds) = ap (λ n. suc n) (types_many ds)

module _ (p : r.Program) (n : ℕ) (m : r.Impl) (q : r.Proc) (im : slice_get p.implementations n ≡ Some m) (pr : slice_get p.procedures m.procedure ≡ Some q) where
  abbrev types : ℕ → Ty
  types = named_of p.types

  abbrev P : s.Prog
  P = meaning_of p

  abbrev M : s.Impl
  M = impl_of types m

  abbrev Q : s.Proc
  Q = proc_of types q

  abbrev declared : List r.Declared
  declared = frame_declared m q

  pub impl_is : slice_get P.implementations n ≡ Some M
  impl_is = slice_get-map (impl_of types) p.implementations n ∙ ap (option_map (impl_of types)) im

  pub proc_is : procedure_of P M.procedure ≡ Some Q
  proc_is = slice_get-map (proc_of types) p.procedures m.procedure ∙ ap (option_map (proc_of types)) pr

  pub frame_meant : frame_of p declared ≡ frame_decls M Q
  frame_meant =
      map-append (decl_of types) q.params (q.results ++ m.locals)
      ∙ ap (λ l. map (decl_of types) q.params ++ l) (map-append (decl_of types) q.results m.locals)

  -- as many types as variables
  pub many : (kinds : List ValueType) → map ref_in kinds ≡ types_of (frame_of p declared) → length declared ≡ length kinds
  many kinds e =
      sym (sym (length-map kinds ref_in) ∙ (ap (λ l. length l) e ∙ (types_many (frame_of p declared) ∙ length-map declared (decl_of types))))

  module _ (evens : EvenLaw) (t : IsTyped P) (o : is_over_values P ≡ true) (bs : List Block) (made : AreBlocks p n m q bs) where
    pub even : BlocksEven (map (block_of p) bs)
    even = subst BlocksEven (sym made) (evens P n M Q t o impl_is proc_is)

    -- the types of the incarnations
    pub types_are : (tys : List Ty) → tys ≡ incarnations P (frame_of p declared) (arrived P (frame_of p declared) (map (block_of p) bs)).made → tys ≡ incarnations_in P n M Q
    types_are tys e =
        e
        ∙ (ap (λ ds. incarnations P ds (arrived P ds (map (block_of p) bs)).made) frame_meant
        ∙ ap (λ l. incarnations P (frame_decls M Q) (arrived P (frame_decls M Q) l).made) made)

    -- the passive blocks
    pub passives_made : (w : Passive) → IsPassive p declared bs w → map passive_block_of w.blocks.items ≡ passives_in P n M Q
    passives_made w h =
        h.blocks
        ∙ (ap (λ ds. passives (arrived P ds (map (block_of p) bs)).arrivals (map (block_of p) bs)) frame_meant
        ∙ ap (λ l. passives (arrived P (frame_decls M Q) l).arrivals l) made)

    -- how many incarnations there are
    pub count_made : (k : ℕ) → k ≡ length (incarnations P (frame_of p declared) (arrived P (frame_of p declared) (map (block_of p) bs)).made) → k ≡ count_in P n M Q
    count_made k e =
        e
        ∙ (ap (λ ds. length (incarnations P ds (arrived P ds (map (block_of p) bs)).made)) frame_meant
        ∙ ap (λ l. length (incarnations P (frame_decls M Q) (arrived P (frame_decls M Q) l).made)) made)

    -- what is said of the passive blocks of these blocks, where the frame has so many variables
    abbrev pub PassiveSays : Passive → ℕ → List Block → Type 0
    PassiveSays w k l =
        (rs : List r.Declared) → length rs ≡ k →
        (map incarnations_of w.arrivals.items ≡ map incarnations_at (arrived P (frame_of p rs) (map (block_of p) l)).arrivals)
        × ((BlocksEven (map (block_of p) l) → w.count ≡ length (incarnations P (frame_of p rs) (arrived P (frame_of p rs) (map (block_of p) l)).made))
        × IsPassive p rs l w)

    abbrev pub TypesSay : List Ty → Passive → List Block → List Ty → Type 0
    TypesSay frame w l tys =
        (rs : List r.Declared) → frame ≡ types_of (frame_of p rs) → ArrivesAt p rs l w → BlocksEven (map (block_of p) l) → tys ≡ incarnations P (frame_of p rs) (arrived P (frame_of p rs) (map (block_of p) l)).made

    -- the passive blocks and the types that are made
    pub made_here : (frame f1 : List ValueType) (k : ℕ) (l1 l2 : List Block) (w : Passive) (tys : List Ty) → map ref_in frame ≡ types_of (frame_of p declared) → f1 ≡ frame → k ≡ length frame → l1 ≡ bs → l2 ≡ bs → PassiveSays w k l1 → TypesSay (map ref_in f1) w l2 tys → IsPassive p declared bs w × ((tys ≡ incarnations_in P n M Q) × (w.count ≡ count_in P n M Q))
    made_here frame f1 k l1 l2 w tys fe f1e ke e1 e2 passive says =
        let h = subst (PassiveSays w k) e1 passive declared (many frame fe ∙ sym ke) in
        let g = subst (λ x. TypesSay (map ref_in x) w l2 tys) f1e says in
        let s = subst (λ l. TypesSay (map ref_in frame) w l tys) e2 g declared fe (record { arrivals = h.0; count = h.1.0 }) even in
        (h.1.1, (types_are tys s, count_made w.count (h.1.0 even)))
