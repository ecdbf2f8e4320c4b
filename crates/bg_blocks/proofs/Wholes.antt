-- The blocks of an implementation: a body between the first and the last one.
use Rattle.std.proofs.Common.{◌≡◌, ℕ, ◌+◌, false, List, [], ◌∷◌, ◌++◌, length, map, None, unwrap_or, sym, ap, ◌∙◌}
use Rattle.std.proofs.lemmas.List.{length-append, length-map, map-append}
use Rattle.bg_ast.specs.Syntax as s
use Rattle.bg_ast.specs.Resolved as r
use Rattle.bg_ast.specs.Meaning.{meaning_of, named_of, decl_of, sts_of, impl_of, proc_of}
use Rattle.bg_ast.specs.Execution.{AtReturn}
use Rattle.bg_ast.specs.Views as v
use Rattle.bg_ast.specs.declared.resolved.Procedure.{Procedure}
use Rattle.bg_ast.specs.declared.resolved.Implementation.{Implementation}
use Rattle.bg_ast.specs.declared.resolved.Stmt.{Stmt}
use Rattle.bg_sense.specs.Variables.{wheres_of}
use Rattle.bg_flow.specs.Core.{Core, Do, Cmd, Check, Saying, Demand, Routine, demands, sayings, each_one, plain, desugar, frame_decls, routine_of}
use Rattle.bg_flow.specs.Blocks.{Block, Leap, Coded, doing, code, at_end, blocks_of}
use Rattle.bg_blocks.specs.declared.block.Block as whole
use Rattle.bg_blocks.specs.declared.emit.Emitted as emitted
use Rattle.bg_blocks.specs.Marks.{Marked, key}
use Rattle.bg_blocks.specs.MarkViews.{marked}
use Rattle.bg_blocks.specs.Views.{clauses_in, block_of}
use Rattle.bg_blocks.specs.Emitted.{State, coded, pushed, closed, Emits}
use Rattle.bg_blocks.specs.EmittedViews.{state_of, frame_of}
use Rattle.bg_blocks.specs.Whole.{AreBlocks}
use Rattle.bg_blocks.proofs.Wheres.{no_wheres}

-- where nothing was marked each point lies at the last block
pub first_coded : (ds : List Demand) (s0 : State) → s0.blocks ≡ [] → s0.marks ≡ (λ k. None) → coded (closed (pushed (record { cmds = Check ds ∷ []; exit = Leap [] }) s0)) ≡ at_end ds
first_coded ds s0 none unmarked =
    let last : Block = record { cmds = Check ds ∷ []; exit = Leap [] } in
    ap (λ (l : List Block). record { blocks = last ∷ l; from_end = λ p. unwrap_or (s0.marks (key p)) 1; takes_in = false }) none
    ∙ ap (λ (f : Marked). record { blocks = last ∷ []; from_end = λ p. unwrap_or (f (key p)) 1; takes_in = false }) unmarked

pub emits_whole : (p : r.Program) (core : Core) (given : List Cmd) (ds : List Demand) (e0 e1 e2 e3 : emitted.Emitted) → (state_of p e0).blocks ≡ [] → marked e0.marks ≡ (λ k. None) →
    state_of p e1 ≡ closed (pushed (record { cmds = Check ds ∷ []; exit = Leap [] }) (state_of p e0)) → Emits core (state_of p e1) (state_of p e2) → Emits (Do given) (state_of p e2) (state_of p e3) →
    (state_of p e3).blocks ≡ (doing given (code core (at_end ds))).blocks
emits_whole p core given ds e0 e1 e2 e3 none unmarked first x last =
    let start : coded (state_of p e1) ≡ at_end ds = ap coded first ∙ first_coded ds (state_of p e0) none unmarked in
    ap (λ (u : Coded). u.blocks) (last.built ∙ ap (doing given) (x.built ∙ ap (code core) start))

-- the variables of a frame: parameters, results and locals
abbrev pub frame_in : Implementation → Procedure → List r.Declared
frame_in m q = map v.declared_of q.params.items ++ (map v.declared_of q.results.items ++ map v.declared_of m.locals.items)

pub frame_length : (m : Implementation) (q : Procedure) → length (frame_in m q) ≡ length q.params.items + (length q.results.items + length m.locals.items)
frame_length m q =
    length-append (map v.declared_of q.params.items) (map v.declared_of q.results.items ++ map v.declared_of m.locals.items)
    ∙ (ap (λ n. n + length (map v.declared_of q.results.items ++ map v.declared_of m.locals.items)) (length-map q.params.items v.declared_of)
    ∙ ap (λ n. length q.params.items + n) (length-append (map v.declared_of q.results.items) (map v.declared_of m.locals.items)
    ∙ (ap (λ n. n + length (map v.declared_of m.locals.items)) (length-map q.results.items v.declared_of)
    ∙ ap (λ n. length q.results.items + n) (length-map m.locals.items v.declared_of))))

frame_same : (p : r.Program) (m : Implementation) (q : Procedure) → frame_of p (frame_in m q) ≡ frame_decls (impl_of (named_of p.types) (v.impl_of m)) (proc_of (named_of p.types) (v.proc_of q))
frame_same p m q =
    let d = decl_of (named_of p.types) in
    let a = map v.declared_of q.params.items in
    let b = map v.declared_of q.results.items in
    let c = map v.declared_of m.locals.items in
    map-append d a (b ++ c) ∙ ap (λ l. map d a ++ l) (map-append d b c)

-- no declaration of a global or of the frame says more than a type
nothing_given : (p : r.Program) (rs : List r.Declared) → wheres_of ((meaning_of p).globals ++ frame_of p rs) ≡ []
nothing_given p rs =
    let d = decl_of (named_of p.types) in
    ap wheres_of (sym (map-append d p.globals rs)) ∙ no_wheres (named_of p.types) (p.globals ++ rs)

abbrev routine_in : r.Program → ℕ → List s.Decl → s.St → List Saying → List Demand → Routine
routine_in p number ds body given wanted = record { given = given; body = desugar (meaning_of p) ds body; wanted = wanted }

-- what is assumed at first is what the procedure requires
pub routine_same : (p : r.Program) (number : ℕ) (m : Implementation) (q : Procedure) →
    blocks_of (record { given = sayings each_one (clauses_in q.requires_.items); body = desugar (meaning_of p) (frame_of p (frame_in m q)) (sts_of (v.sts_in m.body.items)); wanted = demands (AtReturn number) (clauses_in q.ensures_.items) })
    ≡ blocks_of (routine_of (meaning_of p) number (impl_of (named_of p.types) (v.impl_of m)) (proc_of (named_of p.types) (v.proc_of q)))
routine_same p number m q =
    let rs = frame_in m q in
    let body = sts_of (v.sts_in m.body.items) in
    let says = sayings each_one (clauses_in q.requires_.items) in
    let wanted = demands (AtReturn number) (clauses_in q.ensures_.items) in
    ap (λ es. blocks_of (routine_in p number (frame_of p rs) body (plain es says) wanted)) (sym (nothing_given p rs))
    ∙ ap (λ ds. blocks_of (routine_in p number ds body (plain (wheres_of ((meaning_of p).globals ++ ds)) says) wanted)) (frame_same p m q)

-- the blocks from the first one on
pub whole_in_order : (p : r.Program) (number : ℕ) (m : Implementation) (q : Procedure) (e : emitted.Emitted) (made : List whole.Block) (body : List Stmt) → map (block_of p) made ≡ (state_of p e).blocks → body ≡ m.body.items →
    (state_of p e).blocks ≡ blocks_of (record { given = sayings each_one (clauses_in q.requires_.items); body = desugar (meaning_of p) (frame_of p (frame_in m q)) (sts_of (v.sts_in body)); wanted = demands (AtReturn number) (clauses_in q.ensures_.items) }) →
    AreBlocks p number (v.impl_of m) (v.proc_of q) made
whole_in_order p number m q e made body is b h =
    let says = sayings each_one (clauses_in q.requires_.items) in
    let wanted = demands (AtReturn number) (clauses_in q.ensures_.items) in
    is
    ∙ (h
    ∙ (ap (λ l. blocks_of (routine_in p number (frame_of p (frame_in m q)) (sts_of (v.sts_in l)) says wanted)) b
    ∙ routine_same p number m q))
