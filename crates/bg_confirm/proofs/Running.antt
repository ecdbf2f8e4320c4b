-- The code's run of the axioms' own program tells whether values meet the axioms.
use Rattle.std.proofs.Common.{◌≡◌, ℕ, true, List, [], ◌∷◌, map, Some, refl, sym, ap, ◌∙◌}
use Rattle.std.specs.Prelude.{slice_get}
use Rattle.bg_ast.specs.Resolved as r
use Rattle.bg_ast.specs.Values.{Val, Table}
use Rattle.bg_ast.specs.Syntax.{Prog, Impl, Proc}
use Rattle.bg_ast.specs.Meaning.{meaning_of, named_of, impl_of, proc_of}
use Rattle.bg_sense.specs.Flow.{Failed}
use Rattle.bg_sense.specs.Variables.{procedure_of}
use Rattle.bg_flow.specs.Blocks as flow
use Rattle.bg_blocks.specs.Views.{block_of}
use Rattle.bg_blocks.specs.Whole.{AreBlocks}
use Rattle.bg_blocks.specs.declared.block.Block.{Block}
use Rattle.bg_replay.specs.Said.{Said, Stops}
use Rattle.bg_replay.specs.Ways.{runs}
use Rattle.bg_replay.specs.Views.{set_of, said_by}
use Rattle.bg_replay.specs.Endings.{IsReplay, around_in, moment_in}
use Rattle.bg_replay.specs.declared.ending.Ending.{Ending}
use Rattle.bg_opened.specs.Axioms.{axiom_program, axiom_place}
use Rattle.bg_expanded.specs.Chains.{most_bodies}
use Rattle.bg_sense.specs.Tables.{are_tables}
use Rattle.bg_sense.specs.Types.{are_of}
use Rattle.bg_opened.specs.Openable.{IsOpenable}
use Rattle.bg_certtext.specs.Views.{InterpOf}
use Rattle.bg_confirm.specs.Met.{vals_for, tables_by, run_in, axioms_of, constant_types, values_in, IsMet}
use Rattle.bg_confirm.specs.Typed.{values_fit, functions_fit}
use Rattle.bg_confirm.proofs.Applied.{tables_alike}
use Rattle.bg_confirm.proofs.Candidates.{A, M, Q, alike}

-- the replay of the blocks that are made of an implementation is its run
pub ran : (p : r.Program) (m : r.Impl) (q : r.Proc) (bs made : List Block) (ts : List Table) (xs : List Val) (ending : Ending) → bs ≡ made → AreBlocks p 0 m q made → IsReplay p bs [] 0 m q ts xs [] [] ending → said_by ending ≡ run_in (meaning_of p) (set_of []) 0 (impl_of (named_of p.types) m) (proc_of (named_of p.types) q) ts xs
ran p m q bs made ts xs ending e are replay =
    replay.ran ∙ ap (λ (l : List flow.Block). runs (around_in p m q [] ts xs) 0 l (moment_in xs [] [])) (ap (map (block_of p)) e ∙ are)

-- the first of mapped items
record Head {S T : Type 0} (f : S → T) (xs : List S) (y : T) : Type 0 where
  item : S
  there : slice_get xs 0 ≡ Some item
  is : f item ≡ y

head_of : {S T : Type 0} (f : S → T) (xs : List S) (y : T) (ys : List T) → map f xs ≡ (y ∷ ys) → Head f xs y
head_of f [] y ys e = absurd (let b : ⊥ = cc in b)
head_of f (x ∷ xs) y ys e = record { item = x; there = refl; is = let s : f x ≡ y = cc in s }

-- what is said of each implementation and procedure that are there is said of the axioms' own
pub said_is : (depth : ℕ) (p : Prog) (made : r.Program) (said : Said) (ts : List Table) (xs : List Val) → meaning_of made ≡ axiom_program depth p → ((m : r.Impl) (q : r.Proc) → slice_get made.implementations 0 ≡ Some m → slice_get made.procedures m.procedure ≡ Some q → said ≡ run_in (meaning_of made) (set_of []) 0 (impl_of (named_of made.types) m) (proc_of (named_of made.types) q) ts xs) → said ≡ run_in (A depth p) (set_of []) 0 (M depth p) (Q depth p) ts xs
said_is depth p made said ts xs e h =
    let im = impl_of (named_of made.types) in
    let pr = proc_of (named_of made.types) in
    let m = head_of im made.implementations (M depth p) [] (ap (λ (x : Prog). x.implementations) e) in
    let q = head_of pr made.procedures (Q depth p) [] (ap (λ (x : Prog). x.procedures) e) in
    let number : m.item.procedure ≡ 0 = ap (λ (x : Impl). x.procedure) m.is in
    h m.item q.item m.there (ap (slice_get made.procedures) number ∙ q.there)
    ∙ (ap (λ (x : Prog). run_in x (set_of []) 0 (im m.item) (pr q.item) ts xs) e
    ∙ (ap (λ (x : Impl). run_in (A depth p) (set_of []) 0 x (pr q.item) ts xs) m.is
    ∙ ap (λ (x : Proc). run_in (A depth p) (set_of []) 0 (M depth p) x ts xs) q.is))

-- the tables of a certificate's functions, for a program
abbrev its_tables : r.Program → InterpOf → List Table
its_tables p i = tables_by (meaning_of p).functions i.functions

-- and the values of its constants
abbrev its_values : r.Program → InterpOf → List Val
its_values p i = vals_for (constant_types p) (values_in i)

module _ (p : r.Program) (i : InterpOf) (said : Said) (is : said ≡ run_in (A most_bodies (meaning_of p)) (set_of []) 0 (M most_bodies (meaning_of p)) (Q most_bodies (meaning_of p)) (its_tables p i) (its_values p i)) where
  abbrev P : Prog
  P = meaning_of p

  pub met : map (λ g. g.name) i.constants ≡ map (λ c. c.name.text) p.constants → values_fit p.types (constant_types p) (values_in i) ≡ true → are_of (constant_types p) (its_values p i) ≡ true → functions_fit p.types p.functions i.functions ≡ true → are_tables (axioms_of p).functions (its_tables p i) ≡ true → said ≡ Stops (Failed axiom_place.spot) → IsMet p i
  met n t v f u e =
      record {
        named = n;
        typed = t;
        normal = v;
        functions = f;
        tables = its_tables p i;
        are_its = λ f h. refl;
        typed_tables = u;
        set = set_of [];
        met = record { implementation = M most_bodies P; procedure = Q most_bodies P; is_there = refl; is_its = refl; says = sym is ∙ e };
      }

  pub fails : IsOpenable most_bodies P → IsMet p i → said ≡ Stops (Failed axiom_place.spot)
  fails o h =
      let there : Some (M most_bodies P) ≡ Some h.met.implementation = h.met.is_there in
      let m : M most_bodies P ≡ h.met.implementation = cc in
      let its : Some (Q most_bodies P) ≡ Some h.met.procedure = ap (λ (x : Impl). procedure_of (axioms_of p) x.procedure) m ∙ h.met.is_its in
      let q : Q most_bodies P ≡ h.met.procedure = cc in
      is
      ∙ (alike most_bodies P (set_of []) h.set (its_tables p i) (its_values p i)
      ∙ (sym (tables_alike most_bodies P o h.set h.tables (its_tables p i) (its_values p i) h.are_its)
      ∙ (ap (λ (x : Impl). run_in (axioms_of p) h.set 0 x (Q most_bodies P) h.tables (its_values p i)) m
      ∙ (ap (λ (x : Proc). run_in (axioms_of p) h.set 0 h.met.implementation x h.tables (its_values p i)) q ∙ h.met.says))))
