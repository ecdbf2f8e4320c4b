-- Parts of specifications and of bodies.
use Rattle.std.specs.Prelude.{ℕ, true, List, [], ◌∷◌}
use Rattle.bg_text.specs.Trees as t
use Rattle.bg_ast.specs.Resolved as r
use Rattle.bg_names.specs.Spaces.{place}
use Rattle.bg_names.specs.Inside.{Inside}
use Rattle.bg_bodies.specs.Bodies.{changes_at, sts_count}
use Rattle.bg_spaces.specs.Declarations.{Spaces, scope_in, specs_count}
use Rattle.bg_resolve.specs.Program.{option_count, named_option, named_code}

-- what names mean in a body with this frame and these labels
abbrev pub inside_in : Spaces → List (List ℕ) → ℕ → t.Id → List (List ℕ) → Inside
inside_in g frame inputs q labels =
    record {
      scope = scope_in g frame true true;
      inputs = inputs;
      modifies = changes_at g.changes (place g.procedures q.text);
      globals = g.globals;
      procedures = g.procedures;
      changes = g.changes;
      labels = labels;
    }

-- how many numbers the specification of a declaration takes, and how many its body
abbrev pub clause_count : t.Decl → ℕ
clause_count (t.Procedure q) = specs_count q.specs
clause_count _ = 0

abbrev pub body_count : t.Decl → ℕ
body_count (t.Procedure q) = option_count q.body
body_count (t.Implementation m) = sts_count m.body.stmts
body_count _ = 0

-- the implementation that a declaration adds, with numbers from n on
abbrev pub named_bodies : Spaces → ℕ → t.Decl → List r.Impl
named_bodies g n (t.Procedure q) = named_option g n q.pos q.name q.sig q.body
named_bodies g n (t.Implementation m) = named_code g n m.pos m.name m.sig m.body ∷ []
named_bodies g n _ = []
