-- Clauses without faults of names: what they say behind their candidates is named.
use Rattle.std.proofs.Common.{◌≡◌, ℕ, ◌+◌, false, List, [], ◌∷◌}
use Rattle.std.specs.Prelude.{flat_map}
use Rattle.bg_text.specs.Trees as t
use Rattle.bg_ast.specs.Meaning.{ex_of}
use Rattle.bg_names.specs.Spaces.{Scope}
use Rattle.bg_names.specs.Clauses.{says_of, clause_faults, named_clause, named_clauses}
use Rattle.bg_sense.specs.Typing.{Sig}
use Rattle.bg_sense.specs.Typed.{HasNoOld}
use Rattle.bg_typed.specs.Naming.{IsNamed}
use Rattle.bg_typed.specs.Bodies.{AreNamedClauses}
use Rattle.bg_named.specs.Covers.{Covers}
use Rattle.bg_named.proofs.ExprsBits.{split_nil}
use Rattle.bg_named.proofs.Exprs.{named_expression}
use Rattle.bg_named.proofs.ExprsOld.{plain_expression}

pub clause_named : (s : Scope) (g : Sig) (n : ℕ) (k : t.Clause) → Covers s g → clause_faults s k ≡ [] → IsNamed g (named_clause s n k).says
clause_named s g n k c f = named_expression s g (says_of s k) c f

pub clause_plain : (s : Scope) (n : ℕ) (k : t.Clause) → s.has_old ≡ false → clause_faults s k ≡ [] → HasNoOld (ex_of (named_clause s n k).says)
clause_plain s n k h f = plain_expression s (says_of s k) h f

pub clauses_named : (s : Scope) (g : Sig) (n : ℕ) (ks : List t.Clause) → Covers s g → flat_map (clause_faults s) ks ≡ [] → AreNamedClauses g (named_clauses s n ks)
clauses_named s g n [] c f = tt
clauses_named s g n (k ∷ ks) c f =
    let parts = split_nil (clause_faults s k) (flat_map (clause_faults s) ks) f in
    (clause_named s g n k c parts.0, clauses_named s g (n + 1) ks c parts.1)
