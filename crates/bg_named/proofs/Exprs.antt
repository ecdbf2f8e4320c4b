-- Expressions without faults of names have numbers of declarations.
use Rattle.std.proofs.Common.{◌≡◌, ℕ, ◌<◌, List, [], ◌++◌, length, Option, refl, sym, subst}
use Rattle.bg_base.specs.declared.pos.Pos.{Pos}
use Rattle.bg_text.specs.Trees as t
use Rattle.bg_names.specs.declared.error.FaultKind.TheVariants as kinds
use Rattle.bg_names.specs.declared.scope.Meaning.{Meaning}
use Rattle.bg_names.specs.declared.scope.Meaning.TheVariants as means
use Rattle.bg_names.specs.Faults.{fault, unless}
use Rattle.bg_names.specs.Spaces.{Scope, meaning, place, or_zero, use_faults}
use Rattle.bg_names.specs.Exprs.{read_faults, read_as, ex_faults, exs_faults, brackets_faults, links_faults, named_ex, named_exs, named_brackets, named_links}
use Rattle.bg_sense.specs.Typing.{Sig}
use Rattle.bg_typed.specs.Naming.{IsNamed, AreNamed, AreNamedBrackets, AreNamedLinks}
use Rattle.bg_named.specs.Covers.{Covers}
use Rattle.bg_named.proofs.ExprsBits.{faulty, split_nil, is_placed}

read_named : (s : Scope) (g : Sig) → Covers s g → (p : Pos) (x : List ℕ) (m : Meaning) → meaning s x ≡ m → read_faults p x m ≡ [] → IsNamed g (read_as p m)
read_named s g c p x means.Nothing e n = faulty (fault kinds.UnknownName p x) [] n
read_named s g c p x (means.Constant k) e n = c.constants x k e
read_named s g c p x (means.Candidate k) e n = faulty (fault kinds.BadCandidateUse p x) [] n
read_named s g c p x (means.Global k) e n = c.globals x k e
read_named s g c p x (means.Local k) e n = c.frame x k e

function_named : (s : Scope) (g : Sig) → Covers s g → (p : Pos) (f : List ℕ) → use_faults s.functions (record { pos = p; text = f }) ≡ [] → or_zero (place s.functions f) < length g.functions
function_named s g c p f n =
    let at = is_placed s.functions (record { pos = p; text = f }) n in
    subst (λ (o : Option ℕ). or_zero o < length g.functions) (sym at.1) (c.functions f at.0 at.1)

mutual
  ex_named : (s : Scope) (g : Sig) → Covers s g → (e : t.Ex) → ex_faults s e ≡ [] → IsNamed g (named_ex s e)
  ex_named s g c (t.Number p z) n = tt
  ex_named s g c (t.Truth p b) n = tt
  ex_named s g c (t.Named p x) n = read_named s g c p x (meaning s x) refl n
  ex_named s g c (t.Apply p f es) n =
      let parts = split_nil (use_faults s.functions (record { pos = p; text = f })) (exs_faults s es) n in
      (function_named s g c p f parts.0, exs_named s g c es parts.1)
  ex_named s g c (t.Old p e) n =
      ex_named s g c e (split_nil (unless s.has_old (fault kinds.BadOld p [])) (ex_faults s e) n).1
  ex_named s g c (t.Parens p e) n = ex_named s g c e n
  ex_named s g c (t.Prefix signs e) n = ex_named s g c e n
  ex_named s g c (t.Postfix e bs) n =
      let parts = split_nil (ex_faults s e) (brackets_faults s bs) n in
      (ex_named s g c e parts.0, brackets_named s g c bs parts.1)
  ex_named s g c (t.Chain e ls) n =
      let parts = split_nil (ex_faults s e) (links_faults s ls) n in
      (ex_named s g c e parts.0, links_named s g c ls parts.1)

  pub exs_named : (s : Scope) (g : Sig) → Covers s g → (es : t.Exs) → exs_faults s es ≡ [] → AreNamed g (named_exs s es)
  exs_named s g c t.NoMore n = tt
  exs_named s g c (t.More e es) n =
      let parts = split_nil (ex_faults s e) (exs_faults s es) n in
      (ex_named s g c e parts.0, exs_named s g c es parts.1)

  brackets_named : (s : Scope) (g : Sig) → Covers s g → (bs : t.Brackets) → brackets_faults s bs ≡ [] → AreNamedBrackets g (named_brackets s bs)
  brackets_named s g c t.NoBracket n = tt
  brackets_named s g c (t.Select p es bs) n =
      let parts = split_nil (exs_faults s es) (brackets_faults s bs) n in
      (exs_named s g c es parts.0, brackets_named s g c bs parts.1)
  brackets_named s g c (t.Update p es e bs) n =
      let parts = split_nil (exs_faults s es ++ ex_faults s e) (brackets_faults s bs) n in
      let inner = split_nil (exs_faults s es) (ex_faults s e) parts.0 in
      (exs_named s g c es inner.0, ex_named s g c e inner.1, brackets_named s g c bs parts.1)

  links_named : (s : Scope) (g : Sig) → Covers s g → (ls : t.Links) → links_faults s ls ≡ [] → AreNamedLinks g (named_links s ls)
  links_named s g c t.NoLink n = tt
  links_named s g c (t.Link p sign e ls) n =
      let parts = split_nil (ex_faults s e) (links_faults s ls) n in
      (ex_named s g c e parts.0, links_named s g c ls parts.1)

pub named_expression : (s : Scope) (g : Sig) (e : t.Ex) → Covers s g → ex_faults s e ≡ [] → IsNamed g (named_ex s e)
named_expression s g e c n = ex_named s g c e n
