-- Calls and assignments without faults of names.
use Rattle.std.proofs.Common.{◌≡◌, ℕ, Bool, true, false, List, [], ◌∷◌, ◌++◌, length, map, Option, Some, None, refl, sym, ap, ◌∙◌, subst, arith}
use Rattle.std.specs.Prelude.{not, find, flat_map, slice_get, All}
use Rattle.bg_base.specs.declared.pos.Pos.{Pos}
use Rattle.bg_text.specs.Trees as t
use Rattle.bg_ast.specs.Syntax.{Var, Global, Proc}
use Rattle.bg_ast.specs.Meaning.{variable_of}
use Rattle.bg_names.specs.declared.error.FaultKind.TheVariants as kinds
use Rattle.bg_names.specs.Faults.{Fault, fault}
use Rattle.bg_names.specs.Spaces.{place, or_zero, use_faults, repeats}
use Rattle.bg_names.specs.Exprs.{exs_faults, named_exs}
use Rattle.bg_names.specs.Inside.{Inside, has_number, id_faults, placed, index_faults, target_faults, named_index, named_target}
use Rattle.bg_bodies.specs.Bodies.{target_name, changes_at, or_no_name, missing_fault, callee_faults, call_faults, named_call}
use Rattle.bg_sense.specs.Variables.{is_among, count_from, globals_of, modified}
use Rattle.bg_sense.specs.Typed.{Around, MayChange, AreApart, sig_around}
use Rattle.bg_sense.proofs.Members.{In}
use Rattle.bg_typed.specs.Bodies.{AreNamedIndices, AreNamedTargets, AreVariables, target_variable, IsNamedCall, AreNamedSides}
use Rattle.bg_named.specs.Covers.{CoversBody}
use Rattle.bg_named.proofs.ExprsBits.{never, faulty, split_nil, is_placed}
use Rattle.bg_named.proofs.Exprs.{exs_named}
use Rattle.bg_named.proofs.StmtsMembers.{all_in, in_mapped, in_filtered, counted_below, in_globals, none_passes}
use Rattle.bg_named.proofs.StmtsVars.{may_change_global, is_declared, variables, variables_apart, may_change_all}

none_missing : (globals : List (List ℕ)) (p : Pos) (o : Option ℕ) → missing_fault globals p o ≡ [] → o ≡ None
none_missing globals p None h = refl
none_missing globals p (Some k) h = faulty (fault kinds.NotModified p (or_no_name (slice_get globals k))) [] h

not_not : (a : Bool) → not a ≡ false → a ≡ true
not_not true h = refl
not_not false h = never (sym h)

-- what a callee modifies, the caller's procedure modifies
callee_changes : (b : Inside) (w : Around) → CoversBody b w → (q : Proc) → (p : Pos) → missing_fault b.globals p (find (λ k. not (has_number b.modifies k)) q.modifies) ≡ [] → (x : Var) → In (modified w.program q) x → MayChange w x
callee_changes b w c q p n x i =
    let parts = in_filtered (is_among (map Global q.modifies)) (globals_of w.program) x i in
    let at = in_mapped Global (count_from 0 (length w.program.globals)) x parts.0 in
    let k = at.0 in
    let below = counted_below k 0 (length w.program.globals) at.2 in
    let listed : In q.modifies k = in_globals q.modifies k (ap (is_among (map Global q.modifies)) at.1 ∙ parts.1) in
    let none = none_missing b.globals p (find (λ k. not (has_number b.modifies k)) q.modifies) n in
    let there = not_not (has_number b.modifies k) (none_passes (λ k. not (has_number b.modifies k)) q.modifies none k listed) in
    subst (MayChange w) at.1 (may_change_global b w c k (omega (arith, below)) there)

are_declared : (b : Inside) (w : Around) → CoversBody b w → (xs : List t.Id) → flat_map (id_faults b) xs ≡ [] → AreVariables (sig_around w) (map (placed b) xs)
are_declared b w c [] n = tt
are_declared b w c (x ∷ xs) n =
    let parts = split_nil (id_faults b x) (flat_map (id_faults b) xs) n in
    (is_declared b w c x parts.0, are_declared b w c xs parts.1)

pub placed_variables : (b : Inside) (xs : List t.Id) → variables b xs ≡ map variable_of (map (placed b) xs)
placed_variables b [] = refl
placed_variables b (x ∷ xs) = ap (λ (vs : List Var). (placed b x).variable ∷ vs) (placed_variables b xs)

-- all variables that are changed may be
pub changed_all : (b : Inside) (w : Around) → CoversBody b w → (xs : List t.Id) → flat_map (id_faults b) xs ≡ [] → All (MayChange w) (map variable_of (map (placed b) xs))
changed_all b w c xs n =
    subst (λ (vs : List Var). All (MayChange w) vs) (placed_variables b xs) (all_in (MayChange w) (variables b xs) (may_change_all b w c xs n))

pub call_named : (b : Inside) (w : Around) → CoversBody b w → (n : ℕ) (k : t.Call) → call_faults b k ≡ [] → IsNamedCall w (named_call b n k)
call_named b w c n k f =
    let taken = repeats [] k.takes ++ flat_map (id_faults b) k.takes in
    let last = split_nil (taken ++ use_faults b.procedures k.procedure ++ callee_faults b k.procedure) (exs_faults b.scope k.args) f in
    let third = split_nil (taken ++ use_faults b.procedures k.procedure) (callee_faults b k.procedure) last.0 in
    let second = split_nil taken (use_faults b.procedures k.procedure) third.0 in
    let first = split_nil (repeats [] k.takes) (flat_map (id_faults b) k.takes) second.0 in
    let at = is_placed b.procedures k.procedure second.1 in
    let found = c.procedures k.procedure.text at.0 at.1 in
    let modifies : changes_at b.changes (place b.procedures k.procedure.text) ≡ found.0.modifies = ap (changes_at b.changes) at.1 ∙ found.2 in
    let none = subst (λ (ks : List ℕ). missing_fault b.globals k.procedure.pos (find (λ k. not (has_number b.modifies k)) ks) ≡ []) modifies third.1 in
    record {
      procedure = found.0;
      is_there = subst (λ (o : Option ℕ). slice_get w.program.procedures (or_zero o) ≡ Some found.0) (sym at.1) found.1;
      args = exs_named b.scope (sig_around w) c.names k.args last.1;
      takes = are_declared b w c k.takes first.1;
      apart = subst AreApart (placed_variables b k.takes) (variables_apart b w c [] k.takes first.0 first.1);
      changed = changed_all b w c k.takes first.1;
      modified_ = all_in (MayChange w) (modified w.program found.0) (callee_changes b w c found.0 k.procedure.pos none);
    }

indices_named : (b : Inside) (w : Around) → CoversBody b w → (is : List (Pos × t.Exs)) → flat_map (index_faults b) is ≡ [] → AreNamedIndices (sig_around w) (map (named_index b) is)
indices_named b w c [] n = tt
indices_named b w c (i ∷ is) n =
    let parts = split_nil (index_faults b i) (flat_map (index_faults b) is) n in
    (exs_named b.scope (sig_around w) c.names i.1 parts.0, indices_named b w c is parts.1)

targets_named : (b : Inside) (w : Around) → CoversBody b w → (ts : List t.Target) → flat_map (target_faults b) ts ≡ [] → AreNamedTargets (sig_around w) (map (named_target b) ts)
targets_named b w c [] n = tt
targets_named b w c (x ∷ ts) n =
    let parts = split_nil (target_faults b x) (flat_map (target_faults b) ts) n in
    let inner = split_nil (id_faults b x.name) (flat_map (index_faults b) x.brackets) parts.0 in
    (is_declared b w c x.name inner.0, indices_named b w c x.brackets inner.1, targets_named b w c ts parts.1)

target_names : (b : Inside) (ts : List t.Target) → flat_map (target_faults b) ts ≡ [] → flat_map (id_faults b) (map target_name ts) ≡ []
target_names b [] n = refl
target_names b (x ∷ ts) n =
    let parts = split_nil (target_faults b x) (flat_map (target_faults b) ts) n in
    let inner = split_nil (id_faults b x.name) (flat_map (index_faults b) x.brackets) parts.0 in
    ap (λ (fs : List Fault). fs ++ flat_map (id_faults b) (map target_name ts)) inner.0 ∙ target_names b ts parts.1

target_variables : (b : Inside) (ts : List t.Target) → variables b (map target_name ts) ≡ map target_variable (map (named_target b) ts)
target_variables b [] = refl
target_variables b (x ∷ ts) = ap (λ (vs : List Var). (placed b x.name).variable ∷ vs) (target_variables b ts)

pub assign_named : (b : Inside) (w : Around) → CoversBody b w → (ts : List t.Target) (es : t.Exs) → repeats [] (map target_name ts) ++ flat_map (target_faults b) ts ++ exs_faults b.scope es ≡ [] → AreNamedSides w (map (named_target b) ts) (named_exs b.scope es)
assign_named b w c ts es f =
    let both = split_nil (repeats [] (map target_name ts) ++ flat_map (target_faults b) ts) (exs_faults b.scope es) f in
    let parts = split_nil (repeats [] (map target_name ts)) (flat_map (target_faults b) ts) both.0 in
    let names = target_names b ts parts.1 in
    let same = target_variables b ts in
    record {
      targets = targets_named b w c ts parts.1;
      values = exs_named b.scope (sig_around w) c.names es both.1;
      apart = subst AreApart same (variables_apart b w c [] (map target_name ts) parts.0 names);
      changed = subst (λ (vs : List Var). All (MayChange w) vs) same (all_in (MayChange w) (variables b (map target_name ts)) (may_change_all b w c (map target_name ts) names));
    }
