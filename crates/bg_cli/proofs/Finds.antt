-- What a parse of the command says of the words.
use Rattle.std.proofs.Common.{◌≡◌, ◌≢◌, ◌&&◌, not, Bool, sym, ap, subst, refl, ◌∙◌, inl, inr, true, false, map, unwrap_or, option_map, ℕ, List, [], ◌∷◌, Option, Some, None, Bor}
use Rattle.clap.specs.Words.{fault_of, is_simple_and_free}
use Rattle.clap.specs.Walk.{Text, Row}
use Rattle.clap.specs.Simple.{App, is_simple, subcommand_of}
use Rattle.clap.specs.Values.{kind_of}
use Rattle.clap.specs.Kinds.{HasKind, Kinds}
use Rattle.clap.specs.declared.error.Error.{Error}
use Rattle.clap.specs.declared.error.kind.ErrorKind.TheVariants.{OutOfMemory}
use Rattle.clap.proofs.OnLiterals.{clap_on_literals}
use Rattle.bg_cli.specs.Cli.{cli, IsTaken, rows_in, job_of, job_in}

pub is_plain : is_simple_and_free cli ≡ true
unfolding clap_on_literals cli
is_plain = refl

pub is_simple_too : is_simple cli ≡ true
unfolding clap_on_literals cli
is_simple_too = refl

pub files_here : (r : Option (Bor (List (Bor (List ℕ))))) (o : Option (List Text)) (fs : Bor (List (Bor (List ℕ)))) → option_map (λ s. map (λ v. v.now) s.now) r ≡ o → Some fs ≡ r → map (λ v. v.now) fs.now ≡ unwrap_or o []
files_here None o fs h k = absurd cc
files_here (Some x) o fs h k = let e : fs ≡ x = cc in rw e (ap (λ y. unwrap_or y []) h)

pub files_none : (r : Option (Bor (List (Bor (List ℕ))))) (o : Option (List Text)) → option_map (λ s. map (λ v. v.now) s.now) r ≡ o → None ≡ r → [] ≡ unwrap_or o []
files_none None o h k = ap (λ y. unwrap_or y []) h
files_none (Some x) o h k = absurd cc

pub taken : (a : App) (ws : List Text) → a ≡ cli → (is_simple_and_free a ≡ true → fault_of a ws ≡ []) → IsTaken ws
taken a ws e h = subst (λ x. fault_of x ws ≡ []) e (h (ap is_simple_and_free e ∙ is_plain))

none_among : (k : Kinds) (e : Error) → k ≡ [] → HasKind k e → kind_of e ≡ OutOfMemory
none_among [] e h (inl m) = m
none_among [] e h (inr m) = absurd m
none_among (x ∷ k) e h m = absurd cc

pub not_taken : (a : App) (ws : List Text) (e : Error) → a ≡ cli → (is_simple_and_free a ≡ true → HasKind (fault_of a ws) e) → kind_of e ≢ OutOfMemory → IsTaken ws → ⊥
not_taken a ws e same h other t = other (none_among (fault_of a ws) e (subst (λ x. fault_of x ws ≡ []) (sym same) t) (h (ap is_simple_and_free same ∙ is_plain)))

pub rows_are : (a : App) (ws : List Text) (s : Option (Text × List Row)) → a ≡ cli → (is_simple a ≡ true → s ≡ subcommand_of a ws) → unwrap_or (option_map (λ p. p.1) s) [] ≡ rows_in ws
rows_are a ws s same h = ap (λ x. unwrap_or (option_map (λ p. p.1) x) []) (h (ap is_simple same ∙ is_simple_too) ∙ ap (λ x. subcommand_of x ws) same)

-- the job of the command that a parse entered
pub job_is : (a : App) (ws : List Text) (s : Option (Text × List Row)) → a ≡ cli → (is_simple a ≡ true → s ≡ subcommand_of a ws) → job_of (option_map (λ p. p.0) s) ≡ job_in ws
job_is a ws s same h = ap (λ x. job_of (option_map (λ p. p.0) x)) (h (ap is_simple same ∙ is_simple_too) ∙ ap (λ x. subcommand_of x ws) same)

pub cert_here : (r : Option (Bor Text)) (o : Option Text) (v : Bor Text) (other : Bor Text) → other.now ≡ [] → option_map (λ s. s.now) r ≡ o → v ≡ unwrap_or r other → v.now ≡ unwrap_or o []
cert_here None o v other e h k = ap (λ (x : Bor Text). x.now) k ∙ e ∙ ap (λ y. unwrap_or y []) h
cert_here (Some x) o v other e h k = ap (λ (y : Bor Text). y.now) k ∙ ap (λ y. unwrap_or y []) h

-- a plain command has no global argument
pub plain_is_local : (a b c d : Bool) → (a && (not b && (not c && d))) ≡ true → c ≡ false
plain_is_local true false false d h = refl
plain_is_local true false true d h = sym h
plain_is_local true true c d h = absurd cc
plain_is_local false b c d h = absurd cc
