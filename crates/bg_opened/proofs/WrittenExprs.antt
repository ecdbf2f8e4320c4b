-- An expression that is opened as it is written means what it means, opened.
use Rattle.std.proofs.Common.{◌≡◌, ℕ, zero, suc, List, [], ◌∷◌, map, Option, Some, None, refl, sym, ap, ◌∙◌}
use Rattle.bg_base.specs.declared.pos.Pos.{Pos}
use Rattle.bg_ast.specs.Values as v
use Rattle.bg_ast.specs.Syntax as s
use Rattle.bg_ast.specs.Resolved as r
use Rattle.bg_ast.specs.Meaning.{ex_of, exs_of, fun_of, body_of}
use Rattle.bg_opened.specs.Exprs as e
use Rattle.bg_opened.proofs.Passes.{passes}
use Rattle.bg_opened.specs.Changed.{changed, ex_at, put_read, putting, applied, bodies_in, opening, opened_within}
use Rattle.bg_opened.proofs.WrittenMeans.{means}

at_means : (p : Pos) (xs : r.Exs) (j : ℕ) → ex_of (ex_at p xs j) ≡ e.ex_at (exs_of xs) j
at_means p r.NoMore j = refl
at_means p (r.More x xs) zero = refl
at_means p (r.More x xs) (suc j) = at_means p xs j

read_means : (xs : r.Exs) (p : Pos) (x : s.Var) → ex_of (put_read xs p x) ≡ e.put_in (s.Read x) (exs_of xs)
read_means xs p (s.Global x) = refl
read_means xs p (s.Local j) = at_means p xs j

pub put_means : (xs : r.Exs) (b : r.Ex) → ex_of (changed (putting xs) b) ≡ e.put_in (ex_of b) (exs_of xs)
put_means xs b =
    means (putting xs) (λ x. e.put_in x (exs_of xs)) (λ es. e.put_in_all es (exs_of xs)) (record {
      number = λ z. refl;
      fact = λ t. refl;
      not_ = λ x. refl;
      negative = λ x. refl;
      binary = λ o x y. refl;
      select = λ m es. refl;
      update = λ m es x. refl;
      old = λ x. refl;
      none = refl;
      more = λ x es. refl;
      constant = λ p k. refl;
      read = read_means xs;
      apply = λ p f es ys is. ap (s.Apply f) is;
    }) b

module _ (g : ℕ) (named : ℕ → v.Ty) where
  -- the meanings of functions
  abbrev pub Means : List r.Fun → List s.Fun
  Means fs = map (fun_of named) fs

  applied_means : (o : Option r.Ex) (p : Pos) (f : ℕ) (es : r.Exs) (xs : s.Exs) → exs_of es ≡ xs → ex_of (applied o p f es) ≡ e.applied (body_of o) f xs
  applied_means None p f es xs is = ap (s.Apply f) is
  applied_means (Some b) p f es xs is = put_means es b ∙ ap (e.put_in (ex_of b)) is

  bodies_mean : (fs : List r.Fun) (f : ℕ) → e.raw_bodies (Means fs) f ≡ body_of (bodies_in fs f)
  bodies_mean [] f = refl
  bodies_mean (x ∷ fs) zero = refl
  bodies_mean (x ∷ fs) (suc f) = bodies_mean fs f

  pub pass_means : (fs : List r.Fun) (x : r.Ex) → ex_of (changed (opening g fs) x) ≡ e.opened g (e.raw_bodies (Means fs)) (ex_of x)
  pass_means fs x =
      means (opening g fs) (e.opened g (e.raw_bodies (Means fs))) (e.all_opened g (e.raw_bodies (Means fs))) (record {
        number = λ z. refl;
        fact = λ t. refl;
        not_ = λ y. refl;
        negative = λ y. refl;
        binary = λ o y z. refl;
        select = λ m es. refl;
        update = λ m es y. refl;
        old = λ y. refl;
        none = refl;
        more = λ y es. refl;
        constant = λ p k. refl;
        read = λ p y. refl;
        apply = λ p f es ys is. applied_means (bodies_in fs f) p f es (e.all_opened g (e.raw_bodies (Means fs)) ys) is ∙ ap (λ o. e.applied o f (e.all_opened g (e.raw_bodies (Means fs)) ys)) (sym (bodies_mean fs f));
      }) x

  pub opened_means : (depth : ℕ) (fs : List r.Fun) (x : r.Ex) → ex_of (opened_within depth g fs x) ≡ e.opened g (e.bodies_to g (Means fs) depth) (ex_of x)
  opened_means zero fs x = pass_means [] x
  opened_means (suc depth) fs x =
      opened_means depth fs (changed (opening g fs) x)
      ∙ ap (e.opened g (e.bodies_to g (Means fs) depth)) (pass_means fs x)
      ∙ passes g (Means fs) depth (ex_of x)
