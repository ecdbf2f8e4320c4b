use Rattle.std.proofs.Common.{◌≡◌, ◌++◌, map, drop, flat_map}
use Rattle.bg_certtext.specs.Lines.{line}
use Rattle.bg_certtext.specs.Texts.{retain_words}
use Rattle.bg_certtext.proofs.front.put_retained.Given as goal

abbrev pub invariant-loop-name : goal.invariant-loop-name
invariant-loop-name l = l.out.items ++ flat_map line (map retain_words (map (λ name. name.now) (drop l.name-index l.names))) ≡ l.initial.out.items ++ flat_map line (map retain_words (map (λ name. name.now) l.names))
