use Rattle.std.proofs.Common.{◌≡◌, [], true, Some}
use Rattle.std.specs.Prelude.{ℕ, slice_get}
use Rattle.bg_ast.specs.Syntax.{Prog, Impl, Proc}
use Rattle.bg_sense.specs.Variables.{procedure_of}
use Rattle.bg_block_types.specs.Typed.{incarnations_in, passives_in}
use Rattle.bg_flatten.specs.Plain.{are_mapless, PlainBlocks}
use Rattle.bg_termed.specs.Termed.{IsTabled}
use Rattle.bg_termed.proofs.laws.implementations_without_functions_stay.Goals as goal

pub returns : goal.returns
returns c =
    let plain : (p : Prog) (k : ℕ) (m : Impl) (q : Proc) → IsTabled p → p.functions ≡ [] → slice_get p.implementations k ≡ Some m → procedure_of p m.procedure ≡ Some q → are_mapless (incarnations_in p k m q) ≡ true → PlainBlocks (passives_in p k m q) = λ p k m q t none im pr mapless. c.blocks_without_functions_are_plain.ensures p (incarnations_in p k m q) (passives_in p k m q) t.constants none mapless (c.passive_blocks_are_typed.ensures p k m q t.typed im pr) in
    record {
      plain = plain;
      terms =
          λ p k m q t none im pr mapless.
          c.plain_blocks_stay.ensures.terms p.functions (incarnations_in p k m q) (passives_in p k m q) (plain p k m q t none im pr mapless);
      flat =
          λ p k m q t none im pr mapless.
          c.plain_blocks_stay.ensures.flat p.functions (incarnations_in p k m q) (passives_in p k m q) (plain p k m q t none im pr mapless);
    }
