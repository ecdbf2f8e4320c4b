use Rattle.std.proofs.Common.{arith}
use Rattle.bg_terms.specs.Typed.{types_with}
use Rattle.bg_kinds.specs.Views.{key_of, keys_of, ref_of}
use Rattle.bg_term_table.specs.Views.{terms_in, incs_of, seen_ty}
use Rattle.bg_wanted.proofs.Rowed.{mapped_length}
use Rattle.bg_wanted.proofs.Grouping.{its_map}
use Rattle.bg_wanted.proofs.named.parts_of.Goals as goal

pub returns-then-is_map_of : goal.returns-then-is_map_of
returns-then-is_map_of c =
    let keys = c.in-Some.keys.now in
    let t = ref_of c.in-Some.gives in
    λ fs give.
    record {
      keys = keys_of keys;
      gives = t;
      first = its_map (types_with (incs_of c.args.around) (terms_in fs c.args.sight.terms.now)) c.args.a (seen_ty c.read_type.result) (keys_of keys) t (c.read_type.ensures fs give) c.in-Some.ensures;
      second = c.is_map_of.ensures fs give c.if-is_map_of.true;
      its_parts = let len = c.len.ensures in let ok = keys.keys.ok.0 in let many = mapped_length key_of keys.keys.items in omega (arith, len, ok, many);
    }
