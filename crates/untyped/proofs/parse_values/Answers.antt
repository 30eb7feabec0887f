-- `untyped::parse_values` meets its contract. Assumes nothing.
use mathlib.Core.Path.{sym, ◌∙◌}
use Rattle.untyped.proofs.Carried.{listed_single}
use Rattle.untyped.proofs.Walk.{same_read}
use Rattle.untyped.proofs.Values.{are_bits, are_listed, same_single, same_each}
use Rattle.untyped.proofs.parse_values.Goals as goal

pub returns-then-is_mask : goal.returns-then-is_mask
returns-then-is_mask c =
    same_read _ _ _ _ _ _ _ _ _ _ _ (same_each _ _ _ _ (are_bits _ _ _ _ c.is_mask.ensures c.if-is_mask.true)) c.parse_bits.ensures

pub parse_parameters-requires : goal.parse_parameters-requires
parse_parameters-requires c = (
  c.requires.few.0,
  c.requires.few.1,
  same_single _ _ (listed_single _ _ c.args.rows.indexed _ _) (sym (c.requires.place_value (sym c.is_mask.ensures ∙ c.if-is_mask.false))),
)

pub returns : goal.returns
returns c =
    same_read _ _ _ _ _ _ _ _ _ _ _
    (same_each _ _ _ _ (are_listed _ _ _ _ c.is_mask.ensures c.if-is_mask.false ∙ sym (c.requires.place_value (sym c.is_mask.ensures ∙ c.if-is_mask.false))))
    c.parse_parameters.ensures
