-- `Decoder::int64` meets its contract: no first word, no second, both.
use mathlib.Core.Path.{◌∙◌}
use Rattle.spec.proofs.Answered.{passed_on}
use Rattle.decoder.proofs.Steps.{long_none, long_half, long_whole}
use Rattle.decoder.proofs.Decoder.int64.Goals as goal

pub returns-in_err-low : goal.returns-in_err-low
returns-in_err-low c = passed_on _ c.from_residual.ensures ∙ long_none _ _ _ _ c.in_err-low.ensures

pub returns-in_err-high : goal.returns-in_err-high
returns-in_err-high c = passed_on _ c.from_residual-in_err-high.ensures ∙ long_half _ _ _ _ c.in_ok-low.ensures _ _ c.in_err-high.ensures

pub returns : goal.returns
returns c = long_whole _ _ _ _ c.in_ok-low.ensures _ _ c.in_ok-high.ensures
