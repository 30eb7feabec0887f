-- `Decoder::free_string` meets its contract, by where the string ends; it ends within the bytes, so the position after it fits.
-- Assumes nothing.
use Rattle.std.specs.Prelude.{Err}
use Rattle.decoder.specs.declared.NoString.TheVariants.{NoZero, NotUtf8}
use native.Mathlib.Omega.{arith}
use Rattle.decoder.proofs.Steps.{end_answer, sought_free, with_breaks, text_by, text_inside}
use Rattle.decoder.proofs.Decoder.free_string.Goals as goal

pub text_break-breaks-requires : goal.text_break-breaks-requires
unfolding end_answer
text_break-breaks-requires c = let r = sought_free c.args.s.now _ _ c.requires.0 c.requires.1 in
    omega (arith, text_inside r _ c.in-Ok.ensures)

pub overflow_mul-self : goal.overflow_mul-self
unfolding end_answer
overflow_mul-self c = let r = sought_free c.args.s.now _ _ c.requires.0 c.requires.1 in
    omega (arith, text_inside r _ c.in-Ok.ensures)

pub overflow_add-self-in-Ok : goal.overflow_add-self-in-Ok
unfolding end_answer
overflow_add-self-in-Ok c = let r = sought_free c.args.s.now _ _ c.requires.0 c.requires.1 in
    omega (arith, text_inside r _ c.in-Ok.ensures)

pub returns-in-Ok : goal.returns-in-Ok
unfolding end_answer
returns-in-Ok c = let r = sought_free c.args.s.now _ _ c.requires.0 c.requires.1 in
    text_by r _ _ c.in-Ok.ensures (with_breaks _ _ _ _ _ c.text_break-breaks.ensures)

pub returns-in-Err-NoZero : goal.returns-in-Err-NoZero
unfolding end_answer
returns-in-Err-NoZero c = let r = sought_free c.args.s.now _ _ c.requires.0 c.requires.1 in
    text_by r (Err NoZero) _ (rw c.in-Err-NoZero.field-0-is at c.in-Err-NoZero.ensures) c.refused.ensures

pub returns-in-Err-NotUtf8 : goal.returns-in-Err-NotUtf8
unfolding end_answer
returns-in-Err-NotUtf8 c = let r = sought_free c.args.s.now _ _ c.requires.0 c.requires.1 in
    text_by r (Err NotUtf8) _ (rw c.in-Err-NotUtf8.field-0-is at c.in-Err-NotUtf8.ensures) c.refused-in-Err-NotUtf8.ensures
