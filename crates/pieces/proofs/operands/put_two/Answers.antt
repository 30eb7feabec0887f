-- `pieces::operands::put_two` meets its contract: a string, or a literal.
-- Assumes nothing.
use mathlib.Core.Path.{sym}
use Rattle.pieces.proofs.Put.{room_first, room_next, wrote_both, wrote_as, room_as}
use Rattle.pieces.proofs.Texts.{string_text_lem, long_text, double_text, text_inside}
use native.Mathlib.Omega.{arith}
use Rattle.pieces.proofs.operands.put_two.Goals as goal

pub overflow_add-a : goal.overflow_add-a
overflow_add-a c =
    omega (arith, c.requires.readable.whole.nine c.requires.a_value)

pub word_at-low-requires : goal.word_at-low-requires
word_at-low-requires c =
    omega (arith, c.requires.readable.whole.nine c.requires.a_value)

pub overflow_add-a-2 : goal.overflow_add-a-2
overflow_add-a-2 c =
    omega (arith, c.requires.readable.whole.nine c.requires.a_value)

pub word_at-high-requires : goal.word_at-high-requires
word_at-high-requires c =
    omega (arith, c.requires.readable.whole.nine c.requires.a_value)

pub bounds-log-a : goal.bounds-log-a
bounds-log-a c =
    omega (arith, c.requires.readable.whole.nine c.requires.a_value)

pub overflow_add-end : goal.overflow_add-end
overflow_add-end c =
    omega (arith, text_inside _ _ _ c.requires.readable c.if-log-a-eq-STRING.true _ _ c.word_at-low.ensures c.word_at-high.ensures)

pub slice_bounds-put_string-count : goal.slice_bounds-put_string-count
slice_bounds-put_string-count c = omega arith

pub slice_bounds-put_string-start : goal.slice_bounds-put_string-start
slice_bounds-put_string-start c =
    omega (arith, text_inside _ _ _ c.requires.readable c.if-log-a-eq-STRING.true _ _ c.word_at-low.ensures c.word_at-high.ensures)

pub slice_bounds-put_string-end : goal.slice_bounds-put_string-end
slice_bounds-put_string-end c =
    omega (arith, text_inside _ _ _ c.requires.readable c.if-log-a-eq-STRING.true _ _ c.word_at-low.ensures c.word_at-high.ensures)

pub put_string-requires : goal.put_string-requires
put_string-requires c =
    room_as _ _ (sym (string_text_lem _ _ _ c.if-log-a-eq-STRING.true _ _ c.word_at-low.ensures c.word_at-high.ensures)) c.requires.room

pub returns-then-log-a-eq-STRING : goal.returns-then-log-a-eq-STRING
returns-then-log-a-eq-STRING c =
    wrote_as _ _ (string_text_lem _ _ _ c.if-log-a-eq-STRING.true _ _ c.word_at-low.ensures c.word_at-high.ensures) c.put_string.ensures

pub overflow_mul-value : goal.overflow_mul-value
overflow_mul-value c = omega arith

pub overflow_add-value : goal.overflow_add-value
overflow_add-value c = omega arith

pub bounds-log-a-2 : goal.bounds-log-a-2
bounds-log-a-2 c =
    omega (arith, c.requires.readable.whole.nine c.requires.a_value)

pub put_number-requires : goal.put_number-requires
put_number-requires c =
    room_as _ _ (sym (long_text _ _ _ c.requires.a_value c.if-log-a-eq-STRING.false _ _ c.word_at-low.ensures c.word_at-high.ensures c.if-log-a-eq-INT64.true)) c.requires.room

pub returns-then-log-a-eq-INT64 : goal.returns-then-log-a-eq-INT64
returns-then-log-a-eq-INT64 c =
    wrote_as _ _ (long_text _ _ _ c.requires.a_value c.if-log-a-eq-STRING.false _ _ c.word_at-low.ensures c.word_at-high.ensures c.if-log-a-eq-INT64.true) c.put_number.ensures

pub put_bytes-next-requires : goal.put_bytes-next-requires
put_bytes-next-requires c =
    room_first _ _ (room_as _ _ (sym (double_text _ _ _ c.requires.a_value c.if-log-a-eq-STRING.false _ _ c.word_at-low.ensures c.word_at-high.ensures c.if-log-a-eq-INT64.false)) c.requires.room)

pub put_hex-requires : goal.put_hex-requires
put_hex-requires c =
    room_next _ _ (room_as _ _ (sym (double_text _ _ _ c.requires.a_value c.if-log-a-eq-STRING.false _ _ c.word_at-low.ensures c.word_at-high.ensures c.if-log-a-eq-INT64.false)) c.requires.room) c.put_bytes-next.ensures

pub returns : goal.returns
returns c =
    wrote_as _ _ (double_text _ _ _ c.requires.a_value c.if-log-a-eq-STRING.false _ _ c.word_at-low.ensures c.word_at-high.ensures c.if-log-a-eq-INT64.false) (wrote_both _ _ (room_as _ _ (sym (double_text _ _ _ c.requires.a_value c.if-log-a-eq-STRING.false _ _ c.word_at-low.ensures c.word_at-high.ensures c.if-log-a-eq-INT64.false)) c.requires.room) c.put_bytes-next.ensures c.put_hex.ensures)
