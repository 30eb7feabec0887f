-- `loader::run::load_from` meets its contract: the invariant is that the load from where it stands is the load of the whole.
use Rattle.tracker.proofs.Hinting.{marks_leave}
use Rattle.steps.proofs.Judging.{fair, moderate, verdict}
use Rattle.loader.proofs.Running.{start, same_instructions, same_log, same_strings, same_types, few_kept, ends, halts, here, more, operands_fit, record_fits, entries_fit, fewer, goes_on_lem}
use Rattle.std.proofs.Common.{rules, arith}
use Rattle.loader.proofs.run.load_from.Goals as goal

pub word_at-bound-requires : goal.word_at-bound-requires
word_at-bound-requires c = omega (arith, c.requires.in_bounds.0)

pub new-requires : goal.new-requires
new-requires c = c.requires.in_bounds_2.0

pub loop-p-init : goal.loop-p-init
loop-p-init c =
    let hints_are = c.requires.in_bounds_2 in
    start _ _ _ _ _ c.room_in-room.ensures c.requires.in_bounds.0 c.requires.in_bounds.1 _ _ c.new.ensures (marks_leave _ _ hints_are.0) hints_are.1

pub overflow_sub-s : goal.overflow_sub-s
overflow_sub-s c = c.loop-p.invariant.inside

pub decode-read-requires : goal.decode-read-requires
decode-read-requires c = let running = c.loop-p.invariant in
    record { s_len_bound = (running.short, omega (arith, running.inside, c.loop-p-test.true)); bounded = (running.bounded, running.typed) }

pub admit-requires : goal.admit-requires
admit-requires c = let running = c.loop-p.invariant in
    record { bounded = (running.bounded, running.typed); fair = fair _ _ _ _ _ _ _ c.decode-read.ensures running.short }

pub shape_of-instructions-in-Err : goal.shape_of-instructions-in-Err
shape_of-instructions-in-Err c = same_instructions c.loop-p.invariant

pub shape_of-log-in-Err : goal.shape_of-log-in-Err
shape_of-log-in-Err c = same_log c.loop-p.invariant

pub shape_of-strings-in-Err : goal.shape_of-strings-in-Err
shape_of-strings-in-Err c = same_strings c.loop-p.invariant

pub shape_of-types-in-Err : goal.shape_of-types-in-Err
shape_of-types-in-Err c = same_types c.loop-p.invariant

pub shape_of-hints-in-Err : goal.shape_of-hints-in-Err
shape_of-hints-in-Err c = c.loop-p.invariant.same_hints

pub returns-in-Err : goal.returns-in-Err
returns-in-Err c = let running = c.loop-p.invariant in
    record { loads_from = halts running c.loop-p-test.true _ (verdict _ _ _ _ _ _ _ c.requires.indexed _ c.decode-read.ensures _ c.admit.ensures _ c.in-Err.is); instructions_bound = few_kept running }

pub keep_operands-requires : goal.keep_operands-requires
keep_operands-requires c = let running = c.loop-p.invariant in
    let word = c.loop-p-test.true in
    let goes_in = verdict _ _ _ _ _ _ _ c.requires.indexed _ c.decode-read.ensures _ c.admit.ensures _ c.in-Ok.is in
    let stands = here running goes_in in
    record { s_len_bound = (stands.short, omega (arith, stands.inside, more running goes_in word)); bounded = (stands.bounded, stands.typed); log_in_bounds = operands_fit running goes_in; shown = goes_in.shown }

pub keep_record-p-requires : goal.keep_record-p-requires
keep_record-p-requires c = let running = c.loop-p.invariant in
    let goes_in = verdict _ _ _ _ _ _ _ c.requires.indexed _ c.decode-read.ensures _ c.admit.ensures _ c.in-Ok.is in
    let stands = here running goes_in in
    record { bounded = (stands.bounded, stands.typed); moderate = moderate goes_in.shown stands.short; record_size_in_bounds = record_fits running goes_in; types_in_bounds = entries_fit running goes_in }

pub loop-p-smaller : goal.loop-p-smaller
loop-p-smaller c =
    let running = c.loop-p.invariant in
    let word = c.loop-p-test.true in
    let goes_in = verdict _ _ _ _ _ _ _ c.requires.indexed _ c.decode-read.ensures _ c.admit.ensures _ c.in-Ok.is in
    fewer running goes_in word c.keep_record-p.ensures

pub loop-p-preserved : goal.loop-p-preserved
loop-p-preserved c =
    let running = c.loop-p.invariant in
    let word = c.loop-p-test.true in
    let goes_in = verdict _ _ _ _ _ _ _ c.requires.indexed _ c.decode-read.ensures _ c.admit.ensures _ c.in-Ok.is in
    goes_on_lem running goes_in word c.keep_record-p.ensures _ _ _ c.requires.indexed c.keep_operands.ensures (search rules)

pub shape_of-instructions : goal.shape_of-instructions
shape_of-instructions c = same_instructions c.loop-p.invariant

pub shape_of-log : goal.shape_of-log
shape_of-log c = same_log c.loop-p.invariant

pub shape_of-strings : goal.shape_of-strings
shape_of-strings c = same_strings c.loop-p.invariant

pub shape_of-types : goal.shape_of-types
shape_of-types c = same_types c.loop-p.invariant

pub shape_of-hints : goal.shape_of-hints
shape_of-hints c = c.loop-p.invariant.same_hints

pub returns : goal.returns
returns c = record { loads_from = ends c.loop-p.invariant c.loop-p-test.false _ c.end_number.ensures; instructions_bound = few_kept c.loop-p.invariant }
