-- The calls between the crates, which may ask something of their callers: where that is met, any two results that the contract
-- allows coincide. `Asked` is what the contract's `requires` asks of a caller, `Learnt` what its `ensures` tells one.
use Prim.Native.Nat.{ℕ}
use mathlib.Core.Path.{◌≡◌, refl, ap₂, sym, ◌∙◌}
use mathlib.Core.List.{List}
use mathlib.Core.HLevel.{is_prop→PathP}
use Rattle.std.specs.Prelude.{Option, None, Some}
use native.Mathlib.Omega.{arith}
use base.Stored.{Coded-set, coded_ℕ, coded_list}
use Rattle.spec.specs.Records.{Instr}
use Rattle.spec.specs.Reader.{Reader, got}
use Rattle.spec.specs.Grammar.{Slot}
use Rattle.grammar.specs.Find.{slots_then, parameters_then}
use Rattle.reflect.specs.Column.{kind_table, layout_table}
use Rattle.reflect.specs.declared.Layout.{Layout}
use Rattle.tracker.specs.declared.TypeTracker.{TypeTracker}
use Rattle.steps.specs.declared.parts.Progress.{Progress}
use Rattle.steps.specs.Steps.{read_at, Stored}
use Rattle.words.proofs.word_at as word-at-call
use Rattle.reflect.proofs.Layout.new as layout-new-call
use Rattle.reflect.proofs.Layout.place as layout-place-call
use Rattle.grammar.proofs.item_at as item-at-call
use Rattle.grammar.proofs.item_length as item-length-call
use Rattle.grammar.proofs.slot_at as slot-at-call
use Rattle.grammar.proofs.parameter_at as parameter-at-call
use Rattle.grammar.proofs.Rows.is_known as is-known-call
use Rattle.rules.proofs.are_apart as are-apart-call
use Rattle.grammar.proofs.is_mask as is-mask-call
use Rattle.grammar.proofs.is_enum as is-enum-call
use Rattle.grammar.proofs.is_result as is-result-call
use Rattle.grammar.proofs.may_be_operand as may-be-operand-call
use Rattle.grammar.proofs.may_be_parameter as may-be-parameter-call
use Rattle.grammar.proofs.rises_to as rises-to-call
use Rattle.grammar.proofs.mark_of as mark-of-call
use Rattle.rules.proofs.enumerant_rule as enumerant-rule-call
use Rattle.rules.proofs.parameter_rule as parameter-rule-call
use Rattle.rules.proofs.may_follow as may-follow-call
use Rattle.rules.proofs.note as note-call
use Rattle.tracker.proofs.TypeTracker.new as tracker-new-call
use Rattle.tracker.proofs.TypeTracker.resolve as tracker-resolve-call
use Rattle.tracker.proofs.TypeTracker.after as tracker-after-call
use Rattle.tracker.proofs.TypeTracker.track as tracker-track-call
use Rattle.used.proofs.unused as unused-call
use Rattle.used.proofs.first_break as first-break-call
use Rattle.used.proofs.refused as refused-call
use Rattle.used.proofs.with_result as with-result-call
use Rattle.used.proofs.literal_for as literal-for-call
use Rattle.untyped.proofs.next_place as next-place-call
use Rattle.records.proofs.fields_at as fields-at-call
use Rattle.records.proofs.numbers_at as numbers-at-call
use Rattle.records.proofs.record_at as record-at-call
use Rattle.records.proofs.operand_at as operand-at-call
use Rattle.records.proofs.put_fields as put-fields-call
use Rattle.records.proofs.put_record as put-record-call
use Rattle.records.proofs.check_of as check-of-call
use Rattle.numbers.proofs.count as count-call
use Rattle.room.proofs.room_in as room-in-call
use Rattle.room.proofs.room_fault as room-fault-call
use Rattle.steps.proofs.end_number as end-number-call
use Rattle.steps.proofs.no_instruction as no-instruction-call
use Rattle.steps.proofs.stopped as stopped-call
use Rattle.steps.proofs.admit as admit-call
use Rattle.steps.proofs.keep_operands as keep-operands-call
use Rattle.words.proofs.put_word as put-word-call
use Rattle.operand.proofs.is_two as is-two-call
use Rattle.operand.proofs.record_length as record-length-call
use Rattle.operand.proofs.keep_record as keep-record-call
use Rattle.words.proofs.put_bytes as put-bytes-call
use Rattle.operand.proofs.keep_bytes as keep-bytes-call
use Rattle.spelled.proofs.put_instruction as put-instruction-call
use Rattle.ranges.proofs.end_of as end-of-call
use Rattle.ranges.proofs.module_end as module-end-call
use Rattle.order.proofs.put_read as put-read-call
use Rattle.order.proofs.put_module as put-module-call
use Rattle.names.proofs.table as names-table-call
use Rattle.records.proofs.at_most as at-most-call
use Rattle.texts.proofs.put as put-call
use Rattle.texts.proofs.digit_count as digit-count-call
use Rattle.texts.proofs.digits as digits-call
use Rattle.texts.proofs.decimal as decimal-call
use Rattle.texts.proofs.hex as hex-call
use Rattle.pieces.proofs.put_byte as put-byte-call
use Rattle.pieces.proofs.put_bytes as text-put-bytes-call
use Rattle.pieces.proofs.put_number as put-number-call
use Rattle.pieces.proofs.put_id as put-id-call
use Rattle.pieces.proofs.put_name as put-name-call
use Rattle.pieces.proofs.put_operands as put-operands-call
use Rattle.pieces.proofs.after as after-call
use Rattle.pieces.proofs.has_bits as has-bits-call
use Rattle.pieces.proofs.set_of_kind as set-of-kind-call
use Rattle.imports.proofs.set_of as set-of-call
use Rattle.line.proofs.put_line as put-line-call
use Rattle.listed.proofs.listing as listing-call
use Rattle.pledge.proofs.Offered.{Determined, both, and}

-- ANSWERS OF WHICH THE SAME IS TOLD

-- operands of a row
same_slot : (x y : Option (ℕ × ℕ)) (rest : List Slot) → slots_then x rest ≡ slots_then y rest → x ≡ y
unfolding slots_then
same_slot (Some (k, q)) (Some (l, r)) rest e = cc
same_slot (Some (k, q)) None rest e = let z : ◌≡◌ {A = ℕ} 0 1 = cc in absurd (omega arith)
same_slot None (Some (l, r)) rest e = let z : ◌≡◌ {A = ℕ} 0 1 = cc in absurd (omega arith)
same_slot None None rest e = refl

-- parameters of an enumerant
same_parameter : (x y : Option ℕ) (rest : List ℕ) → parameters_then x rest ≡ parameters_then y rest → x ≡ y
unfolding parameters_then
same_parameter (Some k) (Some l) rest e = cc
same_parameter (Some k) None rest e = let z : ◌≡◌ {A = ℕ} 0 1 = cc in absurd (omega arith)
same_parameter None (Some l) rest e = let z : ◌≡◌ {A = ℕ} 0 1 = cc in absurd (omega arith)
same_parameter None None rest e = refl

-- trackers, which are a count, a greatest id and a number of marks
same_tracker : {x y : TypeTracker} → x.count ≡ y.count → x.greatest ≡ y.greatest → x.marks ≡ y.marks → x ≡ y
same_tracker e f h =
    let by : ℕ → ℕ → ℕ → TypeTracker = λ n g m. record { count = n; greatest = g; marks = m } in
    ap₂ (λ (t : ℕ → TypeTracker) (m : ℕ). t m) (ap₂ by e f) h

-- layouts, of which all is known
same_layout : (x y : Layout) → x ≡ y
same_layout x y =
    let k : x.kinds ≡ y.kinds = both x.kinds_known y.kinds_known in
    let c : x.cells ≡ y.cells = both x.cells_known y.cells_known in
    λ j.
    record {
      kinds = k j;
      cells = c j;
      kinds_known = is_prop→PathP (λ i. k i ≡ kind_table) (λ i. Coded-set (coded_list coded_ℕ) (k i) kind_table) x.kinds_known y.kinds_known j;
      cells_known =
          is_prop→PathP (λ i. c i ≡ layout_table) (λ i. Coded-set (coded_list (coded_list coded_ℕ)) (c i) layout_table) x.cells_known y.cells_known j;
    }

-- what is stored of an instruction that was read
same_stored : (s g types l₀ s₀ l₁ s₁ l₂ s₂ : List ℕ) (p : Progress) (i : Instr) (r : Reader) → read_at s g types p ≡ got i r
    → Stored s g types l₀ s₀ l₁ s₁ p → Stored s g types l₀ s₀ l₂ s₂ p → (l₁ ≡ l₂) × (s₁ ≡ s₂)
unfolding Stored
same_stored s g types l₀ s₀ l₁ s₁ l₂ s₂ p i r e x y = (both (x i r e).0 (y i r e).0, both (x i r e).1 (y i r e).1)

-- THE CALLS

-- the word at a place
pub word_at : Determined word-at-call.Kinds.ps word-at-call.Kinds.r word-at-call.Reads.Asked word-at-call.Reads.Learnt
word_at = λ κs a x y after other ask p q. (both p q, refl)

-- the layout
pub layout_new : Determined layout-new-call.Kinds.ps layout-new-call.Kinds.r layout-new-call.Reads.Asked layout-new-call.Reads.Learnt
layout_new = λ κs a x y after other ask p q. (same_layout x y, refl)

-- what it says of an opcode in a state
pub layout_place : Determined layout-place-call.Kinds.ps layout-place-call.Kinds.r layout-place-call.Reads.Asked layout-place-call.Reads.Learnt
layout_place = λ κs a x y after other ask p q. (both p q, refl)

-- the item at a place of a grammar
pub item_at : Determined item-at-call.Kinds.ps item-at-call.Kinds.r item-at-call.Reads.Asked item-at-call.Reads.Learnt
item_at = λ κs a x y after other ask p q. (both p q, refl)

-- its length
pub item_length : Determined item-length-call.Kinds.ps item-length-call.Kinds.r item-length-call.Reads.Asked item-length-call.Reads.Learnt
item_length = λ κs a x y after other ask p q. (both p q, refl)

-- the operand of a row at a place
pub slot_at : Determined slot-at-call.Kinds.ps slot-at-call.Kinds.r slot-at-call.Reads.Asked slot-at-call.Reads.Learnt
slot_at = λ κs a x y after other ask p q. (same_slot x y _ (sym p.0 ∙ q.0), refl)

-- the parameter of an enumerant at a place
pub parameter_at : Determined parameter-at-call.Kinds.ps parameter-at-call.Kinds.r parameter-at-call.Reads.Asked parameter-at-call.Reads.Learnt
parameter_at = λ κs a x y after other ask p q. (same_parameter x y _ (sym p.0 ∙ q.0), refl)

-- whether an enumerant is known
pub is_known : Determined is-known-call.Kinds.ps is-known-call.Kinds.r is-known-call.Reads.Asked is-known-call.Reads.Learnt
is_known = λ κs a x y after other ask p q. (both p q, refl)

-- whether no kind is noted in both
pub are_apart : Determined are-apart-call.Kinds.ps are-apart-call.Kinds.r are-apart-call.Reads.Asked are-apart-call.Reads.Learnt
are_apart = λ κs a x y after other ask p q. (both p q, refl)

-- the tests on operand kinds
pub is_mask : Determined is-mask-call.Kinds.ps is-mask-call.Kinds.r is-mask-call.Reads.Asked is-mask-call.Reads.Learnt
is_mask = λ κs a x y after other ask p q. (both p q, refl)

pub is_enum : Determined is-enum-call.Kinds.ps is-enum-call.Kinds.r is-enum-call.Reads.Asked is-enum-call.Reads.Learnt
is_enum = λ κs a x y after other ask p q. (both p q, refl)

pub is_result : Determined is-result-call.Kinds.ps is-result-call.Kinds.r is-result-call.Reads.Asked is-result-call.Reads.Learnt
is_result = λ κs a x y after other ask p q. (both p q, refl)

pub may_be_operand : Determined may-be-operand-call.Kinds.ps may-be-operand-call.Kinds.r may-be-operand-call.Reads.Asked may-be-operand-call.Reads.Learnt
may_be_operand = λ κs a x y after other ask p q. (both p q, refl)

pub may_be_parameter : Determined may-be-parameter-call.Kinds.ps may-be-parameter-call.Kinds.r may-be-parameter-call.Reads.Asked may-be-parameter-call.Reads.Learnt
may_be_parameter = λ κs a x y after other ask p q. (both p q, refl)

-- the order of rows and enumerants
pub rises_to : Determined rises-to-call.Kinds.ps rises-to-call.Kinds.r rises-to-call.Reads.Asked rises-to-call.Reads.Learnt
rises_to = λ κs a x y after other ask p q. (both p q, refl)

-- the mark of an item
pub mark_of : Determined mark-of-call.Kinds.ps mark-of-call.Kinds.r mark-of-call.Reads.Asked mark-of-call.Reads.Learnt
mark_of = λ κs a x y after other ask p q. (both p q, refl)

-- the rules of a well-formed grammar
pub enumerant_rule : Determined enumerant-rule-call.Kinds.ps enumerant-rule-call.Kinds.r enumerant-rule-call.Reads.Asked enumerant-rule-call.Reads.Learnt
enumerant_rule = λ κs a x y after other ask p q. (both p q, refl)

pub parameter_rule : Determined parameter-rule-call.Kinds.ps parameter-rule-call.Kinds.r parameter-rule-call.Reads.Asked parameter-rule-call.Reads.Learnt
parameter_rule = λ κs a x y after other ask p q. (both p q, refl)

pub may_follow : Determined may-follow-call.Kinds.ps may-follow-call.Kinds.r may-follow-call.Reads.Asked may-follow-call.Reads.Learnt
may_follow = λ κs a x y after other ask p q. (both p q, refl)

-- one more kind that is noted
pub note : Determined note-call.Kinds.ps note-call.Kinds.r note-call.Reads.Asked note-call.Reads.Learnt
note = λ κs a x y after other ask p q. (refl, and (both p q) refl)

-- a tracker of no types
pub tracker_new : Determined tracker-new-call.Kinds.ps tracker-new-call.Kinds.r tracker-new-call.Reads.Asked tracker-new-call.Reads.Learnt
tracker_new = λ κs a x y after other ask p q. (both p q, refl)

-- the type of an id
pub tracker_resolve : Determined tracker-resolve-call.Kinds.ps tracker-resolve-call.Kinds.r tracker-resolve-call.Reads.Asked tracker-resolve-call.Reads.Learnt
tracker_resolve = λ κs a x y after other ask p q. (both p q, refl)

-- how many types there are after an instruction
pub tracker_after : Determined tracker-after-call.Kinds.ps tracker-after-call.Kinds.r tracker-after-call.Reads.Asked tracker-after-call.Reads.Learnt
tracker_after = λ κs a x y after other ask p q. (both p q, refl)

-- the tracker, the types and their hints after an instruction
pub tracker_track : Determined tracker-track-call.Kinds.ps tracker-track-call.Kinds.r tracker-track-call.Reads.Asked tracker-track-call.Reads.Learnt
tracker_track = λ κs a x y after other ask p q. (
  same_tracker (both p.count q.count) (both p.greatest q.greatest) (both p.marks q.marks),
  and refl (and (both p.store q.store) (and (both p.hints_are q.hints_are) refl)),
)

-- what is in use where an instruction begins
pub unused : Determined unused-call.Kinds.ps unused-call.Kinds.r unused-call.Reads.Asked unused-call.Reads.Learnt
unused = λ κs a x y after other ask p q. (both p q, refl)

-- the first of two offsets that break
pub first_break : Determined first-break-call.Kinds.ps first-break-call.Kinds.r first-break-call.Reads.Asked first-break-call.Reads.Learnt
first_break = λ κs a x y after other ask p q. (both p q, refl)

-- a refusal without a value
pub refused : Determined refused-call.Kinds.ps refused-call.Kinds.r refused-call.Reads.Asked refused-call.Reads.Learnt
refused = λ κs a x y after other ask p q. (both p q, refl)

-- a result more
pub with_result : Determined with-result-call.Kinds.ps with-result-call.Kinds.r with-result-call.Reads.Asked with-result-call.Reads.Learnt
with_result = λ κs a x y after other ask p q. (both p q, refl)

-- the kind of a literal for an operand
pub literal_for : Determined literal-for-call.Kinds.ps literal-for-call.Kinds.r literal-for-call.Reads.Asked literal-for-call.Reads.Learnt
literal_for = λ κs a x y after other ask p q. (both p.0 q.0, refl)

-- the place of the operand that comes next
pub next_place : Determined next-place-call.Kinds.ps next-place-call.Kinds.r next-place-call.Reads.Asked next-place-call.Reads.Learnt
next_place = λ κs a x y after other ask p q. (both p q, refl)

-- the words of a record
pub fields_at : Determined fields-at-call.Kinds.ps fields-at-call.Kinds.r fields-at-call.Reads.Asked fields-at-call.Reads.Learnt
fields_at = λ κs a x y after other ask p q. (both p q, refl)

pub numbers_at : Determined numbers-at-call.Kinds.ps numbers-at-call.Kinds.r numbers-at-call.Reads.Asked numbers-at-call.Reads.Learnt
numbers_at = λ κs a x y after other ask p q. (both p q, refl)

pub record_at : Determined record-at-call.Kinds.ps record-at-call.Kinds.r record-at-call.Reads.Asked record-at-call.Reads.Learnt
record_at = λ κs a x y after other ask p q. (both p q, refl)

-- an operand of the log
pub operand_at : Determined operand-at-call.Kinds.ps operand-at-call.Kinds.r operand-at-call.Reads.Asked operand-at-call.Reads.Learnt
operand_at = λ κs a x y after other ask p q. (both p.is q.is, refl)

-- a record put into the store
pub put_fields : Determined put-fields-call.Kinds.ps put-fields-call.Kinds.r put-fields-call.Reads.Asked put-fields-call.Reads.Learnt
put_fields = λ κs a x y after other ask p q. (refl, and (both p q) refl)

pub put_record : Determined put-record-call.Kinds.ps put-record-call.Kinds.r put-record-call.Reads.Asked put-record-call.Reads.Learnt
put_record = λ κs a x y after other ask p q. (refl, and (both p q) refl)

-- the first record of a length that breaks the store layout, or none
pub check_of : Determined check-of-call.Kinds.ps check-of-call.Kinds.r check-of-call.Reads.Asked check-of-call.Reads.Learnt
check_of = λ κs a x y after other ask p q. (both p q, refl)

-- a record counted
pub count : Determined count-call.Kinds.ps count-call.Kinds.r count-call.Reads.Asked count-call.Reads.Learnt
count = λ κs a x y after other ask p q. (both p q, refl)

-- the room in stores, and the first store that lacks it
pub room_in : Determined room-in-call.Kinds.ps room-in-call.Kinds.r room-in-call.Reads.Asked room-in-call.Reads.Learnt
room_in = λ κs a x y after other ask p q. (both p q, refl)

pub room_fault : Determined room-fault-call.Kinds.ps room-fault-call.Kinds.r room-fault-call.Reads.Asked room-fault-call.Reads.Learnt
room_fault = λ κs a x y after other ask p q. (both p q, refl)

-- the number at the end, the answer of a load that comes to no instruction, and of one that stopped
pub end_number : Determined end-number-call.Kinds.ps end-number-call.Kinds.r end-number-call.Reads.Asked end-number-call.Reads.Learnt
end_number = λ κs a x y after other ask p q. (both p q, refl)

pub no_instruction : Determined no-instruction-call.Kinds.ps no-instruction-call.Kinds.r no-instruction-call.Reads.Asked no-instruction-call.Reads.Learnt
no_instruction = λ κs a x y after other ask p q. (both p q, refl)

pub stopped : Determined stopped-call.Kinds.ps stopped-call.Kinds.r stopped-call.Reads.Asked stopped-call.Reads.Learnt
stopped = λ κs a x y after other ask p q. (both p q, refl)

-- what becomes of an instruction
pub admit : Determined admit-call.Kinds.ps admit-call.Kinds.r admit-call.Reads.Asked admit-call.Reads.Learnt
admit = λ κs a x y after other ask p q. (both p q, refl)

-- the operands of an instruction that was read, kept
pub keep_operands : Determined keep-operands-call.Kinds.ps keep-operands-call.Kinds.r keep-operands-call.Reads.Asked keep-operands-call.Reads.Learnt
keep_operands = λ κs a x y after other ask p q.
    let same = same_stored _ _ _ _ _ _ _ _ _ _ _ _ ask.1.1.1.handed.read p q in
    (refl, and refl (and refl (and same.0 (and same.1 refl))))

-- a word put into bytes
pub put_word : Determined put-word-call.Kinds.ps put-word-call.Kinds.r put-word-call.Reads.Asked put-word-call.Reads.Learnt
put_word = λ κs a x y after other ask p q. (refl, and (both p q) refl)

-- whether a kind takes two words
pub is_two : Determined is-two-call.Kinds.ps is-two-call.Kinds.r is-two-call.Reads.Asked is-two-call.Reads.Learnt
is_two = λ κs a x y after other ask p q. (both p q, refl)

-- the length of an operand in the log
pub record_length : Determined record-length-call.Kinds.ps record-length-call.Kinds.r record-length-call.Reads.Asked record-length-call.Reads.Learnt
record_length = λ κs a x y after other ask p q. (both p q, refl)

-- an operand kept in the log where it fits
pub keep_record : Determined keep-record-call.Kinds.ps keep-record-call.Kinds.r keep-record-call.Reads.Asked keep-record-call.Reads.Learnt
keep_record = λ κs a x y after other ask p q. (both p.0 q.0, and (both p.1 q.1) refl)

-- bytes put into a store
pub put_bytes : Determined put-bytes-call.Kinds.ps put-bytes-call.Kinds.r put-bytes-call.Reads.Asked put-bytes-call.Reads.Learnt
put_bytes = λ κs a x y after other ask p q. (refl, and (both p q) refl)

-- bytes kept in a store where they fit
pub keep_bytes : Determined keep-bytes-call.Kinds.ps keep-bytes-call.Kinds.r keep-bytes-call.Reads.Asked keep-bytes-call.Reads.Learnt
keep_bytes = λ κs a x y after other ask p q. (refl, and (both p q) refl)

-- an instruction put into an output
pub put_instruction : Determined put-instruction-call.Kinds.ps put-instruction-call.Kinds.r put-instruction-call.Reads.Asked put-instruction-call.Reads.Learnt
put_instruction = λ κs a x y after other ask p q. (refl, and refl (and refl (and refl (and (both p q) refl))))

-- where the instructions end, as read and in module order
pub end_of : Determined end-of-call.Kinds.ps end-of-call.Kinds.r end-of-call.Reads.Asked end-of-call.Reads.Learnt
end_of = λ κs a x y after other ask p q. (both p q, refl)

pub module_end : Determined module-end-call.Kinds.ps module-end-call.Kinds.r module-end-call.Reads.Asked module-end-call.Reads.Learnt
module_end = λ κs a x y after other ask p q. (both p q, refl)

-- the instructions put into an output, as read and in module order
pub put_read : Determined put-read-call.Kinds.ps put-read-call.Kinds.r put-read-call.Reads.Asked put-read-call.Reads.Learnt
put_read = λ κs a x y after other ask p q. (refl, and refl (and (both p q) refl))

pub put_module : Determined put-module-call.Kinds.ps put-module-call.Kinds.r put-module-call.Reads.Asked put-module-call.Reads.Learnt
put_module = λ κs a x y after other ask p q. (refl, and refl (and refl (and (both p q) refl)))

-- the names as one run of bytes
pub names_table : Determined names-table-call.Kinds.ps names-table-call.Kinds.r names-table-call.Reads.Asked names-table-call.Reads.Learnt
names_table = λ κs a x y after other ask p q. (both p q, refl)

-- the lower of two numbers
pub at_most : Determined at-most-call.Kinds.ps at-most-call.Kinds.r at-most-call.Reads.Asked at-most-call.Reads.Learnt
at_most = λ κs a x y after other ask p q. (both p q, refl)

-- a byte, put into a buffer
pub put : Determined put-call.Kinds.ps put-call.Kinds.r put-call.Reads.Asked put-call.Reads.Learnt
put = λ κs a x y after other ask p q. (both p.ends q.ends, and (both p.is q.is) refl)

-- how many digits a number has
pub digit_count : Determined digit-count-call.Kinds.ps digit-count-call.Kinds.r digit-count-call.Reads.Asked digit-count-call.Reads.Learnt
digit_count = λ κs a x y after other ask p q. (both p q, refl)

-- the digits of a number, as many as it has
pub digits : Determined digits-call.Kinds.ps digits-call.Kinds.r digits-call.Reads.Asked digits-call.Reads.Learnt
digits = λ κs a x y after other ask p q. (both p.ends q.ends, and (both p.is q.is) refl)

-- a number in decimal, written into a buffer
pub decimal : Determined decimal-call.Kinds.ps decimal-call.Kinds.r decimal-call.Reads.Asked decimal-call.Reads.Learnt
decimal = λ κs a x y after other ask p q. (both p.ends q.ends, and (both p.is q.is) refl)

-- the last hexadecimal digits of a number
pub hex : Determined hex-call.Kinds.ps hex-call.Kinds.r hex-call.Reads.Asked hex-call.Reads.Learnt
hex = λ κs a x y after other ask p q. (both p.ends q.ends, and (both p.is q.is) refl)

-- pieces of text, kept or only measured
pub put_byte : Determined put-byte-call.Kinds.ps put-byte-call.Kinds.r put-byte-call.Reads.Asked put-byte-call.Reads.Learnt
put_byte = λ κs a x y after other ask p q. (both p.place q.place, and (both p.stored q.stored) refl)

pub text_put_bytes : Determined text-put-bytes-call.Kinds.ps text-put-bytes-call.Kinds.r text-put-bytes-call.Reads.Asked text-put-bytes-call.Reads.Learnt
text_put_bytes = λ κs a x y after other ask p q. (both p.place q.place, and (both p.stored q.stored) refl)

pub put_number : Determined put-number-call.Kinds.ps put-number-call.Kinds.r put-number-call.Reads.Asked put-number-call.Reads.Learnt
put_number = λ κs a x y after other ask p q. (both p.place q.place, and (both p.stored q.stored) refl)

pub put_id : Determined put-id-call.Kinds.ps put-id-call.Kinds.r put-id-call.Reads.Asked put-id-call.Reads.Learnt
put_id = λ κs a x y after other ask p q. (both p.place q.place, and (both p.stored q.stored) refl)

pub put_name : Determined put-name-call.Kinds.ps put-name-call.Kinds.r put-name-call.Reads.Asked put-name-call.Reads.Learnt
put_name = λ κs a x y after other ask p q. (both p.place q.place, and refl (and refl (and refl (and (both p.stored q.stored) refl))))

pub put_operands : Determined put-operands-call.Kinds.ps put-operands-call.Kinds.r put-operands-call.Reads.Asked put-operands-call.Reads.Learnt
put_operands = λ κs a x y after other ask p q. (both p.place q.place, and refl (and refl (and refl (and refl (and refl (and (both p.stored q.stored) refl))))))

-- the place after an operand
pub operand_after : Determined after-call.Kinds.ps after-call.Kinds.r after-call.Reads.Asked after-call.Reads.Learnt
operand_after = λ κs a x y after other ask p q. (both p q, refl)

-- whether a value's text is that of its bits, and the set that it is named in
pub has_bits : Determined has-bits-call.Kinds.ps has-bits-call.Kinds.r has-bits-call.Reads.Asked has-bits-call.Reads.Learnt
has_bits = λ κs a x y after other ask p q. (both p q, refl)

pub set_of_kind : Determined set-of-kind-call.Kinds.ps set-of-kind-call.Kinds.r set-of-kind-call.Reads.Asked set-of-kind-call.Reads.Learnt
set_of_kind = λ κs a x y after other ask p q. (both p q, refl)

-- the set of an id
pub set_of : Determined set-of-call.Kinds.ps set-of-call.Kinds.r set-of-call.Reads.Asked set-of-call.Reads.Learnt
set_of = λ κs a x y after other ask p q. (both p q, refl)

-- an instruction's line
pub put_line : Determined put-line-call.Kinds.ps put-line-call.Kinds.r put-line-call.Reads.Asked put-line-call.Reads.Learnt
put_line = λ κs a x y after other ask p q. (both p.place q.place, and refl (and refl (and refl (and refl (and (both p.stored q.stored) refl)))))

-- a module's listing, written into a buffer
pub listing : Determined listing-call.Kinds.ps listing-call.Kinds.r listing-call.Reads.Asked listing-call.Reads.Learnt
listing = λ κs a x y after other ask p q. (both p.0 q.0, and refl (and (both p.1 q.1) refl))
