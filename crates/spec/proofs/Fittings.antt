-- The fourteen fittings hold: one statement, computed with the built-in grammar; and the listing of fitting 6.
use Rattle.std.specs.Prelude.{ℕ, ◌≡◌, refl, Bool, List, [], ◌∷◌, if◌then◌else◌}
use Rattle.std.proofs.Common.{ap, ◌∙◌}
use Rattle.spec.specs.declared.Counts.{Counts}
use Rattle.spec.specs.Words
use Rattle.spec.specs.Words.{bytes_of}
use Rattle.spec.specs.Text
use Rattle.spec.specs.Reader
use Rattle.spec.specs.Header
use Rattle.spec.specs.Grammar
use Rattle.spec.specs.Grammar.{Item, Grammar, grammar_by, grammar_of, items}
use Rattle.spec.specs.Table.{table}
use Rattle.spec.specs.Builtin.{builtin, builtin_items, builtin_well_formed}
use Rattle.spec.specs.Numbers
use Rattle.spec.specs.Records
use Rattle.spec.specs.Layout
use Rattle.spec.specs.Types
use Rattle.spec.specs.Match
use Rattle.spec.specs.Load
use Rattle.spec.specs.Load.{enough, nothing, load_with, load, stores_of}
use Rattle.spec.specs.Digits
use Rattle.spec.specs.Listing
use Rattle.spec.specs.Listing.{outcome_text, listing}
use Rattle.spec.specs.Plain
use Rattle.spec.specs.Fittings.{Fitting, fitting, shown, room_for, found, claimed, six, fittings, six_listed}

-- a load with the built-in grammar is one with its items
pub load_builtin : (room : Counts) (s : List ℕ) → load builtin room s ≡ load_with (grammar_by table) room s
unfolding load grammar_of
load_builtin room s =
    ap (λ (b : Bool). if b then load_with (grammar_by (items builtin)) room s else nothing 24 0) builtin_well_formed
    ∙ ap (λ (g : List Item). load_with (grammar_by g) room s) builtin_items

by_items : (fs : List Fitting) → found (λ s. load builtin (room_for s) s) fs ≡ found (λ s. load_with (grammar_by table) (room_for s) s) fs
unfolding found
by_items [] = refl
by_items (fitting s x ∷ fs) = cc (load_builtin (room_for s) s, by_items fs)

computed : found (λ s. load_with (grammar_by table) (room_for s) s) fittings ≡ claimed fittings
unfolding found claimed fittings shown stores_of table bytes_of Words.front_of Words.words_of Words.bits_from Words.bits_of Text.until_zero Text.lead_of Text.due_after Text.utf8_from Text.is_utf8 Reader.word_at Reader.read_long Reader.read_text Header.header_from grammar_by Grammar.slots_of Grammar.parameters_of Grammar.rows_of Grammar.enumerants_of Grammar.row_of Grammar.listed Grammar.bits_listed Grammar.parameters_for Records.operand_size Records.operand_log Records.operand_string Records.operands_log Records.operands_strings Records.string_store Records.log_from Records.fields_of Records.fields_from Records.field_words Records.record_words Records.records_with Records.called_for Records.numbered Records.instruction_store Numbers.onward Numbers.numbers_of Numbers.numbers_from Layout.kind_from Layout.opcode_kind Layout.layout_at Layout.layout_of Types.entry_of Types.define Types.track Match.read_enumerant Match.read_one Match.read_each Match.read_operand Match.read_literal_as Match.read_literal Match.read_once Match.read_embedded Match.read_pair Match.read_kind Match.read_slot Match.read_row Match.all_read Match.read_instr enough Load.room_fault Load.load_from load_with Text.not_zero Text.text_break Plain.first_break Plain.operand_break Plain.operands_break Plain.instr_break Plain.kept_break Plain.tail_break Plain.module_break
computed = refl

-- the fourteen fittings hold
pub fittings_hold : found (λ s. load builtin (room_for s) s) fittings ≡ claimed fittings
fittings_hold = by_items fittings ∙ computed

six_computed : outcome_text (load_with (grammar_by table) (enough 1019) six) ≡ six_listed
unfolding six_listed outcome_text Digits.digits_from Digits.decimal Listing.numbers_line Listing.version_line Listing.module_line Listing.record_lines Listing.accepted_line Listing.last_line table bytes_of Words.front_of Words.words_of Words.bits_from Words.bits_of Reader.word_at Header.header_from grammar_by Grammar.slots_of Grammar.parameters_of Grammar.rows_of Grammar.enumerants_of Grammar.row_of Grammar.listed Grammar.bits_listed Grammar.parameters_for Records.operand_log Records.operand_string Records.operands_log Records.operands_strings Layout.kind_from Layout.opcode_kind Layout.layout_at Layout.layout_of Types.entry_of Types.define Types.track Match.read_enumerant Match.read_one Match.read_each Match.read_operand Match.read_kind Match.read_slot Match.read_row Match.all_read Match.read_instr enough Load.room_fault Load.load_from load_with
six_computed = refl

-- the listing of fitting 6
pub six_listed_lem : listing six ≡ six_listed
unfolding listing bytes_of
six_listed_lem = ap outcome_text (load_builtin (enough 1019) six) ∙ six_computed
