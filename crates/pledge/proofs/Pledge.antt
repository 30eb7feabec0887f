-- The fitter's pledge: every call that is offered takes any arguments, and any two results that its contract allows coincide. `Asked` is
-- what the contract's `requires` asks of a caller, `Learnt` what its `ensures` tells one; `clauses` is a contract as it is written.
use Prim.Native.Nat.{ℕ}
use mathlib.Core.Path.{◌≡◌, refl, ap, ap₂, sym}
use mathlib.Core.Bool.{Bool, true, false}
use mathlib.Core.List.{List}
use Rattle.spec.specs.Load.{Stores}
use Rattle.text.proofs.zero as zero-call
use Rattle.text.proofs.is_ascii_text as is-ascii-text-call
use Rattle.text.proofs.utf8 as utf8-call
use Rattle.decoder.specs.contracts.Decoder as decoder-type
use Rattle.decoder.specs.contracts.Text as text-type
use Rattle.spec.specs.contracts.Refusal as refusal-type
use Rattle.std.specs.contracts.result.Result as result-type
use denote.Builtin.{u32, u64}
use Rattle.decoder.proofs.header as header-call
use Rattle.decoder.proofs.Decoder.new as new-call
use Rattle.decoder.proofs.Decoder.offset as offset-call
use Rattle.decoder.proofs.Decoder.set_limit as set-limit-call
use Rattle.decoder.proofs.Decoder.clear_limit as clear-limit-call
use Rattle.decoder.proofs.Decoder.has_limit as has-limit-call
use Rattle.decoder.proofs.Decoder.limit_reached as limit-reached-call
use Rattle.decoder.proofs.Decoder.word as word-call
use Rattle.decoder.proofs.Decoder.int64 as int64-call
use Rattle.decoder.proofs.Decoder.string as string-call
use Rattle.decoder.specs.contracts.word_in as word-in-call
use Rattle.decoder.specs.contracts.int64_in as int64-in-call
use Rattle.decoder.specs.contracts.string_in as string-in-call
use Rattle.decoder.proofs.word_lent as word-lent-call
use Rattle.decoder.proofs.int64_lent as int64-lent-call
use Rattle.decoder.proofs.string_lent as string-lent-call
use Rattle.decoder.proofs.word_and_string as word-and-string-call
use Rattle.reflect.proofs.opcode_kind as opcode-kind-call
use Rattle.reflect.proofs.is_type as is-type-call
use Rattle.reflect.proofs.table as layout-table-call
use Rattle.reflect.proofs.kinds as kind-table-call
use Rattle.operand.proofs.parts_of as parts-of-call
use Rattle.formed.proofs.well_formed as well-formed-call
use Rattle.enumerant.proofs.enumerant as enumerant-call
use Rattle.builtin.proofs.table as builtin-table-call
use Rattle.records.proofs.check as check-call
use Rattle.loader.proofs.load as load-call
use Rattle.loader.proofs.load_builtin as load-builtin-call
use Rattle.assemble.proofs.write_parse_order as parse-call
use Rattle.assemble.proofs.write_module_order as module-call
use Rattle.standing.proofs.standing as standing-call
use Rattle.books.proofs.new_book as new-book-call
use Rattle.books.proofs.old_book as old-book-call
use Rattle.disassemble.proofs.disassemble as disassemble-call
use Rattle.join.proofs.join as join-call
use Rattle.round_trip.proofs.round_trip as round-trip-call
use Rattle.kollafrin.proofs.kollafrin_version as door-version-call
use Rattle.kollafrin.proofs.kollafrin_builtin as door-builtin-call
use Rattle.kollafrin.proofs.kollafrin_load as door-load-call
use Rattle.kollafrin.proofs.kollafrin_load_builtin as door-load-builtin-call
use Rattle.kollafrin.proofs.kollafrin_write_parse_order as door-write-parse-call
use Rattle.kollafrin.proofs.kollafrin_write_module_order as door-write-module-call
use Rattle.kollafrin.proofs.kollafrin_disassemble as door-disassemble-call
use Rattle.kollafrin.proofs.kollafrin_standing as door-standing-call
use Rattle.kollafrin.proofs.kollafrin_new_book as door-new-book-call
use Rattle.kollafrin.proofs.kollafrin_old_book as door-old-book-call
use Rattle.kollafrin.proofs.kollafrin_join as door-join-call
use Rattle.pledge.proofs.Offered.{Offered, OfferedLent, both, and, both_lent}

-- TEXT

-- where the first zero byte is
pub zero : Offered zero-call.Kinds.ps zero-call.Kinds.r zero-call.Reads.Asked zero-call.Reads.Learnt
zero = record { free = λ κs a. tt; one = λ κs a x y after other p q. (both p q, refl) }

-- whether bytes are ASCII text
pub is_ascii_text : Offered is-ascii-text-call.Kinds.ps is-ascii-text-call.Kinds.r is-ascii-text-call.Reads.Asked is-ascii-text-call.Reads.Learnt
is_ascii_text = record { free = λ κs a. tt; one = λ κs a x y after other p q. (both p q, refl) }

-- whether bytes are UTF-8
pub utf8 : Offered utf8-call.Kinds.ps utf8-call.Kinds.r utf8-call.Reads.Asked utf8-call.Reads.Learnt
utf8 = record { free = λ κs a. tt; one = λ κs a x y after other p q. (both p q, refl) }

-- THE DECODER, AND THE HEADER

-- the five header words, or the refusal
pub header : Offered header-call.Kinds.ps header-call.Kinds.r header-call.Reads.Asked header-call.Reads.Learnt
header = record { free = λ κs a. tt; one = λ κs a x y after other p q. (both p q, refl) }

-- a decoder at the start, with no limit
pub new : Offered new-call.Kinds.ps new-call.Kinds.r new-call.Reads.Asked new-call.Reads.Learnt
new = record { free = λ κs a. tt; one = λ κs a x y after other p q. (both p q, refl) }

-- its position
pub offset : Offered offset-call.Kinds.ps offset-call.Kinds.r offset-call.Reads.Asked offset-call.Reads.Learnt
offset = record { free = λ κs a. tt; one = λ κs a x y after other p q. (both p q, refl) }

-- the decoder with a limit
pub set_limit : Offered set-limit-call.Kinds.ps set-limit-call.Kinds.r set-limit-call.Reads.Asked set-limit-call.Reads.Learnt
set_limit = record { free = λ κs a. tt; one = λ κs a x y after other p q. (both p q, refl) }

-- the decoder with none
pub clear_limit :
    Offered clear-limit-call.Kinds.ps clear-limit-call.Kinds.r clear-limit-call.Reads.Asked clear-limit-call.Reads.Learnt
clear_limit = record { free = λ κs a. tt; one = λ κs a x y after other p q. (both p q, refl) }

-- whether it has a limit
pub has_limit : Offered has-limit-call.Kinds.ps has-limit-call.Kinds.r has-limit-call.Reads.Asked has-limit-call.Reads.Learnt
has_limit = record { free = λ κs a. tt; one = λ κs a x y after other p q. (both p q, refl) }

-- whether the limit is spent
pub limit_reached :
    Offered limit-reached-call.Kinds.ps limit-reached-call.Kinds.r limit-reached-call.Reads.Asked limit-reached-call.Reads.Learnt
limit_reached = record { free = λ κs a. tt; one = λ κs a x y after other p q. (both p q, refl) }

-- a word, or the refusal, with the decoder after it
pub word : Offered word-call.Kinds.ps word-call.Kinds.r word-call.Reads.Asked word-call.Reads.Learnt
word = record { free = λ κs a. tt; one = λ κs a x y after other p q. (both p q, refl) }

-- a 64-bit literal, or the refusal, with the decoder after it
pub int64 : Offered int64-call.Kinds.ps int64-call.Kinds.r int64-call.Reads.Asked int64-call.Reads.Learnt
int64 = record { free = λ κs a. tt; one = λ κs a x y after other p q. (both p q, refl) }

-- a string, or the refusal, with the decoder after it
pub string : Offered string-call.Kinds.ps string-call.Kinds.r string-call.Reads.Asked string-call.Reads.Learnt
string = record { free = λ κs a. tt; one = λ κs a x y after other p q. (both p q, refl) }

-- THE DECODER LENT

-- a word, or the refusal: the answer, and the decoder that was lent
pub word_in : OfferedLent word-in-call.ended (λ M 𝓤. word-in-call.clauses)
word_in =
    record {
      free = λ w κs a g m. tt;
      one = λ w κs a g x y after other m n p q. both_lent w m n (result-type.the_row u32 refusal-type.the_row).coded (decoder-type.the_row).coded p q;
    }

-- a 64-bit literal, or the refusal: the answer, and the decoder that was lent
pub int64_in : OfferedLent int64-in-call.ended (λ M 𝓤. int64-in-call.clauses)
int64_in =
    record {
      free = λ w κs a g m. tt;
      one = λ w κs a g x y after other m n p q. both_lent w m n (result-type.the_row u64 refusal-type.the_row).coded (decoder-type.the_row).coded p q;
    }

-- a string, or the refusal: the answer, and the decoder that was lent
pub string_in : OfferedLent string-in-call.ended (λ M 𝓤. string-in-call.clauses)
string_in =
    record {
      free = λ w κs a g m. tt;
      one = λ w κs a g x y after other m n p q. both_lent w m n (result-type.the_row text-type.the_row refusal-type.the_row).coded (decoder-type.the_row).coded p q;
    }

-- a word, a 64-bit literal and a string, or the refusal, by a decoder that is lent
pub word_lent : Offered word-lent-call.Kinds.ps word-lent-call.Kinds.r word-lent-call.Reads.Asked word-lent-call.Reads.Learnt
word_lent = record { free = λ κs a. tt; one = λ κs a x y after other p q. (both p q, refl) }

pub int64_lent : Offered int64-lent-call.Kinds.ps int64-lent-call.Kinds.r int64-lent-call.Reads.Asked int64-lent-call.Reads.Learnt
int64_lent = record { free = λ κs a. tt; one = λ κs a x y after other p q. (both p q, refl) }

pub string_lent : Offered string-lent-call.Kinds.ps string-lent-call.Kinds.r string-lent-call.Reads.Asked string-lent-call.Reads.Learnt
string_lent = record { free = λ κs a. tt; one = λ κs a x y after other p q. (both p q, refl) }

-- a word and the string after it, each or its refusal, and the place after both
pub word_and_string :
    Offered word-and-string-call.Kinds.ps word-and-string-call.Kinds.r word-and-string-call.Reads.Asked word-and-string-call.Reads.Learnt
word_and_string = record { free = λ κs a. tt; one = λ κs a x y after other p q. (both p q, refl) }

-- OPCODES AND OPERANDS

-- the kind of an opcode
pub opcode_kind :
    Offered opcode-kind-call.Kinds.ps opcode-kind-call.Kinds.r opcode-kind-call.Reads.Asked opcode-kind-call.Reads.Learnt
opcode_kind = record { free = λ κs a. tt; one = λ κs a x y after other p q. (both p q, refl) }

-- whether an opcode declares a type
pub is_type : Offered is-type-call.Kinds.ps is-type-call.Kinds.r is-type-call.Reads.Asked is-type-call.Reads.Learnt
is_type = record { free = λ κs a. tt; one = λ κs a x y after other p q. (both p q, refl) }

-- the layout table
pub layout_table :
    Offered layout-table-call.Kinds.ps layout-table-call.Kinds.r layout-table-call.Reads.Asked layout-table-call.Reads.Learnt
layout_table = record { free = λ κs a. tt; one = λ κs a x y after other p q. (both p q, refl) }

-- the kinds of the opcodes below 256
pub kind_table : Offered kind-table-call.Kinds.ps kind-table-call.Kinds.r kind-table-call.Reads.Asked kind-table-call.Reads.Learnt
kind_table = record { free = λ κs a. tt; one = λ κs a x y after other p q. (both p q, refl) }

-- an operand's kind and value
pub parts_of : Offered parts-of-call.Kinds.ps parts-of-call.Kinds.r parts-of-call.Reads.Asked parts-of-call.Reads.Learnt
parts_of = record { free = λ κs a. tt; one = λ κs a x y after other p q. (both p q, refl) }

-- GRAMMARS

-- whether bytes are a well-formed grammar
pub well_formed :
    Offered well-formed-call.Kinds.ps well-formed-call.Kinds.r well-formed-call.Reads.Asked well-formed-call.Reads.Learnt
well_formed = record { free = λ κs a. tt; one = λ κs a x y after other p q. (both p q, refl) }

-- an enumerant of a kind, or the refusal, with the decoder after it
pub enumerant : Offered enumerant-call.Kinds.ps enumerant-call.Kinds.r enumerant-call.Reads.Asked enumerant-call.Reads.Learnt
enumerant = record { free = λ κs a. tt; one = λ κs a x y after other p q. (both p q, refl) }

-- the built-in grammar
pub builtin_table :
    Offered builtin-table-call.Kinds.ps builtin-table-call.Kinds.r builtin-table-call.Reads.Asked builtin-table-call.Reads.Learnt
builtin_table = record { free = λ κs a. tt; one = λ κs a x y after other p q. (both p q, refl) }

-- RECORDS

-- the first record that breaks the store layout, or none
pub check : Offered check-call.Kinds.ps check-call.Kinds.r check-call.Reads.Asked check-call.Reads.Learnt
check = record { free = λ κs a. tt; one = λ κs a x y after other p q. (both p q, refl) }

-- LOADING AND WRITING

-- two fours of stores, and what follows them
and_stores : {A : Type 0} {t u : Stores} {x y : A} → t ≡ u → x ≡ y
    → ◌≡◌ {A = List ℕ × (List ℕ × (List ℕ × (List ℕ × A)))} (t.instructions, (t.log, (t.strings, (t.types, x))))
    (u.instructions, (u.log, (u.strings, (u.types, y))))
and_stores {A} p q = ap₂ (λ (t : Stores) (x : A). (t.instructions, (t.log, (t.strings, (t.types, x))))) p q

-- a load by the bytes of a grammar: the answer and all four stores after it
pub load : Offered load-call.Kinds.ps load-call.Kinds.r load-call.Reads.Asked load-call.Reads.Learnt
load =
    record {
      free = λ κs a. tt;
      one = λ κs a x y after other p q. (both p.leaves.said q.leaves.said, and refl (and refl (and_stores (both p.leaves.stores q.leaves.stores) refl)));
    }

-- a load by the built-in grammar: the answer and all four stores after it
pub load_builtin :
    Offered load-builtin-call.Kinds.ps load-builtin-call.Kinds.r load-builtin-call.Reads.Asked load-builtin-call.Reads.Learnt
load_builtin =
    record {
      free = λ κs a. tt;
      one = λ κs a x y after other p q. (both p.leaves.said q.leaves.said, and refl (and_stores (both p.leaves.stores q.leaves.stores) refl));
    }

-- a write in the order read: the answer and the output after it
pub write_parse_order : Offered parse-call.Kinds.ps parse-call.Kinds.r parse-call.Reads.Asked parse-call.Reads.Learnt
write_parse_order =
    record {
      free = λ κs a. tt;
      one = λ κs a x y after other p q.
          (both p.said q.said, ap (λ (o : List ℕ). (tt, (tt, (tt, (tt, (tt, (tt, (tt, (o, tt))))))))) (both p.output q.output));
    }

-- a write in module order: the answer and the output after it
pub write_module_order : Offered module-call.Kinds.ps module-call.Kinds.r module-call.Reads.Asked module-call.Reads.Learnt
write_module_order =
    record {
      free = λ κs a. tt;
      one = λ κs a x y after other p q.
          (both p.said q.said, ap (λ (o : List ℕ). (tt, (tt, (tt, (tt, (tt, (tt, (tt, (o, tt))))))))) (both p.output q.output));
    }

-- a listing: the answer and the output after it
pub disassemble : Offered disassemble-call.Kinds.ps disassemble-call.Kinds.r disassemble-call.Reads.Asked disassemble-call.Reads.Learnt
disassemble =
    record {
      free = λ κs a. tt;
      one = λ κs a x y after other p q.
          (both p.said q.said, ap (λ (o : List ℕ). (tt, (tt, (tt, (tt, (tt, (tt, (tt, (o, tt))))))))) (both p.output q.output));
    }

-- two grammars joined: the answer and the output after it
pub join : Offered join-call.Kinds.ps join-call.Kinds.r join-call.Reads.Asked join-call.Reads.Learnt
join =
    record {
      free = λ κs a. tt;
      one = λ κs a x y after other p q.
          (both p.0.said q.0.said, ap (λ (o : List ℕ). (tt, (tt, (o, tt)))) (both p.0.output q.0.output));
    }

-- whether records stand, or the refusal
pub standing : Offered standing-call.Kinds.ps standing-call.Kinds.r standing-call.Reads.Asked standing-call.Reads.Learnt
standing = record { free = λ κs a. tt; one = λ κs a x y after other p q. (both p q, refl) }

-- an old book turned into a new one: the answer and the output after it
pub new_book : Offered new-book-call.Kinds.ps new-book-call.Kinds.r new-book-call.Reads.Asked new-book-call.Reads.Learnt
new_book =
    record {
      free = λ κs a. tt;
      one = λ κs a x y after other p q.
          (both p.said q.said, ap (λ (o : List ℕ). (tt, (tt, (tt, (tt, (tt, (tt, (o, tt)))))))) (both p.output q.output));
    }

-- a new book turned into an old one
pub old_book : Offered old-book-call.Kinds.ps old-book-call.Kinds.r old-book-call.Reads.Asked old-book-call.Reads.Learnt
old_book =
    record {
      free = λ κs a. tt;
      one = λ κs a x y after other p q.
          (both p.said q.said, ap (λ (o : List ℕ). (tt, (tt, (tt, (tt, (tt, (tt, (o, tt)))))))) (both p.output q.output));
    }

-- two answers of which each is yes where the other is
same_yes : (x y : Bool) → (x ≡ true → y ≡ true) → (y ≡ true → x ≡ true) → x ≡ y
same_yes true y f g = sym (f refl)
same_yes false true f g = g refl
same_yes false false f g = refl

-- a round trip: the answer, all eight stores and the output after it
pub round_trip : Offered round-trip-call.Kinds.ps round-trip-call.Kinds.r round-trip-call.Reads.Asked round-trip-call.Reads.Learnt
round_trip =
    record {
      free = λ κs a. tt;
      one = λ κs a x y after other p q.
          let t = both p.loaded q.loaded in
          let u = both p.again q.again in (
            same_yes x y (λ e. q.told (p.tells e)) (λ e. p.told (q.tells e)),
            and refl (and refl (and_stores t (and (both p.output q.output) (and_stores u refl)))),
          );
    }

-- THE DOOR FOR OTHER LANGUAGES

-- the version of the layouts and calls
pub door_version :
    Offered door-version-call.Kinds.ps door-version-call.Kinds.r door-version-call.Reads.Asked door-version-call.Reads.Learnt
door_version = record { free = λ κs a. tt; one = λ κs a x y after other p q. (both p q, refl) }

-- the built-in grammar's length, and its bytes in the output where they fit
pub door_builtin :
    Offered door-builtin-call.Kinds.ps door-builtin-call.Kinds.r door-builtin-call.Reads.Asked door-builtin-call.Reads.Learnt
door_builtin =
    record { free = λ κs a. tt; one = λ κs a x y after other p q. (both p.0 q.0, and (both p.1 q.1) refl) }

-- a load: the number, all four stores and the words of the answer
pub door_load : Offered door-load-call.Kinds.ps door-load-call.Kinds.r door-load-call.Reads.Asked door-load-call.Reads.Learnt
door_load =
    record {
      free = λ κs a. tt;
      one = λ κs a x y after other p q.
          let stores = and_stores (both p.stores q.stores) (and (both p.words q.words) refl) in
          (both p.number q.number, and refl (and refl stores));
    }

-- the same by the built-in grammar
pub door_load_builtin :
    Offered door-load-builtin-call.Kinds.ps door-load-builtin-call.Kinds.r door-load-builtin-call.Reads.Asked door-load-builtin-call.Reads.Learnt
door_load_builtin =
    record {
      free = λ κs a. tt;
      one = λ κs a x y after other p q.
          let stores = and_stores (both p.stores q.stores) (and (both p.words q.words) refl) in
          (both p.number q.number, and refl stores);
    }

-- a write in the order read: the number, the output and the words of the answer
pub door_write_parse :
    Offered door-write-parse-call.Kinds.ps door-write-parse-call.Kinds.r door-write-parse-call.Reads.Asked door-write-parse-call.Reads.Learnt
door_write_parse =
    record {
      free = λ κs a. tt;
      one = λ κs a x y after other p q. (
        both p.number q.number,
        ap₂ (λ (o : List ℕ) (w : List ℕ). (tt, (tt, (tt, (tt, (tt, (tt, (tt, (o, (w, tt)))))))))) (both p.output q.output)
            (both p.words q.words),
      );
    }

-- the same in module order
pub door_write_module :
    Offered door-write-module-call.Kinds.ps door-write-module-call.Kinds.r door-write-module-call.Reads.Asked door-write-module-call.Reads.Learnt
door_write_module =
    record {
      free = λ κs a. tt;
      one = λ κs a x y after other p q. (
        both p.number q.number,
        ap₂ (λ (o : List ℕ) (w : List ℕ). (tt, (tt, (tt, (tt, (tt, (tt, (tt, (o, (w, tt)))))))))) (both p.output q.output)
            (both p.words q.words),
      );
    }

-- the same as a listing
pub door_disassemble :
    Offered door-disassemble-call.Kinds.ps door-disassemble-call.Kinds.r door-disassemble-call.Reads.Asked door-disassemble-call.Reads.Learnt
door_disassemble =
    record {
      free = λ κs a. tt;
      one = λ κs a x y after other p q. (
        both p.number q.number,
        ap₂ (λ (o : List ℕ) (w : List ℕ). (tt, (tt, (tt, (tt, (tt, (tt, (tt, (o, (w, tt)))))))))) (both p.output q.output)
            (both p.words q.words),
      );
    }

-- whether records stand: the number, and the words of the answer
pub door_standing :
    Offered door-standing-call.Kinds.ps door-standing-call.Kinds.r door-standing-call.Reads.Asked door-standing-call.Reads.Learnt
door_standing =
    record {
      free = λ κs a. tt;
      one = λ κs a x y after other p q.
          (both p.number q.number, ap (λ (w : List ℕ). (tt, (tt, (tt, (tt, (tt, (tt, (w, tt)))))))) (both p.words q.words));
    }

-- an old book turned into a new one: the number, the output and the words of the answer
pub door_new_book :
    Offered door-new-book-call.Kinds.ps door-new-book-call.Kinds.r door-new-book-call.Reads.Asked door-new-book-call.Reads.Learnt
door_new_book =
    record {
      free = λ κs a. tt;
      one = λ κs a x y after other p q. (
        both p.number q.number,
        ap₂ (λ (o : List ℕ) (w : List ℕ). (tt, (tt, (tt, (tt, (tt, (tt, (o, (w, tt))))))))) (both p.output q.output)
            (both p.words q.words),
      );
    }

-- a new book turned into an old one
pub door_old_book :
    Offered door-old-book-call.Kinds.ps door-old-book-call.Kinds.r door-old-book-call.Reads.Asked door-old-book-call.Reads.Learnt
door_old_book =
    record {
      free = λ κs a. tt;
      one = λ κs a x y after other p q. (
        both p.number q.number,
        ap₂ (λ (o : List ℕ) (w : List ℕ). (tt, (tt, (tt, (tt, (tt, (tt, (o, (w, tt))))))))) (both p.output q.output)
            (both p.words q.words),
      );
    }

-- two grammars joined: the number, the output and the words of the answer
pub door_join : Offered door-join-call.Kinds.ps door-join-call.Kinds.r door-join-call.Reads.Asked door-join-call.Reads.Learnt
door_join =
    record {
      free = λ κs a. tt;
      one = λ κs a x y after other p q. (
        both p.number q.number,
        ap₂ (λ (o : List ℕ) (w : List ℕ). (tt, (tt, (o, (w, tt))))) (both p.output q.output) (both p.words q.words),
      );
    }
