-- Calls of the functions that load and write, as their callers see them: those of the library, and those at the door, whose answers
-- are words.
use Prim.Native.Nat.{ℕ, ◌+◌, ◌*◌}
use mathlib.Core.List.{List}
use lib.Dec.{eqb}
use lib.ListN.{get_or, take, drop}
use contract.Lifetimes.{Lfts}
use denote.Triple.Clauses.{Lasts, at_exit}
use borrow.Fn.Kinds.{ParamKind, ResultKind, Out, Dens, res_t, ended_of}
use Rattle.spec.specs.declared.Loaded.{Loaded}
use Rattle.spec.specs.declared.Written.{Written}
use Rattle.spec.specs.Records.{record_size, entry_size}
use Rattle.spec.specs.Load.{counts, Outcome, Stores, lent}
use Rattle.spec.specs.Check.{Given}
use Rattle.spec.specs.Write.{Writing}
use Rattle.spec.specs.Builtin.{builtin}
use Rattle.records.specs.Steps.{given as records-given}
use Rattle.loader.specs.Loading.{loading, Loads as LoadsSo}
use Rattle.loader.proofs.load as load_fn
use Rattle.loader.proofs.load_builtin as load-builtin-fn
use Rattle.assemble.proofs.write_parse_order as write-parse-fn
use Rattle.assemble.proofs.write_module_order as write-module-fn
use Rattle.assemble.specs.Writes as writer
use Rattle.round_trip.proofs.round_trip as round-trip-fn
use Rattle.kollafrin.proofs.kollafrin_load as door-load-fn
use Rattle.kollafrin.proofs.kollafrin_load_builtin as door-load-builtin-fn
use Rattle.kollafrin.proofs.kollafrin_write_parse_order as door-write-parse-fn
use Rattle.kollafrin.proofs.kollafrin_write_module_order as door-write-module-fn

-- a call that returned: its arguments, its answer, and what is left in all that was lent to be changed, such as the contract tells
-- a caller
pub record Call {n : ℕ} (ps : List (ParamKind n)) (r : ResultKind n) (tells : Out n ps r) : Type 0 where
  pub lifetimes : Lfts n
  pub given : Dens lifetimes ps
  pub answer : (res_t r lifetimes).Denot
  pub left : Lasts (ended_of n ps r) lifetimes given
  pub told : tells lifetimes given answer (at_exit (ended_of n ps r) lifetimes given left)

-- LOADS

-- a load: the grammar's bytes, the module's bytes, the stores before it, its answer, the stores after it
pub record Load : Type 0 where
  pub grammar : List ℕ
  pub bytes : List ℕ
  pub before : Stores
  pub answer : Loaded
  pub after : Stores

-- what the definition makes of it
abbrev pub outcome : Load → Outcome
outcome v = loading v.bytes v.grammar v.before

-- the records that it leaves: each store up to its count
abbrev pub records : Load → Stores
records v =
    let n = v.answer.counts in
    lent (take (record_size * n.instructions) v.after.instructions) (take n.log v.after.log)
    (take n.strings v.after.strings) (take (entry_size * n.types) v.after.types)

-- it is as the contract of a load says: the answer; and in each store the records of what is left, laid over what was there. The
-- module is bytes
abbrev pub Loads : Load → Type 0
Loads v = LoadsSo v.bytes v.grammar v.before v.after v.answer

-- a call of `load`
abbrev pub LoadCall : Type 0
LoadCall = Call load_fn.Kinds.ps load_fn.Kinds.r load_fn.Reads.Learnt

abbrev pub load_seen : LoadCall → Load
load_seen c =
    let a = c.given.1.1 in
    let z = c.left.1.1 in
    record {
      grammar = c.given.1.0.now;
      bytes = c.given.0.now;
      before = lent a.0.now a.1.0.now a.1.1.0.now a.1.1.1.0.now;
      answer = c.answer;
      after = lent z.0 z.1.0 z.1.1.0 z.1.1.1.0;
    }

-- a call of `load_builtin`
abbrev pub LoadBuiltinCall : Type 0
LoadBuiltinCall = Call load-builtin-fn.Kinds.ps load-builtin-fn.Kinds.r load-builtin-fn.Reads.Learnt

abbrev pub load_builtin_seen : LoadBuiltinCall → Load
load_builtin_seen c =
    let a = c.given.1 in
    let z = c.left.1 in
    record {
      grammar = builtin;
      bytes = c.given.0.now;
      before = lent a.0.now a.1.0.now a.1.1.0.now a.1.1.1.0.now;
      answer = c.answer;
      after = lent z.0 z.1.0 z.1.1.0 z.1.1.1.0;
    }

-- the answer that the sixteen words of a load at the door say
abbrev pub loaded_by : List ℕ → Loaded
loaded_by ws =
    record {
      number = get_or ws 0 0;
      offset = get_or ws 1 0;
      index = get_or ws 2 0;
      value = get_or ws 3 0;
      header = take 5 (drop 8 ws);
      counts = counts (get_or ws 4 0) (get_or ws 5 0) (get_or ws 6 0) (get_or ws 7 0);
      plain = eqb (get_or ws 13 0) 1;
      breaks = get_or ws 14 0;
    }

-- a call of `kollafrin_load`
abbrev pub DoorLoadCall : Type 0
DoorLoadCall = Call door-load-fn.Kinds.ps door-load-fn.Kinds.r door-load-fn.Reads.Learnt

abbrev pub door_load_seen : DoorLoadCall → Load
door_load_seen c =
    let a = c.given.1.1 in
    let z = c.left.1.1 in
    record {
      grammar = c.given.1.0.now;
      bytes = c.given.0.now;
      before = lent a.0.now a.1.0.now a.1.1.0.now a.1.1.1.0.now;
      answer = loaded_by z.1.1.1.1.0;
      after = lent z.0 z.1.0 z.1.1.0 z.1.1.1.0;
    }

-- a call of `kollafrin_load_builtin`
abbrev pub DoorLoadBuiltinCall : Type 0
DoorLoadBuiltinCall = Call door-load-builtin-fn.Kinds.ps door-load-builtin-fn.Kinds.r door-load-builtin-fn.Reads.Learnt

abbrev pub door_load_builtin_seen : DoorLoadBuiltinCall → Load
door_load_builtin_seen c =
    let a = c.given.1 in
    let z = c.left.1 in
    record {
      grammar = builtin;
      bytes = c.given.0.now;
      before = lent a.0.now a.1.0.now a.1.1.0.now a.1.1.1.0.now;
      answer = loaded_by z.1.1.1.1.0;
      after = lent z.0 z.1.0 z.1.1.0 z.1.1.1.0;
    }

-- a call of any of the four
pub data Loading : Type 0 where
  by_load : LoadCall → Loading
  by_load_builtin : LoadBuiltinCall → Loading
  by_door : DoorLoadCall → Loading
  by_door_builtin : DoorLoadBuiltinCall → Loading

-- the load that it is
abbrev pub seen : Loading → Load
seen (by_load c) = load_seen c
seen (by_load_builtin c) = load_builtin_seen c
seen (by_door c) = door_load_seen c
seen (by_door_builtin c) = door_load_builtin_seen c

-- WRITES

-- a write: the header words, the records that are given with their counts, the output before it, its answer, the output after it
pub record Write : Type 0 where
  pub header : List ℕ
  pub records : Given
  pub before : List ℕ
  pub answer : Written
  pub after : List ℕ

-- it is as the definition of its order says: the answer; and the output
abbrev pub Writes : (List ℕ → Given → List ℕ → Writing) → Write → Type 0
Writes order w = writer.Writes (order w.header w.records w.before) w.after w.answer

-- calls of `write_parse_order` and `write_module_order`, which take and answer alike
abbrev pub WriteCall : Out _ write-parse-fn.Kinds.ps write-parse-fn.Kinds.r → Type 0
WriteCall tells = Call write-parse-fn.Kinds.ps write-parse-fn.Kinds.r tells

abbrev pub WriteParseCall : Type 0
WriteParseCall = WriteCall write-parse-fn.Reads.Learnt

abbrev pub WriteModuleCall : Type 0
WriteModuleCall = WriteCall write-module-fn.Reads.Learnt

abbrev pub write_seen : {tells : Out _ write-parse-fn.Kinds.ps write-parse-fn.Kinds.r} → WriteCall tells → Write
write_seen c =
    let a = c.given.1 in
    let n = a.1.1.1 in
    record {
      header = c.given.0;
      records = records-given a.0.now a.1.0.now a.1.1.0.now n.0 n.1.0 n.1.1.0;
      before = n.1.1.1.0.now;
      answer = c.answer;
      after = c.left.1.1.1.1.1.1.1.0;
    }

-- the answer that the four words of a writer at the door say
abbrev pub written_by : List ℕ → Written
written_by ws = record { number = get_or ws 0 0; index = get_or ws 1 0; bytes = get_or ws 2 0 + 4294967296 * get_or ws 3 0 }

-- calls of `kollafrin_write_parse_order` and `kollafrin_write_module_order`
abbrev pub DoorWriteCall : Out _ door-write-parse-fn.Kinds.ps door-write-parse-fn.Kinds.r → Type 0
DoorWriteCall tells = Call door-write-parse-fn.Kinds.ps door-write-parse-fn.Kinds.r tells

abbrev pub DoorWriteParseCall : Type 0
DoorWriteParseCall = DoorWriteCall door-write-parse-fn.Reads.Learnt

abbrev pub DoorWriteModuleCall : Type 0
DoorWriteModuleCall = DoorWriteCall door-write-module-fn.Reads.Learnt

abbrev pub door_write_seen : {tells : Out _ door-write-parse-fn.Kinds.ps door-write-parse-fn.Kinds.r} → DoorWriteCall tells → Write
door_write_seen c =
    let a = c.given.1 in
    let n = a.1.1.1 in
    let z = c.left.1.1.1.1.1.1.1 in
    record {
      header = c.given.0.now;
      records = records-given a.0.now a.1.0.now a.1.1.0.now n.0 n.1.0 n.1.1.0;
      before = n.1.1.1.0.now;
      answer = written_by z.1.0;
      after = z.0;
    }

-- a call of either that writes in the order read
pub data ParseWriting : Type 0 where
  by_write_parse : WriteParseCall → ParseWriting
  by_door_parse : DoorWriteParseCall → ParseWriting

-- the write that it is
abbrev pub parse_seen : ParseWriting → Write
parse_seen (by_write_parse c) = write_seen c
parse_seen (by_door_parse c) = door_write_seen c

-- a call of either that writes in module order
pub data ModuleWriting : Type 0 where
  by_write_module : WriteModuleCall → ModuleWriting
  by_door_module : DoorWriteModuleCall → ModuleWriting

-- the write that it is
abbrev pub module_seen : ModuleWriting → Write
module_seen (by_write_module c) = write_seen c
module_seen (by_door_module c) = door_write_seen c

-- THE ROUND TRIP

-- a call of `round_trip`
abbrev pub RoundTripCall : Type 0
RoundTripCall = Call round-trip-fn.Kinds.ps round-trip-fn.Kinds.r round-trip-fn.Reads.Learnt
