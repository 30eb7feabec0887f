-- The three demands over the contracts: what holds of every call that returned. `Loading` is a call of `load`, `load_builtin`,
-- `kollafrin_load` or `kollafrin_load_builtin`, `ParseWriting` one of `write_parse_order` or `kollafrin_write_parse_order`,
-- `ModuleWriting` one of `write_module_order` or `kollafrin_write_module_order`; `seen` and the like say what its caller sees.
use Prim.Native.Nat.{ℕ, ◌*◌, ◌/◌, ◌≤◌}
use mathlib.Core.Path.{◌≡◌, ap, ap₂, sym, ◌∙◌, subst}
use mathlib.Core.Bool.{true, false}
use mathlib.Core.List.{List}
use native.Mathlib.Omega.{arith}
use lib.ListN.{length, take}
use lib.Seq.{take-append_seam}
use Rattle.spec.specs.declared.State.{State}
use Rattle.spec.specs.declared.Loaded.{Loaded}
use Rattle.spec.specs.declared.Written.{Written}
use Rattle.spec.specs.Layout.{end_number}
use Rattle.spec.specs.Records.{record_size}
use Rattle.spec.specs.Load.{Outcome, lacks_room, with_plain, load, Stores, lent, stores_of, room_in, laid_on}
use Rattle.spec.specs.Check.{check, given_by}
use Rattle.spec.specs.Write.{parse_bytes, module_bytes, Writing, write_parse, write_module, written, wrote}
use Rattle.loader.specs.Loading.{loading}
use Rattle.demands.proofs.Returns.{end_of, ended}
use Rattle.demands.proofs.Numbers.{OfRoom, Source, OfLoad}
use Rattle.demands.proofs.Rooms.{any_room}
use Rattle.demands.proofs.Leaves.{Leaves, load_begins}
use Rattle.demands.proofs.Demand1.{number_bound, number_source, first_fault}
use Rattle.demands.proofs.Demand3.{comes_back, plain_accepted, plain_is_written, writes, same_records}
use Rattle.loader.proofs.load.Statement as load-contract
use Rattle.loader.proofs.load.Met as load-proof
use Rattle.loader.proofs.load_builtin.Statement as load-builtin-contract
use Rattle.loader.proofs.load_builtin.Met as load-builtin-proof
use Rattle.assemble.proofs.write_parse_order.Statement as write-parse-contract
use Rattle.assemble.proofs.write_parse_order.Met as write-parse-proof
use Rattle.assemble.proofs.write_module_order.Statement as write-module-contract
use Rattle.assemble.proofs.write_module_order.Met as write-module-proof
use Rattle.kollafrin.proofs.kollafrin_load.Statement as door-load-contract
use Rattle.kollafrin.proofs.kollafrin_load.Met as door-load-proof
use Rattle.kollafrin.proofs.kollafrin_load_builtin.Statement as door-load-builtin-contract
use Rattle.kollafrin.proofs.kollafrin_load_builtin.Met as door-load-builtin-proof
use Rattle.kollafrin.proofs.kollafrin_write_parse_order.Statement as door-write-parse-contract
use Rattle.kollafrin.proofs.kollafrin_write_parse_order.Met as door-write-parse-proof
use Rattle.kollafrin.proofs.kollafrin_write_module_order.Statement as door-write-module-contract
use Rattle.kollafrin.proofs.kollafrin_write_module_order.Met as door-write-module-proof
use Rattle.round_trip.proofs.round_trip.Statement as round-trip-contract
use Rattle.round_trip.proofs.round_trip.Met as round-trip-proof
use Rattle.round_trip.specs.Trip.{RoundTrip}
use Rattle.pledge.proofs.Calls.{Load, outcome, records, Loads, LoadCall, load_seen, LoadBuiltinCall, load_builtin_seen, DoorLoadCall, door_load_seen, DoorLoadBuiltinCall, door_load_builtin_seen, Loading, by_load, by_load_builtin, by_door, by_door_builtin, seen, Write, Writes, WriteParseCall, WriteModuleCall, write_seen, DoorWriteParseCall, DoorWriteModuleCall, door_write_seen, ParseWriting, by_write_parse, by_door_parse, parse_seen, ModuleWriting, by_write_module, by_door_module, module_seen, RoundTripCall}
use Rattle.pledge.proofs.Told.{loaded_by_lem, written_by_lem, refused_by, leaves_so, records_are}

-- DEMAND 2: each contract as a reader follows it, and the theorem that the code meets it

-- `load` answers what the definition of a load says of the module, by the grammar and the room in the stores; and leaves each store
-- with the records of the instructions kept from its start on, and past them what was there
pub load_loads : (c : LoadCall) → Loads (load_seen c)
load_loads c = c.told

pub load_met : {M : Type 1} → load-contract.statement M
load_met = load-proof.met

-- `load_builtin` does the same by the built-in grammar
pub load_builtin_loads : (c : LoadBuiltinCall) → Loads (load_builtin_seen c)
load_builtin_loads c = c.told

pub load_builtin_met : {M : Type 1} → load-builtin-contract.statement M
load_builtin_met = load-builtin-proof.met

-- `kollafrin_load` does the same, its answer in words
pub door_load_loads : (c : DoorLoadCall) → Loads (door_load_seen c)
door_load_loads c = loaded_by_lem c.told

pub door_load_met : {M : Type 1} → door-load-contract.statement M
door_load_met = door-load-proof.met

-- and `kollafrin_load_builtin`
pub door_load_builtin_loads : (c : DoorLoadBuiltinCall) → Loads (door_load_builtin_seen c)
door_load_builtin_loads c = loaded_by_lem c.told

pub door_load_builtin_met : {M : Type 1} → door-load-builtin-contract.statement M
door_load_builtin_met = door-load-builtin-proof.met

-- so does every call of the four
pub loads : (c : Loading) → Loads (seen c)
loads (by_load c) = load_loads c
loads (by_load_builtin c) = load_builtin_loads c
loads (by_door c) = door_load_loads c
loads (by_door_builtin c) = door_load_builtin_loads c

-- `write_parse_order` answers, and leaves in the output, what the definition says of writing the records in the order read
pub write_parse_writes : (c : WriteParseCall) → Writes write_parse (write_seen c)
write_parse_writes c = c.told

pub write_parse_met : {M : Type 1} → write-parse-contract.statement M
write_parse_met = write-parse-proof.met

-- `kollafrin_write_parse_order` does the same, its answer in words
pub door_write_parse_writes : (c : DoorWriteParseCall) → Writes write_parse (door_write_seen c)
door_write_parse_writes c = record { said = written_by_lem _ _ c.told.words; output = c.told.output }

pub door_write_parse_met : {M : Type 1} → door-write-parse-contract.statement M
door_write_parse_met = door-write-parse-proof.met

-- so does every call of the two
pub parse_writes : (c : ParseWriting) → Writes write_parse (parse_seen c)
parse_writes (by_write_parse c) = write_parse_writes c
parse_writes (by_door_parse c) = door_write_parse_writes c

-- `write_module_order` does the same for module order
pub write_module_writes : (c : WriteModuleCall) → Writes write_module (write_seen c)
write_module_writes c = c.told

pub write_module_met : {M : Type 1} → write-module-contract.statement M
write_module_met = write-module-proof.met

-- and `kollafrin_write_module_order`, its answer in words
pub door_write_module_writes : (c : DoorWriteModuleCall) → Writes write_module (door_write_seen c)
door_write_module_writes c = record { said = written_by_lem _ _ c.told.words; output = c.told.output }

pub door_write_module_met : {M : Type 1} → door-write-module-contract.statement M
door_write_module_met = door-write-module-proof.met

-- so does every call of the two
pub module_writes : (c : ModuleWriting) → Writes write_module (module_seen c)
module_writes (by_write_module c) = write_module_writes c
module_writes (by_door_module c) = door_write_module_writes c

-- DEMAND 1

-- what a load u of the module cut where the instructions that a load v kept end says and leaves
pub record CutSays (v u : Load) : Type 0 where
  pub stores : u.after ≡ v.after
  pub counts : u.answer.counts ≡ v.answer.counts
  pub header : u.answer.header ≡ v.answer.header
  pub state : State
  pub number : u.answer.number ≡ end_number state
  pub offset : u.answer.offset ≡ end_of (outcome v)

module _ (c : Loading) where
  -- a load's number is 0 to 28, or 31
  pub load_number : OfLoad (seen c).answer.number
  unfolding loading
  load_number = let v = seen c in rw (loads c).leaves.said (number_bound v.grammar (room_in v.before) v.bytes)

  -- and comes from the grammar (24), the module's length (31), the header (1 to 3), reading an instruction (4 to 14), the layout (15
  -- to 23), room that lacks (25 to 28), or the end (0, 16, 21)
  pub load_source : Source (seen c).grammar (seen c).bytes OfRoom (seen c).answer.number
  unfolding loading
  load_source = let v = seen c in rw (loads c).leaves.said (number_source v.grammar (room_in v.before) v.bytes)

  -- a load, refused or not, leaves each store as the records of the instructions before the fault laid over what was there
  pub load_leaves : Leaves (seen c).before (outcome (seen c)) (seen c).after
  load_leaves = leaves_so (seen c) (loads c)

  -- the first fault: the module cut where the instructions kept end, loaded with the same stores, leaves the same stores, counts
  -- and header words, and is answered by 0, 16 or 21 there
  pub load_first_fault : (d : Loading) → 1 ≤ (seen c).answer.index → (seen d).grammar ≡ (seen c).grammar → (seen d).before ≡ (seen c).before
      → (seen d).bytes ≡ take (end_of (outcome (seen c))) (seen c).bytes → CutSays (seen c) (seen d)
  unfolding loading stores_of
  load_first_fault d h g t s =
      let v : Load = seen c in
      let l : Loads v = loads c in
      let m : Loads (seen d) = loads d in
      let cut = first_fault v.grammar (room_in v.before) v.bytes (rw (← l.leaves.said) h) in
      let same : outcome (seen d) ≡ with_plain (seen d).bytes (ended cut.0 (outcome v)) = rw (g, t, s) cut.1 in
      let told : (seen d).answer ≡ (with_plain (seen d).bytes (ended cut.0 (outcome v))).said = m.leaves.said ∙ ap (λ (o : Outcome). o.said) same in
      record {
        stores =
            m.leaves.stores ∙ ap₂ (λ (b : Stores) (o : Outcome). laid_on b (stores_of o)) t same ∙ sym l.leaves.stores;
        counts = ap (λ (a : Loaded). a.counts) told ∙ ap (λ (a : Loaded). a.counts) (sym l.leaves.said);
        header = ap (λ (a : Loaded). a.header) told ∙ ap (λ (a : Loaded). a.header) (sym l.leaves.said);
        state = cut.0;
        number = ap (λ (a : Loaded). a.number) told;
        offset = ap (λ (a : Loaded). a.offset) told;
      }

-- a refused write leaves the output as it was, in either order
pub write_parse_refused : (c : ParseWriting) → ((parse_seen c).answer.number ≡ 0 → ⊥) → (parse_seen c).after ≡ (parse_seen c).before
unfolding write_parse
write_parse_refused c not-0 =
    let w : Write = parse_seen c in
    (parse_writes c).output
    ∙ refused_by (check record_size false w.records) (parse_bytes w.header) w.before
    (λ z. not-0 (ap (λ (a : Written). a.number) (parse_writes c).said ∙ z))

pub write_module_refused : (c : ModuleWriting) → ((module_seen c).answer.number ≡ 0 → ⊥)
    → (module_seen c).after ≡ (module_seen c).before
unfolding write_module
write_module_refused c not-0 =
    let w : Write = module_seen c in
    (module_writes c).output
    ∙ refused_by (check record_size true w.records) (module_bytes w.header) w.before
    (λ z. not-0 (ap (λ (a : Written). a.number) (module_writes c).said ∙ z))

-- DEMAND 3

-- the load says that the module is plain
abbrev pub PlainLoad : Loading → Type 0
PlainLoad c = (seen c).answer.plain ≡ true

-- what it says is so by the definition
plain_load : (c : Loading) → PlainLoad c → (outcome (seen c)).said.plain ≡ true
plain_load c plain = ap (λ (a : Loaded). a.plain) (sym (loads c).leaves.said) ∙ plain

-- two plain modules whose loads answer the same header words and leave the same records are the same bytes
pub same_bytes : (c d : Loading) → PlainLoad c → PlainLoad d → (seen c).answer.header ≡ (seen d).answer.header
    → records (seen c) ≡ records (seen d)
    → (seen c).bytes ≡ (seen d).bytes
unfolding loading
same_bytes c d plain-c plain-d header same =
    let v : Load = seen c in
    let u : Load = seen d in
    let l : Loads v = loads c in
    let m : Loads u = loads d in
    same_records v.grammar u.grammar (room_in v.before) (room_in u.before) v.bytes u.bytes l.bytes m.bytes
    (plain_load c plain-c) (plain_load d plain-d) (ap (λ (a : Loaded). a.header) (sym l.leaves.said) ∙ header ∙ ap (λ (a : Loaded). a.header) m.leaves.said)
    (sym (records_are v l) ∙ same ∙ records_are u m)

-- a write w is handed the header words and records of a load v, as the load left them
pub record Hands (v : Load) (w : Write) : Type 0 where
  pub header : w.header ≡ v.answer.header
  pub records : w.records ≡ given_by v.after v.answer.counts

module _ (c : Loading) (p : ParseWriting) (hands : Hands (seen c) (parse_seen p)) where
  -- the load and the write
  abbrev v : Load
  v = seen c

  abbrev w : Write
  w = parse_seen p

  -- what is then written, where it fits
  handed_writes : length (written (outcome v)) ≤ length w.before
      → write_parse w.header w.records w.before ≡ wrote (written (outcome v)) w.before
  unfolding loading
  handed_writes fits =
      rw (hands.header, hands.records, (loads c).leaves.said, (loads c).leaves.stores)
      (writes v.grammar (room_in v.before) v.bytes (loads c).bytes (laid_on v.before (stores_of (outcome v)))
      (load_begins v.grammar v.bytes v.before) w.before fits)

  -- writing the records of a plain module in the order read gives its bytes back: they stand at the start of the output, and past
  -- them what was there
  pub written_back : PlainLoad c → length (seen c).bytes ≤ length (parse_seen p).before
      → let it = wrote (seen c).bytes (parse_seen p).before in
      ((parse_seen p).answer ≡ it.said) × ((parse_seen p).after ≡ it.output)
  unfolding loading
  written_back plain fits =
      let is : v.bytes ≡ written (outcome v) = plain_is_written v.grammar (room_in v.before) v.bytes (loads c).bytes (plain_load c plain) in
      let wrote_it : write_parse w.header w.records w.before ≡ wrote v.bytes w.before =
      handed_writes (subst (λ (s : List ℕ). length s ≤ length w.before) is fits) ∙ ap (λ (s : List ℕ). wrote s w.before) (sym is) in
      ((parse_writes p).said ∙ ap (λ (x : Writing). x.said) wrote_it, (parse_writes p).output ∙ ap (λ (x : Writing). x.output) wrote_it)

  -- what is written for an accepted module, loaded again by the same grammar into stores with room, is plain, and has the same
  -- header words, counts and records
  pub comes_again : (seen c).answer.number ≡ 0 → 4 * (length (seen c).bytes / 4) ≤ length (parse_seen p).before → (d : Loading)
      → (seen d).grammar ≡ (seen c).grammar → lacks_room (seen d).answer ≡ false
      → (seen d).bytes ≡ take (parse_seen p).answer.bytes (parse_seen p).after
      → PlainLoad d × ((seen d).answer.header ≡ (seen c).answer.header) × ((seen d).answer.counts ≡ (seen c).answer.counts)
      × (records (seen d) ≡ records (seen c))
  unfolding loading
  comes_again accepted fits d g roomy s =
      let u : Load = seen d in
      let zero : (outcome v).said.number ≡ 0 = ap (λ (a : Loaded). a.number) (sym (loads c).leaves.said) ∙ accepted in
      let back = comes_back v.grammar (room_in v.before) v.bytes (loads c).bytes zero in
      let it = handed_writes (omega (arith, back.long)) in
      let bytes : u.bytes ≡ written (outcome v) =
      s ∙ ap₂ (λ (k : ℕ) (o : List ℕ). take k o) (ap (λ (a : Written). a.bytes) (parse_writes p).said) (parse_writes p).output
      ∙ ap (λ (x : Writing). take x.said.bytes x.output) it ∙ take-append_seam (written (outcome v)) _ in
      let again : (load v.grammar (room_in v.before) (written (outcome v))).said.number ≡ 0 =
      plain_accepted v.grammar (room_in v.before) (written (outcome v)) back.bytes back.plain in
      let room : outcome u ≡ load v.grammar (room_in v.before) (written (outcome v)) =
      ap₂ (λ (h b : List ℕ). load h (room_in u.before) b) g bytes
      ∙ any_room v.grammar (room_in u.before) (room_in v.before) (written (outcome v))
      (ap lacks_room (ap₂ (λ (h b : List ℕ). (load h (room_in u.before) b).said) (sym g) (sym bytes) ∙ sym (loads d).leaves.said) ∙ roomy)
      (rw again) in
      let answer-d = (loads d).leaves.said ∙ ap (λ (o : Outcome). o.said) room in
      let answer-c = sym (loads c).leaves.said in (
        ap (λ (a : Loaded). a.plain) answer-d ∙ back.plain,
        ap (λ (a : Loaded). a.header) answer-d ∙ back.same.header ∙ ap (λ (a : Loaded). a.header) answer-c,
        ap (λ (a : Loaded). a.counts) answer-d ∙ back.same.counts ∙ ap (λ (a : Loaded). a.counts) answer-c,
        records_are u (loads d) ∙ ap stores_of room ∙ back.stores ∙ sym (records_are v (loads c)),
      )

-- `round_trip` does all of that: it loads, writes in the order read, and loads what was written
pub round_trip_says : (c : RoundTripCall)
    → let a = c.given.1.1 in
    let b = a.1.1.1.1.1 in
    let y = c.left.1.1 in
    let z = y.1.1.1.1.1 in
    RoundTrip c.given.1.0.now c.given.0.now (lent a.0.now a.1.0.now a.1.1.0.now a.1.1.1.0.now)
    a.1.1.1.1.0.now (lent b.0.now b.1.0.now b.1.1.0.now b.1.1.1.0.now) c.answer
    (lent y.0 y.1.0 y.1.1.0 y.1.1.1.0) y.1.1.1.1.0 (lent z.0 z.1.0 z.1.1.0 z.1.1.1.0)
round_trip_says c = c.told

pub round_trip_met : {M : Type 1} → round-trip-contract.statement M
round_trip_met = round-trip-proof.met
