-- Demand 3: from a module to records and back. The words of the statements: `BeginWith` (Stores), and those of the definitions.
use Prim.Native.Nat.{ℕ, ◌*◌, ◌/◌, ◌≤◌}
use mathlib.Core.Path.{◌≡◌, ap, ap₂, sym, ◌∙◌, subst}
use mathlib.Core.Bool.{true}
use mathlib.Core.List.{List}
use mathlib.Core.Logic.{◌↔◌}
use lib.ListN.{length}
use Rattle.spec.specs.declared.Counts.{Counts}
use Rattle.spec.specs.Records.{Placed, record_size}
use Rattle.spec.specs.Load.{Same, load, Stores, stores_of}
use Rattle.spec.specs.Check.{good, check, given_by}
use Rattle.spec.specs.Write.{parse_bytes, write_parse, written, wrote}
use Rattle.spec.specs.Words.{AllBytes}
use Rattle.demands.proofs.Stores.{BeginWith}
use Rattle.demands.proofs.Starts.{load_is}
use Rattle.demands.proofs.Returns.{accepts_plain, Returns, load_returns}
use Rattle.demands.proofs.ReadBack.{reads_back_whole, stores_tell}
use Rattle.demands.proofs.WriteBack.{load_written}

-- a module s comes back from bytes bs: these load to the same header words, instructions, type entries and counts, and so to the same
-- four stores, are plain, are as long as the module's whole words, and are bytes
pub record ComesBack (g : List ℕ) (room : Counts) (s bs : List ℕ) : Type 0 where
  pub same : Same (load g room bs) (load g room s)
  pub stores : stores_of (load g room bs) ≡ stores_of (load g room s)
  pub plain : (load g room bs).said.plain ≡ true
  pub long : length bs ≡ 4 * (length s / 4)
  pub bytes : AllBytes bs

module _ (g : List ℕ) (room : Counts) (s : List ℕ) (by : AllBytes s) where
  -- FROM BYTES

  -- an accepted module comes back from the bytes written for it in parse order
  pub comes_back : (load g room s).said.number ≡ 0 → ComesBack g room s (written (load g room s))
  comes_back accepted =
      let r : Returns g room s (load g room s) (written (load g room s)) = load_returns g room s by accepted in
      record {
        same = r.loads;
        stores = r.stores;
        plain = r.plain;
        long = r.long;
        bytes = r.bytes;
      }

  -- a plain module is accepted
  pub plain_accepted : (load g room s).said.plain ≡ true → (load g room s).said.number ≡ 0
  plain_accepted plain = accepts_plain (load_is g room s) plain

  -- and is the bytes written for it
  pub plain_is_written : (load g room s).said.plain ≡ true → s ≡ written (load g room s)
  plain_is_written plain = (load_returns g room s by (plain_accepted plain)).exact plain

  -- only such modules are plain
  pub plain_exactly : (load g room s).said.plain ≡ true ↔ (((load g room s).said.number ≡ 0) × (s ≡ written (load g room s)))
  plain_exactly = (
    λ plain. (plain_accepted plain, plain_is_written plain),
    λ both. subst (λ (w : List ℕ). (load g room w).said.plain ≡ true) (sym both.1) (comes_back both.0).plain,
  )

  -- FROM RECORDS, in any stores that begin with them

  module _ (t : Stores) (b : BeginWith t (stores_of (load g room s))) where
    -- the records of a load, accepted or refused, are written in parse order as those bytes: the number is 0, and an output with room
    -- for them begins with them
    pub writes : (out : List ℕ) → let x = load g room s in length (written x) ≤ length out
        → write_parse x.said.header (given_by t x.said.counts) out ≡ wrote (written x) out
    writes out h = load_written g room s by t b out h

    -- the records of a plain module are written as the module
    pub writes_back : (load g room s).said.plain ≡ true → (out : List ℕ) → length s ≤ length out
        → let x = load g room s in write_parse x.said.header (given_by t x.said.counts) out ≡ wrote s out
    writes_back plain out h =
        let is : s ≡ written (load g room s) = plain_is_written plain in
        writes out (subst (λ (l : List ℕ). length l ≤ length out) is h) ∙ ap (λ (l : List ℕ). wrote l out) (sym is)

    -- the records of an accepted module pass the check of module order and of standing too
    pub accepted_whole : (load g room s).said.number ≡ 0
        → let x = load g room s in check record_size true (given_by t x.said.counts) ≡ good x.kept
    accepted_whole accepted = reads_back_whole g room s by t b accepted

-- two plain modules with the same header words and the same four stores are the same bytes, whatever the grammars and the rooms
pub same_records : (g h : List ℕ) (room other : Counts) (s u : List ℕ) → AllBytes s → AllBytes u
    → (load g room s).said.plain ≡ true → (load h other u).said.plain ≡ true → (load g room s).said.header ≡ (load h other u).said.header
    → stores_of (load g room s) ≡ stores_of (load h other u) → s ≡ u
same_records g h room other s u bs bu ps pu header stores =
    let kept = (stores_tell g h room other s u bs bu stores).0 in
    plain_is_written g room s bs ps ∙ ap₂ (λ (ws : List ℕ) (is : List Placed). parse_bytes ws is) header kept
    ∙ sym (plain_is_written h other u bu pu)
