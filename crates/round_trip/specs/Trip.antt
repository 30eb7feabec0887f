-- A round trip: a module is loaded, its records are written in the order read, and what was written is loaded into other stores.
use Rattle.std.specs.Prelude.{ℕ, ◌*◌, ◌/◌, ◌≤◌, ◌≡◌, Bool, true, false, List, length, take}
use Rattle.spec.specs.Load.{Outcome, Same, lacks_room, Stores, stores_of, laid_on}
use Rattle.spec.specs.Write.{Writing, write_parse, written, wrote}
use Rattle.spec.specs.Check.{given_by}
use Rattle.loader.specs.Loading.{loading}

-- by a grammar, of a module, with stores, an output and other stores
module _ (grammar s : List ℕ) (t : Stores) (out : List ℕ) (u : Stores) where
  -- the module's load
  unfoldable pub first : Outcome
  first = loading s grammar t

  -- the writing of its records
  unfoldable pub back : Writing
  back = write_parse first.said.header (given_by (laid_on t (stores_of first)) first.said.counts) out

  -- the load of what was written
  unfoldable pub second : Outcome
  second = loading (take back.said.bytes back.output) grammar u

  -- the module came back: it was accepted; its records were written as bytes, which are itself where it is plain; those are plain,
  -- are accepted too, and load to the same header words, instructions, type entries and counts, and the same records
  pub record CameBack : Type 0 where
    pub accepted : first.said.number ≡ 0
    pub output : back ≡ wrote (written first) out
    pub itself : first.said.plain ≡ true → written first ≡ s
    pub plain : second.said.plain ≡ true
    pub again : second.said.number ≡ 0
    pub same : Same second first
    pub stores : stores_of second ≡ stores_of first

  -- what is asked for that: the module is accepted, its whole words fit the output, and the other stores have room, so that the
  -- second load is not refused for room
  pub record Suited : Type 0 where
    pub accepted : first.said.number ≡ 0
    pub output : 4 * (length s / 4) ≤ length out
    pub room : lacks_room second.said ≡ false

  -- what a round trip answers, and leaves in the stores, the output and the other stores: yes exactly when the module came back;
  -- and it comes back where that is suited
  pub record RoundTrip (yes : Bool) (t' : Stores) (out' : List ℕ) (u' : Stores) : Type 0 where
    pub tells : yes ≡ true → CameBack
    pub told : CameBack → yes ≡ true
    pub suited : Suited → yes ≡ true
    pub loaded : t' ≡ laid_on t (stores_of first)
    pub output : out' ≡ back.output
    pub again : u' ≡ laid_on u (stores_of second)
