-- Laws of a tracker and its stores after a change of the entries.
use Prim.Native.Nat.{ℕ, ◌+◌, ◌*◌, ◌≤◌}
use mathlib.Core.Path.{◌≡◌, refl, ◌∙◌}
use mathlib.Core.List.{List, ◌∷◌, []}
use lib.ListN.{length}
use lib.Seq.{sets}
use Rattle.spec.specs.Records.{Entry}
use Rattle.spec.specs.Types.{define}
use Rattle.tracker.specs.declared.TypeTracker.{TypeTracker}
use Rattle.tracker.specs.Entries.{entries_of}
use Rattle.tracker.specs.Hints.{noted, greater_of, Hinted}
use Rattle.tracker.specs.Track.{Tracked}
use Rattle.tracker.proofs.Laws.{Sits, Misses, length_found, defined_found, length_missed, defined_missed, room_missed}
use Rattle.tracker.proofs.Results.{same_count, same_stored}
use Rattle.tracker.proofs.Hinting.{none_new, one_new, none_noted, one_noted, hinted_found, hinted_missed}

module _ (t : TypeTracker) (types hints : List ℕ) where
  -- the entries stay
  pub tracked_same : (es : List Entry) → entries_of t.count types ≡ es → 3 * t.count ≤ length types → Hinted t types hints
      → Tracked t types hints types hints es t
  tracked_same es e room h =
      let n = same_count t.count types es e in
      let k = none_noted t.marks t.count t.greatest hints _ (none_new t.count es n) in
      record { count = n; store = same_stored t.count types es e room; hints_are = k.0; greatest = k.1; marks = refl; hinted = h }

  module _ (i w s : ℕ) (h : Hinted t types hints) (types₁ : List ℕ) where
    -- an id that is found is defined
    pub tracked_found : (k : ℕ) → Sits i t.count k types → 3 * t.count ≤ length types → types₁ ≡ sets types (3 * k) (i ∷ w ∷ s ∷ [])
        → Tracked t types hints types₁ hints (define i w s (entries_of t.count types)) t
    tracked_found k m room e =
        let n = length_found m w s in
        let o = none_noted t.marks t.count t.greatest hints _ (none_new t.count _ n) in
        record { count = n; store = e ∙ defined_found m w s; hints_are = o.0; greatest = o.1; marks = refl; hinted = hinted_found t m w s room types₁ e h }

    -- a new id is defined
    pub tracked_missed : Misses i t.count types → 3 * length (define i w s (entries_of t.count types)) ≤ length types
        → types₁ ≡ sets types (3 * t.count) (i ∷ w ∷ s ∷ []) → (hints₁ : List ℕ) → hints₁ ≡ noted t.marks hints i t.count → (g : ℕ) → g ≡ greater_of t.greatest i
        → Tracked t types hints types₁ hints₁ (define i w s (entries_of t.count types)) (record { count = t.count + 1; greatest = g; marks = t.marks })
    tracked_missed m room e hints₁ f g q =
        let o = one_noted t.marks t.count t.greatest hints _ i w s (one_new m w s) hints₁ f g q in
        record {
          count = length_missed m w s;
          store = e ∙ defined_missed m w s;
          hints_are = o.0;
          greatest = o.1;
          marks = refl;
          hinted = hinted_missed t m w s (room_missed m w s room) types₁ e h hints₁ f g q;
        }

-- the entries that are meant
pub tracked_as : {t : TypeTracker} {types hints types₁ hints₁ : List ℕ} {es : List Entry} {r : TypeTracker} (fs : List Entry) → es ≡ fs
    → Tracked t types hints types₁ hints₁ es r → Tracked t types hints types₁ hints₁ fs r
tracked_as fs e h = rw e at h
