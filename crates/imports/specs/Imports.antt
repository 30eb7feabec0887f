-- Where the imports end.
use Rattle.std.specs.Prelude.{ℕ, ◌*◌, ◌<◌, ◌≤◌, ◌≡◌, List, drop}
use Rattle.spec.specs.Records.{record_size, fields_at}

-- no record from an index on is an import
unfoldable pub ImportsEnd : List ℕ → ℕ → ℕ → Type 0
ImportsEnd ws count end = (i : ℕ) → end ≤ i → i < count → (fields_at (drop (record_size * i) ws)).tag ≡ 3 → ⊥
