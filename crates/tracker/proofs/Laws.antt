-- Laws of the entries of a type store: what is stored is read back, and what a look-up and a definition come to by the place of an id.
use Prim.Native.Nat.{ℕ, zero, suc, ◌+◌, ◌*◌, ◌<◌, ◌≤◌}
use mathlib.Core.Path.{◌≡◌, refl, ap, sym, subst, ◌∙◌}
use mathlib.Core.Bool.{Bool, true, false}
use mathlib.Core.List.{List, [], ◌∷◌}
use native.Mathlib.Omega.{arith}
use native.Mathlib.Numerals.{add-one}
use lib.Dec.{eqb}
use lib.ListN.{length, get_or, drop}
use lib.Seq.{sets}
use borrow.Author.Tests.{eqb-true}
use Rattle.std.specs.Prelude.{if◌then◌else◌}
use Rattle.spec.specs.Base.{joined}
use Rattle.spec.specs.Records.{Entry, entry, entry_words}
use Rattle.spec.specs.Types.{entry_of, define}
use Rattle.spec.specs.Load.{laid_over}
use Rattle.spec.proofs.Store.{sets_rest}
use Rattle.tracker.specs.declared.Scalar.{Scalar}
use Rattle.tracker.specs.Entries.{entries_of, stored, place_from, place_of, type_at, resolved_by}
use Rattle.std.specs.Prelude.{None, Option, Some}

-- THE STORE

-- a store that holds n entries
pub data Holds : ℕ → List ℕ → Type 0 where
  none_yet : {l : List ℕ} → Holds 0 l
  one_more : {n a b c : ℕ} {l : List ℕ} → Holds n l → Holds (suc n) (a ∷ b ∷ c ∷ l)

-- so does each that is long enough
pub holds : (n : ℕ) (l : List ℕ) → 3 * n ≤ length l → Holds n l
holds zero l h = none_yet
holds (suc n) [] h = absurd (omega arith)
holds (suc n) (a ∷ []) h = absurd (omega arith)
holds (suc n) (a ∷ b ∷ []) h = absurd (omega arith)
holds (suc n) (a ∷ b ∷ c ∷ l) h = one_more (holds n l (omega arith))

-- it holds as many as are asked for
pub length_entries : (n : ℕ) (l : List ℕ) → length (entries_of n l) ≡ n
unfolding entries_of
length_entries zero l = refl
length_entries (suc n) l = ap suc (length_entries n (drop 3 l))

-- three words laid over three
laid : (a b c x y z : ℕ) (l ws : List ℕ) → sets (a ∷ b ∷ c ∷ l) 0 (x ∷ y ∷ z ∷ ws) ≡ x ∷ y ∷ z ∷ sets l 0 ws
laid a b c x y z l ws = sym (sets_rest ws (x ∷ y ∷ z ∷ l) 3 0)

-- its own entries change nothing
pub stored_own : {n : ℕ} {l : List ℕ} → Holds n l → stored l (entries_of n l) ≡ l
unfolding stored laid_over entries_of
stored_own none_yet = refl
stored_own (one_more {n} {a} {b} {c} {l} r) =
    laid a b c a b c l (joined entry_words (entries_of n l)) ∙ ap (λ (z : List ℕ). a ∷ b ∷ c ∷ z) (stored_own r)

-- entries that are stored are read back from a store that holds so many
read_back : (es : List Entry) {l : List ℕ} → Holds (length es) l → entries_of (length es) (stored l es) ≡ es
unfolding stored laid_over entries_of
read_back [] r = refl
read_back (entry i w s ∷ es) (one_more {a = a} {b = b} {c = c} {l = l} r) =
    ap (entries_of (suc (length es))) (laid a b c i w s l (joined entry_words es)) ∙ ap (λ (z : List Entry). entry i w s ∷ z) (read_back es r)

-- entries that are stored are read back, where there is room for them
pub entries_stored : (es : List Entry) (l : List ℕ) → 3 * length es ≤ length l → entries_of (length es) (stored l es) ≡ es
entries_stored es l h = read_back es (holds (length es) l h)

-- entries stored over no more of them are all that is stored, in a store that holds so many
over : (es fs : List Entry) {l : List ℕ} → Holds (length fs) l → length es ≤ length fs → stored (stored l es) fs ≡ stored l fs
unfolding stored laid_over
over [] fs r h = refl
over (entry i w s ∷ es) [] r h = absurd (omega arith)
over (entry i w s ∷ es) (entry j x y ∷ fs) (one_more {a = a} {b = b} {c = c} {l = l} r) h =
    ap (λ (z : List ℕ). sets z 0 (j ∷ x ∷ y ∷ joined entry_words fs)) (laid a b c i w s l (joined entry_words es))
    ∙ laid i w s j x y (sets l 0 (joined entry_words es)) (joined entry_words fs)
    ∙ ap (λ (z : List ℕ). j ∷ x ∷ y ∷ z) (over es fs r (omega arith))
    ∙ sym (laid a b c j x y l (joined entry_words fs))

-- entries stored over no more of them are all that is stored, where there is room for them
pub stored_over : (es fs : List Entry) (l : List ℕ) → 3 * length fs ≤ length l → length es ≤ length fs → stored (stored l es) fs ≡ stored l fs
stored_over es fs l h k = over es fs (holds (length fs) l h) k

-- THE PLACE OF AN ID

-- among n entries of a store the first of an id is at index k
pub data Sits (i : ℕ) : ℕ → ℕ → List ℕ → Type 0 where
  here : {n a b c : ℕ} {l : List ℕ} → eqb a i ≡ true → Holds n l → Sits i (suc n) 0 (a ∷ b ∷ c ∷ l)
  later : {n k a b c : ℕ} {l : List ℕ} → eqb a i ≡ false → Sits i n k l → Sits i (suc n) (suc k) (a ∷ b ∷ c ∷ l)

-- none of them is the id's
pub data Misses (i : ℕ) : ℕ → List ℕ → Type 0 where
  nowhere : {l : List ℕ} → Misses i 0 l
  not_here : {n a b c : ℕ} {l : List ℕ} → eqb a i ≡ false → Misses i n l → Misses i (suc n) (a ∷ b ∷ c ∷ l)

-- what a place says, where the first of the entries has index j
unfoldable Placed : ℕ → ℕ → ℕ → List ℕ → Option ℕ → Type 0
Placed j i n l (Some m) = (k : ℕ) × (j + k ≡ m) × Sits i n k l
Placed j i n l None = Misses i n l

-- by whether the first entry is the id's
placed_by : (i j n a b c : ℕ) (l : List ℕ) → Holds n l → (t : Bool) → eqb a i ≡ t → (f : Option ℕ) → Placed (suc j) i n l f
    → Placed j i (suc n) (a ∷ b ∷ c ∷ l) (if t then Some j else f)
unfolding Placed
placed_by i j n a b c l r true e f p = (0, omega arith, here e r)
placed_by i j n a b c l r false e (Some m) p = (suc p.0, omega (arith, p.1), later e p.2)
placed_by i j n a b c l r false e None p = not_here e p

-- where an id is found it sits, and where it is not found no entry is its own
placed : {n : ℕ} {l : List ℕ} → Holds n l → (i j : ℕ) → Placed j i n l (place_from j i (entries_of n l))
unfolding place_from entries_of Placed
placed none_yet i j = nowhere
placed (one_more {n} {a} {b} {c} {l} r) i j =
    placed_by i j n a b c l r (eqb a i) refl (place_from (suc j) i (entries_of n l)) (placed r i (suc j))

module _ {i n : ℕ} {l : List ℕ} (h : 3 * n ≤ length l) (f : Option ℕ) (e : f ≡ place_of i (entries_of n l)) where
  -- an id that is found sits there
  pub sits : (k : ℕ) → f ≡ Some k → Sits i n k l
  unfolding place_of Placed
  sits k q =
      let p : (m : ℕ) × (0 + m ≡ k) × Sits i n m l = subst (Placed 0 i n l) (sym e ∙ q) (placed (holds n l h) i 0) in
      let same : p.0 ≡ k = omega (arith, p.1) in
      subst (λ (m : ℕ). Sits i n m l) same p.2

  -- an id that is not found is in no entry
  pub misses : f ≡ None → Misses i n l
  unfolding place_of Placed
  misses q = subst (Placed 0 i n l) (sym e ∙ q) (placed (holds n l h) i 0)

-- its entry is one of the entries
pub sits_below : {i n k : ℕ} {l : List ℕ} → Sits i n k l → k < n
sits_below (here e r) = omega arith
sits_below (later e r) = let h = sits_below r in omega arith

-- its entry is one of the store's
pub sits_within : {i n k : ℕ} {l : List ℕ} → Sits i n k l → 3 * k + 3 ≤ length l
sits_within (here e r) = omega arith
sits_within (later e r) = let h = sits_within r in omega arith

-- the id that an entry has
pub own_word : {i n k : ℕ} {l : List ℕ} → Sits i n k l → get_or l (3 * k) 0 ≡ i
own_word {i} (here {a = a} e r) = eqb-true a i e
own_word (later {k = k} {a = a} {b = b} {c = c} {l = l} e r) =
    let q : 3 * suc k ≡ suc (suc (suc (3 * k))) = omega arith in
    ap (λ (m : ℕ). get_or (a ∷ b ∷ c ∷ l) m 0) q ∙ own_word r

-- A LOOK-UP

-- a word of an entry after the first
word_later : (a b c k j : ℕ) (l : List ℕ) → get_or l (3 * k + j) 0 ≡ get_or (a ∷ b ∷ c ∷ l) (3 * suc k + j) 0
word_later a b c k j l =
    let e : suc (suc (suc (3 * k + j))) ≡ 3 * suc k + j = omega arith in
    ap (λ (m : ℕ). get_or (a ∷ b ∷ c ∷ l) m 0) e

-- a width and a sort
abbrev scalar : ℕ → ℕ → Scalar
scalar w s = record { width = w; sort = s }

-- the type of an id that is found
pub entry_found : {i n k : ℕ} {l : List ℕ} → Sits i n k l → Some (type_at l k) ≡ resolved_by (entry_of i (entries_of n l))
unfolding resolved_by entry_of entries_of
entry_found (here e m) = simp e
entry_found (later {n} {k} {a} {b} {c} {l} e m) =
    ap (λ (w : ℕ). Some (scalar w (get_or (a ∷ b ∷ c ∷ l) (3 * suc k + 2) 0))) (sym (word_later a b c k 1 l))
    ∙ ap (λ (s : ℕ). Some (scalar (get_or l (3 * k + 1) 0) s)) (sym (word_later a b c k 2 l))
    ∙ simp e (entry_found m)

-- an id that is not found has none
pub entry_missed : {i n : ℕ} {l : List ℕ} → Misses i n l → None ≡ resolved_by (entry_of i (entries_of n l))
unfolding resolved_by entry_of entries_of
entry_missed nowhere = refl
entry_missed (not_here e r) = simp e (entry_missed r)

-- A DEFINITION

-- a store beyond the first entry
beyond : (a b c k : ℕ) (l vs ws : List ℕ) → sets l (3 * k) vs ≡ sets l 0 ws
    → sets (a ∷ b ∷ c ∷ l) (3 * suc k) vs ≡ sets (a ∷ b ∷ c ∷ l) 0 (a ∷ b ∷ c ∷ ws)
beyond a b c k l vs ws e =
    let q : 3 * suc k ≡ 3 + 3 * k = omega arith in
    ap (λ (m : ℕ). sets (a ∷ b ∷ c ∷ l) m vs) q
    ∙ sym (sets_rest vs (a ∷ b ∷ c ∷ l) 3 (3 * k))
    ∙ ap (λ (z : List ℕ). a ∷ b ∷ c ∷ z) e
    ∙ sym (laid a b c a b c l ws)

-- "The last definition of an id holds, in the same entry"
pub defined_found : {i n k : ℕ} {l : List ℕ} → Sits i n k l → (w s : ℕ)
    → sets l (3 * k) (i ∷ w ∷ s ∷ []) ≡ stored l (define i w s (entries_of n l))
unfolding stored laid_over define entries_of
defined_found {i} (here {n} {a} {b} {c} {l} e r) w s =
    ap (λ (z : List ℕ). i ∷ w ∷ s ∷ z) (sym (stored_own r))
    ∙ sym (laid a b c i w s l (joined entry_words (entries_of n l)))
    ∙ simp e
defined_found {i} (later {n} {k} {a} {b} {c} {l} e r) w s =
    beyond a b c k l (i ∷ w ∷ s ∷ []) (joined entry_words (define i w s (entries_of n l))) (defined_found r w s) ∙ simp e

-- there is no entry more
pub length_found : {i n k : ℕ} {l : List ℕ} → Sits i n k l → (w s : ℕ) → n ≡ length (define i w s (entries_of n l))
unfolding define entries_of
length_found (here {n} {l = l} e r) w s = simp e (ap suc (sym (length_entries n l)))
length_found (later e r) w s = simp e (ap suc (length_found r w s))

-- a new id's entry comes last
pub defined_missed : {i n : ℕ} {l : List ℕ} → Misses i n l → (w s : ℕ)
    → sets l (3 * n) (i ∷ w ∷ s ∷ []) ≡ stored l (define i w s (entries_of n l))
unfolding stored laid_over define entries_of
defined_missed nowhere w s = refl
defined_missed {i} (not_here {n} {a} {b} {c} {l} e r) w s =
    beyond a b c n l (i ∷ w ∷ s ∷ []) (joined entry_words (define i w s (entries_of n l))) (defined_missed r w s) ∙ simp e

-- there is one more
pub length_missed : {i n : ℕ} {l : List ℕ} → Misses i n l → (w s : ℕ) → n + 1 ≡ length (define i w s (entries_of n l))
unfolding define entries_of
length_missed nowhere w s = refl
length_missed (not_here {n} e r) w s = simp e (add-one (suc n) ∙ ap suc (sym (add-one n) ∙ length_missed r w s))

-- which is what room for the entries after it is for
pub room_missed : {i n : ℕ} {l : List ℕ} → Misses i n l → (w s : ℕ) → 3 * length (define i w s (entries_of n l)) ≤ length l
    → 3 * n + 3 ≤ length l
room_missed m w s h = omega (arith, length_missed m w s)
