-- Laws of hints: what a slot, a guess, a note and a definition come to.
use Prim.Native.Nat.{ℕ, suc, ◌+◌, ◌-◌, ◌*◌, ◌/◌, ◌%◌, ◌^◌, ◌<◌, ◌≤◌}
use mathlib.Core.Path.{◌≡◌, refl, ap, sym, subst, ◌∙◌}
use mathlib.Core.Bool.{Bool, true, false, ◌&&◌}
use mathlib.Core.List.{List, [], ◌∷◌}
use native.Mathlib.Omega.{arith}
use native.Mathlib.Nat.{zero-add, zero-div}
use lib.Dec.{leb, ltb, eqb}
use lib.ListN.{length, get_or, set, length-set}
use lib.Seq.{sets, drop-length, get_or-set_same, get_or-set_other}
use borrow.Author.Tests.{le-leb, lt-leb, leb-true, lt-ltb, le-ltb, ltb-true, ltb-false, eq-eqb, ne_eqb, eqb-true, eqb-false}
use Rattle.std.specs.Prelude.{if◌then◌else◌}
use Rattle.spec.specs.Records.{Entry, entry}
use Rattle.spec.specs.Types.{define}
use Rattle.tracker.specs.declared.TypeTracker.{TypeTracker}
use Rattle.tracker.specs.Entries.{entries_of, stored, place_from, place_of}
use Rattle.tracker.specs.Hints.{is_marked, with_mark, marks_for, slot_of, guess_of, guess_for, is_own, marked_for, guessed_for, noted, new_of, hints_with, greater_of, greatest_with, Alone, Blank, is_there, Hinted}
use Rattle.tracker.proofs.Laws.{Sits, here, later, Misses, nowhere, not_here, sits_within, own_word, entries_stored, length_found, defined_found, length_missed, defined_missed}
use Rattle.tracker.proofs.Marks.{mark_own, mark_other, length_marked, marked_behind}
use Rattle.std.specs.Prelude.{None, Option, Some}

-- HOW MANY MARKS

module _ (bound n : ℕ) where
  -- each id can have a slot of its own
  pub marks_none : bound ≤ n → 0 ≡ marks_for bound n
  unfolding marks_for
  marks_none h = simp (le-leb bound n h)

  -- not each can
  pub marks_many : n < bound → n - 2048 ≡ marks_for bound n
  unfolding marks_for
  marks_many h = simp (lt-leb bound n h)

  -- the slots that are shared are left, by whether each can
  marks_leave_by : 2048 ≤ n → (t : Bool) → (if t then 0 else n - 2048) + 2048 ≤ n
  marks_leave_by h true = h
  marks_leave_by h false = omega arith

  -- the slots that are shared are left
  pub marks_leave : 2048 ≤ n → marks_for bound n + 2048 ≤ n
  unfolding marks_for
  marks_leave h = marks_leave_by h (leb bound n)

-- A SLOT

module _ (n m i : ℕ) where
  -- one of its own
  pub slot_own : m + i < n - 2048 → m + i ≡ slot_of n m i
  unfolding slot_of
  slot_own h = simp (lt-ltb (m + i) (n - 2048) h)

  -- one that is shared
  pub slot_shared : n - 2048 ≤ m + i → n - 2048 + i % 2048 ≡ slot_of n m i
  unfolding slot_of
  slot_shared h = simp (le-ltb (m + i) (n - 2048) h)

  -- it stands behind the marks, by whether it is shared
  slot_within_by : m + 2048 ≤ n → (t : Bool) → ltb (m + i) (n - 2048) ≡ t
      → (m ≤ (if t then m + i else n - 2048 + i % 2048)) × ((if t then m + i else n - 2048 + i % 2048) < n)
  slot_within_by h true e = let f = ltb-true (m + i) (n - 2048) e in (omega arith, omega arith)
  slot_within_by h false e = (omega arith, omega arith)

  -- it stands behind the marks
  pub slot_within : m + 2048 ≤ n → (m ≤ slot_of n m i) × (slot_of n m i < n)
  unfolding slot_of
  slot_within h = slot_within_by h (ltb (m + i) (n - 2048)) refl

-- A GUESS

-- a guess is not 0, by whether it says its index
guess_some_by : (k : ℕ) (t : Bool) → (if t then k + 1 else 65535) ≡ 0 → ⊥
guess_some_by k true e = omega arith
guess_some_by k false e = omega arith

-- a guess is not 0
guess_some : (k : ℕ) → guess_for k ≡ 0 → ⊥
unfolding guess_for
guess_some k = guess_some_by k (ltb k 65535)

module _ (n : ℕ) (l : List ℕ) (g i : ℕ) where
  -- the entry of a guess is the id's, by whether it is an entry's
  own_says_by : (a b : Bool) → leb g n ≡ a → eqb (get_or l (3 * (g - 1)) 0) i ≡ b → (a && b) ≡ true → (g ≤ n) × (get_or l (3 * (g - 1)) 0 ≡ i)
  own_says_by true true p q e = (leb-true g n p, eqb-true (get_or l (3 * (g - 1)) 0) i q)
  own_says_by true false p q e = let z : ◌≡◌ {A = ℕ} 0 1 = cc in absurd (omega arith)
  own_says_by false b p q e = let z : ◌≡◌ {A = ℕ} 0 1 = cc in absurd (omega arith)

  -- the entry of a guess is the id's
  pub own_says : is_own n l g i ≡ true → (g ≤ n) × (get_or l (3 * (g - 1)) 0 ≡ i)
  unfolding is_own
  own_says e = own_says_by (leb g n) (eqb (get_or l (3 * (g - 1)) 0) i) refl refl e

-- A NOTE

module _ (m i : ℕ) (hs : List ℕ) where
  -- an id that has a mark
  pub marked_here : i / 16 < m → with_mark hs i ≡ marked_for m hs i
  unfolding marked_for
  marked_here h = simp (lt-ltb (i / 16) m h)

  -- one that has none
  pub marked_none : m ≤ i / 16 → hs ≡ marked_for m hs i
  unfolding marked_for
  marked_none h = simp (le-ltb (i / 16) m h)

  -- there are as many hints, by whether it has a mark
  length_by_lem : (t : Bool) → length (if t then with_mark hs i else hs) ≡ length hs
  length_by_lem true = length_marked hs i
  length_by_lem false = refl

  -- there are as many hints
  length_marked_for : length (marked_for m hs i) ≡ length hs
  unfolding marked_for
  length_marked_for = length_by_lem (ltb (i / 16) m)

  -- what stands behind the marks stays, by whether it has one
  behind_by : (p : ℕ) → m ≤ p → (t : Bool) → ltb (i / 16) m ≡ t → get_or (if t then with_mark hs i else hs) p 0 ≡ get_or hs p 0
  behind_by p h true e = marked_behind hs i p (omega (arith, ltb-true (i / 16) m e))
  behind_by p h false e = refl

  -- what stands behind the marks stays
  behind_marks : (p : ℕ) → m ≤ p → get_or (marked_for m hs i) p 0 ≡ get_or hs p 0
  unfolding marked_for
  behind_marks p h = behind_by p h (ltb (i / 16) m) refl

  module _ (fits : m ≤ length hs) (clear : i / 16 < m → is_marked hs i ≡ false) where
    -- another mark stays, by whether it has one
    other_mark_by : (j : ℕ) → (i ≡ j → ⊥) → (t : Bool) → ltb (i / 16) m ≡ t → is_marked (if t then with_mark hs i else hs) j ≡ is_marked hs j
    other_mark_by j d true e =
        let h = ltb-true (i / 16) m e in
        mark_other hs i (clear h) j d (omega arith)
    other_mark_by j d false e = refl

    -- another mark stays
    other_mark : (j : ℕ) → (i ≡ j → ⊥) → is_marked (marked_for m hs i) j ≡ is_marked hs j
    unfolding marked_for
    other_mark j d = other_mark_by j d (ltb (i / 16) m) refl

    -- its own is set
    own_mark : i / 16 < m → is_marked (marked_for m hs i) i ≡ true
    own_mark h = ap (λ (z : List ℕ). is_marked z i) (sym (marked_here h)) ∙ mark_own hs i (clear h) (omega arith)

module _ (m i k : ℕ) (hs : List ℕ) where
  -- an empty slot
  pub guessed_here : (p : ℕ) → p ≡ slot_of (length hs) m i → get_or hs p 0 ≡ 0 → (g : ℕ) → g ≡ guess_for k → set hs p g ≡ guessed_for m hs i k
  unfolding guessed_for guess_of
  guessed_here p e h g q = rw (e, q) (simp (eq-eqb (get_or hs (slot_of (length hs) m i) 0) 0 (rw e at h)))

  -- one that is taken
  pub guessed_none : (p : ℕ) → p ≡ slot_of (length hs) m i → (get_or hs p 0 ≡ 0 → ⊥) → hs ≡ guessed_for m hs i k
  unfolding guessed_for guess_of
  guessed_none p e h = simp (ne_eqb (get_or hs (slot_of (length hs) m i) 0) 0 (rw e at h))

  module _ (room : m + 2048 ≤ length hs) where
    -- there are as many hints, what stands elsewhere stays, and its slot is not empty: by whether it was
    slot_by : (t : Bool) → eqb (guess_of m hs i) 0 ≡ t
        → (length (if t then set hs (slot_of (length hs) m i) (guess_for k) else hs) ≡ length hs)
        × ((p : ℕ) → (p ≡ slot_of (length hs) m i → ⊥) → get_or (if t then set hs (slot_of (length hs) m i) (guess_for k) else hs) p 0 ≡ get_or hs p 0)
        × (get_or (if t then set hs (slot_of (length hs) m i) (guess_for k) else hs) (slot_of (length hs) m i) 0 ≡ 0 → ⊥)
    unfolding guess_of
    slot_by true e =
        let at : ℕ = slot_of (length hs) m i in (
          length-set hs at (guess_for k),
          (λ p d. get_or-set_other hs at p (guess_for k) 0 d),
          (λ q. guess_some k (sym (get_or-set_same hs at (guess_for k) 0 (slot_within (length hs) m i room).1) ∙ q)),
        )
    slot_by false e = (refl, (λ p d. refl), eqb-false (get_or hs (slot_of (length hs) m i) 0) 0 e)

    -- so it is for the hints with a guess
    slot_after : (length (guessed_for m hs i k) ≡ length hs)
        × ((p : ℕ) → (p ≡ slot_of (length hs) m i → ⊥) → get_or (guessed_for m hs i k) p 0 ≡ get_or hs p 0)
        × (get_or (guessed_for m hs i k) (slot_of (length hs) m i) 0 ≡ 0 → ⊥)
    unfolding guessed_for
    slot_after = slot_by (eqb (guess_of m hs i) 0) refl

-- a mark, then a guess
module _ (m i k : ℕ) (hs gs : List ℕ) (e : gs ≡ marked_for m hs i) where
  -- there is room for a guess
  pub guess_room : m + 2048 ≤ length hs → m + 2048 ≤ length gs
  guess_room h = omega (arith, ap length e, length_marked_for m i hs)

  -- both are a note
  pub both_noted : (ks : List ℕ) → ks ≡ guessed_for m gs i k → ks ≡ noted m hs i k
  unfolding noted
  both_noted ks q = q ∙ ap (λ (z : List ℕ). guessed_for m z i k) e

-- a note of a new id
module _ (m i k : ℕ) (hs : List ℕ) (room : m + 2048 ≤ length hs) (clear : i / 16 < m → is_marked hs i ≡ false) where
  -- there is room in the hints with its mark
  room_after : m + 2048 ≤ length (marked_for m hs i)
  room_after = omega (arith, length_marked_for m i hs)

  -- there are as many hints
  length_noted : length (noted m hs i k) ≡ length hs
  unfolding noted
  length_noted = (slot_after m i k (marked_for m hs i) room_after).0 ∙ length_marked_for m i hs

  -- a slot among them
  slot_same : (j : ℕ) → slot_of (length (marked_for m hs i)) m j ≡ slot_of (length hs) m j
  slot_same j = ap (λ (n : ℕ). slot_of n m j) (length_marked_for m i hs)

  -- a mark after it is one of the hints with its mark
  mark_after : (j : ℕ) → j / 16 < m → is_marked (noted m hs i k) j ≡ is_marked (marked_for m hs i) j
  unfolding noted is_marked
  mark_after j h =
      ap (λ (w : ℕ). eqb (w / 2 ^ (j % 16) % 2) 1)
      ((slot_after m i k (marked_for m hs i) room_after).1 (j / 16) (λ q. omega (arith, (slot_within (length (marked_for m hs i)) m i room_after).0)))

  -- its own is set
  noted_mark : i / 16 < m → is_marked (noted m hs i k) i ≡ true
  noted_mark h = mark_after i h ∙ own_mark m i hs (omega arith) clear h

  -- another stays
  noted_other : (j : ℕ) → (i ≡ j → ⊥) → j / 16 < m → is_marked (noted m hs i k) j ≡ is_marked hs j
  noted_other j d h = mark_after j h ∙ other_mark m i hs (omega arith) clear j d

  -- what a slot has
  guess_at : (j : ℕ) → guess_of m (noted m hs i k) j ≡ get_or (noted m hs i k) (slot_of (length (marked_for m hs i)) m j) 0
  unfolding guess_of
  guess_at j =
      ap (λ (n : ℕ). get_or (noted m hs i k) (slot_of n m j) 0) (length_noted ∙ sym (length_marked_for m i hs))

  -- an id of the same slot: it is not empty
  same_slot : (j : ℕ) → slot_of (length hs) m j ≡ slot_of (length hs) m i → guess_of m (noted m hs i k) j ≡ 0 → ⊥
  unfolding noted
  same_slot j e q =
      (slot_after m i k (marked_for m hs i) room_after).2
      (ap (λ (p : ℕ). get_or (noted m hs i k) p 0) (slot_same i ∙ sym e ∙ sym (slot_same j)) ∙ sym (guess_at j) ∙ q)

  -- an id of another slot: it has what it had
  other_slot : (j : ℕ) → (slot_of (length hs) m j ≡ slot_of (length hs) m i → ⊥) → guess_of m (noted m hs i k) j ≡ guess_of m hs j
  unfolding noted guess_of
  other_slot j d =
      guess_at j
      ∙ (slot_after m i k (marked_for m hs i) room_after).1 (slot_of (length (marked_for m hs i)) m j) (λ q. d (sym (slot_same j) ∙ q ∙ slot_same i))
      ∙ behind_marks m i hs (slot_of (length (marked_for m hs i)) m j) (slot_within (length (marked_for m hs i)) m j room_after).0
      ∙ ap (λ (p : ℕ). get_or hs p 0) (slot_same j)

-- NEW ENTRIES

-- there is none among as many
pub none_new : (n : ℕ) (es : List Entry) → n ≡ length es → new_of n es ≡ []
unfolding new_of
none_new n es e = rw e (drop-length es)

-- an id that is missed is the one
pub one_new : {i n : ℕ} {l : List ℕ} → Misses i n l → (w s : ℕ) → new_of n (define i w s (entries_of n l)) ≡ entry i w s ∷ []
unfolding new_of define entries_of
one_new nowhere w s = refl
one_new (not_here e r) w s = simp e (one_new r w s)

module _ (m n g : ℕ) (hs : List ℕ) (es : List Entry) where
  -- with none the hints and the greatest id stay
  pub none_noted : es ≡ [] → (hs ≡ hints_with m n es hs) × (g ≡ greatest_with es g)
  unfolding hints_with greatest_with
  none_noted e = rw e (refl, refl)

  -- with one its index is noted, and its id may be the greatest
  pub one_noted : (i w s : ℕ) → es ≡ entry i w s ∷ [] → (ks : List ℕ) → ks ≡ noted m hs i n → (k : ℕ) → k ≡ greater_of g i
      → (ks ≡ hints_with m n es hs) × (k ≡ greatest_with es g)
  unfolding hints_with greatest_with
  one_noted i w s e ks p k q = rw e (p, q)

module _ (a b : ℕ) where
  -- the second is the greater
  pub second_greater : a < b → b ≡ greater_of a b
  unfolding greater_of
  second_greater h = simp (lt-ltb a b h)

  -- the first is
  pub first_greater : b ≤ a → a ≡ greater_of a b
  unfolding greater_of
  first_greater h = simp (le-ltb a b h)

  -- neither is above it, by which is greater
  greater_by : (t : Bool) → ltb a b ≡ t → (a ≤ (if t then b else a)) × (b ≤ (if t then b else a))
  greater_by true e = let h = ltb-true a b e in (omega arith, omega arith)
  greater_by false e = let h = ltb-false a b e in (omega arith, omega arith)

  -- neither is above it
  greater_than : (a ≤ greater_of a b) × (b ≤ greater_of a b)
  unfolding greater_of
  greater_than = greater_by (ltb a b) refl

-- PLACES AFTER A DEFINITION

-- another id's entry stands where it stood, by whether the first entry is redefined
other_place_by : (i w s j k id x y : ℕ) (es ds : List Entry) → (i ≡ j → ⊥) → place_from (suc k) j ds ≡ place_from (suc k) j es → (t : Bool)
    → eqb id i ≡ t → place_from k j (if t then entry i w s ∷ es else entry id x y ∷ ds) ≡ place_from k j (entry id x y ∷ es)
unfolding place_from
other_place_by i w s j k id x y es ds h p true e =
    ap (λ (z : ℕ). if eqb z j then Some k else place_from (suc k) j es) (sym (eqb-true id i e))
other_place_by i w s j k id x y es ds h p false e = ap (λ (z : Option ℕ). if eqb id j then Some k else z) p

-- another id's entry stands where it stood
other_place : (i w s j : ℕ) → (i ≡ j → ⊥) → (k : ℕ) (es : List Entry) → place_from k j (define i w s es) ≡ place_from k j es
unfolding place_from define
other_place i w s j h k [] = simp (ne_eqb i j h)
other_place i w s j h k (entry id x y ∷ es) =
    other_place_by i w s j k id x y es (define i w s es) h (other_place i w s j h (suc k) es) (eqb id i) refl

-- an id that is found stands where it stood
own_place : {i n m : ℕ} {l : List ℕ} → Sits i n m l → (w s k : ℕ) → place_from k i (define i w s (entries_of n l)) ≡ place_from k i (entries_of n l)
unfolding place_from define entries_of
own_place {i} (here e r) w s k = simp (e, eq-eqb i i refl)
own_place (later e r) w s k = simp e (own_place r w s (suc k))

-- an id that is missed stands nowhere
missed_place : {i n : ℕ} {l : List ℕ} → Misses i n l → (k : ℕ) → place_from k i (entries_of n l) ≡ None
unfolding place_from entries_of
missed_place nowhere k = refl
missed_place (not_here e r) k = simp e (missed_place r (suc k))

-- a place that is there is not nothing
not_both : {k : ℕ} → Some k ≡ None → ⊥
not_both e = let z : ◌≡◌ {A = ℕ} 0 1 = cc in omega arith

-- a new id stands last
new_place : {i n : ℕ} {l : List ℕ} → Misses i n l → (w s k : ℕ) → Some (n + k) ≡ place_from k i (define i w s (entries_of n l))
unfolding place_from define entries_of
new_place {i} nowhere w s k = simp (eq-eqb i i refl, zero-add)
new_place (not_here {n} e r) w s k =
    let q : suc n + k ≡ n + suc k = omega arith in
    simp e (ap Some q ∙ new_place r w s (suc k))

-- THE WORDS AFTER A DEFINITION

module _ (l : List ℕ) (i w s k : ℕ) where
  -- another entry's id
  word_other : (h : ℕ) → (h ≡ k → ⊥) → get_or (sets l (3 * k) (i ∷ w ∷ s ∷ [])) (3 * h) 0 ≡ get_or l (3 * h) 0
  word_other h e =
      get_or-set_other (set (set l (3 * k) i) (suc (3 * k)) w) (suc (suc (3 * k))) (3 * h) s 0 (λ q. omega arith)
      ∙ get_or-set_other (set l (3 * k) i) (suc (3 * k)) (3 * h) w 0 (λ q. omega arith)
      ∙ get_or-set_other l (3 * k) (3 * h) i 0 (λ q. e (omega arith))

  -- the entry's own
  word_own : 3 * k < length l → get_or (sets l (3 * k) (i ∷ w ∷ s ∷ [])) (3 * k) 0 ≡ i
  word_own h =
      get_or-set_other (set (set l (3 * k) i) (suc (3 * k)) w) (suc (suc (3 * k))) (3 * k) s 0 (λ q. omega arith)
      ∙ get_or-set_other (set l (3 * k) i) (suc (3 * k)) (3 * k) w 0 (λ q. omega arith)
      ∙ get_or-set_same l (3 * k) i 0 h

-- entries that are stored are what is read
entries_after : (n : ℕ) (l t : List ℕ) (es : List Entry) → n ≡ length es → t ≡ stored l es → 3 * n ≤ length l → entries_of n t ≡ es
entries_after n l t es p q h =
    ap (entries_of n) q ∙ ap (λ (c : ℕ). entries_of c (stored l es)) p ∙ entries_stored es l (omega arith)

-- A STORE WITH ITS HINTS

-- blank hints are those of no entries
pub hinted_none : (l hs : List ℕ) (g m : ℕ) → m + 2048 ≤ length hs → Blank hs → Hinted (record { count = 0; greatest = g; marks = m }) l hs
unfolding Alone Blank is_marked place_of place_from entries_of
hinted_none l hs g m room blank = record {
  room = room;
  alone = λ k h. absurd (omega arith);
  marked = λ id h. rw (blank (id / 16), zero-div (2 ^ (id % 16)));
  empty = λ id h. refl;
  above = λ id h. refl;
}

-- an id whose mark is not set has no entry
pub unmarked : {t : TypeTracker} {l hs : List ℕ} → Hinted t l hs → (i : ℕ) → i / 16 < t.marks → (y : Bool) → y ≡ is_marked hs i → y ≡ false
    → None ≡ place_of i (entries_of t.count l)
unmarked {t} {l} {hs} r i h y p q = by (place_of i (entries_of t.count l)) refl
  where
    by : (f : Option ℕ) → place_of i (entries_of t.count l) ≡ f → None ≡ place_of i (entries_of t.count l)
    by (Some k) e =
        let both : true ≡ false = sym (r.marked i h ∙ ap is_there e) ∙ sym p ∙ q in
        let z : ◌≡◌ {A = ℕ} 0 1 = cc in
        absurd (omega arith)
    by None e = sym e

-- an id whose slot is empty has none
pub emptied : {t : TypeTracker} {l hs : List ℕ} → Hinted t l hs → (i p : ℕ) → p ≡ slot_of (length hs) t.marks i → get_or hs p 0 ≡ 0
    → None ≡ place_of i (entries_of t.count l)
unfolding guess_of
emptied {hs = hs} r i p e h = sym (r.empty i (ap (λ (z : ℕ). get_or hs z 0) (sym e) ∙ h))

-- the mark of an id that has no entry is not set
pub mark_none : {t : TypeTracker} {l hs : List ℕ} → Hinted t l hs → (i : ℕ) → None ≡ place_of i (entries_of t.count l) → i / 16 < t.marks
    → is_marked hs i ≡ false
mark_none r i e h = r.marked i h ∙ ap is_there (sym e)

-- an id that is found is defined
module _ {i n k : ℕ} {l : List ℕ} (m : Sits i n k l) (w s : ℕ) (room : 3 * n ≤ length l) (u : List ℕ) (e : u ≡ sets l (3 * k) (i ∷ w ∷ s ∷ [])) where
  -- each entry stands where it stood, by whether it is the id's
  places_by : (j : ℕ) (y : Bool) → eqb i j ≡ y → place_from 0 j (define i w s (entries_of n l)) ≡ place_from 0 j (entries_of n l)
  places_by j true q =
      subst (λ (z : ℕ). place_from 0 z (define i w s (entries_of n l)) ≡ place_from 0 z (entries_of n l)) (eqb-true i j q) (own_place m w s 0)
  places_by j false q = other_place i w s j (eqb-false i j q) 0 (entries_of n l)

  -- each entry stands where it stood
  same_place : (j : ℕ) → place_of j (entries_of n u) ≡ place_of j (entries_of n l)
  unfolding place_of
  same_place j =
      ap (place_from 0 j) (entries_after n l u (define i w s (entries_of n l)) (length_found m w s) (e ∙ defined_found m w s) room)
      ∙ places_by j (eqb i j) refl

  -- each entry has the id that it had, by whether it is the id's
  words_by : (h : ℕ) (y : Bool) → eqb h k ≡ y → get_or (sets l (3 * k) (i ∷ w ∷ s ∷ [])) (3 * h) 0 ≡ get_or l (3 * h) 0
  words_by h true q =
      subst (λ (z : ℕ). get_or (sets l (3 * k) (i ∷ w ∷ s ∷ [])) (3 * z) 0 ≡ get_or l (3 * z) 0) (sym (eqb-true h k q))
      (word_own l i w s k (omega (arith, sits_within m)) ∙ sym (own_word m))
  words_by h false q = word_other l i w s k h (eqb-false h k q)

  -- each entry has the id that it had
  same_word : (h : ℕ) → get_or u (3 * h) 0 ≡ get_or l (3 * h) 0
  same_word h = ap (λ (z : List ℕ). get_or z (3 * h) 0) e ∙ words_by h (eqb h k) refl

  -- so no id has two entries
  alone_found : Alone n l → Alone n u
  unfolding Alone
  alone_found a j q = ap (λ (z : ℕ). place_of z (entries_of n u)) (same_word j) ∙ same_place (get_or l (3 * j) 0) ∙ a j q

-- and the hints stay right
pub hinted_found : {i k : ℕ} {l : List ℕ} (t : TypeTracker) (m : Sits i t.count k l) (w s : ℕ) → 3 * t.count ≤ length l → (u : List ℕ)
    → u ≡ sets l (3 * k) (i ∷ w ∷ s ∷ []) → {hs : List ℕ} → Hinted t l hs → Hinted t u hs
hinted_found t m w s room u e r =
    let same = same_place m w s room u e in
    record {
      room = r.room;
      alone = alone_found m w s room u e r.alone;
      marked = λ j q. r.marked j q ∙ ap is_there (sym (same j));
      empty = λ j q. same j ∙ r.empty j q;
      above = λ j q. same j ∙ r.above j q;
    }

-- a new id is defined
module _ {i n : ℕ} {l : List ℕ} (m : Misses i n l) (w s : ℕ) (room : 3 * n + 3 ≤ length l) (u : List ℕ) (e : u ≡ sets l (3 * n) (i ∷ w ∷ s ∷ [])) where
  -- the entries after it
  entries_more : entries_of (n + 1) u ≡ define i w s (entries_of n l)
  entries_more = entries_after (n + 1) l u (define i w s (entries_of n l)) (length_missed m w s) (e ∙ defined_missed m w s) (omega arith)

  -- it stands last
  last_place : place_of i (entries_of (n + 1) u) ≡ Some n
  unfolding place_of
  last_place =
      let q : n + 0 ≡ n = omega arith in
      ap (place_from 0 i) entries_more ∙ sym (new_place m w s 0) ∙ ap Some q

  -- every other stands where it stood
  others_place : (j : ℕ) → (i ≡ j → ⊥) → place_of j (entries_of (n + 1) u) ≡ place_of j (entries_of n l)
  unfolding place_of
  others_place j h = ap (place_from 0 j) entries_more ∙ other_place i w s j h 0 (entries_of n l)

  -- it stood nowhere
  no_place : place_of i (entries_of n l) ≡ None
  unfolding place_of
  no_place = missed_place m 0

  -- so no id has two entries, by whether the entry is the new one
  alone_by : Alone n l → (k : ℕ) → k < n + 1 → (y : Bool) → ltb k n ≡ y → place_of (get_or u (3 * k) 0) (entries_of (n + 1) u) ≡ Some k
  unfolding Alone
  alone_by a k h true q =
      let less = ltb-true k n q in
      let word : get_or u (3 * k) 0 ≡ get_or l (3 * k) 0 = ap (λ (z : List ℕ). get_or z (3 * k) 0) e ∙ word_other l i w s n k (λ f. omega arith) in
      let apart : i ≡ get_or l (3 * k) 0 → ⊥ = λ f. not_both (sym (a k less) ∙ ap (λ (z : ℕ). place_of z (entries_of n l)) (sym f) ∙ no_place) in
      ap (λ (z : ℕ). place_of z (entries_of (n + 1) u)) word ∙ others_place (get_or l (3 * k) 0) apart ∙ a k less
  alone_by a k h false q =
      let same : n ≡ k = omega (arith, ltb-false k n q) in
      let word : get_or u (3 * n) 0 ≡ i = ap (λ (z : List ℕ). get_or z (3 * n) 0) e ∙ word_own l i w s n (omega arith) in
      subst (λ (z : ℕ). place_of (get_or u (3 * z) 0) (entries_of (n + 1) u) ≡ Some z) same
      (ap (λ (z : ℕ). place_of z (entries_of (n + 1) u)) word ∙ last_place)

-- and the hints with its own are those of the store with its entry
module _ (t : TypeTracker) {i : ℕ} {l : List ℕ} (m : Misses i t.count l) (w s : ℕ) (room : 3 * t.count + 3 ≤ length l) (u : List ℕ)
    (e : u ≡ sets l (3 * t.count) (i ∷ w ∷ s ∷ [])) {hs : List ℕ} (r : Hinted t l hs) (ks : List ℕ) (f : ks ≡ noted t.marks hs i t.count) where
  -- its mark was not set
  clear : i / 16 < t.marks → is_marked hs i ≡ false
  clear = mark_none r i (sym (no_place m w s room u e))

  -- each mark, by whether it is its own
  marked_by : (j : ℕ) → j / 16 < t.marks → (y : Bool) → eqb i j ≡ y → is_marked ks j ≡ is_there (place_of j (entries_of (t.count + 1) u))
  marked_by j h true q =
      subst (λ (z : ℕ). z / 16 < t.marks → is_marked ks z ≡ is_there (place_of z (entries_of (t.count + 1) u))) (eqb-true i j q)
      (λ p. ap (λ (z : List ℕ). is_marked z i) f ∙ noted_mark t.marks i t.count hs r.room clear p ∙ ap is_there (sym (last_place m w s room u e)))
      h
  marked_by j h false q =
      let d = eqb-false i j q in
      ap (λ (z : List ℕ). is_marked z j) f
      ∙ noted_other t.marks i t.count hs r.room clear j d h
      ∙ r.marked j h
      ∙ ap is_there (sym (others_place m w s room u e j d))

  -- each empty slot, by whether it is its own
  empty_by : (j : ℕ) → guess_of t.marks ks j ≡ 0 → (y : Bool) → eqb (slot_of (length hs) t.marks j) (slot_of (length hs) t.marks i) ≡ y
      → place_of j (entries_of (t.count + 1) u) ≡ None
  empty_by j h true q =
      absurd (same_slot t.marks i t.count hs r.room clear j (eqb-true _ _ q) (ap (λ (z : List ℕ). guess_of t.marks z j) (sym f) ∙ h))
  empty_by j h false q =
      let d = eqb-false _ _ q in
      others_place m w s room u e j (λ g. d (ap (slot_of (length hs) t.marks) (sym g)))
      ∙ r.empty j (sym (other_slot t.marks i t.count hs r.room clear j d) ∙ ap (λ (z : List ℕ). guess_of t.marks z j) (sym f) ∙ h)

  pub hinted_missed : (g : ℕ) → g ≡ greater_of t.greatest i → Hinted (record { count = t.count + 1; greatest = g; marks = t.marks }) u ks
  unfolding Alone
  hinted_missed g a =
      let b = greater_than t.greatest i in
      record {
        room = omega (arith, r.room, ap length f, length_noted t.marks i t.count hs r.room clear);
        alone = λ k h. alone_by m w s room u e r.alone k h (ltb k t.count) refl;
        marked = λ j h. marked_by j h (eqb i j) refl;
        empty = λ j h. empty_by j h (eqb (slot_of (length hs) t.marks j) (slot_of (length hs) t.marks i)) refl;
        above = λ j h. others_place m w s room u e j (λ q. omega (arith, b.1)) ∙ r.above j (omega (arith, b.0));
      }
