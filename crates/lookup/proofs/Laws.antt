-- The names in their run: what stands at a place, that each name is at the place of its slot, and that each slot has a name's place.
use mathlib.Core.Path.{◌≡◌, refl, sym, ap, ◌∙◌}
use mathlib.Core.Bool.{Bool, true}
use mathlib.Core.List.{List, [], ◌∷◌, ◌++◌}
use Rattle.std.specs.Prelude.{Option, None, Some}
use Prim.Native.Nat.{ℕ, zero, suc, ◌+◌, ◌-◌, ◌/◌, ◌%◌, ◌≤◌, ◌<◌}
use native.Mathlib.Nat.{add-zero}
use native.Mathlib.Omega.{arith}
use borrow.Author.Tests.{eqb-true, eq-eqb}
use lib.Dec.{eqb}
use lib.ListN.{length, get_or, take, drop, length-append, length-drop}
use lib.Seq.{get_or-drop, drop-drop, drop_at, take-append_seam}
use Rattle.spec.specs.Base.{joined, every}
use Rattle.spec.specs.Words.{four, four_at, bytes_of, front_of}
use Rattle.spec.specs.NameTable.{Name, name_table}
use Rattle.spec.specs.Names.{is_name_of, named, name_of}
use Rattle.spec.proofs.Choice.{left, right, both, cases}
use Rattle.words.proofs.Front.{front_got}
use Rattle.lookup.specs.Run.{name_size, name_bytes, name_run, place_in, slotted, places_from, has_place, placed, Indexed}
use Rattle.lookup.specs.Find.{text_found, Inside}

-- A NAME AT A PLACE

-- is a name's number read back from its bytes
abbrev is_read : Name → Bool
is_read x = let n = x.number in eqb (four (n % 256) (n / 256 % 256) (n / 65536 % 256) (n / 16777216 % 256)) n

-- all are, by computation
all_read_lem : every is_read name_table ≡ true
unfolding name_table
all_read_lem = refl

-- what is read at the place of a name
record Has (run : List ℕ) (p : ℕ) (x : Name) : Type 0 where
  pub inside : p + name_size x ≤ length run
  pub set : get_or run p 0 ≡ x.set
  pub number : four_at (p + 1) run ≡ x.number
  pub size : get_or run (p + 5) 0 ≡ length x.text
  pub text : take (length x.text) (drop (p + 6) run) ≡ x.text

module _ (run : List ℕ) (p : ℕ) (x : Name) (rest : List ℕ) (e : drop p run ≡ name_bytes x ++ rest) where
  -- a byte of the name
  byte : (k : ℕ) → get_or run (p + k) 0 ≡ get_or (name_bytes x ++ rest) k 0
  byte k = sym (get_or-drop p run k 0) ∙ ap (λ (l : List ℕ). get_or l k 0) e

  -- its bytes are in the run
  room : p + name_size x ≤ length run
  unfolding bytes_of
  room =
      let sized = sym (length-drop p run) ∙ ap length e in
      omega (arith, sized, length-append x.text rest)

  -- what is read there
  has : is_read x ≡ true → Has run p x
  unfolding bytes_of front_of
  has r =
      let n = x.number in
      let after : drop (p + 1) run ≡ bytes_of n ++ (length x.text ∷ (x.text ++ rest)) = sym (drop-drop 1 p run) ∙ ap (drop 1) e in
      let word = sym (front_got run (p + 1) (omega (arith, room))) ∙ ap front_of after in
      let read : four_at (p + 1) run ≡ four (n % 256) (n / 256 % 256) (n / 65536 % 256) (n / 16777216 % 256) = cc in
      record {
        inside = room;
        set = sym (ap (λ (k : ℕ). get_or run k 0) (add-zero p)) ∙ byte 0;
        number = read ∙ eqb-true _ n r;
        size = byte 5;
        text =
            ap (take (length x.text)) (sym (drop-drop 6 p run) ∙ ap (drop 6) e)
            ∙ take-append_seam x.text rest;
      }

-- LOOKING UP AMONG NAMES

-- the name of a number in a set has them
name_told : (s n : ℕ) (x : Name) → is_name_of s n x ≡ true → (x.set ≡ s) × (x.number ≡ n)
name_told s n x e =
    (eqb-true x.set s (left (eqb x.set s) (eqb x.number n) e), eqb-true x.number n (right (eqb x.set s) (eqb x.number n) e))

-- a text that is there is not none
never : {A : Type 0} {t : List ℕ} → Some t ≡ None → A
never e = let z : ◌≡◌ {A = ℕ} 0 1 = cc in absurd (omega arith)

-- a name with a set, a number and a text, at a place of the run
record Found (run : List ℕ) (p s n : ℕ) (t : List ℕ) : Type 0 where
  pub name : Name
  pub has : Has run p name
  pub set : name.set ≡ s
  pub number : name.number ≡ n
  pub text : name.text ≡ t

-- a name at a place of the run, which is among names
record Listed (run : List ℕ) (p : ℕ) (xs : List Name) : Type 0 where
  pub name : Name
  pub has : Has run p name
  pub listed : named name.set name.number xs ≡ None → ⊥

module _ (run : List ℕ) where
  -- the run after a name
  after : (at : ℕ) (x : Name) (xs : List Name) → drop at run ≡ joined name_bytes (x ∷ xs) → drop (at + name_size x) run ≡ joined name_bytes xs
  unfolding bytes_of
  after at x xs e =
      let size : length (name_bytes x) ≡ name_size x = omega arith in
      sym (drop-drop (name_size x) at run) ∙ ap (drop (name_size x)) e ∙ drop_at (name_bytes x) (joined name_bytes xs) (name_size x) size

  -- a name that is looked up stands where its slot says
  found : (index : List ℕ) (s n : ℕ) (t : List ℕ) (at : ℕ) (xs : List Name) → drop at run ≡ joined name_bytes xs → every is_read xs ≡ true → slotted index at xs ≡ true
      → named s n xs ≡ Some t → Found run (place_in index s n) s n t
  unfolding slotted named
  found index s n t at [] e r h f = let z : ◌≡◌ {A = ℕ} 0 1 = cc in absurd (omega arith)
  found index s n t at (x ∷ xs) e r h f =
      cases (is_name_of s n x) this
      (λ not. found index s n t (at + name_size x) xs (after at x xs e) (right (is_read x) (every is_read xs) r)
      (right (eqb (place_in index x.set x.number) at) (slotted index (at + name_size x) xs) h) (rw not at f))
    where
      this : is_name_of s n x ≡ true → Found run (place_in index s n) s n t
      this it =
          let told = name_told s n x it in
          let here : place_in index x.set x.number ≡ at = eqb-true _ at (left (eqb (place_in index x.set x.number) at) (slotted index (at + name_size x) xs) h) in
          let place : at ≡ place_in index s n = sym here ∙ rw (told.0, told.1) in
          let text : Some x.text ≡ Some t = rw it at f in
          record {
            name = x;
            has = rw place at (has run at x (joined name_bytes xs) e (left (is_read x) (every is_read xs) r));
            set = told.0;
            number = told.1;
            text = cc;
          }

  -- a name stands at each place of a name
  standing : (p at : ℕ) (xs : List Name) → drop at run ≡ joined name_bytes xs → every is_read xs ≡ true → has_place p (places_from at xs) ≡ true → Listed run p xs
  unfolding places_from has_place named
  standing p at [] e r h = let z : ◌≡◌ {A = ℕ} 0 1 = cc in absurd (omega arith)
  standing p at (x ∷ xs) e r h =
      cases (eqb p at) this
      (λ not. later (standing p (at + name_size x) xs (after at x xs e) (right (is_read x) (every is_read xs) r) (rw not at h)))
    where
      this : eqb p at ≡ true → Listed run p (x ∷ xs)
      this it =
          let itself : is_name_of x.set x.number x ≡ true = both (eq-eqb x.set x.set refl) (eq-eqb x.number x.number refl) in
          record {
            name = x;
            has = rw (eqb-true p at it) (has run at x (joined name_bytes xs) e (left (is_read x) (every is_read xs) r));
            listed = λ f. never (rw itself at f);
          }

      later : Listed run p xs → Listed run p (x ∷ xs)
      later more =
          let y = more.name in
          record {
            name = y;
            has = more.has;
            listed = λ f. cases (is_name_of y.set y.number x) (λ it. never (rw it at f)) (λ not. more.listed (rw not at f));
          }

-- THE INDEX

-- a test of each element holds of any
every_at : (f : ℕ → Bool) (l : List ℕ) (i : ℕ) → every f l ≡ true → i < length l → f (get_or l i 0) ≡ true
every_at f [] i e h = absurd (omega arith)
every_at f (x ∷ l) zero e h = left (f x) (every f l) e
every_at f (x ∷ l) (suc i) e h = every_at f l i (right (f x) (every f l) e) (omega arith)

-- the place that the slot of a number in a set has, read in two steps
pub place_read : (index : List ℕ) (s n shift r : ℕ) → shift ≡ get_or index s 0 → r ≡ get_or index (48 + (shift + n) % 3021) 0 → r ≡ place_in index s n
unfolding place_in
place_read index s n shift r a b = b ∙ ap (λ (k : ℕ). get_or index (48 + (k + n) % 3021) 0) a

module _ (run index : List ℕ) (ix : Indexed run index) (s n p : ℕ) (at : p ≡ place_in index s n) where
  -- the run is that of the names
  whole : drop 0 run ≡ joined name_bytes name_table
  unfolding name_run
  whole = ix.whole

  -- a name stands at the place of any slot
  there : Listed run p name_table
  unfolding place_in placed
  there =
      let i = (get_or index s 0 + n) % 3021 in
      let low : i < length (drop 48 index) = rw length-drop (omega (arith, ix.size)) in
      let slot : get_or (drop 48 index) i 0 ≡ p = get_or-drop 48 index i 0 ∙ sym at in
      standing run p 0 name_table whole all_read_lem (rw slot at (every_at (λ q. has_place q (places_from 0 name_table)) (drop 48 index) i ix.places low))

  -- a name that is looked up stands at the place of its slot
  looked : (t : List ℕ) → name_of s n ≡ Some t → Found run p s n t
  unfolding name_of
  looked t f = rw at (found run index s n t 0 name_table whole all_read_lem ix.slots f)

  -- its bytes are there
  pub inside : p + (6 + get_or run (p + 5) 0) ≤ length run
  inside = rw there.has.size there.has.inside

  -- what is answered when the name there is the one that is looked for, and when it is not
  abbrev pub Right : Option (ℕ × ℕ) → Type 0
  Right r = (text_found run r ≡ name_of s n) × Inside r (length run)

  module _ (size : ℕ) (sized : size ≡ get_or run (p + 5) 0) where
    -- the text of a name found: where it stands, and how long it is
    text_read : (t : List ℕ) → Found run p s n t → text_found run (Some (p + 6, p + 6 + size)) ≡ Some t
    unfolding text_found
    text_read t f =
        let long : p + 6 + size - (p + 6) ≡ length f.name.text = omega (arith, sized, f.has.size) in
        ap (λ (k : ℕ). Some (take k (drop (p + 6) run))) long ∙ ap Some (f.has.text ∙ f.text)

    -- the name there is the one that is looked for
    pub hit : (w : ℕ) → get_or run p 0 ≡ s → w ≡ four_at (p + 1) run → w ≡ n → Right (Some (p + 6, p + 6 + size))
    unfolding name_of Inside
    hit w set read number = (by (name_of s n) refl, (omega arith, omega (arith, sized, inside)))
      where
        sought : named s n name_table ≡ None → ⊥
        sought = rw (sym there.has.set ∙ set, sym there.has.number ∙ sym read ∙ number) at there.listed

        by : (o : Option (List ℕ)) → name_of s n ≡ o → text_found run (Some (p + 6, p + 6 + size)) ≡ o
        by None e = absurd (sought e)
        by (Some t) e = text_read t (looked t e)

  -- the name there is another, so that there is none
  miss : ((get_or run p 0 ≡ s) × (four_at (p + 1) run ≡ n) → ⊥) → Right None
  unfolding text_found Inside
  miss not = (by (name_of s n) refl, tt)
    where
      by : (o : Option (List ℕ)) → name_of s n ≡ o → text_found run None ≡ o
      by None e = refl
      by (Some t) e = let f = looked t e in absurd (not (f.has.set ∙ f.set, f.has.number ∙ f.number))

  -- its set is another
  pub other_set : (get_or run p 0 ≡ s → ⊥) → Right None
  other_set not = miss (λ both. not both.0)

  -- its number is another
  pub other_number : (w : ℕ) → w ≡ four_at (p + 1) run → (w ≡ n → ⊥) → Right None
  other_number w read not = miss (λ both. not (read ∙ both.1))
