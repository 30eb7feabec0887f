-- Lists of pieces whose keys rise: what is found in them, what is merged of two, and where two clash.
use Prim.Native.Nat.{ℕ, ◌<◌, ◌≤◌}
use mathlib.Core.Path.{◌≡◌, refl, sym, ap, ◌∙◌, subst}
use mathlib.Core.Bool.{Bool, true, false, not, true≢false, false≢true}
use mathlib.Core.List.{List, [], ◌∷◌}
use Rattle.std.specs.Prelude.{Option, None, Some}
use native.Mathlib.Omega.{arith}
use borrow.Author.Tests.{lt-ltb, le-ltb, eq-eqb, ne_eqb, ltb-true, ltb-false, eqb-true, eqb-false}
use lib.Dec.{ltb, eqb}
use Rattle.std.specs.Prelude.{if◌then◌else◌}
use Rattle.spec.specs.Base.{or_else, same}
use Rattle.spec.specs.Grammar.{Item, items}
use Rattle.spec.specs.Join.{Piece, piece_items, piece_bytes, key, found, put_in, merged, differs, clash}
use Rattle.spec.proofs.Choice.{cases, left, right, fails}

-- KEYS THAT RISE

-- every key is above a number
abbrev pub Above : ℕ → List Piece → Type 0
Above n [] = Unit
Above n (e ∷ es) = (n < key e) × Above n es

-- each key is above those before it
abbrev pub Rising : List Piece → Type 0
Rising [] = Unit
Rising (e ∷ es) = Above (key e) es × Rising es

-- what is above a number is above each one below it
pub above_on : (m n : ℕ) (es : List Piece) → m ≤ n → Above n es → Above m es
above_on m n [] h a = tt
above_on m n (e ∷ es) h a = (omega (arith, a.0), above_on m n es h a.1)

-- a key below the first of a list that rises is below all of it
pub lower : (x y : Piece) (ys : List Piece) → key x < key y → Above (key y) ys → Above (key x) (y ∷ ys)
lower x y ys h a = (h, above_on (key x) (key y) ys (omega arith) a)

-- one of three: a number is below another, above it, or the same
pub three : {A : Type 0} (m n : ℕ) → (m < n → A) → (n < m → A) → (m ≡ n → A) → A
three m n below over same =
    cases (ltb m n) (λ (e : ltb m n ≡ true). below (ltb-true m n e))
    (λ (e : ltb m n ≡ false). cases (ltb n m) (λ (f : ltb n m ≡ true). over (ltb-true n m f))
    (λ (f : ltb n m ≡ false). same (omega (arith, ltb-false m n e, ltb-false n m f))))

-- WHAT IS FOUND

-- the first has the key
pub found_here : (n : ℕ) (e : Piece) (es : List Piece) → key e ≡ n → found n (e ∷ es) ≡ Some e
unfolding found
found_here n e es h = simp (eq-eqb (key e) n h)

-- the first has it not
pub found_later : (n : ℕ) (e : Piece) (es : List Piece) → (key e ≡ n → ⊥) → found n (e ∷ es) ≡ found n es
unfolding found
found_later n e es h = simp (ne_eqb (key e) n h)

-- what is above a key has it not
pub found_none : (n : ℕ) (es : List Piece) → Above n es → found n es ≡ None
unfolding found
found_none n [] a = refl
found_none n (e ∷ es) a = found_later n e es (λ q. omega (arith, a.0)) ∙ found_none n es a.1

-- something is not nothing
pub not_none : {A : Type 0} (e : Piece) → None ≡ Some e → A
not_none e q = let z : ◌≡◌ {A = ℕ} 0 1 = cc in absurd (omega arith)

-- THE LAW OF FINDING: lists that rise, and in which every key finds alike, are the same list
pub found_alike : (xs ys : List Piece) → Rising xs → Rising ys → ((n : ℕ) → found n xs ≡ found n ys) → xs ≡ ys
unfolding found
found_alike [] [] r s f = refl
found_alike [] (y ∷ ys) r s f = not_none y (f (key y) ∙ found_here (key y) y ys refl)
found_alike (x ∷ xs) [] r s f = not_none x (sym (f (key x)) ∙ found_here (key x) x xs refl)
found_alike (x ∷ xs) (y ∷ ys) r s f =
    three (key x) (key y)
    (λ (h : key x < key y).
    not_none x (sym (found_none (key x) (y ∷ ys) (h, above_on (key x) (key y) ys (omega arith) s.0)) ∙ sym (f (key x)) ∙ found_here (key x) x xs refl))
    (λ (h : key y < key x).
    not_none y (sym (found_none (key y) (x ∷ xs) (h, above_on (key y) (key x) xs (omega arith) r.0)) ∙ f (key y) ∙ found_here (key y) y ys refl))
    (λ (h : key x ≡ key y).
    let one : Some x ≡ Some y = sym (found_here (key x) x xs refl) ∙ f (key x) ∙ found_here (key x) y ys (sym h) in
    let x-is : x ≡ y = cc one in
    let rest : xs ≡ ys = found_alike xs ys r.1 s.1 (alike h) in
    cc (x-is, rest))
  where
    alike : key x ≡ key y → (n : ℕ) → found n xs ≡ found n ys
    alike h n =
        cases (eqb (key x) n)
        (λ (e : eqb (key x) n ≡ true).
        let is : key x ≡ n = eqb-true (key x) n e in
        found_none n xs (subst (λ (m : ℕ). Above m xs) is r.0) ∙ sym (found_none n ys (subst (λ (m : ℕ). Above m ys) (sym h ∙ is) s.0)))
        (λ (e : eqb (key x) n ≡ false).
        let apart = eqb-false (key x) n e in
        sym (found_later n x xs apart) ∙ f n ∙ found_later n y ys (λ (q : key y ≡ n). apart (h ∙ q)))

-- ONE PUT IN

-- what is found after a piece was put in: that one by its key, else what was found before
found_put : (x : Piece) (es : List Piece) (n : ℕ) → found n (put_in x es) ≡ (if eqb (key x) n then Some x else found n es)
unfolding found put_in
found_put x [] n = refl
found_put x (y ∷ ys) n = by (found_put x ys n) (ltb (key x) (key y)) (eqb (key x) (key y)) refl refl
  where
    second : (p q : Bool) → (p ≡ true → q ≡ true) → (q ≡ true → p ≡ true)
        → (if p then Some x else found n ys) ≡ (if p then Some x else if q then Some y else found n ys)
    second true q f g = refl
    second false true f g = let z : ◌≡◌ {A = ℕ} 0 1 = cc (g refl) in absurd (omega arith)
    second false false f g = refl

    later : (p q : Bool) → (p ≡ true → q ≡ true → ⊥)
        → (if q then Some y else if p then Some x else found n ys) ≡ (if p then Some x else if q then Some y else found n ys)
    later true true f = absurd (f refl refl)
    later true false f = refl
    later false q f = refl

    by : found n (put_in x ys) ≡ (if eqb (key x) n then Some x else found n ys) → (t u : Bool) → ltb (key x) (key y) ≡ t
        → eqb (key x) (key y) ≡ u → found n (put_in x (y ∷ ys)) ≡ (if eqb (key x) n then Some x else found n (y ∷ ys))
    by ih true u e f = rw e
    by ih false true e f =
        let is : key x ≡ key y = eqb-true (key x) (key y) f in
        rw (e, f)
        (second (eqb (key x) n) (eqb (key y) n) (λ (p : eqb (key x) n ≡ true). rw is at p) (λ (p : eqb (key y) n ≡ true). rw (← is) at p))
    by ih false false e f =
        rw (e, f)
        (ap (λ (o : Option Piece). if eqb (key y) n then Some y else o) ih
        ∙ later (eqb (key x) n) (eqb (key y) n) (λ p q. eqb-false (key x) (key y) f (eqb-true (key x) n p ∙ sym (eqb-true (key y) n q))))

-- what is put in where the first is above it stands first
put_first : (x y : Piece) (ys : List Piece) → key x < key y → put_in x (y ∷ ys) ≡ x ∷ y ∷ ys
unfolding put_in
put_first x y ys h = simp (lt-ltb (key x) (key y) h)

-- what is put in where the first is below it stands later
put_later : (x y : Piece) (ys : List Piece) → key y < key x → put_in x (y ∷ ys) ≡ y ∷ put_in x ys
unfolding put_in
put_later x y ys h = simp (le-ltb (key x) (key y) (omega arith), ne_eqb (key x) (key y) (λ (q : key x ≡ key y). omega arith))

-- what is put in where the first has its key stands for that one
put_for : (x y : Piece) (ys : List Piece) → key x ≡ key y → put_in x (y ∷ ys) ≡ x ∷ ys
unfolding put_in
put_for x y ys h = simp (le-ltb (key x) (key y) (omega arith), eq-eqb (key x) (key y) h)

-- one of the three
by_put : (P : List Piece → Type 0) (x y : Piece) (ys : List Piece) → (key x < key y → P (x ∷ y ∷ ys)) → (key y < key x → P (y ∷ put_in x ys))
    → (key x ≡ key y → P (x ∷ ys)) → P (put_in x (y ∷ ys))
by_put P x y ys first later for =
    three (key x) (key y) (λ (h : key x < key y). subst P (sym (put_first x y ys h)) (first h))
    (λ (h : key y < key x). subst P (sym (put_later x y ys h)) (later h))
    (λ (h : key x ≡ key y). subst P (sym (put_for x y ys h)) (for h))

-- it is put above what is below it
above_put : (n : ℕ) (x : Piece) (es : List Piece) → n < key x → Above n es → Above n (put_in x es)
unfolding put_in
above_put n x [] h a = (h, tt)
above_put n x (y ∷ ys) h a = by_put (Above n) x y ys (λ l. (h, a)) (λ l. (a.0, above_put n x ys h a.1)) (λ l. (h, a.1))

-- keys still rise
rising_put : (x : Piece) (es : List Piece) → Rising es → Rising (put_in x es)
unfolding put_in
rising_put x [] r = (tt, tt)
rising_put x (y ∷ ys) r =
    by_put Rising x y ys (λ (h : key x < key y). ((h, above_on (key x) (key y) ys (omega arith) r.0), r))
    (λ (h : key y < key x). (above_put (key y) x ys h r.0, rising_put x ys r.1))
    (λ (h : key x ≡ key y). (above_on (key x) (key y) ys (omega arith) r.0, r.1))

-- MERGED

-- THE LAW OF LOOKING UP: every key finds in two merged what it finds in the first, else what it finds in the second
pub found_merged : (xs ys : List Piece) (n : ℕ) → found n (merged xs ys) ≡ or_else (found n xs) (found n ys)
unfolding found merged
found_merged [] ys n = refl
found_merged (x ∷ xs) ys n =
    found_put x (merged xs ys) n ∙ ap (λ (o : Option Piece). if eqb (key x) n then Some x else o) (found_merged xs ys n) ∙ by (eqb (key x) n)
  where
    by : (t : Bool) → (if t then Some x else or_else (found n xs) (found n ys)) ≡ or_else (if t then Some x else found n xs) (found n ys)
    by true = refl
    by false = refl

-- two merged are above what each is above
above_merged : (n : ℕ) (xs ys : List Piece) → Above n xs → Above n ys → Above n (merged xs ys)
unfolding merged
above_merged n [] ys a b = b
above_merged n (x ∷ xs) ys a b = above_put n x (merged xs ys) a.0 (above_merged n xs ys a.1 b)

-- two merged rise
pub rising_merged : (xs ys : List Piece) → Rising ys → Rising (merged xs ys)
unfolding merged
rising_merged [] ys r = r
rising_merged (x ∷ xs) ys r = rising_put x (merged xs ys) (rising_merged xs ys r)

-- the first is the lowest
lowest_put : (x : Piece) (es : List Piece) → Above (key x) es → put_in x es ≡ x ∷ es
unfolding put_in
lowest_put x [] a = refl
lowest_put x (y ∷ ys) a = put_first x y ys a.0

-- the lowest is of the first list
pub merged_first : (x : Piece) (xs ys : List Piece) → Above (key x) xs → Above (key x) ys → merged (x ∷ xs) ys ≡ x ∷ merged xs ys
unfolding merged
merged_first x xs ys a b = lowest_put x (merged xs ys) (above_merged (key x) xs ys a b)

-- the lowest is of the second list
pub merged_second : (y : Piece) (xs ys : List Piece) → Above (key y) xs → merged xs (y ∷ ys) ≡ y ∷ merged xs ys
unfolding merged
merged_second y [] ys a = refl
merged_second y (x ∷ xs) ys a = ap (put_in x) (merged_second y xs ys a.1) ∙ put_later x y (merged xs ys) a.0

-- the lowest key is in both
pub merged_both : (x y : Piece) (xs ys : List Piece) → key x ≡ key y → Above (key x) xs → merged (x ∷ xs) (y ∷ ys) ≡ x ∷ merged xs ys
unfolding merged
merged_both x y xs ys h a =
    ap (put_in x) (merged_second y xs ys (above_on (key y) (key x) xs (omega arith) a)) ∙ put_for x y (merged xs ys) h

-- with nothing
pub merged_nothing : (xs : List Piece) → Rising xs → merged xs [] ≡ xs
unfolding merged
merged_nothing [] r = refl
merged_nothing (x ∷ xs) r = merged_first x xs [] r.0 tt ∙ ap (λ (l : List Piece). x ∷ l) (merged_nothing xs r.1)

-- BYTES THAT ARE THE SAME

-- bytes are the same as themselves
pub same_refl : (xs : List ℕ) → same xs xs ≡ true
same_refl [] = refl
same_refl (x ∷ xs) = simp (eq-eqb x x refl) (same_refl xs)

-- the same bytes are one list
pub same_is : (xs ys : List ℕ) → same xs ys ≡ true → xs ≡ ys
same_is [] [] e = refl
same_is [] (y ∷ ys) e = absurd (false≢true e)
same_is (x ∷ xs) [] e = absurd (false≢true e)
same_is (x ∷ xs) (y ∷ ys) e =
    let first : x ≡ y = eqb-true x y (left (eqb x y) (same xs ys) e) in
    let rest : xs ≡ ys = same_is xs ys (right (eqb x y) (same xs ys) e) in
    cc (first, rest)

-- in either order
same_sym : (xs ys : List ℕ) → same xs ys ≡ same ys xs
same_sym xs ys =
    cases (same xs ys) (λ (e : same xs ys ≡ true). rw (same_is xs ys e))
    (λ (e : same xs ys ≡ false).
    e ∙ sym (fails (same ys xs) (λ f. true≢false (sym (same_refl xs) ∙ ap (λ (l : List ℕ). same xs l) (sym (same_is ys xs f)) ∙ e))))

-- CLASHES

-- the lowest is of the first list alone
pub clash_first : (x : Piece) (xs ys : List Piece) → Above (key x) ys → clash (x ∷ xs) ys ≡ clash xs ys
unfolding clash differs
clash_first x xs ys a = simp (found_none (key x) ys a)

-- the lowest is of the second list alone
pub clash_second : (y : Piece) (xs ys : List Piece) → Above (key y) xs → clash xs (y ∷ ys) ≡ clash xs ys
unfolding clash
clash_second y [] ys a = refl
clash_second y (x ∷ xs) ys a =
    rw (found_later (key x) y ys (λ (q : key y ≡ key x). omega (arith, a.0)), clash_second y xs ys a.1)

-- the lowest key is in both
pub clash_both : (x y : Piece) (xs ys : List Piece) → key x ≡ key y → Above (key x) xs
    → clash (x ∷ xs) (y ∷ ys) ≡ (if not (same (piece_bytes x) (piece_bytes y)) then Some (key x) else clash xs ys)
unfolding clash differs
clash_both x y xs ys h a =
    rw (found_here (key x) y ys (sym h), clash_second y xs ys (above_on (key y) (key x) xs (omega arith) a))

-- the empty list clashes with none
pub clash_nothing : (xs : List Piece) → clash xs [] ≡ None
unfolding clash differs found
clash_nothing [] = refl
clash_nothing (x ∷ xs) = clash_nothing xs

-- TWO LISTS, LOWEST FIRST

module _ (P : List Piece → List Piece → Type 0) (no-first : (ys : List Piece) → P [] ys) (no_second : (x : Piece) (xs : List Piece) → P (x ∷ xs) [])
    (below : (x y : Piece) (xs ys : List Piece) → key x < key y → P xs (y ∷ ys) → P (x ∷ xs) (y ∷ ys))
    (above : (x y : Piece) (xs ys : List Piece) → key y < key x → P (x ∷ xs) ys → P (x ∷ xs) (y ∷ ys))
    (meets : (x y : Piece) (xs ys : List Piece) → key x ≡ key y → P xs ys → P (x ∷ xs) (y ∷ ys)) where
  -- with one more in the first list
  one_more : (x : Piece) (xs : List Piece) → ((ys : List Piece) → P xs ys) → (ys : List Piece) → P (x ∷ xs) ys
  one_more x xs on [] = no_second x xs
  one_more x xs on (y ∷ ys) =
      three (key x) (key y) (λ h. below x y xs ys h (on (y ∷ ys))) (λ h. above x y xs ys h (one_more x xs on ys)) (λ h. meets x y xs ys h (on ys))

  -- what goes on from the lists without their lowest to the lists holds of any two
  pub lowest_first : (xs ys : List Piece) → P xs ys
  lowest_first [] ys = no-first ys
  lowest_first (x ∷ xs) ys = one_more x xs (lowest_first xs) ys

-- two lists clash where they clash in the other order
pub clash_sym : (xs ys : List Piece) → Rising xs → Rising ys → clash xs ys ≡ clash ys xs
unfolding clash
clash_sym =
    lowest_first (λ xs ys. Rising xs → Rising ys → clash xs ys ≡ clash ys xs) (λ ys r s. sym (clash_nothing ys)) (λ x xs r s. clash_nothing (x ∷ xs))
    (λ x y xs ys h on r s.
    let a = lower x y ys h s.0 in
    clash_first x xs (y ∷ ys) a ∙ on r.1 s ∙ sym (clash_second x (y ∷ ys) xs a))
    (λ x y xs ys h on r s.
    let a = lower y x xs h r.0 in
    clash_second y (x ∷ xs) ys a ∙ on r s.1 ∙ sym (clash_first y ys (x ∷ xs) a))
    (λ x y xs ys h on r s.
    clash_both x y xs ys h r.0 ∙ meeting x y xs ys h (on r.1 s.1) ∙ sym (clash_both y x ys xs (sym h) s.0))
  where
    meeting : (x y : Piece) (xs ys : List Piece) → key x ≡ key y → clash xs ys ≡ clash ys xs
        → (if not (same (piece_bytes x) (piece_bytes y)) then Some (key x) else clash xs ys)
        ≡ (if not (same (piece_bytes y) (piece_bytes x)) then Some (key y) else clash ys xs)
    meeting x y xs ys h e = rw (same_sym (piece_bytes x) (piece_bytes y), h, e)

-- PIECES THAT ARE READ BACK

-- each piece has what is asked
abbrev pub Each : (Piece → Type 0) → List Piece → Type 0
Each P [] = Unit
Each P (e ∷ es) = P e × Each P es

-- one put in
each_put : (P : Piece → Type 0) (x : Piece) (es : List Piece) → P x → Each P es → Each P (put_in x es)
unfolding put_in
each_put P x [] p a = (p, tt)
each_put P x (y ∷ ys) p a = by_put (Each P) x y ys (λ h. (p, a)) (λ h. (a.0, each_put P x ys p a.1)) (λ h. (p, a.1))

-- two merged
pub each_merged : (P : Piece → Type 0) (xs ys : List Piece) → Each P xs → Each P ys → Each P (merged xs ys)
unfolding merged
each_merged P [] ys a b = b
each_merged P (x ∷ xs) ys a b = each_put P x (merged xs ys) a.0 (each_merged P xs ys a.1 b)

-- what is found has what is asked of each
pub each_found : (P : Piece → Type 0) (n : ℕ) (es : List Piece) (e : Piece) → Each P es → found n es ≡ Some e → (key e ≡ n) × P e
unfolding found
each_found P n [] e a f = not_none e f
each_found P n (x ∷ es) e a f =
    cases (eqb (key x) n)
    (λ (t : eqb (key x) n ≡ true).
    let is : x ≡ e = cc (sym (found_here n x es (eqb-true (key x) n t)) ∙ f) in
    (ap key (sym is) ∙ eqb-true (key x) n t, subst P is a.0))
    (λ (t : eqb (key x) n ≡ false). each_found P n es e a.1 (sym (found_later n x es (eqb-false (key x) n t)) ∙ f))

-- its items are read from its bytes
abbrev pub Read : Piece → Type 0
Read e = items (piece_bytes e) ≡ piece_items e

-- pieces that are read back, and have the same bytes, are the same
pub read_same : (x y : Piece) → Read x → Read y → same (piece_bytes x) (piece_bytes y) ≡ true → x ≡ y
read_same x y r s e =
    let q : piece_items x ≡ piece_items y = sym r ∙ ap items (same_is (piece_bytes x) (piece_bytes y) e) ∙ s in
    let h : x.head ≡ y.head = cc q in
    let b : x.body ≡ y.body = cc q in
    ap (λ (z : Item). record { head = z; body = x.body }) h ∙ ap (λ (z : List Item). record { head = y.head; body = z }) b

-- WHERE NOTHING CLASHES

-- a key that is found in both finds the same
abbrev pub Agree : List Piece → List Piece → Type 0
Agree xs ys = (n : ℕ) (x y : Piece) → found n xs ≡ Some x → found n ys ≡ Some y → x ≡ y

-- pieces that do not differ are the same
not_differs : (t : Bool) (k : ℕ) (later : Option ℕ) → (if not t then Some k else later) ≡ None → (t ≡ true) × (later ≡ None)
not_differs true k later e = (refl, e)
not_differs false k later e = let z : ◌≡◌ {A = ℕ} 0 1 = cc in absurd (omega arith)

-- nor is there a clash later
no_later : (t : Bool) (k : ℕ) (later : Option ℕ) → (if t then Some k else later) ≡ None → later ≡ None
no_later true k later e = let z : ◌≡◌ {A = ℕ} 0 1 = cc in absurd (omega arith)
no_later false k later e = e

-- lists without a clash agree
pub agree : (xs ys : List Piece) → Each Read xs → Each Read ys → clash xs ys ≡ None → Agree xs ys
unfolding found clash differs
agree [] ys a b e n x y f g = not_none x f
agree (z ∷ xs) ys a b e n x y f g =
    cases (eqb (key z) n)
    (λ (t : eqb (key z) n ≡ true).
    let k : key z ≡ n = eqb-true (key z) n t in
    let is : z ≡ x = cc (sym (found_here n z xs k) ∙ f) in
    let there : found (key z) ys ≡ Some y = ap (λ (m : ℕ). found m ys) k ∙ g in
    sym is ∙ read_same z y a.0 (each_found Read n ys y b g).1 (not_differs (same (piece_bytes z) (piece_bytes y)) (key z) (clash xs ys) (rw there at e)).0)
    (λ (t : eqb (key z) n ≡ false).
    agree xs ys a.1 b (no_later (differs z (found (key z) ys)) (key z) (clash xs ys) e) n x y (sym (found_later n z xs (eqb-false (key z) n t)) ∙ f) g)

-- lists that agree have no clash
pub no_clash : (xs ys : List Piece) → Rising xs → Agree xs ys → clash xs ys ≡ None
unfolding found clash differs
no_clash [] ys r g = refl
no_clash (x ∷ xs) ys r g = by (no_clash xs ys r.1 rest) (found (key x) ys) refl
  where
    rest : Agree xs ys
    rest n z y f h =
        cases (eqb (key x) n)
        (λ (t : eqb (key x) n ≡ true).
        not_none z (sym (found_none n xs (subst (λ (m : ℕ). Above m xs) (eqb-true (key x) n t) r.0)) ∙ f))
        (λ (t : eqb (key x) n ≡ false). g n z y (found_later n x xs (eqb-false (key x) n t) ∙ f) h)

    by : clash xs ys ≡ None → (o : Option Piece) → found (key x) ys ≡ o → clash (x ∷ xs) ys ≡ None
    by later None e = rw e later
    by later (Some y) e =
        let is : x ≡ y = g (key x) x y (found_here (key x) x xs refl) e in
        rw (e, ← is, same_refl (piece_bytes x)) later

module _ (P : List Piece → List Piece → List Piece → Type 0) (no-first : (ys : List Piece) → P [] ys ys)
    (no_second : (x : Piece) (xs : List Piece) → P (x ∷ xs) [] (x ∷ xs))
    (below : (x y : Piece) (xs ys zs : List Piece) → P xs (y ∷ ys) zs → P (x ∷ xs) (y ∷ ys) (x ∷ zs))
    (above : (x y : Piece) (xs ys zs : List Piece) → P (x ∷ xs) ys zs → P (x ∷ xs) (y ∷ ys) (y ∷ zs))
    (meets : (x : Piece) (xs ys zs : List Piece) → P xs ys zs → P (x ∷ xs) (x ∷ ys) (x ∷ zs)) where
  -- what holds of two lists without a clash and what is merged of them, piece by piece
  pub merging : (xs ys : List Piece) → Rising xs → Rising ys → Each Read xs → Each Read ys → clash xs ys ≡ None → P xs ys (merged xs ys)
  unfolding merged
  merging =
      lowest_first (λ xs ys. Rising xs → Rising ys → Each Read xs → Each Read ys → clash xs ys ≡ None → P xs ys (merged xs ys))
      (λ ys r s a b e. no-first ys)
      (λ x xs r s a b e. rw (merged_nothing (x ∷ xs) r) (no_second x xs))
      (λ x y xs ys h on r s a b e.
      let low = lower x y ys h s.0 in
      rw (merged_first x xs (y ∷ ys) r.0 low) (below x y xs ys _ (on r.1 s a.1 b (sym (clash_first x xs (y ∷ ys) low) ∙ e))))
      (λ x y xs ys h on r s a b e.
      let low = lower y x xs h r.0 in
      rw (merged_second y (x ∷ xs) ys low) (above x y xs ys _ (on r s.1 a b.1 (sym (clash_second y (x ∷ xs) ys low) ∙ e))))
      (λ x y xs ys h on r s a b e.
      let t = not_differs (same (piece_bytes x) (piece_bytes y)) (key x) (clash xs ys) (sym (clash_both x y xs ys h r.0) ∙ e) in
      rw (merged_both x y xs ys h r.0, ← (read_same x y a.0 b.0 t.0))
      (meets x xs ys _ (on r.1 s.1 a.1 b.1 t.1)))
