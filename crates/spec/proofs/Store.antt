-- Laws of `sets`, a run of stores into a list, for any list and any run: what the crates that write into lent stores cite.
use Prim.Native.Nat.{ℕ, zero, suc, ◌+◌, ◌-◌, ◌<◌, ◌≤◌}
use mathlib.Core.Path.{◌≡◌, refl, ap, sym, ◌∙◌}
use mathlib.Core.List.{List, [], ◌∷◌, ◌++◌, append-nil}
use native.Mathlib.Omega.{arith}
use native.Mathlib.Nat.{add-zero, add-suc, suc-add}
use lib.ListN.{length, get_or, take, drop, set, length-set, length-drop, take-append-drop, drop_of_length-le}
use borrow.Rule.Slice.PartMut.{mid_of, put_mid}
use lib.Seq.{sets, take-set-le, drop-set-lt, drop-set-add, take_all, get_or-set_same, get_or-set_other}

module _ {A : Type 0} where
  -- a run of stores after another is one run
  pub sets_append : (a b l : List A) (i : ℕ) → sets (sets l i a) (i + length a) b ≡ sets l i (a ++ b)
  sets_append [] b l i = simp add-zero
  sets_append (x ∷ a) b l i =
      ap (λ (k : ℕ). sets (sets (set l i x) (suc i) a) k b) (add-suc i (length a) ∙ sym (suc-add i (length a)))
      ∙ sets_append a b (set l i x) (suc i)

  -- what stands before the run stays
  pub get_or_sets_before : (vs l : List A) (i k : ℕ) (d : A) → k < i → get_or (sets l i vs) k d ≡ get_or l k d
  get_or_sets_before [] l i k d h = refl
  get_or_sets_before (x ∷ vs) l i k d h =
      get_or_sets_before vs (set l i x) (suc i) k d (omega arith) ∙ get_or-set_other l i k x d (λ e. omega arith)

  -- so does the part before it
  pub take_sets : (vs l : List A) (i n : ℕ) → n ≤ i → take n (sets l i vs) ≡ take n l
  take_sets [] l i n h = refl
  take_sets (x ∷ vs) l i n h = take_sets vs (set l i x) (suc i) n (omega arith) ∙ take-set-le n l i x h

  -- what stands after the run stays
  pub drop_sets : (vs l : List A) (i n : ℕ) → i + length vs ≤ n → drop n (sets l i vs) ≡ drop n l
  drop_sets [] l i n h = refl
  drop_sets (x ∷ vs) l i n h = drop_sets vs (set l i x) (suc i) n (omega arith) ∙ drop-set-lt n l i x (omega arith)

  -- in the run stand its elements
  pub get_or_sets : (l : List A) (i : ℕ) (vs : List A) (k : ℕ) (d : A) → i + length vs ≤ length l → k < length vs
      → get_or (sets l i vs) (i + k) d ≡ get_or vs k d
  get_or_sets l i [] k d h hk = absurd (omega arith)
  get_or_sets l i (x ∷ vs) zero d h hk =
      rw add-zero (get_or_sets_before vs (set l i x) (suc i) i d (omega arith) ∙ get_or-set_same l i x d (omega arith))
  get_or_sets l i (x ∷ vs) (suc k) d h hk =
      ap (λ (j : ℕ). get_or (sets (set l i x) (suc i) vs) j d) (add-suc i k ∙ sym (suc-add i k))
      ∙ get_or_sets (set l i x) (suc i) vs k d (simp length-set (omega arith)) (omega arith)

  -- a run of stores into the rest of a list is a run of stores into the list
  pub sets_rest : (b l : List A) (a j : ℕ) → take a l ++ sets (drop a l) j b ≡ sets l (a + j) b
  sets_rest [] l a j = take-append-drop a l
  sets_rest (x ∷ b) l a j =
      ap (λ (z : List A). take a l ++ sets z (suc j) b) (sym (drop-set-add a l j x))
      ∙ ap (λ (z : List A). z ++ sets (drop a (set l (a + j) x)) (suc j) b) (sym (take-set-le a l (a + j) x (omega arith)))
      ∙ sets_rest b (set l (a + j) x) a (suc j)
      ∙ ap (λ (k : ℕ). sets (set l (a + j) x) k b) (add-suc a j)

  -- what is lent by `&mut l[a..]`
  pub rest_is : (l : List A) (a : ℕ) → mid_of a (length l - a) l ≡ drop a l
  rest_is l a = take_all (length l - a) (drop a l) (simp length-drop (omega arith))

  -- the list when it is back
  pub rest_back : (l b ys : List A) (a : ℕ) → ys ≡ sets (mid_of a (length l - a) l) 0 b → put_mid a (length l - a) l ys ≡ sets l a b
  rest_back l b ys a h =
      let e : drop (length l - a) (drop a l) ≡ [] = drop_of_length-le (drop a l) {i = length l - a} (simp length-drop (omega arith)) in
      ap (λ (z : List A). take a l ++ (ys ++ z)) e
      ∙ ap (λ (z : List A). take a l ++ z) (append-nil ys ∙ h ∙ ap (λ (z : List A). sets z 0 b) (rest_is l a))
      ∙ sets_rest b l a 0
      ∙ ap (λ (k : ℕ). sets l k b) (add-zero a)
