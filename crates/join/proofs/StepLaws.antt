-- The walk over two grammars: where a piece ends, and which piece is the lowest.
use lib.Pointwise.{pointwise}
use Rattle.std.proofs.lemmas.Bool.Decides.{Decides-eqb}
use Rattle.std.proofs.lemmas.Slice.Eq.{slice_eq-Decides}
use mathlib.Core.Bool.{false≢true}
use Prim.Native.Nat.{ℕ, ◌+◌, ◌-◌, ◌≤◌, ◌<◌}
use mathlib.Core.Path.{◌≡◌, refl, sym, ap, ◌∙◌, subst}
use mathlib.Core.Bool.{Bool, true, false, not}
use mathlib.Core.List.{List, [], ◌∷◌, ◌++◌, append_assoc}
use Rattle.std.specs.Prelude.{Some}
use native.Mathlib.Omega.{arith}
use borrow.Author.Tests.{lt-ltb, le-ltb}
use lib.Dec.{eqb}
use lib.ListN.{length, take, drop, length-drop, length-append}
use lib.Seq.{take-append_seam}
use Rattle.std.specs.Prelude.{if◌then◌else◌}
use Rattle.spec.specs.Base.{same, joined, every}
use Rattle.spec.specs.Words.{AllBytes}
use Rattle.spec.specs.Grammar.{Item, row, operand, enumerant, parameter, broken, items, start, rules_from}
use Rattle.spec.specs.Builtin.{item_bytes}
use Rattle.spec.specs.Join.{Piece, body_of, pieces_of, pieces, piece_items, piece_bytes, key_of, key, merged, clash, union}
use Rattle.spec.proofs.Choice.{left, right, fails}
use Rattle.demands.proofs.Bytes.{all_drop}
use Rattle.demands.proofs.Lists.{joined_append}
use Rattle.grammar.specs.declared.items.Item as Code
use Rattle.grammar.specs.Items.{item_is, item_at, length_at}
use Rattle.grammar.proofs.ItemLaws.{items_read, items_end}
use Rattle.grammar.proofs.MarkLaws.{is_fine, never, rules_told, rules_fine, fine_there}
use Rattle.join.specs.Steps.{is_part, between, Starts, Stretch, taken, Onward}
use Rattle.join.proofs.ItemLaws.{items_bytes, length_least}
use Rattle.join.proofs.PieceLaws.{Good, parts_before, head_first, head_back, items_back, rules_of}
use Rattle.join.proofs.MergeLaws.{Above, Rising, above_on, Each, merged_first, merged_second, merged_both, same_refl, same_is, clash_first, clash_second, clash_both}
use Rattle.join.proofs.UnionLaws.{formed_by}

-- A PIECE'S END

-- in the loop: the piece's head, and the operands or parameters so far
pub record Ending (g : List ℕ) (at end : ℕ) : Type 0 where
  pub some_bytes : at < end
  pub within : end ≤ length g
  pub head : Item
  pub so_far : List Item
  pub parts : body_of so_far ≡ so_far
  pub rest : items (drop at g) ≡ head ∷ so_far ++ items (drop end g)

-- what is fine from a place on has its bytes there
fine_room : (g : List ℕ) (at : ℕ) (x : Code.Item) (n : ℕ) → at < length g → x ≡ item_at g at → n ≡ length_at g at → is_fine (item_is x) ≡ true → at + n ≤ length g
fine_room g at x n h e l f =
    let t = fine_there g at (item_is x) h (ap item_is (sym e)) f in
    omega (arith, t.0, t.1, l)

-- items after fine items are fine
fine_right : (xs ys : List Item) → every is_fine (xs ++ ys) ≡ true → every is_fine ys ≡ true
fine_right [] ys f = f
fine_right (x ∷ xs) ys f = fine_right xs ys (right (is_fine x) (every is_fine (xs ++ ys)) f)

-- where the loop begins: after the head
pub end_start : (g : List ℕ) (at n : ℕ) → at < length g → Starts g at → n ≡ length_at g at → Ending g at (at + n)
unfolding body_of
end_start g at n h s l =
    let is = items_read g at h (item_at g at) refl n l in
    let fine = rules_fine start _ (subst (λ (xs : List Item). rules_from start xs ≡ true) is s.rules) in
    record {
      some_bytes = omega (arith, l, length_least g at);
      within = fine_room g at (item_at g at) n h refl l (left (is_fine (item_is (item_at g at))) _ fine);
      head = item_is (item_at g at);
      so_far = [];
      parts = refl;
      rest = is;
    }

-- an operand or parameter is all that it begins with
part_body : (x : Item) → is_part x ≡ true → body_of (x ∷ []) ≡ x ∷ []
unfolding body_of is_part
part_body (row o) e = never e refl
part_body (operand k q) e = refl
part_body (enumerant k v) e = never e refl
part_body (parameter k) e = refl
part_body broken e = never e refl

-- another item begins with none
other_body : (x : Item) (xs : List Item) → is_part x ≡ false → body_of (x ∷ xs) ≡ []
unfolding body_of is_part
other_body (row o) xs e = refl
other_body (operand k q) xs e = never refl e
other_body (enumerant k v) xs e = refl
other_body (parameter k) xs e = never refl e
other_body broken xs e = refl

module _ {g : List ℕ} {at end : ℕ} (s : Starts g at) (r : Ending g at end) where
  -- the rules, by what was read so far
  ruled : rules_from start (r.head ∷ r.so_far ++ items (drop end g)) ≡ true
  ruled = subst (λ (xs : List Item). rules_from start xs ≡ true) r.rest s.rules

  -- what follows is fine
  fine_rest : every is_fine (items (drop end g)) ≡ true
  fine_rest = fine_right (r.head ∷ r.so_far) (items (drop end g)) (rules_fine start _ ruled)

  module _ (h : end < length g) (x : Code.Item) (read : x ≡ item_at g end) (n : ℕ) (l : n ≡ length_at g end) where
    -- the next item is there
    pub end_room : end + n ≤ length g
    end_room =
        let is = items_read g end h x read n l in
        fine_room g end x n h read l (left (is_fine (item_is x)) _ (subst (λ (xs : List Item). every is_fine xs ≡ true) is fine_rest))

    -- it is an operand or a parameter
    pub end_turn : is_part (item_is x) ≡ true → Ending g at (end + n)
    end_turn p = record {
      some_bytes = omega (arith, r.some_bytes);
      within = end_room;
      head = r.head;
      so_far = r.so_far ++ (item_is x ∷ []);
      parts = (parts_before r.so_far (item_is x ∷ []) r.parts).0 ∙ ap (λ (ys : List Item). r.so_far ++ ys) (part_body (item_is x) p);
      rest =
          r.rest ∙ ap (λ (ys : List Item). r.head ∷ r.so_far ++ ys) (items_read g end h x read n l)
          ∙ ap (λ (ys : List Item). r.head ∷ ys) (sym (append_assoc r.so_far (item_is x ∷ []) (items (drop (end + n) g))));
    }

    -- it is not
    pub end_other : is_part (item_is x) ≡ false → body_of (items (drop end g)) ≡ []
    end_other p = ap body_of (items_read g end h x read n l) ∙ other_body (item_is x) _ p

  -- nothing follows
  pub end_bytes : length g ≤ end → body_of (items (drop end g)) ≡ []
  unfolding body_of
  end_bytes h = rw (items_end g end h)

  module _ (by : AllBytes g) (stop : body_of (items (drop end g)) ≡ []) where
    -- the piece, and those after it
    stretch_first : pieces (drop at g) ≡ record { head = r.head; body = r.so_far } ∷ pieces (drop end g)
    unfolding pieces
    stretch_first =
        ap pieces_of r.rest
        ∙ (head_back r.head r.so_far (items (drop end g)) (rules_told start r.head _ ruled).0 r.parts stop).1

    -- the bytes of the piece, and those after it
    stretch_bytes : drop at g ≡ piece_bytes (record { head = r.head; body = r.so_far }) ++ drop end g
    unfolding piece_bytes
    stretch_bytes =
        sym (items_bytes (drop at g) (all_drop at g by) (rules_fine start (items (drop at g)) s.rules))
        ∙ ap (joined item_bytes) r.rest
        ∙ joined_append item_bytes (r.head ∷ r.so_far) (items (drop end g))
        ∙ ap (λ (z : List ℕ). joined item_bytes (r.head ∷ r.so_far) ++ z) (items_bytes (drop end g) (all_drop end g by) fine_rest)

    -- how many they are
    stretch_length : end - at ≡ length (piece_bytes (record { head = r.head; body = r.so_far }))
    stretch_length =
        let e = ap length stretch_bytes ∙ length-append (piece_bytes (record { head = r.head; body = r.so_far })) (drop end g) in
        let whole : length g - at ≡ length (piece_bytes (record { head = r.head; body = r.so_far })) + (length g - end) =
        sym (length-drop at g) ∙ e ∙ ap (λ (n : ℕ). length (piece_bytes (record { head = r.head; body = r.so_far })) + n) (length-drop end g) in
        omega (arith, whole, r.some_bytes, r.within)

    -- what is left meets the rules by itself
    stretch_rules : rules_from start (items (drop end g)) ≡ true
    unfolding pieces
    stretch_rules =
        let f = formed_by (drop at g) (all_drop at g by) s.rules in
        let rising = subst Rising stretch_first f.rising in
        let good = subst (Each Good) stretch_first f.good in
        let is : joined piece_items (pieces_of (items (drop end g))) ≡ items (drop end g) =
        sym (ap (λ (b : List Item). b ++ joined piece_items (pieces_of (items (drop end g)))) stop) ∙ items_back (items (drop end g)) fine_rest in
        subst (λ (xs : List Item). rules_from start xs ≡ true) is (rules_of (pieces_of (items (drop end g))) good.1 rising.1)

    -- the piece stands there
    pub stretched : Stretch g at end
    stretched = record {
      some_bytes = r.some_bytes;
      piece = record { head = r.head; body = r.so_far };
      first = stretch_first;
      bytes =
          ap (λ (n : ℕ). take n (drop at g)) stretch_length ∙ ap (take (length (piece_bytes (record { head = r.head; body = r.so_far })))) stretch_bytes
          ∙ take-append_seam (piece_bytes (record { head = r.head; body = r.so_far })) (drop end g);
      next = record { within = r.within; rules = stretch_rules };
    }

-- THE LOWEST PIECE

-- what stands from the end on is above anything
pub above_end : (n : ℕ) (g : List ℕ) (at : ℕ) → length g ≤ at → Above n (pieces (drop at g))
unfolding pieces pieces_of
above_end n g at h = rw (items_end g at h) tt

-- lists that are the same have the same first piece
first_is : (x y : Piece) (xs ys : List Piece) → x ∷ xs ≡ y ∷ ys → x ≡ y
first_is x y xs ys e = cc e

module _ {g : List ℕ} {at : ℕ} (by : AllBytes g) (s : Starts g at) (h : at < length g) where
  -- the first piece has the item that stands there for its head
  opens : pieces (drop at g) ≡ record { head = item_is (item_at g at); body = body_of (items (drop (at + length_at g at) g)) } ∷ pieces_of (items (drop (at + length_at g at) g))
  unfolding pieces
  opens =
      let is = items_read g at h (item_at g at) refl (length_at g at) refl in
      ap pieces_of is
      ∙ (head_first (item_is (item_at g at)) _ (rules_told start _ _ (subst (λ (xs : List Item). rules_from start xs ≡ true) is s.rules)).0).1

  -- what is below its key is below all
  pub above_here : (n : ℕ) → n < key_of (item_is (item_at g at)) → Above n (pieces (drop at g))
  above_here n l =
      let rising = subst Rising opens (formed_by (drop at g) (all_drop at g by) s.rules).rising in
      subst (Above n) (sym opens) (l, above_on n (key_of (item_is (item_at g at))) (pieces_of (items (drop (at + length_at g at) g))) (omega arith) rising.0)

  -- the key of the piece that stands there
  pub stretch_key : {end : ℕ} (t : Stretch g at end) → key t.piece ≡ key_of (item_is (item_at g at))
  stretch_key t = ap key (first_is t.piece _ _ _ (sym t.first ∙ opens))

-- the pieces after one are above it
stretch_above : {g : List ℕ} {at end : ℕ} → AllBytes g → Starts g at → (t : Stretch g at end) → Above (key t.piece) (pieces (drop end g))
stretch_above {g} {at} by s t = (subst Rising t.first (formed_by (drop at g) (all_drop at g by) s.rules).rising).0

-- STEPS

module _ {a b : List ℕ} {i j : ℕ} (bya : AllBytes a) (byb : AllBytes b) (sa : Starts a i) (sb : Starts b j) where
  -- the first's piece is the lowest
  pub first_on : {e : ℕ} (t : Stretch a i e) → Above (key t.piece) (pieces (drop j b)) → Onward a i e b j j
  unfolding union taken
  first_on {e} t low = record {
    first = t.next;
    second = sb;
    up = (omega (arith, t.some_bytes), omega arith, omega (arith, t.some_bytes));
    apart = ap (λ (l : List Piece). clash l (pieces (drop j b))) t.first ∙ clash_first t.piece (pieces (drop e a)) (pieces (drop j b)) low;
    whole =
        ap (λ (l : List Piece). joined piece_bytes (merged l (pieces (drop j b)))) t.first
        ∙ ap (joined piece_bytes) (merged_first t.piece (pieces (drop e a)) (pieces (drop j b)) (stretch_above bya sa t) low)
        ∙ rw (lt-ltb i e t.some_bytes, t.bytes);
  }

  -- the second's is
  pub second_on : {f : ℕ} (u : Stretch b j f) → Above (key u.piece) (pieces (drop i a)) → Onward a i i b j f
  unfolding union taken
  second_on {f} u low = record {
    first = sa;
    second = u.next;
    up = (omega arith, omega (arith, u.some_bytes), omega (arith, u.some_bytes));
    apart = ap (clash (pieces (drop i a))) u.first ∙ clash_second u.piece (pieces (drop i a)) (pieces (drop f b)) low;
    whole =
        ap (λ (l : List Piece). joined piece_bytes (merged (pieces (drop i a)) l)) u.first
        ∙ ap (joined piece_bytes) (merged_second u.piece (pieces (drop i a)) (pieces (drop f b)) low)
        ∙ rw (le-ltb i i (omega arith), u.bytes);
  }

  module _ {e f : ℕ} (t : Stretch a i e) (u : Stretch b j f) (meets : key t.piece ≡ key u.piece) where
    -- the lowest key is in both: whether the pieces differ
    meeting : clash (pieces (drop i a)) (pieces (drop j b))
        ≡ (if not (same (between i e a) (between j f b)) then Some (key t.piece) else clash (pieces (drop e a)) (pieces (drop f b)))
    meeting =
        ap (λ (l : List Piece). clash l (pieces (drop j b))) t.first ∙ ap (clash (t.piece ∷ pieces (drop e a))) u.first
        ∙ clash_both t.piece u.piece (pieces (drop e a)) (pieces (drop f b)) meets (stretch_above bya sa t)
        ∙ rw (t.bytes, u.bytes)

    -- they are the same
    pub both_on : between i e a ≡ between j f b → Onward a i e b j f
    unfolding union taken
    both_on same = record {
      first = t.next;
      second = u.next;
      up = (omega (arith, t.some_bytes), omega (arith, u.some_bytes), omega (arith, t.some_bytes, u.some_bytes));
      apart = meeting ∙ rw (same, same_refl (between j f b));
      whole =
          ap (λ (l : List Piece). joined piece_bytes (merged l (pieces (drop j b)))) t.first
          ∙ ap (λ (l : List Piece). joined piece_bytes (merged (t.piece ∷ pieces (drop e a)) l)) u.first
          ∙ ap (joined piece_bytes) (merged_both t.piece u.piece (pieces (drop e a)) (pieces (drop f b)) meets (stretch_above bya sa t))
          ∙ rw (lt-ltb i e t.some_bytes, t.bytes);
    }

    -- they differ
    pub both_differ : (between i e a ≡ between j f b → ⊥) → clash (pieces (drop i a)) (pieces (drop j b)) ≡ Some (key t.piece)
    both_differ apart = meeting ∙ rw (fails (same (between i e a) (between j f b)) (λ q. apart (same_is (between i e a) (between j f b) q)))

-- BY WHAT THE CODE READ

-- a key, read from the item that stands there
pub key_read : (g : List ℕ) (at : ℕ) (x : Code.Item) (n : ℕ) → x ≡ item_at g at → n ≡ key_of (item_is x) → n ≡ key_of (item_is (item_at g at))
key_read g at x n e k = rw (← e) k

module _ {a b : List ℕ} {i j : ℕ} (bya : AllBytes a) (byb : AllBytes b) (sa : Starts a i) (sb : Starts b j) (ha : i < length a) (hb : j < length b)
    {x y : ℕ} (kx : x ≡ key_of (item_is (item_at a i))) (ky : y ≡ key_of (item_is (item_at b j))) where
  -- the first's key is the lower
  pub first_lower : x < y → {e : ℕ} → Stretch a i e → Onward a i e b j j
  first_lower l t =
      let k = stretch_key bya sa ha t in
      first_on bya byb sa sb t (above_here byb sb hb (key t.piece) (omega (arith, l, k, kx, ky)))

  -- the second's is
  pub second_lower : y < x → {f : ℕ} → Stretch b j f → Onward a i i b j f
  second_lower l u =
      let k = stretch_key byb sb hb u in
      second_on bya byb sa sb u (above_here bya sa ha (key u.piece) (omega (arith, l, k, kx, ky)))

  module _ (meets : x ≡ y) {e f : ℕ} (t : Stretch a i e) (u : Stretch b j f) where
    -- the keys of the two pieces are the same
    keys_meet : key t.piece ≡ key u.piece
    keys_meet = stretch_key bya sa ha t ∙ sym kx ∙ meets ∙ ky ∙ sym (stretch_key byb sb hb u)

    -- so are their bytes
    pub same_step : between i e a ≡ between j f b → Onward a i e b j f
    same_step = both_on bya byb sa sb t u keys_meet

    -- their bytes are not
    pub differ_step : (between i e a ≡ between j f b → ⊥) → clash (pieces (drop i a)) (pieces (drop j b)) ≡ Some x
    differ_step apart = both_differ bya byb sa sb t u keys_meet apart ∙ ap Some (stretch_key bya sa ha t ∙ sym kx)

-- what `==` tells of two slices
pub slices_equal : (a b : List ℕ) (r : Bool) → r ≡ pointwise eqb a b → r ≡ true → a ≡ b
slices_equal a b r e t = (slice_eq-Decides Decides-eqb a b r e).0 t

-- and where it is false
pub slices_differ : (a b : List ℕ) (r : Bool) → r ≡ pointwise eqb a b → r ≡ false → a ≡ b → ⊥
slices_differ a b r e t h = false≢true (sym t ∙ (slice_eq-Decides Decides-eqb a b r e).1 h)
