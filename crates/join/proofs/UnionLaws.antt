-- The union of two well-formed grammars: what it holds, and which rules it can break.
use Prim.Native.Nat.{ℕ, zero, suc, ◌+◌, ◌*◌, ◌≤◌, ◌<◌}
use mathlib.Core.Path.{◌≡◌, refl, sym, ap, ◌∙◌, subst}
use mathlib.Core.Bool.{Bool, true, false, not, ◌&&◌, and-true, and_assoc}
use mathlib.Core.List.{List, [], ◌∷◌, ◌++◌}
use Rattle.std.specs.Prelude.{Option, None, Some}
use native.Mathlib.Omega.{arith}
use borrow.Author.Tests.{eq-eqb, ne_eqb, eqb-true, eqb-false}
use lib.Dec.{leb, eqb}
use lib.ListN.{length}
use Rattle.std.specs.Prelude.{if◌then◌else◌}
use Rattle.spec.specs.Base.{has, or_else, joined, every, implies}
use Rattle.spec.specs.Words.{AllBytes}
use Rattle.spec.specs.Kinds.{is_enum}
use Rattle.spec.specs.Grammar.{Item, row, operand, enumerant, parameter, broken, items, Slot, slot, start, rules_from, Enumerant, slots_of, parameters_of, rows_of, enumerants_of, grammar_by, grammar_of, parameterless, all_flat, well_formed_items, well_formed, row_of, listed}
use Rattle.spec.specs.Builtin.{item_bytes}
use Rattle.spec.specs.Join.{Piece, body_of, pieces_of, pieces, piece_items, piece_bytes, key_of, found, merged, clash, union}
use Rattle.spec.proofs.Choice.{left, right}
use Rattle.demands.proofs.Bytes.{all_append, all_left, all_right}
use Rattle.formed.specs.Check.{flat_over}
use Rattle.grammar.proofs.IndexLaws.{well_told}
use Rattle.grammar.proofs.MarkLaws.{is_fine, never, rules_fine, enum_least, none_listed}
use Rattle.join.specs.Steps.{flat_both}
use Rattle.join.proofs.ItemLaws.{AllSmall, items_small, items_bytes}
use Rattle.join.proofs.PieceLaws.{Good, all_read_lem, rules_cut, Written, written, pieces_bytes, items_back, start_head}
use Rattle.join.proofs.MergeLaws.{Rising, rising_merged, Each, Read, each_merged, found_merged, merging}

-- A WELL-FORMED GRAMMAR

-- a piece whose bytes are bytes
abbrev pub InBytes : Piece → Type 0
InBytes e = AllBytes (piece_bytes e)

-- what a well-formed grammar of bytes is: the bytes of good pieces that rise
pub record Formed (g : List ℕ) : Type 0 where
  pub rising : Rising (pieces g)
  pub good : Each Good (pieces g)
  pub read : Each Read (pieces g)
  pub in_bytes : Each InBytes (pieces g)
  pub is : joined piece_bytes (pieces g) ≡ g
  pub fine : every is_fine (items g) ≡ true
  pub small : AllSmall (items g)

-- pieces whose bytes together are bytes
each_bytes : (es : List Piece) → AllBytes (joined piece_bytes es) → Each InBytes es
each_bytes [] by = tt
each_bytes (e ∷ es) by = (all_left (piece_bytes e) _ by, each_bytes es (all_right (piece_bytes e) _ by))

-- pieces whose bytes are bytes together
pub bytes_each : (es : List Piece) → Each InBytes es → AllBytes (joined piece_bytes es)
bytes_each [] b = tt
bytes_each (e ∷ es) b = all_append (piece_bytes e) (joined piece_bytes es) b.0 (bytes_each es b.1)

-- a grammar of bytes that meets the rules
pub formed_by : (g : List ℕ) → AllBytes g → rules_from start (items g) ≡ true → Formed g
unfolding pieces
formed_by g by rules =
    let small = items_small g by in
    let fine = rules_fine start (items g) rules in
    let told = rules_cut (items g) small rules in
    let back : joined piece_items (pieces_of (items g)) ≡ items g =
    sym (ap (λ (b : List Item). b ++ joined piece_items (pieces_of (items g))) (start_head (items g) rules)) ∙ items_back (items g) fine in
    let is = pieces_bytes (pieces_of (items g)) ∙ ap (joined item_bytes) back ∙ items_bytes g by fine in
    record {
      rising = told.0;
      good = told.1;
      read = all_read_lem (pieces_of (items g)) told.1;
      in_bytes = each_bytes (pieces_of (items g)) (subst AllBytes (sym is) by);
      is = is;
      fine = fine;
      small = small;
    }

-- one that is well-formed
pub formed : (g : List ℕ) → AllBytes g → well_formed g ≡ true → Formed g
formed g by w = formed_by g by (well_told g w).rules

-- LOOKING UP BY KEY

-- the operands of a piece that was found
abbrev slots_in : Option Piece → Option (List Slot)
slots_in None = None
slots_in (Some e) = Some (slots_of e.body)

-- the parameters of a piece that was found
abbrev parameters_in : Option Piece → Option (List ℕ)
parameters_in None = None
parameters_in (Some e) = Some (parameters_of e.body)

-- the operands that items begin with are in what belongs to a head
slots_body : (xs : List Item) → slots_of (body_of xs) ≡ slots_of xs
unfolding slots_of body_of
slots_body [] = refl
slots_body (row o ∷ xs) = refl
slots_body (operand k q ∷ xs) = ap (λ (ss : List Slot). slot k q ∷ ss) (slots_body xs)
slots_body (enumerant k v ∷ xs) = refl
slots_body (parameter k ∷ xs) = refl
slots_body (broken ∷ xs) = refl

-- and so are the parameters
parameters_body : (xs : List Item) → parameters_of (body_of xs) ≡ parameters_of xs
unfolding parameters_of body_of
parameters_body [] = refl
parameters_body (row o ∷ xs) = refl
parameters_body (operand k q ∷ xs) = refl
parameters_body (enumerant k v ∷ xs) = refl
parameters_body (parameter k ∷ xs) = ap (λ (ps : List ℕ). k ∷ ps) (parameters_body xs)
parameters_body (broken ∷ xs) = refl

-- one of two rows
slots_if : (t : Bool) (e : Piece) (o : Option Piece) (ss : List Slot) (p : Option (List Slot)) → ss ≡ slots_of e.body → p ≡ slots_in o
    → (if t then Some ss else p) ≡ slots_in (if t then Some e else o)
slots_if true e o ss p a b = ap Some a
slots_if false e o ss p a b = b

-- one of two enumerants
parameters_if : (t : Bool) (e : Piece) (o : Option Piece) (ps : List ℕ) (p : Option (List ℕ)) → ps ≡ parameters_of e.body → p ≡ parameters_in o
    → (if t then Some ps else p) ≡ parameters_in (if t then Some e else o)
parameters_if true e o ps p a b = ap Some a
parameters_if false e o ps p a b = b

-- an opcode's row is found by the opcode
row_by : (op : ℕ) → op < 65536 → (xs : List Item) → every is_fine xs ≡ true → row_of op (rows_of xs) ≡ slots_in (found op (pieces_of xs))
unfolding row_of rows_of found pieces_of key_of
row_by op h [] f = refl
row_by op h (row o ∷ xs) f = slots_if (eqb o op) _ _ _ _ (sym (slots_body xs)) (row_by op h xs f)
row_by op h (operand k q ∷ xs) f = row_by op h xs f
row_by op h (enumerant k v ∷ xs) f =
    let one = enum_least k (left (is_enum k) (every is_fine xs) f) in
    simp (ne_eqb (k * 4294967296 + v) op (λ (q : k * 4294967296 + v ≡ op). omega arith)) (row_by op h xs (right (is_enum k) (every is_fine xs) f))
row_by op h (parameter k ∷ xs) f = row_by op h xs f
row_by op h (broken ∷ xs) f = never f refl

-- kinds and values are the same where their keys are
key_eqb : (j u k v : ℕ) → u < 4294967296 → v < 4294967296 → eqb (j * 4294967296 + u) (k * 4294967296 + v) ≡ eqb j k && eqb u v
key_eqb j u k v h l = by (eqb j k) (eqb u v) refl refl
  where
    by : (p q : Bool) → eqb j k ≡ p → eqb u v ≡ q → eqb (j * 4294967296 + u) (k * 4294967296 + v) ≡ p && q
    by true true e f =
        let a = eqb-true j k e in
        let b = eqb-true u v f in
        eq-eqb (j * 4294967296 + u) (k * 4294967296 + v) (omega arith)
    by true false e f =
        let a = eqb-true j k e in
        let b = eqb-false u v f in
        ne_eqb (j * 4294967296 + u) (k * 4294967296 + v) (λ (z : j * 4294967296 + u ≡ k * 4294967296 + v). b (omega arith))
    by false q e f =
        let a = eqb-false j k e in
        ne_eqb (j * 4294967296 + u) (k * 4294967296 + v) (λ (z : j * 4294967296 + u ≡ k * 4294967296 + v). a (omega arith))

-- an enumerant is found by its kind and value
enumerant_by : (k v : ℕ) → 1 ≤ k → v < 4294967296 → (xs : List Item) → every is_fine xs ≡ true → AllSmall xs
    → listed k v (enumerants_of xs) ≡ parameters_in (found (key_of (enumerant k v)) (pieces_of xs))
unfolding listed enumerants_of found pieces_of key_of
enumerant_by k v one h [] f s = refl
enumerant_by k v one h (row o ∷ xs) f s =
    simp (ne_eqb o (k * 4294967296 + v) (λ (q : o ≡ k * 4294967296 + v). omega (arith, s.0))) (enumerant_by k v one h xs f s.1)
enumerant_by k v one h (operand j q ∷ xs) f s = enumerant_by k v one h xs f s.1
enumerant_by k v one h (enumerant j u ∷ xs) f s =
    rw (key_eqb j u k v s.0 h)
    (parameters_if (eqb j k && eqb u v) _ _ _ _ (sym (parameters_body xs)) (enumerant_by k v one h xs (right (is_enum j) (every is_fine xs) f) s.1))
enumerant_by k v one h (parameter j ∷ xs) f s = enumerant_by k v one h xs f s.1
enumerant_by k v one h (broken ∷ xs) f s = never f refl

-- TESTS ON ENUMERANTS

-- a test of a piece that is an enumerant
abbrev on_enumerant : (Enumerant → Bool) → Item → List Item → Bool
on_enumerant f (enumerant k v) b = f (record { kind = k; value = v; parameters = parameters_of b })
on_enumerant f (row o) b = true
on_enumerant f (operand k q) b = true
on_enumerant f (parameter k) b = true
on_enumerant f broken b = true

-- each enumerant passes where each piece that is one does
every_by : (f : Enumerant → Bool) (xs : List Item) → every f (enumerants_of xs) ≡ every (λ e. on_enumerant f e.head e.body) (pieces_of xs)
unfolding enumerants_of pieces_of
every_by f [] = refl
every_by f (row o ∷ xs) = every_by f xs
every_by f (operand k q ∷ xs) = every_by f xs
every_by f (enumerant k v ∷ xs) =
    rw (parameters_body xs) (ap (λ (t : Bool). f (record { kind = k; value = v; parameters = parameters_of xs }) && t) (every_by f xs))
every_by f (parameter k ∷ xs) = every_by f xs
every_by f (broken ∷ xs) = every_by f xs

-- tests of both
and_swap : (a b c : Bool) → a && (b && c) ≡ b && (a && c)
and_swap true b c = refl
and_swap false true c = refl
and_swap false false c = refl

-- each of two merged passes where each of both does
pub every_merged : (f : Piece → Bool) (xs ys : List Piece) → Rising xs → Rising ys → Each Read xs → Each Read ys → clash xs ys ≡ None
    → every f (merged xs ys) ≡ every f xs && every f ys
every_merged f =
    merging (λ xs ys zs. every f zs ≡ every f xs && every f ys) (λ ys. refl) (λ x xs. sym (and-true (f x && every f xs)))
    (λ x y xs ys zs e. ap (λ (t : Bool). f x && t) e ∙ sym (and_assoc (f x) (every f xs) (every f (y ∷ ys))))
    (λ x y xs ys zs e. ap (λ (t : Bool). f y && t) e ∙ and_swap (f y) (every f (x ∷ xs)) (every f ys))
    (λ x xs ys zs e. ap (λ (t : Bool). f x && t) e ∙ twice (f x) (every f xs) (every f ys))
  where
    twice : (a b c : Bool) → a && (b && c) ≡ (a && b) && (a && c)
    twice true b c = refl
    twice false b c = refl

-- THE UNION

-- what is there of one's operands, or else of the other's
slots_else : (o p : Option Piece) → slots_in (or_else o p) ≡ or_else (slots_in o) (slots_in p)
slots_else None p = refl
slots_else (Some e) p = refl

-- what is there of one's parameters, or else of the other's
parameters_else : (o p : Option Piece) → parameters_in (or_else o p) ≡ or_else (parameters_in o) (parameters_in p)
parameters_else None p = refl
parameters_else (Some e) p = refl

-- each element passes two tests where it passes each
every_both : {A : Type 0} (f g h : A → Bool) → ((x : A) → f x ≡ g x && h x) → (xs : List A) → every f xs ≡ every g xs && every h xs
every_both f g h e [] = refl
every_both f g h e (x ∷ xs) = rw (e x, every_both f g h e xs) (apart (g x) (h x) (every g xs) (every h xs))
  where
    apart : (p q r s : Bool) → (p && q) && (r && s) ≡ (p && r) && (q && s)
    apart true q r s = and_swap q r s
    apart false q r s = refl

module _ (a b : List ℕ) (fa : Formed a) (fb : Formed b) where
  -- it meets the rules, and its pieces are those of the two, merged
  union_written : Written (merged (pieces a) (pieces b)) (union a b)
  unfolding union
  union_written =
      written (merged (pieces a) (pieces b)) (each_merged Good (pieces a) (pieces b) fa.good fb.good)
      (rising_merged (pieces a) (pieces b) fb.rising)

  -- it meets the rules, item by item
  pub union_rules : rules_from start (items (union a b)) ≡ true
  union_rules = union_written.rules

  -- its pieces are those of the two
  pub union_pieces : pieces (union a b) ≡ merged (pieces a) (pieces b)
  unfolding pieces
  union_pieces = union_written.pieces

  -- it is bytes
  pub union_bytes : AllBytes (union a b)
  unfolding union
  union_bytes = bytes_each (merged (pieces a) (pieces b)) (each_merged InBytes (pieces a) (pieces b) fa.in_bytes fb.in_bytes)

  -- so it is the bytes of good pieces that rise
  pub union_formed : Formed (union a b)
  union_formed = formed_by (union a b) union_bytes union_rules

  -- every key finds in it what it finds in the first, else what it finds in the second
  pub union_found : (n : ℕ) → found n (pieces (union a b)) ≡ or_else (found n (pieces a)) (found n (pieces b))
  union_found n = ap (found n) union_pieces ∙ found_merged (pieces a) (pieces b) n

  -- IT HOLDS EXACTLY THE ROWS OF THE TWO: an opcode's row in it is the first's, else the second's,
  pub union_row : (op : ℕ) → op < 65536 → row_of op (grammar_of (union a b)).rows ≡ or_else (row_of op (grammar_of a).rows) (row_of op (grammar_of b).rows)
  unfolding grammar_of grammar_by pieces
  union_row op h =
      row_by op h (items (union a b)) union_formed.fine ∙ ap slots_in (union_found op)
      ∙ slots_else (found op (pieces a)) (found op (pieces b))
      ∙ rw (row_by op h (items a) fa.fine, row_by op h (items b) fb.fine)

  -- AND EXACTLY THE ENUMERANTS OF THE TWO: those of a kind and a value are the first's, else the second's
  pub union_enumerant : (k v : ℕ) → v < 4294967296
      → listed k v (grammar_of (union a b)).enumerants ≡ or_else (listed k v (grammar_of a).enumerants) (listed k v (grammar_of b).enumerants)
  unfolding grammar_of grammar_by pieces
  union_enumerant zero v h =
      rw (none_listed v (items (union a b)) union_formed.fine, none_listed v (items a) fa.fine, none_listed v (items b) fb.fine)
  union_enumerant (suc k) v h =
      let one : 1 ≤ suc k = omega arith in
      enumerant_by (suc k) v one h (items (union a b)) union_formed.fine union_formed.small
      ∙ ap parameters_in (union_found (key_of (enumerant (suc k) v)))
      ∙ parameters_else (found (key_of (enumerant (suc k) v)) (pieces a)) (found (key_of (enumerant (suc k) v)) (pieces b))
      ∙ rw (enumerant_by (suc k) v one h (items a) fa.fine fa.small, enumerant_by (suc k) v one h (items b) fb.fine fb.small)

  module _ (apart : clash (pieces a) (pieces b) ≡ None) where
    -- each of its enumerants passes a test where each of both does
    every_union : (f : Enumerant → Bool)
        → every f (enumerants_of (items (union a b))) ≡ every f (enumerants_of (items a)) && every f (enumerants_of (items b))
    unfolding pieces
    every_union f =
        every_by f (items (union a b)) ∙ ap (every (λ e. on_enumerant f e.head e.body)) union_pieces
        ∙ every_merged (λ e. on_enumerant f e.head e.body) (pieces a) (pieces b) fa.rising fb.rising fa.read fb.read apart
        ∙ rw (every_by f (items a), every_by f (items b))

    -- a kind has no parameters in it where it has none in both
    parameterless_union : (k : ℕ) → parameterless (enumerants_of (items (union a b))) k
        ≡ parameterless (enumerants_of (items a)) k && parameterless (enumerants_of (items b)) k
    unfolding parameterless
    parameterless_union k = every_union (λ e. implies (eqb e.kind k) (not (has 1 e.parameters)))

    -- enumerants are flat over it where they are flat over both
    flat_over_union : (es : List Enumerant) → flat_over (enumerants_of (items (union a b))) es
        ≡ flat_over (enumerants_of (items a)) es && flat_over (enumerants_of (items b)) es
    unfolding flat_over
    flat_over_union es =
        every_both _ _ _
        (λ (e : Enumerant).
        every_both (parameterless (enumerants_of (items (union a b)))) (parameterless (enumerants_of (items a))) (parameterless (enumerants_of (items b)))
        parameterless_union e.parameters)
        es

    -- it is flat where each is flat over itself and over the other
    flat_union : all_flat (enumerants_of (items (union a b)))
        ≡ (all_flat (enumerants_of (items a)) && flat_over (enumerants_of (items b)) (enumerants_of (items a)))
        && (flat_over (enumerants_of (items a)) (enumerants_of (items b)) && all_flat (enumerants_of (items b)))
    unfolding all_flat flat_over
    flat_union =
        every_union (λ e. every (parameterless (enumerants_of (items (union a b)))) e.parameters)
        ∙ rw (flat_over_union (enumerants_of (items a)), flat_over_union (enumerants_of (items b)))

    -- a part of what is flat is flat
    pub flat_part : all_flat (enumerants_of (items (union a b))) ≡ true → all_flat (enumerants_of (items b)) ≡ true
    flat_part e =
        let over = flat_over (enumerants_of (items a)) (enumerants_of (items b)) in
        let first = all_flat (enumerants_of (items a)) && flat_over (enumerants_of (items b)) (enumerants_of (items a)) in
        right over (all_flat (enumerants_of (items b))) (right first (over && all_flat (enumerants_of (items b))) (sym flat_union ∙ e))

    -- THE RULES THAT A UNION OF TWO WELL-FORMED GRAMMARS CAN BREAK: the one on its length, and the one on parameters whose kinds now have
    -- parameters; no other
    pub union_well : well_formed a ≡ true → well_formed b ≡ true → well_formed (union a b)
        ≡ leb (length (union a b)) 65535 && flat_both a b
    unfolding well_formed well_formed_items flat_both
    union_well wa wb =
        rw (union_rules, flat_union, (well_told a wa).flat, (well_told b wb).flat, and-true)
