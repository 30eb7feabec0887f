-- Items that meet the rules, and their pieces: each piece meets the rules by itself, their keys rise, and nothing else is asked.
use Prim.Native.Nat.{ℕ, ◌+◌, ◌*◌, ◌≤◌, ◌<◌}
use mathlib.Core.Path.{◌≡◌, refl, sym, ap, ◌∙◌}
use mathlib.Core.Bool.{true}
use mathlib.Core.List.{List, [], ◌∷◌, ◌++◌, append-nil}
use mathlib.Core.Logic.{⊎_elim}
use native.Mathlib.Omega.{arith}
use borrow.Author.Tests.{lt-ltb, ltb-true}
use lib.Dec.{ltb}
use Rattle.spec.specs.Base.{joined, every}
use Rattle.spec.specs.Kinds.{is_enum}
use Rattle.spec.specs.Grammar.{Item, row, operand, enumerant, parameter, broken, items, slot, Before, start, in_row, in_enumerant, row_end, enumerant_rule, rises, rule, next, rules_from}
use Rattle.spec.specs.Builtin.{item_bytes}
use Rattle.spec.specs.Join.{Piece, body_of, pieces_of, piece_items, piece_bytes, key_of}
use Rattle.spec.proofs.Choice.{both, left, right}
use Rattle.demands.proofs.Lists.{joined_append}
use Rattle.grammar.proofs.SearchLaws.{rises_told, kind_rises, value_rises}
use Rattle.grammar.proofs.MarkLaws.{is_fine, never, rules_told, rules_fine, enum_least}
use Rattle.join.proofs.ItemLaws.{AllSmall, small_append, read_items}
use Rattle.join.proofs.MergeLaws.{Above, Rising, above_on, Each, Read, three}

-- WHAT WENT BEFORE, AS A KEY

-- the numbers of what went before fit their bytes, and no enumerant has kind 0
abbrev Held : Before → Type 0
Held start = Unit
Held (in_row op before) = op < 65536
Held (in_enumerant j u) = (1 ≤ j) × (u < 4294967296)

-- pieces that come after what went before
abbrev Past : Before → List Piece → Type 0
Past start es = Unit
Past (in_row op before) es = Above (key_of (row op)) es
Past (in_enumerant j u) es = Above (key_of (enumerant j u)) es

-- kinds and values that rise have keys that rise
rises_key : (j u k v : ℕ) → u < 4294967296 → rises j u k v ≡ true → key_of (enumerant j u) < key_of (enumerant k v)
unfolding key_of
rises_key j u k v h e = ⊎_elim (λ (t : j < k). omega arith) (λ (t : (j ≡ k) × (u < v)). omega (arith, t.0, t.1)) (rises_told j u k v e)

-- keys that rise have kinds and values that rise
key_rises : (j u k v : ℕ) → v < 4294967296 → key_of (enumerant j u) < key_of (enumerant k v) → rises j u k v ≡ true
unfolding key_of
key_rises j u k v h l =
    three j k (λ (t : j < k). kind_rises j u k v t) (λ (t : k < j). absurd (omega arith))
    (λ (t : j ≡ k). value_rises j u k v t (omega arith))

-- PIECES THAT ARE GOOD

-- a row with its operands or an enumerant with its parameters: it meets the rules by itself
pub record Good (e : Piece) : Type 0 where
  pub alone : rules_from start (piece_items e) ≡ true
  pub parts : body_of e.body ≡ e.body
  pub small : AllSmall (piece_items e)

-- what begins items is all that it begins with
body_parts : (xs : List Item) → body_of (body_of xs) ≡ body_of xs
unfolding body_of
body_parts [] = refl
body_parts (row o ∷ xs) = refl
body_parts (operand k q ∷ xs) = ap (λ (ys : List Item). operand k q ∷ ys) (body_parts xs)
body_parts (enumerant k v ∷ xs) = refl
body_parts (parameter k ∷ xs) = ap (λ (ys : List Item). parameter k ∷ ys) (body_parts xs)
body_parts (broken ∷ xs) = refl

-- its numbers fit
body_small : (xs : List Item) → AllSmall xs → AllSmall (body_of xs)
unfolding body_of
body_small [] s = tt
body_small (row o ∷ xs) s = tt
body_small (operand k q ∷ xs) s = (tt, body_small xs s.1)
body_small (enumerant k v ∷ xs) s = tt
body_small (parameter k ∷ xs) s = (tt, body_small xs s.1)
body_small (broken ∷ xs) s = tt

-- a good piece is read back
pub good_read : (e : Piece) → Good e → Read e
unfolding piece_bytes
good_read e g = read_items (piece_items e) (rules_fine start (piece_items e) g.alone) g.small

-- each of some good ones is
pub all_read_lem : (es : List Piece) → Each Good es → Each Read es
all_read_lem [] g = tt
all_read_lem (e ∷ es) g = (good_read e g.0, all_read_lem es g.1)

-- FROM THE RULES TO PIECES

-- what items that meet the rules say after what went before
record Cut (s : Before) (xs : List Item) : Type 0 where
  begun : rules_from s (body_of xs) ≡ true
  past : Past s (pieces_of xs)
  rising : Rising (pieces_of xs)
  good : Each Good (pieces_of xs)

-- the kind of an enumerant that meets its rule is not 0
least : (k v : ℕ) → enumerant_rule k v ≡ true → 1 ≤ k
least k v e = enum_least k (left (is_enum k) _ e)

-- a piece more, where its head meets the rule after what went before
cut_row : (s : Before) (o : ℕ) (xs : List Item) → rule s (row o) ≡ true → o < 65536 → AllSmall xs → Cut (in_row o []) xs → Cut s (row o ∷ xs)
unfolding rules_from rule next body_of pieces_of key_of
cut_row s o xs e small smalls c = record {
  begun = begins s e;
  past = passes s e;
  rising = (c.past, c.rising);
  good = (record { alone = c.begun; parts = body_parts xs; small = (small, body_small xs smalls) }, c.good);
}
  where
    begins : (s : Before) → rule s (row o) ≡ true → rules_from s [] ≡ true
    begins start e = refl
    begins (in_row op before) e = left (row_end op before) (ltb op o) e
    begins (in_enumerant j u) e = never e refl

    passes : (s : Before) → rule s (row o) ≡ true → Past s (pieces_of (row o ∷ xs))
    passes start e = tt
    passes (in_row op before) e =
        let h : op < o = ltb-true op o (right (row_end op before) (ltb op o) e) in
        (h, above_on op o (pieces_of xs) (omega arith) c.past)
    passes (in_enumerant j u) e = never e refl

-- the same of an enumerant
cut_enumerant : (s : Before) (k v : ℕ) (xs : List Item) → Held s → rule s (enumerant k v) ≡ true → v < 4294967296 → AllSmall xs
    → Cut (in_enumerant k v) xs → Cut s (enumerant k v ∷ xs)
unfolding rules_from rule next body_of pieces_of key_of
cut_enumerant s k v xs held e small smalls c = record {
  begun = begins s e;
  past = passes s held e;
  rising = (c.past, c.rising);
  good = (record { alone = both (asks s e) c.begun; parts = body_parts xs; small = (small, body_small xs smalls) }, c.good);
}
  where
    asks : (s : Before) → rule s (enumerant k v) ≡ true → enumerant_rule k v ≡ true
    asks start e = e
    asks (in_row op before) e = right (row_end op before) (enumerant_rule k v) e
    asks (in_enumerant j u) e = right (rises j u k v) (enumerant_rule k v) e

    begins : (s : Before) → rule s (enumerant k v) ≡ true → rules_from s [] ≡ true
    begins start e = refl
    begins (in_row op before) e = left (row_end op before) (enumerant_rule k v) e
    begins (in_enumerant j u) e = refl

    passes : (s : Before) → Held s → rule s (enumerant k v) ≡ true → Past s (pieces_of (enumerant k v ∷ xs))
    passes start held e = tt
    passes (in_row op before) held e =
        let one = least k v (asks (in_row op before) e) in
        let h : op < k * 4294967296 + v = omega arith in
        (h, above_on op (k * 4294967296 + v) (pieces_of xs) (omega arith) c.past)
    passes (in_enumerant j u) held e =
        let h : j * 4294967296 + u < k * 4294967296 + v = rises_key j u k v held.1 (left (rises j u k v) (enumerant_rule k v) e) in
        (h, above_on (j * 4294967296 + u) (k * 4294967296 + v) (pieces_of xs) (omega arith) c.past)

-- items that meet the rules
cut : (s : Before) (xs : List Item) → Held s → AllSmall xs → rules_from s xs ≡ true → Cut s xs
unfolding rules_from rule next body_of pieces_of key_of
cut start [] held smalls e = record { begun = e; past = tt; rising = tt; good = tt }
cut (in_row op before) [] held smalls e = record { begun = e; past = tt; rising = tt; good = tt }
cut (in_enumerant j u) [] held smalls e = record { begun = e; past = tt; rising = tt; good = tt }
cut s (row o ∷ xs) held smalls e =
    let t = rules_told s (row o) xs e in
    cut_row s o xs t.0 smalls.0 smalls.1 (cut (in_row o []) xs smalls.0 smalls.1 t.1)
cut s (enumerant k v ∷ xs) held smalls e =
    let t = rules_told s (enumerant k v) xs e in
    cut_enumerant s k v xs held t.0 smalls.0 smalls.1
    (cut (in_enumerant k v) xs (enum_least k (left (is_fine (enumerant k v)) (every is_fine xs) (rules_fine s (enumerant k v ∷ xs) e)), smalls.0) smalls.1 t.1)
cut start (operand k q ∷ xs) held smalls e = never (rules_told start (operand k q) xs e).0 refl
cut (in_row op before) (operand k q ∷ xs) held smalls e =
    let t = rules_told (in_row op before) (operand k q) xs e in
    let c = cut (in_row op (before ++ (slot k q ∷ []))) xs held smalls.1 t.1 in
    record { begun = both t.0 c.begun; past = c.past; rising = c.rising; good = c.good }
cut (in_enumerant j u) (operand k q ∷ xs) held smalls e = never (rules_told (in_enumerant j u) (operand k q) xs e).0 refl
cut start (parameter k ∷ xs) held smalls e = never (rules_told start (parameter k) xs e).0 refl
cut (in_row op before) (parameter k ∷ xs) held smalls e = never (rules_told (in_row op before) (parameter k) xs e).0 refl
cut (in_enumerant j u) (parameter k ∷ xs) held smalls e =
    let t = rules_told (in_enumerant j u) (parameter k) xs e in
    let c = cut (in_enumerant j u) xs held smalls.1 t.1 in
    record { begun = both t.0 c.begun; past = c.past; rising = c.rising; good = c.good }
cut start (broken ∷ xs) held smalls e = never (rules_told start broken xs e).0 refl
cut (in_row op before) (broken ∷ xs) held smalls e = never (rules_told (in_row op before) broken xs e).0 refl
cut (in_enumerant j u) (broken ∷ xs) held smalls e = never (rules_told (in_enumerant j u) broken xs e).0 refl

-- THE RULES SAY: the pieces rise, and each is good
pub rules_cut : (xs : List Item) → AllSmall xs → rules_from start xs ≡ true → Rising (pieces_of xs) × Each Good (pieces_of xs)
rules_cut xs smalls e = let c = cut start xs tt smalls e in (c.rising, c.good)

-- FROM PIECES TO THE RULES

-- What goes on after some pieces have ended goes on after an open one's operands or parameters.
module _ (es : List Piece) (on : (s : Before) → Held s → Past s es → rules_from s [] ≡ true → rules_from s (joined piece_items es) ≡ true) where
  -- through them
  through : (s : Before) → Held s → Past s es → (b : List Item) → body_of b ≡ b → rules_from s b ≡ true → rules_from s (b ++ joined piece_items es) ≡ true
  unfolding rules_from rule next body_of
  through s held past [] parts e = on s held past e
  through s held past (row o ∷ b) parts e = let z : ◌≡◌ {A = ℕ} 0 1 = cc parts in absurd (omega arith)
  through s held past (enumerant k v ∷ b) parts e = let z : ◌≡◌ {A = ℕ} 0 1 = cc parts in absurd (omega arith)
  through s held past (broken ∷ b) parts e = let z : ◌≡◌ {A = ℕ} 0 1 = cc parts in absurd (omega arith)
  through start held past (operand k q ∷ b) parts e = never (rules_told start (operand k q) b e).0 refl
  through (in_row op before) held past (operand k q ∷ b) parts e =
      let t = rules_told (in_row op before) (operand k q) b e in
      both t.0 (through (in_row op (before ++ (slot k q ∷ []))) held past b (cc parts) t.1)
  through (in_enumerant j u) held past (operand k q ∷ b) parts e = never (rules_told (in_enumerant j u) (operand k q) b e).0 refl
  through start held past (parameter k ∷ b) parts e = never (rules_told start (parameter k) b e).0 refl
  through (in_row op before) held past (parameter k ∷ b) parts e = never (rules_told (in_row op before) (parameter k) b e).0 refl
  through (in_enumerant j u) held past (parameter k ∷ b) parts e =
      let t = rules_told (in_enumerant j u) (parameter k) b e in
      both t.0 (through (in_enumerant j u) held past b (cc parts) t.1)

  -- and so from the head of a good piece on, after what went before
  headed : (h : Item) (b : List Item) → Good (record { head = h; body = b }) → Above (key_of h) es → (s : Before) → Held s
      → Past s (record { head = h; body = b } ∷ es) → rules_from s [] ≡ true → rules_from s (h ∷ b ++ joined piece_items es) ≡ true
  unfolding rules_from rule next key_of
  headed (row o) b g a start held past e = through (in_row o []) g.small.0 a b g.parts g.alone
  headed (row o) b g a (in_row op before) held past e =
      both (both e (lt-ltb op o past.0)) (through (in_row o []) g.small.0 a b g.parts g.alone)
  headed (row o) b g a (in_enumerant j u) held past e = absurd (omega (arith, held.0, g.small.0, past.0))
  headed (enumerant k v) b g a start held past e =
      let t = rules_told start (enumerant k v) b g.alone in
      both t.0 (through (in_enumerant k v) (least k v t.0, g.small.0) a b g.parts t.1)
  headed (enumerant k v) b g a (in_row op before) held past e =
      let t = rules_told start (enumerant k v) b g.alone in
      both (both e t.0) (through (in_enumerant k v) (least k v t.0, g.small.0) a b g.parts t.1)
  headed (enumerant k v) b g a (in_enumerant j u) held past e =
      let t = rules_told start (enumerant k v) b g.alone in
      both (both (key_rises j u k v g.small.0 past.0) t.0) (through (in_enumerant k v) (least k v t.0, g.small.0) a b g.parts t.1)
  headed (operand k q) b g a s held past e = never (rules_told start (operand k q) b g.alone).0 refl
  headed (parameter k) b g a s held past e = never (rules_told start (parameter k) b g.alone).0 refl
  headed broken b g a s held past e = never (rules_told start broken b g.alone).0 refl

-- pieces after what went before
pieces_rules : (es : List Piece) → Each Good es → Rising es → (s : Before) → Held s → Past s es → rules_from s [] ≡ true
    → rules_from s (joined piece_items es) ≡ true
pieces_rules [] g r s held past e = e
pieces_rules (x ∷ es) g r s held past e =
    headed es (pieces_rules es g.1 r.1) x.head x.body g.0 r.0 s held past e

-- NO MORE IS ASKED: the items of good pieces that rise meet the rules
pub rules_of : (es : List Piece) → Each Good es → Rising es → rules_from start (joined piece_items es) ≡ true
unfolding rules_from
rules_of es g r = pieces_rules es g r start tt tt refl

-- THE PIECES OF PIECES' ITEMS

-- items after operands and parameters
pub parts_before : (b r : List Item) → body_of b ≡ b → (body_of (b ++ r) ≡ b ++ body_of r) × (pieces_of (b ++ r) ≡ pieces_of r)
unfolding body_of pieces_of
parts_before [] r e = (refl, refl)
parts_before (row o ∷ b) r e = let z : ◌≡◌ {A = ℕ} 0 1 = cc e in absurd (omega arith)
parts_before (operand k q ∷ b) r e =
    let t = parts_before b r (cc e) in
    (ap (λ (ys : List Item). operand k q ∷ ys) t.0, t.1)
parts_before (enumerant k v ∷ b) r e = let z : ◌≡◌ {A = ℕ} 0 1 = cc e in absurd (omega arith)
parts_before (parameter k ∷ b) r e =
    let t = parts_before b r (cc e) in
    (ap (λ (ys : List Item). parameter k ∷ ys) t.0, t.1)
parts_before (broken ∷ b) r e = let z : ◌≡◌ {A = ℕ} 0 1 = cc e in absurd (omega arith)

-- an item that may stand first opens a piece
pub head_first : (h : Item) (xs : List Item) → rule start h ≡ true
    → (body_of (h ∷ xs) ≡ []) × (pieces_of (h ∷ xs) ≡ record { head = h; body = body_of xs } ∷ pieces_of xs)
unfolding body_of pieces_of rule
head_first (row o) xs e = (refl, refl)
head_first (operand k q) xs e = never e refl
head_first (enumerant k v) xs e = (refl, refl)
head_first (parameter k) xs e = never e refl
head_first broken xs e = never e refl

-- a piece's items before others that begin with no operand or parameter
pub head_back : (h : Item) (b r : List Item) → rule start h ≡ true → body_of b ≡ b → body_of r ≡ []
    → (body_of (h ∷ b ++ r) ≡ []) × (pieces_of (h ∷ b ++ r) ≡ record { head = h; body = b } ∷ pieces_of r)
head_back h b r e parts None =
    let t = parts_before b r parts in
    let is : body_of (b ++ r) ≡ b = t.0 ∙ ap (λ (z : List Item). b ++ z) None ∙ append-nil b in
    let f = head_first h (b ++ r) e in
    (f.0, f.1 ∙ rw (is, t.1))

-- the items of good pieces begin with a head, and have those pieces
pub pieces_back : (es : List Piece) → Each Good es → (body_of (joined piece_items es) ≡ []) × (pieces_of (joined piece_items es) ≡ es)
unfolding body_of pieces_of
pieces_back [] g = (refl, refl)
pieces_back (x ∷ es) g =
    let t = pieces_back es g.1 in
    let u = head_back x.head x.body (joined piece_items es) (rules_told start x.head x.body g.0.alone).0 g.0.parts t.0 in
    (u.0, u.1 ∙ ap (λ (l : List Piece). x ∷ l) t.1)

-- their numbers fit
pieces_small : (es : List Piece) → Each Good es → AllSmall (joined piece_items es)
pieces_small [] g = tt
pieces_small (x ∷ es) g = small_append (piece_items x) (joined piece_items es) g.0.small (pieces_small es g.1)

-- their bytes are the bytes of their items
pub pieces_bytes : (es : List Piece) → joined piece_bytes es ≡ joined item_bytes (joined piece_items es)
unfolding piece_bytes
pieces_bytes [] = refl
pieces_bytes (x ∷ es) =
    ap (λ (z : List ℕ). joined item_bytes (piece_items x) ++ z) (pieces_bytes es) ∙ sym (joined_append item_bytes (piece_items x) (joined piece_items es))

-- what stands in the bytes of good pieces that rise
pub record Written (es : List Piece) (g : List ℕ) : Type 0 where
  pub rules : rules_from start (items g) ≡ true
  pub pieces : pieces_of (items g) ≡ es

-- THE BYTES OF PIECES: they are read as the pieces, and meet the rules
pub written : (es : List Piece) → Each Good es → Rising es → Written es (joined piece_bytes es)
written es g r =
    let rules = rules_of es g r in
    let is : items (joined piece_bytes es) ≡ joined piece_items es =
    ap items (pieces_bytes es) ∙ read_items (joined piece_items es) (rules_fine start (joined piece_items es) rules) (pieces_small es g) in
    record { rules = rw is rules; pieces = ap pieces_of is ∙ (pieces_back es g).1 }

-- THE ITEMS OF ITEMS' PIECES

-- the operands and parameters that fine items begin with, and then their pieces, are the items
pub items_back : (xs : List Item) → every is_fine xs ≡ true → body_of xs ++ joined piece_items (pieces_of xs) ≡ xs
unfolding body_of pieces_of
items_back [] f = refl
items_back (row o ∷ xs) f = ap (λ (ys : List Item). row o ∷ ys) (items_back xs f)
items_back (operand k q ∷ xs) f = ap (λ (ys : List Item). operand k q ∷ ys) (items_back xs f)
items_back (enumerant k v ∷ xs) f = ap (λ (ys : List Item). enumerant k v ∷ ys) (items_back xs (right (is_enum k) (every is_fine xs) f))
items_back (parameter k ∷ xs) f = ap (λ (ys : List Item). parameter k ∷ ys) (items_back xs f)
items_back (broken ∷ xs) f = never f refl

-- items that meet the rules begin with a head
pub start_head : (xs : List Item) → rules_from start xs ≡ true → body_of xs ≡ []
unfolding body_of
start_head [] e = refl
start_head (x ∷ xs) e = (head_first x xs (rules_told start x xs e).0).0
