-- Operands and bytes: an operand that was read is told by the bytes that it was read from, and is written as bytes that are plain;
-- where the former are plain, they are the latter.
use Prim.Native.Nat.{ℕ, zero, suc, ◌+◌, ◌*◌, ◌-◌, ◌%◌, ◌≤◌, ◌<◌}
use mathlib.Core.Path.{◌≡◌, refl, ap, sym, ◌∙◌}
use mathlib.Core.Bool.{Bool, true, false, not}
use mathlib.Core.List.{List, [], ◌∷◌, ◌++◌, append_assoc, append-nil}
use native.Mathlib.Omega.{arith}
use borrow.Author.Tests.{eqb-true, not-true, le-ltb, ltb-false}
use lib.Dec.{ltb, eqb}
use lib.ListN.{length, replicate, length-append}
use lib.Seq.{take_at, take_all, drop_at, drop-append_seam}
use Rattle.std.specs.Prelude.{if◌then◌else◌}
use Rattle.spec.specs.Base.{joined}
use Rattle.spec.specs.Words.{bytes_of, four_at, AllBytes}
use Rattle.spec.specs.Text.{text_words, padded, not_zero, text_break, is_utf8}
use Rattle.spec.specs.Kinds.{is_long}
use Rattle.spec.specs.Records.{Operand, narrow, wide, text, operand_size, operands_size, long_bytes, operand_bytes}
use Rattle.spec.specs.Plain.{first_break, operand_break, operands_break}
use Rattle.spec.proofs.Breaks.{first_none, neither}
use Rattle.demands.proofs.Choice.{left, right}
use Rattle.demands.proofs.Bytes.{all_append, all_left, all_right, all_zeros, word_bytes, four_bytes}
use Rattle.demands.proofs.OperandKinds.{is_narrow, is_whole}
use Rattle.demands.proofs.Words.{Word, Opcode}
use Rattle.demands.proofs.Strings.{no_zeros, Text, padded_length}

-- ONE OPERAND

-- an operand that log and strings can hold
abbrev pub Holds : Operand → Type 0
Holds (narrow k v) = (is_narrow k ≡ true) × (v < 4294967296)
Holds (wide k v) = (is_long k ≡ true) × (v < 18446744073709551616)
Holds (text s) = (no_zeros s ≡ true) × (is_utf8 s ≡ true)

-- an operand that was read from the bytes x, and y, the bytes written for it: the stores can hold it, the latter are plain, and the
-- former are the latter where they are plain
pub record Sure (o : Operand) (x y : List ℕ) : Type 0 where
  pub holds : Holds o
  pub are : y ≡ operand_bytes o
  pub bytes : AllBytes y
  pub plain : (at : ℕ) → operand_break at o y ≡ 0
  pub exact : (at : ℕ) → 1 ≤ at → operand_break at o x ≡ 0 → x ≡ y

-- so it is where the former are bytes, and they are as many as its words have
pub record Tells (o : Operand) (x y : List ℕ) : Type 0 where
  pub long : length x ≡ 4 * operand_size o
  pub sure : AllBytes x → Sure o x y

-- a whole word
pub narrow_tells : (k v : ℕ) (x y : List ℕ) → is_whole k ≡ true → Word v x y → Tells (narrow k v) x y
unfolding operand_size operand_bytes operand_break
narrow_tells k v x y e p =
    let word : eqb k 39 ≡ false = not-true (eqb k 39) (right (is_narrow k) (not (eqb k 39)) e) in
    record {
      long = p.long;
      sure = λ by.
          record {
            holds = (left (is_narrow k) (not (eqb k 39)) e, (p.exact by).0);
            are = p.are;
            bytes = rw p.are (word_bytes v);
            plain = λ at. rw word;
            exact = λ at h z. sym (p.exact by).1 ∙ sym p.are;
          };
    }

-- a 64-bit literal, the bytes that it was read from, and those of its two words
pub record Long (v : ℕ) (x y : List ℕ) : Type 0 where
  pub long : length x ≡ 8
  pub exact : AllBytes x → (v < 18446744073709551616) × (x ≡ y) × (y ≡ long_bytes v)

-- two words
pub wide_tells : (k v : ℕ) (x y : List ℕ) → is_long k ≡ true → Long v x y → Tells (wide k v) x y
unfolding operand_size operand_bytes operand_break
wide_tells k v x y e p =
    record {
      long = p.long;
      sure = λ by.
          record {
            holds = (e, (p.exact by).0);
            are = (p.exact by).2;
            bytes = rw (p.exact by).1 at by;
            plain = λ at. refl;
            exact = λ at h z. (p.exact by).1;
          };
    }

-- among zeros is no other byte
none_other : (at n : ℕ) → not_zero at (replicate n 0) ≡ 0
unfolding not_zero
none_other at zero = refl
none_other at (suc n) = none_other (at + 1) n

-- bytes among which is no other are zeros
zeros_are : (at : ℕ) (l : List ℕ) → 1 ≤ at → not_zero at l ≡ 0 → l ≡ replicate (length l) 0
unfolding not_zero
zeros_are at [] h e = refl
zeros_are at (b ∷ l) h e = by (eqb b 0) refl e (zeros_are (at + 1) l (omega arith))
  where
    by : (t : Bool) → eqb b 0 ≡ t → (if t then not_zero (at + 1) l else at) ≡ 0 → (not_zero (at + 1) l ≡ 0 → l ≡ replicate (length l) 0)
        → b ∷ l ≡ replicate (suc (length l)) 0
    by true z f more = cc (eqb-true b 0 z, more f)
    by false z f more = absurd (omega arith)

-- a string that goes on with zeros to the end of its last word is the string padded
padded_is : (at : ℕ) (s more : List ℕ) → 1 ≤ at → length (s ++ more) ≡ 4 * text_words (length s) → not_zero at more ≡ 0
    → s ++ more ≡ padded s
unfolding padded
padded_is at s more h e z =
    let pad : length more ≡ 4 - length s % 4 = omega (arith, length-append s more) in
    ap (λ (w : List ℕ). s ++ w) (zeros_are at more h z ∙ ap (λ (n : ℕ). replicate n 0) pad)

-- what breaks a string in the bytes of its words is the first byte after it that is not zero
text_break_is : (at : ℕ) (s more : List ℕ) → length (s ++ more) ≡ 4 * text_words (length s)
    → text_break at (length s) (s ++ more) ≡ not_zero (at + length s) more
unfolding text_break
text_break_is at s more e =
    rw (take_all (4 * text_words (length s)) (s ++ more) (omega arith), drop-append_seam)

-- nothing breaks a string padded
padding_zero : (at : ℕ) (s : List ℕ) → text_break at (length s) (padded s) ≡ 0
unfolding padded
padding_zero at s =
    text_break_is at s (replicate (4 - length s % 4) 0) (unfold padded in padded_length s)
    ∙ none_other (at + length s) (4 - length s % 4)

-- bytes padded are bytes
padded_bytes : (s : List ℕ) → AllBytes s → AllBytes (padded s)
unfolding padded
padded_bytes s by = all_append s (replicate (4 - length s % 4) 0) by (all_zeros (4 - length s % 4))

-- a string
pub text_tells : (s x y : List ℕ) → Text s x y → Tells (text s) x y
unfolding operand_size operand_bytes operand_break
text_tells s x y p =
    let is = p.0.ends.is in
    record {
      long = p.0.long;
      sure = λ by.
          record {
            holds = (p.0.ends.free, p.0.utf8);
            are = p.1;
            bytes = rw p.1 (padded_bytes s (all_left s (0 ∷ p.0.ends.more) (rw is at by)));
            plain = λ at. rw p.1 (padding_zero at s);
            exact = λ at h z.
                let more : List ℕ = 0 ∷ p.0.ends.more in
                let long : length (s ++ more) ≡ 4 * text_words (length s) = ap length (sym is) ∙ p.0.long in
                let None : not_zero (at + length s) more ≡ 0 =
                sym (text_break_is at s more long) ∙ ap (text_break at (length s)) (sym is) ∙ z in
                is ∙ padded_is (at + length s) s more (omega arith) long None ∙ sym p.1;
          };
    }

-- the word of a word's bytes
word_again : (w : ℕ) → w < 4294967296 → four_at 0 (bytes_of w) ≡ w
unfolding bytes_of
word_again w h = four_bytes w h

-- nothing stands above the low sixteen bits of an opcode
opcode_zero : (at op : ℕ) → op < 65536 → (if ltb 65535 (four_at 0 (bytes_of op)) then at else 0) ≡ 0
opcode_zero at op h = rw (word_again op (omega arith), le-ltb 65535 op (omega arith))

-- and only above those of one
opcode_is : (at w : ℕ) → 1 ≤ at → w < 4294967296 → (if ltb 65535 (four_at 0 (bytes_of w)) then at else 0) ≡ 0 → w ≡ w % 65536
opcode_is at w h k z = by (ltb 65535 w) refl (rw (word_again w k) at z)
  where
    by : (t : Bool) → ltb 65535 w ≡ t → (if t then at else 0) ≡ 0 → w ≡ w % 65536
    by true e f = absurd (omega arith)
    by false e f = omega (arith, ltb-false 65535 w e)

-- an embedded opcode
pub opcode_tells : (op : ℕ) (x y : List ℕ) → Opcode op x y → Tells (narrow 39 op) x y
unfolding operand_size operand_bytes operand_break
opcode_tells op x y p =
    let low : op ≡ p.word % 65536 = p.low in
    record {
      long = p.long;
      sure = λ by.
          record {
            holds = (refl, omega arith);
            are = p.are;
            bytes = rw p.are (word_bytes op);
            plain = λ at. rw p.are (opcode_zero at op (omega arith));
            exact = λ at h z.
                sym (p.exact by).1
                ∙ ap bytes_of (opcode_is at p.word h (p.exact by).0 (rw (← (p.exact by).1) at z) ∙ sym low)
                ∙ sym p.are;
          };
    }

-- OPERANDS ONE AFTER THE OTHER

-- each operand is told by its own part of the bytes
pub data Along : List Operand → List ℕ → List ℕ → Type 0 where
  none_left_lem : Along [] [] []
  one_more : {o : Operand} {os : List Operand} {x y z w : List ℕ} → Tells o x y → Along os z w → Along (o ∷ os) (x ++ z) (y ++ w)

-- one operand alone
pub along_one : {o : Operand} {x y : List ℕ} → Tells o x y → Along (o ∷ []) x y
along_one {x = x} {y = y} p = rw (← append-nil x, ← append-nil y) (one_more p none_left_lem)

-- operands after others
pub along_append : {os ps : List Operand} {x y z w : List ℕ} → Along os x y → Along ps z w → Along (os ++ ps) (x ++ z) (y ++ w)
along_append none_left_lem b = b
along_append {z = u} {w = v} (one_more {x = x} {y = y} {z = z} {w = w} p a) b =
    rw (append_assoc x z u, append_assoc y w v) (one_more p (along_append a b))

-- operands that log and strings can hold
abbrev pub AllHold : List Operand → Type 0
AllHold [] = Unit
AllHold (o ∷ os) = Holds o × AllHold os

-- the same of operands as of one, whatever bytes follow
pub record AllSure (os : List Operand) (x y : List ℕ) : Type 0 where
  pub holds : AllHold os
  pub are : y ≡ joined operand_bytes os
  pub bytes : AllBytes y
  pub plain : (at : ℕ) (t : List ℕ) → operands_break at os (y ++ t) ≡ 0
  pub exact : (at : ℕ) → 1 ≤ at → (t : List ℕ) → operands_break at os (x ++ t) ≡ 0 → x ≡ y

-- they are as many bytes as the operands' words have
pub along_long : {os : List Operand} {x y : List ℕ} → Along os x y → length x ≡ 4 * operands_size os
unfolding operands_size
along_long none_left_lem = refl
along_long (one_more {x = x} {z = z} p a) = length-append x z ∙ omega (arith, p.long, along_long a)

-- a word is in the first four bytes
four_front : (x t : List ℕ) → length x ≡ 4 → four_at 0 (x ++ t) ≡ four_at 0 x
four_front [] t e = absurd (omega arith)
four_front (a ∷ []) t e = absurd (omega arith)
four_front (a ∷ b ∷ []) t e = absurd (omega arith)
four_front (a ∷ b ∷ c ∷ []) t e = absurd (omega arith)
four_front (a ∷ b ∷ c ∷ d ∷ x) t e = refl

-- what breaks an operand is in its own bytes
break_front : (at : ℕ) (o : Operand) (x t : List ℕ) → length x ≡ 4 * operand_size o → operand_break at o (x ++ t) ≡ operand_break at o x
unfolding operand_break operand_size text_break
break_front at (narrow k v) x t e = rw (four_front x t e)
break_front at (wide k v) x t e = refl
break_front at (text s) x t e =
    rw (take_at x t (4 * text_words (length s)) e, take_all (4 * text_words (length s)) x (omega arith))

-- the first of some operands and the others, each by its own bytes
break_cons : (at : ℕ) (o : Operand) (os : List Operand) (x z t : List ℕ) → length x ≡ 4 * operand_size o
    → operands_break at (o ∷ os) (x ++ z ++ t) ≡ first_break (operand_break at o x) (operands_break (at + 4 * operand_size o) os (z ++ t))
unfolding operands_break
break_cons at o os x z t e =
    rw (append_assoc x z t, break_front at o x (z ++ t) e, drop_at x (z ++ t) (4 * operand_size o) e)

-- an operand's bytes are as many as its words have
operand_length : (o : Operand) → length (operand_bytes o) ≡ 4 * operand_size o
unfolding operand_bytes operand_size bytes_of
operand_length (narrow k v) = refl
operand_length (wide k v) = refl
operand_length (text s) = padded_length s

-- all of it, where they are bytes
pub along_sure : {os : List Operand} {x y : List ℕ} → Along os x y → AllBytes x → AllSure os x y
along_sure none_left_lem by =
    record { holds = tt; are = refl; bytes = tt; plain = λ at t. unfold operands_break in refl; exact = λ at h t p. refl }
along_sure (one_more {o = o} {os = os} {x = x} {y = y} {z = z} {w = w} p a) by =
    let s : Sure o x y = p.sure (all_left x z by) in
    let r : AllSure os z w = along_sure a (all_right x z by) in
    record {
      holds = (s.holds, r.holds);
      are = cc (s.are, r.are);
      bytes = all_append y w s.bytes r.bytes;
      plain = λ at t.
          let next : ℕ = at + 4 * operand_size o in
          break_cons at o os y w t (ap length s.are ∙ operand_length o) ∙ first_none _ _ (s.plain at) ∙ r.plain next t;
      exact = λ at h t e.
          let next : ℕ = at + 4 * operand_size o in
          let b = neither (operand_break at o x) (operands_break next os (z ++ t)) (sym (break_cons at o os x z t p.long) ∙ e) in
          cc (s.exact at h b.0, r.exact next (omega arith) t b.1);
    }
