-- Laws of kinds: what the tests on them say of each other, computed over every kind that there is.
use Prim.Native.Nat.{ℕ, ◌<◌}
use mathlib.Core.Path.{◌≡◌, refl, ap, sym, ◌∙◌}
use mathlib.Core.Bool.{Bool, true, false, not, ◌&&◌, ◌||◌, true≢false}
use native.Mathlib.Omega.{arith}
use borrow.Author.Tests.{ne_eqb, eqb-true, not-true}
use lib.Dec.{eqb}
use Rattle.spec.specs.Base.{implies, within}
use Rattle.spec.specs.Kinds.{is_enum, is_result, may_be_operand, may_be_parameter, may_embed, is_logged, is_long, is_text}
use Rattle.spec.proofs.Choice.{left, right, both, asked, other, cases, in_range}
use Rattle.spec.proofs.Range.{all, below_at}
use Rattle.std.specs.Prelude.{Option, Some}
use Rattle.operand.specs.Parts.{is_two, Fits}
use Rattle.used.specs.Parse.{is_single, is_word, is_untyped, is_inner, is_literal}

-- a kind of which a test holds is not one of which it fails
pub not_kind : (P : ℕ → Bool) (k j : ℕ) → P k ≡ true → P j ≡ false → k ≡ j → ⊥
not_kind P k j h f e = true≢false (sym h ∙ ap P e ∙ f)

-- HOW GREAT

-- a kind of one sort or another
of_either : (a b : Bool) (k n : ℕ) → (a || b) ≡ true → (a ≡ true → k < n) → (b ≡ true → k < n) → k < n
of_either a b k n e x y = cases a x (λ f. y (other a b e f))

-- a kind in a range
of_range : (a k b : ℕ) → b < 52 → within a k b ≡ true → k < 52
of_range a k b h e = omega (arith, (in_range a k b e).1)

-- a kind that is a number
of_number : (k j : ℕ) → j < 52 → eqb k j ≡ true → k < 52
of_number k j h e = omega (arith, eqb-true k j e)

enum_small : (k : ℕ) → is_enum k ≡ true → k < 52
enum_small k e = of_either (within 1 k 30) (within 41 k 45) k 52 e (of_range 1 k 30 (omega arith)) (of_range 41 k 45 (omega arith))

parameter_small : (k : ℕ) → may_be_parameter k ≡ true → k < 52
parameter_small k e = of_either (within 1 k 35) (within 40 k 45) k 52 e (of_range 1 k 35 (omega arith)) (of_range 40 k 45 (omega arith))

operand_small : (k : ℕ) → may_be_operand k ≡ true → k < 52
operand_small k e = of_range 1 k 51 (omega arith) (left (within 1 k 51) (not (within 36 k 38)) e)

single_small : (k : ℕ) → is_single k ≡ true → k < 52
unfolding is_single
single_small k e = of_either (may_be_parameter k) (eqb k 37) k 52 e (parameter_small k) (of_number k 37 (omega arith))

word_small : (k : ℕ) → is_word k ≡ true → k < 52
unfolding is_word
word_small k e = of_either (within 31 k 35) (eqb k 37) k 52 e (of_range 31 k 35 (omega arith)) (of_number k 37 (omega arith))

untyped_small : (k : ℕ) → is_untyped k ≡ true → k < 52
unfolding is_untyped
untyped_small k e = of_either (may_be_parameter k) (within 50 k 51) k 52 e (parameter_small k) (of_range 50 k 51 (omega arith))

long_small : (k : ℕ) → is_long k ≡ true → k < 52
long_small k e = of_either (eqb k 36) (eqb k 38) k 52 e (of_number k 36 (omega arith)) (of_number k 38 (omega arith))

literal_small : (k : ℕ) → is_literal (Some k) ≡ true → k < 52
unfolding is_literal
literal_small k e = of_either (eqb k 34) (within 36 k 38) k 52 e (of_number k 34 (omega arith)) (of_range 36 k 38 (omega arith))

-- COMPUTED

-- where a test of every kind asks another, so it does of each
each : (P Q : ℕ → Bool) (k : ℕ) → all (λ j. implies (P j) (Q j)) 0 52 ≡ true → k < 52 → P k ≡ true → Q k ≡ true
each P Q k e h p = asked (P k) (Q k) (below_at (λ j. implies (P j) (Q j)) 52 k e h) p

-- a kind of the log whose operand is one word
unfoldable pub is_narrow : ℕ → Bool
is_narrow k = is_logged k && not (is_two k)

-- so is an enumerant
pub enum_narrow : (k : ℕ) → is_enum k ≡ true → is_narrow k ≡ true
unfolding is_narrow
enum_narrow k e = each is_enum is_narrow k refl (enum_small k e) e

-- and an embedded opcode
pub embedded_narrow : is_narrow 39 ≡ true
unfolding is_narrow
embedded_narrow = refl

-- an enumerant is read without a type
pub enum_untyped : (k : ℕ) → is_enum k ≡ true → is_untyped k ≡ true
unfolding is_untyped
enum_untyped k e = each is_enum is_untyped k refl (enum_small k e) e

-- a word is no embedded opcode
pub word_other : (k : ℕ) → is_word k ≡ true → k ≡ 39 → ⊥
unfolding is_word
word_other k h = not_kind is_word k 39 h refl

-- a word is a kind of the log of one word
pub word_narrow : (k : ℕ) → is_word k ≡ true → is_narrow k ≡ true
unfolding is_word is_narrow
word_narrow k e = each is_word is_narrow k refl (word_small k e) e

-- which is one record
pub word_single : (k : ℕ) → is_word k ≡ true → is_single k ≡ true
unfolding is_word is_single
word_single k e = each is_word is_single k refl (word_small k e) e

-- no literal of two words
pub word_short : (k : ℕ) → is_word k ≡ true → is_long k ≡ false
unfolding is_word
word_short k e = not-true (is_long k) (each is_word (λ j. not (is_long j)) k refl (word_small k e) e)

-- no enumerant
pub word_no_enum : (k : ℕ) → is_word k ≡ true → is_enum k ≡ false
unfolding is_word
word_no_enum k e = not-true (is_enum k) (each is_word (λ j. not (is_enum j)) k refl (word_small k e) e)

-- and no string
pub word_no_text : (k : ℕ) → is_word k ≡ true → is_text k ≡ false
unfolding is_word
word_no_text k e = not-true (is_text k) (each is_word (λ j. not (is_text j)) k refl (word_small k e) e)

-- a record that is no enumerant and no string is a word
pub single_word : (k : ℕ) → is_single k ≡ true → is_enum k ≡ false → (k ≡ 40 → ⊥) → is_word k ≡ true
unfolding is_single is_word
single_word k e f g =
    each (λ j. is_single j && (not (is_enum j) && not (is_text j))) is_word k refl (single_small k e)
    (both e (both (ap not f) (ap not (ne_eqb k 40 g))))

-- an id or a number is a word
pub number_word : (k : ℕ) → within 31 k 35 ≡ true → is_word k ≡ true
unfolding is_word
number_word k e = simp e

-- and read without a type
pub number_untyped : (k : ℕ) → within 31 k 35 ≡ true → is_untyped k ≡ true
unfolding is_untyped
number_untyped k e = each (λ j. within 31 j 35) is_untyped k refl (of_range 31 k 35 (omega arith) e) e

-- what is read without a type and is no pair is one record
pub untyped_single : (k : ℕ) → is_untyped k ≡ true → (k ≡ 50 → ⊥) → (k ≡ 51 → ⊥) → is_single k ≡ true
unfolding is_untyped is_single
untyped_single k e f g =
    each (λ j. is_untyped j && (not (eqb j 50) && not (eqb j 51))) is_single k refl (untyped_small k e)
    (both e (both (ap not (ne_eqb k 50 f)) (ap not (ne_eqb k 51 g))))

-- an operand of a row that is no result and may be embedded is read without a type
may_untyped : (k : ℕ) → may_be_operand k ≡ true → is_result k ≡ false → may_embed k ≡ true → is_untyped k ≡ true
unfolding is_untyped
may_untyped k e f g =
    each (λ j. may_be_operand j && (not (is_result j) && may_embed j)) is_untyped k refl (operand_small k e) (both e (both (ap not f) g))

-- so is one that is not of the three kinds that may not
pub kind_untyped : (k : ℕ) → may_be_operand k ≡ true → is_result k ≡ false → (k ≡ 48 → ⊥) → (k ≡ 49 → ⊥) → (k ≡ 39 → ⊥) → is_untyped k ≡ true
kind_untyped k e f x y z = may_untyped k e f (simp (ne_eqb k 39 z, ne_eqb k 48 x, ne_eqb k 49 y))

-- an operand of an embedded row that is no result
pub inner_untyped : (k : ℕ) (t : Bool) → t ≡ is_result k → t ≡ false → is_inner k ≡ true → is_untyped k ≡ true
unfolding is_inner
inner_untyped k t p q h = may_untyped k (left (may_be_operand k) (may_embed k) h) (sym p ∙ q) (right (may_be_operand k) (may_embed k) h)

-- a literal's kind that is not of two words is a word
pub literal_word : (o : Option ℕ) → is_literal o ≡ true → (k : ℕ) → o ≡ Some k → is_long k ≡ false → is_word k ≡ true
unfolding is_literal is_word
literal_word o e k q g =
    let z : is_literal (Some k) ≡ true = ap is_literal (sym q) ∙ e in
    each (λ j. is_literal (Some j) && not (is_long j)) is_word k refl (literal_small k z) (both z (ap not g))

-- so is one of the two that are tested for
pub tested_word : (k : ℕ) → (eqb k 34 || eqb k 37) ≡ true → is_word k ≡ true
unfolding is_word
tested_word k e =
    each (λ j. eqb j 34 || eqb j 37) is_word k refl
    (of_either (eqb k 34) (eqb k 37) k 52 e (of_number k 34 (omega arith)) (of_number k 37 (omega arith))) e

-- a result that is no result type is a result id
pub result_else : (k : ℕ) → is_result k ≡ true → eqb k 46 ≡ false → eqb k 47 ≡ true
result_else k e f =
    each (λ j. is_result j && not (eqb j 46)) (λ j. eqb j 47) k refl (of_range 46 k 47 (omega arith) e) (both e (ap not f))

-- an id is one record
pub id_single : is_single 33 ≡ true
unfolding is_single
id_single = refl

-- so is a number
pub number_single : is_single 34 ≡ true
unfolding is_single
number_single = refl

-- VALUES

-- the value of one word fits
pub narrow_fits : (k w : ℕ) → is_narrow k ≡ true → w < 4294967296 → Fits k w
unfolding is_narrow
narrow_fits k w h l = record { known = left (is_logged k) (not (is_two k)) h; small = λ e. l }

-- any value of two words does
pub long_fits : (k w : ℕ) → is_long k ≡ true → Fits k w
long_fits k w h =
    let e = each is_long (λ j. is_logged j && is_two j) k refl (long_small k h) h in
    record { known = left (is_logged k) (is_two k) e; small = λ f. absurd (true≢false (sym (right (is_logged k) (is_two k) e) ∙ f)) }
