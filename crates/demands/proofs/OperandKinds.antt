-- Operand kinds: what the tests on kinds say of each other, computed over every kind that there is.
use Prim.Native.Nat.{ℕ, ◌<◌, ◌≤◌}
use mathlib.Core.Path.{◌≡◌, refl, ap}
use mathlib.Core.Bool.{Bool, true, false, not, ◌&&◌, ◌||◌}
use mathlib.Core.List.{[], ◌∷◌}
use Rattle.std.specs.Prelude.{Option, None, Some}
use native.Mathlib.Omega.{arith}
use borrow.Author.Tests.{eqb-true, not-true}
use lib.Dec.{eqb}
use Rattle.spec.specs.Base.{within, is_in, implies, every}
use Rattle.spec.specs.Kinds.{is_enum, is_result, may_be_operand, may_be_parameter, may_embed, is_logged, is_long, is_text}
use Rattle.spec.specs.Records.{Entry, entry}
use Rattle.spec.specs.Match.{parts_of, literal_kind_of}
use Rattle.spec.proofs.Range.{below_at}
use Rattle.demands.proofs.Choice.{left, both, asked, other, cases, either, IfSome, in_range}

-- KINDS

-- a kind of the log whose operand is one word
abbrev pub is_narrow : ℕ → Bool
is_narrow k = is_logged k && not (is_long k || is_text k)

-- a kind whose operand is a whole word: of one word, and no embedded opcode
abbrev pub is_whole : ℕ → Bool
is_whole k = is_narrow k && not (eqb k 39)

-- a kind in one of two ranges is at most the end of the later
in_ranges : (a b c d k : ℕ) → (within a k b || within c k d) ≡ true → b ≤ d → k ≤ d
in_ranges a b c d k e h =
    cases (within a k b) (λ l. omega (arith, (in_range a k b l).1))
    (λ l. (in_range c k d (other (within a k b) (within c k d) e l)).1)

-- a row's operand is of a kind that there is
operand_kind : (k : ℕ) → may_be_operand k ≡ true → k < 52
operand_kind k e = omega (arith, (in_range 1 k 51 (left (within 1 k 51) (not (within 36 k 38)) e)).1)

-- a literal of two words is of a kind of the log
pub long_logged : (k : ℕ) → is_long k ≡ true → is_logged k ≡ true
long_logged k e =
    cases (eqb k 36) (λ f. rw (eqb-true k 36 f)) (λ f. rw (eqb-true k 38 (other (eqb k 36) (eqb k 38) e f)))

-- an enumerant is a whole word
pub enum_whole : (k : ℕ) → is_enum k ≡ true → is_whole k ≡ true
enum_whole k e =
    asked (is_enum k) (is_whole k)
    (below_at (λ j. implies (is_enum j) (is_whole j)) 46 k refl (omega (arith, in_ranges 1 30 41 45 k e (omega arith)))) e

-- a parameter that is no string is a whole word
pub parameter_whole : (k : ℕ) → may_be_parameter k ≡ true → is_text k ≡ false → is_whole k ≡ true
parameter_whole k e f =
    asked (may_be_parameter k && not (is_text k)) (is_whole k)
    (below_at (λ j. implies (may_be_parameter j && not (is_text j)) (is_whole j)) 46 k refl
    (omega (arith, in_ranges 1 35 40 45 k e (omega arith))))
    (both e (ap not f))

-- a row's operand that is neither 46 nor 47 is no result
pub no_result : (k : ℕ) → may_be_operand k ≡ true → eqb k 46 ≡ false → eqb k 47 ≡ false → is_result k ≡ false
no_result k e a b =
    not-true (is_result k)
    (asked (not (eqb k 46) && not (eqb k 47)) (not (is_result k))
    (below_at (λ j. implies (not (eqb j 46) && not (eqb j 47)) (not (is_result j))) 52 k refl (operand_kind k e))
    (both (ap not a) (ap not b)))

-- the records of a row's operand that is no result and may be embedded are read as parameters are
pub parts_parameters : (k : ℕ) → may_be_operand k ≡ true → is_result k ≡ false → may_embed k ≡ true
    → every may_be_parameter (parts_of k) ≡ true
parts_parameters k e r m =
    asked (may_be_operand k && not (is_result k) && may_embed k) (every may_be_parameter (parts_of k))
    (below_at (λ j. implies (may_be_operand j && not (is_result j) && may_embed j) (every may_be_parameter (parts_of j))) 52 k refl
    (operand_kind k e))
    (both (both e (ap not r)) m)

-- the kind of a literal, where there is one, is of two words or a whole word
abbrev pub LiteralKind : Option ℕ → Type 0
LiteralKind o = IfSome (λ k. (is_long k || is_whole k) ≡ true) o

-- by any type
pub literal_kind_lem : (x : Option Entry) → LiteralKind (literal_kind_of x)
literal_kind_lem None = refl
literal_kind_lem (Some (entry id width sort)) =
    either LiteralKind (eqb sort 3) _ _
    (λ e. either LiteralKind (is_in width (16 ∷ 32 ∷ [])) _ _ (λ e. refl)
    (λ e. either LiteralKind (eqb width 64) _ _ (λ e. refl) (λ e. tt)))
    (λ e. either LiteralKind (is_in width (8 ∷ 16 ∷ 32 ∷ [])) _ _ (λ e. refl)
    (λ e. either LiteralKind (eqb width 64) _ _ (λ e. refl) (λ e. tt)))
