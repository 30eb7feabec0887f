-- Laws of offsets that break: the first of several, of operands after others, of an instruction more, and that they lie in the module.
use Prim.Native.Nat.{ℕ, suc, ◌+◌, ◌*◌, ◌/◌, ◌%◌, ◌≤◌}
use mathlib.Core.Path.{◌≡◌, refl, ap, sym, ◌∙◌}
use mathlib.Core.Bool.{Bool, true, false, ◌&&◌}
use mathlib.Core.List.{List, [], ◌∷◌, ◌++◌}
use native.Mathlib.Omega.{arith}
use native.Mathlib.Nat.{add-zero}
use borrow.Author.Tests.{eqb-true, eqb-false}
use lib.Dec.{ltb, eqb}
use lib.ListN.{length, take, drop, length-drop, length-take}
use lib.Seq.{drop-drop}
use Rattle.std.specs.Prelude.{if◌then◌else◌}
use Rattle.spec.specs.Words.{four_at}
use Rattle.spec.specs.Text.{text_words, not_zero, text_break}
use Rattle.spec.specs.Records.{Operand, narrow, wide, text, Instr, Placed, operand_size, operands_size}
use Rattle.spec.specs.Plain.{first_break, operand_break, operands_break, in_order, instr_break, kept_break, tail_break, module_break}
use Rattle.spec.proofs.Choice.{either}

-- THE FIRST

-- of one, then of two
pub first_after : (a b c : ℕ) → first_break (first_break a b) c ≡ first_break a (first_break b c)
unfolding first_break
first_after a b c = by (eqb a 0) refl
  where
    by : (t : Bool) → eqb a 0 ≡ t → (if eqb (if t then b else a) 0 then c else (if t then b else a)) ≡ (if t then (if eqb b 0 then c else b) else a)
    by true e = refl
    by false e = rw e

-- none before
pub first_none : (a b : ℕ) → a ≡ 0 → first_break a b ≡ b
unfolding first_break
first_none a b e = rw e

-- none after
pub first_last : (a : ℕ) → first_break a 0 ≡ a
unfolding first_break
first_last a = by (eqb a 0) refl
  where
    by : (t : Bool) → eqb a 0 ≡ t → (if t then 0 else a) ≡ a
    by true e = sym (eqb-true a 0 e)
    by false e = refl

-- no first is none of both
pub neither : (a b : ℕ) → first_break a b ≡ 0 → (a ≡ 0) × (b ≡ 0)
unfolding first_break
neither a b = by (eqb a 0) refl
  where
    by : (t : Bool) → eqb a 0 ≡ t → (if t then b else a) ≡ 0 → (a ≡ 0) × (b ≡ 0)
    by true e h = (eqb-true a 0 e, h)
    by false e h = absurd (eqb-false a 0 e h)

-- OPERANDS AND INSTRUCTIONS

-- operands after others
pub breaks_append : (at : ℕ) (a b : List Operand) (bs : List ℕ)
    → operands_break at (a ++ b) bs
    ≡ first_break (operands_break at a bs) (operands_break (at + 4 * operands_size a) b (drop (4 * operands_size a) bs))
unfolding operands_break operands_size
breaks_append at [] b bs = ap (λ (n : ℕ). operands_break n b bs) (sym (add-zero at)) ∙ sym (first_none 0 _ refl)
breaks_append at (o ∷ a) b bs =
    let k : ℕ = 4 * operand_size o in
    let m : ℕ = 4 * operands_size a in
    let all : k + m ≡ 4 * (operand_size o + operands_size a) = omega arith in
    let where-is : at + k + m ≡ at + 4 * (operand_size o + operands_size a) = omega arith in
    ap (first_break (operand_break at o bs)) (breaks_append (at + k) a b (drop k bs))
    ∙ sym (first_after (operand_break at o bs) (operands_break (at + k) a (drop k bs)) (operands_break (at + k + m) b (drop m (drop k bs))))
    ∙ ap (λ (l : List ℕ). first_break (first_break (operand_break at o bs) (operands_break (at + k) a (drop k bs))) (operands_break (at + k + m) b l))
    (drop-drop m k bs ∙ ap (λ (n : ℕ). drop n bs) all)
    ∙ ap (λ (n : ℕ). first_break (first_break (operand_break at o bs) (operands_break (at + k) a (drop k bs))) (operands_break n b (drop (4 * (operand_size o + operands_size a)) bs))) where-is

-- an instruction more
pub kept_more : (s : List ℕ) (ps : List Placed) (p : Placed) → kept_break s (ps ++ (p ∷ [])) ≡ first_break (kept_break s ps) (instr_break s p.instr)
unfolding kept_break
kept_more s [] p = first_last (instr_break s p.instr) ∙ sym (first_none 0 _ refl)
kept_more s (q ∷ ps) p =
    ap (first_break (instr_break s q.instr)) (kept_more s ps p)
    ∙ sym (first_after (instr_break s q.instr) (kept_break s ps) (instr_break s p.instr))

-- IN THE MODULE

-- the first of two is no more than either may be
first_within : (a b n : ℕ) → a ≤ n → b ≤ n → first_break a b ≤ n
unfolding first_break
first_within a b n h k = either (λ (m : ℕ). m ≤ n) (eqb a 0) b a (λ e. k) (λ e. h)

-- a byte that is not zero is one of the bytes
not_zero_within : (at : ℕ) (l : List ℕ) (n : ℕ) → (1 ≤ length l → at + length l ≤ n) → not_zero at l ≤ n
unfolding not_zero
not_zero_within at [] n h = omega arith
not_zero_within at (b ∷ l) n h =
    let all : at + suc (length l) ≤ n = h (omega arith) in
    either (λ (m : ℕ). m ≤ n) (eqb b 0) (not_zero (at + 1) l) at (λ e. not_zero_within (at + 1) l n (λ k. omega arith)) (λ e. omega arith)

-- an operand's words are of the bytes
operand_within : (at : ℕ) (o : Operand) (bs : List ℕ) (n : ℕ) → (1 ≤ length bs → at + length bs ≤ n) → operand_break at o bs ≤ n
unfolding operand_break text_break
operand_within at (narrow k v) [] n h =
    either (λ (m : ℕ). m ≤ n) (eqb k 39 && false) at 0 (λ e. absurd (never (eqb k 39) e)) (λ e. omega arith)
  where
    never : (t : Bool) → (t && false) ≡ true → ⊥
    never true e = let z : ◌≡◌ {A = ℕ} 0 1 = cc in omega arith
    never false e = let z : ◌≡◌ {A = ℕ} 0 1 = cc in omega arith
operand_within at (narrow k v) (b ∷ bs) n h =
    let all : at + suc (length bs) ≤ n = h (omega arith) in
    either (λ (m : ℕ). m ≤ n) (eqb k 39 && ltb 65535 (four_at 0 (b ∷ bs))) at 0 (λ e. omega arith) (λ e. omega arith)
operand_within at (wide k v) bs n h = omega arith
operand_within at (text s) bs n h =
    let m : ℕ = length s in
    not_zero_within (at + m) (drop m (take (4 * text_words m) bs)) n
    (λ k. let size = length-drop m (take (4 * text_words m) bs) in
    let cut = length-take (4 * text_words m) bs in
    let Some : 1 ≤ length bs = omega arith in
    omega (arith, h Some))

-- so are those of operands
operands_within : (at : ℕ) (os : List Operand) (bs : List ℕ) (n : ℕ) → (1 ≤ length bs → at + length bs ≤ n) → operands_break at os bs ≤ n
unfolding operands_break
operands_within at [] bs n h = omega arith
operands_within at (o ∷ os) bs n h =
    let k : ℕ = 4 * operand_size o in
    first_within _ _ n (operand_within at o bs n h)
    (operands_within (at + k) os (drop k bs) n (λ Some.
    let size = length-drop k bs in
    let all : 1 ≤ length bs = omega arith in
    omega (arith, h all)))

-- and of instructions
kept_within : (s : List ℕ) (ps : List Placed) → kept_break s ps ≤ length s
unfolding kept_break instr_break
kept_within s [] = omega arith
kept_within s (p ∷ ps) =
    let i : Instr = p.instr in
    let at : ℕ = i.offset + 4 in
    first_within _ _ (length s)
    (operands_within at (in_order i.result_type i.result_id i.operands) (drop at s) (length s) (λ Some. let size = length-drop at s in omega arith))
    (kept_within s ps)

-- what breaks a module lies in it
pub break_within : (s : List ℕ) (ps : List Placed) → module_break s ps ≤ length s
unfolding module_break tail_break
break_within s ps =
    first_within _ _ (length s) (kept_within s ps)
    (either (λ (m : ℕ). m ≤ length s) (eqb (length s % 4) 0) 0 (4 * (length s / 4)) (λ e. omega arith) (λ e. omega arith))
