-- The tests on operand kinds, all of them. 1 to 45 are the arms of `Operand` in binary/assemble.rs, in its order (31 to 33 ids,
-- 34 LiteralInt32, 35 LiteralExtInstInteger, 36 LiteralInt64, 37 LiteralFloat32, 38 LiteralFloat64, 39 LiteralSpecConstantOpInteger,
-- 40 LiteralString); "Then 46 IdResultType, 47 IdResult, 48 LiteralContextDependentNumber, 49 PairLiteralIntegerIdRef,
-- 50 PairIdRefLiteralInteger, 51 PairIdRefIdRef. LiteralInteger is 34."
use Rattle.std.specs.Prelude.{ℕ, Bool, not, ◌&&◌, ◌||◌, [], ◌∷◌, eqb}
use Rattle.spec.specs.Base.{within, is_in}

-- "masks (1 to 8, 41, 45)"
abbrev pub is_mask : ℕ → Bool
is_mask k = within 1 k 8 || eqb k 41 || eqb k 45

-- "Enumerants belong to kinds 1 to 30 and 41 to 45"
abbrev pub is_enum : ℕ → Bool
is_enum k = within 1 k 30 || within 41 k 45

-- what a row's operand may be: a kind that there is, and "Kinds 36 to 38 occur nowhere"
abbrev pub may_be_operand : ℕ → Bool
may_be_operand k = within 1 k 51 && not (within 36 k 38)

-- "Parameters are of kinds 1 to 35 or 40 to 45"
abbrev pub may_be_parameter : ℕ → Bool
may_be_parameter k = within 1 k 35 || within 40 k 45

-- a result type or a result id
abbrev pub is_result : ℕ → Bool
is_result k = within 46 k 47

-- "A row with 39, 48 or 49 gives 14": what an embedded row may have
abbrev pub may_embed : ℕ → Bool
may_embed k = not (is_in k (39 ∷ 48 ∷ 49 ∷ []))

-- kinds that the operand log may have: the arms of `Operand`
abbrev pub is_logged : ℕ → Bool
is_logged k = within 1 k 45

-- literals of two words, LiteralInt64 and LiteralFloat64
abbrev pub is_long : ℕ → Bool
is_long k = eqb k 36 || eqb k 38

-- LiteralString
abbrev pub is_text : ℕ → Bool
is_text k = eqb k 40
