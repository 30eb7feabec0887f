-- `disassemble::named::narrow_named` meets its contract.
-- Assumes nothing.
use mathlib.Core.Path.{ap, sym, ◌∙◌}
use Prim.Native.Nat.{ℕ}
use mathlib.Core.Bool.{true}
use Rattle.spec.specs.Names.{name_of}
use Rattle.spec.specs.Disassembly.{is_there}
use Rattle.disassemble.proofs.Judged.{narrow_nameless, narrow_bits, narrow_value}
use Rattle.disassemble.proofs.named.narrow_named.Goals as goal

pub returns-then-kind : goal.returns-then-kind
returns-then-kind c =
    narrow_nameless _ _ true c.if-kind.true

pub returns-then-has_bits : goal.returns-then-has_bits
returns-then-has_bits c =
    narrow_bits _ _ _ c.if-kind.false (sym c.has_bits.ensures ∙ c.if-has_bits.true) c.bits_named.ensures

pub returns : goal.returns
returns c =
    narrow_value _ _ _ c.if-kind.false (sym c.has_bits.ensures ∙ c.if-has_bits.false) (c.has_name.ensures ∙ ap (λ (s : ℕ). is_there (name_of s c.args.value)) c.set_of_kind.ensures)
