-- `imports::set_named` meets its contract.
-- Assumes nothing.
use mathlib.Core.Path.{ap, ◌∙◌}
use lib.Dec.{eqb}
use lib.Pointwise.{pointwise}
use Rattle.imports.proofs.Sets.{set_glsl, set_opencl, set_none}
use Rattle.imports.proofs.set_named.Goals as goal

pub returns-then-eq : goal.returns-then-eq
returns-then-eq c =
    set_glsl _ _ (c.eq.ensures ∙ ap (pointwise eqb c.args.s.now) c.as_slice.ensures) c.if-eq.true

pub returns-then-eq-2 : goal.returns-then-eq-2
returns-then-eq-2 c =
    set_opencl _ _ (c.eq.ensures ∙ ap (pointwise eqb c.args.s.now) c.as_slice.ensures) c.if-eq.false _ (c.eq-2.ensures ∙ ap (pointwise eqb c.args.s.now) c.as_slice-2.ensures) c.if-eq-2.true

pub returns : goal.returns
returns c =
    set_none _ _ (c.eq.ensures ∙ ap (pointwise eqb c.args.s.now) c.as_slice.ensures) c.if-eq.false _ (c.eq-2.ensures ∙ ap (pointwise eqb c.args.s.now) c.as_slice-2.ensures) c.if-eq-2.false
