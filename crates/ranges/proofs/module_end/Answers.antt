-- `ranges::module_end` meets its contract: all instructions but the MemoryModels before the last.
use Rattle.std.proofs.Common.{arith}
use Rattle.ranges.proofs.Measure.{module_size}
use Rattle.ranges.proofs.module_end.Goals as goal

pub overflow_sub-result : goal.overflow_sub-result
overflow_sub-result c =
    omega (arith, module_size _ _ _ _ c.args.good.stores c.args.model c.requires.count_value, c.end_of-end.ensures, c.bytes_before-dropped.ensures)

pub returns : goal.returns
returns c =
    omega (arith, module_size _ _ _ _ c.args.good.stores c.args.model c.requires.count_value, c.end_of-end.ensures, c.bytes_before-dropped.ensures)
