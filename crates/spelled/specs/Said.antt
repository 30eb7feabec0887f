-- The instructions that good records say.
use Rattle.std.specs.Prelude.{List}
use Rattle.spec.specs.Records.{Placed}
use Rattle.spelled.specs.Placing.{instrs_of}
use Rattle.spelled.specs.declared.Good.{Good}

-- in the order read
abbrev pub said : Good → List Placed
said g = instrs_of g.instructions.now g.log.now g.strings.now g.count
