use Rattle.std.proofs.Common.{◌≡◌, take, length}
use Rattle.spelled.specs.Placing.{AllRanged}
use Rattle.spelled.specs.Said.{said}
use Rattle.ranges.proofs.survey.Given as goal

-- the ranges of the first so many instructions
abbrev pub invariant-loop-i : goal.invariant-loop-i
invariant-loop-i l = record {
  ranged : AllRanged (take l.i (said l.good)) l.ranges.first l.ranges.end;
  first_len : length l.ranges.first ≡ 13;
  end_len : length l.ranges.end ≡ 13;
}
