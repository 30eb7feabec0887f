use Prim.Native.Nat.{◌-◌}
use Rattle.grammar.specs.Index.{marks_of}
use Rattle.grammar.proofs.SearchLaws.{Halving}
use Rattle.grammar.proofs.find.Rows.search.Given as goal

-- what is sought stands between the two, if it stands anywhere
abbrev pub invariant-loop-low : goal.invariant-loop-low
invariant-loop-low l = Halving l.kind l.value (marks_of l.self.bytes.now) l.low l.high

abbrev pub decreases-loop-low : goal.decreases-loop-low
decreases-loop-low l = l.high - l.low
