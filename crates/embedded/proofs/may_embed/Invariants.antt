-- A loop over a row's operands: none of those passed bars the row.
use Rattle.std.proofs.Common.{◌≡◌, length, ◌-◌, ◌≤◌}
use Rattle.spec.specs.Base.{every}
use Rattle.spec.specs.Match.{embeds}
use Rattle.used.specs.Parse.{slots_at}
use Rattle.embedded.proofs.may_embed.Given as goal

abbrev pub invariant-loop-k : goal.invariant-loop-k
invariant-loop-k l = (every embeds (slots_at l.g l.place) ≡ every embeds (slots_at l.g l.p)) × (l.p ≤ length l.g)

abbrev pub decreases-loop-k : goal.decreases-loop-k
decreases-loop-k l = length l.g - l.p
