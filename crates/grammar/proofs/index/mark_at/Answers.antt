-- `grammar::index::mark_at` meets its contract: the item at the place of the rank.
use Rattle.std.proofs.Common.{refl}
use Rattle.grammar.proofs.IndexLaws.{place_inside, mark_read}
use Rattle.grammar.proofs.index.mark_at.Goals as goal

pub item_at-requires : goal.item_at-requires
item_at-requires c = place_inside _ _ c.requires.indexed _ c.requires.rank_in_bounds _ refl

pub returns : goal.returns
returns c = mark_read _ _ c.requires.indexed _ c.requires.rank_in_bounds _ _ _ refl c.item_at.ensures c.mark_of.ensures
