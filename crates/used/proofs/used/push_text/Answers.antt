-- `used::used::push_text` meets its contract.
use Rattle.used.proofs.UsedLaws.{fits_text, copied, part_laid}
use Rattle.used.proofs.used.push_text.Goals as goal

pub push-n-requires : goal.push-n-requires
push-n-requires c = (c.requires.log_bound.0, c.requires.log_bound.1, fits_text _)

pub returns : goal.returns
returns c = record {
  copied = copied _ _ _ _ _ _ c.push-n.ensures.pushed c.first_break.ensures;
  laid = c.push-n.ensures.laid;
  laid_2 = part_laid _ _ _ _ _ _ c.keep_bytes.ensures c.requires.size_in_bounds;
}
