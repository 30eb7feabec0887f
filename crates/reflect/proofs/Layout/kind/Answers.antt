use Rattle.reflect.proofs.Laws.{kind_listed}
use Rattle.reflect.proofs.Layout.kind.Goals as goal

pub returns-then-opcode-lt256 : goal.returns-then-opcode-lt256
returns-then-opcode-lt256 c = kind_listed _ _ c.args.self.now.kinds_known c.if-opcode-lt256.true
