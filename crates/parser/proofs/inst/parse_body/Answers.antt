-- `inst::parse_body` meets its contract: the operands that were read, or the refusal of one.
use Rattle.parser.proofs.InstLaws.{body_bad, body_good}
use Rattle.parser.proofs.inst.parse_body.Goals as goal

pub returns-in-Err-clause-decodes : goal.returns-in-Err-clause-decodes
returns-in-Err-clause-decodes c = (body_bad _ _ _ _ _ _ _ _ _ _ c.parse_operands-parsed.ensures _ _ c.in-Err.is).0

pub returns-in-Err-clause-shape_is : goal.returns-in-Err-clause-shape_is
returns-in-Err-clause-shape_is c = (body_bad _ _ _ _ _ _ _ _ _ _ c.parse_operands-parsed.ensures _ _ c.in-Err.is).1

pub returns-in-Ok-clause-decodes : goal.returns-in-Ok-clause-decodes
returns-in-Ok-clause-decodes c =
    (body_good _ _ _ _ _ _ _ _ _ _ c.parse_operands-parsed.ensures _ _ c.in-Ok.is _ c.requires.framed.0.moves c.finished.ensures).0

pub returns-in-Ok-clause-shape_is : goal.returns-in-Ok-clause-shape_is
returns-in-Ok-clause-shape_is c =
    (body_good _ _ _ _ _ _ _ _ _ _ c.parse_operands-parsed.ensures _ _ c.in-Ok.is _ c.requires.framed.0.moves c.finished.ensures).1
