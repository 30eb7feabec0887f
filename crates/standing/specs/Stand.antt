-- Standing as one pass over the tags.
use Rattle.std.specs.Prelude.{ℕ, Bool, not, ◌&&◌, ◌||◌, List, leb, eqb, length, if◌then◌else◌}
use Rattle.spec.specs.Base.{only}
use Rattle.spec.specs.Records.{Placed}
use Rattle.spec.specs.Write.{has_tag, never_falls, parameters_first, bodies, declarations_first}
use Rattle.standing.specs.declared.Order.{Order}

-- a tag that may come: a section's that does not fall, or a function's; no parameter after a label; no second MemoryModel; and no end
-- of a function without a label after a function with one
unfoldable pub may_come : Order → ℕ → Bool
may_come o t =
    (leb 12 t || leb o.before t)
    && not (eqb t 13 && o.label)
    && not (eqb t 4 && o.model)
    && not (eqb t 16 && (not o.label && o.body))

-- where the pass is after a tag
unfoldable pub order_after : Order → ℕ → Order
order_after o t =
    record {
      before = if leb t 11 then t else 12;
      label = not (eqb t 12) && (o.label || eqb t 14);
      model = o.model || eqb t 4;
      body = o.body || (eqb t 16 && o.label);
    }

-- whether the instructions that are left stand: tags go on from the one before, a label may have come, one MemoryModel is to come
-- where none came, and a function with a body may have come
unfoldable pub stands_after : Order → List Placed → Bool
stands_after o is =
    never_falls o.before is
    && parameters_first o.label is
    && eqb (length (only (has_tag 4) is)) (if o.model then 0 else 1)
    && declarations_first o.body (bodies o.label is)
