-- `disassemble::write::before_bad` meets its contract.
-- Assumes nothing.
use Rattle.disassemble.proofs.Wholes.{before_good, before_bad_lem, bad_some}
use borrow.Author.Rules.{rules}
use Rattle.disassemble.proofs.write.before_bad.Statement.{statement}
use Rattle.disassemble.proofs.write.before_bad.Tie as tie

enum_told : tie.Need-enum_told-1
enum_told c = search rules

enum_known_checked : tie.Need-enum_known-checked
enum_known_checked c = search rules

sub_result : tie.Need-overflow_sub-result
sub_result c =
    let at-start = c.before in
    let at-checked = c in
    bad_some _ _ at-start.requires at-checked.in-Some.is

returns : tie.Need-returns-in-None
returns c = before_good _ _ c.in-None.is

returns-2 : tie.Need-returns-in-Some
returns-2 c =
    let at-checked = c in
    before_bad_lem _ _ _ at-checked.in-Some.is

pub before_bad_spec : {M : Type 1} → statement M
before_bad_spec = tie.close (tie.spec enum_told enum_known_checked sub_result returns returns-2)
