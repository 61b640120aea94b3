-- `script_records::format::first_record` meets its contract. Assumes nothing.
use Rattle.std.proofs.Common.{rules}
use Rattle.script_records.proofs.PartLaws.{body_there, behind_there}
use Rattle.script_records.proofs.format.first_record.Goals as goal

pub returns-then-fits-clause-parts : goal.returns-then-fits-clause-parts
returns-then-fits-clause-parts c =
    let parts = c.in_ok-body.ensures.cases in
    let s = c.args.s.now in
    record {
      whole = search rules;
      own_kind = search rules;
      own_body = body_there s _ _ (search rules) parts.1;
      behind = behind_there s _ _ (search rules) parts.2;
    }
