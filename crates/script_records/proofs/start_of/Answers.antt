-- `script_records::start_of` meets its contract. Assumes nothing.
use Rattle.std.proofs.Common.{rules, ◌≡◌, ap}
use Rattle.script_records.specs.Kinds.{kind_number}
use Rattle.script_records.specs.declared.format.Kind.TheVariants.{Chain}
use Rattle.script_records.proofs.PartLaws.{call_first, same_kind}
use Rattle.script_records.proofs.StartLaws.{starts_after, starts_at_call, starts_malformed}
use Rattle.script_records.proofs.start_of.Goals as goal

pub returns-in-Some : goal.returns-in-Some
returns-in-Some c =
    let k : c.in-Some.record.kind ≡ Chain = search rules in rw c.byte.ensures (starts_after c.in-Some.ensures.parts (ap kind_number k))

pub returns-in_default : goal.returns-in_default
returns-in_default c =
    let k : c.in-Some.record.kind ≡ Chain → ⊥ = search rules in starts_at_call (call_first c.in-Some.ensures.parts (λ e. k (same_kind c.in-Some.record.kind Chain e)))

pub returns-in_default-2 : goal.returns-in_default-2
returns-in_default-2 c = starts_malformed c.args.script.now (rw c.in_default.is at c.first_record.ensures.size)
