-- `script_records::first_call` meets its contract. Assumes nothing.
use Rattle.std.proofs.Common.{rules, ◌≡◌, ap}
use Rattle.script_records.specs.Kinds.{kind_number}
use Rattle.script_records.specs.declared.format.Kind.TheVariants.{Chain}
use Rattle.script_records.proofs.PartLaws.{call_first, chain_stops, nothing_stops, same_kind}
use Rattle.script_records.proofs.first_call.Goals as goal

pub returns-in_err-call-clause-stop : goal.returns-in_err-call-clause-stop
returns-in_err-call-clause-stop c = rw c.from_residual.ensures (nothing_stops c.args.s.now c.in_err-call.ensures.size)

pub returns-then-eq-clause-stop : goal.returns-then-eq-clause-stop
returns-then-eq-clause-stop c =
    let k : c.in_ok-call.call.kind ≡ Chain = search rules in chain_stops c.in_ok-call.ensures.parts (ap kind_number k)

pub returns-else-eq-clause-call : goal.returns-else-eq-clause-call
returns-else-eq-clause-call c =
    let k : c.in_ok-call.call.kind ≡ Chain → ⊥ = search rules in call_first c.in_ok-call.ensures.parts (λ e. k (same_kind c.in_ok-call.call.kind Chain e))
