-- `lit_time_calls::stepped` meets its contract. Assumes nothing.
use Rattle.ground.proofs.Names.{arith, ap, subst}
use Rattle.calls.specs.Calls.{Call, give, clocks}
use Rattle.row.specs.declared.Done.{Done}
use Rattle.printed.specs.Format.{byte}
use Rattle.script_records.specs.Records.{clocks_of}
use Rattle.script_records.specs.Kinds.{kind_number}
use Rattle.script_records.specs.declared.format.Kind.TheVariants.{Scan, Pins}
use Rattle.script_records.proofs.PartLaws.{same_kind}
use Rattle.lit_time_calls.specs.Progress.{Space}
use Rattle.lit_time_calls.proofs.CallLaws.{ticks, own_space, counted_clocks}
use Rattle.lit_time_calls.proofs.stepped.Goals as goal

pub overflow_sub-at : goal.overflow_sub-at
overflow_sub-at c =
    let w = ticks c.args.row c.args.totals.now (kind_number c.args.kind) c.args.body.now _ (rw c.from.ensures at c.give-done.ensures) c.if-number-ne0.false (λ e. c.in_default.not-Scan (same_kind c.args.kind Scan e)) (λ e. c.in_default.not-Pins (same_kind c.args.kind Pins e)) c.requires.1 in
    rw c.byte-driver.ensures w.given.there

pub add_times-requires : goal.add_times-requires
add_times-requires c =
    let a = c.args in
    let w = ticks a.row a.totals.now (kind_number a.kind) a.body.now _ (rw c.from.ensures at c.give-done.ensures) c.if-number-ne0.false (λ e. c.in_default.not-Scan (same_kind c.args.kind Scan e)) (λ e. c.in_default.not-Pins (same_kind c.args.kind Pins e)) c.requires.1 in
    let j = c.byte-driver.ensures in
    let x = rw j at c.named-device.ensures in
    let room : Space a.row (give (byte a.body.now 0) (clocks (clocks_of a.body.now))) a.totals.now = subst (λ (q : Call). Space a.row q a.totals.now) w.step c.requires.2 in
    record {
      blink_bound = (rw x w.given.count, rw j (omega (arith, w.given.there, w.given.last, c.requires.1.room)));
      by_index = rw (j, c.clocks_of.ensures, c.requires.0) (own_space a.row (byte a.body.now 0) (clocks_of a.body.now) w.served a.totals.now _ c.requires.1 w.given x room);
    }

pub returns-in_default : goal.returns-in_default
returns-in_default c =
    let a = c.args in
    let w = ticks a.row a.totals.now (kind_number a.kind) a.body.now _ (rw c.from.ensures at c.give-done.ensures) c.if-number-ne0.false (λ e. c.in_default.not-Scan (same_kind c.args.kind Scan e)) (λ e. c.in_default.not-Pins (same_kind c.args.kind Pins e)) c.requires.1 in
    let j = c.byte-driver.ensures in
    let x = rw j at c.named-device.ensures in
    rw w.step
    (counted_clocks a.row (byte a.body.now 0) (clocks_of a.body.now) w.served a.totals.now _ _ _ (rw w.step at (ap (λ (y : Done). y.row) (rw c.from.ensures at c.give-done.ensures))) c.requires.1 w.given x
    (rw (j, c.clocks_of.ensures, c.requires.0) at c.add_times.ensures))
