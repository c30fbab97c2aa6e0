use Rattle.std.proofs.Common.{map, string_bytes, ap, Err, refl}
use Rattle.kernel_serve.specs.inner.Taking.{command_of}
use Rattle.kernel_serve.proofs.Ended.{done_complete, done_outcome, done_says, fault_outcome, no_usage, no_write_fault, stop_complete, stop_outcome, stop_says}
use Rattle.kernel_serve.proofs.Named.{main_is_short}
use Rattle.kernel_serve.proofs.batch.report_run.Goals as goal

pub prepared-requires : goal.prepared-requires
prepared-requires g c =
    main_is_short (λ w. w.now) c.in-Some.command.main (map string_bytes c.args.words.now)
    (command_of c.in-Some.command)
    c.in-Some.ensures refl

pub returns-in-Err-clause-truth : goal.returns-in-Err-clause-truth
returns-in-Err-clause-truth g c = stop_says _ c.in-Err.status _ _ c.in-Err.ensures.ends

pub returns-in-Err-clause-outcome : goal.returns-in-Err-clause-outcome
returns-in-Err-clause-outcome g c =
    stop_outcome (map string_bytes c.args.words.now)
    (command_of c.in-Some.command) c.in-Err.status _ _ c.in-Some.ensures c.in-Err.ensures.ends
    c.in-Err.ensures.stops

pub returns-in-Err-clause-complete : goal.returns-in-Err-clause-complete
returns-in-Err-clause-complete g c = λ reads writes.
    stop_complete (map string_bytes c.args.words.now)
    (command_of c.in-Some.command) c.in-Err.status _ _ c.in-Some.ensures
    (λ is. reads (c.in-Err.ensures.read (ap Err is))) c.in-Err.ensures.only

pub returns-in-Err-clause-usage : goal.returns-in-Err-clause-usage
returns-in-Err-clause-usage g c =
    no_usage (map string_bytes c.args.words.now)
    (command_of c.in-Some.command) c.in-Err.status c.in-Some.ensures c.in-Err.ensures.ends

pub returns-in-Err-clause-write : goal.returns-in-Err-clause-write
returns-in-Err-clause-write g c = no_write_fault c.in-Err.status c.in-Err.ensures.ends

pub returns-in-Ok-write_all-clause-truth : goal.returns-in-Ok-write_all-clause-truth
returns-in-Ok-write_all-clause-truth g c =
    let written = rw c.as_slice.ensures.value at c.in-Ok-write_all.ensures.ok in
    done_says (map string_bytes c.args.words.now)
    (command_of c.in-Some.command) _ _ _ c.in-Ok.text.items c.in-Some.ensures c.in-Ok.ensures.truth
    written

pub returns-in-Ok-write_all-clause-complete : goal.returns-in-Ok-write_all-clause-complete
returns-in-Ok-write_all-clause-complete g c = λ reads writes.
    let written = rw c.as_slice.ensures.value at c.in-Ok-write_all.ensures.ok in
    done_complete (map string_bytes c.args.words.now)
    (command_of c.in-Some.command) _ _ _ c.in-Ok.text c.in-Some.ensures c.in-Ok.ensures.only written

pub returns-in-Ok-write_all-clause-outcome : goal.returns-in-Ok-write_all-clause-outcome
returns-in-Ok-write_all-clause-outcome g c =
    let written = rw c.as_slice.ensures.value at c.in-Ok-write_all.ensures.ok in
    done_outcome (map string_bytes c.args.words.now)
    (command_of c.in-Some.command) _ _ _ c.in-Ok.text.items c.in-Some.ensures c.in-Ok.ensures.text written

pub returns-clause-outcome : goal.returns-clause-outcome
returns-clause-outcome g c =
    let written = rw c.as_slice.ensures.value at c.in-Err-write_all.ensures.err in
    fault_outcome (map string_bytes c.args.words.now)
    (command_of c.in-Some.command) _ _ _ c.in-Ok.text.items c.in-Some.ensures c.in-Ok.ensures.text written
