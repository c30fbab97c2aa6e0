use Rattle.std.proofs.Common.{Ok, Err, Option, subst}
use Rattle.kernel_serve.specs.Told.{Files}
use Rattle.kernel_serve.specs.inner.Steps.{ToldHistory}
use Rattle.kernel_serve.specs.inner.Taking.{command_of}
use Rattle.kernel_serve.proofs.Ended.{true_told}
use Rattle.kernel_serve.proofs.Stopped.{asks, file_only_told, file_stops_told, file_told, only_told, script_only_told, script_stops_told, text_told}
use Rattle.kernel_serve.proofs.batch.prepared.Goals as goal

pub returns-in-Err-clause-stops : goal.returns-in-Err-clause-stops
returns-in-Err-clause-stops g c =
    let command = command_of c.args.command in
    let status = c.in-Err.refusal in
    file_stops_told _ command status
    (file_told _ command _ (Err status) c.entry_name.ensures.name c.in-Err.ensures.told)

pub returns-in-Err-clause-only : goal.returns-in-Err-clause-only
returns-in-Err-clause-only g c =
    let command = command_of c.args.command in
    let status = c.in-Err.refusal in
    file_only_told _ command status
    (file_told _ command _ (Err status) c.entry_name.ensures.name c.in-Err.ensures.told)

pub returns-in-Err-history_of-clause-stops : goal.returns-in-Err-history_of-clause-stops
returns-in-Err-history_of-clause-stops g c =
    let command = command_of c.args.command in
    let entered = c.in-Ok.entered in
    let status = c.in-Err-history_of.status in
    let file = file_told _ command _ (Ok entered) c.entry_name.ensures.name c.in-Ok.ensures.told in
    let script = subst (λ (f : Option Files). ToldHistory f command entered (Err status))
    c.in-Ok.ensures.files c.in-Err-history_of.ensures.told in
    script_stops_told _ command entered status file script

pub returns-in-Err-history_of-clause-only : goal.returns-in-Err-history_of-clause-only
returns-in-Err-history_of-clause-only g c =
    let command = command_of c.args.command in
    let entered = c.in-Ok.entered in
    let status = c.in-Err-history_of.status in
    let file = file_told _ command _ (Ok entered) c.entry_name.ensures.name c.in-Ok.ensures.told in
    let script = subst (λ (f : Option Files). ToldHistory f command entered (Err status))
    c.in-Ok.ensures.files c.in-Err-history_of.ensures.told in
    script_only_told _ command entered status file script

pub returns-in-Ok-report_of-clause-text : goal.returns-in-Ok-report_of-clause-text
returns-in-Ok-report_of-clause-text g c =
    let command = command_of c.args.command in
    let entered = c.in-Ok.entered in
    let history = c.in-Ok-history_of.history in
    let file = file_told _ command _ (Ok entered) c.entry_name.ensures.name c.in-Ok.ensures.told in
    let script = subst (λ (f : Option Files). ToldHistory f command entered (Ok history))
    c.in-Ok.ensures.files c.in-Ok-history_of.ensures.told in
    text_told _ command entered history c.in-Ok-report_of.text file script c.in-Ok-report_of.ensures

pub returns-in-Ok-report_of-clause-truth : goal.returns-in-Ok-report_of-clause-truth
returns-in-Ok-report_of-clause-truth g c =
    let command = command_of c.args.command in
    let entered = c.in-Ok.entered in
    let history = c.in-Ok-history_of.history in
    let file = file_told _ command _ (Ok entered) c.entry_name.ensures.name c.in-Ok.ensures.told in
    let script = subst (λ (f : Option Files). ToldHistory f command entered (Ok history))
    c.in-Ok.ensures.files c.in-Ok-history_of.ensures.told in
    true_told c.runs_keep_laws.ensures c.verdicts_are_true.ensures c.links_are_right.ensures
    c.decided_are_right.ensures c.entries_are_right.ensures c.values_stay.ensures
    _ command entered history c.in-Ok-report_of.text.items c.keeps.ensures file script
    c.in-Ok-report_of.ensures

pub returns-in-Ok-report_of-clause-only : goal.returns-in-Ok-report_of-clause-only
returns-in-Ok-report_of-clause-only g c =
    let command = command_of c.args.command in
    let entered = c.in-Ok.entered in
    let history = c.in-Ok-history_of.history in
    let file = file_told _ command _ (Ok entered) c.entry_name.ensures.name c.in-Ok.ensures.told in
    let script = subst (λ (f : Option Files). ToldHistory f command entered (Ok history))
    c.in-Ok.ensures.files c.in-Ok-history_of.ensures.told in
    only_told _ command entered history c.in-Ok-report_of.text file script c.in-Ok-report_of.ensures

pub returns-in-Ok-report_of-clause-asked : goal.returns-in-Ok-report_of-clause-asked
returns-in-Ok-report_of-clause-asked g c =
    let command = command_of c.args.command in
    let file = file_told _ command _ (Ok c.in-Ok.entered) c.entry_name.ensures.name c.in-Ok.ensures.told in
    asks _ command c.in-Ok.entered _ _ _ c.in-Ok.ensures.asked c.in-Ok-history_of.ensures.asked file
