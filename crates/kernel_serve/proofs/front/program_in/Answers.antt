use Rattle.std.proofs.Common.{ap, length, subst, sym, Err, List, arith}
use Rattle.acsl_notes.specs.Notes.{AreAnnots, IsFirstFault, notes_of}
use Rattle.acsl_notes.specs.Notes as annot
use Rattle.c_ast.specs.declared.annot.Annot.{Annot}
use Rattle.c_lex.specs.declared.token.Token.{Token}
use Rattle.c_parse.specs.Program.{IsUnit}
use Rattle.kernel_serve.proofs.Fronted.{no_notes, no_text, no_tokens, parts_of, types_answer}
use Rattle.kernel_serve.specs.declared.status.Status.{Status}
use Rattle.kernel_serve.specs.inner.Steps.{IsFileAnswer}
use Rattle.kernel_serve.proofs.front.program_in.Goals as goal

pub typed-requires-clause-size : goal.typed-requires-clause-size
typed-requires-clause-size c =
    let few = c.in-Ok.ensures.few in
    let size = c.in-Ok-parse.ensures.size in
    let same = ap length c.as_slice.ensures in
    let within = c.if-bytes-gt-MOST_FILE.false in
    omega (arith, few, size, same, within)

pub returns-in-Err-parse : goal.returns-in-Err-parse
returns-in-Err-parse c =
    let name = c.args.name.now in
    let file = c.args.bytes.now in
    let ts = c.as_slice.result.now in
    let lexed = c.in-Ok.ensures in
    let answer = no_text name file ts c.in-Err-parse.fault (omega (arith, c.if-bytes-gt-MOST_FILE.false))
    (rw c.as_slice.ensures lexed.found)
    (rw c.as_slice.ensures lexed.only) c.in-Err-parse.ensures.fault c.in-Err-parse.ensures.only in
    subst (λ (s : Status). IsFileAnswer name file (Err s)) (sym c.parse_status.ensures) answer

pub returns-in-Err : goal.returns-in-Err
returns-in-Err c =
    let name = c.args.name.now in
    let file = c.args.bytes.now in
    subst (λ (s : Status). IsFileAnswer name file (Err s)) (sym c.lex_status.ensures)
    (no_tokens name file c.in-Err.fault
    (omega (arith, c.if-bytes-gt-MOST_FILE.false)) c.in-Err.ensures.fault c.in-Err.ensures.only_fault)

pub returns-in-Err-notes : goal.returns-in-Err-notes
returns-in-Err-notes c =
    let name = c.args.name.now in
    let file = c.args.bytes.now in
    let lexed = c.in-Ok.ensures in
    let parsed = c.in-Ok-parse.ensures in
    let noted = c.in-Err-notes.ensures in
    let items = c.in-Ok-parse.tree.items in
    let fault = c.in-Err-notes.fault in
    subst (λ (s : Status). IsFileAnswer name file (Err s)) (sym c.acsl_status.ensures)
    (no_notes name file c.in-Ok.tokens items fault
    (omega (arith, c.if-bytes-gt-MOST_FILE.false)) lexed.found lexed.only
    (subst (λ (t : List Token). IsUnit file items t) c.as_slice.ensures parsed.found)
    (subst (λ (t : List Token). IsFirstFault file (notes_of t) fault) c.as_slice-2.ensures noted.fault)
    (subst (λ (t : List Token). (xs : List Annot) → AreAnnots file xs (notes_of t)
    → annot.IsOnly xs (Err fault)) c.as_slice-2.ensures noted.only))

pub returns : goal.returns
returns c =
    let name = c.args.name.now in
    let file = c.args.bytes.now in
    let lexed = c.in-Ok.ensures in
    let parsed = c.in-Ok-parse.ensures in
    let noted = c.in-Ok-notes.ensures in
    let annots = c.as_slice-3.result.now in
    let parts = parts_of file c.in-Ok.tokens c.as_slice.result.now c.as_slice-2.result.now c.in-Ok-parse.tree
    c.in-Ok-notes.annots annots
    (omega (arith, c.if-bytes-gt-MOST_FILE.false)) c.as_slice.ensures c.as_slice-2.ensures
    c.as_slice-3.ensures lexed.found lexed.only parsed.found parsed.only noted.found noted.only in
    types_answer name file c.in-Ok.tokens c.in-Ok-parse.tree annots c.typed.result parts c.typed.ensures
