use Rattle.std.proofs.Common.{subst, List}
use Rattle.std.proofs.lemmas.List.{nil_from_length}
use Rattle.c_lex.specs.declared.token.Token.{Token}
use Rattle.acsl_notes.specs.Notes.{notes_of}
use Rattle.acsl_notes.proofs.Steps.{Found, Only, Fault, found, only, fault, is_only, all_found, all_only}
use Rattle.acsl_notes.proofs.text.notes.Goals as goal

pub returns-in-Err-clause-only : goal.returns-in-Err-clause-only
returns-in-Err-clause-only c =
    is_only _ _ _ _ _ _ _ c.in-Err.ensures
    (subst (λ (ts : List Token). Only c.args.bytes.now c.reading.annots (notes_of ts) (notes_of c.args.tokens.now)) c.in-Some.ensures.cases.0 c.reading.invariant.only)

pub reading-preserved : goal.reading-preserved
reading-preserved c = record {
  found =
      found _ _ _ _ _ _ _ c.in-Ok.ensures
      (subst (λ (ts : List Token). Found c.args.bytes.now c.reading.annots (notes_of ts) (notes_of c.args.tokens.now)) c.in-Some.ensures.cases.0 c.reading.invariant.found);
  only =
      only _ _ _ _ _ _ _ c.in-Ok.ensures
      (subst (λ (ts : List Token). Only c.args.bytes.now c.reading.annots (notes_of ts) (notes_of c.args.tokens.now)) c.in-Some.ensures.cases.0 c.reading.invariant.only);
  fault =
      fault _ _ _ _ _ _ _ c.in-Ok.ensures
      (subst (λ (ts : List Token). Fault c.args.bytes.now (notes_of ts) (notes_of c.args.tokens.now)) c.in-Some.ensures.cases.0 c.reading.invariant.fault);
}

pub returns-clause-found : goal.returns-clause-found
returns-clause-found c =
    all_found _ _ _
    (subst (λ (ts : List Token). Found c.args.bytes.now c.reading.annots (notes_of ts) (notes_of c.args.tokens.now)) (nil_from_length _ c.in_default.ensures.cases) c.reading.invariant.found)

pub returns-clause-only : goal.returns-clause-only
returns-clause-only c =
    all_only _ _ _
    (subst (λ (ts : List Token). Only c.args.bytes.now c.reading.annots (notes_of ts) (notes_of c.args.tokens.now)) (nil_from_length _ c.in_default.ensures.cases) c.reading.invariant.only)
