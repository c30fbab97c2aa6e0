use Rattle.std.proofs.Common.{◌≡◌, List, Some, None, subst, sym}
use Rattle.c_lex.specs.declared.token.Token.{Token}
use Rattle.c_lex.specs.Tokens.{Spot, Stuck, IsOnlyFault}
use Rattle.c_lex.specs.inner.Reading.{To, spot_of, step_of}
use Rattle.c_lex.proofs.Left.{goes-left}
use Rattle.c_lex.proofs.OneReading.{Found, are_only, is_only_fault, unless, goes, found-gap, found-token, found-end, found-fault}
use Rattle.c_lex.proofs.TokenFacts.{in_place, noted, few}
use Rattle.c_lex.proofs.lex.tokens.Goals as goal

pub returns-in-End-clause-found : goal.returns-in-End-clause-found
returns-in-End-clause-found c = found-end _ (spot_of c.lexing.place) _ c.in-End.ensures.value c.lexing.invariant.found

pub returns-in-End-clause-only : goal.returns-in-End-clause-only
returns-in-End-clause-only c = are_only _ _ (found-end _ (spot_of c.lexing.place) _ c.in-End.ensures.value c.lexing.invariant.found)

pub returns-in-End-clause-in_place : goal.returns-in-End-clause-in_place
returns-in-End-clause-in_place c = in_place _ _ (found-end _ (spot_of c.lexing.place) _ c.in-End.ensures.value c.lexing.invariant.found)

pub returns-in-End-clause-noted : goal.returns-in-End-clause-noted
returns-in-End-clause-noted c = noted _ _ (found-end _ (spot_of c.lexing.place) _ c.in-End.ensures.value c.lexing.invariant.found)

pub returns-in-End-clause-few : goal.returns-in-End-clause-few
returns-in-End-clause-few c =
    let found = found-end _ (spot_of c.lexing.place) _ c.in-End.ensures.value c.lexing.invariant.found in
    few _ _ (in_place _ _ found) (noted _ _ found)

pub lexing-smaller-in-Gap : goal.lexing-smaller-in-Gap
lexing-smaller-in-Gap c =
    let s : Spot = spot_of c.lexing.place in
    let e : Spot = spot_of c.in-Gap.next in
    let i : To None e ≡ step_of s = c.in-Gap.ensures.value in goes-left s None e (goes s None e i)

pub lexing-preserved-in-Gap : goal.lexing-preserved-in-Gap
lexing-preserved-in-Gap c =
    let s : Spot = spot_of c.lexing.place in
    let e : Spot = spot_of c.in-Gap.next in
    let i : To None e ≡ step_of s = c.in-Gap.ensures.value in
    record { room = c.in-Gap.ensures.room; found = found-gap _ s e _ i c.lexing.invariant.found }

pub lexing-smaller : goal.lexing-smaller
lexing-smaller c =
    let s : Spot = spot_of c.lexing.place in
    let e : Spot = spot_of c.in-Token.next in
    let t : Token = c.in-Token.token in
    let i : To (Some t) e ≡ step_of s = c.in-Token.ensures.value in goes-left s (Some t) e (goes s (Some t) e i)

pub lexing-preserved : goal.lexing-preserved
lexing-preserved c =
    let s : Spot = spot_of c.lexing.place in
    let e : Spot = spot_of c.in-Token.next in
    let t : Token = c.in-Token.token in
    let i : To (Some t) e ≡ step_of s = c.in-Token.ensures.value in
    record {
      room = c.in-Token.ensures.room;
      found = subst (λ (ts : List Token). Found c.args.bytes.now e ts) (sym c.in_ok-push-in-Token.ensures.ok) (found-token _ s e t _ i c.lexing.invariant.found);
    }

pub returns-in-Stuck-clause-fault : goal.returns-in-Stuck-clause-fault
returns-in-Stuck-clause-fault c = unless (Stuck c.args.bytes.now) _ (found-fault _ (spot_of c.lexing.place) _ _ c.in-Stuck.ensures.value c.lexing.invariant.found)

pub returns-in-Stuck-clause-only_fault : goal.returns-in-Stuck-clause-only_fault
returns-in-Stuck-clause-only_fault c =
    unless (IsOnlyFault c.args.bytes.now) _ (is_only_fault _ _ (found-fault _ (spot_of c.lexing.place) _ _ c.in-Stuck.ensures.value c.lexing.invariant.found))
